-- What an application has in its bag of what its handles hold, said of the history, its notes and
-- the bag.
use Rattle.std.specs.Prelude.{◌≡◌, ◌≢◌, ℕ, ◌==◌, ◌++◌, All, List, map, Option, None, if◌then◌else◌}
use Rattle.std.specs.Option.{option_map, option_and_then}
use Rattle.lend_block.specs.declared.note.Note.{Note}
use Rattle.tbl_words.specs.declared.history.Entry.{Entry}
use Rattle.tbl_words.specs.Tables.{State, handle_at}
use Rattle.table_blocks.specs.Held.{HeldViews, held_at}
use Rattle.table_core.specs.Core.{Lent, Plain, Holds, HoldsVersion}
use Rattle.tbl_load.specs.Core.{Core, IsLegalCore, IsNoted, state_of}
use Rattle.tbl_load.specs.Notes.{AreDue, noted}

-- of each live handle, the loan that was noted of it
abbrev pub loans_of : Core → List Lent
loans_of core =
    map (λ h. record { handle = h.number; loan = noted h.number core.log.entries core.notes })
    (state_of core).handles

-- the tables after the history, with these loans
abbrev pub lent_tables : Core → Plain
lent_tables core = record { limits = core.limits; state = state_of core; lent = loans_of core }

-- the bag has a view of what each of the application's handles holds, by the loan that was noted,
-- and no other view
abbrev pub HasBag : Core → ℕ → HeldViews → Type 0
HasBag core app bag = Holds (lent_tables core) app bag

-- the bag of every application stays one
abbrev pub KeepsBags : Core → Core → Type 0
KeepsBags old new = (app : ℕ) (bag : HeldViews) → HasBag old app bag → HasBag new app bag

-- the bag of every other application stays one
abbrev pub KeepsOtherBags : Core → Core → ℕ → Type 0
KeepsOtherBags old new app =
    (other : ℕ) (bag : HeldViews) → other ≢ app → HasBag old other bag → HasBag new other bag

-- the bytes that the bag shows for a handle
abbrev pub bytes_seen : HeldViews → ℕ → Option (List ℕ)
bytes_seen bag number = option_map (λ view. view.bytes) (held_at bag number)

-- the bytes that the live handle of a number holds, if it is the application's
abbrev pub held_bytes : State → ℕ → ℕ → Option (List ℕ)
held_bytes s app number =
    option_and_then (λ h. if h.app == app then option_map (λ hold. hold.value) h.hold else None)
    (handle_at s.handles number)

-- handles that hold one version of one table have one loan noted, by which the bags of their
-- applications have it
abbrev pub AreOneLoan : Core → Type 0
AreOneLoan core =
    (number other table version : ℕ) → HoldsVersion (state_of core).handles number table version →
    HoldsVersion (state_of core).handles other table version →
    noted number core.log.entries core.notes ≡ noted other core.log.entries core.notes

-- what two handles hold of two tables, or of two versions of one, has two loans noted
abbrev pub AreTwoLoans : Core → ℕ → ℕ → Type 0
AreTwoLoans core number other =
    (table other_table version other_version : ℕ) →
    HoldsVersion (state_of core).handles number table version →
    HoldsVersion (state_of core).handles other other_table other_version →
    (table ≡ other_table → version ≢ other_version) →
    noted number core.log.entries core.notes ≢ noted other core.log.entries core.notes

-- Only others called meanwhile: their entries, each with the note that is due, stand behind those
-- that were there, and none of this application's own.
pub record CalledByOthers (old new : Core) (app : ℕ) : Type 0 where
  pub entries : List Entry
  pub notes : List Note
  pub by_others : All (λ entry. entry.app ≢ app) entries
  pub grown : new ≡
      record {
        limits = old.limits;
        log = record { budgets = old.log.budgets; entries = old.log.entries ++ entries };
        notes =
            old.notes ++ notes;
      }
  pub legal : IsLegalCore new
  pub before : IsNoted old
  pub noted : AreDue entries notes
