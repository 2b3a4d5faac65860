-- What an application has in its bag of the messages that it received and of the buffers that it
-- hasn't sent, said of the history, its notes and the bag.
use Rattle.std.specs.Prelude.{◌≡◌, ◌≢◌, ℕ, ◌++◌, All, List, map, Option, Some, None, if◌then◌else◌}
use Rattle.std.specs.Option.{option_map}
use Rattle.lend_block.specs.Loan.{LentBytes}
use Rattle.lend_block.specs.declared.note.Note.{Note}
use Rattle.buf_desc.specs.Held.{Holding}
use Rattle.bus_words.specs.declared.history.Entry.{Entry}
use Rattle.bus_words.specs.Bus.{Item, State, owns}
use Rattle.bus_words.specs.Held.{buffers_in}
use Rattle.bus_messages.specs.Bag.{HoldsViews, HoldsBuffers}
use Rattle.bus_messages.specs.Store.{LastLoan, BufferDesc}
use Rattle.bus_words.specs.Pipes.{last_on}
use Rattle.sb_calls.specs.Core.{Core, IsLegalCore, IsNoted, state_of}
use Rattle.sb_calls.specs.Notes.{AreDue, noted, noted_desc}

-- of each live pipe, the loan that was noted of it
abbrev pub loans_of : Core → List LastLoan
loans_of core =
    map (λ pipe.
    record { pipe = pipe.number; loan = noted pipe.number core.log.entries core.notes })
    (state_of core).pipes

-- of each unsent buffer, the descriptor that was noted of it
abbrev pub descs_of : Core → List BufferDesc
descs_of core =
    map (λ buffer.
    record { number = buffer.number; desc = noted_desc buffer.number core.log.entries core.notes })
    (buffers_in (state_of core).unsent)

-- the bag has a view of the last message of each of the application's pipes, by the loan that was
-- noted, and no other view; and the block of each buffer that the application hasn't sent, by the
-- descriptor that was noted, and no other block
pub record HasBag (core : Core) (app : ℕ) (bag : Holding LentBytes) : Type 0 where
  pub views : HoldsViews (state_of core).pipes (loans_of core) core.limits.pipes app bag
  pub buffers : HoldsBuffers (state_of core).unsent (descs_of core) core.limits.sizes app bag

-- the bag of every application stays one
abbrev pub KeepsBags : Core → Core → Type 0
KeepsBags old new = (app : ℕ) (bag : Holding LentBytes) → HasBag old app bag → HasBag new app bag

-- the bag of every other application stays one
abbrev pub KeepsOtherBags : Core → Core → ℕ → Type 0
KeepsOtherBags old new app =
    (other : ℕ) (bag : Holding LentBytes) → other ≢ app → HasBag old other bag →
    HasBag new other bag

-- the last message of an application's pipe, if the pipe is live and has one
abbrev pub last_message : State → ℕ → ℕ → Option (List ℕ)
last_message s app pipe =
    if owns s.pipes app pipe then option_map (λ item. item.message) (last_on s.pipes pipe) else None

-- pipes whose last messages are of one send have one loan noted, by which the bags of their
-- applications have it
abbrev pub AreOneLoan : Core → Type 0
AreOneLoan core =
    (pipe other : ℕ) (item its : Item) → last_on (state_of core).pipes pipe ≡ Some item →
    last_on (state_of core).pipes other ≡ Some its → item.number ≡ its.number →
    noted pipe core.log.entries core.notes ≡ noted other core.log.entries core.notes

-- Only others called meanwhile: their entries, each with the note that is due, stand behind those
-- that were there, and none of this application's own.
pub record CalledByOthers (old new : Core) (app : ℕ) : Type 0 where
  pub entries : List Entry
  pub notes : List Note
  pub by_others : All (λ entry. entry.app ≢ app) entries
  pub grown : new ≡
      record {
        limits = old.limits;
        log = record { budgets = old.log.budgets; entries = old.log.entries ++ entries };
        notes =
            old.notes ++ notes;
      }
  pub legal : IsLegalCore new
  pub before : IsNoted old
  pub noted : AreDue entries notes
