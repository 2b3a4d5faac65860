-- What is seen of a port, of one that is finished and of the main part, and what a port's calls
-- answer.
use Rattle.std.specs.Prelude.{◌≡◌, ℕ, ◌==◌, false, List, [], ◌∷◌, ◌++◌, filter}
use Rattle.atomic_table.specs.Seated.{TableId}
use Rattle.journal_store.specs.declared.allowance.Allowance.{Allowance}
use Rattle.tbl_words.specs.declared.calls.TblAnswer.{TblAnswer}
use Rattle.tbl_words.specs.declared.history.Call.{Call}
use Rattle.tbl_words.specs.declared.history.Entry.{Entry}
use Rattle.tbl_words.specs.Log.{left_of}
use Rattle.table_blocks.specs.Held.{HeldViews, held_at}
use Rattle.tbl_load.specs.Core.{Core, Does}
use Rattle.tbl_load.specs.Bags.{HasBag, CalledByOthers, AreOneLoan}
use Rattle.core_port.specs.Ports as ports
use Rattle.tbl_service.specs.Words.{tables}

-- A port, as core_port shows one, with what its application holds.
pub record PortView : Type 0 where
  pub lock : TableId
  pub app : ℕ
  pub seen : Core
  pub mine : List Entry
  pub bag : HeldViews

-- A finished port, without its bag.
abbrev pub DoneView : Type 0
DoneView = ports.PortView Core Entry

-- The main part, as core_port shows it.
abbrev pub MainView : Type 0
MainView = ports.MainView Core Entry

-- Own entries. --

-- one application's entries, in order
abbrev pub own_entries : ℕ → List Entry → List Entry
own_entries app entries = filter (λ e. e.app == app) entries

-- what the budgets leave behind these entries alone
abbrev pub left_by : Core → List Entry → List Allowance
left_by core mine = left_of (record { budgets = core.log.budgets; entries = mine })

-- Answers. --

-- The call was made after the history that the port had seen and entries of others alone, and was
-- answered as the tables answer it there. Its entry is the last that the port has seen now, and the
-- last of its own; the bag is the application's again.
pub record Answers (old new : PortView) (call : Call) (answer : TblAnswer) : Type 0 where
  pub between : Core
  pub others : CalledByOthers old.seen between old.app
  pub does : Does between new.seen old.app call answer
  pub mine : new.mine ≡ old.mine ++ record { app = old.app; call = call; answer = answer } ∷ []
  pub bag : HasBag new.seen old.app new.bag
  pub loans : AreOneLoan new.seen
  pub lock : new.lock ≡ old.lock
  pub app : new.app ≡ old.app

-- what is held for other handles than this one stays
abbrev pub KeepsOthers : ℕ → HeldViews → HeldViews → Type 0
KeepsOthers handle old new =
    (other : ℕ) → (handle == other) ≡ false → held_at new other ≡ held_at old other

-- Joins and the close. --

-- core_port's, for the tables
abbrev pub Begins : Core → Core → Type 0
Begins = ports.Begins tables

-- core_port's, for the tables
abbrev pub KeepsLongerOf : Core → Core → Core → Type 0
KeepsLongerOf = ports.KeepsLongerOf tables
