-- What is seen of a port, of one that is finished and of the main part, and what a port's calls
-- answer.
use Rattle.std.specs.Prelude.{◌≡◌, ℕ, ◌+◌, ◌-◌, ◌<◌, ◌≤◌, Bool, true, false, List, [], ◌∷◌, ◌++◌, length, replicate, slice_index_or, Result, IfOk, OnErr}
use Rattle.atomic_table.specs.Seated.{TableId}
use Rattle.fsw_base.specs.declared.config.Budget.{Budget}
use Rattle.fsw_base.specs.declared.statuses.SbStatus.{SbStatus}
use Rattle.journal_store.specs.declared.allowance.Allowance.{Allowance}
use Rattle.lend_block.specs.Loan.{LentBytes}
use Rattle.buf_desc.specs.Held.{Holding, bytes_at}
use Rattle.bus_words.specs.declared.calls.BusAnswer.{BusAnswer}
use Rattle.bus_words.specs.declared.history.Call.{Call}
use Rattle.bus_words.specs.declared.history.Call.TheVariants.{Allocate, Look}
use Rattle.bus_words.specs.declared.history.Entry.{Entry}
use Rattle.bus_words.specs.Log.{left_of}
use Rattle.sb_calls.specs.declared.results.Pended.{Pended}
use Rattle.sb_calls.specs.declared.results.Pended.TheVariants.{Pending}
use Rattle.sb_calls.specs.Answers.{waited}
use Rattle.bus_core.specs.Bags.{KeepsBuffers}
use Rattle.sb_calls.specs.Core.{Core, Does, Looks, StandAlone}
use Rattle.sb_calls.specs.Bags.{HasBag, CalledByOthers, AreOneLoan}
use Rattle.core_port.specs.Ports as ports
use Rattle.bus_service.specs.Words.{bus}

-- A port, as core_port shows one, with what its application holds.
pub record PortView : Type 0 where
  pub lock : TableId
  pub app : ℕ
  pub seen : Core
  pub mine : List Entry
  pub bag : Holding LentBytes

-- A finished port, without its bag.
abbrev pub DoneView : Type 0
DoneView = ports.PortView Core Entry

-- The main part, as core_port shows it.
abbrev pub MainView : Type 0
MainView = ports.MainView Core Entry

-- Own entries. --

-- what the budgets leave behind these entries alone
abbrev pub left_by : Core → List Entry → List Allowance
left_by core mine = left_of (record { budgets = core.log.budgets; entries = mine })

-- how many buffers the application's budget allows
abbrev pub buffers_for : List Budget → ℕ → ℕ
buffers_for budgets app =
    (slice_index_or budgets (app - 1) (record { entries = 0; bytes = 0; buffers = 0 })).buffers

-- a call that asks for a buffer finds room for it in the bag
abbrev pub FindsRoom : Holding LentBytes → Call → Type 0
FindsRoom bag (Allocate size) = length bag.buffers < bag.buffer_room
FindsRoom bag call = Unit {0}

-- whether a call is a look, which an application makes while it waits
abbrev pub is_look : Call → Bool
is_look (Look pipe) = true
is_look call = false

-- Buffers. --

-- a request for a buffer leaves one of so many zeros in the bag, or the bag as it was; the others
-- have their bytes
abbrev pub Adds : ℕ → Holding LentBytes → Holding LentBytes → Result ℕ SbStatus → Type 0
Adds size old new told =
    IfOk told (λ number. bytes_at new number ≡ replicate size 0) ×
    IfOk told (KeepsBuffers old new) × (length new.buffers ≤ length old.buffers + 1)
    × (new ≡ record old { buffers = new.buffers }) × OnErr told (new ≡ old)

-- a buffer leaves the bag, or the bag is as it was; the others have their bytes
abbrev pub Takes : {T : Type 0} → ℕ → Holding LentBytes → Holding LentBytes → Result T SbStatus →
    Type 0
Takes buf old new told =
    KeepsBuffers old new buf × (length new.buffers ≤ length old.buffers) ×
    (new ≡ record old { buffers = new.buffers }) × OnErr told (new ≡ old)

-- Answers. --

-- The call was made after the history that the port had seen and entries of others alone, and was
-- answered as the bus answers it there. Its entry is the last that the port has seen now, and the
-- last of its own; the bag is the application's again.
pub record Answers (old new : PortView) (call : Call) (answer : BusAnswer) : Type 0 where
  pub between : Core
  pub others : CalledByOthers old.seen between old.app
  pub does : Does between new.seen old.app call answer
  pub mine : new.mine ≡ old.mine ++ record { app = old.app; call = call; answer = answer } ∷ []
  pub bag : HasBag new.seen old.app new.bag
  pub alone : StandAlone new.seen
  pub loans : AreOneLoan new.seen
  pub lock : new.lock ≡ old.lock
  pub app : new.app ≡ old.app

-- the entry of a look; one in vain makes none
abbrev pub look_entries : ℕ → ℕ → Pended → List Entry
look_entries app pipe Pending = []
look_entries app pipe told = record { app = app; call = Look pipe; answer = waited told } ∷ []

-- The same for a look. One in vain came behind entries of others alone, and what it found is what
-- the port has seen now.
pub record AnswersLook (old new : PortView) (pipe : ℕ) (told : Pended) : Type 0 where
  pub between : Core
  pub others : CalledByOthers old.seen between old.app
  pub does : Looks between new.seen old.app pipe told
  pub mine : new.mine ≡ old.mine ++ look_entries old.app pipe told
  pub bag : HasBag new.seen old.app new.bag
  pub alone : StandAlone new.seen
  pub loans : AreOneLoan new.seen
  pub lock : new.lock ≡ old.lock
  pub app : new.app ≡ old.app

-- Joins and the close. --

-- core_port's, for the bus
abbrev pub Begins : Core → Core → Type 0
Begins = ports.Begins bus

-- core_port's, for the bus
abbrev pub with_history : Core → Core → Core
with_history = ports.with_history bus

-- core_port's, for the bus
abbrev pub KeepsLongerOf : Core → Core → Core → Type 0
KeepsLongerOf = ports.KeepsLongerOf bus
