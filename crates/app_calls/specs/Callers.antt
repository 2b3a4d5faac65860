-- Who calls: an application with its bags, and the services that it calls; and what its calls of
-- the bus need and leave.
use base.Fml.{GName}
use Rattle.std.specs.Prelude.{◌≡◌, ℕ, ◌+◌, ◌<◌, ◌≤◌, ◌⊎◌, Bool, false, length}
use Rattle.std.specs.Option.{option_map}
use Rattle.lend_block.specs.Loan.{LentBytes}
use Rattle.buf_desc.specs.Held.{Holding, buffer_at}
use Rattle.bus_words.specs.declared.calls.BusAnswer.{BusAnswer}
use Rattle.bus_words.specs.declared.history.Call.{Call}
use Rattle.bus_words.specs.declared.history.Call.TheVariants.{Look, Allocate}
use Rattle.bus_words.specs.Bus.{standing_of, waited_on}
use Rattle.sb_calls.specs.declared.results.Pended.{Pended}
use Rattle.sb_calls.specs.Answers.{waited}
use Rattle.sb_calls.specs.Bags.{HasBag, CalledByOthers}
use Rattle.sb_calls.specs.Core.{Core, MayCall, Does, Looks, state_of}
use Rattle.table_blocks.specs.Held.{HeldViews}
use Rattle.tbl_load.specs.Core.{Core as TableCore}
use Rattle.script_runs.specs.Written.{Written, written_after}

-- Which services and which bags these are.
pub record Names : Type 0 where
  pub bus : GName
  pub bag : GName
  pub tables : GName
  pub held : GName

-- An application's calls: the application; the bus as they saw it last, and the application's bag
-- there; the tables as they saw them last, and its bag there; which services and bags these are;
-- and whether nobody else calls them in between.
pub record Caller : Type 0 where
  pub app : ℕ
  pub core : Core
  pub bag : Holding LentBytes
  pub tables : TableCore
  pub held : HeldViews
  pub names : Names
  pub alone : Bool

-- the bag of the bus is the application's
abbrev pub HasOwnBag : Caller → Type 0
HasOwnBag caller = HasBag caller.core caller.app caller.bag

-- This is the bus that the application's next call meets: the one last seen; or, if the calls
-- aren't alone, that one with entries of others.
abbrev pub Meets : Caller → Core → Type 0
Meets caller now =
    (now ≡ caller.core) ⊎ ((caller.alone ≡ false) × CalledByOthers caller.core now caller.app)

-- the bytes of the bag's unsent buffers, by their numbers
abbrev pub written_in : Holding LentBytes → Written
written_in bag = λ number. option_map (λ block. block.bytes) (buffer_at bag number)

-- how many buffers a call asks for
abbrev pub buffers_asked : Call → ℕ
buffers_asked (Allocate size) = 1
buffers_asked call = 0

-- a call that asks for a buffer finds room for it in the bag
abbrev pub FindsRoom : Holding LentBytes → Call → Type 0
FindsRoom bag (Allocate size) = length bag.buffers < bag.buffer_room
FindsRoom bag call = Unit {0}

-- the application may make this call now, with its own bag
pub record MayCallBus (caller : Caller) (call : Call) : Type 0 where
  pub may : MayCall caller.core caller.app call
  pub bag : HasOwnBag caller
  pub room : FindsRoom caller.bag call

-- the application may write into the buffers of its own bag, none of which is longer than a packet
-- can be
pub record MayWrite (caller : Caller) : Type 0 where
  pub bag : HasOwnBag caller
  pub small : caller.core.limits.msgmax ≤ 65542

-- the same application's calls with the same bags, on the same services, as much alone as before
pub record SameServices (old new : Caller) : Type 0 where
  pub app : new.app ≡ old.app
  pub names : new.names ≡ old.names
  pub alone : new.alone ≡ old.alone

-- the tables are as they were, and so is the application's bag there
pub record KeepsTables (old new : Caller) : Type 0 where
  pub tables : new.tables ≡ old.tables
  pub held : new.held ≡ old.held

-- A call so answered left the bag with these buffers: a new one is zeros, one that was sent or
-- given back is gone, and all others have the bytes that they had.
pub record LeavesBuffers (old new : Holding LentBytes) (call : Call)
    (answer : BusAnswer) : Type 0 where
  pub written : (number : ℕ) →
      written_in new number ≡ written_after (written_in old) call answer number
  pub count : length new.buffers ≤ length old.buffers + buffers_asked call
  pub room : new.buffer_room ≡ old.buffer_room

-- The call was answered as the bus that it met answers it. Its entry is the last of the history,
-- the bag is still the application's, and the tables are unchanged.
pub record Answers (old new : Caller) (call : Call) (answer : BusAnswer) : Type 0 where
  pub now : Core
  pub meets : Meets old now
  pub does : Does now new.core old.app call answer
  pub bag : HasOwnBag new
  pub buffers : LeavesBuffers old.bag new.bag call answer
  pub others : KeepsTables old new
  pub same : SameServices old new

-- The same for a look, which makes no entry if the application still waits.
pub record AnswersLook (old new : Caller) (pipe : ℕ) (answer : Pended) : Type 0 where
  pub now : Core
  pub meets : Meets old now
  pub does : Looks now new.core old.app pipe answer
  pub bag : HasOwnBag new
  pub buffers : LeavesBuffers old.bag new.bag (Look pipe) (waited answer)
  pub others : KeepsTables old new
  pub same : SameServices old new

-- the pipe that the application waits on
abbrev pub pipe_waited_on : Caller → ℕ
pipe_waited_on caller = waited_on (standing_of (state_of caller.core) caller.app)

-- Bytes were written into the bag's buffers, which have these now. No call was made.
pub record Writes (old new : Caller) (left : Written) : Type 0 where
  pub core : new.core ≡ old.core
  pub bag : HasOwnBag new
  pub written : (number : ℕ) → written_in new.bag number ≡ left number
  pub count : length new.bag.buffers ≡ length old.bag.buffers
  pub room : new.bag.buffer_room ≡ old.bag.buffer_room
  pub others : KeepsTables old new
  pub same : SameServices old new
