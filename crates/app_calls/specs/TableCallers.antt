-- What an application's calls of the tables need and leave.
use Rattle.std.specs.Prelude.{◌≡◌, ◌⊎◌, false, true}
use Rattle.tbl_words.specs.declared.calls.TblAnswer.{TblAnswer}
use Rattle.tbl_words.specs.declared.history.Call.{Call}
use Rattle.tbl_load.specs.Bags.{HasBag, CalledByOthers}
use Rattle.tbl_words.specs.Tables.{has_ended}
use Rattle.tbl_load.specs.Core.{Core, MayCall, Does, state_of}
use Rattle.app_calls.specs.Callers.{Caller, SameServices}

-- the bag of the tables is the application's
abbrev pub HasOwnTables : Caller → Type 0
HasOwnTables caller = HasBag caller.tables caller.app caller.held

-- These are the tables that the application's next call meets: those last seen; or, if the calls
-- aren't alone, those with entries of others.
abbrev pub MeetsTables : Caller → Core → Type 0
MeetsTables caller now =
    (now ≡ caller.tables) ⊎ ((caller.alone ≡ false) × CalledByOthers caller.tables now caller.app)

-- the application may make this call now, with its own bag
pub record MayCallTables (caller : Caller) (call : Call) : Type 0 where
  pub may : MayCall caller.tables caller.app call
  pub bag : HasOwnTables caller

-- the application has ended at the tables
abbrev pub HasEndedAtTables : Caller → Type 0
HasEndedAtTables caller = has_ended (state_of caller.tables) caller.app ≡ true

-- the bus is as it was, and so is the application's bag there
pub record KeepsBus (old new : Caller) : Type 0 where
  pub core : new.core ≡ old.core
  pub bag : new.bag ≡ old.bag

-- The call was answered as the tables that it met answer it. Its entry is the last of the history,
-- the bag is still the application's, and the bus is unchanged.
pub record TablesAnswer (old new : Caller) (call : Call) (answer : TblAnswer) : Type 0 where
  pub now : Core
  pub meets : MeetsTables old now
  pub does : Does now new.tables old.app call answer
  pub bag : HasOwnTables new
  pub others : KeepsBus old new
  pub same : SameServices old new
