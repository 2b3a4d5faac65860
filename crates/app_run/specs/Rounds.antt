-- All applications of a run.
use Rattle.std.specs.Prelude.{◌≡◌, ℕ, ◌+◌, ◌++◌, Bool, true, false, List, [], ◌∷◌, length, map, take, drop, All}
use Rattle.std.specs.List.{range_with_len}
use Rattle.lend_block.specs.Loan.{LentBytes}
use Rattle.buf_desc.specs.Held.{Holding}
use Rattle.bus_words.specs.declared.receipts.Receipt.{Receipt}
use Rattle.fsw_base.specs.Limits.{Limits}
use Rattle.bus_words.specs.Bus.{Standing, Active, Waiting, Ended, standing_of}
use Rattle.sb_calls.specs.Bags.{HasBag}
use Rattle.sb_calls.specs.Core.{Core, apps_of}
use Rattle.table_blocks.specs.Held.{HeldViews}
use Rattle.tbl_load.specs.Bags.{HasBag as HasTableBag}
use Rattle.tbl_load.specs.Core.{Core as TableCore, apps_of as table_apps_of}
use Rattle.script_lines.specs.declared.line.Line.{Line}
use Rattle.script_runs.specs.Histories.{Histories}
use Rattle.script_runs.specs.Rotation.{Running, SoFar, rotated, rotations}
use Rattle.app_script.specs.Script.{ScriptText}
use Rattle.script_runs.specs.Told.{Seen, Telling, seen_from, table_seen_from, receipts_of, receipts_told, told}
use Rattle.app_run.specs.Runners.{Services, Progress, Equipped, beginning, running_of, going}
use Rattle.app_run.specs.Turns.{so_far, IsUnderWay, TakesTurn}

-- the applications before the first rotation
abbrev pub all_beginning : ScriptText → List Progress
all_beginning script = map (beginning script) (range_with_len 1 (length script.apps))

-- applications, each with the bags in its place
abbrev pub equipped : List Progress → List (Holding LentBytes) → List HeldViews → List Equipped
equipped [] bags helds = []
equipped (progress ∷ others) [] helds = []
equipped (progress ∷ others) (bag ∷ bags) [] = []
equipped (progress ∷ others) (bag ∷ bags) (held ∷ helds) =
    record { progress = progress; bag = bag; held = held } ∷ equipped others bags helds

-- those that go on
abbrev pub all_going : List Equipped → List Running
all_going [] = []
all_going (one ∷ others) = going one ++ all_going others

-- applications count up, from this number
abbrev pub AreNumbered : ℕ → List Equipped → Type 0
AreNumbered number [] = Unit {0}
AreNumbered number (one ∷ others) =
    (one.progress.running.app ≡ number) × AreNumbered (number + 1) others

-- each application came so far by its own turns
pub record AllStand (services : Services) (all : List Equipped) : Type 0 where
  pub numbered : AreNumbered 1 all
  pub each : All (λ one. IsUnderWay one services) all

-- the bags of the bus are those of the applications, from this number on
abbrev pub AllHold : Core → ℕ → List (Holding LentBytes) → Type 0
AllHold core number [] = Unit {0}
AllHold core number (bag ∷ bags) = HasBag core number bag × AllHold core (number + 1) bags

-- and so are those of the tables
abbrev pub AllHoldTables : TableCore → ℕ → List HeldViews → Type 0
AllHoldTables core number [] = Unit {0}
AllHoldTables core number (held ∷ helds) =
    HasTableBag core number held × AllHoldTables core (number + 1) helds

-- each application has its bags
pub record AllEquipped (services : Services) (bags : List (Holding LentBytes))
    (helds : List HeldViews) : Type 0 where
  pub at_bus : AllHold services.bus 1 bags
  pub at_tables : AllHoldTables services.tables 1 helds

-- What is still to be told. --

-- where an application is in what it tells, with these entries to come
abbrev pub telling_now : Limits → SoFar → Running → Histories → Telling
telling_now limits sofar running entries = record {
  registers = running.registers;
  handles = running.handles;
  written = running.written;
  state = sofar.state;
  tables = sofar.tables;
  seen = seen_from limits sofar.history sofar.state running.app entries.bus;
  table_seen = table_seen_from limits sofar.tables running.app entries.tables;
}

-- of an application that waits: its look's receipts first
abbrev pub told_waiting : ℕ → List Line → List Seen → Telling → List Receipt
told_waiting app lines [] at = []
told_waiting app lines (look ∷ others) at =
    receipts_of app look ++ told app lines (record at { state = look.after; seen = others })

-- of an application in this standing: nothing more once it has ended
abbrev pub told_on : Standing → ℕ → List Line → Telling → List Receipt
told_on Active app lines at = told app lines at
told_on (Waiting pipe) app lines at = told_waiting app lines at.seen at
told_on Ended app lines at = []

-- of an application, with the entries to come
abbrev pub to_come : Limits → SoFar → Running → Histories → List Receipt
to_come limits sofar running entries =
    told_on (standing_of sofar.state running.app) running.app running.lines
    (telling_now limits sofar running entries)

-- the histories of both services, and these entries behind them
abbrev pub histories_with : Services → Histories → Histories
histories_with services entries = record {
  bus = services.bus.log.entries ++ entries.bus;
  tables = services.tables.log.entries ++ entries.tables;
}

-- The application's receipts so far are what it has told: whatever entries follow, its receipts in
-- all are these and those to come.
abbrev pub HasTold : ScriptText → Services → Equipped → Type 0
HasTold script services one =
    (entries : Histories) →
    receipts_told script (histories_with services entries) one.progress.running.app
    ≡ one.progress.receipts ++
    to_come services.bus.limits (so_far services) (running_of one) entries

-- the same of each application, on services for the script
pub record AllTold (script : ScriptText) (services : Services) (all : List Equipped) : Type 0 where
  pub limits : services.bus.limits ≡ script.limits
  pub apps : apps_of services.bus ≡ length script.apps
  pub table_apps : table_apps_of services.tables ≡ length script.apps
  pub each : All (λ one. HasTold script services one) all

-- One application took its turn, if it goes on.
abbrev pub StepsIf : Bool → Equipped → Equipped → Services → Services → Type 0
StepsIf true old new before after = (new ≡ old) × (after ≡ before)
StepsIf false old new before after = TakesTurn old new before after

abbrev pub MovesOn : Equipped → Equipped → Services → Services → Type 0
MovesOn old new before after = StepsIf old.progress.ended old new before after

-- the services are for the same applications, under the same limits
pub record AreSame (before after : Services) : Type 0 where
  pub limits : after.bus.limits ≡ before.bus.limits
  pub table_limits : after.tables.limits ≡ before.tables.limits
  pub apps : apps_of after.bus ≡ apps_of before.bus
  pub table_apps : table_apps_of after.tables ≡ table_apps_of before.tables

-- The first so many applications took their turns of one rotation.
pub record AreTurned (i : ℕ) (before : Services) (first : List Equipped) (after : Services)
    (all : List Equipped) : Type 0 where
  pub stand : AllStand after all
  pub turns :
      (let rest = rotated before.bus.limits (so_far after) (all_going (drop i all)) in
      (rest.0, all_going (take i all) ++ rest.1))
      ≡ rotated before.bus.limits (so_far before) (all_going first)
  pub told : (script : ScriptText) → AllTold script before first → AllTold script after all
  pub count : length all ≡ length first
  pub same : AreSame before after

-- All applications took their turns of one rotation.
pub record Rotates (before : Services) (first : List Equipped) (after : Services)
    (all : List Equipped) : Type 0 where
  pub stand : AllStand after all
  pub turns : (so_far after, all_going all) ≡
      rotated before.bus.limits (so_far before) (all_going first)
  pub told : (script : ScriptText) → AllTold script before first → AllTold script after all
  pub count : length all ≡ length first
  pub same : AreSame before after

-- All applications took their turns of so many rotations.
pub record RotatesTimes (times : ℕ) (before : Services) (first : List Equipped) (after : Services)
    (all : List Equipped) : Type 0 where
  pub stand : AllStand after all
  pub turns : (so_far after, all_going all) ≡
      rotations times before.bus.limits (so_far before, all_going first)
  pub told : (script : ScriptText) → AllTold script before first → AllTold script after all
  pub count : length all ≡ length first
  pub same : AreSame before after
