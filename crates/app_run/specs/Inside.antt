-- What a runner's fields stand for.
use Rattle.std.specs.Prelude.{ℕ, ◌+◌, ◌-◌, ◌≤◌, length, drop, All, Option, is_some, if◌then◌else◌}
use Rattle.app_script.specs.Ranges.{IsLineInRange}
use Rattle.app_script.specs.Script.{app_at}
use Rattle.app_run.specs.declared.runner.Runner.TheInside.{Inside}
use Rattle.app_run.specs.Lines.{made_size}
use Rattle.app_run.specs.Runners.{Progress}

-- the application's progress
abbrev pub progress_in : Inside → Progress
progress_in a = record {
  running =
      record {
        app = a.app;
        begun = a.next;
        lines = drop a.next (app_at a.script.now a.app).lines;
        registers = a.registers;
        handles = a.handles;
      };
  waits_on = a.waits_on;
  ended = a.ended;
  receipts = a.receipts.receipts;
}

-- how many receipts may still come: one of each line left, and one while it waits
abbrev pub receipts_to_come : ℕ → Option ℕ → ℕ
receipts_to_come lines waits_on = lines + (if is_some waits_on then 1 else 0)

-- The application is one of the script's; its lines are in range, and it has come to a place among
-- them; what its lines have made and its receipts have room.
pub record Keeps (a : Inside) : Type 0 where
  pub known : a.app ≤ length a.script.now.apps
  pub few : length (app_at a.script.now a.app).lines ≤ 20000
  pub place : a.next ≤ length (app_at a.script.now a.app).lines
  pub ranges : All IsLineInRange (app_at a.script.now a.app).lines
  pub made : All (λ line. made_size line ≤ length a.made.items) (app_at a.script.now a.app).lines
  pub room : receipts_to_come (length (app_at a.script.now a.app).lines - a.next) a.waits_on ≤
      a.receipts.room
