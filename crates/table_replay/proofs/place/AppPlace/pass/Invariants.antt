use Rattle.std.proofs.Common.{◌≡◌, ◌-◌, drop, length}
use Rattle.run_check.specs.TablePlaces.{passed_at_tables}
use Rattle.table_replay.proofs.place.AppPlace.pass.Given as goal

-- what it goes past from here on is what is left of it
abbrev pub invariant-loop-who : goal.invariant-loop-who
invariant-loop-who l =
    passed_at_tables l.who l.tables.state (drop l.self.place l.app.lines) l.self
    ≡ passed_at_tables l.who l.tables.state (drop l.initial.self.place l.app.lines) l.initial.self

abbrev pub decreases-loop-who : goal.decreases-loop-who
decreases-loop-who l = length l.app.lines - l.self.place
