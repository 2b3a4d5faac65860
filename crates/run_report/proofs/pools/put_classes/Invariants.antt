use Rattle.std.specs.List.{flat_map, range_with_len}
use Rattle.text_page.specs.Pieces.{Puts}
use Rattle.run_report.specs.CounterText.{class_text}
use Rattle.run_report.proofs.pools.put_classes.Given as goal

abbrev pub invariant-loop-class : goal.invariant-loop-class
invariant-loop-class g l =
    Puts l.initial.sink l.sink l.initial.page l.page (flat_map (class_text l.name (g.P.HasAccount.account l.pool)) (range_with_len 0 l.class))
