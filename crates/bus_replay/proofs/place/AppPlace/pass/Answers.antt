use Rattle.std.proofs.Common.{rules, drop, ap, sym, ◌∙◌}
use Rattle.run_check.specs.Places.{passed}
use Rattle.bus_replay.specs.Places.{place_of}
use Rattle.bus_replay.proofs.Nexts.{unseen_first, unseen_last}
use Rattle.bus_replay.proofs.place.AppPlace.pass.Goals as goal

pub loop-alloc-preserved : goal.loop-alloc-preserved
loop-alloc-preserved c =
    ap (λ q. passed c.args.who c.args.bus.now.whole.bus (drop q.place c.args.app.now.lines) q) c.in_ok-pass_line.ensures
    ∙ unseen_first c.args.who c.args.bus.now.whole.bus c.args.app.now.lines c.line.result.now (place_of c.loop-alloc.self)
    (sym c.is_before_unseen.ensures.unseen ∙ c.loop-alloc-test.true) (search rules)
    ∙ c.loop-alloc.invariant

pub returns : goal.returns
returns c =
    unseen_last c.args.who c.args.bus.now.whole.bus c.args.app.now.lines (place_of c.loop-alloc.self) (sym c.is_before_unseen.ensures.unseen ∙ c.loop-alloc-test.false)
    ∙ c.loop-alloc.invariant
