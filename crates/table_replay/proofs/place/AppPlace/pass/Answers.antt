use Rattle.std.proofs.Common.{rules, drop, ap, sym, ◌∙◌}
use Rattle.run_check.specs.TablePlaces.{passed_at_tables}
use Rattle.table_replay.proofs.Nexts.{unseen_first, unseen_last}
use Rattle.table_replay.proofs.place.AppPlace.pass.Goals as goal

pub loop-who-preserved : goal.loop-who-preserved
loop-who-preserved c =
    ap (λ q. passed_at_tables c.args.who c.args.tables.now.state (drop q.place c.args.app.now.lines) q) c.in_ok-pass_line.ensures
    ∙ unseen_first c.args.who c.args.tables.now.state c.args.app.now.lines c.line.result.now c.loop-who.self
    (sym c.is_before_unseen.ensures.unseen ∙ c.loop-who-test.true) (search rules)
    ∙ c.loop-who.invariant

pub returns : goal.returns
returns c =
    unseen_last c.args.who c.args.tables.now.state c.args.app.now.lines c.loop-who.self (sym c.is_before_unseen.ensures.unseen ∙ c.loop-who-test.false)
    ∙ c.loop-who.invariant
