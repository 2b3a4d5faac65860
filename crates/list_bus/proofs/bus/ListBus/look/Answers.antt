use Rattle.std.proofs.Common.{refl, sym, ap, ◌∙◌}
use Rattle.bus_words.specs.declared.history.Call.TheVariants.{Look}
use Rattle.bus_words.specs.Machine.{pended_answer}
use Rattle.list_bus.specs.Played.{Played}
use Rattle.list_bus.proofs.DecidedCalls.{decides_still, decides, limits_with}
use Rattle.list_bus.proofs.ReceiveCalls.{waits, still_waits, looked_made}
use Rattle.list_bus.proofs.bus.ListBus.look.Goals as goal

pub returns-then-must_wait : goal.returns-then-must_wait
returns-then-must_wait c =
    let now = c.args.self.now in
    decides_still now c.args.app (Look c.args.pipe) c.pended_answer-answer.result
    (still_waits now c.args.app c.args.pipe (sym c.must_wait.ensures ∙ c.if-must_wait.true) ∙ ap (λ x. (x, now.whole)) (sym c.pended_answer-answer.ensures)) c.requires

pub returns : goal.returns
returns c =
    let a = c.self.inside in
    let now = c.args.self.now in
    let app = c.args.app in
    let pipe = c.args.pipe in
    let m = c.receive.new.self in
    let st = c.set_standing.new.standings in
    let is = c.in_ok-receive.ensures in
    let answers = c.pended_answer-answer.ensures ∙ sym (ap (λ (p : Played). pended_answer p.whole.bus app pipe) c.self.view_is) in
    let musts = c.must_wait.ensures ∙ sym (ap (λ (p : Played). waits p app pipe) c.self.view_is) in
    decides a (record a { messages = m; standings = st }) now c.self.view_is app (Look pipe) (ap (limits_with a) is.after) refl refl is.kept _
    (looked_made a m app pipe is.after c.pended_answer-answer.result c.must_wait.result _ answers musts c.if-must_wait.false c.set_standing.ensures)
