use Rattle.std.proofs.Common.{sym, ap, ◌∙◌}
use Rattle.bus_words.specs.declared.calls.BusAnswer.TheVariants.{Name}
use Rattle.bus_words.specs.declared.history.Call.TheVariants.{PipeName}
use Rattle.bus_words.specs.Pipes.{pipe_at}
use Rattle.list_bus.specs.Played.{Played}
use Rattle.list_bus.proofs.DecidedCalls.{decides_still}
use Rattle.list_bus.proofs.PipeNames.{name_made, nameless_made}
use Rattle.list_bus.proofs.bus.ListBus.pipe_name.Goals as goal

pub returns-in-Some : goal.returns-in-Some
returns-in-Some c =
    let now = c.args.self.now in
    let is = sym (ap (λ pipes. pipe_at pipes c.args.pipe) (c.pipes.ensures ∙ ap (λ (p : Played). p.whole.bus.pipes) c.self.view_is)) ∙ c.in-Some.ensures in
    decides_still now c.args.app (PipeName c.args.pipe) (Name c.again.result)
    (name_made now c.args.app c.args.pipe c.in-Some.pipe.now is ∙ ap (λ name. (Name name, now.whole)) (sym (c.again.ensures ∙ c.name.ensures))) c.requires

pub returns-in-None : goal.returns-in-None
returns-in-None c =
    let now = c.args.self.now in
    let is = sym (ap (λ pipes. pipe_at pipes c.args.pipe) (c.pipes.ensures ∙ ap (λ (p : Played). p.whole.bus.pipes) c.self.view_is)) ∙ c.in-None.ensures in
    decides_still now c.args.app (PipeName c.args.pipe) _ (nameless_made now c.args.app c.args.pipe is) c.requires
