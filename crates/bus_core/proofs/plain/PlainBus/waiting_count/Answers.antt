use Rattle.std.proofs.Common.{ℕ, length, ap, ◌∙◌}
use Rattle.std.specs.Option.{option_map}
use Rattle.bus_words.specs.Bus.{Pipe, pipe_at}
use Rattle.bus_core.specs.Core.{Plain}
use Rattle.bus_core.proofs.plain.PlainBus.waiting_count.Goals as goal

pub returns : goal.returns
returns c =
    c.waiting_count.ensures
    ∙ ap (λ (o : Plain). option_map {U = ℕ} (λ (pipe : Pipe). length pipe.queue) (pipe_at o.whole.bus.pipes c.args.pipe)) c.self.view_is
