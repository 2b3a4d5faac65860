use Rattle.std.proofs.Common.{ap, sym, ◌∙◌, eqb, Option, Some, None, refl, ◌≡◌}
use Rattle.std.specs.Option.{is_some, option_map}
use Rattle.bus_words.specs.Pipes.{PipeOf, pipe_at}
use Rattle.pipe_queue.specs.declared.item.Item.{Item}
use Rattle.pipe_table.proofs.NumberedPipes.{any-find}
use Rattle.pipe_table.proofs.table.PipeTable.is_live.Goals as goal

same_some : (o : Option (PipeOf Item)) → is_some (option_map (λ pipe. pipe.bits) o) ≡ is_some o
same_some None = refl
same_some (Some pipe) = refl

pub returns : goal.returns
returns c =
    c.is_some.ensures ∙ ap is_some c.bits.ensures ∙ same_some (pipe_at c.args.self.now.live c.args.number)
    ∙ sym (any-find (λ (pipe : PipeOf Item). eqb pipe.number c.args.number) c.args.self.now.live)
