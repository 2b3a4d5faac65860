-- One pipe further.
use Rattle.std.proofs.Common.{set, ap, cond, eqb, ◌∙◌, arith}
use Rattle.std.proofs.lemmas.List.{length-set}
use Rattle.std.proofs.lemmas.List.Edits.{map_over_more}
use Rattle.bus_words.specs.Bus.{Pipe}
use Rattle.bus_words.specs.Pipes.{with_bits}
use Rattle.list_pipes.proofs.pipes.set_bits_of.Goals as goal

pub loop-place-preserved : goal.loop-place-preserved
loop-place-preserved c =
    let xs = c.args.pipes.now.items in
    let ys = c.loop-place.pipes.items in
    let i = c.loop-place.place in
    let at = c.loop-place.invariant in
    record {
      done = ap (set ys i) c.set_bits_if.ensures
          ∙ map_over_more (λ (p : Pipe). cond (eqb p.number c.args.number) (with_bits c.args.bits p) p) xs ys i _ (omega arith) at.done c.index_mut.ensures.value;
      long = length-set ys i c.set_bits_if.new.self ∙ at.long;
    }
