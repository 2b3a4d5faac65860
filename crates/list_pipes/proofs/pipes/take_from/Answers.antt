-- One pipe further.
use Rattle.std.proofs.Common.{◌<◌, length, set, ap, cond, eqb, [], ◌∙◌, arith}
use Rattle.std.proofs.lemmas.List.{length-set}
use Rattle.std.proofs.lemmas.List.Edits.{map_over_more}
use Rattle.bus_words.specs.Bus.{Pipe}
use Rattle.bus_words.specs.Pipes.{after_receive}
use Rattle.list_pipes.specs.Leaving.{number_in}
use Rattle.list_pipes.proofs.Places.{left_more, still}
use Rattle.list_pipes.proofs.pipes.take_from.Goals as goal

pub loop-place-preserved : goal.loop-place-preserved
loop-place-preserved c =
    let xs = c.args.pipes.now.items in
    let ys = c.loop-place.pipes.items in
    let i = c.loop-place.place in
    let at = c.loop-place.invariant in
    let f : Pipe → Pipe = λ p. cond (eqb p.number c.args.number) (after_receive p) p in
    let within : i < length xs = omega (arith, at.long) in
    record {
      done = ap (set ys i) c.in_ok-take_if.ensures.pipe ∙ map_over_more f xs ys i _ within at.done c.index_mut.ensures.value;
      long = length-set ys i c.take_if.new.self ∙ at.long;
      gone = left_more (λ (p : Pipe). cond (eqb p.number c.args.number) (number_in p.last) []) xs i _ _ _ _ within (c.index_mut.ensures.value ∙ still f xs ys i _ within at.done) c.in_ok-take_if.ensures.gone at.gone;
    }
