-- One pipe further.
use Rattle.std.proofs.Common.{◌<◌, length, set, ap, cond, eqb, [], ◌∙◌, arith}
use Rattle.std.proofs.lemmas.List.{length-set}
use Rattle.std.proofs.lemmas.List.Edits.{map_over_more}
use Rattle.bus_words.specs.Bus.{Pipe, offered}
use Rattle.list_pipes.specs.Leaving.{dropped_on, joined_on}
use Rattle.list_pipes.proofs.Places.{left_more, sum_left_more, still}
use Rattle.list_pipes.proofs.pipes.offer_to.Goals as goal

pub loop-place-preserved : goal.loop-place-preserved
loop-place-preserved c =
    let xs = c.args.pipes.now.items in
    let ys = c.loop-place.pipes.items in
    let i = c.loop-place.place in
    let at = c.loop-place.invariant in
    let sending = c.args.sending.now in
    let sub = c.args.sub.now in
    let f : Pipe → Pipe = λ p. cond (eqb p.number sub.pipe) (offered sending sub p) p in
    let within : i < length xs = omega (arith, at.long) in
    record {
      done = ap (set ys i) c.in_ok-joined.ensures.pipe ∙ map_over_more f xs ys i _ within at.done c.index_mut.ensures.value;
      long = length-set ys i c.offer_if.new.self ∙ at.long;
      gone = left_more (λ (p : Pipe). cond (eqb p.number sub.pipe) (dropped_on sending sub p) []) xs i _ _ _ _ within (c.index_mut.ensures.value ∙ still f xs ys i _ within at.done) c.in_ok-joined.ensures.gone at.gone;
      joined = sum_left_more (λ (p : Pipe). cond (eqb p.number sub.pipe) (joined_on sending sub p) 0) xs i _ _ _ _ within (c.index_mut.ensures.value ∙ still f xs ys i _ within at.done) c.in_ok-joined.ensures.joined at.joined;
      few = omega (arith, at.few, c.in_ok-joined.ensures.few);
    }
