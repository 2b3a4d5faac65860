-- One pool further.
use Rattle.std.proofs.Common.{set, ap, ◌∙◌, arith}
use Rattle.std.proofs.lemmas.List.{length-set}
use Rattle.std.proofs.lemmas.List.Edits.{map_over_more}
use Rattle.fsw_base.specs.Grants.{after_end}
use Rattle.app_pools.proofs.Places.{cost_more}
use Rattle.app_pools.proofs.pools.end_all.Goals as goal

pub index_mut-requires : goal.index_mut-requires
index_mut-requires g c = omega (arith, c.requires, c.loop-place.invariant.long, c.loop-place-test.true, c.loop-place.places.ok.0)

pub loop-place-preserved : goal.loop-place-preserved
loop-place-preserved g c =
    let xs = c.args.places.now.items in
    let ys = c.loop-place.places.items in
    let i = c.loop-place.place in
    let at = c.loop-place.invariant in
    record {
      ended = ap (set ys i) c.end.ensures.after ∙ map_over_more (after_end c.args.app) xs ys i _ (omega (arith, c.requires, c.loop-place-test.true)) at.ended c.index_mut.ensures.value;
      long = length-set ys i c.end.new.self ∙ at.long;
      cost = cost_more c.args.app xs ys i c.args.steps.now c.loop-place.steps c.end.new.steps _ (omega (arith, c.requires, c.loop-place-test.true)) at.ended c.index_mut.ensures.value at.cost c.end.ensures.cost;
    }
