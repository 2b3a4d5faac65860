-- One pool further.
use Rattle.std.proofs.Common.{set, ap, ◌∙◌, arith}
use Rattle.std.proofs.lemmas.List.{length-set}
use Rattle.std.proofs.lemmas.List.Edits.{map_over_more}
use Rattle.fsw_base.specs.Grants.{after_end}
use Rattle.list_pool.proofs.pools.end_all.Goals as goal

pub loop-place-preserved : goal.loop-place-preserved
loop-place-preserved c =
    let xs = c.args.pools.now.items in
    let ys = c.loop-place.pools.items in
    let i = c.loop-place.place in
    let at = c.loop-place.invariant in
    record {
      ended = ap (set ys i) c.end.ensures ∙ map_over_more (after_end c.args.app) xs ys i _ (omega arith) at.ended c.index_mut.ensures.value;
      long = length-set ys i c.end.new.self ∙ at.long;
    }
