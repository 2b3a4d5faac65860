use Rattle.std.proofs.Common.{map, get_or, ap, sym, ◌∙◌, arith}
use Rattle.std.specs.Vec.{vec_capacity}
use Rattle.fsw_base.specs.Starts.{start_of}
use Rattle.routing.proofs.Numbers.{numbered_new}
use Rattle.routing.proofs.routes.Routes.new.Goals as goal

pub invariant_of-result : goal.invariant_of-result
invariant_of-result c = (
  numbered_new c.in_ok-numbers.numbers c.in_ok-ids.ids.items (vec_capacity c.in_ok-ids.ids) c.in_ok-counted.counted.items c.in_ok-lists.lists c.args.msgids c.args.dests
      c.in_ok-numbers.ensures c.in_ok-ids.ensures.items (omega (arith, c.in_ok-ids.ensures.capacity)) c.in_ok-counted.ensures c.in_ok-lists.ensures (omega arith),
  record {
    each = c.in_ok-firsts.ensures.items ∙ ap (map (start_of c.args.starts)) (sym c.in_ok-ids.ensures.items);
    small = λ route. omega (arith, ap (λ l. get_or l route 0) c.in_ok-firsts.ensures.items);
    capacity_all = omega (arith, c.in_ok-firsts.ensures.capacity);
  },
)
