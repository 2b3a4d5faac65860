use Rattle.std.proofs.Common.{◌≡◌, ◌+◌, ◌%◌, ◌∙◌, length, get_or, ap, arith}
use Rattle.std.proofs.lemmas.List.{get_or_read, length-map}
use Rattle.std.specs.Vec.{vec_capacity}
use Rattle.routing.specs.Routing.{Routing, next_of}
use Rattle.fsw_base.specs.Starts.{start_of}
use Rattle.routing.proofs.Numbers.{route_inside, list_there, route_there, fewer_counts, numbered_count, count_after, counts_on, get_or-map_in}
use Rattle.routing.proofs.routes.Routes.next_count.Goals as goal

pub index-start-requires : goal.index-start-requires
index-start-requires c =
    let s = c.self.inside in
    let h = route_inside s.numbers s.ids.items (vec_capacity s.ids) s.counted.items s.dests s.msgids s.limit c.self.invariant.0 s.starts c.args.self.now c.self.view_is c.args.route c.requires in
    omega (arith, h, s.firsts.ok, ap (λ l. length l) c.self.invariant.1.each, length-map s.ids.items (start_of s.starts))

pub index-requires : goal.index-requires
index-requires c =
    let s = c.self.inside in
    let v = c.args.self.now in
    let h = route_inside s.numbers s.ids.items (vec_capacity s.ids) s.counted.items s.dests s.msgids s.limit c.self.invariant.0 s.starts c.args.self.now c.self.view_is c.args.route c.requires in
    let there = list_there s.numbers s.ids.items (vec_capacity s.ids) s.counted.items s.dests s.msgids s.limit c.self.invariant.0 s.starts c.args.self.now c.self.view_is c.args.route c.requires in
    omega (arith, h, s.counted.ok, fewer_counts s.numbers s.ids.items (vec_capacity s.ids) s.counted.items s.dests s.msgids s.limit c.self.invariant.0)

pub overflow_add-given : goal.overflow_add-given
overflow_add-given c =
    let s = c.self.inside in
    let v = c.args.self.now in
    let h = route_inside s.numbers s.ids.items (vec_capacity s.ids) s.counted.items s.dests s.msgids s.limit c.self.invariant.0 s.starts c.args.self.now c.self.view_is c.args.route c.requires in
    let there = list_there s.numbers s.ids.items (vec_capacity s.ids) s.counted.items s.dests s.msgids s.limit c.self.invariant.0 s.starts c.args.self.now c.self.view_is c.args.route c.requires in
    let count = get_or_read s.counted.items c.args.route c.index.result.now (omega (arith, h, fewer_counts s.numbers s.ids.items (vec_capacity s.ids) s.counted.items s.dests s.msgids s.limit c.self.invariant.0)) c.index.ensures 0 in
    omega (arith, count, c.self.invariant.0.fourteen c.args.route)

pub index_mut-requires : goal.index_mut-requires
index_mut-requires c =
    let s = c.self.inside in
    let v = c.args.self.now in
    let h = route_inside s.numbers s.ids.items (vec_capacity s.ids) s.counted.items s.dests s.msgids s.limit c.self.invariant.0 s.starts c.args.self.now c.self.view_is c.args.route c.requires in
    let there = list_there s.numbers s.ids.items (vec_capacity s.ids) s.counted.items s.dests s.msgids s.limit c.self.invariant.0 s.starts c.args.self.now c.self.view_is c.args.route c.requires in
    omega (arith, h, s.counted.ok, fewer_counts s.numbers s.ids.items (vec_capacity s.ids) s.counted.items s.dests s.msgids s.limit c.self.invariant.0)

pub invariant_of-self : goal.invariant_of-self
invariant_of-self c =
    let s = c.self.inside in
    let v = c.args.self.now in
    let h = route_inside s.numbers s.ids.items (vec_capacity s.ids) s.counted.items s.dests s.msgids s.limit c.self.invariant.0 s.starts c.args.self.now c.self.view_is c.args.route c.requires in
    let there = list_there s.numbers s.ids.items (vec_capacity s.ids) s.counted.items s.dests s.msgids s.limit c.self.invariant.0 s.starts c.args.self.now c.self.view_is c.args.route c.requires in
    (numbered_count s.numbers s.ids.items (vec_capacity s.ids) s.counted.items s.dests s.msgids s.limit c.self.invariant.0 c.args.route ((c.index.result.now + 1) % 16384) h (omega arith), c.self.invariant.1)

pub overflow_add-result : goal.overflow_add-result
overflow_add-result c =
    let s = c.self.inside in
    let h = route_inside s.numbers s.ids.items (vec_capacity s.ids) s.counted.items s.dests s.msgids s.limit c.self.invariant.0 s.starts c.args.self.now c.self.view_is c.args.route c.requires in
    let first = get_or_read s.firsts.items c.args.route c.index-start.result.now (omega (arith, h, ap (λ l. length l) c.self.invariant.1.each, length-map s.ids.items (start_of s.starts))) c.index-start.ensures 0 in
    omega (arith, first, c.self.invariant.1.small c.args.route)

pub returns-clause-count : goal.returns-clause-count
returns-clause-count c =
    let s = c.self.inside in
    let v = c.args.self.now in
    let h = route_inside s.numbers s.ids.items (vec_capacity s.ids) s.counted.items s.dests s.msgids s.limit c.self.invariant.0 s.starts c.args.self.now c.self.view_is c.args.route c.requires in
    let there = list_there s.numbers s.ids.items (vec_capacity s.ids) s.counted.items s.dests s.msgids s.limit c.self.invariant.0 s.starts c.args.self.now c.self.view_is c.args.route c.requires in
    let count = get_or_read s.counted.items c.args.route c.index.result.now (omega (arith, h, fewer_counts s.numbers s.ids.items (vec_capacity s.ids) s.counted.items s.dests s.msgids s.limit c.self.invariant.0)) c.index.ensures 0 in
    let starts : c.index-start.result.now ≡ start_of s.starts (get_or s.ids.items c.args.route 0) =
    get_or_read s.firsts.items c.args.route c.index-start.result.now (omega (arith, h, ap (λ l. length l) c.self.invariant.1.each, length-map s.ids.items (start_of s.starts))) c.index-start.ensures 0
    ∙ ap (λ l. get_or l c.args.route 0) c.self.invariant.1.each
    ∙ get_or-map_in (start_of s.starts) s.ids.items c.args.route h in
    counts_on c.index-start.result.now c.index.result.now
    ∙ (ap (λ n. (n + c.index.result.now + 1) % 16384) (starts ∙ ap (λ (r : Routing). start_of r.starts (get_or s.ids.items c.args.route 0)) c.self.view_is)
    ∙ (ap (λ n. (start_of v.starts (get_or s.ids.items c.args.route 0) + n + 1) % 16384) count
    ∙ ap (next_of v.starts) (route_there s.numbers s.ids.items (vec_capacity s.ids) s.counted.items s.dests s.msgids s.limit c.self.invariant.0 s.starts c.args.self.now c.self.view_is c.args.route c.requires)))

pub returns-clause-after : goal.returns-clause-after
returns-clause-after c =
    let s = c.self.inside in
    let v = c.args.self.now in
    let h = route_inside s.numbers s.ids.items (vec_capacity s.ids) s.counted.items s.dests s.msgids s.limit c.self.invariant.0 s.starts c.args.self.now c.self.view_is c.args.route c.requires in
    let there = list_there s.numbers s.ids.items (vec_capacity s.ids) s.counted.items s.dests s.msgids s.limit c.self.invariant.0 s.starts c.args.self.now c.self.view_is c.args.route c.requires in
    let count = get_or_read s.counted.items c.args.route c.index.result.now (omega (arith, h, fewer_counts s.numbers s.ids.items (vec_capacity s.ids) s.counted.items s.dests s.msgids s.limit c.self.invariant.0)) c.index.ensures 0 in
    count_after s.numbers s.ids.items (vec_capacity s.ids) s.counted.items s.dests s.msgids s.limit c.self.invariant.0 s.starts c.args.self.now c.self.view_is c.args.route ((c.index.result.now + 1) % 16384) c.requires (ap (λ n. (n + 1) % 16384) count)
