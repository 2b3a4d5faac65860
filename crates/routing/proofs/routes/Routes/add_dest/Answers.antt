use Rattle.std.proofs.Common.{◌∙◌, ◌++◌, ◌∷◌, [], Ok, Err, length, ap, sym, arith}
use Rattle.std.specs.Vec.{vec_capacity}
use Rattle.routing.specs.Dests.{dests_in, has_node, last_node}
use Rattle.routing.specs.Routing.{dests_at, with_dests}
use Rattle.fsw_base.specs.declared.statuses.SbStatus.TheVariants.{MaxDestsMet}
use Rattle.routing.proofs.Numbers.{route_inside, list_there, dests_there, dests_is, dests_after, fresh_there, numbered_dests, refused, accepted}
use Rattle.routing.proofs.routes.Routes.add_dest.Goals as goal

pub len-requires : goal.len-requires
len-requires g c =
    let s = c.self.inside in
    let v = c.args.self.now in
    let h = route_inside s.numbers s.ids.items (vec_capacity s.ids) s.counted.items s.dests s.msgids s.limit c.self.invariant.0 s.starts c.args.self.now c.self.view_is c.args.route c.requires in
    let there = list_there s.numbers s.ids.items (vec_capacity s.ids) s.counted.items s.dests s.msgids s.limit c.self.invariant.0 s.starts c.args.self.now c.self.view_is c.args.route c.requires in
    there

pub returns-then-len-self-clause-answer : goal.returns-then-len-self-clause-answer
returns-then-len-self-clause-answer g c =
    let s = c.self.inside in
    let v = c.args.self.now in
    refused (length (dests_at v c.args.route)) v.dests (Ok tt) (Err MaxDestsMet) (omega (arith, c.if-len-self.true, c.len.ensures, ap (λ ds. length ds) (dests_there s.numbers s.ids.items (vec_capacity s.ids) s.counted.items s.dests s.msgids s.limit c.self.invariant.0 s.starts c.args.self.now c.self.view_is c.args.route), ap (λ r. r.dests) c.self.view_is))

pub add-requires-clause-list : goal.add-requires-clause-list
add-requires-clause-list g c =
    let s = c.self.inside in
    let v = c.args.self.now in
    let h = route_inside s.numbers s.ids.items (vec_capacity s.ids) s.counted.items s.dests s.msgids s.limit c.self.invariant.0 s.starts c.args.self.now c.self.view_is c.args.route c.requires in
    let there = list_there s.numbers s.ids.items (vec_capacity s.ids) s.counted.items s.dests s.msgids s.limit c.self.invariant.0 s.starts c.args.self.now c.self.view_is c.args.route c.requires in
    there

pub invariant_of-self : goal.invariant_of-self
invariant_of-self g c =
    let s = c.self.inside in
    let v = c.args.self.now in
    let h = route_inside s.numbers s.ids.items (vec_capacity s.ids) s.counted.items s.dests s.msgids s.limit c.self.invariant.0 s.starts c.args.self.now c.self.view_is c.args.route c.requires in
    let there = list_there s.numbers s.ids.items (vec_capacity s.ids) s.counted.items s.dests s.msgids s.limit c.self.invariant.0 s.starts c.args.self.now c.self.view_is c.args.route c.requires in
    (numbered_dests s.numbers s.ids.items (vec_capacity s.ids) s.counted.items s.dests s.msgids s.limit c.self.invariant.0 c.args.route (dests_in s.dests c.args.route ++ (last_node (dests_in c.add.new.self c.args.route), c.args.sub) ∷ []) c.add.new.self h c.add.ensures.after, c.self.invariant.1)

pub returns-clause-answer : goal.returns-clause-answer
returns-clause-answer g c =
    let s = c.self.inside in
    let v = c.args.self.now in
    accepted (length (dests_at v c.args.route)) v.dests (Ok tt) (Err MaxDestsMet) (omega (arith, c.if-len-self.false, c.len.ensures, ap (λ ds. length ds) (dests_there s.numbers s.ids.items (vec_capacity s.ids) s.counted.items s.dests s.msgids s.limit c.self.invariant.0 s.starts c.args.self.now c.self.view_is c.args.route), ap (λ r. r.dests) c.self.view_is))

pub returns-clause-ok : goal.returns-clause-ok
returns-clause-ok g c =
    let s = c.self.inside in
    let v = c.args.self.now in
    let h = route_inside s.numbers s.ids.items (vec_capacity s.ids) s.counted.items s.dests s.msgids s.limit c.self.invariant.0 s.starts c.args.self.now c.self.view_is c.args.route c.requires in
    let there = list_there s.numbers s.ids.items (vec_capacity s.ids) s.counted.items s.dests s.msgids s.limit c.self.invariant.0 s.starts c.args.self.now c.self.view_is c.args.route c.requires in
    let kept = numbered_dests s.numbers s.ids.items (vec_capacity s.ids) s.counted.items s.dests s.msgids s.limit c.self.invariant.0 c.args.route (dests_in s.dests c.args.route ++ (last_node (dests_in c.add.new.self c.args.route), c.args.sub) ∷ []) c.add.new.self h c.add.ensures.after in
    let last = ap last_node (sym (dests_is s.numbers s.ids.items (vec_capacity s.ids) s.counted.items c.add.new.self s.msgids s.limit kept c.args.route)) in
    dests_after s.numbers s.ids.items (vec_capacity s.ids) s.counted.items s.dests s.msgids s.limit c.self.invariant.0 s.starts c.args.self.now c.self.view_is c.add.new.self c.args.route (dests_in s.dests c.args.route ++ (last_node (dests_in c.add.new.self c.args.route), c.args.sub) ∷ []) c.requires c.add.ensures.after
    ∙ (ap (λ ds. with_dests v c.args.route (ds ++ (last_node (dests_in c.add.new.self c.args.route), c.args.sub) ∷ [])) (dests_there s.numbers s.ids.items (vec_capacity s.ids) s.counted.items s.dests s.msgids s.limit c.self.invariant.0 s.starts c.args.self.now c.self.view_is c.args.route)
    ∙ ap (λ n. with_dests v c.args.route (dests_at v c.args.route ++ (n, c.args.sub) ∷ [])) last)

pub returns-clause-fresh : goal.returns-clause-fresh
returns-clause-fresh g c = λ other.
    let s = c.self.inside in
    let v = c.args.self.now in
    let h = route_inside s.numbers s.ids.items (vec_capacity s.ids) s.counted.items s.dests s.msgids s.limit c.self.invariant.0 s.starts c.args.self.now c.self.view_is c.args.route c.requires in
    let there = list_there s.numbers s.ids.items (vec_capacity s.ids) s.counted.items s.dests s.msgids s.limit c.self.invariant.0 s.starts c.args.self.now c.self.view_is c.args.route c.requires in
    let kept = numbered_dests s.numbers s.ids.items (vec_capacity s.ids) s.counted.items s.dests s.msgids s.limit c.self.invariant.0 c.args.route (dests_in s.dests c.args.route ++ (last_node (dests_in c.add.new.self c.args.route), c.args.sub) ∷ []) c.add.new.self h c.add.ensures.after in
    let last = ap last_node (sym (dests_is s.numbers s.ids.items (vec_capacity s.ids) s.counted.items c.add.new.self s.msgids s.limit kept c.args.route)) in
    ap (λ n. has_node n (dests_at v other)) (sym last) ∙ fresh_there s.numbers s.ids.items (vec_capacity s.ids) s.counted.items s.dests s.msgids s.limit c.self.invariant.0 s.starts c.args.self.now c.self.view_is (last_node (dests_in c.add.new.self c.args.route)) other (λ list hl. c.add.ensures.fresh list hl)
