use Rattle.std.proofs.Common.{◌≡◌, ◌∙◌, ◌++◌, ◌∷◌, [], Ok, Err, length, ap, sym, subst, arith}
use Rattle.std.specs.Vec.{vec_capacity}
use Rattle.std.specs.FinMap as map
use Rattle.std.proofs.lemmas.List.{length-map}
use Rattle.fsw_base.specs.Starts.{start_of}
use Rattle.fsw_base.specs.declared.statuses.SbStatus.TheVariants.{MaxMsgsMet}
use Rattle.routing.specs.Inside.{AreNumbered, AreStarted}
use Rattle.routing.proofs.Numbers.{long, number_there, numbered_push, route_after, refused, accepted, started_push}
use Rattle.routing.proofs.routes.Routes.add_route.Goals as goal

pub returns-then-route-self-clause-answer : goal.returns-then-route-self-clause-answer
returns-then-route-self-clause-answer c =
    let s = c.self.inside in
    let v = c.args.self.now in
    let len : c.len-route.result ≡ length s.ids.items = omega (arith, c.len-route.ensures, s.ids.ok) in
    refused (length v.routes) v.msgids (Ok (length v.routes)) (Err MaxMsgsMet) (omega (arith, c.if-route-self.true, len, long s.numbers s.ids.items (vec_capacity s.ids) s.counted.items s.dests s.msgids s.limit c.self.invariant.0, ap (λ r. length r.routes) c.self.view_is, ap (λ r. r.msgids) c.self.view_is))

pub insert-requires-clause-fresh : goal.insert-requires-clause-fresh
insert-requires-clause-fresh c =
    let s = c.self.inside in
    let none = number_there s.numbers s.ids.items (vec_capacity s.ids) s.counted.items s.dests s.msgids s.limit c.self.invariant.0 s.starts c.args.self.now c.self.view_is c.args.id ∙ c.requires.fresh in
    none

pub insert-requires-clause-next : goal.insert-requires-clause-next
insert-requires-clause-next c =
    let s = c.self.inside in
    omega (arith, c.len-route.ensures, s.ids.ok, c.self.invariant.0.all)

pub invariant_of-self : goal.invariant_of-self
invariant_of-self c =
    let s = c.self.inside in
    let len : c.len-route.result ≡ length s.ids.items = omega (arith, c.len-route.ensures, s.ids.ok) in
    let none = number_there s.numbers s.ids.items (vec_capacity s.ids) s.counted.items s.dests s.msgids s.limit c.self.invariant.0 s.starts c.args.self.now c.self.view_is c.args.id ∙ c.requires.fresh in (
      subst (λ ids. AreNumbered c.insert.new.self ids (vec_capacity c.push_reserved.new.self) s.counted.items s.dests s.msgids s.limit) (sym c.push_reserved.ensures.items)
          (numbered_push s.numbers s.ids.items (vec_capacity s.ids) s.counted.items s.dests s.msgids s.limit c.self.invariant.0 c.args.id c.insert.new.self.count c.insert.new.self.room (vec_capacity c.push_reserved.new.self) c.insert.new.self.routes none (omega (arith, c.if-route-self.false, len))
          (c.insert.ensures.routes ∙ ap (map.insert s.numbers.routes c.args.id) len) c.insert.ensures.count c.insert.ensures.room c.push_reserved.ensures.capacity),
      subst (λ ids. AreStarted s.starts ids c.push_reserved-2.new.self.items (vec_capacity c.push_reserved-2.new.self) s.msgids) (sym c.push_reserved.ensures.items)
          (subst (λ l. AreStarted s.starts (s.ids.items ++ c.args.id ∷ []) l (vec_capacity c.push_reserved-2.new.self) s.msgids) (sym c.push_reserved-2.ensures.items)
          (started_push s.starts s.ids.items s.firsts.items (vec_capacity s.firsts) s.msgids c.args.id c.start_of.result (vec_capacity c.push_reserved-2.new.self) c.self.invariant.1 c.start_of.ensures.start (omega (arith, c.start_of.ensures.valid)) c.push_reserved-2.ensures.capacity)),
    )

pub push_reserved-requires-2 : goal.push_reserved-requires-2
push_reserved-requires-2 c =
    let s = c.self.inside in
    let len : c.len-route.result ≡ length s.ids.items = omega (arith, c.len-route.ensures, s.ids.ok) in
    omega (arith, c.self.invariant.1.capacity_all, ap (λ l. length l) c.self.invariant.1.each, length-map s.ids.items (start_of s.starts), s.firsts.ok, c.if-route-self.false, len)

pub returns-clause-answer : goal.returns-clause-answer
returns-clause-answer c =
    let s = c.self.inside in
    let v = c.args.self.now in
    let len : c.len-route.result ≡ length s.ids.items = omega (arith, c.len-route.ensures, s.ids.ok) in
    let number : c.len-route.result ≡ length v.routes = len ∙ (sym (long s.numbers s.ids.items (vec_capacity s.ids) s.counted.items s.dests s.msgids s.limit c.self.invariant.0) ∙ ap (λ r. length r.routes) c.self.view_is) in
    ap Ok number ∙ accepted (length v.routes) v.msgids (Ok (length v.routes)) (Err MaxMsgsMet) (omega (arith, c.if-route-self.false, number, ap (λ r. r.msgids) c.self.view_is))

pub returns-clause-ok : goal.returns-clause-ok
returns-clause-ok c =
    let s = c.self.inside in
    let len : c.len-route.result ≡ length s.ids.items = omega (arith, c.len-route.ensures, s.ids.ok) in
    route_after s.numbers s.ids.items (vec_capacity s.ids) s.counted.items s.dests s.msgids s.limit c.self.invariant.0 s.starts c.args.self.now c.self.view_is c.push_reserved.new.self.items c.args.id (omega (arith, c.if-route-self.false, len)) c.push_reserved.ensures.items
