use Rattle.std.proofs.Common.{ap, sym, subst, ◌∙◌, refl, ℕ, length, arith, Result, IfOk, IsSome, Some, cond, eqb}
use Rattle.std.specs.Bool.{◌==◌}
use Rattle.std.specs.Option.{option_map}
use Rattle.std.specs.List.{find}
use Rattle.std.proofs.lemmas.List.{length-set}
use Rattle.buf_desc.specs.Held.{Holding, view_at}
use Rattle.buf_desc.specs.Inside.{IsAt}
use Rattle.buf_desc.proofs.ElementChanges.{part_there, changed_rises, find_changed}
use Rattle.buf_desc.proofs.Finds.{found, seen_part, ok_where_found}
use Rattle.buf_desc.proofs.Keys.{chosen_part}
use Rattle.buf_desc.proofs.held.Bag.exchange_view.Goals as goal

pub surely_ok-place-requires : goal.surely_ok-place-requires
surely_ok-place-requires g c =
    let s = c.self.inside in
    ok_where_found (λ (e : ℕ × g.row.V.Denot). e.0) s.views.items c.args.pipe c.view_place.result c.view_place.ensures.absent
    (part_there (λ (e : ℕ × g.row.V.Denot). e.1) (find (λ (e : ℕ × g.row.V.Denot). e.0 == c.args.pipe) s.views.items)
    (subst (λ (bag : Holding g.row.V.Denot). IsSome (view_at bag c.args.pipe)) (sym c.self.view_is) c.requires.here))

pub invariant_of-self : goal.invariant_of-self
invariant_of-self g c =
    let s = c.self.inside in
    let k = c.self.invariant in
    let place = c.surely_ok-place.result in
    let entry = c.index_mut.result.now in
    let here = subst (λ (r : Result ℕ ℕ). IfOk r (IsAt (λ (e : ℕ × g.row.V.Denot). e.0) s.views.items c.args.pipe)) c.surely_ok-place.ensures c.view_place.ensures.found in (
      omega (arith, k.0, length-set s.views.items place (entry.0, c.replace.new.dest)),
      k.1,
      k.2,
      k.3,
      changed_rises (λ (e : ℕ × g.row.V.Denot). e.0) s.views.items k.4 c.args.pipe place here entry (entry.0, c.replace.new.dest) c.index_mut.ensures.value refl,
      k.5,
    )

pub returns-clause-found : goal.returns-clause-found
returns-clause-found g c =
    let s = c.self.inside in
    let place = c.surely_ok-place.result in
    let here = subst (λ (r : Result ℕ ℕ). IfOk r (IsAt (λ (e : ℕ × g.row.V.Denot). e.0) s.views.items c.args.pipe)) c.surely_ok-place.ensures c.view_place.ensures.found in
    let f = found (λ (e : ℕ × g.row.V.Denot). e.0) s.views.items c.args.pipe place c.self.invariant.4 here in
    ap Some c.replace.ensures.value
    ∙ (seen_part (λ (e : ℕ × g.row.V.Denot). e.1) (λ (e : ℕ × g.row.V.Denot). e.0 == c.args.pipe) s.views.items place c.index_mut.result.now f c.index_mut.ensures.value
    ∙ ap (λ (bag : Holding g.row.V.Denot). view_at bag c.args.pipe) c.self.view_is)

pub returns-clause-seen : goal.returns-clause-seen
returns-clause-seen g c =
    let s = c.self.inside in
    let place = c.surely_ok-place.result in
    let entry = c.index_mut.result.now in
    let new : ℕ × g.row.V.Denot = (entry.0, c.replace.new.dest) in
    let here = subst (λ (r : Result ℕ ℕ). IfOk r (IsAt (λ (e : ℕ × g.row.V.Denot). e.0) s.views.items c.args.pipe)) c.surely_ok-place.ensures c.view_place.ensures.found in
    λ other. ap (option_map (λ (e : ℕ × g.row.V.Denot). e.1))
    (find_changed (λ (e : ℕ × g.row.V.Denot). e.0) s.views.items c.self.invariant.4 c.args.pipe place here entry new c.index_mut.ensures.value refl other)
    ∙ (chosen_part (λ (e : ℕ × g.row.V.Denot). e.1) (eqb c.args.pipe other) new (find (λ (e : ℕ × g.row.V.Denot). e.0 == other) s.views.items)
    ∙ (ap (λ v. cond (eqb c.args.pipe other) (Some v) (option_map (λ (e : ℕ × g.row.V.Denot). e.1) (find (λ (e : ℕ × g.row.V.Denot). e.0 == other) s.views.items))) c.replace.ensures.after
    ∙ ap (λ (bag : Holding g.row.V.Denot). cond (eqb c.args.pipe other) (Some c.args.view) (view_at bag other)) c.self.view_is))

pub returns-clause-as_many : goal.returns-clause-as_many
returns-clause-as_many g c =
    let s = c.self.inside in
    length-set s.views.items c.surely_ok-place.result (c.index_mut.result.now.0, c.replace.new.dest)
    ∙ ap (λ (bag : Holding g.row.V.Denot). length bag.views) c.self.view_is
