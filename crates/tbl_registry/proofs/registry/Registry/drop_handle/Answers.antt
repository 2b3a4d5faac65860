use Rattle.std.proofs.Common.{◌≡◌, ◌≢◌, ℕ, true, false, not, Option, Some, None, IfSome, IsSome, All, refl, sym, ap, ◌∙◌, subst, arith}
use Rattle.std.specs.Option.{option_map_or}
use Rattle.tbl_registry.specs.declared.rows.Handle.{Handle}
use Rattle.tbl_registry.specs.Listing.{Listing, handle_at, has_handle, without_handle}
use Rattle.tbl_registry.specs.Inside.{listing_of, IsKept, AreRising, HasNumber}
use Rattle.tbl_registry.proofs.HandleNumbers.{found, not_live, removed}
use Rattle.tbl_registry.proofs.Keeps.{kept_dropped}
use Rattle.tbl_registry.proofs.registry.Registry.drop_handle.Goals as goal

pub place_of-requires : goal.place_of-requires
place_of-requires c = subst AreRising (sym c.deref.ensures.value) c.self.invariant.0.tied.handles_rise

pub unwrap-place-requires : goal.unwrap-place-requires
unwrap-place-requires c = by_place c.place_of.result refl
  where
    by_place : (o : Option ℕ) → c.place_of.result ≡ o → IsSome o
    by_place None is =
        let none : All (λ (h : Handle). h.number ≢ c.args.handle) c.args.self.now.handles = subst (All (λ (h : Handle). h.number ≢ c.args.handle)) (c.deref.ensures.value ∙ ap (λ (l : Listing). l.handles) c.self.view_is) (c.place_of.ensures.none is) in
        let never : true ≡ false = sym c.requires ∙ not_live c.args.self.now.handles c.args.handle none in
        absurd (cc (never))
    by_place (Some i) is = refl

pub remove-left-requires : goal.remove-left-requires
remove-left-requires c =
    let r = c.self.inside in
    let has = subst (λ l. HasNumber l c.args.handle c.unwrap-place.result) c.deref.ensures.value (subst (λ o. IfSome o (HasNumber c.deref.result.now c.args.handle)) c.unwrap-place.ensures c.place_of.ensures.some) in
    omega (arith, has.0, r.handles.ok.0)

pub invariant_of-self : goal.invariant_of-self
invariant_of-self c =
    let r = c.self.inside in
    let has = subst (λ l. HasNumber l c.args.handle c.unwrap-place.result) c.deref.ensures.value (subst (λ o. IfSome o (HasNumber c.deref.result.now c.args.handle)) c.unwrap-place.ensures c.place_of.ensures.some) in
    let left = c.remove-left.ensures.items ∙ removed r.handles.items c.args.handle c.unwrap-place.result c.self.invariant.0.tied.handles_rise has in (
      subst (λ l. IsKept r.shelf r.keys.items l r.made r.room) (sym left) (kept_dropped r.shelf r.keys.items r.handles.items r.made r.room c.self.invariant.0 c.args.handle),
      c.self.invariant.1,
      c.self.invariant.2,
      omega (arith, c.self.invariant.3, c.remove-left.ensures.capacity),
      c.self.invariant.4,
    )

pub returns-clause-last : goal.returns-clause-last
returns-clause-last c =
    let r = c.self.inside in
    let has = subst (λ l. HasNumber l c.args.handle c.unwrap-place.result) c.deref.ensures.value (subst (λ o. IfSome o (HasNumber c.deref.result.now c.args.handle)) c.unwrap-place.ensures c.place_of.ensures.some) in
    let its = found r.handles.items c.args.handle c.unwrap-place.result c.remove-left.result c.self.invariant.0.tied.handles_rise has ∙ ap Some (sym c.remove-left.ensures.value) in
    ap not (c.any_of.ensures
    ∙ ap (λ l. has_handle l c.remove-left.result.table) c.deref-2.ensures.value
    ∙ ap (λ o. has_handle c.remove-left.new.self.items (option_map_or (λ (h : Handle). h.table) o 0)) (sym its ∙ ap (λ (l : Listing). handle_at l.handles c.args.handle) c.self.view_is))

pub returns-clause-after : goal.returns-clause-after
returns-clause-after c =
    let r = c.self.inside in
    let has = subst (λ l. HasNumber l c.args.handle c.unwrap-place.result) c.deref.ensures.value (subst (λ o. IfSome o (HasNumber c.deref.result.now c.args.handle)) c.unwrap-place.ensures c.place_of.ensures.some) in
    let left = c.remove-left.ensures.items ∙ removed r.handles.items c.args.handle c.unwrap-place.result c.self.invariant.0.tied.handles_rise has in
    ap (λ l. listing_of r.shelf r.keys.items l r.made r.room) left ∙ ap (λ (l : Listing). record l { handles = without_handle c.args.handle l.handles }) c.self.view_is
