use Rattle.std.proofs.Common.{◌≢◌, All, refl, sym, ap, ◌∙◌, subst, arith}
use Rattle.tbl_registry.specs.declared.rows.Handle.{Handle}
use Rattle.tbl_registry.specs.Listing.{Listing, with_handle, with_hold}
use Rattle.tbl_registry.specs.Inside.{listing_of, IsKept, HasNumber}
use Rattle.tbl_registry.proofs.HandleNumbers.{changed, unchanged}
use Rattle.tbl_registry.proofs.Keeps.{kept_changed}
use Rattle.tbl_registry.proofs.registry.Registry.hold.Goals as goal

pub index_mut-requires : goal.index_mut-requires
index_mut-requires c =
    let has = subst (λ l. HasNumber l c.args.handle c.in-Some.place) c.deref.ensures.value c.in-Some.ensures.some in
    omega (arith, has.0, c.self.inside.handles.ok.0)

pub invariant_of-self : goal.invariant_of-self
invariant_of-self c =
    let r = c.self.inside in
    let has = subst (λ l. HasNumber l c.args.handle c.in-Some.place) c.deref.ensures.value c.in-Some.ensures.some in
    let now = changed (with_hold c.args.version) r.handles.items c.args.handle c.in-Some.place c.index.result.now _ c.self.invariant.0.tied.handles_rise has (ap (with_hold c.args.version) c.index.ensures) in (
      subst (λ l. IsKept r.shelf r.keys.items l r.made r.room) (sym now)
          (kept_changed r.shelf r.keys.items r.handles.items r.made r.room c.self.invariant.0 (with_hold c.args.version) c.args.handle (λ h. (refl, refl, refl))),
      c.self.invariant.1,
      c.self.invariant.2,
      c.self.invariant.3,
      c.self.invariant.4,
    )

pub returns-in-Some : goal.returns-in-Some
returns-in-Some c =
    let r = c.self.inside in
    let has = subst (λ l. HasNumber l c.args.handle c.in-Some.place) c.deref.ensures.value c.in-Some.ensures.some in
    let now = changed (with_hold c.args.version) r.handles.items c.args.handle c.in-Some.place c.index.result.now _ c.self.invariant.0.tied.handles_rise has (ap (with_hold c.args.version) c.index.ensures) in
    ap (λ l. listing_of r.shelf r.keys.items l r.made r.room) now ∙ ap (λ (l : Listing). record l { handles = with_handle (with_hold c.args.version) c.args.handle l.handles }) c.self.view_is

pub returns-in_default : goal.returns-in_default
returns-in_default c =
    let now = c.args.self.now in
    let none : All (λ (h : Handle). h.number ≢ c.args.handle) now.handles = subst (All (λ (h : Handle). h.number ≢ c.args.handle)) (c.deref.ensures.value ∙ ap (λ (l : Listing). l.handles) c.self.view_is) (c.place_of.ensures.none c.in_default.is) in
    ap (λ l. let listing : Listing = record now { handles = l } in listing) (unchanged (with_hold c.args.version) now.handles c.args.handle none)
