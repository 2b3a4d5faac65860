use Rattle.std.proofs.Common.{◌≡◌, ℕ, Option, Some, None, IfSome, is_some, refl, sym, ◌∙◌, subst}
use Rattle.tbl_registry.specs.Listing.{is_live}
use Rattle.tbl_registry.specs.Inside.{HasNumber}
use Rattle.tbl_registry.proofs.HandleNumbers.{live, not_live}
use Rattle.tbl_registry.proofs.handles.is_among.Goals as goal

pub returns : goal.returns
returns c = c.is_some.ensures ∙ by_place c.place_of.result refl
  where
    by_place : (o : Option ℕ) → c.place_of.result ≡ o → is_some o ≡ is_live c.args.handles.now c.args.number
    by_place None is = sym (not_live c.args.handles.now c.args.number (c.place_of.ensures.none is))
    by_place (Some i) is =
        let has : HasNumber c.args.handles.now c.args.number i = subst (λ o. IfSome o (HasNumber c.args.handles.now c.args.number)) is c.place_of.ensures.some in
        sym (live c.args.handles.now c.args.number i has)
