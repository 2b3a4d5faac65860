use Rattle.std.proofs.Common.{◌≡◌, ◌<◌, ℕ, true, Option, Some, None, IsSome, is_some, count_by, refl, All, List, sym, subst, length}
use Rattle.tbl_registry.specs.Listing.{Table}
use Rattle.tbl_registry.proofs.Shelves.{not_all}
use Rattle.tbl_registry.proofs.shelf.Shelf.vacant.Goals as goal

pub unwrap-requires : goal.unwrap-requires
unwrap-requires c = by_result c.first_free.result refl
  where
    by_result : (o : Option ℕ) → c.first_free.result ≡ o → IsSome o
    by_result None is =
        let s = c.self.inside in
        let P : List (Option Table) → Type 0 = λ l. count_by is_some l < length l in
        absurd (not_all s.slab s.at.items c.self.invariant (subst P (sym c.self.view_is) c.requires) (subst (λ l. All (λ o. is_some o ≡ true) l) c.deref.ensures.value (c.first_free.ensures.none is)))
    by_result (Some i) is = refl
