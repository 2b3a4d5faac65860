use Rattle.std.proofs.Common.{◌≡◌, ℕ, cond, true, Option, Some, None, IfSome, IsSome, is_some, List, refl, sym, ap, ◌∙◌, subst}
use Rattle.std.specs.Borrow.{Bor}
use Rattle.tbl_registry.specs.Listing.{Table, Listing, is_live, table_at}
use Rattle.tbl_registry.specs.declared.rows.Handle.{Handle}
use Rattle.tbl_registry.specs.Inside.{table_in, tables_in, AreRising}
use Rattle.tbl_registry.proofs.Keeps.{at_key, present}
use Rattle.tbl_registry.proofs.registry.Registry.table.Goals as goal

pub unwrap-entry-requires : goal.unwrap-entry-requires
unwrap-entry-requires c = by_result c.get.result refl
  where
    by_result : (o : Option (Bor Table)) → c.get.result ≡ o → IsSome o
    by_result None is =
        let r = c.self.inside in
        let there : is_some (table_at (tables_in r.shelf r.keys.items) c.args.key) ≡ true = ap (λ (l : Listing). is_some (table_at l.tables c.args.key)) c.self.view_is ∙ c.requires in
        absurd (present r.shelf r.keys.items r.handles.items r.made r.room c.self.invariant.0 c.args.key there (c.get.ensures.none is))
    by_result (Some entry) is = refl

pub owner_of-requires : goal.owner_of-requires
owner_of-requires c = subst AreRising (sym c.deref.ensures.value) c.self.invariant.0.tied.handles_rise

abbrev owner : ℕ → List Handle → Option ℕ
owner number handles = cond {A = Option ℕ} (is_live handles number) (Some number) None

pub returns : goal.returns
returns c =
    let r = c.self.inside in
    let e = c.entry.inside in
    let there : is_some (table_at (tables_in r.shelf r.keys.items) c.args.key) ≡ true = ap (λ (l : Listing). is_some (table_at l.tables c.args.key)) c.self.view_is ∙ c.requires in
    let its : Some c.unwrap-entry.result.now ≡ table_in r.shelf c.args.key = subst (λ o. IfSome o (λ entry. Some entry.now ≡ table_in r.shelf c.args.key)) c.unwrap-entry.ensures c.get.ensures.some in
    record {
      t = record { number = e.number; key = e.key; name = e.name; owner = e.owner; size = e.size; option = e.option; rules = e.rules };
      there = ap (λ (l : Listing). table_at l.tables c.args.key) (sym c.self.view_is) ∙ at_key r.shelf r.keys.items r.handles.items r.made r.room c.self.invariant.0 c.args.key there ∙ sym its ∙ ap Some (sym c.entry.view_is);
      app = refl;
      handle = c.owner_of.ensures ∙ ap (owner c.entry.inside.number) (c.deref.ensures.value ∙ ap (λ (l : Listing). l.handles) c.self.view_is);
      size = refl;
      option = refl;
      rules = refl;
    }
