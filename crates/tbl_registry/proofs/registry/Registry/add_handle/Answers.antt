use Rattle.std.proofs.Common.{◌≡◌, ◌+◌, ◌<◌, true, Option, Some, None, IfSome, IsSome, is_some, [], ◌∷◌, ◌++◌, length, refl, sym, ap, ◌∙◌, subst, arith}
use Rattle.std.specs.Borrow.{Bor}
use Rattle.std.specs.Option.{option_map}
use Rattle.tbl_registry.specs.declared.rows.Handle.{Handle}
use Rattle.tbl_registry.specs.Listing.{Table, Listing, table_at, number_at, with_new_handle}
use Rattle.tbl_registry.specs.Inside.{table_in, tables_in, listing_of, IsKept}
use Rattle.tbl_registry.proofs.Keeps.{at_key, present, kept_handle}
use Rattle.tbl_registry.proofs.registry.Registry.add_handle.Goals as goal

pub unwrap-requires : goal.unwrap-requires
unwrap-requires c = by_result c.get.result refl
  where
    by_result : (o : Option (Bor Table)) → c.get.result ≡ o → IsSome o
    by_result None is =
        let r = c.self.inside in
        let there : is_some (table_at (tables_in r.shelf r.keys.items) c.args.key) ≡ true = ap (λ (l : Listing). is_some (table_at l.tables c.args.key)) c.self.view_is ∙ c.requires.there in
        absurd (present r.shelf r.keys.items r.handles.items r.made r.room c.self.invariant.0 c.args.key there (c.get.ensures.none is))
    by_result (Some entry) is = refl

pub push_reserved-requires : goal.push_reserved-requires
push_reserved-requires c =
    let r = c.self.inside in
    omega (arith, c.requires.handles, r.handles.ok.0, c.self.invariant.3, ap (λ (l : Listing). length l.handles) c.self.view_is, ap (λ (l : Listing). l.handle_room) c.self.view_is)

pub invariant_of-self : goal.invariant_of-self
invariant_of-self c =
    let r = c.self.inside in
    let there : is_some (table_at (tables_in r.shelf r.keys.items) c.args.key) ≡ true = ap (λ (l : Listing). is_some (table_at l.tables c.args.key)) c.self.view_is ∙ c.requires.there in
    let its : Some c.unwrap.result.now ≡ table_in r.shelf c.args.key = subst (λ o. IfSome o (λ entry. Some entry.now ≡ table_in r.shelf c.args.key)) c.unwrap.ensures c.get.ensures.some in
    let numbered : number_at (tables_in r.shelf r.keys.items) c.args.key ≡ Some c.behind-get.inside.number =
    ap (option_map (λ (t : Table). t.number)) (at_key r.shelf r.keys.items r.handles.items r.made r.room c.self.invariant.0 c.args.key there ∙ sym its) ∙ ap (λ (t : Table). Some t.number) (sym c.behind-get.view_is) in
    let few : length r.handles.items < r.room = omega (arith, c.requires.handles, ap (λ (l : Listing). length l.handles) c.self.view_is, ap (λ (l : Listing). l.handle_room) c.self.view_is) in
    let pushed = c.push_reserved.ensures.items ∙ ap (λ (h : Handle). r.handles.items ++ h ∷ []) c.new_handle.ensures in (
      subst (λ l. IsKept r.shelf r.keys.items l (r.made + 1) r.room) (sym pushed)
          (kept_handle r.shelf r.keys.items r.handles.items r.made r.room c.self.invariant.0 c.args.app c.behind-get.inside.number c.args.key numbered few),
      c.self.invariant.1,
      c.self.invariant.2,
      omega (arith, c.self.invariant.3, c.push_reserved.ensures.capacity),
      c.self.invariant.4,
    )

pub returns-clause-number : goal.returns-clause-number
returns-clause-number c = ap (λ (l : Listing). l.made + 1) c.self.view_is

pub returns-clause-after : goal.returns-clause-after
returns-clause-after c =
    let r = c.self.inside in
    let there : is_some (table_at (tables_in r.shelf r.keys.items) c.args.key) ≡ true = ap (λ (l : Listing). is_some (table_at l.tables c.args.key)) c.self.view_is ∙ c.requires.there in
    let its : Some c.unwrap.result.now ≡ table_in r.shelf c.args.key = subst (λ o. IfSome o (λ entry. Some entry.now ≡ table_in r.shelf c.args.key)) c.unwrap.ensures c.get.ensures.some in
    let numbered : number_at (tables_in r.shelf r.keys.items) c.args.key ≡ Some c.behind-get.inside.number =
    ap (option_map (λ (t : Table). t.number)) (at_key r.shelf r.keys.items r.handles.items r.made r.room c.self.invariant.0 c.args.key there ∙ sym its) ∙ ap (λ (t : Table). Some t.number) (sym c.behind-get.view_is) in
    let pushed = c.push_reserved.ensures.items ∙ ap (λ (h : Handle). r.handles.items ++ h ∷ []) c.new_handle.ensures in
    record {
      table = c.behind-get.inside.number;
      of = ap (λ (l : Listing). number_at l.tables c.args.key) (sym c.self.view_is) ∙ numbered;
      is = ap (λ l. listing_of r.shelf r.keys.items l (r.made + 1) r.room) pushed ∙ ap (λ (l : Listing). with_new_handle l c.args.app c.behind-get.inside.number c.args.key) c.self.view_is;
    }
