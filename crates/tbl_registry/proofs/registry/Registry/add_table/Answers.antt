use Rattle.std.proofs.Common.{◌+◌, ◌<◌, ℕ, Some, List, [], ◌∷◌, ◌++◌, count_by, is_some, length, set, refl, sym, ap, ◌∙◌, subst, arith}
use Rattle.std.proofs.lemmas.List.{length-set}
use Rattle.tbl_rules.specs.declared.rules.Rule.{Rule}
use Rattle.tbl_registry.specs.declared.rows.Handle.{Handle}
use Rattle.tbl_registry.specs.Listing.{Table, Listing, table_at, made_handle, with_new_handle}
use Rattle.tbl_registry.specs.Inside.{tables_in, IsKept}
use Rattle.tbl_registry.proofs.Places.{none_in}
use Rattle.tbl_registry.proofs.Keeps.{counted_tables, kept_table, added_tables}
use Rattle.tbl_registry.proofs.registry.Registry.add_table.Goals as goal

pub vacant-key-requires : goal.vacant-key-requires
vacant-key-requires c =
    let r = c.self.inside in
    omega (arith, c.requires.tables, counted_tables r.shelf r.keys.items r.handles.items r.made r.room c.self.invariant.0, ap (λ (l : Listing). length l.tables) c.self.view_is, ap (λ (l : Listing). l.table_room) c.self.view_is)

pub put-requires : goal.put-requires
put-requires c = record { within = c.vacant-key.ensures.within; free = c.vacant-key.ensures.free }

pub push_reserved-requires : goal.push_reserved-requires
push_reserved-requires c =
    let r = c.self.inside in
    let few : count_by is_some r.shelf < length r.shelf =
    omega (arith, c.requires.tables, counted_tables r.shelf r.keys.items r.handles.items r.made r.room c.self.invariant.0, ap (λ (l : Listing). length l.tables) c.self.view_is, ap (λ (l : Listing). l.table_room) c.self.view_is) in
    omega (arith, c.self.invariant.0.counted, few, c.self.invariant.2, r.keys.ok.0)

pub invariant_of-self : goal.invariant_of-self
invariant_of-self c =
    let r = c.self.inside in
    let key = c.vacant-key.result in
    let entry : Table = record { number = r.made + 1; key = key; name = c.new.result; owner = c.args.app; size = c.args.size; option = c.args.option; rules = c.again.result } in
    let few : length (tables_in r.shelf r.keys.items) < length r.shelf = omega (arith, c.requires.tables, ap (λ (l : Listing). length l.tables) c.self.view_is, ap (λ (l : Listing). l.table_room) c.self.view_is) in
    let fewer : length r.handles.items < r.room = omega (arith, c.requires.handles, ap (λ (l : Listing). length l.handles) c.self.view_is, ap (λ (l : Listing). l.handle_room) c.self.view_is) in
    let pushed = c.push_reserved-2.ensures.items ∙ ap (λ (h : Handle). r.handles.items ++ h ∷ []) c.new_handle.ensures in
    let len = ap length c.put.ensures ∙ length-set r.shelf key (Some entry) in (
      subst (λ s. IsKept s c.push_reserved.new.self.items c.push_reserved-2.new.self.items (r.made + 1) r.room) (sym c.put.ensures)
          (subst (λ l. IsKept (set r.shelf key (Some entry)) l c.push_reserved-2.new.self.items (r.made + 1) r.room) (sym c.push_reserved.ensures.items)
          (subst (λ l. IsKept (set r.shelf key (Some entry)) (r.keys.items ++ key ∷ []) l (r.made + 1) r.room) (sym pushed)
          (kept_table r.shelf r.keys.items r.handles.items r.made r.room c.self.invariant.0 entry c.args.app refl c.vacant-key.ensures.within c.vacant-key.ensures.free few fewer))),
      omega (arith, c.self.invariant.1, len),
      omega (arith, c.self.invariant.2, len, c.push_reserved.ensures.capacity),
      omega (arith, c.self.invariant.3, c.push_reserved-2.ensures.capacity),
      c.self.invariant.4,
    )

pub returns-clause-number : goal.returns-clause-number
returns-clause-number c = ap (λ (l : Listing). l.made + 1) c.self.view_is

pub returns-clause-after : goal.returns-clause-after
returns-clause-after c =
    let r = c.self.inside in
    let now = c.args.self.now in
    let key = c.vacant-key.result in
    let entry : Table = record { number = r.made + 1; key = key; name = c.new.result; owner = c.args.app; size = c.args.size; option = c.args.option; rules = c.again.result } in
    let few : length (tables_in r.shelf r.keys.items) < length r.shelf = omega (arith, c.requires.tables, ap (λ (l : Listing). length l.tables) c.self.view_is, ap (λ (l : Listing). l.table_room) c.self.view_is) in
    let fewer : length r.handles.items < r.room = omega (arith, c.requires.handles, ap (λ (l : Listing). length l.handles) c.self.view_is, ap (λ (l : Listing). l.handle_room) c.self.view_is) in
    let pushed = c.push_reserved-2.ensures.items ∙ ap (λ (h : Handle). r.handles.items ++ h ∷ []) c.new_handle.ensures in
    let len = ap length c.put.ensures ∙ length-set r.shelf key (Some entry) in
    let row : ℕ → List ℕ → List Rule → Table = λ n name rules. record { number = n; key = key; name = name; owner = c.args.app; size = c.args.size; option = c.args.option; rules = rules } in
    let listing : List Handle → ℕ → Listing = λ handles n. record { tables = now.tables; handles = handles; made = r.made + 1; table_room = n; handle_room = r.room } in
    record {
      key = key;
      within = omega (arith, c.vacant-key.ensures.within, ap (λ (l : Listing). l.table_room) c.self.view_is);
      free = ap (λ (l : Listing). table_at l.tables key) (sym c.self.view_is) ∙ none_in r.shelf r.keys.items key c.self.invariant.0.filed c.vacant-key.ensures.free;
      tables =
          ap (λ s. tables_in s c.push_reserved.new.self.items) c.put.ensures
          ∙ ap (tables_in (set r.shelf key (Some entry))) c.push_reserved.ensures.items
          ∙ added_tables r.shelf r.keys.items r.handles.items r.made r.room c.self.invariant.0 entry c.args.app refl c.vacant-key.ensures.within c.vacant-key.ensures.free few fewer
          ∙ ap (λ name. tables_in r.shelf r.keys.items ++ row (r.made + 1) name c.again.result ∷ []) c.new.ensures
          ∙ ap (λ rules. tables_in r.shelf r.keys.items ++ row (r.made + 1) c.args.name.now rules ∷ []) c.again.ensures
          ∙ ap (λ (l : Listing). l.tables ++ row (l.made + 1) c.args.name.now c.args.rules.now ∷ []) c.self.view_is;
      others =
          ap (λ l. listing l (length c.put.new.self)) pushed
          ∙ ap (listing (r.handles.items ++ made_handle (r.made + 1) c.args.app (r.made + 1) key ∷ [])) len
          ∙ ap (λ (l : Listing). let after : Listing = record (with_new_handle l c.args.app (l.made + 1) key) { tables = now.tables } in after) c.self.view_is;
    }
