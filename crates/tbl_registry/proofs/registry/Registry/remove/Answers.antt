use Rattle.std.proofs.Common.{rules, eqb, not, None, length, set, sym, ap, ◌∙◌, subst, arith}
use Rattle.std.proofs.lemmas.Fn.{filter_same}
use Rattle.std.proofs.lemmas.List.{length-set}
use Rattle.tbl_registry.specs.Listing.{Listing, without_table}
use Rattle.tbl_registry.specs.Inside.{tables_in, listing_of, IsKept}
use Rattle.tbl_registry.proofs.Places.{stood_within}
use Rattle.tbl_registry.proofs.Keeps.{HasNone, has_none, kept_removed, left_tables}
use Rattle.tbl_registry.proofs.registry.Registry.remove.Goals as goal

pub clear-requires : goal.clear-requires
clear-requires c =
    let r = c.self.inside in
    let no = subst (λ (l : Listing). HasNone l.tables l.handles c.args.key) (sym c.self.view_is) (has_none c.args.self.now.tables c.args.self.now.handles c.args.key c.requires) in
    record { within = stood_within r.shelf r.keys.items c.args.key no.t c.self.invariant.0.filed no.there }

pub invariant_of-self : goal.invariant_of-self
invariant_of-self c =
    let r = c.self.inside in
    let no = subst (λ (l : Listing). HasNone l.tables l.handles c.args.key) (sym c.self.view_is) (has_none c.args.self.now.tables c.args.self.now.handles c.args.key c.requires) in
    let keys = filter_same _ (λ k. not (eqb k c.args.key)) _ (λ x b f' called. search rules) _ _ c.retain.ensures.filtered in
    let len = ap length c.clear.ensures ∙ length-set r.shelf c.args.key None in (
      subst (λ s. IsKept s c.retain.new.self.items r.handles.items r.made r.room) (sym c.clear.ensures)
          (subst (λ l. IsKept (set r.shelf c.args.key None) l r.handles.items r.made r.room) (sym keys)
          (kept_removed r.shelf r.keys.items r.handles.items r.made r.room c.self.invariant.0 c.args.key no.t no.there no.none)),
      omega (arith, c.self.invariant.1, len),
      omega (arith, c.self.invariant.2, len, c.retain.ensures.capacity),
      c.self.invariant.3,
      c.self.invariant.4,
    )

pub returns : goal.returns
returns c =
    let r = c.self.inside in
    let no = subst (λ (l : Listing). HasNone l.tables l.handles c.args.key) (sym c.self.view_is) (has_none c.args.self.now.tables c.args.self.now.handles c.args.key c.requires) in
    let keys = filter_same _ (λ k. not (eqb k c.args.key)) _ (λ x b f' called. search rules) _ _ c.retain.ensures.filtered in
    ap (λ s. listing_of s c.retain.new.self.items r.handles.items r.made r.room) c.clear.ensures
    ∙ ap (λ l. listing_of (set r.shelf c.args.key None) l r.handles.items r.made r.room) keys
    ∙ ap (λ l. let listing : Listing = record { tables = l; handles = r.handles.items; made = r.made; table_room = length (set r.shelf c.args.key None); handle_room = r.room } in listing)
    (left_tables r.shelf r.keys.items r.handles.items r.made r.room c.self.invariant.0 c.args.key no.t no.there no.none)
    ∙ ap (λ n. let listing : Listing = record { tables = without_table c.args.key (tables_in r.shelf r.keys.items); handles = r.handles.items; made = r.made; table_room = n; handle_room = r.room } in listing) (length-set r.shelf c.args.key None)
    ∙ ap (λ (l : Listing). record l { tables = without_table c.args.key l.tables }) c.self.view_is
