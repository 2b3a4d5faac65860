-- A core that was just made.
use Rattle.std.proofs.Common.{◌≡◌, ℕ, zero, suc, Bool, true, false, List, [], ◌∷◌, length, map, replicate, None, All, refl, ap, sym, ◌∙◌, subst}
use Rattle.std.proofs.lemmas.List.{length-replicate}
use Rattle.std.proofs.lemmas.List.Elements.{All-nil}
use Rattle.fsw_base.specs.Limits.{Limits, limits_of}
use Rattle.es_pool.specs.Pool.{made_in}
use Rattle.es_pool.specs.Account.{IsAccountOf}
use Rattle.es_pool.proofs.Law.{account_new}
use Rattle.tbl_rules.specs.Rules.{has_misfit}
use Rattle.tbl_words.specs.Tables.{opening, account_of, blocks_out}
use Rattle.tbl_registry.specs.declared.rows.Handle.{Handle}
use Rattle.tbl_registry.specs.Listing.{Table, Listing, has_handle}
use Rattle.tbl_registry.specs.Listed.{AllHaveHandles}
use Rattle.table_blocks.specs.Blocks.{Stored}
use Rattle.table_blocks.specs.Contents.{is_open}
use Rattle.table_core.specs.declared.plain.PlainTables.TheInside.{Inside}
use Rattle.table_core.specs.Core.{Plain}
use Rattle.table_core.specs.Inside.{plain_of, means, each_below, Keeps, IsFilled}

none_made : (n : ℕ) → each_below (made_in []) n ≡ replicate n 0
none_made zero = refl
none_made (suc n) = ap (λ l. 0 ∷ l) (none_made n)

none_out : (all sizes : List ℕ) → map (blocks_out all []) sizes ≡ replicate (length sizes) 0
none_out all [] = refl
none_out all (size ∷ sizes) = ap (λ l. 0 ∷ l) (none_out all sizes)

none_open : (n key : ℕ) → is_open (replicate n None) key ≡ true → ⊥
none_open zero key is = cc (is)
none_open (suc n) zero is = cc (is)
none_open (suc n) (suc key) is = none_open n key is

abbrev pub no_listing : Limits → Listing
no_listing limits = record { tables = []; handles = []; made = 0; table_room = limits.tables; handle_room = limits.handles }

abbrev pub with_sizes : Limits → List ℕ → Stored
with_sizes limits sizes = record {
  pool = record { bytes = limits.tablepool; most = limits.tablepool; sizes = sizes; blocks = []; requests = 0; errors = 0 };
  most = limits.tablemax;
  tables = replicate limits.tables None;
  free = 4;
}

abbrev pub no_contents : Limits → Stored
no_contents limits = with_sizes limits limits.sizes

module _ (a : Inside) (limits : Limits) (apps : ℕ) (same : limits_of a.config ≡ limits) (active : a.ended.items ≡ replicate apps false)
    (registry : a.registry ≡ no_listing limits) (blocks : a.blocks ≡ no_contents limits) where
  pub opened_plain : plain_of a ≡ record { limits = limits; state = opening limits apps; lent = [] }
  opened_plain =
      ap (λ (r : Listing). plain_of (record a { registry = r })) registry
      ∙ ap (λ (b : Stored). plain_of (record a { registry = no_listing limits; blocks = b })) blocks
      ∙ ap (λ (l : Limits). let p : Plain = record { limits = l; state = means (record a { registry = no_listing limits; blocks = no_contents limits }); lent = [] } in p) same
      ∙ ap (λ (e : List Bool). let p : Plain = record { limits = limits; state = record { tables = []; handles = []; handles_made = 0; ended = e; made = each_below (made_in []) (length limits.sizes); drawn = 0 }; lent = [] } in p) active
      ∙ ap (λ (m : List ℕ). let p : Plain = record { limits = limits; state = record { tables = []; handles = []; handles_made = 0; ended = replicate apps false; made = m; drawn = 0 }; lent = [] } in p) (none_made (length limits.sizes))

  pub opened_keeps : Keeps a
  opened_keeps = record {
    table_room = ap (λ (r : Listing). r.table_room) registry ∙ ap (λ (l : Limits). l.tables) (sym same);
    handle_room = ap (λ (r : Listing). r.handle_room) registry ∙ ap (λ (l : Limits). l.handles) (sym same);
    content_room = ap (λ (b : Stored). length b.tables) blocks ∙ length-replicate limits.tables None ∙ ap (λ (l : Limits). l.tables) (sym same);
    most = ap (λ (b : Stored). b.most) blocks ∙ ap (λ (l : Limits). l.tablemax) (sym same);
    pool_bytes = ap (λ (b : Stored). b.pool.bytes) blocks ∙ ap (λ (l : Limits). l.tablepool) (sym same);
    pool_sizes = ap (λ (b : Stored). b.pool.sizes) blocks ∙ ap (λ (l : Limits). l.sizes) (sym same);
    account =
        subst (λ (p : Plain). IsAccountOf a.blocks.pool (account_of p.limits p.state)) (sym opened_plain)
        (subst (λ (b : Stored). IsAccountOf b.pool (account_of limits (opening limits apps))) (sym blocks)
        (subst (λ (out : List ℕ). IsAccountOf (no_contents limits).pool (record { bytes = limits.tablepool; sizes = limits.sizes; made = replicate (length limits.sizes) 0; out = out; requests = 0; errors = 0 })) (sym (none_out limits.sizes limits.sizes))
        (account_new limits.tablepool limits.sizes)));
    fit = subst (λ (r : Listing). All (λ (t : Table). has_misfit t.size t.rules ≡ false) r.tables) (sym registry) (All-nil (λ (t : Table). has_misfit t.size t.rules ≡ false));
    had = subst (λ (r : Listing). AllHaveHandles r) (sym registry) (All-nil (λ (t : Table). has_handle [] t.number ≡ true));
    owners = subst (λ (r : Listing). All (λ (h : Handle). All (λ (t : Table). h.number ≡ t.number → h.table ≡ t.number) r.tables) r.handles) (sym registry) (All-nil (λ (h : Handle). All (λ (t : Table). h.number ≡ t.number → h.table ≡ t.number) []));
    filled = subst (λ (r : Listing). All (IsFilled r.handles a.blocks.tables) r.tables) (sym registry) (All-nil (IsFilled [] a.blocks.tables));
    known = λ key there. absurd (none_open limits.tables key (ap (λ (b : Stored). is_open b.tables key) (sym blocks) ∙ there));
  }
