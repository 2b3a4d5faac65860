-- A registration of a new table, whole.
use Rattle.std.proofs.Common.{◌≡◌, ℕ, ◌+◌, true, None, Result, Ok, Err, List, refl, ap, sym, ◌∙◌, subst}
use Rattle.fsw_base.specs.Blocks.{are_block_sizes}
use Rattle.fsw_base.specs.Limits.{limits_of}
use Rattle.es_pool.specs.Pool as pool
use Rattle.tbl_rules.specs.declared.rules.Rule.{Rule}
use Rattle.tbl_words.specs.declared.calls.TblAnswer.TheVariants as answers
use Rattle.tbl_words.specs.declared.history.Call.TheVariants.{Register}
use Rattle.tbl_words.specs.Tables as state
use Rattle.tbl_words.specs.Machine.{unfit_cause, new_table_cause}
use Rattle.tbl_registry.specs.Listing.{Table, Listing, IsTied, table_named, AddsTable}
use Rattle.table_blocks.specs.Blocks.{Stored, Opens}
use Rattle.table_blocks.specs.Contents.{Content}
use Rattle.std.specs.Option.{option_map}
use Rattle.std.specs.Result.{IsOk, OnOk}
use Rattle.table_core.specs.declared.plain.PlainTables.TheInside.{Inside}
use Rattle.table_core.specs.Core.{Plain, Acts}
use Rattle.table_core.specs.Inside.{plain_of, means, Keeps}
use Rattle.table_core.proofs.Bags.{bags_grown}
use Rattle.table_core.proofs.Pools.{HasClass, has_class, fits_alike}
use Rattle.table_core.proofs.Registers.{one, added, registered_means, registered_views, registered_keeps}
use Rattle.table_core.proofs.RegisterCalls.{new_table_fits, rules_fit, register_acts}

-- what an answer that is one of success promises
pub on_ok : {A E : Type 0} {P : Type 0} (r : Result A E) → IsOk r → OnOk r P → P
on_ok (Ok x) ok p = p
on_ok (Err e) ok p = absurd (cc (ok))

-- the pool has the blocks
pub registered_fits : (a : Inside) → Keeps a → (size option : ℕ) → new_table_cause (limits_of a.config) (means a) size option ≡ None → pool.fits a.blocks.pool size (state.blocks_for option) ≡ true
registered_fits a keeps size option free =
    fits_alike a.blocks.pool (state.account_of (limits_of a.config) (means a)) size (state.blocks_for option) keeps.account ∙ new_table_fits a size option free

module _ (a : Inside) (old : Plain) (viewed : plain_of a ≡ old) (keeps : Keeps a) (tied : IsTied a.registry) (app : ℕ) (name : List ℕ) (size option : ℕ) (rules : List Rule)
    (r : Listing) (adds : AddsTable a.registry r app name size option rules) (b : Stored) (c : Content) (opens : Opens a.blocks b adds.key size option c)
    (free : new_table_cause (limits_of a.config) (means a) size option ≡ None) (whole : are_block_sizes a.blocks.pool.sizes ≡ true) where
  has : HasClass a.config.sizes size
  has = has_class (state.account_of (limits_of a.config) (means a)) size (state.blocks_for option) (new_table_fits a size option free)

  sizes : are_block_sizes a.config.sizes ≡ true
  sizes = ap are_block_sizes (sym keeps.pool_sizes) ∙ whole

  pub registered_all_keeps : unfit_cause a.config.tablemax name size option rules None ≡ None → Keeps (record a { registry = r; blocks = b })
  registered_all_keeps fit =
      subst (λ (l : Listing). let x : Inside = record a { registry = l; blocks = b } in Keeps x) (sym (added a keeps tied app name size option rules r adds))
      (registered_keeps a keeps tied app name size option rules r adds b c opens has.class has.is has.within sizes (rules_fit a.config.tablemax name size option rules fit))

  pub registered_all_acts : unfit_cause a.config.tablemax name size option rules None ≡ None → option_map (λ (t : Table). t.key) (table_named a.registry name) ≡ None →
      Acts old (plain_of (record a { registry = r; blocks = b })) app (Register name size option rules) (answers.Number (a.registry.made + 1))
  registered_all_acts fit none =
      register_acts a old viewed app name size option rules fit none (record a { registry = r; blocks = b }) refl free
      (ap (λ (l : Listing). let x : Inside = record a { registry = l; blocks = b } in means x) (added a keeps tied app name size option rules r adds)
      ∙ registered_means a keeps tied app name size option rules r adds b c opens has.class has.is has.within sizes)
      (bags_grown a (record a { registry = r; blocks = b }) (one a keeps tied app name size option rules r adds) refl refl (ap (λ (l : Listing). l.handles) (added a keeps tied app name size option rules r adds))
      (registered_views a keeps tied app name size option rules r adds b c opens))
