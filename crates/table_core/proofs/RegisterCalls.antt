-- A registration, by what is found and what is free.
use Rattle.std.proofs.Common.{◌≡◌, ℕ, ◌+◌, ◌<◌, ◌≤◌, ◌&&◌, ◌||◌, not, ltb, Bool, true, false, cond, eqb, leb, Option, Some, None, List, [], ◌∷◌, length, find, refl, ap, sym, ◌∙◌, subst, arith}
use Rattle.std.specs.Option.{option_map, option_map_or}
use Rattle.std.specs.Str.{bytes_eq}
use Rattle.std.proofs.lemmas.Bool.Decides.{nat_tests}
use Rattle.fsw_base.specs.Limits.{Limits, limits_of}
use Rattle.es_pool.specs.Pool as pool
use Rattle.tbl_rules.specs.declared.rules.Rule.{Rule}
use Rattle.tbl_words.specs.declared.statuses.TblStatus.{TblStatus}
use Rattle.tbl_words.specs.declared.statuses.TblStatus.TheVariants.{ErrInvalidName, ErrInvalidSize, ErrInvalidOptions, ErrDuplicateNotOwned, ErrDuplicateDiffSize, ErrRegistryFull, ErrHandlesFull, ErrMemBlockSize}
use Rattle.tbl_words.specs.declared.calls.TblAnswer.TheVariants as answers
use Rattle.tbl_words.specs.declared.history.Call.TheVariants.{Register}
use Rattle.tbl_rules.specs.Rules.{has_misfit}
use Rattle.tbl_words.specs.Tables as state
use Rattle.tbl_words.specs.Machine.{unfit_cause, register_cause, new_table_cause, duplicate_cause, refused_if, with_new_table}
use Rattle.tbl_registry.specs.declared.rows.TableRow.{TableRow}
use Rattle.tbl_registry.specs.Listing.{Table, IsTied, is_live, table_named, owner_handle, Tells}
use Rattle.table_blocks.specs.Held.{HeldViews}
use Rattle.table_core.specs.declared.plain.PlainTables.TheInside.{Inside}
use Rattle.table_core.specs.Core.{Plain, Holds, Acts}
use Rattle.table_core.specs.Inside.{plain_of, means, table_in, Keeps}
use Rattle.table_core.proofs.CallLaws.{step_by, acts_from, acts_still, acts_refused}
use Rattle.table_core.proofs.Fields.{alike, named_here}
use Rattle.table_core.proofs.Pools.{fits_alike}
use Rattle.table_core.proofs.Shares.{IsNamed}

pub some_is : (x y : ℕ) → Some x ≡ Some y → x ≡ y
some_is x y same = ap (λ o. option_map_or (λ w. w) o x) same

-- a test by its denial
pub not_so : (x y : Bool) → not x ≡ y → x ≡ not y
not_so true y is = ap not is
not_so false y is = ap not is

-- Refusals in order. --

first_three : (x y z : Bool) (e f g status : TblStatus) (others : Option TblStatus) → refused_if x e (refused_if y f (refused_if z g None)) ≡ Some status → refused_if x e (refused_if y f (refused_if z g others)) ≡ Some status
first_three true y z e f g status others is = is
first_three false true z e f g status others is = is
first_three false false true e f g status others is = is
first_three false false false e f g status others never = absurd (cc (never))

none_of_three : (x y z : Bool) (e f g : TblStatus) (others : Option TblStatus) → refused_if x e (refused_if y f (refused_if z g None)) ≡ None → refused_if x e (refused_if y f (refused_if z g others)) ≡ others
none_of_three true y z e f g others never = absurd (cc (never))
none_of_three false true z e f g others never = absurd (cc (never))
none_of_three false false true e f g others never = absurd (cc (never))
none_of_three false false false e f g others is = refl

last_of_three : (x y z : Bool) (e f g : TblStatus) → refused_if x e (refused_if y f (refused_if (not z) g None)) ≡ None → z ≡ true
last_of_three true y z e f g never = absurd (cc (never))
last_of_three false true z e f g never = absurd (cc (never))
last_of_three false false false e f g never = absurd (cc (never))
last_of_three false false true e f g is = refl

-- what isn't refused for its options has rules that fit
pub rules_fit : (most : ℕ) (name : List ℕ) (size option : ℕ) (rules : List Rule) → unfit_cause most name size option rules None ≡ None → has_misfit size rules ≡ false
rules_fit most name size option rules is =
    by_test (eqb (length name) 0 || ltb 15 (length name)) (eqb size 0 || ltb most size) (ltb 2 option) (has_misfit size rules) is
  where
    by_test : (x y z w : Bool) → refused_if x ErrInvalidName (refused_if y ErrInvalidSize (refused_if (z || w) ErrInvalidOptions None)) ≡ None → w ≡ false
    by_test true y z w never = absurd (cc (never))
    by_test false true z w never = absurd (cc (never))
    by_test false false true w never = absurd (cc (never))
    by_test false false false true never = absurd (cc (never))
    by_test false false false false fit = refl

-- Room for one table more. --

pub below : (m n : ℕ) → n < m → leb m n ≡ false
below m n less = grind (arith, nat_tests)

pub at_least : (m n : ℕ) → m ≤ n → leb m n ≡ true
at_least m n there = grind (arith, nat_tests)

abbrev by_three : Bool → Bool → Bool → Option TblStatus
by_three x y z = refused_if x ErrRegistryFull (refused_if y ErrHandlesFull (refused_if (not z) ErrMemBlockSize None))

pub new_table_checked : (a : Inside) → Keeps a → IsTied a.registry → (size option : ℕ) (full_tables full_handles fits : Bool) →
    leb a.config.tables (length a.registry.tables) ≡ full_tables → leb a.config.handles (length a.registry.handles) ≡ full_handles → pool.fits a.blocks.pool size (state.blocks_for option) ≡ fits →
    new_table_cause (limits_of a.config) (means a) size option ≡ refused_if full_tables ErrRegistryFull (refused_if full_handles ErrHandlesFull (refused_if (not fits) ErrMemBlockSize None))
new_table_checked a keeps tied size option full_tables full_handles fits tables handles room =
    ap (λ n. by_three (leb a.config.tables n) (leb a.config.handles (length (means a).handles)) (state.fits (state.account_of (limits_of a.config) (means a)) size (state.blocks_for option))) ((alike a tied).tables_many)
    ∙ ap (λ b. by_three b (leb a.config.handles (length (means a).handles)) (state.fits (state.account_of (limits_of a.config) (means a)) size (state.blocks_for option))) tables
    ∙ ap (λ n. by_three full_tables (leb a.config.handles n) (state.fits (state.account_of (limits_of a.config) (means a)) size (state.blocks_for option))) ((alike a tied).handles_many)
    ∙ ap (λ b. by_three full_tables b (state.fits (state.account_of (limits_of a.config) (means a)) size (state.blocks_for option))) handles
    ∙ ap (by_three full_tables full_handles) (sym (fits_alike a.blocks.pool (state.account_of (limits_of a.config) (means a)) size (state.blocks_for option) keeps.account) ∙ room)

-- so the pool has the blocks
pub new_table_fits : (a : Inside) (size option : ℕ) → new_table_cause (limits_of a.config) (means a) size option ≡ None →
    state.fits (state.account_of (limits_of a.config) (means a)) size (state.blocks_for option) ≡ true
new_table_fits a size option is =
    last_of_three (leb a.config.tables (length (means a).tables)) (leb a.config.handles (length (means a).handles)) (state.fits (state.account_of (limits_of a.config) (means a)) size (state.blocks_for option)) ErrRegistryFull ErrHandlesFull ErrMemBlockSize is

-- The call. --

module _ (a : Inside) (old : Plain) (viewed : plain_of a ≡ old) (app : ℕ) (name : List ℕ) (size option : ℕ) (rules : List Rule) where
  abbrev limits : Limits
  limits = limits_of a.config

  abbrev others : Option TblStatus
  others = option_map_or (duplicate_cause app size) (state.table_named (means a).tables name) (new_table_cause limits (means a) size option)

  pub register_unfit : (status : TblStatus) → unfit_cause a.config.tablemax name size option rules None ≡ Some status → Acts old old app (Register name size option rules) (answers.Refused status)
  register_unfit status is =
      acts_refused a old app (Register name size option rules) status viewed
      (first_three (eqb (length name) 0 || ltb 15 (length name)) (eqb size 0 || ltb a.config.tablemax size) (ltb 2 option || has_misfit size rules) ErrInvalidName ErrInvalidSize ErrInvalidOptions status others is)

  module _ (fit : unfit_cause a.config.tablemax name size option rules None ≡ None) where
    cause_is : register_cause limits (means a) app name size option rules ≡ others
    cause_is = none_of_three (eqb (length name) 0 || ltb 15 (length name)) (eqb size 0 || ltb a.config.tablemax size) (ltb 2 option || has_misfit size rules) ErrInvalidName ErrInvalidSize ErrInvalidOptions others fit

    -- A registered table has the name. --

    module _ (key : ℕ) (named : IsNamed a name key) (row : TableRow) (tells : Tells a.registry key row) where
      same_table : tells.t ≡ named.t
      same_table = some_is (sym tells.there ∙ named.there)
        where
          some_is : Some tells.t ≡ Some named.t → tells.t ≡ named.t
          some_is same = ap (λ o. option_map_or (λ w. w) o tells.t) same

      duplicate_is : register_cause limits (means a) app name size option rules ≡ refused_if (not (eqb row.app app)) ErrDuplicateNotOwned (refused_if (not (eqb row.size size)) ErrDuplicateDiffSize None)
      duplicate_is =
          cause_is
          ∙ ap (λ o. option_map_or (duplicate_cause app size) o (new_table_cause limits (means a) size option)) (named_here a name ∙ ap (option_map (table_in a.registry.handles a.blocks.tables)) named.found)
          ∙ ap (λ owner. refused_if (not (eqb owner app)) ErrDuplicateNotOwned (refused_if (not (eqb named.t.size size)) ErrDuplicateDiffSize None)) (sym (tells.app ∙ ap (λ (t : Table). t.owner) same_table))
          ∙ ap (λ n. refused_if (not (eqb row.app app)) ErrDuplicateNotOwned (refused_if (not (eqb n size)) ErrDuplicateDiffSize None)) (sym (tells.size ∙ ap (λ (t : Table). t.size) same_table))

      pub register_unowned : eqb row.app app ≡ false → Acts old old app (Register name size option rules) (answers.Refused ErrDuplicateNotOwned)
      register_unowned is =
          acts_refused a old app (Register name size option rules) ErrDuplicateNotOwned viewed
          (duplicate_is ∙ ap (λ b. refused_if (not b) ErrDuplicateNotOwned (refused_if (not (eqb row.size size)) ErrDuplicateDiffSize None)) is)

      pub register_other_size : eqb row.app app ≡ true → eqb row.size size ≡ false → Acts old old app (Register name size option rules) (answers.Refused ErrDuplicateDiffSize)
      register_other_size is other =
          acts_refused a old app (Register name size option rules) ErrDuplicateDiffSize viewed
          (duplicate_is
          ∙ ap (λ b. refused_if (not b) ErrDuplicateNotOwned (refused_if (not (eqb row.size size)) ErrDuplicateDiffSize None)) is
          ∙ ap (λ b. refused_if (not b) ErrDuplicateDiffSize None) other)

      -- its owner's handle is live
      pub owner_live : row.handle ≡ Some named.t.number
      owner_live =
          tells.handle
          ∙ ap (owner_handle a.registry.handles) same_table
          ∙ ap (λ b. cond {A = Option ℕ} b (Some named.t.number) None) (both (is_live a.registry.handles named.t.number) (bytes_eq named.t.name name) (passes a.registry.tables named.found))
        where
          both : (x y : Bool) → (x && y) ≡ true → x ≡ true
          both true y is = refl
          both false y never = absurd (cc (never))

          some_is : (t : Table) → Some t ≡ Some named.t → t ≡ named.t
          some_is t same = ap (λ o. option_map_or (λ w. w) o t) same

          by_test : (t : Table) (rest : Option Table) → (rest ≡ Some named.t → (is_live a.registry.handles named.t.number && bytes_eq named.t.name name) ≡ true) → (b : Bool) → (is_live a.registry.handles t.number && bytes_eq t.name name) ≡ b →
              cond {A = Option Table} b (Some t) rest ≡ Some named.t → (is_live a.registry.handles named.t.number && bytes_eq named.t.name name) ≡ true
          by_test t rest ih true is here = subst (λ (u : Table). (is_live a.registry.handles u.number && bytes_eq u.name name) ≡ true) (some_is t here) is
          by_test t rest ih false is here = ih here

          passes : (tables : List Table) → find (λ (t : Table). is_live a.registry.handles t.number && bytes_eq t.name name) tables ≡ Some named.t → (is_live a.registry.handles named.t.number && bytes_eq named.t.name name) ≡ true
          passes [] never = absurd (cc (never))
          passes (t ∷ tables) is = by_test t (find (λ (u : Table). is_live a.registry.handles u.number && bytes_eq u.name name) tables) (λ rest. passes tables rest) (is_live a.registry.handles t.number && bytes_eq t.name name) refl is

      pub register_again : eqb row.app app ≡ true → eqb row.size size ≡ true → Acts old old app (Register name size option rules) (answers.Duplicate named.t.number)
      register_again is same =
          acts_still a old app (Register name size option rules) (answers.Duplicate named.t.number) viewed
          (step_by limits (means a) app (Register name size option rules) None
          (duplicate_is
          ∙ ap (λ b. refused_if (not b) ErrDuplicateNotOwned (refused_if (not (eqb row.size size)) ErrDuplicateDiffSize None)) is
          ∙ ap (λ b. refused_if (not b) ErrDuplicateDiffSize None) same)
          ∙ ap (λ o. option_map_or (λ (t : state.Table). (answers.Duplicate t.number, means a)) o (answers.Number (a.registry.made + 1), with_new_table limits (means a) app name size option rules))
          (named_here a name ∙ ap (option_map (table_in a.registry.handles a.blocks.tables)) named.found))

    -- None has. --

    module _ (none : option_map (λ (t : Table). t.key) (table_named a.registry name) ≡ None) where
      unnamed : state.table_named (means a).tables name ≡ None
      unnamed = named_here a name ∙ by_found (table_named a.registry name) none
        where
          by_found : (o : Option Table) → option_map (λ (t : Table). t.key) o ≡ None → option_map (table_in a.registry.handles a.blocks.tables) o ≡ None
          by_found None is = refl
          by_found (Some t) never = absurd (cc (never))

      new_is : register_cause limits (means a) app name size option rules ≡ new_table_cause limits (means a) size option
      new_is = cause_is ∙ ap (λ o. option_map_or (duplicate_cause app size) o (new_table_cause limits (means a) size option)) unnamed

      pub register_full : (status : TblStatus) → new_table_cause limits (means a) size option ≡ Some status → Acts old old app (Register name size option rules) (answers.Refused status)
      register_full status is = acts_refused a old app (Register name size option rules) status viewed (new_is ∙ is)

      pub register_acts : (b : Inside) → limits_of b.config ≡ limits → new_table_cause limits (means a) size option ≡ None → means b ≡ with_new_table limits (means a) app name size option rules →
          ((other : ℕ) (bag : HeldViews) → Holds (plain_of a) other bag → Holds (plain_of b) other bag) → Acts old (plain_of b) app (Register name size option rules) (answers.Number (a.registry.made + 1))
      register_acts b same is after bags =
          acts_from a b old app (Register name size option rules) (answers.Number (a.registry.made + 1)) viewed same
          (step_by limits (means a) app (Register name size option rules) None (new_is ∙ is)
          ∙ ap (λ o. option_map_or (λ (t : state.Table). (answers.Duplicate t.number, means a)) o (answers.Number (a.registry.made + 1), with_new_table limits (means a) app name size option rules)) unnamed
          ∙ ap (λ s. (answers.Number (a.registry.made + 1), s)) (sym after))
          (λ other bag apart. bags other bag)
