-- Updates and loads: why they are refused, and what the machine makes of the state.
use Rattle.std.proofs.Common.{◌≡◌, ℕ, ◌+◌, ◌^◌, ◌<◌, not, Bool, true, false, ltb, Option, Some, None, IfSome, List, ap, sym, ◌∙◌, subst, arith}
use Rattle.std.specs.Option.{option_map_or}
use Rattle.std.proofs.lemmas.Bool.Decides.{nat_tests}
use Rattle.tbl_rules.specs.declared.rules.Rule.{Rule}
use Rattle.tbl_words.specs.declared.statuses.TblStatus.TheVariants.{InfoNoUpdatePending, NotValidated, Validation, InfoTableLocked}
use Rattle.tbl_rules.specs.Rules.{failed_rule}
use Rattle.tbl_words.specs.Tables as state
use Rattle.tbl_words.specs.Machine.{refused_if, with_range, rules_cause, update_cause, is_locked, with_update, after_update, after_load}
use Rattle.tbl_registry.specs.declared.rows.Handle.{Handle}
use Rattle.tbl_registry.specs.Listing.{Table, IsTied, handle_at}
use Rattle.table_blocks.specs.Contents.{Content, content_at, is_staged, staged_in}
use Rattle.table_core.specs.declared.plain.PlainTables.TheInside.{Inside}
use Rattle.table_core.specs.Core.{Plain, HasNextVersion}
use Rattle.table_core.specs.Inside.{plain_of, means, table_in, table_with, staged_of}
use Rattle.table_core.proofs.Figures.{HasContent}
use Rattle.table_core.proofs.Fields.{table_here}
use Rattle.table_core.proofs.Validations.{with_staging, staged_there}

-- An update. --

pub unstaged_update : (s : state.State) (registered : Bool) (t : Table) (c : Content) → staged_of c.next ≡ None → update_cause s (table_with registered t c) ≡ Some InfoNoUpdatePending
unstaged_update s registered t c none = ap (λ o. update_cause s (with_staging registered t c o)) none

pub update_checked : (s : state.State) (registered : Bool) (t : Table) (c : Content) (validated lent : Bool) → is_staged c.next ≡ true → (staged_in c.next).validated ≡ validated → is_locked s (table_with registered t c) ≡ lent →
    update_cause s (table_with registered t c) ≡ refused_if (not validated) NotValidated (refused_if lent InfoTableLocked None)
update_checked s registered t c validated lent there is locked =
    ap (λ o. update_cause s (with_staging registered t c o)) (staged_there c.next there)
    ∙ ap (λ b. refused_if (not b) NotValidated (refused_if (is_locked s (table_with registered t c)) InfoTableLocked None)) is
    ∙ ap (λ b. refused_if (not validated) NotValidated (refused_if b InfoTableLocked None)) locked

-- A load. --

pub load_checked : (s : state.State) (registered : Bool) (t : Table) (c : Content) (rules : List Rule) (value : List ℕ) (offset : ℕ) (bytes : List ℕ) (failed : Option ℕ) (lent : Bool) →
    rules ≡ t.rules → value ≡ c.present.bytes → failed ≡ failed_rule rules (with_range value offset bytes) → is_locked s (table_with registered t c) ≡ lent →
    rules_cause t.rules (with_range c.present.bytes offset bytes) (refused_if (is_locked s (table_with registered t c)) InfoTableLocked None) ≡ option_map_or (λ number. Some (Validation number)) failed (refused_if lent InfoTableLocked None)
load_checked s registered t c rules value offset bytes failed lent same_rules same_value is locked =
    ap (λ v. rules_cause t.rules (with_range v offset bytes) (refused_if (is_locked s (table_with registered t c)) InfoTableLocked None)) (sym same_value)
    ∙ ap (λ rs. rules_cause rs (with_range value offset bytes) (refused_if (is_locked s (table_with registered t c)) InfoTableLocked None)) (sym same_rules)
    ∙ ap (λ o. option_map_or (λ number. Some (Validation number)) o (refused_if (is_locked s (table_with registered t c)) InfoTableLocked None)) (sym is)
    ∙ ap (λ b. option_map_or (λ number. Some (Validation number)) failed (refused_if b InfoTableLocked None)) locked

-- The state afterwards. --

module _ (a : Inside) (tied : IsTied a.registry) (n : ℕ) (h : Handle) (found : handle_at a.registry.handles n ≡ Some h) (has : HasContent a h) where
  abbrev its : state.Table
  its = table_in a.registry.handles a.blocks.tables has.t

  pub updated_so : is_staged (content_at a.blocks.tables h.key).next ≡ true → after_update (means a) n ≡ with_update (means a) (staged_in (content_at a.blocks.tables h.key).next).bytes its
  updated_so there =
      ap (λ o. option_map_or (λ (t : state.Table). option_map_or (λ (staged : state.Staged). with_update (means a) staged.value t) t.staged (means a)) o (means a)) (table_here a tied n h found has.t has.there)
      ∙ ap (λ (c : Content). option_map_or (λ (staged : state.Staged). with_update (means a) staged.value its) (staged_of c.next) (means a)) (ap (content_at a.blocks.tables) has.known)
      ∙ ap (λ o. option_map_or (λ (staged : state.Staged). with_update (means a) staged.value its) o (means a)) (staged_there (content_at a.blocks.tables h.key).next there)

  pub loaded_so : (offset : ℕ) (bytes : List ℕ) → after_load (means a) n offset bytes ≡ with_update (means a) (with_range (content_at a.blocks.tables h.key).present.bytes offset bytes) its
  loaded_so offset bytes =
      ap (λ o. option_map_or (λ (t : state.Table). with_update (means a) (with_range t.value offset bytes) t) o (means a)) (table_here a tied n h found has.t has.there)
      ∙ ap (λ (c : Content). with_update (means a) (with_range c.present.bytes offset bytes) its) (ap (content_at a.blocks.tables) has.known)

-- One version more. --

pub is_next : (n : ℕ) → ltb n 18446744073709551615 ≡ true → n < 18446744073709551615
is_next n is = grind (arith, nat_tests)

pub never_next : (n : ℕ) → ltb n 18446744073709551615 ≡ false → n < 18446744073709551615 → ⊥
never_next n is lt = grind (arith, nat_tests)

-- whether a number is left for it, by what is kept for the table of a live handle
module _ (a : Inside) (core : Plain) (viewed : plain_of a ≡ core) (tied : IsTied a.registry) (n : ℕ) (h : Handle) (found : handle_at a.registry.handles n ≡ Some h) (has : HasContent a h) where
  abbrev Left : Option state.Table → Type 0
  Left o = IfSome o (λ (t : state.Table). t.version + 1 < 2 ^ 64)

  abbrev LeftIn : Plain → Type 0
  LeftIn p = HasNextVersion p.state n

  same : (content_at a.blocks.tables has.t.key).version ≡ (content_at a.blocks.tables h.key).version
  same = ap (λ key. (content_at a.blocks.tables key).version) has.known

  small : {m k : ℕ} → m ≡ k → m + 1 < 2 ^ 64 → k < 18446744073709551615
  small is lt = omega (arith, is, lt)

  large : {m k : ℕ} → m ≡ k → k < 18446744073709551615 → m + 1 < 2 ^ 64
  large is lt = omega (arith, is, lt)

  pub next_here : HasNextVersion core.state n → (content_at a.blocks.tables h.key).version < 18446744073709551615
  next_here left = small same (subst Left (table_here a tied n h found has.t has.there) (subst LeftIn (sym viewed) left))

  pub next_left : (content_at a.blocks.tables h.key).version < 18446744073709551615 → HasNextVersion core.state n
  next_left lt = subst LeftIn viewed (subst Left (sym (table_here a tied n h found has.t has.there)) (large same lt))
