-- Values and rules.
use Rattle.std.proofs.Common.{◌≡◌, ℕ, suc, ◌+◌, ◌<◌, ◌||◌, not, Bool, true, false, cond, eqb, leb, ltb, Option, Some, None, List, [], ◌∷◌, length, get_or, drop, All, refl, ap, sym, ◌∙◌, subst, add-one, arith}
use Rattle.std.proofs.Math.Seq.{drop-cons}
use Rattle.std.proofs.lemmas.Iterator.Adapters.{position_from-zero}
use Rattle.std.specs.List.{position_from}
use Rattle.std.specs.Option.{option_map, option_map_or}
use Rattle.std.proofs.lemmas.Bool.Decides.{nat_tests}
use Rattle.std.proofs.lemmas.List.Elements.{All-nil, All-cons}
use Rattle.tbl_rules.specs.declared.rules.Rule.{Rule}
use Rattle.tbl_words.specs.declared.statuses.TblStatus.TheVariants.{NoLoad, Validation}
use Rattle.tbl_rules.specs.Rules.{is_met, is_misfit, has_misfit, failed_rule}
use Rattle.tbl_words.specs.Tables as state
use Rattle.tbl_words.specs.Machine.{rules_cause, validate_cause, with_validated}
use Rattle.table_blocks.specs.declared.next.Next.{Next}
use Rattle.table_blocks.specs.declared.next.Next.TheVariants.{Nothing, Inactive, Staged}
use Rattle.table_blocks.specs.Contents.{Content, is_staged, staged_in, older_in, content_at, validated}
use Rattle.tbl_registry.specs.declared.rows.Handle.{Handle}
use Rattle.tbl_registry.specs.declared.rows.TableRow.{TableRow}
use Rattle.tbl_registry.specs.Listing.{Table, Tells}
use Rattle.table_core.specs.declared.plain.PlainTables.TheInside.{Inside}
use Rattle.table_core.specs.Inside.{staged_of, table_with, Keeps}
use Rattle.table_core.proofs.OtherVersions.{KeepsPresent}
use Rattle.table_core.proofs.Figures.{HasContent}
use Rattle.table_core.proofs.Fields.{found_all}

-- rules without a misfit ask for bytes that are there
pub all_fit : (size : ℕ) (rules : List Rule) → has_misfit size rules ≡ false → All (λ rule. rule.offset < size) rules
all_fit size [] is = All-nil (λ (rule : Rule). rule.offset < size)
all_fit size (rule ∷ rules) is =
    All-cons (λ (r : Rule). r.offset < size) rule rules (below (first (is_misfit size rule) (has_misfit size rules) is))
    (all_fit size rules (second (is_misfit size rule) (has_misfit size rules) is))
  where
    first : (x y : Bool) → (x || y) ≡ false → x ≡ false
    first true y never = absurd (cc (never))
    first false y none = refl

    second : (x y : Bool) → (x || y) ≡ false → y ≡ false
    second true y never = absurd (cc (never))
    second false y none = none

    below : (leb size rule.offset || ltb rule.high rule.low) ≡ false → rule.offset < size
    below none = by_test (first (leb size rule.offset) (ltb rule.high rule.low) none)
      where
        by_test : leb size rule.offset ≡ false → rule.offset < size
        by_test off = grind (arith, nat_tests)

-- What lies beside the present version, by cases. --

pub staged_there : (next : Next) → is_staged next ≡ true → staged_of next ≡ Some (record { value = (staged_in next).bytes; validated = (staged_in next).validated })
staged_there Nothing never = absurd (cc (never))
staged_there (Inactive version) never = absurd (cc (never))
staged_there (Staged staged) is = refl

pub none_older : (next : Next) → is_staged next ≡ true → (older_in next).views ≡ 0
none_older Nothing never = absurd (cc (never))
none_older (Inactive version) never = absurd (cc (never))
none_older (Staged staged) is = refl

-- A validation. --

-- a table with this staged
abbrev pub with_staging : Bool → Table → Content → Option state.Staged → state.Table
with_staging registered t c staged = record (table_with registered t c) { staged = staged }

pub unstaged_cause : (registered : Bool) (t : Table) (c : Content) → staged_of c.next ≡ None → validate_cause (table_with registered t c) ≡ Some NoLoad
unstaged_cause registered t c none = ap (λ o. validate_cause (with_staging registered t c o)) none

pub staged_checked : (registered : Bool) (t : Table) (c : Content) (rules : List Rule) (value : List ℕ) (failed : Option ℕ) → is_staged c.next ≡ true → rules ≡ t.rules → value ≡ (staged_in c.next).bytes → failed ≡ failed_rule rules value →
    validate_cause (table_with registered t c) ≡ option_map_or (λ number. Some (Validation number)) failed None
staged_checked registered t c rules value failed there same_rules same_value is =
    ap (λ o. validate_cause (with_staging registered t c o)) (staged_there c.next there)
    ∙ ap (λ v. rules_cause t.rules v None) (sym same_value)
    ∙ ap (λ rs. rules_cause rs value None) (sym same_rules)
    ∙ ap (λ o. option_map_or (λ number. Some (Validation number)) o None) (sym is)

pub validated_here : (registered : Bool) (t : Table) (c : Content) → is_staged c.next ≡ true → table_with registered t (validated c) ≡ with_validated (table_with registered t c)
validated_here registered t c there = sym (ap (λ o. with_validated (with_staging registered t c o)) (staged_there c.next there))

pub validated_keeps : (c : Content) → is_staged c.next ≡ true → KeepsPresent c (validated c)
validated_keeps c there = record { size = refl; option = refl; version = refl; present = refl; none_before = none_older c.next there; none_after = refl }

-- The first rule that fails. --

pub fails_here : {X : Type 0} (p : X → Bool) (xs : List X) (i : ℕ) (d : X) → i < length xs → p (get_or xs i d) ≡ true → position_from p i (drop i xs) ≡ Some i
fails_here {X} p xs i d within is =
    ap (position_from p i) (drop-cons xs i d within) ∙ ap (λ b. cond {A = Option ℕ} b (Some i) (position_from p (i + 1) (drop (suc i) xs))) is

pub met_here : {X : Type 0} (p : X → Bool) (xs : List X) (i : ℕ) (d : X) → i < length xs → p (get_or xs i d) ≡ false → position_from p i (drop i xs) ≡ position_from p (i + 1) (drop (i + 1) xs)
met_here {X} p xs i d within is =
    ap (position_from p i) (drop-cons xs i d within) ∙ ap (λ b. cond {A = Option ℕ} b (Some i) (position_from p (i + 1) (drop (suc i) xs))) is
    ∙ ap (λ k. position_from p (i + 1) (drop k xs)) (sym (add-one i))

pub from_start : (rules : List Rule) (value : List ℕ) (o : Option ℕ) → position_from (λ rule. not (is_met value rule)) 0 rules ≡ o → option_map (λ place. place + 1) o ≡ failed_rule rules value
from_start rules value o is = ap (option_map (λ place. place + 1)) (sym is ∙ sym (position_from-zero (λ rule. not (is_met value rule)) rules))

-- The rules that the registry tells. --

module _ (a : Inside) (keeps : Keeps a) (h : Handle) (has : HasContent a h) (row : TableRow) (tells : Tells a.registry h.key row) where
  pub row_rules : row.rules.now ≡ has.t.rules
  row_rules = tells.rules ∙ ap (λ (t : Table). t.rules) (some_is has.t (sym tells.there ∙ has.there))
    where
      some_is : (t : Table) → Some tells.t ≡ Some t → tells.t ≡ t
      some_is t same = ap (λ o. option_map_or (λ w. w) o tells.t) same

  -- they ask for bytes that are there
  pub row_fits : (rules : List Rule) (value : List ℕ) → rules ≡ row.rules.now → length value ≡ (content_at a.blocks.tables h.key).size → All (λ rule. rule.offset < length value) rules
  row_fits rules value are long =
      subst (λ (rs : List Rule). All (λ rule. rule.offset < length value) rs) (sym (are ∙ row_rules))
      (subst (λ (n : ℕ). All (λ (rule : Rule). rule.offset < n) has.t.rules) (sym (long ∙ ap (λ key. (content_at a.blocks.tables key).size) (sym has.known) ∙ has.filled.size))
      (all_fit has.t.size has.t.rules (found_all (λ (t : Table). has_misfit t.size t.rules ≡ false) (λ t. eqb t.key h.key) a.registry.tables has.t keeps.fit has.there)))
