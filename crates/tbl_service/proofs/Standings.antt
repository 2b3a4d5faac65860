-- Who calls, and what a call leaves of who has ended.
use Rattle.std.proofs.Common.{◌≡◌, ℕ, zero, suc, ◌+◌, ◌-◌, ◌≤◌, Bool, true, false, cond, true≢false, eqb, List, [], ◌∷◌, get_or, set, replicate, All, Option, Some, None, IsTrue, refl, ap, sym, ◌∙◌, arith}
use Rattle.std.specs.Option.{option_map_or}
use Rattle.std.proofs.lemmas.Bool.Decides.{nat_tests}
use Rattle.std.proofs.lemmas.List.{get_or-set_other, get_or-replicate}
use Rattle.std.proofs.lemmas.List.Elements.{All-nil, All-cons}
use Rattle.fsw_base.specs.Limits.{Limits}
use Rattle.tbl_words.specs.declared.calls.TblAnswer.{TblAnswer}
use Rattle.tbl_words.specs.declared.calls.TblAnswer.TheVariants as answers
use Rattle.tbl_words.specs.declared.history.Call.{Call}
use Rattle.tbl_words.specs.declared.history.Call.TheVariants.{Register, Share, Unregister, Stage, Validate, Update, Abort, Load, GetAddress, ReleaseAddress, Status, End}
use Rattle.tbl_words.specs.declared.history.Entry.{Entry}
use Rattle.tbl_words.specs.declared.statuses.TblStatus.{TblStatus}
use Rattle.tbl_words.specs.Tables.{Table, Staged, State, opening, has_ended, table_of, table_named, with_handle, with_table}
use Rattle.tbl_words.specs.Machine.{accept, cause, outcome, step, may_call, LegalFrom, with_new_handle, with_new_table, with_hold, with_staged, with_validated, with_table_of, with_update, with_range}

-- whether an application has ended, by the list of those that have
abbrev closed : List Bool → ℕ → Bool
closed ended app = cond {A = Bool} (eqb app 0) true (get_or ended (app - 1) true)

-- who may call has a number from 1 on
pub caller_from_one : (s : State) (app : ℕ) → IsTrue (may_call s app) → 1 ≤ app
caller_from_one s zero may = absurd (true≢false (sym may))
caller_from_one s (suc n) may = omega arith

pub callers_from_one : (limits : Limits) (s : State) (es : List Entry) → LegalFrom limits s es → All (λ (e : Entry). 1 ≤ e.app) es
callers_from_one limits s [] legal = All-nil (λ (e : Entry). 1 ≤ e.app)
callers_from_one limits s (e ∷ es) legal =
    All-cons (λ (x : Entry). 1 ≤ x.app) e es (caller_from_one s e.app legal.0) (callers_from_one limits ((step limits s e.app e.call).1) es legal.2)

-- whether it is an application's last call
abbrev is_end : Call → Bool
is_end End = true
is_end call = false

-- One call. --

module _ (limits : Limits) (s : State) (app : ℕ) where
  tables_apart : (handle : ℕ) (change : Table → Table) → (with_table_of s handle change).ended ≡ s.ended
  tables_apart handle change = by_table (table_of s handle)
    where
      by_table : (found : Option Table) → (option_map_or (λ (t : Table). record s { tables = with_table change t.number s.tables }) found s).ended ≡ s.ended
      by_table None = refl
      by_table (Some t) = refl

  accepted : (call : Call) → is_end call ≡ false → (accept limits s app call).1.ended ≡ s.ended
  accepted (Register name size option rules) other = by_name (table_named s.tables name)
    where
      by_name : (found : Option Table) →
          ((option_map_or {U = TblAnswer × State} (λ (t : Table). (answers.Duplicate t.number, s)) found (answers.Number (s.handles_made + 1), with_new_table limits s app name size option rules)).1).ended ≡ s.ended
      by_name None = refl
      by_name (Some t) = refl
  accepted (Share name) other = by_name (table_named s.tables name)
    where
      by_name : (found : Option Table) → (option_map_or (λ (t : Table). with_new_handle s app t.number t.loaded) found s).ended ≡ s.ended
      by_name None = refl
      by_name (Some t) = refl
  accepted (Unregister handle) other = refl
  accepted (Stage handle offset bytes) other = tables_apart handle (λ t. with_staged (with_range t.value offset bytes) false t)
  accepted (Validate handle) other = tables_apart handle with_validated
  accepted (Update handle) other = by_table (table_of s handle)
    where
      by_staged : (t : Table) (staged : Option Staged) → (option_map_or (λ (x : Staged). with_update s x.value t) staged s).ended ≡ s.ended
      by_staged t None = refl
      by_staged t (Some x) = refl

      by_table : (found : Option Table) → (option_map_or (λ (t : Table). option_map_or (λ (x : Staged). with_update s x.value t) t.staged s) found s).ended ≡ s.ended
      by_table None = refl
      by_table (Some t) = by_staged t t.staged
  accepted (Abort handle) other = tables_apart handle (λ t. record t { staged = None })
  accepted (Load handle offset bytes) other = by_table (table_of s handle)
    where
      by_table : (found : Option Table) → (option_map_or (λ (t : Table). with_update s (with_range t.value offset bytes) t) found s).ended ≡ s.ended
      by_table None = refl
      by_table (Some t) = refl
  accepted (GetAddress handle) other = by_table (table_of s handle)
    where
      by_table : (found : Option Table) → (option_map_or (λ (t : Table). record s { handles = with_handle (with_hold t.version t.value) handle s.handles }) found s).ended ≡ s.ended
      by_table None = refl
      by_table (Some t) = refl
  accepted (ReleaseAddress handle) other = refl
  accepted (Status handle) other = refl
  accepted End other = absurd (true≢false other)

  -- a call that isn't the last one ends nobody
  stepped : (call : Call) → is_end call ≡ false → (step limits s app call).1.ended ≡ s.ended
  stepped call other = by_cause (cause limits s app call)
    where
      by_cause : (why : Option TblStatus) → (outcome limits s app call why).1.ended ≡ s.ended
      by_cause None = accepted call other
      by_cause (Some status) = refl

  -- and the last one of an application ends no other
  pub stays_apart : (other : ℕ) (call : Call) → 1 ≤ app → 1 ≤ other → eqb app other ≡ false → has_ended s other ≡ false → has_ended ((step limits s app call).1) other ≡ false
  stays_apart other End first second apart standing =
      ap (λ b. cond {A = Bool} (eqb other 0) true b) (get_or-set_other s.ended (app - 1) (other - 1) true true (λ same. true≢false (sym (one app other first second same) ∙ apart))) ∙ standing
    where
      one : (m n : ℕ) → 1 ≤ m → 1 ≤ n → n - 1 ≡ m - 1 → eqb m n ≡ true
      one m n a b same = grind (arith, nat_tests)
  stays_apart other (Register name size option rules) first second apart standing = ap (λ l. closed l other) (stepped (Register name size option rules) refl) ∙ standing
  stays_apart other (Share name) first second apart standing = ap (λ l. closed l other) (stepped (Share name) refl) ∙ standing
  stays_apart other (Unregister handle) first second apart standing = ap (λ l. closed l other) (stepped (Unregister handle) refl) ∙ standing
  stays_apart other (Stage handle offset bytes) first second apart standing = ap (λ l. closed l other) (stepped (Stage handle offset bytes) refl) ∙ standing
  stays_apart other (Validate handle) first second apart standing = ap (λ l. closed l other) (stepped (Validate handle) refl) ∙ standing
  stays_apart other (Update handle) first second apart standing = ap (λ l. closed l other) (stepped (Update handle) refl) ∙ standing
  stays_apart other (Abort handle) first second apart standing = ap (λ l. closed l other) (stepped (Abort handle) refl) ∙ standing
  stays_apart other (Load handle offset bytes) first second apart standing = ap (λ l. closed l other) (stepped (Load handle offset bytes) refl) ∙ standing
  stays_apart other (GetAddress handle) first second apart standing = ap (λ l. closed l other) (stepped (GetAddress handle) refl) ∙ standing
  stays_apart other (ReleaseAddress handle) first second apart standing = ap (λ l. closed l other) (stepped (ReleaseAddress handle) refl) ∙ standing
  stays_apart other (Status handle) first second apart standing = ap (λ l. closed l other) (stepped (Status handle) refl) ∙ standing

-- The end. --

set_ended : (ended : List Bool) (i : ℕ) → get_or (set ended i true) i true ≡ true
set_ended [] zero = refl
set_ended [] (suc i) = refl
set_ended (b ∷ ended) zero = refl
set_ended (b ∷ ended) (suc i) = set_ended ended i

-- whoever made its last call has ended
pub ends : (limits : Limits) (s : State) (app : ℕ) → has_ended ((step limits s app End).1) app ≡ true
ends limits s app = by_test (eqb app 0)
  where
    by_test : (b : Bool) → cond {A = Bool} b true (get_or (set s.ended (app - 1) true) (app - 1) true) ≡ true
    by_test true = refl
    by_test false = set_ended s.ended (app - 1)

-- Before the first call nobody has ended. --

pub opened : (limits : Limits) (apps app : ℕ) → 1 ≤ app → app ≤ apps → has_ended (opening limits apps) app ≡ false
opened limits apps app first known = ap (λ test. cond {A = Bool} test true (get_or (replicate apps false) (app - 1) true)) (not_zero app first) ∙ get_or-replicate apps (app - 1) false true (omega (arith, first, known))
  where
    not_zero : (n : ℕ) → 1 ≤ n → eqb n 0 ≡ false
    not_zero n a = grind (arith, nat_tests)
