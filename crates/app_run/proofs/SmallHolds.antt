-- What is held of a table is no longer than the largest table that there may be.
use Rattle.std.proofs.Common.{◌≡◌, ℕ, ◌+◌, ◌≤◌, ◌==◌, ◌||◌, if◌then◌else◌, not, Bool, true, false, cond, true≢false, eqb-true, List, [], ◌∷◌, ◌++◌, length, take, drop, map, filter, Option, Some, None, IfSome, refl, ap, sym, ◌∙◌, subst, arith, length-append, length-take, length-drop}
use Rattle.std.specs.Prelude.{nat_lt}
use Rattle.std.specs.List.{All}
use Rattle.std.specs.Option.{option_map, option_map_or, option_and_then}
use Rattle.std.proofs.lemmas.Bool.Decides.{nat_tests}
use Rattle.std.proofs.lemmas.List.{length-replicate}
use Rattle.std.proofs.lemmas.List.Elements.{All-push, All-weaker, All-map, All-filter}
use Rattle.fsw_base.specs.Limits.{Limits}
use Rattle.tbl_rules.specs.declared.rules.Rule.{Rule}
use Rattle.tbl_words.specs.declared.statuses.TblStatus.{TblStatus}
use Rattle.tbl_words.specs.declared.statuses.TblStatus.TheVariants.{ErrInvalidHandle, ErrInvalidName, ErrInvalidSize, ErrNoAccess, ErrUnregistered, ErrDumpOnly, ErrFileTooLarge}
use Rattle.tbl_words.specs.declared.calls.TblAnswer.{TblAnswer}
use Rattle.tbl_words.specs.declared.calls.TblAnswer.TheVariants as answers
use Rattle.tbl_words.specs.declared.history.Call.{Call}
use Rattle.tbl_words.specs.declared.history.Call.TheVariants.{Register, Share, Unregister, Stage, Validate, Update, Abort, Load, GetAddress, ReleaseAddress, Status, End}
use Rattle.tbl_words.specs.declared.history.Entry.{Entry}
use Rattle.tbl_words.specs.Tables.{Table, Staged, Handle, Hold, State, opening, has_handle, is_live, owns, handle_at, table_at, table_of, table_named, with_handle, with_table, with_mark}
use Rattle.tbl_words.specs.Machine.{cause, accept, outcome, step, state_from, state_after, refused_if, table_cause, stage_cause, new_table, with_new_handle, with_new_table, after_leave, without_handles, with_hold, without_hold, with_staged, with_validated, with_value, with_table_of, with_update, with_range}

-- Of a table: its value, and what is staged, have its size, which is no larger than this.
record FitsSize (most : ℕ) (t : Table) : Type 0 where
  value : length t.value ≡ t.size
  size : t.size ≤ most
  staged : IfSome t.staged (λ (x : Staged). length x.value ≡ t.size)

-- what is held is no longer than this
abbrev IsSmall : ℕ → Option Hold → Type 0
IsSmall most hold = IfSome hold (λ (held : Hold). length held.value ≤ most)

-- The table of each number fits, and what each handle holds is small.
record AreSmall (most : ℕ) (s : State) : Type 0 where
  tables : (number : ℕ) → IfSome (table_at s.tables number) (FitsSize most)
  holds : All (λ (h : Handle). IsSmall most h.hold) s.handles

-- Tables by their numbers. --

found-number : (tables : List Table) (number : ℕ) (t : Table) → table_at tables number ≡ Some t → t.number ≡ number
found-number [] number t is = absurd (cc is)
found-number (u ∷ tables) number t is =
    elim (u.number == number) as (λ b. (u.number == number) ≡ b → cond {A = Option Table} b (Some u) (table_at tables number) ≡ Some t → t.number ≡ number) [
      | true ↦ λ same here. let it : u ≡ t = cc here in sym (ap (λ (x : Table). x.number) it) ∙ eqb-true u.number number same
      | false ↦ λ other there. found-number tables number t there
    ] refl is

-- the table of a handle is that of its number
found-again : (s : State) (handle : ℕ) (t : Table) → table_of s handle ≡ Some t → table_at s.tables t.number ≡ Some t
found-again s handle t is = by_handle (handle_at s.handles handle) is
  where
    by_handle : (h : Option Handle) → option_and_then (λ x. table_at s.tables x.table) h ≡ Some t → table_at s.tables t.number ≡ Some t
    by_handle None never = absurd (cc never)
    by_handle (Some h) there = ap (table_at s.tables) (found-number s.tables h.table t there) ∙ there

found-map : (change : Table → Table) (tables : List Table) (number : ℕ) → ((t : Table) → (change t).number ≡ t.number) →
    table_at (map change tables) number ≡ option_map change (table_at tables number)
found-map change [] number numbers = refl
found-map change (t ∷ tables) number numbers =
    ap (λ n. cond {A = Option Table} (n == number) (Some (change t)) (table_at (map change tables) number)) (numbers t)
    ∙ ap (λ rest. cond {A = Option Table} (t.number == number) (Some (change t)) rest) (found-map change tables number numbers)
    ∙ elim (t.number == number) as (λ b. cond {A = Option Table} b (Some (change t)) (option_map change (table_at tables number)) ≡ option_map change (cond {A = Option Table} b (Some t) (table_at tables number))) [ true ↦ refl | false ↦ refl ]

found-push : (P : Table → Type 0) (tables : List Table) (new : Table) (number : ℕ) → P new → IfSome (table_at tables number) P → IfSome (table_at (tables ++ new ∷ []) number) P
found-push P [] new number fits found = elim (new.number == number) as (λ b. IfSome (cond {A = Option Table} b (Some new) None) P) [ true ↦ fits | false ↦ tt ]
found-push P (t ∷ tables) new number fits found =
    elim (t.number == number) as (λ b. IfSome (cond {A = Option Table} b (Some t) (table_at tables number)) P → IfSome (cond {A = Option Table} b (Some t) (table_at (tables ++ new ∷ []) number)) P) [
      | true ↦ λ is. is
      | false ↦ λ is. found-push P tables new number fits is
    ] found

-- tables that leave by their numbers
found-gone : (keeps : ℕ → Bool) (tables : List Table) (number : ℕ) → keeps number ≡ false → table_at (filter (λ t. keeps t.number) tables) number ≡ None
found-gone keeps [] number gone = refl
found-gone keeps (t ∷ tables) number gone = by_test (t.number == number) (keeps t.number) refl refl (found-gone keeps tables number gone)
  where
    left : List Table
    left = filter (λ u. keeps u.number) tables

    by_test : (b k : Bool) → (t.number == number) ≡ b → keeps t.number ≡ k → table_at left number ≡ None → table_at (cond {A = List Table} k (t ∷ left) left) number ≡ None
    by_test b false is k rest = rest
    by_test false true is k rest = ap (λ b. cond {A = Option Table} b (Some t) (table_at left number)) is ∙ rest
    by_test true true is k rest = absurd (true≢false (sym k ∙ ap keeps (eqb-true t.number number is) ∙ gone))

found-left : (P : Table → Type 0) (keeps : ℕ → Bool) (tables : List Table) (number : ℕ) → IfSome (table_at tables number) P →
    IfSome (table_at (filter (λ t. keeps t.number) tables) number) P
found-left P keeps [] number found = tt
found-left P keeps (t ∷ tables) number found = by_test (t.number == number) (keeps t.number) refl refl found (found-left P keeps tables number)
  where
    left : List Table
    left = filter (λ u. keeps u.number) tables

    by_test : (b k : Bool) → (t.number == number) ≡ b → keeps t.number ≡ k → IfSome (cond {A = Option Table} b (Some t) (table_at tables number)) P →
        (IfSome (table_at tables number) P → IfSome (table_at left number) P) → IfSome (table_at (cond {A = List Table} k (t ∷ left) left) number) P
    by_test true true is k found rest = subst (λ b. IfSome (cond {A = Option Table} b (Some t) (table_at left number)) P) (sym is) found
    by_test false true is k found rest = subst (λ b. IfSome (cond {A = Option Table} b (Some t) (table_at left number)) P) (sym is) (rest found)
    by_test false false is k found rest = rest found
    by_test true false is k found rest =
        subst (λ o. IfSome o P) (sym (found-gone keeps tables number (ap keeps (sym (eqb-true t.number number is)) ∙ k))) tt

-- all tables changed, with their numbers as they were
fits-map : (most : ℕ) (change : Table → Table) (tables : List Table) → ((t : Table) → (change t).number ≡ t.number) → ((t : Table) → FitsSize most t → FitsSize most (change t)) →
    ((n : ℕ) → IfSome (table_at tables n) (FitsSize most)) → (n : ℕ) → IfSome (table_at (map change tables) n) (FitsSize most)
fits-map most change tables numbers fits all n =
    subst (λ o. IfSome o (FitsSize most)) (sym (found-map change tables n numbers)) (by_found (table_at tables n) (all n))
  where
    by_found : (o : Option Table) → IfSome o (FitsSize most) → IfSome (option_map change o) (FitsSize most)
    by_found None fit = tt
    by_found (Some t) fit = fits t fit

-- the table of a number changed
fits-with_table : (most : ℕ) (change : Table → Table) (number : ℕ) (tables : List Table) → ((t : Table) → (change t).number ≡ t.number) →
    ((t : Table) → table_at tables number ≡ Some t → FitsSize most (change t)) →
    ((n : ℕ) → IfSome (table_at tables n) (FitsSize most)) → (n : ℕ) → IfSome (table_at (with_table change number tables) n) (FitsSize most)
fits-with_table most change number tables numbers fits all n =
    subst (λ o. IfSome o (FitsSize most)) (sym (found-map its tables n (λ t. elim (t.number == number) as (λ b. (cond {A = Table} b (change t) t).number ≡ t.number) [ true ↦ numbers t | false ↦ refl ])))
    (by_found (table_at tables n) refl (all n))
  where
    its : Table → Table
    its t = if t.number == number then change t else t

    by_found : (o : Option Table) → table_at tables n ≡ o → IfSome o (FitsSize most) → IfSome (option_map its o) (FitsSize most)
    by_found None is fit = tt
    by_found (Some t) is fit =
        elim (t.number == number) as (λ b. (t.number == number) ≡ b → FitsSize most (cond {A = Table} b (change t) t)) [
          | true ↦ λ same. fits t (ap (table_at tables) (sym (eqb-true t.number number same) ∙ found-number tables n t is) ∙ is)
          | false ↦ λ other. fit
        ] refl

-- Changes. --

-- the table of a handle changed, to one that fits
small-with_table : (most : ℕ) (s : State) (handle : ℕ) (t : Table) (change : Table → Table) → table_of s handle ≡ Some t → ((u : Table) → (change u).number ≡ u.number) →
    (FitsSize most t → FitsSize most (change t)) → AreSmall most s → AreSmall most (record s { tables = with_table change t.number s.tables })
small-with_table most s handle t change found numbers fits small =
    let again = found-again s handle t found in
    let fit : FitsSize most t = subst (λ o. IfSome o (FitsSize most)) again (small.tables t.number) in
    record {
      tables = fits-with_table most change t.number s.tables numbers (λ u there. let same : t ≡ u = cc (again, there) in subst (λ x. FitsSize most (change x)) same (fits fit)) small.tables;
      holds = small.holds;
    }

small-with_table_of : (most : ℕ) (s : State) (handle : ℕ) (change : Table → Table) → ((u : Table) → (change u).number ≡ u.number) →
    ((t : Table) → table_of s handle ≡ Some t → FitsSize most t → FitsSize most (change t)) → AreSmall most s → AreSmall most (with_table_of s handle change)
small-with_table_of most s handle change numbers fits small = by_table (table_of s handle) refl
  where
    by_table : (found : Option Table) → table_of s handle ≡ found → AreSmall most (option_map_or (λ t. record s { tables = with_table change t.number s.tables }) found s)
    by_table None is = small
    by_table (Some t) is = small-with_table most s handle t change is numbers (fits t is) small

-- handles changed, each to what holds no more
holds-map : (most : ℕ) (change : Handle → Handle) (handles : List Handle) → ((h : Handle) → IsSmall most h.hold → IsSmall most (change h).hold) →
    All (λ (h : Handle). IsSmall most h.hold) handles → All (λ (h : Handle). IsSmall most h.hold) (map change handles)
holds-map most change handles few holds =
    All-map (λ (h : Handle). IsSmall most h.hold) change handles (All-weaker (λ (h : Handle). IsSmall most h.hold) (λ h. IsSmall most (change h).hold) few handles holds)

holds-with_handle : (most : ℕ) (change : Handle → Handle) (number : ℕ) (handles : List Handle) → ((h : Handle) → IsSmall most h.hold → IsSmall most (change h).hold) →
    All (λ (h : Handle). IsSmall most h.hold) handles → All (λ (h : Handle). IsSmall most h.hold) (with_handle change number handles)
holds-with_handle most change number handles few holds =
    holds-map most (λ h. if h.number == number then change h else h) handles
    (λ h small. elim (h.number == number) as (λ b. IsSmall most (cond {A = Handle} b (change h) h).hold) [ true ↦ few h small | false ↦ small ]) holds

-- a table updated to a value of its size
small-with_update : (most : ℕ) (s : State) (handle : ℕ) (t : Table) (value : List ℕ) → table_of s handle ≡ Some t → (FitsSize most t → length value ≡ t.size) →
    AreSmall most s → AreSmall most (with_update s value t)
small-with_update most s handle t value found long small =
    let updated = small-with_table most s handle t (with_value value) found (λ u. refl) (λ fits. record { value = long fits; size = fits.size; staged = tt }) small in
    record {
      tables = updated.tables;
      holds = holds-map most (λ h. if h.table == t.number then with_mark h else h) s.handles
          (λ h is. elim (h.table == t.number) as (λ b. IsSmall most (cond {A = Handle} b (with_mark h) h).hold) [ true ↦ is | false ↦ is ]) small.holds;
    }

small-new_handle : (most : ℕ) (s : State) (app table : ℕ) (marked : Bool) → AreSmall most s → AreSmall most (with_new_handle s app table marked)
small-new_handle most s app table marked small = record {
  tables = small.tables;
  holds = All-push (λ (h : Handle). IsSmall most h.hold) s.handles _ small.holds tt;
}

small-new_table : (limits : Limits) (s : State) (app : ℕ) (name : List ℕ) (size option : ℕ) (rules : List Rule) → size ≤ limits.tablemax →
    AreSmall limits.tablemax s → AreSmall limits.tablemax (with_new_table limits s app name size option rules)
small-new_table limits s app name size option rules fits small =
    let new = new_table (s.handles_made + 1) app name size option rules in
    record {
      tables = λ n. found-push (FitsSize limits.tablemax) s.tables new n (record { value = length-replicate {A = ℕ} size 0; size = fits; staged = tt }) (small.tables n);
      holds = All-push (λ (h : Handle). IsSmall limits.tablemax h.hold) s.handles _ small.holds tt;
    }

small-without : (most : ℕ) (s : State) (gone : Handle → Bool) → AreSmall most s → AreSmall most (without_handles gone s)
small-without most s gone small =
    let left = filter (λ h. not (gone h)) s.handles in
    record {
      tables = λ n. found-left (FitsSize most) (has_handle left) (map (after_leave left) s.tables) n
          (fits-map most (after_leave left) s.tables
          (λ t. elim (is_live left t.number) as (λ b. (cond {A = Table} b t (record t { registered = false; staged = None })).number ≡ t.number) [ true ↦ refl | false ↦ refl ])
          (λ t fits. elim (is_live left t.number) as (λ b. FitsSize most (cond {A = Table} b t (record t { registered = false; staged = None }))) [
            | true ↦ fits
            | false ↦ record { value = fits.value; size = fits.size; staged = tt }
          ])
          small.tables n);
      holds = All-filter (λ h. not (gone h)) (λ (h : Handle). IsSmall most h.hold) s.handles small.holds;
    }

-- Calls that aren't refused. --

-- a load keeps within its table
within : (s : State) (app handle offset : ℕ) (bytes : List ℕ) (others : Table → Option TblStatus) (t : Table) → table_of s handle ≡ Some t →
    table_cause s app handle (λ u. stage_cause s offset bytes (others u) u) ≡ None → offset + length bytes ≤ t.size
within s app handle offset bytes others t found free = by_access (is_live s.handles handle) (owns s.handles app handle) free
  where
    by_size : (most n : ℕ) → nat_lt most n ≡ false → n ≤ most
    by_size most n is = grind (arith, nat_tests)

    by_stage : (dump large : Bool) (rest : Option TblStatus) → refused_if dump ErrDumpOnly (refused_if large ErrFileTooLarge rest) ≡ None → large ≡ false
    by_stage true large rest is = absurd (cc is)
    by_stage false true rest is = absurd (cc is)
    by_stage false false rest is = refl

    by_registered : (registered : Bool) → refused_if (not registered) ErrUnregistered (stage_cause s offset bytes (others t) t) ≡ None → stage_cause s offset bytes (others t) t ≡ None
    by_registered true is = is
    by_registered false is = absurd (cc is)

    by_table : (table : Option Table) → table ≡ Some t →
        option_map_or (λ (u : Table). refused_if (not u.registered) ErrUnregistered (stage_cause s offset bytes (others u) u)) table None ≡ None → offset + length bytes ≤ t.size
    by_table None never is = absurd (cc never)
    by_table (Some u) same is =
        let it : u ≡ t = cc same in
        let its = subst (λ x. refused_if (not x.registered) ErrUnregistered (stage_cause s offset bytes (others x) x) ≡ None) it is in
        by_size t.size (offset + length bytes) (by_stage (t.option == 2) (nat_lt t.size (offset + length bytes)) _ (by_registered t.registered its))

    by_access : (live own : Bool) →
        refused_if (not live) ErrInvalidHandle (refused_if (not own) ErrNoAccess
        (option_map_or (λ (u : Table). refused_if (not u.registered) ErrUnregistered (stage_cause s offset bytes (others u) u)) (table_of s handle) None)) ≡ None →
        offset + length bytes ≤ t.size
    by_access true true is = by_table (table_of s handle) found is
    by_access true false is = absurd (cc is)
    by_access false own is = absurd (cc is)

-- a range that keeps within a value leaves its length
range-long : (value : List ℕ) (offset : ℕ) (bytes : List ℕ) → offset + length bytes ≤ length value →
    length (take offset value ++ bytes ++ drop (offset + length bytes) value) ≡ length value
range-long value offset bytes fits =
    omega (arith, length-append {A = ℕ}, length-take offset value, length-drop (offset + length bytes) value)

-- a staged value that is validated
validated-fits : (most : ℕ) (t : Table) → FitsSize most t → FitsSize most (with_validated t)
validated-fits most t fits = by_staged t.staged refl
  where
    by_staged : (staged : Option Staged) → t.staged ≡ staged → FitsSize most (option_map_or (λ x. with_staged x.value true t) staged t)
    by_staged None is = fits
    by_staged (Some x) is = record { value = fits.value; size = fits.size; staged = subst (λ o. IfSome o (λ (y : Staged). length y.value ≡ t.size)) is fits.staged }

validated-number : (t : Table) → (with_validated t).number ≡ t.number
validated-number t = by_staged t.staged
  where
    by_staged : (staged : Option Staged) → (option_map_or (λ x. with_staged x.value true t) staged t).number ≡ t.number
    by_staged None = refl
    by_staged (Some x) = refl

registered-size : (name : List ℕ) (size most : ℕ) (others : Option TblStatus) →
    refused_if (length name == 0 || nat_lt 15 (length name)) ErrInvalidName (refused_if (size == 0 || nat_lt most size) ErrInvalidSize others) ≡ None → size ≤ most
registered-size name size most others free = by_tests (length name == 0 || nat_lt 15 (length name)) (size == 0) (nat_lt most size) refl free
  where
    below : nat_lt most size ≡ false → size ≤ most
    below is = grind (arith, nat_tests)

    by_tests : (bad none large : Bool) → nat_lt most size ≡ large → refused_if bad ErrInvalidName (refused_if (none || large) ErrInvalidSize others) ≡ None → size ≤ most
    by_tests true none large is free = absurd (cc free)
    by_tests false true large is free = absurd (cc free)
    by_tests false false true is free = absurd (cc free)
    by_tests false false false is free = below is

small-accept : (limits : Limits) (s : State) (app : ℕ) (call : Call) → cause limits s app call ≡ None → AreSmall limits.tablemax s → AreSmall limits.tablemax ((accept limits s app call).1)
small-accept limits s app (Register name size option rules) free small = by_name (table_named s.tables name)
  where
    by_name : (found : Option Table) →
        AreSmall limits.tablemax ((option_map_or {U = TblAnswer × State} (λ t. (answers.Duplicate t.number, s)) found (answers.Number (s.handles_made + 1), with_new_table limits s app name size option rules)).1)
    by_name None = small-new_table limits s app name size option rules (registered-size name size limits.tablemax _ free) small
    by_name (Some t) = small
small-accept limits s app (Share name) free small = by_name (table_named s.tables name)
  where
    by_name : (found : Option Table) → AreSmall limits.tablemax (option_map_or (λ t. with_new_handle s app t.number t.loaded) found s)
    by_name None = small
    by_name (Some t) = small-new_handle limits.tablemax s app t.number t.loaded small
small-accept limits s app (Unregister handle) free small = small-without limits.tablemax s (λ h. h.number == handle) small
small-accept limits s app (Stage handle offset bytes) free small =
    small-with_table_of limits.tablemax s handle (λ t. with_staged (with_range t.value offset bytes) false t) (λ t. refl)
    (λ t found fits.
    let few = within s app handle offset bytes (λ u. None) t found free in
    record { value = fits.value; size = fits.size; staged = range-long t.value offset bytes (omega (arith, few, fits.value)) ∙ fits.value })
    small
small-accept limits s app (Validate handle) free small = small-with_table_of limits.tablemax s handle with_validated validated-number (λ t found. validated-fits limits.tablemax t) small
small-accept limits s app (Update handle) free small = by_table (table_of s handle) refl
  where
    by_staged : (t : Table) (staged : Option Staged) → table_of s handle ≡ Some t → t.staged ≡ staged → AreSmall limits.tablemax (option_map_or (λ x. with_update s x.value t) staged s)
    by_staged t None found is = small
    by_staged t (Some x) found is =
        small-with_update limits.tablemax s handle t x.value found (λ fits. subst (λ o. IfSome o (λ (y : Staged). length y.value ≡ t.size)) is fits.staged) small

    by_table : (found : Option Table) → table_of s handle ≡ found → AreSmall limits.tablemax (option_map_or (λ t. option_map_or (λ x. with_update s x.value t) t.staged s) found s)
    by_table None is = small
    by_table (Some t) is = by_staged t t.staged is refl
small-accept limits s app (Abort handle) free small =
    small-with_table_of limits.tablemax s handle (λ t. record t { staged = None }) (λ t. refl) (λ t found fits. record { value = fits.value; size = fits.size; staged = tt }) small
small-accept limits s app (Load handle offset bytes) free small = by_table (table_of s handle) refl
  where
    by_table : (found : Option Table) → table_of s handle ≡ found → AreSmall limits.tablemax (option_map_or (λ t. with_update s (with_range t.value offset bytes) t) found s)
    by_table None is = small
    by_table (Some t) is =
        let few = within s app handle offset bytes _ t is free in
        small-with_update limits.tablemax s handle t (with_range t.value offset bytes) is (λ fits. range-long t.value offset bytes (omega (arith, few, fits.value)) ∙ fits.value) small
small-accept limits s app (GetAddress handle) free small = by_table (table_of s handle) refl
  where
    by_table : (found : Option Table) → table_of s handle ≡ found →
        AreSmall limits.tablemax (option_map_or (λ t. record s { handles = with_handle (with_hold t.version t.value) handle s.handles }) found s)
    by_table None is = small
    by_table (Some t) is =
        let fits : FitsSize limits.tablemax t = subst (λ o. IfSome o (FitsSize limits.tablemax)) (found-again s handle t is) (small.tables t.number) in
        record {
          tables = small.tables;
          holds = holds-with_handle limits.tablemax (with_hold t.version t.value) handle s.handles (λ h few. omega (arith, fits.value, fits.size)) small.holds;
        }
small-accept limits s app (ReleaseAddress handle) free small =
    record { tables = small.tables; holds = holds-with_handle limits.tablemax without_hold handle s.handles (λ h few. tt) small.holds }
small-accept limits s app (Status handle) free small = small
small-accept limits s app End free small =
    let left = small-without limits.tablemax s (λ h. h.app == app) small in
    record { tables = left.tables; holds = left.holds }

small-step : (limits : Limits) (s : State) (app : ℕ) (call : Call) → AreSmall limits.tablemax s → AreSmall limits.tablemax ((step limits s app call).1)
small-step limits s app call small = by_cause (cause limits s app call) refl
  where
    by_cause : (why : Option TblStatus) → cause limits s app call ≡ why → AreSmall limits.tablemax ((outcome limits s app call why).1)
    by_cause None free = small-accept limits s app call free small
    by_cause (Some status) is = small

small-from : (limits : Limits) (s : State) (es : List Entry) → AreSmall limits.tablemax s → AreSmall limits.tablemax (state_from limits s es)
small-from limits s [] small = small
small-from limits s (e ∷ es) small = small-from limits ((step limits s e.app e.call).1) es (small-step limits s e.app e.call small)

-- what a handle holds after a history is no longer than the largest table
pub small-after : (limits : Limits) (apps : ℕ) (history : List Entry) → All (λ (h : Handle). IfSome h.hold (λ (held : Hold). length held.value ≤ limits.tablemax)) (state_after limits apps history).handles
small-after limits apps history =
    (small-from limits (opening limits apps) history (record { tables = λ n. tt; holds = λ k d within. absurd (omega (arith, within)) })).holds
