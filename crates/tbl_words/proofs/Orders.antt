-- The order of the handles, and that each table has one, after a step, and so after every history.
use Rattle.std.proofs.Common.{◌≡◌, ℕ, ◌+◌, ◌<◌, ◌≤◌, ◌==◌, ◌||◌, if◌then◌else◌, not, Bool, true, false, cond, true≢false, eq-eqb, List, [], ◌∷◌, ◌++◌, length, get_or, map, filter, All, Option, Some, None, refl, ap, sym, subst, ◌∙◌, arith}
use Rattle.std.proofs.lemmas.List.Elements.{All-push, All-weaker, All-map, All-filter, filter_passes}
use Rattle.std.proofs.lemmas.List.Kept.{AllPairs-filter}
use Rattle.std.proofs.lemmas.List.Quantifiers.{all_pairs_push}
use Rattle.std.proofs.lemmas.List.{get_or-map, length-map}
use Rattle.std.specs.List.{AllPairs}
use Rattle.std.specs.Option.{option_map_or}
use Rattle.fsw_base.specs.Limits.{Limits}
use Rattle.tbl_rules.specs.declared.rules.Rule.{Rule}
use Rattle.tbl_words.specs.declared.statuses.TblStatus.{TblStatus}
use Rattle.tbl_words.specs.declared.calls.TblAnswer.{TblAnswer}
use Rattle.tbl_words.specs.declared.calls.TblAnswer.TheVariants as answers
use Rattle.tbl_words.specs.declared.history.Call.{Call}
use Rattle.tbl_words.specs.declared.history.Call.TheVariants.{Register, Share, Unregister, Stage, Validate, Update, Abort, Load, GetAddress, ReleaseAddress, Status, End}
use Rattle.tbl_words.specs.declared.history.Entry.{Entry}
use Rattle.tbl_words.specs.Tables.{Table, Staged, Handle, State, opening, has_handle, table_of, table_named, with_handle, with_mark, with_table}
use Rattle.tbl_words.specs.Machine.{cause, accept, outcome, step, state_from, new_table, with_new_handle, with_new_table, after_leave, without_handles, with_hold, without_hold, with_staged, with_validated, with_value, with_table_of, with_update, with_range}
use Rattle.tbl_words.specs.Ties.{HandlesRise, HandlesWereMade, TablesHaveHandles}
use Rattle.tbl_words.proofs.Ties.{map-id, validated-number}

-- one handle was made before another
abbrev IsBefore : Handle → Handle → Type 0
IsBefore earlier later = earlier.number < later.number

-- The handles stand in order of number, each was made, and each table has one.
record AreInOrder (s : State) : Type 0 where
  rising : AllPairs IsBefore s.handles
  made : All (λ h. h.number ≤ s.handles_made) s.handles
  had : All (λ t. has_handle s.handles t.number ≡ true) s.tables

-- Handles. --

has_handle-map : (move : Handle → Handle) (handles : List Handle) (table : ℕ) → ((h : Handle) → (move h).table ≡ h.table) →
    has_handle (map move handles) table ≡ has_handle handles table
has_handle-map move [] table tables = refl
has_handle-map move (h ∷ handles) table tables =
    ap (λ n. (n == table) || has_handle (map move handles) table) (tables h)
    ∙ ap (λ b. (h.table == table) || b) (has_handle-map move handles table tables)

has_handle-push : (handles : List Handle) (new : Handle) (table : ℕ) → has_handle handles table ≡ true → has_handle (handles ++ new ∷ []) table ≡ true
has_handle-push [] new table some = absurd (true≢false (sym some))
has_handle-push (h ∷ handles) new table some =
    elim (h.table == table) as (λ b. (b || has_handle handles table) ≡ true → (b || has_handle (handles ++ new ∷ []) table) ≡ true) [
      | true ↦ λ is. refl
      | false ↦ λ is. has_handle-push handles new table is
    ] some

has_handle-new : (handles : List Handle) (new : Handle) (table : ℕ) → (new.table == table) ≡ true → has_handle (handles ++ new ∷ []) table ≡ true
has_handle-new [] new table same = ap (λ b. b || false) same
has_handle-new (h ∷ handles) new table same =
    let rest = has_handle-new handles new table same in
    elim (h.table == table) as (λ b. (b || has_handle (handles ++ new ∷ []) table) ≡ true) [ true ↦ refl | false ↦ rest ]

-- handles changed one by one, with their numbers as they were
rising-map : (move : Handle → Handle) (handles : List Handle) → ((h : Handle) → (move h).number ≡ h.number) → AllPairs IsBefore handles → AllPairs IsBefore (map move handles)
rising-map move handles numbers rising i j d lt within =
    let many = length-map handles move in
    let low : (get_or (map move handles) i d).number ≡ (get_or handles i d).number = at i (omega (arith, lt, within, many)) in
    let high : (get_or (map move handles) j d).number ≡ (get_or handles j d).number = at j (omega (arith, within, many)) in
    omega (arith, low, high, rising i j d lt (omega (arith, within, many)))
  where
    at : (k : ℕ) → k < length handles → (get_or (map move handles) k d).number ≡ (get_or handles k d).number
    at k inside = ap (λ (h : Handle). h.number) (get_or-map move handles k d d inside) ∙ numbers (get_or handles k d)

-- Changes. --

-- tables changed one by one, and handles changed one by one, with their numbers as they were
ordered-maps : (s : State) (change : Table → Table) (move : Handle → Handle) →
    ((t : Table) → (change t).number ≡ t.number) → ((h : Handle) → (move h).number ≡ h.number) → ((h : Handle) → (move h).table ≡ h.table) →
    AreInOrder s → AreInOrder (record s { tables = map change s.tables; handles = map move s.handles })
ordered-maps s change move numbers moved tables order = record {
  rising = rising-map move s.handles moved order.rising;
  made = All-map (λ (h : Handle). h.number ≤ s.handles_made) move s.handles
      (All-weaker (λ (h : Handle). h.number ≤ s.handles_made) (λ h. (move h).number ≤ s.handles_made)
      (λ h is. subst (λ n. n ≤ s.handles_made) (sym (moved h)) is)
      s.handles order.made);
  had = All-map (λ (t : Table). has_handle (map move s.handles) t.number ≡ true) change s.tables
      (All-weaker (λ (t : Table). has_handle s.handles t.number ≡ true) (λ t. has_handle (map move s.handles) (change t).number ≡ true)
      (λ t is. ap (has_handle (map move s.handles)) (numbers t) ∙ has_handle-map move s.handles t.number tables ∙ is)
      s.tables order.had);
}

ordered-with_table : (s : State) (change : Table → Table) (number : ℕ) → ((t : Table) → (change t).number ≡ t.number) →
    AreInOrder s → AreInOrder (record s { tables = with_table change number s.tables })
ordered-with_table s change number numbers order =
    subst (λ handles. AreInOrder (record s { tables = with_table change number s.tables; handles = handles })) (map-id s.handles)
    (ordered-maps s (λ t. if t.number == number then change t else t) (λ h. h)
    (λ t. elim (t.number == number) as (λ b. (cond {A = Table} b (change t) t).number ≡ t.number) [ true ↦ numbers t | false ↦ refl ])
    (λ h. refl) (λ h. refl) order)

ordered-with_handle : (s : State) (move : Handle → Handle) (number : ℕ) → ((h : Handle) → (move h).number ≡ h.number) → ((h : Handle) → (move h).table ≡ h.table) →
    AreInOrder s → AreInOrder (record s { handles = with_handle move number s.handles })
ordered-with_handle s move number moved tables order =
    subst (λ others. AreInOrder (record s { tables = others; handles = with_handle move number s.handles })) (map-id s.tables)
    (ordered-maps s (λ t. t) (λ h. if h.number == number then move h else h) (λ t. refl)
    (λ h. elim (h.number == number) as (λ b. (cond {A = Handle} b (move h) h).number ≡ h.number) [ true ↦ moved h | false ↦ refl ])
    (λ h. elim (h.number == number) as (λ b. (cond {A = Handle} b (move h) h).table ≡ h.table) [ true ↦ tables h | false ↦ refl ])
    order)

ordered-with_table_of : (s : State) (handle : ℕ) (change : Table → Table) → ((t : Table) → (change t).number ≡ t.number) →
    AreInOrder s → AreInOrder (with_table_of s handle change)
ordered-with_table_of s handle change numbers order = by_table (table_of s handle)
  where
    by_table : (found : Option Table) → AreInOrder (option_map_or (λ t. record s { tables = with_table change t.number s.tables }) found s)
    by_table None = order
    by_table (Some t) = ordered-with_table s change t.number numbers order

ordered-with_update : (s : State) (value : List ℕ) (t : Table) → AreInOrder s → AreInOrder (with_update s value t)
ordered-with_update s value t order =
    ordered-maps s (λ u. if u.number == t.number then with_value value u else u) (λ h. if h.table == t.number then with_mark h else h)
    (λ u. elim (u.number == t.number) as (λ b. (cond {A = Table} b (with_value value u) u).number ≡ u.number) [ true ↦ refl | false ↦ refl ])
    (λ h. elim (h.table == t.number) as (λ b. (cond {A = Handle} b (with_mark h) h).number ≡ h.number) [ true ↦ refl | false ↦ refl ])
    (λ h. elim (h.table == t.number) as (λ b. (cond {A = Handle} b (with_mark h) h).table ≡ h.table) [ true ↦ refl | false ↦ refl ])
    order

-- one handle more
ordered-with_new_handle : (s : State) (app table : ℕ) (marked : Bool) → AreInOrder s → AreInOrder (with_new_handle s app table marked)
ordered-with_new_handle s app table marked order =
    let new : Handle = record { number = s.handles_made + 1; app = app; table = table; marked = marked; hold = None } in
    record {
      rising = all_pairs_push IsBefore s.handles new order.rising (λ k d within. omega (arith, order.made k d within));
      made = All-push (λ (h : Handle). h.number ≤ s.handles_made + 1) s.handles new
          (All-weaker (λ (h : Handle). h.number ≤ s.handles_made) (λ h. h.number ≤ s.handles_made + 1) (λ h few. omega arith) s.handles order.made)
          (omega arith);
      had = All-weaker (λ (t : Table). has_handle s.handles t.number ≡ true) (λ t. has_handle (s.handles ++ new ∷ []) t.number ≡ true)
          (λ t is. has_handle-push s.handles new t.number is) s.tables order.had;
    }

-- one table more, with its owner's handle
ordered-with_new_table : (limits : Limits) (s : State) (app : ℕ) (name : List ℕ) (size option : ℕ) (rules : List Rule) →
    AreInOrder s → AreInOrder (with_new_table limits s app name size option rules)
ordered-with_new_table limits s app name size option rules order =
    let number = s.handles_made + 1 in
    let new : Handle = record { number = number; app = app; table = number; marked = false; hold = None } in
    let more = ordered-with_new_handle s app number false order in
    record {
      rising = more.rising;
      made = more.made;
      had = All-push (λ (t : Table). has_handle (s.handles ++ new ∷ []) t.number ≡ true) s.tables (new_table number app name size option rules) more.had
          (has_handle-new s.handles new number (eq-eqb number number refl));
    }

-- handles that leave
ordered-without_handles : (s : State) (gone : Handle → Bool) → AreInOrder s → AreInOrder (without_handles gone s)
ordered-without_handles s gone order =
    let keeps : Handle → Bool = λ h. not (gone h) in
    let left = filter keeps s.handles in
    record {
      rising = AllPairs-filter IsBefore keeps s.handles order.rising;
      made = All-filter keeps (λ (h : Handle). h.number ≤ s.handles_made) s.handles order.made;
      had = filter_passes (λ (t : Table). has_handle left t.number) (map (after_leave left) s.tables);
    }

-- Steps. --

ordered-accept : (limits : Limits) (s : State) (app : ℕ) (call : Call) → AreInOrder s → AreInOrder ((accept limits s app call).1)
ordered-accept limits s app (Register name size option rules) order = by_name (table_named s.tables name)
  where
    by_name : (found : Option Table) →
        AreInOrder ((option_map_or {U = TblAnswer × State} (λ t. (answers.Duplicate t.number, s)) found (answers.Number (s.handles_made + 1), with_new_table limits s app name size option rules)).1)
    by_name None = ordered-with_new_table limits s app name size option rules order
    by_name (Some t) = order
ordered-accept limits s app (Share name) order = by_name (table_named s.tables name)
  where
    by_name : (found : Option Table) → AreInOrder (option_map_or (λ t. with_new_handle s app t.number t.loaded) found s)
    by_name None = order
    by_name (Some t) = ordered-with_new_handle s app t.number t.loaded order
ordered-accept limits s app (Unregister handle) order = ordered-without_handles s (λ h. h.number == handle) order
ordered-accept limits s app (Stage handle offset bytes) order =
    ordered-with_table_of s handle (λ t. with_staged (with_range t.value offset bytes) false t) (λ t. refl) order
ordered-accept limits s app (Validate handle) order = ordered-with_table_of s handle with_validated validated-number order
ordered-accept limits s app (Update handle) order = by_table (table_of s handle)
  where
    by_staged : (t : Table) (staged : Option Staged) → AreInOrder (option_map_or (λ x. with_update s x.value t) staged s)
    by_staged t None = order
    by_staged t (Some x) = ordered-with_update s x.value t order

    by_table : (found : Option Table) → AreInOrder (option_map_or (λ t. option_map_or (λ x. with_update s x.value t) t.staged s) found s)
    by_table None = order
    by_table (Some t) = by_staged t t.staged
ordered-accept limits s app (Abort handle) order = ordered-with_table_of s handle (λ t. record t { staged = None }) (λ t. refl) order
ordered-accept limits s app (Load handle offset bytes) order = by_table (table_of s handle)
  where
    by_table : (found : Option Table) → AreInOrder (option_map_or (λ t. with_update s (with_range t.value offset bytes) t) found s)
    by_table None = order
    by_table (Some t) = ordered-with_update s (with_range t.value offset bytes) t order
ordered-accept limits s app (GetAddress handle) order = by_table (table_of s handle)
  where
    by_table : (found : Option Table) → AreInOrder (option_map_or (λ t. record s { handles = with_handle (with_hold t.version t.value) handle s.handles }) found s)
    by_table None = order
    by_table (Some t) = ordered-with_handle s (with_hold t.version t.value) handle (λ h. refl) (λ h. refl) order
ordered-accept limits s app (ReleaseAddress handle) order = ordered-with_handle s without_hold handle (λ h. refl) (λ h. refl) order
ordered-accept limits s app (Status handle) order = order
ordered-accept limits s app End order =
    let left = ordered-without_handles s (λ h. h.app == app) order in
    record { rising = left.rising; made = left.made; had = left.had }

ordered-step : (limits : Limits) (s : State) (app : ℕ) (call : Call) → AreInOrder s → AreInOrder ((step limits s app call).1)
ordered-step limits s app call order = by_cause (cause limits s app call)
  where
    by_cause : (why : Option TblStatus) → AreInOrder ((outcome limits s app call why).1)
    by_cause None = ordered-accept limits s app call order
    by_cause (Some status) = order

ordered-from : (limits : Limits) (s : State) (es : List Entry) → AreInOrder s → AreInOrder (state_from limits s es)
ordered-from limits s [] order = order
ordered-from limits s (e ∷ es) order = ordered-from limits ((step limits s e.app e.call).1) es (ordered-step limits s e.app e.call order)

ordered-after : (limits : Limits) (apps : ℕ) (history : List Entry) → AreInOrder (state_from limits (opening limits apps) history)
ordered-after limits apps history = ordered-from limits (opening limits apps) history (record {
  rising = λ i j d lt within. absurd (omega (arith, within));
  made = λ k d within. absurd (omega (arith, within));
  had = λ k d within. absurd (omega (arith, within));
})

pub handles_rise : HandlesRise
handles_rise limits apps history = (ordered-after limits apps history).rising

pub handles_were_made : HandlesWereMade
handles_were_made limits apps history = (ordered-after limits apps history).made

pub tables_have_handles : TablesHaveHandles
tables_have_handles limits apps history = (ordered-after limits apps history).had
