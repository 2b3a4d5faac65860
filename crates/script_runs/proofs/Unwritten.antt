-- A version of a table that is held isn't written over: after a step, and so after every history.
use Rattle.std.proofs.Common.{◌≡◌, inl, inr, ⊎_elim, ℕ, suc, ◌+◌, ◌<◌, ◌==◌, ◌&&◌, not, Bool, true, false, cond, if◌then◌else◌, true≢false, eqb-true, eq-eqb, ne_eqb, List, [], ◌∷◌, ◌++◌, append-nil, append_assoc, length, get_or, map, filter, All, Option, Some, None, is_some, refl, ap, sym, ◌∙◌, subst, arith}
use Rattle.std.proofs.lemmas.List.Elements.{All-cons, All-push, All-weaker, All-map, All-filter}
use Rattle.std.proofs.lemmas.List.Folds.{list_any_at}
use Rattle.std.specs.Option.{option_map, option_map_or, option_and_then}
use Rattle.fsw_base.specs.Limits.{Limits}
use Rattle.tbl_rules.specs.declared.rules.Rule.{Rule}
use Rattle.tbl_rules.specs.Rules.{failed_rule}
use Rattle.tbl_words.specs.declared.statuses.TblStatus.{TblStatus}
use Rattle.tbl_words.specs.declared.statuses.TblStatus.TheVariants.{ErrInvalidHandle, ErrNoAccess, ErrUnregistered, ErrDumpOnly, ErrFileTooLarge, ErrPartialLoad, ErrLoadInProgress, InfoTableLocked, ErrNoBufferAvail, InfoNoUpdatePending, NotValidated, Validation}
use Rattle.tbl_words.specs.declared.calls.TblAnswer.{TblAnswer}
use Rattle.tbl_words.specs.declared.calls.TblAnswer.TheVariants as answers
use Rattle.tbl_words.specs.declared.history.Call.{Call}
use Rattle.tbl_words.specs.declared.history.Call.TheVariants.{Register, Share, Unregister, Stage, Validate, Update, Abort, Load, GetAddress, ReleaseAddress, Status, End}
use Rattle.tbl_words.specs.declared.history.Entry.{Entry}
use Rattle.tbl_words.specs.Tables.{Table, Staged, Handle, Hold, State, opening, owns, is_live, has_handle, is_held, is_held_apart, is_other, is_double, handle_at, table_at, table_of, table_named, with_handle, with_table, with_mark, all_marked}
use Rattle.tbl_words.specs.Machine.{Bars, cause, accept, outcome, step, state_after, refused_if, unregistered_cause, table_cause, barred_cause, bars_of, stage_cause, rules_cause, update_cause, load_cause, is_locked, new_table, with_new_handle, with_new_table, after_leave, without_handles, with_hold, without_hold, with_staged, with_validated, with_value, with_update, with_range}
use Rattle.tbl_words.proofs.Orders.{handles_rise}
use Rattle.tbl_words.proofs.Others.{Rise, rise-head, rise-tail}
use Rattle.tbl_words.proofs.Replay.{state_from-push}
use Rattle.bus_words.proofs.Finds.{find-filter}
use Rattle.script_runs.specs.Stays.{IsUnwritten}

-- what a handle holds isn't written over in its table
abbrev pub HoldLies : Option Hold → Option Table → Type 0
HoldLies None found = Unit {0}
HoldLies (Some hold) None = ⊥
HoldLies (Some hold) (Some t) = IsUnwritten hold t

abbrev Lies : List Table → Handle → Type 0
Lies tables h = HoldLies h.hold (table_at tables h.table)

abbrev pub AllLie : State → Type 0
AllLie s = All (Lies s.tables) s.handles

-- Lists. --

-- no other handle has the number of one that is found
one_handle : (handles : List Handle) (n : ℕ) (h : Handle) → Rise handles → handle_at handles n ≡ Some h → All (λ (k : Handle). (k.number == n) ≡ true → k ≡ h) handles
one_handle [] n h rise found = λ k d within. absurd (omega (arith, within))
one_handle (x ∷ handles) n h rise found =
    by_number (x.number == n) refl (one_handle handles n h (rise-tail x handles rise)) found
  where
    Same : Handle → Type 0
    Same k = (k.number == n) ≡ true → k ≡ h

    by_number : (b : Bool) → (x.number == n) ≡ b → (handle_at handles n ≡ Some h → All Same handles) → cond {A = Option Handle} b (Some x) (handle_at handles n) ≡ Some h → All Same (x ∷ handles)
    by_number true is ih here =
        All-cons Same x handles (λ same. cc here)
        (λ k d within same. absurd (omega (arith, eqb-true x.number n is, eqb-true (get_or handles k d).number n same, rise-head x handles rise k d within)))
    by_number false is ih there = All-cons Same x handles (λ same. absurd (true≢false (sym same ∙ is))) (ih there)

-- a table is found by its number
found_number : (tables : List Table) (n : ℕ) (t : Table) → table_at tables n ≡ Some t → (t.number == n) ≡ true
found_number [] n t found = absurd (cc found)
found_number (u ∷ tables) n t found =
    elim (u.number == n) as (λ b. (u.number == n) ≡ b → cond {A = Option Table} b (Some u) (table_at tables n) ≡ Some t → (t.number == n) ≡ true) [
      | true ↦ λ is here.
          let same : u ≡ t = cc here in
          ap (λ (x : Table). x.number == n) (sym same) ∙ is
      | false ↦ λ is there. found_number tables n t there
    ] refl found

table_at-map : (change : Table → Table) (tables : List Table) (n : ℕ) → ((t : Table) → (change t).number ≡ t.number) → table_at (map change tables) n ≡ option_map change (table_at tables n)
table_at-map change [] n numbers = refl
table_at-map change (t ∷ tables) n numbers =
    ap (λ m. cond {A = Option Table} (m == n) (Some (change t)) (table_at (map change tables) n)) (numbers t)
    ∙ by_number (t.number == n) (table_at-map change tables n numbers)
  where
    by_number : (b : Bool) → table_at (map change tables) n ≡ option_map change (table_at tables n) →
        cond {A = Option Table} b (Some (change t)) (table_at (map change tables) n) ≡ option_map change (cond {A = Option Table} b (Some t) (table_at tables n))
    by_number true ih = refl
    by_number false ih = ih

-- one table more
lies-push : (held : Option Hold) (tables : List Table) (new : Table) (n : ℕ) → HoldLies held (table_at tables n) → HoldLies held (table_at (tables ++ new ∷ []) n)
lies-push None tables new n lies = tt
lies-push (Some hold) [] new n lies = absurd lies
lies-push (Some hold) (t ∷ tables) new n lies =
    elim (t.number == n) as (λ b. HoldLies (Some hold) (cond {A = Option Table} b (Some t) (table_at tables n)) → HoldLies (Some hold) (cond {A = Option Table} b (Some t) (table_at (tables ++ new ∷ []) n))) [
      | true ↦ λ here. here
      | false ↦ λ there. lies-push (Some hold) tables new n there
    ] lies

-- the handle and the table that a call by a handle is on
of_table : (s : State) (handle : ℕ) (t : Table) → table_of s handle ≡ Some t → (h : Handle) × (handle_at s.handles handle ≡ Some h) × (table_at s.tables h.table ≡ Some t)
of_table s handle t found = by_handle (handle_at s.handles handle) refl found
  where
    by_handle : (o : Option Handle) → handle_at s.handles handle ≡ o → option_and_then (λ (h : Handle). table_at s.tables h.table) o ≡ Some t →
        (h : Handle) × (handle_at s.handles handle ≡ Some h) × (table_at s.tables h.table ≡ Some t)
    by_handle None is none = absurd (cc none)
    by_handle (Some h) is at = (h, is, at)

-- Changes. --

-- a table that changes
lies-change : (change : Table → Table) (held : Option Hold) (found : Option Table) →
    ((hold : Hold) (t : Table) → held ≡ Some hold → found ≡ Some t → IsUnwritten hold t → IsUnwritten hold (change t)) →
    HoldLies held found → HoldLies held (option_map change found)
lies-change change None found keeps lies = tt
lies-change change (Some hold) None keeps lies = absurd lies
lies-change change (Some hold) (Some t) keeps lies = keeps hold t refl refl lies

-- tables changed one by one
lies-tables : (change : Table → Table) (s : State) → ((t : Table) → (change t).number ≡ t.number) →
    ((k : ℕ) (d : Handle) (hold : Hold) (t : Table) → k < length s.handles → (get_or s.handles k d).hold ≡ Some hold → table_at s.tables (get_or s.handles k d).table ≡ Some t → IsUnwritten hold t → IsUnwritten hold (change t)) →
    AllLie s → All (Lies (map change s.tables)) s.handles
lies-tables change s numbers keeps lies = λ k d within.
    let h = get_or s.handles k d in
    subst (HoldLies h.hold) (sym (table_at-map change s.tables h.table numbers))
    (lies-change change h.hold (table_at s.tables h.table) (λ hold t. keeps k d hold t within) (lies k d within))

-- handles that are told of an update
lies-marked : (tables : List Table) (n : ℕ) (handles : List Handle) → All (Lies tables) handles → All (Lies tables) (all_marked n handles)
lies-marked tables n handles lies =
    All-map (Lies tables) (λ (h : Handle). if h.table == n then with_mark h else h) handles
    (All-weaker (Lies tables) (λ (h : Handle). Lies tables (if h.table == n then with_mark h else h))
    (λ h here. elim (h.table == n) as (λ b. Lies tables (cond {A = Handle} b (with_mark h) h)) [ true ↦ here | false ↦ here ])
    handles lies)

-- what a validation, an abort, and a leaving owner leave
unwritten-validated : (hold : Hold) (t : Table) → IsUnwritten hold t → IsUnwritten hold (with_validated t)
unwritten-validated hold t unwritten = by_staged t.staged refl
  where
    by_staged : (staged : Option Staged) → t.staged ≡ staged → IsUnwritten hold (option_map_or (λ (x : Staged). with_staged x.value true t) staged t)
    by_staged None is = unwritten
    by_staged (Some x) is = ⊎_elim (λ here. inl (here.0, here.1)) (λ before. absurd (cc (before.2, is))) unwritten

unwritten-aborted : (hold : Hold) (t : Table) → IsUnwritten hold t → IsUnwritten hold (record t { staged = None })
unwritten-aborted hold t unwritten = ⊎_elim (λ here. inl (here.0, here.1)) (λ before. inr (before.0, before.1, refl)) unwritten

unwritten-left : (left : List Handle) (hold : Hold) (t : Table) → IsUnwritten hold t → IsUnwritten hold (after_leave left t)
unwritten-left left hold t unwritten =
    elim (is_live left t.number) as (λ b. IsUnwritten hold (cond {A = Table} b t (record t { registered = false; staged = None }))) [
      | true ↦ unwritten
      | false ↦ ⊎_elim (λ here. inl (here.0, here.1)) (λ before. inr (before.0, before.1, refl)) unwritten
    ]

-- What isn't refused. --

refused_none : (test : Bool) (status : TblStatus) (others : Option TblStatus) → refused_if test status others ≡ None → (test ≡ false) × (others ≡ None)
refused_none true status others none = absurd (true≢false (ap is_some none))
refused_none false status others none = (refl, none)

-- what the table of a call by a handle says
table_free : (s : State) (app handle : ℕ) (others : Table → Option TblStatus) (t : Table) → table_of s handle ≡ Some t → table_cause s app handle others ≡ None → others t ≡ None
table_free s app handle others t found none =
    let said = λ (o : Option Table). option_map_or (λ (u : Table). unregistered_cause u.registered (others u)) o None in
    let live = refused_none (not (is_live s.handles handle)) ErrInvalidHandle (refused_if (not (owns s.handles app handle)) ErrNoAccess (said (table_of s handle))) none in
    let own = refused_none (not (owns s.handles app handle)) ErrNoAccess (said (table_of s handle)) live.1 in
    (refused_none (not t.registered) ErrUnregistered (others t) (sym (ap said found) ∙ own.1)).1

barred_free : (bars : Bars) (others : Option TblStatus) → barred_cause bars others ≡ None → (bars.held_apart ≡ false) × (others ≡ None)
barred_free bars others none =
    let one = refused_none bars.dump_only ErrDumpOnly _ none in
    let two = refused_none bars.past_end ErrFileTooLarge _ one.1 in
    let three = refused_none bars.partial ErrPartialLoad _ two.1 in
    let four = refused_none bars.in_progress ErrLoadInProgress _ three.1 in
    let five = refused_none bars.held_apart InfoTableLocked _ four.1 in
    let six = refused_none bars.no_buffer ErrNoBufferAvail _ five.1 in
    (five.0, six.1)

rules_free : (rules : List Rule) (value : List ℕ) (others : Option TblStatus) → rules_cause rules value others ≡ None → others ≡ None
rules_free rules value others none = by_failed (failed_rule rules value) none
  where
    by_failed : (failed : Option ℕ) → option_map_or (λ (number : ℕ). Some (Validation number)) failed others ≡ None → others ≡ None
    by_failed None is = is
    by_failed (Some number) is = absurd (true≢false (ap is_some is))

-- The table of a handle changed. --

module _ (s : State) (handle : ℕ) (t : Table) (found : table_of s handle ≡ Some t) where
  its : (h : Handle) × (handle_at s.handles handle ≡ Some h) × (table_at s.tables h.table ≡ Some t)
  its = of_table s handle t found

  -- a table of its number is this one
  one_table : (n : ℕ) (u : Table) → table_at s.tables n ≡ Some u → (u.number == t.number) ≡ true → (u ≡ t) × ((n == t.number) ≡ true)
  one_table n u at same =
      let mine : u.number ≡ n = eqb-true u.number n (found_number s.tables n u at) in
      let his : t.number ≡ its.0.table = eqb-true t.number its.0.table (found_number s.tables its.0.table t its.2) in
      let alike : u.number ≡ t.number = eqb-true u.number t.number same in
      let both : Some u ≡ Some t = sym at ∙ ap (table_at s.tables) (sym mine ∙ alike ∙ his) ∙ its.2 in
      (cc both, eq-eqb n t.number (sym mine ∙ alike))

  -- a handle holds this version of it
  record Holds (k : ℕ) (d : Handle) (hold : Hold) : Type 0 where
    pub within : k < length s.handles
    pub held : (get_or s.handles k d).hold ≡ Some hold
    pub of : ((get_or s.handles k d).table == t.number) ≡ true

  lies-one : (change : Table → Table) → ((u : Table) → (change u).number ≡ u.number) →
      ((k : ℕ) (d : Handle) (hold : Hold) → Holds k d hold → IsUnwritten hold t → IsUnwritten hold (change t)) →
      AllLie s → All (Lies (with_table change t.number s.tables)) s.handles
  lies-one change numbers keeps lies =
      lies-tables (λ u. if u.number == t.number then change u else u) s
      (λ u. elim (u.number == t.number) as (λ b. (cond {A = Table} b (change u) u).number ≡ u.number) [ true ↦ numbers u | false ↦ refl ])
      (λ k d hold u within held at unwritten. by_number k d hold u within held at unwritten (u.number == t.number) refl)
      lies
    where
      by_number : (k : ℕ) (d : Handle) (hold : Hold) (u : Table) → k < length s.handles → (get_or s.handles k d).hold ≡ Some hold → table_at s.tables (get_or s.handles k d).table ≡ Some u →
          IsUnwritten hold u → (b : Bool) → (u.number == t.number) ≡ b → IsUnwritten hold (cond {A = Table} b (change u) u)
      by_number k d hold u within held at unwritten true same =
          let is = one_table (get_or s.handles k d).table u at same in
          subst (λ (x : Table). IsUnwritten hold (change x)) (sym is.0)
          (keeps k d hold (record { within = within; held = held; of = is.1 }) (subst (IsUnwritten hold) is.0 unwritten))
      by_number k d hold u within held at unwritten false other = unwritten

  -- who holds a version of it holds it
  held-by : (k : ℕ) (d : Handle) (hold : Hold) → Holds k d hold → is_held s.handles t.number ≡ true
  held-by k d hold holds =
      list_any_at (λ (h : Handle). h.table == t.number && is_some h.hold) s.handles k d holds.within
      (ap (λ b. b && is_some (get_or s.handles k d).hold) holds.of ∙ ap is_some holds.held)

  -- the version before is held apart
  apart-by : (k : ℕ) (d : Handle) (hold : Hold) → Holds k d hold → t.version ≡ hold.version + 1 → is_held_apart s.handles t.number t.version ≡ true
  apart-by k d hold holds next =
      list_any_at (λ (h : Handle). h.table == t.number && is_other t.version h.hold) s.handles k d holds.within
      (ap (λ b. b && is_other t.version (get_or s.handles k d).hold) holds.of
      ∙ ap (is_other t.version) holds.held
      ∙ ap not (ne_eqb hold.version t.version (λ same. omega (arith, same, next))))

  -- so that no load is let in
  never-apart : (k : ℕ) (d : Handle) (hold : Hold) → Holds k d hold → (is_double t && is_held_apart s.handles t.number t.version) ≡ false → is_double t ≡ true → t.version ≡ hold.version + 1 → ⊥
  never-apart k d hold holds free double next =
      true≢false (sym (apart-by k d hold holds next) ∙ sym (ap (λ b. b && is_held_apart s.handles t.number t.version) double) ∙ free)

  -- an update of a table that is held is one of a double-buffered table
  double-held : (k : ℕ) (d : Handle) (hold : Hold) → Holds k d hold → is_locked s t ≡ false → is_double t ≡ true
  double-held k d hold holds =
      let held = held-by k d hold holds in
      elim (is_double t) as (λ b. (not b && is_held s.handles t.number) ≡ false → b ≡ true) [
        | true ↦ λ free. refl
        | false ↦ λ free. absurd (true≢false (sym held ∙ free))
      ]

  lies-updated : (value : List ℕ) → is_locked s t ≡ false → ((k : ℕ) (d : Handle) (hold : Hold) → Holds k d hold → is_double t ≡ true → t.version ≡ hold.version + 1 → t.staged ≡ None → ⊥) →
      AllLie s → AllLie (with_update s value t)
  lies-updated value free never lies =
      lies-marked (with_table (with_value value) t.number s.tables) t.number s.handles
      (lies-one (with_value value) (λ u. refl)
      (λ k d hold holds unwritten. ⊎_elim (λ here. inr (double-held k d hold holds free, ap (λ n. n + 1) here.0, refl)) (λ before. absurd (never k d hold holds before.0 before.1 before.2)) unwritten)
      lies)

  -- the handle holds the present version
  lies-address : Rise s.handles → AllLie s → All (Lies s.tables) (with_handle (with_hold t.version t.value) handle s.handles)
  lies-address rise lies =
      All-map (Lies s.tables) (λ (h : Handle). if h.number == handle then with_hold t.version t.value h else h) s.handles
      (λ k d within. by_number (get_or s.handles k d) (one_handle s.handles handle its.0 rise its.1 k d within) (lies k d within) ((get_or s.handles k d).number == handle) refl)
    where
      by_number : (h : Handle) → ((h.number == handle) ≡ true → h ≡ its.0) → Lies s.tables h → (b : Bool) → (h.number == handle) ≡ b → Lies s.tables (cond {A = Handle} b (with_hold t.version t.value h) h)
      by_number h alone here true is =
          subst (HoldLies (Some (record { version = t.version; value = t.value }))) (sym (ap (λ (x : Handle). table_at s.tables x.table) (alone is) ∙ its.2)) (inl (refl, refl))
      by_number h alone here false is = here

-- the handle holds nothing
lies-released : (s : State) (handle : ℕ) → AllLie s → All (Lies s.tables) (with_handle without_hold handle s.handles)
lies-released s handle lies =
    All-map (Lies s.tables) (λ (h : Handle). if h.number == handle then without_hold h else h) s.handles
    (All-weaker (Lies s.tables) (λ (h : Handle). Lies s.tables (if h.number == handle then without_hold h else h))
    (λ h here. elim (h.number == handle) as (λ b. Lies s.tables (cond {A = Handle} b (without_hold h) h)) [ true ↦ tt | false ↦ here ])
    s.handles lies)

-- handles that leave
lies-left : (s : State) (gone : Handle → Bool) → AllLie s → AllLie (without_handles gone s)
lies-left s gone lies = λ k d within.
    let h = get_or left k d in
    subst (HoldLies h.hold)
    (sym (find-filter (λ (t : Table). t.number == h.table) (λ t. has_handle left t.number)
    (λ t is. ap (has_handle left) (eqb-true t.number h.table is) ∙ list_any_at (λ (x : Handle). x.table == h.table) left k d within (eq-eqb h.table h.table refl))
    (map (after_leave left) s.tables)
    ∙ table_at-map (after_leave left) s.tables h.table numbers))
    (lies-change (after_leave left) h.hold (table_at s.tables h.table) (λ hold t held at unwritten. unwritten-left left hold t unwritten) (stay k d within))
  where
    left : List Handle
    left = filter (λ h. not (gone h)) s.handles

    stay : All (Lies s.tables) left
    stay = All-filter (λ h. not (gone h)) (Lies s.tables) s.handles lies

    numbers : (t : Table) → (after_leave left t).number ≡ t.number
    numbers t = elim (is_live left t.number) as (λ b. (cond {A = Table} b t (record t { registered = false; staged = None })).number ≡ t.number) [ true ↦ refl | false ↦ refl ]

lies-new : (s : State) (app table : ℕ) (marked : Bool) → AllLie s → AllLie (with_new_handle s app table marked)
lies-new s app table marked lies = All-push (Lies s.tables) s.handles _ lies tt

lies-new_table : (limits : Limits) (s : State) (app : ℕ) (name : List ℕ) (size option : ℕ) (rules : List Rule) → AllLie s → AllLie (with_new_table limits s app name size option rules)
lies-new_table limits s app name size option rules lies =
    let new = new_table (s.handles_made + 1) app name size option rules in
    All-push (Lies (s.tables ++ new ∷ [])) s.handles _ (All-weaker (Lies s.tables) (Lies (s.tables ++ new ∷ [])) (λ h here. lies-push h.hold s.tables new h.table here) s.handles lies) tt

-- Steps. --

lies-accept : (limits : Limits) (s : State) (app : ℕ) (call : Call) → cause limits s app call ≡ None → Rise s.handles → AllLie s → AllLie ((accept limits s app call).1)
lies-accept limits s app (Register name size option rules) free rise lies = by_name (table_named s.tables name)
  where
    by_name : (found : Option Table) →
        AllLie ((option_map_or {U = TblAnswer × State} (λ (t : Table). (answers.Duplicate t.number, s)) found (answers.Number (s.handles_made + 1), with_new_table limits s app name size option rules)).1)
    by_name None = lies-new_table limits s app name size option rules lies
    by_name (Some t) = lies
lies-accept limits s app (Share name) free rise lies = by_name (table_named s.tables name)
  where
    by_name : (found : Option Table) → AllLie (option_map_or (λ (t : Table). with_new_handle s app t.number t.loaded) found s)
    by_name None = lies
    by_name (Some t) = lies-new s app t.number t.loaded lies
lies-accept limits s app (Unregister handle) free rise lies = lies-left s (λ h. h.number == handle) lies
lies-accept limits s app (Stage handle offset bytes) free rise lies = by_table (table_of s handle) refl
  where
    by_table : (found : Option Table) → table_of s handle ≡ found →
        AllLie (option_map_or (λ (t : Table). record s { tables = with_table (λ (u : Table). with_staged (with_range u.value offset bytes) false u) t.number s.tables }) found s)
    by_table None is = lies
    by_table (Some t) is =
        let apart = (barred_free (bars_of s offset bytes t) None (table_free s app handle (stage_cause s offset bytes None) t is free)).0 in
        lies-one s handle t is (λ (u : Table). with_staged (with_range u.value offset bytes) false u) (λ u. refl)
        (λ k d hold holds unwritten. ⊎_elim (λ here. inl (here.0, here.1)) (λ before. absurd (never-apart s handle t is k d hold holds apart before.0 before.1)) unwritten)
        lies
lies-accept limits s app (Validate handle) free rise lies = by_table (table_of s handle) refl
  where
    by_table : (found : Option Table) → table_of s handle ≡ found → AllLie (option_map_or (λ (t : Table). record s { tables = with_table with_validated t.number s.tables }) found s)
    by_table None is = lies
    by_table (Some t) is = lies-one s handle t is with_validated number (λ k d hold holds unwritten. unwritten-validated hold t unwritten) lies
      where
        number : (u : Table) → (with_validated u).number ≡ u.number
        number u = by_staged u.staged
          where
            by_staged : (staged : Option Staged) → (option_map_or (λ (x : Staged). with_staged x.value true u) staged u).number ≡ u.number
            by_staged None = refl
            by_staged (Some x) = refl
lies-accept limits s app (Update handle) free rise lies = by_table (table_of s handle) refl
  where
    by_staged : (t : Table) → table_of s handle ≡ Some t → (staged : Option Staged) → t.staged ≡ staged → AllLie (option_map_or (λ (x : Staged). with_update s x.value t) staged s)
    by_staged t found None is = lies
    by_staged t found (Some x) is =
        let said = λ (staged : Option Staged). option_map_or (λ (y : Staged). refused_if (not y.validated) NotValidated (refused_if (is_locked s t) InfoTableLocked None)) staged (Some InfoNoUpdatePending) in
        let validated = refused_none (not x.validated) NotValidated (refused_if (is_locked s t) InfoTableLocked None) (sym (ap said is) ∙ table_free s app handle (update_cause s) t found free) in
        let unlocked = refused_none (is_locked s t) InfoTableLocked None validated.1 in
        lies-updated s handle t found x.value unlocked.0 (λ k d hold holds double next none. cc (none, is)) lies

    by_table : (found : Option Table) → table_of s handle ≡ found → AllLie (option_map_or (λ (t : Table). option_map_or (λ (x : Staged). with_update s x.value t) t.staged s) found s)
    by_table None is = lies
    by_table (Some t) is = by_staged t is t.staged refl
lies-accept limits s app (Abort handle) free rise lies = by_table (table_of s handle) refl
  where
    by_table : (found : Option Table) → table_of s handle ≡ found → AllLie (option_map_or (λ (t : Table). record s { tables = with_table (λ (u : Table). record u { staged = None }) t.number s.tables }) found s)
    by_table None is = lies
    by_table (Some t) is = lies-one s handle t is (λ (u : Table). record u { staged = None }) (λ u. refl) (λ k d hold holds unwritten. unwritten-aborted hold t unwritten) lies
lies-accept limits s app (Load handle offset bytes) free rise lies = by_table (table_of s handle) refl
  where
    by_table : (found : Option Table) → table_of s handle ≡ found → AllLie (option_map_or (λ (t : Table). with_update s (with_range t.value offset bytes) t) found s)
    by_table None is = lies
    by_table (Some t) is =
        let barred = barred_free (bars_of s offset bytes t) _ (table_free s app handle (load_cause s offset bytes) t is free) in
        let ruled = rules_free t.rules (with_range t.value offset bytes) _ barred.1 in
        let unlocked = refused_none (is_locked s t) InfoTableLocked None ruled in
        lies-updated s handle t is (with_range t.value offset bytes) unlocked.0 (λ k d hold holds double next none. never-apart s handle t is k d hold holds barred.0 double next) lies
lies-accept limits s app (GetAddress handle) free rise lies = by_table (table_of s handle) refl
  where
    by_table : (found : Option Table) → table_of s handle ≡ found → AllLie (option_map_or (λ (t : Table). record s { handles = with_handle (with_hold t.version t.value) handle s.handles }) found s)
    by_table None is = lies
    by_table (Some t) is = lies-address s handle t is rise lies
lies-accept limits s app (ReleaseAddress handle) free rise lies = lies-released s handle lies
lies-accept limits s app (Status handle) free rise lies = lies
lies-accept limits s app End free rise lies = lies-left s (λ h. h.app == app) lies

lies-step : (limits : Limits) (s : State) (app : ℕ) (call : Call) → Rise s.handles → AllLie s → AllLie ((step limits s app call).1)
lies-step limits s app call rise lies = by_cause (cause limits s app call) refl
  where
    by_cause : (why : Option TblStatus) → cause limits s app call ≡ why → AllLie ((outcome limits s app call why).1)
    by_cause None is = lies-accept limits s app call is rise lies
    by_cause (Some status) is = lies

lies-from : (limits : Limits) (apps : ℕ) (history es : List Entry) → AllLie (state_after limits apps history) → AllLie (state_after limits apps (history ++ es))
lies-from limits apps history [] lies = subst (λ h. AllLie (state_after limits apps h)) (sym (append-nil history)) lies
lies-from limits apps history (e ∷ es) lies =
    subst (λ h. AllLie (state_after limits apps h)) (append_assoc history (e ∷ []) es)
    (lies-from limits apps (history ++ e ∷ []) es
    (subst AllLie (sym (state_from-push limits (opening limits apps) history e)) (lies-step limits (state_after limits apps history) e.app e.call (handles_rise limits apps history) lies)))

-- after every history
pub lies-after : (limits : Limits) (apps : ℕ) (history : List Entry) → AllLie (state_after limits apps history)
lies-after limits apps history = lies-from limits apps [] history (λ k d within. absurd (omega (arith, within)))

-- what a live handle holds is not written over in its table, which is there
pub found-unwritten : (s : State) (handle : ℕ) (hold : Hold) → AllLie s → option_and_then (λ (h : Handle). h.hold) (handle_at s.handles handle) ≡ Some hold →
    (t : Table) × (table_of s handle ≡ Some t) × IsUnwritten hold t
found-unwritten s handle hold lies held = by_handles s.handles lies held
  where
    by_found : (h : Handle) (found : Option Table) → table_at s.tables h.table ≡ found → h.hold ≡ Some hold → HoldLies h.hold found → (t : Table) × (table_at s.tables h.table ≡ Some t) × IsUnwritten hold t
    by_found h None is holds here = absurd (subst (λ (o : Option Hold). HoldLies o None) holds here)
    by_found h (Some t) is holds here = (t, is, subst (λ (o : Option Hold). HoldLies o (Some t)) holds here)

    by_handles : (handles : List Handle) → All (Lies s.tables) handles → option_and_then (λ (h : Handle). h.hold) (handle_at handles handle) ≡ Some hold →
        (t : Table) × (option_and_then (λ (h : Handle). table_at s.tables h.table) (handle_at handles handle) ≡ Some t) × IsUnwritten hold t
    by_handles [] all none = absurd (cc none)
    by_handles (h ∷ handles) all holds =
        elim (h.number == handle) as (λ b. option_and_then (λ (x : Handle). x.hold) (cond {A = Option Handle} b (Some h) (handle_at handles handle)) ≡ Some hold →
        (t : Table) × (option_and_then (λ (x : Handle). table_at s.tables x.table) (cond {A = Option Handle} b (Some h) (handle_at handles handle)) ≡ Some t) × IsUnwritten hold t) [
          | true ↦ λ here. by_found h (table_at s.tables h.table) refl here (all 0 h (omega arith))
          | false ↦ λ there. by_handles handles (λ k d within. all (suc k) d (omega (arith, within))) there
        ] holds
