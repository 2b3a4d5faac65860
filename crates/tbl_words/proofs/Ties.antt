-- What ties handles to tables after a step, and so after every history.
use Rattle.std.proofs.Common.{◌≡◌, ℕ, ◌+◌, ◌<◌, ◌≤◌, ◌==◌, ◌&&◌, ◌||◌, if◌then◌else◌, not, Bool, true, false, cond, true≢false, eqb-true, eq-eqb, List, [], ◌∷◌, ◌++◌, length, get_or, map, filter, All, Option, Some, None, zero, suc, refl, ap, sym, subst, ◌∙◌, arith}
use Rattle.std.specs.Prelude.{find}
use Rattle.std.proofs.lemmas.Bool.Decides.{nat_tests}
use Rattle.std.proofs.lemmas.List.Elements.{All-head, All-tail, All-push, All-weaker, All-map, All-filter}
use Rattle.std.specs.List.{list_any}
use Rattle.std.specs.Option.{option_map_or, is_some}
use Rattle.std.specs.Str.{bytes_eq}
use Rattle.fsw_base.specs.Limits.{Limits}
use Rattle.tbl_rules.specs.declared.rules.Rule.{Rule}
use Rattle.tbl_words.specs.declared.statuses.TblStatus.{TblStatus}
use Rattle.tbl_words.specs.declared.calls.TblAnswer.{TblAnswer}
use Rattle.tbl_words.specs.declared.calls.TblAnswer.TheVariants as answers
use Rattle.tbl_words.specs.declared.history.Call.{Call}
use Rattle.tbl_words.specs.declared.history.Call.TheVariants.{Register, Share, Unregister, Stage, Validate, Update, Abort, Load, GetAddress, ReleaseAddress, Status, End}
use Rattle.tbl_words.specs.declared.history.Entry.{Entry}
use Rattle.tbl_words.specs.Tables.{Table, Staged, Handle, State, opening, is_live, has_handle, table_at, table_of, table_named, with_handle, with_mark, with_table}
use Rattle.tbl_words.specs.Machine.{cause, accept, outcome, step, state_from, new_table, with_new_handle, with_new_table, after_leave, without_handles, with_hold, without_hold, with_staged, with_validated, with_value, with_table_of, with_update, with_range}
use Rattle.tbl_words.specs.Ties.{HandlesHaveTables, OwnersRegister}

-- The table of each handle is there; each table is registered as long as its owner's handle is live, and its number was given.
record AreTied (s : State) : Type 0 where
  there : All (λ h. is_some (table_at s.tables h.table) ≡ true) s.handles
  owners : All (λ t. t.registered ≡ is_live s.handles t.number) s.tables
  given : All (λ t. t.number ≤ s.handles_made) s.tables

-- Tests on lists. --

-- an item that passes
any-at : {X : Type 0} (test : X → Bool) (xs : List X) (k : ℕ) (d : X) → k < length xs → test (get_or xs k d) ≡ true → list_any test xs ≡ true
any-at test [] k d within is = absurd (omega (arith, within))
any-at test (x ∷ xs) zero d within is = ap (λ b. b || list_any test xs) is
any-at test (x ∷ xs) (suc k) d within is =
    let rest = any-at test xs k d (omega (arith, within)) is in
    elim (test x) as (λ b. (b || list_any test xs) ≡ true) [ true ↦ refl | false ↦ rest ]

-- an item that a filter leaves was there
any-kept : {X : Type 0} (test keeps : X → Bool) (xs : List X) → list_any test (filter keeps xs) ≡ true → list_any test xs ≡ true
any-kept test keeps [] some = some
any-kept {X} test keeps (x ∷ xs) some = by_head (test x) (keeps x) refl some (λ others. any-kept test keeps xs others)
  where
    by_head : (b k : Bool) → test x ≡ b → list_any test (cond {A = List X} k (x ∷ filter keeps xs) (filter keeps xs)) ≡ true →
        (list_any test (filter keeps xs) ≡ true → list_any test xs ≡ true) → (b || list_any test xs) ≡ true
    by_head true k is all rest = refl
    by_head false true is all rest = rest (sym (ap (λ b. b || list_any test (filter keeps xs)) is) ∙ all)
    by_head false false is all rest = rest all

pub map-id : {X : Type 0} (xs : List X) → map (λ x. x) xs ≡ xs
map-id [] = refl
map-id (x ∷ xs) = ap (λ ys. x ∷ ys) (map-id xs)

-- what is found has what each item has
abbrev of_found : {X : Type 0} → (X → Type 0) → Option X → Type 0
of_found P None = Unit {0}
of_found P (Some x) = P x

All-find : {X : Type 0} (P : X → Type 0) (test : X → Bool) (xs : List X) (x : X) → All P xs → find test xs ≡ Some x → P x
All-find P test [] x all found = absurd (true≢false (sym (ap is_some found)))
All-find {X} P test (y ∷ xs) x all found =
    elim (test y) as (λ b. cond {A = Option X} b (Some y) (find test xs) ≡ Some x → P x) [
      | true ↦ λ is. subst (of_found P) is (All-head P y xs all)
      | false ↦ λ is. All-find P test xs x (All-tail P y xs all) is
    ] found

-- Handles. --

is_live-map : (change : Handle → Handle) (handles : List Handle) (number : ℕ) → ((h : Handle) → (change h).number ≡ h.number) →
    is_live (map change handles) number ≡ is_live handles number
is_live-map change [] number numbers = refl
is_live-map change (h ∷ handles) number numbers =
    ap (λ n. (n == number) || is_live (map change handles) number) (numbers h)
    ∙ ap (λ b. (h.number == number) || b) (is_live-map change handles number numbers)

is_live-other : (handles : List Handle) (new : Handle) (number : ℕ) → (new.number == number) ≡ false → is_live (handles ++ new ∷ []) number ≡ is_live handles number
is_live-other [] new number other = ap (λ b. b || false) other
is_live-other (h ∷ handles) new number other = ap (λ b. (h.number == number) || b) (is_live-other handles new number other)

is_live-new : (handles : List Handle) (new : Handle) (number : ℕ) → (new.number == number) ≡ true → is_live (handles ++ new ∷ []) number ≡ true
is_live-new [] new number same = ap (λ b. b || false) same
is_live-new (h ∷ handles) new number same =
    let rest = is_live-new handles new number same in
    elim (h.number == number) as (λ b. (b || is_live (handles ++ new ∷ []) number) ≡ true) [ true ↦ refl | false ↦ rest ]

-- Tables. --

table_at-map : (change : Table → Table) (tables : List Table) (number : ℕ) → ((t : Table) → (change t).number ≡ t.number) →
    is_some (table_at (map change tables) number) ≡ is_some (table_at tables number)
table_at-map change [] number numbers = refl
table_at-map change (t ∷ tables) number numbers =
    let rest = table_at-map change tables number numbers in
    ap (λ n. is_some (cond {A = Option Table} (n == number) (Some (change t)) (table_at (map change tables) number))) (numbers t)
    ∙ elim (t.number == number) as (λ b. is_some (cond {A = Option Table} b (Some (change t)) (table_at (map change tables) number)) ≡ is_some (cond {A = Option Table} b (Some t) (table_at tables number))) [
      | true ↦ refl
      | false ↦ rest
    ]

table_at-push : (tables : List Table) (new : Table) (number : ℕ) → is_some (table_at tables number) ≡ true → is_some (table_at (tables ++ new ∷ []) number) ≡ true
table_at-push [] new number some = absurd (true≢false (sym some))
table_at-push (t ∷ tables) new number some =
    elim (t.number == number) as (λ b. is_some (cond {A = Option Table} b (Some t) (table_at tables number)) ≡ true → is_some (cond {A = Option Table} b (Some t) (table_at (tables ++ new ∷ []) number)) ≡ true) [
      | true ↦ λ is. refl
      | false ↦ λ is. table_at-push tables new number is
    ] some

table_at-new : (tables : List Table) (new : Table) (number : ℕ) → (new.number == number) ≡ true → is_some (table_at (tables ++ new ∷ []) number) ≡ true
table_at-new [] new number same = ap (λ b. is_some (cond {A = Option Table} b (Some new) None)) same
table_at-new (t ∷ tables) new number same =
    let rest = table_at-new tables new number same in
    elim (t.number == number) as (λ b. is_some (cond {A = Option Table} b (Some t) (table_at (tables ++ new ∷ []) number)) ≡ true) [ true ↦ refl | false ↦ rest ]

table_at-filter : (keeps : Table → Bool) (tables : List Table) (number : ℕ) → ((t : Table) → (t.number == number) ≡ true → keeps t ≡ true) →
    is_some (table_at tables number) ≡ true → is_some (table_at (filter keeps tables) number) ≡ true
table_at-filter keeps [] number all some = some
table_at-filter keeps (t ∷ tables) number all some =
    by_head (t.number == number) (keeps t) refl (all t) some (λ others. table_at-filter keeps tables number all others)
  where
    by_head : (b k : Bool) → (t.number == number) ≡ b → ((t.number == number) ≡ true → k ≡ true) →
        is_some (cond {A = Option Table} b (Some t) (table_at tables number)) ≡ true →
        (is_some (table_at tables number) ≡ true → is_some (table_at (filter keeps tables) number) ≡ true) →
        is_some (table_at (cond {A = List Table} k (t ∷ filter keeps tables) (filter keeps tables)) number) ≡ true
    by_head true true is kept found rest = ap (λ b. is_some (cond {A = Option Table} b (Some t) (table_at (filter keeps tables) number))) is
    by_head true false is kept found rest = absurd (true≢false (sym (kept is)))
    by_head false true is kept found rest = ap (λ b. is_some (cond {A = Option Table} b (Some t) (table_at (filter keeps tables) number))) is ∙ rest found
    by_head false false is kept found rest = rest found

-- a table that is found is there by its number
table_at-found : (test : Table → Bool) (tables : List Table) (t : Table) → find test tables ≡ Some t → is_some (table_at tables t.number) ≡ true
table_at-found test [] t found = absurd (true≢false (sym (ap is_some found)))
table_at-found test (u ∷ tables) t found =
    elim (test u) as (λ b. cond {A = Option Table} b (Some u) (find test tables) ≡ Some t → is_some (table_at (u ∷ tables) t.number) ≡ true) [
      | true ↦ λ is.
          ap (λ b. is_some (cond {A = Option Table} b (Some u) (table_at tables t.number)))
          (eq-eqb u.number t.number (ap (λ (o : Option Table). option_map_or (λ x. x.number) o 0) is))
      | false ↦ λ is.
          let rest = table_at-found test tables t is in
          elim (u.number == t.number) as (λ b. is_some (cond {A = Option Table} b (Some u) (table_at tables t.number)) ≡ true) [ true ↦ refl | false ↦ rest ]
    ] found

-- Changes. --

-- tables changed one by one, and handles changed one by one, with their numbers as they were
tied-maps : (s : State) (change : Table → Table) (move : Handle → Handle) →
    ((t : Table) → (change t).number ≡ t.number) → ((t : Table) → (change t).registered ≡ t.registered) →
    ((h : Handle) → (move h).number ≡ h.number) → ((h : Handle) → (move h).table ≡ h.table) →
    AreTied s → AreTied (record s { tables = map change s.tables; handles = map move s.handles })
tied-maps s change move numbers flags moved tables tied = record {
  there = All-map (λ (h : Handle). is_some (table_at (map change s.tables) h.table) ≡ true) move s.handles
      (All-weaker (λ (h : Handle). is_some (table_at s.tables h.table) ≡ true) (λ h. is_some (table_at (map change s.tables) (move h).table) ≡ true)
      (λ h is. ap (λ n. is_some (table_at (map change s.tables) n)) (tables h) ∙ table_at-map change s.tables h.table numbers ∙ is)
      s.handles tied.there);
  owners = All-map (λ (t : Table). t.registered ≡ is_live (map move s.handles) t.number) change s.tables
      (All-weaker (λ (t : Table). t.registered ≡ is_live s.handles t.number) (λ t. (change t).registered ≡ is_live (map move s.handles) (change t).number)
      (λ t is. flags t ∙ is ∙ sym (ap (is_live (map move s.handles)) (numbers t) ∙ is_live-map move s.handles t.number moved))
      s.tables tied.owners);
  given = All-map (λ (t : Table). t.number ≤ s.handles_made) change s.tables
      (All-weaker (λ (t : Table). t.number ≤ s.handles_made) (λ t. (change t).number ≤ s.handles_made)
      (λ t is. subst (λ n. n ≤ s.handles_made) (sym (numbers t)) is)
      s.tables tied.given);
}

-- one table changed
tied-with_table : (s : State) (change : Table → Table) (number : ℕ) → ((t : Table) → (change t).number ≡ t.number) → ((t : Table) → (change t).registered ≡ t.registered) →
    AreTied s → AreTied (record s { tables = with_table change number s.tables })
tied-with_table s change number numbers flags tied =
    subst (λ handles. AreTied (record s { tables = with_table change number s.tables; handles = handles })) (map-id s.handles)
    (tied-maps s (λ t. if t.number == number then change t else t) (λ h. h)
    (λ t. elim (t.number == number) as (λ b. (cond {A = Table} b (change t) t).number ≡ t.number) [ true ↦ numbers t | false ↦ refl ])
    (λ t. elim (t.number == number) as (λ b. (cond {A = Table} b (change t) t).registered ≡ t.registered) [ true ↦ flags t | false ↦ refl ])
    (λ h. refl) (λ h. refl) tied)

-- the handles changed one by one
tied-handles : (s : State) (move : Handle → Handle) → ((h : Handle) → (move h).number ≡ h.number) → ((h : Handle) → (move h).table ≡ h.table) →
    AreTied s → AreTied (record s { handles = map move s.handles })
tied-handles s move moved tables tied =
    subst (λ others. AreTied (record s { tables = others; handles = map move s.handles })) (map-id s.tables)
    (tied-maps s (λ t. t) move (λ t. refl) (λ t. refl) moved tables tied)

tied-with_handle : (s : State) (move : Handle → Handle) (number : ℕ) → ((h : Handle) → (move h).number ≡ h.number) → ((h : Handle) → (move h).table ≡ h.table) →
    AreTied s → AreTied (record s { handles = with_handle move number s.handles })
tied-with_handle s move number moved tables tied =
    tied-handles s (λ h. if h.number == number then move h else h)
    (λ h. elim (h.number == number) as (λ b. (cond {A = Handle} b (move h) h).number ≡ h.number) [ true ↦ moved h | false ↦ refl ])
    (λ h. elim (h.number == number) as (λ b. (cond {A = Handle} b (move h) h).table ≡ h.table) [ true ↦ tables h | false ↦ refl ])
    tied

tied-with_table_of : (s : State) (handle : ℕ) (change : Table → Table) → ((t : Table) → (change t).number ≡ t.number) → ((t : Table) → (change t).registered ≡ t.registered) →
    AreTied s → AreTied (with_table_of s handle change)
tied-with_table_of s handle change numbers flags tied = by_table (table_of s handle)
  where
    by_table : (found : Option Table) → AreTied (option_map_or (λ t. record s { tables = with_table change t.number s.tables }) found s)
    by_table None = tied
    by_table (Some t) = tied-with_table s change t.number numbers flags tied

tied-with_update : (s : State) (value : List ℕ) (t : Table) → AreTied s → AreTied (with_update s value t)
tied-with_update s value t tied =
    tied-maps s (λ u. if u.number == t.number then with_value value u else u) (λ h. if h.table == t.number then with_mark h else h)
    (λ u. elim (u.number == t.number) as (λ b. (cond {A = Table} b (with_value value u) u).number ≡ u.number) [ true ↦ refl | false ↦ refl ])
    (λ u. elim (u.number == t.number) as (λ b. (cond {A = Table} b (with_value value u) u).registered ≡ u.registered) [ true ↦ refl | false ↦ refl ])
    (λ h. elim (h.table == t.number) as (λ b. (cond {A = Handle} b (with_mark h) h).number ≡ h.number) [ true ↦ refl | false ↦ refl ])
    (λ h. elim (h.table == t.number) as (λ b. (cond {A = Handle} b (with_mark h) h).table ≡ h.table) [ true ↦ refl | false ↦ refl ])
    tied

not_given : (made number : ℕ) → number ≤ made → (made + 1 == number) ≡ false
not_given made number few = grind (arith, nat_tests)

-- one handle more of a table that is there
tied-with_new_handle : (s : State) (app table : ℕ) (marked : Bool) → is_some (table_at s.tables table) ≡ true → AreTied s → AreTied (with_new_handle s app table marked)
tied-with_new_handle s app table marked there tied =
    let new : Handle = record { number = s.handles_made + 1; app = app; table = table; marked = marked; hold = None } in
    record {
      there = All-push (λ (h : Handle). is_some (table_at s.tables h.table) ≡ true) s.handles new tied.there there;
      owners = λ k d within.
          (tied.owners k d within)
          ∙ sym (is_live-other s.handles new (get_or s.tables k d).number (not_given s.handles_made (get_or s.tables k d).number (tied.given k d within)));
      given = All-weaker (λ (t : Table). t.number ≤ s.handles_made) (λ t. t.number ≤ s.handles_made + 1) (λ t few. omega arith) s.tables tied.given;
    }

-- one table more, with its owner's handle
tied-with_new_table : (limits : Limits) (s : State) (app : ℕ) (name : List ℕ) (size option : ℕ) (rules : List Rule) →
    AreTied s → AreTied (with_new_table limits s app name size option rules)
tied-with_new_table limits s app name size option rules tied =
    let number = s.handles_made + 1 in
    let new : Handle = record { number = number; app = app; table = number; marked = false; hold = None } in
    let made : Table = new_table number app name size option rules in
    let here = eq-eqb number number refl in
    record {
      there = All-push (λ (h : Handle). is_some (table_at (s.tables ++ made ∷ []) h.table) ≡ true) s.handles new
          (All-weaker (λ (h : Handle). is_some (table_at s.tables h.table) ≡ true) (λ h. is_some (table_at (s.tables ++ made ∷ []) h.table) ≡ true)
          (λ h is. table_at-push s.tables made h.table is) s.handles tied.there)
          (table_at-new s.tables made number here);
      owners = All-push (λ (t : Table). t.registered ≡ is_live (s.handles ++ new ∷ []) t.number) s.tables made
          (λ k d within.
          (tied.owners k d within)
          ∙ sym (is_live-other s.handles new (get_or s.tables k d).number (not_given s.handles_made (get_or s.tables k d).number (tied.given k d within))))
          (sym (is_live-new s.handles new number here));
      given = All-push (λ (t : Table). t.number ≤ number) s.tables made
          (All-weaker (λ (t : Table). t.number ≤ s.handles_made) (λ t. t.number ≤ number) (λ t few. omega arith) s.tables tied.given)
          (omega arith);
    }

-- a table that stays is registered if its owner's handle stays
after_leave-owners : (left handles : List Handle) (t : Table) → (is_live left t.number ≡ true → is_live handles t.number ≡ true) →
    t.registered ≡ is_live handles t.number → (after_leave left t).registered ≡ is_live left (after_leave left t).number
after_leave-owners left handles t whole owner =
    let gone : Table = record t { registered = false; staged = None } in
    elim (is_live left t.number) as (λ b. is_live left t.number ≡ b → (cond {A = Table} b t gone).registered ≡ is_live left (cond {A = Table} b t gone).number) [
      | true ↦ λ is. owner ∙ whole is ∙ sym is
      | false ↦ λ is. sym is
    ] refl

-- handles that leave
tied-without_handles : (s : State) (gone : Handle → Bool) → AreTied s → AreTied (without_handles gone s)
tied-without_handles s gone tied =
    let keeps : Handle → Bool = λ h. not (gone h) in
    let left = filter keeps s.handles in
    let numbers : (t : Table) → (after_leave left t).number ≡ t.number =
    λ t. elim (is_live left t.number) as (λ b. (cond {A = Table} b t (record t { registered = false; staged = None })).number ≡ t.number) [ true ↦ refl | false ↦ refl ] in
    let there : All (λ h. is_some (table_at s.tables h.table) ≡ true) left = All-filter keeps (λ (h : Handle). is_some (table_at s.tables h.table) ≡ true) s.handles tied.there in
    record {
      there = λ k d within.
          let h = get_or left k d in
          table_at-filter (λ t. has_handle left t.number) (map (after_leave left) s.tables) h.table
          (λ t is. ap (has_handle left) (eqb-true t.number h.table is) ∙ any-at (λ x. x.table == h.table) left k d within (eq-eqb h.table h.table refl))
          (table_at-map (after_leave left) s.tables h.table numbers ∙ there k d within);
      owners = All-filter (λ (t : Table). has_handle left t.number) (λ t. t.registered ≡ is_live left t.number) (map (after_leave left) s.tables)
          (All-map (λ (t : Table). t.registered ≡ is_live left t.number) (after_leave left) s.tables
          (All-weaker (λ (t : Table). t.registered ≡ is_live s.handles t.number) (λ t. (after_leave left t).registered ≡ is_live left (after_leave left t).number)
          (λ t is. after_leave-owners left s.handles t (any-kept (λ h. h.number == t.number) keeps s.handles) is)
          s.tables tied.owners));
      given = All-filter (λ (t : Table). has_handle left t.number) (λ t. t.number ≤ s.handles_made) (map (after_leave left) s.tables)
          (All-map (λ (t : Table). t.number ≤ s.handles_made) (after_leave left) s.tables
          (All-weaker (λ (t : Table). t.number ≤ s.handles_made) (λ t. (after_leave left t).number ≤ s.handles_made)
          (λ t few. subst (λ n. n ≤ s.handles_made) (sym (numbers t)) few) s.tables tied.given));
    }

-- Steps. --

pub validated-number : (t : Table) → (with_validated t).number ≡ t.number
validated-number t = by_staged t.staged
  where
    by_staged : (staged : Option Staged) → (option_map_or (λ x. with_staged x.value true t) staged t).number ≡ t.number
    by_staged None = refl
    by_staged (Some x) = refl

validated-registered : (t : Table) → (with_validated t).registered ≡ t.registered
validated-registered t = by_staged t.staged
  where
    by_staged : (staged : Option Staged) → (option_map_or (λ x. with_staged x.value true t) staged t).registered ≡ t.registered
    by_staged None = refl
    by_staged (Some x) = refl

tied-accept : (limits : Limits) (s : State) (app : ℕ) (call : Call) → AreTied s → AreTied ((accept limits s app call).1)
tied-accept limits s app (Register name size option rules) tied = by_name (table_named s.tables name)
  where
    by_name : (found : Option Table) →
        AreTied ((option_map_or {U = TblAnswer × State} (λ t. (answers.Duplicate t.number, s)) found (answers.Number (s.handles_made + 1), with_new_table limits s app name size option rules)).1)
    by_name None = tied-with_new_table limits s app name size option rules tied
    by_name (Some t) = tied
tied-accept limits s app (Share name) tied = by_name (table_named s.tables name) refl
  where
    by_name : (found : Option Table) → table_named s.tables name ≡ found → AreTied (option_map_or (λ t. with_new_handle s app t.number t.loaded) found s)
    by_name None is = tied
    by_name (Some t) is =
        tied-with_new_handle s app t.number t.loaded (table_at-found (λ u. u.registered && bytes_eq u.name name) s.tables t is) tied
tied-accept limits s app (Unregister handle) tied = tied-without_handles s (λ h. h.number == handle) tied
tied-accept limits s app (Stage handle offset bytes) tied =
    tied-with_table_of s handle (λ t. with_staged (with_range t.value offset bytes) false t) (λ t. refl) (λ t. refl) tied
tied-accept limits s app (Validate handle) tied = tied-with_table_of s handle with_validated validated-number validated-registered tied
tied-accept limits s app (Update handle) tied = by_table (table_of s handle)
  where
    by_staged : (t : Table) (staged : Option Staged) → AreTied (option_map_or (λ x. with_update s x.value t) staged s)
    by_staged t None = tied
    by_staged t (Some x) = tied-with_update s x.value t tied

    by_table : (found : Option Table) → AreTied (option_map_or (λ t. option_map_or (λ x. with_update s x.value t) t.staged s) found s)
    by_table None = tied
    by_table (Some t) = by_staged t t.staged
tied-accept limits s app (Abort handle) tied = tied-with_table_of s handle (λ t. record t { staged = None }) (λ t. refl) (λ t. refl) tied
tied-accept limits s app (Load handle offset bytes) tied = by_table (table_of s handle)
  where
    by_table : (found : Option Table) → AreTied (option_map_or (λ t. with_update s (with_range t.value offset bytes) t) found s)
    by_table None = tied
    by_table (Some t) = tied-with_update s (with_range t.value offset bytes) t tied
tied-accept limits s app (GetAddress handle) tied = by_table (table_of s handle)
  where
    by_table : (found : Option Table) → AreTied (option_map_or (λ t. record s { handles = with_handle (with_hold t.version t.value) handle s.handles }) found s)
    by_table None = tied
    by_table (Some t) = tied-with_handle s (with_hold t.version t.value) handle (λ h. refl) (λ h. refl) tied
tied-accept limits s app (ReleaseAddress handle) tied = tied-with_handle s without_hold handle (λ h. refl) (λ h. refl) tied
tied-accept limits s app (Status handle) tied = tied
tied-accept limits s app End tied =
    let left = tied-without_handles s (λ h. h.app == app) tied in
    record { there = left.there; owners = left.owners; given = left.given }

tied-step : (limits : Limits) (s : State) (app : ℕ) (call : Call) → AreTied s → AreTied ((step limits s app call).1)
tied-step limits s app call tied = by_cause (cause limits s app call)
  where
    by_cause : (why : Option TblStatus) → AreTied ((outcome limits s app call why).1)
    by_cause None = tied-accept limits s app call tied
    by_cause (Some status) = tied

tied-from : (limits : Limits) (s : State) (es : List Entry) → AreTied s → AreTied (state_from limits s es)
tied-from limits s [] tied = tied
tied-from limits s (e ∷ es) tied = tied-from limits ((step limits s e.app e.call).1) es (tied-step limits s e.app e.call tied)

tied-after : (limits : Limits) (apps : ℕ) (history : List Entry) → AreTied (state_from limits (opening limits apps) history)
tied-after limits apps history = tied-from limits (opening limits apps) history (record {
  there = λ k d within. absurd (omega (arith, within));
  owners = λ k d within. absurd (omega (arith, within));
  given = λ k d within. absurd (omega (arith, within));
})

pub handles_have_tables : HandlesHaveTables
handles_have_tables limits apps history number h found =
    let s = state_from limits (opening limits apps) history in
    All-find (λ (x : Handle). is_some (table_at s.tables x.table) ≡ true) (λ x. x.number == number) s.handles h (tied-after limits apps history).there found

pub owners_register : OwnersRegister
owners_register limits apps history number t found =
    let s = state_from limits (opening limits apps) history in
    All-find (λ (x : Table). x.registered ≡ is_live s.handles x.number) (λ x. x.number == number) s.tables t (tied-after limits apps history).owners found
