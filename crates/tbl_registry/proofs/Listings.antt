-- A registry that lists a state: the same is found in both, and what is new in one is new in the other.
use Rattle.std.proofs.Common.{◌≡◌, ℕ, ◌+◌, ◌≤◌, ◌&&◌, ◌||◌, not, suc, Bool, true, false, cond, eqb, Option, Some, None, List, [], ◌∷◌, ◌++◌, length, get_or, map, filter, find, All, refl, ap, sym, ◌∙◌, arith}
use Rattle.std.specs.List.{list_any}
use Rattle.std.specs.Option.{option_map, option_map_or, option_and_then}
use Rattle.std.specs.Str.{bytes_eq}
use Rattle.std.proofs.lemmas.Bool.Decides.{nat_tests}
use Rattle.std.proofs.lemmas.List.{length-map, map-append}
use Rattle.std.proofs.lemmas.List.Elements.{All-head, All-tail}
use Rattle.std.proofs.lemmas.List.Folds.{list_any_none, list_any-append}
use Rattle.fsw_base.specs.Limits.{Limits}
use Rattle.fsw_base.proofs.Lists.{list_any-map, find-map, filter-map, map_same}
use Rattle.tbl_rules.specs.declared.rules.Rule.{Rule}
use Rattle.tbl_words.specs.Tables as state
use Rattle.tbl_words.specs.Machine as machine
use Rattle.tbl_registry.specs.declared.rows.Handle.{Handle}
use Rattle.tbl_registry.specs.Listing.{Table, Listing, IsTied, handle_at, is_live, has_handle, table_at, number_at, with_new_handle, made_handle, without_handle, AddsTable}
use Rattle.tbl_registry.specs.Inside.{AreRising}
use Rattle.tbl_registry.specs.Listed.{TableFacts, HandleFacts, facts_of, facts_in, handle_facts_of, handle_facts_in, IsListed, FindsAlike, without_handle_of}
use Rattle.tbl_registry.proofs.HandleDrops.{found_holds, either_way}
use Rattle.tbl_registry.proofs.HandleNumbers.{same_number, other_number, later_others}

-- whether one passes is told by what both know
alike_any : (p : HandleFacts → Bool) (hs : List state.Handle) (ks : List Handle) → map handle_facts_of hs ≡ map handle_facts_in ks → list_any (λ h. p (handle_facts_of h)) hs ≡ list_any (λ h. p (handle_facts_in h)) ks
alike_any p hs ks is = sym (list_any-map p handle_facts_of hs) ∙ ap (list_any p) is ∙ list_any-map p handle_facts_in ks

-- of the handles of one number, which rise, one passes if and only if the one found does
passes_found : (q : Handle → Bool) (handles : List Handle) (n : ℕ) → AreRising handles → list_any (λ h. eqb h.number n && q h) handles ≡ option_map_or q (handle_at handles n) false
passes_found q [] n rising = refl
passes_found q (h ∷ handles) n rising =
    by_test (eqb h.number n) refl (passes_found q handles n (λ i j d lt within. rising (suc i) (suc j) d (omega (arith, lt)) (omega (arith, within))))
  where
    none : h.number ≡ n → list_any (λ k. eqb k.number n && q k) handles ≡ false
    none same = list_any_none (λ k. eqb k.number n && q k) handles (λ i d within. ap (λ b. b && q (get_or handles i d)) (other_number (get_or handles i d).number n (later_others h handles n rising same i d within)))

    or_false : (b : Bool) → (b || false) ≡ b
    or_false true = refl
    or_false false = refl

    is_same : eqb h.number n ≡ true → h.number ≡ n
    is_same is = grind (arith, nat_tests)

    by_test : (b : Bool) → eqb h.number n ≡ b → list_any (λ k. eqb k.number n && q k) handles ≡ option_map_or q (handle_at handles n) false →
        list_any (λ k. eqb k.number n && q k) (h ∷ handles) ≡ option_map_or q (handle_at (h ∷ handles) n) false
    by_test true is ih =
        ap (λ b. (b && q h) || list_any (λ k. eqb k.number n && q k) handles) is
        ∙ ap (λ b. q h || b) (none (is_same is))
        ∙ or_false (q h)
        ∙ sym (ap (λ b. option_map_or q (cond {A = Option Handle} b (Some h) (handle_at handles n)) false) is)
    by_test false is ih =
        ap (λ b. (b && q h) || list_any (λ k. eqb k.number n && q k) handles) is
        ∙ ih
        ∙ sym (ap (λ b. option_map_or q (cond {A = Option Handle} b (Some h) (handle_at handles n)) false) is)

-- the table of a handle
tabled_alike : (s : state.State) (l : Listing) (number : ℕ) → IsTied l → IsListed s l →
    option_map facts_of (state.table_of s number) ≡ option_and_then (λ h. option_map (facts_in l.handles) (table_at l.tables h.key)) (handle_at l.handles number)
tabled_alike s l number tied listed =
    in_state (state.handle_at s.handles number)
    ∙ ap (option_and_then by_facts) handles_alike
    ∙ in_registry (handle_at l.handles number) refl
  where
    by_facts : HandleFacts → Option TableFacts
    by_facts f = find (λ (g : TableFacts). eqb g.number f.table) (map facts_of s.tables)

    in_state : (o : Option state.Handle) → option_map facts_of (option_and_then (λ (h : state.Handle). state.table_at s.tables h.table) o) ≡ option_and_then by_facts (option_map handle_facts_of o)
    in_state None = refl
    in_state (Some h) = sym (find-map (λ (g : TableFacts). eqb g.number h.table) facts_of s.tables)

    handles_alike : option_map handle_facts_of (state.handle_at s.handles number) ≡ option_map handle_facts_in (handle_at l.handles number)
    handles_alike =
        sym (find-map (λ (f : HandleFacts). eqb f.number number) handle_facts_of s.handles)
        ∙ ap (find (λ (f : HandleFacts). eqb f.number number)) listed.handles
        ∙ find-map (λ (f : HandleFacts). eqb f.number number) handle_facts_in l.handles

    in_registry : (o : Option Handle) → handle_at l.handles number ≡ o →
        option_and_then by_facts (option_map handle_facts_in o) ≡ option_and_then (λ (h : Handle). option_map (facts_in l.handles) (table_at l.tables h.key)) o
    in_registry None is = refl
    in_registry (Some h) is =
        ap (find (λ (g : TableFacts). eqb g.number h.table)) listed.tables
        ∙ find-map (λ (g : TableFacts). eqb g.number h.table) (facts_in l.handles) l.tables
        ∙ ap (option_map (facts_in l.handles)) (either_way l.tables h.key h.table tied.tables_rise (found_holds (λ (k : Handle). number_at l.tables k.key ≡ Some k.table) l.handles number h tied.tables_there is))

pub finds_alike : (s : state.State) (l : Listing) → IsTied l → IsListed s l → FindsAlike s l
finds_alike s l tied listed = record {
  tables_many = sym (length-map s.tables facts_of) ∙ ap length listed.tables ∙ length-map l.tables (facts_in l.handles);
  handles_many = sym (length-map s.handles handle_facts_of) ∙ ap length listed.handles ∙ length-map l.handles handle_facts_in;
  live = λ number. alike_any (λ f. eqb f.number number) s.handles l.handles listed.handles;
  owned = λ app number.
      alike_any (λ f. eqb f.number number && eqb f.app app) s.handles l.handles listed.handles
      ∙ passes_found (λ h. eqb h.app app) l.handles number tied.handles_rise;
  shared = λ table. alike_any (λ f. eqb f.table table) s.handles l.handles listed.handles;
  tabled = λ number. tabled_alike s l number tied listed;
  named = λ name.
      sym (find-map (λ (f : TableFacts). f.registered && bytes_eq f.name name) facts_of s.tables)
      ∙ ap (find (λ (f : TableFacts). f.registered && bytes_eq f.name name)) listed.tables
      ∙ find-map (λ (f : TableFacts). f.registered && bytes_eq f.name name) (facts_in l.handles) l.tables;
}

-- a new handle has a number that no table has, so no table's registration changes by it
stays_registered : (l : Listing) (h : Handle) → h.number ≡ l.made + 1 → (tables : List Table) → All (λ t. t.number ≤ l.made) tables → map (facts_in (l.handles ++ h ∷ [])) tables ≡ map (facts_in l.handles) tables
stays_registered l h number [] made = refl
stays_registered l h number (t ∷ tables) made =
    ap (λ b. record (facts_in l.handles t) { registered = b } ∷ map (facts_in (l.handles ++ h ∷ [])) tables) same
    ∙ ap (λ fs. facts_in l.handles t ∷ fs) (stays_registered l h number tables (All-tail (λ (other : Table). other.number ≤ l.made) t tables made))
  where
    or_none : (b c : Bool) → c ≡ false → (b || (c || false)) ≡ b
    or_none true c is = refl
    or_none false true is = is
    or_none false false is = refl

    same : is_live (l.handles ++ h ∷ []) t.number ≡ is_live l.handles t.number
    same =
        list_any-append (λ k. eqb k.number t.number) l.handles (h ∷ [])
        ∙ or_none (is_live l.handles t.number) (eqb h.number t.number) (other_number h.number t.number (λ is. omega (arith, is, number, All-head (λ (other : Table). other.number ≤ l.made) t tables made)))

pub new_handle_listed : (s : state.State) (l : Listing) (app table key : ℕ) (marked : Bool) → IsTied l → IsListed s l → IsListed (machine.with_new_handle s app table marked) (with_new_handle l app table key)
new_handle_listed s l app table key marked tied listed = record {
  tables = listed.tables ∙ sym (stays_registered l (made_handle (l.made + 1) app table key) refl l.tables tied.tables_made);
  handles =
      map-append handle_facts_of s.handles (record { number = s.handles_made + 1; app = app; table = table; marked = marked; hold = None } ∷ [])
      ∙ ap (λ fs. fs ++ record { number = s.handles_made + 1; app = app; table = table } ∷ []) listed.handles
      ∙ ap (λ n. map handle_facts_in l.handles ++ record { number = n + 1; app = app; table = table } ∷ []) listed.made
      ∙ sym (map-append handle_facts_in l.handles (made_handle (l.made + 1) app table key ∷ []));
  made = ap (λ n. n + 1) listed.made;
}

pub new_table_listed : (limits : Limits) (s : state.State) (old new : Listing) (app : ℕ) (name : List ℕ) (size option : ℕ) (rules : List Rule) → IsTied old → IsListed s old → AddsTable old new app name size option rules →
    IsListed (machine.with_new_table limits s app name size option rules) new
new_table_listed limits s old new app name size option rules tied listed adds = record {
  tables =
      map-append facts_of s.tables (machine.new_table (s.handles_made + 1) app name size option rules ∷ [])
      ∙ ap (λ fs. fs ++ row (s.handles_made + 1) true ∷ []) listed.tables
      ∙ ap (λ n. map (facts_in old.handles) old.tables ++ row (n + 1) true ∷ []) listed.made
      ∙ ap (λ b. map (facts_in old.handles) old.tables ++ row (old.made + 1) b ∷ []) (sym live_now)
      ∙ ap (λ fs. fs ++ row (old.made + 1) (is_live (old.handles ++ h ∷ []) (old.made + 1)) ∷ []) (sym (stays_registered old h refl old.tables tied.tables_made))
      ∙ sym (map-append (facts_in (old.handles ++ h ∷ [])) old.tables (t ∷ []))
      ∙ ap (λ hs. map (facts_in hs) (old.tables ++ t ∷ [])) (sym handles_now)
      ∙ ap (map (facts_in new.handles)) (sym adds.tables);
  handles =
      map-append handle_facts_of s.handles (record { number = s.handles_made + 1; app = app; table = s.handles_made + 1; marked = false; hold = None } ∷ [])
      ∙ ap (λ fs. fs ++ record { number = s.handles_made + 1; app = app; table = s.handles_made + 1 } ∷ []) listed.handles
      ∙ ap (λ n. map handle_facts_in old.handles ++ record { number = n + 1; app = app; table = n + 1 } ∷ []) listed.made
      ∙ sym (map-append handle_facts_in old.handles (h ∷ []))
      ∙ ap (map handle_facts_in) (sym handles_now);
  made = ap (λ n. n + 1) listed.made ∙ sym (ap (λ (l : Listing). l.made) adds.others);
}
  where
    h : Handle
    h = made_handle (old.made + 1) app (old.made + 1) adds.key

    t : Table
    t = record { number = old.made + 1; key = adds.key; name = name; owner = app; size = size; option = option; rules = rules }

    row : ℕ → Bool → TableFacts
    row number registered = record { number = number; name = name; owner = app; registered = registered; size = size; option = option; rules = rules }

    handles_now : new.handles ≡ old.handles ++ h ∷ []
    handles_now = ap (λ (l : Listing). l.handles) adds.others

    or_yes : (b c : Bool) → c ≡ true → (b || (c || false)) ≡ true
    or_yes true c is = refl
    or_yes false true is = refl
    or_yes false false is = is

    live_now : is_live (old.handles ++ h ∷ []) (old.made + 1) ≡ true
    live_now =
        list_any-append (λ k. eqb k.number (old.made + 1)) old.handles (h ∷ [])
        ∙ or_yes (is_live old.handles (old.made + 1)) (eqb h.number (old.made + 1)) (same_number h.number (old.made + 1) refl)

-- Handles that leave. --

abbrev not_number : ℕ → HandleFacts → Bool
not_number n f = not (eqb f.number n)

-- the handles that are left are the same
left_alike : (n : ℕ) (hs : List state.Handle) (ks : List Handle) → map handle_facts_of hs ≡ map handle_facts_in ks →
    map handle_facts_of (filter (λ h. not (eqb h.number n)) hs) ≡ map handle_facts_in (without_handle n ks)
left_alike n hs ks is = sym (filter-map (not_number n) handle_facts_of hs) ∙ ap (filter (not_number n)) is ∙ filter-map (not_number n) handle_facts_in ks

-- who is left was there
left_was : (n number : ℕ) (handles : List Handle) → is_live (without_handle n handles) number ≡ true → is_live handles number ≡ true
left_was n number [] live = live
left_was n number (h ∷ handles) live = by_test (eqb h.number n) live (λ rest. left_was n number handles rest)
  where
    or_behind : (b c : Bool) → c ≡ true → (b || c) ≡ true
    or_behind true c is = refl
    or_behind false c is = is

    or_both : (b c d : Bool) → (c ≡ true → d ≡ true) → (b || c) ≡ true → (b || d) ≡ true
    or_both true c d more is = refl
    or_both false c d more is = more is

    by_test : (b : Bool) → is_live (cond {A = List Handle} (not b) (h ∷ without_handle n handles) (without_handle n handles)) number ≡ true → (is_live (without_handle n handles) number ≡ true → is_live handles number ≡ true) → is_live (h ∷ handles) number ≡ true
    by_test true is ih = or_behind (eqb h.number number) (is_live handles number) (ih is)
    by_test false is ih = or_both (eqb h.number number) (is_live (without_handle n handles) number) (is_live handles number) ih is

-- what both know of a table once these handles are left
abbrev leave : List state.Handle → TableFacts → TableFacts
leave left f = record f { registered = cond {A = Bool} (state.is_live left f.number) f.registered false }

leave_of : (left : List state.Handle) (t : state.Table) → facts_of (machine.after_leave left t) ≡ leave left (facts_of t)
leave_of left t = by_test (state.is_live left t.number)
  where
    by_test : (b : Bool) → facts_of (cond {A = state.Table} b t (record t { registered = false; staged = None })) ≡ record (facts_of t) { registered = cond {A = Bool} b t.registered false }
    by_test true = refl
    by_test false = refl

leave_in : (left : List state.Handle) (n : ℕ) (handles : List Handle) → ((number : ℕ) → state.is_live left number ≡ is_live (without_handle n handles) number) → (t : Table) → leave left (facts_in handles t) ≡ facts_in (without_handle n handles) t
leave_in left n handles same t =
    ap (λ b. record (facts_in handles t) { registered = cond {A = Bool} b (is_live handles t.number) false }) (same t.number)
    ∙ ap (λ b. record (facts_in handles t) { registered = b }) (by_test (is_live (without_handle n handles) t.number) refl)
  where
    by_test : (b : Bool) → is_live (without_handle n handles) t.number ≡ b → cond {A = Bool} b (is_live handles t.number) false ≡ b
    by_test true is = left_was n t.number handles is
    by_test false is = refl

filter_same : {X : Type 0} (p q : X → Bool) → ((x : X) → p x ≡ q x) → (xs : List X) → filter p xs ≡ filter q xs
filter_same p q same [] = refl
filter_same {X} p q same (x ∷ xs) = ap (λ b. cond {A = List X} b (x ∷ filter p xs) (filter p xs)) (same x) ∙ ap (λ l. cond {A = List X} (q x) (x ∷ l) l) (filter_same p q same xs)

pub leaves_listed : (s : state.State) (l : Listing) (n : ℕ) → IsListed s l → IsListed (machine.without_handles (λ h. eqb h.number n) s) (without_handle_of l n)
leaves_listed s l n listed = record {
  tables =
      sym (filter-map kept facts_of (map (machine.after_leave left) s.tables))
      ∙ ap (filter kept) (map-map facts_of (machine.after_leave left) s.tables
      ∙ map_same (λ t. facts_of (machine.after_leave left t)) (λ t. leave left (facts_of t)) (leave_of left) s.tables
      ∙ sym (map-map (leave left) facts_of s.tables)
      ∙ ap (map (leave left)) listed.tables
      ∙ map-map (leave left) (facts_in l.handles) l.tables
      ∙ map_same (λ t. leave left (facts_in l.handles t)) (facts_in (without_handle n l.handles)) (leave_in left n l.handles live_left) l.tables)
      ∙ filter-map kept (facts_in (without_handle n l.handles)) l.tables
      ∙ ap (map (facts_in (without_handle n l.handles))) (filter_same (λ t. state.has_handle left t.number) (λ t. has_handle (without_handle n l.handles) t.number) (λ t. has_left t.number) l.tables);
  handles = alike;
  made = listed.made;
}
  where
    left : List state.Handle
    left = filter (λ h. not (eqb h.number n)) s.handles

    kept : TableFacts → Bool
    kept f = state.has_handle left f.number

    alike : map handle_facts_of left ≡ map handle_facts_in (without_handle n l.handles)
    alike = left_alike n s.handles l.handles listed.handles

    live_left : (number : ℕ) → state.is_live left number ≡ is_live (without_handle n l.handles) number
    live_left number = alike_any (λ f. eqb f.number number) left (without_handle n l.handles) alike

    has_left : (table : ℕ) → state.has_handle left table ≡ has_handle (without_handle n l.handles) table
    has_left table = alike_any (λ f. eqb f.table table) left (without_handle n l.handles) alike

    map-map : {X Y Z : Type 0} (f : Y → Z) (g : X → Y) (xs : List X) → map f (map g xs) ≡ map (λ x. f (g x)) xs
    map-map f g [] = refl
    map-map f g (x ∷ xs) = ap (λ l. f (g x) ∷ l) (map-map f g xs)
