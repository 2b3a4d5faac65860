-- What the fields stand for: the registry lists it, and what is looked up there is what the registry finds with its contents.
use Rattle.std.proofs.Common.{◌≡◌, ℕ, ◌&&◌, Bool, true, false, cond, eqb, Option, Some, None, List, [], ◌∷◌, map, find, count_by, All, refl, ap, sym, ◌∙◌, subst, arith}
use Rattle.std.specs.Option.{option_map, option_map_or, option_and_then}
use Rattle.std.specs.Str.{bytes_eq}
use Rattle.std.proofs.lemmas.Bool.Decides.{nat_tests}
use Rattle.std.proofs.lemmas.List.Elements.{All-head, All-tail}
use Rattle.std.proofs.lemmas.List.Sums.{sum_by-cons}
use Rattle.fsw_base.proofs.Lists.{find-map}
use Rattle.tbl_words.specs.Tables as state
use Rattle.tbl_registry.specs.declared.rows.Handle.{Handle}
use Rattle.tbl_registry.specs.Listing.{Table, IsTied, handle_at, table_at, number_at, table_named}
use Rattle.tbl_registry.specs.Listed.{facts_of, facts_in, handle_facts_of, handle_facts_in, IsListed, FindsAlike}
use Rattle.tbl_registry.proofs.HandleDrops.{either_way}
use Rattle.tbl_registry.proofs.Listings.{finds_alike}
use Rattle.table_blocks.specs.Contents.{Content}
use Rattle.table_core.specs.declared.plain.PlainTables.TheInside.{Inside}
use Rattle.table_core.specs.Inside.{table_in, handle_in, means}

-- what holds of all holds of the one found
pub found_all : {X : Type 0} (P : X → Type 0) (p : X → Bool) (xs : List X) (x : X) → All P xs → find p xs ≡ Some x → P x
found_all P p [] x all is = absurd (cc (is))
found_all {X} P p (y ∷ xs) x all is = by_test (λ rest. found_all P p xs x (All-tail P y xs all) rest) (p y) is
  where
    some_is : (z : X) → Some y ≡ Some z → y ≡ z
    some_is z same = ap (λ o. option_map_or (λ w. w) o y) same

    by_test : (find p xs ≡ Some x → P x) → (b : Bool) → cond {A = Option X} b (Some y) (find p xs) ≡ Some x → P x
    by_test ih true here = subst P (some_is x here) (All-head P y xs all)
    by_test ih false rest = ih rest

-- what passes alike is counted alike
pub count_alike : {X : Type 0} (p q : X → Bool) (xs : List X) → All (λ x. p x ≡ q x) xs → count_by p xs ≡ count_by q xs
count_alike p q [] same = refl
count_alike {X} p q (x ∷ xs) same =
    omega (
      arith,
      sum_by-cons (λ y. cond {A = ℕ} (p y) 1 0) x xs,
      sum_by-cons (λ y. cond {A = ℕ} (q y) 1 0) x xs,
      ap (λ b. cond {A = ℕ} b 1 0) (All-head (λ (y : X). p y ≡ q y) x xs same),
      count_alike p q xs (All-tail (λ (y : X). p y ≡ q y) x xs same),
    )

facts_map : (handles : List Handle) (contents : List (Option Content)) (tables : List Table) → map facts_of (map (table_in handles contents) tables) ≡ map (facts_in handles) tables
facts_map handles contents [] = refl
facts_map handles contents (t ∷ tables) = ap (λ fs. facts_in handles t ∷ fs) (facts_map handles contents tables)

handle_facts_map : (contents : List (Option Content)) (handles : List Handle) → map handle_facts_of (map (handle_in contents) handles) ≡ map handle_facts_in handles
handle_facts_map contents [] = refl
handle_facts_map contents (h ∷ handles) = ap (λ fs. handle_facts_in h ∷ fs) (handle_facts_map contents handles)

-- the registry lists the state that the fields stand for
pub listed : (a : Inside) → IsListed (means a) a.registry
listed a = record {
  tables = facts_map a.registry.handles a.blocks.tables a.registry.tables;
  handles = handle_facts_map a.blocks.tables a.registry.handles;
  made = refl;
}

pub alike : (a : Inside) → IsTied a.registry → FindsAlike (means a) a.registry
alike a tied = finds_alike (means a) a.registry tied (listed a)

-- the registered table of a name
pub named_here : (a : Inside) (name : List ℕ) →
    state.table_named (means a).tables name ≡ option_map (table_in a.registry.handles a.blocks.tables) (table_named a.registry name)
named_here a name = find-map (λ (t : state.Table). t.registered && bytes_eq t.name name) (table_in a.registry.handles a.blocks.tables) a.registry.tables

-- The table of a handle. --

-- the table under a handle's key is the handle's
pub record IsOf (a : Inside) (h : Handle) : Type 0 where
  pub t : Table
  pub there : table_at a.registry.tables h.key ≡ Some t
  pub number : t.number ≡ h.table

pub table_there : (a : Inside) (h : Handle) → number_at a.registry.tables h.key ≡ Some h.table → IsOf a h
table_there a h there = by_found (table_at a.registry.tables h.key) refl there
  where
    some_is : (x y : ℕ) → Some x ≡ Some y → x ≡ y
    some_is x y same = ap (λ o. option_map_or (λ w. w) o x) same

    by_found : (o : Option Table) → table_at a.registry.tables h.key ≡ o → option_map (λ (t : Table). t.number) o ≡ Some h.table → IsOf a h
    by_found None at never = absurd (cc (never))
    by_found (Some t) at number = record { t = t; there = at; number = some_is t.number h.table number }

pub its_table : (a : Inside) → IsTied a.registry → (n : ℕ) (h : Handle) → handle_at a.registry.handles n ≡ Some h → IsOf a h
its_table a tied n h is =
    table_there a h (found_all (λ (k : Handle). number_at a.registry.tables k.key ≡ Some k.table) (λ k. eqb k.number n) a.registry.handles h tied.tables_there is)

-- the table that a key finds has it
pub known_by : (tables : List Table) (key : ℕ) (t : Table) → table_at tables key ≡ Some t → t.key ≡ key
known_by [] key t never = absurd (cc (never))
known_by (u ∷ tables) key t here = by_test (λ rest. known_by tables key t rest) (eqb u.key key) refl here
  where
    some_is : Some u ≡ Some t → u ≡ t
    some_is same = ap (λ o. option_map_or (λ w. w) o u) same

    is_same : eqb u.key key ≡ true → u.key ≡ key
    is_same same = grind (arith, nat_tests)

    by_test : (table_at tables key ≡ Some t → t.key ≡ key) → (b : Bool) → eqb u.key key ≡ b → cond {A = Option Table} b (Some u) (table_at tables key) ≡ Some t → t.key ≡ key
    by_test ih true same it = sym (ap (λ (w : Table). w.key) (some_is it)) ∙ is_same same
    by_test ih false other rest = ih rest

-- the handle of a number, as the state has it
pub handle_here : (a : Inside) (n : ℕ) → state.handle_at (means a).handles n ≡ option_map (handle_in a.blocks.tables) (handle_at a.registry.handles n)
handle_here a n = find-map (λ (h : state.Handle). eqb h.number n) (handle_in a.blocks.tables) a.registry.handles

-- and its table
pub table_here : (a : Inside) → IsTied a.registry → (n : ℕ) (h : Handle) → handle_at a.registry.handles n ≡ Some h → (t : Table) → table_at a.registry.tables h.key ≡ Some t →
    state.table_of (means a) n ≡ Some (table_in a.registry.handles a.blocks.tables t)
table_here a tied n h is t there =
    ap (option_and_then (λ (k : state.Handle). state.table_at (means a).tables k.table)) (handle_here a n ∙ ap (option_map (handle_in a.blocks.tables)) is)
    ∙ find-map (λ (u : state.Table). eqb u.number h.table) (table_in a.registry.handles a.blocks.tables) a.registry.tables
    ∙ ap (option_map (table_in a.registry.handles a.blocks.tables))
    (either_way a.registry.tables h.key h.table tied.tables_rise (found_all (λ (k : Handle). number_at a.registry.tables k.key ≡ Some k.table) (λ k. eqb k.number n) a.registry.handles h tied.tables_there is) ∙ there)
