-- One handle of a number, and one table of a key or a number.
use Rattle.std.proofs.Common.{◌≡◌, ℕ, suc, ◌<◌, Bool, true, false, cond, eqb, Option, Some, List, [], ◌∷◌, All, refl, ap, sym, ◌∙◌, arith}
use Rattle.std.specs.List.{AllPairs}
use Rattle.std.specs.Option.{option_map_or}
use Rattle.std.proofs.lemmas.Bool.Decides.{nat_tests}
use Rattle.std.proofs.lemmas.List.Elements.{All-cons}
use Rattle.tbl_registry.specs.declared.rows.Handle.{Handle}
use Rattle.tbl_registry.specs.Listing.{Table, handle_at, table_at}
use Rattle.table_core.proofs.Fields.{found_all}

is_same : (i j : ℕ) → eqb i j ≡ true → i ≡ j
is_same i j same = grind (arith, nat_tests)

is_apart : (i j : ℕ) → eqb i j ≡ false → i ≡ j → ⊥
is_apart i j other same = grind (arith, nat_tests)

-- a handle of the number that finds one is that one
pub only_handle : (handles : List Handle) (n : ℕ) (h : Handle) → AllPairs (λ earlier later. earlier.number < later.number) handles → handle_at handles n ≡ Some h → All (λ (k : Handle). k.number ≡ n → k ≡ h) handles
only_handle [] n h rise never = absurd (cc (never))
only_handle (k ∷ handles) n h rise here =
    by_test (eqb k.number n) refl (λ rest. only_handle handles n h (λ i j d lt inside. rise (suc i) (suc j) d (omega (arith, lt)) (omega (arith, inside))) rest) here
  where
    some_is : Some k ≡ Some h → k ≡ h
    some_is is = ap (λ o. option_map_or (λ w. w) o k) is

    by_test : (x : Bool) → eqb k.number n ≡ x → (handle_at handles n ≡ Some h → All (λ (y : Handle). y.number ≡ n → y ≡ h) handles) → cond {A = Option Handle} x (Some k) (handle_at handles n) ≡ Some h →
        All (λ (y : Handle). y.number ≡ n → y ≡ h) (k ∷ handles)
    by_test true number ih it =
        All-cons (λ (y : Handle). y.number ≡ n → y ≡ h) k handles (λ is. some_is it)
        (λ i d inside is. absurd (omega (arith, is, is_same k.number n number, rise 0 (suc i) d (omega arith) (omega (arith, inside)))))
    by_test false number ih rest = All-cons (λ (y : Handle). y.number ≡ n → y ≡ h) k handles (λ is. absurd (is_apart k.number n number is)) (ih rest)

-- and a table of the key or of the number of one is that one
pub only_table : (tables : List Table) (t : Table) → AllPairs (λ earlier later. earlier.number < later.number) tables → AllPairs (λ earlier later. earlier.key ≡ later.key → ⊥) tables → table_at tables t.key ≡ Some t →
    All (λ (u : Table). (u.key ≡ t.key → u ≡ t) × (u.number ≡ t.number → u ≡ t)) tables
only_table [] t rise apart never = absurd (cc (never))
only_table (u ∷ tables) t rise apart here =
    by_test (eqb u.key t.key) refl
    (λ rest. only_table tables t (λ i j d lt inside. rise (suc i) (suc j) d (omega (arith, lt)) (omega (arith, inside))) (λ i j d lt inside. apart (suc i) (suc j) d (omega (arith, lt)) (omega (arith, inside))) rest) here
  where
    some_is : Some u ≡ Some t → u ≡ t
    some_is is = ap (λ o. option_map_or (λ w. w) o u) is

    below : table_at tables t.key ≡ Some t → u.number < t.number
    below rest = found_all (λ (v : Table). u.number < v.number) (λ v. eqb v.key t.key) tables t (λ k d inside. rise 0 (suc k) d (omega arith) (omega (arith, inside))) rest

    by_test : (x : Bool) → eqb u.key t.key ≡ x → (table_at tables t.key ≡ Some t → All (λ (v : Table). (v.key ≡ t.key → v ≡ t) × (v.number ≡ t.number → v ≡ t)) tables) → cond {A = Option Table} x (Some u) (table_at tables t.key) ≡ Some t →
        All (λ (v : Table). (v.key ≡ t.key → v ≡ t) × (v.number ≡ t.number → v ≡ t)) (u ∷ tables)
    by_test true key ih it =
        All-cons (λ (v : Table). (v.key ≡ t.key → v ≡ t) × (v.number ≡ t.number → v ≡ t)) u tables ((λ is. some_is it), (λ is. some_is it))
        (λ k d inside. (
          (λ is. absurd (apart 0 (suc k) d (omega arith) (omega (arith, inside)) (is_same u.key t.key key ∙ sym is))),
          (λ is. absurd (omega (arith, is, ap (λ (w : Table). w.number) (some_is it), rise 0 (suc k) d (omega arith) (omega (arith, inside))))),
        ))
    by_test false key ih rest =
        All-cons (λ (v : Table). (v.key ≡ t.key → v ≡ t) × (v.number ≡ t.number → v ≡ t)) u tables ((λ is. absurd (is_apart u.key t.key key is)), (λ is. absurd (omega (arith, is, below rest)))) (ih rest)
