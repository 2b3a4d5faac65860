-- The account of the tables' pool behind a registration, and behind a table that leaves.
use Rattle.std.proofs.Common.{◌≡◌, ℕ, ◌+◌, ◌-◌, ◌<◌, ◌≤◌, ◌==◌, ◌&&◌, zero, suc, Bool, true, false, cond, List, [], ◌∷◌, ◌++◌, length, map, set, get_or, leb, Option, Some, true≢false, eqb-true, eq-eqb, refl, ap, sym, subst, ◌∙◌, arith}
use Rattle.std.specs.Prelude.{nat_lt, nat_le, slice_index}
use Rattle.std.proofs.lemmas.Bool.Decides.{nat_tests}
use Rattle.std.proofs.lemmas.List.{length-set, length-map, get_or-map, get_or-set_same, get_or-set_other, set-set, set-get_or, ext_get_or}
use Rattle.std.proofs.lemmas.List.Quantifiers.{position-Some}
use Rattle.std.proofs.lemmas.List.Sums.{sum_by-append, sum_by_push, sum_by-cons}
use Rattle.std.specs.Option.{option_map_or}
use Rattle.fsw_base.specs.Blocks.{are_rising_from, class_of}
use Rattle.fsw_base.specs.PoolAccounts.{Account, counted_by, after_draws, after_return}
use Rattle.tbl_words.specs.Tables.{Table, State, blocks_for, block_size, blocks_out, account_of}
use Rattle.tbl_words.specs.Machine.{new_table}
use Rattle.tbl_words.specs.Accounts.{after_returns, RegistrationsDraw, LeavingReturns}

-- Block sizes rise. --

pub in_range : (least size : ℕ) (multiple few later : Bool) → (leb least size && multiple && few && later) ≡ true → (least ≤ size) × (later ≡ true)
in_range least size true true true e = (grind (arith, nat_tests), refl)
in_range least size multiple few false e = absurd (no (leb least size) multiple few e)
  where
    no : (a b c : Bool) → (a && b && c && false) ≡ true → ⊥
    no true true true e = cc
    no true true false e = cc
    no true false c e = cc
    no false b c e = cc
in_range least size true false true e = absurd (no (leb least size) e)
  where
    no : (a : Bool) → (a && true && false && true) ≡ true → ⊥
    no true e = cc
    no false e = cc
in_range least size false few true e = absurd (no (leb least size) few e)
  where
    no : (a b : Bool) → (a && false && b && true) ≡ true → ⊥
    no true b e = cc
    no false b e = cc

-- each size is at least the least
pub at_least : (sizes : List ℕ) (least class : ℕ) → are_rising_from least sizes ≡ true → class < length sizes → least ≤ get_or sizes class 0
at_least [] least class e h = absurd (omega (arith, h))
at_least (size ∷ sizes) least zero e h = (in_range least size _ _ _ e).0
at_least (size ∷ sizes) least (suc class) e h =
    let here = in_range least size _ _ _ e in
    let later = at_least sizes (size + 1) class here.1 (omega (arith, h)) in
    omega (arith, here.0, later)

-- no two are the same
apart : (sizes : List ℕ) (least i j : ℕ) → are_rising_from least sizes ≡ true → i < j → j < length sizes → get_or sizes i 0 < get_or sizes j 0
apart [] least i j e less h = absurd (omega (arith, h))
apart (size ∷ sizes) least i zero e less h = absurd (omega (arith, less))
apart (size ∷ sizes) least zero (suc j) e less h =
    let here = in_range least size _ _ _ e in
    let later = at_least sizes (size + 1) j here.1 (omega (arith, h)) in
    omega (arith, later)
apart (size ∷ sizes) least (suc i) (suc j) e less h =
    let here = in_range least size _ _ _ e in
    apart sizes (size + 1) i j here.1 (omega (arith, less)) (omega (arith, h))

pub rise_of : (some few rise : Bool) → (some && few && rise) ≡ true → rise ≡ true
rise_of true true rise e = e
rise_of true false rise e = absurd cc
rise_of false few rise e = absurd cc

-- Tests of numbers. --

add-zero : (n : ℕ) → n + 0 ≡ n
add-zero n = omega arith

below-different : (x y : ℕ) → x < y → (x == y) ≡ false
below-different x y less = grind (arith, nat_tests)

above-different : (x y : ℕ) → y < x → (x == y) ≡ false
above-different x y less = grind (arith, nat_tests)

is_below : (x y : ℕ) → nat_lt x y ≡ true → x < y
is_below x y is = grind (arith, nat_tests)

is_above : (x y : ℕ) → nat_lt x y ≡ false → (x == y) ≡ false → y < x
is_above x y is different = grind (arith, nat_tests)

-- Blocks out. --

-- another size than that of a class
size_different : (sizes : List ℕ) (class i : ℕ) → are_rising_from 0 sizes ≡ true → class < length sizes → i < length sizes → (i == class) ≡ false →
    (get_or sizes class 0 == get_or sizes i 0) ≡ false
size_different sizes class i rising there also different = by_order (nat_lt i class) refl
  where
    by_order : (b : Bool) → nat_lt i class ≡ b → (get_or sizes class 0 == get_or sizes i 0) ≡ false
    by_order true is = above-different (get_or sizes class 0) (get_or sizes i 0) (apart sizes 0 i class rising (is_below i class is) there)
    by_order false is = below-different (get_or sizes class 0) (get_or sizes i 0) (apart sizes 0 class i rising (is_above i class is different) also)

-- one class has so many more
spread : (f g : ℕ → ℕ) (sizes : List ℕ) (class count : ℕ) → are_rising_from 0 sizes ≡ true → class < length sizes →
    ((x : ℕ) → g x ≡ f x + cond {A = ℕ} (get_or sizes class 0 == x) count 0) →
    map g sizes ≡ set (map f sizes) class (get_or (map f sizes) class 0 + count)
spread f g sizes class count rising there more =
    ext_get_or 0 (map g sizes) now
    (length-map sizes g ∙ sym (length-set (map f sizes) class (get_or (map f sizes) class 0 + count) ∙ length-map sizes f))
    (λ i within. at_place i (subst (λ n. i < n) (length-map sizes g) within))
  where
    now : List ℕ
    now = set (map f sizes) class (get_or (map f sizes) class 0 + count)

    same : get_or (map g sizes) class 0 ≡ get_or now class 0
    same =
        get_or-map g sizes class 0 0 there
        ∙ more (get_or sizes class 0)
        ∙ ap (λ b. f (get_or sizes class 0) + cond {A = ℕ} b count 0) (eq-eqb (get_or sizes class 0) (get_or sizes class 0) refl)
        ∙ sym (get_or-set_same (map f sizes) class (get_or (map f sizes) class 0 + count) 0 (subst (λ n. class < n) (sym (length-map sizes f)) there)
        ∙ ap (λ n. n + count) (get_or-map f sizes class 0 0 there))

    other : (i : ℕ) → i < length sizes → (i == class) ≡ false → get_or (map g sizes) i 0 ≡ get_or now i 0
    other i also different =
        get_or-map g sizes i 0 0 also
        ∙ more (get_or sizes i 0)
        ∙ ap (λ b. f (get_or sizes i 0) + cond {A = ℕ} b count 0) (size_different sizes class i rising there also different)
        ∙ add-zero (f (get_or sizes i 0))
        ∙ sym (get_or-set_other (map f sizes) class i (get_or (map f sizes) class 0 + count) 0 (λ is. true≢false (sym (eq-eqb i class is) ∙ different))
        ∙ get_or-map f sizes i 0 0 also)

    at_place : (i : ℕ) → i < length sizes → get_or (map g sizes) i 0 ≡ get_or now i 0
    at_place i also =
        elim (i == class) as (λ b. (i == class) ≡ b → get_or (map g sizes) i 0 ≡ get_or now i 0) [
          | true ↦ λ is. ap (λ j. get_or (map g sizes) j 0) (eqb-true i class is) ∙ same ∙ ap (λ j. get_or now j 0) (sym (eqb-true i class is))
          | false ↦ λ is. other i also is
        ] refl

-- the block size of a class
block_size-class : (sizes : List ℕ) (size class : ℕ) → class_of size sizes ≡ Some class → block_size sizes size ≡ get_or sizes class 0
block_size-class sizes size class is = ap (λ (o : Option ℕ). option_map_or (slice_index sizes) o 0) is

-- a class is one of the sizes
class-there : (sizes : List ℕ) (size class : ℕ) → class_of size sizes ≡ Some class → class < length sizes
class-there sizes size class is = (position-Some (λ block. nat_le size block) sizes class 0 is).0

-- Registrations. --

pub registrations_draw : RegistrationsDraw
registrations_draw limits s app name size option rules class fit is =
    let count = blocks_for option in
    let sizes = limits.sizes in
    let new = new_table (s.handles_made + 1) app name size option rules in
    let there = class-there sizes size class is in
    let rising = rise_of (leb 1 (length sizes)) (leb (length sizes) 17) (are_rising_from 0 sizes) fit in
    let after = after_draws (account_of limits s) class count in
    let account : List ℕ → List ℕ → ℕ → Account = λ made out requests. record {
      bytes = limits.tablepool;
      sizes = sizes;
      made = made;
      out = out;
      requests = requests;
      errors = 0;
    } in
    let out : map (blocks_out sizes (s.tables ++ new ∷ [])) sizes ≡ after.out =
    spread (blocks_out sizes s.tables) (blocks_out sizes (s.tables ++ new ∷ [])) sizes class count rising there
    (λ x.
    sum_by_push (λ (t : Table). cond {A = ℕ} (block_size sizes t.size == x) (blocks_for t.option) 0) s.tables new
    ∙ ap (λ b. blocks_out sizes s.tables x + cond {A = ℕ} (b == x) count 0) (block_size-class sizes size class is)) in
    ap (λ (o : Option ℕ). account (option_map_or (λ c. (after_draws (account_of limits s) c count).made) o s.made) (map (blocks_out sizes (s.tables ++ new ∷ [])) sizes) (counted_by s.drawn count)) is
    ∙ ap (λ o. account after.made o (counted_by s.drawn count)) out

-- Tables that leave. --

minus-zero : (n : ℕ) → n - 0 ≡ n
minus-zero n = omega arith

minus-minus : (n count : ℕ) → n - 1 - count ≡ n - suc count
minus-minus n count = omega arith

-- blocks that came back one after another
returned : (account : Account) (class count : ℕ) → class < length account.out →
    after_returns account class count ≡ record account { out = set account.out class (get_or account.out class 0 - count) }
returned account class zero there =
    sym (ap (λ out. record account { out = out })
    (ap (set account.out class) (minus-zero (get_or account.out class 0)) ∙ set-get_or account.out class 0))
returned account class (suc count) there =
    let one = get_or account.out class 0 - 1 in
    let less = set account.out class one in
    returned (after_return account class) class count (subst (λ n. class < n) (sym (length-set account.out class one)) there)
    ∙ ap (λ out. record account { out = out })
    (ap (λ n. set less class (n - count)) (get_or-set_same account.out class one 0 there)
    ∙ set-set account.out class one (one - count)
    ∙ ap (set account.out class) (minus-minus (get_or account.out class 0) count))

-- what was added is taken away
undone : (fs gs : List ℕ) (class count : ℕ) → class < length fs → gs ≡ set fs class (get_or fs class 0 + count) →
    set gs class (get_or gs class 0 - count) ≡ fs
undone fs gs class count there is =
    let more = get_or fs class 0 + count in
    ap (λ xs. set xs class (get_or xs class 0 - count)) is
    ∙ ap (λ n. set (set fs class more) class (n - count)) (get_or-set_same fs class more 0 there)
    ∙ set-set fs class more (more - count)
    ∙ ap (set fs class) (plus-minus (get_or fs class 0) count)
    ∙ set-get_or fs class 0
  where
    plus-minus : (n k : ℕ) → n + k - k ≡ n
    plus-minus n k = omega arith

pub leaving_returns : LeavingReturns
leaving_returns limits s before t behind class fit is =
    let count = blocks_for t.option in
    let sizes = limits.sizes in
    let there = class-there sizes t.size class is in
    let rising = rise_of (leb 1 (length sizes)) (leb (length sizes) 17) (are_rising_from 0 sizes) fit in
    let with_it : State = record s { tables = before ++ t ∷ behind } in
    let fs = map (blocks_out sizes (before ++ behind)) sizes in
    let gs = map (blocks_out sizes (before ++ t ∷ behind)) sizes in
    let fits : class < length fs = subst (λ n. class < n) (sym (length-map sizes (blocks_out sizes (before ++ behind)))) there in
    let long : class < length gs = subst (λ n. class < n) (sym (length-map sizes (blocks_out sizes (before ++ t ∷ behind)))) there in
    let more : gs ≡ set fs class (get_or fs class 0 + count) =
    spread (blocks_out sizes (before ++ behind)) (blocks_out sizes (before ++ t ∷ behind)) sizes class count rising there
    (λ x. one_more x ∙ ap (λ b. blocks_out sizes (before ++ behind) x + cond {A = ℕ} (b == x) count 0) (block_size-class sizes t.size class is)) in
    sym (returned (account_of limits with_it) class count long ∙ ap (λ out. record (account_of limits with_it) { out = out }) (undone fs gs class count fits more))
  where
    of_size : ℕ → Table → ℕ
    of_size x other = cond {A = ℕ} (block_size limits.sizes other.size == x) (blocks_for other.option) 0

    one_more : (x : ℕ) → blocks_out limits.sizes (before ++ t ∷ behind) x ≡ blocks_out limits.sizes (before ++ behind) x + of_size x t
    one_more x =
        let all = sum_by-append (of_size x) before (t ∷ behind) in
        let one = sum_by-cons (of_size x) t behind in
        let others = sum_by-append (of_size x) before behind in
        omega (arith, all, one, others)
