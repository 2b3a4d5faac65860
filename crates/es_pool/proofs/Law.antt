-- The account of a pool follows its draws and returns, and there is room in one if there is room in the other.
use Rattle.std.proofs.Common.{◌≡◌, ℕ, ◌+◌, ◌-◌, ◌*◌, ◌<◌, ◌≤◌, ◌&&◌, ◌⊎◌, inl, inr, suc, max, Bool, true, false, not, cond, eqb, leb, Option, Some, None, List, [], ◌∷◌, ◌++◌, length, get_or, set, replicate, sum_by, MatchBool, refl, ap, sym, subst, ◌∙◌, arith}
use Rattle.std.proofs.lemmas.Bool.{cases_eq}
use Rattle.std.proofs.lemmas.List.{length-set, length-replicate, get_or-replicate, get_or_default, get_or-set_same, get_or-set_other}
use Rattle.std.proofs.lemmas.List.Quantifiers.{position-Some}
use Rattle.std.proofs.lemmas.List.Sums.{sum_by-cons, sum_by_push, get_or-le-sum_by}
use Rattle.fsw_base.specs.Blocks.{class_of}
use Rattle.es_pool.specs.Pool.{PoolState, Draws, Reuses, Cuts, DrawsFor, DrawsIf, fits, fits_if, fits_class, made_in, out_in, free_in, used_by, class_at, given_back, is_out}
use Rattle.fsw_base.specs.PoolAccounts.{Account, overhead, counted, cost_of, has_room, has_room_if, has_room_for, after_draw, after_request, after_request_if, after_return, after_refusal}
use Rattle.es_pool.specs.Account.{IsAccountOf}
use Rattle.es_pool.specs.Runs.{Leaves, after_call}
use Rattle.es_pool.specs.declared.calls.PoolCall.TheVariants.{Get, Put}
use Rattle.es_pool.specs.declared.blocks.CutBlock.{CutBlock}
use Rattle.es_pool.proofs.Totals.{block, made-split, sum-change}
use Rattle.es_pool.proofs.Accounts.{cost-set}
use Rattle.es_pool.proofs.Keeps.{classes-set, classes-push, true_from_same, false_from_other, inside_from_out}

-- nothing made costs nothing
cost_zero : (made sizes : List ℕ) → length made ≡ length sizes → ((class : ℕ) → class < length sizes → get_or made class 0 ≡ 0) → cost_of made sizes ≡ 0
cost_zero [] sizes e none = refl
cost_zero (count ∷ made) [] e none = refl
cost_zero (count ∷ made) (size ∷ sizes) e none =
    let first : count ≡ 0 = none 0 (omega arith) in
    let later = cost_zero made sizes (omega (arith, e)) (λ class h. none (suc class) (omega (arith, h))) in
    ap (λ n. n * (size + overhead) + cost_of made sizes) first ∙ omega (arith, later)

-- what was made of each class costs what cutting the blocks took
pub cost_is_used : (blocks : List CutBlock) (made sizes : List ℕ) → length made ≡ length sizes
    → ((class : ℕ) → class < length sizes → get_or made class 0 ≡ made_in blocks class)
    → ((number : ℕ) → number < length blocks → (get_or blocks number (block 0 true)).class < length sizes)
    → cost_of made sizes ≡ used_by sizes blocks
cost_is_used [] made sizes e counts inside = cost_zero made sizes e counts
cost_is_used (b ∷ blocks) made sizes e counts inside =
    let h : b.class < length sizes = inside 0 (omega arith) in
    let h' : b.class < length made = omega (arith, h, e) in
    let before = set made b.class (made_in blocks b.class) in
    let k = get_or sizes b.class 0 + overhead in
    let here : get_or made b.class 0 ≡ 1 + made_in blocks b.class = counts b.class h ∙ (more b.class ∙ ap (λ t. cond t 1 0 + made_in blocks b.class) (true_from_same b.class b.class refl)) in
    let ih = cost_is_used blocks before sizes (length-set made b.class (made_in blocks b.class) ∙ e) (λ class hc. earlier class hc (cases_eq class b.class)) (λ number hn. inside (suc number) (omega (arith, hn))) in
    let change : cost_of before sizes + get_or made b.class 0 * k ≡ cost_of made sizes + made_in blocks b.class * k = cost-set made sizes b.class (made_in blocks b.class) e h' in
    let spread : get_or made b.class 0 * k ≡ k + made_in blocks b.class * k = ap (λ n. n * k) here ∙ one_more (made_in blocks b.class) k in
    omega (arith, change, spread, ih, sum_by-cons (λ x. get_or sizes x.class 0 + overhead) b blocks)
  where
    one_more : (n k : ℕ) → (1 + n) * k ≡ k + n * k
    one_more n k = omega arith

    more : (class : ℕ) → made_in (b ∷ blocks) class ≡ cond (eqb b.class class) 1 0 + made_in blocks class
    more class = sum_by-cons (λ x. cond (eqb x.class class) 1 0) b blocks

    none_more : (n : ℕ) → 0 + n ≡ n
    none_more n = omega arith

    earlier : (class : ℕ) → class < length sizes → (class ≡ b.class) ⊎ (class ≡ b.class → ⊥) → get_or (set made b.class (made_in blocks b.class)) class 0 ≡ made_in blocks class
    earlier class hc (inl same) =
        ap (λ i. get_or (set made b.class (made_in blocks b.class)) i 0) same
        ∙ (get_or-set_same made b.class (made_in blocks b.class) 0 (omega (arith, e, hc, same)) ∙ ap (made_in blocks) (sym same))
    earlier class hc (inr other) =
        get_or-set_other made b.class class (made_in blocks b.class) 0 other
        ∙ (counts class hc ∙ (more class ∙ (ap (λ t. cond t 1 0 + made_in blocks class) (false_from_other b.class class (λ s. other (sym s))) ∙ none_more (made_in blocks class))))

-- there is room for a class in one if there is in the other
class_alike : (pool : PoolState) (account : Account) (class : ℕ) → IsAccountOf pool account → class < length pool.sizes → fits_class pool class 1 ≡ has_room_for account class 1
class_alike pool account class a h =
    let cost : cost_of account.made account.sizes ≡ used_by pool.sizes pool.blocks = ap (cost_of account.made) a.sizes ∙ cost_is_used pool.blocks account.made pool.sizes a.made_all a.made a.classes in
    let size : get_or account.sizes class 0 ≡ get_or pool.sizes class 0 = ap (λ xs. get_or xs class 0) a.sizes in
    let made : get_or account.made class 0 ≡ made_in pool.blocks class = a.made class h in
    let out : get_or account.out class 0 ≡ out_in pool.blocks class = a.out class h in
    let bytes : account.bytes ≡ pool.bytes = a.bytes in
    cc

pub room_alike : (pool : PoolState) (account : Account) (size : ℕ) → IsAccountOf pool account → fits pool size 1 ≡ has_room account size
room_alike pool account size a = at (class_of size pool.sizes) refl ∙ ap (λ xs. has_room_if account (class_of size xs)) (sym a.sizes)
  where
    at : (o : Option ℕ) → class_of size pool.sizes ≡ o → fits_if pool 1 o ≡ has_room_if account o
    at None e = refl
    at (Some class) e = class_alike pool account class a (position-Some (λ b. leb size b) pool.sizes class 0 e).0

-- the two numbers of a class after a draw
counts_after : (before : List ℕ) (class i was count : ℕ) → class < length before → get_or before i 0 ≡ was → get_or (set before class count) i 0 ≡ cond (eqb class i) count was
counts_after before class i was count h e = by_cases (cases_eq i class)
  where
    at_same : (t : Bool) → t ≡ true → count ≡ cond t count was
    at_same true s = refl
    at_same false s = absurd cc

    at_other : (t : Bool) → t ≡ false → was ≡ cond t count was
    at_other false s = refl
    at_other true s = absurd cc

    by_cases : (i ≡ class) ⊎ (i ≡ class → ⊥) → get_or (set before class count) i 0 ≡ cond (eqb class i) count was
    by_cases (inl same) = ap (λ j. get_or (set before class count) j 0) same ∙ (get_or-set_same before class count 0 h ∙ at_same (eqb class i) (true_from_same class i (sym same)))
    by_cases (inr other) = get_or-set_other before class i count 0 other ∙ (e ∙ at_other (eqb class i) (false_from_other class i (λ s. other (sym s))))

-- a count at its own class, and at another
bumped : (class i was here : ℕ) → (class ≡ i → here ≡ was) → cond (eqb class i) (here + 1) was ≡ was + cond (eqb class i) 1 0
bumped class i was here e = by_cases (cases_eq class i)
  where
    by_cases : (class ≡ i) ⊎ (class ≡ i → ⊥) → cond (eqb class i) (here + 1) was ≡ was + cond (eqb class i) 1 0
    by_cases (inl same) = subst (λ t. cond t (here + 1) was ≡ was + cond t 1 0) (sym (true_from_same class i same)) (ap (λ n. n + 1) (e same))
    by_cases (inr other) = subst (λ t. cond t (here + 1) was ≡ was + cond t 1 0) (sym (false_from_other class i other)) (omega arith)

lowered : (class i was here : ℕ) → (class ≡ i → here ≡ was) → (class ≡ i → 0 < here) → cond (eqb class i) (here - 1) was + cond (eqb class i) 1 0 ≡ was
lowered class i was here e some = by_cases (cases_eq class i)
  where
    by_cases : (class ≡ i) ⊎ (class ≡ i → ⊥) → cond (eqb class i) (here - 1) was + cond (eqb class i) 1 0 ≡ was
    by_cases (inl same) = subst (λ t. cond t (here - 1) was + cond t 1 0 ≡ was) (sym (true_from_same class i same)) (omega (arith, e same, some same))
    by_cases (inr other) = subst (λ t. cond t (here - 1) was + cond t 1 0 ≡ was) (sym (false_from_other class i other)) (omega arith)

and_true : (t : Bool) → cond {A = ℕ} (t && true) 1 0 ≡ cond t 1 0
and_true true = refl
and_true false = refl

and_false : (t : Bool) → cond {A = ℕ} (t && false) 1 0 ≡ 0
and_false true = refl
and_false false = refl

stays : (class i count was : ℕ) → (class ≡ i → count ≡ was) → cond (eqb class i) count was ≡ was
stays class i count was e = by_cases (cases_eq class i)
  where
    by_cases : (class ≡ i) ⊎ (class ≡ i → ⊥) → cond (eqb class i) count was ≡ was
    by_cases (inl same) = subst (λ t. cond t count was ≡ was) (sym (true_from_same class i same)) (e same)
    by_cases (inr other) = subst (λ t. cond t count was ≡ was) (sym (false_from_other class i other)) refl

-- a draw of a free block: what was made stays the greatest number that was ever out
reused_account : (pool : PoolState) (account : Account) (class number requests : ℕ) → IsAccountOf pool account → class < length pool.sizes → number < length pool.blocks → get_or pool.blocks number (block class true) ≡ block class false → requests ≡ counted account.requests
    → IsAccountOf (record pool { blocks = set pool.blocks number (block class true); requests = requests }) (after_draw account class)
reused_account pool account class number requests a h within was e =
    let blocks = pool.blocks in
    let after = set blocks number (block class true) in
    let change : (f : CutBlock → ℕ) → sum_by f after + f (block class false) ≡ sum_by f blocks + f (block class true) = λ f. sum-change f blocks number (block class false) (block class true) (block class true) within was in
    let made' : (i : ℕ) → made_in after i ≡ made_in blocks i = λ i. omega (arith, change (λ b. cond (eqb b.class i) 1 0)) in
    let out' : (i : ℕ) → out_in after i ≡ out_in blocks i + cond (eqb class i) 1 0 = λ i. omega (arith, change (λ b. cond (eqb b.class i && b.out) 1 0), and_true (eqb class i), and_false (eqb class i)) in
    let some : 0 < free_in blocks class = omega (arith, change (λ b. cond (eqb b.class class && not b.out) 1 0), and_true (eqb class class), and_false (eqb class class), ap (λ t. cond {A = ℕ} t 1 0) (true_from_same class class refl)) in
    let m = a.made class h in
    let o = a.out class h in
    let top : max (get_or account.made class 0) (get_or account.out class 0 + 1) ≡ made_in blocks class = omega (arith, m, o, made-split blocks class, some) in
    record {
      bytes = a.bytes;
      sizes = a.sizes;
      made_all = length-set account.made class (max (get_or account.made class 0) (get_or account.out class 0 + 1)) ∙ a.made_all;
      out_all = length-set account.out class (get_or account.out class 0 + 1) ∙ a.out_all;
      made = λ i hi. counts_after account.made class i (made_in blocks i) (max (get_or account.made class 0) (get_or account.out class 0 + 1)) (omega (arith, h, a.made_all)) (a.made i hi)
          ∙ (stays class i (max (get_or account.made class 0) (get_or account.out class 0 + 1)) (made_in blocks i) (λ same. top ∙ ap (made_in blocks) same) ∙ sym (made' i));
      out = λ i hi. counts_after account.out class i (out_in blocks i) (get_or account.out class 0 + 1) (omega (arith, h, a.out_all)) (a.out i hi)
          ∙ (bumped class i (out_in blocks i) (get_or account.out class 0) (λ same. o ∙ ap (out_in blocks) same) ∙ sym (out' i));
      classes = classes-set blocks number class (length pool.sizes) true h a.classes;
      requests = sym e;
      errors = a.errors;
    }

-- a cut: as many are out as were made, and one more
cut_account : (pool : PoolState) (account : Account) (class requests : ℕ) → IsAccountOf pool account → class < length pool.sizes → free_in pool.blocks class ≡ 0 → requests ≡ counted account.requests
    → IsAccountOf (record pool { blocks = pool.blocks ++ block class true ∷ []; requests = requests }) (after_draw account class)
cut_account pool account class requests a h none e =
    let blocks = pool.blocks in
    let after = blocks ++ block class true ∷ [] in
    let push : (f : CutBlock → ℕ) → sum_by f after ≡ sum_by f blocks + f (block class true) = λ f. sum_by_push f blocks (block class true) in
    let made' : (i : ℕ) → made_in after i ≡ made_in blocks i + cond (eqb class i) 1 0 = λ i. push (λ b. cond (eqb b.class i) 1 0) in
    let out' : (i : ℕ) → out_in after i ≡ out_in blocks i + cond (eqb class i) 1 0 = λ i. omega (arith, push (λ b. cond (eqb b.class i && b.out) 1 0), and_true (eqb class i)) in
    let m = a.made class h in
    let o = a.out class h in
    let top : max (get_or account.made class 0) (get_or account.out class 0 + 1) ≡ made_in blocks class + 1 = omega (arith, m, o, made-split blocks class, none) in
    record {
      bytes = a.bytes;
      sizes = a.sizes;
      made_all = length-set account.made class (max (get_or account.made class 0) (get_or account.out class 0 + 1)) ∙ a.made_all;
      out_all = length-set account.out class (get_or account.out class 0 + 1) ∙ a.out_all;
      made = λ i hi. ap (λ n. get_or (set account.made class n) i 0) top
          ∙ (counts_after account.made class i (made_in blocks i) (made_in blocks class + 1) (omega (arith, h, a.made_all)) (a.made i hi)
          ∙ (bumped class i (made_in blocks i) (made_in blocks class) (λ same. ap (made_in blocks) same) ∙ sym (made' i)));
      out = λ i hi. counts_after account.out class i (out_in blocks i) (get_or account.out class 0 + 1) (omega (arith, h, a.out_all)) (a.out i hi)
          ∙ (bumped class i (out_in blocks i) (get_or account.out class 0) (λ same. o ∙ ap (out_in blocks) same) ∙ sym (out' i));
      classes = classes-push blocks class (length pool.sizes) h a.classes;
      requests = sym e;
      errors = a.errors;
    }

pub drawn_account : (old new : PoolState) (account : Account) (class number : ℕ) → IsAccountOf old account → class < length old.sizes → Draws old new class number → IsAccountOf new (after_draw account class)
drawn_account old new account class number a h (Reuses within was e) =
    subst (λ p. IsAccountOf p (after_draw account class)) (sym e) (reused_account old account class number (counted old.requests) a h within was (ap counted (sym a.requests)))
drawn_account old new account class number a h (Cuts none next e) =
    subst (λ p. IsAccountOf p (after_draw account class)) (sym e) (cut_account old account class (counted old.requests) a h none (ap counted (sym a.requests)))

-- a draw for a size in both
pub draws_alike : (old new : PoolState) (account account' : Account) (size number class : ℕ) → IsAccountOf old account → DrawsFor old new size number → class_of size account.sizes ≡ Some class → account' ≡ after_draw account class → IsAccountOf new account'
draws_alike old new account account' size number class a draws e_class e =
    let here : class_of size old.sizes ≡ Some class = ap (class_of size) (sym a.sizes) ∙ e_class in
    let h = (position-Some (λ b. leb size b) old.sizes class 0 here).0 in
    let at : Draws old new class number = subst (λ o. DrawsIf old new number o) here draws in
    subst (λ x. IsAccountOf new x) (sym e) (drawn_account old new account class number a h at)

-- a return in both
pub some_out : (pool : PoolState) (account : Account) (number class : ℕ) → IsAccountOf pool account → is_out pool number ≡ true → class ≡ class_at pool number → (class < length pool.sizes) × (0 < get_or account.out class 0)
some_out pool account number class a out e =
    let within = inside_from_out pool.blocks number out in
    let b = get_or pool.blocks number (block 0 false) in
    let same : b ≡ get_or pool.blocks number (block 0 true) = get_or_default pool.blocks number (block 0 false) (block 0 true) within in
    let h : class < length pool.sizes = omega (arith, a.classes number within, e) in
    let is_class : eqb b.class class ≡ true = true_from_same b.class class (ap (λ (x : CutBlock). x.class) same ∙ sym e) in
    let one : 1 ≤ cond (eqb b.class class && b.out) 1 0 = subst (λ t. 1 ≤ cond (t && b.out) 1 0) (sym is_class) (subst (λ t. 1 ≤ cond (true && t) 1 0) (sym out) (omega arith)) in
    (h, omega (arith, a.out class h, get_or-le-sum_by (λ x. cond (eqb x.class class && x.out) 1 0) pool.blocks number (block 0 false) within, one))

pub returns_alike : (pool new : PoolState) (account account' : Account) (number class : ℕ) → IsAccountOf pool account → is_out pool number ≡ true → class ≡ class_at pool number → new ≡ given_back pool number → account' ≡ after_return account class → IsAccountOf new account'
returns_alike pool new account account' number class a out e e_new e_account =
    let blocks = pool.blocks in
    let within = inside_from_out blocks number out in
    let found = some_out pool account number class a out e in
    let h = found.0 in
    let was_out : (get_or blocks number (block 0 true)).out ≡ true = ap (λ (b : CutBlock). b.out) (get_or_default blocks number (block 0 true) (block 0 false) within) ∙ out in
    let was : get_or blocks number (block 0 true) ≡ block class true = ap (λ c. block c (get_or blocks number (block 0 true)).out) (sym e) ∙ ap (λ o. block class o) was_out in
    let after = set blocks number (block class false) in
    let change : (f : CutBlock → ℕ) → sum_by f after + f (block class true) ≡ sum_by f blocks + f (block class false) = λ f. sum-change f blocks number (block class true) (block class false) (block 0 true) within was in
    let made' : (i : ℕ) → made_in after i ≡ made_in blocks i = λ i. omega (arith, change (λ b. cond (eqb b.class i) 1 0)) in
    let out' : (i : ℕ) → out_in after i + cond (eqb class i) 1 0 ≡ out_in blocks i = λ i. omega (arith, change (λ b. cond (eqb b.class i && b.out) 1 0), and_true (eqb class i), and_false (eqb class i)) in
    let o = a.out class h in
    let there : IsAccountOf (record pool { blocks = after }) (after_return account class) = record {
      bytes = a.bytes;
      sizes = a.sizes;
      made_all = a.made_all;
      out_all = length-set account.out class (get_or account.out class 0 - 1) ∙ a.out_all;
      made = λ i hi. a.made i hi ∙ sym (made' i);
      out = λ i hi. omega (
        arith,
        counts_after account.out class i (out_in blocks i) (get_or account.out class 0 - 1) (omega (arith, h, a.out_all)) (a.out i hi),
        lowered class i (out_in blocks i) (get_or account.out class 0) (λ same. o ∙ ap (out_in blocks) same) (λ same. found.1),
        out' i,
      );
      classes = classes-set blocks number class (length pool.sizes) false h a.classes;
      requests = a.requests;
      errors = a.errors;
    } in
    subst (λ p. IsAccountOf p account') (sym (e_new ∙ ap (λ c. record pool { blocks = set blocks number (block c false) }) (sym e)))
    (subst (λ x. IsAccountOf (record pool { blocks = after }) x) (sym e_account) there)

-- the rest in both
pub rest_alike : (pool : PoolState) (account : Account) → IsAccountOf pool account → cost_of account.made account.sizes ≡ used_by pool.sizes pool.blocks
rest_alike pool account a = ap (cost_of account.made) a.sizes ∙ cost_is_used pool.blocks account.made pool.sizes a.made_all a.made a.classes

-- four figures that are the same pass the test of each
pub same_figures : (a b c d a' b' c' d' : ℕ) → a ≡ a' → b ≡ b' → c ≡ c' → d ≡ d' → (eqb a a' && (eqb b b' && (eqb c c' && eqb d d'))) ≡ true
same_figures a b c d a' b' c' d' ea eb ec ed =
    subst (λ t. (t && (eqb b b' && (eqb c c' && eqb d d'))) ≡ true) (sym (true_from_same a a' ea))
    (subst (λ t. (t && (eqb c c' && eqb d d')) ≡ true) (sym (true_from_same b b' eb))
    (subst (λ t. (t && eqb d d') ≡ true) (sym (true_from_same c c' ec)) (true_from_same d d' ed)))

-- two pools of which nothing was made
pub account_new : (bytes : ℕ) (sizes : List ℕ) → IsAccountOf (record { bytes = bytes; most = bytes; sizes = sizes; blocks = []; requests = 0; errors = 0 }) (record { bytes = bytes; sizes = sizes; made = replicate (length sizes) 0; out = replicate (length sizes) 0; requests = 0; errors = 0 })
account_new bytes sizes = record {
  bytes = refl;
  sizes = refl;
  made_all = length-replicate {A = ℕ} (length sizes) 0;
  out_all = length-replicate {A = ℕ} (length sizes) 0;
  made = λ class h. get_or-replicate {A = ℕ} (length sizes) class 0 0 h;
  out = λ class h. get_or-replicate {A = ℕ} (length sizes) class 0 0 h;
  classes = λ number h. absurd (omega (arith, h));
  requests = refl;
  errors = refl;
}

-- what each call leaves, from what its answer tells
false_unless : (b : Bool) → (b ≡ true → false ≡ true) → b ≡ false
false_unless true never = sym (never refl)
false_unless false never = refl

pub leaves_drawn : (old new : PoolState) (size number : ℕ) → fits old size 1 ≡ true → DrawsFor old new size number → Leaves old (Get size) new
leaves_drawn old new size number e draws = subst (λ b. MatchBool b ((n : ℕ) × DrawsFor old new size n) (new ≡ old)) (sym e) (number, draws)

pub leaves_unchanged : (old new : PoolState) (size : ℕ) → (fits old size 1 ≡ true → false ≡ true) → new ≡ old → Leaves old (Get size) new
leaves_unchanged old new size never e = subst (λ b. MatchBool b ((n : ℕ) × DrawsFor old new size n) (new ≡ old)) (sym (false_unless (fits old size 1) never)) e

-- how the account moves, from what its own answer tells
pub moved_drawn : (account after : Account) (size class : ℕ) → class_of size account.sizes ≡ Some class → has_room account size ≡ true → after ≡ after_draw account class → after ≡ after_request account size
moved_drawn account after size class e room drawn =
    let fits : has_room_for account class 1 ≡ true = sym (ap (has_room_if account) e) ∙ room in
    drawn ∙ sym (ap (after_request_if account) e ∙ ap (λ t. cond t (after_draw account class) account) fits)

pub moved_back : (pool : PoolState) (account after : Account) (number class : ℕ) → is_out pool number ≡ true → class ≡ class_at pool number → after ≡ after_return account class → after ≡ after_call pool account (Put number)
moved_back pool account after number class out e back =
    back ∙ (ap (after_return account) e ∙ sym (ap (λ t. cond t (after_return account (class_at pool number)) (after_refusal account)) out))
