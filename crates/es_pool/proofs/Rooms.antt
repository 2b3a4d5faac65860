-- A draw takes one from what fits, in a pool and in its account.
use Rattle.std.proofs.Common.{◌≡◌, ℕ, ◌+◌, ◌-◌, ◌*◌, ◌<◌, ◌&&◌, max, Bool, true, false, cond, eqb, leb, Option, Some, None, List, [], ◌∷◌, ◌++◌, length, get_or, set, sum_by, refl, ap, sym, ◌∙◌, arith}
use Rattle.std.proofs.lemmas.List.{get_or-set_same, set-set}
use Rattle.std.proofs.lemmas.List.Sums.{sum_by_push}
use Rattle.fsw_base.specs.Blocks.{class_of}
use Rattle.fsw_base.specs.PoolAccounts.{Account, overhead, counted, counted_by, cost_of, has_room_for, after_draw, after_draws}
use Rattle.es_pool.specs.Pool.{PoolState, Draws, Reuses, Cuts, DrawsFor, DrawsIf, fits, fits_if, fits_class, made_in, out_in, used_by}
use Rattle.es_pool.specs.declared.blocks.CutBlock.{CutBlock}
use Rattle.es_pool.proofs.Totals.{block, made-split, sum-change}
use Rattle.es_pool.proofs.Keeps.{true_from_same}
use Rattle.es_pool.proofs.Accounts.{cost-set, max_cost}

-- a cost paid, and so many others to pay
paid_once : (used paid cost more fewer count : ℕ) → paid ≡ used + cost → fewer ≡ count → more ≡ count + 1 → paid + cost * fewer ≡ used + cost * more
paid_once used paid cost more fewer count e_paid e_fewer e_more =
    ap (λ n. paid + cost * n) e_fewer ∙ (ap (λ n. n + cost * count) e_paid ∙ (spread used cost count ∙ ap (λ n. used + cost * n) (sym e_more)))
  where
    spread : (u c n : ℕ) → u + c + c * n ≡ u + c * (n + 1)
    spread u c n = omega arith

one_if : (t : Bool) → cond {A = ℕ} (t && true) 1 0 ≡ cond t 1 0
one_if true = refl
one_if false = refl

none_if : (t : Bool) → cond {A = ℕ} (t && false) 1 0 ≡ 0
none_if true = refl
none_if false = refl

-- a draw of a class
class_after : (old new : PoolState) (class number count : ℕ) → Draws old new class number → fits_class new class count ≡ fits_class old class (count + 1)
class_after old new class number count (Reuses within was e) =
    let blocks = old.blocks in
    let after = set blocks number (block class true) in
    let cost = get_or old.sizes class 0 + overhead in
    let here : cond {A = ℕ} (eqb class class) 1 0 ≡ 1 = ap (λ t. cond {A = ℕ} t 1 0) (true_from_same class class refl) in
    let change : (f : CutBlock → ℕ) → sum_by f after + f (block class false) ≡ sum_by f blocks + f (block class true) = λ f. sum-change f blocks number (block class false) (block class true) (block class true) within was in
    let used : used_by old.sizes after ≡ used_by old.sizes blocks = omega (arith, change (λ b. get_or old.sizes b.class 0 + overhead)) in
    let made : made_in after class ≡ made_in blocks class = omega (arith, change (λ b. cond (eqb b.class class) 1 0)) in
    let out : out_in after class ≡ out_in blocks class + 1 = omega (arith, change (λ b. cond (eqb b.class class && b.out) 1 0), one_if (eqb class class), none_if (eqb class class), here) in
    let missing : out_in after class + count - made_in after class ≡ out_in blocks class + (count + 1) - made_in blocks class = omega (arith, made, out) in
    ap (λ (p : PoolState). fits_class p class count) e
    ∙ ap (λ n. leb n old.bytes)
    (ap (λ n. used_by old.sizes after + cost * n) missing ∙ ap (λ n. n + cost * (out_in blocks class + (count + 1) - made_in blocks class)) used)
class_after old new class number count (Cuts none next e) =
    let blocks = old.blocks in
    let after = blocks ++ block class true ∷ [] in
    let cost = get_or old.sizes class 0 + overhead in
    let here : cond {A = ℕ} (eqb class class) 1 0 ≡ 1 = ap (λ t. cond {A = ℕ} t 1 0) (true_from_same class class refl) in
    let push : (f : CutBlock → ℕ) → sum_by f after ≡ sum_by f blocks + f (block class true) = λ f. sum_by_push f blocks (block class true) in
    let used : used_by old.sizes after ≡ used_by old.sizes blocks + cost = push (λ b. get_or old.sizes b.class 0 + overhead) in
    let made : made_in after class ≡ made_in blocks class + 1 = omega (arith, push (λ b. cond (eqb b.class class) 1 0), here) in
    let out : out_in after class ≡ out_in blocks class + 1 = omega (arith, push (λ b. cond (eqb b.class class && b.out) 1 0), one_if (eqb class class), here) in
    let all_out : made_in blocks class ≡ out_in blocks class = omega (arith, made-split blocks class, none) in
    ap (λ (p : PoolState). fits_class p class count) e
    ∙ ap (λ n. leb n old.bytes)
    (paid_once (used_by old.sizes blocks) (used_by old.sizes after) cost (out_in blocks class + (count + 1) - made_in blocks class) (out_in after class + count - made_in after class) count
    used (omega (arith, made, out, all_out)) (omega (arith, all_out)))

sizes_stay : (old new : PoolState) (class number : ℕ) → Draws old new class number → new.sizes ≡ old.sizes
sizes_stay old new class number (Reuses within was e) = ap (λ (p : PoolState). p.sizes) e
sizes_stay old new class number (Cuts none next e) = ap (λ (p : PoolState). p.sizes) e

-- a draw for a size
pub fits_after : (old new : PoolState) (size number count : ℕ) → DrawsFor old new size number → fits new size count ≡ fits old size (count + 1)
fits_after old new size number count draws = at (class_of size old.sizes) refl draws
  where
    at : (o : Option ℕ) → class_of size old.sizes ≡ o → DrawsIf old new number o → fits new size count ≡ fits_if old (count + 1) o
    at None e draws = absurd draws
    at (Some class) e draws =
        ap (fits_if new count) (ap (class_of size) (sizes_stay old new class number draws) ∙ e) ∙ class_after old new class number count draws

-- the account's cost and what is missing, after a draw
room_after : (cost paid k made out count : ℕ) → paid + made * k ≡ cost + max made (out + 1) * k → paid + k * (out + 1 + count - max made (out + 1)) ≡ cost + k * (out + (count + 1) - made)
room_after cost paid k made out count e =
    let greater = max_cost made (out + 1) k in
    let now : paid ≡ cost + k * (out + 1 - made) = omega (arith, e, greater) in
    let missing : (out + 1 - made) + (out + 1 + count - max made (out + 1)) ≡ out + (count + 1) - made = omega arith in
    ap (λ n. n + k * (out + 1 + count - max made (out + 1))) now ∙ (joined cost k (out + 1 - made) (out + 1 + count - max made (out + 1)) ∙ ap (λ n. cost + k * n) missing)
  where
    joined : (c k a b : ℕ) → c + k * a + k * b ≡ c + k * (a + b)
    joined c k a b = omega arith

pub account_room_after : (account : Account) (class count : ℕ) → class < length account.made → class < length account.out → length account.made ≡ length account.sizes →
    has_room_for (after_draw account class) class count ≡ has_room_for account class (count + 1)
account_room_after account class count h h_out e =
    let made = get_or account.made class 0 in
    let out = get_or account.out class 0 in
    let most = max made (out + 1) in
    let k = get_or account.sizes class 0 + overhead in
    let paid = cost_of (set account.made class most) account.sizes in
    let made_now : get_or (set account.made class most) class 0 ≡ most = get_or-set_same account.made class most 0 h in
    let out_now : get_or (set account.out class (out + 1)) class 0 ≡ out + 1 = get_or-set_same account.out class (out + 1) 0 h_out in
    let missing : get_or (set account.out class (out + 1)) class 0 + count - get_or (set account.made class most) class 0 ≡ out + 1 + count - most = omega (arith, made_now, out_now) in
    ap (λ n. leb n account.bytes)
    (ap (λ n. paid + k * n) missing ∙ room_after (cost_of account.made account.sizes) paid k made out count (cost-set account.made account.sizes class most e h))

-- draws at once are one draw after another
pub draws_together : (account : Account) (class count : ℕ) → class < length account.made → class < length account.out →
    after_draws account class (count + 1) ≡ after_draw (after_draws account class count) class
draws_together account class count h h_out =
    let made = get_or account.made class 0 in
    let out = get_or account.out class 0 in
    let most = max made (out + count) in
    let made_then : get_or (set account.made class most) class 0 ≡ most = get_or-set_same account.made class most 0 h in
    let out_then : get_or (set account.out class (out + count)) class 0 ≡ out + count = get_or-set_same account.out class (out + count) 0 h_out in
    let more : max made (out + (count + 1)) ≡ max (get_or (set account.made class most) class 0) (get_or (set account.out class (out + count)) class 0 + 1) = omega (arith, made_then, out_then) in
    let one : out + (count + 1) ≡ get_or (set account.out class (out + count)) class 0 + 1 = omega (arith, out_then) in
    let to : List ℕ → List ℕ → ℕ → Account = λ made out requests. record account { made = made; out = out; requests = requests } in
    let m' = max (get_or (set account.made class most) class 0) (get_or (set account.out class (out + count)) class 0 + 1) in
    let o' = get_or (set account.out class (out + count)) class 0 + 1 in
    ap (λ n. to (set account.made class n) (set account.out class (out + (count + 1))) (counted_by account.requests (count + 1))) more
    ∙ (ap (λ n. to (set account.made class m') (set account.out class n) (counted_by account.requests (count + 1))) one
    ∙ (ap (λ n. to (set account.made class m') (set account.out class o') n) (requests account.requests)
    ∙ (ap (λ xs. to xs (set account.out class o') (counted (counted_by account.requests count))) (sym (set-set account.made class most m'))
    ∙ ap (λ xs. to (set (set account.made class most) class m') xs (counted (counted_by account.requests count))) (sym (set-set account.out class (out + count) o')))))
  where
    requests : (n : ℕ) → counted_by n (count + 1) ≡ counted (counted_by n count)
    requests n = omega arith
