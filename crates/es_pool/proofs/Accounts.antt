-- The cost of what an account has made, and an account's balance after a draw.
use Rattle.std.proofs.Common.{◌≡◌, ℕ, ◌+◌, ◌-◌, ◌*◌, ◌<◌, ◌≤◌, ◌⊎◌, inl, inr, zero, suc, max, true, leb, List, [], ◌∷◌, length, get_or, set, drop, replicate, refl, ap, ◌∙◌, arith}
use Rattle.std.proofs.lemmas.Bool.{cases_eq}
use Rattle.std.proofs.lemmas.Bool.Decides.{nat_tests}
use Rattle.std.proofs.lemmas.List.{length-set, length-replicate, get_or-replicate, get_or-set_same, get_or-set_other}
use Rattle.fsw_base.specs.Blocks.{are_block_sizes}
use Rattle.fsw_base.specs.PoolAccounts.{Account, overhead, cost_of, has_room_for, IsBalanced}

-- what one class took is part of the whole
pub cost-get : (made sizes : List ℕ) (class : ℕ) → length made ≡ length sizes → class < length made → get_or made class 0 * (get_or sizes class 0 + overhead) ≤ cost_of made sizes
cost-get [] sizes class e h = absurd (omega (arith, h))
cost-get (count ∷ made) [] class e h = absurd (omega (arith, e))
cost-get (count ∷ made) (size ∷ sizes) zero e h = omega arith
cost-get (count ∷ made) (size ∷ sizes) (suc class) e h = omega (arith, cost-get made sizes class (omega (arith, e)) (omega (arith, h)))

-- the classes from one on, and those behind it
pub cost-drop : (made sizes : List ℕ) (class : ℕ) → length made ≡ length sizes → class < length made → cost_of (drop class made) (drop class sizes) ≡ get_or made class 0 * (get_or sizes class 0 + overhead) + cost_of (drop (class + 1) made) (drop (class + 1) sizes)
cost-drop [] sizes class e h = absurd (omega (arith, h))
cost-drop (count ∷ made) [] class e h = absurd (omega (arith, e))
cost-drop (count ∷ made) (size ∷ sizes) zero e h = refl
cost-drop (count ∷ made) (size ∷ sizes) (suc class) e h =
    cost-drop made sizes class (omega (arith, e)) (omega (arith, h))
    ∙ ap (λ n. get_or made class 0 * (get_or sizes class 0 + overhead) + cost_of (drop n (count ∷ made)) (drop n (size ∷ sizes))) (shifted class)
  where
    shifted : (n : ℕ) → suc (n + 1) ≡ suc n + 1
    shifted n = omega arith

-- one count set
pub cost-set : (made sizes : List ℕ) (class count : ℕ) → length made ≡ length sizes → class < length made → cost_of (set made class count) sizes + get_or made class 0 * (get_or sizes class 0 + overhead) ≡ cost_of made sizes + count * (get_or sizes class 0 + overhead)
cost-set [] sizes class count e h = absurd (omega (arith, h))
cost-set (c ∷ made) [] class count e h = absurd (omega (arith, e))
cost-set (c ∷ made) (size ∷ sizes) zero count e h = omega arith
cost-set (c ∷ made) (size ∷ sizes) (suc class) count e h = omega (arith, cost-set made sizes class count (omega (arith, e)) (omega (arith, h)))

cost_none : (n : ℕ) (sizes : List ℕ) → cost_of (replicate n 0) sizes ≡ 0
cost_none zero sizes = refl
cost_none (suc n) [] = refl
cost_none (suc n) (size ∷ sizes) = omega (arith, cost_none n sizes)

-- the greater of two counts costs what the first did, and what the second is past it
pub max_cost : (m x k : ℕ) → max m x * k ≡ m * k + k * (x - m)
max_cost m x k = ap (λ n. n * k) greater ∙ spread m (x - m)
  where
    greater : max m x ≡ m + (x - m)
    greater = omega arith

    spread : (a b : ℕ) → (a + b) * k ≡ a * k + k * b
    spread a b = omega arith

-- a number is at most its product with a cost
pub le_product : (n size : ℕ) → n * overhead ≤ n * (size + overhead)
le_product n size =
    let spread : n * (size + overhead) ≡ n * size + n * overhead = omega arith in
    omega (arith, spread)

pub balanced_new : (bytes requests errors : ℕ) (sizes made out : List ℕ) → are_block_sizes sizes ≡ true → made ≡ replicate (length sizes) 0 → out ≡ replicate (length sizes) 0 → IsBalanced (record { bytes = bytes; sizes = sizes; made = made; out = out; requests = requests; errors = errors })
balanced_new bytes requests errors sizes made out fit e_made e_out = record {
  sizes_fit = fit;
  made_all = ap length e_made ∙ length-replicate {A = ℕ} (length sizes) 0;
  out_all = ap length e_out ∙ length-replicate {A = ℕ} (length sizes) 0;
  most = λ class h. omega (arith, ap (λ xs. get_or xs class 0) e_out, get_or-replicate {A = ℕ} (length sizes) class 0 0 h);
  paid = omega (arith, ap (λ xs. cost_of xs sizes) e_made, cost_none (length sizes) sizes);
}

-- a draw that there is room for
pub record Drawn (account : Account) (class requests : ℕ) : Type 0 where
  pub balanced : IsBalanced (record account {
    made = set account.made class (max (get_or account.made class 0) (get_or account.out class 0 + 1));
    out = set account.out class (get_or account.out class 0 + 1);
    requests = requests;
  })
  pub few : get_or account.out class 0 + 1 ≤ account.bytes

room_read : (cost k x bytes : ℕ) → leb (cost + k * x) bytes ≡ true → cost + k * x ≤ bytes
room_read cost k x bytes e = grind (arith, nat_tests)

pub drawn : (account : Account) (class requests : ℕ) → IsBalanced account → class < length account.sizes → has_room_for account class 1 ≡ true → Drawn account class requests
drawn account class requests b h room =
    let m = get_or account.made class 0 in
    let o = get_or account.out class 0 in
    let k = get_or account.sizes class 0 + overhead in
    let in_made : class < length account.made = omega (arith, h, b.made_all) in
    let in_out : class < length account.out = omega (arith, h, b.out_all) in
    let fits : cost_of account.made account.sizes + k * (o + 1 - m) ≤ account.bytes = room_read (cost_of account.made account.sizes) k (o + 1 - m) account.bytes room in
    let change = cost-set account.made account.sizes class (max m (o + 1)) b.made_all in_made in
    let more = max_cost m (o + 1) k in
    let part = cost-get account.made account.sizes class b.made_all in_made in
    let below : o + 1 ≤ max m (o + 1) = omega arith in
    let each : max m (o + 1) * overhead ≤ max m (o + 1) * k = le_product (max m (o + 1)) (get_or account.sizes class 0) in
    record {
      balanced = record {
        sizes_fit = b.sizes_fit;
        made_all = length-set account.made class (max m (o + 1)) ∙ b.made_all;
        out_all = length-set account.out class (o + 1) ∙ b.out_all;
        most = λ i hi. most_after i hi (cases_eq i class);
        paid = omega (arith, change, more, fits);
      };
      few = omega (arith, below, each, more, part, fits);
    }
  where
    most_after : (i : ℕ) → i < length account.sizes → (i ≡ class) ⊎ (i ≡ class → ⊥) → get_or (set account.out class (get_or account.out class 0 + 1)) i 0 ≤ get_or (set account.made class (max (get_or account.made class 0) (get_or account.out class 0 + 1))) i 0
    most_after i hi (inl e) =
        let m' = max (get_or account.made class 0) (get_or account.out class 0 + 1) in
        let o' = get_or account.out class 0 + 1 in
        omega (
          arith,
          ap (λ j. get_or (set account.out class o') j 0) e,
          ap (λ j. get_or (set account.made class m') j 0) e,
          get_or-set_same account.out class o' 0 (omega (arith, h, b.out_all)),
          get_or-set_same account.made class m' 0 (omega (arith, h, b.made_all)),
        )
    most_after i hi (inr ne) =
        omega (
          arith,
          b.most i hi,
          get_or-set_other account.out class i (get_or account.out class 0 + 1) 0 ne,
          get_or-set_other account.made class i (max (get_or account.made class 0) (get_or account.out class 0 + 1)) 0 ne,
        )

-- no more blocks are out than bytes, with much to spare
pub out_few : (account : Account) (class : ℕ) → IsBalanced account → class < length account.sizes → get_or account.out class 0 * overhead ≤ account.bytes
out_few account class b h =
    let part = cost-get account.made account.sizes class b.made_all (omega (arith, h, b.made_all)) in
    omega (arith, part, b.paid, b.most class h, le_product (get_or account.made class 0) (get_or account.sizes class 0))

-- a cost times nothing or one
pub at_most_once : (k x missing : ℕ) → x ≡ missing → missing ≤ 1 → k * x ≤ k
at_most_once k x missing e few = by_cases x (omega (arith, e, few))
  where
    by_cases : (n : ℕ) → n ≤ 1 → k * n ≤ k
    by_cases zero h = omega arith
    by_cases (suc zero) h = omega arith
    by_cases (suc (suc n)) h = absurd (omega (arith, h))
