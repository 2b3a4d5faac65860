-- Lists with an element for each application, in order of number.
use Rattle.std.proofs.Common.{◌≡◌, ℕ, zero, suc, ◌+◌, ◌≤◌, List, [], ◌∷◌, ◌++◌, length, Option, Some, None, IfSome, option_to_list, subst, ⊎_elim, Contains, arith}
use Rattle.std.proofs.lemmas.List.Elements.{Contains-push_cases}
use Rattle.thread_run.specs.Mains.{numbers}
use Rattle.thread_run.specs.Works.{Numbered}

pub numbered-push : {X : Type 0} (P : ℕ → X → Type 0) (app : ℕ) (xs : List X) (x : X) → Numbered P app xs → P (app + length xs) x → Numbered P app (xs ++ x ∷ [])
numbered-push P app [] x all one = (subst (λ n. P n x) (let e : app + 0 ≡ app = omega arith in e) one, tt)
numbered-push P app (y ∷ ys) x all one =
    (all.0, numbered-push P (app + 1) ys x all.1 (subst (λ n. P n x) (let e : app + length (y ∷ ys) ≡ app + 1 + length ys = omega arith in e) one))

pub numbered-pop : {X : Type 0} (P : ℕ → X → Type 0) (app : ℕ) (xs : List X) (x : X) → Numbered P app (xs ++ x ∷ []) → Numbered P app xs × P (app + length xs) x
numbered-pop P app [] x all = (tt, subst (λ n. P n x) (let e : app ≡ app + 0 = omega arith in e) all.0)
numbered-pop P app (y ∷ ys) x all =
    let rest = numbered-pop P (app + 1) ys x all.1 in
    ((all.0, rest.0), subst (λ n. P n x) (let e : app + 1 + length ys ≡ app + length (y ∷ ys) = omega arith in e) rest.1)

-- the same, by what taking the last answers
pub numbered-taken : {X : Type 0} (P : ℕ → X → Type 0) (app : ℕ) (old new : List X) (r : Option X) → old ≡ new ++ option_to_list r → Numbered P app old →
    IfSome r (λ x. Numbered P app new × P (app + length new) x)
numbered-taken P app old new None is all = tt
numbered-taken P app old new (Some x) is all = numbered-pop P app new x (subst (Numbered P app) is all)

pub in-numbers : (n app : ℕ) → Contains (numbers n) app → (1 ≤ app) × (app ≤ n)
in-numbers zero app there = let l = there.1 in absurd (omega (arith, l))
in-numbers (suc n) app there =
    ⊎_elim (λ old. let r = in-numbers n app old in (let p = r.0 in p, let q = r.1 in omega (arith, q))) (λ is. (omega (arith, is), omega (arith, is)))
    (Contains-push_cases (numbers n) (suc n) app there)

-- the next application has no port yet
pub not-yet : (n app : ℕ) (apps : List ℕ) → apps ≡ numbers n → app ≡ n + 1 → Contains apps app → ⊥
not-yet n app apps is own there = let r = in-numbers n app (subst (λ l. Contains l app) is there) in let q = r.1 in omega (arith, q, own)
