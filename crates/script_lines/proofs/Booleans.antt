-- Parts of tests.
use Rattle.std.proofs.Common.{◌≡◌, ℕ, ◌≤◌, Bool, true, false, not, ◌&&◌, nat_le, eqb, List, [], ◌∷◌, ◌++◌, refl, ap, ◌∙◌}
use Rattle.std.specs.List.{list_all}
use Rattle.std.proofs.lemmas.Bool.{leb-true, le-leb, ne_eqb}

pub and_first : (a b : Bool) → (a && b) ≡ true → a ≡ true
and_first true b h = refl
and_first false b h = absurd cc

pub and_second : (a b : Bool) → (a && b) ≡ true → b ≡ true
and_second true b h = h
and_second false b h = absurd cc

pub both : {a b : Bool} → a ≡ true → b ≡ true → (a && b) ≡ true
both {a} {b} one other = ap (λ x. x && b) one ∙ other

pub not_false : {a : Bool} → a ≡ false → not a ≡ true
not_false h = ap not h

-- a test that all pass, of one list behind another
pub all_append : {X : Type 0} (p : X → Bool) (xs ys : List X) → list_all p xs ≡ true → list_all p ys ≡ true → list_all p (xs ++ ys) ≡ true
all_append p [] ys one other = other
all_append p (x ∷ xs) ys one other = both (and_first (p x) (list_all p xs) one) (all_append p xs ys (and_second (p x) (list_all p xs) one) other)

-- a test that each passes that passes another
pub all_weaker : {X : Type 0} (p q : X → Bool) → ((x : X) → p x ≡ true → q x ≡ true) → (xs : List X) → list_all p xs ≡ true → list_all q xs ≡ true
all_weaker p q weaker [] all = refl
all_weaker p q weaker (x ∷ xs) all = both (weaker x (and_first (p x) (list_all p xs) all)) (all_weaker p q weaker xs (and_second (p x) (list_all p xs) all))

-- numbers between two bounds
pub between : (low high n : ℕ) → low ≤ n → n ≤ high → (nat_le low n && nat_le n high) ≡ true
between low high n from to = both (le-leb low n from) (le-leb n high to)

pub at_least : (low high n : ℕ) → (nat_le low n && nat_le n high) ≡ true → low ≤ n
at_least low high n h = leb-true low n (and_first (nat_le low n) (nat_le n high) h)

pub at_most : (low high n : ℕ) → (nat_le low n && nat_le n high) ≡ true → n ≤ high
at_most low high n h = leb-true n high (and_second (nat_le low n) (nat_le n high) h)

pub differ : (a b : ℕ) → (a ≡ b → ⊥) → eqb a b ≡ false
differ a b ne = ne_eqb a b ne
