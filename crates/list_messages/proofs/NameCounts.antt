-- How often numbers are named, and what was asked for under them, once names came and went.
use Rattle.std.proofs.Common.{◌≡◌, ℕ, zero, suc, ◌+◌, ◌-◌, ◌<◌, ◌≤◌, ◌⊎◌, inl, inr, cond, eqb, eq-eqb, ne_eqb, List, [], ◌∷◌, ◌++◌, length, set, refl, ap, sym, ◌∙◌, length-append, arith}
use Rattle.std.proofs.lemmas.Bool.{cases_eq, cases_lt}
use Rattle.std.proofs.lemmas.List.{get_or-set_same, get_or-set_other, set_past, get_or_past, length-set, get_or_append_left, get_or_push}
use Rattle.std.proofs.lemmas.List.Sums.{sum_by-cons}
use Rattle.list_messages.proofs.NamesGone.{times}
use Rattle.list_messages.specs.Sends.{Use, no_use, use_at, names_of, with_names, without_name, without_names}

-- One number's use is another. --

here : (uses : List Use) (m n : ℕ) (u : Use) → m ≡ n → m < length uses → use_at (set uses m u) n ≡ u
here uses m n u same within = ap (use_at (set uses m u)) (sym same) ∙ get_or-set_same uses m u no_use within

there : (uses : List Use) (m n : ℕ) (u : Use) → (m ≡ n → ⊥) → use_at (set uses m u) n ≡ use_at uses n
there uses m n u apart = get_or-set_other uses m n u no_use (λ is. apart (sym is))

-- what was asked for stays
pub asked-set : (uses : List Use) (m n : ℕ) (u : Use) → u.asked ≡ (use_at uses m).asked → (use_at (set uses m u) n).asked ≡ (use_at uses n).asked
asked-set uses m n u same = at (cases_eq m n) (cases_lt m (length uses))
  where
    at : (m ≡ n) ⊎ (m ≡ n → ⊥) → (m < length uses) ⊎ (length uses ≤ m) → (use_at (set uses m u) n).asked ≡ (use_at uses n).asked
    at (inl is) (inl within) = ap (λ (x : Use). x.asked) (here uses m n u is within) ∙ same ∙ ap (λ k. (use_at uses k).asked) is
    at (inl is) (inr past) = ap (λ (us : List Use). (use_at us n).asked) (set_past uses m u past)
    at (inr apart) either = ap (λ (x : Use). x.asked) (there uses m n u apart)

-- so many names more
pub names-with : (uses : List Use) (m k n : ℕ) → m < length uses → names_of (with_names uses m k) n ≡ names_of uses n + cond {A = ℕ} (eqb m n) k 0
names-with uses m k n within = at (cases_eq m n)
  where
    u : Use
    u = record (use_at uses m) { named = (use_at uses m).named + k }

    at : (m ≡ n) ⊎ (m ≡ n → ⊥) → names_of (set uses m u) n ≡ names_of uses n + cond {A = ℕ} (eqb m n) k 0
    at (inl is) =
        omega (arith, ap (λ (x : Use). x.named) (here uses m n u is within), ap (λ j. names_of uses j) is, ap (λ b. cond {A = ℕ} b k 0) (eq-eqb m n is))
    at (inr apart) = omega (arith, ap (λ (x : Use). x.named) (there uses m n u apart), ap (λ b. cond {A = ℕ} b k 0) (ne_eqb m n apart))

-- one name less
pub names-without : (uses : List Use) (m n : ℕ) → names_of (without_name uses m) n ≡ names_of uses n - cond {A = ℕ} (eqb m n) 1 0
names-without uses m n = at (cases_eq m n) (cases_lt m (length uses))
  where
    u : Use
    u = record (use_at uses m) { named = (use_at uses m).named - 1 }

    at : (m ≡ n) ⊎ (m ≡ n → ⊥) → (m < length uses) ⊎ (length uses ≤ m) → names_of (set uses m u) n ≡ names_of uses n - cond {A = ℕ} (eqb m n) 1 0
    at (inl is) (inl within) =
        omega (arith, ap (λ (x : Use). x.named) (here uses m n u is within), ap (λ j. names_of uses j) is, ap (λ b. cond {A = ℕ} b 1 0) (eq-eqb m n is))
    at (inl is) (inr past) =
        omega (
          arith,
          ap (λ (us : List Use). names_of us n) (set_past uses m u past),
          ap (λ (x : Use). x.named) (get_or_past uses m no_use past),
          ap (λ j. names_of uses j) is,
        )
    at (inr apart) either = omega (arith, ap (λ (x : Use). x.named) (there uses m n u apart), ap (λ b. cond {A = ℕ} b 1 0) (ne_eqb m n apart))

pub asked-without : (uses : List Use) (m n : ℕ) → (use_at (without_name uses m) n).asked ≡ (use_at uses n).asked
asked-without uses m n = asked-set uses m n (record (use_at uses m) { named = (use_at uses m).named - 1 }) refl

pub asked-with : (uses : List Use) (m k n : ℕ) → (use_at (with_names uses m k) n).asked ≡ (use_at uses n).asked
asked-with uses m k n = asked-set uses m n (record (use_at uses m) { named = (use_at uses m).named + k }) refl

-- Many names. --

pub names-without_all : (uses : List Use) (gone : List ℕ) (n : ℕ) → names_of (without_names uses gone) n ≡ names_of uses n - times n gone
names-without_all uses [] n = omega arith
names-without_all uses (m ∷ gone) n =
    omega (
      arith,
      names-without_all (without_name uses m) gone n,
      names-without uses m n,
      sum_by-cons (λ (other : ℕ). cond {A = ℕ} (eqb other n) 1 0) m gone,
    )

pub asked-without_all : (uses : List Use) (gone : List ℕ) (n : ℕ) → (use_at (without_names uses gone) n).asked ≡ (use_at uses n).asked
asked-without_all uses [] n = refl
asked-without_all uses (m ∷ gone) n = asked-without_all (without_name uses m) gone n ∙ asked-without uses m n

pub length-without_all : (uses : List Use) (gone : List ℕ) → length (without_names uses gone) ≡ length uses
length-without_all uses [] = refl
length-without_all uses (m ∷ gone) = length-without_all (without_name uses m) gone ∙ length-set uses m _

-- One number more. --

-- the numbers given before stay
pub old-push : (uses : List Use) (u : Use) (n : ℕ) → n < length uses → use_at (uses ++ u ∷ []) n ≡ use_at uses n
old-push uses u n within = get_or_append_left uses (u ∷ []) no_use n within

-- and the new one is the next
pub new-push : (uses : List Use) (u : Use) (n : ℕ) → n ≡ length uses → use_at (uses ++ u ∷ []) n ≡ u
new-push uses u n is = get_or_push uses u no_use n (sym is)

-- a number that is named was given
pub was_given : (uses : List Use) (n : ℕ) → 1 ≤ names_of uses n → n < length uses
was_given [] n some = absurd (omega (arith, some))
was_given (u ∷ uses) zero some = omega arith
was_given (u ∷ uses) (suc n) some = omega (arith, was_given uses n some)

-- how often a number is named, with the new one named once
pub names-push : (uses : List Use) (size n : ℕ) → names_of (uses ++ record { asked = size; named = 1 } ∷ []) n ≡ names_of uses n + cond {A = ℕ} (eqb (length uses) n) 1 0
names-push uses size n = at (cases_eq (length uses) n) (cases_lt n (length uses))
  where
    u : Use
    u = record { asked = size; named = 1 }

    at : (length uses ≡ n) ⊎ (length uses ≡ n → ⊥) → (n < length uses) ⊎ (length uses ≤ n) → names_of (uses ++ u ∷ []) n ≡ names_of uses n + cond {A = ℕ} (eqb (length uses) n) 1 0
    at (inl is) (inl within) = absurd (omega (arith, is, within))
    at (inl is) (inr past) =
        omega (
          arith,
          ap (λ (x : Use). x.named) (new-push uses u n (sym is)),
          ap (λ (x : Use). x.named) (get_or_past uses n no_use past),
          ap (λ b. cond {A = ℕ} b 1 0) (eq-eqb (length uses) n is),
        )
    at (inr apart) (inl within) =
        omega (arith, ap (λ (x : Use). x.named) (old-push uses u n within), ap (λ b. cond {A = ℕ} b 1 0) (ne_eqb (length uses) n apart))
    at (inr apart) (inr past) =
        let longer : length (uses ++ u ∷ []) ≤ n = omega (arith, past, apart, length-append uses (u ∷ [])) in
        omega (
          arith,
          ap (λ (x : Use). x.named) (get_or_past (uses ++ u ∷ []) n no_use longer),
          ap (λ (x : Use). x.named) (get_or_past uses n no_use past),
          ap (λ b. cond {A = ℕ} b 1 0) (ne_eqb (length uses) n apart),
        )
