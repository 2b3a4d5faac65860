-- What a write of one slot leaves of what the slots hold.
use Rattle.std.proofs.Common.{◌≡◌, ◌≢◌, ℕ, zero, suc, ◌<◌, ◌⊎◌, true, List, [], ◌∷◌, length, get_or, set, Option, Some, None, is_some, refl, sym, subst, inl, inr, get_or-set_same, get_or-set_other}
use Rattle.std.proofs.lemmas.Bool.{cases_eq}
use Rattle.subscriptions.specs.declared.place.Place.{Place}
use Rattle.subscriptions.specs.Inside.{number_in, with_waiting}

-- what holds of the slot that was written and of the others holds of each
pub written : (slots : List (Option Place)) (slot : ℕ) (new : Option Place) → slot < length slots → (P : ℕ → Option Place → Type 0) → P slot new → ((k : ℕ) → k ≢ slot → P k (get_or slots k None)) → (k : ℕ) → P k (get_or (set slots slot new) k None)
written slots slot new inside P here others k = settled (cases_eq k slot)
  where
    settled : (k ≡ slot) ⊎ (k ≡ slot → ⊥) → P k (get_or (set slots slot new) k None)
    settled (inl e) =
        subst (λ x. P x (get_or (set slots slot new) x None)) (sym e) (subst (P slot) (sym (get_or-set_same slots slot new None inside)) here)
    settled (inr ne) = subst (P k) (sym (get_or-set_other slots slot k new None ne)) (others k ne)

-- what a change of what a slot holds doesn't touch stays the same at each slot
pub same_at : {X : Type 0} (f : Option Place → X) (g : Option Place → Option Place) → ((o : Option Place) → f (g o) ≡ f o) → (slots : List (Option Place)) (slot k : ℕ) → f (get_or (set slots slot (g (get_or slots slot None))) k None) ≡ f (get_or slots k None)
same_at f g same [] slot k = refl
same_at f g same (o ∷ slots) zero zero = same o
same_at f g same (o ∷ slots) zero (suc k) = refl
same_at f g same (o ∷ slots) (suc slot) zero = refl
same_at f g same (o ∷ slots) (suc slot) (suc k) = same_at f g same slots slot k

pub number_waiting : (waiting : ℕ) (o : Option Place) → number_in (with_waiting waiting o) ≡ number_in o
number_waiting waiting None = refl
number_waiting waiting (Some p) = refl

pub some_waiting : (waiting : ℕ) (o : Option Place) → is_some (with_waiting waiting o) ≡ is_some o
some_waiting waiting None = refl
some_waiting waiting (Some p) = refl

-- a free slot holds nothing, and one that isn't free something
pub nothing_there : (o : Option Place) → (is_some o ≡ true → ⊥) → o ≡ None
nothing_there None empty = refl
nothing_there (Some p) empty = absurd (empty refl)
