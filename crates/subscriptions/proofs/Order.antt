-- The live subscriptions stand in order.
use Rattle.std.proofs.Common.{◌≡◌, ◌≢◌, ℕ, zero, suc, ◌+◌, ◌<◌, ◌≤◌, eqb, cond, true, false, Bool, List, [], ◌∷◌, ◌++◌, length, Option, Some, None, refl, sym, subst, ◌∙◌, arith}
use Rattle.std.specs.List.{All}
use Rattle.std.proofs.lemmas.List.Elements.{All-weaker, All-head, All-tail}
use Rattle.subscriptions.specs.declared.place.Place.{Place}
use Rattle.subscriptions.specs.Subs.{LiveSubscription, IsRising, AreInOrder}
use Rattle.subscriptions.specs.Inside.{held_in, numbered, live_upto, number_at, AreKept}
use Rattle.subscriptions.proofs.LiveSubscriptions.{in_range, numbered_none}
use Rattle.subscriptions.proofs.Finds.{StandsUpto, live_stand}
use Rattle.subscriptions.proofs.WaitingCounts.{shown}
use Rattle.subscriptions.proofs.Numbers.{equal}

-- at most one subscription has a number
numbered_rising : (number first : ℕ) (slots : List (Option Place)) → ((j k : ℕ) → 0 < number_at slots j → number_at slots j ≡ number_at slots k → j ≡ k) → IsRising number (numbered (suc number) first slots)
numbered_rising number first [] distinct = tt
numbered_rising number first (None ∷ slots) distinct =
    numbered_rising number (first + 1) slots (λ j k used same. less j k (distinct (suc j) (suc k) used same))
  where
    less : (j k : ℕ) → suc j ≡ suc k → j ≡ k
    less j k e = omega (arith, e)
numbered_rising number first (Some p ∷ slots) distinct =
    choose (numbered_rising number (first + 1) slots (λ j k used same. less j k (distinct (suc j) (suc k) used same))) (eqb p.number (suc number)) refl
  where
    less : (j k : ℕ) → suc j ≡ suc k → j ≡ k
    less j k e = omega (arith, e)

    alone : p.number ≡ suc number → (k : ℕ) → number_at slots k ≢ suc number
    alone its k same = let e = distinct 0 (suc k) (omega (arith, its)) (its ∙ sym same) in omega (arith, e)

    choose : IsRising number (numbered (suc number) (first + 1) slots) → (b : Bool) → eqb p.number (suc number) ≡ b → IsRising number (cond b (held_in first p ∷ numbered (suc number) (first + 1) slots) (numbered (suc number) (first + 1) slots))
    choose rest true e =
        let its = equal p.number (suc number) e in
        let none = numbered_none (suc number) (first + 1) slots (omega arith) (alone its) in
        (omega (arith, its), subst (IsRising p.number) (sym none) tt)
    choose rest false e = rest

rising_append : (below upto : ℕ) (xs ys : List LiveSubscription) → below ≤ upto → IsRising below xs → All (λ s. s.number ≤ upto) xs → IsRising upto ys → IsRising below (xs ++ ys)
rising_append below upto [] [] le front all back = tt
rising_append below upto [] (y ∷ ys) le front all back = (omega (arith, le, back.0), back.1)
rising_append below upto (x ∷ xs) ys le front all back =
    (front.0, rising_append x.number upto xs ys (All-head (λ s. s.number ≤ upto) x xs all) front.1 (All-tail (λ s. s.number ≤ upto) x xs all) back)

live_rising : (slots : List (Option Place)) (upto : ℕ) → ((j k : ℕ) → 0 < number_at slots j → number_at slots j ≡ number_at slots k → j ≡ k) → IsRising 0 (live_upto slots upto)
live_rising slots zero distinct = tt
live_rising slots (suc upto) distinct =
    rising_append 0 upto (live_upto slots upto) (numbered (suc upto) 0 slots) (omega arith) (live_rising slots upto distinct)
    (All-weaker (StandsUpto slots upto) (λ s. s.number ≤ upto) (λ s st. st.within) (live_upto slots upto) (live_stand slots upto))
    (numbered_rising upto 0 slots distinct)

pub in_order : (slots : List (Option Place)) (free : List ℕ) (made room : ℕ) → AreKept slots free made → length slots ≤ room → AreInOrder (shown room slots made)
in_order slots free made room kept few = record {
  rising = live_rising slots made kept.distinct;
  numbers = All-weaker (StandsUpto slots made) (λ s. s.number ≤ made) (λ s st. st.within) (live_upto slots made) (live_stand slots made);
  slots = All-weaker (StandsUpto slots made) (λ s. s.slot < room) (λ s st. inside s (in_range slots s.slot st.place st.here)) (live_upto slots made) (live_stand slots made);
  fit = omega (arith, kept.full, few);
}
  where
    inside : (s : LiveSubscription) → s.slot < length slots → s.slot < room
    inside s h = omega (arith, h, few)
