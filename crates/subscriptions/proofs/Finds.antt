-- Where the live subscriptions stand, and how they are found.
use Rattle.std.proofs.Common.{◌≡◌, ◌≢◌, ℕ, zero, suc, ◌+◌, ◌<◌, ◌≤◌, ◌⊎◌, eqb, cond, true, false, Bool, ◌&&◌, List, [], ◌∷◌, get_or, find, Option, Some, None, refl, sym, ap, ◌∙◌, inl, inr, arith}
use Rattle.std.specs.Option.{option_or}
use Rattle.std.specs.List.{All}
use Rattle.std.proofs.lemmas.Bool.{cases_eq}
use Rattle.std.proofs.lemmas.List.Elements.{All-nil, All-cons, All-append, All-weaker}
use Rattle.std.proofs.lemmas.List.Folds.{find-append}
use Rattle.subscriptions.specs.declared.place.Place.{Place}
use Rattle.subscriptions.specs.declared.words.SubNo.{SubNo}
use Rattle.subscriptions.specs.Subs.{LiveSubscription, goes_by}
use Rattle.subscriptions.specs.Inside.{held_in, numbered, live_upto, number_at}
use Rattle.subscriptions.proofs.Lists.{find_none}
use Rattle.subscriptions.proofs.LiveSubscriptions.{numbered_one}
use Rattle.subscriptions.proofs.Numbers.{zero_more, equal, both_equal, one_differs}

-- one of these slots, numbered on from the first, holds the subscription, whose number this is
pub record Stands (slots : List (Option Place)) (first number : ℕ) (s : LiveSubscription) : Type 0 where
  pub above : ℕ
  pub place : Place
  pub here : get_or slots above None ≡ Some place
  pub is : s ≡ held_in (first + above) place
  pub its : place.number ≡ number

further : (slots : List (Option Place)) (slot : Option Place) (first number : ℕ) (s : LiveSubscription) → Stands slots (first + 1) number s → Stands (slot ∷ slots) first number s
further slots slot first number s st = record {
  above = suc st.above;
  place = st.place;
  here = st.here;
  is = st.is ∙ ap (λ n. held_in n st.place) (moved first st.above);
  its = st.its;
}
  where
    moved : (m k : ℕ) → m + 1 + k ≡ m + suc k
    moved m k = omega arith

pub numbered_stand : (number first : ℕ) (slots : List (Option Place)) → All (Stands slots first number) (numbered number first slots)
numbered_stand number first [] = All-nil (Stands [] first number)
numbered_stand number first (None ∷ slots) =
    All-weaker (Stands slots (first + 1) number) (Stands (None ∷ slots) first number) (further slots None first number) (numbered number (first + 1) slots) (numbered_stand number (first + 1) slots)
numbered_stand number first (Some p ∷ slots) =
    choose (eqb p.number number) refl
    (All-weaker (Stands slots (first + 1) number) (Stands (Some p ∷ slots) first number) (further slots (Some p) first number) (numbered number (first + 1) slots) (numbered_stand number (first + 1) slots))
  where
    none : (n : ℕ) → n ≡ n + 0
    none n = omega arith

    choose : (b : Bool) → eqb p.number number ≡ b → All (Stands (Some p ∷ slots) first number) (numbered number (first + 1) slots) → All (Stands (Some p ∷ slots) first number) (cond b (held_in first p ∷ numbered number (first + 1) slots) (numbered number (first + 1) slots))
    choose true e rest =
        All-cons (Stands (Some p ∷ slots) first number) (held_in first p) (numbered number (first + 1) slots)
        (record { above = 0; place = p; here = refl; is = ap (λ n. held_in n p) (none first); its = equal p.number number e }) rest
    choose false e rest = rest

-- a live subscription whose number is at most this one
pub record StandsUpto (slots : List (Option Place)) (upto : ℕ) (s : LiveSubscription) : Type 0 where
  pub place : Place
  pub here : get_or slots s.slot None ≡ Some place
  pub is : s ≡ held_in s.slot place
  pub some : 0 < s.number
  pub within : s.number ≤ upto

upto_from : (slots : List (Option Place)) (upto number : ℕ) (s : LiveSubscription) → 0 < number → number ≤ upto → Stands slots 0 number s → StandsUpto slots upto s
upto_from slots upto number s some within st =
    let slot : s.slot ≡ st.above = ap (λ x. x.slot) st.is ∙ zero_more st.above in
    let its : s.number ≡ number = ap (λ x. x.number) st.is ∙ st.its in
    record {
      place = st.place;
      here = ap (λ k. get_or slots k None) slot ∙ st.here;
      is = st.is ∙ ap (λ n. held_in n st.place) (zero_more st.above ∙ sym slot);
      some = omega (arith, its);
      within = omega (arith, its);
    }

pub live_stand : (slots : List (Option Place)) (upto : ℕ) → All (StandsUpto slots upto) (live_upto slots upto)
live_stand slots zero = All-nil (StandsUpto slots zero)
live_stand slots (suc upto) =
    All-append (StandsUpto slots (suc upto)) (live_upto slots upto) (numbered (suc upto) 0 slots)
    (All-weaker (StandsUpto slots upto) (StandsUpto slots (suc upto)) wider (live_upto slots upto) (live_stand slots upto))
    (All-weaker (Stands slots 0 (suc upto)) (StandsUpto slots (suc upto)) (λ s st. upto_from slots (suc upto) (suc upto) s (omega arith) (omega arith) st) (numbered (suc upto) 0 slots) (numbered_stand (suc upto) 0 slots))
  where
    wider : (s : LiveSubscription) → StandsUpto slots upto s → StandsUpto slots (suc upto) s
    wider s st = record { place = st.place; here = st.here; is = st.is; some = st.some; within = omega (arith, st.within) }

-- the live subscription in a slot is the one that goes by its slot and number
pub find_live : (slots : List (Option Place)) (sub : SubNo) (p : Place) (upto : ℕ) → get_or slots sub.slot None ≡ Some p → p.number ≡ sub.number → 0 < sub.number → sub.number ≤ upto → ((k : ℕ) → k ≢ sub.slot → number_at slots k ≢ sub.number) → find (goes_by sub) (live_upto slots upto) ≡ Some (held_in sub.slot p)
find_live slots sub p zero here its some within others = absurd (omega (arith, some, within))
find_live slots sub p (suc upto) here its some within others =
    find-append (goes_by sub) (live_upto slots upto) (numbered (suc upto) 0 slots) ∙ choose (λ below. find_live slots sub p upto here its some below others) (cases_eq sub.number (suc upto))
  where
    choose : (sub.number ≤ upto → find (goes_by sub) (live_upto slots upto) ≡ Some (held_in sub.slot p)) → (sub.number ≡ suc upto) ⊎ (sub.number ≡ suc upto → ⊥) → option_or (find (goes_by sub) (live_upto slots upto)) (find (goes_by sub) (numbered (suc upto) 0 slots)) ≡ Some (held_in sub.slot p)
    choose earlier (inl e) =
        let before : find (goes_by sub) (live_upto slots upto) ≡ None =
        find_none (goes_by sub) (live_upto slots upto)
        (All-weaker (StandsUpto slots upto) (λ s. goes_by sub s ≡ false) (λ s st. one_differs s.slot sub.slot s.number sub.number (λ same. omega (arith, e, st.within, same))) (live_upto slots upto) (live_stand slots upto)) in
        let one : numbered (suc upto) 0 slots ≡ held_in (0 + sub.slot) p ∷ [] = numbered_one (suc upto) 0 sub.slot slots p (omega arith) here (its ∙ e) (λ k ne same. others k ne (same ∙ sym e)) in
        ap (λ o. option_or o (find (goes_by sub) (numbered (suc upto) 0 slots))) before
        ∙ (ap (find (goes_by sub)) one
        ∙ (ap (λ b. cond b (Some (held_in (0 + sub.slot) p)) None) (both_equal (0 + sub.slot) sub.slot p.number sub.number (omega arith) its)
        ∙ ap (λ n. Some (held_in n p)) (zero_more sub.slot)))
    choose earlier (inr ne) =
        ap (λ o. option_or o (find (goes_by sub) (numbered (suc upto) 0 slots))) (earlier (omega (arith, ne, within)))

-- nothing goes by a slot and number that don't belong together
pub find_ended : (slots : List (Option Place)) (sub : SubNo) (upto : ℕ) → ((p : Place) → get_or slots sub.slot None ≡ Some p → p.number ≢ sub.number) → find (goes_by sub) (live_upto slots upto) ≡ None
find_ended slots sub upto none =
    find_none (goes_by sub) (live_upto slots upto) (All-weaker (StandsUpto slots upto) (λ s. goes_by sub s ≡ false) apart (live_upto slots upto) (live_stand slots upto))
  where
    apart : (s : LiveSubscription) → StandsUpto slots upto s → goes_by sub s ≡ false
    apart s st = choose (eqb s.slot sub.slot) (eqb s.number sub.number) refl refl
      where
        choose : (a b : Bool) → eqb s.slot sub.slot ≡ a → eqb s.number sub.number ≡ b → (a && b) ≡ false
        choose false b e f = refl
        choose true false e f = refl
        choose true true e f =
            absurd (none st.place (ap (λ k. get_or slots k None) (sym (equal s.slot sub.slot e)) ∙ st.here) (sym (ap (λ x. x.number) st.is) ∙ equal s.number sub.number f))
