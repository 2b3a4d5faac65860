-- What a subscription's slot says of it.
use Rattle.std.proofs.Common.{◌≡◌, ◌≢◌, ℕ, ◌<◌, ◌≤◌, eqb, cond, true, false, Bool, List, [], ◌∷◌, ◌++◌, length, get_or, find, is_some, IsSome, Option, Some, None, refl, sym, ap, subst, ◌∙◌, arith, eq-eqb}
use Rattle.std.specs.List.{list_any}
use Rattle.std.proofs.lemmas.List.Elements.{All-weaker}
use Rattle.std.proofs.lemmas.List.Folds.{list_any_none}
use Rattle.subscriptions.specs.declared.place.Place.{Place}
use Rattle.subscriptions.specs.declared.words.SubNo.{SubNo}
use Rattle.subscriptions.specs.Subs.{LiveSubscription, goes_by}
use Rattle.subscriptions.specs.Inside.{held_in, live_upto, number_in, number_at, held_at, AreFree, AreKept}
use Rattle.subscriptions.proofs.Finds.{StandsUpto, live_stand, find_live, find_ended}
use Rattle.subscriptions.proofs.LiveSubscriptions.{in_range}
use Rattle.subscriptions.proofs.FreeSlots.{last_free}
use Rattle.subscriptions.proofs.Numbers.{equal, differ}

-- what a slot holds for a number, and that it has it
pub held_here : (slots : List (Option Place)) (slot number : ℕ) (p : Place) → held_at slots slot number ≡ Some p → (get_or slots slot None ≡ Some p) × (p.number ≡ number)
held_here slots slot number p is = choose (eqb (number_at slots slot) number) refl is
  where
    choose : (b : Bool) → eqb (number_at slots slot) number ≡ b → cond b (get_or slots slot None) None ≡ Some p → (get_or slots slot None ≡ Some p) × (p.number ≡ number)
    choose true e is = (is, sym (ap number_in is) ∙ equal (number_at slots slot) number e)
    choose false e is = absurd cc

-- a slot that holds nothing for a number holds no subscription of that number
pub held_elsewhere : (slots : List (Option Place)) (slot number : ℕ) → held_at slots slot number ≡ None → (p : Place) → get_or slots slot None ≡ Some p → p.number ≢ number
held_elsewhere slots slot number none p here its =
    let same : eqb (number_at slots slot) number ≡ true = eq-eqb (number_at slots slot) number (ap number_in here ∙ its) in
    let some : held_at slots slot number ≡ Some p = ap (λ b. cond b (get_or slots slot None) None) same ∙ here in
    cc

-- no other slot has its number
pub apart : (slots : List (Option Place)) (free : List ℕ) (made slot number : ℕ) (p : Place) → AreKept slots free made → get_or slots slot None ≡ Some p → p.number ≡ number → (k : ℕ) → k ≢ slot → number_at slots k ≢ number
apart slots free made slot number p kept here its k ne same =
    let pos = kept.positive slot (ap is_some here) in
    ne (kept.distinct k slot (omega (arith, same, its, pos, ap number_in here)) (same ∙ sym (ap number_in here ∙ its)))

pub live_found : (slots : List (Option Place)) (free : List ℕ) (made : ℕ) (sub : SubNo) (p : Place) → AreKept slots free made → held_at slots sub.slot sub.number ≡ Some p → find (goes_by sub) (live_upto slots made) ≡ Some (held_in sub.slot p)
live_found slots free made sub p kept is =
    let h = held_here slots sub.slot sub.number p is in
    let pos = kept.positive sub.slot (ap is_some h.0) in
    let most : number_at slots sub.slot ≤ made = kept.numbers sub.slot in
    let n : number_at slots sub.slot ≡ sub.number = ap number_in h.0 ∙ h.1 in
    find_live slots sub p made h.0 h.1 (omega (arith, pos, n)) (omega (arith, most, n)) (apart slots free made sub.slot sub.number p kept h.0 h.1)

pub live_ended : (slots : List (Option Place)) (made : ℕ) (sub : SubNo) → held_at slots sub.slot sub.number ≡ None → find (goes_by sub) (live_upto slots made) ≡ None
live_ended slots made sub none = find_ended slots sub made (held_elsewhere slots sub.slot sub.number none)

-- and so if the slot has the number
pub live_here : (slots : List (Option Place)) (free : List ℕ) (made : ℕ) (sub : SubNo) (p : Place) → AreKept slots free made → get_or slots sub.slot None ≡ Some p → p.number ≡ sub.number → find (goes_by sub) (live_upto slots made) ≡ Some (held_in sub.slot p)
live_here slots free made sub p kept here its =
    live_found slots free made sub p kept (ap (λ b. cond b (get_or slots sub.slot None) None) (eq-eqb (number_at slots sub.slot) sub.number (ap number_in here ∙ its)) ∙ here)

-- the slot of a live subscription holds something
pub held_if_live : (slots : List (Option Place)) (made : ℕ) (sub : SubNo) (held : Option Place) → held ≡ held_at slots sub.slot sub.number → IsSome (find (goes_by sub) (live_upto slots made)) → IsSome held
held_if_live slots made sub None is live =
    let none = live_ended slots made sub (sym is) in
    let never : IsSome {T = LiveSubscription} None = subst IsSome none live in
    absurd cc
held_if_live slots made sub (Some p) is live = refl

-- no live subscription stands in a free slot
pub not_in_use : (slots : List (Option Place)) (free : List ℕ) (made slot : ℕ) → AreFree slots (free ++ slot ∷ []) → list_any (λ s. eqb s.slot slot) (live_upto slots made) ≡ false
not_in_use slots free made slot unused =
    list_any_none (λ s. eqb s.slot slot) (live_upto slots made) (All-weaker (StandsUpto slots made) (λ s. eqb s.slot slot ≡ false) elsewhere (live_upto slots made) (live_stand slots made))
  where
    elsewhere : (s : LiveSubscription) → StandsUpto slots made s → eqb s.slot slot ≡ false
    elsewhere s st = differ s.slot slot (λ e. never e)
      where
        never : s.slot ≡ slot → ⊥
        never e =
            let here : get_or slots slot None ≡ Some st.place = ap (λ k. get_or slots k None) (sym e) ∙ st.here in
            let empty = (last_free slots free slot unused).1 in
            cc

-- a pipe has no live subscription if no slot holds one
pub none_of_pipe : (slots : List (Option Place)) (made pipe : ℕ) → ((k : ℕ) (p : Place) → get_or slots k None ≡ Some p → p.pipe ≢ pipe) → list_any (λ s. eqb s.pipe pipe) (live_upto slots made) ≡ false
none_of_pipe slots made pipe none =
    list_any_none (λ s. eqb s.pipe pipe) (live_upto slots made) (All-weaker (StandsUpto slots made) (λ s. eqb s.pipe pipe ≡ false) foreign (live_upto slots made) (live_stand slots made))
  where
    foreign : (s : LiveSubscription) → StandsUpto slots made s → eqb s.pipe pipe ≡ false
    foreign s st = differ s.pipe pipe (λ e. none s.slot st.place st.here (sym (ap (λ x. x.pipe) st.is) ∙ e))

-- what a slot holds is live, and goes by the slot and its number
pub live_in : (slots : List (Option Place)) (free : List ℕ) (made slot : ℕ) (p : Place) → AreKept slots free made → get_or slots slot None ≡ Some p → find (goes_by (record { slot = slot; number = p.number })) (live_upto slots made) ≡ Some (held_in slot p)
live_in slots free made slot p kept here =
    live_found slots free made (record { slot = slot; number = p.number }) p kept
    (ap (λ b. cond b (get_or slots slot None) None) (eq-eqb (number_at slots slot) p.number (ap number_in here)) ∙ here)

-- the slot of a live subscription, and what it holds
pub record IsHeld (slots : List (Option Place)) (made : ℕ) (sub : SubNo) : Type 0 where
  pub place : Place
  pub inside : sub.slot < length slots
  pub here : get_or slots sub.slot None ≡ Some place
  pub its : place.number ≡ sub.number
  pub live : find (goes_by sub) (live_upto slots made) ≡ Some (held_in sub.slot place)

pub slot_of_live : (slots : List (Option Place)) (free : List ℕ) (made : ℕ) (sub : SubNo) → AreKept slots free made → IsSome (find (goes_by sub) (live_upto slots made)) → IsHeld slots made sub
slot_of_live slots free made sub kept live = settled (held_at slots sub.slot sub.number) refl
  where
    settled : (o : Option Place) → held_at slots sub.slot sub.number ≡ o → IsHeld slots made sub
    settled None is =
        let there = held_if_live slots made sub None (sym is) live in
        absurd cc
    settled (Some p) is =
        let h = held_here slots sub.slot sub.number p is in
        record {
          place = p;
          inside = in_range slots sub.slot p h.0;
          here = h.0;
          its = h.1;
          live = live_found slots free made sub p kept is;
        }
