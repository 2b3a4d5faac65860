-- What the end of a subscription leaves.
use Rattle.std.proofs.Common.{◌≡◌, ℕ, ◌<◌, eqb, not, List, [], ◌∷◌, ◌++◌, length, set, filter, find, Option, Some, None, IsSome, refl, sym, ◌∙◌}
use Rattle.subscriptions.specs.declared.place.Place.{Place}
use Rattle.subscriptions.specs.declared.words.SubNo.{SubNo}
use Rattle.subscriptions.specs.Subs.{goes_by}
use Rattle.subscriptions.specs.Inside.{live_upto, held_at, AreKept}
use Rattle.subscriptions.proofs.Changes.{live_removed}
use Rattle.subscriptions.proofs.Slots.{held_here, held_if_live, apart}
use Rattle.subscriptions.proofs.LiveSubscriptions.{in_range}
use Rattle.subscriptions.proofs.Upkeep.{kept_freed}

-- a live subscription ends, and its slot is free
pub record IsEnded (slots : List (Option Place)) (free : List ℕ) (made : ℕ) (sub : SubNo) : Type 0 where
  pub inside : sub.slot < length slots
  pub kept : AreKept (set slots sub.slot None) (free ++ sub.slot ∷ []) made
  pub live : live_upto (set slots sub.slot None) made ≡ filter (λ s. not (eqb s.number sub.number)) (live_upto slots made)

pub ended : (slots : List (Option Place)) (free : List ℕ) (made : ℕ) (sub : SubNo) → AreKept slots free made → IsSome (find (goes_by sub) (live_upto slots made)) → IsEnded slots free made sub
ended slots free made sub kept live = settled (held_at slots sub.slot sub.number) refl
  where
    settled : (o : Option Place) → held_at slots sub.slot sub.number ≡ o → IsEnded slots free made sub
    settled None is =
        let there = held_if_live slots made sub None (sym is) live in
        absurd cc
    settled (Some p) is =
        let h = held_here slots sub.slot sub.number p is in
        let others = apart slots free made sub.slot sub.number p kept h.0 h.1 in
        record {
          inside = in_range slots sub.slot p h.0;
          kept = kept_freed slots free made sub.slot p kept h.0 (λ k ne e. others k ne (e ∙ h.1));
          live = live_removed slots sub.slot sub.number p made h.0 h.1 others;
        }
