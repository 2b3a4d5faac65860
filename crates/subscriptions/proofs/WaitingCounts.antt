-- What a change of one subscription's count of waiting messages leaves.
use Rattle.std.proofs.Common.{◌≡◌, ℕ, List, length, get_or, set, map, cond, Option, Some, None, refl, sym, ap, subst, ◌∙◌, eq-eqb, ◌<◌, ◌≤◌, ◌^◌, arith}
use Rattle.std.proofs.lemmas.List.{length-set, length-map, set-get_or}
use Rattle.subscriptions.specs.declared.place.Place.{Place}
use Rattle.subscriptions.specs.declared.words.SubNo.{SubNo}
use Rattle.subscriptions.specs.Subs.{LiveSubscription, Subscribed, goes_by, live_at, with_change}
use Rattle.subscriptions.specs.Inside.{held_in, live_upto, held_at, with_waiting, recounted, AreKept}
use Rattle.subscriptions.proofs.Changes.{live_changed}
use Rattle.subscriptions.proofs.Slots.{held_here, held_elsewhere, live_ended, apart}
use Rattle.subscriptions.proofs.Lists.{map_none}
use Rattle.subscriptions.proofs.Numbers.{differ}
use Rattle.subscriptions.proofs.Upkeep.{kept_waiting}

-- what the slots show
abbrev pub shown : ℕ → List (Option Place) → ℕ → Subscribed
shown room slots made = record { room = room; made = made; live = live_upto slots made }

-- another count in a live subscription's slot changes that subscription alone
live_waiting : (slots : List (Option Place)) (free : List ℕ) (made : ℕ) (sub : SubNo) (p : Place) (waiting : ℕ) (change : LiveSubscription → LiveSubscription) → AreKept slots free made → held_at slots sub.slot sub.number ≡ Some p → held_in sub.slot (record p { waiting = waiting }) ≡ change (held_in sub.slot p)
    → live_upto (set slots sub.slot (with_waiting waiting (get_or slots sub.slot None))) made ≡ map (λ s. cond (goes_by sub s) (change s) s) (live_upto slots made)
live_waiting slots free made sub p waiting change kept held makes =
    let h = held_here slots sub.slot sub.number p held in
    ap (λ o. live_upto (set slots sub.slot (with_waiting waiting o)) made) h.0
    ∙ live_changed slots sub p (record p { waiting = waiting }) change made h.0 h.1 h.1 (apart slots free made sub.slot sub.number p kept h.0 h.1) makes

shown_waiting : (room : ℕ) (after slots : List (Option Place)) (free : List ℕ) (made : ℕ) (sub : SubNo) (p : Place) (waiting : ℕ) (change : LiveSubscription → LiveSubscription) → AreKept slots free made → held_at slots sub.slot sub.number ≡ Some p → held_in sub.slot (record p { waiting = waiting }) ≡ change (held_in sub.slot p) → after ≡ set slots sub.slot (with_waiting waiting (get_or slots sub.slot None))
    → shown room after made ≡ with_change (shown room slots made) sub change
shown_waiting room after slots free made sub p waiting change kept held makes is =
    ap (λ xs. shown room xs made) is
    ∙ ap (λ xs. let v : Subscribed = record { room = room; made = made; live = xs } in v) (live_waiting slots free made sub p waiting change kept held makes)

kept_after : (after slots : List (Option Place)) (free : List ℕ) (made : ℕ) (sub : SubNo) (p : Place) (waiting : ℕ) → AreKept slots free made → held_at slots sub.slot sub.number ≡ Some p → after ≡ set slots sub.slot (with_waiting waiting (get_or slots sub.slot None)) → AreKept after free made
kept_after after slots free made sub p waiting kept held is =
    let changed = live_waiting slots free made sub p waiting (λ s. record s { waiting = waiting }) kept held refl in
    subst (λ xs. AreKept xs free made) (sym is)
    (kept_waiting slots free made sub.slot waiting kept (ap length changed ∙ length-map (live_upto slots made) (λ s. cond (goes_by sub s) (record s { waiting = waiting }) s)))

-- a change of one that has ended changes nothing
unchanged : (subs : Subscribed) (sub : SubNo) (change : LiveSubscription → LiveSubscription) → live_at subs sub ≡ None → subs ≡ with_change subs sub change
unchanged subs sub change none = ap (λ xs. let v : Subscribed = record subs { live = xs } in v) (sym (map_none (goes_by sub) change subs.live none))

-- what is left if the count in a slot changes if the slot has the subscription's number
pub record IsRecounted (after slots : List (Option Place)) (free : List ℕ) (made : ℕ) (sub : SubNo) (step : ℕ → ℕ) : Type 0 where
  pub kept : AreKept after free made
  pub as_many : length after ≡ length slots
  pub live : (room : ℕ) → shown room after made ≡ with_change (shown room slots made) sub (λ s. record s { waiting = step s.waiting })

pub recounts : (after slots : List (Option Place)) (free : List ℕ) (made : ℕ) (sub : SubNo) (step : ℕ → ℕ) → AreKept slots free made → after ≡ set slots sub.slot (recounted sub.number step (get_or slots sub.slot None)) → IsRecounted after slots free made sub step
recounts after slots free made sub step kept is = settled (held_at slots sub.slot sub.number) refl
  where
    same : held_at slots sub.slot sub.number ≡ None → (o : Option Place) → get_or slots sub.slot None ≡ o → recounted sub.number step o ≡ o
    same none None here = refl
    same none (Some p) here =
        ap (λ b. cond b (Some (record p { waiting = step p.waiting })) (Some p)) (differ p.number sub.number (held_elsewhere slots sub.slot sub.number none p here))

    settled : (o : Option Place) → held_at slots sub.slot sub.number ≡ o → IsRecounted after slots free made sub step
    settled None none =
        let stays : after ≡ slots = is ∙ (ap (set slots sub.slot) (same none (get_or slots sub.slot None) refl) ∙ set-get_or slots sub.slot None) in
        record {
          kept = subst (λ xs. AreKept xs free made) (sym stays) kept;
          as_many = ap length stays;
          live = λ room. ap (λ xs. shown room xs made) stays ∙ unchanged (shown room slots made) sub (λ s. record s { waiting = step s.waiting }) (live_ended slots made sub none);
        }
    settled (Some p) held =
        let h = held_here slots sub.slot sub.number p held in
        let counts : recounted sub.number step (get_or slots sub.slot None) ≡ with_waiting (step p.waiting) (get_or slots sub.slot None) =
        ap (recounted sub.number step) h.0
        ∙ (ap (λ b. cond b (Some (record p { waiting = step p.waiting })) (Some p)) (eq-eqb p.number sub.number h.1)
        ∙ sym (ap (with_waiting (step p.waiting)) h.0)) in
        let now : after ≡ set slots sub.slot (with_waiting (step p.waiting) (get_or slots sub.slot None)) = is ∙ ap (set slots sub.slot) counts in
        record {
          kept = kept_after after slots free made sub p (step p.waiting) kept held now;
          as_many = ap length now ∙ length-set slots sub.slot (with_waiting (step p.waiting) (get_or slots sub.slot None));
          live = λ room. shown_waiting room after slots free made sub p (step p.waiting) (λ s. record s { waiting = step s.waiting }) kept held refl now;
        }

-- and if there is no such slot
pub recounts_none : (after slots : List (Option Place)) (free : List ℕ) (made : ℕ) (sub : SubNo) (step : ℕ → ℕ) → AreKept slots free made → after ≡ slots → get_or slots sub.slot None ≡ None → IsRecounted after slots free made sub step
recounts_none after slots free made sub step kept is none =
    recounts after slots free made sub step kept
    (is ∙ sym (ap (set slots sub.slot) (ap (recounted sub.number step) none ∙ sym none) ∙ set-get_or slots sub.slot None))

-- what is always true stays so
pub still_kept : (after slots : List (Option Place)) (free : List ℕ) (made : ℕ) (sub : SubNo) (step : ℕ → ℕ) (room free_room slots_room now_room : ℕ) → IsRecounted after slots free made sub step → now_room ≡ slots_room →
    AreKept slots free made × (length slots ≤ room) × (room ≤ free_room) × (room ≤ slots_room) × (room < 2 ^ 32) → AreKept after free made × (length after ≤ room) × (room ≤ free_room) × (room ≤ now_room) × (room < 2 ^ 32)
still_kept after slots free made sub step room free_room slots_room now_room now same was = (now.kept, omega (arith, now.as_many, was.1), was.2, omega (arith, same, was.3), was.4)
