-- Where the pipes lie, as their subscriptions know it.
use Rattle.std.proofs.Common.{◌≡◌, ℕ, ◌++◌, ◌∷◌, [], Bool, true, false, not, cond, eqb, List, map, find, filter, drop, get_or, is_some, Option, Some, refl, ap, sym, ◌∙◌, subst}
use Rattle.std.specs.Option.{IsSome, option_map}
use Rattle.std.proofs.lemmas.Bool.{eqb-true}
use Rattle.std.proofs.lemmas.List.Elements.{All-weaker, All-filter, filter_passes}
use Rattle.pipe_queue.specs.declared.item.Item.{Item}
use Rattle.bus_words.specs.Pipes.{PipeOf, pipe_at}
use Rattle.pipe_table.specs.Table.{Pipes, place_of, without_place}
use Rattle.subscriptions.specs.Subs.{Subscribed, LiveSubscription}
use Rattle.bus_routes.specs.Inside.{still, frame, IsPlaced, ArePlaced}
use Rattle.bus_routes.proofs.EndingsLists.{find_within}
use Rattle.bus_routes.proofs.OffersSubs.{all_still}

-- if counts alone change
pub placed_still : (places : List (ℕ × ℕ)) (before subs : Subscribed) → still subs ≡ still before → ArePlaced places before → ArePlaced places subs
placed_still places before subs same placed = all_still (IsPlaced places) before subs (λ s is. is) (λ s is. is) same placed

-- and where pipes do that stay where they lie
pub placed_after : (old pipes : Pipes) (before subs : Subscribed) → frame pipes ≡ frame old → still subs ≡ still before → ArePlaced old.places before → ArePlaced pipes.places subs
placed_after old pipes before subs framed same placed =
    subst (λ (p : Pipes). ArePlaced p.places subs) (sym framed) (placed_still old.places before subs same placed)

-- if a pipe comes
pub placed_more : (places : List (ℕ × ℕ)) (pair : ℕ × ℕ) (subs : Subscribed) → ArePlaced places subs → ArePlaced (places ++ pair ∷ []) subs
placed_more places pair subs placed =
    All-weaker (IsPlaced places) (IsPlaced (places ++ pair ∷ [])) (λ s is. further places s is) subs.live placed
  where
    further : (xs : List (ℕ × ℕ)) (s : LiveSubscription) → place_of xs s.pipe ≡ Some s.place → place_of (xs ++ pair ∷ []) s.pipe ≡ Some s.place
    further [] s is = absurd (cc (is))
    further (x ∷ xs) s is = by_test (eqb x.0 s.pipe) is (further xs s)
      where
        by_test : (b : Bool) → option_map (λ (p : ℕ × ℕ). p.1) (cond {A = Option (ℕ × ℕ)} b (Some x) (find (λ p. eqb p.0 s.pipe) xs)) ≡ Some s.place →
            (place_of xs s.pipe ≡ Some s.place → place_of (xs ++ pair ∷ []) s.pipe ≡ Some s.place) →
            option_map (λ (p : ℕ × ℕ). p.1) (cond {A = Option (ℕ × ℕ)} b (Some x) (find (λ p. eqb p.0 s.pipe) (xs ++ pair ∷ []))) ≡ Some s.place
        by_test true here ih = here
        by_test false here ih = ih here

-- if a subscription leaves
pub placed_left : (places : List (ℕ × ℕ)) (subs : Subscribed) (stays : LiveSubscription → Bool) → ArePlaced places subs → ArePlaced places (record subs { live = filter stays subs.live })
placed_left places subs stays placed = All-filter stays (IsPlaced places) subs.live placed

-- if a pipe leaves with its subscriptions
pub placed_removed : (places : List (ℕ × ℕ)) (subs : Subscribed) (number : ℕ) → ArePlaced places subs →
    ArePlaced (without_place number places) (record subs { live = filter (λ s. not (eqb s.pipe number)) subs.live })
placed_removed places subs number placed = λ k d within.
    apart (get_or (filter others subs.live) k d) (filter_passes others subs.live k d within) (placed_left places subs others placed k d within)
  where
    others : LiveSubscription → Bool
    others s = not (eqb s.pipe number)

    other : (m p n : ℕ) → not (eqb p n) ≡ true → eqb m p ≡ true → not (eqb m n) ≡ true
    other m p n differs same = subst (λ k. not (eqb k n) ≡ true) (sym (eqb-true m p same)) differs

    apart : (s : LiveSubscription) → not (eqb s.pipe number) ≡ true → IsPlaced places s → IsPlaced (without_place number places) s
    apart s differs is =
        ap (option_map (λ (p : ℕ × ℕ). p.1)) (find_within (λ (p : ℕ × ℕ). eqb p.0 s.pipe) (λ p. not (eqb p.0 number)) (λ p same. other p.0 s.pipe number differs same) places)
        ∙ is

-- a live pipe lies somewhere
pub place_there : (places : List (ℕ × ℕ)) (pipes : List (PipeOf Item)) (number : ℕ) → map (λ (p : ℕ × ℕ). p.0) places ≡ map (λ (pipe : PipeOf Item). pipe.number) pipes →
    is_some (pipe_at pipes number) ≡ true → IsSome (place_of places number)
place_there places [] number same live = absurd (cc (live))
place_there [] (pipe ∷ pipes) number same live = absurd (cc (same))
place_there (x ∷ places) (pipe ∷ pipes) number same live =
    by_test (eqb pipe.number number) (eqb x.0 number) (ap (λ n. eqb n number) (sym (ap (first_or 0) same))) live (place_there places pipes number (ap (drop 1) same))
  where
    first_or : ℕ → List ℕ → ℕ
    first_or n [] = n
    first_or n (m ∷ l) = m

    by_test : (a b : Bool) → a ≡ b → is_some (cond {A = Option (PipeOf Item)} a (Some pipe) (pipe_at pipes number)) ≡ true → (is_some (pipe_at pipes number) ≡ true → IsSome (place_of places number)) →
        IsSome (option_map (λ (p : ℕ × ℕ). p.1) (cond {A = Option (ℕ × ℕ)} b (Some x) (find (λ (p : ℕ × ℕ). eqb p.0 number) places)))
    by_test a true is here ih = refl
    by_test true false is here ih = absurd (cc (is))
    by_test false false is here ih = ih here
