-- The bags stay their applications' through a call.
use Rattle.std.proofs.Common.{◌≡◌, ℕ, ◌+◌, ◌-◌, ◌<◌, ◌≤◌, ◌⊎◌, inl, inr, true, ltb, List, length, get_or, slice_set, ap, sym, ◌∙◌, subst, arith}
use Rattle.std.proofs.lemmas.Bool.{cases_eq}
use Rattle.std.proofs.lemmas.Bool.Decides.{nat_tests}
use Rattle.std.proofs.lemmas.List.{get_or_read, get_or-set_same, get_or-set_other, length-set}
use Rattle.lend_block.specs.Loan.{LentBytes}
use Rattle.buf_desc.specs.Held.{Holding}
use Rattle.bus_core.specs.Core.{Plain, apps_in}
use Rattle.bus_core.specs.Bags.{HasBag, KeepsBags, KeepsOtherBags}
use Rattle.checked_bus.specs.Box.{Boxed, Keeps, no_bag, bag_in, bag_of}
use Rattle.checked_bus.specs.Box as boxes
use Rattle.checked_bus.proofs.Apps.{Goes}

abbrev pub boxed : Plain → List (Holding LentBytes) → Boxed
boxed core bags = record { core = core; bags = bags }

-- a call that takes no bag
pub kept-bags : (old new : Plain) (bags : List (Holding LentBytes)) → Keeps (boxed old bags) → Goes old new → KeepsBags old new → Keeps (boxed new bags)
kept-bags old new bags keeps goes stay = record {
  few = omega (arith, keeps.few, goes.apps);
  given = goes.given keeps.given;
  counted = keeps.counted ∙ sym goes.apps;
  own = λ app first known. stay app (bag_in bags app) (keeps.own app first (omega (arith, known, goes.apps)));
}

pub has_room : (bag read : Holding LentBytes) → read ≡ bag → ltb (length read.buffers) read.buffer_room ≡ true → length bag.buffers < bag.buffer_room
has_room bag read is test = below (ap (λ (b : Holding LentBytes). ltb (length b.buffers) b.buffer_room) (sym is) ∙ test)
  where
    below : ltb (length bag.buffers) bag.buffer_room ≡ true → length bag.buffers < bag.buffer_room
    below there = grind (arith, nat_tests)

-- The bag of the caller. --

-- in the box, which has this bus and these bags, the caller has the bag at this place: it is the application that was named
pub record IsPlaced (core : Plain) (bags : List (Holding LentBytes)) (box : Boxed) (app who place : ℕ) : Type 0 where
  pub keeps : Keeps (boxed core bags)
  pub seen : boxed core bags ≡ box
  pub at : who ≡ 1 + place
  pub same : app - 1 ≡ place
  pub within : place < length bags
  pub known : who ≤ apps_in core

pub placed : (core : Plain) (bags : List (Holding LentBytes)) (box : Boxed) (app who number : ℕ) → Keeps (boxed core bags) → boxed core bags ≡ box →
    number ≡ who → 1 ≤ number → who ≡ app → who ≤ apps_in box.core → IsPlaced core bags box app who (number - 1)
placed core bags box app who number keeps seen value first is served =
    let known : who ≤ apps_in core = subst (λ (b : Boxed). who ≤ apps_in b.core) (sym seen) served in
    record {
      keeps = keeps;
      seen = seen;
      at = omega (arith, value, first);
      same = omega (arith, value, is);
      within = omega (arith, value, first, known, keeps.counted);
      known = known;
    }

module _ {core : Plain} {bags : List (Holding LentBytes)} {box : Boxed} {app who place : ℕ} (here : IsPlaced core bags box app who place) where
  bag_read : (bag : Holding LentBytes) → bag ≡ get_or bags place bag → bag ≡ get_or bags place no_bag
  bag_read bag is = get_or_read bags place bag here.within is no_bag

  -- it is the caller's
  pub own-bag : (bag : Holding LentBytes) → bag ≡ get_or bags place bag → HasBag core who bag
  own-bag bag is =
      let before : who - 1 ≡ place = omega (arith, here.at) in
      subst (HasBag core who) (sym (bag_read bag is))
      (subst (λ (i : ℕ). HasBag core who (get_or bags i no_bag)) before (here.keeps.own who (omega (arith, here.at)) here.known))

  -- all bags but one stay, and that one is the application's again
  pub kept-own : (new : Plain) (bag : Holding LentBytes) → Goes core new → KeepsOtherBags core new who → HasBag new who bag → Keeps (boxed new (slice_set bags place bag))
  kept-own new bag goes stay own = record {
    few = omega (arith, here.keeps.few, goes.apps);
    given = goes.given here.keeps.given;
    counted = length-set bags place bag ∙ here.keeps.counted ∙ sym goes.apps;
    own = λ other first known. by_same other first (omega (arith, known, goes.apps)) (cases_eq other who);
  }
    where
      by_same : (other : ℕ) → 1 ≤ other → other ≤ apps_in core → (other ≡ who) ⊎ (other ≡ who → ⊥) → HasBag new other (bag_in (slice_set bags place bag) other)
      by_same other first known (inl same) =
          let at : other - 1 ≡ place = omega (arith, same, here.at) in
          subst (λ (n : ℕ). HasBag new n (bag_in (slice_set bags place bag) other)) (sym same)
          (subst (λ (i : ℕ). HasBag new who (get_or (slice_set bags place bag) i no_bag)) (sym at)
          (subst (HasBag new who) (sym (get_or-set_same bags place bag no_bag here.within)) own))
      by_same other first known (inr differ) =
          let apart : (other - 1 ≡ place) → ⊥ = λ is. differ (omega (arith, is, first, here.at)) in
          subst (HasBag new other) (sym (get_or-set_other bags place (other - 1) bag no_bag apart))
          (stay other (bag_in bags other) differ (here.keeps.own other first known))

  -- what the caller's bag was, and what it is
  pub bag-was : (bag : Holding LentBytes) → bag ≡ get_or bags place bag → bag_of (boxed core bags) app ≡ bag
  bag-was bag is = ap (λ (i : ℕ). get_or bags i no_bag) here.same ∙ sym (bag_read bag is)

  pub bag-is : (new : Plain) (bag : Holding LentBytes) → bag_of (boxed new (slice_set bags place bag)) app ≡ bag
  bag-is new bag = ap (λ (i : ℕ). get_or (slice_set bags place bag) i no_bag) here.same ∙ get_or-set_same bags place bag no_bag here.within

  -- all others' bags are what they were
  pub others-stay : (new : Plain) (bag : Holding LentBytes) → boxes.KeepsOtherBags box (boxed new (slice_set bags place bag)) app
  others-stay new bag =
      subst (λ (old : Boxed). boxes.KeepsOtherBags old (boxed new (slice_set bags place bag)) app) here.seen
      (subst (λ (i : ℕ). slice_set bags place bag ≡ slice_set bags i (get_or (slice_set bags place bag) i no_bag)) (sym here.same)
      (ap (slice_set bags place) (sym (get_or-set_same bags place bag no_bag here.within))))

  -- what relates the bag that the call was given and the one that it left relates the caller's bags
  pub own-stays : (R : Holding LentBytes → Holding LentBytes → Type 0) (new : Plain) (before after : Holding LentBytes) → before ≡ get_or bags place before → R before after →
      R (bag_of box app) (bag_of (boxed new (slice_set bags place after)) app)
  own-stays R new before after is holds =
      subst (λ (old : Boxed). R (bag_of old app) (bag_of (boxed new (slice_set bags place after)) app)) here.seen
      (subst (λ (bag : Holding LentBytes). R bag (bag_of (boxed new (slice_set bags place after)) app)) (sym (bag-was before is))
      (subst (R before) (sym (bag-is new after)) holds))
