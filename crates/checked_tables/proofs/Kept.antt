-- The bags stay their applications' through a call.
use Rattle.std.proofs.Common.{◌≡◌, ℕ, ◌+◌, ◌-◌, ◌<◌, ◌≤◌, ◌⊎◌, inl, inr, false, true≢false, List, length, get_or, slice_set, ap, sym, ◌∙◌, subst, arith}
use Rattle.std.proofs.lemmas.Bool.{cases_eq}
use Rattle.std.proofs.lemmas.List.{get_or_read, get_or-set_same, get_or-set_other, length-set}
use Rattle.tbl_words.specs.declared.calls.TblAnswer.{TblAnswer}
use Rattle.tbl_words.specs.declared.history.Call.{Call}
use Rattle.table_blocks.specs.Held.{HeldViews}
use Rattle.table_core.specs.Core.{Plain, Holds, Acts, HasNextVersion, changes_bag}
use Rattle.checked_tables.specs.Box.{Boxed, Keeps, apps_in, no_bag, bag_in, bag_of, KeepsOtherBags}
use Rattle.checked_tables.proofs.Apps.{apps-acts, next-or-none}

abbrev pub boxed : Plain → List HeldViews → Boxed
boxed core bags = record { core = core; bags = bags }

-- a call that takes no bag
pub kept-bags : (old new : Plain) (bags : List HeldViews) (app : ℕ) (call : Call) (answer : TblAnswer) → changes_bag call ≡ false → Keeps (boxed old bags) → Acts old new app call answer → Keeps (boxed new bags)
kept-bags old new bags app call answer leaves keeps acts =
    let many = apps-acts old new app call answer acts in
    record {
      few = omega (arith, keeps.few, many);
      counted = keeps.counted ∙ sym many;
      own = λ other first known. acts.bags other (bag_in bags other) (λ changes. absurd (true≢false (sym changes ∙ leaves))) (keeps.own other first (omega (arith, known, many)));
    }

-- one that makes a version, or changes nothing if no number is left for it
pub kept-version : (old new : Plain) (bags : List HeldViews) (app : ℕ) (call : Call) (handle : ℕ) (answer : TblAnswer) → changes_bag call ≡ false → Keeps (boxed old bags) →
    (HasNextVersion old.state handle → Acts old new app call answer) → ((HasNextVersion old.state handle → ⊥) → new ≡ old) → Keeps (boxed new bags)
kept-version old new bags app call handle answer leaves keeps does spent = by_version (next-or-none old.state handle)
  where
    by_version : HasNextVersion old.state handle ⊎ (HasNextVersion old.state handle → ⊥) → Keeps (boxed new bags)
    by_version (inl left) = kept-bags old new bags app call answer leaves keeps (does left)
    by_version (inr none) = subst (λ (core : Plain). Keeps (boxed core bags)) (sym (spent none)) keeps

-- The bag of the caller. --

-- the bag at a place is that of an application that the tables serve
pub record IsPlaced (core : Plain) (bags : List HeldViews) (app who place : ℕ) : Type 0 where
  pub at : who ≡ 1 + place
  pub same : app - 1 ≡ place
  pub within : place < length bags
  pub known : who ≤ apps_in core

pub placed : (core : Plain) (bags : List HeldViews) (app who number : ℕ) → Keeps (boxed core bags) → number ≡ who → 1 ≤ number → who ≡ app → who ≤ apps_in core →
    IsPlaced core bags app who (number - 1)
placed core bags app who number keeps value first is known = record {
  at = omega (arith, value, first);
  same = omega (arith, value, is);
  within = omega (arith, value, first, known, keeps.counted);
  known = known;
}

module _ (core : Plain) (bags : List HeldViews) (app who place : ℕ) (keeps : Keeps (boxed core bags)) (here : IsPlaced core bags app who place) where
  -- it is the caller's
  pub own-bag : (bag : HeldViews) → bag ≡ get_or bags place bag → Holds core who bag
  own-bag bag is =
      let before : who - 1 ≡ place = omega (arith, here.at) in
      subst (Holds core who) (sym (get_or_read bags place bag here.within is no_bag))
      (subst (λ (i : ℕ). Holds core who (get_or bags i no_bag)) before (keeps.own who (omega (arith, here.at)) here.known))

  -- all bags but one stay, and that one is the application's again
  pub kept-own : (new : Plain) (bag : HeldViews) (call : Call) (answer : TblAnswer) → Acts core new who call answer → Holds new who bag → Keeps (boxed new (slice_set bags place bag))
  kept-own new bag call answer acts own =
      let many = apps-acts core new who call answer acts in
      record {
        few = omega (arith, keeps.few, many);
        counted = length-set bags place bag ∙ keeps.counted ∙ sym many;
        own = λ other first known. by_same other first (omega (arith, known, many)) (cases_eq other who);
      }
    where
      by_same : (other : ℕ) → 1 ≤ other → other ≤ apps_in core → (other ≡ who) ⊎ (other ≡ who → ⊥) → Holds new other (bag_in (slice_set bags place bag) other)
      by_same other first known (inl same) =
          let at : other - 1 ≡ place = omega (arith, same, here.at) in
          subst (λ (n : ℕ). Holds new n (bag_in (slice_set bags place bag) other)) (sym same)
          (subst (λ (i : ℕ). Holds new who (get_or (slice_set bags place bag) i no_bag)) (sym at)
          (subst (Holds new who) (sym (get_or-set_same bags place bag no_bag here.within)) own))
      by_same other first known (inr differ) =
          let apart : (other - 1 ≡ place) → ⊥ = λ is. differ (omega (arith, is, first, here.at)) in
          subst (Holds new other) (sym (get_or-set_other bags place (other - 1) bag no_bag apart))
          (acts.bags other (bag_in bags other) (λ changes. differ) (keeps.own other first known))

  -- the list is the old one with that one set
  pub others-stay : (new : Plain) (bag : HeldViews) → KeepsOtherBags (boxed core bags) (boxed new (slice_set bags place bag)) app
  others-stay new bag =
      subst (λ (i : ℕ). slice_set bags place bag ≡ slice_set bags i (get_or (slice_set bags place bag) i no_bag)) (sym here.same)
      (ap (slice_set bags place) (sym (get_or-set_same bags place bag no_bag here.within)))

  -- the caller's bag, as it was
  pub old-bag : (bag : HeldViews) → bag ≡ get_or bags place bag → bag_of (boxed core bags) app ≡ bag
  old-bag bag is = ap (λ (i : ℕ). get_or bags i no_bag) here.same ∙ sym (get_or_read bags place bag here.within is no_bag)

  -- the caller's bag, as it is
  pub bag-is : (new : Plain) (bag : HeldViews) → bag_of (boxed new (slice_set bags place bag)) app ≡ bag
  bag-is new bag = ap (λ (i : ℕ). get_or (slice_set bags place bag) i no_bag) here.same ∙ get_or-set_same bags place bag no_bag here.within
