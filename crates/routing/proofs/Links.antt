-- Linked places: what a write elsewhere leaves, what a further place at the end and one place fewer do.
use Rattle.std.proofs.Common.{◌≡◌, ℕ, ◌+◌, ◌<◌, ◌≤◌, ◌⊎◌, inl, inr, Bool, true, false, ◌||◌, cond, eqb, ltb, List, [], ◌∷◌, ◌++◌, length, get_or, set, map, Option, Some, None, refl, ap, sym, subst, ◌∙◌, arith}
use Rattle.std.proofs.lemmas.Bool.Decides.{nat_tests}
use Rattle.std.proofs.lemmas.List.{length-set, get_or-set_same, get_or-set_other}
use Rattle.bucket_list.specs.Lists.{times_in}
use Rattle.bucket_list.specs.Chains.{chain}
use Rattle.bucket_list.proofs.Counts.{times_in-cons}
use Rattle.subscriptions.specs.declared.words.SubNo.{SubNo}
use Rattle.routing.specs.Dests.{Dest, is_sub, has_sub, without, first_dest}
use Rattle.routing.specs.Inside.{Linked, last_of, sub_at, dest_at, place_before}

-- a number that doesn't stand in a list is neither its first nor behind it
pub not_in : (x : ℕ) (xs : List ℕ) (q : ℕ) → times_in (x ∷ xs) q ≡ 0 → (q ≡ x → ⊥) × (times_in xs q ≡ 0)
not_in x xs q e =
    let c = times_in-cons x xs q in
    ((λ same. differs same c), omega (arith, c, e))
  where
    differs : q ≡ x → times_in (x ∷ xs) q ≡ cond (eqb x q) 1 0 + times_in xs q → ⊥
    differs same c = grind (arith, nat_tests)

-- the first stands there
pub first_in : (x : ℕ) (xs : List ℕ) → 0 < times_in (x ∷ xs) x
first_in x xs =
    let c = times_in-cons x xs x in
    grind (arith, nat_tests)

pub behind_in : (x : ℕ) (xs : List ℕ) (q : ℕ) → 0 < times_in xs q → 0 < times_in (x ∷ xs) q
behind_in x xs q h = omega (arith, h, times_in-cons x xs q)

pub last_in : (x : ℕ) (xs : List ℕ) → 0 < times_in (x ∷ xs) (last_of x xs)
last_in x [] = first_in x []
last_in x (y ∷ ys) = behind_in x (y ∷ ys) (last_of y ys) (last_in y ys)

-- a list with each number at most once has its first nowhere behind it, and is such a list from there on
pub once_behind : (x : ℕ) (xs : List ℕ) → ((q : ℕ) → times_in (x ∷ xs) q ≤ 1) → (times_in xs x ≡ 0) × ((q : ℕ) → times_in xs q ≤ 1)
once_behind x xs once =
    let f = first_in x xs in
    (none (times_in-cons x xs x) (once x), (λ q. omega (arith, once q, times_in-cons x xs q)))
  where
    none : times_in (x ∷ xs) x ≡ cond (eqb x x) 1 0 + times_in xs x → times_in (x ∷ xs) x ≤ 1 → times_in xs x ≡ 0
    none c le = grind (arith, nat_tests)

-- what stands in a list isn't what doesn't
pub apart : (xs : List ℕ) (p q : ℕ) → 0 < times_in xs p → times_in xs q ≡ 0 → q ≡ p → ⊥
apart xs p q some none e = absurd (omega (arith, some, none, ap (times_in xs) e))

-- a write of a link of a place that these aren't
pub link_else : (links : List ℕ) (from : ℕ) (xs : List ℕ) (to q link : ℕ) → Linked links from xs to → (from ≡ q → ⊥) → times_in xs q ≡ 0 → Linked (set links q link) from xs to
link_else links from [] to q link l ne none = get_or-set_other links q from link 0 ne ∙ l
link_else links from (x ∷ xs) to q link l ne none =
    let n = not_in x xs q none in
    (get_or-set_other links q from link 0 ne ∙ l.0, link_else links x xs to q link l.1 (λ e. n.0 (sym e)) n.1)

-- the chain behind a place
pub chain_linked : (links : List ℕ) (from : ℕ) (xs : List ℕ) (to : ℕ) → Linked links from xs to → chain links (get_or links from 0) (length xs) ≡ xs
chain_linked links from [] to l = refl
chain_linked links from (x ∷ xs) to l =
    ap (λ f. f ∷ chain links (get_or links f 0) (length xs)) l.0 ∙ ap (λ ys. x ∷ ys) (chain_linked links x xs to l.1)

-- one place more at the end
pub linked_back : (links : List ℕ) (from : ℕ) (xs : List ℕ) (to d : ℕ) → Linked links from xs to → ((q : ℕ) → times_in xs q ≤ 1) → times_in xs from ≡ 0 → times_in xs d ≡ 0 → (from ≡ d → ⊥)
    → d < length links → from < length links → ((q : ℕ) → 0 < times_in xs q → q < length links)
    → Linked (set (set links d to) (last_of from xs) d) from (xs ++ d ∷ []) to
linked_back links from [] to d l once no_from no_d ne d_in from_in inside = (
  get_or-set_same (set links d to) from d 0 (omega (arith, from_in, length-set links d to)),
  get_or-set_other (set links d to) from d d 0 (λ e. ne (sym e)) ∙ get_or-set_same links d to 0 d_in,
)
linked_back links from (x ∷ xs) to d l once no_from no_d ne d_in from_in inside =
    let o = once_behind x xs once in
    let n = not_in x xs d no_d in (
      get_or-set_other (set links d to) (last_of x xs) from d 0 (apart (x ∷ xs) (last_of x xs) from (last_in x xs) no_from) ∙ (get_or-set_other links d from to 0 ne ∙ l.0),
      linked_back links x xs to d l.1 o.1 o.0 n.1 (λ e. n.0 (sym e)) d_in (inside x (first_in x xs)) (λ q h. inside q (behind_in x xs q h)),
    )

pub last-back : (from : ℕ) (xs : List ℕ) (d : ℕ) → last_of from (xs ++ d ∷ []) ≡ d
last-back from [] d = refl
last-back from (x ∷ xs) d = last-back x xs d

-- The first node of a subscription. --

-- whether a node keeps the subscription
abbrev pub is_of : List SubNo → SubNo → ℕ → Bool
is_of subs sub x = is_sub (sub_at subs x) sub

-- the first node that does
abbrev pub node_of : List SubNo → SubNo → List ℕ → ℕ
node_of subs sub [] = 0
node_of subs sub (x ∷ xs) = cond (is_of subs sub x) x (node_of subs sub xs)

-- the nodes without it
abbrev pub left_of : List SubNo → SubNo → List ℕ → List ℕ
left_of subs sub [] = []
left_of subs sub (x ∷ xs) = cond (is_of subs sub x) xs (x ∷ left_of subs sub xs)

-- one of these nodes keeps the subscription
abbrev pub Has : List SubNo → SubNo → List ℕ → Type 0
Has subs sub xs = has_sub sub (map (dest_at subs) xs) ≡ true

tests : (b : Bool) → (b ≡ true) ⊎ (b ≡ false)
tests true = inl refl
tests false = inr refl

module _ (subs : List SubNo) (sub : SubNo) where
  has_later : (x : ℕ) (xs : List ℕ) → is_of subs sub x ≡ false → Has subs sub (x ∷ xs) → Has subs sub xs
  has_later x xs e h = subst (λ b. (b || has_sub sub (map (dest_at subs) xs)) ≡ true) e h

  before_here : (from x : ℕ) (xs : List ℕ) → is_of subs sub x ≡ true → place_before subs sub from (x ∷ xs) ≡ from
  before_here from x xs e = ap (λ b. cond b from (place_before subs sub x xs)) e

  before_later : (from x : ℕ) (xs : List ℕ) → is_of subs sub x ≡ false → place_before subs sub from (x ∷ xs) ≡ place_before subs sub x xs
  before_later from x xs e = ap (λ b. cond b from (place_before subs sub x xs)) e

  node_here : (x : ℕ) (xs : List ℕ) → is_of subs sub x ≡ true → node_of subs sub (x ∷ xs) ≡ x
  node_here x xs e = ap (λ b. cond b x (node_of subs sub xs)) e

  node_later : (x : ℕ) (xs : List ℕ) → is_of subs sub x ≡ false → node_of subs sub (x ∷ xs) ≡ node_of subs sub xs
  node_later x xs e = ap (λ b. cond b x (node_of subs sub xs)) e

  left_here : (x : ℕ) (xs : List ℕ) → is_of subs sub x ≡ true → left_of subs sub (x ∷ xs) ≡ xs
  left_here x xs e = ap (λ b. cond b xs (x ∷ left_of subs sub xs)) e

  left_later : (x : ℕ) (xs : List ℕ) → is_of subs sub x ≡ false → left_of subs sub (x ∷ xs) ≡ x ∷ left_of subs sub xs
  left_later x xs e = ap (λ b. cond b xs (x ∷ left_of subs sub xs)) e

  -- it stands behind the place before it
  pub node_linked : (links : List ℕ) (from : ℕ) (xs : List ℕ) (to : ℕ) → Linked links from xs to → Has subs sub xs → get_or links (place_before subs sub from xs) 0 ≡ node_of subs sub xs
  node_linked links from [] to l h = absurd cc
  node_linked links from (x ∷ xs) to l h = by_case (tests (is_of subs sub x)) (λ e. node_linked links x xs to l.1 (has_later x xs e h))
    where
      by_case : (is_of subs sub x ≡ true) ⊎ (is_of subs sub x ≡ false) → (is_of subs sub x ≡ false → get_or links (place_before subs sub x xs) 0 ≡ node_of subs sub xs) → get_or links (place_before subs sub from (x ∷ xs)) 0 ≡ node_of subs sub (x ∷ xs)
      by_case (inl e) later = ap (λ q. get_or links q 0) (before_here from x xs e) ∙ (l.0 ∙ sym (node_here x xs e))
      by_case (inr e) later = ap (λ q. get_or links q 0) (before_later from x xs e) ∙ (later e ∙ sym (node_later x xs e))

  pub node_in : (xs : List ℕ) → Has subs sub xs → 0 < times_in xs (node_of subs sub xs)
  node_in [] h = absurd cc
  node_in (x ∷ xs) h = by_case (tests (is_of subs sub x)) (λ e. node_in xs (has_later x xs e h))
    where
      by_case : (is_of subs sub x ≡ true) ⊎ (is_of subs sub x ≡ false) → (is_of subs sub x ≡ false → 0 < times_in xs (node_of subs sub xs)) → 0 < times_in (x ∷ xs) (node_of subs sub (x ∷ xs))
      by_case (inl e) later = subst (λ q. 0 < times_in (x ∷ xs) q) (sym (node_here x xs e)) (first_in x xs)
      by_case (inr e) later = subst (λ q. 0 < times_in (x ∷ xs) q) (sym (node_later x xs e)) (behind_in x xs (node_of subs sub xs) (later e))

  pub before_in : (from : ℕ) (xs : List ℕ) → (place_before subs sub from xs ≡ from) ⊎ (0 < times_in xs (place_before subs sub from xs))
  before_in from [] = inl refl
  before_in from (x ∷ xs) = by_case (tests (is_of subs sub x)) (before_in x xs)
    where
      by_case : (is_of subs sub x ≡ true) ⊎ (is_of subs sub x ≡ false) → (place_before subs sub x xs ≡ x) ⊎ (0 < times_in xs (place_before subs sub x xs))
          → (place_before subs sub from (x ∷ xs) ≡ from) ⊎ (0 < times_in (x ∷ xs) (place_before subs sub from (x ∷ xs)))
      by_case (inl e) later = inl (before_here from x xs e)
      by_case (inr e) (inl same) = inr (subst (λ q. 0 < times_in (x ∷ xs) q) (sym (before_later from x xs e ∙ same)) (first_in x xs))
      by_case (inr e) (inr some) = inr (subst (λ q. 0 < times_in (x ∷ xs) q) (sym (before_later from x xs e)) (behind_in x xs (place_before subs sub x xs) some))

  -- one place fewer: what stood before it is linked to what stood behind it
  pub linked_left : (links : List ℕ) (from : ℕ) (xs : List ℕ) (to : ℕ) → Linked links from xs to → Has subs sub xs → ((q : ℕ) → times_in xs q ≤ 1) → times_in xs from ≡ 0
      → from < length links → ((q : ℕ) → 0 < times_in xs q → q < length links)
      → Linked (set links (place_before subs sub from xs) (get_or links (node_of subs sub xs) 0)) from (left_of subs sub xs) to
  linked_left links from [] to l h once no_from from_in inside = absurd cc
  linked_left links from (x ∷ xs) to l h once no_from from_in inside =
      by_case (tests (is_of subs sub x)) (λ e. linked_left links x xs to l.1 (has_later x xs e h) (once_behind x xs once).1 (once_behind x xs once).0 (inside x (first_in x xs)) (λ q hq. inside q (behind_in x xs q hq)))
    where
      o : (times_in xs x ≡ 0) × ((q : ℕ) → times_in xs q ≤ 1)
      o = once_behind x xs once

      -- the first goes
      first_gone : (ys : List ℕ) → Linked links x ys to → ((q : ℕ) → times_in ys q ≤ 1) → times_in ys from ≡ 0 → Linked (set links from (get_or links x 0)) from ys to
      first_gone [] k once' none = get_or-set_same links from (get_or links x 0) 0 from_in ∙ k
      first_gone (y ∷ ys) k once' none =
          let n = not_in y ys from none in
          (get_or-set_same links from (get_or links x 0) 0 from_in ∙ k.0, link_else links y ys to from (get_or links x 0) k.1 (λ e. n.0 (sym e)) n.1)

      not_from : (place_before subs sub x xs ≡ x) ⊎ (0 < times_in xs (place_before subs sub x xs)) → from ≡ place_before subs sub x xs → ⊥
      not_from (inl e) same = (not_in x xs from no_from).0 (same ∙ e)
      not_from (inr some) same = apart xs (place_before subs sub x xs) from some (not_in x xs from no_from).1 same

      by_case : (is_of subs sub x ≡ true) ⊎ (is_of subs sub x ≡ false)
          → (is_of subs sub x ≡ false → Linked (set links (place_before subs sub x xs) (get_or links (node_of subs sub xs) 0)) x (left_of subs sub xs) to)
          → Linked (set links (place_before subs sub from (x ∷ xs)) (get_or links (node_of subs sub (x ∷ xs)) 0)) from (left_of subs sub (x ∷ xs)) to
      by_case (inl e) later =
          subst (λ ys. Linked (set links (place_before subs sub from (x ∷ xs)) (get_or links (node_of subs sub (x ∷ xs)) 0)) from ys to) (sym (left_here x xs e))
          (subst (λ p. Linked (set links p (get_or links (node_of subs sub (x ∷ xs)) 0)) from xs to) (sym (before_here from x xs e))
          (subst (λ n. Linked (set links from (get_or links n 0)) from xs to) (sym (node_here x xs e))
          (first_gone xs l.1 o.1 (not_in x xs from no_from).1)))
      by_case (inr e) later =
          let p = place_before subs sub x xs in
          let v = get_or links (node_of subs sub xs) 0 in
          let rest : Linked (set links p v) x (left_of subs sub xs) to = later e in
          subst (λ ys. Linked (set links (place_before subs sub from (x ∷ xs)) (get_or links (node_of subs sub (x ∷ xs)) 0)) from ys to) (sym (left_later x xs e))
          (subst (λ q. Linked (set links q (get_or links (node_of subs sub (x ∷ xs)) 0)) from (x ∷ left_of subs sub xs) to) (sym (before_later from x xs e))
          (subst (λ n. Linked (set links p (get_or links n 0)) from (x ∷ left_of subs sub xs) to) (sym (node_later x xs e))
          (get_or-set_other links p from v 0 (not_from (before_in x xs)) ∙ l.0, rest)))

  pub times-left : (xs : List ℕ) (q : ℕ) → Has subs sub xs → times_in (left_of subs sub xs) q + cond (eqb (node_of subs sub xs) q) 1 0 ≡ times_in xs q
  times-left [] q h = absurd cc
  times-left (x ∷ xs) q h = by_case (tests (is_of subs sub x)) (λ e. times-left xs q (has_later x xs e h))
    where
      by_case : (is_of subs sub x ≡ true) ⊎ (is_of subs sub x ≡ false) → (is_of subs sub x ≡ false → times_in (left_of subs sub xs) q + cond (eqb (node_of subs sub xs) q) 1 0 ≡ times_in xs q) → times_in (left_of subs sub (x ∷ xs)) q + cond (eqb (node_of subs sub (x ∷ xs)) q) 1 0 ≡ times_in (x ∷ xs) q
      by_case (inl e) later =
          omega (arith, ap (λ ys. times_in ys q) (left_here x xs e), ap (λ n. cond {A = ℕ} (eqb n q) 1 0) (node_here x xs e), times_in-cons x xs q)
      by_case (inr e) later =
          omega (arith, ap (λ ys. times_in ys q) (left_later x xs e), ap (λ n. cond {A = ℕ} (eqb n q) 1 0) (node_later x xs e), times_in-cons x xs q, times_in-cons x (left_of subs sub xs) q, later e)

  pub length-left : (xs : List ℕ) → Has subs sub xs → length (left_of subs sub xs) + 1 ≡ length xs
  length-left [] h = absurd cc
  length-left (x ∷ xs) h = by_case (tests (is_of subs sub x)) (λ e. length-left xs (has_later x xs e h))
    where
      by_case : (is_of subs sub x ≡ true) ⊎ (is_of subs sub x ≡ false) → (is_of subs sub x ≡ false → length (left_of subs sub xs) + 1 ≡ length xs) → length (left_of subs sub (x ∷ xs)) + 1 ≡ length (x ∷ xs)
      by_case (inl e) later = omega (arith, ap (λ ys. length ys) (left_here x xs e))
      by_case (inr e) later = omega (arith, ap (λ ys. length ys) (left_later x xs e), later e)

  pub map-left : (xs : List ℕ) → map (dest_at subs) (left_of subs sub xs) ≡ without sub (map (dest_at subs) xs)
  map-left [] = refl
  map-left (x ∷ xs) = by_case (tests (is_of subs sub x)) (map-left xs)
    where
      by_case : (is_of subs sub x ≡ true) ⊎ (is_of subs sub x ≡ false) → map (dest_at subs) (left_of subs sub xs) ≡ without sub (map (dest_at subs) xs) → map (dest_at subs) (left_of subs sub (x ∷ xs)) ≡ without sub (map (dest_at subs) (x ∷ xs))
      by_case (inl e) later =
          ap (map (dest_at subs)) (left_here x xs e) ∙ sym (ap (λ b. cond b (map (dest_at subs) xs) (dest_at subs x ∷ without sub (map (dest_at subs) xs))) e)
      by_case (inr e) later =
          ap (map (dest_at subs)) (left_later x xs e) ∙ (ap (λ ds. dest_at subs x ∷ ds) later ∙ sym (ap (λ b. cond b (map (dest_at subs) xs) (dest_at subs x ∷ without sub (map (dest_at subs) xs))) e))

  -- the last place is the one before it if the end is linked behind it, else as it was
  pub last-left : (links : List ℕ) (from : ℕ) (xs : List ℕ) (to : ℕ) → Linked links from xs to → Has subs sub xs → times_in xs to ≡ 0
      → last_of from (left_of subs sub xs) ≡ cond (eqb (get_or links (node_of subs sub xs) 0) to) (place_before subs sub from xs) (last_of from xs)
  last-left links from [] to l h none = absurd cc
  last-left links from (x ∷ xs) to l h none = by_case (tests (is_of subs sub x)) (λ e. last-left links x xs to l.1 (has_later x xs e h) (not_in x xs to none).1)
    where
      gone : (ys : List ℕ) → Linked links x ys to → times_in ys to ≡ 0 → last_of from ys ≡ cond (eqb (get_or links x 0) to) from (last_of x ys)
      gone [] k none' = sym (ap (λ b. cond b from x) (same (get_or links x 0) k))
        where
          same : (n : ℕ) → n ≡ to → eqb n to ≡ true
          same n e = grind (arith, nat_tests)
      gone (y ∷ ys) k none' = sym (ap (λ b. cond b from (last_of y ys)) (other (get_or links x 0) (λ e. (not_in y ys to none').0 (sym e ∙ k.0))))
        where
          other : (n : ℕ) → (n ≡ to → ⊥) → eqb n to ≡ false
          other n ne = grind (arith, nat_tests)

      by_case : (is_of subs sub x ≡ true) ⊎ (is_of subs sub x ≡ false)
          → (is_of subs sub x ≡ false → last_of x (left_of subs sub xs) ≡ cond (eqb (get_or links (node_of subs sub xs) 0) to) (place_before subs sub x xs) (last_of x xs))
          → last_of from (left_of subs sub (x ∷ xs)) ≡ cond (eqb (get_or links (node_of subs sub (x ∷ xs)) 0) to) (place_before subs sub from (x ∷ xs)) (last_of from (x ∷ xs))
      by_case (inl e) later =
          ap (last_of from) (left_here x xs e) ∙ (gone xs l.1 (not_in x xs to none).1
          ∙ (ap (λ n. cond (eqb (get_or links n 0) to) from (last_of x xs)) (sym (node_here x xs e))
          ∙ ap (λ p. cond (eqb (get_or links (node_of subs sub (x ∷ xs)) 0) to) p (last_of x xs)) (sym (before_here from x xs e))))
      by_case (inr e) later =
          ap (last_of from) (left_later x xs e) ∙ (later e
          ∙ (ap (λ n. cond (eqb (get_or links n 0) to) (place_before subs sub x xs) (last_of x xs)) (sym (node_later x xs e))
          ∙ ap (λ p. cond (eqb (get_or links (node_of subs sub (x ∷ xs)) 0) to) p (last_of x xs)) (sym (before_later from x xs e))))

-- What is read behind a place. --

-- the destination kept at a place, unless the place is an anchor
abbrev pub shown : List SubNo → ℕ → ℕ → Option Dest
shown subs nodes place = cond (ltb place nodes) (Some (dest_at subs place)) None

pub first_shown : (links : List ℕ) (subs : List SubNo) (nodes from : ℕ) (xs : List ℕ) (to : ℕ) → Linked links from xs to → nodes ≤ to → ((q : ℕ) → 0 < times_in xs q → q < nodes) → shown subs nodes (get_or links from 0) ≡ first_dest (map (dest_at subs) xs)
first_shown links subs nodes from [] to l past inside = ap (λ b. cond b (Some (dest_at subs (get_or links from 0))) None) (outside (get_or links from 0) l)
  where
    outside : (n : ℕ) → n ≡ to → ltb n nodes ≡ false
    outside n e = grind (arith, nat_tests)
first_shown links subs nodes from (x ∷ xs) to l past inside =
    ap (shown subs nodes) l.0 ∙ ap (λ b. cond b (Some (dest_at subs x)) None) (there (inside x (first_in x xs)))
  where
    there : x < nodes → ltb x nodes ≡ true
    there h = grind (arith, nat_tests)

abbrev head_node : List Dest → ℕ
head_node [] = 0
head_node (dest ∷ dests) = dest.0

pub behind_shown : (links : List ℕ) (subs : List SubNo) (nodes from : ℕ) (xs : List ℕ) (to node : ℕ) (before behind : List Dest) (sub : SubNo) → Linked links from xs to → nodes ≤ to → ((q : ℕ) → 0 < times_in xs q → q < nodes)
    → map (dest_at subs) xs ≡ before ++ (node, sub) ∷ behind → shown subs nodes (get_or links node 0) ≡ first_dest behind
behind_shown links subs nodes from [] to node [] behind sub l past inside e = absurd cc
behind_shown links subs nodes from [] to node (b ∷ before) behind sub l past inside e = absurd cc
behind_shown links subs nodes from (x ∷ xs) to node [] behind sub l past inside e =
    let here : x ≡ node = ap head_node e in
    let rest : map (dest_at subs) xs ≡ behind = cc in
    subst (λ n. shown subs nodes (get_or links n 0) ≡ first_dest behind) here
    (first_shown links subs nodes x xs to l.1 past (λ q h. inside q (behind_in x xs q h)) ∙ ap first_dest rest)
behind_shown links subs nodes from (x ∷ xs) to node (b ∷ before) behind sub l past inside e =
    let rest : map (dest_at subs) xs ≡ before ++ (node, sub) ∷ behind = cc in
    behind_shown links subs nodes x xs to node before behind sub l.1 past (λ q h. inside q (behind_in x xs q h)) rest
