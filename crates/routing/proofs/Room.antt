-- While a list may have a destination more, a node is left for it.
use Rattle.std.proofs.Common.{◌≡◌, ℕ, ◌+◌, ◌*◌, ◌<◌, ◌≤◌, zero, suc, List, [], ◌∷◌, length, get_or, ap, arith}
use Rattle.std.specs.List.{sum_by}
use Rattle.std.proofs.lemmas.List.Sums.{sum_by-cons}
use Rattle.bucket_list.specs.Lists.{Listed, listed_at}
use Rattle.subscriptions.specs.declared.words.SubNo.{SubNo}
use Rattle.routing.specs.Inside.{rings, AreRings}
use Rattle.routing.proofs.Nodes.{length-rings, length-ring}

-- lists of at most so many have at most so many together
all_long : (lists : List (List ℕ)) (limit : ℕ) → ((i : ℕ) → i < length lists → length (get_or lists i []) ≤ limit) → sum_by (λ (ns : List ℕ). length ns) lists ≤ length lists * limit
all_long [] limit few = omega arith
all_long (ns ∷ lists) limit few =
    let ih = all_long lists limit (λ i h. few (suc i) (omega (arith, h))) in
    omega (arith, ih, few 0 (omega arith), sum_by-cons (λ (ms : List ℕ). length ms) ns lists, more (length lists))
  where
    more : (n : ℕ) → suc n * limit ≡ limit + n * limit
    more n = grind arith

-- and one fewer at least if one of them has fewer
one_short : (lists : List (List ℕ)) (limit list : ℕ) → ((i : ℕ) → i < length lists → length (get_or lists i []) ≤ limit) → list < length lists → length (get_or lists list []) < limit → sum_by (λ (ns : List ℕ). length ns) lists < length lists * limit
one_short [] limit list few h short = absurd (omega (arith, h))
one_short (ns ∷ lists) limit zero few h short =
    omega (arith, all_long lists limit (λ i hi. few (suc i) (omega (arith, hi))), short, sum_by-cons (λ (ms : List ℕ). length ms) ns lists, more (length lists))
  where
    more : (n : ℕ) → suc n * limit ≡ limit + n * limit
    more n = grind arith
one_short (ns ∷ lists) limit (suc list) few h short =
    let ih = one_short lists limit list (λ i hi. few (suc i) (omega (arith, hi))) (omega (arith, h)) short in
    omega (arith, ih, few 0 (omega arith), sum_by-cons (λ (ms : List ℕ). length ms) ns lists, more (length lists))
  where
    more : (n : ℕ) → suc n * limit ≡ limit + n * limit
    more n = grind arith

pub node_left : (links tails lens : List ℕ) (subs : List SubNo) (nodes limit : ℕ) (free : Listed) (list : ℕ) → AreRings links tails lens subs nodes limit free → list < length lens → get_or lens list 0 < limit → length (listed_at free 0) ≡ 0 → free.nodes < free.room
node_left links tails lens subs nodes limit free list a h short none =
    let long = length-rings links nodes lens in
    let some = one_short (rings links nodes lens) limit list (λ i hi. let within : i < length lens = omega (arith, hi, long) in omega (arith, length-ring links nodes lens i within, a.within i within)) (omega (arith, h, long)) (omega (arith, short, length-ring links nodes lens list h)) in
    omega (arith, some, a.all, none, a.free_room, a.room, ap (λ n. n * limit) long)
