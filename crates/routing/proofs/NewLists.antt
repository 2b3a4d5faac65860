-- Lists that were just made.
use Rattle.std.proofs.Common.{◌≡◌, ℕ, ◌+◌, ◌*◌, ◌<◌, ◌^◌, zero, suc, List, [], ◌∷◌, length, get_or, replicate, refl, ap, sym, subst, ◌∙◌, arith}
use Rattle.std.specs.List.{range_with_len, sum_by}
use Rattle.std.proofs.lemmas.Bool.Decides.{nat_tests}
use Rattle.std.proofs.lemmas.List.{length-replicate, get_or-replicate}
use Rattle.std.proofs.lemmas.List.FromFn.{length-range_with_len, get_or-range_with_len}
use Rattle.bucket_list.specs.Lists.{Listed, listed_at, times_in, times}
use Rattle.subscriptions.specs.declared.words.SubNo.{SubNo}
use Rattle.routing.specs.Inside.{Linked, rings, dests_seen, made_before, AreRings}
use Rattle.routing.proofs.Nodes.{rings_are}

none_times : (n q : ℕ) → times (replicate n []) q ≡ 0
none_times zero q = refl
none_times (suc n) q = none_times n q

none_long : (n : ℕ) → sum_by (λ (ns : List ℕ). length ns) (replicate n []) ≡ 0
none_long zero = refl
none_long (suc n) = none_long n

none_seen : (subs : List SubNo) (n : ℕ) → dests_seen subs (replicate n []) ≡ replicate n []
none_seen subs zero = refl
none_seen subs (suc n) = ap (λ ls. [] ∷ ls) (none_seen subs n)

none_made : (q : ℕ) → made_before 0 q ≡ 0
none_made q = grind (arith, nat_tests)

pub made : (links tails lens : List ℕ) (subs : List SubNo) (nodes limit lists places : ℕ) (free : Listed) → links ≡ range_with_len 0 places → tails ≡ replicate lists 0 → lens ≡ replicate lists 0 → length subs ≡ nodes
    → free.room ≡ nodes → free.nodes ≡ 0 → free.lists ≡ [] ∷ [] → places ≡ nodes + lists → places < 2 ^ 32 → nodes ≡ lists * limit
    → AreRings links tails lens subs nodes limit free × (dests_seen subs (rings links nodes lens) ≡ replicate lists [])
made links tails lens subs nodes limit lists places free e_links e_tails e_lens e_subs e_room e_nodes e_free e_places few e_limit =
    let long : length lens ≡ lists = ap (λ ls. length ls) e_lens ∙ length-replicate {A = ℕ} lists 0 in
    let zero_at : (i : ℕ) → i < length lens → get_or lens i 0 ≡ 0 = λ i hi. ap (λ ls. get_or ls i 0) e_lens ∙ get_or-replicate {A = ℕ} lists i 0 0 (omega (arith, hi, long)) in
    let none : (i : ℕ) → i < length lens → get_or (replicate lists []) i [] ≡ [] = λ i hi. get_or-replicate {A = List ℕ} lists i [] [] (omega (arith, hi, long)) in
    let itself : (i : ℕ) → i < length lens → get_or links (nodes + i) 0 ≡ nodes + i = λ i hi. ap (λ ls. get_or ls (nodes + i) 0) e_links ∙ (get_or-range_with_len 0 places (nodes + i) 0 (omega (arith, hi, long, e_places)) ∙ from_none (nodes + i)) in
    let linked' : (i : ℕ) → i < length lens → Linked links (nodes + i) (get_or (replicate lists []) i []) (nodes + i) = λ i hi. subst (λ xs. Linked links (nodes + i) xs (nodes + i)) (sym (none i hi)) (itself i hi) in
    let after : rings links nodes lens ≡ replicate lists [] =
    rings_are links nodes lens (replicate lists []) (length-replicate {A = List ℕ} lists [] ∙ sym long) linked' (λ i hi. ap (λ xs. length xs) (none i hi) ∙ sym (zero_at i hi)) in
    let free_none : listed_at free 0 ≡ [] = ap (λ ls. get_or ls 0 []) e_free in (
      record {
        links_all = ap (λ ls. length ls) e_links ∙ (length-range_with_len 0 places ∙ (e_places ∙ ap (λ n. nodes + n) (sym long)));
        few = omega (arith, few, e_places, long);
        tails_all = ap (λ ls. length ls) e_tails ∙ (length-replicate {A = ℕ} lists 0 ∙ sym long);
        subs_all = e_subs;
        room = e_limit ∙ ap (λ n. n * limit) (sym long);
        free_room = e_room;
        free_made = omega (arith, e_nodes);
        free_one = ap (λ ls. length ls) e_free;
        linked = λ i hi. subst (λ ls. Linked links (nodes + i) (get_or ls i []) (nodes + i)) (sym after) (linked' i hi);
        tailed = λ i hi some. absurd (omega (arith, some, zero_at i hi));
        within = λ i hi. omega (arith, zero_at i hi);
        placed = λ q. omega (arith, ap (λ ls. times ls q) after, none_times lists q, ap (λ ns. times_in ns q) free_none, ap (λ n. made_before n q) e_nodes, none_made q);
        all = omega (arith, ap (λ ls. sum_by (λ (ns : List ℕ). length ns) ls) after, none_long lists, ap (λ ns. length ns) free_none, e_nodes);
      },
      ap (dests_seen subs) after ∙ none_seen subs lists,
    )
  where
    from_none : (n : ℕ) → 0 + n ≡ n
    from_none n = omega arith
