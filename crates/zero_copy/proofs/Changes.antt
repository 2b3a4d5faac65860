-- The held lists kept by a hold and a letting go, and what they leave.
use Rattle.std.proofs.Common.{◌≡◌, ℕ, ◌+◌, ◌-◌, ◌<◌, ◌≤◌, ◌^◌, ◌⊎◌, inl, inr, zero, suc, Bool, true, false, cond, eqb, List, [], ◌∷◌, length, get_or, set, drop, replicate, refl, ap, sym, subst, ◌∙◌, arith}
use Rattle.std.specs.List.{range_with_len}
use Rattle.std.proofs.lemmas.Bool.{cases_eq, cases_lt}
use Rattle.std.proofs.lemmas.Bool.Decides.{nat_tests}
use Rattle.std.proofs.lemmas.List.{length-set, length-replicate, get_or-replicate, get_or-set_same, get_or-set_other, get_or_past, same_lists, get_or_default}
use Rattle.std.proofs.lemmas.List.FromFn.{length-range_with_len, get_or-range_with_len}
use Rattle.std.proofs.lemmas.List.Sums.{count_by-le-length}
use Rattle.bucket_list.specs.Lists.{times_in, times}
use Rattle.bucket_list.specs.Chains.{chain}
use Rattle.bucket_list.proofs.Counts.{times_in-cons, times_in-le-times, length_few, loose_from_each, once_from_each}
use Rattle.zero_copy.specs.Held.{AreApart, without}
use Rattle.zero_copy.specs.Inside.{Linked, rings, owner_mark, AreHeld}
use Rattle.zero_copy.proofs.Links.{next_else, prev_else, chain_linked, prev_in, next_in, linked_without, linked_front, length_without, times_without, without_first, after_first, once_behind}

-- as many rings as counts, and each the chain behind its anchor
pub length-rings : (next : List ℕ) (anchor : ℕ) (counts : List ℕ) → length (rings next anchor counts) ≡ length counts
length-rings next anchor [] = refl
length-rings next anchor (count ∷ counts) = ap suc (length-rings next (anchor + 1) counts)

pub get_or-rings : (next : List ℕ) (anchor : ℕ) (counts : List ℕ) (place : ℕ) → place < length counts → get_or (rings next anchor counts) place [] ≡ chain next (get_or next (anchor + place) 0) (get_or counts place 0)
get_or-rings next anchor [] place h = absurd (omega (arith, h))
get_or-rings next anchor (count ∷ counts) zero h = ap (λ a. chain next (get_or next a 0) count) (add_none anchor)
  where
    add_none : (n : ℕ) → n ≡ n + zero
    add_none n = omega arith
get_or-rings next anchor (count ∷ counts) (suc place) h =
    get_or-rings next (anchor + 1) counts place (omega (arith, h)) ∙ ap (λ a. chain next (get_or next a 0) (get_or counts place 0)) (moved anchor place)
  where
    moved : (a p : ℕ) → a + 1 + p ≡ a + suc p
    moved a p = omega arith

-- lists that are rings round their anchors and have these lengths are the rings there
pub rings_are : (next prev : List ℕ) (descs : ℕ) (counts : List ℕ) (lists : List (List ℕ)) → length lists ≡ length counts
    → ((place : ℕ) → place < length counts → Linked next prev (descs + place) (get_or lists place []) (descs + place))
    → ((place : ℕ) → place < length counts → length (get_or lists place []) ≡ get_or counts place 0)
    → rings next descs counts ≡ lists
rings_are next prev descs counts lists e linked counted =
    same_lists (rings next descs counts) lists (length-rings next descs counts ∙ sym e)
    (λ place d h. let within : place < length counts = omega (arith, h, length-rings next descs counts) in
    get_or_default (rings next descs counts) place d [] h
    ∙ (get_or-rings next descs counts place within
    ∙ (ap (chain next (get_or next (descs + place) 0)) (sym (counted place within))
    ∙ (chain_linked next prev (descs + place) (get_or lists place []) (descs + place) (linked place within)
    ∙ get_or_default lists place [] d (omega (arith, within, e))))))

-- each list that an owner's mark counts has each descriptor once, and none that isn't one
mark_once : (owners : List ℕ) (place q : ℕ) → owner_mark owners place q ≤ 1
mark_once owners place q = at_most (eqb (get_or owners q 0) (place + 1))
  where
    at_most : (b : Bool) → cond b 1 0 ≤ 1
    at_most true = omega arith
    at_most false = omega arith

mark_past : (owners : List ℕ) (place q : ℕ) → length owners ≤ q → owner_mark owners place q ≡ 0
mark_past owners place q h = nobody (get_or owners q 0) (get_or_past owners q 0 h)
  where
    nobody : (o : ℕ) → o ≡ 0 → cond {A = ℕ} (eqb o (place + 1)) 1 0 ≡ 0
    nobody o e = grind (arith, nat_tests)

mark_owner : (owners : List ℕ) (place q : ℕ) → 0 < owner_mark owners place q → get_or owners q 0 ≡ place + 1
mark_owner owners place q h = owner (get_or owners q 0) h
  where
    owner : (o : ℕ) → 0 < cond {A = ℕ} (eqb o (place + 1)) 1 0 → o ≡ place + 1
    owner o some = grind (arith, nat_tests)

mark_other : (owners : List ℕ) (place other q : ℕ) → 0 < owner_mark owners place q → (other ≡ place → ⊥) → owner_mark owners other q ≡ 0
mark_other owners place other q h ne = none (get_or owners q 0) (mark_owner owners place q h)
  where
    none : (o : ℕ) → o ≡ place + 1 → cond {A = ℕ} (eqb o (other + 1)) 1 0 ≡ 0
    none o e = grind (arith, nat_tests)

-- the owner's mark of the one descriptor that changes hands, and of another
mark-set : (owners : List ℕ) (d owner place q : ℕ) → d < length owners → owner_mark (set owners d owner) place q ≡ cond (eqb d q) (cond (eqb owner (place + 1)) 1 0) (owner_mark owners place q)
mark-set owners d owner place q h = by_cases (cases_eq q d)
  where
    by_cases : (q ≡ d) ⊎ (q ≡ d → ⊥) → owner_mark (set owners d owner) place q ≡ cond (eqb d q) (cond (eqb owner (place + 1)) 1 0) (owner_mark owners place q)
    by_cases (inl same) =
        subst (λ b. owner_mark (set owners d owner) place q ≡ cond b (cond (eqb owner (place + 1)) 1 0) (owner_mark owners place q)) (sym (yes same))
        (ap (λ o. cond {A = ℕ} (eqb o (place + 1)) 1 0) (ap (λ i. get_or (set owners d owner) i 0) same ∙ get_or-set_same owners d owner 0 h))
      where
        yes : q ≡ d → eqb d q ≡ true
        yes e = grind (arith, nat_tests)
    by_cases (inr other) =
        subst (λ b. owner_mark (set owners d owner) place q ≡ cond b (cond (eqb owner (place + 1)) 1 0) (owner_mark owners place q)) (sym (no other))
        (ap (λ o. cond {A = ℕ} (eqb o (place + 1)) 1 0) (get_or-set_other owners d q owner 0 other))
      where
        no : (q ≡ d → ⊥) → eqb d q ≡ false
        no ne = grind (arith, nat_tests)

-- what a test of the owner tells
pub owner_test : (owners : List ℕ) (place desc owner app : ℕ) → owner ≡ get_or owners desc 0 → app ≡ place + 1 → (t : ℕ) → t ≡ owner_mark owners place desc → (eqb owner app ≡ true → 0 < t) × (0 < t → eqb owner app ≡ true)
owner_test owners place desc owner app e e_app t et =
    let m : t ≡ cond {A = ℕ} (eqb owner app) 1 0 = et ∙ (ap (λ o. cond {A = ℕ} (eqb o (place + 1)) 1 0) (sym e) ∙ ap (λ n. cond {A = ℕ} (eqb owner n) 1 0) (sym e_app)) in
    (read (eqb owner app) m, write (eqb owner app) m)
  where
    read : (b : Bool) → t ≡ cond {A = ℕ} b 1 0 → b ≡ true → 0 < t
    read true m h = omega (arith, m)
    read false m h = absurd cc

    write : (b : Bool) → t ≡ cond {A = ℕ} b 1 0 → 0 < t → b ≡ true
    write true m h = refl
    write false m h = absurd (omega (arith, m, h))

-- a list at its place is set, the others stay
at_place : (lists : List (List ℕ)) (place other : ℕ) (xs : List ℕ) → place < length lists → other ≡ place → get_or (set lists place xs) other [] ≡ xs
at_place lists place other xs h e = ap (λ i. get_or (set lists place xs) i []) e ∙ get_or-set_same lists place xs [] h

-- the number of a list that holds one more, or one fewer
counts_at : (counts : List ℕ) (place other count : ℕ) → place < length counts → other ≡ place → get_or (set counts place count) other 0 ≡ count
counts_at counts place other count h e = ap (λ i. get_or (set counts place count) i 0) e ∙ get_or-set_same counts place count 0 h

-- what stands in one ring, with its anchor, is in no other
pub record IsElsewhere (descs : ℕ) (lists : List (List ℕ)) (other q : ℕ) : Type 0 where
  pub no_anchor : descs + other ≡ q → ⊥
  pub not_listed : times_in (get_or lists other []) q ≡ 0

elsewhere : (next prev counts owners : List ℕ) (descs place other q : ℕ) → AreHeld next prev counts owners descs → place < length counts → other < length counts → (other ≡ place → ⊥)
    → (q ≡ descs + place) ⊎ (0 < times_in (get_or (rings next descs counts) place []) q) → IsElsewhere descs (rings next descs counts) other q
elsewhere next prev counts owners descs place other q a h ho ne (inl e) = record {
  no_anchor = λ same. ne (omega (arith, same, e));
  not_listed = a.owned other q ho ∙ mark_past owners other q (omega (arith, e, a.owners_all));
}
elsewhere next prev counts owners descs place other q a h ho ne (inr some) =
    let marked : 0 < owner_mark owners place q = omega (arith, some, a.owned place q h) in
    record {
      no_anchor = λ same. absurd (omega (arith, marked, mark_past owners place q (omega (arith, same, a.owners_all))));
      not_listed = a.owned other q ho ∙ mark_other owners place other q marked ne;
    }

-- a descriptor that nobody holds is in no ring
free_elsewhere : (next prev counts owners : List ℕ) (descs other d : ℕ) → AreHeld next prev counts owners descs → other < length counts → d < descs → times (rings next descs counts) d ≡ 0 → IsElsewhere descs (rings next descs counts) other d
free_elsewhere next prev counts owners descs other d a ho within free = record {
  no_anchor = λ same. absurd (omega (arith, same, within));
  not_listed = omega (arith, times_in-le-times (rings next descs counts) other d (omega (arith, ho, length-rings next descs counts)), free);
}

-- a ring that four writes elsewhere leave
kept_four : (next prev : List ℕ) (descs other : ℕ) (lists : List (List ℕ)) (p p' q q' x x' y y' : ℕ) → Linked next prev (descs + other) (get_or lists other []) (descs + other)
    → IsElsewhere descs lists other p → IsElsewhere descs lists other p' → IsElsewhere descs lists other q → IsElsewhere descs lists other q'
    → Linked (set (set next p x) p' x') (set (set prev q y) q' y') (descs + other) (get_or lists other []) (descs + other)
kept_four next prev descs other lists p p' q q' x x' y y' l ep ep' eq eq' =
    next_else (set next p x) (set (set prev q y) q' y') (descs + other) (get_or lists other []) (descs + other) p' x'
    (next_else next (set (set prev q y) q' y') (descs + other) (get_or lists other []) (descs + other) p x
    (prev_else next (set prev q y) (descs + other) (get_or lists other []) (descs + other) q' y'
    (prev_else next prev (descs + other) (get_or lists other []) (descs + other) q y l eq.no_anchor eq.not_listed)
    eq'.no_anchor eq'.not_listed)
    ep.no_anchor ep.not_listed)
    ep'.no_anchor ep'.not_listed

kept_two : (next prev : List ℕ) (descs other : ℕ) (lists : List (List ℕ)) (p q x y : ℕ) → Linked next prev (descs + other) (get_or lists other []) (descs + other)
    → IsElsewhere descs lists other p → IsElsewhere descs lists other q
    → Linked (set next p x) (set prev q y) (descs + other) (get_or lists other []) (descs + other)
kept_two next prev descs other lists p q x y l ep eq =
    next_else next (set prev q y) (descs + other) (get_or lists other []) (descs + other) p x
    (prev_else next prev (descs + other) (get_or lists other []) (descs + other) q y l eq.no_anchor eq.not_listed)
    ep.no_anchor ep.not_listed

-- the facts of a changed ring and of those that stay make all rings
pub record Changes (next prev counts owners : List ℕ) (descs : ℕ) (next' prev' counts' owners' : List ℕ) (place : ℕ) (xs : List ℕ) : Type 0 where
  pub kept : AreHeld next' prev' counts' owners' descs
  pub after : rings next' descs counts' ≡ set (rings next descs counts) place xs

changes : (next prev counts owners : List ℕ) (descs : ℕ) (next' prev' owners' : List ℕ) (place count : ℕ) (xs : List ℕ) → AreHeld next prev counts owners descs → place < length counts
    → length next' ≡ length next → length prev' ≡ length prev → length owners' ≡ length owners
    → Linked next' prev' (descs + place) xs (descs + place)
    → ((other : ℕ) → other < length counts → (other ≡ place → ⊥) → Linked next' prev' (descs + other) (get_or (rings next descs counts) other []) (descs + other))
    → length xs ≡ count
    → ((q : ℕ) → times_in xs q ≡ owner_mark owners' place q)
    → ((other q : ℕ) → other < length counts → (other ≡ place → ⊥) → owner_mark owners other q ≡ owner_mark owners' other q)
    → Changes next prev counts owners descs next' prev' (set counts place count) owners' place xs
changes next prev counts owners descs next' prev' owners' place count xs a h e_next e_prev e_owners here others counted owned_here owned_others =
    let lists = rings next descs counts in
    let lists' = set lists place xs in
    let h_lists : place < length lists = omega (arith, h, length-rings next descs counts) in
    let counts' = set counts place count in
    let long : length counts' ≡ length counts = length-set counts place count in
    let linked' : (i : ℕ) → i < length counts' → Linked next' prev' (descs + i) (get_or lists' i []) (descs + i) = λ i hi. at_linked h_lists i (omega (arith, hi, long)) (cases_eq i place) in
    let counted' : (i : ℕ) → i < length counts' → length (get_or lists' i []) ≡ get_or counts' i 0 = λ i hi. at_counted h_lists i (omega (arith, hi, long)) (cases_eq i place) in
    let after = rings_are next' prev' descs counts' lists' (length-set lists place xs ∙ (length-rings next descs counts ∙ sym long)) linked' counted' in
    record {
      kept = record {
        next_all = omega (arith, a.next_all, e_next, long);
        prev_all = omega (arith, a.prev_all, e_prev, long);
        few = omega (arith, a.few, long);
        owners_all = e_owners ∙ a.owners_all;
        linked = λ i hi. subst (λ ls. Linked next' prev' (descs + i) (get_or ls i []) (descs + i)) (sym after) (linked' i hi);
        counted = λ i hi. ap (λ ls. length (get_or ls i [])) after ∙ counted' i hi;
        owned = λ i q hi. ap (λ ls. times_in (get_or ls i []) q) after ∙ at_owned h_lists i q (omega (arith, hi, long)) (cases_eq i place);
      };
      after = after;
    }
  where
    at_linked : place < length (rings next descs counts) → (i : ℕ) → i < length counts → (i ≡ place) ⊎ (i ≡ place → ⊥) → Linked next' prev' (descs + i) (get_or (set (rings next descs counts) place xs) i []) (descs + i)
    at_linked hl i hi (inl e) =
        subst (λ ys. Linked next' prev' (descs + i) ys (descs + i)) (sym (at_place (rings next descs counts) place i xs hl e))
        (subst (λ j. Linked next' prev' (descs + j) xs (descs + j)) (sym e) here)
    at_linked hl i hi (inr ne) = subst (λ ys. Linked next' prev' (descs + i) ys (descs + i)) (sym (get_or-set_other (rings next descs counts) place i xs [] ne)) (others i hi ne)

    at_counted : place < length (rings next descs counts) → (i : ℕ) → i < length counts → (i ≡ place) ⊎ (i ≡ place → ⊥) → length (get_or (set (rings next descs counts) place xs) i []) ≡ get_or (set counts place count) i 0
    at_counted hl i hi (inl e) = ap length (at_place (rings next descs counts) place i xs hl e) ∙ (counted ∙ sym (counts_at counts place i count h e))
    at_counted hl i hi (inr ne) = ap length (get_or-set_other (rings next descs counts) place i xs [] ne) ∙ (a.counted i hi ∙ sym (get_or-set_other counts place i count 0 ne))

    at_owned : place < length (rings next descs counts) → (i q : ℕ) → i < length counts → (i ≡ place) ⊎ (i ≡ place → ⊥) → times_in (get_or (set (rings next descs counts) place xs) i []) q ≡ owner_mark owners' i q
    at_owned hl i q hi (inl e) = ap (λ ys. times_in ys q) (at_place (rings next descs counts) place i xs hl e) ∙ (owned_here q ∙ ap (λ j. owner_mark owners' j q) (sym e))
    at_owned hl i q hi (inr ne) = ap (λ ys. times_in ys q) (get_or-set_other (rings next descs counts) place i xs [] ne) ∙ (a.owned i q hi ∙ owned_others i q hi ne)

-- each descriptor stands at most once in a list, and no anchor does
once_in : (next prev counts owners : List ℕ) (descs place : ℕ) → AreHeld next prev counts owners descs → place < length counts → (q : ℕ) → times_in (get_or (rings next descs counts) place []) q ≤ 1
once_in next prev counts owners descs place a h q = omega (arith, a.owned place q h, mark_once owners place q)

no_anchor_in : (next prev counts owners : List ℕ) (descs place q : ℕ) → AreHeld next prev counts owners descs → place < length counts → descs ≤ q → times_in (get_or (rings next descs counts) place []) q ≡ 0
no_anchor_in next prev counts owners descs place q a h past = a.owned place q h ∙ mark_past owners place q (omega (arith, past, a.owners_all))

pub desc_in : (next prev counts owners : List ℕ) (descs place q : ℕ) → AreHeld next prev counts owners descs → place < length counts → 0 < times_in (get_or (rings next descs counts) place []) q → q < descs
desc_in next prev counts owners descs place q a h some = by_cases (cases_lt q descs)
  where
    by_cases : (q < descs) ⊎ (descs ≤ q) → q < descs
    by_cases (inl within) = within
    by_cases (inr past) = absurd (omega (arith, some, no_anchor_in next prev counts owners descs place q a h past))

-- no descriptor is held twice, and each that is held is one of those that there are
pub held_apart : (next prev counts owners : List ℕ) (descs : ℕ) → AreHeld next prev counts owners descs → AreApart (record { descs = descs; lists = rings next descs counts })
held_apart next prev counts owners descs a = record {
  once = λ q. once_from_each (rings next descs counts) q (λ i h. once_in next prev counts owners descs i a (inside i h) q)
      (λ i j h hj some ne. a.owned j q (inside j hj) ∙ mark_other owners i j q (omega (arith, some, a.owned i q (inside i h))) ne);
  exist = λ q past. loose_from_each (rings next descs counts) q (λ i h. no_anchor_in next prev counts owners descs i q a (inside i h) past);
}
  where
    inside : (place : ℕ) → place < length (rings next descs counts) → place < length counts
    inside place h = omega (arith, h, length-rings next descs counts)

-- places have a link in both rows
links_inside : (next prev counts owners : List ℕ) (descs place q : ℕ) → AreHeld next prev counts owners descs → place < length counts → 0 < times_in (get_or (rings next descs counts) place []) q → (q < length next) × (q < length prev)
links_inside next prev counts owners descs place q a h some =
    let within = desc_in next prev counts owners descs place q a h some in
    (omega (arith, within, a.next_all), omega (arith, within, a.prev_all))

counted_more : (d q t own owner place : ℕ) → t ≡ own → (d ≡ q → t ≡ 0) → owner ≡ place + 1 → cond (eqb d q) 1 0 + t ≡ cond (eqb d q) (cond (eqb owner (place + 1)) 1 0) own
counted_more d q t own owner place e none e_owner = grind (arith, nat_tests)

other_same : (d q owner other own : ℕ) → (d ≡ q → own ≡ 0) → (owner ≡ other + 1 → ⊥) → own ≡ cond (eqb d q) (cond (eqb owner (other + 1)) 1 0) own
other_same d q owner other own none ne = grind (arith, nat_tests)

counted_fewer : (d q t t' own place : ℕ) → t' + cond (eqb d q) t 0 ≡ t → t ≡ own → t' ≡ cond (eqb d q) (cond (eqb 0 (place + 1)) 1 0) own
counted_fewer d q t t' own place e e_own = grind (arith, nat_tests)

hold_one : (next prev counts owners : List ℕ) (descs place d count : ℕ) → AreHeld next prev counts owners descs → place < length counts → d < descs → times (rings next descs counts) d ≡ 0 → count ≡ get_or counts place 0
    → Changes next prev counts owners descs (set (set next d (get_or next (descs + place) 0)) (descs + place) d) (set (set prev (get_or next (descs + place) 0) d) d (descs + place)) (set counts place (count + 1)) (set owners d (place + 1)) place (d ∷ get_or (rings next descs counts) place [])
hold_one next prev counts owners descs place d count a h within free e_count =
    let lists = rings next descs counts in
    let xs = get_or lists place [] in
    let s = descs + place in
    let f = get_or next s 0 in
    let nobody : (i : ℕ) → i < length counts → times_in (get_or lists i []) d ≡ 0 = λ i hi. omega (arith, times_in-le-times lists i d (omega (arith, hi, length-rings next descs counts)), free) in
    let first = after_first next prev s xs s (a.linked place h) in
    let anchor_out = no_anchor_in next prev counts owners descs place s a h (omega arith) in
    changes next prev counts owners descs (set (set next d f) s d) (set (set prev f d) d s) (set owners d (place + 1)) place (count + 1) (d ∷ xs) a h
    (length-set (set next d f) s d ∙ length-set next d f)
    (length-set (set prev f d) d s ∙ length-set prev f d)
    (length-set owners d (place + 1))
    (linked_front next prev s xs d (a.linked place h) (nobody place h) (λ e. omega (arith, e, within)) anchor_out (once_in next prev counts owners descs place a h)
    (omega (arith, h, a.next_all)) (omega (arith, h, a.prev_all)) (omega (arith, within, a.next_all)) (omega (arith, within, a.prev_all))
    (λ q some. (links_inside next prev counts owners descs place q a h some).1))
    (λ i hi ne. kept_four next prev descs i lists d s f d f d d s (a.linked i hi)
    (free_elsewhere next prev counts owners descs i d a hi within free)
    (elsewhere next prev counts owners descs place i s a h hi ne (inl refl))
    (elsewhere next prev counts owners descs place i f a h hi ne first)
    (free_elsewhere next prev counts owners descs i d a hi within free))
    (omega (arith, a.counted place h, e_count))
    (λ q. times_in-cons d xs q ∙ (counted_more d q (times_in xs q) (owner_mark owners place q) (place + 1) place (a.owned place q h) (λ e. ap (times_in xs) (sym e) ∙ nobody place h) refl ∙ sym (mark-set owners d (place + 1) place q (omega (arith, within, a.owners_all)))))
    (λ i q hi ne. other_same d q (place + 1) i (owner_mark owners i q) (λ e. ap (owner_mark owners i) (sym e) ∙ (sym (a.owned i d hi) ∙ nobody i hi)) (λ e. ne (omega (arith, e)))
    ∙ sym (mark-set owners d (place + 1) i q (omega (arith, within, a.owners_all))))

-- the same at what the code read and wrote
pub hold_read : (next next1 next2 prev prev1 prev2 counts owners : List ℕ) (descs place anchor d first count : ℕ) → AreHeld next prev counts owners descs → place < length counts → d < descs → times (rings next descs counts) d ≡ 0 → count ≡ get_or counts place 0
    → anchor ≡ descs + place → first ≡ get_or next anchor 0 → next1 ≡ set next d first → prev1 ≡ set prev first d → next2 ≡ set next1 anchor d → prev2 ≡ set prev1 d anchor
    → Changes next prev counts owners descs next2 prev2 (set counts place (count + 1)) (set owners d (place + 1)) place (d ∷ get_or (rings next descs counts) place [])
hold_read next next1 next2 prev prev1 prev2 counts owners descs place anchor d first count a h within free e_count e_anchor e_first e_next1 e_prev1 e_next2 e_prev2 =
    let f = get_or next (descs + place) 0 in
    let first_is : first ≡ f = e_first ∙ ap (λ s. get_or next s 0) e_anchor in
    let next_is : next2 ≡ set (set next d f) (descs + place) d = e_next2 ∙ (ap (λ ls. set ls anchor d) (e_next1 ∙ ap (set next d) first_is) ∙ ap (λ s. set (set next d f) s d) e_anchor) in
    let prev_is : prev2 ≡ set (set prev f d) d (descs + place) = e_prev2 ∙ (ap (λ ls. set ls d anchor) (e_prev1 ∙ ap (λ q. set prev q d) first_is) ∙ ap (set (set prev f d) d) e_anchor) in
    subst (λ ns. Changes next prev counts owners descs ns prev2 (set counts place (count + 1)) (set owners d (place + 1)) place (d ∷ get_or (rings next descs counts) place [])) (sym next_is)
    (subst (λ ps. Changes next prev counts owners descs (set (set next d f) (descs + place) d) ps (set counts place (count + 1)) (set owners d (place + 1)) place (d ∷ get_or (rings next descs counts) place [])) (sym prev_is)
    (hold_one next prev counts owners descs place d count a h within free e_count))

-- the count of a list with one more still is a number of 32 bits
pub hold_fits : (next next2 prev prev2 counts owners : List ℕ) (descs place d count : ℕ) → AreHeld next prev counts owners descs → place < length counts → d < descs → times (rings next descs counts) d ≡ 0 → count ≡ get_or counts place 0 → count + 1 ≤ descs
hold_fits next next2 prev prev2 counts owners descs place d count a h within free e_count =
    let xs = get_or (rings next descs counts) place [] in
    let nobody : times_in xs d ≡ 0 = omega (arith, times_in-le-times (rings next descs counts) place d (omega (arith, h, length-rings next descs counts)), free) in
    let few : length (d ∷ xs) ≤ descs = length_few (d ∷ xs) descs
    (λ q. at_most d q (times_in xs q) (times_in (d ∷ xs) q) (times_in-cons d xs q) (once_in next prev counts owners descs place a h q) (λ e. ap (times_in xs) (sym e) ∙ nobody))
    (λ q past. none_past d q (times_in xs q) (times_in (d ∷ xs) q) (times_in-cons d xs q) (no_anchor_in next prev counts owners descs place q a h past) (λ e. omega (arith, e, within, past))) in
    omega (arith, few, a.counted place h, e_count)
  where
    at_most : (d q t t' : ℕ) → t' ≡ cond (eqb d q) 1 0 + t → t ≤ 1 → (d ≡ q → t ≡ 0) → t' ≤ 1
    at_most d q t t' e le none = grind (arith, nat_tests)

    none_past : (d q t t' : ℕ) → t' ≡ cond (eqb d q) 1 0 + t → t ≡ 0 → (d ≡ q → ⊥) → t' ≡ 0
    none_past d q t t' e none ne = grind (arith, nat_tests)

let_go_one : (next prev counts owners : List ℕ) (descs place d count : ℕ) → AreHeld next prev counts owners descs → place < length counts → 0 < times_in (get_or (rings next descs counts) place []) d → count ≡ get_or counts place 0
    → Changes next prev counts owners descs (set next (get_or prev d 0) (get_or next d 0)) (set prev (get_or next d 0) (get_or prev d 0)) (set counts place (count - 1)) (set owners d 0) place (without d (get_or (rings next descs counts) place []))
let_go_one next prev counts owners descs place d count a h held e_count =
    let lists = rings next descs counts in
    let xs = get_or lists place [] in
    let s = descs + place in
    let p = get_or prev d 0 in
    let n = get_or next d 0 in
    let within : d < descs = desc_in next prev counts owners descs place d a h held in
    let marked : 0 < owner_mark owners place d = omega (arith, held, a.owned place d h) in
    let once = once_in next prev counts owners descs place a h in
    let anchor_out = no_anchor_in next prev counts owners descs place s a h (omega arith) in
    changes next prev counts owners descs (set next p n) (set prev n p) (set owners d 0) place (count - 1) (without d xs) a h
    (length-set next p n) (length-set prev n p) (length-set owners d 0)
    (linked_without next prev s xs s d (a.linked place h) held once anchor_out anchor_out
    (omega (arith, h, a.next_all)) (omega (arith, h, a.prev_all)) (λ q some. links_inside next prev counts owners descs place q a h some))
    (λ i hi ne. kept_two next prev descs i lists p n n p (a.linked i hi)
    (elsewhere next prev counts owners descs place i p a h hi ne (prev_in next prev s xs s d (a.linked place h) held))
    (elsewhere next prev counts owners descs place i n a h hi ne (next_in next prev s xs s d (a.linked place h) held)))
    (omega (arith, length_without d xs held once, a.counted place h, e_count))
    (λ q. counted_fewer d q (times_in xs q) (times_in (without d xs) q) (owner_mark owners place q) place (times_without d xs q) (a.owned place q h) ∙ sym (mark-set owners d 0 place q (omega (arith, within, a.owners_all))))
    (λ i q hi ne. other_same d q 0 i (owner_mark owners i q) (λ e. ap (owner_mark owners i) (sym e) ∙ mark_other owners place i d marked ne) (λ e. omega (arith, e))
    ∙ sym (mark-set owners d 0 i q (omega (arith, within, a.owners_all))))

-- a letting go at what the code read and wrote
pub record LetsGo (next prev counts owners : List ℕ) (descs : ℕ) (next' prev' counts' owners' : List ℕ) (place d : ℕ) : Type 0 where
  pub changed : Changes next prev counts owners descs next' prev' counts' owners' place (without d (get_or (rings next descs counts) place []))
  pub free : times (rings next' descs counts') d ≡ 0

pub let_go_read : (next next' prev prev' counts owners : List ℕ) (descs place d before behind count : ℕ) → AreHeld next prev counts owners descs → place < length counts → 0 < times_in (get_or (rings next descs counts) place []) d → count ≡ get_or counts place 0
    → before ≡ get_or prev d 0 → behind ≡ get_or next d 0 → next' ≡ set next before behind → prev' ≡ set prev behind before
    → LetsGo next prev counts owners descs next' prev' (set counts place (count - 1)) (set owners d 0) place d
let_go_read next next' prev prev' counts owners descs place d before behind count a h held e_count e_before e_behind e_next e_prev =
    let p = get_or prev d 0 in
    let n = get_or next d 0 in
    let counts' = set counts place (count - 1) in
    let within : d < descs = desc_in next prev counts owners descs place d a h held in
    let next_is : next' ≡ set next p n = e_next ∙ (ap (λ q. set next q behind) e_before ∙ ap (set next p) e_behind) in
    let prev_is : prev' ≡ set prev n p = e_prev ∙ (ap (λ q. set prev q before) e_behind ∙ ap (set prev n) e_before) in
    let changed : Changes next prev counts owners descs next' prev' counts' (set owners d 0) place (without d (get_or (rings next descs counts) place [])) =
    subst (λ ns. Changes next prev counts owners descs ns prev' counts' (set owners d 0) place (without d (get_or (rings next descs counts) place []))) (sym next_is)
    (subst (λ ps. Changes next prev counts owners descs (set next p n) ps counts' (set owners d 0) place (without d (get_or (rings next descs counts) place []))) (sym prev_is)
    (let_go_one next prev counts owners descs place d count a h held e_count)) in
    record {
      changed = changed;
      free = loose_from_each (rings next' descs counts') d
          (λ i hi. changed.kept.owned i d (omega (arith, hi, length-rings next' descs counts'))
          ∙ nobody (get_or (set owners d 0) d 0) (get_or-set_same owners d 0 0 (omega (arith, within, a.owners_all))) i);
    }
  where
    nobody : (o : ℕ) → o ≡ 0 → (i : ℕ) → cond {A = ℕ} (eqb o (i + 1)) 1 0 ≡ 0
    nobody o e i = grind (arith, nat_tests)

-- the descriptor that a call without a further write of links reads first is the first of the list
pub first_read : (next prev counts owners : List ℕ) (descs place anchor first count : ℕ) → AreHeld next prev counts owners descs → place < length counts → 0 < count → count ≡ get_or counts place 0 → anchor ≡ descs + place → first ≡ get_or next anchor 0
    → get_or (rings next descs counts) place [] ≡ first ∷ drop 1 (get_or (rings next descs counts) place [])
first_read next prev counts owners descs place anchor first count a h some e_count e_anchor e_first =
    first_of (get_or (rings next descs counts) place []) (a.linked place h) (omega (arith, a.counted place h, some, e_count))
  where
    first_of : (xs : List ℕ) → Linked next prev (descs + place) xs (descs + place) → 0 < length xs → xs ≡ first ∷ drop 1 xs
    first_of [] l none = absurd (omega (arith, none))
    first_of (x ∷ xs) l some' = ap (λ y. y ∷ xs) (sym l.0 ∙ sym (e_first ∙ ap (λ q. get_or next q 0) e_anchor))

pub without_head : (first : ℕ) (xs ys : List ℕ) → ys ≡ first ∷ xs → ((q : ℕ) → times_in ys q ≤ 1) → without first ys ≡ xs
without_head first xs ys e once = ap (without first) e ∙ without_first first xs (once_behind first xs (λ q. subst (λ zs. times_in zs q ≤ 1) e (once q))).0

pub once_listed : (next prev counts owners : List ℕ) (descs place : ℕ) → AreHeld next prev counts owners descs → place < length counts → (q : ℕ) → times_in (get_or (rings next descs counts) place []) q ≤ 1
once_listed next prev counts owners descs place a h = once_in next prev counts owners descs place a h

-- lists that were just made
pub held_new : (next prev counts owners : List ℕ) (descs apps places : ℕ) → next ≡ range_with_len 0 places → prev ≡ range_with_len 0 places → counts ≡ replicate apps 0 → owners ≡ replicate descs 0 → places ≡ descs + apps → places < 2 ^ 32
    → AreHeld next prev counts owners descs × (rings next descs counts ≡ replicate apps [])
held_new next prev counts owners descs apps places e_next e_prev e_counts e_owners e_places few =
    let long : length counts ≡ apps = ap length e_counts ∙ length-replicate {A = ℕ} apps 0 in
    let itself : (ls : List ℕ) → ls ≡ range_with_len 0 places → (q : ℕ) → q < places → get_or ls q 0 ≡ q = λ ls e q hq. ap (λ xs. get_or xs q 0) e ∙ (get_or-range_with_len 0 places q 0 hq ∙ from_none q) in
    let none : (i : ℕ) → i < apps → get_or (replicate apps []) i [] ≡ [] = λ i hi. get_or-replicate {A = List ℕ} apps i [] [] hi in
    let linked' : (i : ℕ) → i < length counts → Linked next prev (descs + i) (get_or (replicate apps []) i []) (descs + i) =
    λ i hi. subst (λ ys. Linked next prev (descs + i) ys (descs + i)) (sym (none i (omega (arith, hi, long)))) (itself next e_next (descs + i) (omega (arith, hi, long, e_places)), itself prev e_prev (descs + i) (omega (arith, hi, long, e_places))) in
    let counted' : (i : ℕ) → i < length counts → length (get_or (replicate apps []) i []) ≡ get_or counts i 0 =
    λ i hi. ap length (none i (omega (arith, hi, long))) ∙ sym (ap (λ xs. get_or xs i 0) e_counts ∙ get_or-replicate {A = ℕ} apps i 0 0 (omega (arith, hi, long))) in
    let after = rings_are next prev descs counts (replicate apps []) (length-replicate {A = List ℕ} apps [] ∙ sym long) linked' counted' in (
      record {
        next_all = ap length e_next ∙ (length-range_with_len 0 places ∙ (e_places ∙ ap (λ n. descs + n) (sym long)));
        prev_all = ap length e_prev ∙ (length-range_with_len 0 places ∙ (e_places ∙ ap (λ n. descs + n) (sym long)));
        few = omega (arith, long, e_places, few);
        owners_all = ap length e_owners ∙ length-replicate {A = ℕ} descs 0;
        linked = λ i hi. subst (λ ls. Linked next prev (descs + i) (get_or ls i []) (descs + i)) (sym after) (linked' i hi);
        counted = λ i hi. ap (λ ls. length (get_or ls i [])) after ∙ counted' i hi;
        owned = λ i q hi. ap (λ ls. times_in (get_or ls i []) q) after ∙ (ap (λ ys. times_in ys q) (none i (omega (arith, hi, long))) ∙ sym (nobody (get_or owners q 0) (free q) i));
      },
      after,
    )
  where
    nobody : (o : ℕ) → o ≡ 0 → (i : ℕ) → cond {A = ℕ} (eqb o (i + 1)) 1 0 ≡ 0
    nobody o e i = grind (arith, nat_tests)

    from_none : (n : ℕ) → 0 + n ≡ n
    from_none n = omega arith

    zero_at : (n q : ℕ) → get_or (replicate n 0) q 0 ≡ zero
    zero_at zero q = refl
    zero_at (suc n) zero = refl
    zero_at (suc n) (suc q) = zero_at n q

    free : (q : ℕ) → get_or owners q 0 ≡ 0
    free q = ap (λ xs. get_or xs q 0) e_owners ∙ zero_at descs q

-- an anchor or a listed descriptor has a link in both rows
place_inside : (next prev counts owners : List ℕ) (descs place q : ℕ) → AreHeld next prev counts owners descs → place < length counts → (q ≡ descs + place) ⊎ (0 < times_in (get_or (rings next descs counts) place []) q) → (q < length next) × (q < length prev)
place_inside next prev counts owners descs place q a h (inl e) = (omega (arith, e, h, a.next_all), omega (arith, e, h, a.prev_all))
place_inside next prev counts owners descs place q a h (inr some) = links_inside next prev counts owners descs place q a h some

pub first_inside : (next prev counts owners : List ℕ) (descs place first : ℕ) → AreHeld next prev counts owners descs → place < length counts → first ≡ get_or next (descs + place) 0 → first < length prev
first_inside next prev counts owners descs place first a h e =
    subst (λ q. q < length prev) (sym e)
    (place_inside next prev counts owners descs place (get_or next (descs + place) 0) a h (after_first next prev (descs + place) (get_or (rings next descs counts) place []) (descs + place) (a.linked place h))).1

pub before_inside : (next prev counts owners : List ℕ) (descs place d before : ℕ) → AreHeld next prev counts owners descs → place < length counts → 0 < times_in (get_or (rings next descs counts) place []) d → before ≡ get_or prev d 0 → before < length next
before_inside next prev counts owners descs place d before a h held e =
    subst (λ q. q < length next) (sym e)
    (place_inside next prev counts owners descs place (get_or prev d 0) a h (prev_in next prev (descs + place) (get_or (rings next descs counts) place []) (descs + place) d (a.linked place h) held)).0

pub behind_inside : (next prev counts owners : List ℕ) (descs place d behind : ℕ) → AreHeld next prev counts owners descs → place < length counts → 0 < times_in (get_or (rings next descs counts) place []) d → behind ≡ get_or next d 0 → behind < length prev
behind_inside next prev counts owners descs place d behind a h held e =
    subst (λ q. q < length prev) (sym e)
    (place_inside next prev counts owners descs place (get_or next d 0) a h (next_in next prev (descs + place) (get_or (rings next descs counts) place []) (descs + place) d (a.linked place h) held)).1

-- a list that holds something isn't counted as empty
pub some_counted : (next prev counts owners : List ℕ) (descs place d count : ℕ) → AreHeld next prev counts owners descs → place < length counts → 0 < times_in (get_or (rings next descs counts) place []) d → count ≡ get_or counts place 0 → 1 ≤ count
some_counted next prev counts owners descs place d count a h held e =
    omega (arith, held, count_by-le-length (λ n. eqb n d) (get_or (rings next descs counts) place []), a.counted place h, e)
