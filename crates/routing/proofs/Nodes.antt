-- The rings of the lists, and what a change of one of them leaves.
use Rattle.std.proofs.Common.{◌≡◌, ℕ, ◌+◌, ◌-◌, ◌*◌, ◌<◌, ◌≤◌, ◌⊎◌, inl, inr, zero, suc, Bool, true, false, cond, eqb, ltb, List, [], ◌∷◌, ◌++◌, length, get_or, set, refl, ap, sym, subst, ◌∙◌, arith}
use Rattle.std.specs.List.{sum_by}
use Rattle.std.proofs.lemmas.Bool.{cases_eq}
use Rattle.std.proofs.lemmas.Bool.Decides.{nat_tests}
use Rattle.std.proofs.lemmas.List.{length-set, get_or-set_same, get_or-set_other, same_lists, get_or_default}
use Rattle.std.proofs.lemmas.List.Sums.{sum_by-set, sum_by-cons}
use Rattle.bucket_list.specs.Lists.{Listed, listed_at, times_in, times}
use Rattle.bucket_list.specs.Chains.{chain}
use Rattle.bucket_list.proofs.Counts.{times_in-cons, times_in-le-times, times-set}
use Rattle.bucket_list.proofs.Chains.{length-chain}
use Rattle.subscriptions.specs.declared.words.SubNo.{SubNo}
use Rattle.routing.specs.Inside.{Linked, rings, last_of, place_before, made_before, AreRings, Takes}
use Rattle.routing.proofs.Links.{chain_linked, link_else, linked_back, last_in, last-back, Has, node_of, left_of, node_linked, node_in, before_in, linked_left, times-left, length-left, last-left}

-- as many rings as lengths, and each the chain behind its anchor
pub length-rings : (links : List ℕ) (anchor : ℕ) (lens : List ℕ) → length (rings links anchor lens) ≡ length lens
length-rings links anchor [] = refl
length-rings links anchor (len ∷ lens) = ap suc (length-rings links (anchor + 1) lens)

pub get_or-rings : (links : List ℕ) (anchor : ℕ) (lens : List ℕ) (list : ℕ) → list < length lens → get_or (rings links anchor lens) list [] ≡ chain links (get_or links (anchor + list) 0) (get_or lens list 0)
get_or-rings links anchor [] list h = absurd (omega (arith, h))
get_or-rings links anchor (len ∷ lens) zero h = ap (λ a. chain links (get_or links a 0) len) (add_none anchor)
  where
    add_none : (n : ℕ) → n ≡ n + zero
    add_none n = omega arith
get_or-rings links anchor (len ∷ lens) (suc list) h =
    get_or-rings links (anchor + 1) lens list (omega (arith, h)) ∙ ap (λ a. chain links (get_or links a 0) (get_or lens list 0)) (moved anchor list)
  where
    moved : (a p : ℕ) → a + 1 + p ≡ a + suc p
    moved a p = omega arith

pub length-ring : (links : List ℕ) (anchor : ℕ) (lens : List ℕ) (list : ℕ) → list < length lens → length (get_or (rings links anchor lens) list []) ≡ get_or lens list 0
length-ring links anchor lens list h = ap (λ xs. length xs) (get_or-rings links anchor lens list h) ∙ length-chain links (get_or links (anchor + list) 0) (get_or lens list 0)

-- lists that are rings round their anchors and have these lengths are the rings there
pub rings_are : (links : List ℕ) (nodes : ℕ) (lens : List ℕ) (lists : List (List ℕ)) → length lists ≡ length lens
    → ((list : ℕ) → list < length lens → Linked links (nodes + list) (get_or lists list []) (nodes + list))
    → ((list : ℕ) → list < length lens → length (get_or lists list []) ≡ get_or lens list 0)
    → rings links nodes lens ≡ lists
rings_are links nodes lens lists e linked counted =
    same_lists (rings links nodes lens) lists (length-rings links nodes lens ∙ sym e)
    (λ list d h. let within : list < length lens = omega (arith, h, length-rings links nodes lens) in
    get_or_default (rings links nodes lens) list d [] h
    ∙ (get_or-rings links nodes lens list within
    ∙ (ap (chain links (get_or links (nodes + list) 0)) (sym (counted list within))
    ∙ (chain_linked links (nodes + list) (get_or lists list []) (nodes + list) (linked list within)
    ∙ get_or_default lists list [] d (omega (arith, within, e))))))

at_list : (lists : List (List ℕ)) (list other : ℕ) (xs : List ℕ) → list < length lists → other ≡ list → get_or (set lists list xs) other [] ≡ xs
at_list lists list other xs h e = ap (λ i. get_or (set lists list xs) i []) e ∙ get_or-set_same lists list xs [] h

number_at : (numbers : List ℕ) (list other n : ℕ) → list < length numbers → other ≡ list → get_or (set numbers list n) other 0 ≡ n
number_at numbers list other n h e = ap (λ i. get_or (set numbers list n) i 0) e ∙ get_or-set_same numbers list n 0 h

-- what stands in one list stands at most that often less in another
pub two_lists : (lists : List (List ℕ)) (list other q : ℕ) → list < length lists → other < length lists → (other ≡ list → ⊥) → times_in (get_or lists list []) q + times_in (get_or lists other []) q ≤ times lists q
two_lists lists list other q h ho ne =
    let without = set lists list [] in
    omega (arith, times-set lists list [] q h, times_in-le-times without other q (omega (arith, ho, length-set lists list [])), ap (λ ys. times_in ys q) (get_or-set_other lists list other [] [] ne))

below_one : (nodes node : ℕ) → made_before nodes node ≤ 1
below_one nodes node = at_most (ltb node nodes)
  where
    at_most : (b : Bool) → cond {A = ℕ} b 1 0 ≤ 1
    at_most true = omega arith
    at_most false = omega arith

below_made : (nodes node : ℕ) → 0 < made_before nodes node → node < nodes
below_made nodes node h = grind (arith, nat_tests)

pub made_below : (nodes node : ℕ) → node < nodes → made_before nodes node ≡ 1
made_below nodes node h = grind (arith, nat_tests)

zero_or : (n : ℕ) → (0 < n → ⊥) → n ≡ 0
zero_or n none = grind arith

-- the nodes of one list
abbrev pub ring : List ℕ → ℕ → List ℕ → ℕ → List ℕ
ring links nodes lens list = get_or (rings links nodes lens) list []

module _ (links tails lens : List ℕ) (subs : List SubNo) (nodes limit : ℕ) (free : Listed) (a : AreRings links tails lens subs nodes limit free) where
  pub inside : (list : ℕ) → list < length lens → list < length (rings links nodes lens)
  inside list h = omega (arith, h, length-rings links nodes lens)

  pub once : (list : ℕ) → list < length lens → (q : ℕ) → times_in (ring links nodes lens list) q ≤ 1
  once list h q = omega (arith, times_in-le-times (rings links nodes lens) list q (inside list h), a.placed q, below_one free.nodes q)

  pub made_in : (list : ℕ) → list < length lens → (q : ℕ) → 0 < times_in (ring links nodes lens list) q → q < free.nodes
  made_in list h q some = below_made free.nodes q (omega (arith, some, times_in-le-times (rings links nodes lens) list q (inside list h), a.placed q))

  pub below : (list : ℕ) → list < length lens → (q : ℕ) → 0 < times_in (ring links nodes lens list) q → q < nodes
  below list h q some = omega (arith, made_in list h q some, a.free_made)

  pub in_links : (list : ℕ) → list < length lens → (q : ℕ) → 0 < times_in (ring links nodes lens list) q → q < length links
  in_links list h q some = omega (arith, below list h q some, a.links_all)

  pub no_anchor : (list : ℕ) → list < length lens → (q : ℕ) → nodes ≤ q → times_in (ring links nodes lens list) q ≡ 0
  no_anchor list h q past = zero_or (times_in (ring links nodes lens list) q) (λ some. omega (arith, below list h q some, past))

  pub elsewhere : (list other q : ℕ) → list < length lens → other < length lens → (other ≡ list → ⊥) → 0 < times_in (ring links nodes lens list) q → times_in (ring links nodes lens other) q ≡ 0
  elsewhere list other q h ho ne some =
      omega (arith, some, two_lists (rings links nodes lens) list other q (inside list h) (inside other ho) ne, a.placed q, below_one free.nodes q)

  -- a node that stands in a list isn't free
  pub not_free : (list q : ℕ) → list < length lens → 0 < times_in (ring links nodes lens list) q → times_in (listed_at free 0) q ≡ 0
  not_free list q h some = omega (arith, some, times_in-le-times (rings links nodes lens) list q (inside list h), a.placed q, below_one free.nodes q)

-- what a change of one list leaves
pub record Changed (links lens links' tails' lens' : List ℕ) (subs' : List SubNo) (nodes limit : ℕ) (free' : Listed) (list : ℕ) (xs : List ℕ) : Type 0 where
  pub kept : AreRings links' tails' lens' subs' nodes limit free'
  pub after : rings links' nodes lens' ≡ set (rings links nodes lens) list xs

pub changed : (links tails lens : List ℕ) (subs : List SubNo) (nodes limit : ℕ) (free : Listed) (links' tails' : List ℕ) (subs' : List SubNo) (free' : Listed) (list len : ℕ) (xs : List ℕ) → AreRings links tails lens subs nodes limit free → list < length lens
    → length links' ≡ length links → length tails' ≡ length tails → length subs' ≡ length subs → len ≡ length xs → length xs ≤ limit
    → Linked links' (nodes + list) xs (nodes + list)
    → ((i : ℕ) → i < length lens → (i ≡ list → ⊥) → Linked links' (nodes + i) (ring links nodes lens i) (nodes + i))
    → (0 < length xs → get_or tails' list 0 ≡ last_of (nodes + list) xs)
    → ((i : ℕ) → (i ≡ list → ⊥) → get_or tails' i 0 ≡ get_or tails i 0)
    → free'.room ≡ free.room → free'.nodes ≤ nodes → length free'.lists ≡ 1
    → ((q : ℕ) → times_in xs q + times_in (listed_at free' 0) q + made_before free.nodes q ≡ times_in (ring links nodes lens list) q + times_in (listed_at free 0) q + made_before free'.nodes q)
    → length xs + length (listed_at free' 0) + free.nodes ≡ length (ring links nodes lens list) + length (listed_at free 0) + free'.nodes
    → Changed links lens links' tails' (set lens list len) subs' nodes limit free' list xs
changed links tails lens subs nodes limit free links' tails' subs' free' list len xs a h e_links e_tails e_subs e_len few here others last lasts room made one placed' all' =
    let lists = rings links nodes lens in
    let lens' = set lens list len in
    let long : length lens' ≡ length lens = length-set lens list len in
    let within : list < length lists = omega (arith, h, length-rings links nodes lens) in
    let linked' : (i : ℕ) → i < length lens' → Linked links' (nodes + i) (get_or (set lists list xs) i []) (nodes + i) = λ i hi. linked_at i (omega (arith, hi, long)) within (cases_eq i list) in
    let after : rings links' nodes lens' ≡ set lists list xs =
    rings_are links' nodes lens' (set lists list xs) (length-set lists list xs ∙ (length-rings links nodes lens ∙ sym long)) linked' (λ i hi. counted_at i (omega (arith, hi, long)) within (cases_eq i list)) in
    record {
      kept = record {
        links_all = omega (arith, e_links, a.links_all, long);
        few = omega (arith, a.few, long);
        tails_all = omega (arith, e_tails, a.tails_all, long);
        subs_all = omega (arith, e_subs, a.subs_all);
        room = a.room ∙ ap (λ n. n * limit) (sym long);
        free_room = room ∙ a.free_room;
        free_made = made;
        free_one = one;
        linked = λ i hi. subst (λ ls. Linked links' (nodes + i) (get_or ls i []) (nodes + i)) (sym after) (linked' i hi);
        tailed = λ i hi some. subst (λ ls. get_or tails' i 0 ≡ last_of (nodes + i) (get_or ls i [])) (sym after) (tailed_at i (omega (arith, hi, long)) within (cases_eq i list) some);
        within = λ i hi. within_at i (omega (arith, hi, long)) (cases_eq i list);
        placed = λ q. omega (arith, ap (λ ls. times ls q) after, times-set lists list xs q within, a.placed q, placed' q);
        all = omega (arith, ap (λ ls. sum_by (λ ns. length ns) ls) after, sum_by-set (λ (ns : List ℕ). length ns) lists list xs [] within, a.all, all');
      };
      after = after;
    }
  where
    linked_at : (i : ℕ) → i < length lens → list < length (rings links nodes lens) → (i ≡ list) ⊎ (i ≡ list → ⊥) → Linked links' (nodes + i) (get_or (set (rings links nodes lens) list xs) i []) (nodes + i)
    linked_at i hi within (inl e) =
        subst (λ ys. Linked links' (nodes + i) ys (nodes + i)) (sym (at_list (rings links nodes lens) list i xs within e))
        (subst (λ j. Linked links' (nodes + j) xs (nodes + j)) (sym e) here)
    linked_at i hi within (inr ne) =
        subst (λ ys. Linked links' (nodes + i) ys (nodes + i)) (sym (get_or-set_other (rings links nodes lens) list i xs [] ne)) (others i hi ne)

    counted_at : (i : ℕ) → i < length lens → list < length (rings links nodes lens) → (i ≡ list) ⊎ (i ≡ list → ⊥) → length (get_or (set (rings links nodes lens) list xs) i []) ≡ get_or (set lens list len) i 0
    counted_at i hi within (inl e) = ap (λ ys. length ys) (at_list (rings links nodes lens) list i xs within e) ∙ (sym e_len ∙ sym (number_at lens list i len h e))
    counted_at i hi within (inr ne) =
        ap (λ ys. length ys) (get_or-set_other (rings links nodes lens) list i xs [] ne) ∙ (length-ring links nodes lens i hi ∙ sym (get_or-set_other lens list i len 0 ne))

    tailed_at : (i : ℕ) → i < length lens → list < length (rings links nodes lens) → (i ≡ list) ⊎ (i ≡ list → ⊥) → 0 < get_or (set lens list len) i 0 → get_or tails' i 0 ≡ last_of (nodes + i) (get_or (set (rings links nodes lens) list xs) i [])
    tailed_at i hi within (inl e) some =
        ap (λ j. get_or tails' j 0) e ∙ (last (omega (arith, some, number_at lens list i len h e, e_len))
        ∙ (ap (λ j. last_of (nodes + j) xs) (sym e) ∙ ap (last_of (nodes + i)) (sym (at_list (rings links nodes lens) list i xs within e))))
    tailed_at i hi within (inr ne) some =
        lasts i ne ∙ (a.tailed i hi (omega (arith, some, get_or-set_other lens list i len 0 ne)) ∙ ap (last_of (nodes + i)) (sym (get_or-set_other (rings links nodes lens) list i xs [] ne)))

    within_at : (i : ℕ) → i < length lens → (i ≡ list) ⊎ (i ≡ list → ⊥) → get_or (set lens list len) i 0 ≤ limit
    within_at i hi (inl e) = omega (arith, number_at lens list i len h e, e_len, few)
    within_at i hi (inr ne) = omega (arith, get_or-set_other lens list i len 0 ne, a.within i hi)

-- A destination more. --

times-back : (xs : List ℕ) (d q : ℕ) → times_in (xs ++ d ∷ []) q ≡ times_in xs q + cond (eqb d q) 1 0
times-back [] d q = times_in-cons d [] q ∙ none (cond (eqb d q) 1 0)
  where
    none : (n : ℕ) → n + 0 ≡ 0 + n
    none n = omega arith
times-back (x ∷ xs) d q = omega (arith, times_in-cons x (xs ++ d ∷ []) q, times_in-cons x xs q, times-back xs d q)

length-back : (xs : List ℕ) (d : ℕ) → length (xs ++ d ∷ []) ≡ length xs + 1
length-back [] d = refl
length-back (x ∷ xs) d = omega (arith, length-back xs d)

last_cases : (from : ℕ) (xs : List ℕ) → (last_of from xs ≡ from) ⊎ (0 < times_in xs (last_of from xs))
last_cases from [] = inl refl
last_cases from (x ∷ xs) = inr (last_in x xs)

-- a node that was taken stands in no list
pub taken_loose : (links tails lens : List ℕ) (subs : List SubNo) (nodes limit : ℕ) (free free' : Listed) (node : ℕ) → AreRings links tails lens subs nodes limit free → Takes free free' node → times (rings links nodes lens) node ≡ 0
taken_loose links tails lens subs nodes limit free free' node a t =
    omega (arith, a.placed node, t.taken node, same node, below_one free'.nodes node)
  where
    same : (n : ℕ) → cond {A = ℕ} (eqb n n) 1 0 ≡ 1
    same n = grind (arith, nat_tests)

pub adds : (links links1 links2 tails tails' lens : List ℕ) (subs subs' : List SubNo) (nodes limit : ℕ) (free free' : Listed) (list node last anchor len : ℕ) → AreRings links tails lens subs nodes limit free → list < length lens
    → len ≡ get_or lens list 0 → len < limit → Takes free free' node → anchor ≡ nodes + list → last ≡ cond (eqb len 0) anchor (get_or tails list 0)
    → links1 ≡ set links node anchor → links2 ≡ set links1 last node → tails' ≡ set tails list node → length subs' ≡ length subs
    → Changed links lens links2 tails' (set lens list (len + 1)) subs' nodes limit free' list (ring links nodes lens list ++ node ∷ [])
adds links links1 links2 tails tails' lens subs subs' nodes limit free free' list node last anchor len a h e_len few t e_anchor e_last e_links1 e_links2 e_tails e_subs =
    let xs = ring links nodes lens list in
    let to = nodes + list in
    let long : length xs ≡ len = length-ring links nodes lens list h ∙ sym e_len in
    let loose = taken_loose links tails lens subs nodes limit free free' node a t in
    let out : (i : ℕ) → i < length lens → times_in (ring links nodes lens i) node ≡ 0 = λ i hi. omega (arith, loose, times_in-le-times (rings links nodes lens) i node (inside links tails lens subs nodes limit free a i hi)) in
    let low : node < nodes = omega (arith, t.exists, t.made, a.free_room) in
    let last_is : last ≡ last_of to xs = e_last ∙ (ap (λ n. cond (eqb len 0) n (get_or tails list 0)) e_anchor ∙ last_read xs len long (λ some. a.tailed list h (omega (arith, some, e_len)))) in
    let links_is : links2 ≡ set (set links node to) (last_of to xs) node = e_links2 ∙ (ap (λ p. set links1 p node) last_is ∙ ap (λ ls. set ls (last_of to xs) node) (e_links1 ∙ ap (set links node) e_anchor)) in
    changed links tails lens subs nodes limit free links2 tails' subs' free' list (len + 1) (xs ++ node ∷ []) a h
    (ap (λ ls. length ls) links_is ∙ (length-set (set links node to) (last_of to xs) node ∙ length-set links node to))
    (ap (λ ls. length ls) e_tails ∙ length-set tails list node)
    e_subs
    (omega (arith, length-back xs node, long))
    (omega (arith, length-back xs node, long, few))
    (subst (λ ls. Linked ls to (xs ++ node ∷ []) to) (sym links_is)
    (linked_back links to xs to node (a.linked list h) (once links tails lens subs nodes limit free a list h) (no_anchor links tails lens subs nodes limit free a list h to (omega arith)) (out list h) (λ e. omega (arith, e, low))
    (omega (arith, low, a.links_all)) (omega (arith, h, a.links_all)) (in_links links tails lens subs nodes limit free a list h)))
    (λ i hi ne. subst (λ ls. Linked ls (nodes + i) (ring links nodes lens i) (nodes + i)) (sym links_is)
    (apart_from i hi ne low (out i hi) (last_cases to xs)))
    (λ some. ap (λ ls. get_or ls list 0) e_tails ∙ (get_or-set_same tails list node 0 (omega (arith, h, a.tails_all)) ∙ sym (last-back to xs node)))
    (λ i ne. ap (λ ls. get_or ls i 0) e_tails ∙ get_or-set_other tails list i node 0 ne)
    t.room
    (omega (arith, t.made, a.free_room))
    t.one
    (λ q. omega (arith, times-back xs node q, t.taken q))
    (omega (arith, length-back xs node, t.fewer))
  where
    last_read : (xs : List ℕ) (n : ℕ) → length xs ≡ n → (0 < n → get_or tails list 0 ≡ last_of (nodes + list) xs) → cond (eqb n 0) (nodes + list) (get_or tails list 0) ≡ last_of (nodes + list) xs
    last_read [] n e noted = ap (λ m. cond (eqb m 0) (nodes + list) (get_or tails list 0)) (sym e)
    last_read (x ∷ xs) n e noted = ap (λ b. cond b (nodes + list) (get_or tails list 0)) (some n (omega (arith, e))) ∙ noted (omega (arith, e))
      where
        some : (m : ℕ) → 0 < m → eqb m 0 ≡ false
        some m h' = grind (arith, nat_tests)

    apart_from : (i : ℕ) → i < length lens → (i ≡ list → ⊥) → node < nodes → times_in (ring links nodes lens i) node ≡ 0
        → (last_of (nodes + list) (ring links nodes lens list) ≡ nodes + list) ⊎ (0 < times_in (ring links nodes lens list) (last_of (nodes + list) (ring links nodes lens list)))
        → Linked (set (set links node (nodes + list)) (last_of (nodes + list) (ring links nodes lens list)) node) (nodes + i) (ring links nodes lens i) (nodes + i)
    apart_from i hi ne low none at =
        link_else (set links node (nodes + list)) (nodes + i) (ring links nodes lens i) (nodes + i) (last_of (nodes + list) (ring links nodes lens list)) node
        (link_else links (nodes + i) (ring links nodes lens i) (nodes + i) node (nodes + list) (a.linked i hi) (λ e. omega (arith, e, low)) none)
        (not_anchor at) (not_here at)
      where
        not_anchor : (last_of (nodes + list) (ring links nodes lens list) ≡ nodes + list) ⊎ (0 < times_in (ring links nodes lens list) (last_of (nodes + list) (ring links nodes lens list))) → nodes + i ≡ last_of (nodes + list) (ring links nodes lens list) → ⊥
        not_anchor (inl e) same = ne (omega (arith, e, same))
        not_anchor (inr some) same = absurd (omega (arith, same, below links tails lens subs nodes limit free a list h (last_of (nodes + list) (ring links nodes lens list)) some))

        not_here : (last_of (nodes + list) (ring links nodes lens list) ≡ nodes + list) ⊎ (0 < times_in (ring links nodes lens list) (last_of (nodes + list) (ring links nodes lens list))) → times_in (ring links nodes lens i) (last_of (nodes + list) (ring links nodes lens list)) ≡ 0
        not_here (inl e) = no_anchor links tails lens subs nodes limit free a i hi (last_of (nodes + list) (ring links nodes lens list)) (omega (arith, e))
        not_here (inr some) = elsewhere links tails lens subs nodes limit free a list i (last_of (nodes + list) (ring links nodes lens list)) h hi ne some

-- A destination fewer. --

pub ring_chain : (links : List ℕ) (nodes : ℕ) (lens : List ℕ) (list anchor len : ℕ) → list < length lens → len ≡ get_or lens list 0 → anchor ≡ nodes + list → chain links (get_or links anchor 0) len ≡ ring links nodes lens list
ring_chain links nodes lens list anchor len h e_len e_anchor =
    ap (chain links (get_or links anchor 0)) e_len ∙ (ap (λ a. chain links (get_or links a 0) (get_or lens list 0)) e_anchor ∙ sym (get_or-rings links nodes lens list h))

-- the node that goes exists, isn't among the free ones and has a place before it
pub record Removed (links lens : List ℕ) (free : Listed) (list before node : ℕ) : Type 0 where
  pub before_in : before < length links
  pub node_in : node < length links
  pub some : 0 < get_or lens list 0
  pub made : node < free.nodes
  pub loose : times free.lists node ≡ 0

pub removed : (links tails lens : List ℕ) (subs : List SubNo) (nodes limit : ℕ) (free : Listed) (list : ℕ) (sub : SubNo) (before node anchor : ℕ) → AreRings links tails lens subs nodes limit free → list < length lens → Has subs sub (ring links nodes lens list)
    → anchor ≡ nodes + list → before ≡ place_before subs sub anchor (ring links nodes lens list) → node ≡ get_or links before 0
    → Removed links lens free list before node
removed links tails lens subs nodes limit free list sub before node anchor a h has e_anchor e_before e_node =
    let xs = ring links nodes lens list in
    let before_is : before ≡ place_before subs sub (nodes + list) xs = e_before ∙ ap (λ n. place_before subs sub n xs) e_anchor in
    let node_is : node ≡ node_of subs sub xs = e_node ∙ (ap (λ p. get_or links p 0) before_is ∙ node_linked subs sub links (nodes + list) xs (nodes + list) (a.linked list h) has) in
    let there : 0 < times_in xs node = subst (λ n. 0 < times_in xs n) (sym node_is) (node_in subs sub xs has) in
    record {
      before_in = at before_is (before_in subs sub (nodes + list) xs);
      node_in = in_links links tails lens subs nodes limit free a list h node there;
      some = omega (arith, length-left subs sub xs has, length-ring links nodes lens list h);
      made = made_in links tails lens subs nodes limit free a list h node there;
      loose = one_list free.lists a.free_one (not_free links tails lens subs nodes limit free a list node h there);
    }
  where
    at : before ≡ place_before subs sub (nodes + list) (ring links nodes lens list) → (place_before subs sub (nodes + list) (ring links nodes lens list) ≡ nodes + list) ⊎ (0 < times_in (ring links nodes lens list) (place_before subs sub (nodes + list) (ring links nodes lens list))) → before < length links
    at e (inl same) = omega (arith, e, same, h, a.links_all)
    at e (inr some) = omega (arith, e, in_links links tails lens subs nodes limit free a list h (place_before subs sub (nodes + list) (ring links nodes lens list)) some)

    one_list : (ls : List (List ℕ)) → length ls ≡ 1 → times_in (get_or ls 0 []) node ≡ 0 → times ls node ≡ 0
    one_list [] e none = absurd (omega (arith, e))
    one_list (ns ∷ []) e none = omega (arith, none, sum_by-cons (λ ms. times_in ms node) ns [])
    one_list (ns ∷ ms ∷ ls) e none = absurd (omega (arith, e))

pub removes : (links links' tails tails' lens : List ℕ) (subs : List SubNo) (nodes limit : ℕ) (free free' : Listed) (list : ℕ) (sub : SubNo) (before node behind anchor len : ℕ) → AreRings links tails lens subs nodes limit free → list < length lens
    → len ≡ get_or lens list 0 → Has subs sub (ring links nodes lens list) → anchor ≡ nodes + list → before ≡ place_before subs sub anchor (ring links nodes lens list) → node ≡ get_or links before 0 → behind ≡ get_or links node 0
    → links' ≡ set links before behind → tails' ≡ cond (eqb behind anchor) (set tails list before) tails
    → free'.room ≡ free.room → free'.nodes ≡ free.nodes → free'.lists ≡ set free.lists 0 (node ∷ listed_at free 0)
    → Changed links lens links' tails' (set lens list (len - 1)) subs nodes limit free' list (left_of subs sub (ring links nodes lens list))
removes links links' tails tails' lens subs nodes limit free free' list sub before node behind anchor len a h e_len has e_anchor e_before e_node e_behind e_links e_tails e_room e_made e_free =
    let xs = ring links nodes lens list in
    let to = nodes + list in
    let long : length xs ≡ len = length-ring links nodes lens list h ∙ sym e_len in
    let before_is : before ≡ place_before subs sub to xs = e_before ∙ ap (λ n. place_before subs sub n xs) e_anchor in
    let node_is : node ≡ node_of subs sub xs = e_node ∙ (ap (λ p. get_or links p 0) before_is ∙ node_linked subs sub links to xs to (a.linked list h) has) in
    let behind_is : behind ≡ get_or links (node_of subs sub xs) 0 = e_behind ∙ ap (λ n. get_or links n 0) node_is in
    let links_is : links' ≡ set links (place_before subs sub to xs) (get_or links (node_of subs sub xs) 0) = e_links ∙ (ap (λ p. set links p behind) before_is ∙ ap (set links (place_before subs sub to xs)) behind_is) in
    let listed' : listed_at free' 0 ≡ node ∷ listed_at free 0 = ap (λ ls. get_or ls 0 []) e_free ∙ get_or-set_same free.lists 0 (node ∷ listed_at free 0) [] (omega (arith, a.free_one)) in
    let fewer = length-left subs sub xs has in
    changed links tails lens subs nodes limit free links' tails' subs free' list (len - 1) (left_of subs sub xs) a h
    (ap (λ ls. length ls) links_is ∙ length-set links (place_before subs sub to xs) (get_or links (node_of subs sub xs) 0))
    (tails_long (eqb behind anchor) e_tails)
    refl
    (omega (arith, fewer, long))
    (omega (arith, fewer, long, a.within list h, e_len))
    (subst (λ ls. Linked ls to (left_of subs sub xs) to) (sym links_is)
    (linked_left subs sub links to xs to (a.linked list h) has (once links tails lens subs nodes limit free a list h) (no_anchor links tails lens subs nodes limit free a list h to (omega arith)) (omega (arith, h, a.links_all)) (in_links links tails lens subs nodes limit free a list h)))
    (λ i hi ne. subst (λ ls. Linked ls (nodes + i) (ring links nodes lens i) (nodes + i)) (sym links_is) (apart_from i hi ne (before_in subs sub to xs)))
    (λ some. tail_read (a.tailed list h (omega (arith, fewer, long, e_len)))
    (last-left subs sub links to xs to (a.linked list h) has (no_anchor links tails lens subs nodes limit free a list h to (omega arith))) before_is behind_is)
    (λ i ne. tails_else i ne (eqb behind anchor) e_tails)
    e_room
    (omega (arith, e_made, a.free_made))
    (ap (λ ls. length ls) e_free ∙ (length-set free.lists 0 (node ∷ listed_at free 0) ∙ a.free_one))
    (λ q. omega (arith, times-left subs sub xs q has, ap (λ ns. times_in ns q) listed', times_in-cons node (listed_at free 0) q, ap (λ n. cond {A = ℕ} (eqb n q) 1 0) node_is, ap (λ n. made_before n q) e_made))
    (omega (arith, fewer, ap (λ ns. length ns) listed', e_made))
  where
    tails_long : (b : Bool) → tails' ≡ cond b (set tails list before) tails → length tails' ≡ length tails
    tails_long true e = ap (λ ls. length ls) e ∙ length-set tails list before
    tails_long false e = ap (λ ls. length ls) e

    tails_else : (i : ℕ) → (i ≡ list → ⊥) → (b : Bool) → tails' ≡ cond b (set tails list before) tails → get_or tails' i 0 ≡ get_or tails i 0
    tails_else i ne true e = ap (λ ls. get_or ls i 0) e ∙ get_or-set_other tails list i before 0 ne
    tails_else i ne false e = ap (λ ls. get_or ls i 0) e

    tail_read : get_or tails list 0 ≡ last_of (nodes + list) (ring links nodes lens list)
        → last_of (nodes + list) (left_of subs sub (ring links nodes lens list)) ≡ cond (eqb (get_or links (node_of subs sub (ring links nodes lens list)) 0) (nodes + list)) (place_before subs sub (nodes + list) (ring links nodes lens list)) (last_of (nodes + list) (ring links nodes lens list))
        → before ≡ place_before subs sub (nodes + list) (ring links nodes lens list) → behind ≡ get_or links (node_of subs sub (ring links nodes lens list)) 0
        → get_or tails' list 0 ≡ last_of (nodes + list) (left_of subs sub (ring links nodes lens list))
    tail_read noted last before_is behind_is =
        ap (λ ls. get_or ls list 0) e_tails ∙ (read_either (eqb behind anchor)
        ∙ (ap (λ n. cond (eqb behind n) before (last_of (nodes + list) (ring links nodes lens list))) e_anchor
        ∙ (ap (λ n. cond (eqb n (nodes + list)) before (last_of (nodes + list) (ring links nodes lens list))) behind_is
        ∙ (ap (λ n. cond (eqb (get_or links (node_of subs sub (ring links nodes lens list)) 0) (nodes + list)) n (last_of (nodes + list) (ring links nodes lens list))) before_is
        ∙ sym last))))
      where
        read_either : (b : Bool) → get_or (cond b (set tails list before) tails) list 0 ≡ cond b before (last_of (nodes + list) (ring links nodes lens list))
        read_either true = get_or-set_same tails list before 0 (omega (arith, h, a.tails_all))
        read_either false = noted

    apart_from : (i : ℕ) → i < length lens → (i ≡ list → ⊥)
        → (place_before subs sub (nodes + list) (ring links nodes lens list) ≡ nodes + list) ⊎ (0 < times_in (ring links nodes lens list) (place_before subs sub (nodes + list) (ring links nodes lens list)))
        → Linked (set links (place_before subs sub (nodes + list) (ring links nodes lens list)) (get_or links (node_of subs sub (ring links nodes lens list)) 0)) (nodes + i) (ring links nodes lens i) (nodes + i)
    apart_from i hi ne at =
        link_else links (nodes + i) (ring links nodes lens i) (nodes + i) (place_before subs sub (nodes + list) (ring links nodes lens list)) (get_or links (node_of subs sub (ring links nodes lens list)) 0) (a.linked i hi)
        (not_anchor at) (not_here at)
      where
        not_anchor : (place_before subs sub (nodes + list) (ring links nodes lens list) ≡ nodes + list) ⊎ (0 < times_in (ring links nodes lens list) (place_before subs sub (nodes + list) (ring links nodes lens list))) → nodes + i ≡ place_before subs sub (nodes + list) (ring links nodes lens list) → ⊥
        not_anchor (inl e) same = ne (omega (arith, e, same))
        not_anchor (inr some) same = absurd (omega (arith, same, below links tails lens subs nodes limit free a list h (place_before subs sub (nodes + list) (ring links nodes lens list)) some))

        not_here : (place_before subs sub (nodes + list) (ring links nodes lens list) ≡ nodes + list) ⊎ (0 < times_in (ring links nodes lens list) (place_before subs sub (nodes + list) (ring links nodes lens list))) → times_in (ring links nodes lens i) (place_before subs sub (nodes + list) (ring links nodes lens list)) ≡ 0
        not_here (inl e) = no_anchor links tails lens subs nodes limit free a i hi (place_before subs sub (nodes + list) (ring links nodes lens list)) (omega (arith, e))
        not_here (inr some) = elsewhere links tails lens subs nodes limit free a list i (place_before subs sub (nodes + list) (ring links nodes lens list)) h hi ne some

-- the last place of a list has a link
pub last_inside : (links tails lens : List ℕ) (subs : List SubNo) (nodes limit : ℕ) (free : Listed) (list last anchor len : ℕ) → AreRings links tails lens subs nodes limit free → list < length lens → len ≡ get_or lens list 0 → anchor ≡ nodes + list → last ≡ cond (eqb len 0) anchor (get_or tails list 0) → last < length links
last_inside links tails lens subs nodes limit free list last anchor len a h e_len e_anchor e_last = by_length (eqb len 0) refl
  where
    at : (last_of (nodes + list) (ring links nodes lens list) ≡ nodes + list) ⊎ (0 < times_in (ring links nodes lens list) (last_of (nodes + list) (ring links nodes lens list))) → last_of (nodes + list) (ring links nodes lens list) < length links
    at (inl e) = omega (arith, e, h, a.links_all)
    at (inr some) = in_links links tails lens subs nodes limit free a list h (last_of (nodes + list) (ring links nodes lens list)) some

    some_long : eqb len 0 ≡ false → 0 < len
    some_long e = grind (arith, nat_tests)

    by_length : (b : Bool) → eqb len 0 ≡ b → last < length links
    by_length true e = omega (arith, e_last ∙ ap (λ c. cond c anchor (get_or tails list 0)) e, e_anchor, h, a.links_all)
    by_length false e =
        omega (arith, e_last ∙ ap (λ c. cond c anchor (get_or tails list 0)) e, a.tailed list h (omega (arith, some_long e, e_len)), at (last_cases (nodes + list) (ring links nodes lens list)))
