-- The invariant of the lists, kept by a push and a pop, and what they leave.
use Rattle.std.proofs.Common.{◌≡◌, ◌+◌, ◌-◌, ◌<◌, ◌≤◌, ◌^◌, ℕ, zero, suc, cond, eqb, List, [], ◌∷◌, ◌++◌, length, get_or, set, drop, replicate, refl, sym, ap, subst, ◌∙◌, arith}
use Rattle.std.proofs.lemmas.List.{length-set, get_or-set_same, length-append}
use Rattle.std.proofs.lemmas.Bool.Decides.{nat_tests}
use Rattle.bucket_list.specs.Lists.{times_in, times}
use Rattle.bucket_list.specs.Chains.{chain}
use Rattle.bucket_list.specs.Inside.{chains, AreLinked}
use Rattle.bucket_list.proofs.Counts.{times_push, times_pop, times_in-le-times, length_few}
use Rattle.bucket_list.proofs.Chains.{length-chain, length-chains, get_or-chains, chains-set, chain-set, chains-set_link, chains-more}

pub count_few : (links heads counts : List ℕ) (nodes list : ℕ) → AreLinked links heads counts nodes → list < length heads → get_or counts list 0 ≤ nodes
count_few links heads counts nodes list a h =
    let here = get_or-chains links heads counts list a.heads_all h in
    let inside : list < length (chains links heads counts) = omega (arith, length-chains links heads counts a.heads_all) in
    let few = length_few (get_or (chains links heads counts) list []) nodes
    (λ k. omega (arith, times_in-le-times (chains links heads counts) list k inside, a.once k))
    (λ k le. omega (arith, times_in-le-times (chains links heads counts) list k inside, a.exist k le)) in
    omega (arith, few, ap length here, length-chain links (get_or heads list 0) (get_or counts list 0))

-- what a push leaves
pub chains-push : (links heads counts : List ℕ) (list node : ℕ) → length heads ≡ length counts → list < length heads → node < length links → times (chains links heads counts) node ≡ 0
    → chains (set links node (get_or heads list 0)) (set heads list node) (set counts list (get_or counts list 0 + 1)) ≡ set (chains links heads counts) list (node ∷ get_or (chains links heads counts) list [])
chains-push links heads counts list node e h within loose =
    let behind = get_or heads list 0 in
    let count = get_or counts list 0 in
    let inside : list < length (chains links heads counts) = omega (arith, length-chains links heads counts e) in
    let here = get_or-chains links heads counts list e h in
    let out : times_in (chain links behind count) node ≡ 0 = omega (arith, times_in-le-times (chains links heads counts) list node inside, ap (λ ns. times_in ns node) here) in
    let first : chain (set links node behind) node (count + 1) ≡ node ∷ chain links behind count =
    ap (λ n. chain (set links node behind) node n) (one_more count)
    ∙ (ap (λ x. node ∷ chain (set links node behind) x count) (get_or-set_same links node behind 0 within)
    ∙ ap (λ ns. node ∷ ns) (chain-set links behind count node behind out)) in
    chains-set (set links node behind) heads counts list node (count + 1) e h
    ∙ (ap (λ xs. set xs list (chain (set links node behind) node (count + 1))) (chains-set_link links heads counts node behind loose)
    ∙ (ap (λ ns. set (chains links heads counts) list ns) first
    ∙ ap (λ ns. set (chains links heads counts) list (node ∷ ns)) (sym here)))
  where
    one_more : (n : ℕ) → n + 1 ≡ suc n
    one_more n = omega arith

pub linked-push : (links heads counts : List ℕ) (nodes list node : ℕ) → AreLinked links heads counts nodes → list < length heads → node < nodes → times (chains links heads counts) node ≡ 0
    → AreLinked (set links node (get_or heads list 0)) (set heads list node) (set counts list (get_or counts list 0 + 1)) nodes
linked-push links heads counts nodes list node a h within loose =
    let e = chains-push links heads counts list node a.heads_all h (omega (arith, a.links_all)) loose in
    let inside : list < length (chains links heads counts) = omega (arith, length-chains links heads counts a.heads_all) in
    let now : (k : ℕ) → times (chains (set links node (get_or heads list 0)) (set heads list node) (set counts list (get_or counts list 0 + 1))) k ≡ cond (eqb node k) 1 0 + times (chains links heads counts) k =
    λ k. ap (λ xs. times xs k) e ∙ times_push (chains links heads counts) list node k inside in
    record {
      heads_all = length-set heads list node ∙ (a.heads_all ∙ sym (length-set counts list (get_or counts list 0 + 1)));
      links_all = omega (arith, a.links_all, length-set links node (get_or heads list 0));
      links_few = omega (arith, a.links_few, length-set links node (get_or heads list 0));
      once = λ k. once_more (times (chains links heads counts)) node k _ (now k) loose (a.once k);
      exist = λ k le. not_there (times (chains links heads counts)) node k _ (now k) (omega arith) (a.exist k le);
    }
  where
    once_more : (before : ℕ → ℕ) (node k after : ℕ) → after ≡ cond (eqb node k) 1 0 + before k → before node ≡ 0 → before k ≤ 1 → after ≤ 1
    once_more before node k after e loose once = grind (arith, nat_tests)

    not_there : (before : ℕ → ℕ) (node k after : ℕ) → after ≡ cond (eqb node k) 1 0 + before k → node < k → before k ≡ 0 → after ≡ 0
    not_there before node k after e below none = grind (arith, nat_tests)

-- what a pop leaves
pub chains-pop : (links heads counts : List ℕ) (list : ℕ) → length heads ≡ length counts → list < length heads → 0 < get_or counts list 0
    → get_or (chains links heads counts) list [] ≡ get_or heads list 0 ∷ chain links (get_or links (get_or heads list 0) 0) (get_or counts list 0 - 1)
chains-pop links heads counts list e h some =
    get_or-chains links heads counts list e h ∙ ap (λ n. chain links (get_or heads list 0) n) one
  where
    one : get_or counts list 0 ≡ suc (get_or counts list 0 - 1)
    one = omega (arith, some)

pub chains_popped : (links heads counts : List ℕ) (list : ℕ) → length heads ≡ length counts → list < length heads → 0 < get_or counts list 0
    → chains links (set heads list (get_or links (get_or heads list 0) 0)) (set counts list (get_or counts list 0 - 1)) ≡ set (chains links heads counts) list (drop 1 (get_or (chains links heads counts) list []))
chains_popped links heads counts list e h some =
    chains-set links heads counts list (get_or links (get_or heads list 0) 0) (get_or counts list 0 - 1) e h
    ∙ ap (λ ns. set (chains links heads counts) list (drop 1 ns)) (sym (chains-pop links heads counts list e h some))

times_popped : (links heads counts : List ℕ) (list k : ℕ) → length heads ≡ length counts → list < length heads → 0 < get_or counts list 0
    → times (chains links (set heads list (get_or links (get_or heads list 0) 0)) (set counts list (get_or counts list 0 - 1))) k + cond (eqb (get_or heads list 0) k) 1 0 ≡ times (chains links heads counts) k
times_popped links heads counts list k e h some =
    let inside : list < length (chains links heads counts) = omega (arith, length-chains links heads counts e) in
    ap (λ xs. times xs k + cond (eqb (get_or heads list 0) k) 1 0) (chains-set links heads counts list (get_or links (get_or heads list 0) 0) (get_or counts list 0 - 1) e h)
    ∙ times_pop (chains links heads counts) list (get_or heads list 0) (chain links (get_or links (get_or heads list 0) 0) (get_or counts list 0 - 1)) k inside (chains-pop links heads counts list e h some)

pub linked-pop : (links heads counts : List ℕ) (nodes list : ℕ) → AreLinked links heads counts nodes → list < length heads → 0 < get_or counts list 0
    → AreLinked links (set heads list (get_or links (get_or heads list 0) 0)) (set counts list (get_or counts list 0 - 1)) nodes
linked-pop links heads counts nodes list a h some = record {
  heads_all = length-set heads list (get_or links (get_or heads list 0) 0) ∙ (a.heads_all ∙ sym (length-set counts list (get_or counts list 0 - 1)));
  links_all = a.links_all;
  links_few = a.links_few;
  once = λ k. omega (arith, times_popped links heads counts list k a.heads_all h some, a.once k);
  exist = λ k le. omega (arith, times_popped links heads counts list k a.heads_all h some, a.exist k le);
}

-- what a pop of a list that isn't empty leaves: its front node is `node`, `behind` is linked behind it
pub record Pops (links heads heads' counts counts' : List ℕ) (nodes list node : ℕ) : Type 0 where
  pub linked : AreLinked links heads' counts' nodes
  pub after : chains links heads' counts' ≡ set (chains links heads counts) list (drop 1 (get_or (chains links heads counts) list []))
  pub front : get_or (chains links heads counts) list [] ≡ node ∷ get_or (chains links heads' counts') list []
  pub loose : times (chains links heads' counts') node ≡ 0
  pub exists : node < nodes

is_below : (node nodes t : ℕ) → (nodes ≤ node → t ≡ 0) → 0 < t → node < nodes
is_below node nodes t none some = grind arith

here_once : (node : ℕ) → suc zero ≡ cond (eqb node node) 1 0
here_once node = grind (arith, nat_tests)

pops : (links heads counts : List ℕ) (nodes list : ℕ) → AreLinked links heads counts nodes → list < length heads → 0 < get_or counts list 0
    → Pops links heads (set heads list (get_or links (get_or heads list 0) 0)) counts (set counts list (get_or counts list 0 - 1)) nodes list (get_or heads list 0)
pops links heads counts nodes list a h some =
    let node = get_or heads list 0 in
    let t = times_popped links heads counts list node a.heads_all h some in
    let one = here_once node in
    let after = chains_popped links heads counts list a.heads_all h some in
    let inside : list < length (chains links heads counts) = omega (arith, length-chains links heads counts a.heads_all) in
    let here = chains-pop links heads counts list a.heads_all h some in
    record {
      linked = linked-pop links heads counts nodes list a h some;
      after = after;
      front = here ∙ ap (λ ns. node ∷ ns) (sym (ap (λ xs. get_or xs list []) after ∙ (get_or-set_same (chains links heads counts) list (drop 1 (get_or (chains links heads counts) list [])) [] inside ∙ ap (drop 1) here)));
      loose = omega (arith, t, one, a.once node);
      exists = is_below node nodes (times (chains links heads counts) node) (a.exist node) (omega (arith, t, one));
    }

-- the same, at what the code read and wrote
pub pops_read : (links heads heads' counts : List ℕ) (nodes list node behind count : ℕ) → AreLinked links heads counts nodes → list < length heads → 0 < count
    → count ≡ get_or counts list 0 → node ≡ get_or heads list 0 → behind ≡ get_or links node 0 → heads' ≡ set heads list behind
    → Pops links heads heads' counts (set counts list (count - 1)) nodes list node
pops_read links heads heads' counts nodes list node behind count a h some e_count e_node e_behind e_heads =
    let next : behind ≡ get_or links (get_or heads list 0) 0 = e_behind ∙ ap (λ n. get_or links n 0) e_node in
    let same_heads : set heads list (get_or links (get_or heads list 0) 0) ≡ heads' = sym (e_heads ∙ ap (set heads list) next) in
    let base = pops links heads counts nodes list a h (omega (arith, some, e_count)) in
    subst (λ n. Pops links heads heads' counts (set counts list (n - 1)) nodes list node) (sym e_count)
    (subst (λ n. Pops links heads heads' counts (set counts list (get_or counts list 0 - 1)) nodes list n) (sym e_node)
    (subst (λ hs. Pops links heads hs counts (set counts list (get_or counts list 0 - 1)) nodes list (get_or heads list 0)) same_heads base))

-- what a push leaves, at what the code read and wrote
pub record Pushes (links links' heads heads' counts counts' : List ℕ) (nodes list node : ℕ) : Type 0 where
  pub linked : AreLinked links' heads' counts' nodes
  pub after : chains links' heads' counts' ≡ set (chains links heads counts) list (node ∷ get_or (chains links heads counts) list [])
  pub room : length links' ≡ length links

pub pushes_read : (links links' heads heads' counts : List ℕ) (nodes list node behind count : ℕ) → AreLinked links heads counts nodes → list < length heads → node < nodes → times (chains links heads counts) node ≡ 0
    → count ≡ get_or counts list 0 → behind ≡ get_or heads list 0 → links' ≡ set links node behind → heads' ≡ set heads list node
    → Pushes links links' heads heads' counts (set counts list (count + 1)) nodes list node
pushes_read links links' heads heads' counts nodes list node behind count a h within loose e_count e_behind e_links e_heads =
    let base : Pushes links (set links node (get_or heads list 0)) heads (set heads list node) counts (set counts list (get_or counts list 0 + 1)) nodes list node = record {
      linked = linked-push links heads counts nodes list node a h within loose;
      after = chains-push links heads counts list node a.heads_all h (omega (arith, a.links_all)) loose;
      room = length-set links node (get_or heads list 0);
    } in
    subst (λ n. Pushes links links' heads heads' counts (set counts list (n + 1)) nodes list node) (sym e_count)
    (subst (λ ls. Pushes links ls heads heads' counts (set counts list (get_or counts list 0 + 1)) nodes list node) (sym (e_links ∙ ap (set links node) e_behind))
    (subst (λ hs. Pushes links (set links node (get_or heads list 0)) heads hs counts (set counts list (get_or counts list 0 + 1)) nodes list node) (sym e_heads) base))

-- the count of a list with a node more still is a number of 32 bits
pub count_fits : (links heads counts : List ℕ) (nodes list node count : ℕ) → AreLinked links heads counts nodes → list < length heads → node < nodes → times (chains links heads counts) node ≡ 0 → count ≡ get_or counts list 0 → count + 1 < 2 ^ 32
count_fits links heads counts nodes list node count a h within loose e =
    let more = linked-push links heads counts nodes list node a h within loose in
    let few = count_few (set links node (get_or heads list 0)) (set heads list node) (set counts list (get_or counts list 0 + 1)) nodes list more (omega (arith, length-set heads list node)) in
    omega (arith, few, get_or-set_same counts list (get_or counts list 0 + 1) 0 (omega (arith, a.heads_all)), a.links_all, a.links_few)

-- the front node of a list that isn't empty exists
pub front_exists : (links heads counts : List ℕ) (nodes list node count : ℕ) → AreLinked links heads counts nodes → list < length heads → 0 < count → count ≡ get_or counts list 0 → node ≡ get_or heads list 0 → node < length links
front_exists links heads counts nodes list node count a h some e_count e_node =
    let here = pops links heads counts nodes list a h (omega (arith, some, e_count)) in
    omega (arith, here.exists, a.links_all, e_node)

-- lists seen before and after a pop are told apart by the lists alone
pub empty_or_not : (ns rest : List ℕ) (node : ℕ) → ns ≡ node ∷ rest → ns ≡ [] → ⊥
empty_or_not ns rest node e none = cc

-- lists that were just made
chains_none : (links : List ℕ) (n : ℕ) → chains links (replicate n 0) (replicate n 0) ≡ replicate n []
chains_none links zero = refl
chains_none links (suc n) = ap (λ xs. [] ∷ xs) (chains_none links n)

times_none : (n k : ℕ) → times (replicate n []) k ≡ 0
times_none zero k = refl
times_none (suc n) k = times_none n k

pub chains-new : (links heads counts : List ℕ) (lists : ℕ) → heads ≡ replicate lists 0 → counts ≡ replicate lists 0 → chains links heads counts ≡ replicate lists []
chains-new links heads counts lists e_heads e_counts = ap (λ hs. chains links hs counts) e_heads ∙ (ap (chains links (replicate lists 0)) e_counts ∙ chains_none links lists)

pub linked-new : (links heads counts : List ℕ) (lists : ℕ) → links ≡ [] → heads ≡ replicate lists 0 → counts ≡ replicate lists 0 → AreLinked links heads counts 0
linked-new links heads counts lists e_links e_heads e_counts =
    let none : (k : ℕ) → times (chains links heads counts) k ≡ 0 = λ k. ap (λ xs. times xs k) (chains-new links heads counts lists e_heads e_counts) ∙ times_none lists k in
    record {
      heads_all = ap length e_heads ∙ sym (ap length e_counts);
      links_all = sym (ap length e_links);
      links_few = omega (arith, ap length e_links);
      once = λ k. omega (arith, none k);
      exist = λ k _. none k;
    }

-- a node more, in no list
pub linked-more : (links heads counts : List ℕ) (nodes : ℕ) → AreLinked links heads counts nodes → nodes + 1 < 2 ^ 32 → AreLinked (links ++ 0 ∷ []) heads counts (nodes + 1)
linked-more links heads counts nodes a few =
    let longer : length (links ++ 0 ∷ []) ≡ length links + 1 = length-append links (0 ∷ []) in
    let same : (k : ℕ) → times (chains (links ++ 0 ∷ []) heads counts) k ≡ times (chains links heads counts) k = λ k. ap (λ xs. times xs k) (chains-more links heads counts) in
    record {
      heads_all = a.heads_all;
      links_all = omega (arith, longer, a.links_all);
      links_few = omega (arith, longer, a.links_all, few);
      once = λ k. omega (arith, same k, a.once k);
      exist = λ k le. same k ∙ a.exist k (omega (arith, le));
    }
