-- Chains, and what a write of a head, of a count or of a link does to them.
use Rattle.std.proofs.Common.{◌≡◌, ◌+◌, ◌<◌, ℕ, zero, suc, List, [], ◌∷◌, ◌++◌, length, get_or, set, refl, ap, ◌∙◌, arith}
use Rattle.std.proofs.lemmas.List.{get_or-set_other}
use Rattle.std.proofs.lemmas.List.Sums.{sum_by-cons}
use Rattle.std.proofs.lemmas.Bool.Decides.{nat_tests}
use Rattle.bucket_list.specs.Lists.{times_in, times}
use Rattle.bucket_list.specs.Chains.{chain}
use Rattle.bucket_list.specs.Inside.{chains}
use Rattle.bucket_list.proofs.Counts.{times_in-cons}

pub length-chain : (links : List ℕ) (first count : ℕ) → length (chain links first count) ≡ count
length-chain links first zero = refl
length-chain links first (suc count) = ap suc (length-chain links (get_or links first 0) count)

pub length-chains : (links heads counts : List ℕ) → length heads ≡ length counts → length (chains links heads counts) ≡ length heads
length-chains links [] counts e = refl
length-chains links (first ∷ heads) [] e = absurd (omega (arith, e))
length-chains links (first ∷ heads) (count ∷ counts) e = ap suc (length-chains links heads counts (omega (arith, e)))

pub get_or-chains : (links heads counts : List ℕ) (list : ℕ) → length heads ≡ length counts → list < length heads → get_or (chains links heads counts) list [] ≡ chain links (get_or heads list 0) (get_or counts list 0)
get_or-chains links [] counts list e h = absurd (omega (arith, h))
get_or-chains links (first ∷ heads) [] list e h = absurd (omega (arith, e))
get_or-chains links (first ∷ heads) (count ∷ counts) zero e h = refl
get_or-chains links (first ∷ heads) (count ∷ counts) (suc list) e h = get_or-chains links heads counts list (omega (arith, e)) (omega (arith, h))

-- a head and a count written together
pub chains-set : (links heads counts : List ℕ) (list first count : ℕ) → length heads ≡ length counts → list < length heads → chains links (set heads list first) (set counts list count) ≡ set (chains links heads counts) list (chain links first count)
chains-set links [] counts list first count e h = absurd (omega (arith, h))
chains-set links (f ∷ heads) [] list first count e h = absurd (omega (arith, e))
chains-set links (f ∷ heads) (c ∷ counts) zero first count e h = refl
chains-set links (f ∷ heads) (c ∷ counts) (suc list) first count e h =
    ap (λ xs. chain links f c ∷ xs) (chains-set links heads counts list first count (omega (arith, e)) (omega (arith, h)))

-- the link of a node that isn't in a chain doesn't matter to it
pub chain-set : (links : List ℕ) (first count node link : ℕ) → times_in (chain links first count) node ≡ 0 → chain (set links node link) first count ≡ chain links first count
chain-set links first zero node link e = refl
chain-set links first (suc count) node link e =
    let next = get_or links first 0 in
    let c = times_in-cons first (chain links next count) node in
    let ne : first ≡ node → ⊥ = λ same. grind (arith, nat_tests) in
    let out : times_in (chain links next count) node ≡ 0 = omega (arith, c) in
    let stays : get_or (set links node link) first 0 ≡ next = get_or-set_other links node first link 0 ne in
    ap (λ x. first ∷ chain (set links node link) x count) stays ∙ ap (λ xs. first ∷ xs) (chain-set links next count node link out)

pub chains-set_link : (links heads counts : List ℕ) (node link : ℕ) → times (chains links heads counts) node ≡ 0 → chains (set links node link) heads counts ≡ chains links heads counts
chains-set_link links [] counts node link e = refl
chains-set_link links (first ∷ heads) [] node link e = refl
chains-set_link links (first ∷ heads) (count ∷ counts) node link e =
    let c : times (chains links (first ∷ heads) (count ∷ counts)) node ≡ times_in (chain links first count) node + times (chains links heads counts) node = sum_by-cons (λ ns. times_in ns node) (chain links first count) (chains links heads counts) in
    ap (λ xs. xs ∷ chains (set links node link) heads counts) (chain-set links first count node link (omega (arith, c)))
    ∙ ap (λ xs. chain links first count ∷ xs) (chains-set_link links heads counts node link (omega (arith, c)))

-- a further link of 0 changes no chain: if no link stands, 0 is read
get_or-more : (links : List ℕ) (node : ℕ) → get_or (links ++ 0 ∷ []) node 0 ≡ get_or links node 0
get_or-more [] zero = refl
get_or-more [] (suc node) = refl
get_or-more (link ∷ links) zero = refl
get_or-more (link ∷ links) (suc node) = get_or-more links node

chain-more : (links : List ℕ) (first count : ℕ) → chain (links ++ 0 ∷ []) first count ≡ chain links first count
chain-more links first zero = refl
chain-more links first (suc count) =
    ap (λ next. first ∷ chain (links ++ 0 ∷ []) next count) (get_or-more links first) ∙ ap (λ xs. first ∷ xs) (chain-more links (get_or links first 0) count)

pub chains-more : (links heads counts : List ℕ) → chains (links ++ 0 ∷ []) heads counts ≡ chains links heads counts
chains-more links [] counts = refl
chains-more links (first ∷ heads) [] = refl
chains-more links (first ∷ heads) (count ∷ counts) =
    ap (λ xs. xs ∷ chains (links ++ 0 ∷ []) heads counts) (chain-more links first count) ∙ ap (λ xss. chain links first count ∷ xss) (chains-more links heads counts)
