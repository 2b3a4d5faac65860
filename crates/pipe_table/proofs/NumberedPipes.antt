-- Pipes that stand under their numbers: looking one up, changing, adding and removing one.
use Rattle.std.proofs.Common.{◌≡◌, ℕ, zero, suc, ◌<◌, ◌≤◌, Bool, true, false, ◌&&◌, ◌||◌, not, cond, eqb, List, [], ◌∷◌, ◌++◌, length, map, zip, filter, find, set, get_or, Option, Some, None, refl, ap, sym, ◌∙◌, subst, arith}
use Rattle.std.specs.List.{list_any, remove}
use Rattle.std.specs.Option.{option_map, option_map_or, option_to_list, is_some}
use Rattle.std.proofs.lemmas.Bool.Decides.{nat_tests}
use Rattle.std.proofs.lemmas.List.{length-set, get_or-set_same, get_or-set_other}
use Rattle.bus_words.specs.Pipes.{PipeOf, pipe_at, with_pipe, without_pipe}
use Rattle.pipe_queue.specs.declared.item.Item.{Item}
use Rattle.pipe_table.specs.Table.{place_of, without_place}
use Rattle.pipe_table.specs.Inside.{PlaceState, pipe_in, pipe_of, number_of, place_under, live_in, AreRising, AreOrdered, AreFiled}

-- no place
abbrev pub nowhere : PlaceState
nowhere = record { pipe = None; room = 0 }

pub some_is : {X : Type 0} (x y : X) → Some x ≡ Some y → x ≡ y
some_is x y is = ap (λ o. option_map_or (λ z. z) o x) is

-- a place has the pipe of this number
pub record StandsAt (places : List PlaceState) (place number : ℕ) : Type 0 where
  pub there : place < length places
  pub pipe : PipeOf Item
  pub has : pipe_in places place ≡ Some pipe
  pub numbered : pipe.number ≡ number

pub stands_here : (places : List PlaceState) (place number : ℕ) → place < length places → number_of (pipe_in places place) ≡ Some number → StandsAt places place number
stands_here places place number there known = by_pipe (pipe_in places place) refl known
  where
    by_pipe : (o : Option (PipeOf Item)) → pipe_in places place ≡ o → number_of o ≡ Some number → StandsAt places place number
    by_pipe None has is = absurd (cc (is))
    by_pipe (Some pipe) has is = record { there = there; pipe = pipe; has = has; numbered = some_is pipe.number number is }

-- Tests of numbers. --

pub same_number : (m n : ℕ) → m ≡ n → eqb m n ≡ true
same_number m n is = grind (arith, nat_tests)

pub other_number : (m n : ℕ) → (m ≡ n → ⊥) → eqb m n ≡ false
other_number m n ne = grind (arith, nat_tests)

pub is_same : (m n : ℕ) → eqb m n ≡ true → m ≡ n
is_same m n is = grind (arith, nat_tests)

pub is_other : (m n : ℕ) → eqb m n ≡ false → m ≡ n → ⊥
is_other m n is same = grind (arith, nat_tests)

-- Looking up. --

-- no pipe has a number below
pub no_lower : (below n : ℕ) (places : List PlaceState) (numbers at : List ℕ) → AreFiled below places numbers at → n ≤ below → filter (λ pipe. eqb pipe.number n) (live_in places at) ≡ []
no_lower below n places [] [] filed low = refl
no_lower below n places [] (p ∷ at) filed low = absurd filed
no_lower below n places (m ∷ numbers) [] filed low = absurd filed
no_lower below n places (m ∷ numbers) (p ∷ at) filed low =
    let stands = stands_here places p m filed.1 filed.2 in
    ap (λ o. filter (λ pipe. eqb pipe.number n) (option_to_list o ++ live_in places at)) stands.has
    ∙ ap (λ b. cond {A = List (PipeOf Item)} b (stands.pipe ∷ filter (λ r. eqb r.number n) (live_in places at)) (filter (λ r. eqb r.number n) (live_in places at)))
    (other_number stands.pipe.number n (λ same. omega (arith, same, stands.numbered, low, filed.0)))
    ∙ no_lower m n places numbers at filed.3 (omega (arith, low, filed.0))

-- the pipe of a number is the one in the place that stands under it
pub pipe_here : (below : ℕ) (places : List PlaceState) (numbers at : List ℕ) (number : ℕ) → AreFiled below places numbers at →
    filter (λ pipe. eqb pipe.number number) (live_in places at) ≡ option_to_list (pipe_of places (place_under numbers at number))
pipe_here below places [] [] number filed = refl
pipe_here below places [] (p ∷ at) number filed = absurd filed
pipe_here below places (m ∷ numbers) [] number filed = absurd filed
pipe_here below places (m ∷ numbers) (p ∷ at) number filed =
    let stands = stands_here places p m filed.1 filed.2 in
    ap (λ o. filter (λ pipe. eqb pipe.number number) (option_to_list o ++ live_in places at)) stands.has
    ∙ ap (λ n. cond {A = List (PipeOf Item)} (eqb n number) (stands.pipe ∷ filter (λ r. eqb r.number number) (live_in places at)) (filter (λ r. eqb r.number number) (live_in places at))) stands.numbered
    ∙ by_test stands.pipe stands.has (pipe_here m places numbers at number filed.3) (eqb m number) refl
  where
    by_test : (pipe : PipeOf Item) → pipe_in places p ≡ Some pipe → filter (λ r. eqb r.number number) (live_in places at) ≡ option_to_list (pipe_of places (place_under numbers at number)) → (b : Bool) → eqb m number ≡ b →
        cond {A = List (PipeOf Item)} b (pipe ∷ filter (λ r. eqb r.number number) (live_in places at)) (filter (λ r. eqb r.number number) (live_in places at))
        ≡ option_to_list (pipe_of places (cond {A = Option ℕ} b (Some p) (place_under numbers at number)))
    by_test pipe has ih true is =
        ap (λ l. pipe ∷ l) (no_lower m number places numbers at filed.3 (omega (arith, is_same m number is)))
        ∙ ap option_to_list (sym has)
    by_test pipe has ih false is = ih

-- the first of those that pass
abbrev pub first_in : {X : Type 0} → List X → Option X
first_in [] = None
first_in (x ∷ xs) = Some x

find-filter : {X : Type 0} (p : X → Bool) (xs : List X) → find p xs ≡ first_in (filter p xs)
find-filter p [] = refl
find-filter {X} p (x ∷ xs) = at (p x) (find-filter p xs)
  where
    at : (b : Bool) → find p xs ≡ first_in (filter p xs) → cond {A = Option X} b (Some x) (find p xs) ≡ first_in (cond {A = List X} b (x ∷ filter p xs) (filter p xs))
    at true ih = refl
    at false ih = ih

list_any-filter : {X : Type 0} (p q : X → Bool) (xs : List X) → list_any (λ x. p x && q x) xs ≡ list_any q (filter p xs)
list_any-filter p q [] = refl
list_any-filter {X} p q (x ∷ xs) = at (p x) (q x) (list_any-filter p q xs) ∙ joined (p x)
  where
    at : (b c : Bool) → list_any (λ y. p y && q y) xs ≡ list_any q (filter p xs) →
        ((b && c) || list_any (λ y. p y && q y) xs) ≡ cond {A = Bool} b (c || list_any q (filter p xs)) (list_any q (filter p xs))
    at true c ih = ap (λ rest. c || rest) ih
    at false c ih = ih

    joined : (b : Bool) → cond {A = Bool} b (q x || list_any q (filter p xs)) (list_any q (filter p xs)) ≡ list_any q (cond {A = List X} b (x ∷ filter p xs) (filter p xs))
    joined true = refl
    joined false = refl

first_of_one : {X : Type 0} (o : Option X) → first_in (option_to_list o) ≡ o
first_of_one None = refl
first_of_one (Some x) = refl

-- it is found there
pub found_here : (places : List PlaceState) (numbers at : List ℕ) (number : ℕ) → AreFiled 0 places numbers at →
    pipe_at (live_in places at) number ≡ pipe_of places (place_under numbers at number)
found_here places numbers at number filed =
    find-filter (λ pipe. eqb pipe.number number) (live_in places at)
    ∙ ap first_in (pipe_here 0 places numbers at number filed)
    ∙ first_of_one (pipe_of places (place_under numbers at number))

any_of_one : (q : PipeOf Item → Bool) (o : Option (PipeOf Item)) → list_any q (option_to_list o) ≡ option_map_or q o false
any_of_one q None = refl
any_of_one q (Some pipe) = by_test (q pipe)
  where
    by_test : (b : Bool) → (b || false) ≡ b
    by_test true = refl
    by_test false = refl

-- whether it is there and passes a test
pub passes_found : (q : PipeOf Item → Bool) (pipes : List (PipeOf Item)) (number : ℕ) → list_any (λ pipe. eqb pipe.number number && q pipe) (pipes) ≡ list_any q (filter (λ pipe. eqb pipe.number number) pipes)
passes_found q pipes number = list_any-filter (λ pipe. eqb pipe.number number) q pipes

pub passes_here : (q : PipeOf Item → Bool) (places : List PlaceState) (numbers at : List ℕ) (number : ℕ) → AreFiled 0 places numbers at →
    list_any (λ pipe. eqb pipe.number number && q pipe) (live_in places at) ≡ option_map_or q (pipe_at (live_in places at) number) false
passes_here q places numbers at number filed =
    list_any-filter (λ pipe. eqb pipe.number number) q (live_in places at)
    ∙ ap (list_any q) (pipe_here 0 places numbers at number filed)
    ∙ any_of_one q (pipe_of places (place_under numbers at number))
    ∙ ap (λ o. option_map_or q o false) (sym (found_here places numbers at number filed))

pub any-find : {X : Type 0} (p : X → Bool) (xs : List X) → list_any p xs ≡ is_some (find p xs)
any-find p [] = refl
any-find {X} p (x ∷ xs) = at (p x) (any-find p xs)
  where
    at : (b : Bool) → list_any p xs ≡ is_some (find p xs) → (b || list_any p xs) ≡ is_some (cond {A = Option X} b (Some x) (find p xs))
    at true ih = refl
    at false ih = ih

-- By index. --

-- numbers that are filed rise
rises : (below : ℕ) (places : List PlaceState) (numbers at : List ℕ) → AreFiled below places numbers at → AreRising below numbers
rises below places [] at filed = tt
rises below places (m ∷ numbers) [] filed = absurd filed
rises below places (m ∷ numbers) (p ∷ at) filed = (filed.0, rises m places numbers at filed.3)

-- as many places as numbers
pub as_many : (below : ℕ) (places : List PlaceState) (numbers at : List ℕ) → AreFiled below places numbers at → length numbers ≡ length at
as_many below places [] [] filed = refl
as_many below places [] (p ∷ at) filed = absurd filed
as_many below places (m ∷ numbers) [] filed = absurd filed
as_many below places (m ∷ numbers) (p ∷ at) filed = omega (arith, as_many m places numbers at filed.3)

pub ordered : (places : List PlaceState) (numbers at : List ℕ) → AreFiled 0 places numbers at → AreOrdered numbers at
ordered places numbers at filed = record { rising = rises 0 places numbers at filed; all = as_many 0 places numbers at filed }

-- a number is above the one that all are above
above_below : (below : ℕ) (numbers : List ℕ) (i : ℕ) → AreRising below numbers → i < length numbers → below < get_or numbers i 0
above_below below [] i rising within = absurd (omega (arith, within))
above_below below (m ∷ numbers) zero rising within = rising.0
above_below below (m ∷ numbers) (suc i) rising within = omega (arith, rising.0, above_below m numbers i rising.1 (omega (arith, within)))

-- numbers rise
pub rising_all : (below : ℕ) (numbers : List ℕ) → AreRising below numbers → (i j : ℕ) → i ≤ j → j < length numbers → get_or numbers i 0 ≤ get_or numbers j 0
rising_all below [] rising i j le within = absurd (omega (arith, within))
rising_all below (m ∷ numbers) rising zero zero le within = omega arith
rising_all below (m ∷ numbers) rising zero (suc j) le within = omega (arith, above_below m numbers j rising.1 (omega (arith, within)))
rising_all below (m ∷ numbers) rising (suc i) zero le within = absurd (omega (arith, le))
rising_all below (m ∷ numbers) rising (suc i) (suc j) le within = rising_all m numbers rising.1 i j (omega (arith, le)) (omega (arith, within))

-- the place under a number is at the number's index
pub under_index : (below : ℕ) (numbers at : List ℕ) (i number : ℕ) → AreRising below numbers → length numbers ≡ length at → i < length numbers → get_or numbers i 0 ≡ number → place_under numbers at number ≡ Some (get_or at i 0)
under_index below [] at i number rising all within is = absurd (omega (arith, within))
under_index below (m ∷ numbers) [] i number rising all within is = absurd (omega (arith, all))
under_index below (m ∷ numbers) (p ∷ at) zero number rising all within is = ap (λ b. cond {A = Option ℕ} b (Some p) (place_under numbers at number)) (same_number m number is)
under_index below (m ∷ numbers) (p ∷ at) (suc i) number rising all within is =
    ap (λ b. cond {A = Option ℕ} b (Some p) (place_under numbers at number))
    (other_number m number (λ same. omega (arith, same, is, above_below m numbers i rising.1 (omega (arith, within)))))
    ∙ under_index m numbers at i number rising.1 (omega (arith, all)) (omega (arith, within)) is

-- a number that stands nowhere has no place
pub under_none : (numbers at : List ℕ) (number : ℕ) → ((k : ℕ) → k < length numbers → get_or numbers k 0 ≡ number → ⊥) → place_under numbers at number ≡ None
under_none [] at number none = refl
under_none (m ∷ numbers) [] number none = refl
under_none (m ∷ numbers) (p ∷ at) number none =
    ap (λ b. cond {A = Option ℕ} b (Some p) (place_under numbers at number)) (other_number m number (none 0 (omega arith)))
    ∙ under_none numbers at number (λ k within. none (suc k) (omega (arith, within)))

-- what stands at a number has this number
pub stands_under : (below : ℕ) (places : List PlaceState) (numbers at : List ℕ) (number place : ℕ) → AreFiled below places numbers at → place_under numbers at number ≡ Some place → StandsAt places place number
stands_under below places [] at number place filed is = absurd (cc (is))
stands_under below places (m ∷ numbers) [] number place filed is = absurd filed
stands_under below places (m ∷ numbers) (p ∷ at) number place filed is = by_test (λ rest. stands_under m places numbers at number place filed.3 rest) (eqb m number) refl is
  where
    by_test : (place_under numbers at number ≡ Some place → StandsAt places place number) → (b : Bool) → eqb m number ≡ b → cond {A = Option ℕ} b (Some p) (place_under numbers at number) ≡ Some place → StandsAt places place number
    by_test ih true same here =
        let itself : p ≡ place = some_is p place here in
        subst (λ q. StandsAt places q number) itself (subst (λ n. StandsAt places p n) (is_same m number same) (stands_here places p m filed.1 filed.2))
    by_test ih false other rest = ih rest

-- the pipe of a number that stands in a place
pub read_some : (places : List PlaceState) (numbers at : List ℕ) (number place : ℕ) → AreFiled 0 places numbers at → place_under numbers at number ≡ Some place →
    pipe_at (live_in places at) number ≡ pipe_in places place
read_some places numbers at number place filed is = found_here places numbers at number filed ∙ ap (pipe_of places) is

pub read_none : (places : List PlaceState) (numbers at : List ℕ) (number : ℕ) → AreFiled 0 places numbers at → place_under numbers at number ≡ None →
    pipe_at (live_in places at) number ≡ None
read_none places numbers at number filed is = found_here places numbers at number filed ∙ ap (pipe_of places) is

-- what a place has is the pipe of the number that stands there
pub seen_at : (places : List PlaceState) (numbers at : List ℕ) (number place : ℕ) (was : PlaceState) → AreFiled 0 places numbers at → place_under numbers at number ≡ Some place →
    was ≡ get_or places place nowhere → was.pipe ≡ pipe_at (live_in places at) number
seen_at places numbers at number place was filed under read = ap (λ (s : PlaceState). s.pipe) read ∙ sym (read_some places numbers at number place filed under)

-- Numbers and places as a list of pairs. --

-- the place that a number's pair tells
pub place_seen : (numbers at : List ℕ) (number : ℕ) → place_under numbers at number ≡ place_of (zip numbers at) number
place_seen [] at number = refl
place_seen (m ∷ numbers) [] number = refl
place_seen (m ∷ numbers) (p ∷ at) number = by_test (eqb m number) (place_seen numbers at number)
  where
    by_test : (b : Bool) → place_under numbers at number ≡ place_of (zip numbers at) number →
        cond {A = Option ℕ} b (Some p) (place_under numbers at number)
        ≡ option_map (λ (pair : ℕ × ℕ). pair.1) (cond {A = Option (ℕ × ℕ)} b (Some (m, p)) (find (λ pair. eqb pair.0 number) (zip numbers at)))
    by_test true ih = refl
    by_test false ih = ih

-- the pairs stand in the order of the pipes
pub in_pairs : (below : ℕ) (places : List PlaceState) (numbers at : List ℕ) → AreFiled below places numbers at →
    map (λ pair. pair.0) (zip numbers at) ≡ map (λ pipe. pipe.number) (live_in places at)
in_pairs below places [] [] filed = refl
in_pairs below places [] (p ∷ at) filed = absurd filed
in_pairs below places (m ∷ numbers) [] filed = absurd filed
in_pairs below places (m ∷ numbers) (p ∷ at) filed =
    let stands = stands_here places p m filed.1 filed.2 in
    ap (λ ns. m ∷ ns) (in_pairs m places numbers at filed.3)
    ∙ ap (λ n. n ∷ map (λ (pipe : PipeOf Item). pipe.number) (live_in places at)) (sym stands.numbered)
    ∙ ap (λ o. map (λ (pipe : PipeOf Item). pipe.number) (option_to_list o ++ live_in places at)) (sym stands.has)

-- one pair more
pub pairs_push : (numbers at : List ℕ) (number place : ℕ) → length numbers ≡ length at → zip (numbers ++ number ∷ []) (at ++ place ∷ []) ≡ zip numbers at ++ (number, place) ∷ []
pairs_push [] [] number place all = refl
pairs_push [] (p ∷ at) number place all = absurd (omega (arith, all))
pairs_push (m ∷ numbers) [] number place all = absurd (omega (arith, all))
pairs_push (m ∷ numbers) (p ∷ at) number place all = ap (λ pairs. (m, p) ∷ pairs) (pairs_push numbers at number place (omega (arith, all)))

-- a number that has no place has no pair to take out
pub pairs_without : (numbers at : List ℕ) (number : ℕ) → place_under numbers at number ≡ None → without_place number (zip numbers at) ≡ zip numbers at
pairs_without [] at number none = refl
pairs_without (m ∷ numbers) [] number none = refl
pairs_without (m ∷ numbers) (p ∷ at) number none = by_test (eqb m number) none (λ rest. pairs_without numbers at number rest)
  where
    by_test : (b : Bool) → cond {A = Option ℕ} b (Some p) (place_under numbers at number) ≡ None →
        (place_under numbers at number ≡ None → without_place number (zip numbers at) ≡ zip numbers at) →
        cond {A = List (ℕ × ℕ)} (not b) ((m, p) ∷ without_place number (zip numbers at)) (without_place number (zip numbers at)) ≡ (m, p) ∷ zip numbers at
    by_test true is ih = absurd (cc (is))
    by_test false is ih = ap (λ pairs. (m, p) ∷ pairs) (ih is)

-- a number at or below those that rise has no place
under_low : (below n : ℕ) (numbers at : List ℕ) → AreRising below numbers → n ≤ below → place_under numbers at n ≡ None
under_low below n [] at rising low = refl
under_low below n (m ∷ numbers) [] rising low = refl
under_low below n (m ∷ numbers) (p ∷ at) rising low =
    ap (λ b. cond {A = Option ℕ} b (Some p) (place_under numbers at n)) (other_number m n (λ same. omega (arith, same, low, rising.0)))
    ∙ under_low m n numbers at rising.1 (omega (arith, low, rising.0))

-- the pair of a number that goes
pub pairs_removed : (below : ℕ) (numbers at : List ℕ) (i : ℕ) → AreRising below numbers → length numbers ≡ length at → i < length numbers →
    zip (remove numbers i) (remove at i) ≡ without_place (get_or numbers i 0) (zip numbers at)
pairs_removed below [] at i rising all within = absurd (omega (arith, within))
pairs_removed below (m ∷ numbers) [] i rising all within = absurd (omega (arith, all))
pairs_removed below (m ∷ numbers) (p ∷ at) zero rising all within =
    sym (pairs_without numbers at m (under_low m m numbers at rising.1 (omega arith)))
    ∙ ap (λ b. cond {A = List (ℕ × ℕ)} (not b) ((m, p) ∷ without_place m (zip numbers at)) (without_place m (zip numbers at))) (sym (same_number m m refl))
pairs_removed below (m ∷ numbers) (p ∷ at) (suc i) rising all within =
    let n = get_or numbers i 0 in
    ap (λ pairs. (m, p) ∷ pairs) (pairs_removed m numbers at i rising.1 (omega (arith, all)) (omega (arith, within)))
    ∙ ap (λ b. cond {A = List (ℕ × ℕ)} (not b) ((m, p) ∷ without_place n (zip numbers at)) (without_place n (zip numbers at)))
    (sym (other_number m n (λ same. omega (arith, same, above_below m numbers i rising.1 (omega (arith, within))))))

-- Changing. --

-- none of these places is this one
abbrev pub IsApart : List ℕ → ℕ → Type 0
IsApart [] p = Unit {0}
IsApart (q ∷ at) p = (q ≡ p → ⊥) × IsApart at p

-- what another place has stays
pub pipe_elsewhere : (places : List PlaceState) (p q : ℕ) (x : PlaceState) → (q ≡ p → ⊥) → pipe_in (set places p x) q ≡ pipe_in places q
pipe_elsewhere places p q x other = ap (λ (s : PlaceState). s.pipe) (get_or-set_other places p q x nowhere other)

pub pipe_there : (places : List PlaceState) (p : ℕ) (x : PlaceState) → p < length places → pipe_in (set places p x) p ≡ x.pipe
pipe_there places p x within = ap (λ (s : PlaceState). s.pipe) (get_or-set_same places p x nowhere within)

-- a place that is none of these may change
pub live_apart : (places : List PlaceState) (at : List ℕ) (p : ℕ) (x : PlaceState) → IsApart at p → live_in (set places p x) at ≡ live_in places at
live_apart places [] p x apart = refl
live_apart places (q ∷ at) p x apart =
    ap (λ o. option_to_list o ++ live_in (set places p x) at) (pipe_elsewhere places p q x apart.0)
    ∙ ap (λ l. option_to_list (pipe_in places q) ++ l) (live_apart places at p x apart.1)

pub filed_apart : (below : ℕ) (places : List PlaceState) (numbers at : List ℕ) (p : ℕ) (x : PlaceState) → IsApart at p → AreFiled below places numbers at → AreFiled below (set places p x) numbers at
filed_apart below places [] [] p x apart filed = tt
filed_apart below places [] (q ∷ at) p x apart filed = absurd filed
filed_apart below places (m ∷ numbers) [] p x apart filed = absurd filed
filed_apart below places (m ∷ numbers) (q ∷ at) p x apart filed = (
  filed.0,
  omega (arith, filed.1, length-set places p x),
  ap number_of (pipe_elsewhere places p q x apart.0) ∙ filed.2,
  filed_apart m places numbers at p x apart.1 filed.3,
)

-- the place of a pipe is none of those of higher numbers
pub above_apart : (below : ℕ) (places : List PlaceState) (numbers at : List ℕ) (p : ℕ) (pipe : PipeOf Item) → AreFiled below places numbers at → pipe_in places p ≡ Some pipe → pipe.number ≤ below → IsApart at p
above_apart below places [] [] p pipe filed has low = tt
above_apart below places [] (q ∷ at) p pipe filed has low = absurd filed
above_apart below places (m ∷ numbers) [] p pipe filed has low = absurd filed
above_apart below places (m ∷ numbers) (q ∷ at) p pipe filed has low = (
  (λ same. differs same),
  above_apart m places numbers at p pipe filed.3 has (omega (arith, low, filed.0)),
)
  where
    differs : q ≡ p → ⊥
    differs same =
        let stands = stands_here places q m filed.1 filed.2 in
        let both : stands.pipe ≡ pipe = some_is stands.pipe pipe (sym stands.has ∙ ap (pipe_in places) same ∙ has) in
        omega (arith, ap (λ (r : PipeOf Item). r.number) both, stands.numbered, low, filed.0)

-- a place without a pipe is none of them
pub free_apart : (below : ℕ) (places : List PlaceState) (numbers at : List ℕ) (p : ℕ) → AreFiled below places numbers at → pipe_in places p ≡ None → IsApart at p
free_apart below places [] [] p filed none = tt
free_apart below places [] (q ∷ at) p filed none = absurd filed
free_apart below places (m ∷ numbers) [] p filed none = absurd filed
free_apart below places (m ∷ numbers) (q ∷ at) p filed none = ((λ same. differs same), free_apart m places numbers at p filed.3 none)
  where
    differs : q ≡ p → ⊥
    differs same =
        let stands = stands_here places q m filed.1 filed.2 in
        let no : ◌≡◌ {A = Option (PipeOf Item)} None (Some stands.pipe) = sym none ∙ ap (pipe_in places) (sym same) ∙ stands.has in
        cc (no)

-- pipes of other numbers stay in a change by number
others_stay : (f : PipeOf Item → PipeOf Item) (below n : ℕ) (places : List PlaceState) (numbers at : List ℕ) → AreFiled below places numbers at → n ≤ below → with_pipe f n (live_in places at) ≡ live_in places at
others_stay f below n places [] [] filed low = refl
others_stay f below n places [] (p ∷ at) filed low = absurd filed
others_stay f below n places (m ∷ numbers) [] filed low = absurd filed
others_stay f below n places (m ∷ numbers) (p ∷ at) filed low =
    let stands = stands_here places p m filed.1 filed.2 in
    ap (λ o. with_pipe f n (option_to_list o ++ live_in places at)) stands.has
    ∙ ap (λ b. cond {A = PipeOf Item} b (f stands.pipe) stands.pipe ∷ with_pipe f n (live_in places at)) (other_number stands.pipe.number n (λ same. omega (arith, same, stands.numbered, low, filed.0)))
    ∙ ap (λ l. stands.pipe ∷ l) (others_stay f m n places numbers at filed.3 (omega (arith, low, filed.0)))
    ∙ ap (λ o. option_to_list o ++ live_in places at) (sym stands.has)

-- what is changed in its place is changed by number
pub changed : (f : PipeOf Item → PipeOf Item) (below : ℕ) (places : List PlaceState) (numbers at : List ℕ) (number p : ℕ) (x : PlaceState) → AreFiled below places numbers at → place_under numbers at number ≡ Some p →
    x.pipe ≡ option_map f (pipe_in places p) → live_in (set places p x) at ≡ with_pipe f number (live_in places at)
changed f below places [] at number p x filed under is = absurd (cc (under))
changed f below places (m ∷ numbers) [] number p x filed under is = absurd filed
changed f below places (m ∷ numbers) (q ∷ at) number p x filed under is =
    by_test (stands_here places q m filed.1 filed.2) (λ rest. changed f m places numbers at number p x filed.3 rest is) (eqb m number) refl under
  where
    by_test : StandsAt places q m → (place_under numbers at number ≡ Some p → live_in (set places p x) at ≡ with_pipe f number (live_in places at)) → (b : Bool) → eqb m number ≡ b → cond {A = Option ℕ} b (Some q) (place_under numbers at number) ≡ Some p →
        option_to_list (pipe_in (set places p x) q) ++ live_in (set places p x) at ≡ with_pipe f number (option_to_list (pipe_in places q) ++ live_in places at)
    by_test stands ih true same here =
        let itself : q ≡ p = some_is q p here in
        let within : p < length places = subst (λ y. y < length places) itself filed.1 in
        let apart : IsApart at p = subst (IsApart at) itself (above_apart m places numbers at q stands.pipe filed.3 stands.has (omega (arith, stands.numbered))) in
        let now : pipe_in (set places p x) q ≡ Some (f stands.pipe) =
        ap (pipe_in (set places p x)) itself ∙ pipe_there places p x within ∙ is ∙ ap (λ y. option_map f (pipe_in places y)) (sym itself) ∙ ap (option_map f) stands.has in
        ap (λ o. option_to_list o ++ live_in (set places p x) at) now
        ∙ ap (λ l. f stands.pipe ∷ l) (live_apart places at p x apart)
        ∙ ap (λ l. f stands.pipe ∷ l) (sym (others_stay f m number places numbers at filed.3 (omega (arith, is_same m number same))))
        ∙ ap (λ b. cond {A = PipeOf Item} b (f stands.pipe) stands.pipe ∷ with_pipe f number (live_in places at)) (sym (same_number stands.pipe.number number (stands.numbered ∙ is_same m number same)))
        ∙ ap (λ o. with_pipe f number (option_to_list o ++ live_in places at)) (sym stands.has)
    by_test stands ih false other rest =
        let there = stands_under m places numbers at number p filed.3 rest in
        let differs : q ≡ p → ⊥ = λ same. let both : stands.pipe ≡ there.pipe = some_is stands.pipe there.pipe (sym stands.has ∙ ap (pipe_in places) same ∙ there.has) in
        is_other m number other (sym stands.numbered ∙ ap (λ (r : PipeOf Item). r.number) both ∙ there.numbered) in
        ap (λ o. option_to_list o ++ live_in (set places p x) at) (pipe_elsewhere places p q x differs ∙ stands.has)
        ∙ ap (λ l. stands.pipe ∷ l) (ih rest)
        ∙ ap (λ b. cond {A = PipeOf Item} b (f stands.pipe) stands.pipe ∷ with_pipe f number (live_in places at)) (sym (other_number stands.pipe.number number (λ e. is_other m number other (sym stands.numbered ∙ e))))
        ∙ ap (λ o. with_pipe f number (option_to_list o ++ live_in places at)) (sym stands.has)

-- and each pipe stands where it stood, if the change keeps its number
pub filed_changed : (below : ℕ) (places : List PlaceState) (numbers at : List ℕ) (p : ℕ) (x : PlaceState) → p < length places → AreFiled below places numbers at →
    number_of x.pipe ≡ number_of (pipe_in places p) → AreFiled below (set places p x) numbers at
filed_changed below places [] [] p x within filed keeps = tt
filed_changed below places [] (q ∷ at) p x within filed keeps = absurd filed
filed_changed below places (m ∷ numbers) [] p x within filed keeps = absurd filed
filed_changed below places (m ∷ numbers) (q ∷ at) p x within filed keeps = (
  filed.0,
  omega (arith, filed.1, length-set places p x),
  by_test (eqb q p) refl ∙ filed.2,
  filed_changed m places numbers at p x within filed.3 keeps,
)
  where
    by_test : (b : Bool) → eqb q p ≡ b → number_of (pipe_in (set places p x) q) ≡ number_of (pipe_in places q)
    by_test true is =
        let same = is_same q p is in
        ap (λ r. number_of (pipe_in (set places p x) r)) same ∙ ap number_of (pipe_there places p x within) ∙ keeps ∙ ap (λ r. number_of (pipe_in places r)) (sym same)
    by_test false is = ap number_of (pipe_elsewhere places p q x (is_other q p is))

-- Removing. --

-- a number that goes, with its place
pub filed_removed : (below : ℕ) (places : List PlaceState) (numbers at : List ℕ) (i : ℕ) → i < length numbers → AreFiled below places numbers at → AreFiled below places (remove numbers i) (remove at i)
filed_removed below places [] at i within filed = absurd (omega (arith, within))
filed_removed below places (m ∷ numbers) [] i within filed = absurd filed
filed_removed below places (m ∷ numbers) (p ∷ at) zero within filed = lower below m places numbers at (omega (arith, filed.0)) filed.3
  where
    lower : (a b : ℕ) (places : List PlaceState) (numbers at : List ℕ) → a ≤ b → AreFiled b places numbers at → AreFiled a places numbers at
    lower a b places [] [] le filed = tt
    lower a b places [] (q ∷ at) le filed = absurd filed
    lower a b places (n ∷ numbers) [] le filed = absurd filed
    lower a b places (n ∷ numbers) (q ∷ at) le filed = (omega (arith, le, filed.0), filed.1, filed.2, filed.3)
filed_removed below places (m ∷ numbers) (p ∷ at) (suc i) within filed = (filed.0, filed.1, filed.2, filed_removed m places numbers at i (omega (arith, within)) filed.3)

-- the place that goes is none of the others
pub removed_apart : (below : ℕ) (places : List PlaceState) (numbers at : List ℕ) (i : ℕ) → i < length numbers → AreFiled below places numbers at → IsApart (remove at i) (get_or at i 0)
removed_apart below places [] at i within filed = absurd (omega (arith, within))
removed_apart below places (m ∷ numbers) [] i within filed = absurd filed
removed_apart below places (m ∷ numbers) (p ∷ at) zero within filed =
    let stands = stands_here places p m filed.1 filed.2 in
    above_apart m places numbers at p stands.pipe filed.3 stands.has (omega (arith, stands.numbered))
removed_apart below places (m ∷ numbers) (p ∷ at) (suc i) within filed = ((λ same. differs same), removed_apart m places numbers at i (omega (arith, within)) filed.3)
  where
    differs : p ≡ get_or at i 0 → ⊥
    differs same =
        let stands = stands_here places p m filed.1 filed.2 in
        let there = stands_under m places numbers at (get_or numbers i 0) (get_or at i 0) filed.3 (under_index m numbers at i (get_or numbers i 0) (rises m places numbers at filed.3) (as_many m places numbers at filed.3) (omega (arith, within)) refl) in
        let both : stands.pipe ≡ there.pipe = some_is stands.pipe there.pipe (sym stands.has ∙ ap (pipe_in places) same ∙ there.has) in
        omega (arith, ap (λ (r : PipeOf Item). r.number) both, stands.numbered, there.numbered, above_below m numbers i (rises m places numbers at filed.3) (omega (arith, within)))

-- the pipes without the one of a number
no_lower_pipes : (below n : ℕ) (places : List PlaceState) (numbers at : List ℕ) → AreFiled below places numbers at → n ≤ below → without_pipe n (live_in places at) ≡ live_in places at
no_lower_pipes below n places [] [] filed low = refl
no_lower_pipes below n places [] (p ∷ at) filed low = absurd filed
no_lower_pipes below n places (m ∷ numbers) [] filed low = absurd filed
no_lower_pipes below n places (m ∷ numbers) (p ∷ at) filed low =
    let stands = stands_here places p m filed.1 filed.2 in
    ap (λ o. without_pipe n (option_to_list o ++ live_in places at)) stands.has
    ∙ ap (λ b. cond {A = List (PipeOf Item)} (not b) (stands.pipe ∷ without_pipe n (live_in places at)) (without_pipe n (live_in places at))) (other_number stands.pipe.number n (λ same. omega (arith, same, stands.numbered, low, filed.0)))
    ∙ ap (λ l. stands.pipe ∷ l) (no_lower_pipes m n places numbers at filed.3 (omega (arith, low, filed.0)))
    ∙ ap (λ o. option_to_list o ++ live_in places at) (sym stands.has)

pub removed : (below : ℕ) (places : List PlaceState) (numbers at : List ℕ) (i : ℕ) → i < length numbers → AreFiled below places numbers at →
    live_in places (remove at i) ≡ without_pipe (get_or numbers i 0) (live_in places at)
removed below places [] at i within filed = absurd (omega (arith, within))
removed below places (m ∷ numbers) [] i within filed = absurd filed
removed below places (m ∷ numbers) (p ∷ at) zero within filed =
    let stands = stands_here places p m filed.1 filed.2 in
    sym (no_lower_pipes m m places numbers at filed.3 (omega arith))
    ∙ ap (λ b. cond {A = List (PipeOf Item)} (not b) (stands.pipe ∷ without_pipe m (live_in places at)) (without_pipe m (live_in places at))) (sym (same_number stands.pipe.number m stands.numbered))
    ∙ ap (λ o. without_pipe m (option_to_list o ++ live_in places at)) (sym stands.has)
removed below places (m ∷ numbers) (p ∷ at) (suc i) within filed =
    let stands = stands_here places p m filed.1 filed.2 in
    let n = get_or numbers i 0 in
    ap (λ o. option_to_list o ++ live_in places (remove at i)) stands.has
    ∙ ap (λ l. stands.pipe ∷ l) (removed m places numbers at i (omega (arith, within)) filed.3)
    ∙ ap (λ b. cond {A = List (PipeOf Item)} (not b) (stands.pipe ∷ without_pipe n (live_in places at)) (without_pipe n (live_in places at)))
    (sym (other_number stands.pipe.number n (λ same. omega (arith, same, stands.numbered, above_below m numbers i (rises m places numbers at filed.3) (omega (arith, within))))))
    ∙ ap (λ o. without_pipe n (option_to_list o ++ live_in places at)) (sym stands.has)

-- Counting. --

-- as many live pipes as places of them
pub live_many : (below : ℕ) (places : List PlaceState) (numbers at : List ℕ) → AreFiled below places numbers at → length (live_in places at) ≡ length at
live_many below places [] [] filed = refl
live_many below places [] (p ∷ at) filed = absurd filed
live_many below places (m ∷ numbers) [] filed = absurd filed
live_many below places (m ∷ numbers) (p ∷ at) filed =
    let stands = stands_here places p m filed.1 filed.2 in
    omega (arith, live_many m places numbers at filed.3, ap (λ o. length (option_to_list o ++ live_in places at)) stands.has)
