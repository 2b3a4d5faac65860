-- Searching the numbers given so far, and the table that opens.
use Rattle.std.proofs.Common.{◌≡◌, ℕ, zero, suc, ◌+◌, ◌<◌, ◌≤◌, Bool, true, false, cond, eqb, List, [], ◌∷◌, ◌++◌, length, drop, replicate, find, get_or, Option, Some, None, refl, ap, ◌∙◌, arith}
use Rattle.std.specs.List.{All, AllByRecursion, IsDistinct, range_with_len}
use Rattle.std.specs.Option.{option_to_list}
use Rattle.std.proofs.lemmas.Bool.Decides.{nat_tests}
use Rattle.std.proofs.lemmas.List.{length-replicate}
use Rattle.std.proofs.lemmas.List.FromFn.{length-range_with_len}
use Rattle.std.proofs.lemmas.List.Elements.{All-nil, All-cons}
use Rattle.bus_words.specs.Pipes.{PipeOf}
use Rattle.pipe_queue.specs.declared.item.Item.{Item}
use Rattle.pipe_table.specs.Inside.{PlaceState, pipe_in, number_of, IsFree, AreKept}

-- Searching. --

-- a pipe that passes is the first
pub find_here : (p : PipeOf Item → Bool) (o : Option (PipeOf Item)) (pipes : List (PipeOf Item)) (n : ℕ) → number_of (find p (option_to_list o)) ≡ Some n →
    number_of (find p (option_to_list o ++ pipes)) ≡ Some n
find_here p None pipes n is = absurd (cc (is))
find_here p (Some pipe) pipes n is = at (p pipe) is
  where
    at : (b : Bool) → number_of (cond {A = Option (PipeOf Item)} b (Some pipe) None) ≡ Some n → number_of (cond {A = Option (PipeOf Item)} b (Some pipe) (find p pipes)) ≡ Some n
    at true is = is
    at false is = absurd (cc (is))

-- if none passes here, the search goes on
pub find_on : (p : PipeOf Item → Bool) (o : Option (PipeOf Item)) (pipes : List (PipeOf Item)) → number_of (find p (option_to_list o)) ≡ None → find p (option_to_list o ++ pipes) ≡ find p pipes
find_on p None pipes is = refl
find_on p (Some pipe) pipes is = at (p pipe) is
  where
    at : (b : Bool) → number_of (cond {A = Option (PipeOf Item)} b (Some pipe) None) ≡ None → cond {A = Option (PipeOf Item)} b (Some pipe) (find p pipes) ≡ find p pipes
    at true is = absurd (cc (is))
    at false is = refl

-- the places from one on
pub drop_here : (at : List ℕ) (i d : ℕ) → i < length at → drop i at ≡ get_or at i d ∷ drop (i + 1) at
drop_here [] i d within = absurd (omega (arith, within))
drop_here (x ∷ at) zero d within = refl
drop_here (x ∷ at) (suc i) d within = drop_here at i d (omega (arith, within)) ∙ ap (λ l. get_or at i d ∷ l) (ap (λ n. drop n (x ∷ at)) (one_more i))
  where
    one_more : (n : ℕ) → suc (n + 1) ≡ suc n + 1
    one_more n = omega arith

-- Opening. --

pub range_more : (a n : ℕ) → range_with_len a n ++ (a + n) ∷ [] ≡ range_with_len a (n + 1)
range_more a zero = ap (λ m. m ∷ []) (add_none a)
  where
    add_none : (m : ℕ) → m + zero ≡ m
    add_none m = omega arith
range_more a (suc n) =
    ap (λ m. a ∷ (range_with_len (a + 1) n ++ m ∷ [])) (moved a n) ∙ (ap (λ ms. a ∷ ms) (range_more (a + 1) n) ∙ ap (range_with_len a) (one_more n))
  where
    moved : (m k : ℕ) → m + suc k ≡ m + 1 + k
    moved m k = omega arith

    one_more : (k : ℕ) → suc (k + 1) ≡ suc k + 1
    one_more k = omega arith

above_low : (x a n : ℕ) → x < a → AllByRecursion (λ y. eqb x y ≡ false) (range_with_len a n)
above_low x a zero below = tt
above_low x a (suc n) below = (differ x a below, above_low x (a + 1) n (omega (arith, below)))
  where
    differ : (m k : ℕ) → m < k → eqb m k ≡ false
    differ m k less = grind (arith, nat_tests)

range_once : (a n : ℕ) → IsDistinct eqb (range_with_len a n)
unfolding IsDistinct
range_once a zero = tt
range_once a (suc n) = (above_low a (a + 1) n (omega arith), range_once (a + 1) n)

range_all : (P : ℕ → Type 0) (a n : ℕ) → ((q : ℕ) → q < a + n → P q) → All P (range_with_len a n)
range_all P a zero each = All-nil P
range_all P a (suc n) each = All-cons P a (range_with_len (a + 1) n) (each a (omega arith)) (range_all P (a + 1) n (λ q less. each q (omega (arith, less))))

-- a table on which no pipe was made
pub kept_opening : (depth pipes : ℕ) → AreKept depth (replicate pipes (record { pipe = None; room = depth })) [] [] (range_with_len 0 pipes) 0
kept_opening depth pipes =
    let free : PlaceState = record { pipe = None; room = depth } in
    record {
      filed = tt;
      given = All-nil (λ (n : ℕ). n ≤ 0);
      empty = range_all (IsFree (replicate pipes free)) 0 pipes (λ q less. record { there = omega (arith, less, length-replicate pipes free); empty = nothing pipes q });
      once = range_once 0 pipes;
      all = omega (arith, length-range_with_len 0 pipes, length-replicate pipes free);
      rooms = rooms pipes;
    }
  where
    nothing : (n q : ℕ) → pipe_in (replicate n (record { pipe = None; room = depth })) q ≡ None
    nothing zero q = refl
    nothing (suc n) zero = refl
    nothing (suc n) (suc q) = nothing n q

    rooms : (n : ℕ) → All {X = PlaceState} (λ place. place.room ≡ depth) (replicate n (record { pipe = None; room = depth }))
    rooms zero = All-nil (λ (p : PlaceState). p.room ≡ depth)
    rooms (suc n) = All-cons (λ (p : PlaceState). p.room ≡ depth) (record { pipe = None; room = depth }) (replicate n (record { pipe = None; room = depth })) refl (rooms n)
