-- The bytes of the pool that are in use, told by the numbers that are held; and that nothing is held if no pipe is live and no
-- buffer is unsent.
use Rattle.std.proofs.Common.{◌≡◌, ℕ, zero, suc, ◌+◌, ◌*◌, ◌==◌, false, cond, List, [], ◌∷◌, length, replicate, filter, slice_index, Option, Some, None, refl, ap, sym, ◌∙◌, arith}
use Rattle.std.specs.Prelude.{count_by, sum_by}
use Rattle.std.specs.List.{list_any}
use Rattle.std.specs.Option.{option_map_or}
use Rattle.std.proofs.lemmas.Bool.Decides.{nat_tests}
use Rattle.std.proofs.lemmas.List.Sums.{sum_by-cons}
use Rattle.fsw_base.specs.Blocks.{class_of}
use Rattle.fsw_base.specs.Limits.{Limits}
use Rattle.bus_words.specs.Bus.{Pipe, Buffer, State}
use Rattle.bus_words.specs.Held.{is_unsent, is_held, numbers_to, held, buffers_in, asked_of, has_class, each_below, block_of, account_of, bytes_of, bytes_in_use, HoldsNothing}
use Rattle.bus_words.proofs.Buffers.{unsent_in}

-- Bytes. --

bytes-same : (f g : ℕ → ℕ) → ((i : ℕ) → f i ≡ g i) → (n : ℕ) (sizes : List ℕ) → bytes_of (each_below f n) sizes ≡ bytes_of (each_below g n) sizes
bytes-same f g same zero sizes = refl
bytes-same f g same (suc n) [] = refl
bytes-same f g same (suc n) (size ∷ sizes) =
    ap (λ k. k * size + bytes_of (each_below (λ i. f (suc i)) n) sizes) (same 0)
    ∙ ap (λ k. g 0 * size + k) (bytes-same (λ i. f (suc i)) (λ i. g (suc i)) (λ i. same (suc i)) n sizes)

bytes-none : (n : ℕ) (sizes : List ℕ) → bytes_of (each_below (λ class. 0) n) sizes ≡ 0
bytes-none zero sizes = refl
bytes-none (suc n) [] = refl
bytes-none (suc n) (size ∷ sizes) = omega (arith, bytes-none n sizes)

bytes-sum : (f g : ℕ → ℕ) (n : ℕ) (sizes : List ℕ) →
    bytes_of (each_below (λ i. f i + g i) n) sizes ≡ bytes_of (each_below f n) sizes + bytes_of (each_below g n) sizes
bytes-sum f g zero sizes = refl
bytes-sum f g (suc n) [] = refl
bytes-sum f g (suc n) (size ∷ sizes) =
    let rest = bytes-sum (λ i. f (suc i)) (λ i. g (suc i)) n sizes in
    let spread : (f 0 + g 0) * size ≡ f 0 * size + g 0 * size = spreads (f 0) (g 0) size in
    omega (arith, rest, spread)
  where
    spreads : (a b k : ℕ) → (a + b) * k ≡ a * k + b * k
    spreads a b k = omega arith

-- one block of a class
bytes-class : (class : ℕ) (sizes : List ℕ) → bytes_of (each_below (λ other. cond (class == other) 1 0) (length sizes)) sizes ≡ slice_index sizes class
bytes-class class [] = refl
bytes-class zero (size ∷ sizes) =
    let rest = bytes-same (λ i. cond {A = ℕ} (0 == suc i) 1 0) (λ i. 0) (λ i. ap (λ b. cond {A = ℕ} b 1 0) (later i)) (length sizes) sizes ∙ bytes-none (length sizes) sizes in
    omega (arith, rest)
  where
    later : (i : ℕ) → (0 == suc i) ≡ false
    later i = grind (arith, nat_tests)
bytes-class (suc class) (size ∷ sizes) =
    let rest = bytes-same (λ i. cond {A = ℕ} (suc class == suc i) 1 0) (λ i. cond {A = ℕ} (class == i) 1 0) (λ i. ap (λ b. cond {A = ℕ} b 1 0) (same i)) (length sizes) sizes ∙ bytes-class class sizes in
    ap (λ b. cond {A = ℕ} b 1 0 * size + bytes_of (each_below (λ i. cond (suc class == suc i) 1 0) (length sizes)) sizes) first
    ∙ omega (arith, rest)
  where
    first : (suc class == 0) ≡ false
    first = grind (arith, nat_tests)

    same : (i : ℕ) → (suc class == suc i) ≡ (class == i)
    same i = grind (arith, nat_tests)

-- one block of a class, if there is one
bytes-one : (class : Option ℕ) (sizes : List ℕ) →
    bytes_of (each_below (λ other. cond (option_map_or (λ x. x == other) class false) 1 0) (length sizes)) sizes ≡ option_map_or (slice_index sizes) class 0
bytes-one None sizes = bytes-none (length sizes) sizes
bytes-one (Some class) sizes = bytes-class class sizes

-- those of these numbers
bytes-all : (pipes : List Pipe) (unsent : List (List Buffer)) (sizes numbers : List ℕ) →
    bytes_of (each_below (λ class. count_by (has_class pipes unsent sizes class) numbers) (length sizes)) sizes ≡ sum_by (block_of sizes pipes unsent) numbers
bytes-all pipes unsent sizes [] = bytes-none (length sizes) sizes
bytes-all pipes unsent sizes (n ∷ numbers) =
    let one : ℕ → ℕ = λ class. cond {A = ℕ} (has_class pipes unsent sizes class n) 1 0 in
    let rest : ℕ → ℕ = λ class. count_by (has_class pipes unsent sizes class) numbers in
    bytes-same (λ class. count_by (has_class pipes unsent sizes class) (n ∷ numbers)) (λ class. one class + rest class)
    (λ class. sum_by-cons (λ m. cond {A = ℕ} (has_class pipes unsent sizes class m) 1 0) n numbers) (length sizes) sizes
    ∙ bytes-sum one rest (length sizes) sizes
    ∙ ap (λ k. k + bytes_of (each_below rest (length sizes)) sizes) (bytes-one (class_of (asked_of pipes unsent n) sizes) sizes)
    ∙ ap (λ k. block_of sizes pipes unsent n + k) (bytes-all pipes unsent sizes numbers)
    ∙ sym (sum_by-cons (block_of sizes pipes unsent) n numbers)

-- the bytes in use are those of the blocks for the numbers that are held
pub bytes_of_sends : (limits : Limits) (s : State) →
    bytes_in_use (account_of limits s) ≡ sum_by (block_of limits.sizes s.pipes s.unsent) (held s.pipes s.unsent s.numbers_given)
bytes_of_sends limits s = bytes-all s.pipes s.unsent limits.sizes (held s.pipes s.unsent s.numbers_given)

-- No live pipe, and no unsent buffer. --

none_held : (unsent : List (List Buffer)) → buffers_in unsent ≡ [] → (given : ℕ) → held [] unsent given ≡ []
none_held unsent empty given = none (numbers_to given)
  where
    not_unsent : (n : ℕ) → is_unsent unsent n ≡ false
    not_unsent n = unsent_in unsent n ∙ ap (list_any (λ (buffer : Buffer). buffer.number == n)) empty

    none : (numbers : List ℕ) → filter (is_held [] unsent) numbers ≡ []
    none [] = refl
    none (n ∷ numbers) =
        ap (λ b. cond {A = List ℕ} b (n ∷ filter (is_held [] unsent) numbers) (filter (is_held [] unsent) numbers)) (not_unsent n)
        ∙ none numbers

no_blocks : (f : ℕ → ℕ) → ((class : ℕ) → f class ≡ 0) → (n : ℕ) → each_below f n ≡ replicate n 0
no_blocks f none zero = refl
no_blocks f none (suc n) =
    ap (λ k. k ∷ each_below (λ i. f (suc i)) n) (none 0)
    ∙ ap (λ (l : List ℕ). 0 ∷ l) (no_blocks (λ i. f (suc i)) (λ i. none (suc i)) n)

-- if no pipe is live and no buffer is unsent nothing is held
pub holds_nothing : (limits : Limits) (s : State) → s.pipes ≡ [] → buffers_in s.unsent ≡ [] → HoldsNothing limits s
holds_nothing limits s is empty =
    let none : held s.pipes s.unsent s.numbers_given ≡ [] =
    ap (λ (pipes : List Pipe). held pipes s.unsent s.numbers_given) is ∙ none_held s.unsent empty s.numbers_given in
    record {
      pipes = is;
      buffers = empty;
      sends = none;
      blocks = no_blocks (λ class. count_by (has_class s.pipes s.unsent limits.sizes class) (held s.pipes s.unsent s.numbers_given))
          (λ class. ap (count_by (has_class s.pipes s.unsent limits.sizes class)) none) (length limits.sizes);
      bytes = bytes_of_sends limits s ∙ ap (sum_by (block_of limits.sizes s.pipes s.unsent)) none;
    }
