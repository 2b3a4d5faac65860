-- The account by send numbers is the account by the numbers that are held.
use Rattle.std.proofs.Common.{◌≡◌, ℕ, zero, suc, ◌+◌, ◌<◌, ◌≤◌, ◌||◌, ◌&&◌, Bool, true, false, cond, eqb-true, eqb, leb, List, [], ◌∷◌, length, take, filter, find, Option, Some, refl, ap, sym, ◌∙◌, arith}
use Rattle.std.specs.List.{count_by, sum_by, list_any, All}
use Rattle.std.specs.Option.{option_map_or}
use Rattle.std.proofs.lemmas.Bool.Decides.{nat_tests}
use Rattle.std.proofs.lemmas.List.{take_all}
use Rattle.std.proofs.lemmas.List.Elements.{All-head, All-tail}
use Rattle.std.proofs.lemmas.List.Sums.{sum_by_push, sum_by_more, length-filter}
use Rattle.bus_words.specs.Bus.{Item, Pipe, Buffer}
use Rattle.bus_words.specs.Held.{named_by, is_held, numbers_to, held, items_of, buffers_in, size_in, asked_of, has_class, blocks_held}
use Rattle.bus_words.proofs.Buffers.{of_buffer, unsent_in}
use Rattle.bus_words.proofs.Items.{count-cons, of_number, named_items}
use Rattle.list_messages.specs.Sends.{Use, no_use, use_at, names_of, is_used, is_class, takes, blocks_out}
use Rattle.list_messages.specs.Tied.{IsTied}
use Rattle.list_messages.proofs.Outs.{each-same}

abbrev one : Bool → ℕ
one b = cond {A = ℕ} b 1 0

-- What was asked for. --

-- of some items of a send the first tells what was asked for
asked_found : (uses : List Use) (n other : ℕ) (items : List Item) → All (λ item. item.asked ≡ (use_at uses item.number).asked) items →
    1 ≤ count_by (of_number n) items → option_map_or (λ item. item.asked) (find (of_number n) items) other ≡ (use_at uses n).asked
asked_found uses n other [] all some = absurd (omega (arith, some))
asked_found uses n other (item ∷ items) all some =
    let split = count-cons (of_number n) item items in
    let P : Item → Type 0 = λ i. i.asked ≡ (use_at uses i.number).asked in
    elim (eqb item.number n) as (λ b. eqb item.number n ≡ b → option_map_or {U = ℕ} (λ (i : Item). i.asked) (cond {A = Option Item} b (Some item) (find (of_number n) items)) other ≡ (use_at uses n).asked) [
      | true ↦ λ is. All-head P item items all ∙ ap (λ k. (use_at uses k).asked) (eqb-true item.number n is)
      | false ↦ λ is. asked_found uses n other items (All-tail P item items all) (omega (arith, some, split, ap one is))
    ] refl

-- without any, the buffer does
asked_else : (uses : List Use) (n other : ℕ) (items : List Item) → count_by (of_number n) items ≡ 0 →
    option_map_or (λ item. item.asked) (find (of_number n) items) other ≡ other
asked_else uses n other [] none = refl
asked_else uses n other (item ∷ items) none =
    let split = count-cons (of_number n) item items in
    elim (eqb item.number n) as (λ b. eqb item.number n ≡ b → option_map_or {U = ℕ} (λ (i : Item). i.asked) (cond {A = Option Item} b (Some item) (find (of_number n) items)) other ≡ other) [
      | true ↦ λ is. absurd (omega (arith, none, split, ap one is))
      | false ↦ λ is. asked_else uses n other items (omega (arith, none, split, ap one is))
    ] refl

size_found : (uses : List Use) (n : ℕ) (buffers : List Buffer) → All (λ buffer. buffer.size ≡ (use_at uses buffer.number).asked) buffers →
    1 ≤ count_by (of_buffer n) buffers → option_map_or (λ buffer. buffer.size) (find (of_buffer n) buffers) 0 ≡ (use_at uses n).asked
size_found uses n [] all some = absurd (omega (arith, some))
size_found uses n (buffer ∷ buffers) all some =
    let split = count-cons (of_buffer n) buffer buffers in
    let P : Buffer → Type 0 = λ b. b.size ≡ (use_at uses b.number).asked in
    elim (eqb buffer.number n) as (λ b. eqb buffer.number n ≡ b → option_map_or {U = ℕ} (λ (x : Buffer). x.size) (cond {A = Option Buffer} b (Some buffer) (find (of_buffer n) buffers)) 0 ≡ (use_at uses n).asked) [
      | true ↦ λ is. All-head P buffer buffers all ∙ ap (λ k. (use_at uses k).asked) (eqb-true buffer.number n is)
      | false ↦ λ is. size_found uses n buffers (All-tail P buffer buffers all) (omega (arith, some, split, ap one is))
    ] refl

-- What is held. --

any_counted : (n : ℕ) (buffers : List Buffer) → list_any (of_buffer n) buffers ≡ leb 1 (count_by (of_buffer n) buffers)
any_counted n [] = refl
any_counted n (buffer ∷ buffers) = at (eqb buffer.number n) (count_by (of_buffer n) buffers) (any_counted n buffers) (count-cons (of_buffer n) buffer buffers)
  where
    at : (b : Bool) (k : ℕ) → list_any (of_buffer n) buffers ≡ leb 1 k → count_by (of_buffer n) (buffer ∷ buffers) ≡ one b + k →
        (b || list_any (of_buffer n) buffers) ≡ leb 1 (count_by (of_buffer n) (buffer ∷ buffers))
    at true k rest split = sym (ap (leb 1) split ∙ some k)
      where
        some : (k : ℕ) → leb 1 (1 + k) ≡ true
        some k = grind (arith, nat_tests)
    at false k rest split =
        let same : k ≡ count_by (of_buffer n) (buffer ∷ buffers) = omega (arith, split) in
        rest ∙ ap (leb 1) same

module _ (uses : List Use) (pipes : List Pipe) (unsent : List (List Buffer)) (tied : IsTied uses pipes unsent) where
  -- a number is held if it is named
  pub held_named : (n : ℕ) → is_held pipes unsent n ≡ is_used (use_at uses n)
  held_named n =
      ap (λ b. leb 1 (sum_by (named_by n) pipes) || b) (unsent_in unsent n ∙ any_counted n (buffers_in unsent))
      ∙ either (sum_by (named_by n) pipes) (count_by (of_buffer n) (buffers_in unsent))
      ∙ ap (leb 1) (sym (tied.named n))
    where
      either : (a b : ℕ) → (leb 1 a || leb 1 b) ≡ leb 1 (a + b)
      either zero b =
          let same : b ≡ 0 + b = omega arith in
          ap (leb 1) same
      either (suc a) b = ap (λ x. x || leb 1 b) (first a) ∙ sym (some a b)
        where
          first : (a : ℕ) → leb 1 (suc a) ≡ true
          first a = grind (arith, nat_tests)

          some : (a b : ℕ) → leb 1 (suc a + b) ≡ true
          some a b = grind (arith, nat_tests)

  -- and what was asked for under it is known
  pub asked_named : (n : ℕ) → is_held pipes unsent n ≡ true → asked_of pipes unsent n ≡ (use_at uses n).asked
  asked_named n is = by_items (count_by (of_number n) (items_of pipes)) refl
    where
      some : (k : ℕ) → leb 1 k ≡ true → 1 ≤ k
      some k is = grind (arith, nat_tests)

      by_items : (k : ℕ) → count_by (of_number n) (items_of pipes) ≡ k → asked_of pipes unsent n ≡ (use_at uses n).asked
      by_items zero none =
          asked_else uses n (size_in unsent n) (items_of pipes) none
          ∙ size_found uses n (buffers_in unsent) tied.buffers
          (omega (arith, some (names_of uses n) (sym (held_named n) ∙ is), tied.named n, named_items n pipes, none))
      by_items (suc k) many = asked_found uses n (size_in unsent n) (items_of pipes) tied.items (omega (arith, many))

  -- a number's block
  class_named : (sizes : List ℕ) (class n : ℕ) → (is_held pipes unsent n && has_class pipes unsent sizes class n) ≡ takes sizes class (use_at uses n)
  class_named sizes class n =
      elim (is_held pipes unsent n) as (λ b. is_held pipes unsent n ≡ b → (b && has_class pipes unsent sizes class n) ≡ takes sizes class (use_at uses n)) [
        | true ↦ λ is. ap (is_class sizes class) (asked_named n is) ∙ ap (λ b. b && is_class sizes class (use_at uses n).asked) (sym is ∙ held_named n)
        | false ↦ λ is. ap (λ b. b && is_class sizes class (use_at uses n).asked) (sym is ∙ held_named n)
      ] refl

-- Counting by number, and by place. --

-- of the first numbers, those whose uses pass a test
by_number : (test : Use → Bool) (uses : List Use) (k : ℕ) → k < length uses → test (use_at uses 0) ≡ false →
    count_by (λ n. test (use_at uses n)) (numbers_to k) ≡ count_by test (take (k + 1) uses)
by_number test uses zero within first =
    omega (arith, sum_by_more (λ (u : Use). one (test u)) uses 0 no_use within, ap one first)
by_number test uses (suc k) within first =
    let next : k + 1 ≡ suc k = omega arith in
    omega (
      arith,
      ap (λ j. count_by test (take j uses)) next,
      by_number test uses k (omega (arith, within)) first,
      sum_by_push (λ (n : ℕ). one (test (use_at uses n))) (numbers_to k) (suc k),
      sum_by_more (λ (u : Use). one (test u)) uses (suc k) no_use within,
    )

-- all of them
all_numbers : (test : Use → Bool) (uses : List Use) (given : ℕ) → length uses ≡ given + 1 → test (use_at uses 0) ≡ false →
    count_by (λ n. test (use_at uses n)) (numbers_to given) ≡ count_by test uses
all_numbers test uses given many first =
    by_number test uses given (omega (arith, many)) first ∙ ap (count_by test) (take_all (given + 1) uses (omega (arith, many)))

-- of those that pass a test, the ones that pass another
count-filter : {X : Type 0} (first second : X → Bool) (xs : List X) → count_by second (filter first xs) ≡ count_by (λ x. first x && second x) xs
count-filter first second [] = refl
count-filter {X} first second (x ∷ xs) =
    let rest = count-filter first second xs in
    (elim (first x) as (λ b. count_by second (cond {A = List X} b (x ∷ filter first xs) (filter first xs)) ≡ one (b && second x) + count_by (λ y. first y && second y) xs) [
      | true ↦ omega (arith, count-cons second x (filter first xs), rest)
      | false ↦ omega (arith, rest)
    ])
    ∙ sym (count-cons (λ y. first y && second y) x xs)

count-same : {X : Type 0} (test other : X → Bool) (xs : List X) → ((x : X) → test x ≡ other x) → count_by test xs ≡ count_by other xs
count-same test other [] same = refl
count-same test other (x ∷ xs) same =
    omega (arith, count-cons test x xs, count-cons other x xs, ap one (same x), count-same test other xs same)

module _ (uses : List Use) (pipes : List Pipe) (unsent : List (List Buffer)) (given : ℕ) (many : length uses ≡ given + 1)
    (none : names_of uses 0 ≡ 0) (tied : IsTied uses pipes unsent) where
  -- as many numbers are held as are named
  pub held_count : length (held pipes unsent given) ≡ count_by is_used uses
  held_count =
      length-filter (is_held pipes unsent) (numbers_to given)
      ∙ count-same (is_held pipes unsent) (λ n. is_used (use_at uses n)) (numbers_to given) (held_named uses pipes unsent tied)
      ∙ all_numbers is_used uses given many (ap (leb 1) none)

  -- and as many blocks are out
  pub blocks_are : (sizes : List ℕ) → blocks_held sizes pipes unsent given ≡ blocks_out sizes uses
  blocks_are sizes =
      each-same (λ class. count_by (has_class pipes unsent sizes class) (held pipes unsent given)) (λ class. count_by (takes sizes class) uses) (length sizes)
      (λ class.
      count-filter (is_held pipes unsent) (has_class pipes unsent sizes class) (numbers_to given)
      ∙ count-same (λ n. is_held pipes unsent n && has_class pipes unsent sizes class n) (λ n. takes sizes class (use_at uses n)) (numbers_to given)
      (class_named uses pipes unsent tied sizes class)
      ∙ all_numbers (takes sizes class) uses given many (ap (λ k. leb 1 k && is_class sizes class (use_at uses 0).asked) none))
