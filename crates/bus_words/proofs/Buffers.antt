-- Lists of unsent buffers: what adding, leaving and dropping make of them, taken all together.
use Rattle.std.proofs.Common.{◌≡◌, ℕ, zero, suc, ◌+◌, ◌-◌, ◌≤◌, ◌==◌, ◌||◌, not, Bool, true, false, cond, true≢false, eqb-true, List, [], ◌∷◌, filter, slice_set, slice_index_or, Option, Some, refl, ap, sym, ◌∙◌, arith}
use Rattle.std.specs.Prelude.{count_by, find, is_some}
use Rattle.std.specs.List.{list_any}
use Rattle.std.proofs.lemmas.List.Filters.{sum_by-filter_both}
use Rattle.std.proofs.lemmas.List.Folds.{list_any-append}
use Rattle.std.proofs.lemmas.List.Sums.{sum_by-append, sum_by-cons}
use Rattle.bus_words.specs.Bus.{Buffer, unsent_of, has_unsent, with_unsent, without_unsent, without_all_unsent}
use Rattle.bus_words.specs.Held.{is_unsent, buffers_in}
use Rattle.bus_words.proofs.Finds.{Each, Each-filter, Each-append, Each-front, Each-back, neither, find-any}

-- whether a buffer has this number
abbrev pub of_buffer : ℕ → Buffer → Bool
of_buffer n buffer = buffer.number == n

-- no buffer has it
abbrev pub OtherBuffer : ℕ → Buffer → Type 0
OtherBuffer n buffer = (buffer.number == n) ≡ false

-- All together. --

-- a number is an unsent buffer's if it is that of one of them all
pub unsent_in : (unsent : List (List Buffer)) (n : ℕ) → is_unsent unsent n ≡ list_any (of_buffer n) (buffers_in unsent)
unsent_in [] n = refl
unsent_in (buffers ∷ others) n =
    ap (λ b. list_any (of_buffer n) buffers || b) (unsent_in others n) ∙ sym (list_any-append (of_buffer n) buffers (buffers_in others))

any_none : {X : Type 0} (test : X → Bool) (xs : List X) → list_any test xs ≡ false → Each (λ x. test x ≡ false) xs
any_none test [] none = tt
any_none test (x ∷ xs) none = let parts = neither (test x) (list_any test xs) none in (parts.0, any_none test xs parts.1)

none_any : {X : Type 0} (test : X → Bool) (xs : List X) → Each (λ x. test x ≡ false) xs → list_any test xs ≡ false
none_any test [] each = refl
none_any test (x ∷ xs) each = ap (λ b. b || list_any test xs) each.0 ∙ none_any test xs each.1

pub not_unsent : (unsent : List (List Buffer)) (n : ℕ) → is_unsent unsent n ≡ false → Each (OtherBuffer n) (buffers_in unsent)
not_unsent unsent n none = any_none (of_buffer n) (buffers_in unsent) (sym (unsent_in unsent n) ∙ none)

pub none_unsent : (unsent : List (List Buffer)) (n : ℕ) → Each (OtherBuffer n) (buffers_in unsent) → is_unsent unsent n ≡ false
none_unsent unsent n each = unsent_in unsent n ∙ none_any (of_buffer n) (buffers_in unsent) each

-- a number that is an unsent buffer's was one before, if no buffer of it is new
pub was_unsent : (n : ℕ) (unsent after : List (List Buffer)) → (Each (OtherBuffer n) (buffers_in unsent) → Each (OtherBuffer n) (buffers_in after)) →
    is_unsent after n ≡ true → is_unsent unsent n ≡ true
was_unsent n unsent after keeps is = by_test (is_unsent unsent n) refl
  where
    by_test : (b : Bool) → is_unsent unsent n ≡ b → is_unsent unsent n ≡ true
    by_test true so = so
    by_test false so = absurd (true≢false (sym is ∙ none_unsent after n (keeps (not_unsent unsent n so))))

-- Changes. --

-- one application's buffers are among them all
pub Each-unsent_of : (P : Buffer → Type 0) (unsent : List (List Buffer)) (i : ℕ) → Each P (buffers_in unsent) → Each P (slice_index_or unsent i [])
Each-unsent_of P [] i each = tt
Each-unsent_of P (buffers ∷ others) zero each = Each-front P buffers (buffers_in others) each
Each-unsent_of P (buffers ∷ others) (suc i) each = Each-unsent_of P others i (Each-back P buffers (buffers_in others) each)

Each-set : (P : Buffer → Type 0) (unsent : List (List Buffer)) (i : ℕ) (new : List Buffer) → Each P (buffers_in unsent) → Each P new →
    Each P (buffers_in (slice_set unsent i new))
Each-set P [] i new each one = tt
Each-set P (buffers ∷ others) zero new each one = Each-append P new (buffers_in others) one (Each-back P buffers (buffers_in others) each)
Each-set P (buffers ∷ others) (suc i) new each one =
    Each-append P buffers (buffers_in (slice_set others i new)) (Each-front P buffers (buffers_in others) each)
    (Each-set P others i new (Each-back P buffers (buffers_in others) each) one)

pub Each-with_unsent : (P : Buffer → Type 0) (unsent : List (List Buffer)) (app : ℕ) (buffer : Buffer) → Each P (buffers_in unsent) → P buffer →
    Each P (buffers_in (with_unsent unsent app buffer))
Each-with_unsent P unsent app buffer each one =
    Each-set P unsent (app - 1) (buffer ∷ unsent_of unsent app) each (one, Each-unsent_of P unsent (app - 1) each)

pub Each-without_unsent : (P : Buffer → Type 0) (unsent : List (List Buffer)) (app n : ℕ) → Each P (buffers_in unsent) →
    Each P (buffers_in (without_unsent unsent app n))
Each-without_unsent P unsent app n each =
    Each-set P unsent (app - 1) (filter (λ buffer. not (buffer.number == n)) (unsent_of unsent app)) each
    (Each-filter P (λ buffer. not (buffer.number == n)) (unsent_of unsent app) (Each-unsent_of P unsent (app - 1) each))

pub Each-without_all : (P : Buffer → Type 0) (unsent : List (List Buffer)) (app : ℕ) → Each P (buffers_in unsent) → Each P (buffers_in (without_all_unsent unsent app))
Each-without_all P unsent app each = Each-set P unsent (app - 1) [] each tt

-- an application's buffer is one of them all
pub unsent_here : (unsent : List (List Buffer)) (app n : ℕ) → has_unsent unsent app n ≡ true → is_unsent unsent n ≡ true
unsent_here unsent app n has = by_test (is_unsent unsent n) refl
  where
    by_test : (b : Bool) → is_unsent unsent n ≡ b → is_unsent unsent n ≡ true
    by_test true so = so
    by_test false so =
        absurd (true≢false (sym has ∙ ap (λ (o : Option Buffer). is_some o) (find-any (of_buffer n) (unsent_of unsent app)
        (none_any (of_buffer n) (unsent_of unsent app) (Each-unsent_of (OtherBuffer n) unsent (app - 1) (not_unsent unsent n so))))))

-- what is so of each buffer is so of the one that an application has under a number
pub has_buffer : (P : Buffer → Type 0) (A : Type 0) (n : ℕ) → ((buffer : Buffer) → buffer.number ≡ n → P buffer → A) → (buffers : List Buffer) →
    Each P buffers → is_some (find (of_buffer n) buffers) ≡ true → A
has_buffer P A n gives [] each has = absurd (true≢false (sym has))
has_buffer P A n gives (buffer ∷ buffers) each has =
    elim (buffer.number == n) as (λ b. (buffer.number == n) ≡ b → is_some (cond {A = Option Buffer} b (Some buffer) (find (of_buffer n) buffers)) ≡ true → A) [
      | true ↦ λ is found. gives buffer (eqb-true buffer.number n is) each.0
      | false ↦ λ is found. has_buffer P A n gives buffers each.1 found
    ] refl has

-- Counting. --

-- how many there are of a number, once one application's list is another
count-set : (n : ℕ) (unsent : List (List Buffer)) (i : ℕ) (new : List Buffer) →
    count_by (of_buffer n) (buffers_in (slice_set unsent i new)) + count_by (of_buffer n) (slice_index_or unsent i [])
    ≤ count_by (of_buffer n) (buffers_in unsent) + count_by (of_buffer n) new
count-set n [] i new = omega arith
count-set n (buffers ∷ others) zero new =
    let one : Buffer → ℕ = λ buffer. cond {A = ℕ} (of_buffer n buffer) 1 0 in
    omega (arith, sum_by-append one new (buffers_in others), sum_by-append one buffers (buffers_in others))
count-set n (buffers ∷ others) (suc i) new =
    let one : Buffer → ℕ = λ buffer. cond {A = ℕ} (of_buffer n buffer) 1 0 in
    omega (arith, sum_by-append one buffers (buffers_in (slice_set others i new)), sum_by-append one buffers (buffers_in others), count-set n others i new)

pub count-with_unsent : (n : ℕ) (unsent : List (List Buffer)) (app : ℕ) (buffer : Buffer) →
    count_by (of_buffer n) (buffers_in (with_unsent unsent app buffer)) ≤ cond {A = ℕ} (buffer.number == n) 1 0 + count_by (of_buffer n) (buffers_in unsent)
count-with_unsent n unsent app buffer =
    omega (
      arith,
      count-set n unsent (app - 1) (buffer ∷ unsent_of unsent app),
      sum_by-cons (λ (other : Buffer). cond {A = ℕ} (of_buffer n other) 1 0) buffer (unsent_of unsent app),
    )

abbrev left_of : ℕ → List Buffer → List Buffer
left_of n buffers = filter (λ buffer. not (buffer.number == n)) buffers

count-left : (n gone : ℕ) (buffers : List Buffer) → count_by (of_buffer n) (left_of gone buffers) ≤ count_by (of_buffer n) buffers
count-left n gone buffers =
    omega (
      arith,
      sum_by-filter_both (of_buffer gone) (λ (buffer : Buffer). not (buffer.number == gone)) (λ buffer. refl) (λ (buffer : Buffer). cond {A = ℕ} (of_buffer n buffer) 1 0) buffers,
    )

pub count-without_unsent : (n gone : ℕ) (unsent : List (List Buffer)) (app : ℕ) →
    count_by (of_buffer n) (buffers_in (without_unsent unsent app gone)) ≤ count_by (of_buffer n) (buffers_in unsent)
count-without_unsent n gone unsent app =
    omega (arith, count-set n unsent (app - 1) (left_of gone (unsent_of unsent app)), count-left n gone (unsent_of unsent app))

pub count-without_all : (n : ℕ) (unsent : List (List Buffer)) (app : ℕ) →
    count_by (of_buffer n) (buffers_in (without_all_unsent unsent app)) ≤ count_by (of_buffer n) (buffers_in unsent)
count-without_all n unsent app = omega (arith, count-set n unsent (app - 1) [])

has_counted : (n : ℕ) (buffers : List Buffer) → is_some (find (of_buffer n) buffers) ≡ true → 1 ≤ count_by (of_buffer n) buffers
has_counted n [] has = absurd (true≢false (sym has))
has_counted n (buffer ∷ buffers) has =
    let split = sum_by-cons (λ (other : Buffer). cond {A = ℕ} (of_buffer n other) 1 0) buffer buffers in
    elim (buffer.number == n) as (λ b. (buffer.number == n) ≡ b → is_some (cond {A = Option Buffer} b (Some buffer) (find (of_buffer n) buffers)) ≡ true →
    1 ≤ count_by (of_buffer n) (buffer ∷ buffers)) [
      | true ↦ λ is found. omega (arith, split, ap (λ b. cond {A = ℕ} b 1 0) is)
      | false ↦ λ is found. omega (arith, split, has_counted n buffers found)
    ] refl has

-- of the number that left there is none any more, if there was one at most
pub count_gone : (n : ℕ) (unsent : List (List Buffer)) (app : ℕ) → has_unsent unsent app n ≡ true → count_by (of_buffer n) (buffers_in unsent) ≤ 1 →
    count_by (of_buffer n) (buffers_in (without_unsent unsent app n)) ≡ 0
count_gone n unsent app has once =
    omega (
      arith,
      once,
      count-set n unsent (app - 1) (left_of n (unsent_of unsent app)),
      has_counted n (unsent_of unsent app) has,
      none (unsent_of unsent app),
    )
  where
    none : (buffers : List Buffer) → count_by (of_buffer n) (left_of n buffers) ≡ 0
    none [] = refl
    none (buffer ∷ buffers) =
        elim (buffer.number == n) as (λ b. (buffer.number == n) ≡ b → count_by (of_buffer n) (cond {A = List Buffer} (not b) (buffer ∷ left_of n buffers) (left_of n buffers)) ≡ 0) [
          | true ↦ λ is. none buffers
          | false ↦ λ is.
              omega (
                arith,
                sum_by-cons (λ (other : Buffer). cond {A = ℕ} (of_buffer n other) 1 0) buffer (left_of n buffers),
                ap (λ b. cond {A = ℕ} b 1 0) is,
                none buffers,
              )
        ] refl
