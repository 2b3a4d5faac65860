-- The items of pipes, and what a change of the pipes and of the unsent buffers makes of the numbers that are held.
use Rattle.std.proofs.Common.{◌≡◌, ℕ, ◌+◌, ◌==◌, ◌||◌, Bool, true, false, cond, true≢false, leb, List, [], ◌∷◌, ◌++◌, Option, Some, None, refl, ap, sym, ◌∙◌, arith}
use Rattle.std.specs.Prelude.{count_by, sum_by, drop}
use Rattle.std.specs.Option.{option_to_list}
use Rattle.std.proofs.lemmas.Bool.Decides.{nat_tests}
use Rattle.std.proofs.lemmas.List.Sums.{sum_by-append, sum_by-cons}
use Rattle.bus_words.specs.Bus.{Item, Pipe, Buffer, Subscription, Sending, verdict, item_for, offered, oldest, after_receive}
use Rattle.bus_words.specs.Pipes.{queue_after}
use Rattle.bus_words.specs.declared.verdict.Verdict.{Verdict}
use Rattle.bus_words.specs.declared.verdict.Verdict.TheVariants.{Skip, OverLimit, In, Oldest, Full}
use Rattle.bus_words.specs.Held.{names, named_by, is_on_pipes, is_unsent, is_held, items_of, buffers_in}
use Rattle.bus_words.proofs.Buffers.{OtherBuffer, was_unsent}
use Rattle.bus_words.proofs.Finds.{Each, Each-push, Each-drop, Each-append, Each-front, Each-back}

-- Items. --

-- the pipe's items have the property
pub record OfPipe (P : Item → Type 0) (pipe : Pipe) : Type 0 where
  pub queue : Each P pipe.queue
  pub last : Each P (option_to_list pipe.last)

pub OfPipe-drop : (P Q : Item → Type 0) → ((item : Item) → P item → Q item) → (pipe : Pipe) → OfPipe P pipe → OfPipe Q pipe
OfPipe-drop P Q gives pipe of = record { queue = Each-drop P Q pipe.queue gives of.queue; last = Each-drop P Q (option_to_list pipe.last) gives of.last }

Each-rest : (P : Item → Type 0) (queue : List Item) → Each P queue → Each P (drop 1 queue)
Each-rest P [] each = tt
Each-rest P (item ∷ queue) each = each.1

pub OfPipe-receive : (P : Item → Type 0) (pipe : Pipe) → OfPipe P pipe → OfPipe P (after_receive pipe)
OfPipe-receive P pipe of = record { queue = Each-rest P pipe.queue of.queue; last = first pipe.queue of.queue }
  where
    first : (queue : List Item) → Each P queue → Each P (option_to_list (oldest queue))
    first [] each = tt
    first (item ∷ queue) each = (each.0, tt)

-- what is queued once an item was offered
pub Each-queue_after : (P : Item → Type 0) (verdict : Verdict) (newest : Item) (queue : List Item) → Each P queue → P newest → Each P (queue_after verdict newest queue)
Each-queue_after P Skip newest queue each new = each
Each-queue_after P OverLimit newest queue each new = each
Each-queue_after P In newest queue each new = Each-push P queue newest each new
Each-queue_after P Oldest newest queue each new = Each-push P (drop 1 queue) newest (Each-rest P queue each) new
Each-queue_after P Full newest queue each new = each

pub OfPipe-offer : (P : Item → Type 0) (sending : Sending) → ((sub : Subscription) → P (item_for sending sub)) → (sub : Subscription) (pipe : Pipe) →
    OfPipe P pipe → OfPipe P (offered sending sub pipe)
OfPipe-offer P sending new sub pipe of = record {
  queue = Each-queue_after P (verdict pipe sub sending.sender) (item_for sending sub) pipe.queue of.queue (new sub);
  last = of.last;
}

pub to_items : (P : Item → Type 0) (pipes : List Pipe) → Each (OfPipe P) pipes → Each P (items_of pipes)
to_items P [] each = tt
to_items P (pipe ∷ pipes) each =
    Each-append P (option_to_list pipe.last) (pipe.queue ++ items_of pipes) each.0.last
    (Each-append P pipe.queue (items_of pipes) each.0.queue (to_items P pipes each.1))

pub of_items : (P : Item → Type 0) (pipes : List Pipe) → Each P (items_of pipes) → Each (OfPipe P) pipes
of_items P [] each = tt
of_items P (pipe ∷ pipes) each =
    let rest = Each-back P (option_to_list pipe.last) (pipe.queue ++ items_of pipes) each in (
      record {
        queue = Each-front P pipe.queue (items_of pipes) rest;
        last = Each-front P (option_to_list pipe.last) (pipe.queue ++ items_of pipes) each;
      },
      of_items P pipes (Each-back P pipe.queue (items_of pipes) rest),
    )

-- Counting. --

pub count-cons : {X : Type 0} (test : X → Bool) (x : X) (xs : List X) → count_by test (x ∷ xs) ≡ cond {A = ℕ} (test x) 1 0 + count_by test xs
count-cons test x xs = sum_by-cons (λ y. cond {A = ℕ} (test y) 1 0) x xs

pub or_true : (a b : Bool) → b ≡ true → (a || b) ≡ true
or_true true b is = refl
or_true false b is = is

pub none_counted : {X : Type 0} (test : X → Bool) (xs : List X) → count_by test xs ≡ 0 → Each (λ x. test x ≡ false) xs
none_counted test [] none = tt
none_counted test (x ∷ xs) none =
    let split = count-cons test x xs in (
      fails (test x) (omega (arith, none, split)),
      none_counted test xs (omega (arith, none, split)),
    )
  where
    fails : (b : Bool) → cond {A = ℕ} b 1 0 ≡ 0 → b ≡ false
    fails true is = absurd (omega (arith, is))
    fails false is = refl

pub all_none : {X : Type 0} (test : X → Bool) (xs : List X) → Each (λ x. test x ≡ false) xs → count_by test xs ≡ 0
all_none test [] each = refl
all_none test (x ∷ xs) each = omega (arith, count-cons test x xs, ap (λ b. cond {A = ℕ} b 1 0) each.0, all_none test xs each.1)

-- Numbers that are held. --

abbrev pub of_number : ℕ → Item → Bool
of_number n item = item.number == n

-- no item is of this send
abbrev pub Other : ℕ → Item → Type 0
Other n item = (item.number == n) ≡ false

-- a send is named as often as there are items of it
pub named_items : (n : ℕ) (pipes : List Pipe) → sum_by (named_by n) pipes ≡ count_by (of_number n) (items_of pipes)
named_items n [] = refl
named_items n (pipe ∷ pipes) =
    let one : Item → ℕ = λ item. cond {A = ℕ} (of_number n item) 1 0 in
    omega (
      arith,
      sum_by-cons (named_by n) pipe pipes,
      sum_by-append one (option_to_list pipe.last) (pipe.queue ++ items_of pipes),
      sum_by-append one pipe.queue (items_of pipes),
      named_last pipe.last,
      named_items n pipes,
    )
  where
    named_last : (last : Option Item) → names n last ≡ count_by (of_number n) (option_to_list last)
    named_last None = refl
    named_last (Some item) = sym (count-cons (of_number n) item [] ∙ plus (cond {A = ℕ} (of_number n item) 1 0))
      where
        plus : (k : ℕ) → k + 0 ≡ k
        plus k = omega arith

pub not_on_pipes : (n : ℕ) (pipes : List Pipe) → is_on_pipes pipes n ≡ false → Each (OfPipe (Other n)) pipes
not_on_pipes n pipes is = of_items (Other n) pipes (none_counted (of_number n) (items_of pipes) (sym (named_items n pipes) ∙ nothing (sum_by (named_by n) pipes) is))
  where
    nothing : (k : ℕ) → leb 1 k ≡ false → k ≡ 0
    nothing k is = grind (arith, nat_tests)

pub none_on_pipes : (n : ℕ) (pipes : List Pipe) → Each (OfPipe (Other n)) pipes → is_on_pipes pipes n ≡ false
none_on_pipes n pipes each = ap (leb 1) (named_items n pipes ∙ all_none (of_number n) (items_of pipes) (to_items (Other n) pipes each))

-- a send that pipes name was named before, if no item of it is new
pub was_on_pipes : (n : ℕ) (pipes next : List Pipe) → (Each (OfPipe (Other n)) pipes → Each (OfPipe (Other n)) next) → is_on_pipes next n ≡ true →
    is_on_pipes pipes n ≡ true
was_on_pipes n pipes next keeps is = by_test (is_on_pipes pipes n) refl
  where
    by_test : (b : Bool) → is_on_pipes pipes n ≡ b → is_on_pipes pipes n ≡ true
    by_test true so = so
    by_test false so = absurd (true≢false (sym is ∙ none_on_pipes n next (keeps (not_on_pipes n pipes so))))

-- a number that is held was held before, if no item and no buffer of it is new
pub was_held : (n : ℕ) (pipes next : List Pipe) (unsent after : List (List Buffer)) → (Each (OfPipe (Other n)) pipes → Each (OfPipe (Other n)) next) →
    (Each (OtherBuffer n) (buffers_in unsent) → Each (OtherBuffer n) (buffers_in after)) → is_held next after n ≡ true → is_held pipes unsent n ≡ true
was_held n pipes next unsent after keeps_items keeps_buffers is = by_test (is_on_pipes next n) refl
  where
    by_test : (b : Bool) → is_on_pipes next n ≡ b → is_held pipes unsent n ≡ true
    by_test true so = ap (λ b. b || is_unsent unsent n) (was_on_pipes n pipes next keeps_items so)
    by_test false so =
        or_true (is_on_pipes pipes n) (is_unsent unsent n)
        (was_unsent n unsent after keeps_buffers (ap (λ b. b || is_unsent after n) (sym so) ∙ is))
