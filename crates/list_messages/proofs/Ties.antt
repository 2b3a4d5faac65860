-- Send numbers stay tied to what names them, as pipes and unsent buffers change.
use Rattle.std.proofs.Common.{◌≡◌, ℕ, ◌+◌, ◌-◌, ◌<◌, ◌≤◌, ◌||◌, Bool, true, false, true≢false, cond, eqb, eq-eqb, eqb-true, List, [], ◌∷◌, ◌++◌, length, find, Option, Some, is_some, refl, ap, sym, ◌∙◌, subst, arith}
use Rattle.std.specs.List.{count_by, list_any, All}
use Rattle.std.specs.Option.{option_map_or}
use Rattle.std.proofs.lemmas.List.Elements.{All-head, All-tail, All-nil, All-cons}
use Rattle.bus_words.specs.Bus.{Item, Pipe, Buffer, Subscription, Sending, deliver, unsent_of, has_unsent, unsent_size, with_unsent}
use Rattle.bus_words.specs.Held.{items_of, buffers_in}
use Rattle.bus_words.proofs.Buffers.{of_buffer, unsent_in, unsent_here, Each-unsent_of, Each-with_unsent}
use Rattle.bus_words.proofs.Finds.{Each, Each-drop}
use Rattle.bus_words.proofs.Items.{OfPipe, OfPipe-offer, to_items, of_items, count-cons, named_items, of_number}
use Rattle.bus_words.proofs.Owners.{Each-deliver}
use Rattle.list_messages.specs.Sends.{Use, use_at, names_of, with_names, without_name, without_names}
use Rattle.list_messages.specs.Tied.{named_in, IsTied}
use Rattle.list_messages.proofs.NamesGone.{times, named_on, set_counted}
use Rattle.list_messages.proofs.NameCounts.{names-with, names-without, names-without_all, asked-with, asked-without, asked-without_all, old-push, names-push, was_given}

-- Lists of facts. --

pub all_each : {X : Type 0} (P : X → Type 0) (xs : List X) → All P xs → Each P xs
all_each P [] all = tt
all_each P (x ∷ xs) all = (All-head P x xs all, all_each P xs (All-tail P x xs all))

pub each_all : {X : Type 0} (P : X → Type 0) (xs : List X) → Each P xs → All P xs
each_all P [] each = All-nil P
each_all P (x ∷ xs) each = All-cons P x xs each.0 (each_all P xs each.1)

-- What was asked for. --

abbrev pub ItemAsked : List Use → Item → Type 0
ItemAsked uses item = item.asked ≡ (use_at uses item.number).asked

abbrev pub BufferAsked : List Use → Buffer → Type 0
BufferAsked uses buffer = buffer.size ≡ (use_at uses buffer.number).asked

-- the same under every number
abbrev pub SameAsked : List Use → List Use → Type 0
SameAsked uses next = (n : ℕ) → (use_at next n).asked ≡ (use_at uses n).asked

-- Names that go. --

module _ (uses : List Use) (pipes : List Pipe) (unsent : List (List Buffer)) (tied : IsTied uses pipes unsent) where
  -- pipes and buffers change, no item and no buffer is new, and the names that are gone are taken back
  pub gone_tied : (next : List Pipe) (after : List (List Buffer)) (gone : List ℕ) →
      ((P : Item → Type 0) → Each (OfPipe P) pipes → Each (OfPipe P) next) →
      ((P : Buffer → Type 0) → Each P (buffers_in unsent) → Each P (buffers_in after)) →
      ((n : ℕ) → named_in next after n + times n gone ≡ named_in pipes unsent n) → IsTied (without_names uses gone) next after
  gone_tied next after gone keeps_items keeps_buffers left =
      let now = without_names uses gone in
      record {
        named = λ n. omega (arith, names-without_all uses gone n, tied.named n, left n);
        items = each_all (ItemAsked now) (items_of next)
            (Each-drop (ItemAsked uses) (ItemAsked now) (items_of next) (λ item is. is ∙ sym (asked-without_all uses gone item.number))
            (to_items (ItemAsked uses) next (keeps_items (ItemAsked uses) (of_items (ItemAsked uses) pipes (all_each (ItemAsked uses) (items_of pipes) tied.items)))));
        buffers = each_all (BufferAsked now) (buffers_in after)
            (Each-drop (BufferAsked uses) (BufferAsked now) (buffers_in after) (λ buffer is. is ∙ sym (asked-without_all uses gone buffer.number))
            (keeps_buffers (BufferAsked uses) (all_each (BufferAsked uses) (buffers_in unsent) tied.buffers)));
      }

  -- no name goes
  pub same_tied : (next : List Pipe) → ((P : Item → Type 0) → Each (OfPipe P) pipes → Each (OfPipe P) next) →
      ((n : ℕ) → named_on n next ≡ named_on n pipes) → IsTied uses next unsent
  same_tied next keeps_items left = gone_tied next unsent [] keeps_items (λ P each. each) (λ n. omega (arith, left n))

-- Sends. --

-- a message is delivered under a number that is named, and the names that are gone are taken back
pub sent_tied : (uses : List Use) (pipes : List Pipe) (unsent : List (List Buffer)) (tied : IsTied uses pipes unsent) (sending : Sending) (subs : List Subscription)
    (next : List Pipe) (gone : List ℕ) (joined : ℕ) → next ≡ deliver sending subs pipes → sending.asked ≡ (use_at uses sending.number).asked →
    1 ≤ names_of uses sending.number → ((n : ℕ) → named_on n next + times n gone ≡ named_on n pipes + cond {A = ℕ} (eqb sending.number n) joined 0) →
    IsTied (without_names (with_names uses sending.number joined) gone) next unsent
sent_tied uses pipes unsent tied sending subs next gone joined is asked some moves =
    let grown = with_names uses sending.number joined in
    let now = without_names grown gone in
    let same : SameAsked uses now = λ n. asked-without_all grown gone n ∙ asked-with uses sending.number joined n in
    let Old : Item → Type 0 = ItemAsked uses in
    let items : Each Old (items_of next) =
    to_items Old next
    (subst (Each (OfPipe Old)) (sym is)
    (Each-deliver (OfPipe Old) sending (OfPipe-offer Old sending (λ sub. asked)) subs pipes
    (of_items Old pipes (all_each Old (items_of pipes) tied.items)))) in
    record {
      named = λ n.
          omega (
            arith,
            names-without_all grown gone n,
            names-with uses sending.number joined n (was_given uses sending.number some),
            tied.named n,
            moves n,
          );
      items = each_all (ItemAsked now) (items_of next) (Each-drop Old (ItemAsked now) (items_of next) (λ item so. so ∙ sym (same item.number)) items);
      buffers = each_all (BufferAsked now) (buffers_in unsent)
          (Each-drop (BufferAsked uses) (BufferAsked now) (buffers_in unsent) (λ buffer so. so ∙ sym (same buffer.number))
          (all_each (BufferAsked uses) (buffers_in unsent) tied.buffers));
    }

-- One number more. --

itself : (n : ℕ) → cond {A = ℕ} (eqb n n) 1 0 ≡ 1
itself n = ap (λ b. cond {A = ℕ} b 1 0) (eq-eqb n n refl)

-- what was asked for under a number that was given stays, and items have such numbers
items_kept : (uses next : List Use) (items : List Item) → ((n : ℕ) → n < length uses → (use_at next n).asked ≡ (use_at uses n).asked) →
    ((n : ℕ) → count_by (of_number n) items ≤ names_of uses n) → Each (ItemAsked uses) items → Each (ItemAsked next) items
items_kept uses next [] kept counted each = tt
items_kept uses next (item ∷ items) kept counted each =
    let some : 1 ≤ names_of uses item.number =
    omega (arith, counted item.number, count-cons (of_number item.number) item items, itself item.number) in (
      each.0 ∙ sym (kept item.number (was_given uses item.number some)),
      items_kept uses next items kept (λ n. omega (arith, counted n, count-cons (of_number n) item items)) each.1,
    )

-- and so have buffers
buffers_kept : (uses next : List Use) (buffers : List Buffer) → ((n : ℕ) → n < length uses → (use_at next n).asked ≡ (use_at uses n).asked) →
    ((n : ℕ) → count_by (of_buffer n) buffers ≤ names_of uses n) → Each (BufferAsked uses) buffers → Each (BufferAsked next) buffers
buffers_kept uses next [] kept counted each = tt
buffers_kept uses next (buffer ∷ buffers) kept counted each =
    let some : 1 ≤ names_of uses buffer.number =
    omega (arith, counted buffer.number, count-cons (of_buffer buffer.number) buffer buffers, itself buffer.number) in (
      each.0 ∙ sym (kept buffer.number (was_given uses buffer.number some)),
      buffers_kept uses next buffers kept (λ n. omega (arith, counted n, count-cons (of_buffer n) buffer buffers)) each.1,
    )

-- a number is named once more than pipes and buffers name it, and all others so often as they do
pub record IsTiedBut (uses : List Use) (pipes : List Pipe) (unsent : List (List Buffer)) (number : ℕ) : Type 0 where
  pub named : (n : ℕ) → names_of uses n ≡ named_in pipes unsent n + cond {A = ℕ} (eqb number n) 1 0
  pub items : All (ItemAsked uses) (items_of pipes)
  pub buffers : All (BufferAsked uses) (buffers_in unsent)

-- as a new one is
pub drawn_tied : (uses : List Use) (pipes : List Pipe) (unsent : List (List Buffer)) (size : ℕ) → IsTied uses pipes unsent →
    IsTiedBut (uses ++ record { asked = size; named = 1 } ∷ []) pipes unsent (length uses)
drawn_tied uses pipes unsent size tied =
    let u : Use = record { asked = size; named = 1 } in
    let now = uses ++ u ∷ [] in
    let kept : (n : ℕ) → n < length uses → (use_at now n).asked ≡ (use_at uses n).asked = λ n within. ap (λ (x : Use). x.asked) (old-push uses u n within) in
    record {
      named = λ n. omega (arith, names-push uses size n, tied.named n);
      items = each_all (ItemAsked now) (items_of pipes)
          (items_kept uses now (items_of pipes) kept (λ n. omega (arith, tied.named n, named_items n pipes))
          (all_each (ItemAsked uses) (items_of pipes) tied.items));
      buffers = each_all (BufferAsked now) (buffers_in unsent)
          (buffers_kept uses now (buffers_in unsent) kept (λ n. omega (arith, tied.named n))
          (all_each (BufferAsked uses) (buffers_in unsent) tied.buffers));
    }

-- until its message is delivered, and its own name is taken back
pub delivered_tied : (uses : List Use) (pipes : List Pipe) (unsent : List (List Buffer)) (sending : Sending) (subs : List Subscription)
    (next : List Pipe) (gone : List ℕ) (joined : ℕ) → IsTiedBut uses pipes unsent sending.number → next ≡ deliver sending subs pipes →
    sending.asked ≡ (use_at uses sending.number).asked → ((n : ℕ) → named_on n next + times n gone ≡ named_on n pipes + cond {A = ℕ} (eqb sending.number n) joined 0) →
    IsTied (without_name (without_names (with_names uses sending.number joined) gone) sending.number) next unsent
delivered_tied uses pipes unsent sending subs next gone joined but is asked moves =
    let m = sending.number in
    let grown = with_names uses m joined in
    let settled = without_names grown gone in
    let now = without_name settled m in
    let same : SameAsked uses now = λ n. asked-without settled m n ∙ asked-without_all grown gone n ∙ asked-with uses m joined n in
    let Old : Item → Type 0 = ItemAsked uses in
    let items : Each Old (items_of next) =
    to_items Old next
    (subst (Each (OfPipe Old)) (sym is)
    (Each-deliver (OfPipe Old) sending (OfPipe-offer Old sending (λ sub. asked)) subs pipes
    (of_items Old pipes (all_each Old (items_of pipes) but.items)))) in
    let given : m < length uses = was_given uses m (omega (arith, but.named m, itself m)) in
    record {
      named = λ n.
          omega (
            arith,
            names-without settled m n,
            names-without_all grown gone n,
            names-with uses m joined n given,
            but.named n,
            moves n,
            by_test (eqb m n) joined,
          );
      items = each_all (ItemAsked now) (items_of next) (Each-drop Old (ItemAsked now) (items_of next) (λ item so. so ∙ sym (same item.number)) items);
      buffers = each_all (BufferAsked now) (buffers_in unsent)
          (Each-drop (BufferAsked uses) (BufferAsked now) (buffers_in unsent) (λ buffer so. so ∙ sym (same buffer.number))
          (all_each (BufferAsked uses) (buffers_in unsent) but.buffers));
    }
  where
    by_test : (b : Bool) (k : ℕ) → cond {A = ℕ} b k 0 + cond {A = ℕ} b 1 0 ≡ cond {A = ℕ} b (k + 1) 0
    by_test true k = refl
    by_test false k = refl

-- Buffers. --

-- a new number is the buffer's that an application is given
pub added_tied : (uses : List Use) (pipes : List Pipe) (unsent : List (List Buffer)) (app number size : ℕ) → IsTiedBut uses pipes unsent number →
    app - 1 < length unsent → size ≡ (use_at uses number).asked → IsTied uses pipes (with_unsent unsent app (record { number = number; size = size }))
added_tied uses pipes unsent app number size but within asked =
    let new : Buffer = record { number = number; size = size } in
    let own = unsent_of unsent app in
    record {
      named = λ n. omega (arith, but.named n, set_counted n unsent (app - 1) (new ∷ own) within, count-cons (of_buffer n) new own);
      items = but.items;
      buffers = each_all (BufferAsked uses) (buffers_in (with_unsent unsent app new))
          (Each-with_unsent (BufferAsked uses) unsent app new (all_each (BufferAsked uses) (buffers_in unsent) but.buffers) asked);
    }

-- or nobody's, if there is no such application
pub unplaced_tied : (uses : List Use) (pipes : List Pipe) (unsent : List (List Buffer)) (number : ℕ) → IsTiedBut uses pipes unsent number →
    IsTied (without_name uses number) pipes unsent
unplaced_tied uses pipes unsent number but =
    let now = without_name uses number in
    record {
      named = λ n. omega (arith, but.named n, names-without uses number n);
      items = each_all (ItemAsked now) (items_of pipes)
          (Each-drop (ItemAsked uses) (ItemAsked now) (items_of pipes) (λ item so. so ∙ sym (asked-without uses number item.number))
          (all_each (ItemAsked uses) (items_of pipes) but.items));
      buffers = each_all (BufferAsked now) (buffers_in unsent)
          (Each-drop (BufferAsked uses) (BufferAsked now) (buffers_in unsent) (λ buffer so. so ∙ sym (asked-without uses number buffer.number))
          (all_each (BufferAsked uses) (buffers_in unsent) but.buffers));
    }

-- what was asked for under the number of one of these buffers is its size
found_size : (uses : List Use) (number : ℕ) (buffers : List Buffer) → Each (BufferAsked uses) buffers → is_some (find (of_buffer number) buffers) ≡ true →
    option_map_or (λ buffer. buffer.size) (find (of_buffer number) buffers) 0 ≡ (use_at uses number).asked
found_size uses number [] each has = absurd (true≢false (sym has))
found_size uses number (buffer ∷ buffers) each has =
    elim (eqb buffer.number number) as (λ b. eqb buffer.number number ≡ b → is_some (cond {A = Option Buffer} b (Some buffer) (find (of_buffer number) buffers)) ≡ true →
    option_map_or {U = ℕ} (λ (x : Buffer). x.size) (cond {A = Option Buffer} b (Some buffer) (find (of_buffer number) buffers)) 0 ≡ (use_at uses number).asked) [
      | true ↦ λ is found. each.0 ∙ ap (λ k. (use_at uses k).asked) (eqb-true buffer.number number is)
      | false ↦ λ is found. found_size uses number buffers each.1 found
    ] refl has

-- what was asked for under an application's buffer is its size, and its number is named
pub size_tied : (uses : List Use) (pipes : List Pipe) (unsent : List (List Buffer)) (app number : ℕ) → IsTied uses pipes unsent →
    has_unsent unsent app number ≡ true → (unsent_size unsent app number ≡ (use_at uses number).asked) × (1 ≤ names_of uses number)
size_tied uses pipes unsent app number tied has = (
  found_size uses number (unsent_of unsent app) (Each-unsent_of (BufferAsked uses) unsent (app - 1) (all_each (BufferAsked uses) (buffers_in unsent) tied.buffers)) has,
  omega (arith, tied.named number, counted (buffers_in unsent) (sym (unsent_in unsent number) ∙ unsent_here unsent app number has)),
)
  where
    counted : (buffers : List Buffer) → list_any (of_buffer number) buffers ≡ true → 1 ≤ count_by (of_buffer number) buffers
    counted [] some = absurd (true≢false (sym some))
    counted (buffer ∷ buffers) some =
        let split = count-cons (of_buffer number) buffer buffers in
        elim (eqb buffer.number number) as (λ b. eqb buffer.number number ≡ b → (b || list_any (of_buffer number) buffers) ≡ true → 1 ≤ count_by (of_buffer number) (buffer ∷ buffers)) [
          | true ↦ λ is found. omega (arith, split, ap (λ b. cond {A = ℕ} b 1 0) is)
          | false ↦ λ is found. omega (arith, split, counted buffers found)
        ] refl some
