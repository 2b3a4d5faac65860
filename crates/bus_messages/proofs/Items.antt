-- What is true of each item of the pipes, and what changes of the pipes leave of it.
use Rattle.std.proofs.Common.{◌≡◌, ℕ, ◌+◌, ◌≤◌, Bool, true, false, cond, eqb, List, [], ◌∷◌, length, map, drop, count_by, Option, Some, None, refl, ap, ◌∙◌, arith}
use Rattle.std.specs.List.{All}
use Rattle.std.specs.Option.{IfSome, option_map, option_map_or, option_and_then, option_to_list}
use Rattle.std.proofs.lemmas.Bool.{eqb-true}
use Rattle.std.proofs.lemmas.Bool.Decides.{nat_tests}
use Rattle.std.proofs.lemmas.List.Elements.{All-nil, All-cons, All-head, All-tail, All-push, All-weaker, All-drop, All-append, All-map}
use Rattle.std.proofs.lemmas.List.Sums.{sum_by-cons}
use Rattle.buf_desc.specs.declared.slot.Slot.{Slot}
use Rattle.bus_words.specs.Bus.{Item, Subscription}
use Rattle.bus_words.specs.Held.{items_of}
use Rattle.bus_routes.specs.declared.message.Message.{Message}
use Rattle.bus_routes.specs.declared.tables.ItemRow.{ItemRow}
use Rattle.bus_words.specs.Pipes.{pipe_at, with_pipe, after_receive, without_front, without_last, oldest, oldest_on, last_on, IsRising, queue_after, dropped_at}
use Rattle.bus_words.specs.declared.verdict.Verdict.{Verdict}
use Rattle.bus_words.specs.declared.verdict.Verdict.TheVariants.{Skip, OverLimit, In, Oldest, Full}
use Rattle.bus_routes.specs.Rows.{Row, verdict_on, item_of, offered_row, row_drops, deliver_rows, dropped_rows}
use Rattle.bus_routes.specs.Uses.{item_use, uses_in, uses_of}
use Rattle.bus_routes.proofs.UseCounts.{with_row_sum}
use Rattle.bus_messages.specs.Inside.{item_in, pipes_in, OfItems, AllItems, lasts_of}

-- One pipe. --

if_some_weaker : (P Q : ItemRow → Type 0) → ((i : ItemRow) → P i → Q i) → (o : Option ItemRow) → IfSome o P → IfSome o Q
if_some_weaker P Q f None p = p
if_some_weaker P Q f (Some i) p = f i p

of_weaker : (P Q : ItemRow → Type 0) → ((i : ItemRow) → P i → Q i) → (row : Row) → OfItems P row → OfItems Q row
of_weaker P Q f row all = record { queue = All-weaker P Q f row.queue all.queue; last = if_some_weaker P Q f row.last all.last }

-- All pipes. --

pub items_weaker : (P Q : ItemRow → Type 0) → ((i : ItemRow) → P i → Q i) → (rows : List Row) → AllItems P rows → AllItems Q rows
items_weaker P Q f rows all = All-weaker (OfItems P) (OfItems Q) (of_weaker P Q f) rows all

-- both at once
if_some_both : (P Q : ItemRow → Type 0) (o : Option ItemRow) → IfSome o P → IfSome o Q → IfSome o (λ i. P i × Q i)
if_some_both P Q None p q = p
if_some_both P Q (Some i) p q = (p, q)

pub items_both : (P Q : ItemRow → Type 0) (rows : List Row) → AllItems P rows → AllItems Q rows → AllItems (λ i. P i × Q i) rows
items_both P Q rows p q = λ k d within.
    let one = p k d within in
    let other = q k d within in
    record {
      queue = λ j e inside. (one.queue j e inside, other.queue j e inside);
      last = if_some_both P Q _ one.last other.last;
    }

-- if one pipe changes
pub items_with_row : (P : ItemRow → Type 0) (change : Row → Row) (number : ℕ) → ((row : Row) → OfItems P row → OfItems P (change row)) →
    (rows : List Row) → AllItems P rows → AllItems P (with_pipe change number rows)
items_with_row P change number keeps [] all = All-nil (OfItems P)
items_with_row P change number keeps (row ∷ rows) all =
    All-cons (OfItems P) (cond {A = Row} (eqb row.number number) (change row) row) (with_pipe change number rows)
    (by_test (eqb row.number number) (All-head (OfItems P) row rows all))
    (items_with_row P change number keeps rows (All-tail (OfItems P) row rows all))
  where
    by_test : (b : Bool) → OfItems P row → OfItems P (cond {A = Row} b (change row) row)
    by_test true one = keeps row one
    by_test false one = one

-- a pipe among them
pub items_found : (P : ItemRow → Type 0) (rows : List Row) (number : ℕ) → AllItems P rows → IfSome (pipe_at rows number) (OfItems P)
items_found P [] number all = tt
items_found P (row ∷ rows) number all = by_test (eqb row.number number) (All-head (OfItems P) row rows all) (items_found P rows number (All-tail (OfItems P) row rows all))
  where
    by_test : (b : Bool) → OfItems P row → IfSome (pipe_at rows number) (OfItems P) → IfSome (cond {A = Option Row} b (Some row) (pipe_at rows number)) (OfItems P)
    by_test true one rest = one
    by_test false one rest = rest

first_of : (P : ItemRow → Type 0) (queue : List ItemRow) → All P queue → IfSome (oldest queue) P
first_of P [] all = tt
first_of P (i ∷ queue) all = All-head P i queue all

-- the item received last, and the one that waits longest
pub last_found : (P : ItemRow → Type 0) (rows : List Row) (number : ℕ) → AllItems P rows → IfSome (last_on rows number) P
last_found P rows number all = at (pipe_at rows number) (items_found P rows number all)
  where
    at : (o : Option Row) → IfSome o (OfItems P) → IfSome (option_and_then (λ (row : Row). row.last) o) P
    at None one = tt
    at (Some row) one = one.last

pub oldest_found : (P : ItemRow → Type 0) (rows : List Row) (number : ℕ) → AllItems P rows → IfSome (oldest_on rows number) P
oldest_found P rows number all = at (pipe_at rows number) (items_found P rows number all)
  where
    at : (o : Option Row) → IfSome o (OfItems P) → IfSome (option_and_then (λ (row : Row). oldest row.queue) o) P
    at None one = tt
    at (Some row) one = first_of P row.queue one.queue

-- Changes. --

pub items_taken : (P : ItemRow → Type 0) (number : ℕ) (rows : List Row) → AllItems P rows → AllItems P (with_pipe after_receive number rows)
items_taken P number rows all =
    items_with_row P after_receive number (λ row one. record { queue = All-drop P 1 row.queue one.queue; last = first_of P row.queue one.queue }) rows all

pub items_fronted : (P : ItemRow → Type 0) (number : ℕ) (rows : List Row) → AllItems P rows → AllItems P (with_pipe without_front number rows)
items_fronted P number rows all =
    items_with_row P without_front number (λ row one. record { queue = All-drop P 1 row.queue one.queue; last = one.last }) rows all

pub items_unlasted : (P : ItemRow → Type 0) (number : ℕ) (rows : List Row) → AllItems P rows → AllItems P (with_pipe without_last number rows)
items_unlasted P number rows all = items_with_row P without_last number (λ row one. record { queue = one.queue; last = tt }) rows all

-- an offer
offered_items : (P : ItemRow → Type 0) (message : Message) → ((sub : Subscription) → P (item_of message sub)) → (sub : Subscription) (row : Row) → OfItems P row → OfItems P (offered_row message sub row)
offered_items P message new sub row one = record { queue = queued (verdict_on row sub message.sender); last = one.last }
  where
    queued : (v : Verdict) → All P (queue_after v (item_of message sub) row.queue)
    queued Skip = one.queue
    queued OverLimit = one.queue
    queued In = All-push P row.queue (item_of message sub) one.queue (new sub)
    queued Oldest = All-push P (drop 1 row.queue) (item_of message sub) (All-drop P 1 row.queue one.queue) (new sub)
    queued Full = one.queue

pub items_delivered : (P : ItemRow → Type 0) (message : Message) → ((sub : Subscription) → P (item_of message sub)) →
    (subs : List Subscription) (rows : List Row) → AllItems P rows → AllItems P (deliver_rows message subs rows)
items_delivered P message new [] rows all = all
items_delivered P message new (sub ∷ subs) rows all =
    items_delivered P message new subs (with_pipe (offered_row message sub) sub.pipe rows)
    (items_with_row P (offered_row message sub) sub.pipe (offered_items P message new sub) rows all)

-- and the items that leave have it too
all_if_some : (P : ItemRow → Type 0) (o : Option ItemRow) → IfSome o P → All P (option_to_list o)
all_if_some P None one = All-nil P
all_if_some P (Some i) one = All-cons P i [] one (All-nil P)

row_dropped : (P : ItemRow → Type 0) (message : Message) (sub : Subscription) (rows : List Row) → AllItems P rows → All P (row_drops message sub rows)
row_dropped P message sub rows all =
    all_if_some P (option_and_then (λ (row : Row). dropped_at (verdict_on row sub message.sender) row.queue) (pipe_at rows sub.pipe)) (at (pipe_at rows sub.pipe) (items_found P rows sub.pipe all))
  where
    leaving : (v : Verdict) (queue : List ItemRow) → All P queue → IfSome (dropped_at v queue) P
    leaving Skip queue one = tt
    leaving OverLimit queue one = tt
    leaving In queue one = tt
    leaving Oldest queue one = first_of P queue one
    leaving Full queue one = tt

    at : (o : Option Row) → IfSome o (OfItems P) → IfSome (option_and_then (λ (row : Row). dropped_at (verdict_on row sub message.sender) row.queue) o) P
    at None one = tt
    at (Some row) one = leaving (verdict_on row sub message.sender) row.queue one.queue

pub items_dropped : (P : ItemRow → Type 0) (message : Message) → ((sub : Subscription) → P (item_of message sub)) →
    (subs : List Subscription) (rows : List Row) → AllItems P rows → All P (dropped_rows message subs rows)
items_dropped P message new [] rows all = All-nil P
items_dropped P message new (sub ∷ subs) rows all =
    All-append P (row_drops message sub rows) (dropped_rows message subs (with_pipe (offered_row message sub) sub.pipe rows)) (row_dropped P message sub rows all)
    (items_dropped P message new subs (with_pipe (offered_row message sub) sub.pipe rows)
    (items_with_row P (offered_row message sub) sub.pipe (offered_items P message new sub) rows all))

-- Uses. --

abbrev IsOther : ℕ → ItemRow → Type 0
IsOther number item = item.number ≡ number → ⊥

one_use : (n : ℕ) (i : ItemRow) → i.number ≡ n → cond {A = ℕ} (eqb i.number n) 1 0 ≡ 1
one_use n i e = grind (arith, nat_tests)

no_use : (n : ℕ) (i : ItemRow) → IsOther n i → cond {A = ℕ} (eqb i.number n) 1 0 ≡ 0
no_use n i other = at (eqb i.number n) refl
  where
    at : (b : Bool) → eqb i.number n ≡ b → cond {A = ℕ} b 1 0 ≡ 0
    at true e = absurd (other (eqb-true i.number n e))
    at false e = refl

-- a send of no use is no item's
pub queue_unused : (n : ℕ) (queue : List ItemRow) → count_by (λ i. eqb i.number n) queue ≡ 0 → All (IsOther n) queue
queue_unused n [] none = All-nil (IsOther n)
queue_unused n (i ∷ queue) none =
    let split = sum_by-cons (λ (x : ItemRow). cond {A = ℕ} (eqb x.number n) 1 0) i queue in
    All-cons (IsOther n) i queue (λ e. absurd (omega (arith, split, none, one_use n i e))) (queue_unused n queue (omega (arith, split, none)))

last_unused : (n : ℕ) (o : Option ItemRow) → item_use n o ≡ 0 → IfSome o (IsOther n)
last_unused n None none = tt
last_unused n (Some i) none = λ e. absurd (omega (arith, none, one_use n i e))

pub unused : (n : ℕ) (rows : List Row) → uses_of n rows ≡ 0 → AllItems (IsOther n) rows
unused n [] none = All-nil (OfItems (IsOther n))
unused n (row ∷ rows) none =
    let split = sum_by-cons (uses_in n) row rows in
    All-cons (OfItems (IsOther n)) row rows
    (record { queue = queue_unused n row.queue (omega (arith, split, none)); last = last_unused n row.last (omega (arith, split, none)) })
    (unused n rows (omega (arith, split, none)))

-- and one that is no item's has no use
queue_other : (n : ℕ) (queue : List ItemRow) → All (IsOther n) queue → count_by (λ i. eqb i.number n) queue ≡ 0
queue_other n [] all = refl
queue_other n (i ∷ queue) all =
    let split = sum_by-cons (λ (x : ItemRow). cond {A = ℕ} (eqb x.number n) 1 0) i queue in
    omega (arith, split, no_use n i (All-head (IsOther n) i queue all), queue_other n queue (All-tail (IsOther n) i queue all))

last_other : (n : ℕ) (o : Option ItemRow) → IfSome o (IsOther n) → item_use n o ≡ 0
last_other n None all = refl
last_other n (Some i) all = no_use n i all

pub no_uses : (n : ℕ) (rows : List Row) → AllItems (IsOther n) rows → uses_of n rows ≡ 0
no_uses n [] all = refl
no_uses n (row ∷ rows) all =
    let split = sum_by-cons (uses_in n) row rows in
    let one = All-head (OfItems (IsOther n)) row rows all in
    omega (arith, split, queue_other n row.queue one.queue, last_other n row.last one.last, no_uses n rows (All-tail (OfItems (IsOther n)) row rows all))

-- a send that is received last is used
pub lasts_few : (n : ℕ) (rows : List Row) → lasts_of n rows ≤ uses_of n rows
lasts_few n [] = omega arith
lasts_few n (row ∷ rows) = omega (arith, sum_by-cons (uses_in n) row rows, sum_by-cons (λ (r : Row). item_use n r.last) row rows, lasts_few n rows)

last_once : (n : ℕ) (o : Option ItemRow) → item_use n o ≤ 1
last_once n None = omega arith
last_once n (Some i) = at (eqb i.number n)
  where
    at : (b : Bool) → cond {A = ℕ} b 1 0 ≤ 1
    at true = omega arith
    at false = omega arith

-- by no more pipes than there are
pub lasts_most : (n : ℕ) (rows : List Row) → lasts_of n rows ≤ length rows
lasts_most n [] = omega arith
lasts_most n (row ∷ rows) = omega (arith, sum_by-cons (λ (r : Row). item_use n r.last) row rows, last_once n row.last, lasts_most n rows)

-- Lasts. --

-- a change that keeps the last item keeps the counts
lasts_kept : (n : ℕ) (change : Row → Row) (number : ℕ) → ((row : Row) → (change row).last ≡ row.last) → (rows : List Row) → lasts_of n (with_pipe change number rows) ≡ lasts_of n rows
lasts_kept n change number keeps [] = refl
lasts_kept n change number keeps (row ∷ rows) =
    let next : Row = cond {A = Row} (eqb row.number number) (change row) row in
    omega (
      arith,
      sum_by-cons (λ (r : Row). item_use n r.last) next (with_pipe change number rows),
      sum_by-cons (λ (r : Row). item_use n r.last) row rows,
      ap (item_use n) (by_test (eqb row.number number)),
      lasts_kept n change number keeps rows,
    )
  where
    by_test : (b : Bool) → (cond {A = Row} b (change row) row).last ≡ row.last
    by_test true = keeps row
    by_test false = refl

pub lasts_delivered : (n : ℕ) (message : Message) (subs : List Subscription) (rows : List Row) → lasts_of n (deliver_rows message subs rows) ≡ lasts_of n rows
lasts_delivered n message [] rows = refl
lasts_delivered n message (sub ∷ subs) rows =
    lasts_delivered n message subs (with_pipe (offered_row message sub) sub.pipe rows)
    ∙ lasts_kept n (offered_row message sub) sub.pipe (λ row. refl) rows

pub lasts_fronted : (n number : ℕ) (rows : List Row) → lasts_of n (with_pipe without_front number rows) ≡ lasts_of n rows
lasts_fronted n number rows = lasts_kept n without_front number (λ row. refl) rows

-- a receive: the send received last before loses one, and the oldest gets one
pub lasts_taken : (n number : ℕ) (rows : List Row) → IsRising 0 rows →
    lasts_of n (with_pipe after_receive number rows) + item_use n (last_on rows number) ≡ lasts_of n rows + item_use n (oldest_on rows number)
lasts_taken n number rows rises = at (pipe_at rows number) (with_row_sum (λ (r : Row). item_use n r.last) after_receive number 0 rows rises)
  where
    at : (o : Option Row) →
        lasts_of n (with_pipe after_receive number rows) + option_map_or (λ (r : Row). item_use n r.last) o 0 ≡ lasts_of n rows + option_map_or (λ (r : Row). item_use n (after_receive r).last) o 0 →
        lasts_of n (with_pipe after_receive number rows) + item_use n (option_and_then (λ (row : Row). row.last) o) ≡ lasts_of n rows + item_use n (option_and_then (λ (row : Row). oldest row.queue) o)
    at None e = e
    at (Some row) e = e

pub lasts_unlasted : (n number : ℕ) (rows : List Row) → IsRising 0 rows →
    lasts_of n (with_pipe without_last number rows) + item_use n (last_on rows number) ≡ lasts_of n rows
lasts_unlasted n number rows rises = at (pipe_at rows number) (with_row_sum (λ (r : Row). item_use n r.last) without_last number 0 rows rises)
  where
    at : (o : Option Row) →
        lasts_of n (with_pipe without_last number rows) + option_map_or (λ (r : Row). item_use n r.last) o 0 ≡ lasts_of n rows + option_map_or (λ (r : Row). item_use n (without_last r).last) o 0 →
        lasts_of n (with_pipe without_last number rows) + item_use n (option_and_then (λ (row : Row). row.last) o) ≡ lasts_of n rows
    at None e = omega (arith, e)
    at (Some row) e = omega (arith, e)

-- What they are read as. --

-- what is true of each row's item is so of each item
module _ (slots : List Slot) (P : Item → Type 0) where
  abbrev Reads : ItemRow → Type 0
  Reads i = P (item_in slots i)

  of_last : (o : Option ItemRow) → IfSome o Reads → All P (option_to_list (option_map (item_in slots) o))
  of_last None is = All-nil P
  of_last (Some i) is = All-cons P (item_in slots i) [] is (All-nil P)

  pub of_items : (rows : List Row) → AllItems Reads rows → All P (items_of (pipes_in slots rows))
  of_items [] all = All-nil P
  of_items (row ∷ rows) all =
      let one = All-head (OfItems Reads) row rows all in
      All-append P (option_to_list (option_map (item_in slots) row.last)) _ (of_last row.last one.last)
      (All-append P (map (item_in slots) row.queue) (items_of (pipes_in slots rows)) (All-map P (item_in slots) row.queue one.queue)
      (of_items rows (All-tail (OfItems Reads) row rows all)))
