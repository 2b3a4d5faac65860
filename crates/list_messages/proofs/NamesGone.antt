-- How often pipes and unsent buffers name numbers, once messages came, and messages and buffers left.
use Rattle.std.proofs.Common.{◌≡◌, ℕ, zero, suc, ◌+◌, ◌-◌, ◌<◌, ◌≤◌, ◌⊎◌, inl, inr, Bool, true, false, not, cond, eqb, List, [], ◌∷◌, ◌++◌, map, drop, length, get_or, set, Option, Some, None, refl, sym, ap, ◌∙◌, arith}
use Rattle.std.specs.List.{filter, flat_map, count_by, sum_by}
use Rattle.std.proofs.lemmas.Bool.{cases_lt}
use Rattle.std.proofs.lemmas.List.{set_past, get_or_past}
use Rattle.std.proofs.lemmas.List.Sums.{sum_by-append, sum_by-cons, sum_by_push}
use Rattle.bus_words.specs.Bus.{Item, Pipe, Buffer, Subscription, Sending, item_for, offered, verdict, deliver, with_pipe, unsent_of, without_unsent, without_all_unsent}
use Rattle.bus_words.specs.Pipes.{without_pipe, after_receive, oldest, queue_after, dropped_at, is_queued}
use Rattle.bus_words.specs.declared.verdict.Verdict.{Verdict}
use Rattle.bus_words.specs.declared.verdict.Verdict.TheVariants.{Skip, OverLimit, In, Oldest, Full}
use Rattle.bus_words.specs.Held.{names, named_by, buffers_in}
use Rattle.list_pipes.specs.Leaving.{number_in, numbers_on, numbers_at, numbers_of, last_at, dropped_on, dropped_from, joined_on, joined_to}
use Rattle.list_messages.specs.Tied.{dropped_by, joined_by, numbers_left}

abbrev one : Bool → ℕ
one b = cond {A = ℕ} b 1 0

-- how often a number is among these
abbrev pub times : ℕ → List ℕ → ℕ
times number numbers = count_by (λ other. eqb other number) numbers

-- how often these pipes name a number
abbrev pub named_on : ℕ → List Pipe → ℕ
named_on number pipes = sum_by (named_by number) pipes

-- how often unsent buffers name a number
abbrev pub named_unsent : List (List Buffer) → ℕ → ℕ
named_unsent unsent number = count_by (λ buffer. eqb buffer.number number) (buffers_in unsent)

-- Lists of numbers. --

pub times-append : (n : ℕ) (xs ys : List ℕ) → times n (xs ++ ys) ≡ times n xs + times n ys
times-append n xs ys = sum_by-append (λ (m : ℕ). one (eqb m n)) xs ys

times-cons : (n m : ℕ) (xs : List ℕ) → times n (m ∷ xs) ≡ one (eqb m n) + times n xs
times-cons n m xs = sum_by-cons (λ (k : ℕ). one (eqb k n)) m xs

item-cons : (n : ℕ) (item : Item) (items : List Item) → count_by (λ i. eqb i.number n) (item ∷ items) ≡ one (eqb item.number n) + count_by (λ i. eqb i.number n) items
item-cons n item items = sum_by-cons (λ (i : Item). one (eqb i.number n)) item items

buffer-cons : (n : ℕ) (buffer : Buffer) (buffers : List Buffer) →
    count_by (λ b. eqb b.number n) (buffer ∷ buffers) ≡ one (eqb buffer.number n) + count_by (λ b. eqb b.number n) buffers
buffer-cons n buffer buffers = sum_by-cons (λ (b : Buffer). one (eqb b.number n)) buffer buffers

-- One pipe. --

times-items : (n : ℕ) (items : List Item) → times n (map (λ (i : Item). i.number) items) ≡ count_by (λ i. eqb i.number n) items
times-items n [] = refl
times-items n (item ∷ items) =
    omega (arith, times-items n items, times-cons n item.number (map (λ (i : Item). i.number) items), item-cons n item items)

times-in : (n : ℕ) (item : Option Item) → times n (number_in item) ≡ names n item
times-in n None = refl
times-in n (Some item) = omega (arith, times-cons n item.number [])

times-on : (n : ℕ) (pipe : Pipe) → times n (numbers_on pipe) ≡ named_by n pipe
times-on n pipe =
    omega (arith, times-append n (map (λ (i : Item). i.number) pipe.queue) (number_in pipe.last), times-items n pipe.queue, times-in n pipe.last)

-- the oldest item that waits, and those behind it
front : (n : ℕ) (queue : List Item) → count_by (λ i. eqb i.number n) (drop 1 queue) + names n (oldest queue) ≡ count_by (λ i. eqb i.number n) queue
front n [] = refl
front n (item ∷ queue) = omega (arith, item-cons n item queue)

nothing : (b : Bool) → cond {A = ℕ} b 0 0 ≡ 0
nothing true = refl
nothing false = refl

-- a receive
received_one : (n : ℕ) (pipe : Pipe) → named_by n (after_receive pipe) + times n (number_in pipe.last) ≡ named_by n pipe + 0
received_one n pipe = omega (arith, times-in n pipe.last, front n pipe.queue)

-- an offer
offered_one : (n : ℕ) (sending : Sending) (sub : Subscription) (pipe : Pipe) →
    named_by n (offered sending sub pipe) + times n (dropped_on sending sub pipe) ≡ named_by n pipe + cond {A = ℕ} (eqb sending.number n) (joined_on sending sub pipe) 0
offered_one n sending sub pipe = by_verdict (verdict pipe sub sending.sender)
  where
    new : Item
    new = item_for sending sub

    pushed : (queue : List Item) → count_by (λ i. eqb i.number n) (queue ++ new ∷ []) ≡ count_by (λ i. eqb i.number n) queue + one (eqb sending.number n)
    pushed queue = sum_by_push (λ (i : Item). one (eqb i.number n)) queue new

    by_verdict : (v : Verdict) → named_by n (record pipe { queue = queue_after v new pipe.queue }) + times n (number_in (dropped_at v pipe.queue))
        ≡ named_by n pipe + cond {A = ℕ} (eqb sending.number n) (cond {A = ℕ} (is_queued v) 1 0) 0
    by_verdict Skip = omega (arith, nothing (eqb sending.number n))
    by_verdict OverLimit = omega (arith, nothing (eqb sending.number n))
    by_verdict In = omega (arith, pushed pipe.queue)
    by_verdict Oldest = omega (arith, pushed (drop 1 pipe.queue), front n pipe.queue, times-in n (oldest pipe.queue))
    by_verdict Full = omega (arith, nothing (eqb sending.number n))

-- Lists of pipes. --

-- those that pass a test leave
left : (n : ℕ) (test : Pipe → Bool) (pipes : List Pipe) →
    named_on n (filter (λ p. not (test p)) pipes) + times n (flat_map (λ p. cond {A = List ℕ} (test p) (numbers_on p) []) pipes) ≡ named_on n pipes
left n test [] = refl
left n test (pipe ∷ pipes) =
    let stay : List Pipe = filter (λ p. not (test p)) pipes in
    let gone : List ℕ = flat_map (λ p. cond {A = List ℕ} (test p) (numbers_on p) []) pipes in
    let rest : named_on n stay + times n gone ≡ named_on n pipes = left n test pipes in
    elim (test pipe) as (λ b. named_on n (cond {A = List Pipe} (not b) (pipe ∷ stay) stay) + times n (cond {A = List ℕ} b (numbers_on pipe) [] ++ gone) ≡ named_on n (pipe ∷ pipes)) [
      | true ↦ omega (arith, rest, times-append n (numbers_on pipe) gone, times-on n pipe, sum_by-cons (named_by n) pipe pipes)
      | false ↦ omega (arith, rest, sum_by-cons (named_by n) pipe stay, sum_by-cons (named_by n) pipe pipes)
    ]

-- those that pass a test change
changed : (n : ℕ) (test : Pipe → Bool) (change : Pipe → Pipe) (out : Pipe → List ℕ) (come : Pipe → ℕ) →
    ((p : Pipe) → named_by n (change p) + times n (out p) ≡ named_by n p + come p) → (pipes : List Pipe) →
    named_on n (map (λ p. cond {A = Pipe} (test p) (change p) p) pipes) + times n (flat_map (λ p. cond {A = List ℕ} (test p) (out p) []) pipes)
    ≡ named_on n pipes + sum_by (λ p. cond {A = ℕ} (test p) (come p) 0) pipes
changed n test change out come each [] = refl
changed n test change out come each (pipe ∷ pipes) =
    let next : List Pipe = map (λ p. cond {A = Pipe} (test p) (change p) p) pipes in
    let gone : List ℕ = flat_map (λ p. cond {A = List ℕ} (test p) (out p) []) pipes in
    let came : ℕ = sum_by (λ p. cond {A = ℕ} (test p) (come p) 0) pipes in
    let rest : named_on n next + times n gone ≡ named_on n pipes + came = changed n test change out come each pipes in
    let all : sum_by (λ p. cond {A = ℕ} (test p) (come p) 0) (pipe ∷ pipes) ≡ cond {A = ℕ} (test pipe) (come pipe) 0 + came = sum_by-cons (λ (p : Pipe). cond {A = ℕ} (test p) (come p) 0) pipe pipes in
    (elim (test pipe) as (λ b. named_on n (cond {A = Pipe} b (change pipe) pipe ∷ next) + times n (cond {A = List ℕ} b (out pipe) [] ++ gone)
    ≡ named_on n (pipe ∷ pipes) + (cond {A = ℕ} b (come pipe) 0 + came)) [
      | true ↦ omega (arith, rest, each pipe, times-append n (out pipe) gone, sum_by-cons (named_by n) (change pipe) next, sum_by-cons (named_by n) pipe pipes)
      | false ↦ omega (arith, rest, sum_by-cons (named_by n) pipe next, sum_by-cons (named_by n) pipe pipes)
    ])
    ∙ ap (λ k. named_on n (pipe ∷ pipes) + k) (sym all)

-- nothing comes
none_come : (test : Pipe → Bool) (pipes : List Pipe) → sum_by (λ p. cond {A = ℕ} (test p) 0 0) pipes ≡ 0
none_come test [] = refl
none_come test (pipe ∷ pipes) =
    omega (arith, none_come test pipes, nothing (test pipe), sum_by-cons (λ (p : Pipe). cond {A = ℕ} (test p) 0 0) pipe pipes)

-- what comes under a number, or doesn't
come_under : (b : Bool) (test : Pipe → Bool) (come : Pipe → ℕ) (pipes : List Pipe) →
    sum_by (λ p. cond {A = ℕ} (test p) (cond {A = ℕ} b (come p) 0) 0) pipes ≡ cond {A = ℕ} b (sum_by (λ p. cond {A = ℕ} (test p) (come p) 0) pipes) 0
come_under true test come pipes = refl
come_under false test come pipes = none_come test pipes

-- the pipe of a number leaves
pub left_pipe : (n number : ℕ) (pipes : List Pipe) → named_on n (without_pipe number pipes) + times n (numbers_at number pipes) ≡ named_on n pipes
left_pipe n number pipes = left n (λ p. eqb p.number number) pipes

-- an application's pipes leave
pub left_owner : (n app : ℕ) (pipes : List Pipe) → named_on n (filter (λ p. not (eqb p.owner app)) pipes) + times n (numbers_of app pipes) ≡ named_on n pipes
left_owner n app pipes = left n (λ p. eqb p.owner app) pipes

-- a receive on the pipe of a number
pub received_at : (n number : ℕ) (pipes : List Pipe) → named_on n (with_pipe after_receive number pipes) + times n (last_at number pipes) ≡ named_on n pipes
received_at n number pipes =
    omega (
      arith,
      changed n (λ p. eqb p.number number) after_receive (λ p. number_in p.last) (λ p. 0) (received_one n) pipes,
      none_come (λ p. eqb p.number number) pipes,
    )

-- one subscription is offered what is sent
offered_to : (n : ℕ) (sending : Sending) (sub : Subscription) (pipes : List Pipe) →
    named_on n (with_pipe (offered sending sub) sub.pipe pipes) + times n (dropped_from sending sub pipes) ≡ named_on n pipes + cond {A = ℕ} (eqb sending.number n) (joined_to sending sub pipes) 0
offered_to n sending sub pipes =
    omega (
      arith,
      changed n (λ p. eqb p.number sub.pipe) (offered sending sub) (dropped_on sending sub) (λ p. cond {A = ℕ} (eqb sending.number n) (joined_on sending sub p) 0) (offered_one n sending sub) pipes,
      come_under (eqb sending.number n) (λ p. eqb p.number sub.pipe) (joined_on sending sub) pipes,
    )

plus : (b : Bool) (x y : ℕ) → cond {A = ℕ} b (x + y) 0 ≡ cond {A = ℕ} b x 0 + cond {A = ℕ} b y 0
plus true x y = refl
plus false x y = refl

-- all subscriptions are, in order
delivered : (n : ℕ) (sending : Sending) (subs : List Subscription) (pipes : List Pipe) →
    named_on n (deliver sending subs pipes) + times n (dropped_by sending subs pipes) ≡ named_on n pipes + cond {A = ℕ} (eqb sending.number n) (joined_by sending subs pipes) 0
delivered n sending [] pipes = omega (arith, nothing (eqb sending.number n))
delivered n sending (sub ∷ subs) pipes =
    let next : List Pipe = with_pipe (offered sending sub) sub.pipe pipes in
    omega (
      arith,
      delivered n sending subs next,
      offered_to n sending sub pipes,
      times-append n (dropped_from sending sub pipes) (dropped_by sending subs next),
      plus (eqb sending.number n) (joined_to sending sub pipes) (joined_by sending subs next),
    )

-- so it is of what a delivery left
pub moves : (sending : Sending) (subs : List Subscription) (pipes next : List Pipe) (gone : List ℕ) (joined : ℕ) → next ≡ deliver sending subs pipes →
    gone ≡ dropped_by sending subs pipes → joined ≡ joined_by sending subs pipes →
    (n : ℕ) → named_on n next + times n gone ≡ named_on n pipes + cond {A = ℕ} (eqb sending.number n) joined 0
moves sending subs pipes next gone joined is left count n =
    omega (
      arith,
      delivered n sending subs pipes,
      ap (named_on n) is,
      ap (times n) left,
      ap (λ k. cond {A = ℕ} (eqb sending.number n) k 0) count,
    )

-- Buffers. --

-- how often buffers name a number, once one application's list is another
pub set_counted : (n : ℕ) (unsent : List (List Buffer)) (i : ℕ) (new : List Buffer) → i < length unsent →
    named_unsent (set unsent i new) n + count_by (λ b. eqb b.number n) (get_or unsent i []) ≡ named_unsent unsent n + count_by (λ b. eqb b.number n) new
set_counted n [] i new within = absurd (omega (arith, within))
set_counted n (buffers ∷ others) zero new within =
    let each : Buffer → ℕ = λ b. one (eqb b.number n) in
    omega (arith, sum_by-append each new (buffers_in others), sum_by-append each buffers (buffers_in others))
set_counted n (buffers ∷ others) (suc i) new within =
    let each : Buffer → ℕ = λ b. one (eqb b.number n) in
    omega (
      arith,
      sum_by-append each buffers (buffers_in (set others i new)),
      sum_by-append each buffers (buffers_in others),
      set_counted n others i new (omega (arith, within)),
    )

-- those of a number leave a list
left_own : (n number : ℕ) (buffers : List Buffer) →
    count_by (λ b. eqb b.number n) (filter (λ b. not (eqb b.number number)) buffers) + times n (numbers_left number buffers) ≡ count_by (λ b. eqb b.number n) buffers
left_own n number [] = refl
left_own n number (buffer ∷ buffers) =
    let stay : List Buffer = filter (λ b. not (eqb b.number number)) buffers in
    let gone : List ℕ = numbers_left number buffers in
    let rest : count_by (λ b. eqb b.number n) stay + times n gone ≡ count_by (λ b. eqb b.number n) buffers = left_own n number buffers in
    elim (eqb buffer.number number) as (λ b. count_by (λ x. eqb x.number n) (cond {A = List Buffer} (not b) (buffer ∷ stay) stay) + times n (cond {A = List ℕ} b (buffer.number ∷ []) [] ++ gone) ≡ count_by (λ x. eqb x.number n) (buffer ∷ buffers)) [
      | true ↦ omega (arith, rest, times-cons n buffer.number gone, buffer-cons n buffer buffers)
      | false ↦ omega (arith, rest, buffer-cons n buffer stay, buffer-cons n buffer buffers)
    ]

-- all leave a list
all_own : (n : ℕ) (buffers : List Buffer) → times n (map (λ (b : Buffer). b.number) buffers) ≡ count_by (λ b. eqb b.number n) buffers
all_own n [] = refl
all_own n (buffer ∷ buffers) =
    omega (arith, all_own n buffers, times-cons n buffer.number (map (λ (b : Buffer). b.number) buffers), buffer-cons n buffer buffers)

-- an application's list is another, and its numbers left
replaced : (n : ℕ) (unsent : List (List Buffer)) (i : ℕ) (new : List Buffer) (gone : List ℕ) →
    count_by (λ b. eqb b.number n) new + times n gone ≡ count_by (λ b. eqb b.number n) (get_or unsent i []) →
    named_unsent (set unsent i new) n + times n gone ≡ named_unsent unsent n
replaced n unsent i new gone own = at (cases_lt i (length unsent))
  where
    at : (i < length unsent) ⊎ (length unsent ≤ i) → named_unsent (set unsent i new) n + times n gone ≡ named_unsent unsent n
    at (inl within) = omega (arith, own, set_counted n unsent i new within)
    at (inr past) =
        omega (
          arith,
          own,
          ap (λ (u : List (List Buffer)). named_unsent u n) (set_past unsent i new past),
          ap (λ (bs : List Buffer). count_by (λ b. eqb b.number n) bs) (get_or_past unsent i [] past),
        )

-- an application's buffers of a number leave
pub left_buffer : (n : ℕ) (unsent : List (List Buffer)) (app number : ℕ) →
    named_unsent (without_unsent unsent app number) n + times n (numbers_left number (unsent_of unsent app)) ≡ named_unsent unsent n
left_buffer n unsent app number =
    replaced n unsent (app - 1) (filter (λ b. not (eqb b.number number)) (unsent_of unsent app)) (numbers_left number (unsent_of unsent app))
    (left_own n number (unsent_of unsent app))

-- all of them leave
pub left_buffers : (n : ℕ) (unsent : List (List Buffer)) (app : ℕ) →
    named_unsent (without_all_unsent unsent app) n + times n (map (λ (b : Buffer). b.number) (unsent_of unsent app)) ≡ named_unsent unsent n
left_buffers n unsent app =
    replaced n unsent (app - 1) [] (map (λ (b : Buffer). b.number) (unsent_of unsent app)) (omega (arith, all_own n (unsent_of unsent app)))
