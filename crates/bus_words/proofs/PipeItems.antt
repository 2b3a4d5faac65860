-- What is delivered commutes with a map of items: if items of one kind stand for items of another, pipes of these stand for
-- pipes of those, and each change of the one is that change of the other.
use Rattle.std.proofs.Common.{◌≡◌, ℕ, ◌+◌, Bool, true, false, ◌&&◌, cond, eqb, leb, List, [], ◌∷◌, map, count_by, drop, Option, Some, None, refl, ap, sym, ◌∙◌}
use Rattle.std.specs.Prelude.{nat_lt}
use Rattle.std.specs.Option.{option_map, option_map_or, option_and_then}
use Rattle.std.proofs.lemmas.List.{length-map, map_push}
use Rattle.std.proofs.lemmas.List.Sums.{sum_by-cons}
use Rattle.fsw_base.proofs.Lists.{find-map, list_any-map}
use Rattle.bus_words.specs.Pipes.{PipeOf, Subscription, Offer, is_queued, is_oldest, oldest, pipe_at, owns, with_pipe, oldest_on, last_on, IsRising, after_receive, ignores_sender, drops_oldest, waiting_of, verdict_over, verdict, queue_after, dropped_at, offered_over, offered, deliver, counted_by, verdicts_of, reached, drops, pipe_by}
use Rattle.bus_words.specs.declared.verdict.Verdict.{Verdict}
use Rattle.bus_words.specs.declared.verdict.Verdict.TheVariants.{Skip, OverLimit, In, Oldest, Full}

-- a change of a pipe is that change of the one that it stands for
pub with_pipe-map : {A B : Type 0} (read : A → B) (change : PipeOf A → PipeOf A) (next : PipeOf B → PipeOf B) →
    ((pipe : PipeOf A) → pipe_by read (change pipe) ≡ next (pipe_by read pipe)) →
    (number : ℕ) (pipes : List (PipeOf A)) → map (pipe_by read) (with_pipe change number pipes) ≡ with_pipe next number (map (pipe_by read) pipes)
with_pipe-map read change next same number [] = refl
with_pipe-map {A} {B} read change next same number (pipe ∷ pipes) =
    ap (λ p. p ∷ map (pipe_by read) (with_pipe change number pipes)) (turn (eqb pipe.number number))
    ∙ ap (λ ps. cond {A = PipeOf B} (eqb pipe.number number) (next (pipe_by read pipe)) (pipe_by read pipe) ∷ ps) (with_pipe-map read change next same number pipes)
  where
    turn : (b : Bool) → pipe_by read (cond {A = PipeOf A} b (change pipe) pipe) ≡ cond {A = PipeOf B} b (next (pipe_by read pipe)) (pipe_by read pipe)
    turn true = same pipe
    turn false = refl

-- Look-ups. --

pub pipe_at-map : {A B : Type 0} (read : A → B) (pipes : List (PipeOf A)) (number : ℕ) → pipe_at (map (pipe_by read) pipes) number ≡ option_map (pipe_by read) (pipe_at pipes number)
pipe_at-map {A} {B} read pipes number = find-map (λ (pipe : PipeOf B). eqb pipe.number number) (pipe_by read) pipes

pub owns-map : {A B : Type 0} (read : A → B) (pipes : List (PipeOf A)) (app number : ℕ) → owns (map (pipe_by read) pipes) app number ≡ owns pipes app number
owns-map {A} {B} read pipes app number = list_any-map (λ (pipe : PipeOf B). eqb pipe.number number && eqb pipe.owner app) (pipe_by read) pipes

pub oldest-map : {A B : Type 0} (read : A → B) (queue : List A) → oldest (map read queue) ≡ option_map read (oldest queue)
oldest-map read [] = refl
oldest-map read (item ∷ items) = refl

-- the item that waits longest
pub oldest_on-map : {A B : Type 0} (read : A → B) (pipes : List (PipeOf A)) (number : ℕ) → oldest_on (map (pipe_by read) pipes) number ≡ option_map read (oldest_on pipes number)
oldest_on-map {A} {B} read pipes number =
    ap (λ o. option_and_then (λ (pipe : PipeOf B). oldest pipe.queue) o) (pipe_at-map read pipes number) ∙ by_pipe (pipe_at pipes number)
  where
    by_pipe : (o : Option (PipeOf A)) →
        option_and_then (λ (pipe : PipeOf B). oldest pipe.queue) (option_map (pipe_by read) o) ≡ option_map read (option_and_then (λ (pipe : PipeOf A). oldest pipe.queue) o)
    by_pipe None = refl
    by_pipe (Some pipe) = oldest-map read pipe.queue

-- the last item
pub last_on-map : {A B : Type 0} (read : A → B) (pipes : List (PipeOf A)) (number : ℕ) → last_on (map (pipe_by read) pipes) number ≡ option_map read (last_on pipes number)
last_on-map {A} {B} read pipes number =
    ap (λ o. option_and_then (λ (pipe : PipeOf B). pipe.last) o) (pipe_at-map read pipes number) ∙ by_pipe (pipe_at pipes number)
  where
    by_pipe : (o : Option (PipeOf A)) →
        option_and_then (λ (pipe : PipeOf B). pipe.last) (option_map (pipe_by read) o) ≡ option_map read (option_and_then (λ (pipe : PipeOf A). pipe.last) o)
    by_pipe None = refl
    by_pipe (Some pipe) = refl

-- their numbers rise
pub IsRising-map : {A B : Type 0} (read : A → B) (below : ℕ) (pipes : List (PipeOf A)) → IsRising below pipes → IsRising below (map (pipe_by read) pipes)
IsRising-map read below [] rises = tt
IsRising-map read below (pipe ∷ pipes) rises = (rises.0, IsRising-map read pipe.number pipes rises.1)

-- a receive
pub after_receive-map : {A B : Type 0} (read : A → B) (pipe : PipeOf A) → pipe_by read (after_receive pipe) ≡ after_receive (pipe_by read pipe)
after_receive-map {A} {B} read pipe = by_queue pipe.queue
  where
    by_queue : (queue : List A) →
        pipe_by read (record pipe { queue = drop 1 queue; last = oldest queue })
        ≡ record (pipe_by read pipe) { queue = drop 1 (map read queue); last = oldest (map read queue) }
    by_queue [] = refl
    by_queue (item ∷ items) = refl

-- Delivery. --

-- a message that pipes of one kind are offered is the one that pipes of the other are
pub record IsOffer {A B : Type 0} (read : A → B) (from : Offer A) (to : Offer B) : Type 0 where
  pub sender : to.sender ≡ from.sender
  pub subscription : (item : A) → to.subscription_of (read item) ≡ from.subscription_of item
  pub item : (sub : Subscription) → read (from.item_for sub) ≡ to.item_for sub

-- a count behind a map
counted : {A B : Type 0} (read : A → B) (p : A → Bool) (q : B → Bool) → ((item : A) → q (read item) ≡ p item) → (items : List A) → count_by q (map read items) ≡ count_by p items
counted read p q same [] = refl
counted read p q same (item ∷ items) =
    sum_by-cons (λ y. cond {A = ℕ} (q y) 1 0) (read item) (map read items)
    ∙ ap (λ b. cond {A = ℕ} b 1 0 + count_by q (map read items)) (same item)
    ∙ ap (λ n. cond {A = ℕ} (p item) 1 0 + n) (counted read p q same items)
    ∙ sym (sum_by-cons (λ y. cond {A = ℕ} (p y) 1 0) item items)

-- how many wait
pub waiting_of-map : {A B : Type 0} (read : A → B) (of_from : A → ℕ) (of_to : B → ℕ) → ((item : A) → of_to (read item) ≡ of_from item) →
    (pipe : PipeOf A) (number : ℕ) → waiting_of of_to (pipe_by read pipe) number ≡ waiting_of of_from pipe number
waiting_of-map read of_from of_to same pipe number =
    counted read (λ item. eqb (of_from item) number) (λ item. eqb (of_to item) number) (λ item. ap (λ n. eqb n number) (same item)) pipe.queue

-- the verdict on a message whose subscription's limit is known to be reached or not
pub verdict_over-map : {A B : Type 0} (read : A → B) (is_over : Bool) (pipe : PipeOf A) (sender : ℕ) → verdict_over is_over (pipe_by read pipe) sender ≡ verdict_over is_over pipe sender
verdict_over-map read is_over pipe sender =
    ap (λ n. cond {A = Verdict} (ignores_sender pipe sender) Skip (cond {A = Verdict} is_over OverLimit (cond {A = Verdict} (nat_lt n pipe.depth) In (cond {A = Verdict} (drops_oldest pipe) Oldest Full))))
    (length-map pipe.queue read)

-- what is queued then
pub queue_after-map : {A B : Type 0} (read : A → B) (verdict : Verdict) (newest : A) (queue : List A) →
    map read (queue_after verdict newest queue) ≡ queue_after verdict (read newest) (map read queue)
queue_after-map read Skip newest queue = refl
queue_after-map read OverLimit newest queue = refl
queue_after-map read In newest queue = map_push read queue newest
queue_after-map read Oldest newest [] = refl
queue_after-map read Oldest newest (item ∷ items) = map_push read items newest
queue_after-map read Full newest queue = refl

-- and what leaves
pub dropped_at-map : {A B : Type 0} (read : A → B) (verdict : Verdict) (queue : List A) → dropped_at verdict (map read queue) ≡ option_map read (dropped_at verdict queue)
dropped_at-map read Skip queue = refl
dropped_at-map read OverLimit queue = refl
dropped_at-map read In queue = refl
dropped_at-map read Oldest queue = oldest-map read queue
dropped_at-map read Full queue = refl

-- an offer
pub offered_over-map : {A B : Type 0} (read : A → B) (is_over : Bool) (sender : ℕ) (newest : A) (pipe : PipeOf A) →
    pipe_by read (offered_over is_over sender newest pipe) ≡ offered_over is_over sender (read newest) (pipe_by read pipe)
offered_over-map {A} {B} read is_over sender newest pipe =
    let with_queue : List B → PipeOf B = λ queue. record (pipe_by read pipe) { queue = queue } in
    ap with_queue (queue_after-map read (verdict_over is_over pipe sender) newest pipe.queue)
    ∙ ap (λ v. with_queue (queue_after v (read newest) (map read pipe.queue))) (sym (verdict_over-map read is_over pipe sender))

module _ {A B : Type 0} (read : A → B) (from : Offer A) (to : Offer B) (is : IsOffer read from to) where
  pub verdict-map : (sub : Subscription) (pipe : PipeOf A) →
      verdict to.subscription_of (pipe_by read pipe) sub to.sender ≡ verdict from.subscription_of pipe sub from.sender
  verdict-map sub pipe =
      ap (λ n. verdict_over (leb sub.limit n) (pipe_by read pipe) to.sender) (waiting_of-map read from.subscription_of to.subscription_of is.subscription pipe sub.number)
      ∙ ap (λ n. verdict_over (leb sub.limit (waiting_of from.subscription_of pipe sub.number)) (pipe_by read pipe) n) is.sender
      ∙ verdict_over-map read (leb sub.limit (waiting_of from.subscription_of pipe sub.number)) pipe from.sender

  pub offered-map : (sub : Subscription) (pipe : PipeOf A) → pipe_by read (offered from sub pipe) ≡ offered to sub (pipe_by read pipe)
  offered-map sub pipe =
      offered_over-map read (leb sub.limit (waiting_of from.subscription_of pipe sub.number)) from.sender (from.item_for sub) pipe
      ∙ ap (λ n. offered_over (leb sub.limit n) from.sender (read (from.item_for sub)) (pipe_by read pipe)) (sym (waiting_of-map read from.subscription_of to.subscription_of is.subscription pipe sub.number))
      ∙ ap (λ n. offered_over (leb sub.limit (waiting_of to.subscription_of (pipe_by read pipe) sub.number)) n (read (from.item_for sub)) (pipe_by read pipe)) (sym is.sender)
      ∙ ap (λ i. offered_over (leb sub.limit (waiting_of to.subscription_of (pipe_by read pipe) sub.number)) to.sender i (pipe_by read pipe)) (is.item sub)

  -- the pipes once each subscription was offered the message
  pub deliver-map : (subs : List Subscription) (pipes : List (PipeOf A)) → map (pipe_by read) (deliver from subs pipes) ≡ deliver to subs (map (pipe_by read) pipes)
  deliver-map [] pipes = refl
  deliver-map (sub ∷ subs) pipes =
      deliver-map subs (with_pipe (offered from sub) sub.pipe pipes)
      ∙ ap (deliver to subs) (with_pipe-map read (offered from sub) (offered to sub) (offered-map sub) sub.pipe pipes)

  counted_by-map : (test : Verdict → Bool) (sub : Subscription) (pipes : List (PipeOf A)) → counted_by test from sub pipes ≡ counted_by test to sub (map (pipe_by read) pipes)
  counted_by-map test sub pipes =
      by_pipe (pipe_at pipes sub.pipe)
      ∙ ap (λ o. option_map_or {U = ℕ} (λ (pipe : PipeOf B). cond (test (verdict to.subscription_of pipe sub to.sender)) 1 0) o 0) (sym (pipe_at-map read pipes sub.pipe))
    where
      by_pipe : (o : Option (PipeOf A)) →
          ◌≡◌ {A = ℕ} (option_map_or (λ (pipe : PipeOf A). cond (test (verdict from.subscription_of pipe sub from.sender)) 1 0) o 0)
          (option_map_or (λ (pipe : PipeOf B). cond (test (verdict to.subscription_of pipe sub to.sender)) 1 0) (option_map (pipe_by read) o) 0)
      by_pipe None = refl
      by_pipe (Some pipe) = ap (λ v. cond {A = ℕ} (test v) 1 0) (sym (verdict-map sub pipe))

  -- how many have such a verdict
  pub verdicts_of-map : (test : Verdict → Bool) (subs : List Subscription) (pipes : List (PipeOf A)) →
      verdicts_of test from subs pipes ≡ verdicts_of test to subs (map (pipe_by read) pipes)
  verdicts_of-map test [] pipes = refl
  verdicts_of-map test (sub ∷ subs) pipes =
      ap (λ n. n + verdicts_of test from subs (with_pipe (offered from sub) sub.pipe pipes)) (counted_by-map test sub pipes)
      ∙ ap (λ n. counted_by test to sub (map (pipe_by read) pipes) + n)
      (verdicts_of-map test subs (with_pipe (offered from sub) sub.pipe pipes)
      ∙ ap (verdicts_of test to subs) (with_pipe-map read (offered from sub) (offered to sub) (offered-map sub) sub.pipe pipes))

  pub reached-map : (subs : List Subscription) (pipes : List (PipeOf A)) → reached from subs pipes ≡ reached to subs (map (pipe_by read) pipes)
  reached-map subs pipes = verdicts_of-map is_queued subs pipes

  pub drops-map : (subs : List Subscription) (pipes : List (PipeOf A)) → drops from subs pipes ≡ drops to subs (map (pipe_by read) pipes)
  drops-map subs pipes = verdicts_of-map is_oldest subs pipes
