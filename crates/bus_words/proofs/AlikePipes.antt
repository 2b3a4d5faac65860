-- A pipe of the bus beside the pipe alone: when they are alike, and how each change keeps them so.
use Rattle.std.proofs.Common.{◌≡◌, ℕ, ◌+◌, ◌/◌, ◌%◌, ◌<◌, ◌≤◌, ◌==◌, ◌&&◌, not, Bool, true, false, cond, true≢false, eqb-true, eq-eqb, ne_eqb, List, [], ◌∷◌, ◌++◌, length, drop, map, filter, fold, count_by, Option, Some, None, refl, ap, sym, ◌∙◌, subst, arith}
use Rattle.std.specs.Prelude.{find, nat_le, nat_lt, if◌then◌else◌}
use Rattle.std.specs.List.{list_any}
use Rattle.std.specs.Option.{option_map, option_map_or, is_some}
use Rattle.std.proofs.lemmas.List.{map_push, length-map}
use Rattle.fsw_base.specs.declared.config.Scope.{Scope}
use Rattle.fsw_base.specs.declared.config.Scope.TheVariants.{Global}
use Rattle.bus_words.specs.Bus.{Item, Pipe, Subscription, Sending, verdict, waiting_of, item_for, offered, oldest, after_receive, with_bits}
use Rattle.bus_words.specs.declared.verdict.Verdict.{Verdict}
use Rattle.bus_words.specs.declared.verdict.Verdict.TheVariants.{Skip, OverLimit, In, Oldest, Full}
use Rattle.bus_words.specs.Alone.{Alone, Stop, empty_pipe, sub_alone, sent_alone, input_alone, last_of}
use Rattle.bus_words.specs.Pipes.{queue_after}
use Rattle.bus_words.proofs.PipeItems.{queue_after-map}
use Rattle.bus_words.proofs.Items.{Each-queue_after}
use Rattle.bus_words.proofs.Finds.{Each, Each-push, Each-drop, Each-filter, map-each, filter-map, any-map, find-map, same-self}

-- a subscription of the bus as the pipe alone has it, its number changed
abbrev pub sub_as : (ℕ → ℕ) → Subscription → Subscription
sub_as own sub = record { number = own sub.number; id = sub.id; pipe = 1; limit = sub.limit; scope = Global }

-- an item of the bus as the pipe alone has it, its subscription's number changed
abbrev pub item_as : (ℕ → ℕ) → Item → Item
item_as own item = record { number = item.number; asked = 0; subscription = own item.subscription; message = item.message }

-- the numbers that the pipe alone gives to subscriptions: none above those it made, no two the same, 0 for one that it
-- doesn't have, as each above `top`
pub record AreOwn (own : ℕ → ℕ) (top made : ℕ) : Type 0 where
  pub bounded : (n : ℕ) → own n ≤ made
  pub apart : (n m : ℕ) → 1 ≤ own n → own n ≡ own m → n ≡ m
  pub fresh : (n : ℕ) → top < n → own n ≡ 0

-- a live pipe and the pipe alone
pub record AreSame (own : ℕ → ℕ) (live pipe : Pipe) : Type 0 where
  pub owner : pipe.owner ≡ live.owner
  pub depth : pipe.depth ≡ live.depth
  pub bits : pipe.bits ≡ live.bits
  pub queue : pipe.queue ≡ map (item_as own) live.queue
  pub known : Each (λ item. 1 ≤ own item.subscription) live.queue
  pub last : last_of pipe.last ≡ last_of live.last

-- if the pipe isn't live, the pipe alone has no message
abbrev pub IsSeen : (ℕ → ℕ) → Option Pipe → Pipe → Type 0
IsSeen own None pipe = (pipe.queue ≡ []) × (pipe.last ≡ None)
IsSeen own (Some live) pipe = AreSame own live pipe

-- the pipe with its subscriptions in the bus, of which `top` were made, and the pipe alone
pub record AreAlike (own : ℕ → ℕ) (top : ℕ) (live : Option Pipe) (subs : List Subscription) (a : Alone) : Type 0 where
  pub numbers : AreOwn own top a.made
  pub pipe : IsSeen own live a.pipe
  pub subscriptions : a.subscriptions ≡ map (sub_as own) subs
  pub known : Each (λ sub. 1 ≤ own sub.number) subs

-- Changes. --

pub unmoved : (own : ℕ → ℕ) (top more : ℕ) (live now : Option Pipe) (subs left : List Subscription) (a : Alone) →
    top ≤ more → live ≡ now → subs ≡ left → AreAlike own top live subs a → AreAlike own more now left a
unmoved own top more live now subs left a higher pipes subscriptions alike =
    subst (λ l. AreAlike own more l left a) pipes (subst (λ x. AreAlike own more live x a) subscriptions (record {
      numbers = record {
        bounded = alike.numbers.bounded;
        apart = alike.numbers.apart;
        fresh = λ n above. alike.numbers.fresh n (omega (arith, higher, above));
      };
      pipe = alike.pipe;
      subscriptions = alike.subscriptions;
      known = alike.known;
    }))

drop-map : (own : ℕ → ℕ) (queue : List Item) → drop 1 (map (item_as own) queue) ≡ map (item_as own) (drop 1 queue)
drop-map own [] = refl
drop-map own (item ∷ queue) = refl

oldest-map : (own : ℕ → ℕ) (queue : List Item) → last_of (oldest (map (item_as own) queue)) ≡ last_of (oldest queue)
oldest-map own [] = refl
oldest-map own (item ∷ queue) = refl

Each-tail : (P : Item → Type 0) (queue : List Item) → Each P queue → Each P (drop 1 queue)
Each-tail P [] each = tt
Each-tail P (item ∷ queue) each = each.1

IsSeen-take : (own : ℕ → ℕ) (live : Option Pipe) (pipe : Pipe) → IsSeen own live pipe → IsSeen own (option_map after_receive live) (after_receive pipe)
IsSeen-take own None pipe seen = (ap (drop 1) seen.0, ap oldest seen.0)
IsSeen-take own (Some live) pipe seen = record {
  owner = seen.owner;
  depth = seen.depth;
  bits = seen.bits;
  queue = ap (drop 1) seen.queue ∙ drop-map own live.queue;
  known = Each-tail (λ item. 1 ≤ own item.subscription) live.queue seen.known;
  last = ap (λ q. last_of (oldest q)) seen.queue ∙ oldest-map own live.queue;
}

-- a receive
pub alike-take : (own : ℕ → ℕ) (top : ℕ) (live : Option Pipe) (subs : List Subscription) (a : Alone) → AreAlike own top live subs a →
    AreAlike own top (option_map after_receive live) subs (record a { pipe = after_receive a.pipe })
alike-take own top live subs a alike = record {
  numbers = alike.numbers;
  pipe = IsSeen-take own live a.pipe alike.pipe;
  subscriptions = alike.subscriptions;
  known = alike.known;
}

IsSeen-bits : (own : ℕ → ℕ) (bits : ℕ) (live : Option Pipe) (pipe : Pipe) → IsSeen own live pipe → IsSeen own (option_map (with_bits bits) live) (with_bits bits pipe)
IsSeen-bits own bits None pipe seen = seen
IsSeen-bits own bits (Some live) pipe seen = record { owner = seen.owner; depth = seen.depth; bits = refl; queue = seen.queue; known = seen.known; last = seen.last }

-- new option bits
pub alike-bits : (own : ℕ → ℕ) (top bits : ℕ) (live : Option Pipe) (subs : List Subscription) (a : Alone) → AreAlike own top live subs a →
    AreAlike own top (option_map (with_bits bits) live) subs (record a { pipe = with_bits bits a.pipe })
alike-bits own top bits live subs a alike = record {
  numbers = alike.numbers;
  pipe = IsSeen-bits own bits live a.pipe alike.pipe;
  subscriptions = alike.subscriptions;
  known = alike.known;
}

-- the end of the pipe
pub alike-stop : (own : ℕ → ℕ) (top : ℕ) (live : Option Pipe) (subs : List Subscription) (a : Alone) → AreAlike own top live subs a →
    AreAlike own top None [] (input_alone a Stop)
alike-stop own top live subs a alike = record { numbers = alike.numbers; pipe = (refl, refl); subscriptions = refl; known = tt }

-- its beginning
pub alike-start : (top owner depth number : ℕ) (name : List ℕ) →
    AreAlike (λ n. 0) top (Some (record { number = number; name = name; owner = owner; depth = depth; bits = 0; queue = []; last = None })) []
    (record { pipe = empty_pipe owner depth; subscriptions = []; made = 0 })
alike-start top owner depth number name = record {
  numbers = record { bounded = λ n. omega arith; apart = λ n m one. absurd (omega (arith, one)); fresh = λ n above. refl };
  pipe = record { owner = refl; depth = refl; bits = refl; queue = refl; known = tt; last = refl };
  subscriptions = refl;
  known = tt;
}

-- the end of a subscription
pub alike-unsub : (own : ℕ → ℕ) (top id : ℕ) (live : Option Pipe) (subs : List Subscription) (a : Alone) → AreAlike own top live subs a →
    AreAlike own top live (filter (λ sub. not (sub.id == id)) subs) (record a { subscriptions = filter (λ sub. not (sub.id == id)) a.subscriptions })
alike-unsub own top id live subs a alike = record {
  numbers = alike.numbers;
  pipe = alike.pipe;
  subscriptions = ap (filter (λ (sub : Subscription). not (sub.id == id))) alike.subscriptions ∙ filter-map (λ sub. not (sub.id == id)) (sub_as own) subs;
  known = Each-filter (λ (sub : Subscription). 1 ≤ own sub.number) (λ sub. not (sub.id == id)) subs alike.known;
}

-- One subscription more. --

-- the numbers with one more
abbrev pub with_own : (ℕ → ℕ) → ℕ → ℕ → ℕ → ℕ
with_own own new number n = if n == new then number else own n

with_own-old : (own : ℕ → ℕ) (top number n : ℕ) → ((m : ℕ) → top < m → own m ≡ 0) → 1 ≤ own n → with_own own (top + 1) number n ≡ own n
with_own-old own top number n fresh one =
    elim (n == top + 1) as (λ b. (n == top + 1) ≡ b → cond {A = ℕ} b number (own n) ≡ own n) [
      | true ↦ λ is.
          let none : own (top + 1) ≡ 0 = fresh (top + 1) (omega arith) in
          let same : own n ≡ own (top + 1) = ap own (eqb-true n (top + 1) is) in
          absurd (omega (arith, none, same, one))
      | false ↦ λ is. refl
    ] refl

AreOwn-more : (own : ℕ → ℕ) (top made : ℕ) → AreOwn own top made → AreOwn (with_own own (top + 1) (made + 1)) (top + 1) (made + 1)
AreOwn-more own top made numbers = record {
  bounded = λ n. elim (n == top + 1) as (λ b. cond {A = ℕ} b (made + 1) (own n) ≤ made + 1) [ true ↦ omega arith | false ↦ omega (arith, numbers.bounded n) ];
  apart = λ n m.
      elim (n == top + 1) as (λ b. (n == top + 1) ≡ b → 1 ≤ cond {A = ℕ} b (made + 1) (own n) → cond {A = ℕ} b (made + 1) (own n) ≡ with_own own (top + 1) (made + 1) m → n ≡ m) [
        | true ↦ λ here one. elim (m == top + 1) as (λ c. (m == top + 1) ≡ c → made + 1 ≡ cond {A = ℕ} c (made + 1) (own m) → n ≡ m) [
          | true ↦ λ there same. eqb-true n (top + 1) here ∙ sym (eqb-true m (top + 1) there)
          | false ↦ λ there same. absurd (omega (arith, same, numbers.bounded m))
        ] refl
        | false ↦ λ here one. elim (m == top + 1) as (λ c. own n ≡ cond {A = ℕ} c (made + 1) (own m) → n ≡ m) [
          | true ↦ λ same. absurd (omega (arith, same, numbers.bounded n))
          | false ↦ λ same. numbers.apart n m one same
        ]
      ] refl;
  fresh = λ n above.
      elim (n == top + 1) as (λ b. (n == top + 1) ≡ b → cond {A = ℕ} b (made + 1) (own n) ≡ 0) [
        | true ↦ λ is. let same : n ≡ top + 1 = eqb-true n (top + 1) is in absurd (omega (arith, above, same))
        | false ↦ λ is. numbers.fresh n (omega (arith, above))
      ] refl;
}

IsSeen-more : (own : ℕ → ℕ) (top number : ℕ) (live : Option Pipe) (pipe : Pipe) → ((m : ℕ) → top < m → own m ≡ 0) → IsSeen own live pipe → IsSeen (with_own own (top + 1) number) live pipe
IsSeen-more own top number None pipe fresh seen = seen
IsSeen-more own top number (Some live) pipe fresh seen = record {
  owner = seen.owner;
  depth = seen.depth;
  bits = seen.bits;
  queue = seen.queue ∙ map-each (λ (item : Item). 1 ≤ own item.subscription) (item_as own) (item_as (with_own own (top + 1) number)) live.queue
      (λ item one. ap (λ n. record { number = item.number; asked = 0; subscription = n; message = item.message }) (sym (with_own-old own top number item.subscription fresh one))) seen.known;
  known = Each-drop (λ (item : Item). 1 ≤ own item.subscription) (λ item. 1 ≤ with_own own (top + 1) number item.subscription) live.queue
      (λ item one. subst (λ n. 1 ≤ n) (sym (with_own-old own top number item.subscription fresh one)) one) seen.known;
  last = seen.last;
}

-- a new subscription
pub alike-sub : (own : ℕ → ℕ) (top id pipe limit : ℕ) (scope : Scope) (live : Option Pipe) (subs : List Subscription) (a : Alone) →
    list_any (λ sub. sub.id == id) subs ≡ false → AreAlike own top live subs a →
    AreAlike (with_own own (top + 1) (a.made + 1)) (top + 1) live
    (subs ++ record { number = top + 1; id = id; pipe = pipe; limit = limit; scope = scope } ∷ []) (sub_alone a id limit)
alike-sub own top id pipe limit scope live subs a none alike =
    let now = with_own own (top + 1) (a.made + 1) in
    let new : Subscription = record { number = top + 1; id = id; pipe = pipe; limit = limit; scope = scope } in
    let here : now (top + 1) ≡ a.made + 1 = ap (λ b. cond {A = ℕ} b (a.made + 1) (own (top + 1))) (same-self (top + 1)) in
    let no : list_any (λ (sub : Subscription). sub.id == id) a.subscriptions ≡ false =
    ap (list_any (λ (sub : Subscription). sub.id == id)) alike.subscriptions ∙ any-map (λ (sub : Subscription). sub.id == id) (sub_as own) subs ∙ none in
    let more : Alone = record a {
      subscriptions = a.subscriptions ++ record { number = a.made + 1; id = id; pipe = 1; limit = limit; scope = Global } ∷ [];
      made = a.made + 1;
    } in
    let result : AreAlike now (top + 1) live (subs ++ new ∷ []) more = record {
      numbers = AreOwn-more own top a.made alike.numbers;
      pipe = IsSeen-more own top (a.made + 1) live a.pipe alike.numbers.fresh alike.pipe;
      subscriptions =
          ap (λ xs. xs ++ record { number = a.made + 1; id = id; pipe = 1; limit = limit; scope = Global } ∷ [])
          (alike.subscriptions ∙ map-each (λ (sub : Subscription). 1 ≤ own sub.number) (sub_as own) (sub_as now) subs
          (λ sub one. ap (λ n. record { number = n; id = sub.id; pipe = 1; limit = sub.limit; scope = Global }) (sym (with_own-old own top (a.made + 1) sub.number alike.numbers.fresh one))) alike.known)
          ∙ ap (λ n. map (sub_as now) subs ++ record { number = n; id = id; pipe = 1; limit = limit; scope = Global } ∷ []) (sym here)
          ∙ sym (map_push (sub_as now) subs new);
      known = Each-push (λ (sub : Subscription). 1 ≤ now sub.number) subs new
          (Each-drop (λ (sub : Subscription). 1 ≤ own sub.number) (λ sub. 1 ≤ now sub.number) subs
          (λ sub one. subst (λ n. 1 ≤ n) (sym (with_own-old own top (a.made + 1) sub.number alike.numbers.fresh one)) one) alike.known)
          (subst (λ n. 1 ≤ n) (sym here) (omega arith));
    } in
    subst (λ b. AreAlike now (top + 1) live (subs ++ new ∷ []) (cond {A = Alone} b a more)) (sym no) result

-- A send. --

-- the verdict, by what it reads
abbrev judged : (bits owner waiting queued depth limit sender : ℕ) → Verdict
judged bits owner waiting queued depth limit sender =
    if bits % 2 == 1 && owner == sender then Skip
    else if nat_le limit waiting then OverLimit
    else if nat_lt queued depth then In
    else if bits / 2 % 2 == 1 then Oldest
    else Full

count-map : (own : ℕ → ℕ) (top made n a : ℕ) (queue : List Item) → AreOwn own top made → 1 ≤ own n → Each (λ item. 1 ≤ own item.subscription) queue →
    fold (λ a (item : Item). a + cond {A = ℕ} (item.subscription == own n) 1 0) a (map (item_as own) queue) ≡ fold (λ a (item : Item). a + cond {A = ℕ} (item.subscription == n) 1 0) a queue
count-map own top made n a [] numbers one known = refl
count-map own top made n a (item ∷ queue) numbers one known =
    let m = item.subscription in
    let same : (own m == own n) ≡ (m == n) =
    elim (m == n) as (λ b. (m == n) ≡ b → (own m == own n) ≡ b) [
      | true ↦ λ is. eq-eqb (own m) (own n) (ap own (eqb-true m n is))
      | false ↦ λ is. ne_eqb (own m) (own n) (λ equal. true≢false (sym (eq-eqb m n (numbers.apart m n known.0 equal)) ∙ is))
    ] refl in
    ap (λ b. fold (λ a (x : Item). a + cond {A = ℕ} (x.subscription == own n) 1 0) (a + cond {A = ℕ} b 1 0) (map (item_as own) queue)) same
    ∙ count-map own top made n (a + cond {A = ℕ} (m == n) 1 0) queue numbers one known.1

verdict-same : (own : ℕ → ℕ) (top made : ℕ) (live pipe : Pipe) (sub : Subscription) (sender : ℕ) → AreOwn own top made → 1 ≤ own sub.number → AreSame own live pipe →
    verdict pipe (sub_as own sub) sender ≡ verdict live sub sender
verdict-same own top made live pipe sub sender numbers one same =
    let waiting : waiting_of pipe (own sub.number) ≡ waiting_of live sub.number =
    ap (count_by (λ (item : Item). item.subscription == own sub.number)) same.queue ∙ count-map own top made sub.number 0 live.queue numbers one same.known in
    let queued : length pipe.queue ≡ length live.queue = ap (λ (q : List Item). length q) same.queue ∙ length-map live.queue (item_as own) in
    ap (λ bits. judged bits pipe.owner (waiting_of pipe (own sub.number)) (length pipe.queue) pipe.depth sub.limit sender) same.bits
    ∙ ap (λ owner. judged live.bits owner (waiting_of pipe (own sub.number)) (length pipe.queue) pipe.depth sub.limit sender) same.owner
    ∙ ap (λ n. judged live.bits live.owner n (length pipe.queue) pipe.depth sub.limit sender) waiting
    ∙ ap (λ n. judged live.bits live.owner (waiting_of live sub.number) n pipe.depth sub.limit sender) queued
    ∙ ap (λ n. judged live.bits live.owner (waiting_of live sub.number) (length live.queue) n sub.limit sender) same.depth

-- what is sent, as the pipe alone knows it
abbrev pub sent_as : Sending → Sending
sent_as sending = record { sender = sending.sender; number = sending.number; asked = 0; message = sending.message }

offered-same : (own : ℕ → ℕ) (top made : ℕ) (live pipe : Pipe) (sub : Subscription) (sending : Sending) → AreOwn own top made → 1 ≤ own sub.number → AreSame own live pipe →
    AreSame own (offered sending sub live) (offered (sent_as sending) (sub_as own sub) pipe)
offered-same own top made live pipe sub sending numbers one same =
    let verdict_live : Verdict = verdict live sub sending.sender in
    let alone : Item = item_for (sent_as sending) (sub_as own sub) in
    subst (λ v. AreSame own (offered sending sub live) (record pipe { queue = queue_after v alone pipe.queue })) (sym (verdict-same own top made live pipe sub sending.sender numbers one same))
    (record {
      owner = same.owner;
      depth = same.depth;
      bits = same.bits;
      queue = ap (queue_after verdict_live alone) same.queue ∙ sym (queue_after-map (item_as own) verdict_live (item_for sending sub) live.queue);
      known = Each-queue_after (λ (item : Item). 1 ≤ own item.subscription) verdict_live (item_for sending sub) live.queue same.known one;
      last = same.last;
    })

found-each : (P : Subscription → Type 0) (test : Subscription → Bool) (subs : List Subscription) (sub : Subscription) → Each P subs → find test subs ≡ Some sub → P sub
found-each P test [] sub each is = absurd (true≢false (sym (ap is_some is)))
found-each P test (x ∷ subs) sub each is =
    elim (test x) as (λ b. cond {A = Option Subscription} b (Some x) (find test subs) ≡ Some sub → P sub) [
      | true ↦ λ here. subst P (ap (λ o. option_map_or (λ (y : Subscription). y) o x) here) each.0
      | false ↦ λ there. found-each P test subs sub each.1 there
    ] is

IsSeen-send : (own : ℕ → ℕ) (top made : ℕ) (live : Option Pipe) (pipe : Pipe) (sub : Subscription) (sending : Sending) → AreOwn own top made → 1 ≤ own sub.number →
    (live ≡ None → ⊥) → IsSeen own live pipe →
    IsSeen own (option_map (offered sending sub) live) (offered (sent_as sending) (sub_as own sub) pipe)
IsSeen-send own top made None pipe sub sending numbers one there seen = absurd (there refl)
IsSeen-send own top made (Some live) pipe sub sending numbers one there seen = offered-same own top made live pipe sub sending numbers one seen

-- the pipe once its subscription that was found, if any, was offered what is sent
abbrev pub offered_to : Sending → Option Subscription → Pipe → Pipe
offered_to sending sub pipe = option_map_or (λ sub. offered sending sub pipe) sub pipe

-- an accepted send
pub alike-send : (own : ℕ → ℕ) (top id : ℕ) (live : Option Pipe) (subs : List Subscription) (a : Alone) (sending : Sending) →
    (live ≡ None → subs ≡ []) → AreAlike own top live subs a →
    AreAlike own top (option_map (offered_to sending (find (λ sub. sub.id == id) subs)) live) subs (sent_alone a sending.sender id sending.number sending.message)
alike-send own top id live subs a sending ended alike =
    subst (λ o. AreAlike own top (option_map (offered_to sending (find (λ (sub : Subscription). sub.id == id) subs)) live) subs (option_map_or (λ sub. record a { pipe = offered (sent_as sending) sub a.pipe }) o a))
    (sym (ap (find (λ (sub : Subscription). sub.id == id)) alike.subscriptions ∙ find-map (λ (sub : Subscription). sub.id == id) (sub_as own) subs))
    (by_found (find (λ (sub : Subscription). sub.id == id) subs) refl)
  where
    same_pipe : (live : Option Pipe) → live ≡ option_map (offered_to sending None) live
    same_pipe None = refl
    same_pipe (Some pipe) = refl

    by_found : (found : Option Subscription) → find (λ sub. sub.id == id) subs ≡ found →
        AreAlike own top (option_map (offered_to sending found) live) subs (option_map_or (λ sub. record a { pipe = offered (sent_as sending) sub a.pipe }) (option_map (sub_as own) found) a)
    by_found None is = subst (λ l. AreAlike own top l subs a) (same_pipe live) alike
    by_found (Some sub) is = record {
      numbers = alike.numbers;
      pipe = IsSeen-send own top a.made live a.pipe sub sending alike.numbers (found-each (λ x. 1 ≤ own x.number) (λ x. x.id == id) subs sub alike.known is)
          (λ none. true≢false (sym (ap is_some (sym (ap (find (λ (x : Subscription). x.id == id)) (ended none)) ∙ is)))) alike.pipe;
      subscriptions = alike.subscriptions;
      known = alike.known;
    }
