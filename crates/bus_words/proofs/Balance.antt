-- No more blocks are out than were made: what is held grows by a send and by an allocation alone, and by one.
use Rattle.std.proofs.Common.{◌≡◌, ℕ, zero, suc, ◌+◌, ◌-◌, ◌<◌, ◌≤◌, ◌⊎◌, inl, inr, ◌==◌, ◌&&◌, ◌||◌, not, max, Bool, true, false, cond, if◌then◌else◌, true≢false, eqb-true, eq-eqb, ne_eqb, leb, List, [], ◌∷◌, ◌++◌, length, get_or, set, replicate, filter, find, Option, Some, None, is_some, refl, ap, sym, ◌∙◌, subst, arith}
use Rattle.std.specs.Prelude.{count_by, sum_by}
use Rattle.std.specs.List.{list_any}
use Rattle.std.specs.Option.{option_map_or}
use Rattle.std.proofs.lemmas.Bool.{cases_eq}
use Rattle.std.proofs.lemmas.Bool.Decides.{nat_tests}
use Rattle.std.proofs.lemmas.List.{length-replicate, get_or-set_same, get_or-set_other}
use Rattle.std.proofs.lemmas.List.Sums.{sum_by_push}
use Rattle.fsw_base.specs.Blocks.{class_of}
use Rattle.fsw_base.specs.Limits.{Limits}
use Rattle.fsw_base.specs.PoolAccounts.{Account, has_room, has_room_for, has_room_if, after_draw, after_request, after_request_if}
use Rattle.bus_words.specs.declared.history.Call.{Call}
use Rattle.bus_words.specs.declared.history.Entry.{Entry}
use Rattle.bus_words.specs.Bus.{Item, Pipe, Buffer, Subscription, State, Sending, opening, route, with_pipe, with_bits, deliver, after_receive, unsent_of, has_unsent, unsent_size, with_unsent, without_unsent, without_all_unsent}
use Rattle.bus_words.specs.Held.{named_by, is_on_pipes, is_unsent, is_held, numbers_to, held, items_of, buffers_in, size_in, asked_of, has_class, each_below, blocks_held, account_of, account_drawn, IsAccounted}
use Rattle.bus_words.specs.Machine.{allocated, buffer_gone, step, state_after}
use Rattle.bus_words.proofs.Buffers.{of_buffer, OtherBuffer, unsent_in, unsent_here, Each-unsent_of, Each-with_unsent, Each-without_unsent, Each-without_all}
use Rattle.bus_words.proofs.Draws.{may_allocate, length-made, AreDrawn-after}
use Rattle.bus_words.proofs.Finds.{Each, Each-push, Each-filter, Each-drop, both}
use Rattle.bus_words.proofs.Items.{OfPipe, OfPipe-drop, OfPipe-receive, OfPipe-offer, to_items, count-cons, or_true, of_number, Other, named_items, was_held}
use Rattle.bus_words.proofs.Owners.{Each-with_pipe, Each-deliver}
use Rattle.bus_words.proofs.Steps.{with_sent, after_step, state_from-keeps, AreCounted-after}

-- Counting. --

count-fewer : {X : Type 0} (test other : X → Bool) (xs : List X) → Each (λ x. test x ≡ true → other x ≡ true) xs → count_by test xs ≤ count_by other xs
count-fewer test other [] each = omega arith
count-fewer test other (x ∷ xs) each =
    omega (arith, count-cons test x xs, count-cons other x xs, one (test x) (other x) each.0, count-fewer test other xs each.1)
  where
    one : (a b : Bool) → (a ≡ true → b ≡ true) → cond {A = ℕ} a 1 0 ≤ cond {A = ℕ} b 1 0
    one true b gives = omega (arith, ap (λ c. cond {A = ℕ} c 1 0) (gives refl))
    one false b gives = omega arith

-- of those that pass a test, the ones that pass another
count-filter : {X : Type 0} (first second other : X → Bool) → ((x : X) → first x ≡ true → second x ≡ other x) → (xs : List X) →
    count_by second (filter first xs) ≡ count_by (λ x. first x && other x) xs
count-filter first second other same [] = refl
count-filter {X} first second other same (x ∷ xs) =
    let rest = count-filter first second other same xs in
    (elim (first x) as (λ b. first x ≡ b → count_by second (cond {A = List X} b (x ∷ filter first xs) (filter first xs)) ≡ cond {A = ℕ} (b && other x) 1 0 + count_by (λ y. first y && other y) xs) [
      | true ↦ λ is. omega (arith, count-cons second x (filter first xs), ap (λ b. cond {A = ℕ} b 1 0) (same x is), rest)
      | false ↦ λ is. omega (arith, rest)
    ] refl)
    ∙ sym (count-cons (λ y. first y && other y) x xs)

-- What was asked for. --

-- an item of a number that was given, and of the size that was asked for under it
abbrev IsAsked : (ℕ → ℕ) → ℕ → Item → Type 0
IsAsked ask given item = (item.number ≤ given) × (item.asked ≡ ask item.number)

-- such a buffer
abbrev IsGiven : (ℕ → ℕ) → ℕ → Buffer → Type 0
IsGiven ask given buffer = (buffer.number ≤ given) × (buffer.size ≡ ask buffer.number)

-- of some items of a send the first tells what was asked for
asked_found : (ask : ℕ → ℕ) (given n other : ℕ) (items : List Item) → Each (IsAsked ask given) items → 1 ≤ count_by (of_number n) items →
    option_map_or (λ item. item.asked) (find (of_number n) items) other ≡ ask n
asked_found ask given n other [] each some = absurd (omega (arith, some))
asked_found ask given n other (item ∷ items) each some =
    let split = count-cons (of_number n) item items in
    elim (item.number == n) as (λ b. (item.number == n) ≡ b → option_map_or {U = ℕ} (λ (i : Item). i.asked) (cond {A = Option Item} b (Some item) (find (of_number n) items)) other ≡ ask n) [
      | true ↦ λ is. each.0.1 ∙ ap ask (eqb-true item.number n is)
      | false ↦ λ is. asked_found ask given n other items each.1 (omega (arith, some, split, ap (λ b. cond {A = ℕ} b 1 0) is))
    ] refl

-- without any, the buffer does
asked_else : (ask : ℕ → ℕ) (given n other : ℕ) (items : List Item) → Each (IsAsked ask given) items → other ≡ ask n →
    option_map_or (λ item. item.asked) (find (of_number n) items) other ≡ ask n
asked_else ask given n other [] each so = so
asked_else ask given n other (item ∷ items) each so =
    elim (item.number == n) as (λ b. (item.number == n) ≡ b → option_map_or {U = ℕ} (λ (i : Item). i.asked) (cond {A = Option Item} b (Some item) (find (of_number n) items)) other ≡ ask n) [
      | true ↦ λ is. each.0.1 ∙ ap ask (eqb-true item.number n is)
      | false ↦ λ is. asked_else ask given n other items each.1 so
    ] refl

size_found : (ask : ℕ → ℕ) (given n : ℕ) (buffers : List Buffer) → Each (IsGiven ask given) buffers → list_any (of_buffer n) buffers ≡ true →
    option_map_or (λ buffer. buffer.size) (find (of_buffer n) buffers) 0 ≡ ask n
size_found ask given n [] each some = absurd (true≢false (sym some))
size_found ask given n (buffer ∷ buffers) each some =
    elim (buffer.number == n) as (λ b. (buffer.number == n) ≡ b → (b || list_any (of_buffer n) buffers) ≡ true →
    option_map_or {U = ℕ} (λ (x : Buffer). x.size) (cond {A = Option Buffer} b (Some buffer) (find (of_buffer n) buffers)) 0 ≡ ask n) [
      | true ↦ λ is found. each.0.1 ∙ ap ask (eqb-true buffer.number n is)
      | false ↦ λ is found. size_found ask given n buffers each.1 found
    ] refl some

-- an application's buffer tells what was asked for, and its number was given
has_found : (ask : ℕ → ℕ) (given n : ℕ) (buffers : List Buffer) → Each (IsGiven ask given) buffers → is_some (find (of_buffer n) buffers) ≡ true →
    (option_map_or (λ buffer. buffer.size) (find (of_buffer n) buffers) 0 ≡ ask n) × (n ≤ given)
has_found ask given n [] each has = absurd (true≢false (sym has))
has_found ask given n (buffer ∷ buffers) each has =
    elim (buffer.number == n) as (λ b. (buffer.number == n) ≡ b → is_some (cond {A = Option Buffer} b (Some buffer) (find (of_buffer n) buffers)) ≡ true →
    (option_map_or {U = ℕ} (λ (x : Buffer). x.size) (cond {A = Option Buffer} b (Some buffer) (find (of_buffer n) buffers)) 0 ≡ ask n) × (n ≤ given)) [
      | true ↦ λ is found. let same = eqb-true buffer.number n is in (each.0.1 ∙ ap ask same, omega (arith, each.0.0, same))
      | false ↦ λ is found. has_found ask given n buffers each.1 found
    ] refl has

asked_known : (ask : ℕ → ℕ) (given n : ℕ) (pipes : List Pipe) (unsent : List (List Buffer)) → Each (OfPipe (IsAsked ask given)) pipes →
    Each (IsGiven ask given) (buffers_in unsent) → is_held pipes unsent n ≡ true → asked_of pipes unsent n ≡ ask n
asked_known ask given n pipes unsent items buffers is = by_test (is_on_pipes pipes n) refl
  where
    some : (k : ℕ) → leb 1 k ≡ true → 1 ≤ k
    some k is = grind (arith, nat_tests)

    by_test : (b : Bool) → is_on_pipes pipes n ≡ b → asked_of pipes unsent n ≡ ask n
    by_test true so =
        asked_found ask given n (size_in unsent n) (items_of pipes) (to_items (IsAsked ask given) pipes items)
        (omega (arith, some (sum_by (named_by n) pipes) so, named_items n pipes))
    by_test false so =
        asked_else ask given n (size_in unsent n) (items_of pipes) (to_items (IsAsked ask given) pipes items)
        (size_found ask given n (buffers_in unsent) buffers (sym (unsent_in unsent n) ∙ ap (λ b. b || is_unsent unsent n) (sym so) ∙ is))

-- Blocks. --

-- whether a block for this size is of this class
abbrev is_class : List ℕ → ℕ → ℕ → Bool
is_class sizes class size = option_map_or (λ other. other == class) (class_of size sizes) false

-- whether a number is held, and its block is of this class
abbrev takes_class : (ℕ → ℕ) → List Pipe → List (List Buffer) → List ℕ → ℕ → ℕ → Bool
takes_class ask pipes unsent sizes class n = is_held pipes unsent n && is_class sizes class (ask n)

-- each item's and each buffer's size is the one asked for, and of no class more numbers are held than blocks were made
record IsCovered (sizes : List ℕ) (ask : ℕ → ℕ) (made : List ℕ) (given : ℕ) (pipes : List Pipe) (unsent : List (List Buffer)) : Type 0 where
  pub items : Each (OfPipe (IsAsked ask given)) pipes
  pub buffers : Each (IsGiven ask given) (buffers_in unsent)
  pub most : (class : ℕ) → class < length sizes → count_by (takes_class ask pipes unsent sizes class) (numbers_to given) ≤ get_or made class 0

each-at : (f : ℕ → ℕ) (n i : ℕ) → i < n → get_or (each_below f n) i 0 ≡ f i
each-at f zero i h = absurd (omega (arith, h))
each-at f (suc n) zero h = refl
each-at f (suc n) (suc i) h = each-at (λ j. f (suc j)) n i (omega (arith, h))

-- the blocks that are out, by what was asked for
out_is : (sizes : List ℕ) (ask : ℕ → ℕ) (made : List ℕ) (given class : ℕ) (pipes : List Pipe) (unsent : List (List Buffer)) →
    IsCovered sizes ask made given pipes unsent → class < length sizes →
    get_or (blocks_held sizes pipes unsent given) class 0 ≡ count_by (takes_class ask pipes unsent sizes class) (numbers_to given)
out_is sizes ask made given class pipes unsent covered within =
    each-at (λ c. count_by (has_class pipes unsent sizes c) (held pipes unsent given)) (length sizes) class within
    ∙ count-filter (is_held pipes unsent) (has_class pipes unsent sizes class) (λ n. is_class sizes class (ask n))
    (λ n is. ap (is_class sizes class) (asked_known ask given n pipes unsent covered.items covered.buffers is)) (numbers_to given)

-- a change after which no other number is held
fewer : (sizes : List ℕ) (ask : ℕ → ℕ) (made : List ℕ) (given : ℕ) (pipes next : List Pipe) (unsent after : List (List Buffer)) →
    Each (OfPipe (IsAsked ask given)) next → Each (IsGiven ask given) (buffers_in after) →
    ((n : ℕ) → is_held next after n ≡ true → is_held pipes unsent n ≡ true) → IsCovered sizes ask made given pipes unsent →
    IsCovered sizes ask made given next after
fewer sizes ask made given pipes next unsent after items buffers were covered = record {
  items = items;
  buffers = buffers;
  most = λ class within. omega (
    arith,
    covered.most class within,
    count-fewer (takes_class ask next after sizes class) (takes_class ask pipes unsent sizes class) (numbers_to given) (each class (numbers_to given)),
  );
}
  where
    was : (class n : ℕ) → takes_class ask next after sizes class n ≡ true → takes_class ask pipes unsent sizes class n ≡ true
    was class n is =
        let parts = both (is_held next after n) (is_class sizes class (ask n)) is in
        ap (λ b. b && is_class sizes class (ask n)) (were n parts.0) ∙ parts.1

    each : (class : ℕ) (ns : List ℕ) → Each (λ n. takes_class ask next after sizes class n ≡ true → takes_class ask pipes unsent sizes class n ≡ true) ns
    each class [] = tt
    each class (n ∷ ns) = (was class n, each class ns)

-- One number more. --

-- what is asked for, with one number more
abbrev asks : (ℕ → ℕ) → ℕ → ℕ → ℕ → ℕ
asks ask number size n = if n == number then size else ask n

asks-old : (ask : ℕ → ℕ) (number size n : ℕ) → n < number → asks ask number size n ≡ ask n
asks-old ask number size n below = ap (λ b. cond {A = ℕ} b size (ask n)) (ne_eqb n number (λ is. omega (arith, below, is)))

asks-new : (ask : ℕ → ℕ) (number size : ℕ) → asks ask number size number ≡ size
asks-new ask number size = ap (λ b. cond {A = ℕ} b size (ask number)) (eq-eqb number number refl)

numbers_within : (given : ℕ) → Each (λ n. n ≤ given) (numbers_to given)
numbers_within zero = tt
numbers_within (suc given) =
    let Within : ℕ → Type 0 = λ n. n ≤ suc given in
    Each-push Within (numbers_to given) (suc given) (Each-drop (λ n. n ≤ given) Within (numbers_to given) (λ n is. omega (arith, is)) (numbers_within given)) (omega arith)

-- a request that there is room for leaves as many blocks made as were out, and one more of its class
made_for : (account : Account) (size class : ℕ) → has_room account size ≡ true → length account.made ≡ length account.sizes → class < length account.sizes →
    get_or account.out class 0 ≤ get_or account.made class 0 →
    get_or account.out class 0 + cond {A = ℕ} (is_class account.sizes class size) 1 0 ≤ get_or (after_request account size).made class 0
made_for account size class room all within most = by_class (class_of size account.sizes) room
  where
    drawn : (other : ℕ) → (other ≡ class) ⊎ (other ≡ class → ⊥) →
        get_or account.out class 0 + cond {A = ℕ} (other == class) 1 0 ≤ get_or (after_draw account other).made class 0
    drawn other (inl same) =
        let top : ℕ → ℕ = λ c. max (get_or account.made c 0) (get_or account.out c 0 + 1) in
        let here : get_or (set account.made other (top other)) class 0 ≡ top class =
        ap (λ c. get_or (set account.made c (top c)) class 0) same ∙ get_or-set_same account.made class (top class) 0 (omega (arith, all, within)) in
        omega (arith, here, ap (λ b. cond {A = ℕ} b 1 0) (eq-eqb other class same))
    drawn other (inr apart) =
        omega (
          arith,
          most,
          ap (λ b. cond {A = ℕ} b 1 0) (ne_eqb other class apart),
          get_or-set_other account.made other class (max (get_or account.made other 0) (get_or account.out other 0 + 1)) 0 (λ is. apart (sym is)),
        )

    by_room : (other : ℕ) (b : Bool) → b ≡ true →
        get_or account.out class 0 + cond {A = ℕ} (other == class) 1 0 ≤ get_or (cond {A = Account} b (after_draw account other) account).made class 0
    by_room other true is = drawn other (cases_eq other class)
    by_room other false is = absurd (true≢false (sym is))

    by_class : (o : Option ℕ) → has_room_if account o ≡ true →
        get_or account.out class 0 + cond {A = ℕ} (option_map_or (λ other. other == class) o false) 1 0 ≤ get_or (after_request_if account o).made class 0
    by_class None none = absurd (true≢false (sym none))
    by_class (Some other) room = by_room other (has_room_for account other 1) room

IsAsked-more : (ask : ℕ → ℕ) (given size : ℕ) (item : Item) → IsAsked ask given item → IsAsked (asks ask (suc given) size) (suc given) item
IsAsked-more ask given size item is =
    (omega (arith, is.0), is.1 ∙ sym (asks-old ask (suc given) size item.number (omega (arith, is.0))))

IsGiven-more : (ask : ℕ → ℕ) (given size : ℕ) (buffer : Buffer) → IsGiven ask given buffer → IsGiven (asks ask (suc given) size) (suc given) buffer
IsGiven-more ask given size buffer is =
    (omega (arith, is.0), is.1 ∙ sym (asks-old ask (suc given) size buffer.number (omega (arith, is.0))))

module _ (limits : Limits) (s : State) (size : ℕ) (next : List Pipe) (after : List (List Buffer)) (ask : ℕ → ℕ)
    (room : has_room (account_of limits s) size ≡ true) (all : length s.made ≡ length limits.sizes)
    (covered : IsCovered limits.sizes ask s.made s.numbers_given s.pipes s.unsent)
    (items : Each (OfPipe (IsAsked (asks ask (suc s.numbers_given) size) (suc s.numbers_given))) next)
    (buffers : Each (IsGiven (asks ask (suc s.numbers_given) size) (suc s.numbers_given)) (buffers_in after))
    (were : (n : ℕ) → n ≤ s.numbers_given → is_held next after n ≡ true → is_held s.pipes s.unsent n ≡ true) where
  abbrev now : ℕ → ℕ
  now = asks ask (suc s.numbers_given) size

  took : (class n : ℕ) → n ≤ s.numbers_given → takes_class now next after limits.sizes class n ≡ true →
      takes_class ask s.pipes s.unsent limits.sizes class n ≡ true
  took class n old is =
      let parts = both (is_held next after n) (is_class limits.sizes class (now n)) is in
      ap (λ b. b && is_class limits.sizes class (ask n)) (were n old parts.0)
      ∙ ap (is_class limits.sizes class) (sym (asks-old ask (suc s.numbers_given) size n (omega (arith, old))))
      ∙ parts.1

  -- the new number is held at most once
  one_more : (class : ℕ) → cond {A = ℕ} (takes_class now next after limits.sizes class (suc s.numbers_given)) 1 0 ≤ cond {A = ℕ} (is_class limits.sizes class size) 1 0
  one_more class =
      omega (
        arith,
        at (is_held next after (suc s.numbers_given)) (is_class limits.sizes class (now (suc s.numbers_given))),
        ap (λ k. cond {A = ℕ} (is_class limits.sizes class k) 1 0) (asks-new ask (suc s.numbers_given) size),
      )
    where
      at : (a b : Bool) → cond {A = ℕ} (a && b) 1 0 ≤ cond {A = ℕ} b 1 0
      at true b = omega arith
      at false true = omega arith
      at false false = omega arith

  covered_more : IsCovered limits.sizes now (account_drawn limits s size).made (suc s.numbers_given) next after
  covered_more = record {
    items = items;
    buffers = buffers;
    most = λ class within.
        let account = account_of limits s in
        let out = out_is limits.sizes ask s.made s.numbers_given class s.pipes s.unsent covered within in
        omega (
          arith,
          sum_by_push (λ n. cond {A = ℕ} (takes_class now next after limits.sizes class n) 1 0) (numbers_to s.numbers_given) (suc s.numbers_given),
          count-fewer (takes_class now next after limits.sizes class) (takes_class ask s.pipes s.unsent limits.sizes class) (numbers_to s.numbers_given)
              (Each-drop (λ n. n ≤ s.numbers_given)
              (λ n. takes_class now next after limits.sizes class n ≡ true → takes_class ask s.pipes s.unsent limits.sizes class n ≡ true)
              (numbers_to s.numbers_given) (took class) (numbers_within s.numbers_given)),
          one_more class,
          out,
          made_for account size class room all within (omega (arith, out, covered.most class within)),
        );
  }

-- Histories. --

-- no more numbers are held than blocks were made, whatever was asked for under each
abbrev AreCovered : Limits → State → Type 0
AreCovered limits s = (length s.made ≡ length limits.sizes) × ((ask : ℕ → ℕ) × IsCovered limits.sizes ask s.made s.numbers_given s.pipes s.unsent)

-- a change of the pipes and the buffers that brings none that are new
kept_covered : (limits : Limits) (s : State) (next : List Pipe) (after : List (List Buffer)) →
    ((P : Item → Type 0) → Each (OfPipe P) s.pipes → Each (OfPipe P) next) →
    ((P : Buffer → Type 0) → Each P (buffers_in s.unsent) → Each P (buffers_in after)) →
    AreCovered limits s → AreCovered limits (record s { pipes = next; unsent = after })
kept_covered limits s next after keeps_items keeps_buffers covered =
    let ask = covered.1.0 in (
      covered.0,
      (
        ask,
        fewer limits.sizes ask s.made s.numbers_given s.pipes next s.unsent after (keeps_items (IsAsked ask s.numbers_given) covered.1.1.items)
            (keeps_buffers (IsGiven ask s.numbers_given) covered.1.1.buffers)
            (λ n. was_held n s.pipes next s.unsent after (keeps_items (Other n)) (keeps_buffers (OtherBuffer n))) covered.1.1,
      ),
    )

sent_covered : (limits : Limits) (s : State) (sending : Sending) (subs : List Subscription) → sending.number ≡ s.numbers_given + 1 →
    has_room (account_of limits s) sending.asked ≡ true → AreCovered limits s → AreCovered limits (with_sent limits s sending subs)
sent_covered limits s sending subs number room covered =
    let ask = covered.1.0 in
    let given = s.numbers_given in
    let size = sending.asked in
    let now = asks ask (suc given) size in
    let one : sending.number ≡ suc given = omega (arith, number) in
    let made = (account_drawn limits s size).made in
    let next = deliver sending subs s.pipes in
    let New : Item → Type 0 = IsAsked now (suc given) in
    let items : Each (OfPipe New) next =
    Each-deliver (OfPipe New) sending
    (OfPipe-offer New sending (λ sub. (omega (arith, one), sym (ap now one ∙ asks-new ask (suc given) size)))) subs s.pipes
    (Each-drop (OfPipe (IsAsked ask given)) (OfPipe New) s.pipes (OfPipe-drop (IsAsked ask given) New (IsAsked-more ask given size)) covered.1.1.items) in
    let buffers : Each (IsGiven now (suc given)) (buffers_in s.unsent) =
    Each-drop (IsGiven ask given) (IsGiven now (suc given)) (buffers_in s.unsent) (IsGiven-more ask given size) covered.1.1.buffers in
    let were : (n : ℕ) → n ≤ given → is_held next s.unsent n ≡ true → is_held s.pipes s.unsent n ≡ true =
    λ n old. was_held n s.pipes next s.unsent s.unsent
    (Each-deliver (OfPipe (Other n)) sending (OfPipe-offer (Other n) sending (λ sub. ne_eqb sending.number n (λ is. omega (arith, is, one, old)))) subs s.pipes)
    (λ each. each) in (
      length-made (account_of limits s) size ∙ covered.0,
      (
        now,
        subst (λ n. IsCovered limits.sizes now made n next s.unsent) (sym one)
            (covered_more limits s size next s.unsent ask room covered.0 covered.1.1 items buffers were),
      ),
    )

allocated_covered : (limits : Limits) (s : State) (app size : ℕ) → has_room (account_of limits s) size ≡ true → AreCovered limits s →
    AreCovered limits ((allocated limits s app size).1)
allocated_covered limits s app size room covered =
    let ask = covered.1.0 in
    let given = s.numbers_given in
    let now = asks ask (suc given) size in
    let one : given + 1 ≡ suc given = omega arith in
    let made = (account_drawn limits s size).made in
    let new : Buffer = record { number = given + 1; size = size } in
    let after = with_unsent s.unsent app new in
    let New : Buffer → Type 0 = IsGiven now (suc given) in
    let items : Each (OfPipe (IsAsked now (suc given))) s.pipes =
    Each-drop (OfPipe (IsAsked ask given)) (OfPipe (IsAsked now (suc given))) s.pipes
    (OfPipe-drop (IsAsked ask given) (IsAsked now (suc given)) (IsAsked-more ask given size)) covered.1.1.items in
    let buffers : Each New (buffers_in after) =
    Each-with_unsent New s.unsent app new
    (Each-drop (IsGiven ask given) New (buffers_in s.unsent) (IsGiven-more ask given size) covered.1.1.buffers)
    (omega arith, sym (ap now one ∙ asks-new ask (suc given) size)) in
    let were : (n : ℕ) → n ≤ given → is_held s.pipes after n ≡ true → is_held s.pipes s.unsent n ≡ true =
    λ n old. was_held n s.pipes s.pipes s.unsent after (λ each. each)
    (λ each. Each-with_unsent (OtherBuffer n) s.unsent app new each (ne_eqb (given + 1) n (λ is. omega (arith, is, old)))) in (
      length-made (account_of limits s) size ∙ covered.0,
      (
        now,
        subst (λ n. IsCovered limits.sizes now made n s.pipes after) (sym one)
            (covered_more limits s size s.pipes after ask room covered.0 covered.1.1 items buffers were),
      ),
    )

-- what is sent of a buffer stays held under the buffer's number, with the size that was asked for
passed_covered : (limits : Limits) (s : State) (app : ℕ) (sending : Sending) (subs : List Subscription) → has_unsent s.unsent app sending.number ≡ true →
    sending.asked ≡ unsent_size s.unsent app sending.number → AreCovered limits s →
    AreCovered limits (record (buffer_gone s app sending.number) { pipes = deliver sending subs s.pipes })
passed_covered limits s app sending subs has asked covered =
    let ask = covered.1.0 in
    let given = s.numbers_given in
    let next = deliver sending subs s.pipes in
    let after = without_unsent s.unsent app sending.number in
    let Here : Item → Type 0 = IsAsked ask given in
    let mine = Each-unsent_of (IsGiven ask given) s.unsent (app - 1) covered.1.1.buffers in
    let known : (unsent_size s.unsent app sending.number ≡ ask sending.number) × (sending.number ≤ given) =
    has_found ask given sending.number (unsent_of s.unsent app) mine has in
    let items : Each (OfPipe Here) next =
    Each-deliver (OfPipe Here) sending (OfPipe-offer Here sending (λ sub. (known.1, asked ∙ known.0))) subs s.pipes covered.1.1.items in
    let buffers = Each-without_unsent (IsGiven ask given) s.unsent app sending.number covered.1.1.buffers in
    let were : (n : ℕ) → is_held next after n ≡ true → is_held s.pipes s.unsent n ≡ true =
    λ n. elim (sending.number == n) as (λ b. (sending.number == n) ≡ b → is_held next after n ≡ true → is_held s.pipes s.unsent n ≡ true) [
      | true ↦ λ same is.
          or_true (is_on_pipes s.pipes n) (is_unsent s.unsent n)
          (ap (is_unsent s.unsent) (sym (eqb-true sending.number n same)) ∙ unsent_here s.unsent app sending.number has)
      | false ↦ λ differ.
          was_held n s.pipes next s.unsent after (Each-deliver (OfPipe (Other n)) sending (OfPipe-offer (Other n) sending (λ sub. differ)) subs s.pipes)
          (Each-without_unsent (OtherBuffer n) s.unsent app sending.number)
    ] refl in
    (covered.0, (ask, fewer limits.sizes ask s.made given s.pipes next s.unsent after items buffers were covered.1.1))

AreCovered-step : (limits : Limits) (history : List Entry) (s : State) (app : ℕ) (call : Call) → AreCovered limits s → AreCovered limits ((step limits history s app call).1)
AreCovered-step limits history s app call covered =
    let changes : (next : List Pipe) → ((P : Item → Type 0) → Each (OfPipe P) s.pipes → Each (OfPipe P) next) → AreCovered limits (record s { pipes = next }) =
    λ next keeps. kept_covered limits s next s.unsent keeps (λ P each. each) covered in
    let takes : (pipe : ℕ) → AreCovered limits (record s { pipes = with_pipe after_receive pipe s.pipes }) =
    λ pipe. changes (with_pipe after_receive pipe s.pipes) (λ P each. Each-with_pipe (OfPipe P) after_receive (OfPipe-receive P) pipe s.pipes each) in
    after_step (AreCovered limits) limits history s app call (record {
      same = covered;
      creates = λ depth name none.
          changes (s.pipes ++ _ ∷ []) (λ P each. Each-push (OfPipe P) s.pipes _ each (record { queue = tt; last = tt }));
      subscribes = λ id pipe limit scope none other. covered;
      sends = λ sending id who number room. sent_covered limits s sending (route s.subscriptions id) number room covered;
      receives = takes;
      deletes = λ pipe none. changes (filter (λ other. not (other.number == pipe)) s.pipes)
          (λ P each. Each-filter (OfPipe P) (λ other. not (other.number == pipe)) s.pipes each);
      sets = λ pipe bits none.
          changes (with_pipe (with_bits bits) pipe s.pipes)
          (λ P each. Each-with_pipe (OfPipe P) (with_bits bits) (λ p of. record { queue = of.queue; last = of.last }) pipe s.pipes each);
      unsubscribes = λ id pipe none. covered;
      stands = λ pipe standing going. takes pipe;
      ends = kept_covered limits s (filter (λ pipe. not (pipe.owner == app)) s.pipes) (without_all_unsent s.unsent app)
          (λ P each. Each-filter (OfPipe P) (λ pipe. not (pipe.owner == app)) s.pipes each) (λ P each. Each-without_all P s.unsent app each) covered;
      pools = λ next follows. covered;
      allocates = λ size none. allocated_covered limits s app size (may_allocate limits s size none).room covered;
      leaves = λ buf has.
          kept_covered limits s s.pipes (without_unsent s.unsent app buf) (λ P each. each) (λ P each. Each-without_unsent P s.unsent app buf each) covered;
      records = λ t desk statistics is. is;
      passes = λ sending id who has asked. passed_covered limits s app sending (route s.subscriptions id) has asked covered;
    })

-- before the first call nobody has a buffer
pub none_at_first : (apps : ℕ) → buffers_in (replicate apps []) ≡ []
none_at_first zero = refl
none_at_first (suc apps) = none_at_first apps

-- after every history
pub IsAccounted-after : (limits : Limits) (apps : ℕ) (history : List Entry) → IsAccounted limits (length history) (state_after limits apps history)
IsAccounted-after limits apps history =
    let s = state_after limits apps history in
    let drawn = AreDrawn-after limits apps history in
    let first : IsCovered limits.sizes (λ n. 0) (replicate (length limits.sizes) 0) 0 [] (replicate apps []) =
    record { items = tt; buffers = subst (Each (IsGiven (λ n. 0) 0)) (sym (none_at_first apps)) tt; most = λ class within. omega arith } in
    let covered = state_from-keeps (AreCovered limits) limits (AreCovered-step limits) [] (opening limits apps) history
    (length-replicate {A = ℕ} (length limits.sizes) 0, ((λ n. 0), first)) in
    record {
      made_all = drawn.made_all;
      most = λ class within.
          omega (arith, out_is limits.sizes covered.1.0 s.made s.numbers_given class s.pipes s.unsent covered.1.1 within, covered.1.1.most class within);
      paid = drawn.paid;
      drawn = drawn.drawn;
      given = (AreCounted-after limits apps history).numbers;
    }
