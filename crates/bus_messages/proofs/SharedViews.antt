-- Two bags that have a view of one send have the same view.
use Rattle.std.proofs.Common.{◌≡◌, ℕ, ◌+◌, ◌≤◌, Bool, true, false, cond, eqb, leb, List, [], ◌∷◌, ◌++◌, sum_by, Option, Some, None, ap, sym, ◌∙◌, subst, arith}
use Rattle.std.specs.List.{All}
use Rattle.std.specs.Option.{IfSome, option_map, option_and_then, option_to_list}
use Rattle.std.proofs.lemmas.Bool.Decides.{nat_tests}
use Rattle.std.proofs.lemmas.List.Elements.{All-head, All-tail}
use Rattle.std.proofs.lemmas.List.Sums.{sum_by-cons}
use Rattle.lend_block.specs.Loan.{LentBytes}
use Rattle.buf_desc.specs.Desk.{Buffers}
use Rattle.buf_desc.specs.Held.{Holding, view_at}
use Rattle.buf_desc.specs.Slots.{sealed_at}
use Rattle.bus_words.specs.Bus.{Item, Pipe, Buffer, owns, pipe_at}
use Rattle.bus_words.specs.Held.{names, named_by, is_on_pipes, items_of}
use Rattle.bus_messages.specs.Bag.{HoldsViews, last_view}
use Rattle.bus_messages.specs.Blocks.{AreBlocks}
use Rattle.bus_messages.specs.Store.{LastLoan, BufferDesc}
use Rattle.bus_words.specs.Pipes.{last_on}
use Rattle.bus_messages.specs.Words.{loan_of}

back : (P : Item → Type 0) (xs ys : List Item) → All P (xs ++ ys) → All P ys
back P [] ys all = all
back P (x ∷ xs) ys all = back P xs ys (All-tail P x (xs ++ ys) all)

-- a last message is one of the items
last_among : (P : Item → Type 0) (pipes : List Pipe) (number : ℕ) (item : Item) → last_on pipes number ≡ Some item → All P (items_of pipes) → P item
last_among P [] number item e all = absurd (cc (e))
last_among P (pipe ∷ pipes) number item e all = by_test (eqb pipe.number number) e (last_among P pipes number item)
  where
    here : (o : Option Item) → o ≡ Some item → All P (option_to_list o ++ (pipe.queue ++ items_of pipes)) → P item
    here None f every = absurd (cc (f))
    here (Some i) f every = subst (λ (x : Option Item). IfSome x P) f (All-head P i (pipe.queue ++ items_of pipes) every)

    by_test : (b : Bool) → option_and_then (λ (p : Pipe). p.last) (cond {A = Option Pipe} b (Some pipe) (pipe_at pipes number)) ≡ Some item →
        (last_on pipes number ≡ Some item → All P (items_of pipes) → P item) → P item
    by_test true f ih = here pipe.last f all
    by_test false f ih = ih f (back P pipe.queue (items_of pipes) (back P (option_to_list pipe.last) (pipe.queue ++ items_of pipes) all))

-- so its send is held
last_held : (pipes : List Pipe) (number : ℕ) (item : Item) → last_on pipes number ≡ Some item → is_on_pipes pipes item.number ≡ true
last_held pipes number item e = some (sum_by (named_by item.number) pipes) (named pipes e)
  where
    some : (n : ℕ) → 1 ≤ n → leb 1 n ≡ true
    some n h = grind (arith, nat_tests)

    once : (n : ℕ) → cond {A = ℕ} (eqb n n) 1 0 ≡ 1
    once n = grind (arith, nat_tests)

    named_last : (o : Option Item) → o ≡ Some item → names item.number o ≡ 1
    named_last o f = ap (names item.number) f ∙ once item.number

    named : (some : List Pipe) → last_on some number ≡ Some item → 1 ≤ sum_by (named_by item.number) some
    named [] f = absurd (cc (f))
    named (pipe ∷ rest) f = by_test (eqb pipe.number number) f (named rest)
      where
        split : sum_by (named_by item.number) (pipe ∷ rest) ≡ named_by item.number pipe + sum_by (named_by item.number) rest
        split = sum_by-cons (named_by item.number) pipe rest

        by_test : (b : Bool) → option_and_then (λ (p : Pipe). p.last) (cond {A = Option Pipe} b (Some pipe) (pipe_at rest number)) ≡ Some item →
            (last_on rest number ≡ Some item → 1 ≤ sum_by (named_by item.number) rest) → 1 ≤ sum_by (named_by item.number) (pipe ∷ rest)
        by_test true g ih = let one = named_last pipe.last g in omega (arith, split, one)
        by_test false g ih = let later = ih g in omega (arith, split, later)

-- the view that is due of a pipe whose last message is this item
seen_is : (pipes : List Pipe) (loans : List LastLoan) (most app pipe : ℕ) (bag : Holding LentBytes) (item : Item) → HoldsViews pipes loans most app bag → owns pipes app pipe ≡ true → last_on pipes pipe ≡ Some item →
    view_at bag pipe ≡ Some (record { loan = loan_of loans pipe; bytes = item.message })
seen_is pipes loans most app pipe bag item holds own is =
    holds.seen pipe
    ∙ ap (λ b. cond {A = Option LentBytes} b (last_view pipes loans pipe) None) own
    ∙ ap (option_map (λ (i : Item). record { loan = loan_of loans pipe; bytes = i.message })) is

pub one_view : (buffers : Buffers) (pipes : List Pipe) (loans : List LastLoan) (unsent : List (List Buffer)) (descs : List BufferDesc) (most app other pipe its : ℕ) (bag another : Holding LentBytes) (item same : Item) →
    AreBlocks buffers pipes loans unsent descs → HoldsViews pipes loans most app bag → HoldsViews pipes loans most other another →
    owns pipes app pipe ≡ true → owns pipes other its ≡ true →
    last_on pipes pipe ≡ Some item → last_on pipes its ≡ Some same → item.number ≡ same.number → view_at bag pipe ≡ view_at another its
one_view buffers pipes loans unsent descs most app other pipe its bag another item same blocks holds also own theirs is alike number =
    let has = blocks.all_sends item.number (last_held pipes pipe item is) in
    let block = sealed_at buffers.slots has.desc in
    let told = blocks.each_sealed has.desc has.sealed in
    let view : ℕ → List ℕ → Option LentBytes = λ n l. Some (record { loan = n; bytes = l }) in
    let here : item.number ≡ block.number = sym has.has_number in
    let there : same.number ≡ block.number = sym number ∙ here in
    seen_is pipes loans most app pipe bag item holds own is
    ∙ ap (λ n. view n item.message) (told.loan pipe item is here ∙ sym (told.loan its same alike there))
    ∙ ap (λ l. view (loan_of loans its) l)
    (last_among (λ (i : Item). i.number ≡ block.number → i.message ≡ block.bytes) pipes pipe item is told.bytes here
    ∙ sym (last_among (λ (i : Item). i.number ≡ block.number → i.message ≡ block.bytes) pipes its same alike told.bytes there))
    ∙ sym (seen_is pipes loans most other its another same also theirs alike)
