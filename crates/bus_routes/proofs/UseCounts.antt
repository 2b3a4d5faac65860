-- What a change of one pipe, and a delivery, do to the uses of a send.
use Rattle.std.proofs.Common.{◌≡◌, ℕ, ◌+◌, ◌<◌, ◌≤◌, Bool, true, false, cond, eqb, List, [], ◌∷◌, drop, count_by, sum_by, length, length-append, refl, sym, ap, subst, arith, Option, Some, None}
use Rattle.std.specs.List.{find}
use Rattle.std.specs.Option.{option_map_or, option_and_then, option_to_list}
use Rattle.std.proofs.lemmas.Bool.Decides.{nat_tests}
use Rattle.std.proofs.lemmas.List.Sums.{sum_by-append, sum_by-cons, sum_by_push}
use Rattle.bus_words.specs.Bus.{Subscription}
use Rattle.bus_routes.specs.declared.message.Message.{Message}
use Rattle.bus_routes.specs.declared.tables.ItemRow.{ItemRow}
use Rattle.bus_words.specs.Pipes.{with_pipe, after_receive, without_front, without_last, oldest, oldest_on, last_on, IsRising, queue_after, dropped_at, is_queued, is_oldest}
use Rattle.bus_words.specs.declared.verdict.Verdict.{Verdict}
use Rattle.bus_words.specs.declared.verdict.Verdict.TheVariants.{Skip, OverLimit, In, Oldest, Full}
use Rattle.bus_routes.specs.Rows.{Row, verdict_on, item_of, offered_row, row_takes, row_drops, deliver_rows, reached_rows, dropped_rows, drops_rows}
use Rattle.bus_routes.specs.Uses.{item_use, uses_among, uses_in, uses_of}

abbrev is : ℕ → Row → Bool
is p row = eqb row.number p

-- a number below the rows' is no row's
absent : (f : Row → Row) (p below : ℕ) (rows : List Row) → IsRising below rows → p ≤ below → with_pipe f p rows ≡ rows
absent f p below [] r h = refl
absent f p below (row ∷ rows) r h =
    (λ i. cond (off row.number p (omega (arith, h, r.0)) i) (f row) row ∷ absent f p row.number rows r.1 (omega (arith, h, r.0)) i)
  where
    off : (a b : ℕ) → b < a → eqb a b ≡ false
    off a b l = grind (arith, nat_tests)

abbrev Changes : (Row → ℕ) → (Row → Row) → ℕ → Row → List Row → Bool → Type 0
Changes w f p row rows b = sum_by w (cond b (f row) row ∷ with_pipe f p rows) + option_map_or w (cond b (Some row) (find (is p) rows)) 0 ≡ sum_by w (row ∷ rows) + option_map_or (λ x. w (f x)) (cond b (Some row) (find (is p) rows)) 0

-- a sum over the rows changes by what the one row does
pub with_row_sum : (w : Row → ℕ) (f : Row → Row) (p below : ℕ) (rows : List Row) → IsRising below rows → sum_by w (with_pipe f p rows) + option_map_or w (find (is p) rows) 0 ≡ sum_by w rows + option_map_or (λ row. w (f row)) (find (is p) rows) 0
with_row_sum w f p below [] r = refl
with_row_sum w f p below (row ∷ rows) r = by_case (eqb row.number p) refl (with_row_sum w f p row.number rows r.1)
  where
    same : (a b : ℕ) → eqb a b ≡ true → b ≤ a
    same a b t = grind (arith, nat_tests)

    by_case : (b : Bool) → eqb row.number p ≡ b → sum_by w (with_pipe f p rows) + option_map_or w (find (is p) rows) 0 ≡ sum_by w rows + option_map_or (λ x. w (f x)) (find (is p) rows) 0 → Changes w f p row rows (eqb row.number p)
    by_case true e later =
        let rest = ap (sum_by w) (absent f p row.number rows r.1 (same row.number p e)) in
        subst (Changes w f p row rows) (sym e) (omega (arith, sum_by-cons w (f row) (with_pipe f p rows), sum_by-cons w row rows, rest))
    by_case false e later = subst (Changes w f p row rows) (sym e) (omega (arith, sum_by-cons w row (with_pipe f p rows), sum_by-cons w row rows, later))

rising_with : (f : Row → Row) → ((row : Row) → (f row).number ≡ row.number) → (p below : ℕ) (rows : List Row) → IsRising below rows → IsRising below (with_pipe f p rows)
rising_with f keeps p below [] r = tt
rising_with f keeps p below (row ∷ rows) r =
    let number : (b : Bool) → (cond b (f row) row).number ≡ row.number = numbers in
    (omega (arith, r.0, number (eqb row.number p)), subst (λ k. IsRising k (with_pipe f p rows)) (sym (number (eqb row.number p))) (rising_with f keeps p row.number rows r.1))
  where
    numbers : (b : Bool) → (cond b (f row) row).number ≡ row.number
    numbers true = keeps row
    numbers false = refl

-- the first item that waits, and those behind it
moved : (n : ℕ) (q : List ItemRow) → count_by (λ i. eqb i.number n) (drop 1 q) + item_use n (oldest q) ≡ count_by (λ i. eqb i.number n) q
moved n [] = refl
moved n (i ∷ q) = omega (arith, sum_by-cons (λ (x : ItemRow). cond {A = ℕ} (eqb x.number n) 1 0) i q)

-- an item as a list of at most one
uses_in_list : (n : ℕ) (o : Option ItemRow) → uses_among n (option_to_list o) ≡ item_use n o
uses_in_list n None = refl
uses_in_list n (Some i) = omega (arith, sum_by-cons (λ (x : ItemRow). cond {A = ℕ} (eqb x.number n) 1 0) i [])

-- one offer
offered_uses : (n : ℕ) (message : Message) (sub : Subscription) (row : Row) →
    uses_in n (offered_row message sub row) + uses_among n (option_to_list (dropped_at (verdict_on row sub message.sender) row.queue))
    ≡ uses_in n row + cond (eqb message.number n) (cond {A = ℕ} (is_queued (verdict_on row sub message.sender)) 1 0) 0
offered_uses n message sub row = by_verdict (verdict_on row sub message.sender) (eqb message.number n) refl
  where
    one : ItemRow → ℕ
    one i = cond {A = ℕ} (eqb i.number n) 1 0

    none : (b : Bool) → cond {A = ℕ} b 0 0 ≡ 0
    none true = refl
    none false = refl

    by_verdict : (v : Verdict) (b : Bool) → eqb message.number n ≡ b →
        uses_in n (record row { queue = queue_after v (item_of message sub) row.queue }) + uses_among n (option_to_list (dropped_at v row.queue))
        ≡ uses_in n row + cond (eqb message.number n) (cond {A = ℕ} (is_queued v) 1 0) 0
    by_verdict Skip b e = omega (arith, none (eqb message.number n))
    by_verdict OverLimit b e = omega (arith, none (eqb message.number n))
    by_verdict In b e = omega (arith, sum_by_push one row.queue (item_of message sub))
    by_verdict Oldest b e =
        omega (arith, sum_by_push one (drop 1 row.queue) (item_of message sub), moved n row.queue, uses_in_list n (oldest row.queue))
    by_verdict Full b e = omega (arith, none (eqb message.number n))

one_offer : (n : ℕ) (message : Message) (below : ℕ) (sub : Subscription) (rows : List Row) → IsRising below rows →
    uses_of n (with_pipe (offered_row message sub) sub.pipe rows) + uses_among n (row_drops message sub rows) ≡ uses_of n rows + cond (eqb message.number n) (row_takes message sub rows) 0
one_offer n message below sub rows r = at (find (is sub.pipe) rows) (with_row_sum (uses_in n) (offered_row message sub) sub.pipe below rows r)
  where
    nothing : (b : Bool) → cond {A = ℕ} b 0 0 ≡ 0
    nothing true = refl
    nothing false = refl

    at : (o : Option Row) → uses_of n (with_pipe (offered_row message sub) sub.pipe rows) + option_map_or (uses_in n) o 0 ≡ uses_of n rows + option_map_or (λ row. uses_in n (offered_row message sub row)) o 0 →
        uses_of n (with_pipe (offered_row message sub) sub.pipe rows) + uses_among n (option_to_list (option_and_then (λ row. dropped_at (verdict_on row sub message.sender) row.queue) o))
        ≡ uses_of n rows + cond (eqb message.number n) (option_map_or (λ row. cond {A = ℕ} (is_queued (verdict_on row sub message.sender)) 1 0) o 0) 0
    at None e = omega (arith, e, nothing (eqb message.number n))
    at (Some row) e = omega (arith, e, offered_uses n message sub row)

-- a delivery adds one use of its send for each pipe reached, and takes one of the send of each item that leaves
pub delivered_uses : (n : ℕ) (message : Message) (below : ℕ) (subs : List Subscription) (rows : List Row) → IsRising below rows →
    uses_of n (deliver_rows message subs rows) + uses_among n (dropped_rows message subs rows) ≡ uses_of n rows + cond (eqb message.number n) (reached_rows message subs rows) 0
delivered_uses n message below [] rows r = at (eqb message.number n)
  where
    at : (b : Bool) → uses_of n rows + 0 ≡ uses_of n rows + cond b 0 0
    at true = omega arith
    at false = omega arith
delivered_uses n message below (sub ∷ subs) rows r =
    let next : List Row = with_pipe (offered_row message sub) sub.pipe rows in
    let rises = rising_with (offered_row message sub) (λ row. refl) sub.pipe below rows r in
    at (eqb message.number n) (uses_of n rows) (uses_of n next) _ (row_takes message sub rows) (reached_rows message subs next) _ _ _
    (sum_by-append (λ (i : ItemRow). cond {A = ℕ} (eqb i.number n) 1 0) (row_drops message sub rows) (dropped_rows message subs next))
    (one_offer n message below sub rows r) (delivered_uses n message below subs next rises)
  where
    at : (b : Bool) (x y z u v c d e : ℕ) → c ≡ d + e → y + d ≡ x + cond b u 0 → z + e ≡ y + cond b v 0 → z + c ≡ x + cond b (u + v) 0
    at true x y z u v c d e both first rest = omega (arith, both, first, rest)
    at false x y z u v c d e both first rest = omega (arith, both, first, rest)

-- at most one item leaves for each verdict Oldest
one_dropped : (message : Message) (sub : Subscription) (rows : List Row) →
    length (row_drops message sub rows) ≤ option_map_or (λ row. cond {A = ℕ} (is_oldest (verdict_on row sub message.sender)) 1 0) (find (is sub.pipe) rows) 0
one_dropped message sub rows = at (find (is sub.pipe) rows)
  where
    at_most : (o : Option ItemRow) → length (option_to_list o) ≤ 1
    at_most None = omega arith
    at_most (Some item) = omega arith

    by_verdict : (v : Verdict) (queue : List ItemRow) → length (option_to_list (dropped_at v queue)) ≤ cond {A = ℕ} (is_oldest v) 1 0
    by_verdict Skip queue = omega arith
    by_verdict OverLimit queue = omega arith
    by_verdict In queue = omega arith
    by_verdict Oldest queue = at_most (oldest queue)
    by_verdict Full queue = omega arith

    at : (o : Option Row) → length (option_to_list (option_and_then (λ row. dropped_at (verdict_on row sub message.sender) row.queue) o))
        ≤ option_map_or (λ row. cond {A = ℕ} (is_oldest (verdict_on row sub message.sender)) 1 0) o 0
    at None = omega arith
    at (Some row) = by_verdict (verdict_on row sub message.sender) row.queue

pub dropped_few : (message : Message) (subs : List Subscription) (rows : List Row) → length (dropped_rows message subs rows) ≤ drops_rows message subs rows
dropped_few message [] rows = omega arith
dropped_few message (sub ∷ subs) rows =
    let next : List Row = with_pipe (offered_row message sub) sub.pipe rows in
    omega (arith, length-append (row_drops message sub rows) (dropped_rows message subs next), one_dropped message sub rows, dropped_few message subs next)

-- If an application takes the next message of a pipe, the one received last loses a use, and no other does.
pub taken_uses : (n p below : ℕ) (rows : List Row) → IsRising below rows → uses_of n (with_pipe after_receive p rows) + option_map_or (λ row. item_use n row.last) (find (is p) rows) 0 ≡ uses_of n rows
taken_uses n p below rows r = at (find (is p) rows) (with_row_sum (uses_in n) after_receive p below rows r)
  where
    at : (o : Option Row) → uses_of n (with_pipe after_receive p rows) + option_map_or (uses_in n) o 0 ≡ uses_of n rows + option_map_or (λ row. uses_in n (after_receive row)) o 0 → uses_of n (with_pipe after_receive p rows) + option_map_or (λ row. item_use n row.last) o 0 ≡ uses_of n rows
    at None e = omega (arith, e)
    at (Some row) e = omega (arith, e, moved n row.queue)

-- if the item that waits longest is taken out of a pipe, its send loses a use, and no other does
pub front_uses : (n p below : ℕ) (rows : List Row) → IsRising below rows → uses_of n (with_pipe without_front p rows) + item_use n (oldest_on rows p) ≡ uses_of n rows
front_uses n p below rows r = at (find (is p) rows) (with_row_sum (uses_in n) without_front p below rows r)
  where
    at : (o : Option Row) → uses_of n (with_pipe without_front p rows) + option_map_or (uses_in n) o 0 ≡ uses_of n rows + option_map_or (λ row. uses_in n (without_front row)) o 0 → uses_of n (with_pipe without_front p rows) + item_use n (option_and_then (λ row. oldest row.queue) o) ≡ uses_of n rows
    at None e = omega (arith, e)
    at (Some row) e = omega (arith, e, moved n row.queue)

-- and so if the item received last is taken out
pub last_uses : (n p below : ℕ) (rows : List Row) → IsRising below rows → uses_of n (with_pipe without_last p rows) + item_use n (last_on rows p) ≡ uses_of n rows
last_uses n p below rows r = at (find (is p) rows) (with_row_sum (uses_in n) without_last p below rows r)
  where
    at : (o : Option Row) → uses_of n (with_pipe without_last p rows) + option_map_or (uses_in n) o 0 ≡ uses_of n rows + option_map_or (λ row. uses_in n (without_last row)) o 0 → uses_of n (with_pipe without_last p rows) + item_use n (option_and_then (λ row. row.last) o) ≡ uses_of n rows
    at None e = omega (arith, e)
    at (Some row) e = omega (arith, e)
