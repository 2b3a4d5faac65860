-- The views of an application's bag, over the rows.
use Rattle.std.proofs.Common.{◌≡◌, ℕ, ◌+◌, ◌<◌, ◌≤◌, ◌&&◌, ◌||◌, Bool, true, false, cond, eqb, List, [], ◌∷◌, ◌++◌, length, map, find, count_by, Option, Some, None, is_some, refl, ap, sym, ◌∙◌, arith}
use Rattle.std.specs.Option.{IfSome, option_map, option_map_or, option_and_then}
use Rattle.std.proofs.lemmas.Bool.{eqb-true}
use Rattle.std.proofs.lemmas.Bool.Decides.{nat_tests}
use Rattle.std.proofs.lemmas.List.{length-map}
use Rattle.std.proofs.lemmas.List.Sums.{sum_by-cons, sum_by_push, count_by-le-length}
use Rattle.fsw_base.proofs.Lists.{find-map, count_by-map}
use Rattle.lend_block.specs.Loan.{LentBytes}
use Rattle.buf_desc.specs.Slots.{sealed_at}
use Rattle.buf_desc.specs.declared.slot.Slot.{Slot}
use Rattle.bus_words.specs.Bus.{Item, Pipe, owns}
use Rattle.bus_routes.specs.declared.tables.ItemRow.{ItemRow}
use Rattle.bus_words.specs.Pipes.{pipe_at, with_pipe, after_receive, oldest, oldest_on, last_on, IsRising, pipe_by}
use Rattle.bus_routes.specs.Rows.{Row}
use Rattle.bus_routes.proofs.UseCounts.{with_row_sum}
use Rattle.bus_messages.specs.Store.{Store, LastLoan}
use Rattle.bus_messages.specs.Words.{loan_of}
use Rattle.bus_messages.specs.Bag.{view_due, views_due}
use Rattle.bus_messages.specs.Inside.{item_in, pipes_in, loan_at, loan_in, view_in}
use Rattle.bus_words.proofs.PipeItems.{owns-map, last_on-map}

-- What is due, over the rows. --

-- the loan of a pipe's last message
pub loan-rows : (slots : List Slot) (rows : List Row) (number : ℕ) →
    option_map_or {U = ℕ} (λ (one : LastLoan). one.loan) (find (λ (one : LastLoan). eqb one.pipe number) (map (loan_in slots) rows)) 0
    ≡ loan_at slots (last_on rows number)
loan-rows slots rows number =
    ap (λ o. option_map_or {U = ℕ} (λ (one : LastLoan). one.loan) o 0) (find-map (λ (one : LastLoan). eqb one.pipe number) (loan_in slots) rows) ∙ by_row (pipe_at rows number)
  where
    by_row : (o : Option Row) → option_map_or {U = ℕ} (λ (one : LastLoan). one.loan) (option_map (loan_in slots) o) 0 ≡ loan_at slots (option_and_then (λ (row : Row). row.last) o)
    by_row None = refl
    by_row (Some row) = refl

abbrev pub due : List Slot → List Row → ℕ → ℕ → Option LentBytes
due slots rows app number = cond (owns rows app number) (option_map (view_in slots) (last_on rows number)) None

pub due-rows : (o : Store) (slots : List Slot) (rows : List Row) (app number : ℕ) → o.pipes ≡ pipes_in slots rows → o.loans ≡ map (loan_in slots) rows → view_due o.pipes o.loans app number ≡ due slots rows app number
due-rows o slots rows app number pipes loans =
    ap (λ (l : List Pipe). cond {A = Option LentBytes} (owns l app number) (viewed (loan_of o.loans number) (last_on l number)) None) pipes
    ∙ ap (λ n. cond {A = Option LentBytes} (owns (pipes_in slots rows) app number) (viewed n (last_on (pipes_in slots rows) number)) None)
    (ap (λ (l : List LastLoan). option_map_or {U = ℕ} (λ (one : LastLoan). one.loan) (find (λ (one : LastLoan). eqb one.pipe number) l) 0) loans ∙ loan-rows slots rows number)
    ∙ ap (λ (l : Option Item). cond {A = Option LentBytes} (owns (pipes_in slots rows) app number) (viewed (loan_at slots (last_on rows number)) l) None) (last_on-map (item_in slots) rows number)
    ∙ ap (λ b. cond {A = Option LentBytes} b (viewed (loan_at slots (last_on rows number)) (option_map (item_in slots) (last_on rows number))) None) (owns-map (item_in slots) rows app number)
    ∙ ap (λ l. cond {A = Option LentBytes} (owns rows app number) l None) (by_last (last_on rows number))
  where
    viewed : ℕ → Option Item → Option LentBytes
    viewed n l = option_map (λ (item : Item). record { loan = n; bytes = item.message }) l

    by_last : (l : Option ItemRow) → viewed (loan_at slots l) (option_map (item_in slots) l) ≡ option_map (view_in slots) l
    by_last None = refl
    by_last (Some i) = refl

-- a view that is read and lent as before
pub view_alike : (slots after : List Slot) (l : Option ItemRow) →
    IfSome l (λ i. (item_in after i ≡ item_in slots i) × ((sealed_at after i.desc).loan ≡ (sealed_at slots i.desc).loan)) → option_map (view_in after) l ≡ option_map (view_in slots) l
view_alike slots after None same = refl
view_alike slots after (Some i) same =
    ap (λ n. Some (record { loan = n; bytes = (sealed_at after i.desc).bytes })) same.1
    ∙ ap (λ (x : Item). Some (record { loan = (sealed_at slots i.desc).loan; bytes = x.message })) same.0

-- A receive. --

-- the last item of the pipe is then the one that waited longest
pub last_item-taken : (rows : List Row) (number : ℕ) → last_on (with_pipe after_receive number rows) number ≡ oldest_on rows number
last_item-taken [] number = refl
last_item-taken (row ∷ rows) number = by_test (eqb row.number number) refl (last_item-taken rows number)
  where
    rest : List Row
    rest = with_pipe after_receive number rows

    by_test : (b : Bool) → eqb row.number number ≡ b → last_on rest number ≡ oldest_on rows number →
        option_and_then (λ (r : Row). r.last) (cond {A = Option Row} (eqb (cond {A = Row} b (after_receive row) row).number number) (Some (cond {A = Row} b (after_receive row) row)) (pipe_at rest number))
        ≡ option_and_then (λ (r : Row). oldest r.queue) (cond {A = Option Row} b (Some row) (pipe_at rows number))
    by_test true e ih = ap (λ c. option_and_then (λ (r : Row). r.last) (cond {A = Option Row} c (Some (after_receive row)) (pipe_at rest number))) e
    by_test false e ih = ap (λ c. option_and_then (λ (r : Row). r.last) (cond {A = Option Row} c (Some row) (pipe_at rest number))) e ∙ ih

-- and those of the others stay
pub last_item-other : (change : Row → Row) → ((row : Row) → (change row).number ≡ row.number) → (rows : List Row) (number other : ℕ) → (number ≡ other → ⊥) →
    last_on (with_pipe change number rows) other ≡ last_on rows other
last_item-other change kept [] number other apart = refl
last_item-other change kept (row ∷ rows) number other apart = by_test (eqb row.number number) refl (eqb row.number other) refl (last_item-other change kept rows number other apart)
  where
    rest : List Row
    rest = with_pipe change number rows

    by_test : (b : Bool) → eqb row.number number ≡ b → (c : Bool) → eqb row.number other ≡ c → last_on rest other ≡ last_on rows other →
        option_and_then (λ (r : Row). r.last) (cond {A = Option Row} (eqb (cond {A = Row} b (change row) row).number other) (Some (cond {A = Row} b (change row) row)) (pipe_at rest other))
        ≡ option_and_then (λ (r : Row). r.last) (cond {A = Option Row} c (Some row) (pipe_at rows other))
    by_test true e true f ih = absurd (apart (sym (eqb-true row.number number e) ∙ eqb-true row.number other f))
    by_test true e false f ih = ap (λ x. option_and_then (λ (r : Row). r.last) (cond {A = Option Row} x (Some (change row)) (pipe_at rest other))) (ap (λ n. eqb n other) (kept row) ∙ f) ∙ ih
    by_test false e c f ih = at c f
      where
        at : (c : Bool) → eqb row.number other ≡ c →
            option_and_then (λ (r : Row). r.last) (cond {A = Option Row} (eqb row.number other) (Some row) (pipe_at rest other))
            ≡ option_and_then (λ (r : Row). r.last) (cond {A = Option Row} c (Some row) (pipe_at rows other))
        at true f = ap (λ x. option_and_then (λ (r : Row). r.last) (cond {A = Option Row} x (Some row) (pipe_at rest other))) f
        at false f = ap (λ x. option_and_then (λ (r : Row). r.last) (cond {A = Option Row} x (Some row) (pipe_at rest other))) f ∙ ih

-- whose pipes they are
pub owns-changed : (change : Row → Row) → ((row : Row) → (change row).number ≡ row.number) → ((row : Row) → (change row).owner ≡ row.owner) →
    (rows : List Row) (number app other : ℕ) → owns (with_pipe change number rows) app other ≡ owns rows app other
owns-changed change kept mine [] number app other = refl
owns-changed change kept mine (row ∷ rows) number app other =
    ap (λ b. b || owns (with_pipe change number rows) app other) (by_test (eqb row.number number))
    ∙ ap (λ b. (eqb row.number other && eqb row.owner app) || b) (owns-changed change kept mine rows number app other)
  where
    by_test : (b : Bool) → (eqb (cond {A = Row} b (change row) row).number other && eqb (cond {A = Row} b (change row) row).owner app) ≡ (eqb row.number other && eqb row.owner app)
    by_test true = ap (λ n. eqb n other && eqb (change row).owner app) (kept row) ∙ ap (λ n. eqb row.number other && eqb n app) (mine row)
    by_test false = refl

-- How many views are due. --

-- 1 if a pipe is the application's and has a last message
abbrev pub has_view : ℕ → Row → Bool
has_view app row = eqb row.owner app && is_some row.last

pub views-rows : (slots : List Slot) (rows : List Row) (app : ℕ) → views_due (pipes_in slots rows) app ≡ count_by (has_view app) rows
views-rows slots rows app = count_by-map (λ (p : Pipe). eqb p.owner app && is_some p.last) (pipe_by (item_in slots)) rows ∙ alike rows
  where
    by_last : (l : Option ItemRow) → is_some (option_map (item_in slots) l) ≡ is_some l
    by_last None = refl
    by_last (Some i) = refl

    alike : (xs : List Row) → count_by (λ (r : Row). eqb r.owner app && is_some (option_map (item_in slots) r.last)) xs ≡ count_by (has_view app) xs
    alike [] = refl
    alike (row ∷ xs) =
        sum_by-cons (λ (r : Row). cond {A = ℕ} (eqb r.owner app && is_some (option_map (item_in slots) r.last)) 1 0) row xs
        ∙ ap (λ b. cond {A = ℕ} (eqb row.owner app && b) 1 0 + count_by (λ (r : Row). eqb r.owner app && is_some (option_map (item_in slots) r.last)) xs) (by_last row.last)
        ∙ ap (λ n. cond {A = ℕ} (has_view app row) 1 0 + n) (alike xs)
        ∙ sym (sum_by-cons (λ (r : Row). cond {A = ℕ} (has_view app r) 1 0) row xs)

-- the pipe of a number that is the application's
pub record IsOwn (rows : List Row) (app number : ℕ) : Type 0 where
  pub row : Row
  pub is : pipe_at rows number ≡ Some row
  pub own : eqb row.owner app ≡ true

none_above : (below : ℕ) (rows : List Row) (app number : ℕ) → IsRising below rows → number ≤ below → owns rows app number ≡ false
none_above below [] app number rises low = refl
none_above below (row ∷ rows) app number rises low =
    ap (λ b. (b && eqb row.owner app) || owns rows app number) (off row.number number (omega (arith, rises.0, low)))
    ∙ none_above row.number rows app number rises.1 (omega (arith, rises.0, low))
  where
    off : (a b : ℕ) → b < a → eqb a b ≡ false
    off a b l = grind (arith, nat_tests)

pub own_found : (below : ℕ) (rows : List Row) (app number : ℕ) → IsRising below rows → owns rows app number ≡ true → IsOwn rows app number
own_found below [] app number rises own = absurd (cc (own))
own_found below (row ∷ rows) app number rises own = by_test (eqb row.number number) refl (eqb row.owner app) refl (own_found row.number rows app number rises.1) own
  where
    at_most : (a b : ℕ) → eqb a b ≡ true → b ≤ a
    at_most a b t = grind (arith, nat_tests)

    off : (c : Bool) → c ≡ false → c ≡ true → ⊥
    off c x y = cc

    by_test : (b : Bool) → eqb row.number number ≡ b → (c : Bool) → eqb row.owner app ≡ c → (owns rows app number ≡ true → IsOwn rows app number) →
        ((b && c) || owns rows app number) ≡ true → IsOwn (row ∷ rows) app number
    by_test true e true f later is = record { row = row; is = ap (λ x. cond {A = Option Row} x (Some row) (pipe_at rows number)) e; own = f }
    by_test true e false f later is = absurd (off (owns rows app number) (none_above row.number rows app number rises.1 (at_most row.number number e)) is)
    by_test false e c f later is =
        let rest = later is in
        record { row = rest.row; is = ap (λ x. cond {A = Option Row} x (Some row) (pipe_at rows number)) e ∙ rest.is; own = rest.own }

-- a receive takes one view out and puts one in
pub views-taken : (rows : List Row) (app number : ℕ) → IsRising 0 rows → owns rows app number ≡ true →
    count_by (has_view app) (with_pipe after_receive number rows) + cond {A = ℕ} (is_some (last_on rows number)) 1 0 ≡ count_by (has_view app) rows + cond {A = ℕ} (is_some (oldest_on rows number)) 1 0
views-taken rows app number rises own =
    let one = own_found 0 rows app number rises own in
    at one.row one.is one.own (with_row_sum (λ (r : Row). cond {A = ℕ} (has_view app r) 1 0) after_receive number 0 rows rises)
  where
    at : (row : Row) → pipe_at rows number ≡ Some row → eqb row.owner app ≡ true →
        count_by (has_view app) (with_pipe after_receive number rows) + option_map_or (λ (r : Row). cond {A = ℕ} (has_view app r) 1 0) (pipe_at rows number) 0
        ≡ count_by (has_view app) rows + option_map_or (λ (r : Row). cond {A = ℕ} (has_view app (after_receive r)) 1 0) (pipe_at rows number) 0 →
        count_by (has_view app) (with_pipe after_receive number rows) + cond {A = ℕ} (is_some (last_on rows number)) 1 0 ≡ count_by (has_view app) rows + cond {A = ℕ} (is_some (oldest_on rows number)) 1 0
    at row is mine sum =
        let was : option_map_or (λ (r : Row). cond {A = ℕ} (has_view app r) 1 0) (pipe_at rows number) 0 ≡ cond {A = ℕ} (is_some (last_on rows number)) 1 0 =
        ap (λ o. option_map_or (λ (r : Row). cond {A = ℕ} (has_view app r) 1 0) o 0) is
        ∙ ap (λ b. cond {A = ℕ} (b && is_some row.last) 1 0) mine
        ∙ sym (ap (λ o. cond {A = ℕ} (is_some (option_and_then (λ (r : Row). r.last) o)) 1 0) is) in
        let now : option_map_or (λ (r : Row). cond {A = ℕ} (has_view app (after_receive r)) 1 0) (pipe_at rows number) 0 ≡ cond {A = ℕ} (is_some (oldest_on rows number)) 1 0 =
        ap (λ o. option_map_or (λ (r : Row). cond {A = ℕ} (has_view app (after_receive r)) 1 0) o 0) is
        ∙ ap (λ b. cond {A = ℕ} (b && is_some (oldest row.queue)) 1 0) mine
        ∙ sym (ap (λ o. cond {A = ℕ} (is_some (option_and_then (λ (r : Row). oldest r.queue) o)) 1 0) is) in
        omega (arith, sum, was, now)

-- beside the view of one pipe there are fewer than pipes
pub views-few : (rows : List Row) (app number : ℕ) → IsRising 0 rows → owns rows app number ≡ true →
    count_by (has_view app) rows + 1 ≤ length rows + cond {A = ℕ} (is_some (last_on rows number)) 1 0
views-few rows app number rises own =
    let one = own_found 0 rows app number rises own in
    at one.row one.is one.own (with_row_sum (λ (r : Row). cond {A = ℕ} (has_view app r) 1 0) filled number 0 rows rises)
  where
    filled : Row → Row
    filled row = record row { last = Some (record { number = 0; desc = 0; subscription = 0 }) }

    at : (row : Row) → pipe_at rows number ≡ Some row → eqb row.owner app ≡ true →
        count_by (has_view app) (with_pipe filled number rows) + option_map_or (λ (r : Row). cond {A = ℕ} (has_view app r) 1 0) (pipe_at rows number) 0
        ≡ count_by (has_view app) rows + option_map_or (λ (r : Row). cond {A = ℕ} (has_view app (filled r)) 1 0) (pipe_at rows number) 0 →
        count_by (has_view app) rows + 1 ≤ length rows + cond {A = ℕ} (is_some (last_on rows number)) 1 0
    at row is mine sum =
        let was : option_map_or (λ (r : Row). cond {A = ℕ} (has_view app r) 1 0) (pipe_at rows number) 0 ≡ cond {A = ℕ} (is_some (last_on rows number)) 1 0 =
        ap (λ o. option_map_or (λ (r : Row). cond {A = ℕ} (has_view app r) 1 0) o 0) is
        ∙ ap (λ b. cond {A = ℕ} (b && is_some row.last) 1 0) mine
        ∙ sym (ap (λ o. cond {A = ℕ} (is_some (option_and_then (λ (r : Row). r.last) o)) 1 0) is) in
        let now : option_map_or (λ (r : Row). cond {A = ℕ} (has_view app (filled r)) 1 0) (pipe_at rows number) 0 ≡ 1 =
        ap (λ o. option_map_or (λ (r : Row). cond {A = ℕ} (has_view app (filled r)) 1 0) o 0) is
        ∙ ap (λ b. cond {A = ℕ} (b && true) 1 0) mine in
        let most = count_by-le-length (has_view app) (with_pipe filled number rows) in
        let long = length-map rows (λ (r : Row). cond {A = Row} (eqb r.number number) (filled r) r) in
        omega (arith, sum, was, now, most, long)

-- a receive leaves the views due to an application that doesn't own the pipe
pub views-others : (rows : List Row) (app number : ℕ) → IsRising 0 rows → (row : Row) → pipe_at rows number ≡ Some row → (eqb row.owner app ≡ true → ⊥) →
    count_by (has_view app) (with_pipe after_receive number rows) ≡ count_by (has_view app) rows
views-others rows app number rises row is not_own =
    let sum = with_row_sum (λ (r : Row). cond {A = ℕ} (has_view app r) 1 0) after_receive number 0 rows rises in
    let was = ap (λ o. option_map_or {U = ℕ} (λ (r : Row). cond {A = ℕ} (has_view app r) 1 0) o 0) is ∙ ap (λ b. cond {A = ℕ} (b && is_some row.last) 1 0) (off (eqb row.owner app) refl) in
    let now = ap (λ o. option_map_or {U = ℕ} (λ (r : Row). cond {A = ℕ} (has_view app (after_receive r)) 1 0) o 0) is ∙ ap (λ b. cond {A = ℕ} (b && is_some (oldest row.queue)) 1 0) (off (eqb row.owner app) refl) in
    omega (arith, sum, was, now)
  where
    off : (c : Bool) → eqb row.owner app ≡ c → eqb row.owner app ≡ false
    off false e = e
    off true e = absurd (not_own e)

-- A new pipe. --

owns-push : (rows : List Row) (row : Row) (app number : ℕ) → owns (rows ++ row ∷ []) app number ≡ (owns rows app number || (eqb row.number number && eqb row.owner app))
owns-push [] row app number = or_false (eqb row.number number && eqb row.owner app)
  where
    or_false : (b : Bool) → (b || false) ≡ b
    or_false true = refl
    or_false false = refl
owns-push (first ∷ rows) row app number =
    ap (λ b. (eqb first.number number && eqb first.owner app) || b) (owns-push rows row app number)
    ∙ or_assoc (eqb first.number number && eqb first.owner app) (owns rows app number) (eqb row.number number && eqb row.owner app)
  where
    or_assoc : (a b c : Bool) → (a || (b || c)) ≡ ((a || b) || c)
    or_assoc true b c = refl
    or_assoc false b c = refl

last-push : (rows : List Row) (row : Row) (number : ℕ) → row.last ≡ None → last_on (rows ++ row ∷ []) number ≡ last_on rows number
last-push [] row number none = by_test (eqb row.number number)
  where
    by_test : (b : Bool) → option_and_then (λ (r : Row). r.last) (cond {A = Option Row} b (Some row) None) ≡ None
    by_test true = none
    by_test false = refl
last-push (first ∷ rows) row number none = by_test (eqb first.number number) (last-push rows row number none)
  where
    by_test : (b : Bool) → last_on (rows ++ row ∷ []) number ≡ last_on rows number →
        option_and_then (λ (r : Row). r.last) (cond {A = Option Row} b (Some first) (pipe_at (rows ++ row ∷ []) number)) ≡ option_and_then (λ (r : Row). r.last) (cond {A = Option Row} b (Some first) (pipe_at rows number))
    by_test true ih = refl
    by_test false ih = ih

absent_last : (rows : List Row) (row : Row) (below : ℕ) → IsRising below (rows ++ row ∷ []) → last_on rows row.number ≡ None
absent_last [] row below rises = refl
absent_last (first ∷ rows) row below rises =
    ap (λ b. option_and_then (λ (r : Row). r.last) (cond {A = Option Row} b (Some first) (pipe_at rows row.number))) (off first.number row.number (above first.number rows row rises.1))
    ∙ absent_last rows row first.number rises.1
  where
    off : (a b : ℕ) → a < b → eqb a b ≡ false
    off a b l = grind (arith, nat_tests)

    above : (low : ℕ) (xs : List Row) (r : Row) → IsRising low (xs ++ r ∷ []) → low < r.number
    above low [] r rise = rise.0
    above low (x ∷ xs) r rise = let later = above x.number xs r rise.1 in omega (arith, rise.0, later)

-- nothing more is due
pub due-push : (slots : List Slot) (rows : List Row) (row : Row) (app number : ℕ) → IsRising 0 (rows ++ row ∷ []) → row.last ≡ None → due slots (rows ++ row ∷ []) app number ≡ due slots rows app number
due-push slots rows row app number rises none =
    ap (λ l. cond {A = Option LentBytes} (owns (rows ++ row ∷ []) app number) (option_map (view_in slots) l) None) (last-push rows row number none)
    ∙ ap (λ b. cond {A = Option LentBytes} b (option_map (view_in slots) (last_on rows number)) None) (owns-push rows row app number)
    ∙ by_test (eqb row.number number) refl (owns rows app number)
  where
    nothing : (b : Bool) → cond {A = Option LentBytes} b None None ≡ None
    nothing true = refl
    nothing false = refl

    empty : eqb row.number number ≡ true → last_on rows number ≡ None
    empty e = ap (last_on rows) (sym (eqb-true row.number number e)) ∙ absent_last rows row 0 rises

    by_test : (b : Bool) → eqb row.number number ≡ b → (c : Bool) →
        cond {A = Option LentBytes} (c || (b && eqb row.owner app)) (option_map (view_in slots) (last_on rows number)) None ≡ cond {A = Option LentBytes} c (option_map (view_in slots) (last_on rows number)) None
    by_test true e c =
        ap (λ l. cond {A = Option LentBytes} (c || eqb row.owner app) (option_map (view_in slots) l) None) (empty e)
        ∙ nothing (c || eqb row.owner app)
        ∙ sym (nothing c)
        ∙ sym (ap (λ l. cond {A = Option LentBytes} c (option_map (view_in slots) l) None) (empty e))
    by_test false e true = refl
    by_test false e false = refl

pub views-push : (rows : List Row) (row : Row) (app : ℕ) → row.last ≡ None → count_by (has_view app) (rows ++ row ∷ []) ≡ count_by (has_view app) rows
views-push rows row app none =
    let sum = sum_by_push (λ (r : Row). cond {A = ℕ} (has_view app r) 1 0) rows row in
    let zero = ap (λ l. cond {A = ℕ} (eqb row.owner app && is_some l) 1 0) none ∙ never (eqb row.owner app) in
    omega (arith, sum, zero)
  where
    never : (b : Bool) → cond {A = ℕ} (b && false) 1 0 ≡ 0
    never true = refl
    never false = refl
