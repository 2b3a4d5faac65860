-- A change of one pipe, in the table's rows and in those that contracts see.
use Rattle.std.proofs.Common.{◌≡◌, ℕ, ◌<◌, Bool, true, false, cond, eqb, List, [], ◌∷◌, Option, Some, None, map, refl, ap, sym, ◌∙◌, subst}
use Rattle.std.specs.List.{All}
use Rattle.std.specs.Option.{option_map}
use Rattle.std.proofs.lemmas.Bool.{eqb-true}
use Rattle.std.proofs.lemmas.List.Elements.{All-head, All-tail}
use Rattle.fsw_base.proofs.Lists.{find-map}
use Rattle.pipe_queue.specs.declared.item.Item.{Item}
use Rattle.bus_words.specs.Pipes.{PipeOf, pipe_at, with_pipe, IsRising}
use Rattle.bus_routes.specs.Rows.{Row}
use Rattle.bus_routes.specs.Inside.{row_in}
use Rattle.bus_routes.proofs.OffersLists.{find_agree, Rises, only_one}

-- the rows rise by number
pub rows_rise : (below : ℕ) (rows : List (PipeOf Item)) → IsRising below rows → Rises (λ row. row.number) below rows
rows_rise below [] rising = tt
rows_rise below (row ∷ rows) rising = (rising.0, rows_rise row.number rows rising.1)

-- no other row has the number of the one that is found
pub only_row : (rows : List (PipeOf Item)) (number : ℕ) (row : PipeOf Item) → IsRising 0 rows → pipe_at rows number ≡ Some row → All (λ other. other.number ≡ row.number → other ≡ row) rows
only_row rows number row rising is = only_one (λ r. r.number) (λ r. eqb r.number number) 0 rows row (rows_rise 0 rows rising) is

-- a row, changed if it has the number
abbrev pub changed : (PipeOf Item → PipeOf Item) → ℕ → PipeOf Item → PipeOf Item
changed f number row = cond (eqb row.number number) (f row) row

-- the pipe of a number after a change of one
pub pipe_row-with_row : (f : PipeOf Item → PipeOf Item) (number other : ℕ) (rows : List (PipeOf Item)) → ((row : PipeOf Item) → (f row).number ≡ row.number) →
    pipe_at (with_pipe f number rows) other ≡ option_map (changed f number) (pipe_at rows other)
pipe_row-with_row f number other rows same =
    find-map (λ row. eqb row.number other) (changed f number) rows
    ∙ ap (option_map (changed f number)) (find_agree (λ row. eqb (changed f number row).number other) (λ row. eqb row.number other) (λ row. ap (λ n. eqb n other) (by_test row (eqb row.number number))) rows)
  where
    by_test : (row : PipeOf Item) (b : Bool) → (cond {A = PipeOf Item} b (f row) row).number ≡ row.number
    by_test row true = same row
    by_test row false = refl

-- the pipe of a number as contracts see it
pub row_of-rows : (rows : List (PipeOf Item)) (number : ℕ) → pipe_at (map row_in rows) number ≡ option_map row_in (pipe_at rows number)
row_of-rows rows number = find-map (λ row. eqb row.number number) row_in rows

-- a change of the pipe's only row, as contracts see it
pub rows_changed : (f : PipeOf Item → PipeOf Item) (g : Row → Row) (number : ℕ) (row : PipeOf Item) (rows : List (PipeOf Item)) → row.number ≡ number → row_in (f row) ≡ g (row_in row) →
    All (λ other. other.number ≡ row.number → other ≡ row) rows → map row_in (with_pipe f number rows) ≡ with_pipe g number (map row_in rows)
rows_changed f g number row [] is same only = refl
rows_changed f g number row (r ∷ rows) is same only =
    ap (λ x. x ∷ map row_in (with_pipe f number rows)) (by_test (eqb r.number number) refl)
    ∙ ap (λ l. cond {A = Row} (eqb r.number number) (g (row_in r)) (row_in r) ∷ l) (rows_changed f g number row rows is same (All-tail (λ o. o.number ≡ row.number → o ≡ row) r rows only))
  where
    by_test : (b : Bool) → eqb r.number number ≡ b → row_in (cond {A = PipeOf Item} b (f r) r) ≡ cond {A = Row} b (g (row_in r)) (row_in r)
    by_test true here =
        let it : r ≡ row = All-head (λ o. o.number ≡ row.number → o ≡ row) r rows only (eqb-true r.number number here ∙ sym is) in
        subst (λ o. row_in (f o) ≡ g (row_in o)) (sym it) same
    by_test false here = refl

-- a change that leaves the pipe's only row leaves all
pub rows_kept : (f : PipeOf Item → PipeOf Item) (number : ℕ) (row : PipeOf Item) (rows : List (PipeOf Item)) → row.number ≡ number → f row ≡ row →
    All (λ other. other.number ≡ row.number → other ≡ row) rows → with_pipe f number rows ≡ rows
rows_kept f number row [] is same only = refl
rows_kept f number row (r ∷ rows) is same only =
    ap (λ x. x ∷ with_pipe f number rows) (by_test (eqb r.number number) refl)
    ∙ ap (λ l. r ∷ l) (rows_kept f number row rows is same (All-tail (λ o. o.number ≡ row.number → o ≡ row) r rows only))
  where
    by_test : (b : Bool) → eqb r.number number ≡ b → cond {A = PipeOf Item} b (f r) r ≡ r
    by_test true here =
        let it : r ≡ row = All-head (λ o. o.number ≡ row.number → o ≡ row) r rows only (eqb-true r.number number here ∙ sym is) in
        subst (λ o. f o ≡ o) (sym it) same
    by_test false here = refl

-- two changes that make the same of it make the same of all
pub rows_alike : (f g : PipeOf Item → PipeOf Item) (number : ℕ) (row : PipeOf Item) (rows : List (PipeOf Item)) → row.number ≡ number → f row ≡ g row →
    All (λ other. other.number ≡ row.number → other ≡ row) rows → with_pipe f number rows ≡ with_pipe g number rows
rows_alike f g number row [] is same only = refl
rows_alike f g number row (r ∷ rows) is same only =
    ap (λ x. x ∷ with_pipe f number rows) (by_test (eqb r.number number) refl)
    ∙ ap (λ l. cond {A = PipeOf Item} (eqb r.number number) (g r) r ∷ l) (rows_alike f g number row rows is same (All-tail (λ o. o.number ≡ row.number → o ≡ row) r rows only))
  where
    by_test : (b : Bool) → eqb r.number number ≡ b → cond {A = PipeOf Item} b (f r) r ≡ cond {A = PipeOf Item} b (g r) r
    by_test true here =
        let it : r ≡ row = All-head (λ o. o.number ≡ row.number → o ≡ row) r rows only (eqb-true r.number number here ∙ sym is) in
        subst (λ o. f o ≡ g o) (sym it) same
    by_test false here = refl

-- two changes, one after the other
pub one_by_one : (f g : PipeOf Item → PipeOf Item) (number : ℕ) (rows : List (PipeOf Item)) → ((row : PipeOf Item) → (f row).number ≡ row.number) →
    with_pipe (λ row. g (f row)) number rows ≡ with_pipe g number (with_pipe f number rows)
one_by_one f g number [] same = refl
one_by_one f g number (row ∷ rows) same =
    ap (λ x. x ∷ with_pipe (λ r. g (f r)) number rows) (by_test (eqb row.number number) refl)
    ∙ ap (λ l. changed g number (changed f number row) ∷ l) (one_by_one f g number rows same)
  where
    by_test : (b : Bool) → eqb row.number number ≡ b →
        cond {A = PipeOf Item} b (g (f row)) row ≡ changed g number (cond {A = PipeOf Item} b (f row) row)
    by_test true here = sym (ap (λ b. cond {A = PipeOf Item} b (g (f row)) (f row)) (ap (λ n. eqb n number) (same row) ∙ here))
    by_test false here = sym (ap (λ b. cond {A = PipeOf Item} b (g row) row) here)

-- the numbers still rise
pub rising_after : (f : PipeOf Item → PipeOf Item) (number below : ℕ) (rows : List (PipeOf Item)) → ((row : PipeOf Item) → (f row).number ≡ row.number) →
    IsRising below rows → IsRising below (with_pipe f number rows)
rising_after f number below [] same rising = tt
rising_after f number below (row ∷ rows) same rising =
    let kept : (changed f number row).number ≡ row.number = by_test (eqb row.number number) in (
      subst (λ n. below < n) (sym kept) rising.0,
      subst (λ n. IsRising n (with_pipe f number rows)) (sym kept) (rising_after f number row.number rows same rising.1),
    )
  where
    by_test : (b : Bool) → (cond {A = PipeOf Item} b (f row) row).number ≡ row.number
    by_test true = same row
    by_test false = refl

-- what a change keeps of each pipe, it keeps of the one of a number
pub of_row_kept : {X : Type 0} (w : PipeOf Item → X) (f : PipeOf Item → PipeOf Item) (number other : ℕ) (rows : List (PipeOf Item)) →
    ((row : PipeOf Item) → (f row).number ≡ row.number) → ((row : PipeOf Item) → w (f row) ≡ w row) →
    option_map w (pipe_at (with_pipe f number rows) other) ≡ option_map w (pipe_at rows other)
of_row_kept w f number other rows same keeps =
    ap (option_map w) (pipe_row-with_row f number other rows same) ∙ by_row (pipe_at rows other)
  where
    by_test : (row : PipeOf Item) (b : Bool) → w (cond {A = PipeOf Item} b (f row) row) ≡ w row
    by_test row true = keeps row
    by_test row false = refl

    by_row : (o : Option (PipeOf Item)) → option_map w (option_map (changed f number) o) ≡ option_map w o
    by_row None = refl
    by_row (Some row) = ap Some (by_test row (eqb row.number number))
