-- What a change of one row does to the bytes of each number.
use Rattle.std.proofs.Common.{◌≡◌, ℕ, ◌==◌, not, Bool, true, false, cond, true≢false, eqb-true, List, [], ◌∷◌, ◌++◌, map, filter, find, Option, Some, None, refl, ap, sym, ◌∙◌}
use Rattle.std.specs.Option.{option_map}
use Rattle.std.proofs.Math.Path.{fun_ext}
use Rattle.script_runs.specs.Written.{with_buffer, with_bytes}
use Rattle.script_calls.specs.Rows.{Row, row_changed, rows_changed, written_in}

-- the bytes of a number, if the first row has it or not
first_row : (row : Row) (rows : List Row) (number : ℕ) (b : Bool) → (row.number == number) ≡ b →
    written_in (row ∷ rows) number ≡ cond {A = Option (List ℕ)} b (Some row.text) (written_in rows number)
first_row row rows number true is = ap (λ b. option_map (λ (r : Row). r.text) (cond {A = Option Row} b (Some row) (find (λ r. r.number == number) rows))) is
first_row row rows number false is = ap (λ b. option_map (λ (r : Row). r.text) (cond {A = Option Row} b (Some row) (find (λ r. r.number == number) rows))) is

-- two numbers of which one is a third
alike : (n m other : ℕ) → (n == m) ≡ true → (n == other) ≡ (m == other)
alike n m other is = ap (λ k. k == other) (eqb-true n m is)

-- Rows changed. --

module _ (number : ℕ) (change : List ℕ → List ℕ) where
  -- the row of the number changed
  abbrev changed : Row → Row
  changed = row_changed number change

  changed-number : (row : Row) → (changed row).number ≡ row.number
  changed-number row = elim (row.number == number) as (λ b. (cond {A = Row} b (record row { text = change row.text }) row).number ≡ row.number) [ true ↦ refl | false ↦ refl ]

  changed-own : (row : Row) → (row.number == number) ≡ true → (changed row).text ≡ change row.text
  changed-own row is = ap (λ b. (cond {A = Row} b (record row { text = change row.text }) row).text) is

  changed-other : (row : Row) → (row.number == number) ≡ false → (changed row).text ≡ row.text
  changed-other row is = ap (λ b. (cond {A = Row} b (record row { text = change row.text }) row).text) is

  changed-first : (row : Row) (rows : List Row) (other : ℕ) → written_in (map changed rows) other ≡ with_bytes (written_in rows) number change other →
      written_in (map changed (row ∷ rows)) other ≡ with_bytes (written_in (row ∷ rows)) number change other
  changed-first row rows other behind = by_test (row.number == number) (row.number == other) refl refl
    where
      whole : List Row
      whole = row ∷ rows

      here : (o : Bool) → (row.number == other) ≡ o → ((changed row).number == other) ≡ o
      here o is = ap (λ n. n == other) (changed-number row) ∙ is

      first : (o : Bool) → (row.number == other) ≡ o →
          written_in (map changed whole) other ≡ cond {A = Option (List ℕ)} o (Some (changed row).text) (with_bytes (written_in rows) number change other)
      first o is = first_row (changed row) (map changed rows) other o (here o is) ∙ ap (λ r. cond {A = Option (List ℕ)} o (Some (changed row).text) r) behind

      -- what it has to be, by whether the number is the other one
      due : (b : Bool) → (number == other) ≡ b →
          with_bytes (written_in whole) number change other ≡ cond {A = Option (List ℕ)} b (option_map change (written_in whole number)) (written_in whole other)
      due b is = ap (λ x. cond {A = Option (List ℕ)} x (option_map change (written_in whole number)) (written_in whole other)) is

      left : (b : Bool) → (number == other) ≡ b →
          with_bytes (written_in rows) number change other ≡ cond {A = Option (List ℕ)} b (option_map change (written_in rows number)) (written_in rows other)
      left b is = ap (λ x. cond {A = Option (List ℕ)} x (option_map change (written_in rows number)) (written_in rows other)) is

      apart : (row.number == number) ≡ false → (row.number == other) ≡ true → (number == other) ≡ false
      apart not_own is = by (number == other) refl
        where
          by : (b : Bool) → (number == other) ≡ b → (number == other) ≡ false
          by false e = e
          by true e = absurd (true≢false (sym is ∙ ap (λ n. row.number == n) (sym (eqb-true number other e)) ∙ not_own))

      by_test : (own o : Bool) → (row.number == number) ≡ own → (row.number == other) ≡ o →
          written_in (map changed whole) other ≡ with_bytes (written_in whole) number change other
      by_test true true own o =
          first true o
          ∙ ap Some (changed-own row own)
          ∙ sym (due true (sym (alike row.number number other own) ∙ o) ∙ ap (option_map change) (first_row row rows number true own))
      by_test true false own o =
          let no = sym (alike row.number number other own) ∙ o in
          first false o ∙ left false no ∙ sym (due false no ∙ first_row row rows other false o)
      by_test false true own o =
          first true o ∙ ap Some (changed-other row own)
          ∙ sym (due false (apart own o) ∙ first_row row rows other true o)
      by_test false false own o = first false o ∙ by_same (number == other) refl
        where
          by_same : (b : Bool) → (number == other) ≡ b → with_bytes (written_in rows) number change other ≡ with_bytes (written_in whole) number change other
          by_same true e = left true e ∙ sym (due true e ∙ ap (option_map change) (first_row row rows number false own))
          by_same false e = left false e ∙ sym (due false e ∙ first_row row rows other false o)

  changed-at : (rows : List Row) (other : ℕ) → written_in (map changed rows) other ≡ with_bytes (written_in rows) number change other
  changed-at [] other = elim (number == other) as (λ b. None ≡ cond {A = Option (List ℕ)} b None None) [ true ↦ refl | false ↦ refl ]
  changed-at (row ∷ rows) other = changed-first row rows other (changed-at rows other)

-- the rows with that of a number changed
pub written_changed : (rows new : List Row) (number : ℕ) (change : List ℕ → List ℕ) → new ≡ rows_changed number change rows → written_in new ≡ with_bytes (written_in rows) number change
written_changed rows new number change is = ap written_in is ∙ fun_ext (λ other. changed-at number change rows other)

-- Rows that leave. --

removed-first : (row : Row) (rows : List Row) (number other : ℕ) → written_in (filter (λ r. not (r.number == number)) rows) other ≡ with_buffer (written_in rows) number None other →
    written_in (filter (λ r. not (r.number == number)) (row ∷ rows)) other ≡ with_buffer (written_in (row ∷ rows)) number None other
removed-first row rows number other behind = by_test (row.number == number) refl
  where
    left : List Row
    left = filter (λ r. not (r.number == number)) rows

    due : (b : Bool) → (number == other) ≡ b → with_buffer (written_in (row ∷ rows)) number None other ≡ cond {A = Option (List ℕ)} b None (written_in (row ∷ rows) other)
    due b is = ap (λ x. cond {A = Option (List ℕ)} x None (written_in (row ∷ rows) other)) is

    rest : (b : Bool) → (number == other) ≡ b → written_in left other ≡ cond {A = Option (List ℕ)} b None (written_in rows other)
    rest b is = behind ∙ ap (λ x. cond {A = Option (List ℕ)} x None (written_in rows other)) is

    kept : (own : Bool) → (row.number == number) ≡ own → written_in (filter (λ r. not (r.number == number)) (row ∷ rows)) other ≡ written_in (cond {A = List Row} (not own) (row ∷ left) left) other
    kept own is = ap (λ b. written_in (cond {A = List Row} (not b) (row ∷ left) left) other) is

    by_test : (own : Bool) → (row.number == number) ≡ own → written_in (filter (λ r. not (r.number == number)) (row ∷ rows)) other ≡ with_buffer (written_in (row ∷ rows)) number None other
    by_test true own = kept true own ∙ by (number == other) refl
      where
        by : (b : Bool) → (number == other) ≡ b → written_in left other ≡ with_buffer (written_in (row ∷ rows)) number None other
        by true e = rest true e ∙ sym (due true e)
        by false e = rest false e ∙ sym (due false e ∙ first_row row rows other false (alike row.number number other own ∙ e))
    by_test false own = kept false own ∙ by (row.number == other) (number == other) refl refl
      where
        by : (o b : Bool) → (row.number == other) ≡ o → (number == other) ≡ b → written_in (row ∷ left) other ≡ with_buffer (written_in (row ∷ rows)) number None other
        by true true o e = absurd (true≢false (sym o ∙ ap (λ n. row.number == n) (sym (eqb-true number other e)) ∙ own))
        by true false o e = first_row row left other true o ∙ sym (due false e ∙ first_row row rows other true o)
        by false true o e = first_row row left other false o ∙ rest true e ∙ sym (due true e)
        by false false o e = first_row row left other false o ∙ rest false e ∙ sym (due false e ∙ first_row row rows other false o)

removed-at : (rows : List Row) (number other : ℕ) → written_in (filter (λ r. not (r.number == number)) rows) other ≡ with_buffer (written_in rows) number None other
removed-at [] number other = elim (number == other) as (λ b. None ≡ cond {A = Option (List ℕ)} b None None) [ true ↦ refl | false ↦ refl ]
removed-at (row ∷ rows) number other = removed-first row rows number other (removed-at rows number other)

pub written_removed : (rows new : List Row) (number : ℕ) → new ≡ filter (λ row. not (row.number == number)) rows → written_in new ≡ with_buffer (written_in rows) number None
written_removed rows new number is = ap written_in is ∙ fun_ext (λ other. removed-at rows number other)

-- one row more behind rows that don't have its number
pushed-first : (row : Row) (rows : List Row) (number other : ℕ) (text : List ℕ) →
    written_in (filter (λ r. not (r.number == number)) rows ++ record { number = number; text = text } ∷ []) other ≡ with_buffer (written_in rows) number (Some text) other →
    written_in (filter (λ r. not (r.number == number)) (row ∷ rows) ++ record { number = number; text = text } ∷ []) other ≡ with_buffer (written_in (row ∷ rows)) number (Some text) other
pushed-first row rows number other text behind = by_test (row.number == number) refl
  where
    new : List Row
    new = record { number = number; text = text } ∷ []

    left : List Row
    left = filter (λ r. not (r.number == number)) rows

    due : (b : Bool) → (number == other) ≡ b → with_buffer (written_in (row ∷ rows)) number (Some text) other ≡ cond {A = Option (List ℕ)} b (Some text) (written_in (row ∷ rows) other)
    due b is = ap (λ x. cond {A = Option (List ℕ)} x (Some text) (written_in (row ∷ rows) other)) is

    rest : (b : Bool) → (number == other) ≡ b → written_in (left ++ new) other ≡ cond {A = Option (List ℕ)} b (Some text) (written_in rows other)
    rest b is = behind ∙ ap (λ x. cond {A = Option (List ℕ)} x (Some text) (written_in rows other)) is

    kept : (own : Bool) → (row.number == number) ≡ own → written_in (filter (λ r. not (r.number == number)) (row ∷ rows) ++ new) other ≡ written_in (cond {A = List Row} (not own) (row ∷ left) left ++ new) other
    kept own is = ap (λ b. written_in (cond {A = List Row} (not b) (row ∷ left) left ++ new) other) is

    by_test : (own : Bool) → (row.number == number) ≡ own → written_in (filter (λ r. not (r.number == number)) (row ∷ rows) ++ new) other ≡ with_buffer (written_in (row ∷ rows)) number (Some text) other
    by_test true own = kept true own ∙ by (number == other) refl
      where
        by : (b : Bool) → (number == other) ≡ b → written_in (left ++ new) other ≡ with_buffer (written_in (row ∷ rows)) number (Some text) other
        by true e = rest true e ∙ sym (due true e)
        by false e = rest false e ∙ sym (due false e ∙ first_row row rows other false (alike row.number number other own ∙ e))
    by_test false own = kept false own ∙ by (row.number == other) (number == other) refl refl
      where
        by : (o b : Bool) → (row.number == other) ≡ o → (number == other) ≡ b → written_in (row ∷ (left ++ new)) other ≡ with_buffer (written_in (row ∷ rows)) number (Some text) other
        by true true o e = absurd (true≢false (sym o ∙ ap (λ n. row.number == n) (sym (eqb-true number other e)) ∙ own))
        by true false o e = first_row row (left ++ new) other true o ∙ sym (due false e ∙ first_row row rows other true o)
        by false true o e = first_row row (left ++ new) other false o ∙ rest true e ∙ sym (due true e)
        by false false o e = first_row row (left ++ new) other false o ∙ rest false e ∙ sym (due false e ∙ first_row row rows other false o)

pushed-at : (rows : List Row) (number other : ℕ) (text : List ℕ) →
    written_in (filter (λ r. not (r.number == number)) rows ++ record { number = number; text = text } ∷ []) other ≡ with_buffer (written_in rows) number (Some text) other
pushed-at [] number other text = elim (number == other) as (λ b. option_map (λ (r : Row). r.text) (cond {A = Option Row} b (Some (record { number = number; text = text })) None) ≡ cond {A = Option (List ℕ)} b (Some text) None) [ true ↦ refl | false ↦ refl ]
pushed-at (row ∷ rows) number other text = pushed-first row rows number other text (pushed-at rows number other text)

pub written_pushed : (rows new : List Row) (number : ℕ) (text : List ℕ) →
    new ≡ filter (λ row. not (row.number == number)) rows ++ record { number = number; text = text } ∷ [] → written_in new ≡ with_buffer (written_in rows) number (Some text)
written_pushed rows new number text is = ap written_in is ∙ fun_ext (λ other. pushed-at rows number other text)
