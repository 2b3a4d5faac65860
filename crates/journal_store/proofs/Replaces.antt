-- What another content for the last row leaves of a store: the row's application and bytes, and all other rows.
use Rattle.std.proofs.Common.{◌≡◌, ℕ, ◌+◌, ◌<◌, List, [], ◌∷◌, ◌++◌, length, map, slice_index_or, slice_set, ap, sym, ◌∙◌, subst, arith}
use Rattle.std.proofs.lemmas.List.{map-set, set_at, set-get_or, get_or_at, get_or-map, length-set, length-map, length_push}
use Rattle.std.proofs.lemmas.List.Elements.{All-set, All-get_or}
use Rattle.fsw_base.specs.declared.config.Budget.{Budget}
use Rattle.journal_store.specs.declared.allowance.Allowance.{Allowance}
use Rattle.journal_store.specs.declared.store.KeptRow.{KeptRow}
use Rattle.journal_store.specs.Budgets.{allowances, left_from}
use Rattle.journal_store.specs.Store.{Stored, charge_of}
use Rattle.journal_store.specs.Inside.{IsKept, IsThere, stored_of, stored_in}

-- the row with another content
abbrev pub renewed : {R : Type 0} → KeptRow R → R → KeptRow R
renewed kept row = record { app = kept.app; row = row; start = kept.start; len = kept.len }

-- the store's rows with one of them renewed
stored_in-set : {R : Type 0} (bytes : List ℕ) (rows : List (KeptRow R)) (i : ℕ) (new : KeptRow R) →
    stored_in bytes (slice_set rows i new) ≡ slice_set (stored_in bytes rows) i (stored_of bytes new)
stored_in-set bytes rows i new = map-set (stored_of bytes) rows i new

-- a row takes as much as before
charges-renewed : {R : Type 0} (bytes : List ℕ) (rows : List (KeptRow R)) (i : ℕ) (kept : KeptRow R) (row : R) → kept ≡ slice_index_or rows i kept →
    map charge_of (stored_in bytes (slice_set rows i (renewed kept row))) ≡ map charge_of (stored_in bytes rows)
charges-renewed {R} bytes rows i kept row is =
    let stored = stored_in bytes rows in
    ap (λ (s : List (Stored R)). map charge_of s) (stored_in-set bytes rows i (renewed kept row))
    ∙ map-set charge_of stored i (stored_of bytes (renewed kept row))
    ∙ sym (map-set charge_of stored i (stored_of bytes kept))
    ∙ ap (λ (s : List (Stored R)). map charge_of s) (sym (stored_in-set bytes rows i kept))
    ∙ ap (λ (k : KeptRow R). map charge_of (stored_in bytes (slice_set rows i k))) is
    ∙ ap (λ (r : List (KeptRow R)). map charge_of (stored_in bytes r)) (set-get_or rows i kept)

-- all that is kept stays so
pub IsKept-renewed : {R : Type 0} (rows : List (KeptRow R)) (bytes : List ℕ) (i : ℕ) (kept : KeptRow R) (row : R) (row_room byte_room : ℕ)
    (budgets : List Budget) (left : List Allowance) →
    IsKept rows bytes row_room byte_room budgets left → i < length rows → kept ≡ slice_index_or rows i kept →
    IsKept (slice_set rows i (renewed kept row)) bytes row_room byte_room budgets left
IsKept-renewed {R} rows bytes i kept row row_room byte_room budgets left keeps within is =
    let same = length-set rows i (renewed kept row) in
    let there : IsThere (length bytes) kept = subst (IsThere (length bytes)) (sym is) (All-get_or (IsThere (length bytes)) rows i kept within keeps.there) in
    record {
      there = All-set (IsThere (length bytes)) rows i (renewed kept row) there keeps.there;
      remains = keeps.remains ∙ ap (left_from (allowances budgets)) (sym (charges-renewed bytes rows i kept row is));
      rows_fit = omega (arith, same, keeps.rows_fit);
      bytes_fit = keeps.bytes_fit;
      rows_few = omega (arith, same, keeps.rows_few);
      bytes_few = keeps.bytes_few;
      few = keeps.few;
      apps = keeps.apps;
    }

-- the last row gets the content, and no other
pub stored_in-renewed : {R : Type 0} (rows : List (KeptRow R)) (bytes : List ℕ) (i : ℕ) (kept : KeptRow R) (row : R) (front : List (Stored R)) (last : Stored R) →
    i + 1 ≡ length rows → kept ≡ slice_index_or rows i kept → stored_in bytes rows ≡ front ++ last ∷ [] →
    stored_in bytes (slice_set rows i (renewed kept row)) ≡ front ++ record last { row = row } ∷ []
stored_in-renewed {R} rows bytes i kept row front last whole is stored =
    let many : length (stored_in bytes rows) ≡ length rows = length-map rows (stored_of bytes) in
    let long : length (stored_in bytes rows) ≡ length front + 1 = ap length stored ∙ length_push front last in
    let at : length front ≡ i = omega (arith, whole, many, long) in
    let it : stored_of bytes kept ≡ last =
    ap (stored_of bytes) is
    ∙ sym (get_or-map (stored_of bytes) rows i kept (stored_of bytes kept) (omega (arith, whole)))
    ∙ ap (λ (s : List (Stored R)). slice_index_or s i (stored_of bytes kept)) stored
    ∙ get_or_at front last [] (stored_of bytes kept) i at in
    stored_in-set bytes rows i (renewed kept row)
    ∙ ap (λ (s : List (Stored R)). slice_set s i (stored_of bytes (renewed kept row))) stored
    ∙ set_at front last [] (stored_of bytes (renewed kept row)) i at
    ∙ ap (λ (s : Stored R). front ++ record s { row = row } ∷ []) it
