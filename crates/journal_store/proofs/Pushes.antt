-- What a push does to the rows of a store and their bytes.
use Rattle.std.proofs.Common.{◌≡◌, ℕ, ◌+◌, ◌-◌, ◌≤◌, List, [], ◌∷◌, ◌++◌, length, map, take, drop, All, refl, ap, sym, ◌∙◌, arith, length-append}
use Rattle.std.specs.Prelude.{slice_range}
use Rattle.std.proofs.lemmas.List.{take-append-le, drop-append-le, drop_at, take_all, length-drop, length_push, map_push}
use Rattle.std.proofs.lemmas.List.Elements.{All-head, All-tail, All-push, All-weaker}
use Rattle.fsw_base.specs.declared.config.Budget.{Budget}
use Rattle.journal_store.specs.declared.allowance.Allowance.{Allowance}
use Rattle.journal_store.specs.declared.store.KeptRow.{KeptRow}
use Rattle.journal_store.specs.Budgets.{HasRoom, Charge, allowances, charged, left_from}
use Rattle.journal_store.specs.Store.{Stored, charge_of}
use Rattle.journal_store.specs.Inside.{IsKept, IsThere, stored_of, stored_in}
use Rattle.journal_store.proofs.Charges.{entries_left-charged, bytes_left-charged, length-charged, left_from-push}

-- bytes added at the end change no range that is there
pub range-append : (bytes more : List ℕ) (start len : ℕ) → start + len ≤ length bytes →
    slice_range (bytes ++ more) start (start + len) ≡ slice_range bytes start (start + len)
range-append bytes more start len there =
    let n = start + len - start in
    ap (take n) (drop-append-le start bytes more (omega arith))
    ∙ take-append-le n (drop start bytes) more (omega (arith, length-drop start bytes))

-- nor any row
pub stored_in-append : {R : Type 0} (bytes more : List ℕ) (rows : List (KeptRow R)) → All (IsThere (length bytes)) rows →
    stored_in (bytes ++ more) rows ≡ stored_in bytes rows
stored_in-append bytes more [] there = refl
stored_in-append {R} bytes more (row ∷ rows) there =
    let fits : KeptRow R → Type 0 = IsThere (length bytes) in
    ap (λ text. record { app = row.app; row = row.row; text = text } ∷ stored_in (bytes ++ more) rows)
    (range-append bytes more row.start row.len (All-head fits row rows there))
    ∙ ap (λ stored. stored_of bytes row ∷ stored) (stored_in-append bytes more rows (All-tail fits row rows there))

-- the range behind the bytes that were there is what was added
pub range-added : (bytes more : List ℕ) → slice_range (bytes ++ more) (length bytes) (length bytes + length more) ≡ more
range-added bytes more =
    let n = length bytes + length more - length bytes in
    ap (take n) (drop_at bytes more (length bytes) refl) ∙ take_all n more (omega arith)

-- the row that was added, at the end of the bytes
abbrev pub added : {R : Type 0} → ℕ → R → List ℕ → ℕ → KeptRow R
added app row text start = record { app = app; row = row; start = start; len = length text }

-- with a row more the store has one row more
pub stored_in-push : {R : Type 0} (rows : List (KeptRow R)) (bytes text : List ℕ) (app : ℕ) (row : R) → All (IsThere (length bytes)) rows →
    stored_in (bytes ++ text) (rows ++ added app row text (length bytes) ∷ [])
    ≡ stored_in bytes rows ++ record { app = app; row = row; text = text } ∷ []
stored_in-push {R} rows bytes text app row there =
    map_push (stored_of (bytes ++ text)) rows (added app row text (length bytes))
    ∙ ap (λ (stored : List (Stored R)). stored ++ stored_of (bytes ++ text) (added app row text (length bytes)) ∷ []) (stored_in-append bytes text rows there)
    ∙ ap (λ t. stored_in bytes rows ++ record { app = app; row = row; text = t } ∷ []) (range-added bytes text)

-- what is left once the row was added
remains-push : {R : Type 0} (rows : List (KeptRow R)) (bytes text : List ℕ) (app : ℕ) (row : R) (budgets : List Budget) (left : List Allowance) →
    All (IsThere (length bytes)) rows → left ≡ left_from (allowances budgets) (map charge_of (stored_in bytes rows)) →
    charged left app (length text)
    ≡ left_from (allowances budgets) (map charge_of (stored_in (bytes ++ text) (rows ++ added app row text (length bytes) ∷ [])))
remains-push {R} rows bytes text app row budgets left there remains =
    let stored = stored_in bytes rows in
    let one : Stored R = record { app = app; row = row; text = text } in
    let charge : Charge = record { app = app; bytes = length text } in
    ap (λ l. charged l app (length text)) remains
    ∙ sym (left_from-push (allowances budgets) (map charge_of stored) charge)
    ∙ ap (left_from (allowances budgets)) (sym (map_push charge_of stored one))
    ∙ ap (λ (s : List (Stored R)). left_from (allowances budgets) (map charge_of s)) (sym (stored_in-push rows bytes text app row there))

-- all that is kept stays so with a row more
pub IsKept-push : {R : Type 0} (rows : List (KeptRow R)) (bytes text : List ℕ) (app : ℕ) (row : R) (row_room byte_room : ℕ)
    (budgets : List Budget) (left : List Allowance) →
    IsKept rows bytes row_room byte_room budgets left → HasRoom left app (length text) →
    IsKept (rows ++ added app row text (length bytes) ∷ []) (bytes ++ text) row_room byte_room budgets (charged left app (length text))
IsKept-push {R} rows bytes text app row row_room byte_room budgets left kept room =
    let entries = entries_left-charged left app (length text) room in
    let fewer = bytes_left-charged left app (length text) room in
    let longer = length-append bytes text in
    let one = added app row text (length bytes) in
    let rows_longer = length_push rows one in
    record {
      there = All-push (IsThere (length (bytes ++ text))) rows one
          (All-weaker (IsThere (length bytes)) (IsThere (length (bytes ++ text))) (λ r fits. omega arith) rows kept.there)
          (omega arith);
      remains = remains-push rows bytes text app row budgets left kept.there kept.remains;
      rows_fit = omega arith;
      bytes_fit = omega arith;
      rows_few = omega arith;
      bytes_few = omega arith;
      few = kept.few;
      apps = length-charged left app (length text) ∙ kept.apps;
    }

-- and so with more room for bytes
pub IsKept-wider : {R : Type 0} (rows : List (KeptRow R)) (bytes : List ℕ) (row_room byte_room more : ℕ) (budgets : List Budget) (left : List Allowance) →
    IsKept rows bytes row_room byte_room budgets left → byte_room ≤ more → IsKept rows bytes row_room more budgets left
IsKept-wider rows bytes row_room byte_room more budgets left kept wider = record {
  there = kept.there;
  remains = kept.remains;
  rows_fit = kept.rows_fit;
  bytes_fit = omega (arith, kept.bytes_fit, wider);
  rows_few = kept.rows_few;
  bytes_few = kept.bytes_few;
  few = kept.few;
  apps = kept.apps;
}
