-- The receipts of both services in the order of the lines that made them.
use Rattle.std.specs.Prelude.{◌≡◌, ℕ, ◌≤◌, nat_lt, List, [], ◌∷◌, length, map, if◌then◌else◌}
use Rattle.bus_words.specs.declared.receipts.Receipt.{Receipt}
use Rattle.app_script.specs.Script.{ScriptText}
use Rattle.script_runs.specs.Histories.{Histories}
use Rattle.script_runs.specs.Runs.{IsRunOf}
use Rattle.script_runs.specs.Told.{receipts_told}
use Rattle.run_check.specs.Places.{Made, place_after}
use Rattle.run_check.specs.TablePlaces.{table_place_after}

-- the receipts alone
abbrev pub receipts_in : List Made → List Receipt
receipts_in made = map (λ m. m.receipt) made

-- this receipt of the bus and those behind it, among those of the tables
abbrev pub merged_with : Made → List Made → (List Made → List Receipt) → List Made → List Receipt
merged_with m ms rest [] = m.receipt ∷ receipts_in ms
merged_with m ms rest (t ∷ ts) =
    if nat_lt m.place t.place then m.receipt ∷ rest (t ∷ ts)
    else t.receipt ∷ merged_with m ms rest ts

-- those of the bus and those of the tables, by the place of the line that made each; no line makes
-- one at both
abbrev pub merged : List Made → List Made → List Receipt
merged [] tables = receipts_in tables
merged (m ∷ ms) tables = merged_with m ms (merged ms) tables

-- in a run the receipts of each application are those that its lines made at each service, in the
-- order of its lines
abbrev pub ReceiptsAreMerged : Type 0
ReceiptsAreMerged =
    (script : ScriptText) (histories : Histories) (app : ℕ) → IsRunOf script histories →
    1 ≤ app → app ≤ length script.apps →
    merged (place_after script app histories.bus).receipts
    (table_place_after script app histories.tables).receipts
    ≡ receipts_told script histories app
