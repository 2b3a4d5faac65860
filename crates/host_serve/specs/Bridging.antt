-- What the word `bridge` reads and writes, as bytes, and what it shows an audit.
use Rattle.std.specs.Prelude.{◌≡◌, ◌⊎◌, ℕ, List, [], ◌∷◌, ◌++◌, length, map, codes, Option, None}
use Rattle.std.specs.List.{range_with_len}
use Rattle.std.specs.Option.{option_map}
use Rattle.bus_words.specs.Machine.{state_after}
use Rattle.run_report.specs.Report.{figures_shown, table_figures_shown, report_text}
use Rattle.script_runs.specs.Histories.{Histories}
use Rattle.script_runs.specs.Told.{receipts_told}
use Rattle.bridge_plan.specs.Plan.{PlanText, script_of}
use Rattle.bridge_runs.specs.Sides.{side_apps}
use Rattle.sb_bridge.specs.Sides.{whole_on}

-- the most bytes of a plan
abbrev pub most_plan : ℕ
most_plan = 2097152

-- The report of a side's histories: with what each application of its script tells of what it
-- received and held, and with the figures of both services after them, to which the bridge is one
-- application more. The bridge tells nothing.
unfoldable pub side_report : PlanText → ℕ → Histories → List ℕ
side_report plan side histories =
    let script = script_of plan side in
    report_text histories.bus histories.tables
    (map (receipts_told (whole_on plan side) histories) (range_with_len 1 (length script.apps)))
    (figures_shown script.limits (state_after script.limits (side_apps script) histories.bus))
    (table_figures_shown script.limits (side_apps script) histories.tables)

-- the reports of both sides, each behind a line with its side
abbrev pub both_reports : PlanText → Histories → Histories → List ℕ
both_reports plan one two =
    (codes "side 1\n" ++ side_report plan 1 one) ++ (codes "side 2\n" ++ side_report plan 2 two)

-- The histories of side 1 and then those of side 2 were put behind those shown before, or nothing
-- is shown from now on.
abbrev pub AreShown : Option (List Histories) → Option (List Histories) → Histories → Histories →
    Type 0
AreShown old new one two =
    (new ≡ option_map (λ shown. shown ++ one ∷ two ∷ []) old) ⊎ (new ≡ None)
