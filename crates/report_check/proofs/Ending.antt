-- The end of a report, by what is kept of both services, is that of the run.
use Rattle.std.proofs.Common.{◌≡◌, ℕ, zero, suc, ◌+◌, ◌-◌, ◌<◌, ◌≤◌, List, [], ◌∷◌, ◌++◌, length, map, codes, Option, Some, None, refl, ap, sym, ◌∙◌, subst, arith, append_assoc}
use Rattle.std.specs.Prelude.{slice_get}
use Rattle.std.specs.List.{range_with_len}
use Rattle.std.specs.Option.{option_map, option_map_or}
use Rattle.fsw_base.specs.Limits.{Limits}
use Rattle.bus_words.specs.declared.receipts.Receipt.{Receipt}
use Rattle.bus_words.specs.Acts.{Whole, whole_after}
use Rattle.bus_words.proofs.Acts.{whole_after-legal}
use Rattle.tbl_words.specs.declared.uses.TblUse.{TblUse}
use Rattle.tbl_words.specs.Machine.{state_after as tables_after}
use Rattle.tbl_words.specs.Tables.{State as Tables, account_of}
use Rattle.tbl_words.specs.Uses.{peak_after, use_of}
use Rattle.run_report.specs.BusText.{entries_text}
use Rattle.run_report.specs.CounterText.{BusFigures, TableFigures}
use Rattle.run_report.specs.Report.{figures_shown}
use Rattle.run_report.specs.TableText.{table_entries_text}
use Rattle.app_script.specs.Script.{ScriptText}
use Rattle.script_runs.specs.Histories.{Histories}
use Rattle.script_runs.specs.Runs.{IsRunOf}
use Rattle.script_runs.specs.Told.{receipts_told}
use Rattle.run_check.specs.Judged.{entries_part}
use Rattle.run_check.specs.Merged.{merged}
use Rattle.run_check.specs.Openings.{head, report}
use Rattle.run_check.specs.Places.{Made, Place, place_after}
use Rattle.run_check.specs.TablePlaces.{TablePlace, table_place_after}
use Rattle.run_check.proofs.MergedReceipts.{receipts_are_merged}
use Rattle.run_check.proofs.Reports.{behind_tables, figures_in, receipts_in, report_of, uses_in}
use Rattle.bus_replay.specs.Places.{Kept, place_of}
use Rattle.bus_replay.specs.Replays.{Replay}
use Rattle.table_replay.specs.Replays.{Replay as TableReplay}
use Rattle.report_check.specs.Tails.{made_of_bus, made_of_tables, receipts_kept, table_figures_kept, tail_kept}
use Rattle.report_check.specs.Verdicts.{AreBehind}

-- Receipts. --

bus_made : (o : Option Kept) (p : Place) → option_map place_of o ≡ Some p → option_map_or (λ (k : Kept). k.receipts) o [] ≡ p.receipts
bus_made None p is = absurd (cc is)
bus_made (Some k) p is = let same : place_of k ≡ p = cc is in ap (λ (q : Place). q.receipts) same

tables_made : (o : Option TablePlace) (p : TablePlace) → o ≡ Some p → option_map_or (λ (k : TablePlace). k.receipts) o [] ≡ p.receipts
tables_made None p is = absurd (cc is)
tables_made (Some k) p is = let same : k ≡ p = cc is in ap (λ (q : TablePlace). q.receipts) same

-- the same at each number
map_range : {X : Type 0} (f g : ℕ → X) (a n : ℕ) → ((m : ℕ) → a ≤ m → m < a + n → f m ≡ g m) → map f (range_with_len a n) ≡ map g (range_with_len a n)
map_range f g a zero same = refl
map_range f g a (suc n) same =
    ap (λ x. x ∷ map f (range_with_len (a + 1) n)) (same a (omega arith) (omega arith))
    ∙ ap (λ xs. g a ∷ xs) (map_range f g (a + 1) n (λ m first last. same m (omega (arith, first)) (omega (arith, last))))

pub receipts_are : (script : ScriptText) (h : Histories) (bus : Replay) (tables : TableReplay) → AreBehind script h bus tables → IsRunOf script h →
    map (receipts_kept bus.places tables.places) (range_with_len 1 (length script.apps)) ≡ receipts_in script h
receipts_are script h bus tables at run =
    map_range (receipts_kept bus.places tables.places) (receipts_told script h) 1 (length script.apps) (λ app one less. each app one (omega (arith, less)))
  where
    each : (app : ℕ) → 1 ≤ app → app ≤ length script.apps → receipts_kept bus.places tables.places app ≡ receipts_told script h app
    each app one few =
        let few_here : app ≤ length bus.script.apps = subst (λ (s : ScriptText). app ≤ length s.apps) (sym at.same) few in
        let few_there : app ≤ length tables.script.apps = subst (λ (s : ScriptText). app ≤ length s.apps) (sym at.same_tables) few in
        let of_bus : made_of_bus bus.places app ≡ (place_after script app h.bus).receipts =
        bus_made (slice_get bus.places (app - 1)) (place_after bus.script app h.bus) (at.replayed.places app one few_here)
        ∙ ap (λ (s : ScriptText). (place_after s app h.bus).receipts) at.same in
        let of_tables : made_of_tables tables.places app ≡ (table_place_after script app h.tables).receipts =
        tables_made (slice_get tables.places (app - 1)) (table_place_after tables.script app h.tables) (at.replayed_tables.places app one few_there)
        ∙ ap (λ (s : ScriptText). (table_place_after s app h.tables).receipts) at.same_tables in
        ap (λ (m : List Made). merged m (made_of_tables tables.places app)) of_bus
        ∙ ap (λ (m : List Made). merged (place_after script app h.bus).receipts m) of_tables
        ∙ receipts_are_merged script h app run one few

-- Figures. --

pub figures_are : (script : ScriptText) (h : Histories) (bus : Replay) (tables : TableReplay) → AreBehind script h bus tables → IsRunOf script h →
    figures_shown bus.played.limits bus.played.whole.bus ≡ figures_in script h
figures_are script h bus tables at run =
    ap (λ (l : Limits). figures_shown l bus.played.whole.bus) (at.replayed.limits ∙ ap (λ (s : ScriptText). s.limits) at.same)
    ∙ ap (λ (w : Whole). figures_shown script.limits w.bus)
    (at.replayed.whole ∙ ap (λ (s : ScriptText). whole_after s.limits (length s.apps) h.bus) at.same ∙ whole_after-legal script.limits (length script.apps) h.bus run.legal)

abbrev table_figures : TblUse → Limits → Tables → TableFigures
table_figures peak limits s = record { now = use_of limits s; peak = peak; pool = account_of limits s }

pub table_figures_are : (script : ScriptText) (h : Histories) (bus : Replay) (tables : TableReplay) → AreBehind script h bus tables → table_figures_kept tables ≡ uses_in script h
table_figures_are script h bus tables at =
    ap (λ (p : TblUse). table_figures p tables.limits tables.state) (at.replayed_tables.peak ∙ ap (λ (s : ScriptText). peak_after s.limits (length s.apps) h.tables) at.same_tables)
    ∙ ap (λ (l : Limits). table_figures (peak_after script.limits (length script.apps) h.tables) l tables.state) (at.replayed_tables.limits ∙ ap (λ (s : ScriptText). s.limits) at.same_tables)
    ∙ ap (λ (t : Tables). table_figures (peak_after script.limits (length script.apps) h.tables) script.limits t)
    (at.replayed_tables.state ∙ ap (λ (s : ScriptText). tables_after s.limits (length s.apps) h.tables) at.same_tables)

-- All. --

pub tail_is : (script : ScriptText) (h : Histories) (bus : Replay) (tables : TableReplay) → AreBehind script h bus tables → IsRunOf script h →
    report script h ≡ entries_part script h ++ tail_kept (length script.apps) bus tables
tail_is script h bus tables at run =
    report_of script h
    ∙ regroup (head script) (entries_text h.bus) (codes "tables\n") (table_entries_text h.tables) (behind_tables (receipts_in script h) (figures_in script h) (uses_in script h))
    ∙ ap (λ t. entries_part script h ++ t)
    (ap (λ (rs : List (List Receipt)). behind_tables rs (figures_in script h) (uses_in script h)) (sym (receipts_are script h bus tables at run))
    ∙ ap (λ (f : BusFigures). behind_tables now f (uses_in script h)) (sym (figures_are script h bus tables at run))
    ∙ ap (λ (f : TableFigures). behind_tables now (figures_shown bus.played.limits bus.played.whole.bus) f) (sym (table_figures_are script h bus tables at)))
  where
    now : List (List Receipt)
    now = map (receipts_kept bus.places tables.places) (range_with_len 1 (length script.apps))

    regroup : (a e c t w : List ℕ) → a ++ (e ++ (c ++ (t ++ w))) ≡ ((a ++ e) ++ (c ++ t)) ++ w
    regroup a e c t w = simp append_assoc
