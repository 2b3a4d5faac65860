-- A report that is judged line by line is answered.
use Rattle.std.proofs.Common.{◌≡◌, ℕ, ◌+◌, ◌⊎◌, inl, inr, List, [], ◌∷◌, ◌++◌, length, codes, refl, ap, sym, ◌∙◌, subst, arith, append_assoc, append-nil}
use Rattle.std.proofs.lemmas.List.{append_cancel_left}
use Rattle.bus_words.specs.declared.history.Entry.{Entry}
use Rattle.tbl_words.specs.declared.history.Entry.{Entry as TableEntry}
use Rattle.run_report.specs.BusText.{answer_text, call_text, entries_text, entry_text}
use Rattle.run_report.specs.TableText.{table_answer_text, table_call_text, table_entries_text, table_entry_text}
use Rattle.app_script.specs.Script.{ScriptText}
use Rattle.app_script.specs.ScriptRanges.{IsScript}
use Rattle.script_runs.specs.Histories.{Histories}
use Rattle.script_runs.specs.Runs.{IsRunOf}
use Rattle.run_check.specs.declared.judgement.Judgement.{Judgement}
use Rattle.run_check.specs.declared.judgement.Judgement.TheVariants.{No}
use Rattle.run_check.specs.Begun.{AreBegunTables, AreWholeTables, IsBegun, IsWhole}
use Rattle.run_check.specs.Checks.{Beginning, IsAnswer, IsGood}
use Rattle.run_check.specs.Fronts.{EndsLine, IsForced, IsReached, wrong_line}
use Rattle.run_check.specs.Judged.{Begins, JudgedIsAnswered, NobodysEntry, NobodysTableEntry, NoHead, NoTables, Right, WrongEnd, WrongEntry, WrongTableEntry, entries_part, entry_head}
use Rattle.run_check.specs.Openings.{Opens, WithAll, WithBus, WithTables, bus_part, head, report, tables_part}
use Rattle.run_check.proofs.Beginnings.{begun_front, begun_no_tables, begun_nothing, begun_tables_front}
use Rattle.run_check.proofs.NextLines.{Next, NextAtTables, NextEntry, NextRest, NextTableEntry, NextTables, opening_at, opening_at_tables, report_at, report_at_tables}
use Rattle.run_check.proofs.Entries.{app_range, entries_one, none_behind}
use Rattle.run_check.proofs.Reports.{begun_of, begun_tables_of, behind_tables, figures_in, receipts_in, report_of, uses_in}
use Rattle.run_check.proofs.TableEntries.{no_table_behind, table_app_range, table_entries_one}
use Rattle.run_check.proofs.Texts.{ends_behind, line_begins, none_ends, numbered_push, same_heads, two_fronts}
use Rattle.run_check.proofs.WrongLines.{wrong_lines}

-- What is forced. --

-- whole lines behind a text, with which what is behind it begins, are lines of what has to be there
abbrev Steps : ScriptText → List ℕ → List ℕ → List ℕ → Type 0
Steps script done rest next =
    (opening f others z : List ℕ) → Beginning script opening → opening ≡ done ++ (f ++ others) → rest ≡ f ++ z → EndsLine f → Begins next f

forced_from : (script : ScriptText) (bytes done rest next text : List ℕ) → bytes ≡ done ++ rest → text ≡ done ++ next → Steps script done rest next → IsForced script bytes text
forced_from script bytes done rest next text is goes steps opening front others z beginning opened begins ends =
    by (two_fronts done rest front z (sym is ∙ begins))
  where
    behind : (f : List ℕ) → front ≡ done ++ f → Begins text front
    behind [] same = (next, goes ∙ ap (λ d. d ++ next) (sym (append-nil done) ∙ sym same))
    behind (x ∷ f) same =
        let E : List ℕ → Type 0 = EndsLine in
        let found = steps opening (x ∷ f) others z beginning
        (opened ∙ ap (λ l. l ++ others) same ∙ append_assoc done (x ∷ f) others)
        (append_cancel_left done _ _ (sym is ∙ begins ∙ ap (λ l. l ++ z) same ∙ append_assoc done (x ∷ f) z))
        (ends_behind done x f (subst E same ends)) in
        (found.0, goes ∙ ap (λ n. done ++ n) found.1 ∙ sym (append_assoc done (x ∷ f) found.0) ∙ ap (λ l. l ++ found.0) (sym same))

    by : (Begins done front) ⊎ (Begins front done) → Begins text front
    by (inl found) = (found.0 ++ next, goes ∙ ap (λ d. d ++ next) found.1 ∙ append_assoc front found.0 next)
    by (inr found) = behind found.0 found.1

-- of the lines behind a text, if what has to be there is known and doesn't come
kept : (next rest f others more z : List ℕ) → f ++ others ≡ next ++ more → rest ≡ f ++ z → ¬ Begins rest next → Begins next f
kept next rest f others more z same is wrong = by (two_fronts f others next more same)
  where
    by : (Begins f next) ⊎ (Begins next f) → Begins next f
    by (inl found) = absurd (wrong (found.0 ++ z, is ∙ ap (λ l. l ++ z) found.1 ∙ append_assoc next found.0 z))
    by (inr found) = found

-- lines are no empty text
no_lines : (f others : List ℕ) → EndsLine f → f ++ others ≡ [] → ⊥
no_lines f others ends none = none_ends others ends.0 (ap (λ l. l ++ others) (sym ends.1) ∙ none)

-- No is the answer
says_no : (script : ScriptText) (bytes text : List ℕ) (verdict : Judgement) → verdict ≡ No (wrong_line bytes text) → ¬ IsGood script bytes → IsForced script bytes text → IsReached script text →
    IsAnswer script bytes verdict
says_no script bytes text verdict is bad forced reached =
    let P : Judgement → Type 0 = IsAnswer script bytes in subst P (sym is) (bad, wrong_lines script bytes text forced reached)

-- The head. --

-- every opening begins with the first two lines
opening_head : (script : ScriptText) (h : Histories) (opening : List ℕ) → Opens script h opening → Begins opening (head script)
opening_head script h opening (WithBus is) = (entries_text h.bus, is)
opening_head script h opening (WithTables whole is) = (entries_text h.bus ++ tables_part h.tables, is ∙ append_assoc (head script) (entries_text h.bus) (tables_part h.tables))
opening_head script h opening (WithAll whole all is) =
    (entries_text h.bus ++ (codes "tables\n" ++ (table_entries_text h.tables ++ behind_tables (receipts_in script h) (figures_in script h) (uses_in script h))), is ∙ report_of script h)

no_head : (script : ScriptText) (bytes : List ℕ) (verdict : Judgement) → ¬ Begins bytes (head script) → verdict ≡ No (wrong_line bytes (head script)) → IsAnswer script bytes verdict
no_head script bytes verdict wrong is = says_no script bytes (head script) verdict is bad (forced_from script bytes [] bytes (head script) (head script) refl refl steps) reached
  where
    bad : ¬ IsGood script bytes
    bad good = let found = opening_head script good.histories (report script good.histories) (WithAll good.run.merges.each good.run.merges.each_at_tables refl) in wrong (found.0, good.same ∙ found.1)

    steps : Steps script [] bytes (head script)
    steps opening f others z beginning opened begins ends =
        let found = opening_head script beginning.histories opening beginning.opens in
        kept (head script) bytes f others found.0 z (sym opened ∙ found.1) begins wrong

    reached : IsReached script (head script)
    reached = (
      head script ++ [],
      [],
      record { histories = record { bus = []; tables = [] }; begun = begun_nothing script; begun_tables = begun_no_tables script; opens = WithBus refl },
      refl,
    )

-- The bus. --

-- a line begins with its head
text_head : (n : ℕ) (e : Entry) → Begins (entry_text n e) (entry_head n e.app)
text_head n e = (
  call_text e.call ++ (codes " -> " ++ (answer_text e.answer ++ codes "\n")),
  parts (entry_head n e.app) (call_text e.call) (codes " -> ") (answer_text e.answer) (codes "\n"),
)
  where
    parts : (h c a b d : List ℕ) → h ++ c ++ a ++ b ++ d ≡ h ++ (c ++ (a ++ (b ++ d)))
    parts h c a b d = simp append_assoc

-- the line of an entry, whole in what is behind, begins it with its head
head_whole : (n : ℕ) (e : Entry) (rest more : List ℕ) → rest ≡ entry_text n e ++ more → Begins rest (entry_head n e.app)
head_whole n e rest more is =
    let found = text_head n e in (found.0 ++ more, is ∙ ap (λ t. t ++ more) found.1 ∙ append_assoc (entry_head n e.app) found.0 more)

-- and so do lines that it begins with
head_cut : (n : ℕ) (e : Entry) (rest f others more z : List ℕ) → f ++ others ≡ entry_text n e ++ more → rest ≡ f ++ z → EndsLine f → Begins rest (entry_head n e.app)
head_cut n e rest f others more z same is ends =
    let whole = head_whole n e (f ++ others) more same in
    let line = line_begins n e.app f others whole.0 ends whole.1 in
    (line.0 ++ z, is ∙ ap (λ l. l ++ z) line.1 ∙ append_assoc (entry_head n e.app) line.0 z)

-- one entry more
bus_part_push : (script : ScriptText) (history : List Entry) (e : Entry) → bus_part script (history ++ e ∷ []) ≡ bus_part script history ++ entry_text (length history + 1) e
bus_part_push script history e =
    ap (λ t. head script ++ t) (numbered_push entry_text 1 history e ∙ ap (λ m. entries_text history ++ entry_text m e) (omega arith))
    ∙ sym (append_assoc (head script) (entries_text history) (entry_text (length history + 1) e))

with_bus : (script : ScriptText) (history : List Entry) → IsBegun script history → IsReached script (bus_part script history)
with_bus script history begun = (
  bus_part script history,
  [],
  record { histories = record { bus = history; tables = [] }; begun = begun; begun_tables = begun_no_tables script; opens = WithBus refl },
  sym (append-nil (bus_part script history)),
)

nobodys_entry : (script : ScriptText) (bytes : List ℕ) (verdict : Judgement) → IsScript script → (history : List Entry) (rest : List ℕ) → IsBegun script history → ¬ IsWhole script history →
    bytes ≡ bus_part script history ++ rest → ((e : Entry) → IsBegun script (history ++ e ∷ []) → ¬ Begins rest (entry_head (length history + 1) e.app)) →
    verdict ≡ No (wrong_line bytes (bus_part script history)) → IsAnswer script bytes verdict
nobodys_entry script bytes verdict fine history rest begun missing is nobody says =
    says_no script bytes (bus_part script history) verdict says bad
    (forced_from script bytes (bus_part script history) rest [] (bus_part script history) is (sym (append-nil (bus_part script history))) steps) (with_bus script history begun)
  where
    bad : ¬ IsGood script bytes
    bad good =
        by (report_at script fine.few history good.histories rest begun (begun_of script good.histories good.run) good.run.merges.each (sym good.same ∙ is))
      where
        by : Next script history rest → ⊥
        by (NextEntry e more next text) = nobody e next (head_whole (length history + 1) e rest more text)
        by (NextTables whole more text) = missing whole

    steps : Steps script (bus_part script history) rest []
    steps opening f others z beginning opened begins ends = by (opening_at script fine.few history opening (f ++ others) begun beginning opened)
      where
        by : (f ++ others ≡ []) ⊎ Next script history (f ++ others) → Begins [] f
        by (inl none) = absurd (no_lines f others ends none)
        by (inr (NextEntry e more next text)) = absurd (nobody e next (head_cut (length history + 1) e rest f others more z text begins ends))
        by (inr (NextTables whole more text)) = absurd (missing whole)

wrong_entry : (script : ScriptText) (bytes : List ℕ) (verdict : Judgement) → IsScript script → (history : List Entry) (e : Entry) (rest : List ℕ) → IsBegun script (history ++ e ∷ []) →
    bytes ≡ bus_part script history ++ rest → Begins rest (entry_head (length history + 1) e.app) → ¬ Begins rest (entry_text (length history + 1) e) →
    verdict ≡ No (wrong_line bytes (bus_part script (history ++ e ∷ []))) → IsAnswer script bytes verdict
wrong_entry script bytes verdict fine history e rest begun is headed wrong says =
    says_no script bytes (bus_part script (history ++ e ∷ [])) verdict says bad
    (forced_from script bytes (bus_part script history) rest (entry_text (length history + 1) e) (bus_part script (history ++ e ∷ [])) is (bus_part_push script history e) steps)
    (with_bus script (history ++ e ∷ []) begun)
  where
    before : IsBegun script history
    before = begun_front script history (e ∷ []) begun

    -- no other entry comes next
    same : (f : Entry) → IsBegun script (history ++ f ∷ []) → Begins rest (entry_head (length history + 1) f.app) → f ≡ e
    same f next begins =
        let one = app_range script history f [] next in
        let other = app_range script history e [] begun in
        entries_one script history f e [] [] next begun
        (same_heads (length history + 1) f.app e.app rest (omega (arith, one.1, fine.few)) (omega (arith, other.1, fine.few)) begins headed)

    bad : ¬ IsGood script bytes
    bad good =
        by (report_at script fine.few history good.histories rest before (begun_of script good.histories good.run) good.run.merges.each (sym good.same ∙ is))
      where
        by : Next script history rest → ⊥
        by (NextEntry f more next text) =
            wrong (more, text ∙ ap (λ g. entry_text (length history + 1) g ++ more) (same f next (head_whole (length history + 1) f rest more text)))
        by (NextTables whole more text) = none_behind script history e [] whole begun

    steps : Steps script (bus_part script history) rest (entry_text (length history + 1) e)
    steps opening f others z beginning opened begins ends = by (opening_at script fine.few history opening (f ++ others) before beginning opened)
      where
        by : (f ++ others ≡ []) ⊎ Next script history (f ++ others) → Begins (entry_text (length history + 1) e) f
        by (inl none) = absurd (no_lines f others ends none)
        by (inr (NextEntry g more next text)) =
            let alike = same g next (head_cut (length history + 1) g rest f others more z text begins ends) in
            kept (entry_text (length history + 1) e) rest f others more z (text ∙ ap (λ x. entry_text (length history + 1) x ++ more) alike) begins wrong
        by (inr (NextTables whole more text)) = absurd (none_behind script history e [] whole begun)

no_tables : (script : ScriptText) (bytes : List ℕ) (verdict : Judgement) → IsScript script → (history : List Entry) (rest : List ℕ) → IsBegun script history → IsWhole script history →
    bytes ≡ bus_part script history ++ rest → ¬ Begins rest (codes "tables\n") → verdict ≡ No (wrong_line bytes (bus_part script history ++ codes "tables\n")) → IsAnswer script bytes verdict
no_tables script bytes verdict fine history rest begun whole is wrong says =
    says_no script bytes (bus_part script history ++ codes "tables\n") verdict says bad
    (forced_from script bytes (bus_part script history) rest (codes "tables\n") (bus_part script history ++ codes "tables\n") is refl steps) reached
  where
    bad : ¬ IsGood script bytes
    bad good =
        by (report_at script fine.few history good.histories rest begun (begun_of script good.histories good.run) good.run.merges.each (sym good.same ∙ is))
      where
        by : Next script history rest → ⊥
        by (NextEntry f more next text) = none_behind script history f [] whole next
        by (NextTables all more text) = wrong (more, text)

    steps : Steps script (bus_part script history) rest (codes "tables\n")
    steps opening f others z beginning opened begins ends = by (opening_at script fine.few history opening (f ++ others) begun beginning opened)
      where
        by : (f ++ others ≡ []) ⊎ Next script history (f ++ others) → Begins (codes "tables\n") f
        by (inl none) = absurd (no_lines f others ends none)
        by (inr (NextEntry g more next text)) = absurd (none_behind script history g [] whole next)
        by (inr (NextTables all more text)) = kept (codes "tables\n") rest f others more z text begins wrong

    reached : IsReached script (bus_part script history ++ codes "tables\n")
    reached = (
      bus_part script history ++ tables_part [],
      [],
      record { histories = record { bus = history; tables = [] }; begun = begun; begun_tables = begun_no_tables script; opens = WithTables whole refl },
      sym (append_assoc (bus_part script history) (codes "tables\n") []),
    )

-- The tables. --

-- a line begins with its head
table_text_head : (n : ℕ) (e : TableEntry) → Begins (table_entry_text n e) (entry_head n e.app)
table_text_head n e = (
  table_call_text e.call ++ (codes " -> " ++ (table_answer_text e.answer ++ codes "\n")),
  parts (entry_head n e.app) (table_call_text e.call) (codes " -> ") (table_answer_text e.answer) (codes "\n"),
)
  where
    parts : (h c a b d : List ℕ) → h ++ c ++ a ++ b ++ d ≡ h ++ (c ++ (a ++ (b ++ d)))
    parts h c a b d = simp append_assoc

table_head_whole : (n : ℕ) (e : TableEntry) (rest more : List ℕ) → rest ≡ table_entry_text n e ++ more → Begins rest (entry_head n e.app)
table_head_whole n e rest more is =
    let found = table_text_head n e in (found.0 ++ more, is ∙ ap (λ t. t ++ more) found.1 ∙ append_assoc (entry_head n e.app) found.0 more)

table_head_cut : (n : ℕ) (e : TableEntry) (rest f others more z : List ℕ) → f ++ others ≡ table_entry_text n e ++ more → rest ≡ f ++ z → EndsLine f → Begins rest (entry_head n e.app)
table_head_cut n e rest f others more z same is ends =
    let whole = table_head_whole n e (f ++ others) more same in
    let line = line_begins n e.app f others whole.0 ends whole.1 in
    (line.0 ++ z, is ∙ ap (λ l. l ++ z) line.1 ∙ append_assoc (entry_head n e.app) line.0 z)

-- both histories, with one entry of the tables more
abbrev with_table_entry : Histories → TableEntry → Histories
with_table_entry g e = record g { tables = g.tables ++ e ∷ [] }

entries_part_push : (script : ScriptText) (g : Histories) (e : TableEntry) → entries_part script (with_table_entry g e) ≡ entries_part script g ++ table_entry_text (length g.tables + 1) e
entries_part_push script g e =
    ap (λ t. bus_part script g.bus ++ (codes "tables\n" ++ t)) (numbered_push table_entry_text 1 g.tables e ∙ ap (λ m. table_entries_text g.tables ++ table_entry_text m e) (omega arith))
    ∙ regroup (bus_part script g.bus) (codes "tables\n") (table_entries_text g.tables) (table_entry_text (length g.tables + 1) e)
  where
    regroup : (b c t x : List ℕ) → b ++ (c ++ (t ++ x)) ≡ (b ++ (c ++ t)) ++ x
    regroup b c t x = simp append_assoc

with_tables : (script : ScriptText) (g : Histories) → IsBegun script g.bus → IsWhole script g.bus → AreBegunTables script g.tables → IsReached script (entries_part script g)
with_tables script g begun whole tables = (
  entries_part script g,
  [],
  record { histories = g; begun = begun; begun_tables = tables; opens = WithTables whole refl },
  sym (append-nil (entries_part script g)),
)

-- what the report of a run has behind the lines of both histories
good_at_tables : (script : ScriptText) (bytes : List ℕ) → IsScript script → (g : Histories) (rest : List ℕ) → IsBegun script g.bus → IsWhole script g.bus → AreBegunTables script g.tables →
    bytes ≡ entries_part script g ++ rest → (good : IsGood script bytes) → NextAtTables script g (report script good.histories) rest
good_at_tables script bytes fine g rest begun whole tables is good =
    report_at_tables script fine.few g good.histories rest begun whole tables (begun_of script good.histories good.run) (begun_tables_of script good.histories good.run)
    good.run.merges.each good.run.merges.each_at_tables (sym good.same ∙ is)

nobodys_table_entry : (script : ScriptText) (bytes : List ℕ) (verdict : Judgement) → IsScript script → (g : Histories) (rest : List ℕ) → IsBegun script g.bus → IsWhole script g.bus →
    AreBegunTables script g.tables → ¬ AreWholeTables script g.tables → bytes ≡ entries_part script g ++ rest →
    ((e : TableEntry) → AreBegunTables script (g.tables ++ e ∷ []) → ¬ Begins rest (entry_head (length g.tables + 1) e.app)) →
    verdict ≡ No (wrong_line bytes (entries_part script g)) → IsAnswer script bytes verdict
nobodys_table_entry script bytes verdict fine g rest begun whole tables missing is nobody says =
    says_no script bytes (entries_part script g) verdict says bad
    (forced_from script bytes (entries_part script g) rest [] (entries_part script g) is (sym (append-nil (entries_part script g))) steps) (with_tables script g begun whole tables)
  where
    bad : ¬ IsGood script bytes
    bad good = by (good_at_tables script bytes fine g rest begun whole tables is good)
      where
        by : NextAtTables script g (report script good.histories) rest → ⊥
        by (NextTableEntry e more next text) = nobody e next (table_head_whole (length g.tables + 1) e rest more text)
        by (NextRest all same) = missing all

    steps : Steps script (entries_part script g) rest []
    steps opening f others z beginning opened begins ends = by (opening_at_tables script fine.few g opening (f ++ others) begun whole tables beginning opened)
      where
        by : (f ++ others ≡ []) ⊎ NextAtTables script g opening (f ++ others) → Begins [] f
        by (inl none) = absurd (no_lines f others ends none)
        by (inr (NextTableEntry e more next text)) = absurd (nobody e next (table_head_cut (length g.tables + 1) e rest f others more z text begins ends))
        by (inr (NextRest all same)) = absurd (missing all)

wrong_table_entry : (script : ScriptText) (bytes : List ℕ) (verdict : Judgement) → IsScript script → (g : Histories) (e : TableEntry) (rest : List ℕ) → IsBegun script g.bus → IsWhole script g.bus →
    AreBegunTables script (g.tables ++ e ∷ []) → bytes ≡ entries_part script g ++ rest → Begins rest (entry_head (length g.tables + 1) e.app) →
    ¬ Begins rest (table_entry_text (length g.tables + 1) e) → verdict ≡ No (wrong_line bytes (entries_part script (with_table_entry g e))) → IsAnswer script bytes verdict
wrong_table_entry script bytes verdict fine g e rest begun whole tables is headed wrong says =
    says_no script bytes (entries_part script (with_table_entry g e)) verdict says bad
    (forced_from script bytes (entries_part script g) rest (table_entry_text (length g.tables + 1) e) (entries_part script (with_table_entry g e)) is (entries_part_push script g e) steps)
    (with_tables script (with_table_entry g e) begun whole tables)
  where
    before : AreBegunTables script g.tables
    before = begun_tables_front script g.tables (e ∷ []) tables

    same : (f : TableEntry) → AreBegunTables script (g.tables ++ f ∷ []) → Begins rest (entry_head (length g.tables + 1) f.app) → f ≡ e
    same f next begins =
        let one = table_app_range script g.tables f [] next in
        let other = table_app_range script g.tables e [] tables in
        table_entries_one script g.tables f e [] [] next tables
        (same_heads (length g.tables + 1) f.app e.app rest (omega (arith, one.1, fine.few)) (omega (arith, other.1, fine.few)) begins headed)

    bad : ¬ IsGood script bytes
    bad good = by (good_at_tables script bytes fine g rest begun whole before is good)
      where
        by : NextAtTables script g (report script good.histories) rest → ⊥
        by (NextTableEntry f more next text) =
            wrong (more, text ∙ ap (λ x. table_entry_text (length g.tables + 1) x ++ more) (same f next (table_head_whole (length g.tables + 1) f rest more text)))
        by (NextRest all alike) = no_table_behind script g.tables e [] all tables

    steps : Steps script (entries_part script g) rest (table_entry_text (length g.tables + 1) e)
    steps opening f others z beginning opened begins ends = by (opening_at_tables script fine.few g opening (f ++ others) begun whole before beginning opened)
      where
        by : (f ++ others ≡ []) ⊎ NextAtTables script g opening (f ++ others) → Begins (table_entry_text (length g.tables + 1) e) f
        by (inl none) = absurd (no_lines f others ends none)
        by (inr (NextTableEntry x more next text)) =
            let alike = same x next (table_head_cut (length g.tables + 1) x rest f others more z text begins ends) in
            kept (table_entry_text (length g.tables + 1) e) rest f others more z (text ∙ ap (λ y. table_entry_text (length g.tables + 1) y ++ more) alike) begins wrong
        by (inr (NextRest all alike)) = absurd (no_table_behind script g.tables e [] all tables)

-- The end. --

-- the rest of a report behind its entries
report_rest : (script : ScriptText) (g : Histories) → report script g ≡ entries_part script g ++ behind_tables (receipts_in script g) (figures_in script g) (uses_in script g)
report_rest script g =
    report_of script g
    ∙ regroup (head script) (entries_text g.bus) (codes "tables\n") (table_entries_text g.tables) (behind_tables (receipts_in script g) (figures_in script g) (uses_in script g))
  where
    regroup : (a e c t w : List ℕ) → a ++ (e ++ (c ++ (t ++ w))) ≡ ((a ++ e) ++ (c ++ t)) ++ w
    regroup a e c t w = simp append_assoc

wrong_end : (script : ScriptText) (bytes : List ℕ) (verdict : Judgement) → IsScript script → (g : Histories) (rest : List ℕ) → IsRunOf script g → bytes ≡ entries_part script g ++ rest →
    ¬ (bytes ≡ report script g) → verdict ≡ No (wrong_line bytes (report script g)) → IsAnswer script bytes verdict
wrong_end script bytes verdict fine g rest run is wrong says =
    says_no script bytes (report script g) verdict says bad
    (forced_from script bytes (entries_part script g) rest tail (report script g) is (report_rest script g) steps) reached
  where
    tail : List ℕ
    tail = behind_tables (receipts_in script g) (figures_in script g) (uses_in script g)

    begun : IsBegun script g.bus
    begun = begun_of script g run

    tables : AreBegunTables script g.tables
    tables = begun_tables_of script g run

    bad : ¬ IsGood script bytes
    bad good = by (good_at_tables script bytes fine g rest begun run.merges.each tables is good)
      where
        by : NextAtTables script g (report script good.histories) rest → ⊥
        by (NextTableEntry e more next text) = no_table_behind script g.tables e [] run.merges.each_at_tables next
        by (NextRest all same) = wrong (good.same ∙ same)

    steps : Steps script (entries_part script g) rest tail
    steps opening f others z beginning opened begins ends = by (opening_at_tables script fine.few g opening (f ++ others) begun run.merges.each tables beginning opened)
      where
        by : (f ++ others ≡ []) ⊎ NextAtTables script g opening (f ++ others) → Begins tail f
        by (inl none) = absurd (no_lines f others ends none)
        by (inr (NextTableEntry e more next text)) = absurd (no_table_behind script g.tables e [] run.merges.each_at_tables next)
        by (inr (NextRest all same)) = (others, append_cancel_left (entries_part script g) _ _ (sym (report_rest script g) ∙ sym same ∙ opened))

    reached : IsReached script (report script g)
    reached = (
      report script g,
      [],
      record { histories = g; begun = begun; begun_tables = tables; opens = WithAll run.merges.each run.merges.each_at_tables refl },
      sym (append-nil (report script g)),
    )

-- All. --

pub judged_is_answered : JudgedIsAnswered
judged_is_answered script bytes verdict fine (NoHead wrong says) = no_head script bytes verdict wrong says
judged_is_answered script bytes verdict fine (NobodysEntry history rest begun missing is nobody says) =
    nobodys_entry script bytes verdict fine history rest begun missing is nobody says
judged_is_answered script bytes verdict fine (WrongEntry history e rest begun is headed wrong says) =
    wrong_entry script bytes verdict fine history e rest begun is headed wrong says
judged_is_answered script bytes verdict fine (NoTables history rest begun whole is wrong says) =
    no_tables script bytes verdict fine history rest begun whole is wrong says
judged_is_answered script bytes verdict fine (NobodysTableEntry g rest begun whole tables missing is nobody says) =
    nobodys_table_entry script bytes verdict fine g rest begun whole tables missing is nobody says
judged_is_answered script bytes verdict fine (WrongTableEntry g e rest begun whole tables is headed wrong says) =
    wrong_table_entry script bytes verdict fine g e rest begun whole tables is headed wrong says
judged_is_answered script bytes verdict fine (WrongEnd g rest run is wrong says) = wrong_end script bytes verdict fine g rest run is wrong says
judged_is_answered script bytes verdict fine (Right g run same says) =
    let P : Judgement → Type 0 = IsAnswer script bytes in subst P (sym says) (record { histories = g; run = run; same = same })
