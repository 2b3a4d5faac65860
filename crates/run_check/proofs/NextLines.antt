-- What an opening of a run has behind the lines of a history that is under way.
use Rattle.std.proofs.Common.{◌≡◌, ℕ, ◌+◌, ◌≤◌, ◌⊎◌, inl, inr, List, [], ◌∷◌, ◌++◌, length, codes, refl, ap, sym, ◌∙◌, subst, arith, append_assoc, append-nil}
use Rattle.std.proofs.lemmas.List.{append_cancel_left}
use Rattle.bus_words.specs.declared.history.Entry.{Entry}
use Rattle.tbl_words.specs.declared.history.Entry.{Entry as TableEntry}
use Rattle.text_page.specs.Texts.{numbered}
use Rattle.run_report.specs.BusText.{entries_text, entry_text}
use Rattle.run_report.specs.TableText.{table_entries_text, table_entry_text}
use Rattle.app_script.specs.Script.{ScriptText}
use Rattle.script_runs.specs.Histories.{Histories}
use Rattle.run_check.specs.Begun.{AreBegunTables, AreWholeTables, IsBegun, IsWhole}
use Rattle.run_check.specs.Checks.{Beginning}
use Rattle.run_check.specs.Judged.{entries_part}
use Rattle.run_check.specs.Openings.{Opens, WithAll, WithBus, WithTables, bus_part, head, report, tables_part}
use Rattle.run_check.proofs.Beginnings.{begun_front, begun_tables_front}
use Rattle.run_check.proofs.Entries.{bus_follows, none_behind}
use Rattle.run_check.proofs.Reports.{behind_tables, figures_in, receipts_in, report_of, uses_in}
use Rattle.run_check.proofs.TableEntries.{tables_follow}

-- The other's history is this one, or has one entry more at least. --

pub data BusCase (script : ScriptText) (history other : List Entry) (u v : List ℕ) : Type 0 where
  SameBus : other ≡ history → u ≡ v → BusCase script history other u v
  MoreBus : (f : Entry) (more : List ℕ) → IsBegun script (history ++ f ∷ []) → u ≡ entry_text (length history + 1) f ++ more → BusCase script history other u v

bus_case : (script : ScriptText) → length script.apps ≤ 16 → (history other : List Entry) (u v : List ℕ) → IsBegun script history → IsBegun script other →
    (v ≡ []) ⊎ IsWhole script other → entries_text other ++ v ≡ entries_text history ++ u → BusCase script history other u v
bus_case script few history other u v one two ends same =
    let found = bus_follows script few [] history other 1 u v one two ends same in by found.0 found.1 found.2
  where
    by : (z : List Entry) → other ≡ history ++ z → u ≡ numbered entry_text (1 + length history) z ++ v → BusCase script history other u v
    by [] more text = SameBus (more ∙ append-nil history) text
    by (f ∷ z) more text =
        let B : List Entry → Type 0 = IsBegun script in
        let others = numbered entry_text (1 + length history + 1) z in
        MoreBus f (others ++ v)
        (begun_front script (history ++ f ∷ []) z (subst B (more ∙ sym (append_assoc history (f ∷ []) z)) two))
        (text ∙ append_assoc (entry_text (1 + length history) f) others v ∙ ap (λ m. entry_text m f ++ (others ++ v)) (omega arith))

pub data TableCase (script : ScriptText) (history other : List TableEntry) (u v : List ℕ) : Type 0 where
  SameTables : other ≡ history → u ≡ v → TableCase script history other u v
  MoreTables : (f : TableEntry) (more : List ℕ) → AreBegunTables script (history ++ f ∷ []) → u ≡ table_entry_text (length history + 1) f ++ more → TableCase script history other u v

table_case : (script : ScriptText) → length script.apps ≤ 16 → (history other : List TableEntry) (u v : List ℕ) → AreBegunTables script history → AreBegunTables script other →
    (v ≡ []) ⊎ AreWholeTables script other → table_entries_text other ++ v ≡ table_entries_text history ++ u → TableCase script history other u v
table_case script few history other u v one two ends same =
    let found = tables_follow script few [] history other 1 u v one two ends same in by found.0 found.1 found.2
  where
    by : (z : List TableEntry) → other ≡ history ++ z → u ≡ numbered table_entry_text (1 + length history) z ++ v → TableCase script history other u v
    by [] more text = SameTables (more ∙ append-nil history) text
    by (f ∷ z) more text =
        let B : List TableEntry → Type 0 = AreBegunTables script in
        let others = numbered table_entry_text (1 + length history + 1) z in
        MoreTables f (others ++ v)
        (begun_tables_front script (history ++ f ∷ []) z (subst B (more ∙ sym (append_assoc history (f ∷ []) z)) two))
        (text ∙ append_assoc (table_entry_text (1 + length history) f) others v ∙ ap (λ m. table_entry_text m f ++ (others ++ v)) (omega arith))

-- The bus. --

-- behind the lines of a history of the bus: another entry's, or the heading of the tables
pub data Next (script : ScriptText) (history : List Entry) (u : List ℕ) : Type 0 where
  NextEntry : (f : Entry) (more : List ℕ) → IsBegun script (history ++ f ∷ []) → u ≡ entry_text (length history + 1) f ++ more → Next script history u
  NextTables : IsWhole script history → (more : List ℕ) → u ≡ codes "tables\n" ++ more → Next script history u

-- the heads are alike
cut : (a e f u v text : List ℕ) → text ≡ (a ++ e) ++ u → text ≡ a ++ (f ++ v) → f ++ v ≡ e ++ u
cut a e f u v text one two = sym (append_cancel_left a _ _ (sym (append_assoc a e u) ∙ sym one ∙ two))

next_of : (script : ScriptText) (history other : List Entry) (u more : List ℕ) → IsWhole script other → BusCase script history other u (codes "tables\n" ++ more) → Next script history u
next_of script history other u more whole (SameBus same text) = let W : List Entry → Type 0 = IsWhole script in NextTables (subst W same whole) more text
next_of script history other u more whole (MoreBus f others begun text) = NextEntry f others begun text

pub report_at : (script : ScriptText) → length script.apps ≤ 16 → (history : List Entry) (h : Histories) (u : List ℕ) → IsBegun script history → IsBegun script h.bus → IsWhole script h.bus →
    report script h ≡ bus_part script history ++ u → Next script history u
report_at script few history h u one two whole same =
    let w = table_entries_text h.tables ++ behind_tables (receipts_in script h) (figures_in script h) (uses_in script h) in
    next_of script history h.bus u w whole
    (bus_case script few history h.bus u (codes "tables\n" ++ w) one two (inr whole)
    (cut (head script) (entries_text history) (entries_text h.bus) u (codes "tables\n" ++ w) (report script h) same (report_of script h)))

pub opening_at : (script : ScriptText) → length script.apps ≤ 16 → (history : List Entry) (opening u : List ℕ) → IsBegun script history → Beginning script opening →
    opening ≡ bus_part script history ++ u → (u ≡ []) ⊎ Next script history u
opening_at script few history opening u one beginning same = by beginning.opens
  where
    h : Histories
    h = beginning.histories

    last : BusCase script history h.bus u [] → (u ≡ []) ⊎ Next script history u
    last (SameBus alike text) = inl text
    last (MoreBus f others begun text) = inr (NextEntry f others begun text)

    by : Opens script h opening → (u ≡ []) ⊎ Next script history u
    by (WithBus is) =
        last (bus_case script few history h.bus u [] one beginning.begun (inl refl)
        (cut (head script) (entries_text history) (entries_text h.bus) u [] opening same (is ∙ ap (λ l. head script ++ l) (sym (append-nil (entries_text h.bus))))))
    by (WithTables whole is) =
        inr (next_of script history h.bus u (table_entries_text h.tables) whole
        (bus_case script few history h.bus u (tables_part h.tables) one beginning.begun (inr whole)
        (cut (head script) (entries_text history) (entries_text h.bus) u (tables_part h.tables) opening same (is ∙ append_assoc (head script) (entries_text h.bus) (tables_part h.tables)))))
    by (WithAll whole all is) = inr (report_at script few history h u one beginning.begun whole (sym is ∙ same))

-- The tables. --

-- behind the lines of both histories: another entry's of the tables, or the rest of the report
pub data NextAtTables (script : ScriptText) (g : Histories) (opening u : List ℕ) : Type 0 where
  NextTableEntry : (f : TableEntry) (more : List ℕ) → AreBegunTables script (g.tables ++ f ∷ []) → u ≡ table_entry_text (length g.tables + 1) f ++ more → NextAtTables script g opening u
  NextRest : AreWholeTables script g.tables → opening ≡ report script g → NextAtTables script g opening u

-- the headings are alike
cut_tables : (a e t b f v text u : List ℕ) → text ≡ ((a ++ e) ++ (t ++ b)) ++ u → text ≡ a ++ (f ++ v) → f ++ v ≡ e ++ (t ++ (b ++ u))
cut_tables a e t b f v text u one two = cut a e f (t ++ (b ++ u)) v text (one ∙ regroup (a ++ e) t b u) two
  where
    regroup : (c t b u : List ℕ) → (c ++ (t ++ b)) ++ u ≡ c ++ (t ++ (b ++ u))
    regroup c t b u = simp append_assoc

-- a history of the bus that is whole is the opening's
whole_bus : (script : ScriptText) (history other : List Entry) (u v : List ℕ) → IsWhole script history → BusCase script history other u v → (other ≡ history) × (u ≡ v)
whole_bus script history other u v whole (SameBus same text) = (same, text)
whole_bus script history other u v whole (MoreBus f more begun text) = absurd (none_behind script history f [] whole begun)

pub report_at_tables : (script : ScriptText) → length script.apps ≤ 16 → (g h : Histories) (u : List ℕ) → IsBegun script g.bus → IsWhole script g.bus → AreBegunTables script g.tables →
    IsBegun script h.bus → AreBegunTables script h.tables → IsWhole script h.bus → AreWholeTables script h.tables →
    report script h ≡ entries_part script g ++ u → NextAtTables script g (report script h) u
report_at_tables script few g h u begun whole tables two others all every same = by (table_case script few g.tables h.tables u w tables others (inr every) texts)
  where
    w : List ℕ
    w = behind_tables (receipts_in script h) (figures_in script h) (uses_in script h)

    found : (h.bus ≡ g.bus) × (codes "tables\n" ++ (table_entries_text g.tables ++ u) ≡ codes "tables\n" ++ (table_entries_text h.tables ++ w))
    found = whole_bus script g.bus h.bus (codes "tables\n" ++ (table_entries_text g.tables ++ u)) (codes "tables\n" ++ (table_entries_text h.tables ++ w)) whole
        (bus_case script few g.bus h.bus (codes "tables\n" ++ (table_entries_text g.tables ++ u)) (codes "tables\n" ++ (table_entries_text h.tables ++ w)) begun two (inr all)
        (cut_tables (head script) (entries_text g.bus) (codes "tables\n") (table_entries_text g.tables) (entries_text h.bus) (codes "tables\n" ++ (table_entries_text h.tables ++ w)) (report script h) u same (report_of script h)))

    texts : table_entries_text h.tables ++ w ≡ table_entries_text g.tables ++ u
    texts = sym (append_cancel_left (codes "tables\n") _ _ found.1)

    by : TableCase script g.tables h.tables u w → NextAtTables script g (report script h) u
    by (SameTables alike text) =
        let W : List TableEntry → Type 0 = AreWholeTables script in
        NextRest (subst W alike every)
        (ap (λ b. report script (record { bus = b; tables = h.tables })) found.0 ∙ ap (λ t. report script (record { bus = g.bus; tables = t })) alike)
    by (MoreTables f more next text) = NextTableEntry f more next text

pub opening_at_tables : (script : ScriptText) → length script.apps ≤ 16 → (g : Histories) (opening u : List ℕ) → IsBegun script g.bus → IsWhole script g.bus → AreBegunTables script g.tables →
    Beginning script opening → opening ≡ entries_part script g ++ u → (u ≡ []) ⊎ NextAtTables script g opening u
opening_at_tables script few g opening u begun whole tables beginning same = by beginning.opens
  where
    h : Histories
    h = beginning.histories

    behind : List ℕ
    behind = codes "tables\n" ++ (table_entries_text g.tables ++ u)

    last : TableCase script g.tables h.tables u [] → (u ≡ []) ⊎ NextAtTables script g opening u
    last (SameTables alike text) = inl text
    last (MoreTables f more next text) = inr (NextTableEntry f more next text)

    nothing : (l : List ℕ) → codes "tables\n" ++ l ≡ [] → ⊥
    nothing l none = cc none

    by : Opens script h opening → (u ≡ []) ⊎ NextAtTables script g opening u
    by (WithBus is) =
        let found = whole_bus script g.bus h.bus behind [] whole
        (bus_case script few g.bus h.bus behind [] begun beginning.begun (inl refl)
        (cut_tables (head script) (entries_text g.bus) (codes "tables\n") (table_entries_text g.tables) (entries_text h.bus) [] opening u same
        (is ∙ ap (λ l. head script ++ l) (sym (append-nil (entries_text h.bus)))))) in
        absurd (nothing (table_entries_text g.tables ++ u) found.1)
    by (WithTables all is) =
        let found = whole_bus script g.bus h.bus behind (tables_part h.tables) whole
        (bus_case script few g.bus h.bus behind (tables_part h.tables) begun beginning.begun (inr all)
        (cut_tables (head script) (entries_text g.bus) (codes "tables\n") (table_entries_text g.tables) (entries_text h.bus) (tables_part h.tables) opening u same
        (is ∙ append_assoc (head script) (entries_text h.bus) (tables_part h.tables)))) in
        last (table_case script few g.tables h.tables u [] tables beginning.begun_tables (inl refl)
        (append-nil (table_entries_text h.tables) ∙ sym (append_cancel_left (codes "tables\n") _ _ found.1)))
    by (WithAll all every is) = inr (turned (report_at_tables script few g h u begun whole tables beginning.begun beginning.begun_tables all every (sym is ∙ same)))
      where
        turned : NextAtTables script g (report script h) u → NextAtTables script g opening u
        turned (NextTableEntry f more next text) = NextTableEntry f more next text
        turned (NextRest wholes alike) = NextRest wholes (is ∙ alike)
