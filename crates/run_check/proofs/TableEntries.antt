-- Histories of the tables that are under way: the number of an application says which entry comes next, and none comes behind a whole one.
use Rattle.std.proofs.Common.{◌≡◌, ℕ, ◌+◌, ◌<◌, ◌≤◌, ◌^◌, ◌==◌, Bool, true, if◌then◌else◌, ◌⊎◌, inl, inr, List, [], ◌∷◌, ◌++◌, length, refl, ap, sym, ◌∙◌, subst, arith, append_assoc, append-nil}
use Rattle.std.specs.Fmt.{decimal}
use Rattle.std.proofs.lemmas.Bool.Decides.{nat_tests}
use Rattle.std.proofs.lemmas.Fmt.{decimal_injective}
use Rattle.std.proofs.lemmas.List.{append_cancel_left}
use Rattle.std.proofs.lemmas.List.Elements.{filter-append}
use Rattle.fsw_base.specs.Limits.{Limits}
use Rattle.tbl_words.specs.declared.calls.TblAnswer.{TblAnswer}
use Rattle.tbl_words.specs.declared.history.Call.{Call}
use Rattle.tbl_words.specs.declared.history.Entry.{Entry}
use Rattle.tbl_words.specs.Tables.{State, opening}
use Rattle.tbl_words.specs.Machine.{LegalFrom, state_after, state_from, step}
use Rattle.text_page.specs.Texts.{numbered}
use Rattle.run_report.specs.TableText.{table_answer_text, table_call_text, table_entry_text}
use Rattle.run_report.proofs.Splits.{split_once}
use Rattle.run_report.proofs.Words.{line_parts, word}
use Rattle.app_script.specs.Script.{ScriptText, app_at}
use Rattle.script_runs.specs.TableTrace.{first_handles, own_table_entries}
use Rattle.run_check.specs.Begun.{AreAllTablesOf, AreBegunTables, AreWholeTables}
use Rattle.run_check.proofs.Entries.{all_at}
use Rattle.run_check.proofs.TableTraces.{table_trace_last, table_trace_next}

-- Parts of lists. --

pub own_at : (app : ℕ) (p : List Entry) (e : Entry) (r : List Entry) → e.app ≡ app →
    own_table_entries app (p ++ e ∷ r) ≡ own_table_entries app p ++ e ∷ own_table_entries app r
own_at app p e r mine =
    filter-append (λ x. x.app == app) p (e ∷ r)
    ∙ ap (λ (b : Bool). own_table_entries app p ++ (if b then e ∷ own_table_entries app r else own_table_entries app r)) (same e.app app mine)
  where
    same : (m n : ℕ) → m ≡ n → (m == n) ≡ true
    same m n equal = grind (arith, nat_tests)

-- an application's entries, with one of them in the midst
trace_at : (script : ScriptText) (app : ℕ) (p : List Entry) (e : Entry) (r rest : List Entry) → e.app ≡ app →
    AreAllTablesOf script app (own_table_entries app (p ++ e ∷ r) ++ rest) → AreAllTablesOf script app (own_table_entries app p ++ e ∷ (own_table_entries app r ++ rest))
trace_at script app p e r rest mine all =
    let P : List Entry → Type 0 = AreAllTablesOf script app in
    subst P (ap (λ l. l ++ rest) (own_at app p e r mine) ∙ append_assoc (own_table_entries app p) (e ∷ own_table_entries app r) rest) all

-- Answers. --

legal_answer : (limits : Limits) (s : State) (p : List Entry) (e : Entry) (r : List Entry) → LegalFrom limits s (p ++ e ∷ r) →
    e.answer ≡ (step limits (state_from limits s p) e.app e.call).0
legal_answer limits s [] e r legal = legal.1
legal_answer limits s (x ∷ p) e r legal = legal_answer limits ((step limits s x.app x.call).1) p e r legal.2

-- One next entry. --

entry : ℕ → Call → TblAnswer → Entry
entry app call answer = record { app = app; call = call; answer = answer }

same_entry : (e f : Entry) → e.app ≡ f.app → e.call ≡ f.call → e.answer ≡ f.answer → e ≡ f
unfolding entry
same_entry e f app call answer =
    let one : e ≡ entry f.app e.call e.answer = ap (λ a. entry a e.call e.answer) app in
    let two : entry f.app e.call e.answer ≡ entry f.app f.call e.answer = ap (λ c. entry f.app c e.answer) call in
    let three : entry f.app f.call e.answer ≡ f = ap (λ a. entry f.app f.call a) answer in
    one ∙ two ∙ three

-- an application has its number in the script's range
pub table_app_range : (script : ScriptText) (p : List Entry) (e : Entry) (r : List Entry) → AreBegunTables script (p ++ e ∷ r) → (1 ≤ e.app) × (e.app ≤ length script.apps)
table_app_range script p e r begun = all_at (λ (x : Entry). (1 ≤ x.app) × (x.app ≤ length script.apps)) p e r begun.nobody_else

pub table_entries_one : (script : ScriptText) (p : List Entry) (e f : Entry) (r s : List Entry) →
    AreBegunTables script (p ++ e ∷ r) → AreBegunTables script (p ++ f ∷ s) → e.app ≡ f.app → e ≡ f
table_entries_one script p e f r s one other mine = same_entry e f mine call answer
  where
    state : State
    state = state_after script.limits (length script.apps) p

    range : (1 ≤ e.app) × (e.app ≤ length script.apps)
    range = table_app_range script p e r one

    call : e.call ≡ f.call
    call =
        let first = one.each e.app range.0 range.1 in
        let second = other.each e.app range.0 range.1 in
        table_trace_next first_handles (app_at script e.app).lines (own_table_entries e.app p) e f (own_table_entries e.app r ++ first.0) (own_table_entries e.app s ++ second.0)
        (trace_at script e.app p e r first.0 refl first.1) (trace_at script e.app p f s second.0 (sym mine) second.1)

    answer : e.answer ≡ f.answer
    answer =
        legal_answer script.limits (opening script.limits (length script.apps)) p e r one.legal
        ∙ ap (λ a. (step script.limits state a e.call).0) mine
        ∙ ap (λ c. (step script.limits state f.app c).0) call
        ∙ sym (legal_answer script.limits (opening script.limits (length script.apps)) p f s other.legal)

-- None behind a whole history. --

pub no_table_behind : (script : ScriptText) (p : List Entry) (e : Entry) (r : List Entry) → AreWholeTables script p → AreBegunTables script (p ++ e ∷ r) → ⊥
no_table_behind script p e r whole begun =
    let range = table_app_range script p e r begun in
    let more = begun.each e.app range.0 range.1 in
    table_trace_last first_handles (app_at script e.app).lines (own_table_entries e.app p) e (own_table_entries e.app r ++ more.0)
    (whole e.app range.0 range.1) (trace_at script e.app p e r more.0 refl more.1)

-- Lines. --

parts_of : (n : ℕ) (e : Entry) (x : List ℕ) →
    table_entry_text n e ++ x ≡ decimal n ++ 32 ∷ 97 ∷ (decimal e.app ++ 32 ∷ (table_call_text e.call ++ 32 ∷ 45 ∷ 62 ∷ 32 ∷ (table_answer_text e.answer ++ 10 ∷ x)))
parts_of n e x = line_parts (decimal n) (decimal e.app) (table_call_text e.call) (table_answer_text e.answer) x

-- two lines of one number that read the same are of one application
pub table_line_app : (n : ℕ) (e f : Entry) (x y : List ℕ) → e.app < 2 ^ 32 → f.app < 2 ^ 32 → table_entry_text n e ++ x ≡ table_entry_text n f ++ y → e.app ≡ f.app
table_line_app n e f x y one other same =
    let text = sym (parts_of n e x) ∙ same ∙ parts_of n f y in
    let behind = append_cancel_left (decimal n) _ _ text in
    let apps = split_once 33 32 (decimal e.app) (decimal f.app) (table_call_text e.call ++ 32 ∷ 45 ∷ 62 ∷ 32 ∷ (table_answer_text e.answer ++ 10 ∷ x)) (table_call_text f.call ++ 32 ∷ 45 ∷ 62 ∷ 32 ∷ (table_answer_text f.answer ++ 10 ∷ y))
    (omega arith) (word e.app) (word f.app) (cc behind) in
    decimal_injective e.app f.app (omega (arith, one)) (omega (arith, other)) apps.0

-- Histories whose lines are the front of another's. --

-- an entry's line has some byte
pub tables_follow-some : (n : ℕ) (e : Entry) (x : List ℕ) → table_entry_text n e ++ x ≡ [] → ⊥
tables_follow-some n e x none = some (decimal n) _ (sym (parts_of n e x) ∙ none)
  where
    some : (d z : List ℕ) → d ++ 32 ∷ z ≡ [] → ⊥
    some [] z same = cc same
    some (b ∷ d) z same = cc same

-- What is behind the lines of a history that is under way, if another's begin with them: the other's further lines. Behind its
-- lines the other has a text, which is none if entries are missing.
pub tables_follow : (script : ScriptText) → length script.apps ≤ 16 → (p y x : List Entry) (n : ℕ) (u v : List ℕ) →
    AreBegunTables script (p ++ y) → AreBegunTables script (p ++ x) → (v ≡ []) ⊎ AreWholeTables script (p ++ x) →
    numbered table_entry_text n x ++ v ≡ numbered table_entry_text n y ++ u → (z : List Entry) × (x ≡ y ++ z) × (u ≡ numbered table_entry_text (n + length y) z ++ v)
tables_follow script few p [] x n u v one other ends same =
    (x, refl, sym same ∙ ap (λ m. numbered table_entry_text m x ++ v) (omega arith))
tables_follow script few p (f ∷ y) [] n u v one other (inl none) same =
    absurd (tables_follow-some n f (numbered table_entry_text (n + 1) y ++ u) (sym (append_assoc (table_entry_text n f) (numbered table_entry_text (n + 1) y) u) ∙ sym same ∙ none))
tables_follow script few p (f ∷ y) [] n u v one other (inr whole) same =
    let P : List Entry → Type 0 = AreWholeTables script in absurd (no_table_behind script p f y (subst P (append-nil p) whole) one)
tables_follow script few p (f ∷ y) (e ∷ x) n u v one other ends same =
    let B : List Entry → Type 0 = AreBegunTables script in
    let E : List Entry → Type 0 = λ l. (v ≡ []) ⊎ AreWholeTables script l in
    let behind = tables_follow script few (p ++ f ∷ []) y x (n + 1) u v (subst B (sym (append_assoc p (f ∷ []) y)) one) (subst B grouped other) (subst E grouped ends) rest in (
      behind.0,
      ap (λ g. g ∷ x) first ∙ ap (λ l. f ∷ l) behind.1,
      behind.2 ∙ ap (λ m. numbered table_entry_text m behind.0 ++ v) (omega arith),
    )
  where
    text : table_entry_text n e ++ (numbered table_entry_text (n + 1) x ++ v) ≡ table_entry_text n f ++ (numbered table_entry_text (n + 1) y ++ u)
    text = sym (append_assoc (table_entry_text n e) (numbered table_entry_text (n + 1) x) v) ∙ same ∙ append_assoc (table_entry_text n f) (numbered table_entry_text (n + 1) y) u

    first : e ≡ f
    first =
        let a = table_app_range script p e x other in
        let b = table_app_range script p f y one in
        table_entries_one script p e f x y other one
        (table_line_app n e f (numbered table_entry_text (n + 1) x ++ v) (numbered table_entry_text (n + 1) y ++ u) (omega (arith, a.1, few)) (omega (arith, b.1, few)) text)

    rest : numbered table_entry_text (n + 1) x ++ v ≡ numbered table_entry_text (n + 1) y ++ u
    rest = append_cancel_left (table_entry_text n e) _ _ (text ∙ ap (λ g. table_entry_text n g ++ (numbered table_entry_text (n + 1) y ++ u)) (sym first))

    grouped : p ++ e ∷ x ≡ (p ++ f ∷ []) ++ x
    grouped = ap (λ g. p ++ g ∷ x) first ∙ sym (append_assoc p (f ∷ []) x)
