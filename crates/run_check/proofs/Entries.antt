-- Histories of the bus that are under way: the number of an application says which entry comes next, and none comes behind a whole one.
use Rattle.std.proofs.Common.{◌≡◌, ℕ, ◌+◌, ◌<◌, ◌≤◌, ◌^◌, ◌==◌, Bool, true, if◌then◌else◌, ◌⊎◌, inl, inr, List, [], ◌∷◌, ◌++◌, length, All, refl, ap, sym, ◌∙◌, subst, arith, append_assoc, append-nil}
use Rattle.std.specs.Fmt.{decimal}
use Rattle.std.proofs.lemmas.Bool.Decides.{nat_tests}
use Rattle.std.proofs.lemmas.Fmt.{decimal_injective}
use Rattle.std.proofs.lemmas.List.{append_cancel_left}
use Rattle.std.proofs.lemmas.List.Elements.{All-head, All-tail, filter-append}
use Rattle.fsw_base.specs.Limits.{Limits}
use Rattle.bus_words.specs.declared.calls.BusAnswer.{BusAnswer}
use Rattle.bus_words.specs.declared.history.Call.{Call}
use Rattle.bus_words.specs.declared.history.Entry.{Entry}
use Rattle.bus_words.specs.Bus.{State, opening}
use Rattle.bus_words.specs.Machine.{LegalFrom, state_after, state_from, step}
use Rattle.text_page.specs.Texts.{numbered}
use Rattle.run_report.specs.BusText.{answer_text, call_text, entry_text}
use Rattle.run_report.proofs.Splits.{split_once}
use Rattle.run_report.proofs.Words.{line_parts, word}
use Rattle.app_script.specs.Script.{ScriptText, app_at}
use Rattle.script_runs.specs.Trace.{first_registers, own_entries}
use Rattle.script_runs.specs.Written.{first_written}
use Rattle.run_check.specs.Begun.{AreAllOf, IsBegun, IsWhole}
use Rattle.run_check.proofs.Traces.{trace_last, trace_next}

-- Parts of lists. --

pub all_at : {E : Type 0} (P : E → Type 0) (p : List E) (e : E) (r : List E) → All P (p ++ e ∷ r) → P e
all_at P [] e r all = All-head P e r all
all_at P (x ∷ p) e r all = all_at P p e r (All-tail P x (p ++ e ∷ r) all)

pub own_at : (app : ℕ) (p : List Entry) (e : Entry) (r : List Entry) → e.app ≡ app →
    own_entries app (p ++ e ∷ r) ≡ own_entries app p ++ e ∷ own_entries app r
own_at app p e r mine =
    filter-append (λ x. x.app == app) p (e ∷ r)
    ∙ ap (λ (b : Bool). own_entries app p ++ (if b then e ∷ own_entries app r else own_entries app r)) (same e.app app mine)
  where
    same : (m n : ℕ) → m ≡ n → (m == n) ≡ true
    same m n equal = grind (arith, nat_tests)

-- an application's entries, with one of them in the midst
trace_at : (script : ScriptText) (app : ℕ) (p : List Entry) (e : Entry) (r rest : List Entry) → e.app ≡ app →
    AreAllOf script app (own_entries app (p ++ e ∷ r) ++ rest) → AreAllOf script app (own_entries app p ++ e ∷ (own_entries app r ++ rest))
trace_at script app p e r rest mine all =
    let P : List Entry → Type 0 = AreAllOf script app in
    subst P (ap (λ l. l ++ rest) (own_at app p e r mine) ∙ append_assoc (own_entries app p) (e ∷ own_entries app r) rest) all

-- Answers. --

legal_answer : (limits : Limits) (history : List Entry) (s : State) (p : List Entry) (e : Entry) (r : List Entry) → LegalFrom limits history s (p ++ e ∷ r) →
    e.answer ≡ (step limits (history ++ p) (state_from limits history s p) e.app e.call).0
legal_answer limits history s [] e r legal = legal.1 ∙ ap (λ h. (step limits h s e.app e.call).0) (sym (append-nil history))
legal_answer limits history s (x ∷ p) e r legal =
    let next = (step limits history s x.app x.call).1 in
    let now = history ++ x ∷ [] in
    legal_answer limits now next p e r legal.4
    ∙ ap (λ h. (step limits h (state_from limits now next p) e.app e.call).0) (append_assoc history (x ∷ []) p)

-- One next entry. --

entry : ℕ → Call → BusAnswer → Entry
entry app call answer = record { app = app; call = call; answer = answer }

same_entry : (e f : Entry) → e.app ≡ f.app → e.call ≡ f.call → e.answer ≡ f.answer → e ≡ f
unfolding entry
same_entry e f app call answer =
    let one : e ≡ entry f.app e.call e.answer = ap (λ a. entry a e.call e.answer) app in
    let two : entry f.app e.call e.answer ≡ entry f.app f.call e.answer = ap (λ c. entry f.app c e.answer) call in
    let three : entry f.app f.call e.answer ≡ f = ap (λ a. entry f.app f.call a) answer in
    one ∙ two ∙ three

-- an application has its number in the script's range
pub app_range : (script : ScriptText) (p : List Entry) (e : Entry) (r : List Entry) → IsBegun script (p ++ e ∷ r) → (1 ≤ e.app) × (e.app ≤ length script.apps)
app_range script p e r begun = all_at (λ (x : Entry). (1 ≤ x.app) × (x.app ≤ length script.apps)) p e r begun.nobody_else

pub entries_one : (script : ScriptText) (p : List Entry) (e f : Entry) (r s : List Entry) →
    IsBegun script (p ++ e ∷ r) → IsBegun script (p ++ f ∷ s) → e.app ≡ f.app → e ≡ f
entries_one script p e f r s one other mine = same_entry e f mine call answer
  where
    state : State
    state = state_after script.limits (length script.apps) p

    range : (1 ≤ e.app) × (e.app ≤ length script.apps)
    range = app_range script p e r one

    call : e.call ≡ f.call
    call =
        let first = one.each e.app range.0 range.1 in
        let second = other.each e.app range.0 range.1 in
        trace_next first_registers first_written (app_at script e.app).lines (own_entries e.app p) e f (own_entries e.app r ++ first.0) (own_entries e.app s ++ second.0)
        (trace_at script e.app p e r first.0 refl first.1) (trace_at script e.app p f s second.0 (sym mine) second.1)

    answer : e.answer ≡ f.answer
    answer =
        legal_answer script.limits [] (opening script.limits (length script.apps)) p e r one.legal
        ∙ ap (λ a. (step script.limits p state a e.call).0) mine
        ∙ ap (λ c. (step script.limits p state f.app c).0) call
        ∙ sym (legal_answer script.limits [] (opening script.limits (length script.apps)) p f s other.legal)

-- None behind a whole history. --

pub none_behind : (script : ScriptText) (p : List Entry) (e : Entry) (r : List Entry) → IsWhole script p → IsBegun script (p ++ e ∷ r) → ⊥
none_behind script p e r whole begun =
    let range = app_range script p e r begun in
    let more = begun.each e.app range.0 range.1 in
    trace_last first_registers first_written (app_at script e.app).lines (own_entries e.app p) e (own_entries e.app r ++ more.0)
    (whole e.app range.0 range.1) (trace_at script e.app p e r more.0 refl more.1)

-- Lines. --

parts_of : (n : ℕ) (e : Entry) (x : List ℕ) →
    entry_text n e ++ x ≡ decimal n ++ 32 ∷ 97 ∷ (decimal e.app ++ 32 ∷ (call_text e.call ++ 32 ∷ 45 ∷ 62 ∷ 32 ∷ (answer_text e.answer ++ 10 ∷ x)))
parts_of n e x = line_parts (decimal n) (decimal e.app) (call_text e.call) (answer_text e.answer) x

-- two lines of one number that read the same are of one application
pub line_app : (n : ℕ) (e f : Entry) (x y : List ℕ) → e.app < 2 ^ 32 → f.app < 2 ^ 32 → entry_text n e ++ x ≡ entry_text n f ++ y → e.app ≡ f.app
line_app n e f x y one other same =
    let text = sym (parts_of n e x) ∙ same ∙ parts_of n f y in
    let behind = append_cancel_left (decimal n) _ _ text in
    let apps = split_once 33 32 (decimal e.app) (decimal f.app) (call_text e.call ++ 32 ∷ 45 ∷ 62 ∷ 32 ∷ (answer_text e.answer ++ 10 ∷ x)) (call_text f.call ++ 32 ∷ 45 ∷ 62 ∷ 32 ∷ (answer_text f.answer ++ 10 ∷ y))
    (omega arith) (word e.app) (word f.app) (cc behind) in
    decimal_injective e.app f.app (omega (arith, one)) (omega (arith, other)) apps.0

-- Histories whose lines are the front of another's. --

-- an entry's line has some byte
pub bus_follows-some : (n : ℕ) (e : Entry) (x : List ℕ) → entry_text n e ++ x ≡ [] → ⊥
bus_follows-some n e x none = some (decimal n) _ (sym (parts_of n e x) ∙ none)
  where
    some : (d z : List ℕ) → d ++ 32 ∷ z ≡ [] → ⊥
    some [] z same = cc same
    some (b ∷ d) z same = cc same

-- What is behind the lines of a history that is under way, if another's begin with them: the other's further lines. Behind its
-- lines the other has a text, which is none if entries are missing.
pub bus_follows : (script : ScriptText) → length script.apps ≤ 16 → (p y x : List Entry) (n : ℕ) (u v : List ℕ) →
    IsBegun script (p ++ y) → IsBegun script (p ++ x) → (v ≡ []) ⊎ IsWhole script (p ++ x) →
    numbered entry_text n x ++ v ≡ numbered entry_text n y ++ u → (z : List Entry) × (x ≡ y ++ z) × (u ≡ numbered entry_text (n + length y) z ++ v)
bus_follows script few p [] x n u v one other ends same =
    (x, refl, sym same ∙ ap (λ m. numbered entry_text m x ++ v) (omega arith))
bus_follows script few p (f ∷ y) [] n u v one other (inl none) same =
    absurd (bus_follows-some n f (numbered entry_text (n + 1) y ++ u) (sym (append_assoc (entry_text n f) (numbered entry_text (n + 1) y) u) ∙ sym same ∙ none))
bus_follows script few p (f ∷ y) [] n u v one other (inr whole) same =
    let P : List Entry → Type 0 = IsWhole script in absurd (none_behind script p f y (subst P (append-nil p) whole) one)
bus_follows script few p (f ∷ y) (e ∷ x) n u v one other ends same =
    let B : List Entry → Type 0 = IsBegun script in
    let E : List Entry → Type 0 = λ l. (v ≡ []) ⊎ IsWhole script l in
    let behind = bus_follows script few (p ++ f ∷ []) y x (n + 1) u v (subst B (sym (append_assoc p (f ∷ []) y)) one) (subst B grouped other) (subst E grouped ends) rest in (
      behind.0,
      ap (λ g. g ∷ x) first ∙ ap (λ l. f ∷ l) behind.1,
      behind.2 ∙ ap (λ m. numbered entry_text m behind.0 ++ v) (omega arith),
    )
  where
    text : entry_text n e ++ (numbered entry_text (n + 1) x ++ v) ≡ entry_text n f ++ (numbered entry_text (n + 1) y ++ u)
    text = sym (append_assoc (entry_text n e) (numbered entry_text (n + 1) x) v) ∙ same ∙ append_assoc (entry_text n f) (numbered entry_text (n + 1) y) u

    first : e ≡ f
    first =
        let a = app_range script p e x other in
        let b = app_range script p f y one in
        entries_one script p e f x y other one
        (line_app n e f (numbered entry_text (n + 1) x ++ v) (numbered entry_text (n + 1) y ++ u) (omega (arith, a.1, few)) (omega (arith, b.1, few)) text)

    rest : numbered entry_text (n + 1) x ++ v ≡ numbered entry_text (n + 1) y ++ u
    rest = append_cancel_left (entry_text n e) _ _ (text ∙ ap (λ g. entry_text n g ++ (numbered entry_text (n + 1) y ++ u)) (sym first))

    grouped : p ++ e ∷ x ≡ (p ++ f ∷ []) ++ x
    grouped = ap (λ g. p ++ g ∷ x) first ∙ sym (append_assoc p (f ∷ []) x)
