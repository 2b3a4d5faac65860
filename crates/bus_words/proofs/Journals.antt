-- What one more entry leaves of what applications may still add, and what another answer makes of the last entry.
use Rattle.std.proofs.Common.{◌≡◌, ℕ, ◌+◌, ◌≤◌, List, [], ◌∷◌, ◌++◌, length, map, slice_get, Option, Some, refl, ap, sym, ◌∙◌, arith}
use Rattle.std.specs.Option.{option_map, option_map_or}
use Rattle.std.proofs.lemmas.List.{map_push, length_push, same_from_push}
use Rattle.journal_store.specs.declared.allowance.Allowance.{Allowance}
use Rattle.journal_store.specs.Budgets.{charged, left_from}
use Rattle.journal_store.specs.Store.{Stored}
use Rattle.journal_store.specs.Store as store
use Rattle.journal_store.proofs.Charges as charges
use Rattle.bus_words.specs.declared.calls.BusAnswer.{BusAnswer}
use Rattle.bus_words.specs.declared.calls.BusCall.{BusCall}
use Rattle.bus_words.specs.declared.history.Call.{Call}
use Rattle.bus_words.specs.declared.history.Entry.{Entry}
use Rattle.bus_words.specs.declared.journal.Row.{Row}
use Rattle.bus_words.specs.Entries.{call_of, with_text, call_bytes}
use Rattle.bus_words.specs.Inside.{entry_in, entries_in, AreWhole}
use Rattle.bus_words.specs.Log.{Log, charge_of, left_of}

-- one more entry is one more charge
pub left_from-push : (left : List Allowance) (es : List Entry) (e : Entry) →
    left_from left (map charge_of (es ++ e ∷ [])) ≡ charged (left_from left (map charge_of es)) e.app (call_bytes e.call)
left_from-push left es e =
    ap (left_from left) (map_push charge_of es e) ∙ charges.left_from-push left (map charge_of es) (charge_of e)

-- there is something left for as many applications as have a budget
pub length-left_of : (log : Log) → length (left_of log) ≡ length log.budgets
length-left_of log = charges.length-left_of log.budgets (map charge_of log.entries)

-- The last entry's answer. --

-- a list with an item is a front and its last item
pub ends : {X : Type 0} (xs : List X) → 1 ≤ length xs → (front : List X) × (last : X) × (xs ≡ front ++ last ∷ [])
ends [] some = absurd (omega (arith, some))
ends (x ∷ []) some = ([], x, refl)
ends {X} (x ∷ y ∷ xs) some = let rest = ends (y ∷ xs) (omega arith) in (x ∷ rest.0, rest.1, ap (λ (l : List X). x ∷ l) rest.2)

get_last : {X : Type 0} (front : List X) (last : X) → slice_get (front ++ last ∷ []) (length front) ≡ Some last
get_last [] last = refl
get_last (x ∷ front) last = get_last front last

-- with these bytes it is the same call
abbrev pub AreAlike : BusCall → BusCall → Type 0
AreAlike again call = (text : List ℕ) → with_text text (call_of again) ≡ with_text text (call_of call)

-- what another answer makes of the rows: the last one has it, and its call as before
record Answered (rows now : List (Stored Row)) (again : BusCall) (answer : BusAnswer) : Type 0 where
  front : List (Stored Row)
  last : Stored Row
  before : rows ≡ front ++ last ∷ []
  after : now ≡ front ++ record last { row = record { call = again; answer = answer } } ∷ []
  same : AreAlike again last.row.call

answered : (rows now : List (Stored Row)) (i : ℕ) (row : Row) (again : BusCall) (answer : BusAnswer) → AreAlike again row.call → 1 ≤ length rows → i + 1 ≡ length rows →
    option_map (λ stored. stored.row) (slice_get rows i) ≡ Some row →
    ((front : List (Stored Row)) (last : Stored Row) → rows ≡ front ++ last ∷ [] → now ≡ front ++ record last { row = record { call = again; answer = answer } } ∷ []) →
    Answered rows now again answer
answered rows now i row again answer alike some at found replaced =
    let parts = ends rows some in
    let front = parts.0 in
    let last = parts.1 in
    let is : rows ≡ front ++ last ∷ [] = parts.2 in
    let long : length rows ≡ length front + 1 = ap length is ∙ length_push front last in
    let here : i ≡ length front = omega (arith, at, long) in
    let it : Some last.row ≡ Some row =
    sym (ap (option_map (λ (stored : Stored Row). stored.row)) (ap (λ (xs : List (Stored Row)). slice_get xs i) is ∙ ap (slice_get (front ++ last ∷ [])) here ∙ get_last front last)) ∙ found in
    let same : last.row ≡ row = ap (λ (o : Option Row). option_map_or (λ r. r) o row) it in
    record { front = front; last = last; before = is; after = replaced front last is; same = λ text. alike text ∙ ap (λ (r : Row). with_text text (call_of r.call)) (sym same) }

-- the rows take as much as before
pub AreWhole-answered : (rows now : List (Stored Row)) (i : ℕ) (row : Row) (again : BusCall) (answer : BusAnswer) → AreWhole rows → AreAlike again row.call → 1 ≤ length rows → i + 1 ≡ length rows →
    option_map (λ stored. stored.row) (slice_get rows i) ≡ Some row →
    ((front : List (Stored Row)) (last : Stored Row) → rows ≡ front ++ last ∷ [] → now ≡ front ++ record last { row = record { call = again; answer = answer } } ∷ []) →
    AreWhole now
AreWhole-answered rows now i row again answer whole alike some at found replaced =
    let is = answered rows now i row again answer alike some at found replaced in
    let new : Stored Row = record is.last { row = record { call = again; answer = answer } } in
    let same : charge_of (entry_in is.last) ≡ charge_of (entry_in new) = ap (λ (call : Call). charge_of (record { app = is.last.app; call = call; answer = answer })) (sym (is.same is.last.text)) in
    ap (map store.charge_of) is.after
    ∙ map_push store.charge_of is.front new
    ∙ sym (map_push store.charge_of is.front is.last)
    ∙ ap (map store.charge_of) (sym is.before)
    ∙ whole
    ∙ ap (λ rs. map charge_of (entries_in rs)) is.before
    ∙ ap (map charge_of) (map_push entry_in is.front is.last)
    ∙ map_push charge_of (entries_in is.front) (entry_in is.last)
    ∙ ap (λ charge. map charge_of (entries_in is.front) ++ charge ∷ []) same
    ∙ sym (map_push charge_of (entries_in is.front) (entry_in new))
    ∙ sym (ap (map charge_of) (map_push entry_in is.front new))
    ∙ ap (λ rs. map charge_of (entries_in rs)) (sym is.after)

-- the last entry has the answer, and its call as before
pub entries-answered : (rows now : List (Stored Row)) (i : ℕ) (row : Row) (again : BusCall) (answer : BusAnswer) (front : List Entry) (last : Entry) → AreAlike again row.call → 1 ≤ length rows → i + 1 ≡ length rows →
    option_map (λ stored. stored.row) (slice_get rows i) ≡ Some row →
    ((front : List (Stored Row)) (last : Stored Row) → rows ≡ front ++ last ∷ [] → now ≡ front ++ record last { row = record { call = again; answer = answer } } ∷ []) →
    entries_in rows ≡ front ++ last ∷ [] → entries_in now ≡ front ++ record last { answer = answer } ∷ []
entries-answered rows now i row again answer front last alike some at found replaced entries =
    let is = answered rows now i row again answer alike some at found replaced in
    let new : Stored Row = record is.last { row = record { call = again; answer = answer } } in
    let parts = same_from_push (entries_in is.front) front (entry_in is.last) last (sym (map_push entry_in is.front is.last) ∙ ap entries_in (sym is.before) ∙ entries) in
    ap entries_in is.after
    ∙ map_push entry_in is.front new
    ∙ ap (λ (call : Call). entries_in is.front ++ record { app = is.last.app; call = call; answer = answer } ∷ []) (is.same is.last.text)
    ∙ ap (λ es. es ++ record (entry_in is.last) { answer = answer } ∷ []) parts.0
    ∙ ap (λ (e : Entry). front ++ record e { answer = answer } ∷ []) parts.1
