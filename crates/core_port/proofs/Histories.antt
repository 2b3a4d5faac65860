-- The history that the lock knows, and a core's entries with their notes.
use Rattle.std.proofs.Common.{◌≡◌, ◌≢◌, ℕ, ◌≤◌, Bool, true, false, cond, true≢false, eqb, List, [], ◌∷◌, ◌++◌, length, filter, All, Some, refl, ap, ap₂, sym, ◌∙◌, arith, subst, length-append}
use Rattle.std.proofs.lemmas.Bool.Decides.{nat_tests}
use Rattle.std.proofs.lemmas.List.{map-append, length-map}
use Rattle.std.proofs.lemmas.List.Elements.{All-nil, All-cons, All-head, All-tail, filter-append}
use Rattle.lend_block.specs.declared.note.Note.{Note}
use Rattle.turn_lock.specs.Views.{entries_of}
use Rattle.core_port.specs.Words.{Fixed, Words, Laws}
use Rattle.core_port.specs.Histories.{with_notes, history_of, entry_in, note_in, entries_in, notes_in, core_with, own_entries}
use Rattle.core_port.specs.Inside.{AreCalled}
use Rattle.core_port.specs.declared.history.NotedCall.{NotedCall}

itself : (m n : ℕ) → m ≡ n → eqb m n ≡ true
itself m n same = grind (arith, nat_tests, same)

-- entries among which none is the application's are of others
pub none_of_them : (N : Type 0) (caller : N → ℕ) (app : ℕ) (es : List N) → filter (λ e. eqb (caller e) app) es ≡ [] → All (λ e. caller e ≢ app) es
none_of_them N caller app [] none = All-nil (λ e. caller e ≢ app)
none_of_them N caller app (e ∷ es) none = by (eqb (caller e) app) refl none (none_of_them N caller app es)
  where
    by : (b : Bool) → eqb (caller e) app ≡ b → cond {A = List N} b (e ∷ filter (λ x. eqb (caller x) app) es) (filter (λ x. eqb (caller x) app) es) ≡ [] →
        (filter (λ x. eqb (caller x) app) es ≡ [] → All (λ x. caller x ≢ app) es) → All (λ x. caller x ≢ app) (e ∷ es)
    by true is none rest = absurd (cc (none))
    by false is none rest = All-cons (λ x. caller x ≢ app) e es (λ same. true≢false (sym (itself (caller e) app same) ∙ is)) (rest none)

-- what stands behind all of one's entries has none of them
pub nothing_more : {T : Type 0} (xs ys : List T) → xs ++ ys ≡ xs → ys ≡ []
nothing_more xs [] is = refl
nothing_more {T} xs (y ∷ ys) is = absurd (omega (arith, ap (λ (l : List T). length l) is, length-append xs (y ∷ ys)))

-- Pairs. --

module _ {E : Type 0} where
  pub pairs-append : (app : ℕ) (xs ys : List (ℕ × E)) → entries_of app (xs ++ ys) ≡ entries_of app xs ++ entries_of app ys
  pairs-append app xs ys = filter-append (λ (p : ℕ × E). eqb p.0 app) xs ys

  -- one more entry of the application's
  pub pairs-push : (app : ℕ) (xs : List (ℕ × E)) (event : E) → entries_of app (xs ++ (app, event) ∷ []) ≡ entries_of app xs ++ (app, event) ∷ []
  pairs-push app xs event =
      pairs-append app xs ((app, event) ∷ [])
      ∙ ap (λ l. entries_of app xs ++ l) (ap (λ b. cond {A = List (ℕ × E)} b ((app, event) ∷ []) []) (itself app app refl))

module _ {S N C A L : Type 0} (w : Words S N C A L) (l : Laws w) where
  abbrev it : N → Note → ℕ × NotedCall C A
  it e n = (w.caller e, record { call = w.call e; answer = w.answer e; note = n })

  pub entries_in-with_notes : (es : List N) (ns : List Note) → length ns ≡ length es → entries_in w (with_notes w es ns) ≡ es
  entries_in-with_notes [] ns even = refl
  entries_in-with_notes (e ∷ es) [] even = absurd (omega (arith, even))
  entries_in-with_notes (e ∷ es) (n ∷ ns) even = ap₂ (λ (x : N) (xs : List N). x ∷ xs) (l.entry_is e) (entries_in-with_notes es ns (omega (arith, even)))

  pub notes_in-with_notes : (es : List N) (ns : List Note) → length ns ≡ length es → notes_in w (with_notes w es ns) ≡ ns
  notes_in-with_notes [] [] even = refl
  notes_in-with_notes [] (n ∷ ns) even = absurd (omega (arith, even))
  notes_in-with_notes (e ∷ es) [] even = absurd (omega (arith, even))
  notes_in-with_notes (e ∷ es) (n ∷ ns) even = ap (λ xs. n ∷ xs) (notes_in-with_notes es ns (omega (arith, even)))

  -- one more entry with its note is one more pair
  pub with_notes-push : (es : List N) (e : N) (ns : List Note) (n : Note) → length ns ≡ length es →
      with_notes w (es ++ e ∷ []) (ns ++ n ∷ []) ≡ with_notes w es ns ++ it e n ∷ []
  with_notes-push [] e [] n even = refl
  with_notes-push [] e (m ∷ ns) n even = absurd (omega (arith, even))
  with_notes-push (x ∷ es) e [] n even = absurd (omega (arith, even))
  with_notes-push (x ∷ es) e (m ∷ ns) n even = ap (λ xs. it x m ∷ xs) (with_notes-push es e ns n (omega (arith, even)))

  -- an application's own pairs are its own entries
  pub own-entries_in : (app : ℕ) (pairs : List (ℕ × NotedCall C A)) → own_entries w app (entries_in w pairs) ≡ entries_in w (entries_of app pairs)
  own-entries_in app [] = refl
  own-entries_in app (p ∷ pairs) =
      ap (λ n. cond {A = List N} (eqb n app) (entry_in w p ∷ own_entries w app (entries_in w pairs)) (own_entries w app (entries_in w pairs))) (l.its_caller p.0 p.1.call p.1.answer)
      ∙ by (own_entries w app (entries_in w pairs)) (entries_of app pairs) (eqb p.0 app) (own-entries_in app pairs)
    where
      by : (own : List N) (rest : List (ℕ × NotedCall C A)) (b : Bool) → own ≡ entries_in w rest → cond b (entry_in w p ∷ own) own ≡ entries_in w (cond b (p ∷ rest) rest)
      by own rest true is = ap (λ xs. entry_in w p ∷ xs) is
      by own rest false is = is

  pub entries_in-append : (xs ys : List (ℕ × NotedCall C A)) → entries_in w (xs ++ ys) ≡ entries_in w xs ++ entries_in w ys
  entries_in-append xs ys = map-append (entry_in w) xs ys

  pub notes_in-append : (xs ys : List (ℕ × NotedCall C A)) → notes_in w (xs ++ ys) ≡ notes_in w xs ++ notes_in w ys
  notes_in-append xs ys = map-append (note_in w) xs ys

  -- each entry of a history has one note
  pub even_in : (pairs : List (ℕ × NotedCall C A)) → length (notes_in w pairs) ≡ length (entries_in w pairs)
  even_in pairs = length-map pairs (note_in w) ∙ sym (length-map pairs (entry_in w))

  -- entries among which none is the application's are of others
  pub by_others : (app : ℕ) (pairs : List (ℕ × NotedCall C A)) → entries_of app pairs ≡ [] → All (λ e. w.caller e ≢ app) (entries_in w pairs)
  by_others app pairs none = none_of_them N w.caller app (entries_in w pairs) (own-entries_in app pairs ∙ ap (entries_in w) none)

  -- entries are of applications as the pairs are
  pub called_in : (pairs : List (ℕ × NotedCall C A)) → AreCalled pairs → All (λ e. 1 ≤ w.caller e) (entries_in w pairs)
  called_in [] all = All-nil (λ e. 1 ≤ w.caller e)
  called_in (p ∷ pairs) all =
      All-cons (λ e. 1 ≤ w.caller e) (entry_in w p) (entries_in w pairs)
      (subst (λ n. 1 ≤ n) (sym (l.its_caller p.0 p.1.call p.1.answer)) (All-head (λ (x : ℕ × NotedCall C A). 1 ≤ x.0) p pairs all))
      (called_in pairs (All-tail (λ (x : ℕ × NotedCall C A). 1 ≤ x.0) p pairs all))

  called_with : (es : List N) (ns : List Note) → All (λ e. 1 ≤ w.caller e) es → AreCalled (with_notes w es ns)
  called_with [] ns all = All-nil (λ (x : ℕ × NotedCall C A). 1 ≤ x.0)
  called_with (e ∷ es) [] all = All-nil (λ (x : ℕ × NotedCall C A). 1 ≤ x.0)
  called_with (e ∷ es) (n ∷ ns) all =
      All-cons (λ (x : ℕ × NotedCall C A). 1 ≤ x.0) (it e n) (with_notes w es ns)
      (All-head (λ (x : N). 1 ≤ w.caller x) e es all) (called_with es ns (All-tail (λ (x : N). 1 ≤ w.caller x) e es all))

  pub called_history : (s : S) → w.sound s → AreCalled (history_of w s)
  called_history s sound = called_with (w.entries s) (w.notes s) (l.called s sound)

  -- The core again. --

  pub entries_again : (s : S) → w.sound s → entries_in w (history_of w s) ≡ w.entries s
  entries_again s sound = entries_in-with_notes (w.entries s) (w.notes s) (l.even s sound)

  pub notes_again : (s : S) → w.sound s → notes_in w (history_of w s) ≡ w.notes s
  notes_again s sound = notes_in-with_notes (w.entries s) (w.notes s) (l.even s sound)

  pub core_again : (s : S) → w.sound s → core_with w (Some (w.fixed s)) (history_of w s) ≡ s
  core_again s sound = ap₂ (λ (es : List N) (ns : List Note). w.core (w.fixed s) es ns) (entries_again s sound) (notes_again s sound) ∙ l.core_is s

  -- the entries of a core made of a history
  pub entries_seen : (f : Fixed) (pairs : List (ℕ × NotedCall C A)) → w.entries (core_with w (Some f) pairs) ≡ entries_in w pairs
  entries_seen f pairs = l.its_entries f (entries_in w pairs) (notes_in w pairs)
