-- What is noted of a pipe, and of a buffer, once one more entry has its note.
use Rattle.std.proofs.Common.{◌≡◌, ℕ, true, false, true≢false, cond, List, [], ◌∷◌, ◌++◌, length, refl, ap, sym, ◌∙◌, arith}
use Rattle.lend_block.specs.declared.note.Note.{Note}
use Rattle.bus_words.specs.declared.calls.BusAnswer.{BusAnswer}
use Rattle.bus_words.specs.declared.calls.BusAnswer.TheVariants.{Number}
use Rattle.bus_words.specs.declared.history.Call.{Call}
use Rattle.bus_words.specs.declared.history.Call.TheVariants.{Allocate}
use Rattle.bus_words.specs.declared.history.Entry.{Entry}
use Rattle.bus_words.specs.Alone.{gets_from}
use Rattle.sb_calls.specs.Notes.{AreDue, note_due, loan_in, noted, noted_from, gives_buffer, desc_in, noted_desc, noted_desc_from}

noted_from-push : (p loan : ℕ) (es : List Entry) (e : Entry) (notes : List Note) (note : Note) → length notes ≡ length es →
    noted_from p loan (es ++ e ∷ []) (notes ++ note ∷ []) ≡ cond {A = ℕ} (gets_from p e) (loan_in note) (noted_from p loan es notes)
noted_from-push p loan [] e [] note even = refl
noted_from-push p loan [] e (n ∷ notes) note even = absurd (omega (arith, even))
noted_from-push p loan (x ∷ es) e [] note even = absurd (omega (arith, even))
noted_from-push p loan (x ∷ es) e (n ∷ notes) note even = noted_from-push p (cond {A = ℕ} (gets_from p x) (loan_in n) loan) es e notes note (omega (arith, even))

-- the entry gives no message from the pipe
pub noted-other : (p : ℕ) (es : List Entry) (e : Entry) (notes : List Note) (note : Note) → length notes ≡ length es → gets_from p e ≡ false →
    noted p (es ++ e ∷ []) (notes ++ note ∷ []) ≡ noted p es notes
noted-other p es e notes note even none = noted_from-push p 0 es e notes note even ∙ ap (λ b. cond {A = ℕ} b (loan_in note) (noted p es notes)) none

-- or it gives one
pub noted-given : (p : ℕ) (es : List Entry) (e : Entry) (notes : List Note) (note : Note) → length notes ≡ length es → gets_from p e ≡ true →
    noted p (es ++ e ∷ []) (notes ++ note ∷ []) ≡ loan_in note
noted-given p es e notes note even gives = noted_from-push p 0 es e notes note even ∙ ap (λ b. cond {A = ℕ} b (loan_in note) (noted p es notes)) gives

-- Descriptors. --

noted_desc_from-push : (number desc : ℕ) (es : List Entry) (e : Entry) (notes : List Note) (note : Note) → length notes ≡ length es →
    noted_desc_from number desc (es ++ e ∷ []) (notes ++ note ∷ []) ≡ cond {A = ℕ} (gives_buffer number e) (desc_in note) (noted_desc_from number desc es notes)
noted_desc_from-push number desc [] e [] note even = refl
noted_desc_from-push number desc [] e (n ∷ notes) note even = absurd (omega (arith, even))
noted_desc_from-push number desc (x ∷ es) e [] note even = absurd (omega (arith, even))
noted_desc_from-push number desc (x ∷ es) e (n ∷ notes) note even =
    noted_desc_from-push number (cond {A = ℕ} (gives_buffer number x) (desc_in n) desc) es e notes note (omega (arith, even))

-- the entry gives another buffer, or none
pub noted_desc-other : (number : ℕ) (es : List Entry) (e : Entry) (notes : List Note) (note : Note) → length notes ≡ length es → gives_buffer number e ≡ false →
    noted_desc number (es ++ e ∷ []) (notes ++ note ∷ []) ≡ noted_desc number es notes
noted_desc-other number es e notes note even none =
    noted_desc_from-push number 0 es e notes note even ∙ ap (λ b. cond {A = ℕ} b (desc_in note) (noted_desc number es notes)) none

-- or it gives this one
pub noted_desc-given : (number : ℕ) (es : List Entry) (e : Entry) (notes : List Note) (note : Note) → length notes ≡ length es → gives_buffer number e ≡ true →
    noted_desc number (es ++ e ∷ []) (notes ++ note ∷ []) ≡ desc_in note
noted_desc-given number es e notes note even gives =
    noted_desc_from-push number 0 es e notes note even ∙ ap (λ b. cond {A = ℕ} b (desc_in note) (noted_desc number es notes)) gives

-- what is noted of an entry that gives a buffer names its descriptor
pub desc_in-due : (number app name : ℕ) (call : Call) (answer : BusAnswer) → gives_buffer number (record { app = app; call = call; answer = answer }) ≡ true →
    desc_in (note_due answer call name) ≡ name
desc_in-due number app name (Allocate size) (Number given) gives = refl
desc_in-due number app name (Allocate size) answer gives = absurd (true≢false (sym gives))
desc_in-due number app name call answer gives = absurd (true≢false (sym gives))

-- Notes that are due. --

-- there are as many as entries
pub even-due : (es : List Entry) (notes : List Note) → AreDue es notes → length notes ≡ length es
even-due [] [] due = refl
even-due [] (n ∷ notes) due = absurd due
even-due (e ∷ es) [] due = absurd due
even-due (e ∷ es) (n ∷ notes) due = omega (arith, even-due es notes due.1)

-- one more entry with its note
pub due-push : (es : List Entry) (e : Entry) (notes : List Note) (name : ℕ) → AreDue es notes → AreDue (es ++ e ∷ []) (notes ++ note_due e.answer e.call name ∷ [])
due-push [] e [] name due = ((name, refl), tt)
due-push [] e (n ∷ notes) name due = absurd due
due-push (x ∷ es) e [] name due = absurd due
due-push (x ∷ es) e (n ∷ notes) name due = (due.0, due-push es e notes name due.1)

-- more entries with their notes
pub due-append : (es more : List Entry) (notes others : List Note) → AreDue es notes → AreDue more others → AreDue (es ++ more) (notes ++ others)
due-append [] more [] others due rest = rest
due-append [] more (n ∷ notes) others due rest = absurd due
due-append (e ∷ es) more [] others due rest = absurd due
due-append (e ∷ es) more (n ∷ notes) others due rest = (due.0, due-append es more notes others due.1 rest)

-- without the last entry and its note
pub due-front : (es : List Entry) (e : Entry) (notes : List Note) (note : Note) → AreDue (es ++ e ∷ []) (notes ++ note ∷ []) → AreDue es notes
due-front [] e [] note due = tt
due-front [] e (n ∷ []) note due = absurd due.1
due-front [] e (n ∷ m ∷ notes) note due = absurd due.1
due-front (x ∷ []) e [] note due = absurd due.1
due-front (x ∷ y ∷ es) e [] note due = absurd due.1
due-front (x ∷ es) e (n ∷ notes) note due = (due.0, due-front es e notes note due.1)
