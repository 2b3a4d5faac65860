-- What is noted of a handle once one more entry has its note, and notes that are due.
use Rattle.std.proofs.Common.{◌≡◌, ℕ, zero, suc, true, false, cond, List, [], ◌∷◌, ◌++◌, length, Some, refl, ap, ◌∙◌, subst, arith}
use Rattle.std.specs.List.{slice_get}
use Rattle.std.specs.Option.{option_map_or}
use Rattle.lend_block.specs.declared.note.Note.{Note}
use Rattle.tbl_words.specs.declared.history.Entry.{Entry}
use Rattle.tbl_load.specs.Notes.{IsDue, AreDue, gives_for, loan_in, noted, noted_from}

noted_from-push : (n loan : ℕ) (es : List Entry) (e : Entry) (notes : List Note) (note : Note) → length notes ≡ length es →
    noted_from n loan (es ++ e ∷ []) (notes ++ note ∷ []) ≡ cond {A = ℕ} (gives_for n e.call e.answer) (loan_in note) (noted_from n loan es notes)
noted_from-push n loan [] e [] note even = refl
noted_from-push n loan [] e (m ∷ notes) note even = absurd (omega (arith, even))
noted_from-push n loan (x ∷ es) e [] note even = absurd (omega (arith, even))
noted_from-push n loan (x ∷ es) e (m ∷ notes) note even = noted_from-push n (cond {A = ℕ} (gives_for n x.call x.answer) (loan_in m) loan) es e notes note (omega (arith, even))

-- the entry gives the handle no address
pub noted-other : (n : ℕ) (es : List Entry) (e : Entry) (notes : List Note) (note : Note) → length notes ≡ length es → gives_for n e.call e.answer ≡ false →
    noted n (es ++ e ∷ []) (notes ++ note ∷ []) ≡ noted n es notes
noted-other n es e notes note even none = noted_from-push n 0 es e notes note even ∙ ap (λ b. cond {A = ℕ} b (loan_in note) (noted n es notes)) none

-- or it gives it one
pub noted-given : (n : ℕ) (es : List Entry) (e : Entry) (notes : List Note) (note : Note) → length notes ≡ length es → gives_for n e.call e.answer ≡ true →
    noted n (es ++ e ∷ []) (notes ++ note ∷ []) ≡ loan_in note
noted-given n es e notes note even gives = noted_from-push n 0 es e notes note even ∙ ap (λ b. cond {A = ℕ} b (loan_in note) (noted n es notes)) gives

-- Notes that are due. --

-- there are as many as entries
pub even-due : (es : List Entry) (notes : List Note) → AreDue es notes → length notes ≡ length es
even-due [] [] due = refl
even-due [] (n ∷ notes) due = absurd due
even-due (e ∷ es) [] due = absurd due
even-due (e ∷ es) (n ∷ notes) due = omega (arith, even-due es notes due.1)

-- those of the entries that come behind, behind those of the first
pub due-append : (es more : List Entry) (notes others : List Note) → AreDue es notes → AreDue more others → AreDue (es ++ more) (notes ++ others)
due-append [] more [] others due rest = rest
due-append [] more (n ∷ notes) others due rest = absurd due
due-append (e ∷ es) more [] others due rest = absurd due
due-append (e ∷ es) more (n ∷ notes) others due rest = (due.0, due-append es more notes others due.1 rest)

-- one more entry with its note
pub due-push : (es : List Entry) (e : Entry) (notes : List Note) (note : Note) → AreDue es notes → IsDue e.answer note → AreDue (es ++ e ∷ []) (notes ++ note ∷ [])
due-push es e notes note due its = due-append es (e ∷ []) notes (note ∷ []) due (its, tt)

-- without the last entry and its note
pub due-front : (es : List Entry) (e : Entry) (notes : List Note) (note : Note) → AreDue (es ++ e ∷ []) (notes ++ note ∷ []) → AreDue es notes
due-front [] e [] note due = tt
due-front [] e (n ∷ []) note due = absurd due.1
due-front [] e (n ∷ m ∷ notes) note due = absurd due.1
due-front (x ∷ []) e [] note due = absurd due.1
due-front (x ∷ y ∷ es) e [] note due = absurd due.1
due-front (x ∷ es) e (n ∷ notes) note due = (due.0, due-front es e notes note due.1)

-- each entry's own
pub due_at : (es : List Entry) (notes : List Note) (i : ℕ) (e : Entry) (note : Note) → AreDue es notes → slice_get es i ≡ Some e → slice_get notes i ≡ Some note → IsDue e.answer note
due_at [] [] i e note due never also = absurd (cc (never))
due_at [] (n ∷ notes) i e note due is also = absurd due
due_at (x ∷ es) [] i e note due is also = absurd due
due_at (x ∷ es) (n ∷ notes) zero e note due is also =
    subst (λ (k : Note). IsDue e.answer k) (ap (λ o. option_map_or (λ (k : Note). k) o n) also)
    (subst (λ (k : Entry). IsDue k.answer n) (ap (λ o. option_map_or (λ (k : Entry). k) o x) is) due.0)
due_at (x ∷ es) (n ∷ notes) (suc i) e note due is also = due_at es notes i e note due.1 is also
