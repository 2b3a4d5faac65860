-- An application's bag stays its bag whatever others call, by one entry or by many.
use Rattle.std.proofs.Common.{◌≡◌, ◌≢◌, ℕ, Bool, true, false, cond, true≢false, ne_eqb, eqb, eqb-true, List, [], ◌∷◌, ◌++◌, length, find, count_by, append-nil, append_assoc, Option, Some, None, is_some, IsTrue, refl, ap, sym, ◌∙◌, subst, arith}
use Rattle.std.specs.List.{All}
use Rattle.std.specs.Option.{option_map_or}
use Rattle.std.proofs.lemmas.List.{length_push}
use Rattle.std.proofs.lemmas.List.Elements.{All-append, All-cons, All-head, All-nil, All-tail}
use Rattle.lend_block.specs.declared.note.Note.{Note}
use Rattle.tbl_words.specs.declared.calls.TblAnswer.{TblAnswer}
use Rattle.tbl_words.specs.declared.history.Call.{Call}
use Rattle.tbl_words.specs.declared.history.Entry.{Entry}
use Rattle.tbl_words.specs.Tables.{Hold, State, opening}
use Rattle.tbl_words.specs.Machine.{LegalFrom, may_call, state_from, step}
use Rattle.tbl_words.proofs.Orders.{handles_rise}
use Rattle.tbl_words.proofs.Replay.{state_from-push}
use Rattle.table_blocks.specs.Held.{HeldViews}
use Rattle.table_core.specs.Core.{loan_of, view_due}
use Rattle.tbl_load.specs.Bags.{HasBag, KeepsOtherBags, CalledByOthers, lent_tables, loans_of}
use Rattle.tbl_load.specs.Core.{Core, Does, IsLegalCore, IsNoted, with_noted, apps_of, state_of}
use Rattle.tbl_load.specs.Notes.{gives_for, noted, note_due}
use Rattle.tbl_load.proofs.Dues.{due_of, due_alike, due_own, dues_own, told_each, viewed}
use Rattle.tbl_load.proofs.Notes.{due-append, due-front, even-due, noted-other}
use Rattle.tbl_load.proofs.OwnHandles.{Rise, owned, step_alone, gives_alone}

-- Legal histories. --

-- a legal history's last entry, and what is before it
pub legal-last : (core : Core) (e : Entry) (note : Note) → IsLegalCore (with_noted core e note) →
    IsLegalCore core × IsTrue (may_call (state_of core) e.app) × (e.answer ≡ (step core.limits (state_of core) e.app e.call).0)
legal-last core e note legal = from (opening core.limits (apps_of core)) core.log.entries legal
  where
    from : (s : State) (es : List Entry) → LegalFrom core.limits s (es ++ e ∷ []) →
        LegalFrom core.limits s es × IsTrue (may_call (state_from core.limits s es) e.app) × (e.answer ≡ (step core.limits (state_from core.limits s es) e.app e.call).0)
    from s [] legal = (tt, legal.0, legal.1)
    from s (x ∷ es) legal =
        let rest = from ((step core.limits s x.app x.call).1) es legal.2 in
        ((legal.0, legal.1, rest.0), rest.1, rest.2)

legal-front : (core : Core) (s : State) (es more : List Entry) → LegalFrom core.limits s (es ++ more) → LegalFrom core.limits s es
legal-front core s [] more legal = tt
legal-front core s (x ∷ es) more legal = (legal.0, legal.1, legal-front core ((step core.limits s x.app x.call).1) es more legal.2)

-- One entry. --

-- what is due by the history is due by the application's own handles
due_noted : (core : Core) (app n : ℕ) → view_due (lent_tables core) app n ≡ due_of (λ k. noted k core.log.entries core.notes) (find (λ k. eqb k.0 n) (owned app (state_of core).handles))
due_noted core app n =
    due_alike (loan_of (loans_of core)) (λ k. noted k core.log.entries core.notes) app (state_of core).handles (told_each (λ k. noted k core.log.entries core.notes) (state_of core).handles) n
    ∙ due_own (λ k. noted k core.log.entries core.notes) app (state_of core).handles n (handles_rise core.limits (apps_of core) core.log.entries)

module _ (old : Core) (e : Entry) (note : Note) (app : ℕ) (even : length old.notes ≡ length old.log.entries) (legal : IsLegalCore (with_noted old e note)) (other : e.app ≢ app) where
  abbrev s : State
  s = state_of old

  abbrev t : State
  t = state_of (with_noted old e note)

  rise : Rise s.handles
  rise = handles_rise old.limits (apps_of old) old.log.entries

  apart : eqb e.app app ≡ false
  apart = ne_eqb e.app app other

  after : t ≡ (step old.limits s e.app e.call).1
  after = state_from-push old.limits (opening old.limits (apps_of old)) old.log.entries e

  same : owned app t.handles ≡ owned app s.handles
  same = ap (λ (x : State). owned app x.handles) after ∙ step_alone old.limits s e.app app rise apart e.call

  answered : e.answer ≡ (step old.limits s e.app e.call).0
  answered = (legal-last old e note legal).2

  still : (n : ℕ) (o : Option (ℕ × Option Hold)) → find (λ k. eqb k.0 n) (owned app s.handles) ≡ o →
      due_of (λ k. noted k (old.log.entries ++ e ∷ []) (old.notes ++ note ∷ [])) o ≡ due_of (λ k. noted k old.log.entries old.notes) o
  still n None at = refl
  still n (Some k) at =
      ap (λ loan. viewed loan k.1) (elim (gives_for k.0 e.call e.answer) as (λ b. gives_for k.0 e.call e.answer ≡ b → noted k.0 (old.log.entries ++ e ∷ []) (old.notes ++ note ∷ []) ≡ noted k.0 old.log.entries old.notes) [
        | true ↦ λ gives.
            let none = gives_alone old.limits s e.app app rise apart e.call k.0 (ap (gives_for k.0 e.call) (sym answered) ∙ gives) in
            absurd (true≢false (sym (ap (λ (x : Option (ℕ × Option Hold)). is_some x) at) ∙ ap (λ m. is_some (find (λ j. eqb j.0 m) (owned app s.handles))) (sym (its_number (owned app s.handles) n k at)) ∙ ap (λ (x : Option (ℕ × Option Hold)). is_some x) none))
        | false ↦ λ none. noted-other k.0 old.log.entries e old.notes note even none
      ] refl)
    where
      its_number : (ks : List (ℕ × Option Hold)) (m : ℕ) (j : ℕ × Option Hold) → find (λ i. eqb i.0 m) ks ≡ Some j → j.0 ≡ m
      its_number [] m j never = absurd (cc (never))
      its_number (i ∷ ks) m j here = by_test (eqb i.0 m) refl (its_number ks m j) here
        where
          some_is : Some i ≡ Some j → i ≡ j
          some_is it = ap (λ o. option_map_or (λ (w : ℕ × Option Hold). w) o i) it

          by_test : (b : Bool) → eqb i.0 m ≡ b → (find (λ w. eqb w.0 m) ks ≡ Some j → j.0 ≡ m) → cond {A = Option (ℕ × Option Hold)} b (Some i) (find (λ w. eqb w.0 m) ks) ≡ Some j → j.0 ≡ m
          by_test true is ih it = sym (ap (λ (w : ℕ × Option Hold). w.0) (some_is it)) ∙ eqb-true i.0 m is
          by_test false is ih it = ih it

  pub others_stay : (bag : HeldViews) → HasBag old app bag → HasBag (with_noted old e note) app bag
  others_stay bag has = record {
    seen = λ n.
        has.seen n
        ∙ due_noted old app n
        ∙ sym (still n (find (λ k. eqb k.0 n) (owned app s.handles)) refl)
        ∙ ap (λ ks. due_of (λ k. noted k (old.log.entries ++ e ∷ []) (old.notes ++ note ∷ [])) (find (λ k. eqb k.0 n) ks)) (sym same)
        ∙ sym (due_noted (with_noted old e note) app n);
    counted =
        has.counted
        ∙ dues_own app s.handles
        ∙ ap (λ ks. count_by (λ (k : ℕ × Option Hold). is_some k.1) ks) (sym same)
        ∙ sym (dues_own app t.handles);
    room = has.room;
  }

-- a call of another
pub others_keep : (old new : Core) (app : ℕ) (call : Call) (answer : TblAnswer) → Does old new app call answer → KeepsOtherBags old new app
others_keep old new app call answer does other bag differ has =
    let e : Entry = record { app = app; call = call; answer = answer } in
    let note = note_due answer does.loan in
    let legal : IsLegalCore (with_noted old e note) = subst (λ core. IsLegalCore core) does.entry does.legal in
    let pushed : IsNoted (with_noted old e note) = subst (λ core. IsNoted core) does.entry does.noted in
    let whole = even-due (old.log.entries ++ e ∷ []) (old.notes ++ note ∷ []) pushed in
    let even : length old.notes ≡ length old.log.entries = omega (arith, whole, length_push old.notes note, length_push old.log.entries e) in
    subst (λ core. HasBag core other bag) (sym does.entry) (others_stay old e note other even legal (λ same. differ (sym same)) bag has)

-- Many entries. --

-- the core with these entries and notes behind its own
abbrev grown : Core → List Entry → List Note → Core
grown core entries notes = record { limits = core.limits; log = record { budgets = core.log.budgets; entries = core.log.entries ++ entries }; notes = core.notes ++ notes }

behind : (old : Core) (app : ℕ) (bag : HeldViews) (entries : List Entry) (notes : List Note) → All (λ (entry : Entry). entry.app ≢ app) entries → length notes ≡ length entries →
    length old.notes ≡ length old.log.entries → IsLegalCore (grown old entries notes) → HasBag old app bag → HasBag (grown old entries notes) app bag
behind old app bag [] [] others even noted legal has =
    subst (λ ns. HasBag (record old { log = record { budgets = old.log.budgets; entries = old.log.entries ++ [] }; notes = ns }) app bag) (sym (append-nil old.notes))
    (subst (λ es. HasBag (record old { log = record { budgets = old.log.budgets; entries = es } }) app bag) (sym (append-nil old.log.entries)) has)
behind old app bag [] (n ∷ ns) others even noted legal has = absurd (omega (arith, even))
behind old app bag (e ∷ es) [] others even noted legal has = absurd (omega (arith, even))
behind old app bag (e ∷ es) (n ∷ ns) others even noted legal has =
    let other : Entry → Type 0 = λ x. x.app ≢ app in
    let next = with_noted old e n in
    let entries = append_assoc old.log.entries (e ∷ []) es in
    let notes = append_assoc old.notes (n ∷ []) ns in
    let whole : grown next es ns ≡ grown old (e ∷ es) (n ∷ ns) =
    ap (λ xs. record { limits = old.limits; log = record { budgets = old.log.budgets; entries = xs }; notes = (old.notes ++ n ∷ []) ++ ns }) entries
    ∙ ap (λ xs. record { limits = old.limits; log = record { budgets = old.log.budgets; entries = old.log.entries ++ e ∷ es }; notes = xs }) notes in
    let legal_all : IsLegalCore (grown next es ns) = subst (λ core. IsLegalCore core) (sym whole) legal in
    let legal_next : IsLegalCore next = legal-front old (opening old.limits (apps_of old)) (old.log.entries ++ e ∷ []) es legal_all in
    subst (λ core. HasBag core app bag) whole
    (behind next app bag es ns (All-tail other e es others) (omega (arith, even)) (omega (arith, noted, length_push old.notes n, length_push old.log.entries e)) legal_all
    (others_stay old e n app noted legal_next (All-head other e es others) bag has))

-- calls of others, all together
pub others_behind : (old new : Core) (app : ℕ) (bag : HeldViews) → CalledByOthers old new app → HasBag old app bag → HasBag new app bag
others_behind old new app bag called has =
    subst (λ core. HasBag core app bag) (sym called.grown)
    (behind old app bag called.entries called.notes called.by_others (even-due called.entries called.notes called.noted) (even-due old.log.entries old.notes called.before) (subst (λ core. IsLegalCore core) called.grown called.legal) has)

-- one call of another
pub called_by : (old new : Core) (app other : ℕ) (call : Call) (answer : TblAnswer) → Does old new app call answer → app ≢ other → CalledByOthers old new other
called_by old new app other call answer does differ =
    let e : Entry = record { app = app; call = call; answer = answer } in
    let note = note_due answer does.loan in
    let pushed : IsNoted (with_noted old e note) = subst (λ core. IsNoted core) does.entry does.noted in
    record {
      entries = e ∷ [];
      notes = note ∷ [];
      by_others = All-cons (λ (x : Entry). x.app ≢ other) e [] differ (All-nil (λ (x : Entry). x.app ≢ other));
      grown = does.entry;
      legal = does.legal;
      before = due-front old.log.entries e old.notes note pushed;
      noted = ((does.loan, refl), tt);
    }

-- and those that came behind it
pub called_further : (old mid new : Core) (app : ℕ) → CalledByOthers old mid app → CalledByOthers mid new app → CalledByOthers old new app
called_further old mid new app first second = record {
  entries = first.entries ++ second.entries;
  notes = first.notes ++ second.notes;
  by_others = All-append (λ (x : Entry). x.app ≢ app) first.entries second.entries first.by_others second.by_others;
  grown =
      second.grown
      ∙ ap (λ (core : Core). grown core second.entries second.notes) first.grown
      ∙ ap (λ xs. record { limits = old.limits; log = record { budgets = old.log.budgets; entries = xs }; notes = (old.notes ++ first.notes) ++ second.notes }) (append_assoc old.log.entries first.entries second.entries)
      ∙ ap (λ xs. record { limits = old.limits; log = record { budgets = old.log.budgets; entries = old.log.entries ++ (first.entries ++ second.entries) }; notes = xs }) (append_assoc old.notes first.notes second.notes);
  legal = second.legal;
  before = first.before;
  noted = due-append first.entries second.entries first.notes second.notes first.noted second.noted;
}
