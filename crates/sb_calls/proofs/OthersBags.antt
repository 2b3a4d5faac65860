-- An application's bag stays its bag whatever others call, by one entry or by many.
use Rattle.std.proofs.Common.{◌≡◌, ◌≢◌, ℕ, ◌≤◌, ◌==◌, true, false, true≢false, ne_eqb, List, [], ◌∷◌, ◌++◌, length, map, find, append-nil, append_assoc, is_some, IsTrue, refl, ap, sym, ◌∙◌, subst, arith}
use Rattle.std.specs.List.{All}
use Rattle.std.proofs.lemmas.List.{length_push}
use Rattle.std.proofs.lemmas.List.Elements.{All-nil, All-cons, All-append, All-head, All-tail}
use Rattle.lend_block.specs.Loan.{LentBytes}
use Rattle.lend_block.specs.declared.note.Note.{Note}
use Rattle.buf_desc.specs.Held.{Holding}
use Rattle.bus_words.specs.declared.calls.BusAnswer.{BusAnswer}
use Rattle.bus_words.specs.declared.history.Call.{Call}
use Rattle.bus_words.specs.declared.history.Call.TheVariants.{Look}
use Rattle.bus_words.specs.declared.history.Entry.{Entry}
use Rattle.bus_words.specs.Alone.{gets_from}
use Rattle.bus_words.specs.Bus.{Pipe, Buffer, State, opening, standing_of, owns, unsent_of, has_unsent}
use Rattle.bus_words.specs.Held.{is_unsent, buffers_in}
use Rattle.bus_words.specs.Machine.{IsLegal, may_call, step}
use Rattle.bus_words.proofs.Buffers.{unsent_here}
use Rattle.bus_words.proofs.KeptPipes.{IsKept, single-rising, owns-one}
use Rattle.bus_words.proofs.Lasts.{gets-owns, count-step}
use Rattle.bus_words.proofs.LegalSteps.{AreWaiters, AreWaiters-after, kept-step, legal-last, legal-front}
use Rattle.bus_words.proofs.Replay.{state_from-push}
use Rattle.bus_words.proofs.UnsentBuffers.{AreUnsent-after}
use Rattle.bus_words.proofs.UnsentSteps.{unsent-other}
use Rattle.bus_messages.specs.Bag.{HoldsViews, HoldsBuffers}
use Rattle.bus_messages.specs.Store.{LastLoan, BufferDesc}
use Rattle.bus_words.specs.Pipes.{last_on}
use Rattle.bus_messages.specs.Words.{loan_of, desc_of}
use Rattle.sb_calls.specs.declared.results.Pended.{Pended}
use Rattle.sb_calls.specs.declared.results.Pended.TheVariants as waits
use Rattle.sb_calls.specs.Answers.{waited}
use Rattle.sb_calls.specs.Bags.{HasBag, KeepsOtherBags, CalledByOthers, loans_of, descs_of}
use Rattle.sb_calls.specs.Core.{Core, Does, Looks, IsLegalCore, IsNoted, with_noted, apps_of, state_of}
use Rattle.sb_calls.specs.Notes.{noted, noted_desc, note_due, gives_buffer}
use Rattle.sb_calls.proofs.Holds.{holds-alike, last-live, loan_of-told, buffers-alike, desc_of-told}
use Rattle.sb_calls.proofs.Notes.{noted-other, noted_desc-other, even-due, due-append, due-front}
use Rattle.sb_calls.proofs.UnsentBuffers.{gives-next, unsent-given}

-- the loans that are noted of these pipes
abbrev told : List Entry → List Note → List Pipe → List LastLoan
told entries notes pipes = map (λ pipe. record { pipe = pipe.number; loan = noted pipe.number entries notes }) pipes

-- the descriptors that are noted of these buffers
abbrev told_descs : List Entry → List Note → List (List Buffer) → List BufferDesc
told_descs entries notes unsent = map (λ buffer. record { number = buffer.number; desc = noted_desc buffer.number entries notes }) (buffers_in unsent)

module _ (old : Core) (e : Entry) (note : Note) (app : ℕ) (even : length old.notes ≡ length old.log.entries) (legal : IsLegalCore (with_noted old e note)) (other : e.app ≢ app) where
  abbrev s : State
  s = state_of old

  -- the bus after the entry
  abbrev t : State
  t = (step old.limits old.log.entries s e.app e.call).1

  parts : IsLegal old.limits (apps_of old) old.log.entries × IsTrue (may_call (standing_of s e.app) e.call) × (e.answer ≡ (step old.limits old.log.entries s e.app e.call).0)
  parts = legal-last old.limits [] (opening old.limits (apps_of old)) old.log.entries e legal

  waiters : AreWaiters s
  waiters = AreWaiters-after old.limits (apps_of old) old.log.entries parts.0

  differ : (app == e.app) ≡ false
  differ = ne_eqb app e.app (λ same. other (sym same))

  kept : (pipe : ℕ) → IsKept s.pipes t.pipes app pipe
  kept pipe = kept-step old.limits old.log.entries s e.app app pipe e.call waiters parts.1 differ

  -- the entry gives no message from a pipe of the application
  none_given : (pipe : ℕ) → owns s.pipes app pipe ≡ true → gets_from pipe e ≡ false
  none_given pipe own =
      elim (gets_from pipe e) as (λ b. gets_from pipe e ≡ b → b ≡ false) [
        | true ↦ λ gives.
            let answered = ap (λ (a : BusAnswer). gets_from pipe (record { app = e.app; call = e.call; answer = a })) (sym parts.2) ∙ gives in
            let his = gets-owns old.limits old.log.entries s pipe e.app e.call waiters parts.1 answered in
            absurd (true≢false (sym own ∙ owns-one s.pipes e.app app pipe (single-rising 0 s.pipes_created s.pipes waiters.numbered.pipes) differ his))
        | false ↦ λ none. refl
      ] refl

  loans : (pipe : ℕ) → owns s.pipes app pipe ≡ true → is_some (last_on s.pipes pipe) ≡ true →
      loan_of (told (old.log.entries ++ e ∷ []) (old.notes ++ note ∷ []) t.pipes) pipe ≡ loan_of (loans_of old) pipe
  loans pipe own some =
      loan_of-told (λ n. noted n (old.log.entries ++ e ∷ []) (old.notes ++ note ∷ [])) t.pipes pipe (last-live t.pipes pipe (ap (λ l. is_some l) ((kept pipe).last own) ∙ some))
      ∙ noted-other pipe old.log.entries e old.notes note even (none_given pipe own)
      ∙ sym (loan_of-told (λ n. noted n old.log.entries old.notes) s.pipes pipe (last-live s.pipes pipe some))

  -- the entry gives no buffer that the application has already
  no_buffer : (number : ℕ) → is_unsent s.unsent number ≡ true → gives_buffer number e ≡ false
  no_buffer number there =
      elim (gives_buffer number e) as (λ b. gives_buffer number e ≡ b → b ≡ false) [
        | true ↦ λ gives.
            let answered = ap (λ (a : BusAnswer). gives_buffer number (record { app = e.app; call = e.call; answer = a })) (sym parts.2) ∙ gives in
            let next = gives-next old.limits old.log.entries s e.app number e.call answered in
            let given = unsent-given old.limits (apps_of old) s number (AreUnsent-after old.limits (apps_of old) old.log.entries) there in
            absurd (omega (arith, next, given))
        | false ↦ λ none. refl
      ] refl

  same_buffers : 1 ≤ app → unsent_of t.unsent app ≡ unsent_of s.unsent app
  same_buffers first = unsent-other old.limits old.log.entries s e.app app e.call parts.1 differ first

  descs : 1 ≤ app → (number : ℕ) → has_unsent s.unsent app number ≡ true →
      desc_of (told_descs (old.log.entries ++ e ∷ []) (old.notes ++ note ∷ []) t.unsent) number ≡ desc_of (descs_of old) number
  descs first number has =
      let before = unsent_here s.unsent app number has in
      let after = unsent_here t.unsent app number (ap (λ (bs : List Buffer). is_some (find (λ (buffer : Buffer). buffer.number == number) bs)) (same_buffers first) ∙ has) in
      desc_of-told (λ n. noted_desc n (old.log.entries ++ e ∷ []) (old.notes ++ note ∷ [])) t.unsent number after
      ∙ noted_desc-other number old.log.entries e old.notes note even (no_buffer number before)
      ∙ sym (desc_of-told (λ n. noted_desc n old.log.entries old.notes) s.unsent number before)

  -- the bus after the longer history
  pushed : state_of (with_noted old e note) ≡ t
  pushed = state_from-push old.limits [] (opening old.limits (apps_of old)) old.log.entries e

  pub others_stay : (bag : Holding LentBytes) → HasBag old app bag → HasBag (with_noted old e note) app bag
  others_stay bag has = record {
    views = subst (λ (x : State). HoldsViews x.pipes (told (old.log.entries ++ e ∷ []) (old.notes ++ note ∷ []) x.pipes) old.limits.pipes app bag) (sym pushed)
        (holds-alike s.pipes t.pipes (loans_of old) (told (old.log.entries ++ e ∷ []) (old.notes ++ note ∷ []) t.pipes) old.limits.pipes app bag
        (record {
          owned = λ pipe. (kept pipe).owned;
          last = λ pipe. (kept pipe).last;
          lent = loans;
          counted = count-step old.limits old.log.entries s e.app app e.call waiters parts.1 differ;
        }) has.views);
    buffers = subst (λ (x : State). HoldsBuffers x.unsent (told_descs (old.log.entries ++ e ∷ []) (old.notes ++ note ∷ []) x.unsent) old.limits.sizes app bag) (sym pushed)
        (buffers-alike s.unsent t.unsent (descs_of old) (told_descs (old.log.entries ++ e ∷ []) (old.notes ++ note ∷ []) t.unsent) old.limits.sizes app bag
        (same_buffers has.buffers.known) (descs has.buffers.known) has.buffers);
  }

-- a call of another
pub others_keep : (old new : Core) (app : ℕ) (call : Call) (answer : BusAnswer) → Does old new app call answer → KeepsOtherBags old new app
others_keep old new app call answer does other bag differ has =
    let e : Entry = record { app = app; call = call; answer = answer } in
    let note = note_due answer call does.name in
    let legal : IsLegalCore (with_noted old e note) = subst (λ core. IsLegalCore core) does.entry does.legal in
    let noted : IsNoted (with_noted old e note) = subst (λ core. IsNoted core) does.entry does.noted in
    let pushed = even-due (old.log.entries ++ e ∷ []) (old.notes ++ note ∷ []) noted in
    let even : length old.notes ≡ length old.log.entries = omega (arith, pushed, length_push old.notes note, length_push old.log.entries e) in
    subst (λ core. HasBag core other bag) (sym does.entry) (others_stay old e note other even legal (λ same. differ (sym same)) bag has)

-- and a look
pub others_looked : (old new : Core) (app pipe : ℕ) (answer : Pended) → Looks old new app pipe answer → KeepsOtherBags old new app
others_looked old new app pipe (waits.Got number) looks = others_keep old new app (Look pipe) (waited (waits.Got number)) looks
others_looked old new app pipe waits.TimeOut looks = others_keep old new app (Look pipe) (waited waits.TimeOut) looks
others_looked old new app pipe waits.Pending looks = λ other bag differ has. subst (λ core. HasBag core other bag) (sym looks.0) has

-- the core with these entries and notes behind its own
abbrev grown : Core → List Entry → List Note → Core
grown core entries notes = record { limits = core.limits; log = record { budgets = core.log.budgets; entries = core.log.entries ++ entries }; notes = core.notes ++ notes }

behind : (old : Core) (app : ℕ) (bag : Holding LentBytes) (entries : List Entry) (notes : List Note) → All (λ (entry : Entry). entry.app ≢ app) entries → length notes ≡ length entries →
    length old.notes ≡ length old.log.entries → IsLegalCore (grown old entries notes) → HasBag old app bag → HasBag (grown old entries notes) app bag
behind old app bag [] [] others even noted legal has =
    subst (λ ns. HasBag (record old { log = record { budgets = old.log.budgets; entries = old.log.entries ++ [] }; notes = ns }) app bag) (sym (append-nil old.notes))
    (subst (λ es. HasBag (record old { log = record { budgets = old.log.budgets; entries = es } }) app bag) (sym (append-nil old.log.entries)) has)
behind old app bag [] (n ∷ ns) others even noted legal has = absurd (omega (arith, even))
behind old app bag (e ∷ es) [] others even noted legal has = absurd (omega (arith, even))
behind old app bag (e ∷ es) (n ∷ ns) others even noted legal has =
    let other : Entry → Type 0 = λ x. x.app ≢ app in
    let next = with_noted old e n in
    let entries = append_assoc old.log.entries (e ∷ []) es in
    let notes = append_assoc old.notes (n ∷ []) ns in
    let whole : grown next es ns ≡ grown old (e ∷ es) (n ∷ ns) =
    ap (λ xs. record { limits = old.limits; log = record { budgets = old.log.budgets; entries = xs }; notes = (old.notes ++ n ∷ []) ++ ns }) entries
    ∙ ap (λ xs. record { limits = old.limits; log = record { budgets = old.log.budgets; entries = old.log.entries ++ e ∷ es }; notes = xs }) notes in
    let legal_all : IsLegalCore (grown next es ns) = subst (λ core. IsLegalCore core) (sym whole) legal in
    let legal_next : IsLegalCore next = legal-front old.limits [] (opening old.limits (apps_of old)) (old.log.entries ++ e ∷ []) es legal_all in
    subst (λ core. HasBag core app bag) whole
    (behind next app bag es ns (All-tail other e es others) (omega (arith, even)) (omega (arith, noted, length_push old.notes n, length_push old.log.entries e)) legal_all
    (others_stay old e n app noted legal_next (All-head other e es others) bag has))

-- calls of others, all together
pub others_behind : (old new : Core) (app : ℕ) (bag : Holding LentBytes) → CalledByOthers old new app → HasBag old app bag → HasBag new app bag
others_behind old new app bag called has =
    subst (λ core. HasBag core app bag) (sym called.grown)
    (behind old app bag called.entries called.notes called.by_others (even-due called.entries called.notes called.noted) (even-due old.log.entries old.notes called.before) (subst (λ core. IsLegalCore core) called.grown called.legal) has)

-- a call of another is one of others
pub called_by : (old new : Core) (app other : ℕ) (call : Call) (answer : BusAnswer) → Does old new app call answer → app ≢ other → CalledByOthers old new other
called_by old new app other call answer does differ =
    let e : Entry = record { app = app; call = call; answer = answer } in
    let note = note_due answer call does.name in
    let pushed : IsNoted (with_noted old e note) = subst (λ core. IsNoted core) does.entry does.noted in
    record {
      entries = e ∷ [];
      notes = note ∷ [];
      by_others = All-cons (λ (x : Entry). x.app ≢ other) e [] differ (All-nil (λ (x : Entry). x.app ≢ other));
      grown = does.entry;
      legal = does.legal;
      before = due-front old.log.entries e old.notes note pushed;
      noted = ((does.name, refl), tt);
    }

-- and those that came behind it
pub called_further : (old mid new : Core) (app : ℕ) → CalledByOthers old mid app → CalledByOthers mid new app → CalledByOthers old new app
called_further old mid new app first second = record {
  entries = first.entries ++ second.entries;
  notes = first.notes ++ second.notes;
  by_others = All-append (λ (x : Entry). x.app ≢ app) first.entries second.entries first.by_others second.by_others;
  grown =
      second.grown
      ∙ ap (λ (core : Core). grown core second.entries second.notes) first.grown
      ∙ ap (λ xs. record { limits = old.limits; log = record { budgets = old.log.budgets; entries = xs }; notes = (old.notes ++ first.notes) ++ second.notes }) (append_assoc old.log.entries first.entries second.entries)
      ∙ ap (λ xs. record { limits = old.limits; log = record { budgets = old.log.budgets; entries = old.log.entries ++ (first.entries ++ second.entries) }; notes = xs }) (append_assoc old.notes first.notes second.notes);
  legal = second.legal;
  before = first.before;
  noted = due-append first.entries second.entries first.notes second.notes first.noted second.noted;
}
