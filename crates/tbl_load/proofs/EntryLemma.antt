-- The one lemma of all calls: what the core's call, the push of its entry and the note leave.
use Rattle.std.proofs.Common.{◌≡◌, ℕ, ◌+◌, ◌^◌, ◌<◌, true, false, ltb, [], ◌∷◌, ◌++◌, length, All, Option, Some, None, is_some, IfSome, IsTrue, refl, ap, sym, ◌∙◌, subst, arith}
use Rattle.std.proofs.lemmas.Bool.Decides.{nat_tests}
use Rattle.std.proofs.lemmas.List.{length_push}
use Rattle.journal_store.specs.Budgets.{HasRoom, allowances, entries_left}
use Rattle.journal_store.proofs.Charges.{entries_left-charged}
use Rattle.tbl_words.specs.declared.calls.TblAnswer.{TblAnswer}
use Rattle.tbl_words.specs.declared.history.Call.{Call}
use Rattle.tbl_words.specs.declared.history.Entry.{Entry}
use Rattle.tbl_words.specs.declared.uses.TblUse.{TblUse}
use Rattle.tbl_words.specs.Entries.{call_bytes}
use Rattle.tbl_words.specs.Holds.{hold_of}
use Rattle.tbl_words.specs.Log.{left_of, with_entry}
use Rattle.tbl_words.specs.Machine.{may_call, state_after, step}
use Rattle.tbl_words.specs.Runs.{Follows}
use Rattle.tbl_words.specs.Tables.{Table, State, table_of}
use Rattle.tbl_words.specs.Uses.{greater_of, peak_after, use_of}
use Rattle.tbl_words.proofs.Bounds.{few-after}
use Rattle.tbl_words.proofs.Peaks.{peaks_go_on}
use Rattle.tbl_words.proofs.Replay.{goes_on}
use Rattle.table_core.specs.Core.{Plain, MayAct, Acts, HasNextVersion, has_handle_number, loan_of}
use Rattle.tbl_load.specs.declared.tables.TblCore.TheInside.{Inside}
use Rattle.tbl_load.specs.Core.{Core, MayCall, Does, IsLegalCore, with_noted, state_of}
use Rattle.tbl_load.specs.Inside.{core_of, Stands}
use Rattle.tbl_load.specs.Notes.{NotedLog, AreDue, gives_for, loan_in, note_due, noted}
use Rattle.tbl_load.proofs.Journals.{left_from-push}
use Rattle.tbl_load.proofs.Notes.{even-due, noted-other, noted-given}
use Rattle.tbl_load.proofs.Versions.{version_of_few}

-- the core's state is that of the history
pub state_now : (a : Inside) (now : Core) → core_of a ≡ now → Stands a → a.core.state ≡ state_of now
state_now a now is stands = stands.state ∙ ap state_of is

-- a call's entry is one of fewer than 2^32, so a number is left for what it makes
fits_all : (a : Inside) (old : Core) (app : ℕ) (call : Call) → core_of a ≡ old → Stands a → MayCall old app call →
    IsTrue (may_call a.core.state app) × (a.core.state.handles_made + 1 < 2 ^ 32) × All (λ t. t.version + 1 < 2 ^ 32) a.core.state.tables
fits_all a old app call is stands may_old =
    let Q : Core → Type 0 = λ o. MayCall o app call in
    let may : MayCall (core_of a) app call = subst Q (sym is) may_old in
    let few = few-after a.core.limits (length a.noted.log.budgets) a.noted.log.entries in
    let left = entries_left-charged (left_of a.noted.log) app (call_bytes call) may.room in
    let P : State → Type 0 = λ s. IsTrue (may_call s app) × (s.handles_made + 1 < 2 ^ 32) × All (λ (t : Table). t.version + 1 < 2 ^ 32) s.tables in
    subst P (sym stands.state) (
      may.standing,
      omega (arith, few.handles, left, stands.few),
      λ k d within. let least = few.versions k d within in omega (arith, least, left, stands.few),
    )

-- what the journal's call needs is what the core's call needs
pub may_act : (a : Inside) (old : Core) (app : ℕ) (call : Call) → core_of a ≡ old → Stands a → MayCall old app call → MayAct a.core app call
may_act a old app call is stands may_old =
    let Q : Core → Type 0 = λ o. MayCall o app call in
    let may : MayCall (core_of a) app call = subst Q (sym is) may_old in
    record { standing = (fits_all a old app call is stands may_old).0; within = may.within }

-- a number is left for a handle
pub handle_left : (a : Inside) (old : Core) (app : ℕ) (call : Call) → core_of a ≡ old → Stands a → MayCall old app call → IsTrue (has_handle_number a.core.state)
handle_left a old app call is stands may_old = large a.core.state.handles_made (fits_all a old app call is stands may_old).1
  where
    large : (n : ℕ) → n + 1 < 2 ^ 32 → ltb n 4294967295 ≡ true
    large n lt = grind (arith, nat_tests)

-- no table has had so many versions that one more would not fit into 32 bits
pub few_versions : (a : Inside) (old : Core) (app : ℕ) (call : Call) → core_of a ≡ old → Stands a → MayCall old app call → All (λ t. t.version + 1 < 2 ^ 32) a.core.state.tables
few_versions a old app call is stands may_old = (fits_all a old app call is stands may_old).2

-- a number is left for a version of the table of a handle
pub version_left : (a : Inside) (old : Core) (app handle : ℕ) (call : Call) → core_of a ≡ old → Stands a → MayCall old app call → HasNextVersion a.core.state handle
version_left a old app handle call is stands may_old =
    weaker (table_of a.core.state handle) (version_of_few a.core.state handle (few_versions a old app call is stands may_old))
  where
    weaker : (o : Option Table) → IfSome o (λ t. t.version + 1 < 2 ^ 32) → IfSome o (λ t. t.version + 1 < 2 ^ 64)
    weaker None fits = fits
    weaker (Some t) fits = omega (arith, fits)

-- and the entry has room in the journal
pub may_push : (a : Inside) (old : Core) (app : ℕ) (call : Call) → core_of a ≡ old → MayCall old app call → HasRoom (left_of a.noted.log) app (call_bytes call)
may_push a old app call is may_old =
    let Q : Core → Type 0 = λ o. MayCall o app call in
    let may : MayCall (core_of a) app call = subst Q (sym is) may_old in
    may.room

-- What a call left: the core did what the tables do, the call with its answer was entered, with the greatest numbers in use so far,
-- and noted was the loan by which what was given is lent; what other handles hold is lent as before.
pub record Made (a : Inside) (core : Plain) (next : NotedLog) (app : ℕ) (call : Call) (answer : TblAnswer) : Type 0 where
  pub acts : Acts a.core core app call answer
  pub loan : ℕ
  pub pushed : next ≡ record {
    log = with_entry a.noted.log (record { app = app; call = call; answer = answer });
    notes = a.noted.notes ++ note_due answer loan ∷ [];
    peak = greater_of a.noted.peak (use_of core.limits core.state);
  }
  pub due : AreDue next.log.entries next.notes
  pub given : (n : ℕ) → gives_for n call answer ≡ true → (loan_of core.lent n ≡ loan) × (loan_in (note_due answer loan) ≡ loan)
  pub kept : (n : ℕ) → gives_for n call answer ≡ false → is_some (hold_of core.state.handles n) ≡ true → (is_some (hold_of a.core.state.handles n) ≡ true) × (loan_of core.lent n ≡ loan_of a.core.lent n)

module _ (a : Inside) (core : Plain) (next : NotedLog) (old : Core) (app : ℕ) (call : Call) (answer : TblAnswer) (is : core_of a ≡ old) (stands : Stands a) (may_old : MayCall old app call)
    (made : Made a core next app call answer) where
  abbrev e : Entry
  e = record { app = app; call = call; answer = answer }

  abbrev apps : ℕ
  apps = length a.noted.log.budgets

  may : MayCall (core_of a) app call
  may = let Q : Core → Type 0 = λ o. MayCall o app call in subst Q (sym is) may_old

  after : Core
  after = with_noted (core_of a) e (note_due answer made.loan)

  acted : step a.core.limits (state_of (core_of a)) app call ≡ (answer, core.state)
  acted = ap (λ s. step a.core.limits s app call) (sym stands.state) ∙ made.acts.made

  answered : answer ≡ (step a.core.limits (state_of (core_of a)) app call).0
  answered = sym (ap (λ (p : TblAnswer × State). p.0) acted)

  follows : Follows a.core.limits apps a.noted.log.entries e
  follows = goes_on a.core.limits apps a.noted.log.entries e stands.legal may.standing answered

  same_core : record { limits = core.limits; log = next.log; notes = next.notes } ≡ after
  unfolding after
  same_core =
      ap (λ l. record { limits = l; log = next.log; notes = next.notes }) made.acts.limits
      ∙ ap (λ (n : NotedLog). record { limits = a.core.limits; log = n.log; notes = n.notes }) made.pushed

  legal_after : IsLegalCore after
  unfolding after
  legal_after = follows.legal

  state_after_is : state_of after ≡ (step a.core.limits (state_of (core_of a)) app call).1
  unfolding after
  state_after_is = follows.state

  pub does_over : Does old (record { limits = core.limits; log = next.log; notes = next.notes }) app call answer
  unfolding after
  does_over =
      let P : Core → Type 0 = λ o. Does o (record { limits = core.limits; log = next.log; notes = next.notes }) app call answer in
      subst P is (record {
        loan = made.loan;
        entry = same_core;
        as_machine = answered;
        state = ap state_of same_core ∙ state_after_is;
        legal = let L : Core → Type 0 = λ c. IsLegalCore c in subst L (sym same_core) legal_after;
        noted = made.due;
      })

  state_is : core.state ≡ state_after a.core.limits apps (a.noted.log.entries ++ e ∷ [])
  state_is = sym (ap (λ (p : TblAnswer × State). p.1) acted) ∙ sym follows.state

  entered : (s : State) → s ≡ state_after a.core.limits apps (a.noted.log.entries ++ e ∷ []) → s ≡ state_after core.limits (length next.log.budgets) next.log.entries
  entered s here =
      here
      ∙ ap (λ (n : NotedLog). state_after a.core.limits (length n.log.budgets) n.log.entries) (sym made.pushed)
      ∙ ap (λ l. state_after l (length next.log.budgets) next.log.entries) (sym made.acts.limits)

  peak_is : next.peak ≡ peak_after core.limits (length next.log.budgets) next.log.entries
  peak_is =
      ap (λ (n : NotedLog). n.peak) made.pushed
      ∙ ap (λ (u : TblUse). greater_of u (use_of core.limits core.state)) stands.peak
      ∙ ap (λ l. greater_of (peak_after a.core.limits apps a.noted.log.entries) (use_of l core.state)) made.acts.limits
      ∙ ap (λ s. greater_of (peak_after a.core.limits apps a.noted.log.entries) (use_of a.core.limits s)) state_is
      ∙ sym (peaks_go_on a.core.limits apps a.noted.log.entries e)
      ∙ ap (λ (n : NotedLog). peak_after a.core.limits (length n.log.budgets) n.log.entries) (sym made.pushed)
      ∙ ap (λ l. peak_after l (length next.log.budgets) next.log.entries) (sym made.acts.limits)

  even_before : length a.noted.notes ≡ length a.noted.log.entries
  even_before =
      let whole = even-due next.log.entries next.notes made.due in
      let notes : length next.notes ≡ length a.noted.notes + 1 = ap (λ (n : NotedLog). length n.notes) made.pushed ∙ length_push a.noted.notes (note_due answer made.loan) in
      let entries : length next.log.entries ≡ length a.noted.log.entries + 1 = ap (λ (n : NotedLog). length n.log.entries) made.pushed ∙ length_push a.noted.log.entries e in
      omega (arith, notes, entries, whole)

  loans_after : (n : ℕ) → is_some (hold_of core.state.handles n) ≡ true → loan_of core.lent n ≡ noted n (a.noted.log.entries ++ e ∷ []) (a.noted.notes ++ note_due answer made.loan ∷ [])
  loans_after n some =
      elim (gives_for n call answer) as (λ b. gives_for n call answer ≡ b → loan_of core.lent n ≡ noted n (a.noted.log.entries ++ e ∷ []) (a.noted.notes ++ note_due answer made.loan ∷ [])) [
        | true ↦ λ gives.
            let given = made.given n gives in
            given.0 ∙ sym given.1 ∙ sym (noted-given n a.noted.log.entries e a.noted.notes (note_due answer made.loan) even_before gives)
        | false ↦ λ none.
            let before = made.kept n none some in
            before.1
            ∙ stands.loans n before.0
            ∙ sym (noted-other n a.noted.log.entries e a.noted.notes (note_due answer made.loan) even_before none)
      ] refl

  pub stands_over : Stands (record a { core = core; noted = next })
  stands_over =
      let pushed_left = left_from-push (allowances a.noted.log.budgets) a.noted.log.entries e in
      let entries : length next.log.entries ≡ length a.noted.log.entries + 1 = ap (λ (n : NotedLog). length n.log.entries) made.pushed ∙ length_push a.noted.log.entries e in
      let left : entries_left (left_of next.log) + 1 ≡ entries_left (left_of a.noted.log) = ap (λ (n : NotedLog). entries_left (left_of n.log) + 1) made.pushed ∙ ap (λ l. entries_left l + 1) pushed_left ∙ entries_left-charged (left_of a.noted.log) app (call_bytes call) may.room in
      record {
        legal = let L : Core → Type 0 = λ c. IsLegalCore c in subst L (sym same_core) legal_after;
        state = entered core.state state_is;
        loans = λ n some. loans_after n some ∙ ap (λ (x : NotedLog). noted n x.log.entries x.notes) (sym made.pushed);
        peak = peak_is;
        few = omega (arith, entries, left, stands.few);
      }
