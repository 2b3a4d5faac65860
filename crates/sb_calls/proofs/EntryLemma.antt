-- The one lemma of all calls: what the core's call, the push of its entry and the note leave.
use Rattle.std.proofs.Common.{◌≡◌, ℕ, ◌+◌, ◌^◌, ◌<◌, ◌≤◌, true, false, true≢false, ltb, List, [], ◌∷◌, ◌++◌, length, Option, Some, None, is_some, IsTrue, refl, ap, sym, ◌∙◌, subst, arith}
use Rattle.std.proofs.lemmas.Bool.Decides.{nat_tests}
use Rattle.std.proofs.lemmas.List.{length_push}
use Rattle.fsw_base.specs.Limits.{Limits}
use Rattle.fsw_base.specs.Grants.{pool_in}
use Rattle.bus_words.specs.declared.calls.BusAnswer.{BusAnswer}
use Rattle.bus_words.specs.declared.history.Call.{Call}
use Rattle.bus_words.specs.declared.history.Entry.{Entry}
use Rattle.bus_words.specs.Alone.{gets_from}
use Rattle.bus_words.specs.Bus.{Item, State, standing_of}
use Rattle.bus_words.specs.Entries.{call_bytes}
use Rattle.bus_words.specs.Held.{is_unsent}
use Rattle.journal_store.specs.Budgets.{allowances, entries_left}
use Rattle.bus_words.specs.Log.{left_of, with_entry}
use Rattle.bus_words.specs.Machine.{makes_entry, may_call, brings, step}
use Rattle.bus_words.specs.Acts.{Whole, act, whole_from, whole_after, opening_whole}
use Rattle.bus_words.specs.Runs.{Follows}
use Rattle.bus_words.proofs.Acts.{whole_after-legal, acts_after}
use Rattle.bus_words.proofs.Isolation.{gives_newest}
use Rattle.bus_words.proofs.Journals.{left_from-push}
use Rattle.bus_words.proofs.Lasts.{IsFrom, from-step}
use Rattle.bus_words.proofs.LegalSteps.{AreWaiters, AreWaiters-after}
use Rattle.bus_words.proofs.Replay.{goes_on}
use Rattle.bus_words.proofs.Steps.{AreCounted-after, length-standings}
use Rattle.bus_words.proofs.PoolGrants.{ArePools-after}
use Rattle.journal_store.proofs.Charges.{entries_left-charged}
use Rattle.bus_words.specs.Pipes.{last_on}
use Rattle.bus_messages.specs.Words.{loan_of, desc_of}
use Rattle.bus_core.specs.Core.{Plain, MayAct, Acts, apps_in, has_pipe_number, has_subscription_number}
use Rattle.sb_calls.specs.declared.journalled.BusCore.TheInside.{Inside}
use Rattle.sb_calls.specs.Core.{Core, MayCall, Does, IsLegalCore, IsNoted, with_noted, state_of}
use Rattle.sb_calls.specs.Inside.{core_of, Stands}
use Rattle.sb_calls.specs.Notes.{NotedLog, loan_in, note_due, noted, gives_buffer, noted_desc}
use Rattle.sb_calls.proofs.Grants.{few_given}
use Rattle.sb_calls.proofs.Notes.{noted-other, noted-given, noted_desc-other, noted_desc-given, desc_in-due, even-due, due-push}
use Rattle.sb_calls.proofs.UnsentBuffers.{unsent-from}

whole_from-push : (limits : Limits) (w : Whole) (es : List Entry) (e : Entry) → whole_from limits w (es ++ e ∷ []) ≡ (act limits (whole_from limits w es) e.app e.call).1
whole_from-push limits w [] e = refl
whole_from-push limits w (x ∷ es) e = whole_from-push limits ((act limits w x.app x.call).1) es e

-- the core's state is the history's bus
pub bus_is : (a : Inside) → Stands a → a.core.whole.bus ≡ state_of (core_of a)
bus_is a stands =
    ap (λ (w : Whole). w.bus) (stands.whole ∙ whole_after-legal a.core.limits (length a.noted.log.budgets) a.noted.log.entries stands.legal)

pub bus_now : (a : Inside) (now : Core) → core_of a ≡ now → Stands a → a.core.whole.bus ≡ state_of now
bus_now a now is stands = bus_is a stands ∙ ap state_of is

-- which serves as many applications as the journal
pub apps_are : (a : Inside) → Stands a → apps_in a.core ≡ length a.noted.log.budgets
apps_are a stands =
    ap (λ (s : State). length s.standings) (bus_is a stands) ∙ length-standings a.core.limits (length a.noted.log.budgets) a.noted.log.entries

-- a call's entry is one of fewer than 2^32, so a number is left for what it makes
fits_all : (a : Inside) (old : Core) (app : ℕ) (call : Call) → core_of a ≡ old → Stands a → MayCall old app call →
    (app ≤ apps_in a.core) × IsTrue (may_call (standing_of a.core.whole.bus app) call) × (a.core.whole.bus.pipes_created + 1 < 2 ^ 32) × (a.core.whole.bus.subscriptions_made + 1 < 2 ^ 32) × (a.core.whole.bus.numbers_given + 1 < 2 ^ 32)
fits_all a old app call is stands may_old =
    let Q : Core → Type 0 = λ o. MayCall o app call in
    let may : MayCall (core_of a) app call = subst Q (sym is) may_old in
    let apps = length a.noted.log.budgets in
    let counted = AreCounted-after a.core.limits apps a.noted.log.entries in
    let left = entries_left-charged (left_of a.noted.log) app (call_bytes call) may.room in
    let P : State → Type 0 = λ t. (app ≤ length t.standings) × IsTrue (may_call (standing_of t app) call) × (t.pipes_created + 1 < 2 ^ 32) × (t.subscriptions_made + 1 < 2 ^ 32) × (t.numbers_given + 1 < 2 ^ 32) in
    subst P (sym (bus_is a stands)) (
      omega (arith, may.known, length-standings a.core.limits apps a.noted.log.entries),
      may.standing,
      omega (arith, counted.pipes, left, stands.few),
      omega (arith, counted.subscriptions, left, stands.few),
      omega (arith, counted.numbers, left, stands.few),
    )

-- what the journal's call needs is what the core's call needs
pub may_act : (a : Inside) (old : Core) (app : ℕ) (call : Call) → core_of a ≡ old → Stands a → MayCall old app call → MayAct a.core app call
may_act a old app call is stands may_old =
    let Q : Core → Type 0 = λ o. MayCall o app call in
    let may : MayCall (core_of a) app call = subst Q (sym is) may_old in
    let all = fits_all a old app call is stands may_old in
    record { known = all.0; standing = all.1; within = may.within }

large : (n : ℕ) → n + 1 < 2 ^ 32 → ltb n 4294967295 ≡ true
large n lt = grind (arith, nat_tests)

-- a number is left for a pipe
pub pipe_left : (a : Inside) (old : Core) (app : ℕ) (call : Call) → core_of a ≡ old → Stands a → MayCall old app call → IsTrue (has_pipe_number a.core.whole.bus)
pipe_left a old app call is stands may_old = large a.core.whole.bus.pipes_created (fits_all a old app call is stands may_old).2

-- a number is left for a subscription
pub subscription_left : (a : Inside) (old : Core) (app : ℕ) (call : Call) → core_of a ≡ old → Stands a → MayCall old app call → IsTrue (has_subscription_number a.core.whole.bus)
subscription_left a old app call is stands may_old = large a.core.whole.bus.subscriptions_made (fits_all a old app call is stands may_old).3

-- numbers of sends and buffers, one more too, fit into 32 bits
pub few_sends : (a : Inside) (old : Core) (app : ℕ) (call : Call) → core_of a ≡ old → Stands a → MayCall old app call → a.core.whole.bus.numbers_given + 1 < 2 ^ 32
few_sends a old app call is stands may_old = (fits_all a old app call is stands may_old).4

-- and so do those of the grants of any pool
pub few_grants : (a : Inside) (old : Core) (app pool : ℕ) (call : Call) → core_of a ≡ old → Stands a → MayCall old app call → (pool_in a.core.whole.bus.pools pool).given + 1 < 2 ^ 32
few_grants a old app pool call is stands may_old =
    let Q : Core → Type 0 = λ o. MayCall o app call in
    let may : MayCall (core_of a) app call = subst Q (sym is) may_old in
    let apps = length a.noted.log.budgets in
    let left = entries_left-charged (left_of a.noted.log) app (call_bytes call) may.room in
    let P : State → Type 0 = λ t. (pool_in t.pools pool).given + 1 < 2 ^ 32 in
    subst P (sym (bus_is a stands))
    (few_given a.core.limits (length a.noted.log.entries) (state_of (core_of a)).pools pool (ArePools-after a.core.limits apps a.noted.log.entries) (omega (arith, left, stands.few)))

-- What a call left: the core did what the bus does, the call brings the bytes that it is about, and with its answer it was
-- entered. Noted was the loan by which the last message of each pipe that the call gave one from is lent, or the descriptor of the
-- buffer that it gave; of the other pipes and buffers they are as before.
pub record Made (a : Inside) (core : Plain) (next : NotedLog) (app : ℕ) (call : Call) (answer : BusAnswer) : Type 0 where
  pub acts : Acts a.core core app call answer
  pub makes : IsTrue (makes_entry call answer)
  pub whole : IsTrue (brings a.core.whole.bus.unsent app call)
  pub name : ℕ
  pub pushed : next ≡ record { log = with_entry a.noted.log (record { app = app; call = call; answer = answer }); notes = a.noted.notes ++ note_due answer call name ∷ [] }
  pub given : (pipe : ℕ) → gets_from pipe (record { app = app; call = call; answer = answer }) ≡ true → is_some (last_on core.whole.bus.pipes pipe) ≡ true → loan_of core.loans pipe ≡ name
  pub kept : (pipe : ℕ) → gets_from pipe (record { app = app; call = call; answer = answer }) ≡ false → is_some (last_on core.whole.bus.pipes pipe) ≡ true →
      is_some (last_on a.core.whole.bus.pipes pipe) ≡ true → loan_of core.loans pipe ≡ loan_of a.core.loans pipe
  pub gave : (number : ℕ) → gives_buffer number (record { app = app; call = call; answer = answer }) ≡ true → desc_of core.descs number ≡ name
  pub left : (number : ℕ) → gives_buffer number (record { app = app; call = call; answer = answer }) ≡ false → is_unsent core.whole.bus.unsent number ≡ true →
      is_unsent a.core.whole.bus.unsent number ≡ true → desc_of core.descs number ≡ desc_of a.core.descs number

-- the core's answer and state are those of the machine's step
pub step_is : (a : Inside) (core : Plain) (app : ℕ) (call : Call) (answer : BusAnswer) → Stands a → Acts a.core core app call answer →
    step a.core.limits a.noted.log.entries a.core.whole.bus app call ≡ (answer, core.whole.bus)
step_is a core app call answer stands acts =
    ap (λ s. step a.core.limits a.noted.log.entries s app call) (bus_is a stands)
    ∙ ap (λ (made : BusAnswer × Whole). (made.0, made.1.bus))
    (sym (acts_after a.core.limits (length a.noted.log.budgets) a.noted.log.entries app call stands.legal) ∙ ap (λ w. act a.core.limits w app call) (sym stands.whole) ∙ acts.made)

pub waiters_in : (a : Inside) → Stands a → AreWaiters a.core.whole.bus
waiters_in a stands =
    subst (λ s. AreWaiters s) (sym (bus_is a stands)) (AreWaiters-after a.core.limits (length a.noted.log.budgets) a.noted.log.entries stands.legal)

-- a pipe that has a last message now, which it wasn't given, had one before
some-from : (was now : Option Item) → ((item : Item) → now ≡ Some item → was ≡ Some item) → is_some now ≡ true → is_some was ≡ true
some-from was None from some = absurd (true≢false (sym some))
some-from was (Some item) from some = ap (λ l. is_some l) (from item refl)

module _ (a : Inside) (core : Plain) (next : NotedLog) (old : Core) (app : ℕ) (call : Call) (answer : BusAnswer) (is : core_of a ≡ old) (stands : Stands a) (may_old : MayCall old app call)
    (made : Made a core next app call answer) where
  abbrev e : Entry
  e = record { app = app; call = call; answer = answer }

  may : MayCall (core_of a) app call
  may = let Q : Core → Type 0 = λ o. MayCall o app call in subst Q (sym is) may_old

  after : Core
  after = with_noted (core_of a) e (note_due answer call made.name)

  acted : act a.core.limits (whole_after a.core.limits (length a.noted.log.budgets) a.noted.log.entries) app call ≡ (answer, core.whole)
  acted = ap (λ w. act a.core.limits w app call) (sym stands.whole) ∙ made.acts.made

  answered : answer ≡ (step a.core.limits a.noted.log.entries (state_of (core_of a)) app call).0
  answered = ap (λ (p : BusAnswer × Whole). p.0) (sym acted ∙ acts_after a.core.limits (length a.noted.log.budgets) a.noted.log.entries app call stands.legal)

  follows : Follows a.core.limits (length a.noted.log.budgets) a.noted.log.entries e
  follows = goes_on a.core.limits (length a.noted.log.budgets) a.noted.log.entries e stands.legal may.standing answered made.makes
      (subst (λ (s : State). IsTrue (brings s.unsent app call)) (bus_is a stands) made.whole)

  same_core : record { limits = core.limits; log = next.log; notes = next.notes } ≡ after
  unfolding after
  same_core =
      ap (λ l. record { limits = l; log = next.log; notes = next.notes }) made.acts.limits
      ∙ ap (λ (n : NotedLog). record { limits = a.core.limits; log = n.log; notes = n.notes }) made.pushed

  legal_after : IsLegalCore after
  unfolding after
  legal_after = follows.legal

  state_after_is : state_of after ≡ (step a.core.limits a.noted.log.entries (state_of (core_of a)) app call).1
  unfolding after
  state_after_is = follows.state

  due_after : IsNoted after
  unfolding after
  due_after = due-push a.noted.log.entries e a.noted.notes made.name stands.due

  pub does_over : Does old (record { limits = core.limits; log = next.log; notes = next.notes }) app call answer
  unfolding after
  does_over =
      let P : Core → Type 0 = λ o. Does o (record { limits = core.limits; log = next.log; notes = next.notes }) app call answer in
      subst P is (record {
        name = made.name;
        entry = same_core;
        as_machine = answered;
        state = ap state_of same_core ∙ state_after_is;
        legal = let L : Core → Type 0 = λ c. IsLegalCore c in subst L (sym same_core) legal_after;
        noted = let N : Core → Type 0 = λ c. IsNoted c in subst N (sym same_core) due_after;
      })

  whole_is : core.whole ≡ whole_after core.limits (length next.log.budgets) next.log.entries
  whole_is =
      ap (λ (p : BusAnswer × Whole). p.1) (sym acted)
      ∙ sym (whole_from-push a.core.limits (opening_whole a.core.limits (length a.noted.log.budgets)) a.noted.log.entries e)
      ∙ ap (λ (n : NotedLog). whole_after a.core.limits (length n.log.budgets) n.log.entries) (sym made.pushed)
      ∙ ap (λ l. whole_after l (length next.log.budgets) next.log.entries) (sym made.acts.limits)

  even_before : length a.noted.notes ≡ length a.noted.log.entries
  even_before = even-due a.noted.log.entries a.noted.notes stands.due

  -- the pipe had a last message before
  had : (pipe : ℕ) → gets_from pipe e ≡ false → is_some (last_on core.whole.bus.pipes pipe) ≡ true → is_some (last_on a.core.whole.bus.pipes pipe) ≡ true
  had pipe none some =
      let as_step = step_is a core app call answer stands made.acts in
      let waits = waiters_in a stands in
      some-from (last_on a.core.whole.bus.pipes pipe) (last_on core.whole.bus.pipes pipe)
      (subst (λ (p : BusAnswer × State). gets_from pipe (record { app = app; call = call; answer = p.0 }) ≡ false → IsFrom a.core.whole.bus.pipes p.1.pipes pipe) as_step
      (from-step a.core.limits a.noted.log.entries a.core.whole.bus pipe app waits.numbered call) none)
      some

  loans_after : (pipe : ℕ) → is_some (last_on core.whole.bus.pipes pipe) ≡ true → loan_of core.loans pipe ≡ noted pipe (a.noted.log.entries ++ e ∷ []) (a.noted.notes ++ note_due answer call made.name ∷ [])
  loans_after pipe some =
      elim (gets_from pipe e) as (λ b. gets_from pipe e ≡ b → loan_of core.loans pipe ≡ noted pipe (a.noted.log.entries ++ e ∷ []) (a.noted.notes ++ note_due answer call made.name ∷ [])) [
        | true ↦ λ gives.
            let message = gives_newest a.core.limits (length a.noted.log.budgets) pipe a.noted.log.entries e follows.legal gives in
            made.given pipe gives some
            ∙ ap (λ x. loan_in (note_due x call made.name)) (sym message.1.answer)
            ∙ sym (noted-given pipe a.noted.log.entries e a.noted.notes (note_due answer call made.name) even_before gives)
        | false ↦ λ none.
            let before = had pipe none some in
            made.kept pipe none some before
            ∙ stands.loans pipe before
            ∙ sym (noted-other pipe a.noted.log.entries e a.noted.notes (note_due answer call made.name) even_before none)
      ] refl

  -- the number was unsent before
  was : (number : ℕ) → gives_buffer number e ≡ false → is_unsent core.whole.bus.unsent number ≡ true → is_unsent a.core.whole.bus.unsent number ≡ true
  was number none now =
      subst (λ (p : BusAnswer × State). gives_buffer number (record { app = app; call = call; answer = p.0 }) ≡ false → is_unsent p.1.unsent number ≡ true → is_unsent a.core.whole.bus.unsent number ≡ true)
      (step_is a core app call answer stands made.acts)
      (unsent-from a.core.limits a.noted.log.entries a.core.whole.bus app number call) none now

  descs_after : (number : ℕ) → is_unsent core.whole.bus.unsent number ≡ true → desc_of core.descs number ≡ noted_desc number (a.noted.log.entries ++ e ∷ []) (a.noted.notes ++ note_due answer call made.name ∷ [])
  descs_after number now =
      elim (gives_buffer number e) as (λ b. gives_buffer number e ≡ b → desc_of core.descs number ≡ noted_desc number (a.noted.log.entries ++ e ∷ []) (a.noted.notes ++ note_due answer call made.name ∷ [])) [
        | true ↦ λ gives.
            made.gave number gives
            ∙ sym (desc_in-due number app made.name call answer gives)
            ∙ sym (noted_desc-given number a.noted.log.entries e a.noted.notes (note_due answer call made.name) even_before gives)
        | false ↦ λ none.
            let before = was number none now in
            made.left number none now before
            ∙ stands.descs number before
            ∙ sym (noted_desc-other number a.noted.log.entries e a.noted.notes (note_due answer call made.name) even_before none)
      ] refl

  pub stands_over : Stands (record a { core = core; noted = next })
  stands_over =
      let pushed_left = left_from-push (allowances a.noted.log.budgets) a.noted.log.entries e in
      let entries : length next.log.entries ≡ length a.noted.log.entries + 1 = ap (λ (n : NotedLog). length n.log.entries) made.pushed ∙ length_push a.noted.log.entries e in
      let left : entries_left (left_of next.log) + 1 ≡ entries_left (left_of a.noted.log) = ap (λ (n : NotedLog). entries_left (left_of n.log) + 1) made.pushed ∙ ap (λ l. entries_left l + 1) pushed_left ∙ entries_left-charged (left_of a.noted.log) app (call_bytes call) may.room in
      record {
        legal = let L : Core → Type 0 = λ c. IsLegalCore c in subst L (sym same_core) legal_after;
        due = let N : Core → Type 0 = λ c. IsNoted c in subst N (sym same_core) due_after;
        whole = whole_is;
        loans = λ pipe some. loans_after pipe some ∙ ap (λ (n : NotedLog). noted pipe n.log.entries n.notes) (sym made.pushed);
        descs = λ number now. descs_after number now ∙ ap (λ (n : NotedLog). noted_desc number n.log.entries n.notes) (sym made.pushed);
        few = omega (arith, entries, left, stands.few);
      }
