-- The receipts of an application at the bus, line by line.
use Rattle.std.proofs.Common.{◌≡◌, ℕ, ◌+◌, ◌-◌, ◌==◌, if◌then◌else◌, not, Bool, true, false, cond, true≢false, List, [], ◌∷◌, ◌++◌, drop, map, Option, Some, None, refl, ap, sym, ◌∙◌, subst, arith, append_assoc, append-nil}
use Rattle.std.specs.Prelude.{slice_get, is_some}
use Rattle.std.specs.Option.{option_map_or}
use Rattle.fsw_base.specs.Limits.{Limits}
use Rattle.bus_words.specs.declared.calls.BusAnswer.{BusAnswer}
use Rattle.bus_words.specs.declared.calls.BusAnswer.TheVariants.{Pending, Sb, Es, Evs}
use Rattle.bus_words.specs.declared.history.Call.{Call}
use Rattle.bus_words.specs.declared.history.Call.TheVariants as calls
use Rattle.bus_words.specs.declared.history.Entry.{Entry}
use Rattle.bus_words.specs.declared.receipts.Receipt.{Receipt}
use Rattle.bus_words.specs.Acts.{Whole, act, opening_whole, whole_after, whole_from}
use Rattle.bus_words.specs.Bus.{State, Subscription, Sending, opening}
use Rattle.bus_words.specs.Machine.{IsLegal, LegalFrom, Reads, accept_with, cause, decided_with, passed_along, reads_after, sent_along, state_after, step, buffer_gone}
use Rattle.bus_words.specs.Refusals.{Refusal, OfBus, OfPools, OfEvents}
use Rattle.bus_words.proofs.Acts.{whole_after-legal}
use Rattle.bus_words.proofs.Replay.{state_from-push}
use Rattle.script_lines.specs.declared.line.Line.{Line}
use Rattle.script_runs.specs.Told.{Seen, got_in, receipts_of, seen_from, settled_from}
use Rattle.script_runs.specs.Trace.{AfterAnswer, IsEnd, LineEntries, Registers, Trace, call_of, own_entries, registers_after}
use Rattle.script_runs.specs.Written.{Written, written_after, written_by}
use Rattle.run_check.specs.Places.{Made, Place, behind, gone_on, looked, made_at, passed, past, place_from, settled, shown_at_bus}
use Rattle.run_check.proofs.BusGoesOn.{from_line, line_makes, settled_line}
use Rattle.run_check.proofs.TablePlaces.{line_there}

-- Who is left waiting. --

abbrev pub is_pending : BusAnswer → Bool
is_pending Pending = true
is_pending answer = false

-- only a receive that may wait, or a look, is answered so
abbrev pub pend_alone : Call → BusAnswer → Bool
pend_alone (calls.Pend pipe) answer = true
pend_alone (calls.Look pipe) answer = true
pend_alone call answer = not (is_pending answer)

alone_if : (call : Call) (answer : BusAnswer) → is_pending answer ≡ false → pend_alone call answer ≡ true
alone_if (calls.Pend pipe) answer is = refl
alone_if (calls.Look pipe) answer is = refl
alone_if call answer is = ap not is

by_send : (limits : Limits) (s : State) (sending : Sending) (subs : List Subscription) → is_pending ((sent_along limits subs sending s).0) ≡ false
by_send limits s sending [] = refl
by_send limits s sending (sub ∷ subs) = refl

by_passing : (s : State) (sending : Sending) (subs : List Subscription) → is_pending ((passed_along subs sending s).0) ≡ false
by_passing s sending [] = refl
by_passing s sending (sub ∷ subs) = refl

accepted_alone : (reads : Reads) (limits : Limits) (s : State) (app : ℕ) (call : Call) → pend_alone call ((accept_with reads limits s app call).0) ≡ true
accepted_alone reads limits s app (calls.Pend pipe) = refl
accepted_alone reads limits s app (calls.Look pipe) = refl
accepted_alone reads limits s app (calls.Transmit bytes inc) = ap not (by_send limits s _ _)
accepted_alone reads limits s app calls.Housekeeping = ap not (by_send limits s _ _)
accepted_alone reads limits s app (calls.TransmitBuffer buf bytes inc) =
    ap not (by_passing (buffer_gone s app buf) _ _)
accepted_alone reads limits s app call = refl

decided_alone : (reads : Reads) (limits : Limits) (s : State) (app : ℕ) (call : Call) (why : Option Refusal) → pend_alone call ((decided_with reads limits s app call why).0) ≡ true
decided_alone reads limits s app call None = accepted_alone reads limits s app call
decided_alone reads limits s app call (Some (OfBus status)) = alone_if call (Sb status) refl
decided_alone reads limits s app call (Some (OfPools status)) = alone_if call (Es status) refl
decided_alone reads limits s app call (Some (OfEvents status)) = alone_if call (Evs status) refl

step_alone : (limits : Limits) (history : List Entry) (s : State) (app : ℕ) (call : Call) → pend_alone call ((step limits history s app call).0) ≡ true
step_alone limits history s app call = decided_alone (reads_after limits history) limits s app call (cause limits s app call)

-- so it is of each of these entries
abbrev pub AreAlone : List Seen → Type 0
AreAlone [] = Unit {0}
AreAlone (x ∷ xs) = (pend_alone x.entry.call x.entry.answer ≡ true) × AreAlone xs

alone_front : (test : Bool) (x : Seen) (xs : List Seen) → pend_alone x.entry.call x.entry.answer ≡ true → AreAlone xs → AreAlone ((if test then x ∷ [] else []) ++ xs)
alone_front true x xs is all = (is, all)
alone_front false x xs is all = all

pub seen_alone : (limits : Limits) (history : List Entry) (s : State) (app : ℕ) (es : List Entry) → LegalFrom limits history s es → AreAlone (seen_from limits history s app es)
seen_alone limits history s app [] legal = tt
seen_alone limits history s app (e ∷ es) legal =
    alone_front (e.app == app) (record { entry = e; after = (step limits history s e.app e.call).1 }) (seen_from limits (history ++ e ∷ []) ((step limits history s e.app e.call).1) app es)
    (ap (pend_alone e.call) legal.1 ∙ step_alone limits history s e.app e.call)
    (seen_alone limits (history ++ e ∷ []) ((step limits history s e.app e.call).1) app es legal.4)

-- The entries of an application. --

abbrev pub entries_in : List Seen → List Entry
entries_in seen = map (λ x. x.entry) seen

entry_front : (test : Bool) (e : Entry) (s : State) (xs : List Seen) (es : List Entry) → entries_in xs ≡ es →
    entries_in ((if test then (let x : Seen = record { entry = e; after = s } in x) ∷ [] else []) ++ xs) ≡ cond {A = List Entry} test (e ∷ es) es
entry_front true e s xs es is = ap (λ l. e ∷ l) is
entry_front false e s xs es is = is

pub seen_entries : (limits : Limits) (history : List Entry) (s : State) (app : ℕ) (es : List Entry) → entries_in (seen_from limits history s app es) ≡ own_entries app es
seen_entries limits history s app [] = refl
seen_entries limits history s app (e ∷ es) =
    let after = (step limits history s e.app e.call).1 in
    entry_front (e.app == app) e after (seen_from limits (history ++ e ∷ []) after app es) (own_entries app es) (seen_entries limits (history ++ e ∷ []) after app es)

-- A place behind them. --

-- where an application is behind its own entries, each with the bus after it
abbrev pub over : ℕ → List Line → Place → List Seen → Place
over app lines p [] = p
over app lines p (x ∷ xs) = over app lines (settled app x.after lines x.entry.call x.entry.answer p) xs

over_front : (app : ℕ) (lines : List Line) (p : Place) (test : Bool) (x : Seen) (xs : List Seen) →
    over app lines p ((if test then x ∷ [] else []) ++ xs) ≡ over app lines (cond {A = Place} test (settled app x.after lines x.entry.call x.entry.answer p) p) xs
over_front app lines p true x xs = refl
over_front app lines p false x xs = refl

pub whole_push : (limits : Limits) (w : Whole) (es : List Entry) (e : Entry) → whole_from limits w (es ++ e ∷ []) ≡ (act limits (whole_from limits w es) e.app e.call).1
whole_push limits w [] e = refl
whole_push limits w (x ∷ es) e = whole_push limits ((act limits w x.app x.call).1) es e

front_legal : (limits : Limits) (history : List Entry) (s : State) (p r : List Entry) → LegalFrom limits history s (p ++ r) → LegalFrom limits history s p
front_legal limits history s [] r legal = tt
front_legal limits history s (x ∷ p) r legal =
    (legal.0, legal.1, legal.2, legal.3, front_legal limits (history ++ x ∷ []) ((step limits history s x.app x.call).1) p r legal.4)

module _ (limits : Limits) (apps app : ℕ) (lines : List Line) where
  abbrev W : List Entry → Whole
  W history = whole_after limits apps history

  abbrev S : List Entry → State
  S history = state_after limits apps history

  bus_of : (history : List Entry) → IsLegal limits apps history → (W history).bus ≡ S history
  bus_of history legal = ap (λ (w : Whole). w.bus) (whole_after-legal limits apps history legal)

  pub place_over : (before es : List Entry) (p : Place) → IsLegal limits apps (before ++ es) →
      place_from limits (W before) app lines p es ≡ over app lines p (seen_from limits before (S before) app es)
  place_over before [] p legal = refl
  place_over before (e ∷ es) p legal =
      let joined = append_assoc before (e ∷ []) es in
      let longer : IsLegal limits apps ((before ++ e ∷ []) ++ es) = subst (IsLegal limits apps) (sym joined) legal in
      let here : IsLegal limits apps (before ++ e ∷ []) = front_legal limits [] (opening limits apps) (before ++ e ∷ []) es longer in
      let next : State = (step limits before (S before) e.app e.call).1 in
      let pushed : S (before ++ e ∷ []) ≡ next = state_from-push limits [] (opening limits apps) before e in
      let moved : W (before ++ e ∷ []) ≡ (act limits (W before) e.app e.call).1 = whole_push limits (opening_whole limits apps) before e in
      let bus : ((act limits (W before) e.app e.call).1).bus ≡ next = ap (λ (w : Whole). w.bus) (sym moved) ∙ bus_of (before ++ e ∷ []) here ∙ pushed in
      ap (λ (s : State). place_from limits ((act limits (W before) e.app e.call).1) app lines (if e.app == app then settled app s lines e.call e.answer p else p) es) bus
      ∙ ap (λ (w : Whole). place_from limits w app lines (if e.app == app then settled app next lines e.call e.answer p else p) es) (sym moved)
      ∙ place_over (before ++ e ∷ []) es (if e.app == app then settled app next lines e.call e.answer p else p) longer
      ∙ ap (λ (s : State). over app lines (if e.app == app then settled app next lines e.call e.answer p else p) (seen_from limits (before ++ e ∷ []) s app es)) pushed
      ∙ sym (over_front app lines p (e.app == app) (record { entry = e; after = next }) (seen_from limits (before ++ e ∷ []) next app es))

-- Line by line. --

-- what the entry that settles a line's call makes, and what comes behind it
abbrev pub after_settled : ℕ → ℕ → (State → List Seen → List Made) → List Seen → List Made
after_settled app n rest [] = []
after_settled app n rest (last ∷ others) = made_at n (receipts_of app last) ++ rest last.after others

-- what a line makes, by the call that it makes
abbrev pub by_call : ℕ → ℕ → Option Call → (Call → BusAnswer → State → List Seen → List Made) → List Made → List Seen → List Made
by_call app n None next same seen = same
by_call app n (Some call) next same [] = []
by_call app n (Some call) next same (own ∷ others) = after_settled app n (next call own.entry.answer) (settled_from own.entry.answer own others)

-- the receipts of these lines at the bus, the first of which has this place
abbrev pub bus_made : ℕ → ℕ → Registers → Written → State → List Line → List Seen → List Made
bus_made app n registers written s [] seen = []
bus_made app n registers written s (line ∷ lines) seen =
    by_call app n (call_of registers written line)
    (λ call answer t others. bus_made app (n + 1) (registers_after registers line answer) (written_after written call answer) t lines others)
    (made_at n (shown_at_bus app s registers line) ++ bus_made app (n + 1) registers (written_by written registers.buffers line) s lines seen) seen

-- The entry that settles a line's call, and those behind it.
pub record Settles (answer : BusAnswer) (own : Seen) (others : List Seen) (Rest : List Entry → Type 0) : Type 0 where
  pub last : Seen
  pub left : List Seen
  pub same : settled_from answer own others ≡ last ∷ left
  pub rest : Rest (entries_in left)
  pub alone : AreAlone left

pending_is : (answer : BusAnswer) → is_pending answer ≡ true → answer ≡ Pending
pending_is Pending is = refl
pending_is answer is = absurd (true≢false (sym is))

settled_own : (answer : BusAnswer) (own : Seen) (others : List Seen) → is_pending answer ≡ false → settled_from answer own others ≡ own ∷ others
settled_own Pending own others is = absurd (true≢false is)
settled_own answer own others is = refl

gone_own : (app : ℕ) (s : State) (lines : List Line) (call : Call) (answer : BusAnswer) (p : Place) → is_pending answer ≡ false →
    gone_on app s lines call answer p ≡ passed app s (drop p.place lines) p
gone_own app s lines (calls.Pend pipe) Pending p is = absurd (true≢false is)
gone_own app s lines (calls.Pend pipe) answer p is = refl
gone_own app s lines call answer p is = refl

after_own : (call : Call) (answer : BusAnswer) (Rest : List Entry → Type 0) (es : List Entry) → is_pending answer ≡ false → AfterAnswer call answer Rest es → Rest es
after_own (calls.Pend pipe) Pending Rest es is after = absurd (true≢false is)
after_own (calls.Pend pipe) answer Rest es is after = after
after_own call answer Rest es is after = after

pend_of : (call : Call) → from_line call ≡ true → pend_alone call Pending ≡ true → (pipe : ℕ) × (call ≡ calls.Pend pipe)
pend_of (calls.Pend pipe) line is = (pipe, refl)
pend_of (calls.Look pipe) line is = absurd (true≢false (sym line))
pend_of call line is = absurd (true≢false (sym is))

look_behind : (pipe : ℕ) (own : Seen) (others : List Seen) (Rest : List Entry → Type 0) → AfterAnswer (calls.Pend pipe) Pending Rest (entries_in others) → AreAlone others → Settles Pending own others Rest
look_behind pipe own [] Rest after alone = absurd after
look_behind pipe own (look ∷ others) Rest after alone = record { last = look; left = others; same = refl; rest = after.1; alone = alone.1 }

pub settles : (call : Call) (answer : BusAnswer) (own : Seen) (others : List Seen) (Rest : List Entry → Type 0) → from_line call ≡ true → pend_alone call answer ≡ true → AreAlone others →
    AfterAnswer call answer Rest (entries_in others) → Settles answer own others Rest
settles call answer own others Rest line ok alone after = by (is_pending answer) refl
  where
    by : (b : Bool) → is_pending answer ≡ b → Settles answer own others Rest
    by false is = record { last = own; left = others; same = settled_own answer own others is; rest = after_own call answer Rest (entries_in others) is after; alone = alone }
    by true is =
        let pending : answer ≡ Pending = pending_is answer is in
        let pend = pend_of call line (subst (λ (a : BusAnswer). pend_alone call a ≡ true) pending ok) in
        let there : AfterAnswer (calls.Pend pend.0) Pending Rest (entries_in others) =
        subst (λ (c : Call). AfterAnswer c Pending Rest (entries_in others)) pend.1 (subst (λ (a : BusAnswer). AfterAnswer call a Rest (entries_in others)) pending after) in
        subst (λ (a : BusAnswer). Settles a own others Rest) (sym pending) (look_behind pend.0 own others Rest there alone)

-- An application's receipts are those of its lines. --

-- two receipts' places of one line
same_place : (n : ℕ) (receipts : List Made) (got : List Receipt) → (receipts ++ made_at n []) ++ made_at (n + 1 - 1) got ≡ receipts ++ made_at n got
same_place n receipts got =
    ap (λ l. l ++ made_at (n + 1 - 1) got) (append-nil receipts)
    ∙ ap (λ k. receipts ++ made_at k got) (back n)
  where
    back : (n : ℕ) → n + 1 - 1 ≡ n
    back n = omega arith

module _ (app : ℕ) (all : List Line) where
  -- what lines that are left make, from any place on
  abbrev Goes : List Line → Type 0
  Goes left =
      (p : Place) (s : State) (seen : List Seen) → drop p.place all ≡ left → Trace p.registers p.written left (entries_in seen) → AreAlone seen →
      (over app all (passed app s left p) seen).receipts ≡ p.receipts ++ bus_made app p.place p.registers p.written s left seen

  -- behind these receipts of a line come those of the lines left
  abbrev Makes : Place → Line → List Line → Call → BusAnswer → Seen → List Seen → Type 0
  Makes p line left call answer own others =
      (over app all (settled app own.after all call answer p) others).receipts
      ≡ p.receipts
      ++ after_settled app p.place (λ t more. bus_made app (p.place + 1) (registers_after p.registers line answer) (written_after p.written call answer) t left more) (settled_from answer own others)

  settles_by : (p : Place) (line : Line) (left : List Line) (call : Call) (answer : BusAnswer) (own : Seen) → slice_get all p.place ≡ Some line → from_line call ≡ true →
      settled app own.after all call answer p ≡ gone_on app own.after all call answer (behind app own.after line call answer p)
  settles_by p line left call answer own there mine =
      settled_line app own.after all call answer p mine
      ∙ ap (λ (o : Option Line). option_map_or (λ l. gone_on app own.after all call answer (behind app own.after l call answer p)) o p) there

  -- the line is settled by its own entry
  own_settles : (p : Place) (line : Line) (left : List Line) (call : Call) (answer : BusAnswer) (own : Seen) (others : List Seen) → Goes left →
      slice_get all p.place ≡ Some line → drop (p.place + 1) all ≡ left → from_line call ≡ true → own.entry.call ≡ call → own.entry.answer ≡ answer → is_pending answer ≡ false →
      Trace (registers_after p.registers line answer) (written_after p.written call answer) left (entries_in others) → AreAlone others → Makes p line left call answer own others
  own_settles p line left call answer own others goes there behind_it mine is_call is_answer is rest alone =
      let q : Place = behind app own.after line call answer p in
      let R = registers_after p.registers line answer in
      let V = written_after p.written call answer in
      let got : got_in app own.after call answer ≡ receipts_of app own = ap (λ c. got_in app own.after c answer) (sym is_call) ∙ ap (got_in app own.after own.entry.call) (sym is_answer) in
      ap (λ (x : Place). (over app all x others).receipts) (settles_by p line left call answer own there mine ∙ gone_own app own.after all call answer q is)
      ∙ ap (λ (l : List Line). (over app all (passed app own.after l q) others).receipts) behind_it
      ∙ goes q own.after others behind_it rest alone
      ∙ append_assoc p.receipts (made_at p.place (got_in app own.after call answer)) (bus_made app (p.place + 1) R V own.after left others)
      ∙ ap (λ (g : List Receipt). p.receipts ++ (made_at p.place g ++ bus_made app (p.place + 1) R V own.after left others)) got
      ∙ ap (λ (l : List Seen). p.receipts ++ after_settled app p.place (λ t more. bus_made app (p.place + 1) R V t left more) l) (sym (settled_own answer own others is))

  -- or by the look behind it
  look_settles : (p : Place) (line : Line) (left : List Line) (pipe : ℕ) (own : Seen) (others : List Seen) → Goes left →
      slice_get all p.place ≡ Some line → drop (p.place + 1) all ≡ left →
      AfterAnswer (calls.Pend pipe) Pending (Trace (registers_after p.registers line Pending) (written_after p.written (calls.Pend pipe) Pending) left) (entries_in others) → AreAlone others →
      Makes p line left (calls.Pend pipe) Pending own others
  look_settles p line left pipe own [] goes there behind_it after alone = absurd after
  look_settles p line left pipe own (look ∷ others) goes there behind_it after alone =
      let q : Place = behind app own.after line (calls.Pend pipe) Pending p in
      let R = registers_after p.registers line Pending in
      let V = written_after p.written (calls.Pend pipe) Pending in
      let answer = look.entry.answer in
      let q2 : Place = looked app look.after (calls.Look pipe) answer q in
      let got : got_in app look.after (calls.Look pipe) answer ≡ receipts_of app look = ap (λ c. got_in app look.after c answer) (sym after.0) in
      ap (λ (x : Place). (over app all x (look ∷ others)).receipts) (settles_by p line left (calls.Pend pipe) Pending own there refl)
      ∙ ap (λ c. (over app all (settled app look.after all c answer q) others).receipts) after.0
      ∙ ap (λ (l : List Line). (over app all (passed app look.after l q2) others).receipts) behind_it
      ∙ goes q2 look.after others behind_it after.1 alone.1
      ∙ ap (λ l. l ++ bus_made app (p.place + 1) R V look.after left others) (same_place p.place p.receipts (got_in app look.after (calls.Look pipe) answer))
      ∙ append_assoc p.receipts (made_at p.place (got_in app look.after (calls.Look pipe) answer)) (bus_made app (p.place + 1) R V look.after left others)
      ∙ ap (λ (g : List Receipt). p.receipts ++ (made_at p.place g ++ bus_made app (p.place + 1) R V look.after left others)) got

  line_makes_receipts : (p : Place) (line : Line) (left : List Line) (call : Call) (answer : BusAnswer) (own : Seen) (others : List Seen) → Goes left →
      slice_get all p.place ≡ Some line → drop (p.place + 1) all ≡ left → from_line call ≡ true → own.entry.call ≡ call → own.entry.answer ≡ answer → pend_alone call answer ≡ true →
      AfterAnswer call answer (Trace (registers_after p.registers line answer) (written_after p.written call answer) left) (entries_in others) → AreAlone others → Makes p line left call answer own others
  line_makes_receipts p line left call answer own others goes there behind_it mine is_call is_answer ok after alone = by (is_pending answer) refl
    where
      by : (b : Bool) → is_pending answer ≡ b → Makes p line left call answer own others
      by false is =
          own_settles p line left call answer own others goes there behind_it mine is_call is_answer is
          (after_own call answer (Trace (registers_after p.registers line answer) (written_after p.written call answer) left) (entries_in others) is after) alone
      by true is =
          let pending : answer ≡ Pending = pending_is answer is in
          let pend = pend_of call mine (subst (λ (a : BusAnswer). pend_alone call a ≡ true) pending ok) in
          let After : Call → BusAnswer → Type 0 = λ c a. AfterAnswer c a (Trace (registers_after p.registers line a) (written_after p.written c a) left) (entries_in others) in
          let there_after : After (calls.Pend pend.0) Pending = subst (λ (c : Call). After c Pending) pend.1 (subst (λ (a : BusAnswer). After call a) pending after) in
          subst (λ (a : BusAnswer). Makes p line left call a own others) (sym pending)
          (subst (λ (c : Call). Makes p line left c Pending own others) (sym pend.1) (look_settles p line left pend.0 own others goes there behind_it there_after alone))

  at_end : (p : Place) (s : State) (seen : List Seen) → IsEnd (entries_in seen) → (over app all p seen).receipts ≡ p.receipts ++ []
  at_end p s [] end = absurd end
  at_end p s (x ∷ []) end = ap (λ c. (settled app x.after all c x.entry.answer p).receipts) end ∙ sym (append-nil p.receipts)
  at_end p s (x ∷ y ∷ seen) end = absurd end

  a_line : (line : Line) (left : List Line) → Goes left → Goes (line ∷ left)
  a_line line left goes p s seen is trace alone = by (call_of p.registers p.written line) refl
    where
      found : (slice_get all p.place ≡ Some line) × (drop (p.place + 1) all ≡ left)
      found = line_there all p.place line left is

      Owed : Option Call → List Entry → Type 0
      Owed made es =
          LineEntries made (λ call answer rest. Trace (registers_after p.registers line answer) (written_after p.written call answer) left rest)
          (λ rest. Trace p.registers (written_by p.written p.registers.buffers line) left rest) es

      Due : List Seen → Option Call → Type 0
      Due xs made =
          (over app all (cond {A = Place} (is_some made) p (passed app s left (past app s line p))) xs).receipts
          ≡ p.receipts
          ++ by_call app p.place made
          (λ call answer t others. bus_made app (p.place + 1) (registers_after p.registers line answer) (written_after p.written call answer) t left others)
          (made_at p.place (shown_at_bus app s p.registers line) ++ bus_made app (p.place + 1) p.registers (written_by p.written p.registers.buffers line) s left xs) xs

      silent : Owed None (entries_in seen) → Due seen None
      silent owed =
          goes (past app s line p) s seen found.1 owed alone
          ∙ append_assoc p.receipts (made_at p.place (shown_at_bus app s p.registers line)) (bus_made app (p.place + 1) p.registers (written_by p.written p.registers.buffers line) s left seen)

      called : (call : Call) (xs : List Seen) → call_of p.registers p.written line ≡ Some call → Owed (Some call) (entries_in xs) → AreAlone xs → Due xs (Some call)
      called call [] some owed all_alone = absurd owed
      called call (own ∷ others) some owed all_alone =
          let mine = line_makes p.registers p.written line call some in
          ap (λ c. (over app all (settled app own.after all c own.entry.answer p) others).receipts) owed.0
          ∙ line_makes_receipts p line left call own.entry.answer own others goes found.0 found.1 mine owed.0 refl
          (subst (λ (c : Call). pend_alone c own.entry.answer ≡ true) owed.0 all_alone.0) owed.1 all_alone.1

      by : (made : Option Call) → call_of p.registers p.written line ≡ made → Due seen (call_of p.registers p.written line)
      by None none = subst (Due seen) (sym none) (silent (subst (λ (m : Option Call). Owed m (entries_in seen)) none trace))
      by (Some call) some = subst (Due seen) (sym some) (called call seen some (subst (λ (m : Option Call). Owed m (entries_in seen)) some trace) alone)

  pub lines_make : (left : List Line) → Goes left
  lines_make [] p s seen is trace alone = at_end p s seen trace
  lines_make (line ∷ left) p s seen is trace alone = a_line line left (lines_make left) p s seen is trace alone
