-- What receives answer and leave.
use Rattle.std.proofs.Common.{◌≡◌, ℕ, ◌-◌, Bool, true, false, ◌&&◌, not, cond, List, set, Option, Some, None, refl, ap, sym, ◌∙◌}
use Rattle.fsw_base.specs.declared.statuses.SbStatus.{SbStatus}
use Rattle.fsw_base.specs.declared.statuses.SbStatus.TheVariants.{BadArgument, NoMessage}
use Rattle.bus_words.specs.declared.calls.BusAnswer.{BusAnswer}
use Rattle.bus_words.specs.declared.calls.BusAnswer.TheVariants.{Got, Sb}
use Rattle.bus_words.specs.declared.history.Call.TheVariants.{Receive, Pend, Look}
use Rattle.bus_words.specs.Bus.{State, Standing, Active, Waiting, owns, is_empty, others_idle, with_standing, with_pipe, after_receive}
use Rattle.bus_words.specs.Refusals.{Refusal, OfBus}
use Rattle.bus_words.specs.Machine.{by_bus, refused_if, unowned_cause, oldest_number, pended_answer, received}
use Rattle.bus_words.specs.Acts.{Whole}
use Rattle.list_messages.specs.Messages.{Messages, Named}
use Rattle.list_bus.specs.Played.{Played}
use Rattle.list_bus.specs.Decided.{decided}
use Rattle.list_bus.specs.Inside.{means, played_in}
use Rattle.list_bus.specs.declared.bus.ListBus.TheInside.{Inside}
use Rattle.list_bus.proofs.DecidedCalls.{decided_by, with_part}

-- the state with this bus
abbrev pub with_bus : Whole → State → Whole
with_bus w s = record w { bus = s }

module _ (p : Played) (app pipe : ℕ) where
  abbrev s : State
  s = p.whole.bus

  -- why a receive is refused, by whether the pipe is the application's own, and empty
  abbrev why : Bool → Bool → Option Refusal
  why own empty = by_bus (refused_if (not own) BadArgument (refused_if empty NoMessage None))

  -- of a pipe that isn't the application's own
  pub not_owned : (status : SbStatus) → unowned_cause s app pipe ≡ Some status → decided p app (Receive pipe) ≡ (Sb status, p.whole)
  not_owned status is = by_test (owns s.pipes app pipe) refl
    where
      by_test : (own : Bool) → owns s.pipes app pipe ≡ own → decided p app (Receive pipe) ≡ (Sb status, p.whole)
      by_test true it =
          let none : None ≡ Some status = sym (ap (λ b. refused_if (not b) BadArgument None) it) ∙ is in
          absurd (cc (none))
      by_test false it =
          let bad : Some BadArgument ≡ Some status = sym (ap (λ b. refused_if (not b) BadArgument None) it) ∙ is in
          let same : BadArgument ≡ status = cc (bad) in
          decided_by p app (Receive pipe) (Some (OfBus BadArgument)) (ap (λ b. why b (is_empty s.pipes pipe)) it) ∙ ap (λ it_is. (Sb it_is, p.whole)) same

  -- of its own pipe
  pub owned : unowned_cause s app pipe ≡ None →
      decided p app (Receive pipe) ≡ (cond {A = BusAnswer} (is_empty s.pipes pipe) (Sb NoMessage) (Got (oldest_number s.pipes pipe)), with_bus p.whole (received s pipe))
  owned is = by_tests (owns s.pipes app pipe) (is_empty s.pipes pipe) refl refl
    where
      left : Bool → BusAnswer × Whole
      left empty = (cond {A = BusAnswer} empty (Sb NoMessage) (Got (oldest_number s.pipes pipe)), with_bus p.whole (received s pipe))

      by_tests : (own empty : Bool) → owns s.pipes app pipe ≡ own → is_empty s.pipes pipe ≡ empty → decided p app (Receive pipe) ≡ left (is_empty s.pipes pipe)
      by_tests false empty it none =
          let bad : Some BadArgument ≡ None = sym (ap (λ b. refused_if (not b) BadArgument None) it) ∙ is in
          absurd (cc (bad))
      by_tests true true it none =
          decided_by p app (Receive pipe) (Some (OfBus NoMessage)) (ap (λ b. why b (is_empty s.pipes pipe)) it ∙ ap (why true) none) ∙ sym (ap left none)
      by_tests true false it none =
          decided_by p app (Receive pipe) None (ap (λ b. why b (is_empty s.pipes pipe)) it ∙ ap (why true) none) ∙ sym (ap left none)

  -- Receives that may wait. --

  -- whether the application has to wait
  abbrev pub waits : Bool
  waits = is_empty s.pipes pipe && not (others_idle s app)

  -- the bus after a receive, with these standings
  abbrev pub standing_so : List Standing → State
  standing_so standings = record (received s pipe) { standings = standings }

  pub pended : unowned_cause s app pipe ≡ None →
      decided p app (Pend pipe)
      ≡ (pended_answer s app pipe, with_bus p.whole (standing_so (cond {A = List Standing} waits (set s.standings (app - 1) (Waiting pipe)) s.standings)))
  pended is = decided_by p app (Pend pipe) None (ap by_bus is) ∙ by_test waits
    where
      left : State → BusAnswer × Whole
      left after = (pended_answer s app pipe, with_bus p.whole after)

      by_test : (b : Bool) →
          left (cond {A = State} b (with_standing (received s pipe) app (Waiting pipe)) (received s pipe))
          ≡ left (standing_so (cond {A = List Standing} b (set s.standings (app - 1) (Waiting pipe)) s.standings))
      by_test true = refl
      by_test false = refl

  -- the bus after a look
  abbrev after_look : Bool → State
  after_look b = cond {A = State} b s (with_standing (received s pipe) app Active)

  abbrev left_after : Bool → BusAnswer × Whole
  left_after b = (pended_answer s app pipe, with_bus p.whole (after_look b))

  pub still_waits : waits ≡ true → decided p app (Look pipe) ≡ (pended_answer s app pipe, p.whole)
  still_waits is = ap left_after is

  pub looked : waits ≡ false → decided p app (Look pipe) ≡ (pended_answer s app pipe, with_bus p.whole (standing_so (set s.standings (app - 1) Active)))
  looked is = ap left_after is

-- By the fields. --

module _ (a : Inside) (m : Named) (app pipe : ℕ) (is : m.part ≡ record a.messages.part { pipes = with_pipe after_receive pipe a.messages.part.pipes }) where
  -- the answer, and the state with this part of messages and these standings
  abbrev left : BusAnswer → Messages → List Standing → BusAnswer × Whole
  left answer part standings = (answer, record (means (with_part a part m.uses)) { bus = record (means (with_part a part m.uses)).bus { standings = standings } })

  -- the part once the message was received
  abbrev after : Messages
  after = record a.messages.part { pipes = with_pipe after_receive pipe a.messages.part.pipes }

  abbrev now : List Standing
  now = (means a).bus.standings

  pub received_made : unowned_cause (means a).bus app pipe ≡ None → (answer : BusAnswer) →
      answer ≡ cond {A = BusAnswer} (is_empty a.messages.part.pipes pipe) (Sb NoMessage) (Got (oldest_number a.messages.part.pipes pipe)) →
      decided (played_in a) app (Receive pipe) ≡ left answer m.part now
  received_made none answer answers =
      owned (played_in a) app pipe none ∙ ap (λ x. left x after now) (sym answers) ∙ ap (λ p. left answer p now) (sym is)

  module _ (answer : BusAnswer) (must : Bool) (standings : List Standing) (answers : answer ≡ pended_answer (means a).bus app pipe)
      (musts : must ≡ waits (played_in a) app pipe) where
    pub pended_made : unowned_cause (means a).bus app pipe ≡ None → standings ≡ cond {A = List Standing} must (set now (app - 1) (Waiting pipe)) now →
        decided (played_in a) app (Pend pipe) ≡ left answer m.part standings
    pended_made none stand =
        let w = waits (played_in a) app pipe in
        pended (played_in a) app pipe none
        ∙ ap (λ x. left x after (cond {A = List Standing} w (set now (app - 1) (Waiting pipe)) now)) (sym answers)
        ∙ ap (λ b. left answer after (cond {A = List Standing} b (set now (app - 1) (Waiting pipe)) now)) (sym musts)
        ∙ ap (left answer after) (sym stand)
        ∙ ap (λ p. left answer p standings) (sym is)

    pub looked_made : must ≡ false → standings ≡ set now (app - 1) Active → decided (played_in a) app (Look pipe) ≡ left answer m.part standings
    looked_made done stand =
        looked (played_in a) app pipe (sym musts ∙ done)
        ∙ ap (λ x. left x after (set now (app - 1) Active)) (sym answers)
        ∙ ap (left answer after) (sym stand)
        ∙ ap (λ p. left answer p standings) (sym is)
