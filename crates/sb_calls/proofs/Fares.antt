-- What becomes of a pipe by a receive on it and by its end, as the machine has it.
use Rattle.std.proofs.Common.{◌≡◌, ℕ, ◌==◌, ◌&&◌, not, Bool, true, false, cond, true≢false, IsTrue, List, [], ◌∷◌, length, Option, Some, None, is_some, refl, ap, sym, ◌∙◌, subst}
use Rattle.std.specs.Option.{option_map_or, option_and_then}
use Rattle.fsw_base.specs.declared.statuses.SbStatus.TheVariants.{BadArgument, NoMessage}
use Rattle.fsw_base.specs.Limits.{Limits}
use Rattle.bus_words.specs.declared.calls.BusAnswer.{BusAnswer}
use Rattle.bus_words.specs.declared.calls.BusAnswer.TheVariants.{Got, TimeOut, Pending}
use Rattle.bus_words.specs.declared.history.Call.{Call}
use Rattle.bus_words.specs.declared.history.Call.TheVariants.{Delete, Receive, Pend, Look}
use Rattle.bus_words.specs.declared.history.Entry.{Entry}
use Rattle.bus_words.specs.Alone.{gets_from}
use Rattle.bus_words.specs.Bus.{Item, Pipe, State, Active, Waiting, standing_of, pipe_at, owns, with_pipe, with_standing, is_empty, others_idle, oldest, after_receive}
use Rattle.bus_words.specs.Machine.{by_bus, refused_if, received, oldest_number, decided, step, may_call, makes_entry}
use Rattle.bus_words.proofs.Finds.{same-self, find-filter_none}
use Rattle.bus_words.proofs.KeptPipes.{owns-with_pipe}
use Rattle.bus_words.proofs.Lasts.{last-emptied}
use Rattle.bus_words.proofs.LegalSteps.{AreWaiters, WaitsOwn, waits_on}
use Rattle.bus_words.specs.Pipes.{last_on}

pub data Fares (pipes now : List Pipe) (app pipe : ℕ) (gives : Bool) : Type 0 where
  -- it gives a message, which is its last then
  Given : gives ≡ true → owns now app pipe ≡ true → is_some (last_on now pipe) ≡ true → Fares pipes now app pipe gives
  -- it has no last message any more
  Emptied : gives ≡ false → last_on now pipe ≡ None → Fares pipes now app pipe gives
  -- it isn't the application's, and nothing changes
  Refused : gives ≡ false → owns pipes app pipe ≡ false → now ≡ pipes → Fares pipes now app pipe gives

last-taken : (pipes : List Pipe) (p : ℕ) → is_empty pipes p ≡ false → is_some (last_on (with_pipe after_receive p pipes) p) ≡ true
last-taken [] p some = absurd (true≢false some)
last-taken (x ∷ pipes) p some = by_test (x.number == p) refl (last-taken pipes p) some
  where
    an_item : (queue : List Item) → (length queue == 0) ≡ false → is_some (oldest queue) ≡ true
    an_item [] none = absurd (true≢false none)
    an_item (item ∷ queue) some = refl

    by_test : (b : Bool) → (x.number == p) ≡ b → (is_empty pipes p ≡ false → is_some (last_on (with_pipe after_receive p pipes) p) ≡ true) →
        option_map_or (λ (y : Pipe). length y.queue == 0) (cond {A = Option Pipe} b (Some x) (pipe_at pipes p)) true ≡ false →
        is_some (last_on (cond {A = Pipe} b (after_receive x) x ∷ with_pipe after_receive p pipes) p) ≡ true
    by_test true e ih some =
        ap (λ b. is_some (option_and_then (λ (y : Pipe). y.last) (cond {A = Option Pipe} b (Some (after_receive x)) (pipe_at (with_pipe after_receive p pipes) p)))) e ∙ an_item x.queue some
    by_test false e ih some =
        ap (λ b. is_some (option_and_then (λ (y : Pipe). y.last) (cond {A = Option Pipe} b (Some x) (pipe_at (with_pipe after_receive p pipes) p)))) e ∙ ih some

-- a pipe of the application's gives its oldest message
given : (pipes : List Pipe) (app pipe : ℕ) (gives : Bool) → gives ≡ true → owns pipes app pipe ≡ true → is_empty pipes pipe ≡ false → Fares pipes (with_pipe after_receive pipe pipes) app pipe gives
given pipes app pipe gives is own some = Given is (owns-with_pipe after_receive (λ x. refl) (λ x. refl) pipe pipes app pipe ∙ own) (last-taken pipes pipe some)

-- it has none
emptied : (pipes : List Pipe) (app pipe : ℕ) → is_empty pipes pipe ≡ true → Fares pipes (with_pipe after_receive pipe pipes) app pipe false
emptied pipes app pipe empty = Emptied refl (last-emptied pipes pipe empty)

module _ (limits : Limits) (history : List Entry) (s : State) (app pipe : ℕ) where
  -- this is what the call does to the pipe
  abbrev ByCall : Call → BusAnswer × State → Type 0
  ByCall call made = Fares s.pipes made.1.pipes app pipe (gets_from pipe (record { app = app; call = call; answer = made.0 }))

  pub fares-receive : ByCall (Receive pipe) (step limits history s app (Receive pipe))
  fares-receive = by_tests (owns s.pipes app pipe) refl (is_empty s.pipes pipe) refl
    where
      by_tests : (own : Bool) → owns s.pipes app pipe ≡ own → (empty : Bool) → is_empty s.pipes pipe ≡ empty →
          ByCall (Receive pipe) (decided limits history s app (Receive pipe) (by_bus (refused_if (not own) BadArgument (refused_if empty NoMessage None))))
      by_tests false own empty is = Refused refl own refl
      by_tests true own true is = emptied s.pipes app pipe is
      by_tests true own false is = given s.pipes app pipe _ (same-self pipe) own is

  -- by the answer of a receive that may wait, on a pipe of the application's
  abbrev waits : Bool → Bool → BusAnswer
  waits empty idle = cond {A = BusAnswer} (not empty) (Got (oldest_number s.pipes pipe)) (cond {A = BusAnswer} idle TimeOut Pending)

  accepted-pend : owns s.pipes app pipe ≡ true → (empty : Bool) → is_empty s.pipes pipe ≡ empty → (idle : Bool) →
      ByCall (Pend pipe) (waits empty idle, cond {A = State} (empty && not idle) (with_standing (received s pipe) app (Waiting pipe)) (received s pipe))
  accepted-pend own true is true = emptied s.pipes app pipe is
  accepted-pend own true is false = emptied s.pipes app pipe is
  accepted-pend own false is idle = given s.pipes app pipe _ (same-self pipe) own is

  pub fares-pend : ByCall (Pend pipe) (step limits history s app (Pend pipe))
  fares-pend = by_test (owns s.pipes app pipe) refl
    where
      by_test : (own : Bool) → owns s.pipes app pipe ≡ own → ByCall (Pend pipe) (decided limits history s app (Pend pipe) (by_bus (refused_if (not own) BadArgument None)))
      by_test false own = Refused refl own refl
      by_test true own = accepted-pend own (is_empty s.pipes pipe) refl (others_idle s app)

  -- by a look that makes an entry
  pub fares-look : owns s.pipes app pipe ≡ true → IsTrue (makes_entry (Look pipe) ((step limits history s app (Look pipe)).0)) → ByCall (Look pipe) (step limits history s app (Look pipe))
  fares-look own makes = by_tests (is_empty s.pipes pipe) refl (others_idle s app) makes
    where
      by_tests : (empty : Bool) → is_empty s.pipes pipe ≡ empty → (idle : Bool) → IsTrue (makes_entry (Look pipe) (waits empty idle)) →
          ByCall (Look pipe) (waits empty idle, cond {A = State} (empty && not idle) s (with_standing (received s pipe) app Active))
      by_tests true is true makes = emptied s.pipes app pipe is
      by_tests true is false makes = absurd (true≢false (sym makes))
      by_tests false is idle makes = given s.pipes app pipe _ (same-self pipe) own is

  pub fares-delete : ByCall (Delete pipe) (step limits history s app (Delete pipe))
  fares-delete = by_test (owns s.pipes app pipe) refl
    where
      by_test : (own : Bool) → owns s.pipes app pipe ≡ own → ByCall (Delete pipe) (decided limits history s app (Delete pipe) (by_bus (refused_if (not own) BadArgument None)))
      by_test false own = Refused refl own refl
      by_test true own =
          Emptied refl (ap (option_and_then (λ (x : Pipe). x.last)) (find-filter_none (λ (x : Pipe). x.number == pipe) (λ x. not (x.number == pipe)) (λ x is. ap not is) s.pipes))

-- who looks waits on a pipe of its own
pub waits_own : (s : State) (app pipe : ℕ) → AreWaiters s → IsTrue (may_call (standing_of s app) (Look pipe)) → owns s.pipes app pipe ≡ true
waits_own s app pipe waiters may = subst (WaitsOwn s.pipes app) (waits_on (standing_of s app) pipe may) (waiters.waits app)

-- a pipe that gave a message is the application's
pub still_own : (pipes now : List Pipe) (app pipe : ℕ) (gives : Bool) → Fares pipes now app pipe gives → gives ≡ true → owns now app pipe ≡ true
still_own pipes now app pipe gives (Given is own some) gave = own
still_own pipes now app pipe gives (Emptied is gone) gave = absurd (true≢false (sym gave ∙ is))
still_own pipes now app pipe gives (Refused is not_his stays) gave = absurd (true≢false (sym gave ∙ is))
