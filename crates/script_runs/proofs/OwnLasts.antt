-- The last messages of an application's own pipes: none comes but by the call that gives it, which tells its number.
use Rattle.std.proofs.Common.{◌≡◌, ℕ, ◌==◌, ◌&&◌, ◌||◌, true, false, cond, true≢false, eqb-true, IsTrue, List, [], ◌∷◌, ◌++◌, Option, Some, None, IfSome, refl, ap, sym, ◌∙◌}
use Rattle.std.specs.Option.{option_map, option_map_or, option_and_then}
use Rattle.fsw_base.specs.Limits.{Limits}
use Rattle.bus_words.specs.declared.calls.BusAnswer.TheVariants.{Got}
use Rattle.bus_words.specs.declared.history.Call.{Call}
use Rattle.bus_words.specs.declared.history.Entry.{Entry}
use Rattle.bus_words.specs.declared.receipts.Receipt.{Receipt}
use Rattle.bus_words.specs.Alone.{Received, last_of, gets_from}
use Rattle.bus_words.specs.Bus.{Item, Pipe, State, standing_of, owns, pipe_at}
use Rattle.bus_words.specs.Machine.{step, may_call, state_after, IsLegal}
use Rattle.bus_words.specs.Receipts.{message_receipt, receipt_in}
use Rattle.bus_words.proofs.Finds.{same-self}
use Rattle.bus_words.proofs.Isolation.{gives_newest}
use Rattle.bus_words.proofs.KeptPipes.{IsKept, single-rising, owns-one}
use Rattle.bus_words.proofs.Lasts.{last_at, from-step}
use Rattle.bus_words.proofs.LegalSteps.{AreWaiters, kept-step}
use Rattle.bus_words.proofs.Steps.{AreNumbered-step}
use Rattle.script_runs.specs.Told.{own_last}

-- the receipt of a pipe is that of the own last message
pub receipt_in-own : (s : State) (app number : ℕ) → receipt_in s app number ≡ option_map (λ item. message_receipt number item.number item.message) (own_last s.pipes app number)
receipt_in-own s app number =
    elim (owns s.pipes app number) as (λ b. cond {A = Option Receipt} b (receipt_of (pipe_at s.pipes number)) None
    ≡ option_map (λ item. message_receipt number item.number item.message) (cond {A = Option Item} b (last_at s.pipes number) None)) [
      | true ↦ through (pipe_at s.pipes number)
      | false ↦ refl
    ]
  where
    receipt_of : Option Pipe → Option Receipt
    receipt_of found = option_and_then (λ pipe. option_map (λ item. message_receipt number item.number item.message) pipe.last) found

    through : (found : Option Pipe) → receipt_of found ≡ option_map (λ item. message_receipt number item.number item.message) (option_and_then (λ pipe. pipe.last) found)
    through None = refl
    through (Some pipe) = refl

-- what is kept of an application's pipes are their last messages
pub own_last-kept : (pipes now : List Pipe) (app number : ℕ) → IsKept pipes now app number → own_last now app number ≡ own_last pipes app number
own_last-kept pipes now app number kept =
    ap (λ b. cond {A = Option Item} b (last_at now number) None) kept.owned
    ∙ elim (owns pipes app number) as (λ b. owns pipes app number ≡ b → cond {A = Option Item} b (last_at now number) None ≡ cond {A = Option Item} b (last_at pipes number) None) [
      | true ↦ λ own. kept.last own
      | false ↦ λ out. refl
    ] refl

-- a last message of its own is one of a pipe that the application owns
pub own_last-some : (pipes : List Pipe) (app number : ℕ) (item : Item) → own_last pipes app number ≡ Some item → (owns pipes app number ≡ true) × (last_at pipes number ≡ Some item)
own_last-some pipes app number item is =
    elim (owns pipes app number) as (λ b. owns pipes app number ≡ b → cond {A = Option Item} b (last_at pipes number) None ≡ Some item → (owns pipes app number ≡ true) × (last_at pipes number ≡ Some item)) [
      | true ↦ λ own last. (own, last)
      | false ↦ λ out none. absurd (cc none)
    ] refl is

found_last : (found : Option Pipe) (item : Item) → option_and_then (λ pipe. pipe.last) found ≡ Some item → (pipe : Pipe) × (found ≡ Some pipe)
found_last None item is = absurd (cc is)
found_last (Some pipe) item is = (pipe, refl)

-- a live pipe is its owner's
owner-owns : (pipes : List Pipe) (number : ℕ) (pipe : Pipe) → pipe_at pipes number ≡ Some pipe → owns pipes pipe.owner number ≡ true
owner-owns [] number pipe is = absurd (cc is)
owner-owns (x ∷ pipes) number pipe is =
    elim (x.number == number) as (λ b. cond {A = Option Pipe} b (Some x) (pipe_at pipes number) ≡ Some pipe → ((b && x.owner == pipe.owner) || owns pipes pipe.owner number) ≡ true) [
      | true ↦ λ here.
          let same : x ≡ pipe = cc here in
          ap (λ b. b || owns pipes pipe.owner number) (ap (λ (p : Pipe). p.owner == pipe.owner) same ∙ same-self pipe.owner)
      | false ↦ λ there. owner-owns pipes number pipe there
    ] is

module _ (limits : Limits) (history : List Entry) (s : State) (app number : ℕ) (call : Call) (waiters : AreWaiters s) (may : IsTrue (may_call (standing_of s app) call)) where
  -- a pipe that the application owns after its call and that had a message was its own
  own-before : (item : Item) → last_at s.pipes number ≡ Some item → owns ((step limits history s app call).1).pipes app number ≡ true → owns s.pipes app number ≡ true
  own-before item last own =
      let now = (step limits history s app call).1 in
      let found = found_last (pipe_at s.pipes number) item last in
      let pipe = found.0 in
      let its = owner-owns s.pipes number pipe found.1 in
      elim (pipe.owner == app) as (λ b. (pipe.owner == app) ≡ b → owns s.pipes app number ≡ true) [
        | true ↦ λ is. ap (λ n. owns s.pipes n number) (sym (eqb-true pipe.owner app is)) ∙ its
        | false ↦ λ differ.
            let kept = kept-step limits history s app pipe.owner number call waiters may differ in
            let single = single-rising 0 now.pipes_created now.pipes (AreNumbered-step limits history s app call waiters.numbered).pipes in
            absurd (true≢false (sym (kept.owned ∙ its) ∙ owns-one now.pipes app pipe.owner number single differ own))
      ] refl

  -- a last message that the call didn't give was there before
  pub own-from : (item : Item) → gets_from number (record { app = app; call = call; answer = (step limits history s app call).0 }) ≡ false →
      own_last ((step limits history s app call).1).pipes app number ≡ Some item → own_last s.pipes app number ≡ Some item
  own-from item none is =
      let now = own_last-some ((step limits history s app call).1).pipes app number item is in
      let last = from-step limits history s number app waiters.numbered call none item now.1 in
      ap (λ b. cond {A = Option Item} b (last_at s.pipes number) None) (own-before item last now.0) ∙ last

-- The message that an entry gives has the number that is told. --

number_told : (found : Option Pipe) (item : Item) (message : Received) → option_and_then (λ (pipe : Pipe). pipe.last) found ≡ Some item →
    option_map_or (λ (pipe : Pipe). last_of pipe.last) found [] ≡ message ∷ [] → item.number ≡ message.number
number_told None item message is last = absurd (cc is)
number_told (Some pipe) item message is last = cc (is, last)

pub tells-number : (limits : Limits) (apps app number told : ℕ) (history : List Entry) (e : Entry) → IsLegal limits apps (history ++ e ∷ []) → gets_from number e ≡ true → e.answer ≡ Got told →
    IfSome (own_last (state_after limits apps (history ++ e ∷ [])).pipes app number) (λ item. item.number ≡ told)
tells-number limits apps app number told history e legal gets answer = by_last (own_last pipes app number) refl
  where
    pipes : List Pipe
    pipes = (state_after limits apps (history ++ e ∷ [])).pipes

    by_last : (found : Option Item) → own_last pipes app number ≡ found → IfSome found (λ item. item.number ≡ told)
    by_last None is = tt
    by_last (Some item) is =
        let gives = gives_newest limits apps number history e legal gets in
        let same : Got gives.0.number ≡ Got told = sym gives.1.answer ∙ answer in
        let numbers : gives.0.number ≡ told = cc same in
        number_told (pipe_at pipes number) item gives.0 (own_last-some pipes app number item is).1 gives.1.last ∙ numbers
