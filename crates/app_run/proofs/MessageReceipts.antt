-- What a bag shows of an application's last messages, and the receipts made of it.
use Rattle.std.proofs.Common.{◌≡◌, ℕ, true, false, cond, List, [], ◌∷◌, Option, Some, None, IfSome, IsSome, unwrap_or, refl, ap, sym, ◌∙◌, subst}
use Rattle.std.specs.Option.{option_map, option_and_then, option_to_list}
use Rattle.ccsds_msg.specs.Message.{IsMessage}
use Rattle.lend_block.specs.Loan.{LentBytes}
use Rattle.buf_desc.specs.Held.{Holding}
use Rattle.bus_words.specs.declared.calls.BusAnswer.{BusAnswer}
use Rattle.bus_words.specs.declared.calls.BusAnswer.TheVariants.{Got}
use Rattle.bus_words.specs.declared.history.Call.{Call}
use Rattle.bus_words.specs.declared.history.Call.TheVariants as calls
use Rattle.bus_words.specs.declared.receipts.Receipt.{Receipt}
use Rattle.bus_words.specs.declared.receipts.Receipt.TheVariants.{Nothing}
use Rattle.bus_words.specs.declared.history.Entry.{Entry}
use Rattle.bus_words.specs.Alone.{gets_from}
use Rattle.bus_words.specs.Bus.{Item, owns, pipe_at}
use Rattle.bus_words.specs.Receipts.{message_receipt, receipt_in}
use Rattle.bus_words.proofs.Finds.{same-self}
use Rattle.bus_messages.specs.Words.{loan_of}
use Rattle.sb_calls.specs.Bags.{HasBag, loans_of}
use Rattle.sb_calls.specs.Core.{Core, Does, IsLegalCore, apps_of, state_of}
use Rattle.sb_calls.specs.Views.{bytes_seen}
use Rattle.script_runs.specs.Told.{own_last, got_in}
use Rattle.script_runs.proofs.OnlyMessages.{own_last-message}
use Rattle.script_runs.proofs.OwnLasts.{receipt_in-own, tells-number}
use Rattle.app_calls.specs.Callers.{Caller, HasOwnBag}
use Rattle.app_run.specs.Received.{taken_from, taken_by, newest_number, Remember}

-- the bag shows the bytes of each own last message
seen-own : (core : Core) (app pipe : ℕ) (bag : Holding LentBytes) → HasBag core app bag → bytes_seen bag pipe ≡ option_map (λ item. item.message) (own_last (state_of core).pipes app pipe)
seen-own core app pipe bag holds =
    ap (option_map (λ view. view.bytes)) (holds.views.seen pipe)
    ∙ elim (owns (state_of core).pipes app pipe) as (λ b.
    option_map (λ (view : LentBytes). view.bytes) (cond {A = Option LentBytes} b (option_map (λ item. record { loan = loan_of (loans_of core) pipe; bytes = item.message }) (last pipe)) None)
    ≡ option_map (λ item. item.message) (cond {A = Option Item} b (last pipe) None)) [
      | true ↦ through (last pipe)
      | false ↦ refl
    ]
  where
    last : ℕ → Option Item
    last number = option_and_then (λ found. found.last) (pipe_at (state_of core).pipes number)

    through : (found : Option Item) →
        option_map (λ (view : LentBytes). view.bytes) (option_map (λ item. record { loan = loan_of (loans_of core) pipe; bytes = item.message }) found)
        ≡ option_map (λ item. item.message) found
    through None = refl
    through (Some item) = refl

-- the message that was read is the own last one
read-last : (found : Option Item) (bytes : List ℕ) → Some bytes ≡ option_map (λ item. item.message) found → (item : Item) × (found ≡ Some item) × (bytes ≡ item.message)
read-last None bytes is = absurd cc
read-last (Some item) bytes is = (item, refl, cc is)

module _ (caller : Caller) (pipe : ℕ) (bag : HasOwnBag caller) where
  abbrev last_item : Option Item
  last_item = own_last (state_of caller.core).pipes caller.app pipe

  -- it is a message
  pub is-message : (bytes : List ℕ) → Some bytes ≡ bytes_seen caller.bag pipe → IsMessage bytes
  is-message bytes seen =
      let found = read-last last_item bytes (seen ∙ seen-own caller.core caller.app pipe caller.bag bag) in
      let message = subst (λ o. IfSome o (λ (item : Item). IsMessage item.message)) found.1 (own_last-message caller.core.limits (apps_of caller.core) caller.core.log.entries caller.app pipe) in
      subst (λ b. IsMessage b) (sym found.2) message

  pub taken-one : (number : ℕ) (bytes : List ℕ) → Some bytes ≡ bytes_seen caller.bag pipe → message_receipt pipe number bytes ∷ [] ≡ taken_from caller pipe number
  taken-one number bytes seen =
      let found = read-last last_item bytes (seen ∙ seen-own caller.core caller.app pipe caller.bag bag) in
      ap (λ b. message_receipt pipe number b ∷ []) found.2
      ∙ sym (ap (λ o. option_to_list (option_map (λ (item : Item). message_receipt pipe number item.message) o)) found.1)

  pub taken-none : (number : ℕ) → None ≡ bytes_seen caller.bag pipe → [] ≡ taken_from caller pipe number
  taken-none number seen = by_last last_item (seen ∙ seen-own caller.core caller.app pipe caller.bag bag)
    where
      by_last : (found : Option Item) → None ≡ option_map (λ item. item.message) found → [] ≡ option_to_list (option_map (λ item. message_receipt pipe number item.message) found)
      by_last None none = refl
      by_last (Some item) none = absurd cc

  -- if a message is seen, there is a newest receipt of it, which has its number
  module _ (receipts : List Receipt) (bytes : List ℕ) (remember : Remember receipts (state_of caller.core) caller.app) (seen : Some bytes ≡ bytes_seen caller.bag pipe) where
    read : (item : Item) × (last_item ≡ Some item) × (bytes ≡ item.message)
    read = read-last last_item bytes (seen ∙ seen-own caller.core caller.app pipe caller.bag bag)

    newest : newest_number receipts pipe ≡ Some read.0.number
    newest = subst (λ o. IfSome o (λ (item : Item). newest_number receipts pipe ≡ Some item.number)) read.1 (remember pipe)

    pub newest-known : IsSome (newest_number receipts pipe)
    newest-known = subst (λ o. IsSome o) (sym newest) refl

    pub shown-one : (number : ℕ) → newest_number receipts pipe ≡ Some number → message_receipt pipe number bytes ≡ unwrap_or (receipt_in (state_of caller.core) caller.app pipe) Nothing
    shown-one number told =
        let same : read.0.number ≡ number = cc (newest, told) in
        ap (λ n. message_receipt pipe n bytes) (sym same)
        ∙ ap (λ b. message_receipt pipe read.0.number b) read.2
        ∙ sym (ap (λ o. unwrap_or o Nothing) (receipt_in-own (state_of caller.core) caller.app pipe
        ∙ ap (option_map (λ (item : Item). message_receipt pipe item.number item.message)) read.1))

  pub none-shown : None ≡ bytes_seen caller.bag pipe → Nothing ≡ unwrap_or (receipt_in (state_of caller.core) caller.app pipe) Nothing
  none-shown seen =
      ap (λ o. unwrap_or o Nothing)
      (by_last last_item (seen ∙ seen-own caller.core caller.app pipe caller.bag bag) ∙ sym (receipt_in-own (state_of caller.core) caller.app pipe))
    where
      by_last : (found : Option Item) → None ≡ option_map (λ item. item.message) found → None ≡ option_map (λ item. message_receipt pipe item.number item.message) found
      by_last None none = refl
      by_last (Some item) none = absurd cc

-- The receipts that are taken are those that the call tells of. --

same-number : (pipe number : ℕ) (found : Option Item) → IfSome found (λ item. item.number ≡ number) →
    option_to_list (option_map (λ (item : Item). message_receipt pipe number item.message) found) ≡ option_to_list (option_map (λ (item : Item). message_receipt pipe item.number item.message) found)
same-number pipe number None is = refl
same-number pipe number (Some item) is = ap (λ n. message_receipt pipe n item.message ∷ []) (sym is)

taken-got : (caller : Caller) (pipe number : ℕ) → IfSome (own_last (state_of caller.core).pipes caller.app pipe) (λ item. item.number ≡ number) →
    taken_from caller pipe number ≡ option_to_list (receipt_in (state_of caller.core) caller.app pipe)
taken-got caller pipe number is =
    same-number pipe number (own_last (state_of caller.core).pipes caller.app pipe) is
    ∙ ap option_to_list (sym (receipt_in-own (state_of caller.core) caller.app pipe))

-- what a message is that the call so answered gave
abbrev TellsNumber : Caller → Call → BusAnswer → Type 0
TellsNumber caller call answer =
    (pipe told : ℕ) → gets_from pipe (record { app = caller.app; call = call; answer = answer }) ≡ true → answer ≡ Got told →
    IfSome (own_last (state_of caller.core).pipes caller.app pipe) (λ item. item.number ≡ told)

taken-by : (caller : Caller) (call : Call) (answer : BusAnswer) → TellsNumber caller call answer → taken_by caller (Some call) answer ≡ got_in caller.app (state_of caller.core) call answer
taken-by caller (calls.Receive pipe) (Got number) is = taken-got caller pipe number (is pipe number (same-self pipe) refl)
taken-by caller (calls.Pend pipe) (Got number) is = taken-got caller pipe number (is pipe number (same-self pipe) refl)
taken-by caller (calls.Look pipe) (Got number) is = taken-got caller pipe number (is pipe number (same-self pipe) refl)
taken-by caller call answer is = refl

pub taken-told : (before : Core) (after : Caller) (call : Call) (answer : BusAnswer) → Does before after.core after.app call answer →
    taken_by after (Some call) answer ≡ got_in after.app (state_of after.core) call answer
taken-told before after call answer does =
    taken-by after call answer (λ pipe told gets is.
    let e : Entry = record { app = after.app; call = call; answer = answer } in
    subst (λ core. IfSome (own_last (state_of core).pipes after.app pipe) (λ item. item.number ≡ told)) (sym does.entry)
    (tells-number before.limits (apps_of before) after.app pipe told before.log.entries e (subst (λ core. IsLegalCore core) does.entry does.legal) gets is))
