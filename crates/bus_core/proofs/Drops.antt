-- How many pipes drop their oldest message for a send: the message itself doesn't matter.
use Rattle.std.proofs.Common.{◌≡◌, ℕ, List, sym, ◌∙◌}
use Rattle.bus_words.specs.Bus.{Item, Subscription, Sending, State, any_send, offer_of, route, drops}
use Rattle.bus_words.proofs.MissedItems.{numbers_offered, is_offered}
use Rattle.bus_words.proofs.PipeItems.{drops-map}
use Rattle.bus_core.specs.Core.{drops_for}

pub drops_are : (sending : Sending) (s : State) (id : ℕ) → drops sending (route s.subscriptions id) s.pipes ≡ drops_for s sending.sender id
drops_are sending s id =
    let subs : List Subscription = route s.subscriptions id in
    let read : Item → ℕ = λ item. item.subscription in
    let any : Sending = any_send sending.sender in
    drops-map read (offer_of sending) (numbers_offered sending) (is_offered sending) subs s.pipes
    ∙ sym (drops-map read (offer_of any) (numbers_offered any) (is_offered any) subs s.pipes)
