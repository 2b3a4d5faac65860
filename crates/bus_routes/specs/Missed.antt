-- What a delivery leaves: the pipes at which a message is missed, the one sent or their oldest one,
-- and the items that leave.
use Rattle.std.specs.Prelude.{ℕ, List, [], ◌∷◌, ◌++◌}
use Rattle.std.specs.Option.{option_and_then, option_to_list}
use Rattle.bus_words.specs.Pipes.{PipeOf, Subscription, Offer, verdict, dropped_at, pipe_at, with_pipe, offered}
use Rattle.bus_words.specs.declared.miss.Miss.{Miss}
use Rattle.bus_routes.specs.declared.tables.ItemRow.{ItemRow}

-- The pipes, with the cause of each; the items that left their pipes; and how many pipes there is
-- room for.
pub record Missed : Type 0 where
  pub items : List Miss
  pub dropped : List ItemRow
  pub room : ℕ

module _ {item : Type 0} where
  -- the item that leaves the subscription's pipe for the message that it is offered, if one does
  abbrev pub drops_by : Offer item → Subscription → List (PipeOf item) → List item
  drops_by offer sub pipes =
      option_to_list
      (option_and_then
      (λ pipe. dropped_at (verdict offer.subscription_of pipe sub offer.sender) pipe.queue)
      (pipe_at pipes sub.pipe))

  -- the items that leave, in order of the subscriptions, each as its turn comes
  abbrev pub dropped_of : Offer item → List Subscription → List (PipeOf item) → List item
  dropped_of offer [] pipes = []
  dropped_of offer (sub ∷ subs) pipes =
      drops_by offer sub pipes ++
      dropped_of offer subs (with_pipe (offered offer sub) sub.pipe pipes)
