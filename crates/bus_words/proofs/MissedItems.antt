-- What pipes miss commutes with a map of items, as what is delivered does. So it follows from a send's sender alone.
use Rattle.std.proofs.Common.{◌≡◌, ℕ, List, [], ◌∷◌, ◌++◌, map, Option, Some, None, refl, ap, sym, ◌∙◌}
use Rattle.std.specs.Option.{option_map, option_map_or, option_and_then}
use Rattle.bus_words.specs.Bus.{Item, Pipe, Sending, any_send, missed, offer_of}
use Rattle.bus_words.specs.Pipes.{PipeOf, Subscription, Offer, cause_of, verdict, pipe_at, with_pipe, offered, misses_by, misses_of, pipe_by}
use Rattle.bus_words.proofs.PipeItems.{IsOffer, pipe_at-map, verdict-map, with_pipe-map, offered-map}
use Rattle.bus_words.specs.declared.miss.Miss.{Miss}
use Rattle.bus_words.specs.declared.miss.MissCause.{MissCause}

module _ {A B : Type 0} (read : A → B) (from : Offer A) (to : Offer B) (is : IsOffer read from to) where
  -- of one subscription
  misses_by-map : (sub : Subscription) (pipes : List (PipeOf A)) → misses_by from sub pipes ≡ misses_by to sub (map (pipe_by read) pipes)
  misses_by-map sub pipes =
      by_pipe (pipe_at pipes sub.pipe)
      ∙ ap (λ o. told (option_and_then (λ (pipe : PipeOf B). cause_of (verdict to.subscription_of pipe sub to.sender)) o)) (sym (pipe_at-map read pipes sub.pipe))
    where
      told : Option MissCause → List Miss
      told o = option_map_or (λ cause. record { pipe = sub.pipe; cause = cause } ∷ []) o []

      by_pipe : (o : Option (PipeOf A)) →
          told (option_and_then (λ (pipe : PipeOf A). cause_of (verdict from.subscription_of pipe sub from.sender)) o)
          ≡ told (option_and_then (λ (pipe : PipeOf B). cause_of (verdict to.subscription_of pipe sub to.sender)) (option_map (pipe_by read) o))
      by_pipe None = refl
      by_pipe (Some pipe) = ap (λ v. told (cause_of v)) (sym (verdict-map read from to is sub pipe))

  -- of all
  pub misses_of-map : (subs : List Subscription) (pipes : List (PipeOf A)) → misses_of from subs pipes ≡ misses_of to subs (map (pipe_by read) pipes)
  misses_of-map [] pipes = refl
  misses_of-map (sub ∷ subs) pipes =
      ap (λ l. l ++ misses_of from subs (with_pipe (offered from sub) sub.pipe pipes)) (misses_by-map sub pipes)
      ∙ ap (λ l. misses_by to sub (map (pipe_by read) pipes) ++ l)
      (misses_of-map subs (with_pipe (offered from sub) sub.pipe pipes)
      ∙ ap (misses_of to subs) (with_pipe-map read (offered from sub) (offered to sub) (offered-map read from to is sub) sub.pipe pipes))

-- A send. --

-- what is offered, read as numbers of subscriptions
abbrev pub numbers_offered : Sending → Offer ℕ
numbers_offered sending = record { sender = sending.sender; subscription_of = λ n. n; item_for = λ sub. sub.number }

pub is_offered : (sending : Sending) → IsOffer (λ (item : Item). item.subscription) (offer_of sending) (numbers_offered sending)
is_offered sending = record { sender = refl; subscription = λ item. refl; item = λ sub. refl }

-- the pipes that miss a send are those that miss any other send of its sender
pub missed-any : (sending : Sending) (subs : List Subscription) (pipes : List Pipe) → missed sending subs pipes ≡ missed (any_send sending.sender) subs pipes
missed-any sending subs pipes =
    let read : Item → ℕ = λ item. item.subscription in
    let any : Sending = any_send sending.sender in
    misses_of-map read (offer_of sending) (numbers_offered sending) (is_offered sending) subs pipes
    ∙ sym (misses_of-map read (offer_of any) (numbers_offered any) (is_offered any) subs pipes)
