-- What subscriptions and their ends answer and leave.
use Rattle.std.proofs.Common.{◌≡◌, ℕ, ◌+◌, Bool, true, false, not, cond, List, [], ◌∷◌, ◌++◌, refl, ap, sym, ◌∙◌}
use Rattle.fsw_base.specs.declared.config.Scope.{Scope}
use Rattle.bus_events.specs.declared.event.ServiceEvent.{ServiceEvent}
use Rattle.bus_events.specs.declared.event.ServiceEvent.TheVariants.{DuplicateSubscription, NotSubscribed}
use Rattle.bus_words.specs.declared.calls.BusAnswer.{BusAnswer}
use Rattle.bus_words.specs.declared.calls.BusAnswer.TheVariants.{Done}
use Rattle.bus_words.specs.declared.history.Call.TheVariants.{Subscribe, Unsubscribe}
use Rattle.bus_words.specs.Bus.{State, is_subscribed, has_route}
use Rattle.bus_words.specs.Events.{call_events}
use Rattle.bus_words.specs.Machine.{accept_with}
use Rattle.bus_words.specs.Acts.{Whole, NextCount, reads_in, completed, has_next, first_next}
use Rattle.list_pipes.specs.Subscribed.{Subscribed, subscribed}
use Rattle.list_bus.specs.Decided.{HasEvents}
use Rattle.list_bus.specs.Inside.{means, limits_in, played_in}
use Rattle.list_bus.specs.declared.bus.ListBus.TheInside.{Inside}

module _ (a : Inside) (app id pipe : ℕ) where
  -- whether the pair is live
  abbrev pub is_live : Bool
  is_live = is_subscribed a.subs.subscriptions id pipe

  -- the answer, and the state with these subscriptions and next counts
  abbrev pub left : Subscribed → List NextCount → BusAnswer × Whole
  left subs nexts = (Done, means (record a { subs = subs; nexts = nexts }))

  -- the next counts once the id has a route
  abbrev counts : List NextCount
  counts = cond {A = List NextCount} (has_next a.nexts id) a.nexts (a.nexts ++ first_next (limits_in a) id ∷ [])

  module _ (limit : ℕ) (scope : Scope) where
    -- a pair more, or the pair that is live
    pub subscribed_made : (next : List NextCount) → next ≡ counts →
        completed (limits_in a) (means a) (Subscribe id pipe limit scope) (accept_with (reads_in (means a)) (limits_in a) (means a).bus app (Subscribe id pipe limit scope))
        ≡ left (subscribed a.subs id pipe limit scope) next
    subscribed_made next is = by_test is_live ∙ sym (ap (left (subscribed a.subs id pipe limit scope)) is)
      where
        s : State
        s = (means a).bus

        more : Subscribed
        more = record {
          subscriptions = a.subs.subscriptions ++ record { number = a.subs.made + 1; id = id; pipe = pipe; limit = limit; scope = scope } ∷ [];
          made = a.subs.made + 1;
          routed = cond {A = List ℕ} (has_route a.subs.routed id) a.subs.routed (a.subs.routed ++ id ∷ []);
        }

        with_state : State → BusAnswer × Whole
        with_state after = (Done, record { bus = after; nexts = counts })

        by_test : (b : Bool) →
            with_state (cond {A = State} b s (record s { subscriptions = more.subscriptions; subscriptions_made = more.made; routed = more.routed }))
            ≡ left (cond {A = Subscribed} b a.subs more) counts
        by_test true = refl
        by_test false = refl

    pub subscribe_events_are : HasEvents (played_in a) app (Subscribe id pipe limit scope) Done (cond {A = List ServiceEvent} is_live (DuplicateSubscription id pipe ∷ []) [])
    unfolding call_events
    subscribe_events_are = refl

  pub unsubscribe_events_are : HasEvents (played_in a) app (Unsubscribe id pipe) Done (cond {A = List ServiceEvent} (not is_live) (NotSubscribed id pipe ∷ []) [])
  unfolding call_events
  unsubscribe_events_are = by_test is_live
    where
      by_test : (b : Bool) → cond {A = List ServiceEvent} (not b) (NotSubscribed id pipe ∷ []) [] ≡ cond {A = List ServiceEvent} b [] (NotSubscribed id pipe ∷ [])
      by_test true = refl
      by_test false = refl
