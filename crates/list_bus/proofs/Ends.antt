-- What the end of an application leaves.
use Rattle.std.proofs.Common.{◌≡◌, ℕ, ◌-◌, not, List, set, sym, ap, ◌∙◌}
use Rattle.std.specs.List.{filter}
use Rattle.fsw_base.specs.Grants.{Pools, all_after_end}
use Rattle.bus_words.specs.declared.calls.BusAnswer.{BusAnswer}
use Rattle.bus_words.specs.declared.calls.BusAnswer.TheVariants.{Done}
use Rattle.bus_words.specs.declared.history.Call.TheVariants.{End}
use Rattle.bus_words.specs.Bus.{Subscription, Standing, Ended, owns}
use Rattle.bus_words.specs.Machine.{accept_with}
use Rattle.bus_words.specs.Acts.{Whole, reads_in, completed}
use Rattle.list_pipes.specs.Subscribed.{Subscribed}
use Rattle.list_messages.specs.Messages.{Messages, Named, without_all_of}
use Rattle.list_bus.specs.Inside.{means, limits_in}
use Rattle.list_bus.specs.declared.bus.ListBus.TheInside.{Inside}
use Rattle.list_bus.proofs.DecidedCalls.{with_part}

module _ (a : Inside) (m : Named) (subs : Subscribed) (pools : Pools) (standings : List Standing) (app : ℕ) where
  -- the answer, and the state with these
  abbrev left : Messages → Subscribed → Pools → List Standing → BusAnswer × Whole
  left part ss ps st =
      let w = means (record (with_part a part m.uses) { subs = ss; pools = ps }) in
      (Done, record w { bus = record w.bus { standings = st } })

  -- the subscriptions of others
  abbrev others : Subscribed
  others = record a.subs { subscriptions = filter (λ (sub : Subscription). not (owns a.messages.part.pipes app sub.pipe)) a.subs.subscriptions }

  pub ended_made : m.part ≡ without_all_of a.messages.part app → subs ≡ others → pools ≡ all_after_end app a.pools →
      standings ≡ set (means a).bus.standings (app - 1) Ended →
      completed (limits_in a) (means a) End (accept_with (reads_in (means a)) (limits_in a) (means a).bus app End) ≡ left m.part subs pools standings
  ended_made is leave gone stand =
      sym
      (ap (λ p. left p subs pools standings) is
      ∙ ap (λ ss. left (without_all_of a.messages.part app) ss pools standings) leave
      ∙ ap (λ ps. left (without_all_of a.messages.part app) others ps standings) gone
      ∙ ap (left (without_all_of a.messages.part app) others (all_after_end app a.pools)) stand)
