-- What a receive answers and leaves.
use Rattle.std.proofs.Common.{◌≡◌, ℕ, true, not, length, Some, None, refl, ap, sym, ◌∙◌}
use Rattle.fsw_base.specs.Limits.{limits_of}
use Rattle.fsw_base.specs.declared.statuses.SbStatus.TheVariants.{BadArgument, NoMessage}
use Rattle.bus_words.specs.declared.calls.BusAnswer.TheVariants.{Got, Sb}
use Rattle.bus_words.specs.declared.history.Call.TheVariants.{Receive}
use Rattle.bus_words.specs.Bus.{owns, with_pipe, after_receive, is_empty}
use Rattle.bus_words.specs.Machine.{by_bus, refused_if, receive_cause, received}
use Rattle.bus_words.specs.Refusals.{OfBus}
use Rattle.bus_words.proofs.Bounds.{length-with_pipe}
use Rattle.bus_messages.specs.Store.{Store}
use Rattle.bus_messages.specs.Words.{with_held}
use Rattle.bus_core.specs.declared.plain.PlainBus.TheInside.{Inside}
use Rattle.bus_core.specs.Inside.{means}
use Rattle.bus_core.proofs.CallLaws.{bare, bare_by, accepted_by}
use Rattle.bus_core.proofs.Peaks.{AreAsMany}
use Rattle.bus_core.proofs.Waits.{oldest_told, empty-none, empty-some, oldest-some}

module _ (a : Inside) (next : Store) (app pipe : ℕ) (own : owns a.store.pipes app pipe ≡ true)
    (is : next ≡ record a.store { pipes = with_pipe after_receive pipe a.store.pipes; account = with_held a.store.account next.pipes a.store.unsent a.store.numbers_given; loans = next.loans }) where
  -- the pipe is the application's: all that is asked is whether it is empty
  of_own : receive_cause (means a).bus app pipe ≡ refused_if (is_empty a.store.pipes pipe) NoMessage None
  of_own = ap (λ b. refused_if (not b) BadArgument (refused_if (is_empty a.store.pipes pipe) NoMessage None)) own

  -- a message waits
  pub got_made : (number : ℕ) → oldest_told a.store.pipes pipe ≡ Some number → bare (limits_of a.config) (means a) app (Receive pipe) ≡ (Got number, means (record a { store = next }))
  got_made number some =
      let why : receive_cause (means a).bus app pipe ≡ None = of_own ∙ ap (λ b. refused_if b NoMessage None) (empty-some a.store.pipes pipe number some) in
      accepted_by (limits_of a.config) (means a) app (Receive pipe) (receive_cause (means a).bus app pipe) refl why
      ∙ ap (λ n. (Got n, record (means a) { bus = received (means a).bus pipe })) (oldest-some a.store.pipes pipe number some)
      ∙ ap (λ t. (Got number, means (record a { store = t }))) (sym is)

  -- none waits
  pub none_made : oldest_told a.store.pipes pipe ≡ None → bare (limits_of a.config) (means a) app (Receive pipe) ≡ (Sb NoMessage, means (record a { store = next }))
  none_made none =
      let why : receive_cause (means a).bus app pipe ≡ Some NoMessage = of_own ∙ ap (λ b. refused_if b NoMessage None) (empty-none a.store.pipes pipe none) in
      bare_by (limits_of a.config) (means a) app (Receive pipe) (Some (OfBus NoMessage)) (ap by_bus why)
      ∙ ap (λ t. (Sb NoMessage, means (record a { store = t }))) (sym is)

  -- as many pipes, ids and subscriptions are in use as before
  pub as_many : AreAsMany a.store next
  as_many = record {
    routes = ap (λ (o : Store). length o.routes) is;
    pipes = ap (λ (o : Store). length o.pipes) is ∙ length-with_pipe after_receive pipe a.store.pipes;
    subs = ap (λ (o : Store). length o.subscriptions) is;
  }
