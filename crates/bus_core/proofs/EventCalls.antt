-- What the calls of the event services answer, by their refusals.
use Rattle.std.proofs.Common.{◌≡◌, ℕ, List, Some, None, Result, Ok, Err, ap, sym}
use Rattle.std.specs.Result.{result_err}
use Rattle.fsw_base.specs.EventDesk.{send_refusal, reset_refusal}
use Rattle.fsw_base.specs.Limits.{limits_of}
use Rattle.fsw_base.specs.declared.events.EventKind.{EventKind}
use Rattle.fsw_base.specs.declared.statuses.EvsStatus.{EvsStatus}
use Rattle.bus_words.specs.declared.history.Call.TheVariants.{SendEvent, ResetFilter}
use Rattle.bus_words.specs.Machine.{by_events}
use Rattle.bus_words.specs.Refusals.{OfEvents}
use Rattle.bus_core.specs.declared.plain.PlainBus.TheInside.{Inside}
use Rattle.bus_core.specs.Answers.{event_told}
use Rattle.bus_core.specs.Inside.{means}
use Rattle.bus_core.proofs.CallLaws.{bare, bare_by}

module _ (a : Inside) (app id : ℕ) where
  pub event_made : (kind : EventKind) (text : List ℕ) (result : Result (Unit {0}) EvsStatus) → result_err result ≡ send_refusal a.records.events app →
      bare (limits_of a.config) (means a) app (SendEvent id kind text) ≡ (event_told result, means a)
  event_made kind text (Ok nothing) is = bare_by (limits_of a.config) (means a) app (SendEvent id kind text) None (ap by_events (sym is))
  event_made kind text (Err status) is = bare_by (limits_of a.config) (means a) app (SendEvent id kind text) (Some (OfEvents status)) (ap by_events (sym is))

  pub reset_made : (result : Result (Unit {0}) EvsStatus) → result_err result ≡ reset_refusal a.records.events app id →
      bare (limits_of a.config) (means a) app (ResetFilter id) ≡ (event_told result, means a)
  reset_made (Ok nothing) is = bare_by (limits_of a.config) (means a) app (ResetFilter id) None (ap by_events (sym is))
  reset_made (Err status) is = bare_by (limits_of a.config) (means a) app (ResetFilter id) (Some (OfEvents status)) (ap by_events (sym is))
