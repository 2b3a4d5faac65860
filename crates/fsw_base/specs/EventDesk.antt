-- The event desk: who registered with which filters, the log, and the counts of events. For each
-- call the desk that it leaves.
use Rattle.std.specs.Prelude.{ℕ, ◌+◌, ◌-◌, min, Bool, List, [], replicate, Option, Some, None, slice_index_or, slice_set, if◌then◌else◌}
use Rattle.fsw_base.specs.declared.events.EventKind.{EventKind}
use Rattle.fsw_base.specs.declared.statuses.EvsStatus.{EvsStatus}
use Rattle.fsw_base.specs.declared.statuses.EvsStatus.TheVariants.{AppNotRegistered, EvtNotRegistered}
use Rattle.fsw_base.specs.EventFilters.{EventFilter, fresh_filters, passes, all_after_event, has_filter, restarted}
pub use Rattle.fsw_base.specs.PoolAccounts.{counted}
use Rattle.fsw_base.specs.EventLog.{Log, empty_log, is_cut, event_line, is_full, kept}

pub record Desk : Type 0 where
  -- for each of the 16 applications, number 1 first, its filters; none if it isn't registered
  pub registrations : List (Option (List EventFilter))
  pub log : Log
  -- events that passed, the services' own too
  pub sent : ℕ
  -- events that a filter held back
  pub filtered : ℕ
  -- events that passed and whose text was cut
  pub cut : ℕ
  -- refused events and refused resets
  pub refused : ℕ
  -- events that passed and found the log full
  pub lost : ℕ

-- a new desk: none of the 16 applications is registered, nothing is logged or counted
abbrev pub new_desk : Desk
new_desk =
    record {
      registrations = replicate 16 None;
      log = empty_log;
      sent = 0;
      filtered = 0;
      cut = 0;
      refused = 0;
      lost = 0;
    }

-- one more if the test holds
abbrev pub counted_if : Bool → ℕ → ℕ
counted_if test count = if test then counted count else count

-- the filters of an application, none if it isn't registered
abbrev pub filters_of : Desk → ℕ → Option (List EventFilter)
filters_of desk app = slice_index_or desk.registrations (app - 1) None

-- the desk with another registration of an application
abbrev pub with_filters : Desk → ℕ → Option (List EventFilter) → Desk
with_filters desk app filters =
    record desk { registrations = slice_set desk.registrations (app - 1) filters }

-- an application registers with pairs of an event id and a mask, in place of what it registered
-- before
abbrev pub registered : Desk → ℕ → List (ℕ × ℕ) → Desk
registered desk app pairs = with_filters desk app (Some (fresh_filters pairs))

-- an application's registration ends
abbrev pub unregistered : Desk → ℕ → Desk
unregistered desk app = with_filters desk app None

-- an event passes: it is logged and counted
unfoldable pub passed : Desk → ℕ → ℕ → EventKind → List ℕ → Desk
passed desk app id kind text = record desk {
  log = kept desk.log (event_line app id kind text);
  sent = counted desk.sent;
  cut = counted_if (is_cut text) desk.cut;
  lost = counted_if (is_full desk.log) desk.lost;
}

-- a service logs an event of its own: application number 0, never filtered
abbrev pub served : Desk → ℕ → EventKind → List ℕ → Desk
served desk id kind text = passed desk 0 id kind text

-- a call is refused
abbrev pub refused_once : Desk → Desk
refused_once desk = record desk { refused = counted desk.refused }

-- the filter for the event's id counts it, passed or not
abbrev pub tested : Desk → ℕ → List EventFilter → ℕ → Desk
tested desk app filters id = with_filters desk app (Some (all_after_event filters id))

-- an application sends an event: refused if it isn't registered, else passed or held back by its
-- filters
unfoldable pub sent : Desk → ℕ → ℕ → EventKind → List ℕ → Desk
sent desk app id kind text = by_filters (filters_of desk app)
  where
    by_filters : Option (List EventFilter) → Desk
    by_filters None = refused_once desk
    by_filters (Some filters) =
        if passes filters id then passed (tested desk app filters id) app id kind text
        else (record (tested desk app filters id) { filtered = counted desk.filtered })

-- why an event is refused: its application isn't registered
abbrev pub send_refusal : Desk → ℕ → Option EvsStatus
send_refusal desk app = by_filters (filters_of desk app)
  where
    by_filters : Option (List EventFilter) → Option EvsStatus
    by_filters None = Some AppNotRegistered
    by_filters (Some filters) = None

-- why a reset is refused: the application isn't registered, or none of its filters is for this
-- event id
abbrev pub reset_refusal : Desk → ℕ → ℕ → Option EvsStatus
reset_refusal desk app id = by_filters (filters_of desk app)
  where
    by_filters : Option (List EventFilter) → Option EvsStatus
    by_filters None = Some AppNotRegistered
    by_filters (Some filters) = if has_filter filters id then None else Some EvtNotRegistered

-- an application's filter for this event id counts from 0 again, or the reset is refused
unfoldable pub reset : Desk → ℕ → ℕ → Desk
reset desk app id = by_filters (filters_of desk app)
  where
    by_filters : Option (List EventFilter) → Desk
    by_filters None = refused_once desk
    by_filters (Some filters) =
        if has_filter filters id then with_filters desk app (Some (restarted filters id))
        else refused_once desk

-- what a full log drops from now on; the lines stay
abbrev pub with_mode : Desk → ℕ → Desk
with_mode desk mode = record desk { log = record desk.log { mode = mode } }

-- the log is emptied; no count changes
abbrev pub cleared : Desk → Desk
cleared desk = record desk { log = record desk.log { lines = [] } }
