-- What the core keeps of applications and routes, what bags tell, and what is in use, as the
-- machine has it.
use Rattle.std.specs.Prelude.{◌≡◌, ℕ, ◌-◌, ◌==◌, Bool, false, not, List, [], ◌∷◌, length, slice_index_or, Option, None, is_some, if◌then◌else◌}
use Rattle.fsw_base.specs.declared.statuses.SbStatus.{SbStatus}
use Rattle.fsw_base.specs.declared.statuses.SbStatus.TheVariants.{BadArgument, BufferInvalid}
use Rattle.ccsds_msg.specs.Message.{front_fault}
use Rattle.lend_block.specs.Loan.{LentBytes}
use Rattle.buf_desc.specs.Held.{Holding, buffer_at, bytes_at}
use Rattle.housekeeping.specs.declared.in_use.InUse.{InUse}
use Rattle.bus_words.specs.Held.{held, bytes_in_use}
use Rattle.bus_words.specs.Machine.{refused_if}
use Rattle.bus_words.specs.Bus.{Pipe, Standing, Active, Waiting, Ended, is_idle}
use Rattle.bus_routes.specs.Rows.{RouteRow, has_way}
use Rattle.bus_messages.specs.Store.{Store}
use Rattle.bus_core.specs.declared.activities.Activity.{Activity}
use Rattle.bus_core.specs.declared.activities.Activity.TheVariants as activities

abbrev pub standing_in : Activity → Standing
standing_in activities.Active = Active
standing_in (activities.Waiting pipe) = Waiting pipe
standing_in activities.Ended = Ended

-- what the application of this number does; one that the core doesn't know has ended
abbrev pub activity_at : List Activity → ℕ → Activity
activity_at acts app =
    if app == 0 then activities.Ended else slice_index_or acts (app - 1) activities.Ended

-- whether the application makes no further send by itself
abbrev pub idle_in : List Pipe → Activity → Bool
idle_in pipes activity = is_idle pipes (standing_in activity)

-- no two routes are of one id
abbrev pub AreOnce : List RouteRow → Type 0
AreOnce [] = Unit {0}
AreOnce (route ∷ routes) = (has_way routes route.id ≡ false) × AreOnce routes

-- why a buffer can't be sent, as the bag tells it
abbrev pub buffer_cause : Holding LentBytes → ℕ → Option SbStatus
buffer_cause bag buf =
    refused_if (not (is_some (buffer_at bag buf))) BufferInvalid
    (refused_if (is_some (front_fault (bytes_at bag buf))) BadArgument None)

-- what is in use at the store: the routes, the live pipes, the live subscriptions, the numbers that
-- are held, and the sizes of the blocks that are out, added up
abbrev pub in_use_at : Store → InUse
in_use_at store = record {
  msgids = length store.routes;
  pipes = length store.pipes;
  subs = length store.subscriptions;
  buffers = length (held store.pipes store.unsent store.numbers_given);
  bytes = bytes_in_use store.account;
}

-- what is in use of the pool alone: the numbers that are held, and the sizes of their blocks, added
-- up; the other counts are 0
abbrev pub blocks_in_use_at : Store → InUse
blocks_in_use_at store = record {
  msgids = 0;
  pipes = 0;
  subs = 0;
  buffers = length (held store.pipes store.unsent store.numbers_given);
  bytes = bytes_in_use store.account;
}
