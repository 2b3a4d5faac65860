-- The figures of the bus as C reads them, and the statuses of the calls that only show something.
use Rattle.std.specs.Prelude.{◌≡◌, ℕ, ◌+◌, ◌%◌, ◌≤◌, ◌==◌, nat_lt, length, slice_index, Option, Some, None, is_some, if◌then◌else◌}
use Rattle.std.specs.Option.{option_map, option_map_or}
use Rattle.std.specs.Result.{result_err}
use Rattle.fsw_base.specs.declared.config.PoolStats.{PoolStats}
use Rattle.fsw_base.specs.declared.statuses.EsStatus.{EsStatus}
use Rattle.fsw_base.specs.declared.statuses.EsStatus.TheVariants.{NoPool}
use Rattle.fsw_base.specs.Events.{kind_number}
use Rattle.fsw_base.specs.EventDesk.{Desk}
use Rattle.fsw_base.specs.EventLog.{Line}
use Rattle.fsw_base.specs.PoolAccounts.{overhead}
use Rattle.es_pool.specs.declared.blocks.ClassStats.{ClassStats}
use Rattle.housekeeping.specs.declared.in_use.InUse.{InUse}
use Rattle.housekeeping.specs.Counters.{Counts}
use Rattle.bus_words.specs.Bus.{pipe_at}
use Rattle.fsw_base.specs.Grants.{is_pool, pool_in, answer_in, put_answer, class_under}
use Rattle.checked_bus.specs.Classes.{class_figures}
use Rattle.fsw_core.specs.declared.Core.{Core}
use Rattle.fsw_c.specs.declared.counters.FswCounters.{FswCounters}
use Rattle.fsw_c.specs.declared.counters.FswUse.{FswUse}
use Rattle.fsw_c.specs.declared.events.FswEventCounts.{FswEventCounts}
use Rattle.fsw_c.specs.declared.events.FswLogLine.{FswLogLine}
use Rattle.fsw_c.specs.declared.pools.FswPoolStats.{FswPoolStats}
use Rattle.fsw_c.specs.declared.pools.FswClassStats.{FswClassStats}
use Rattle.fsw_c.specs.declared.pools.FswPoolBlock.{FswPoolBlock}
use Rattle.fsw_c.specs.Codes.{closed_code}
use Rattle.fsw_c.specs.BusCodes.{es_code}

-- the status of a call that shows something of any open core
abbrev pub open_code : Option Core → ℕ
open_code None = closed_code
open_code (Some core) = 0

-- the status of a call that brings room for too few bytes
abbrev pub few_code : Option Core → ℕ
few_code None = closed_code
few_code (Some core) = 3388997635

-- how many messages wait on a pipe; none if no such pipe is live
abbrev pub waiting_on : Core → ℕ → Option ℕ
waiting_on core pipe =
    option_map (λ it. length it.queue) (pipe_at core.bus.core.whole.bus.pipes pipe)

-- the status of a call that shows it
abbrev pub waiting_code : Option Core → ℕ → ℕ
waiting_code None pipe = closed_code
waiting_code (Some core) pipe = if is_some (waiting_on core pipe) then 0 else 3388997635

-- the counters
abbrev pub counters_shown : Counts → FswCounters
counters_shown counts = record {
  nosub = counts.nosub;
  send = counts.send;
  recv = counts.recv;
  create = counts.create;
  sub = counts.sub;
  opts = counts.opts;
  find = counts.find;
  dup = counts.dup;
  limit = counts.limit;
  overflow = counts.overflow;
  oldest = counts.oldest;
}

-- what is in use
abbrev pub use_shown : InUse → FswUse
use_shown it = record {
  msgids = it.msgids;
  pipes = it.pipes;
  subs = it.subs;
  buffers = it.buffers;
  bytes = it.bytes;
}

-- what became of events, how many lines the log has, and what it drops
abbrev pub counts_shown : Desk → FswEventCounts
counts_shown desk = record {
  sent = desk.sent;
  filtered = desk.filtered;
  cut = desk.cut;
  refused = desk.refused;
  lost = desk.lost;
  logged = length desk.log.lines;
  mode = desk.log.mode;
}

-- the status of a call that shows the line of the log at a place
abbrev pub line_code : Option Core → ℕ → ℕ
line_code None place = closed_code
line_code (Some core) place =
    if nat_lt place (length core.bus.core.whole.bus.events.log.lines) then 0 else 3254779912

-- the line is this one, and its text as long
pub record ShowsLine (shown : FswLogLine) (line : Line) : Type 0 where
  pub app : shown.app ≡ line.app
  pub id : shown.id ≡ line.id
  pub kind : shown.kind ≡ kind_number line.kind
  pub text : shown.text_len ≡ length line.text

-- the figures of a memory pool, as the bus has them
abbrev pub stats_in : FswPoolStats → PoolStats
stats_in stats = record {
  size = stats.size;
  requests = stats.requests;
  errors = stats.errors;
  free = stats.free;
}

-- the figures of a block size of a pool
abbrev pub class_of : Core → ℕ → ℕ → Option ClassStats
class_of core pool place = class_figures (pool_in core.bus.core.whole.bus.pools pool) place

-- the status of a call that shows them
abbrev pub class_code : Option Core → ℕ → ℕ → ℕ
class_code None pool place = closed_code
class_code (Some core) pool place =
    if is_pool core.bus.core.whole.bus.pools pool
    then (if is_some (class_of core pool place) then 0 else 3288334346) else es_code NoPool

-- why a grant's block can't be shown, if it can't
abbrev pub unshown : Core → ℕ → ℕ → Option EsStatus
unshown core pool grant =
    result_err (answer_in core.bus.core.whole.bus.pools pool
    (put_answer (pool_in core.bus.core.whole.bus.pools pool) grant))

-- the status of a call that shows it
abbrev pub block_code : Option Core → ℕ → ℕ → ℕ
block_code None pool grant = closed_code
block_code (Some core) pool grant = option_map_or es_code (unshown core pool grant) 0

-- the block is of the grant's block size, and lies within the pool, behind its overhead, at a
-- multiple of 8
abbrev pub ShowsBlock : Option Core → ℕ → ℕ → FswPoolBlock → Type 0
ShowsBlock old pool grant shown =
    (o : Core) → old ≡ Some o →
    (overhead ≤ shown.offset) × (shown.offset % 8 ≡ 0)
    × (shown.offset + shown.size ≤ (pool_in o.bus.core.whole.bus.pools pool).bytes)
    × (shown.size ≡
    slice_index (pool_in o.bus.core.whole.bus.pools pool).sizes
    (class_under (pool_in o.bus.core.whole.bus.pools pool).out grant))

-- the figures are these
abbrev pub class_shown : ClassStats → FswClassStats
class_shown class = record { size = class.size; made = class.made; free = class.free }

-- 1 if as many events were held back by a filter as before, else 0
abbrev pub stays_filtered : Core → Core → ℕ
stays_filtered old new =
    if old.bus.core.whole.bus.events.filtered == new.bus.core.whole.bus.events.filtered
    then 1 else 0
