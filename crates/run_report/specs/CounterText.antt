-- The lines of a report on what was counted and on what is in use: of the bus, of its memory pools
-- and of its event desk, and of the tables and their pool.
use Rattle.std.specs.Prelude.{ℕ, ◌-◌, ◌==◌, List, [], ◌++◌, length, map, slice_index, codes, decimal, if◌then◌else◌}
use Rattle.std.specs.List.{flat_map, range_with_len}
use Rattle.fsw_base.specs.EventDesk.{Desk}
use Rattle.fsw_base.specs.PoolAccounts.{Account, cost_of}
use Rattle.fsw_base.specs.declared.config.PoolStats.{PoolStats}
use Rattle.es_pool.specs.declared.blocks.ClassStats.{ClassStats}
use Rattle.es_pool.specs.Pool.{PoolState, made_in, out_in}
use Rattle.housekeeping.specs.declared.in_use.InUse.{InUse}
use Rattle.housekeeping.specs.Counters.{Counts}
use Rattle.housekeeping.specs.Statistics.{Statistics}
use Rattle.tbl_words.specs.declared.uses.TblUse.{TblUse}
use Rattle.text_page.specs.Texts.{numbered}
use Rattle.run_report.specs.declared.pools.PoolName.{PoolName}
use Rattle.run_report.specs.declared.pools.PoolName.TheVariants.{Bus, Applications, Tables}

-- What a report shows of a bus beside its history: its version, the event desk, the counters with
-- the peaks, what is in use now, the account of the bus's own memory pool, and those of the
-- applications' pools, number 1 first.
pub record BusFigures : Type 0 where
  pub version : ℕ
  pub events : Desk
  pub statistics : Statistics
  pub now : InUse
  pub pool : Account
  pub pools : List Account

-- What a report shows of the tables beside their history: what is in use now and was at the most,
-- and the account of their pool.
pub record TableFigures : Type 0 where
  pub now : TblUse
  pub peak : TblUse
  pub pool : Account

-- a number with its name before it
abbrev pub field_text : List ℕ → ℕ → List ℕ
field_text name number = codes " " ++ name ++ codes "=" ++ decimal number

-- a number in use, and the greatest that it ever was
abbrev pub use_text : List ℕ → ℕ → ℕ → List ℕ
use_text name now peak = codes " " ++ name ++ codes "=" ++ decimal now ++ codes "/" ++ decimal peak

-- The bus. --

-- the counter that a bus of version 2 has alone
unfoldable pub oldest_text : ℕ → Counts → List ℕ
oldest_text version counts = if version == 2 then field_text (codes "oldest") counts.oldest else []

-- what the counters of a bus of this version show
abbrev pub counts_text : ℕ → Counts → List ℕ
counts_text version counts =
    codes "bus" ++ field_text (codes "nosub") counts.nosub ++
    field_text (codes "send") counts.send ++ field_text (codes "recv") counts.recv
    ++ field_text (codes "create") counts.create ++ field_text (codes "sub") counts.sub ++
    field_text (codes "opts") counts.opts
    ++ field_text (codes "find") counts.find ++ field_text (codes "dup") counts.dup ++
    field_text (codes "limit") counts.limit
    ++ field_text (codes "overflow") counts.overflow ++ oldest_text version counts ++ codes "\n"

-- the five numbers in use, with their peaks
abbrev pub uses_text : InUse → InUse → List ℕ
uses_text now peak =
    codes "use" ++ use_text (codes "msgids") now.msgids peak.msgids ++
    use_text (codes "pipes") now.pipes peak.pipes
    ++ use_text (codes "subs") now.subs peak.subs ++
    use_text (codes "buffers") now.buffers peak.buffers
    ++ use_text (codes "bytes") now.bytes peak.bytes ++ codes "\n"

-- Memory pools. --

-- the account of a pool, read off its blocks
abbrev pub account_read : PoolState → Account
account_read pool = record {
  bytes = pool.bytes;
  sizes = pool.sizes;
  made = map (made_in pool.blocks) (range_with_len 0 (length pool.sizes));
  out = map (out_in pool.blocks) (range_with_len 0 (length pool.sizes));
  requests = pool.requests;
  errors = pool.errors;
}

-- what the line of a pool shows of its account
abbrev pub figures_in : Account → PoolStats
figures_in account = record {
  size = account.bytes;
  requests = account.requests;
  errors = account.errors;
  free = account.bytes - cost_of account.made account.sizes;
}

-- what the line of one of its block sizes shows, by the size's place
abbrev pub class_in : Account → ℕ → ClassStats
class_in account class = record {
  size = slice_index account.sizes class;
  made = slice_index account.made class;
  free = slice_index account.made class - slice_index account.out class;
}

-- how the line of a pool begins: the bus's own, one of the applications by its number, or the
-- tables'
abbrev pub pool_head : PoolName → List ℕ
pool_head Bus = codes "pool"
pool_head (Applications number) = codes "apool " ++ decimal number
pool_head Tables = codes "tpool"

-- how the line of one of its block sizes begins
abbrev pub class_head : PoolName → List ℕ
class_head Bus = codes "class"
class_head (Applications number) = codes "aclass " ++ decimal number
class_head Tables = codes "tclass"

-- a pool: its bytes, those that were never cut into blocks, the blocks drawn and the returns
-- refused
abbrev pub pool_text : PoolName → Account → List ℕ
pool_text name account =
    pool_head name ++ field_text (codes "size") account.bytes ++
    field_text (codes "free") (account.bytes - cost_of account.made account.sizes)
    ++ field_text (codes "requests") account.requests ++
    field_text (codes "errors") account.errors ++ codes "\n"

-- a block size, by its place: how many blocks were cut, and how many of them are free; nothing
-- if none was cut
abbrev pub class_text : PoolName → Account → ℕ → List ℕ
class_text name account class =
    if slice_index account.made class == 0 then [] else
    class_head name ++ codes " " ++ decimal (slice_index account.sizes class) ++
    field_text (codes "made") (slice_index account.made class)
    ++ field_text (codes "free") (slice_index account.made class - slice_index account.out class) ++
    codes "\n"

-- a pool, and its block sizes, the smallest first
abbrev pub account_text : PoolName → Account → List ℕ
account_text name account =
    pool_text name account ++
    flat_map (class_text name account) (range_with_len 0 (length account.sizes))

-- the applications' pools, numbered from 1
abbrev pub accounts_text : List Account → List ℕ
accounts_text accounts =
    numbered (λ number account. account_text (Applications number) account) 1 accounts

-- The event desk. --

-- events that passed, were held back, were cut; calls refused; the lines of the log now, events
-- that found it full, and its mode
abbrev pub desk_text : Desk → List ℕ
desk_text desk =
    codes "evs" ++ field_text (codes "sent") desk.sent ++
    field_text (codes "filtered") desk.filtered ++ field_text (codes "cut") desk.cut
    ++ field_text (codes "refused") desk.refused ++
    field_text (codes "logged") (length desk.log.lines) ++ field_text (codes "lost") desk.lost
    ++ field_text (codes "mode") desk.log.mode ++ codes "\n"

-- The tables. --

-- the three numbers in use, with their peaks
abbrev pub table_uses_text : TblUse → TblUse → List ℕ
table_uses_text now peak =
    codes "tbl" ++ use_text (codes "count") now.tables peak.tables ++
    use_text (codes "handles") now.handles peak.handles
    ++ use_text (codes "bytes") now.bytes peak.bytes ++ codes "\n"

-- All lines. --

abbrev pub counters_text : BusFigures → TableFigures → List ℕ
counters_text figures tables =
    counts_text figures.version figures.statistics.counts ++
    uses_text figures.now figures.statistics.peak ++ account_text Bus figures.pool
    ++ accounts_text figures.pools ++ desk_text figures.events ++
    table_uses_text tables.now tables.peak ++ account_text Tables tables.pool
