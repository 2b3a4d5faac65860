-- Counts that are read off a history: how many grants a memory pool gave and how many returns it
-- refused, and how many events and resets the event desk refused.
use Rattle.std.specs.Prelude.{ℕ, ◌-◌, ◌^◌, ◌==◌, min, Bool, true, false, List, count_by}
use Rattle.fsw_base.specs.Limits.{Limits}
use Rattle.fsw_base.specs.PoolAccounts.{Account}
use Rattle.fsw_base.specs.declared.statuses.EsStatus.TheVariants.{BufferNotInPool, PoolBlockInvalid}
use Rattle.fsw_base.specs.Grants.{pool_in, pool_account}
use Rattle.bus_words.specs.declared.calls.BusAnswer.{BusAnswer}
use Rattle.bus_words.specs.declared.calls.BusAnswer.TheVariants.{Number, Es, Evs}
use Rattle.bus_words.specs.declared.history.Call.{Call}
use Rattle.bus_words.specs.declared.history.Call.TheVariants.{PoolGet, PoolPut, SendEvent, ResetFilter}
use Rattle.bus_words.specs.declared.history.Entry.{Entry}
use Rattle.bus_words.specs.Machine.{state_after}

-- whether a call with this answer got a grant of this pool
abbrev pub gets_grant : ℕ → Call → BusAnswer → Bool
gets_grant pool (PoolGet number size) (Number grant) = number == pool
gets_grant pool call answer = false

-- whether a call with this answer is a return that this pool refused
abbrev pub is_refused_return : ℕ → Call → BusAnswer → Bool
is_refused_return pool (PoolPut number grant) (Es BufferNotInPool) = number == pool
is_refused_return pool (PoolPut number grant) (Es PoolBlockInvalid) = number == pool
is_refused_return pool call answer = false

-- whether a call with this answer is an event or a reset that was refused
abbrev pub is_refused_event : Call → BusAnswer → Bool
is_refused_event (SendEvent id kind text) (Evs status) = true
is_refused_event (ResetFilter id) (Evs status) = true
is_refused_event call answer = false

-- how many entries are of this kind, at most what a count of 32 bits holds
abbrev pub count_of : (Call → BusAnswer → Bool) → List Entry → ℕ
count_of kind history = min (count_by (λ e. kind e.call e.answer) history) (2 ^ 32 - 1)

-- the account of the pool of this number after a history
abbrev pub account_after : Limits → ℕ → List Entry → ℕ → Account
account_after limits apps history pool =
    pool_account (pool_in (state_after limits apps history).pools pool)
