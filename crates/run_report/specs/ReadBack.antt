-- What the lines of a report tell: each entry's application and answer.
use Rattle.std.specs.Prelude.{◌≡◌, ℕ, ◌^◌, ◌<◌, ◌&&◌, nat_le, nat_lt, Bool, true, false, List, [], ◌∷◌, map, IsTrue}
use Rattle.std.specs.List.{list_all}
use Rattle.fsw_base.specs.declared.config.PoolStats.{PoolStats}
use Rattle.fsw_base.specs.declared.config.BusStats.{BusStats}
use Rattle.bus_words.specs.declared.calls.BusAnswer.{BusAnswer}
use Rattle.bus_words.specs.declared.calls.BusAnswer.TheVariants.{Done, Number, Name, Sent, Got, TimeOut, Pending, Pool, Bus, Sb, Es, Evs}
use Rattle.bus_words.specs.declared.history.Call.{Call}
use Rattle.bus_words.specs.declared.history.Call.TheVariants.{Create, Delete, SetOpts, GetOpts, Find, PipeName, Subscribe, Unsubscribe, Transmit, Receive, Pend, Look, Allocate, TransmitBuffer, Release, PoolCreate, PoolGet, PoolPut, PoolFigures, Register, SendEvent, ResetFilter, LogMode, ClearLog, Housekeeping, Figures, End}
use Rattle.bus_words.specs.declared.history.Entry.{Entry}

-- a printed byte that is no blank
abbrev pub is_visible : ℕ → Bool
is_visible byte = nat_le 0x21 byte && nat_le byte 0x7e

-- whether a call's name is a word, or empty; only pipes are named
abbrev pub has_plain_name : Call → Bool
has_plain_name (Create depth name) = list_all is_visible name
has_plain_name (Delete pipe) = true
has_plain_name (SetOpts pipe bits) = true
has_plain_name (GetOpts pipe) = true
has_plain_name (Find name) = list_all is_visible name
has_plain_name (PipeName pipe) = true
has_plain_name (Subscribe id pipe limit scope) = true
has_plain_name (Unsubscribe id pipe) = true
has_plain_name (Transmit bytes inc) = true
has_plain_name (Receive pipe) = true
has_plain_name (Pend pipe) = true
has_plain_name (Look pipe) = true
has_plain_name (Allocate size) = true
has_plain_name (TransmitBuffer buf bytes inc) = true
has_plain_name (Release buf) = true
has_plain_name (PoolCreate bytes) = true
has_plain_name (PoolGet pool size) = true
has_plain_name (PoolPut pool grant) = true
has_plain_name (PoolFigures pool) = true
has_plain_name (Register filters) = true
has_plain_name (SendEvent id kind text) = true
has_plain_name (ResetFilter id) = true
has_plain_name (LogMode mode) = true
has_plain_name ClearLog = true
has_plain_name Housekeeping = true
has_plain_name Figures = true
has_plain_name End = true

-- whether a call can be answered so: refused, or with its own kind of answer; a receive that may
-- wait also that no message arrived, or none is there yet
abbrev pub can_answer : Call → BusAnswer → Bool
can_answer call (Sb status) = true
can_answer call (Es status) = true
can_answer call (Evs status) = true
can_answer (Create depth name) (Number number) = true
can_answer (Delete pipe) Done = true
can_answer (SetOpts pipe bits) Done = true
can_answer (GetOpts pipe) (Number number) = true
can_answer (Find name) (Number number) = true
can_answer (PipeName pipe) (Name name) = true
can_answer (Subscribe id pipe limit scope) Done = true
can_answer (Unsubscribe id pipe) Done = true
can_answer (Transmit bytes inc) (Sent number reached) = true
can_answer (Receive pipe) (Got number) = true
can_answer (Pend pipe) (Got number) = true
can_answer (Pend pipe) TimeOut = true
can_answer (Pend pipe) Pending = true
can_answer (Look pipe) (Got number) = true
can_answer (Look pipe) TimeOut = true
can_answer (Look pipe) Pending = true
can_answer (Allocate size) (Number number) = true
can_answer (TransmitBuffer buf bytes inc) (Sent number reached) = true
can_answer (Release buf) Done = true
can_answer (PoolCreate bytes) (Number number) = true
can_answer (PoolGet pool size) (Number number) = true
can_answer (PoolPut pool grant) Done = true
can_answer (PoolFigures pool) (Pool figures) = true
can_answer (Register filters) Done = true
can_answer (SendEvent id kind text) Done = true
can_answer (ResetFilter id) Done = true
can_answer (LogMode mode) Done = true
can_answer ClearLog Done = true
can_answer Housekeeping (Sent number reached) = true
can_answer Figures (Bus stats) = true
can_answer End Done = true
can_answer call answer = false

-- whether an answer's name is a word
abbrev pub tells_plain_name : BusAnswer → Bool
tells_plain_name (Name name) = list_all is_visible name
tells_plain_name Done = true
tells_plain_name (Number number) = true
tells_plain_name (Sent number reached) = true
tells_plain_name (Got number) = true
tells_plain_name TimeOut = true
tells_plain_name Pending = true
tells_plain_name (Pool figures) = true
tells_plain_name (Bus stats) = true
tells_plain_name (Sb status) = true
tells_plain_name (Es status) = true
tells_plain_name (Evs status) = true

-- whether the figures of a pool have 32 bits
abbrev pub are_short : PoolStats → Bool
are_short figures =
    list_all (λ number. nat_lt number (2 ^ 32))
    (figures.size ∷ figures.requests ∷ figures.errors ∷ figures.free ∷ [])

-- whether the figures of the bus have 32 bits
abbrev pub are_short_stats : BusStats → Bool
are_short_stats stats =
    list_all (λ number. nat_lt number (2 ^ 32))
    (stats.nosub ∷ stats.limit ∷ stats.overflow ∷ stats.buffers ∷ stats.bytes ∷ [])

-- whether an answer's numbers have 32 bits
abbrev pub has_short_numbers : BusAnswer → Bool
has_short_numbers (Number number) = nat_lt number (2 ^ 32)
has_short_numbers (Sent number reached) = nat_lt number (2 ^ 32) && nat_lt reached (2 ^ 32)
has_short_numbers (Got number) = nat_lt number (2 ^ 32)
has_short_numbers Done = true
has_short_numbers (Name name) = true
has_short_numbers TimeOut = true
has_short_numbers Pending = true
has_short_numbers (Pool figures) = are_short figures
has_short_numbers (Bus stats) = are_short_stats stats
has_short_numbers (Sb status) = true
has_short_numbers (Es status) = true
has_short_numbers (Evs status) = true

-- an entry as the applications of a script make them
pub record IsPlain (e : Entry) : Type 0 where
  pub app : e.app < 2 ^ 32
  pub name : IsTrue (has_plain_name e.call)
  pub answer : IsTrue (can_answer e.call e.answer)
  pub told : IsTrue (tells_plain_name e.answer)
  pub numbers : IsTrue (has_short_numbers e.answer)

-- as many entries, each of the same application and with the same answer
pub record TellTheSame (one other : List Entry) : Type 0 where
  pub apps : map (λ e. e.app) one ≡ map (λ e. e.app) other
  pub answers : map (λ e. e.answer) one ≡ map (λ e. e.answer) other
