-- The lines of a report on the calls of the software bus.
use Rattle.std.specs.Prelude.{ℕ, Bool, true, false, List, ◌++◌, length, sum, codes, decimal}
use Rattle.fsw_base.specs.declared.config.Scope.{Scope}
use Rattle.fsw_base.specs.declared.config.Scope.TheVariants as scopes
use Rattle.fsw_base.specs.declared.config.PoolStats.{PoolStats}
use Rattle.fsw_base.specs.declared.config.BusStats.{BusStats}
use Rattle.fsw_base.specs.Events.{kind_number}
use Rattle.fsw_base.specs.Statuses.{sb_name, es_name, evs_name}
use Rattle.bus_words.specs.declared.calls.BusAnswer.{BusAnswer}
use Rattle.bus_words.specs.declared.calls.BusAnswer.TheVariants.{Done, Number, Name, Sent, Got, TimeOut, Pending, Pool, Bus, Sb, Es, Evs}
use Rattle.bus_words.specs.declared.history.Call.{Call}
use Rattle.bus_words.specs.declared.history.Call.TheVariants.{Create, Delete, SetOpts, GetOpts, Find, PipeName, Subscribe, Unsubscribe, Transmit, Receive, Pend, Look, Allocate, TransmitBuffer, Release, PoolCreate, PoolGet, PoolPut, PoolFigures, Register, SendEvent, ResetFilter, LogMode, ClearLog, Housekeeping, Figures, End}
use Rattle.bus_words.specs.declared.history.Entry.{Entry}
use Rattle.text_page.specs.Texts.{hex_id, name_text, numbered}

abbrev pub scope_text : Scope → List ℕ
scope_text scopes.Global = codes "global"
scope_text scopes.Local = codes "local"

-- whether a send gives its message the next sequence count
abbrev pub mode_text : Bool → List ℕ
mode_text true = codes "inc"
mode_text false = codes "keep"

-- a call; of a message or a buffer its size and the sum of its bytes, of a registration how many
-- filters it has, of an event's text its length
abbrev pub call_text : Call → List ℕ
call_text (Create depth name) = codes "create " ++ decimal depth ++ codes " " ++ name_text name
call_text (Delete pipe) = codes "delete " ++ decimal pipe
call_text (SetOpts pipe bits) = codes "opts " ++ decimal pipe ++ codes " " ++ decimal bits
call_text (GetOpts pipe) = codes "getopts " ++ decimal pipe
call_text (Find name) = codes "find " ++ name_text name
call_text (PipeName pipe) = codes "pname " ++ decimal pipe
call_text (Subscribe id pipe limit scope) =
    codes "sub " ++ hex_id id ++ codes " " ++ decimal pipe ++ codes " " ++ decimal limit ++
    codes " " ++ scope_text scope
call_text (Unsubscribe id pipe) = codes "unsub " ++ hex_id id ++ codes " " ++ decimal pipe
call_text (Transmit bytes inc) =
    codes "send " ++ decimal (length bytes) ++ codes " " ++ decimal (sum bytes) ++ codes " " ++
    mode_text inc
call_text (Receive pipe) = codes "recv " ++ decimal pipe
call_text (Pend pipe) = codes "pend " ++ decimal pipe
call_text (Look pipe) = codes "look " ++ decimal pipe
call_text (Allocate size) = codes "alloc " ++ decimal size
call_text (TransmitBuffer buf bytes inc) =
    codes "xmit " ++ decimal buf ++ codes " " ++ decimal (length bytes) ++ codes " " ++
    decimal (sum bytes) ++ codes " " ++ mode_text inc
call_text (Release buf) = codes "release " ++ decimal buf
call_text (PoolCreate bytes) = codes "pool " ++ decimal bytes
call_text (PoolGet pool size) = codes "pget " ++ decimal pool ++ codes " " ++ decimal size
call_text (PoolPut pool grant) = codes "pput " ++ decimal pool ++ codes " " ++ decimal grant
call_text (PoolFigures pool) = codes "pstats " ++ decimal pool
call_text (Register filters) = codes "evreg " ++ decimal (length filters)
call_text (SendEvent id kind text) =
    codes "event " ++ decimal id ++ codes " " ++ decimal (kind_number kind) ++ codes " " ++
    decimal (length text)
call_text (ResetFilter id) = codes "evreset " ++ decimal id
call_text (LogMode mode) = codes "logmode " ++ decimal mode
call_text ClearLog = codes "logclear"
call_text Housekeeping = codes "hk"
call_text Figures = codes "stats"
call_text End = codes "end"

-- the figures of a memory pool: its bytes, the blocks drawn, the returns refused and the bytes
-- never cut
abbrev pub figures_text : PoolStats → List ℕ
figures_text figures =
    decimal figures.size ++ codes " " ++ decimal figures.requests ++ codes " " ++
    decimal figures.errors ++ codes " " ++ decimal figures.free

-- the figures of the bus: messages that nobody was subscribed to, that a limit kept from a pipe and
-- that a full pipe kept out, the buffers in use and their bytes
abbrev pub stats_text : BusStats → List ℕ
stats_text stats =
    decimal stats.nosub ++ codes " " ++ decimal stats.limit ++ codes " " ++
    decimal stats.overflow ++ codes " " ++ decimal stats.buffers
    ++ codes " " ++ decimal stats.bytes

-- an answer: the numbers or the name that it tells, that no message came or none is there yet, or
-- why the call was refused
abbrev pub answer_text : BusAnswer → List ℕ
answer_text Done = codes "CFE_SUCCESS"
answer_text (Number number) = codes "CFE_SUCCESS " ++ decimal number
answer_text (Name name) = codes "CFE_SUCCESS " ++ name
answer_text (Sent number reached) =
    codes "CFE_SUCCESS " ++ decimal number ++ codes " " ++ decimal reached
answer_text (Got number) = codes "CFE_SUCCESS " ++ decimal number
answer_text TimeOut = codes "CFE_SB_TIME_OUT"
answer_text Pending = codes "PENDING"
answer_text (Pool figures) = codes "CFE_SUCCESS " ++ figures_text figures
answer_text (Bus stats) = codes "CFE_SUCCESS " ++ stats_text stats
answer_text (Sb status) = sb_name status
answer_text (Es status) = es_name status
answer_text (Evs status) = evs_name status

-- the line of entry number n: its number, its application, its call and its answer
abbrev pub entry_text : ℕ → Entry → List ℕ
entry_text n e =
    decimal n ++ codes " a" ++ decimal e.app ++ codes " " ++ call_text e.call ++ codes " -> " ++
    answer_text e.answer ++ codes "\n"

-- the lines of a history, whose entries are numbered from 1
abbrev pub entries_text : List Entry → List ℕ
entries_text entries = numbered entry_text 1 entries
