-- What a line needs, and what follows from its answer.
use Rattle.std.specs.Prelude.{◌≡◌, ℕ, ◌+◌, ◌≤◌, length, sum_by, List, [], ◌∷◌, Option, Some, None, slice_index}
use Rattle.bus_words.specs.declared.calls.BusAnswer.{BusAnswer}
use Rattle.bus_words.specs.declared.calls.BusAnswer.TheVariants.{Pending, Got}
use Rattle.bus_words.specs.declared.history.Call.{Call}
use Rattle.script_lines.specs.declared.line.Line.{Line}
use Rattle.script_lines.specs.declared.line.Line.TheVariants.{Create, Find, Send, SendRaw, Pend, TransmitBuffer, SendEvent, Stage, Load}
use Rattle.script_words.specs.declared.content.Content.{Content}
use Rattle.script_words.specs.declared.content.Content.TheVariants.{Hex, Fill}
use Rattle.script_settings.specs.Accounts.{waits_of, sizes_after}
use Rattle.script_runs.specs.Trace.{Registers}
use Rattle.script_runs.specs.Written.{Written, bytes_in}
use Rattle.app_calls.specs.Callers.{Caller, MayCallBus, Answers}

-- the application may make the call of its line, if the line makes one
abbrev pub MayRun : Caller → Option Call → Type 0
MayRun caller None = Unit {0}
MayRun caller (Some call) = MayCallBus caller call

-- the line's call was so answered; if it makes none, nothing changed
abbrev pub IsRun : Caller → Caller → Option Call → Option BusAnswer → Type 0
IsRun old new None None = new ≡ old
IsRun old new None (Some answer) = ⊥
IsRun old new (Some call) None = ⊥
IsRun old new (Some call) (Some answer) = Answers old new call answer

-- how many bytes of a content have to be made: those of one that is told by its first byte
abbrev pub filling_size : Content → ℕ
filling_size (Hex bytes) = 0
filling_size (Fill len byte) = len

-- how many bytes a line has made: those of the message of a `send` line, and those of a load that
-- is told by its first byte
unfoldable pub made_size : Line → ℕ
made_size (Send id size fill inc) = size
made_size (Stage handle offset content) = filling_size content
made_size (Load handle offset content) = filling_size content
made_size line = 0

-- the pipe that the application waits on after a line so answered
unfoldable pub pipe_waited_for : Registers → Line → BusAnswer → Option ℕ
pipe_waited_for registers (Pend pipe) Pending = Some (slice_index registers.pipes pipe)
pipe_waited_for registers line answer = None

-- the most bytes that the call of a line brings, if the latest `alloc` of each register of
-- buffers asked for these sizes
unfoldable pub line_bytes : List ℕ → Line → ℕ
line_bytes asked (Create pipe depth name) = length name
line_bytes asked (Find pipe name) = length name
line_bytes asked (Send id size fill inc) = size
line_bytes asked (SendRaw bytes inc) = length bytes
line_bytes asked (TransmitBuffer buf inc) = slice_index asked buf
line_bytes asked (SendEvent id kind text) = length text
line_bytes asked line = 0

-- how many entries these lines may make, with the end
abbrev pub entries_due : List Line → ℕ
entries_due lines = length lines + sum_by waits_of lines + 1

-- the most bytes that the calls of these lines bring
abbrev pub bytes_due : List ℕ → List Line → ℕ
bytes_due asked [] = 0
bytes_due asked (line ∷ lines) = line_bytes asked line + bytes_due (sizes_after asked line) lines

-- The registers of buffers name buffers of at most these sizes, under numbers that were given; none
-- has the number 0.
pub record AreAsked (registers : List ℕ) (written : Written) (given : ℕ)
    (asked : List ℕ) : Type 0 where
  pub alike : length asked ≡ length registers
  pub sizes : (register : ℕ) →
      length (bytes_in written (slice_index registers register)) ≤ slice_index asked register
  pub numbers : (register : ℕ) → slice_index registers register ≤ given
  pub none : written 0 ≡ None

-- how many receipts an answer makes at most
abbrev pub most_receipts : BusAnswer → ℕ
most_receipts (Got number) = 1
most_receipts answer = 0
