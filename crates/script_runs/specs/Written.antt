-- What an application writes into its unsent buffers.
use Rattle.std.specs.Prelude.{ℕ, ◌+◌, ◌==◌, nat_le, List, [], ◌++◌, length, replicate, take, drop, slice_index, Option, Some, None, if◌then◌else◌}
use Rattle.std.specs.Option.{option_map, option_map_or}
use Rattle.bus_words.specs.declared.calls.BusAnswer.{BusAnswer}
use Rattle.bus_words.specs.declared.calls.BusAnswer.TheVariants.{Number, Sent, Done}
use Rattle.bus_words.specs.declared.history.Call.{Call}
use Rattle.bus_words.specs.declared.history.Call.TheVariants.{Allocate, TransmitBuffer, Release, End}
use Rattle.script_lines.specs.declared.line.Line.{Line}
use Rattle.script_lines.specs.declared.line.Line.TheVariants.{Form, Put}
use Rattle.script_runs.specs.Messages.{sent_message}

-- the bytes of an application's unsent buffer of each number; None if it has none
abbrev pub Written : Type 0
Written = ℕ → Option (List ℕ)

-- at first it has no buffer
abbrev pub first_written : Written
first_written = λ number. None

-- the bytes of the buffer of this number; none if there is no such buffer
abbrev pub bytes_in : Written → ℕ → List ℕ
bytes_in written number = option_map_or (λ bytes. bytes) (written number) []

-- with a buffer of this number, or without one
abbrev pub with_buffer : Written → ℕ → Option (List ℕ) → Written
with_buffer written number buffer = λ other. if number == other then buffer else written other

-- with the bytes of the buffer of this number changed so, if there is one
abbrev pub with_bytes : Written → ℕ → (List ℕ → List ℕ) → Written
with_bytes written number change = with_buffer written number (option_map change (written number))

-- What an answer leaves of the buffers: a new one is zeros, and one that was sent or given back is
-- gone, as all are at the end. A refused call changes nothing.
abbrev pub written_after : Written → Call → BusAnswer → Written
written_after written (Allocate size) (Number number) =
    with_buffer written number (Some (replicate size 0))
written_after written (TransmitBuffer buf bytes inc) (Sent number reached) =
    with_buffer written buf None
written_after written (Release buf) Done = with_buffer written buf None
written_after written End Done = first_written
written_after written call answer = written

-- the bytes with these from an offset on; as they were if these don't fit
abbrev pub put_in : List ℕ → ℕ → List ℕ → List ℕ
put_in old offset bytes =
    if nat_le (offset + length bytes) (length old) then take offset old ++
    (bytes ++ drop (offset + length bytes) old) else old

-- What a line that no service sees writes, with the registers of buffers: `form` makes the whole
-- buffer a message, with a payload that counts up; `put` writes bytes if they fit. Neither does
-- anything if the application has no such buffer.
unfoldable pub written_by : Written → List ℕ → Line → Written
written_by written buffers (Form buf id fill) =
    with_bytes written (slice_index buffers buf) (λ old. sent_message id (length old) fill)
written_by written buffers (Put buf offset bytes) =
    with_bytes written (slice_index buffers buf) (λ old. put_in old offset bytes)
written_by written buffers line = written
