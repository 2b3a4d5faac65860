-- What a history of the bus has of one application of a script: the calls of its lines, each once
-- and in their order.
use Rattle.std.specs.Prelude.{◌≡◌, ℕ, List, [], ◌∷◌, slice_set, Option, Some, None}
use Rattle.bus_words.specs.declared.calls.BusAnswer.{BusAnswer}
use Rattle.bus_words.specs.declared.calls.BusAnswer.TheVariants.{Number, Pending}
use Rattle.bus_words.specs.declared.history.Call.{Call}
use Rattle.bus_words.specs.declared.history.Call.TheVariants as calls
use Rattle.bus_words.specs.declared.history.Entry.{Entry}
pub use Rattle.bus_words.specs.Runs.{own_entries}
use Rattle.script_lines.specs.declared.line.Line.{Line}
use Rattle.script_lines.specs.declared.line.Line.TheVariants as lines
pub use Rattle.script_runs.specs.LineCalls.{Registers, first_registers}
use Rattle.script_runs.specs.LineCalls.{bus_call, line_call_of}
use Rattle.script_runs.specs.Written.{Written, written_after, written_by}

-- the call of the bus that a line makes; None for a line that the bus doesn't see
unfoldable pub call_of : Registers → Written → Line → Option Call
call_of registers written line = bus_call registers written (line_call_of line)

-- the number of a successful answer, 0 of a refusal
abbrev pub number_of : BusAnswer → ℕ
number_of (Number n) = n
number_of answer = 0

-- the registers once the line's call was answered
unfoldable pub registers_after : Registers → Line → BusAnswer → Registers
registers_after registers (lines.Create pipe depth name) answer =
    record registers { pipes = slice_set registers.pipes pipe (number_of answer) }
registers_after registers (lines.Find pipe name) answer =
    record registers { pipes = slice_set registers.pipes pipe (number_of answer) }
registers_after registers (lines.Allocate buf size) answer =
    record registers { buffers = slice_set registers.buffers buf (number_of answer) }
registers_after registers (lines.PoolCreate pool bytes) answer =
    record registers { pools = slice_set registers.pools pool (number_of answer) }
registers_after registers (lines.PoolGet grant pool size) answer =
    record registers { grants = slice_set registers.grants grant (number_of answer) }
registers_after registers line answer = registers

-- the entries are, if the call was so answered: one look if it waits, and then what follows
abbrev pub AfterAnswer : Call → BusAnswer → (List Entry → Type 0) → List Entry → Type 0
AfterAnswer (calls.Pend pipe) Pending Rest [] = ⊥
AfterAnswer (calls.Pend pipe) Pending Rest (e ∷ es) = (e.call ≡ calls.Look pipe) × Rest es
AfterAnswer call answer Rest es = Rest es

-- the entries of a line: none if the bus doesn't see it, else one of its call
abbrev pub LineEntries : Option Call → (Call → BusAnswer → List Entry → Type 0) →
    (List Entry → Type 0) → List Entry → Type 0
LineEntries None Next Same es = Same es
LineEntries (Some call) Next Same [] = ⊥
LineEntries (Some call) Next Same (e ∷ es) =
    (e.call ≡ call) × AfterAnswer call e.answer (Next call e.answer) es

-- the entries of an application's end
abbrev pub IsEnd : List Entry → Type 0
IsEnd [] = ⊥
IsEnd (e ∷ []) = e.call ≡ calls.End
IsEnd (e ∷ f ∷ es) = ⊥

-- One entry for each line that the bus sees, with that line's call, and a look after one that
-- waits; the application's end after them all.
abbrev pub Trace : Registers → Written → List Line → List Entry → Type 0
Trace registers written [] es = IsEnd es
Trace registers written (line ∷ lines) es =
    LineEntries (call_of registers written line)
    (λ call answer rest. Trace (registers_after registers line answer)
    (written_after written call answer) lines rest)
    (λ rest. Trace registers (written_by written registers.buffers line) lines rest) es
