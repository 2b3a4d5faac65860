-- What a history of the tables has of one application of a script: the calls of its lines, each
-- once and in their order. No table call waits, so each has one entry.
use Rattle.std.specs.Prelude.{◌≡◌, ℕ, ◌==◌, List, [], ◌∷◌, filter, replicate, slice_set, Option, Some, None}
use Rattle.tbl_words.specs.declared.calls.TblAnswer.{TblAnswer}
use Rattle.tbl_words.specs.declared.calls.TblAnswer.TheVariants.{Number, Duplicate}
use Rattle.tbl_words.specs.declared.history.Call.{Call}
use Rattle.tbl_words.specs.declared.history.Call.TheVariants as calls
use Rattle.tbl_words.specs.declared.history.Entry.{Entry}
use Rattle.script_lines.specs.declared.line.Line.{Line}
use Rattle.script_lines.specs.declared.line.Line.TheVariants as lines
use Rattle.script_runs.specs.LineCalls.{line_call_of, table_call}

-- an application's registers of table handles: at first all 64 are 0
abbrev pub first_handles : List ℕ
first_handles = replicate 64 0

-- the call of the tables that a line makes; None for a line that the tables don't see
unfoldable pub table_call_of : List ℕ → Line → Option Call
table_call_of handles line = table_call handles (line_call_of line)

-- the handle of a successful answer, a duplicate registration's too; 0 of a refusal
abbrev pub handle_of : TblAnswer → ℕ
handle_of (Number n) = n
handle_of (Duplicate n) = n
handle_of answer = 0

-- the registers of handles once the line's call was answered
unfoldable pub handles_after : List ℕ → Line → TblAnswer → List ℕ
handles_after handles (lines.TableRegister handle name size option rules) answer =
    slice_set handles handle (handle_of answer)
handles_after handles (lines.TableShare handle name) answer =
    slice_set handles handle (handle_of answer)
handles_after handles line answer = handles

-- the entries of a line: none if the tables don't see it, else one of its call
abbrev pub TableLineEntries : Option Call → (TblAnswer → List Entry → Type 0) →
    (List Entry → Type 0) → List Entry → Type 0
TableLineEntries None Next Same es = Same es
TableLineEntries (Some call) Next Same [] = ⊥
TableLineEntries (Some call) Next Same (e ∷ es) = (e.call ≡ call) × Next e.answer es

-- the entries of an application's end
abbrev pub IsTableEnd : List Entry → Type 0
IsTableEnd [] = ⊥
IsTableEnd (e ∷ []) = e.call ≡ calls.End
IsTableEnd (e ∷ f ∷ es) = ⊥

-- One entry for each line that the tables see, with that line's call; the application's end after
-- them all.
abbrev pub TableTrace : List ℕ → List Line → List Entry → Type 0
TableTrace handles [] es = IsTableEnd es
TableTrace handles (line ∷ lines) es =
    TableLineEntries (table_call_of handles line)
    (λ answer rest. TableTrace (handles_after handles line answer) lines rest)
    (λ rest. TableTrace handles lines rest) es

-- the entries of one application
abbrev pub own_table_entries : ℕ → List Entry → List Entry
own_table_entries app history = filter (λ e. e.app == app) history
