-- Call lines of any kind.
use Rattle.std.specs.Prelude.{ℕ, List, Option, Some, None, Result, codes, if◌then◌else◌}
use Rattle.fsw_base.specs.declared.script_faults.FaultKind.{FaultKind}
use Rattle.script_words.specs.Text.{is_same, words_of}
use Rattle.script_words.specs.Counts.{Word}
use Rattle.script_lines.specs.declared.line.Line.{Line}
use Rattle.script_lines.specs.declared.call_lines.CallWord.{CallWord}
use Rattle.script_lines.specs.declared.call_lines.CallWord.TheVariants.{Bus, Memory, Event, Table, Show}
use Rattle.script_lines.specs.BusLines.{bus_word, bus_line_of}
use Rattle.script_lines.specs.MemoryLines.{memory_word, memory_line_of}
use Rattle.script_lines.specs.EventLines.{event_word, event_line_of}
use Rattle.script_lines.specs.TableLines.{table_word, table_line_of, show_of}

-- the first words of call lines
unfoldable pub table_or_show : Word → Option CallWord
table_or_show word =
    elim (table_word word) [
      | Some first ↦ Some (Table first)
      | None ↦
          (if is_same word (codes "show") then Some Show else None)
    ]

unfoldable pub event_or_table : Word → Option CallWord
event_or_table word =
    elim (event_word word) [ Some first ↦ Some (Event first) | None ↦ table_or_show word ]

unfoldable pub memory_or_event : Word → Option CallWord
memory_or_event word =
    elim (memory_word word) [ Some first ↦ Some (Memory first) | None ↦ event_or_table word ]

unfoldable pub call_word : Word → Option CallWord
call_word word =
    elim (bus_word word) [ Some first ↦ Some (Bus first) | None ↦ memory_or_event word ]

-- the call line with this first word, from the line behind it
unfoldable pub call_line_of : CallWord → List ℕ → Result Line FaultKind
call_line_of (Bus first) rest = bus_line_of first (words_of rest)
call_line_of (Memory first) rest = memory_line_of first (words_of rest)
call_line_of (Event first) rest = event_line_of first rest
call_line_of (Table first) rest = table_line_of first (words_of rest)
call_line_of Show rest = show_of (words_of rest)
