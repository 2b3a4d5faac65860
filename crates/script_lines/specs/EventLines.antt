-- The lines of events, and of the bus's figures.
use Rattle.std.specs.Prelude.{ℕ, ◌==◌, ◌&&◌, nat_le, List, length, Option, Some, None, Result, Ok, Err, codes, if◌then◌else◌}
use Rattle.fsw_base.specs.declared.script_faults.FaultKind.{FaultKind}
use Rattle.fsw_base.specs.declared.script_faults.FaultKind.TheVariants.{OutOfRange, Repeated}
use Rattle.fsw_base.specs.declared.events.EventKind.{EventKind}
use Rattle.fsw_base.specs.declared.events.EventKind.TheVariants as kinds
use Rattle.fsw_base.specs.Starts.{are_distinct_ids}
use Rattle.script_lines.specs.declared.line.Line.{Line}
use Rattle.script_lines.specs.declared.line.Line.TheVariants as lines
use Rattle.script_lines.specs.declared.event_lines.EventWord.{EventWord}
use Rattle.script_lines.specs.declared.event_lines.EventWord.TheVariants.{Register, Event, Reset, LogMode, LogClear, Housekeeping, Figures}
use Rattle.script_words.specs.Readings.{◌>>=◌}
use Rattle.script_words.specs.Text.{is_same, words_of, behind_word, trimmed}
use Rattle.script_words.specs.Counts.{Word, next, none, one, few}
use Rattle.script_words.specs.Lists.{each}
use Rattle.script_words.specs.Numbers.{number_of, within, parts_of, numbers_2}

-- a list element `ID:MASK`
unfoldable pub pair_word : Word → Result (ℕ × ℕ) FaultKind
pair_word word = numbers_2 (parts_of word)

-- an event id and a mask of two bytes each
unfoldable pub filter_of : ℕ × ℕ → Result (ℕ × ℕ) FaultKind
filter_of pair = if nat_le pair.0 65535 && nat_le pair.1 65535 then Ok pair else Err OutOfRange

-- filters, each event id once
unfoldable pub registered : List (ℕ × ℕ) → Result Line FaultKind
registered filters = if are_distinct_ids filters then Ok (lines.Register filters) else Err Repeated

-- evreg [ID:MASK, up to 8 words]
unfoldable pub evreg_of : List Word → Result Line FaultKind
evreg_of words = do
  count ← few 8 words
  pairs ← each pair_word words
  filters ← each filter_of pairs
  registered filters

-- the next two words, and the text behind them without the blanks round it
unfoldable pub two_and_text : List ℕ → Result (Word × Word × List ℕ) FaultKind
two_and_text rest = do
  first ← next (words_of rest)
  second ← next (words_of (behind_word rest))
  Ok (first.0, second.0, trimmed (behind_word (behind_word rest)))

-- the type of an event, by its number
unfoldable pub kind_of : ℕ → Result EventKind FaultKind
kind_of number =
    if number == 1 then Ok kinds.Debug
    else (if number == 2 then Ok kinds.Information
    else (if number == 3 then Ok kinds.Error
    else (if number == 4 then Ok kinds.Critical
    else Err OutOfRange)))

-- a text of at most 200 bytes
unfoldable pub text_of : List ℕ → Result (List ℕ) FaultKind
text_of text = if nat_le (length text) 200 then Ok text else Err OutOfRange

unfoldable pub evented : ℕ → ℕ → List ℕ → Result Line FaultKind
evented number type text = do
  id ← within 0 65535 number
  kind ← kind_of type
  kept ← text_of text
  Ok (lines.SendEvent id kind kept)

-- event ID TYPE [TEXT], from the line behind its first word
unfoldable pub event_of : List ℕ → Result Line FaultKind
event_of rest = do
  w ← two_and_text rest
  id ← number_of w.0
  type ← number_of w.1
  evented id type w.2

-- evreset ID
unfoldable pub evreset_of : List Word → Result Line FaultKind
evreset_of words = do
  w ← one words
  number ← number_of w
  id ← within 0 65535 number
  Ok (lines.ResetFilter id)

-- logmode MODE
unfoldable pub logmode_of : List Word → Result Line FaultKind
logmode_of words = do
  w ← one words
  number ← number_of w
  mode ← within 0 1 number
  Ok (lines.LogMode mode)

-- the line with this first word, from the line behind it
unfoldable pub event_line_of : EventWord → List ℕ → Result Line FaultKind
event_line_of Register rest = evreg_of (words_of rest)
event_line_of Event rest = event_of rest
event_line_of Reset rest = evreset_of (words_of rest)
event_line_of LogMode rest = logmode_of (words_of rest)
event_line_of LogClear rest = none (words_of rest) >>= λ end. Ok lines.ClearLog
event_line_of Housekeeping rest = none (words_of rest) >>= λ end. Ok lines.Housekeeping
event_line_of Figures rest = none (words_of rest) >>= λ end. Ok lines.Figures

-- the first words of these lines
unfoldable pub event_word : Word → Option EventWord
event_word word =
    if is_same word (codes "evreg") then Some Register
    else (if is_same word (codes "event") then Some Event
    else (if is_same word (codes "evreset") then Some Reset
    else (if is_same word (codes "logmode") then Some LogMode
    else (if is_same word (codes "logclear") then Some LogClear
    else (if is_same word (codes "hk") then Some Housekeeping
    else (if is_same word (codes "stats") then Some Figures
    else None))))))
