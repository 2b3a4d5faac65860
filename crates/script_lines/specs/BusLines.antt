-- The lines of the software bus: pipes, subscriptions and messages.
use Rattle.std.specs.Prelude.{ℕ, Bool, List, Option, Some, None, Result, Ok, Err, codes, if◌then◌else◌}
use Rattle.fsw_base.specs.declared.script_faults.FaultKind.{FaultKind}
use Rattle.fsw_base.specs.declared.script_faults.FaultKind.TheVariants.{BadWord}
use Rattle.fsw_base.specs.declared.config.Scope.{Scope}
use Rattle.script_lines.specs.declared.line.Line.{Line}
use Rattle.script_lines.specs.declared.line.Line.TheVariants as lines
use Rattle.script_lines.specs.declared.bus_lines.BusWord.{BusWord}
use Rattle.script_lines.specs.declared.bus_lines.BusWord.TheVariants.{Create, Delete, SetOpts, GetOpts, Find, PipeName, Subscribe, Unsubscribe, Send, SendRaw, Receive, Pend}
use Rattle.script_words.specs.Readings.{◌>>=◌}
use Rattle.script_words.specs.Text.{is_same}
use Rattle.script_words.specs.Counts.{Word, one, two, three, one_or_two, two_to_four, three_or_four}
use Rattle.script_words.specs.Numbers.{number_of, within, is_hex, hex_bytes, pipe_of}
use Rattle.script_words.specs.Content.{name_of, mode_of, scope_of}

-- the one pipe of a line that names nothing else
unfoldable pub pipe_alone : List Word → Result ℕ FaultKind
pipe_alone words = one words >>= pipe_of

-- create pN DEPTH NAME
unfoldable pub create_of : List Word → Result Line FaultKind
create_of words = do
  w ← three words
  pipe ← pipe_of w.0
  spelled ← number_of w.1
  depth ← within 0 65535 spelled
  name ← name_of w.2
  Ok (lines.Create pipe depth name)

-- opts pN BITS
unfoldable pub opts_of : List Word → Result Line FaultKind
opts_of words = do
  w ← two words
  pipe ← pipe_of w.0
  spelled ← number_of w.1
  bits ← within 0 255 spelled
  Ok (lines.SetOpts pipe bits)

-- find pN NAME
unfoldable pub find_of : List Word → Result Line FaultKind
find_of words = do
  w ← two words
  pipe ← pipe_of w.0
  name ← name_of w.1
  Ok (lines.Find pipe name)

-- a limit that may be left out
unfoldable pub limit_of : Option Word → Result ℕ FaultKind
limit_of None = Ok 4
limit_of (Some word) = number_of word

unfoldable pub subscribed : ℕ → ℕ → ℕ → Scope → Result Line FaultKind
subscribed spelled pipe waiting scope = do
  id ← within 0 65535 spelled
  limit ← within 0 65535 waiting
  Ok (lines.Subscribe id pipe limit scope)

-- sub ID pN [LIMIT [global or local]]
unfoldable pub sub_of : List Word → Result Line FaultKind
sub_of words = do
  w ← two_to_four words
  id ← number_of w.0.0
  pipe ← pipe_of w.0.1
  limit ← limit_of w.1.0
  scope ← scope_of w.1.1
  subscribed id pipe limit scope

-- unsub ID pN
unfoldable pub unsub_of : List Word → Result Line FaultKind
unsub_of words = do
  w ← two words
  spelled ← number_of w.0
  pipe ← pipe_of w.1
  id ← within 0 65535 spelled
  Ok (lines.Unsubscribe id pipe)

unfoldable pub sent : ℕ → ℕ → ℕ → Bool → Result Line FaultKind
sent number length first inc = do
  id ← within 0 65535 number
  size ← within 7 65542 length
  fill ← within 0 255 first
  Ok (lines.Send id size fill inc)

-- send ID SIZE FILL [inc or keep]
unfoldable pub send_of : List Word → Result Line FaultKind
send_of words = do
  w ← three_or_four words
  id ← number_of w.0.0
  size ← number_of w.0.1
  fill ← number_of w.1.0
  inc ← mode_of w.1.1
  sent id size fill inc

-- a word that spells bytes
unfoldable pub hex_word : Word → Result (Unit {0}) FaultKind
hex_word word = if is_hex word then Ok tt else Err BadWord

-- sendraw HEX [inc or keep]
unfoldable pub sendraw_of : List Word → Result Line FaultKind
sendraw_of words = do
  w ← one_or_two words
  hex ← hex_word w.0
  inc ← mode_of w.1
  Ok (lines.SendRaw (hex_bytes w.0) inc)

-- the line with this first word, from the words behind it
unfoldable pub bus_line_of : BusWord → List Word → Result Line FaultKind
bus_line_of Create words = create_of words
bus_line_of Delete words = pipe_alone words >>= λ pipe. Ok (lines.Delete pipe)
bus_line_of SetOpts words = opts_of words
bus_line_of GetOpts words = pipe_alone words >>= λ pipe. Ok (lines.GetOpts pipe)
bus_line_of Find words = find_of words
bus_line_of PipeName words = pipe_alone words >>= λ pipe. Ok (lines.PipeName pipe)
bus_line_of Subscribe words = sub_of words
bus_line_of Unsubscribe words = unsub_of words
bus_line_of Send words = send_of words
bus_line_of SendRaw words = sendraw_of words
bus_line_of Receive words = pipe_alone words >>= λ pipe. Ok (lines.Receive pipe)
bus_line_of Pend words = pipe_alone words >>= λ pipe. Ok (lines.Pend pipe)

-- the first words of these lines
unfoldable pub bus_word : Word → Option BusWord
bus_word word =
    if is_same word (codes "create") then Some Create
    else (if is_same word (codes "delete") then Some Delete
    else (if is_same word (codes "opts") then Some SetOpts
    else (if is_same word (codes "getopts") then Some GetOpts
    else (if is_same word (codes "find") then Some Find
    else (if is_same word (codes "pname") then Some PipeName
    else (if is_same word (codes "sub") then Some Subscribe
    else (if is_same word (codes "unsub") then Some Unsubscribe
    else (if is_same word (codes "send") then Some Send
    else (if is_same word (codes "sendraw") then Some SendRaw
    else (if is_same word (codes "recv") then Some Receive
    else (if is_same word (codes "pend") then Some Pend
    else None)))))))))))
