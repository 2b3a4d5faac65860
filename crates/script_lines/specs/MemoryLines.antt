-- The lines of buffers and of memory pools.
use Rattle.std.specs.Prelude.{List, Option, Some, None, Result, Ok, codes, if◌then◌else◌}
use Rattle.fsw_base.specs.declared.script_faults.FaultKind.{FaultKind}
use Rattle.script_lines.specs.declared.line.Line.{Line}
use Rattle.script_lines.specs.declared.line.Line.TheVariants as lines
use Rattle.script_lines.specs.declared.memory_lines.MemoryWord.{MemoryWord}
use Rattle.script_lines.specs.declared.memory_lines.MemoryWord.TheVariants.{Allocate, Transmit, Release, Form, Put, PoolCreate, PoolGet, PoolPut, PoolFigures}
use Rattle.script_words.specs.Readings.{◌>>=◌}
use Rattle.script_words.specs.Text.{is_same}
use Rattle.script_words.specs.Counts.{Word, one, two, three, one_or_two}
use Rattle.script_words.specs.Numbers.{number_of, within, hex_bytes, buffer_of, pool_of, grant_of}
use Rattle.script_words.specs.Content.{mode_of}
use Rattle.script_lines.specs.BusLines.{hex_word}

-- alloc bN SIZE
unfoldable pub alloc_of : List Word → Result Line FaultKind
alloc_of words = do
  w ← two words
  buf ← buffer_of w.0
  spelled ← number_of w.1
  size ← within 0 65542 spelled
  Ok (lines.Allocate buf size)

-- xmit bN [inc or keep]
unfoldable pub xmit_of : List Word → Result Line FaultKind
xmit_of words = do
  w ← one_or_two words
  buf ← buffer_of w.0
  inc ← mode_of w.1
  Ok (lines.TransmitBuffer buf inc)

-- release bN
unfoldable pub release_of : List Word → Result Line FaultKind
release_of words = do
  w ← one words
  buf ← buffer_of w
  Ok (lines.Release buf)

-- form bN ID FILL
unfoldable pub form_of : List Word → Result Line FaultKind
form_of words = do
  w ← three words
  buf ← buffer_of w.0
  number ← number_of w.1
  first ← number_of w.2
  id ← within 0 65535 number
  fill ← within 0 255 first
  Ok (lines.Form buf id fill)

-- put bN OFFSET HEX
unfoldable pub put_of : List Word → Result Line FaultKind
put_of words = do
  w ← three words
  buf ← buffer_of w.0
  place ← number_of w.1
  hex ← hex_word w.2
  offset ← within 0 65541 place
  Ok (lines.Put buf offset (hex_bytes w.2))

-- pool qN BYTES
unfoldable pub pool_line_of : List Word → Result Line FaultKind
pool_line_of words = do
  w ← two words
  pool ← pool_of w.0
  bytes ← number_of w.1
  Ok (lines.PoolCreate pool bytes)

-- pget mN qN SIZE
unfoldable pub pget_of : List Word → Result Line FaultKind
pget_of words = do
  w ← three words
  grant ← grant_of w.0
  pool ← pool_of w.1
  size ← number_of w.2
  Ok (lines.PoolGet grant pool size)

-- pput qN mN
unfoldable pub pput_of : List Word → Result Line FaultKind
pput_of words = do
  w ← two words
  pool ← pool_of w.0
  grant ← grant_of w.1
  Ok (lines.PoolPut pool grant)

-- pstats qN
unfoldable pub pstats_of : List Word → Result Line FaultKind
pstats_of words = do
  w ← one words
  pool ← pool_of w
  Ok (lines.PoolFigures pool)

-- the line with this first word, from the words behind it
unfoldable pub memory_line_of : MemoryWord → List Word → Result Line FaultKind
memory_line_of Allocate words = alloc_of words
memory_line_of Transmit words = xmit_of words
memory_line_of Release words = release_of words
memory_line_of Form words = form_of words
memory_line_of Put words = put_of words
memory_line_of PoolCreate words = pool_line_of words
memory_line_of PoolGet words = pget_of words
memory_line_of PoolPut words = pput_of words
memory_line_of PoolFigures words = pstats_of words

-- the first words of these lines
unfoldable pub memory_word : Word → Option MemoryWord
memory_word word =
    if is_same word (codes "alloc") then Some Allocate
    else (if is_same word (codes "xmit") then Some Transmit
    else (if is_same word (codes "release") then Some Release
    else (if is_same word (codes "form") then Some Form
    else (if is_same word (codes "put") then Some Put
    else (if is_same word (codes "pool") then Some PoolCreate
    else (if is_same word (codes "pget") then Some PoolGet
    else (if is_same word (codes "pput") then Some PoolPut
    else (if is_same word (codes "pstats") then Some PoolFigures
    else None))))))))
