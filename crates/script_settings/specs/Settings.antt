-- The lines that configure a run.
use Rattle.std.specs.Prelude.{ℕ, ◌==◌, ◌||◌, ◌&&◌, nat_le, Bool, List, [], ◌∷◌, length, Option, Some, None, Result, Ok, Err, codes, if◌then◌else◌}
use Rattle.std.specs.List.{list_any, list_all}
use Rattle.fsw_base.specs.declared.script_faults.FaultKind.{FaultKind}
use Rattle.fsw_base.specs.declared.script_faults.FaultKind.TheVariants.{WrongCount, BadWord, OutOfRange}
use Rattle.fsw_base.specs.Limits.{Limits}
use Rattle.fsw_base.specs.Blocks.{are_block_sizes}
use Rattle.script_settings.specs.declared.settings.LimitName.{LimitName}
use Rattle.script_settings.specs.declared.settings.LimitName.TheVariants.{MsgIds, Pipes, Dests, Depth, MsgMax, Pool, AppPool, Tables, Handles, TableMax, TablePool}
use Rattle.script_words.specs.Readings.{◌>>=◌}
use Rattle.script_words.specs.Text.{is_same}
use Rattle.script_words.specs.Counts.{Word, one, two, few}
use Rattle.script_words.specs.Lists.{each}
use Rattle.script_words.specs.Numbers.{number_of, within, is_digit}

-- the limits by the names that a set line has
unfoldable pub limit_name : Word → Option LimitName
limit_name word =
    if is_same word (codes "msgids") then Some MsgIds
    else (if is_same word (codes "pipes") then Some Pipes
    else (if is_same word (codes "dests") then Some Dests
    else (if is_same word (codes "depth") then Some Depth
    else (if is_same word (codes "msgmax") then Some MsgMax
    else (if is_same word (codes "pool") then Some Pool
    else (if is_same word (codes "apppool") then Some AppPool
    else (if is_same word (codes "tables") then Some Tables
    else (if is_same word (codes "handles") then Some Handles
    else (if is_same word (codes "tablemax") then Some TableMax
    else (if is_same word (codes "tablepool") then Some TablePool
    else None))))))))))

-- a limit's place in the list of limits
abbrev pub limit_number : LimitName → ℕ
limit_number MsgIds = 0
limit_number Pipes = 1
limit_number Dests = 2
limit_number Depth = 3
limit_number MsgMax = 4
limit_number Pool = 5
limit_number AppPool = 6
limit_number Tables = 7
limit_number Handles = 8
limit_number TableMax = 9
limit_number TablePool = 10

-- the least value of a limit, and the greatest
abbrev pub least : LimitName → ℕ
least MsgIds = 1
least Pipes = 1
least Dests = 1
least Depth = 1
least MsgMax = 7
least Pool = 24
least AppPool = 24
least Tables = 1
least Handles = 1
least TableMax = 1
least TablePool = 24

abbrev pub greatest : LimitName → ℕ
greatest MsgIds = 1024
greatest Pipes = 256
greatest Dests = 64
greatest Depth = 1024
greatest MsgMax = 65542
greatest Pool = 16777216
greatest AppPool = 1048576
greatest Tables = 256
greatest Handles = 1024
greatest TableMax = 65536
greatest TablePool = 16777216

-- the limits with this one changed
abbrev pub with_limit : Limits → LimitName → ℕ → Limits
with_limit limits MsgIds value = record limits { msgids = value }
with_limit limits Pipes value = record limits { pipes = value }
with_limit limits Dests value = record limits { dests = value }
with_limit limits Depth value = record limits { depth = value }
with_limit limits MsgMax value = record limits { msgmax = value }
with_limit limits Pool value = record limits { pool = value }
with_limit limits AppPool value = record limits { apppool = value }
with_limit limits Tables value = record limits { tables = value }
with_limit limits Handles value = record limits { handles = value }
with_limit limits TableMax value = record limits { tablemax = value }
with_limit limits TablePool value = record limits { tablepool = value }

-- whether this limit is among those set
abbrev pub is_among : LimitName → List LimitName → Bool
is_among name names = list_any (λ other. limit_number other == limit_number name) names

unfoldable pub limit_named : Word → Result LimitName FaultKind
limit_named word = elim (limit_name word) [ Some name ↦ Ok name | None ↦ Err BadWord ]

-- set NAME VALUE
unfoldable pub set_of : List Word → Result (LimitName × ℕ) FaultKind
set_of words = do
  w ← two words
  name ← limit_named w.0
  spelled ← number_of w.1
  value ← within (least name) (greatest name) spelled
  Ok (name, value)

-- one word at least
unfoldable pub some_words : List Word → Result (Unit {0}) FaultKind
some_words [] = Err WrongCount
some_words (word ∷ words) = Ok tt

unfoldable pub sizes_within : List ℕ → Result (List ℕ) FaultKind
sizes_within sizes = if are_block_sizes sizes then Ok sizes else Err OutOfRange

-- sizes S1 S2 .., one to seventeen
unfoldable pub sizes_of : List Word → Result (List ℕ) FaultKind
sizes_of words = do
  one ← some_words words
  count ← few 17 words
  sizes ← each number_of words
  sizes_within sizes

-- seq ID COUNT
unfoldable pub seq_of : List Word → Result (ℕ × ℕ) FaultKind
seq_of words = do
  w ← two words
  number ← number_of w.0
  start ← number_of w.1
  id ← within 1 8191 number
  count ← within 0 16383 start
  Ok (id, count)

-- a letter, a digit or an underscore
abbrev pub is_name_byte : ℕ → Bool
is_name_byte byte =
    is_digit byte || (nat_le 65 byte && nat_le byte 90) || (nat_le 97 byte && nat_le byte 122) ||
    (byte == 95)

-- an application's name: 1 to 19 of them
unfoldable pub is_app_name : Word → Bool
is_app_name word = nat_le 1 (length word) && nat_le (length word) 19 && list_all is_name_byte word

-- app NAME
unfoldable pub app_of : List Word → Result Word FaultKind
app_of words = do
  word ← one words
  if is_app_name word then Ok word else Err BadWord

-- the versions of the language are 1 and 2
abbrev pub is_version : ℕ → Bool
is_version version = nat_le 1 version && nat_le version 2

-- script VERSION
unfoldable pub script_of : List Word → Result ℕ FaultKind
script_of words = do
  word ← one words
  version ← number_of word
  within 1 2 version
