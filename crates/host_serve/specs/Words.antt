-- The words of a command line, as far as any form of them needs, and what they ask for.
use Rattle.std.specs.Prelude.{ℕ, Bool, true, false, ◌&&◌, nat_le, nat_lt, List, [], ◌∷◌, ◌++◌, length, take, codes, Option, Some, None, if◌then◌else◌}
use Rattle.std.specs.Option.{option_map}
use Rattle.std.specs.Str.{bytes_eq}
use Rattle.script_words.specs.Numbers.{is_decimal, value_in}
use Rattle.tbl_file.specs.Image.{is_table_name}
use Rattle.host_serve.specs.declared.words.Task.{Task}
use Rattle.host_serve.specs.declared.words.Task.TheVariants.{Run, Lockstep, Generate, Soak, Bridge, Check, ShowImage, Pack}

-- the words with the first 64 bytes of one more, if there are fewer than five
abbrev pub with_word : List (List ℕ) → List ℕ → List (List ℕ)
with_word words word = if nat_lt (length words) 5 then words ++ take 64 word ∷ [] else words

-- the number that a word spells in decimal, with no needless 0 before it; none past 4294967295
abbrev pub decimal_number : List ℕ → Option ℕ
decimal_number word =
    if is_decimal word && nat_le (value_in 10 word) 4294967295 then Some (value_in 10 word)
    else None

-- what one word asks for: `run`, `lockstep`, `bridge`, `check` or `image`
abbrev pub task_alone : List ℕ → Option Task
task_alone word =
    if bytes_eq word (codes "run") then Some Run
    else (if bytes_eq word (codes "lockstep") then Some Lockstep
    else (if bytes_eq word (codes "bridge") then Some Bridge
    else (if bytes_eq word (codes "check") then Some Check
    else (if bytes_eq word (codes "image") then Some ShowImage else None))))

-- what a word asks for with a number behind it: `gen N` or `soak N`
abbrev pub task_with : List ℕ → List ℕ → Option Task
task_with word number =
    if bytes_eq word (codes "gen") then option_map Generate (decimal_number number)
    else (if bytes_eq word (codes "soak") then option_map Soak (decimal_number number) else None)

-- to pack an image of this name, if both numbers are spelled
abbrev pub task_to_pack : List ℕ → Option ℕ → Option ℕ → Option Task
task_to_pack name (Some offset) (Some sub) = Some (Pack name offset sub)
task_to_pack name (Some offset) None = None
task_to_pack name None sub = None

-- what a word asks for with three behind it: `pack NAME OFFSET SUB`
abbrev pub task_of_four : List ℕ → List ℕ → List ℕ → List ℕ → Option Task
task_of_four word name offset sub =
    if bytes_eq word (codes "pack") && is_table_name name
    then task_to_pack name (decimal_number offset) (decimal_number sub) else None

-- what the words ask for; none if the program doesn't know them
abbrev pub task_of : List (List ℕ) → Option Task
task_of [] = None
task_of (word ∷ []) = task_alone word
task_of (word ∷ number ∷ []) = task_with word number
task_of (word ∷ second ∷ third ∷ []) = None
task_of (word ∷ name ∷ offset ∷ sub ∷ []) = task_of_four word name offset sub
task_of (word ∷ name ∷ offset ∷ sub ∷ other ∷ others) = None

-- whether what is asked for needs threads: `run` and `bridge` alone
abbrev pub needs_threads : Option Task → Bool
needs_threads None = false
needs_threads (Some Run) = true
needs_threads (Some Lockstep) = false
needs_threads (Some (Generate number)) = false
needs_threads (Some (Soak number)) = false
needs_threads (Some Bridge) = true
needs_threads (Some Check) = false
needs_threads (Some ShowImage) = false
needs_threads (Some (Pack name offset sub)) = false
