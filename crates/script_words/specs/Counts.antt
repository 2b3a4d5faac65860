-- How many words follow a line's first word.
use Rattle.std.specs.Prelude.{ℕ, nat_le, List, [], ◌∷◌, length, Option, Some, None, Result, Ok, Err, if◌then◌else◌}
use Rattle.fsw_base.specs.declared.script_faults.FaultKind.{FaultKind}
use Rattle.fsw_base.specs.declared.script_faults.FaultKind.TheVariants.{WrongCount}
use Rattle.script_words.specs.Readings.{◌>>=◌}

abbrev pub Word : Type 0
Word = List ℕ

-- a word, and those behind it
unfoldable pub next : List Word → Result (Word × List Word) FaultKind
next [] = Err WrongCount
next (word ∷ words) = Ok (word, words)

-- no word
unfoldable pub none : List Word → Result (Unit {0}) FaultKind
none [] = Ok tt
none (word ∷ words) = Err WrongCount

-- one word, two, three, four
unfoldable pub one : List Word → Result Word FaultKind
one words = do
  first ← next words
  end ← none first.1
  Ok first.0

unfoldable pub two : List Word → Result (Word × Word) FaultKind
two words = do
  first ← next words
  second ← one first.1
  Ok (first.0, second)

unfoldable pub three : List Word → Result (Word × Word × Word) FaultKind
three words = do
  first ← next words
  others ← two first.1
  Ok (first.0, others.0, others.1)

-- a word that may be left out
unfoldable pub optional : List Word → Result (Option Word) FaultKind
optional [] = Ok None
optional (word ∷ words) = none words >>= λ end. Ok (Some word)

unfoldable pub one_or_two : List Word → Result (Word × Option Word) FaultKind
one_or_two words = do
  first ← next words
  second ← optional first.1
  Ok (first.0, second)

unfoldable pub two_optional : List Word → Result (Option Word × Option Word) FaultKind
two_optional [] = Ok (None, None)
two_optional (word ∷ words) = optional words >>= λ second. Ok (Some word, second)

-- two words, and those behind them
unfoldable pub next_two : List Word → Result (Word × Word × List Word) FaultKind
next_two words = do
  first ← next words
  second ← next first.1
  Ok (first.0, second.0, second.1)

-- two to four words
unfoldable pub two_to_four : List Word →
    Result ((Word × Word) × (Option Word × Option Word)) FaultKind
two_to_four words = do
  front ← next_two words
  others ← two_optional front.2
  Ok ((front.0, front.1), others)

-- three words, and one that may be left out
unfoldable pub three_or_four : List Word → Result ((Word × Word) × (Word × Option Word)) FaultKind
three_or_four words = do
  front ← next_two words
  others ← one_or_two front.2
  Ok ((front.0, front.1), others)

-- at most so many words
unfoldable pub few : ℕ → List Word → Result (Unit {0}) FaultKind
few most words = if nat_le (length words) most then Ok tt else Err WrongCount
