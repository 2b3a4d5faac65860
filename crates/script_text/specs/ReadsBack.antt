-- What a text is read as, if it is a call line.
use Rattle.std.specs.Prelude.{◌≡◌, ℕ, ◌≤◌, List, ◌∷◌, length, Some, Ok, IsTrue}
use Rattle.std.specs.List.{list_all}
use Rattle.script_words.specs.Text.{is_text, words_of, behind_word}
use Rattle.script_words.specs.Counts.{Word}
use Rattle.script_lines.specs.declared.line.Line.{Line}
use Rattle.script_lines.specs.declared.call_lines.CallWord.{CallWord}
use Rattle.script_lines.specs.CallLines.{call_word, call_line_of}

-- The text is a line of a script, and the grammar of call lines gives this line from it.
pub record IsReadAs (text : List ℕ) (line : Line) : Type 0 where
  pub short : length text ≤ 1024
  pub printed : IsTrue (list_all is_text text)
  pub first : Word
  pub others : List Word
  pub words : words_of text ≡ first ∷ others
  pub word : CallWord
  pub known : call_word first ≡ Some word
  pub reads : call_line_of word (behind_word text) ≡ Ok line
