-- Laws of reading line by line.
use Rattle.std.proofs.Common.{◌≡◌, ℕ, ◌+◌, Bool, true, false, ◌&&◌, List, [], ◌∷◌, length, Result, Ok, refl, sym, ap, ◌∙◌, arith}
use Rattle.std.specs.List.{list_all}
use Rattle.fsw_base.specs.declared.script_faults.ScriptFault.{ScriptFault}
use Rattle.script_words.specs.declared.fail.LineFail.{LineFail}
use Rattle.script_words.specs.declared.fail.LineFail.TheVariants.{Memory, Fault}
use Rattle.script_words.specs.Text.{is_text, lines_of}
use Rattle.script_words.specs.Readings.{Fails}
use Rattle.app_script.specs.Whole.{located, FailsAs}
use Rattle.app_script.specs.Grammar.{Progress, after_line, after_lines, at_line, ◌>=>◌}

pub lines_more : (number : ℕ) (s t : Progress) (lines after : List (List ℕ)) (line : List ℕ) (total : Result Progress ScriptFault) → after_line s line ≡ Ok t → lines ≡ line ∷ after
    → after_lines number s lines ≡ total → after_lines (number + 1) t after ≡ total
unfolding after_lines
lines_more number s t lines after line total one cut so_far =
    ap (λ r. at_line number r >=> λ u. after_lines (number + 1) u after) (sym one) ∙ ap (after_lines number s) (sym cut) ∙ so_far

pub lines_fault : (number : ℕ) (s : Progress) (lines after : List (List ℕ)) (line : List ℕ) (failure : LineFail) (total : Result Progress ScriptFault) → Fails failure (after_line s line) → lines ≡ line ∷ after
    → after_lines number s lines ≡ total → FailsAs (located number failure) total
unfolding after_lines
lines_fault number s lines after line (Memory error) total one cut so_far = tt
lines_fault number s lines after line (Fault kind) total one cut so_far =
    sym so_far ∙ ap (after_lines number s) cut ∙ ap (λ r. at_line number r >=> λ u. after_lines (number + 1) u after) one

no_lines : lines_of [] ≡ []
unfolding lines_of
no_lines = refl

pub lines_end : (number : ℕ) (s : Progress) (rest : List ℕ) (total : Result Progress ScriptFault) → length rest ≡ 0 → after_lines number s (lines_of rest) ≡ total → total ≡ Ok s
unfolding after_lines
lines_end number s [] total none so_far = sym so_far ∙ ap (after_lines number s) no_lines
lines_end number s (byte ∷ rest) total none so_far = absurd (omega arith)

-- of lines that are text the first one is, and so are those behind it
text_and : (line : List ℕ) (after : List (List ℕ)) → list_all (list_all is_text) (line ∷ after) ≡ true → (list_all is_text line ≡ true) × (list_all (list_all is_text) after ≡ true)
text_and line after all =
    elim (list_all is_text line) as (λ b. (b && list_all (list_all is_text) after) ≡ true → (b ≡ true) × (list_all (list_all is_text) after ≡ true)) [
      | true ↦ λ h. (refl, h)
      | false ↦ λ h. absurd cc
    ] all

pub first_text : (lines after : List (List ℕ)) (line : List ℕ) → lines ≡ line ∷ after → list_all (list_all is_text) lines ≡ true → list_all is_text line ≡ true
first_text lines after line cut all = (text_and line after (ap (list_all (list_all is_text)) (sym cut) ∙ all)).0

pub others_text : (lines after : List (List ℕ)) (line : List ℕ) → lines ≡ line ∷ after → list_all (list_all is_text) lines ≡ true → list_all (list_all is_text) after ≡ true
others_text lines after line cut all = (text_and line after (ap (list_all (list_all is_text)) (sym cut) ∙ all)).1
