-- Laws of reading a plan line by line.
use Rattle.std.proofs.Common.{◌≡◌, ℕ, ◌+◌, List, [], ◌∷◌, length, Result, Ok, refl, sym, ap, ◌∙◌, arith}
use Rattle.fsw_base.specs.declared.script_faults.ScriptFault.{ScriptFault}
use Rattle.script_words.specs.declared.fail.LineFail.{LineFail}
use Rattle.script_words.specs.declared.fail.LineFail.TheVariants.{Memory, Fault}
use Rattle.script_words.specs.Text.{lines_of}
use Rattle.script_words.specs.Readings.{Fails}
use Rattle.app_script.specs.Grammar.{at_line, ◌>=>◌}
use Rattle.app_script.specs.Whole.{located, FailsAs}
use Rattle.bridge_plan.specs.Inside.{PlanProgress, after_plan_line, after_plan_lines}

pub lines_more : (number : ℕ) (s t : PlanProgress) (lines after : List (List ℕ)) (line : List ℕ) (total : Result PlanProgress ScriptFault) → after_plan_line s line ≡ Ok t → lines ≡ line ∷ after
    → after_plan_lines number s lines ≡ total → after_plan_lines (number + 1) t after ≡ total
unfolding after_plan_lines
lines_more number s t lines after line total one cut so_far =
    ap (λ r. at_line number r >=> λ u. after_plan_lines (number + 1) u after) (sym one) ∙ ap (after_plan_lines number s) (sym cut) ∙ so_far

pub lines_fault : (number : ℕ) (s : PlanProgress) (lines after : List (List ℕ)) (line : List ℕ) (failure : LineFail) (total : Result PlanProgress ScriptFault) → Fails failure (after_plan_line s line) → lines ≡ line ∷ after
    → after_plan_lines number s lines ≡ total → FailsAs (located number failure) total
unfolding after_plan_lines
lines_fault number s lines after line (Memory error) total one cut so_far = tt
lines_fault number s lines after line (Fault kind) total one cut so_far =
    sym so_far ∙ ap (after_plan_lines number s) cut ∙ ap (λ r. at_line number r >=> λ u. after_plan_lines (number + 1) u after) one

no_lines : lines_of [] ≡ []
unfolding lines_of
no_lines = refl

pub lines_end : (number : ℕ) (s : PlanProgress) (rest : List ℕ) (total : Result PlanProgress ScriptFault) → length rest ≡ 0 → after_plan_lines number s (lines_of rest) ≡ total → total ≡ Ok s
unfolding after_plan_lines
lines_end number s [] total none so_far = sym so_far ∙ ap (after_plan_lines number s) no_lines
lines_end number s (byte ∷ rest) total none so_far = absurd (omega arith)
