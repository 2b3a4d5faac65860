-- The line in which a report isn't what it has to be is the first that is no run's.
use Rattle.std.proofs.Common.{◌≡◌, ℕ, ◌+◌, ◌<◌, List, ◌++◌, ap, ◌∙◌, arith, append_assoc}
use Rattle.app_script.specs.Script.{ScriptText}
use Rattle.run_check.specs.Checks.{Starts}
use Rattle.run_check.specs.Fronts.{IsForced, IsReached, WrongLinesAreFirst, alike, line_ends, wrong_line}
use Rattle.run_check.specs.Openings.{first_lines}
use Rattle.run_check.proofs.Fronts.{alike_behind, alike_one, alike_other, are_lines, line_ends-append, lines_behind}

-- no run begins with as many lines
none_starts : (script : ScriptText) (bytes text : List ℕ) → IsForced script bytes text → ¬ Starts script bytes (wrong_line bytes text)
none_starts script bytes text forced starts =
    let n = line_ends (alike bytes text) in
    let lines = are_lines (wrong_line bytes text) bytes starts.front starts.read in
    let opened = are_lines (wrong_line bytes text) starts.text starts.front starts.same in
    let more = forced starts.text starts.front opened.rest lines.rest starts.beginning opened.whole lines.whole (lines.ends n (omega arith)) in
    let common : alike bytes text ≡ starts.front ++ alike lines.rest more.0 =
    ap (λ b. alike b text) lines.whole ∙ ap (λ t. alike (starts.front ++ lines.rest) t) more.1 ∙ alike_behind starts.front lines.rest more.0 in
    let counted : n ≡ line_ends starts.front + line_ends (alike lines.rest more.0) = ap line_ends common ∙ line_ends-append starts.front (alike lines.rest more.0) in
    omega (arith, counted, lines.count)

-- one begins with any fewer
fewer_start : (script : ScriptText) (bytes text : List ℕ) → IsReached script text → (fewer : ℕ) → fewer < wrong_line bytes text → Starts script bytes fewer
fewer_start script bytes text reached fewer less =
    let common = alike bytes text in
    let one = alike_one bytes text in
    let other = alike_other bytes text in
    let lines = lines_behind fewer common (omega (arith, less)) in
    let opening : reached.0 ≡ common ++ (other.0 ++ reached.1) =
    reached.3 ∙ ap (λ t. t ++ reached.1) other.1 ∙ append_assoc common other.0 reached.1 in
    record {
      text = reached.0;
      beginning = reached.2;
      front = lines.0;
      read = ap (first_lines fewer) one.1 ∙ lines.1 one.0;
      same = ap (first_lines fewer) opening ∙ lines.1 (other.0 ++ reached.1);
    }

pub wrong_lines : WrongLinesAreFirst
wrong_lines script bytes text forced reached =
    record { wrong = none_starts script bytes text forced; least = fewer_start script bytes text reached }
