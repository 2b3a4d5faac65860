-- Texts that are past one text and then past another.
use Rattle.std.proofs.Common.{◌≡◌, ℕ, ◌+◌, List, [], ◌++◌, refl, ap, sym, ◌∙◌, arith, append_assoc}
use Rattle.run_check.specs.Fronts.{alike, line_ends, wrong_line}
use Rattle.run_check.proofs.Fronts.{alike_behind, line_ends-append}
use Rattle.replay_parts.specs.Compared.{Compared, GoesPast}

-- past both
pub goes_past_both : (from mid to : Compared) (one other : List ℕ) → GoesPast from mid one → GoesPast mid to other → GoesPast from to (one ++ other)
goes_past_both from mid to one other first second = record {
  rest = first.rest ∙ ap (λ t. one ++ t) second.rest ∙ sym (append_assoc one other to.rest);
  lines = omega (arith, first.lines, second.lines, line_ends-append one other);
}

-- past nothing
pub goes_nowhere : (at : Compared) → GoesPast at at []
goes_nowhere at = record { rest = refl; lines = omega arith }

-- a text that two have in common has its lines before the wrong one
pub wrong_behind : (front one other : List ℕ) → wrong_line (front ++ one) (front ++ other) ≡ line_ends front + wrong_line one other
wrong_behind front one other =
    ap (λ t. line_ends t + 1) (alike_behind front one other)
    ∙ ap (λ n. n + 1) (line_ends-append front (alike one other))
    ∙ omega arith
