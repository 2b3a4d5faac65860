-- One action, and those that are left behind it.
use Rattle.std.proofs.Common.{◌≡◌, ℕ, ◌+◌, ◌<◌, List, [], ◌∷◌, ◌++◌, decimal, sym, ap, ◌∙◌, add-one, append_assoc}
use Rattle.std.proofs.lemmas.Fmt.{decimal_digit}
use Rattle.script_lines.specs.declared.line.Line.{Line}
use Rattle.script_text.specs.declared.draws.Kind.{Kind}
use Rattle.script_text.specs.Draws.{draw}
use Rattle.script_text.specs.Generated.{kind_of, action, action_of, actions}

-- a name of a letter and a digit
pub numbered_name : (letter app : ℕ) → app < 10 → letter ∷ (48 + app) ∷ [] ≡ letter ∷ decimal app
numbered_name letter app digit = sym (ap (λ (l : List ℕ). letter ∷ l) (decimal_digit app digit))

-- an action is of the kind that is drawn first
pub action_drawn : (number drawn next : ℕ) (kind : Kind) → drawn ≡ (draw 4 number).0 → next ≡ (draw 4 number).1 → kind ≡ kind_of drawn → action number ≡ action_of kind next
unfolding action
action_drawn number drawn next kind first moved told =
    sym (ap (λ k. action_of k next) (told ∙ ap kind_of first) ∙ ap (λ n. action_of (kind_of (draw 4 number).0) n) moved)

-- the actions that are left begin with the next one
actions_next : (count left number : ℕ) → left ≡ count + 1 → actions left number ≡ ((action number).0 ++ (actions count (action number).1).0, (actions count (action number).1).1)
unfolding actions
actions_next count left number one = ap (λ n. actions n number) (one ∙ add-one count)

pub lines_next : (lines new : List Line) (count left number next : ℕ) → left ≡ count + 1 → new ≡ lines ++ (action number).0 → next ≡ (action number).1
    → new ++ (actions count next).0 ≡ lines ++ (actions left number).0
lines_next lines new count left number next one pushed moved =
    ap (λ l. l ++ (actions count next).0) pushed
    ∙ append_assoc lines (action number).0 (actions count next).0
    ∙ ap (λ n. lines ++ ((action number).0 ++ (actions count n).0)) moved
    ∙ sym (ap (λ (d : List Line × ℕ). lines ++ d.0) (actions_next count left number one))

pub moved_next : (count left number next : ℕ) → left ≡ count + 1 → next ≡ (action number).1 → (actions count next).1 ≡ (actions left number).1
moved_next count left number next one moved =
    ap (λ n. (actions count n).1) moved ∙ sym (ap (λ (d : List Line × ℕ). d.1) (actions_next count left number one))

-- no action is left
pub actions_none : (left number : ℕ) → left ≡ 0 → actions left number ≡ ([], number)
unfolding actions
actions_none left number none = ap (λ n. actions n number) none
