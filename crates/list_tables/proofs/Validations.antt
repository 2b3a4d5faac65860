-- The first rule that a value fails.
use Rattle.std.proofs.Common.{◌≡◌, ℕ, suc, ◌+◌, ◌<◌, not, Bool, true, false, cond, Option, Some, List, length, get_or, drop, ap, sym, ◌∙◌, add-one}
use Rattle.std.proofs.Math.Seq.{drop-cons}
use Rattle.std.proofs.lemmas.Iterator.Adapters.{position_from-zero}
use Rattle.std.specs.List.{position_from}
use Rattle.std.specs.Option.{option_map}
use Rattle.tbl_rules.specs.declared.rules.Rule.{Rule}
use Rattle.tbl_rules.specs.Rules.{is_met, failed_rule}

pub fails_here : {X : Type 0} (p : X → Bool) (xs : List X) (i : ℕ) (d : X) → i < length xs → p (get_or xs i d) ≡ true → position_from p i (drop i xs) ≡ Some i
fails_here {X} p xs i d within is =
    ap (position_from p i) (drop-cons xs i d within) ∙ ap (λ b. cond {A = Option ℕ} b (Some i) (position_from p (i + 1) (drop (suc i) xs))) is

pub met_here : {X : Type 0} (p : X → Bool) (xs : List X) (i : ℕ) (d : X) → i < length xs → p (get_or xs i d) ≡ false → position_from p i (drop i xs) ≡ position_from p (i + 1) (drop (i + 1) xs)
met_here {X} p xs i d within is =
    ap (position_from p i) (drop-cons xs i d within) ∙ ap (λ b. cond {A = Option ℕ} b (Some i) (position_from p (i + 1) (drop (suc i) xs))) is
    ∙ ap (λ k. position_from p (i + 1) (drop k xs)) (sym (add-one i))

pub from_start : (rules : List Rule) (value : List ℕ) (o : Option ℕ) → position_from (λ rule. not (is_met value rule)) 0 rules ≡ o → option_map (λ place. place + 1) o ≡ failed_rule rules value
from_start rules value o is = ap (option_map (λ place. place + 1)) (sym is ∙ sym (position_from-zero (λ rule. not (is_met value rule)) rules))
