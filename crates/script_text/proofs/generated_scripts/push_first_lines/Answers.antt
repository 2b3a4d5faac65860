use Rattle.std.proofs.Common.{◌≡◌, ℕ, List, [], ◌∷◌, ◌++◌, decimal, ap, ◌∙◌, append_assoc}
use Rattle.fsw_base.specs.declared.config.Scope.TheVariants.{Global}
use Rattle.script_lines.specs.declared.line.Line.{Line}
use Rattle.script_lines.specs.declared.line.Line.TheVariants.{Create, Subscribe}
use Rattle.script_text.specs.Generated.{id_of, first_lines}
use Rattle.script_text.proofs.ActionLemmas.{numbered_name}
use Rattle.script_text.proofs.generated_scripts.push_first_lines.Goals as goal

-- three lines, one pushed behind the other
pushed : (old one two three : List Line) (a b c : Line) → one ≡ old ++ a ∷ [] → two ≡ one ++ b ∷ [] → three ≡ two ++ c ∷ [] → three ≡ old ++ a ∷ b ∷ c ∷ []
pushed old one two three a b c first second third =
    third ∙ ap (λ l. l ++ c ∷ []) (second ∙ ap (λ l. l ++ b ∷ []) first) ∙ append_assoc (old ++ a ∷ []) (b ∷ []) (c ∷ []) ∙ append_assoc old (a ∷ []) (b ∷ c ∷ [])

pub returns-clause-lines : goal.returns-clause-lines
unfolding first_lines
returns-clause-lines c =
    let old = c.args.lines.now.items in
    let app = c.args.app in
    let name = c.in_ok-name.ensures ∙ numbered_name 80 app c.requires.app in
    pushed old _ _ _ _ _ _ c.push_reserved.ensures.items c.push_reserved-2.ensures.items c.push_reserved-3.ensures.items
    ∙ ap (λ (n : List ℕ). old ++ Create 0 8 n ∷ c.subscription.result ∷ c.subscription-2.result ∷ []) name
    ∙ ap (λ (line : Line). old ++ Create 0 8 (80 ∷ decimal app) ∷ line ∷ c.subscription-2.result ∷ []) c.subscription.ensures
    ∙ ap (λ (line : Line). old ++ Create 0 8 (80 ∷ decimal app) ∷ Subscribe (id_of app) 0 4 Global ∷ line ∷ []) c.subscription-2.ensures
