-- Lines of entries, one behind another.
use Rattle.std.proofs.Common.{◌≡◌, ℕ, ◌+◌, ◌<◌, subst, arith, List, [], ◌∷◌, ◌++◌, length, codes, ap, sym, ◌∙◌, length-append}
use Rattle.text_page.specs.Texts.{numbered}
use Rattle.run_check.proofs.Texts.{numbered_push}
use Rattle.replay_parts.specs.Compared.{Compared, GoesPast}
use Rattle.replay_parts.proofs.Passing.{goes_past_both}

-- one entry more
pub entries_push : {E : Type 0} (line : ℕ → E → List ℕ) (history : List E) (e : E) → numbered line 1 (history ++ e ∷ []) ≡ numbered line 1 history ++ line (length history + 1) e
entries_push line history e = numbered_push line 1 history e ∙ ap (λ n. numbered line 1 history ++ line n e) (omega arith)

-- past the line of one entry more
pub past_entry : {E : Type 0} (line : ℕ → E → List ℕ) (from mid to : Compared) (history : List E) (e : E) → GoesPast from mid (numbered line 1 history) →
    GoesPast mid to (line (length history + 1) e) → GoesPast from to (numbered line 1 (history ++ e ∷ []))
past_entry line from mid to history e first second =
    let P : List ℕ → Type 0 = GoesPast from to in
    subst P (sym (entries_push line history e)) (goes_past_both from mid to (numbered line 1 history) (line (length history + 1) e) first second)

-- past a line less is left
pub less_left : (from to : Compared) (front : List ℕ) → GoesPast from to (front ++ codes "\n") → length to.rest < length from.rest
less_left from to front past =
    let ends : length (front ++ codes "\n") ≡ length front + 1 = length-append front (codes "\n") in
    let whole : length from.rest ≡ length (front ++ codes "\n") + length to.rest = ap length past.rest ∙ length-append (front ++ codes "\n") to.rest in
    omega (arith, whole, ends)
