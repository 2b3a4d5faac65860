-- Texts of words that are put one behind another.
use Rattle.std.proofs.Common.{◌≡◌, List, [], ◌∷◌, ◌++◌, map, refl, ap, sym, ◌∙◌, append_assoc, append-nil}
use Rattle.std.specs.List.{flat_map}
use Rattle.script_words.specs.Counts.{Word}
use Rattle.script_text.specs.Spelling.{spaced, behind}

-- the words behind a first one
pub spaced_parts : (word : Word) (words : List Word) → spaced (word ∷ words) ≡ word ++ behind words
spaced_parts word [] = sym (append-nil word)
spaced_parts word (next ∷ words) = spaced_parts (word ++ 32 ∷ next) words ∙ append_assoc word (32 ∷ next) (behind words)

-- words that stand for the members of a list
pub behind-map : {X : Type 0} (f : X → Word) (xs : List X) → flat_map (λ x. 32 ∷ f x) xs ≡ behind (map f xs)
behind-map f [] = refl
behind-map f (x ∷ xs) = ap (λ l. 32 ∷ (f x ++ l)) (behind-map f xs)
