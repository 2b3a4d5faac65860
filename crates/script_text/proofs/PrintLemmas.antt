-- Texts of lines that are put one behind another.
use Rattle.std.proofs.Common.{◌≡◌, ℕ, suc, ◌<◌, Bool, true, false, ◌&&◌, eqb, List, [], ◌∷◌, ◌++◌, length, map, get_or, cond, codes, decimal, refl, ap, sym, ◌∙◌, arith, append_assoc, append-nil}
use Rattle.std.specs.List.{flat_map}
use Rattle.std.proofs.lemmas.Grind.{flat_map-append}
use Rattle.std.proofs.lemmas.Bool.{eq-eqb, eqb-true, ne_eqb}
use Rattle.fsw_base.specs.Limits.{Limits, usual_limits}
use Rattle.fsw_base.specs.Blocks.{usual_sizes}
use Rattle.script_words.specs.Text.{is_same}
use Rattle.script_settings.specs.declared.settings.LimitName.{LimitName}
use Rattle.app_script.specs.ScriptRanges.{limit_of}
use Rattle.script_text.specs.ScriptSpelling.{version_lines, limit_word, set_lines_of, set_lines, sizes_lines, seq_text, app_lines, ended, spelled_lines, spelled_script}
use Rattle.app_script.specs.Script.{Application}
use Rattle.script_text.specs.Spelling.{spaced, behind}
use Rattle.script_text.proofs.PieceLemmas.{spaced_parts}

-- the lines of the members of a list
pub ended-flat : {X : Type 0} (f : X → List (List ℕ)) (xs : List X) → ended (flat_map f xs) ≡ flat_map (λ x. ended (f x)) xs
ended-flat f [] = refl
ended-flat f (x ∷ xs) = flat_map-append (λ line. line ++ 10 ∷ []) (f x) (flat_map f xs) ∙ ap (λ l. ended (f x) ++ l) (ended-flat f xs)

-- a line a member
pub ended-map : {X : Type 0} (f : X → List ℕ) (xs : List X) → ended (map f xs) ≡ flat_map (λ x. f x ++ 10 ∷ []) xs
ended-map f [] = refl
ended-map f (x ∷ xs) = ap (λ l. (f x ++ 10 ∷ []) ++ l) (ended-map f xs)

-- lines behind others
pub ended-append : (xs ys : List (List ℕ)) → ended (xs ++ ys) ≡ ended xs ++ ended ys
ended-append xs ys = flat_map-append (λ line. line ++ 10 ∷ []) xs ys

pub eleven : (a b c d e f g h i j k : List ℕ) → (((((((((a ++ b) ++ c) ++ d) ++ e) ++ f) ++ g) ++ h) ++ i) ++ j) ++ k ≡ a ++ (b ++ (c ++ (d ++ (e ++ (f ++ (g ++ (h ++ (i ++ (j ++ (k ++ []))))))))))
eleven a b c d e f g h i j k = simp (append_assoc, append-nil)

-- ---- the same numbers

pub same_self : (xs : List ℕ) → is_same xs xs ≡ true
same_self [] = refl
same_self (x ∷ xs) = ap (λ b. b && is_same xs xs) (eq-eqb x x refl) ∙ same_self xs

pub same_numbers : (xs ys : List ℕ) → is_same xs ys ≡ true → xs ≡ ys
same_numbers [] [] h = refl
same_numbers [] (y ∷ ys) h = absurd cc
same_numbers (x ∷ xs) [] h = absurd cc
same_numbers (x ∷ xs) (y ∷ ys) h =
    let parts = and_parts (eqb x y) (is_same xs ys) h in
    let first = eqb-true x y parts.0 in
    let others = same_numbers xs ys parts.1 in
    cc
  where
    and_parts : (a b : Bool) → (a && b) ≡ true → (a ≡ true) × (b ≡ true)
    and_parts true b h = (refl, h)
    and_parts false b h = absurd cc

pub same_each : (xs ys : List ℕ) → length xs ≡ length ys → ((k : ℕ) → k < length xs → get_or xs k 0 ≡ get_or ys k 0) → is_same xs ys ≡ true
same_each [] [] len each = refl
same_each [] (y ∷ ys) len each = absurd (omega arith)
same_each (x ∷ xs) [] len each = absurd (omega arith)
same_each (x ∷ xs) (y ∷ ys) len each = ap (λ b. b && is_same xs ys) (eq-eqb x y (each 0 (omega arith))) ∙ same_each xs ys (omega arith) (λ k lt. each (suc k) (omega arith))

decide : (b : Bool) → (b ≡ true → ⊥) → b ≡ false
decide true never = absurd (never refl)
decide false never = refl

pub differ_in_length : (xs ys : List ℕ) → (length xs ≡ length ys → ⊥) → is_same xs ys ≡ false
differ_in_length xs ys ne = decide (is_same xs ys) (λ h. ne (ap length (same_numbers xs ys h)))

pub differ_at : (xs ys : List ℕ) (k : ℕ) → (get_or xs k 0 ≡ get_or ys k 0 → ⊥) → is_same xs ys ≡ false
differ_at xs ys k ne = decide (is_same xs ys) (λ h. ne (ap (λ l. get_or l k 0) (same_numbers xs ys h)))

-- ---- version and settings

pub version_lines_first : (version : ℕ) → version ≡ 1 → ended (version_lines version) ≡ []
unfolding version_lines
version_lines_first version same = ap (λ b. ended (cond b [] (spaced (codes "script" ∷ decimal version ∷ []) ∷ []))) (eq-eqb version 1 same)

pub version_lines_other : (version : ℕ) → (version ≡ 1 → ⊥) → ended (version_lines version) ≡ spaced (codes "script" ∷ decimal version ∷ []) ++ 10 ∷ []
unfolding version_lines
version_lines_other version other =
    ap (λ b. ended (cond b [] (spaced (codes "script" ∷ decimal version ∷ []) ∷ []))) (ne_eqb version 1 other)
    ∙ append-nil (spaced (codes "script" ∷ decimal version ∷ []) ++ 10 ∷ [])

pub set_lines_usual : (name : LimitName) (value : ℕ) → value ≡ limit_of usual_limits name → ended (set_lines_of name value) ≡ []
unfolding set_lines_of
set_lines_usual name value same = ap (λ b. ended (cond b [] (spaced (codes "set" ∷ limit_word name ∷ decimal value ∷ []) ∷ []))) (eq-eqb value (limit_of usual_limits name) same)

pub set_lines_other : (name : LimitName) (value : ℕ) → (value ≡ limit_of usual_limits name → ⊥) → ended (set_lines_of name value) ≡ spaced (codes "set" ∷ limit_word name ∷ decimal value ∷ []) ++ 10 ∷ []
unfolding set_lines_of
set_lines_other name value other =
    ap (λ b. ended (cond b [] (spaced (codes "set" ∷ limit_word name ∷ decimal value ∷ []) ∷ []))) (ne_eqb value (limit_of usual_limits name) other)
    ∙ append-nil (spaced (codes "set" ∷ limit_word name ∷ decimal value ∷ []) ++ 10 ∷ [])

pub sizes_lines_usual : (sizes : List ℕ) → is_same sizes usual_sizes ≡ true → ended (sizes_lines sizes) ≡ []
unfolding sizes_lines
sizes_lines_usual sizes same = ap (λ b. ended (cond b [] (spaced (codes "sizes" ∷ map decimal sizes) ∷ []))) same

pub sizes_lines_other : (sizes : List ℕ) → is_same sizes usual_sizes ≡ false → ended (sizes_lines sizes) ≡ (codes "sizes" ++ behind (map decimal sizes)) ++ 10 ∷ []
unfolding sizes_lines
sizes_lines_other sizes other =
    ap (λ b. ended (cond b [] (spaced (codes "sizes" ∷ map decimal sizes) ∷ []))) other
    ∙ append-nil (spaced (codes "sizes" ∷ map decimal sizes) ++ 10 ∷ [])
    ∙ ap (λ l. l ++ 10 ∷ []) (spaced_parts (codes "sizes") (map decimal sizes))

-- ---- the whole

pub spelled : (limits : Limits) (apps : List Application) →
    ((((ended (version_lines limits.version) ++ ended (set_lines limits)) ++ ended (sizes_lines limits.sizes)) ++ ended (map seq_text limits.starts)) ++ ended (flat_map app_lines apps)) ++ [] ≡ spelled_script (record { limits = limits; apps = apps })
unfolding spelled_script spelled_lines
spelled limits apps =
    let front = version_lines limits.version ++ set_lines limits in
    append-nil ((((ended (version_lines limits.version) ++ ended (set_lines limits)) ++ ended (sizes_lines limits.sizes)) ++ ended (map seq_text limits.starts)) ++ ended (flat_map app_lines apps))
    ∙ ap (λ l. ((l ++ ended (sizes_lines limits.sizes)) ++ ended (map seq_text limits.starts)) ++ ended (flat_map app_lines apps)) (sym (ended-append (version_lines limits.version) (set_lines limits)))
    ∙ ap (λ l. (l ++ ended (map seq_text limits.starts)) ++ ended (flat_map app_lines apps)) (sym (ended-append front (sizes_lines limits.sizes)))
    ∙ ap (λ l. l ++ ended (flat_map app_lines apps)) (sym (ended-append (front ++ sizes_lines limits.sizes) (map seq_text limits.starts)))
    ∙ sym (ended-append ((front ++ sizes_lines limits.sizes) ++ map seq_text limits.starts) (flat_map app_lines apps))
