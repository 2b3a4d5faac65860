-- How far a text is what it has to be, and at which line it is not.
use Rattle.std.specs.Prelude.{◌≡◌, ℕ, ◌+◌, ◌==◌, List, [], ◌∷◌, ◌++◌, count_by, if◌then◌else◌}
use Rattle.app_script.specs.Script.{ScriptText}
use Rattle.run_check.specs.Checks.{Beginning, IsFirstWrong}

-- the first bytes that two texts have in common
abbrev pub alike : List ℕ → List ℕ → List ℕ
alike [] other = []
alike (x ∷ xs) [] = []
alike (x ∷ xs) (y ∷ ys) = if x == y then x ∷ alike xs ys else []

-- how many lines end in a text
abbrev pub line_ends : List ℕ → ℕ
line_ends text = count_by (λ byte. byte == 10) text

-- the number of the line in which the bytes aren't this text
abbrev pub wrong_line : List ℕ → List ℕ → ℕ
wrong_line bytes text = line_ends (alike bytes text) + 1

-- a line's end is the last of a text
abbrev pub EndsLine : List ℕ → Type 0
EndsLine text = (line : List ℕ) × (text ≡ line ++ 10 ∷ [])

-- If whole lines begin both the bytes and the report of some run, this text begins with them too.
abbrev pub IsForced : ScriptText → List ℕ → List ℕ → Type 0
IsForced script bytes text =
    (opening front others rest : List ℕ) → Beginning script opening → opening ≡ front ++ others →
    bytes ≡ front ++ rest → EndsLine front →
    (more : List ℕ) × (text ≡ front ++ more)

-- some run begins with this text
abbrev pub IsReached : ScriptText → List ℕ → Type 0
IsReached script text =
    (opening : List ℕ) × (more : List ℕ) × Beginning script opening × (opening ≡ text ++ more)

-- the line in which bytes aren't such a text is the first that is no run's
abbrev pub WrongLinesAreFirst : Type 0
WrongLinesAreFirst =
    (script : ScriptText) (bytes text : List ℕ) → IsForced script bytes text →
    IsReached script text →
    IsFirstWrong script bytes (wrong_line bytes text)
