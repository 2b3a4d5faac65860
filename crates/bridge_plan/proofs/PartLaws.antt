-- The lines of a plan, read one after the other, are its three parts, read one after the other.
use Rattle.std.proofs.Common.{◌≡◌, ℕ, suc, ◌+◌, ◌≤◌, Bool, true, false, cond, not, List, [], ◌∷◌, length, take, drop, Result, Ok, Err, refl, sym, ap, ◌∙◌, arith}
use Rattle.std.specs.List.{position_or_len}
use Rattle.std.proofs.lemmas.List.Sums.{sum_by-cons}
use Rattle.fsw_base.specs.declared.script_faults.FaultKind.{FaultKind}
use Rattle.fsw_base.specs.declared.script_faults.ScriptFault.{ScriptFault}
use Rattle.script_words.specs.Readings.{◌>>=◌}
use Rattle.script_words.specs.Text.{lines_of}
use Rattle.app_script.specs.declared.fail.ReadFail.{ReadFail}
use Rattle.app_script.specs.declared.fail.ReadFail.TheVariants.{Memory, Fault}
use Rattle.app_script.specs.Grammar.{Progress, opening, at_line, ◌>=>◌}
use Rattle.app_script.specs.Whole.{FailsAs}
use Rattle.bridge_plan.specs.declared.reading.Part.{Part}
use Rattle.bridge_plan.specs.declared.reading.Part.TheVariants.{Routes, One, Two}
use Rattle.bridge_plan.specs.declared.routes.Route.{Route}
use Rattle.bridge_plan.specs.Grammar.{plan_read, plan_in, plan_on}
use Rattle.bridge_plan.specs.Inside.{PlanProgress, plan_opening, after_part_line, after_plan_lines}
use Rattle.bridge_plan.specs.Parts.{is_mark, marks_in, front_of, behind_mark}
use Rattle.bridge_plan.specs.Plan.{PlanText}
use Rattle.bridge_plan.specs.Routes.{after_route_line, after_routes}
use Rattle.bridge_plan.specs.Sides.{after_side_line, after_side_lines}

-- ---- cutting at the first mark

-- if a line is a mark it is the first
front_with : (b : Bool) (n : ℕ) (line : List ℕ) (lines : List (List ℕ)) → take (cond (not b) (1 + n) 0) (line ∷ lines) ≡ cond b [] (line ∷ take n lines)
front_with true n line lines = refl
front_with false n line lines =
    let next : 1 + n ≡ suc n = omega arith in
    ap (λ k. take k (line ∷ lines)) next

pub front-cons : (line : List ℕ) (lines : List (List ℕ)) → front_of (line ∷ lines) ≡ cond (is_mark line) [] (line ∷ front_of lines)
front-cons line lines = front_with (is_mark line) (position_or_len is_mark lines) line lines

behind_with : (b : Bool) (n : ℕ) (line : List ℕ) (lines : List (List ℕ)) → drop (cond (not b) (1 + n) 0 + 1) (line ∷ lines) ≡ cond b lines (drop (n + 1) lines)
behind_with true n line lines = refl
behind_with false n line lines =
    let next : 1 + n + 1 ≡ suc (n + 1) = omega arith in
    ap (λ k. drop k (line ∷ lines)) next

pub behind-cons : (line : List ℕ) (lines : List (List ℕ)) → behind_mark (line ∷ lines) ≡ cond (is_mark line) lines (behind_mark lines)
behind-cons line lines = behind_with (is_mark line) (position_or_len is_mark lines) line lines

pub marks-cons : (line : List ℕ) (lines : List (List ℕ)) → marks_in (line ∷ lines) ≡ cond (is_mark line) 1 0 + marks_in lines
marks-cons line lines = sum_by-cons (λ l. cond (is_mark l) 1 0) line lines

-- behind the first mark there is one less
pub marks_behind : (lines : List (List ℕ)) → 1 ≤ marks_in lines → marks_in lines ≡ marks_in (behind_mark lines) + 1
marks_behind [] some = absurd (omega (arith, some))
marks_behind (line ∷ lines) some = decide (is_mark line) refl (marks_behind lines)
  where
    decide : (b : Bool) → is_mark line ≡ b → (1 ≤ marks_in lines → marks_in lines ≡ marks_in (behind_mark lines) + 1) → marks_in (line ∷ lines) ≡ marks_in (behind_mark (line ∷ lines)) + 1
    decide true mark others =
        let behind : behind_mark (line ∷ lines) ≡ lines = behind-cons line lines ∙ ap (λ b. cond b lines (behind_mark lines)) mark in
        let count : marks_in (line ∷ lines) ≡ 1 + marks_in lines = marks-cons line lines ∙ ap (λ b. cond b 1 0 + marks_in lines) mark in
        omega (arith, count, ap marks_in behind)
    decide false mark others =
        let behind : behind_mark (line ∷ lines) ≡ behind_mark lines = behind-cons line lines ∙ ap (λ b. cond b lines (behind_mark lines)) mark in
        let count : marks_in (line ∷ lines) ≡ 0 + marks_in lines = marks-cons line lines ∙ ap (λ b. cond b 1 0 + marks_in lines) mark in
        omega (arith, count, ap marks_in behind, others (omega (arith, count, some)))

no_lines : lines_of [] ≡ []
unfolding lines_of
no_lines = refl

-- an empty text has none
pub no_marks : (bytes : List ℕ) → length bytes ≡ 0 → marks_in (lines_of bytes) ≡ 0
no_marks [] none = ap marks_in no_lines
no_marks (byte ∷ bytes) none = absurd (omega (arith, none))

-- ---- one part after the other

-- what was read, if the next line stands in this part
abbrev at_part : Part → List Route → Progress → Progress → PlanProgress
at_part part routes one two = record { part = part; routes = routes; one = one; two = two }

-- the routes are read, up to the first mark
abbrev RoutesRead : List (List ℕ) → List (List ℕ) → List (List ℕ) → ℕ → List Route → Progress → Progress → Type 0
RoutesRead lines front behind n routes one two =
    after_plan_lines n (at_part Routes routes one two) lines ≡ (after_routes n routes front >=> λ now. after_plan_lines (n + length front + 1) (at_part One now one two) behind)

routes_line : (r : Result (List Route) FaultKind) (line : List ℕ) (lines front behind : List (List ℕ)) (n : ℕ) (routes : List Route) (one two : Progress) → ((now : List Route) → RoutesRead lines front behind (n + 1) now one two)
    → (at_line n (r >>= λ now. Ok (at_part Routes now one two)) >=> λ t. after_plan_lines (n + 1) t lines) ≡ ((at_line n r >=> λ now. after_routes (n + 1) now front) >=> λ now. after_plan_lines (n + length (line ∷ front) + 1) (at_part One now one two) behind)
routes_line (Ok now) line lines front behind n routes one two others =
    let same : n + 1 + length front + 1 ≡ n + length (line ∷ front) + 1 = omega arith in
    others now ∙ ap (λ k. after_routes (n + 1) now front >=> λ then. after_plan_lines k (at_part One then one two) behind) same
routes_line (Err fault) line lines front behind n routes one two others = refl

pub routes_first : (lines : List (List ℕ)) (n : ℕ) (routes : List Route) (one two : Progress) → 1 ≤ marks_in lines → RoutesRead lines (front_of lines) (behind_mark lines) n routes one two
unfolding after_plan_lines after_part_line after_routes
routes_first [] n routes one two some = absurd (omega (arith, some))
routes_first (line ∷ lines) n routes one two some = decide (is_mark line) refl (λ now left. routes_first lines (n + 1) now one two left)
  where
    decide : (b : Bool) → is_mark line ≡ b → ((now : List Route) → 1 ≤ marks_in lines → RoutesRead lines (front_of lines) (behind_mark lines) (n + 1) now one two) → RoutesRead (line ∷ lines) (front_of (line ∷ lines)) (behind_mark (line ∷ lines)) n routes one two
    decide true mark others =
        let front : front_of (line ∷ lines) ≡ [] = front-cons line lines ∙ ap (λ b. cond b [] (line ∷ front_of lines)) mark in
        let behind : behind_mark (line ∷ lines) ≡ lines = behind-cons line lines ∙ ap (λ b. cond b lines (behind_mark lines)) mark in
        rw (front, behind, mark) (ap (λ k. after_plan_lines k (at_part One routes one two) lines) (omega arith))
    decide false mark others =
        let front : front_of (line ∷ lines) ≡ line ∷ front_of lines = front-cons line lines ∙ ap (λ b. cond b [] (line ∷ front_of lines)) mark in
        let behind : behind_mark (line ∷ lines) ≡ behind_mark lines = behind-cons line lines ∙ ap (λ b. cond b lines (behind_mark lines)) mark in
        let left : 1 ≤ marks_in lines = omega (arith, some, marks-cons line lines ∙ ap (λ b. cond b 1 0 + marks_in lines) mark) in
        rw (front, behind, mark) (routes_line (after_route_line routes line) line lines (front_of lines) (behind_mark lines) n routes one two (λ now. others now left))

-- the script of side 1 is read, up to the next mark
abbrev OneRead : List (List ℕ) → List (List ℕ) → List (List ℕ) → ℕ → List Route → Progress → Progress → Type 0
OneRead lines front behind n routes one two =
    after_plan_lines n (at_part One routes one two) lines ≡ (after_side_lines n one front >=> λ now. after_plan_lines (n + length front + 1) (at_part Two routes now two) behind)

one_line : (r : Result Progress FaultKind) (line : List ℕ) (lines front behind : List (List ℕ)) (n : ℕ) (routes : List Route) (two : Progress) → ((now : Progress) → OneRead lines front behind (n + 1) routes now two)
    → (at_line n (r >>= λ now. Ok (at_part One routes now two)) >=> λ t. after_plan_lines (n + 1) t lines) ≡ ((at_line n r >=> λ now. after_side_lines (n + 1) now front) >=> λ now. after_plan_lines (n + length (line ∷ front) + 1) (at_part Two routes now two) behind)
one_line (Ok now) line lines front behind n routes two others =
    let same : n + 1 + length front + 1 ≡ n + length (line ∷ front) + 1 = omega arith in
    others now ∙ ap (λ k. after_side_lines (n + 1) now front >=> λ then. after_plan_lines k (at_part Two routes then two) behind) same
one_line (Err fault) line lines front behind n routes two others = refl

pub one_next : (lines : List (List ℕ)) (n : ℕ) (routes : List Route) (one two : Progress) → 1 ≤ marks_in lines → OneRead lines (front_of lines) (behind_mark lines) n routes one two
unfolding after_plan_lines after_part_line after_side_lines
one_next [] n routes one two some = absurd (omega (arith, some))
one_next (line ∷ lines) n routes one two some = decide (is_mark line) refl (λ now left. one_next lines (n + 1) routes now two left)
  where
    decide : (b : Bool) → is_mark line ≡ b → ((now : Progress) → 1 ≤ marks_in lines → OneRead lines (front_of lines) (behind_mark lines) (n + 1) routes now two) → OneRead (line ∷ lines) (front_of (line ∷ lines)) (behind_mark (line ∷ lines)) n routes one two
    decide true mark others =
        let front : front_of (line ∷ lines) ≡ [] = front-cons line lines ∙ ap (λ b. cond b [] (line ∷ front_of lines)) mark in
        let behind : behind_mark (line ∷ lines) ≡ lines = behind-cons line lines ∙ ap (λ b. cond b lines (behind_mark lines)) mark in
        rw (front, behind, mark) (ap (λ k. after_plan_lines k (at_part Two routes one two) lines) (omega arith))
    decide false mark others =
        let front : front_of (line ∷ lines) ≡ line ∷ front_of lines = front-cons line lines ∙ ap (λ b. cond b [] (line ∷ front_of lines)) mark in
        let behind : behind_mark (line ∷ lines) ≡ behind_mark lines = behind-cons line lines ∙ ap (λ b. cond b lines (behind_mark lines)) mark in
        let left : 1 ≤ marks_in lines = omega (arith, some, marks-cons line lines ∙ ap (λ b. cond b 1 0 + marks_in lines) mark) in
        rw (front, behind, mark) (one_line (after_side_line one line) line lines (front_of lines) (behind_mark lines) n routes two (λ now. others now left))

-- the script of side 2 is read to the end
two_line : (r : Result Progress FaultKind) (lines : List (List ℕ)) (n : ℕ) (routes : List Route) (one : Progress) → ((now : Progress) → after_plan_lines (n + 1) (at_part Two routes one now) lines ≡ (after_side_lines (n + 1) now lines >=> λ two. Ok (at_part Two routes one two)))
    → (at_line n (r >>= λ now. Ok (at_part Two routes one now)) >=> λ t. after_plan_lines (n + 1) t lines) ≡ ((at_line n r >=> λ now. after_side_lines (n + 1) now lines) >=> λ two. Ok (at_part Two routes one two))
two_line (Ok now) lines n routes one others = others now
two_line (Err fault) lines n routes one others = refl

pub two_last : (lines : List (List ℕ)) (n : ℕ) (routes : List Route) (one two : Progress) → after_plan_lines n (at_part Two routes one two) lines ≡ (after_side_lines n two lines >=> λ now. Ok (at_part Two routes one now))
unfolding after_plan_lines after_part_line after_side_lines
two_last [] n routes one two = refl
two_last (line ∷ lines) n routes one two = two_line (after_side_line two line) lines n routes one (λ now. two_last lines (n + 1) routes one now)

-- ---- the whole

-- the three parts, one after the other
abbrev pub parts_read : List (List ℕ) → Result PlanProgress ScriptFault
parts_read lines =
    after_routes 1 [] (front_of lines) >=> λ routes.
    after_side_lines (length (front_of lines) + 2) opening (front_of (behind_mark lines)) >=> λ one.
    after_side_lines (length (front_of lines) + length (front_of (behind_mark lines)) + 3) opening (behind_mark (behind_mark lines)) >=> λ two.
    Ok (at_part Two routes one two)

-- the same second step
then_same : {A B : Type 0} (r : Result A ScriptFault) (f g : A → Result B ScriptFault) → ((x : A) → f x ≡ g x) → (r >=> f) ≡ (r >=> g)
then_same (Ok x) f g same = same x
then_same (Err fault) f g same = refl

pub parts_of_lines : (lines : List (List ℕ)) → 2 ≤ marks_in lines → after_plan_lines 1 plan_opening lines ≡ parts_read lines
parts_of_lines lines marks =
    let fewer = marks_behind lines (omega (arith, marks)) in
    let front = length (front_of lines) in
    let from_one : 1 + front + 1 ≡ front + 2 = omega arith in
    let from_two : front + 2 + length (front_of (behind_mark lines)) + 1 ≡ front + length (front_of (behind_mark lines)) + 3 = omega arith in
    routes_first lines 1 [] opening opening (omega (arith, marks)) ∙ then_same (after_routes 1 [] (front_of lines)) _ _ (λ routes.
    ap (λ k. after_plan_lines k (at_part One routes opening opening) (behind_mark lines)) from_one ∙
    one_next (behind_mark lines) (front + 2) routes opening opening (omega (arith, marks, fewer)) ∙ then_same (after_side_lines (front + 2) opening (front_of (behind_mark lines))) _ _ (λ one.
    ap (λ k. after_plan_lines k (at_part Two routes one opening) (behind_mark (behind_mark lines))) from_two ∙
    two_last (behind_mark (behind_mark lines)) _ routes one opening))

-- a plan is what its parts are read as
abbrev finished : PlanProgress → Result PlanText ScriptFault
finished s = plan_read s.routes s.one s.two

then_then : {A B C : Type 0} (r : Result A ScriptFault) (f : A → Result B ScriptFault) (g : B → Result C ScriptFault) → ((r >=> f) >=> g) ≡ (r >=> λ x. f x >=> g)
then_then (Ok x) f g = refl
then_then (Err fault) f g = refl

pub plan_is_read : (lines : List (List ℕ)) → (parts_read lines >=> finished) ≡ plan_on lines
unfolding plan_on plan_in
plan_is_read lines =
    then_then (after_routes 1 [] (front_of lines)) _ finished ∙ then_same (after_routes 1 [] (front_of lines)) _ _ (λ routes.
    then_then (after_side_lines (length (front_of lines) + 2) opening (front_of (behind_mark lines))) _ finished ∙ then_same (after_side_lines (length (front_of lines) + 2) opening (front_of (behind_mark lines))) _ _ (λ one.
    then_then (after_side_lines (length (front_of lines) + length (front_of (behind_mark lines)) + 3) opening (behind_mark (behind_mark lines))) _ finished))

-- lines that were read give the plan, and a fault of theirs is its fault
pub plan_from : (lines : List (List ℕ)) (s : PlanProgress) → 2 ≤ marks_in lines → after_plan_lines 1 plan_opening lines ≡ Ok s → plan_read s.routes s.one s.two ≡ plan_on lines
plan_from lines s marks read = ap (λ r. r >=> finished) (sym read ∙ parts_of_lines lines marks) ∙ plan_is_read lines

pub plan_fault : (lines : List (List ℕ)) (failure : ReadFail) → 2 ≤ marks_in lines → FailsAs failure (after_plan_lines 1 plan_opening lines) → FailsAs failure (plan_on lines)
plan_fault lines (Memory error) marks fails = tt
plan_fault lines (Fault fault) marks fails = sym (plan_is_read lines) ∙ ap (λ r. r >=> finished) (sym (parts_of_lines lines marks) ∙ fails)
