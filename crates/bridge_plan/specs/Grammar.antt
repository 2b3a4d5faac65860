-- What a plan's text is, and what is wrong with one: routes, a line `---`, the script of side 1, a
-- line `---`, and the script of side 2, in the lines and words of scripts.
use Rattle.std.specs.Prelude.{ℕ, ◌+◌, ◌&&◌, nat_le, nat_lt, List, [], length, Result, Ok, Err, if◌then◌else◌}
use Rattle.fsw_base.specs.declared.script_faults.FaultKind.TheVariants.{TooLarge, NoApp}
use Rattle.fsw_base.specs.declared.script_faults.ScriptFault.{ScriptFault}
use Rattle.script_words.specs.Text.{lines_of}
use Rattle.app_script.specs.Grammar.{Progress, opening, whole_fault, ◌>=>◌}
use Rattle.bridge_plan.specs.declared.fail.PlanFault.{PlanFault}
use Rattle.bridge_plan.specs.declared.fail.PlanFault.TheVariants.{MissingPart, Script}
use Rattle.bridge_plan.specs.declared.routes.Route.{Route}
use Rattle.bridge_plan.specs.Faults.{in_plan}
use Rattle.bridge_plan.specs.Parts.{front_of, behind_mark, marks_in}
use Rattle.bridge_plan.specs.Plan.{PlanText}
use Rattle.bridge_plan.specs.Routes.{after_routes}
use Rattle.bridge_plan.specs.Sides.{after_side_lines, script_read}

-- both scripts with the routes, if each script has an application
unfoldable pub plan_read : List Route → Progress → Progress → Result PlanText ScriptFault
plan_read routes one two =
    if one.started && two.started
    then Ok (record { routes = routes; one = script_read one; two = script_read two })
    else Err (whole_fault NoApp)

-- the three parts, each faulty line with its number in the whole text; an application that is
-- missing is missed last of all
unfoldable pub plan_in : List (List ℕ) → List (List ℕ) → List (List ℕ) →
    Result PlanText ScriptFault
plan_in of_routes of_one of_two =
    after_routes 1 [] of_routes >=> λ routes.
    after_side_lines (length of_routes + 2) opening of_one >=> λ one.
    after_side_lines (length of_routes + length of_one + 3) opening of_two >=> λ two.
    plan_read routes one two

-- the parts of lines of which two at least are marks
unfoldable pub plan_on : List (List ℕ) → Result PlanText ScriptFault
plan_on lines =
    plan_in (front_of lines) (front_of (behind_mark lines)) (behind_mark (behind_mark lines))

-- The plan that the bytes are, or the first fault: that they are too many, that a part is missing,
-- the first of the first faulty line, or that a script has no application.
unfoldable pub plan_of : List ℕ → Result PlanText PlanFault
plan_of bytes =
    if nat_lt 2097152 (length bytes) then Err (Script (whole_fault TooLarge))
    else (if nat_le 2 (marks_in (lines_of bytes)) then in_plan (plan_on (lines_of bytes))
    else Err MissingPart)
