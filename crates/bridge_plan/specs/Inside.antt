-- What the fields of a plan and of its reading stand for, and how it is read line by line.
use Rattle.std.specs.Prelude.{ℕ, ◌+◌, List, [], ◌∷◌, Result, Ok, if◌then◌else◌}
use Rattle.fsw_base.specs.declared.script_faults.FaultKind.{FaultKind}
use Rattle.fsw_base.specs.declared.script_faults.ScriptFault.{ScriptFault}
use Rattle.script_words.specs.Readings.{◌>>=◌}
use Rattle.app_script.specs.Grammar.{Progress, opening, at_line, ◌>=>◌}
use Rattle.bridge_plan.specs.declared.plan.BridgePlan.TheInside as plan
use Rattle.bridge_plan.specs.declared.reading.Part.{Part}
use Rattle.bridge_plan.specs.declared.reading.Part.TheVariants.{Routes, One, Two}
use Rattle.bridge_plan.specs.declared.reading.PlanReading.TheInside as reading
use Rattle.bridge_plan.specs.declared.routes.Route.{Route}
use Rattle.bridge_plan.specs.Parts.{is_mark}
use Rattle.bridge_plan.specs.Plan.{PlanText, IsPlan}
use Rattle.bridge_plan.specs.Routes.{after_route_line}
use Rattle.bridge_plan.specs.Sides.{after_side_line}

-- A plan. --

abbrev pub plan_inside : plan.Inside → PlanText
plan_inside p = record { routes = p.routes.items; one = p.one; two = p.two }

-- it is one that a text can be
abbrev pub KeepsPlan : plan.Inside → Type 0
KeepsPlan p = IsPlan (plan_inside p)

-- A reading. --

-- what was read of a plan so far: the part that the next line stands in, the routes, and what was
-- read of both scripts
pub record PlanProgress : Type 0 where
  pub part : Part
  pub routes : List Route
  pub one : Progress
  pub two : Progress

abbrev pub progress_inside : reading.Inside → PlanProgress
progress_inside r = record { part = r.part; routes = r.routes.items; one = r.one; two = r.two }

-- before the first line
abbrev pub plan_opening : PlanProgress
plan_opening = record { part = Routes; routes = []; one = opening; two = opening }

-- a line in a part: a mark ends the routes, and the script of side 1
unfoldable pub after_part_line : Part → PlanProgress → List ℕ → Result PlanProgress FaultKind
after_part_line Routes s line =
    if is_mark line then Ok (record s { part = One })
    else (after_route_line s.routes line >>= λ routes. Ok (record s { routes = routes }))
after_part_line One s line =
    if is_mark line then Ok (record s { part = Two })
    else (after_side_line s.one line >>= λ one. Ok (record s { one = one }))
after_part_line Two s line = after_side_line s.two line >>= λ two. Ok (record s { two = two })

abbrev pub after_plan_line : PlanProgress → List ℕ → Result PlanProgress FaultKind
after_plan_line s line = after_part_line s.part s line

-- the lines from one number on
unfoldable pub after_plan_lines : ℕ → PlanProgress → List (List ℕ) → Result PlanProgress ScriptFault
after_plan_lines number s [] = Ok s
after_plan_lines number s (line ∷ lines) =
    at_line number (after_plan_line s line) >=> λ t. after_plan_lines (number + 1) t lines
