-- A plan that a text gives is one that a text can be.
use Rattle.std.proofs.Common.{◌≡◌, ◌≢◌, ℕ, ◌+◌, ◌<◌, ◌≤◌, Bool, true, false, cond, ◌&&◌, nat_le, nat_lt, eqb, List, [], ◌∷◌, length, get_or, Result, Ok, Err, refl, sym, ap, ◌∙◌, subst, arith, codes, eq-eqb}
use Rattle.std.specs.List.{list_all, list_any, starts_with}
use Rattle.std.proofs.lemmas.Bool.{leb-false, ltb-false}
use Rattle.std.proofs.lemmas.List.{length-append}
use Rattle.std.proofs.lemmas.List.Elements.{All-nil, All-push}
use Rattle.std.proofs.lemmas.List.Folds.{list_any_at}
use Rattle.std.proofs.lemmas.List.Quantifiers.{all_pairs_push}
use Rattle.fsw_base.specs.declared.script_faults.FaultKind.TheVariants.{LineTooLong, BadByte, UnknownWord, OutOfRange, Repeated, TooManyApps}
use Rattle.fsw_base.specs.declared.script_faults.ScriptFault.{ScriptFault}
use Rattle.script_words.specs.Counts.{Word, two}
use Rattle.script_words.specs.Numbers.{number_of, within}
use Rattle.script_words.specs.Readings.{◌>>=◌}
use Rattle.script_words.specs.Text.{words_of, is_text, is_same}
use Rattle.script_lines.proofs.Booleans.{and_first, and_second, at_least, at_most}
use Rattle.script_lines.proofs.ReadingLaws.{Holds, then, any, refuse, either, accept}
use Rattle.script_lines.proofs.ReadWords.{within_in}
use Rattle.app_script.specs.Grammar.{Progress, opening, apps_of, after_line, after_lines, at_line, ◌>=>◌}
use Rattle.app_script.proofs.ReadScripts.{lines_are_script}
use Rattle.bridge_plan.specs.declared.reading.Part.TheVariants.{Two}
use Rattle.bridge_plan.specs.declared.routes.Route.{Route}
use Rattle.bridge_plan.specs.Inside.{PlanProgress, plan_opening, after_plan_lines}
use Rattle.bridge_plan.specs.Parts.{marks_in, front_of, behind_mark}
use Rattle.bridge_plan.specs.Plan.{IsPlan}
use Rattle.bridge_plan.specs.Routes.{IsRoute, AreRoutes, route_of, after_route, after_route_words, after_route_line, after_routes}
use Rattle.bridge_plan.specs.Sides.{with_room, after_side_line, after_side_lines, script_read}
use Rattle.bridge_plan.proofs.PartLaws.{parts_read, parts_of_lines}

-- ---- routes

route_in : (words : List Word) → Holds IsRoute (route_of words)
unfolding route_of
route_in words =
    any _ (two words) _ (λ w. any _ (number_of w.0) _ (λ number. any _ (number_of w.1) _ (λ most.
    then _ _ (within 1 8191 number) _ (within_in 1 8191 number) (λ id h. then _ _ (within 0 65535 most) _ (within_in 0 65535 most) (λ limit g.
    record { first = at_least 1 8191 id h; last = at_most 1 8191 id h; limit = at_most 0 65535 limit g })))))

-- an id that no route has
other_ids : (routes : List Route) (route : Route) → list_any (λ other. eqb other.id route.id) routes ≡ false → (k : ℕ) (d : Route) → k < length routes → (get_or routes k d).id ≢ route.id
other_ids routes route new k d within e =
    let again = list_any_at (λ (other : Route). eqb other.id route.id) routes k d within (eq-eqb _ _ e) in
    absurd cc

route_added : (routes : List Route) (route : Route) → AreRoutes routes → IsRoute route → Holds AreRoutes (after_route routes route)
unfolding after_route
route_added routes route are is =
    refuse AreRoutes (nat_le 16 (length routes)) OutOfRange _ (λ room. refuse AreRoutes (list_any (λ other. eqb other.id route.id) routes) Repeated _ (λ new. record {
      few = omega (arith, leb-false 16 (length routes) room, length-append routes (route ∷ []));
      each = All-push IsRoute routes route are.each is;
      ids = all_pairs_push (λ (one other : Route). one.id ≢ other.id) routes route are.ids (other_ids routes route new);
    }))

words_add : (routes : List Route) (words : List Word) → AreRoutes routes → Holds AreRoutes (after_route_words routes words)
unfolding after_route_words
words_add routes [] are = are
words_add routes (first ∷ words) are =
    either AreRoutes (starts_with (λ a b. eqb a b) first (codes "#")) _ _ are (accept AreRoutes (is_same first (codes "route")) _ UnknownWord (λ h. then IsRoute AreRoutes (route_of words) (after_route routes) (route_in words) (λ route is. route_added routes route are is)))

line_adds : (routes : List Route) (line : List ℕ) → AreRoutes routes → Holds AreRoutes (after_route_line routes line)
unfolding after_route_line
line_adds routes line are = refuse AreRoutes (nat_lt 1024 (length line)) LineTooLong _ (λ short. accept AreRoutes (list_all is_text line) _ BadByte (λ h. words_add routes (words_of line) are))

routes_read : (lines : List (List ℕ)) (n : ℕ) (routes now : List Route) → AreRoutes routes → after_routes n routes lines ≡ Ok now → AreRoutes now
unfolding after_routes
routes_read [] n routes now are e =
    let same : routes ≡ now = cc in
    subst AreRoutes same are
routes_read (line ∷ lines) n routes now are e =
    elim (after_route_line routes line) as (λ r. Holds AreRoutes r → (at_line n r >=> λ more. after_routes (n + 1) more lines) ≡ Ok now → AreRoutes now) [
      | Ok more ↦ λ after h. routes_read lines (n + 1) more now after h
      | Err fault ↦ λ after h. absurd cc
    ] (line_adds routes line are) e

-- ---- the script of a side

room_left : (s t : Progress) → with_room s ≡ Ok t → (s ≡ t) × (length (apps_of t) ≤ 15)
unfolding with_room
room_left s t e = decide (nat_lt 15 (length (apps_of s))) refl e
  where
    decide : (b : Bool) → nat_lt 15 (length (apps_of s)) ≡ b → cond b (Err TooManyApps) (Ok s) ≡ Ok t → (s ≡ t) × (length (apps_of t) ≤ 15)
    decide true size h = absurd cc
    decide false size h =
        let same : s ≡ t = cc in
        (same, omega (arith, ltb-false 15 (length (apps_of s)) size, ap (λ (u : Progress). length (apps_of u)) same))

line_passed : (s t : Progress) (line : List ℕ) → after_side_line s line ≡ Ok t → (after_line s line ≡ Ok t) × (length (apps_of t) ≤ 15)
unfolding after_side_line
line_passed s t line e =
    elim (after_line s line) as (λ r. (r >>= with_room) ≡ Ok t → (r ≡ Ok t) × (length (apps_of t) ≤ 15)) [
      | Ok u ↦ λ h. let left = room_left u t h in (ap Ok left.0, left.1)
      | Err fault ↦ λ h. absurd cc
    ] e

lines_passed : (lines : List (List ℕ)) (n : ℕ) (s t : Progress) → length (apps_of s) ≤ 15 → after_side_lines n s lines ≡ Ok t → (after_lines n s lines ≡ Ok t) × (length (apps_of t) ≤ 15)
unfolding after_side_lines after_lines
lines_passed [] n s t few e = (e, omega (arith, few, same))
  where
    same : length (apps_of s) ≡ length (apps_of t)
    same =
        let is : s ≡ t = cc in
        ap (λ (u : Progress). length (apps_of u)) is
lines_passed (line ∷ lines) n s t few e =
    elim (after_side_line s line) as (λ r. after_side_line s line ≡ r → (at_line n r >=> λ u. after_side_lines (n + 1) u lines) ≡ Ok t → (after_lines n s (line ∷ lines) ≡ Ok t) × (length (apps_of t) ≤ 15)) [
      | Ok u ↦ λ one h.
          let passed = line_passed s u line one in
          let others = lines_passed lines (n + 1) u t passed.1 h in
          (ap (λ r. at_line n r >=> λ v. after_lines (n + 1) v lines) passed.0 ∙ others.0, others.1)
      | Err fault ↦ λ one h. absurd cc
    ] refl e

-- ---- the whole

-- a step that gives something has a first step that does
first_step : {A B : Type 0} (r : Result A ScriptFault) (f : A → Result B ScriptFault) (y : B) → (r >=> f) ≡ Ok y → (x : A) × (r ≡ Ok x) × (f x ≡ Ok y)
first_step (Ok x) f y e = (x, refl, e)
first_step (Err fault) f y e = absurd cc

abbrev IsOne : PlanProgress → Type 0
IsOne s = (s.one.started && s.two.started) ≡ true → IsPlan (record { routes = s.routes; one = script_read s.one; two = script_read s.two })

no_routes : AreRoutes []
no_routes = record { few = omega arith; each = All-nil IsRoute; ids = λ i j d lt within. absurd (omega (arith, within)) }

pub plan_is : (lines : List (List ℕ)) (s : PlanProgress) → 2 ≤ marks_in lines → after_plan_lines 1 plan_opening lines ≡ Ok s → (s.one.started && s.two.started) ≡ true
    → IsPlan (record { routes = s.routes; one = script_read s.one; two = script_read s.two })
plan_is lines s marks read started =
    let parts : parts_read lines ≡ Ok s = sym (parts_of_lines lines marks) ∙ read in
    let of_routes = first_step (after_routes 1 [] (front_of lines)) _ s parts in
    let of_one = first_step (after_side_lines (length (front_of lines) + 2) opening (front_of (behind_mark lines))) _ s of_routes.2 in
    let of_two = first_step (after_side_lines (length (front_of lines) + length (front_of (behind_mark lines)) + 3) opening (behind_mark (behind_mark lines))) _ s of_one.2 in
    let same : record { part = Two; routes = of_routes.0; one = of_one.0; two = of_two.0 } ≡ s = cc in
    subst IsOne same (λ begun. record {
      routes = routes_read (front_of lines) 1 [] of_routes.0 no_routes of_routes.1;
      one = lines_are_script _ _ of_one.0 (lines_passed (front_of (behind_mark lines)) _ opening of_one.0 (omega arith) of_one.1).0 (and_first of_one.0.started of_two.0.started begun);
      two = lines_are_script _ _ of_two.0 (lines_passed (behind_mark (behind_mark lines)) _ opening of_two.0 (omega arith) of_two.1).0 (and_second of_one.0.started of_two.0.started begun);
      room_on_one = (lines_passed (front_of (behind_mark lines)) _ opening of_one.0 (omega arith) of_one.1).1;
      room_on_two = (lines_passed (behind_mark (behind_mark lines)) _ opening of_two.0 (omega arith) of_two.1).1;
    }) started
