use Rattle.std.proofs.Common.{◌<◌, ◌-◌, ◌+◌, ◌∙◌, ◌&&◌, drop, set, length, ap, sym, refl, arith}
use Rattle.std.specs.List.{list_all}
use Rattle.std.proofs.lemmas.List.{take_rest}
use Rattle.bus_core.specs.declared.activities.Activity.TheVariants as activities
use Rattle.bus_core.specs.Rows.{idle_in}
use Rattle.bus_core.proofs.Looks.{others_beside}
use Rattle.bus_core.proofs.receiving.are_others_idle.Goals as goal

pub returns-then-before : goal.returns-then-before
returns-then-before c =
    let acts = c.args.activities.now in
    let idle = idle_in c.args.store.now.pipes in
    let own = c.get.result - 1 in
    let within : own < length acts = omega (arith, c.requires, c.get.ensures.value, c.get.ensures.first) in
    c.are_idle-behind.ensures
    ∙ ap (list_all idle) (take_rest acts (own + 1))
    ∙ ap (λ b. b && list_all idle (drop (own + 1) acts)) (sym (sym c.are_idle-before.ensures ∙ c.if-before.true))
    ∙ others_beside idle acts own activities.Ended within refl
    ∙ ap (λ n. list_all idle (set acts (n - 1) activities.Ended)) c.get.ensures.value

pub returns-else-before : goal.returns-else-before
returns-else-before c =
    let acts = c.args.activities.now in
    let idle = idle_in c.args.store.now.pipes in
    let own = c.get.result - 1 in
    let within : own < length acts = omega (arith, c.requires, c.get.ensures.value, c.get.ensures.first) in
    c.if-before.false
    ∙ ap (λ b. b && list_all idle (drop (own + 1) acts)) (sym (sym c.are_idle-before.ensures ∙ c.if-before.false))
    ∙ others_beside idle acts own activities.Ended within refl
    ∙ ap (λ n. list_all idle (set acts (n - 1) activities.Ended)) c.get.ensures.value
