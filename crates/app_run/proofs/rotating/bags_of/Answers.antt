use Rattle.std.proofs.Common.{◌++◌, ◌∷◌, [], map, take, ap, ◌∙◌, arith}
use Rattle.fsw_base.specs.Limits.{Limits}
use Rattle.fsw_base.specs.declared.config.Budget.{Budget}
use Rattle.script_settings.specs.Accounts.{budget_of}
use Rattle.app_script.specs.Script.{app_at}
use Rattle.app_run.specs.Openings.{empty_bag}
use Rattle.app_run.proofs.OpenLaws.{bags-next}
use Rattle.app_run.proofs.rotating.bags_of.Goals as goal

pub loop-i-preserved : goal.loop-i-preserved
loop-i-preserved c =
    let script = c.args.script.now in
    let so = map (λ a. empty_bag script.limits.pipes (budget_of a.lines).buffers) (take c.loop-i.i script.apps) in (
      c.push_reserved.ensures.items
          ∙ ap (λ bags. bags ++ c.in_ok-bag.bag ∷ []) c.loop-i.invariant.0
          ∙ ap (λ bag. so ++ bag ∷ []) c.in_ok-bag.ensures
          ∙ ap (λ (limits : Limits). so ++ empty_bag limits.pipes c.budget-buffers.result.buffers ∷ []) c.config.ensures
          ∙ ap (λ (budget : Budget). so ++ empty_bag script.limits.pipes budget.buffers ∷ []) c.budget-buffers.ensures
          ∙ ap (λ app. so ++ empty_bag script.limits.pipes (budget_of (app_at script app).lines).buffers ∷ []) c.app_at.ensures
          ∙ bags-next script c.loop-i.i (omega (arith, c.loop-i-test.true, c.apps-i-end.ensures.count)),
      omega (arith, c.push_reserved.ensures.len, c.loop-i.invariant.1),
      c.push_reserved.ensures.capacity ∙ c.loop-i.invariant.2,
    )
