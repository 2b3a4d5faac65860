use Rattle.std.proofs.Common.{◌++◌, ◌∷◌, [], map, take, ap, ◌∙◌, arith}
use Rattle.fsw_base.specs.Limits.{Limits}
use Rattle.app_run.proofs.OpenLaws.{first_held, helds-next}
use Rattle.app_run.proofs.rotating.held_of.Goals as goal

pub loop-app-preserved : goal.loop-app-preserved
loop-app-preserved c =
    let script = c.args.script.now in
    let so = map (λ a. first_held script) (take c.loop-app._app script.apps) in (
      c.push_reserved.ensures.items
          ∙ ap (λ helds. helds ++ c.in_ok-bag.bag ∷ []) c.loop-app.invariant.0
          ∙ ap (λ held. so ++ held ∷ []) c.in_ok-bag.ensures
          ∙ ap (λ (limits : Limits). so ++ record { views = []; room = limits.handles } ∷ []) c.config.ensures
          ∙ helds-next script c.loop-app._app (omega (arith, c.loop-app-test.true, c.apps-app-end.ensures.count)),
      omega (arith, c.push_reserved.ensures.len, c.loop-app.invariant.1),
      c.push_reserved.ensures.capacity ∙ c.loop-app.invariant.2,
    )
