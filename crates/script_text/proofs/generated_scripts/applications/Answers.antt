use Rattle.std.proofs.Common.{◌≡◌, ℕ, ◌+◌, ◌-◌, List, ◌++◌, ap, sym, ◌∙◌, append-nil, arith}
use Rattle.app_script.specs.Script.{Application}
use Rattle.script_text.proofs.ApplicationLemmas.{apps_next, applications_none}
use Rattle.script_text.proofs.generated_scripts.applications.Goals as goal

pub loop-app-preserved : goal.loop-app-preserved
loop-app-preserved c =
    let left = 5 - (c.loop-app.app + 1) in
    let one : 5 - c.loop-app.app ≡ 5 - (c.loop-app.app + 1) + 1 = omega (arith, c.loop-app-test.true) in
    record {
      apps = apps_next c.loop-app.apps.items c.push_reserved.new.self.items c.in_ok-application.field-0 c.loop-app.app left (5 - c.loop-app.app) c.loop-app.generator c.application.new.generator one
          c.push_reserved.ensures.items c.in_ok-application.ensures.app c.in_ok-application.ensures.moved
          ∙ c.loop-app.invariant.apps;
      room = omega (arith, c.push_reserved.ensures.len, c.push_reserved.ensures.capacity, c.loop-app.invariant.room, one);
    }

pub returns : goal.returns
returns c =
    let none : 5 - c.loop-app.app ≡ 0 = omega (arith, c.loop-app-test.false) in
    sym (ap (λ (d : List Application × ℕ). c.loop-app.apps.items ++ d.0) (applications_none c.loop-app.app (5 - c.loop-app.app) c.loop-app.generator none) ∙ append-nil c.loop-app.apps.items)
    ∙ c.loop-app.invariant.apps
