use Rattle.std.proofs.Common.{◌≡◌, true, [], ◌∷◌, length, ap, refl, ◌∙◌, arith}
use Rattle.std.proofs.lemmas.List.{length-append}
use Rattle.app_script.specs.Script.{Application}
use Rattle.app_script.proofs.PartLemmas.{keeps_app, more_apps}
use Rattle.app_script.proofs.reading.Reading.app.Goals as goal

pub invariant_of-self : goal.invariant_of-self
invariant_of-self c = keeps_app c.self.inside _ c.self.invariant (ap (λ (x : Application). x.lines) c.new-then-not-self.ensures) refl refl refl c.self.invariant.apps

pub invariant_of-self-2 : goal.invariant_of-self-2
invariant_of-self-2 c =
    let started : c.self.inside.started ≡ true = grind arith in
    let count = more_apps c.self.inside c.args.self.now c.app_count.result c.self.view_is c.app_count.ensures started in
    keeps_app c.self.inside _ c.self.invariant (ap (λ (x : Application). x.lines) (c.replace-before.ensures.after ∙ c.new-2.ensures)) refl refl refl
    (omega (arith, count, ap length c.push_reserved.ensures.items, length-append c.reserve.new.self.items (c.replace-before.result ∷ []), ap length c.in_ok-reserve.ensures.items))
