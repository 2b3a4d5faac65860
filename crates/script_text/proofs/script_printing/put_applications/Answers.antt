use Rattle.std.proofs.Common.{Some, ap, sym, ◌∙◌}
use Rattle.std.specs.List.{flat_map}
use Rattle.std.proofs.lemmas.List.{take_all}
use Rattle.std.proofs.lemmas.Option.{slice_get-get_or}
use Rattle.text_page.proofs.ListTexts.{flat_map-next}
use Rattle.text_page.proofs.PieceTexts.{◌▸◌, puts_as}
use Rattle.script_text.specs.ScriptSpelling.{app_lines, ended}
use Rattle.script_text.proofs.PrintLemmas.{ended-flat}
use Rattle.script_text.proofs.script_printing.put_applications.Goals as goal

pub loop-app-preserved : goal.loop-app-preserved
loop-app-preserved g c =
    let apps = c.args.apps.now in
    puts_as _
    (flat_map-next (λ app. ended (app_lines app)) apps c.loop-app.app-index c.app-item.result
    (slice_get-get_or apps c.loop-app.app-index c.app-item.result c.loop-app-test.true ∙ ap Some (sym c.app-item.is)))
    (c.loop-app.invariant ▸ c.put_application.ensures)

pub returns : goal.returns
returns g c =
    puts_as _ (ap (flat_map (λ app. ended (app_lines app))) (take_all c.loop-app.app-index c.args.apps.now c.loop-app-test.false) ∙ sym (ended-flat app_lines c.args.apps.now)) c.loop-app.invariant
