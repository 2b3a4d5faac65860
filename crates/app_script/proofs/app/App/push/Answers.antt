use Rattle.std.proofs.Common.{List, [], ◌∷◌, ◌++◌, length, ap, ◌∙◌, arith}
use Rattle.script_lines.specs.declared.line.Line.{Line}
use Rattle.app_script.specs.Script.{Application}
use Rattle.app_script.proofs.PartLemmas.{fits_push}
use Rattle.app_script.proofs.app.App.push.Goals as goal

pub invariant_of-self-2 : goal.invariant_of-self-2
invariant_of-self-2 c =
    fits_push c.self.inside _ c.args.line c.self.invariant (c.push_reserved.ensures.items ∙ ap (λ (xs : List Line). xs ++ c.args.line ∷ []) c.in_ok-reserve.ensures.items) c.count.ensures
    (omega (arith, ap (λ (x : Application). length x.lines) c.self.view_is, c.requires.calls))
