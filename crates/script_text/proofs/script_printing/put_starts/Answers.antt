use Rattle.std.proofs.Common.{◌∷◌, [], ◌++◌, ◌≤◌, length, ap, sym, ◌∙◌, arith}
use Rattle.std.specs.List.{flat_map}
use Rattle.std.proofs.lemmas.List.{take_all}
use Rattle.text_page.proofs.ListTexts.{flat_map-next}
use Rattle.text_page.proofs.PieceTexts.{◌▸◌, puts_as}
use Rattle.script_text.specs.ScriptSpelling.{seq_text}
use Rattle.script_text.proofs.PrintLemmas.{ended-map}
use Rattle.script_text.proofs.script_printing.put_starts.Goals as goal

pub loop-i-preserved : goal.loop-i-preserved
loop-i-preserved g c =
    puts_as _ (flat_map-next (λ item. seq_text item ++ 10 ∷ []) c.args.starts.now c.loop-i.i c.at.result c.at.ensures) (c.loop-i.invariant ▸ c.put_start.ensures)

pub returns : goal.returns
returns g c =
    let all : length c.args.starts.now ≤ c.loop-i.i = omega (arith, c.count-i-end.ensures.count) in
    puts_as _ (ap (flat_map (λ item. seq_text item ++ 10 ∷ [])) (take_all c.loop-i.i c.args.starts.now all) ∙ sym (ended-map seq_text c.args.starts.now)) c.loop-i.invariant
