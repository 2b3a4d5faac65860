use Rattle.std.proofs.Common.{◌∷◌, [], ◌++◌, ◌≤◌, length, ap, sym, ◌∙◌, arith}
use Rattle.std.specs.List.{flat_map}
use Rattle.std.proofs.lemmas.List.{take_all}
use Rattle.text_page.proofs.ListTexts.{flat_map-next}
use Rattle.text_page.proofs.PieceTexts.{◌▸◌, puts_as}
use Rattle.script_text.specs.Spelling.{line_text}
use Rattle.script_text.proofs.PrintLemmas.{ended-map}
use Rattle.script_text.proofs.script_printing.put_lines.Goals as goal

pub loop-i-preserved : goal.loop-i-preserved
loop-i-preserved g c =
    puts_as _ (flat_map-next (λ line. line_text line ++ 10 ∷ []) c.args.app.now.lines c.loop-i.i c.line.result.now c.line.ensures) (c.loop-i.invariant ▸ (c.print_line.ensures ▸ c.put.ensures))

pub returns : goal.returns
returns g c =
    let all : length c.args.app.now.lines ≤ c.loop-i.i = omega (arith, c.lines-i-end.ensures.count) in
    puts_as _ (ap (flat_map (λ line. line_text line ++ 10 ∷ [])) (take_all c.loop-i.i c.args.app.now.lines all) ∙ sym (ended-map line_text c.args.app.now.lines)) c.loop-i.invariant
