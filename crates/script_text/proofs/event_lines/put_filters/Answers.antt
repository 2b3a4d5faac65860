use Rattle.std.proofs.Common.{◌∷◌, ap, ◌∙◌, length, ◌≤◌, arith}
use Rattle.std.proofs.lemmas.List.{take_all}
use Rattle.std.specs.List.{flat_map}
use Rattle.text_page.proofs.ListTexts.{flat_map-next}
use Rattle.text_page.proofs.PieceTexts.{◌▸◌, puts_as}
use Rattle.script_text.specs.Spelling.{filter_text}
use Rattle.script_text.proofs.PieceLemmas.{behind-map}
use Rattle.script_text.proofs.event_lines.put_filters.Goals as goal

pub loop-i-preserved : goal.loop-i-preserved
loop-i-preserved g c =
    puts_as _ (flat_map-next (λ item. 32 ∷ filter_text item) c.args.filters.now c.loop-i.i c.at.result c.at.ensures) (c.loop-i.invariant ▸ c.put_filter_word.ensures)

pub returns : goal.returns
returns g c =
    let all : length c.args.filters.now ≤ c.loop-i.i = omega (arith, c.count-i-end.ensures.count) in
    puts_as _ (ap (flat_map (λ item. 32 ∷ filter_text item)) (take_all c.loop-i.i c.args.filters.now all) ∙ behind-map filter_text c.args.filters.now) c.loop-i.invariant
