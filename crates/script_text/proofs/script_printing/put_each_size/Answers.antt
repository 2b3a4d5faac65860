use Rattle.std.proofs.Common.{◌∷◌, ◌<◌, ◌≤◌, length, get_or, decimal, ap, ◌∙◌, arith}
use Rattle.std.specs.List.{flat_map}
use Rattle.std.proofs.lemmas.List.{take_all}
use Rattle.std.proofs.lemmas.Option.{slice_get-get_or}
use Rattle.text_page.proofs.ListTexts.{flat_map-next}
use Rattle.text_page.proofs.PieceTexts.{◌▸◌, puts_as}
use Rattle.script_text.proofs.PieceLemmas.{behind-map}
use Rattle.script_text.proofs.script_printing.put_each_size.Goals as goal

pub loop-i-preserved : goal.loop-i-preserved
loop-i-preserved g c =
    let sizes = c.args.sizes.now in
    let inside : c.loop-i.i < length c.args.sizes.now = omega (arith, c.count-i-end.ensures.count) in
    puts_as _ (flat_map-next (λ size. 32 ∷ decimal size) sizes c.loop-i.i (get_or sizes c.loop-i.i 0) (slice_get-get_or sizes c.loop-i.i 0 inside))
    (c.loop-i.invariant ▸ (c.put.ensures ▸ puts_as _ (ap decimal c.at.ensures) c.put_number.ensures))

pub returns : goal.returns
returns g c =
    let all : length c.args.sizes.now ≤ c.loop-i.i = omega (arith, c.count-i-end.ensures.count) in
    puts_as _ (ap (flat_map (λ size. 32 ∷ decimal size)) (take_all c.loop-i.i c.args.sizes.now all) ∙ behind-map decimal c.args.sizes.now) c.loop-i.invariant
