use Rattle.std.proofs.Common.{◌∷◌, take, decimal}
use Rattle.std.specs.List.{flat_map}
use Rattle.text_page.specs.Pieces.{Puts}
use Rattle.script_text.proofs.script_printing.put_each_size.Given as goal

abbrev pub invariant-loop-i : goal.invariant-loop-i
invariant-loop-i g l = Puts l.initial.sink l.sink l.initial.page l.page (flat_map (λ size. 32 ∷ decimal size) (take l.i l.sizes))
