use Rattle.std.proofs.Common.{◌∷◌, take}
use Rattle.std.specs.List.{flat_map}
use Rattle.text_page.specs.Pieces.{Puts}
use Rattle.script_text.specs.Spelling.{filter_text}
use Rattle.script_text.proofs.event_lines.put_filters.Given as goal

abbrev pub invariant-loop-i : goal.invariant-loop-i
invariant-loop-i g l = Puts l.initial.sink l.sink l.initial.page l.page (flat_map (λ item. 32 ∷ filter_text item) (take l.i l.filters))
