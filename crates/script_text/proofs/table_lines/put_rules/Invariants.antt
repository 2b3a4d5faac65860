use Rattle.std.proofs.Common.{◌∷◌, take}
use Rattle.std.specs.List.{flat_map}
use Rattle.text_page.specs.Pieces.{Puts}
use Rattle.script_text.specs.Spelling.{rule_text}
use Rattle.script_text.proofs.table_lines.put_rules.Given as goal

abbrev pub invariant-loop-i : goal.invariant-loop-i
invariant-loop-i g l = Puts l.initial.sink l.sink l.initial.page l.page (flat_map (λ item. 32 ∷ rule_text item) (take l.i l.rules))
