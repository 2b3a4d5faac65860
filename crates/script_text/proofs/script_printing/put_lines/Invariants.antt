use Rattle.std.proofs.Common.{◌∷◌, [], ◌++◌, take}
use Rattle.std.specs.List.{flat_map}
use Rattle.text_page.specs.Pieces.{Puts}
use Rattle.script_text.specs.Spelling.{line_text}
use Rattle.script_text.proofs.script_printing.put_lines.Given as goal

abbrev pub invariant-loop-i : goal.invariant-loop-i
invariant-loop-i g l = Puts l.initial.sink l.sink l.initial.page l.page (flat_map (λ line. line_text line ++ 10 ∷ []) (take l.i l.app.lines))
