use Rattle.std.proofs.Common.{take}
use Rattle.std.specs.List.{flat_map}
use Rattle.text_page.specs.Pieces.{Puts}
use Rattle.script_text.specs.ScriptSpelling.{app_lines, ended}
use Rattle.script_text.proofs.script_printing.put_applications.Given as goal

abbrev pub invariant-loop-app : goal.invariant-loop-app
invariant-loop-app g l = Puts l.initial.sink l.sink l.initial.page l.page (flat_map (λ app. ended (app_lines app)) (take l.app-index l.apps))
