use Rattle.std.proofs.Common.{sym, subst}
use Rattle.app_script.specs.Script.{ScriptText}
use Rattle.app_script.specs.ScriptRanges.{IsScript}
use Rattle.script_text.proofs.ScriptLemmas.{generated_in, generated_from}
use Rattle.script_text.proofs.generated_scripts.generate.Goals as goal

pub new-requires : goal.new-requires
new-requires c =
    subst (λ (s : ScriptText). IsScript s) (sym (generated_from c.args.number c.new-generator.result _ c.in_ok-apps.apps.items c.usual.ensures c.new-generator.ensures c.in_ok-apps.ensures)) (generated_in c.args.number)
