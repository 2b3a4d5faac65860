use Rattle.text_page.proofs.PieceTexts.{◌▸◌, puts_as}
use Rattle.std.proofs.Common.{sym, ◌∙◌}
use Rattle.fsw_base.specs.Limits.{limits_of}
use Rattle.script_settings.specs.declared.settings.LimitName.TheVariants.{MsgIds, Pipes, Dests, Depth, MsgMax, Pool, AppPool, Tables, Handles, TableMax, TablePool}
use Rattle.app_script.specs.ScriptRanges.{limit_of, all_limits}
use Rattle.script_text.specs.ScriptSpelling.{set_lines_of, ended}
use Rattle.script_text.proofs.PrintLemmas.{ended-flat, eleven}
use Rattle.script_text.proofs.script_printing.put_limits.Goals as goal

pub returns : goal.returns
returns g c =
    let limits = limits_of c.args.config.now in
    puts_as _ (eleven (ended (set_lines_of MsgIds (limit_of limits MsgIds))) (ended (set_lines_of Pipes (limit_of limits Pipes))) (ended (set_lines_of Dests (limit_of limits Dests))) (ended (set_lines_of Depth (limit_of limits Depth))) (ended (set_lines_of MsgMax (limit_of limits MsgMax))) (ended (set_lines_of Pool (limit_of limits Pool))) (ended (set_lines_of AppPool (limit_of limits AppPool))) (ended (set_lines_of Tables (limit_of limits Tables))) (ended (set_lines_of Handles (limit_of limits Handles))) (ended (set_lines_of TableMax (limit_of limits TableMax))) (ended (set_lines_of TablePool (limit_of limits TablePool))) ∙ sym (ended-flat (λ name. set_lines_of name (limit_of limits name)) all_limits))
    (c.put_limit.ensures ▸ c.put_limit-2.ensures ▸ c.put_limit-3.ensures ▸ c.put_limit-4.ensures ▸ c.put_limit-5.ensures ▸ c.put_limit-6.ensures ▸ c.put_limit-7.ensures ▸ c.put_limit-8.ensures ▸ c.put_limit-9.ensures ▸ c.put_limit-10.ensures ▸ c.put_limit-11.ensures)
