use Rattle.std.proofs.Common.{◌≡◌, List, ◌++◌, length, ap, ◌∙◌, arith}
use Rattle.script_lines.specs.declared.line.Line.{Line}
use Rattle.script_settings.specs.Accounts.{account_of}
use Rattle.script_text.specs.Generated.{first_lines, actions}
use Rattle.script_text.proofs.ApplicationLemmas.{lines_few, lines_light, application_pushed}
use Rattle.script_text.proofs.generated_scripts.application.Goals as goal

pub of_lines-requires : goal.of_lines-requires
of_lines-requires c =
    let app = c.args.app in
    let number = c.args.generator.now in
    let all : c.push_actions.new.lines.items ≡ first_lines app ++ (actions 250 number).0 =
    c.push_actions.ensures.lines ∙ ap (λ (l : List Line). l ++ (actions 250 number).0) (c.in_ok-push_first_lines.ensures.lines ∙ ap (λ (l : List Line). l ++ first_lines app) c.in_ok-lines.ensures.items) in
    record {
      calls = omega (arith, ap (λ (l : List Line). length l) all, lines_few app number);
      bytes = omega (arith, ap (λ (l : List Line). (account_of l).bytes) all, lines_light app number c.requires);
    }

pub returns-clause-app : goal.returns-clause-app
returns-clause-app c =
    c.of_lines.ensures
    ∙ application_pushed c.args.app c.args.generator.now c.in_ok-name.name c.in_ok-lines.lines.items c.push_first_lines.new.lines.items c.push_actions.new.lines.items c.in_ok-name.ensures c.requires
    c.in_ok-lines.ensures.items c.in_ok-push_first_lines.ensures.lines c.push_actions.ensures.lines
