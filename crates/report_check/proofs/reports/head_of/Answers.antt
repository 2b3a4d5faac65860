use Rattle.std.proofs.Common.{◌≡◌, ◌++◌, codes, decimal, ap, sym, ◌∙◌, arith}
use Rattle.std.proofs.lemmas.Bool.Decides.{nat_tests}
use Rattle.std.proofs.lemmas.Fmt.{decimal_digit}
use Rattle.fsw_base.specs.Limits.{Limits}
use Rattle.report_check.proofs.reports.head_of.Goals as goal

pub returns-then-config-eq2 : goal.returns-then-config-eq2
returns-then-config-eq2 c =
    let version : 2 ≡ c.args.script.now.limits.version = sym c.if-config-eq2.true ∙ ap (λ (l : Limits). l.version) c.config.ensures in
    ap (λ digits. codes "fsw " ++ digits ++ codes "\nbus\n") (sym (decimal_digit 2 (omega arith)) ∙ ap decimal version)

pub returns-else-config-eq2 : goal.returns-else-config-eq2
returns-else-config-eq2 c =
    let same : c.config.result.now.version ≡ c.args.script.now.limits.version = ap (λ (l : Limits). l.version) c.config.ensures in
    let range = c.recall_ranges.ensures.text.version in
    let other = c.if-config-eq2.false in
    let version : 1 ≡ c.args.script.now.limits.version = grind (arith, nat_tests) in
    ap (λ digits. codes "fsw " ++ digits ++ codes "\nbus\n") (sym (decimal_digit 1 (omega arith)) ∙ ap decimal version)
