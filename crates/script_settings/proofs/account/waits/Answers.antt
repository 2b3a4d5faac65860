use Rattle.std.proofs.Common.{arith}
use Rattle.script_settings.proofs.LineLemmas.{waits_default}
use Rattle.script_settings.proofs.account.waits.Goals as goal

pub returns-in_default-clause-waits : goal.returns-in_default-clause-waits
returns-in_default-clause-waits c = waits_default c.args.line.now (λ pipe e. grind arith)
