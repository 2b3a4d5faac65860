use Rattle.std.proofs.Common.{arith}
use Rattle.script_settings.proofs.LineLemmas.{buffers_default}
use Rattle.script_settings.proofs.account.buffers.Goals as goal

pub returns-in_default-clause-buffers : goal.returns-in_default-clause-buffers
returns-in_default-clause-buffers c = buffers_default c.args.line.now (λ buf size e. grind arith)
