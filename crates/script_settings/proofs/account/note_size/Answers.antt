use Rattle.std.proofs.Common.{arith}
use Rattle.script_settings.proofs.LineLemmas.{sizes_default}
use Rattle.script_settings.proofs.account.note_size.Goals as goal

pub returns-in_default : goal.returns-in_default
returns-in_default c = sizes_default c.args.sizes.now c.args.line.now (λ buf size e. grind arith)
