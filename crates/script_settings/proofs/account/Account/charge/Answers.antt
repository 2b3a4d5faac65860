use Rattle.std.proofs.Common.{arith}
use Rattle.script_settings.proofs.LineLemmas.{charge_default}
use Rattle.script_settings.proofs.account.Account.charge.Goals as goal

pub returns-in_default : goal.returns-in_default
returns-in_default c = charge_default c.args.self.now c.args.line.now (record {
  create = λ pipe depth name e. grind arith;
  find = λ pipe name e. grind arith;
  send = λ id size fill inc e. grind arith;
  sendraw = λ bytes inc e. grind arith;
  xmit = λ buf inc e. grind arith;
  event = λ id kind text e. grind arith;
  treg = λ handle name size option rules e. grind arith;
  tshare = λ handle name e. grind arith;
  tstage = λ handle offset content e. grind arith;
  tload = λ handle offset content e. grind arith;
})
