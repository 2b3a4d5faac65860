use Rattle.std.proofs.Common.{◌+◌, drop, fold, ap, ◌∙◌, arith}
use Rattle.script_settings.specs.declared.account.Account.{Account}
use Rattle.script_settings.specs.Accounts.{with_line}
use Rattle.app_script.proofs.PartLemmas.{waits_few, buffers_few}
use Rattle.app_script.proofs.LineCounts.{counted_none, counted_more, counted_all, counted_within}
use Rattle.app_script.proofs.app.account_of.Goals as goal

pub loop-line-init : goal.loop-line-init
loop-line-init c = record {
  left = ap (λ a. fold with_line a c.args.lines.now) c.new-account.ensures ∙ counted_none c.args.lines.now;
  calls = ap (λ (a : Account). a.calls) c.new-account.ensures;
  waits = omega (arith, ap (λ (a : Account). a.waits) c.new-account.ensures);
  buffers = omega (arith, ap (λ (a : Account). a.buffers) c.new-account.ensures);
}

pub overflow_cast-charge : goal.overflow_cast-charge
overflow_cast-charge c =
    let within = counted_within c.args.lines.now c.loop-line.line-index c.line-item.result c.loop-line.account c.line-item.is c.loop-line-test.true c.loop-line.invariant.left in
    omega (arith, within, c.requires.bytes, c.charge-charge.ensures)

pub count-requires-clause-bytes : goal.count-requires-clause-bytes
count-requires-clause-bytes c =
    let within = counted_within c.args.lines.now c.loop-line.line-index c.line-item.result c.loop-line.account c.line-item.is c.loop-line-test.true c.loop-line.invariant.left in
    omega (arith, within, c.requires.bytes, c.charge-charge.ensures)

pub loop-line-preserved : goal.loop-line-preserved
loop-line-preserved c =
    let account = c.count.ensures in
    let line = c.line-item.result in
    record {
      left = ap (λ a. fold with_line a (drop (c.loop-line.line-index + 1) c.args.lines.now)) account
          ∙ counted_more c.args.lines.now c.loop-line.line-index line c.loop-line.account c.line-item.is c.loop-line-test.true c.loop-line.invariant.left;
      calls = omega (arith, ap (λ (a : Account). a.calls) account, c.loop-line.invariant.calls);
      waits = omega (arith, ap (λ (a : Account). a.waits) account, c.loop-line.invariant.waits, waits_few line);
      buffers = omega (arith, ap (λ (a : Account). a.buffers) account, c.loop-line.invariant.buffers, buffers_few line);
    }

pub returns-clause-account : goal.returns-clause-account
returns-clause-account c = counted_all c.args.lines.now c.loop-line.line-index c.loop-line.account c.loop-line-test.false c.loop-line.invariant.left
