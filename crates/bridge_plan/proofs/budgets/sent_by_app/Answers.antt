use Rattle.std.proofs.Common.{fold, ap, ◌∙◌, arith}
use Rattle.script_settings.specs.declared.account.Account.{Account}
use Rattle.script_settings.specs.Accounts.{with_line}
use Rattle.app_script.proofs.LineCounts.{counted_none}
use Rattle.app_script.proofs.PartLemmas.{waits_few, buffers_few}
use Rattle.bridge_plan.specs.Sends.{sent_from}
use Rattle.bridge_plan.proofs.SendLaws.{none_before, account_on, charge_within, line_sent}
use Rattle.bridge_plan.proofs.budgets.sent_by_app.Goals as goal

pub loop-i-init : goal.loop-i-init
loop-i-init c =
    let lines = c.args.app.now.lines in
    let new = c.new-account.ensures in
    record {
      sent = none_before (sent_from c.new-account.result lines) ∙ ap (λ a. sent_from a lines) new;
      left = ap (λ a. fold with_line a lines) new ∙ counted_none lines;
      calls = ap (λ (a : Account). a.calls) new;
      waits = omega (arith, ap (λ (a : Account). a.waits) new);
      buffers = omega (arith, ap (λ (a : Account). a.buffers) new);
      lines = omega arith;
      bytes = omega arith;
    }

-- no line is heavier than all
pub overflow_cast-charge : goal.overflow_cast-charge
overflow_cast-charge c =
    let within = charge_within c.args.app.now.lines c.loop-i.i c.line-line.result.now c.loop-i.account c.line-line.ensures c.loop-i.invariant.left in
    omega (arith, within, c.requires, c.charge-charge.ensures)

pub overflow_add-sends-in-loop-i : goal.overflow_add-sends-in-loop-i
overflow_add-sends-in-loop-i c =
    let within = charge_within c.args.app.now.lines c.loop-i.i c.line-line.result.now c.loop-i.account c.line-line.ensures c.loop-i.invariant.left in
    omega (arith, within, c.requires, c.charge-charge.ensures, c.sent_by-sent.ensures.bytes, c.loop-i.invariant.bytes, c.loop-i-test.true, c.lines-i-end.ensures.few)

pub count-requires-clause-bytes : goal.count-requires-clause-bytes
count-requires-clause-bytes c =
    let within = charge_within c.args.app.now.lines c.loop-i.i c.line-line.result.now c.loop-i.account c.line-line.ensures c.loop-i.invariant.left in
    omega (arith, within, c.requires, c.charge-charge.ensures)

pub loop-i-preserved : goal.loop-i-preserved
loop-i-preserved c =
    let lines = c.args.app.now.lines in
    let line = c.line-line.result.now in
    let inv = c.loop-i.invariant in
    let count = c.count.ensures in
    record {
      sent = line_sent lines c.loop-i.i line c.loop-i.account c.count.new.self c.loop-i.sends c.sent_by-sent.result _ c.line-line.ensures count c.sent_by-sent.ensures.sent inv.sent;
      left = account_on lines c.loop-i.i line c.loop-i.account c.count.new.self c.line-line.ensures count inv.left;
      calls = omega (arith, ap (λ (a : Account). a.calls) count, inv.calls);
      waits = omega (arith, ap (λ (a : Account). a.waits) count, inv.waits, waits_few line);
      buffers = omega (arith, ap (λ (a : Account). a.buffers) count, inv.buffers, buffers_few line);
      lines = omega (arith, c.sent_by-sent.ensures.lines, inv.lines);
      bytes = omega (arith, ap (λ (a : Account). a.bytes) count, c.sent_by-sent.ensures.bytes, c.charge-charge.ensures, inv.bytes);
    }
