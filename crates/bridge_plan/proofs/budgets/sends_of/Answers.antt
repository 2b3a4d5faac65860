use Rattle.std.proofs.Common.{ap, ◌∙◌, arith}
use Rattle.app_script.specs.ScriptRanges.{all_calls, all_bytes}
use Rattle.bridge_plan.specs.Sends.{sends_of}
use Rattle.bridge_plan.proofs.SendLaws.{none_before, is_next, calls_left, bytes_left, app_sent, apps_sent}
use Rattle.bridge_plan.proofs.budgets.sends_of.Goals as goal

pub loop-app-init : goal.loop-app-init
loop-app-init c =
    let calls = ap all_calls c.applications-apps.ensures in
    let bytes = ap all_bytes c.applications-apps.ensures in
    record {
      sent = none_before (sends_of c.applications-apps.result.now);
      lines = omega (arith, calls, c.recall_ranges.ensures.text.calls);
      bytes = omega (arith, calls, bytes, c.recall_ranges.ensures.text.calls, c.recall_ranges.ensures.text.bytes);
      light = omega (arith, bytes, c.recall_ranges.ensures.text.bytes);
    }

pub sent_by_app-sent-requires : goal.sent_by_app-sent-requires
sent_by_app-sent-requires c =
    let next = is_next c.applications-apps.result.now c.loop-app.app-index c.app-item.result c.app-item.is c.loop-app-test.true in
    omega (arith, bytes_left c.applications-apps.result.now c.loop-app.app-index c.app-item.result next, c.loop-app.invariant.light)

pub overflow_add-sends : goal.overflow_add-sends
overflow_add-sends c =
    let next = is_next c.applications-apps.result.now c.loop-app.app-index c.app-item.result c.app-item.is c.loop-app-test.true in
    omega (arith, calls_left c.applications-apps.result.now c.loop-app.app-index c.app-item.result next, c.sent_by_app-sent.ensures.lines, c.loop-app.invariant.lines)

pub overflow_add-sends-in-loop-app : goal.overflow_add-sends-in-loop-app
overflow_add-sends-in-loop-app c =
    let next = is_next c.applications-apps.result.now c.loop-app.app-index c.app-item.result c.app-item.is c.loop-app-test.true in
    let calls = calls_left c.applications-apps.result.now c.loop-app.app-index c.app-item.result next in
    let bytes = bytes_left c.applications-apps.result.now c.loop-app.app-index c.app-item.result next in
    omega (arith, calls, bytes, c.sent_by_app-sent.ensures.bytes, c.loop-app.invariant.bytes)

pub loop-app-preserved : goal.loop-app-preserved
loop-app-preserved c =
    let apps = c.applications-apps.result.now in
    let next = is_next apps c.loop-app.app-index c.app-item.result c.app-item.is c.loop-app-test.true in
    let calls = calls_left apps c.loop-app.app-index c.app-item.result next in
    let bytes = bytes_left apps c.loop-app.app-index c.app-item.result next in
    record {
      sent = app_sent apps c.loop-app.app-index c.app-item.result c.loop-app.sends c.sent_by_app-sent.result _ c.sent_by_app-sent.ensures.sent next c.loop-app.invariant.sent;
      lines = omega (arith, calls, c.sent_by_app-sent.ensures.lines, c.loop-app.invariant.lines);
      bytes = omega (arith, calls, bytes, c.sent_by_app-sent.ensures.bytes, c.loop-app.invariant.bytes);
      light = omega (arith, bytes, c.loop-app.invariant.light);
    }

pub returns-clause-sent : goal.returns-clause-sent
returns-clause-sent c =
    apps_sent c.applications-apps.result.now c.loop-app.app-index c.loop-app.sends _ c.loop-app-test.false c.loop-app.invariant.sent ∙ ap sends_of c.applications-apps.ensures

pub returns-clause-lines : goal.returns-clause-lines
returns-clause-lines c = omega (arith, c.loop-app.invariant.lines)

pub returns-clause-bytes : goal.returns-clause-bytes
returns-clause-bytes c = omega (arith, c.loop-app.invariant.bytes)
