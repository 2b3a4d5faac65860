use Rattle.std.proofs.Common.{map, ap, ◌∙◌}
use Rattle.host_serve.specs.Serve.{OnThreads, made_through}
use Rattle.host_report.specs.declared.reporting.Part.TheVariants.{Whole}
use Rattle.host_serve.proofs.Ends.{ends-run}
use Rattle.host_serve.proofs.serving.serve_script_on_threads.Goals as goal

pub returns-in-Ok-clause-end : goal.returns-in-Ok-clause-end
returns-in-Ok-clause-end g c =
    let run = c.in-Ok.ensures in
    ends-run c.tell_run.result OnThreads Whole c.args.script.now c.in-Ok.field-0.bus c.in-Ok.field-0.tables c.as_slice.result.now
    (made_through c.args.sink.now c.args.audit.now) (made_through c.tell_run.new.sink c.tell_run.new.audit)
    run.limits run.table_limits run.apps run.table_apps run.left
    (ap (map (λ list. list.receipts)) c.as_slice.ensures.value ∙ run.receipts) c.tell_run.ensures.end
