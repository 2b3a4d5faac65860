use Rattle.std.proofs.Common.{◌∙◌}
use Rattle.thread_run.proofs.Joins.{bus-joined, closed-receipts, closed-run, tables-joined}
use Rattle.thread_run.proofs.joining.close_all.Goals as goal

pub close-requires-clause-joined : goal.close-requires-clause-joined
close-requires-clause-joined c =
    bus-joined c.args.script.now c.args.opened.bus c.args.opened.tables c.args.dones.items c.requires.dones c.requires.all c.join_all.new.bus_main c.join_all.ensures.bus

pub close-requires-2-clause-joined : goal.close-requires-2-clause-joined
close-requires-2-clause-joined c =
    tables-joined c.args.script.now c.args.opened.bus c.args.opened.tables c.args.dones.items c.requires.dones c.requires.all c.join_all.new.tables_main c.join_all.ensures.tables

pub returns-clause-run : goal.returns-clause-run
returns-clause-run c =
    closed-run c.args.script.now c.args.opened.bus c.args.opened.tables c.args.dones.items c.requires.dones c.join_all.new.bus_main c.join_all.new.tables_main
    c.join_all.ensures.bus c.join_all.ensures.tables c.close.result c.close-2.result c.close.ensures.limits c.close.ensures.budgets c.close.ensures.legal c.close.ensures.extends
    c.close.ensures.ended c.close-2.ensures.limits c.close-2.ensures.budgets c.close-2.ensures.legal c.close-2.ensures.extends c.close-2.ensures.ended c.requires.all

pub returns-clause-receipts : goal.returns-clause-receipts
returns-clause-receipts c =
    c.join_all.ensures.receipts
    ∙ closed-receipts c.args.script.now c.args.opened.bus c.args.opened.tables c.args.dones.items c.requires.dones c.join_all.new.bus_main c.join_all.new.tables_main
    c.join_all.ensures.bus c.join_all.ensures.tables c.close.result c.close-2.result c.close.ensures.limits c.close.ensures.budgets c.close.ensures.legal c.close.ensures.extends
    c.close.ensures.ended c.close-2.ensures.limits c.close-2.ensures.budgets c.close-2.ensures.legal c.close-2.ensures.extends c.close-2.ensures.ended c.requires.all
