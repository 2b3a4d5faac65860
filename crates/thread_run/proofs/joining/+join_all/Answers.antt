use Rattle.std.proofs.Common.{sym, subst}
use Rattle.thread_run.specs.Whole.{whole}
use Rattle.thread_run.proofs.Joins.{begins-longer, begins-trans, joined-one, joined-one_at_tables}
use Rattle.thread_run.specs.Mains.{IsJoined, AreJoined}
use Rattle.thread_run.proofs.joining.+join_all.Goals as goal

pub returns-clause-bus : goal.returns-clause-bus
returns-clause-bus t c =
    subst (λ ds. IsJoined (whole c.args.shared) c.args.shared.bus.now ds c.join.new.main) (sym c.in-Some.ensures.items)
    (joined-one (whole c.args.shared) c.args.shared.bus.now c.take_last_done.new.dones.items c.in-Some.done c.join_all.new.bus_main c.join.new.main
    c.join_all.ensures.bus c.join.ensures.lock c.join.ensures.seen c.join.ensures.apps c.join.ensures.ended)

pub returns-clause-seen : goal.returns-clause-seen
returns-clause-seen t c =
    begins-trans c.args.bus_main.now.seen c.join_all.new.bus_main.seen c.join.new.main.seen c.join_all.ensures.seen
    (begins-longer c.join_all.new.bus_main.seen c.in-Some.done.port.seen c.join.new.main.seen c.join.ensures.seen).0

pub returns-clause-tables : goal.returns-clause-tables
returns-clause-tables t c =
    subst (λ ds. AreJoined (whole c.args.shared) c.args.shared.tables.now ds c.join-2.new.main) (sym c.in-Some.ensures.items)
    (joined-one_at_tables (whole c.args.shared) c.args.shared.tables.now c.take_last_done.new.dones.items c.in-Some.done c.join_all.new.tables_main c.join-2.new.main
    c.join_all.ensures.tables c.join-2.ensures.lock c.join-2.ensures.seen c.join-2.ensures.apps c.join-2.ensures.ended)
