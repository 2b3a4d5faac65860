use Rattle.std.proofs.Common.{length, ap, sym, ◌∙◌}
use Rattle.bus_service.specs.Ports.{MainView}
use Rattle.sb_calls.specs.Core.{Core}
use Rattle.thread_run.specs.Whole.{whole}
use Rattle.thread_run.proofs.FreshPorts.{met-main, quiet-more, same-work}
use Rattle.thread_run.proofs.meeting.+meet_works.Goals as goal

pub meet-requires-clause-main : goal.meet-requires-clause-main
meet-requires-clause-main g t c = ap (λ (m : MainView). m.lock) c.meet_works.ensures.main ∙ c.requires.main

pub meet-requires-clause-none : goal.meet-requires-clause-none
meet-requires-clause-none g t c = ap (λ (m : MainView). m.ended) c.meet_works.ensures.main ∙ c.requires.none

pub meet-requires-clause-port : goal.meet-requires-clause-port
meet-requires-clause-port g t c = c.in-Some.ensures.may.ports.bus_lock

pub meet-requires-clause-limits : goal.meet-requires-clause-limits
meet-requires-clause-limits g t c =
    ap (λ (core : Core). core.limits) c.in-Some.ensures.may.before ∙ sym (ap (λ (m : MainView). m.seen.limits) c.meet_works.ensures.main ∙ c.requires.limits)

pub meet-requires-clause-budgets : goal.meet-requires-clause-budgets
meet-requires-clause-budgets g t c =
    ap (λ (core : Core). core.log.budgets) c.in-Some.ensures.may.before ∙ sym (ap (λ (m : MainView). m.seen.log.budgets) c.meet_works.ensures.main ∙ c.requires.budgets)

pub note_work-requires-clause-work : goal.note_work-requires-clause-work
note_work-requires-clause-work g t c =
    same-work (whole c.args.shared) c.args.shared.bus.now c.args.shared.tables.now c.in-Some.work (length c.take_last.new.works.items) (length c.meet_works.new.works.items)
    c.meet.new.port c.meet.ensures.port c.meet_works.ensures.all c.in-Some.ensures.number c.in-Some.ensures.may

pub returns-clause-main : goal.returns-clause-main
returns-clause-main g t c =
    met-main (whole c.args.shared) c.meet_works.new.bus_main c.meet.new.main c.in-Some.work.port c.in-Some.ensures.may.before c.meet.ensures.main c.meet.ensures.seen
    ∙ c.meet_works.ensures.main

pub returns-clause-quiet : goal.returns-clause-quiet
returns-clause-quiet g t c =
    quiet-more (whole c.args.shared) c.args.shared.bus.now c.args.shared.tables.now c.in-Some.work (length c.take_last.new.works.items) (length c.args.works.now.items) c.meet_works.new.bus_main c.meet.new.main
    (met-main (whole c.args.shared) c.meet_works.new.bus_main c.meet.new.main c.in-Some.work.port c.in-Some.ensures.may.before c.meet.ensures.main c.meet.ensures.seen)
    c.in-Some.ensures.some c.in-Some.ensures.number c.in-Some.ensures.may c.meet.ensures.own c.meet_works.ensures.quiet
