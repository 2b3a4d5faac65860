use Rattle.std.proofs.Common.{◌-◌, ◌≤◌, [], set, ap, refl, subst, ◌∙◌}
use Rattle.std.specs.Vec.{with_item}
use Rattle.fsw_base.specs.Limits.{limits_of}
use Rattle.fsw_base.specs.EventDesk.{unregistered}
use Rattle.lend_block.specs.Loan.{LentBytes}
use Rattle.buf_desc.specs.Held.{Holding}
use Rattle.bus_words.specs.declared.calls.BusAnswer.TheVariants.{Done}
use Rattle.bus_words.specs.declared.history.Call.TheVariants.{End}
use Rattle.bus_counts.specs.Records.{Recordings, peaks_raised}
use Rattle.bus_counts.proofs.Leaves.{ended_left}
use Rattle.bus_messages.specs.Store.{Store}
use Rattle.bus_core.specs.declared.activities.Activity.TheVariants as activities
use Rattle.bus_core.specs.Inside.{means}
use Rattle.bus_core.specs.Rows.{in_use_at}
use Rattle.bus_core.proofs.Actives.{known_here}
use Rattle.bus_core.proofs.CallLaws.{acts_seen, seen_keeps}
use Rattle.bus_core.proofs.Bags.{others_left, still_blocks}
use Rattle.bus_core.proofs.Ends.{ended_keeps, ended_made, no_view, both_left, both_out, both_sizes, both_room, first_same, then_views}
use Rattle.bus_core.proofs.plain.PlainBus.end.Goals as goal

pub invariant_of-self : goal.invariant_of-self
invariant_of-self g c =
    let a = c.self.inside in
    let mid = c.end_pipes.new.store in
    let next = c.release_all.new.self in
    let acts = with_item a.activities (c.get.result - 1) activities.Ended in
    let order = ended_keeps a acts next c.end.new.self c.args.app
    (ap (λ n. set a.activities.items (n - 1) activities.Ended) c.get.ensures.value)
    (both_left a.store mid next c.args.app c.end_pipes.ensures.after c.end_pipes.ensures.account c.release_all.ensures.after)
    (both_out a.store mid next c.args.app c.end_pipes.ensures.after c.end_pipes.ensures.account c.release_all.ensures.after)
    c.self.invariant.order c.recall_order.ensures (subst (λ n. 1 ≤ n) c.get.ensures.value c.get.ensures.first) (known_here a c.args.self.now c.args.app End c.self.view_is c.requires.may) in
    seen_keeps (record a { activities = acts; store = next; pools = c.end.new.self; records = c.see.new.records }) c.unregister.new.self order c.see.ensures.seen c.see.ensures.held

pub returns-clause-does : goal.returns-clause-does
returns-clause-does g c =
    let a = c.self.inside in
    let w = means a in
    let mid = c.end_pipes.new.store in
    let next = c.release_all.new.self in
    let acts = with_item a.activities (c.get.result - 1) activities.Ended in
    let ends = ap (λ n. set a.activities.items (n - 1) activities.Ended) c.get.ensures.value in
    let left = both_left a.store mid next c.args.app c.end_pipes.ensures.after c.end_pipes.ensures.account c.release_all.ensures.after in
    let out = both_out a.store mid next c.args.app c.end_pipes.ensures.after c.end_pipes.ensures.account c.release_all.ensures.after in
    let order = ended_keeps a acts next c.end.new.self c.args.app ends left out c.self.invariant.order c.recall_order.ensures
    (subst (λ n. 1 ≤ n) c.get.ensures.value c.get.ensures.first) (known_here a c.args.self.now c.args.app End c.self.view_is c.requires.may) in
    let told : Recordings = record a.records { events = unregistered a.records.events c.args.app } in
    acts_seen a next acts c.end.new.self c.args.self.now c.args.app End Done c.self.view_is
    (ended_made a acts next c.end.new.self c.args.app ends left out c.end.ensures.after) told c.see.new.records
    (ended_left (limits_of a.config) w.bus c.args.app Done (means (record a { activities = acts; store = next; pools = c.end.new.self })).bus)
    (c.see.ensures.seen ∙ ap (λ r. peaks_raised r (in_use_at next)) c.unregister.ensures) order.pool c.see.ensures.held

pub returns-clause-empty : goal.returns-clause-empty
returns-clause-empty g c =
    c.release_all.ensures.empty
    ∙ ap (λ (h : Holding LentBytes). let v : Holding LentBytes = record h { buffers = [] } in v)
    (c.end_pipes.ensures.buffers
    ∙ ap (λ l. let v : Holding LentBytes = record c.args.held.now { views = l } in v)
    (no_view c.self.inside.store c.end_pipes.new.store c.args.app c.end_pipes.new.held (ap (λ (o : Store). o.pipes) c.end_pipes.ensures.after) c.end_pipes.ensures.bag))

pub returns-clause-other_bags : goal.returns-clause-other_bags
returns-clause-other_bags g c =
    let a = c.self.inside in
    let mid = c.end_pipes.new.store in
    let next = c.release_all.new.self in
    others_left a c.args.self.now c.self.view_is c.self.invariant.order
    (record a { activities = with_item a.activities (c.get.result - 1) activities.Ended; store = next; pools = c.end.new.self; records = c.see.new.records }) refl
    (both_room a.store mid next c.args.app c.end_pipes.ensures.after c.end_pipes.ensures.account c.release_all.ensures.after) c.args.app
    (both_sizes a.store mid next c.args.app c.end_pipes.ensures.after c.end_pipes.ensures.account c.release_all.ensures.after)
    (λ other bag apart holds. then_views a.store mid next c.args.app c.end_pipes.ensures.after c.end_pipes.ensures.account c.release_all.ensures.after other bag (c.end_pipes.ensures.other_bags other bag apart holds))
    (λ other bag apart holds.
    c.release_all.ensures.other_bags other bag apart
    (still_blocks a.store mid other bag (first_same a.store mid next c.args.app c.end_pipes.ensures.after c.end_pipes.ensures.account c.release_all.ensures.after) holds))
