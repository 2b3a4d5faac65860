use Rattle.std.proofs.Common.{◌≡◌, suc, ◌+◌, ◌-◌, ◌≤◌, ◌∷◌, Some, None, All, add-one, refl, ap, sym, ◌∙◌, subst, arith, drop, length}
use Rattle.std.proofs.lemmas.Option.{slice_get_within}
use Rattle.app_script.specs.Ranges.{IsLineInRange}
use Rattle.app_run.specs.Lines.{made_size, AreAsked}
use Rattle.app_run.specs.Runners.{Progress}
use Rattle.app_run.specs.Inside.{progress_in, receipts_to_come}
use Rattle.app_script.specs.Script.{app_at}
use Rattle.script_runs.specs.TableTrace.{table_call_of}
use Rattle.script_runs.specs.Trace.{call_of}
use Rattle.script_runs.specs.Written.{written_by}
use Rattle.sb_calls.specs.Core.{state_of}
use Rattle.app_calls.specs.Callers.{written_in}
use Rattle.app_run.proofs.TurnLaws.{allowed-line, may-run, drop-next, get_at, ran-line, ran-local, run-same, run-bag, run-write, run-remember, run-remember_held, wrote-same, wrote-held, wrote-small, waits-or-got}
use Rattle.app_run.proofs.TableTurns.{allowed-table_line, few-table_receipts, may-run_tables, ran-table_line, table_run-held, table_run-same, table_run-small}
use Rattle.app_run.proofs.runner.Runner.run_next.Goals as goal

pub overflow_add-self : goal.overflow_add-self
overflow_add-self g c = omega (arith, c.self.invariant.few, slice_get_within (app_at c.self.inside.script.now c.self.inside.app).lines c.self.inside.next c.line-line.result.now c.line-line.ensures)

pub run_line-requires-clause-may : goal.run_line-requires-clause-may
run_line-requires-clause-may g c =
    let a = c.self.inside in
    let all = (app_at a.script.now a.app).lines in
    let line = c.line-line.result.now in
    let caller = g.C.Calls.caller c.args.calls.now in
    let stands = c.requires.may.stands.bus in
    let next : drop a.next all ≡ line ∷ drop (suc a.next) all = drop-next all a.next line c.line-line.ensures in
    may-run c.args.self.now caller line (drop (suc a.next) all) (call_of a.registers (written_in caller.bag) line) c.requires.may
    c.requires.active (subst (λ p. p.running.lines ≡ line ∷ drop (suc a.next) all) c.self.view_is next)
    (allowed-line a.registers (written_in caller.bag) (state_of caller.core).numbers_given stands.asked line
    (subst (λ (p : Progress). AreAsked p.running.registers.buffers (written_in caller.bag) (state_of caller.core).numbers_given stands.asked) (sym c.self.view_is) stands.buffers)
    (get_at IsLineInRange all a.next line c.line-line.ensures c.self.invariant.ranges))

pub run_line-requires-clause-range : goal.run_line-requires-clause-range
run_line-requires-clause-range g c =
    get_at IsLineInRange (app_at c.self.inside.script.now c.self.inside.app).lines c.self.inside.next c.line-line.result.now c.line-line.ensures c.self.invariant.ranges

pub run_line-requires-clause-message : goal.run_line-requires-clause-message
run_line-requires-clause-message g c =
    get_at (λ line. made_size line ≤ length c.self.inside.made.items) (app_at c.self.inside.script.now c.self.inside.app).lines c.self.inside.next c.line-line.result.now
    c.line-line.ensures c.self.invariant.made

pub run_table_line-requires-clause-may : goal.run_table_line-requires-clause-may
run_table_line-requires-clause-may g c =
    let a = c.self.inside in
    let all = (app_at a.script.now a.app).lines in
    let line = c.line-line.result.now in
    let caller = g.C.Calls.caller in
    let next : drop a.next all ≡ line ∷ drop (suc a.next) all = drop-next all a.next line c.line-line.ensures in
    may-run_tables c.args.self.now (caller c.args.calls.now) (caller c.run_line.new.calls) line (drop (suc a.next) all) (call_of a.registers (written_in (caller c.args.calls.now).bag) line)
    (table_call_of a.handles line) c.requires.may (subst (λ p. p.running.lines ≡ line ∷ drop (suc a.next) all) c.self.view_is next) c.in-None.ensures.call
    (allowed-table_line a.handles line (get_at IsLineInRange all a.next line c.line-line.ensures c.self.invariant.ranges))

pub run_table_line-requires-clause-range : goal.run_table_line-requires-clause-range
run_table_line-requires-clause-range g c =
    get_at IsLineInRange (app_at c.self.inside.script.now c.self.inside.app).lines c.self.inside.next c.line-line.result.now c.line-line.ensures c.self.invariant.ranges

pub run_table_line-requires-clause-made : goal.run_table_line-requires-clause-made
run_table_line-requires-clause-made g c =
    subst (λ n. made_size c.line-line.result.now ≤ n) (sym c.in-None.ensures.message)
    (get_at (λ line. made_size line ≤ length c.self.inside.made.items) (app_at c.self.inside.script.now c.self.inside.app).lines c.self.inside.next c.line-line.result.now
    c.line-line.ensures c.self.invariant.made)

pub invariant_of-self : goal.invariant_of-self
invariant_of-self g c =
    let a = c.self.inside in
    let active : a.waits_on ≡ None = subst (λ (p : Progress). p.waits_on ≡ None) (sym c.self.view_is) c.requires.active in
    let room = subst (λ w. receipts_to_come (length (app_at a.script.now a.app).lines - a.next) w ≤ a.receipts.room) active c.self.invariant.room in
    let there = slice_get_within (app_at c.self.inside.script.now c.self.inside.app).lines c.self.inside.next c.line-line.result.now c.line-line.ensures in
    let few = waits-or-got a.registers c.line-line.result.now c.in-Some.answer in
    record {
      known = c.self.invariant.known;
      few = c.self.invariant.few;
      place = omega (arith, there);
      ranges = c.self.invariant.ranges;
      made = subst (λ n. All (λ line. made_size line ≤ n) (app_at a.script.now a.app).lines) (sym c.run_line.ensures.message) c.self.invariant.made;
      room = subst (λ w. receipts_to_come (length (app_at a.script.now a.app).lines - (a.next + 1)) w ≤ c.take_got.new.receipts.room) (sym c.pipe_waited_for-self-inside.ensures)
          (omega (arith, room, there, few, c.take_got.ensures.room));
    }

pub invariant_of-self-in-Some-run_table_line : goal.invariant_of-self-in-Some-run_table_line
invariant_of-self-in-Some-run_table_line g c =
    let a = c.self.inside in
    let active : a.waits_on ≡ None = subst (λ (p : Progress). p.waits_on ≡ None) (sym c.self.view_is) c.requires.active in
    let room = subst (λ w. receipts_to_come (length (app_at a.script.now a.app).lines - a.next) w ≤ a.receipts.room) active c.self.invariant.room in
    let there = slice_get_within (app_at c.self.inside.script.now c.self.inside.app).lines c.self.inside.next c.line-line.result.now c.line-line.ensures in
    let few = few-table_receipts c.in-Some-run_table_line.answer in
    record {
      known = c.self.invariant.known;
      few = c.self.invariant.few;
      place = omega (arith, there);
      ranges = c.self.invariant.ranges;
      made = subst (λ n. All (λ line. made_size line ≤ n) (app_at a.script.now a.app).lines) (sym (c.run_table_line.ensures.made ∙ c.run_line.ensures.message)) c.self.invariant.made;
      room = subst (λ w. receipts_to_come (length (app_at a.script.now a.app).lines - (a.next + 1)) w ≤ c.take_address.new.receipts.room) (sym active)
          (omega (arith, room, there, few, c.take_address.ensures.room));
    }

pub invariant_of-self-in-None-run_table_line : goal.invariant_of-self-in-None-run_table_line
invariant_of-self-in-None-run_table_line g c =
    let a = c.self.inside in
    let active : a.waits_on ≡ None = subst (λ (p : Progress). p.waits_on ≡ None) (sym c.self.view_is) c.requires.active in
    let room = subst (λ w. receipts_to_come (length (app_at a.script.now a.app).lines - a.next) w ≤ a.receipts.room) active c.self.invariant.room in
    let there = slice_get_within (app_at c.self.inside.script.now c.self.inside.app).lines c.self.inside.next c.line-line.result.now c.line-line.ensures in
    record {
      known = c.self.invariant.known;
      few = c.self.invariant.few;
      place = omega (arith, there);
      ranges = c.self.invariant.ranges;
      made = subst (λ n. All (λ line. made_size line ≤ n) (app_at a.script.now a.app).lines) (sym (c.run_table_line.ensures.made ∙ c.run_line.ensures.message)) c.self.invariant.made;
      room = subst (λ w. receipts_to_come (length (app_at a.script.now a.app).lines - (a.next + 1)) w ≤ c.show.new.receipts.room) (sym active)
          (omega (arith, room, there, c.show.ensures.room));
    }

pub returns-in-Some-clause-turn : goal.returns-in-Some-clause-turn
returns-in-Some-clause-turn g c =
    let caller = g.C.Calls.caller in
    let a = c.self.inside in
    let all = (app_at a.script.now a.app).lines in
    let line = c.line-line.result.now in
    let next : drop a.next all ≡ line ∷ drop (a.next + 1) all = drop-next all a.next line c.line-line.ensures ∙ ap (λ n. line ∷ drop n all) (sym (add-one a.next)) in
    ran-line (progress_in a) c.args.self.now (caller c.args.calls.now) (caller c.run_line.new.calls) line (drop (a.next + 1) all) c.in-Some.answer
    c.note.new.self c.pipe_waited_for-self-inside.result c.take_got.new.receipts.receipts (call_of a.registers (written_in (caller c.args.calls.now).bag) line)
    c.self.view_is c.requires.may c.requires.active next
    (get_at IsLineInRange all a.next line c.line-line.ensures c.self.invariant.ranges)
    refl c.in-Some.ensures.call (c.take_got.ensures.receipts (written_in (caller c.args.calls.now).bag)) c.note.ensures c.pipe_waited_for-self-inside.ensures

pub returns-in-Some-run_table_line-clause-turn : goal.returns-in-Some-run_table_line-clause-turn
returns-in-Some-run_table_line-clause-turn g c =
    let caller = g.C.Calls.caller in
    let a = c.self.inside in
    let all = (app_at a.script.now a.app).lines in
    let line = c.line-line.result.now in
    let next : drop a.next all ≡ line ∷ drop (a.next + 1) all = drop-next all a.next line c.line-line.ensures ∙ ap (λ n. line ∷ drop n all) (sym (add-one a.next)) in
    ran-table_line (progress_in a) c.args.self.now (caller c.args.calls.now) (caller c.run_line.new.calls) (caller c.run_table_line.new.calls) line (drop (a.next + 1) all)
    c.in-Some-run_table_line.answer c.note-in-Some-run_table_line.new.self c.take_address.new.receipts.receipts
    (call_of a.registers (written_in (caller c.args.calls.now).bag) line) (table_call_of a.handles line)
    c.self.view_is c.requires.may c.requires.active next
    (get_at IsLineInRange all a.next line c.line-line.ensures c.self.invariant.ranges)
    refl c.in-None.ensures.call refl c.in-Some-run_table_line.ensures.call c.take_address.ensures.receipts c.note-in-Some-run_table_line.ensures

pub returns-in-None-run_table_line-clause-turn : goal.returns-in-None-run_table_line-clause-turn
returns-in-None-run_table_line-clause-turn g c =
    let caller = g.C.Calls.caller in
    let a = c.self.inside in
    let all = (app_at a.script.now a.app).lines in
    let line = c.line-line.result.now in
    let next : drop a.next all ≡ line ∷ drop (a.next + 1) all = drop-next all a.next line c.line-line.ensures ∙ ap (λ n. line ∷ drop n all) (sym (add-one a.next)) in
    ran-local (progress_in a) c.args.self.now (caller c.args.calls.now) (caller c.run_line.new.calls) (caller c.run_table_line.new.calls) (caller c.write_line.new.calls) line (drop (a.next + 1) all)
    c.show.new.receipts.receipts (call_of a.registers (written_in (caller c.args.calls.now).bag) line) (table_call_of a.handles line)
    c.self.view_is c.requires.may c.requires.active next refl c.in-None.ensures.call refl c.in-None-run_table_line.ensures.call c.write_line.ensures c.show.ensures.receipts

pub take_got-requires-clause-bag : goal.take_got-requires-clause-bag
take_got-requires-clause-bag g c =
    let caller = g.C.Calls.caller in
    run-bag (caller c.args.calls.now) (caller c.run_line.new.calls) (call_of c.self.inside.registers (written_in (caller c.args.calls.now).bag) c.line-line.result.now) (Some c.in-Some.answer)
    c.in-Some.ensures.call c.requires.may.bag

pub take_address-requires-clause-bag : goal.take_address-requires-clause-bag
take_address-requires-clause-bag g c =
    let caller = g.C.Calls.caller in
    table_run-held (caller c.run_line.new.calls) (caller c.run_table_line.new.calls) (table_call_of c.self.inside.handles c.line-line.result.now) c.in-Some-run_table_line.answer
    c.in-Some-run_table_line.ensures.call

pub take_address-requires-clause-small : goal.take_address-requires-clause-small
take_address-requires-clause-small g c =
    let caller = g.C.Calls.caller in
    table_run-small c.args.self.now (caller c.args.calls.now) (caller c.run_line.new.calls) (caller c.run_table_line.new.calls)
    (call_of c.self.inside.registers (written_in (caller c.args.calls.now).bag) c.line-line.result.now) (table_call_of c.self.inside.handles c.line-line.result.now)
    c.in-Some-run_table_line.answer c.requires.may c.in-None.ensures.call c.in-Some-run_table_line.ensures.call

pub write_line-requires : goal.write_line-requires
write_line-requires g c =
    let caller = g.C.Calls.caller in
    run-write c.args.self.now (caller c.args.calls.now) (caller c.run_line.new.calls) (caller c.run_table_line.new.calls)
    (call_of c.self.inside.registers (written_in (caller c.args.calls.now).bag) c.line-line.result.now) (table_call_of c.self.inside.handles c.line-line.result.now)
    c.requires.may c.in-None.ensures.call c.in-None-run_table_line.ensures.call

pub show-requires-clause-bag : goal.show-requires-clause-bag
show-requires-clause-bag g c = c.write_line.ensures.bag

pub show-requires-clause-held : goal.show-requires-clause-held
show-requires-clause-held g c =
    let caller = g.C.Calls.caller in
    wrote-held c.args.self.now (caller c.args.calls.now) (caller c.run_line.new.calls) (caller c.run_table_line.new.calls) (caller c.write_line.new.calls)
    (call_of c.self.inside.registers (written_in (caller c.args.calls.now).bag) c.line-line.result.now) (table_call_of c.self.inside.handles c.line-line.result.now)
    (written_by (written_in (caller c.run_table_line.new.calls).bag) c.self.inside.registers.buffers c.line-line.result.now)
    c.requires.may c.in-None.ensures.call c.in-None-run_table_line.ensures.call c.write_line.ensures

pub show-requires-clause-remember : goal.show-requires-clause-remember
show-requires-clause-remember g c =
    let caller = g.C.Calls.caller in
    run-remember (progress_in c.self.inside) c.args.self.now (caller c.args.calls.now) (caller c.run_line.new.calls) (caller c.run_table_line.new.calls) (caller c.write_line.new.calls)
    (call_of c.self.inside.registers (written_in (caller c.args.calls.now).bag) c.line-line.result.now) (table_call_of c.self.inside.handles c.line-line.result.now)
    (written_by (written_in (caller c.run_table_line.new.calls).bag) c.self.inside.registers.buffers c.line-line.result.now)
    c.self.view_is c.requires.may c.in-None.ensures.call c.in-None-run_table_line.ensures.call c.write_line.ensures

pub show-requires-clause-remember_held : goal.show-requires-clause-remember_held
show-requires-clause-remember_held g c =
    let caller = g.C.Calls.caller in
    run-remember_held (progress_in c.self.inside) c.args.self.now (caller c.args.calls.now) (caller c.run_line.new.calls) (caller c.run_table_line.new.calls) (caller c.write_line.new.calls)
    (call_of c.self.inside.registers (written_in (caller c.args.calls.now).bag) c.line-line.result.now) (table_call_of c.self.inside.handles c.line-line.result.now)
    (written_by (written_in (caller c.run_table_line.new.calls).bag) c.self.inside.registers.buffers c.line-line.result.now)
    c.self.view_is c.requires.may c.in-None.ensures.call c.in-None-run_table_line.ensures.call c.write_line.ensures

pub show-requires-clause-small : goal.show-requires-clause-small
show-requires-clause-small g c =
    let caller = g.C.Calls.caller in
    wrote-small c.args.self.now (caller c.args.calls.now) (caller c.run_line.new.calls) (caller c.run_table_line.new.calls) (caller c.write_line.new.calls)
    (call_of c.self.inside.registers (written_in (caller c.args.calls.now).bag) c.line-line.result.now) (table_call_of c.self.inside.handles c.line-line.result.now)
    (written_by (written_in (caller c.run_table_line.new.calls).bag) c.self.inside.registers.buffers c.line-line.result.now)
    c.requires.may c.in-None.ensures.call c.in-None-run_table_line.ensures.call c.write_line.ensures

pub returns-in-Some-clause-same : goal.returns-in-Some-clause-same
returns-in-Some-clause-same g c =
    let caller = g.C.Calls.caller in
    run-same (caller c.args.calls.now) (caller c.run_line.new.calls) (call_of c.self.inside.registers (written_in (caller c.args.calls.now).bag) c.line-line.result.now) (Some c.in-Some.answer)
    c.in-Some.ensures.call

pub returns-in-Some-run_table_line-clause-same : goal.returns-in-Some-run_table_line-clause-same
returns-in-Some-run_table_line-clause-same g c =
    let caller = g.C.Calls.caller in
    table_run-same (caller c.args.calls.now) (caller c.run_line.new.calls) (caller c.run_table_line.new.calls)
    (call_of c.self.inside.registers (written_in (caller c.args.calls.now).bag) c.line-line.result.now) (table_call_of c.self.inside.handles c.line-line.result.now)
    c.in-Some-run_table_line.answer c.in-None.ensures.call c.in-Some-run_table_line.ensures.call

pub returns-in-None-run_table_line-clause-same : goal.returns-in-None-run_table_line-clause-same
returns-in-None-run_table_line-clause-same g c =
    let caller = g.C.Calls.caller in
    wrote-same (caller c.args.calls.now) (caller c.run_line.new.calls) (caller c.run_table_line.new.calls) (caller c.write_line.new.calls)
    (call_of c.self.inside.registers (written_in (caller c.args.calls.now).bag) c.line-line.result.now) (table_call_of c.self.inside.handles c.line-line.result.now)
    (written_by (written_in (caller c.run_table_line.new.calls).bag) c.self.inside.registers.buffers c.line-line.result.now)
    c.in-None.ensures.call c.in-None-run_table_line.ensures.call c.write_line.ensures
