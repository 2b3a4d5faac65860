use Rattle.std.proofs.Common.{◌≡◌, ◌+◌, ◌-◌, rules, length, get_or, Some, arith, ap, sym, ◌∙◌}
use Rattle.std.specs.Prelude.{is_some}
use Rattle.std.specs.Option.{option_map}
use Rattle.tbl_words.specs.declared.history.Entry.{Entry}
use Rattle.tbl_words.specs.Entries.{call_of}
use Rattle.tbl_words.specs.Machine.{step}
use Rattle.run_report.specs.TableText.{table_entry_text}
use Rattle.run_check.specs.Fronts.{wrong_line}
use Rattle.run_check.specs.Places.{lines_of}
use Rattle.table_replay.specs.Places.{call_at}
use Rattle.table_replay.specs.Replays.{settled}
use Rattle.table_replay.proofs.Stepping.{call_comes, coming, lines_are, not_taken, place_within, some_there, steps_on, steps_wrong, taken}
use Rattle.table_replay.proofs.replay.TableReplay.enter.Goals as goal

pub unwrap-call-requires : goal.unwrap-call-requires
unwrap-call-requires c =
    let r = c.args.self.now in
    let lines : c.index-applications-get.result.lines ≡ lines_of r.script c.args.app =
    lines_are r.script c.args.app c.index-applications-get.result (omega arith) c.requires.caller.known (search rules) in
    let there : c.index-place.result.now ≡ get_or r.places (c.args.app - 1) c.index-place.result.now = search rules in
    some_there call_of c.next_call.result
    (ap is_some (c.next_call.ensures ∙ ap (λ l. call_at l c.index-place.result.now) lines)
    ∙ call_comes r c.args.app c.index-place.result.now c.requires.replayed (omega arith) c.requires.caller.known there)

pub settle-requires-clause-places : goal.settle-requires-clause-places
settle-requires-clause-places c =
    let same : length c.self.inside.places.items ≡ length c.args.self.now.places = search rules in
    omega (arith, same, place_within c.args.self.now c.args.app c.requires.replayed (omega arith) c.requires.caller.known)

pub returns-then-not-take : goal.returns-then-not-take
returns-then-not-take c = λ history at.
    let r = c.args.self.now in
    let e : Entry = record { app = c.args.app; call = call_of c.unwrap-call.result; answer = c.in_ok-answer.answer } in
    let lines : c.index-applications-get.result.lines ≡ lines_of r.script c.args.app =
    lines_are r.script c.args.app c.index-applications-get.result (omega arith) c.requires.caller.known (search rules) in
    let there : c.index-place.result.now ≡ get_or r.places (c.args.app - 1) c.index-place.result.now = search rules in
    let unwrapped : c.next_call.result ≡ Some c.unwrap-call.result = search rules in
    let answered : e.answer ≡ (step r.limits r.state e.app e.call).0 = search rules in
    let comes : Some e.call ≡ call_at (lines_of r.script e.app) c.index-place.result.now =
    ap (λ o. option_map call_of o) (sym unwrapped) ∙ c.next_call.ensures ∙ ap (λ l. call_at l c.index-place.result.now) lines in
    let next = coming history r e c.index-place.result.now c.args.text.now at c.requires.caller (omega arith) there comes answered in
    let kept : c.as_slice.result.now ≡ table_entry_text c.args.number e = search rules in
    let says : c.in_ok-wrong_line.field-0 ≡ c.take.new.self.lines + wrong_line c.take.new.self.rest c.as_slice.result.now = search rules in
    steps_wrong history r r e c.args.text.now c.take.new.self c.args.text.now c.args.number c.in_ok-wrong_line.field-0 c.as_slice.result.now at next c.requires.number kept
    (not_taken c.take.result c.args.text.now c.take.new.self c.as_slice.result.now (search rules) c.take.ensures) says

pub returns : goal.returns
returns c = λ history at.
    let r = c.args.self.now in
    let e : Entry = record { app = c.args.app; call = call_of c.unwrap-call.result; answer = c.in_ok-answer.answer } in
    let lines : c.index-applications-get.result.lines ≡ lines_of r.script c.args.app =
    lines_are r.script c.args.app c.index-applications-get.result (omega arith) c.requires.caller.known (search rules) in
    let there : c.index-place.result.now ≡ get_or r.places (c.args.app - 1) c.index-place.result.now = search rules in
    let unwrapped : c.next_call.result ≡ Some c.unwrap-call.result = search rules in
    let answered : e.answer ≡ (step r.limits r.state e.app e.call).0 = search rules in
    let comes : Some e.call ≡ call_at (lines_of r.script e.app) c.index-place.result.now =
    ap (λ o. option_map call_of o) (sym unwrapped) ∙ c.next_call.ensures ∙ ap (λ l. call_at l c.index-place.result.now) lines in
    let next = coming history r e c.index-place.result.now c.args.text.now at c.requires.caller (omega arith) there comes answered in
    let kept : c.as_slice.result.now ≡ table_entry_text c.args.number e = search rules in
    let moved : c.settle.new.self ≡ settled (record r { state = (step r.limits r.state e.app e.call).1 }) c.args.number e = search rules in
    steps_on history r c.settle.new.self e c.args.text.now c.take.new.self c.args.number c.as_slice.result.now at next (omega arith) c.requires.caller.known c.requires.number kept
    (taken c.take.result c.args.text.now c.take.new.self c.as_slice.result.now (search rules) c.take.ensures) moved
