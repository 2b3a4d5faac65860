use Rattle.std.proofs.Common.{◌≡◌, ◌-◌, true, false, true≢false, rules, length, get_or, Some, arith, ap, sym, ◌∙◌}
use Rattle.std.specs.Prelude.{is_some}
use Rattle.std.specs.Option.{option_map}
use Rattle.bus_words.specs.declared.calls.BusAnswer.{BusAnswer}
use Rattle.bus_words.specs.declared.history.Entry.{Entry}
use Rattle.bus_words.specs.Acts.{Whole}
use Rattle.bus_words.specs.Bus.{standing_of}
use Rattle.bus_words.specs.Entries.{call_of}
use Rattle.bus_words.specs.Machine.{brings, makes_entry}
use Rattle.list_bus.specs.Played.{Plays}
use Rattle.list_bus.specs.Standings.{standing_in}
use Rattle.run_report.specs.BusText.{entry_text}
use Rattle.run_check.specs.Places.{lines_of}
use Rattle.bus_replay.specs.Places.{call_at, place_of}
use Rattle.bus_replay.proofs.Stepping.{Comes, call_comes, comes, lines_are, next_begun, not_taken, place_within, some_there, steps_never, steps_on, steps_wrong, taken}
use Rattle.bus_replay.proofs.replay.BusReplay.enter.Goals as goal

pub unwrap-call-requires : goal.unwrap-call-requires
unwrap-call-requires c =
    let r = c.args.self.now in
    let found = c.index-place.result.now in
    let lines : c.index-applications-get.result.lines ≡ lines_of r.script c.args.app =
    lines_are r.script c.args.app c.index-applications-get.result (omega arith) c.requires.caller.known (search rules) in
    let there : found ≡ get_or r.places (c.args.app - 1) found = search rules in
    let stands : standing_in c.standing-standing.result ≡ standing_of r.played.whole.bus c.args.app = search rules in
    let called : option_map call_of c.next_call.result ≡ call_at (standing_of r.played.whole.bus c.args.app) (lines_of r.script c.args.app) (place_of found) =
    c.next_call.ensures
    ∙ ap (λ l. call_at (standing_in c.standing-standing.result) l (place_of found)) lines
    ∙ ap (λ s. call_at s (lines_of r.script c.args.app) (place_of found)) stands in
    some_there call_of c.next_call.result
    (ap is_some called ∙ call_comes r c.args.app found c.requires.replayed (omega arith) c.requires.caller.known c.requires.caller.going there)

pub settle-requires-clause-places : goal.settle-requires-clause-places
settle-requires-clause-places c =
    let same : length c.self.inside.places.items ≡ length c.args.self.now.places = search rules in
    omega (arith, same, place_within c.args.self.now c.args.app c.requires.replayed (omega arith) c.requires.caller.known)

pub returns-then-not-brings : goal.returns-then-not-brings
returns-then-not-brings c = λ history at.
    let r = c.args.self.now in
    let found = c.index-place.result.now in
    let lines : c.index-applications-get.result.lines ≡ lines_of r.script c.args.app =
    lines_are r.script c.args.app c.index-applications-get.result (omega arith) c.requires.caller.known (search rules) in
    let there : found ≡ get_or r.places (c.args.app - 1) found = search rules in
    let stands : standing_in c.standing-standing.result ≡ standing_of r.played.whole.bus c.args.app = search rules in
    let called : option_map call_of c.next_call.result ≡ call_at (standing_of r.played.whole.bus c.args.app) (lines_of r.script c.args.app) (place_of found) =
    c.next_call.ensures
    ∙ ap (λ l. call_at (standing_in c.standing-standing.result) l (place_of found)) lines
    ∙ ap (λ s. call_at s (lines_of r.script c.args.app) (place_of found)) stands in
    let unwrapped : c.next_call.result ≡ Some c.unwrap-call.result = search rules in
    let next : Comes history r c.args.app (call_of c.unwrap-call.result) c.args.text.now =
    comes history r c.args.app (call_of c.unwrap-call.result) found c.args.text.now at c.requires.caller (omega arith) there (ap (λ o. option_map call_of o) (sym unwrapped) ∙ called) in
    let none : brings r.played.whole.bus.unsent c.args.app (call_of c.unwrap-call.result) ≡ false = search rules in
    steps_never history r r c.args.app (call_of c.unwrap-call.result) c.args.text.now c.args.text.now _ next (λ enters brought. true≢false (sym brought ∙ none)) (search rules)

pub returns-then-not-makes_entry : goal.returns-then-not-makes_entry
returns-then-not-makes_entry c = λ history at.
    let r = c.args.self.now in
    let found = c.index-place.result.now in
    let lines : c.index-applications-get.result.lines ≡ lines_of r.script c.args.app =
    lines_are r.script c.args.app c.index-applications-get.result (omega arith) c.requires.caller.known (search rules) in
    let there : found ≡ get_or r.places (c.args.app - 1) found = search rules in
    let stands : standing_in c.standing-standing.result ≡ standing_of r.played.whole.bus c.args.app = search rules in
    let called : option_map call_of c.next_call.result ≡ call_at (standing_of r.played.whole.bus c.args.app) (lines_of r.script c.args.app) (place_of found) =
    c.next_call.ensures
    ∙ ap (λ l. call_at (standing_in c.standing-standing.result) l (place_of found)) lines
    ∙ ap (λ s. call_at s (lines_of r.script c.args.app) (place_of found)) stands in
    let unwrapped : c.next_call.result ≡ Some c.unwrap-call.result = search rules in
    let next : Comes history r c.args.app (call_of c.unwrap-call.result) c.args.text.now =
    comes history r c.args.app (call_of c.unwrap-call.result) found c.args.text.now at c.requires.caller (omega arith) there (ap (λ o. option_map call_of o) (sym unwrapped) ∙ called) in
    let plays : Plays r.played c.step.new.self c.args.app (call_of c.unwrap-call.result) c.in_ok-answer.answer = search rules in
    let none : makes_entry (call_of c.unwrap-call.result) c.in_ok-answer.answer ≡ false = search rules in
    steps_never history r r c.args.app (call_of c.unwrap-call.result) c.args.text.now c.args.text.now _ next
    (λ enters brought. true≢false (sym enters ∙ ap (λ (m : BusAnswer × Whole). makes_entry (call_of c.unwrap-call.result) m.0) plays.made ∙ none)) (search rules)

pub returns-then-not-take : goal.returns-then-not-take
returns-then-not-take c = λ history at.
    let r = c.args.self.now in
    let found = c.index-place.result.now in
    let lines : c.index-applications-get.result.lines ≡ lines_of r.script c.args.app =
    lines_are r.script c.args.app c.index-applications-get.result (omega arith) c.requires.caller.known (search rules) in
    let there : found ≡ get_or r.places (c.args.app - 1) found = search rules in
    let stands : standing_in c.standing-standing.result ≡ standing_of r.played.whole.bus c.args.app = search rules in
    let called : option_map call_of c.next_call.result ≡ call_at (standing_of r.played.whole.bus c.args.app) (lines_of r.script c.args.app) (place_of found) =
    c.next_call.ensures
    ∙ ap (λ l. call_at (standing_in c.standing-standing.result) l (place_of found)) lines
    ∙ ap (λ s. call_at s (lines_of r.script c.args.app) (place_of found)) stands in
    let unwrapped : c.next_call.result ≡ Some c.unwrap-call.result = search rules in
    let next : Comes history r c.args.app (call_of c.unwrap-call.result) c.args.text.now =
    comes history r c.args.app (call_of c.unwrap-call.result) found c.args.text.now at c.requires.caller (omega arith) there (ap (λ o. option_map call_of o) (sym unwrapped) ∙ called) in
    let plays : Plays r.played c.step.new.self c.args.app (call_of c.unwrap-call.result) c.in_ok-answer.answer = search rules in
    let e : Entry = record { app = c.args.app; call = call_of c.unwrap-call.result; answer = c.in_ok-answer.answer } in
    let brought : brings r.played.whole.bus.unsent e.app e.call ≡ true = search rules in
    let enters : makes_entry e.call e.answer ≡ true = search rules in
    let begun = next_begun history r e c.args.text.now next (sym (ap (λ (m : BusAnswer × Whole). m.0) plays.made)) enters brought in
    let kept : c.as_slice.result.now ≡ entry_text c.args.number e = search rules in
    steps_wrong history r r e c.args.text.now c.take.new.self c.args.text.now c.args.number _ c.as_slice.result.now next begun c.requires.number kept
    (not_taken c.take.result c.args.text.now c.take.new.self c.as_slice.result.now (search rules) c.take.ensures) (search rules)

pub returns : goal.returns
returns c = λ history at.
    let r = c.args.self.now in
    let found = c.index-place.result.now in
    let lines : c.index-applications-get.result.lines ≡ lines_of r.script c.args.app =
    lines_are r.script c.args.app c.index-applications-get.result (omega arith) c.requires.caller.known (search rules) in
    let there : found ≡ get_or r.places (c.args.app - 1) found = search rules in
    let stands : standing_in c.standing-standing.result ≡ standing_of r.played.whole.bus c.args.app = search rules in
    let called : option_map call_of c.next_call.result ≡ call_at (standing_of r.played.whole.bus c.args.app) (lines_of r.script c.args.app) (place_of found) =
    c.next_call.ensures
    ∙ ap (λ l. call_at (standing_in c.standing-standing.result) l (place_of found)) lines
    ∙ ap (λ s. call_at s (lines_of r.script c.args.app) (place_of found)) stands in
    let unwrapped : c.next_call.result ≡ Some c.unwrap-call.result = search rules in
    let next : Comes history r c.args.app (call_of c.unwrap-call.result) c.args.text.now =
    comes history r c.args.app (call_of c.unwrap-call.result) found c.args.text.now at c.requires.caller (omega arith) there (ap (λ o. option_map call_of o) (sym unwrapped) ∙ called) in
    let plays : Plays r.played c.step.new.self c.args.app (call_of c.unwrap-call.result) c.in_ok-answer.answer = search rules in
    let e : Entry = record { app = c.args.app; call = call_of c.unwrap-call.result; answer = c.in_ok-answer.answer } in
    let brought : brings r.played.whole.bus.unsent e.app e.call ≡ true = search rules in
    let enters : makes_entry e.call e.answer ≡ true = search rules in
    let begun = next_begun history r e c.args.text.now next (sym (ap (λ (m : BusAnswer × Whole). m.0) plays.made)) enters brought in
    let kept : c.as_slice.result.now ≡ entry_text c.args.number e = search rules in
    steps_on history r c.settle.new.self c.step.new.self e c.args.text.now c.take.new.self c.args.number c.as_slice.result.now next begun c.requires.number kept
    (taken c.take.result c.args.text.now c.take.new.self c.as_slice.result.now (search rules) c.take.ensures) plays.made plays.limits plays.kept (search rules)
