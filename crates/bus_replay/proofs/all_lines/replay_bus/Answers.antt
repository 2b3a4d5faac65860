use Rattle.std.proofs.Common.{subst}
use Rattle.bus_replay.specs.declared.replay.BusStep.{BusStep}
use Rattle.bus_replay.specs.Replays.{Steps}
use Rattle.bus_replay.proofs.Judging.{first_wrong}
use Rattle.bus_replay.proofs.Passed.{passed_more, passed_wrong}
use Rattle.bus_replay.proofs.all_lines.replay_bus.Goals as goal

pub loop-replay-preserved : goal.loop-replay-preserved
loop-replay-preserved c =
    passed_more c.args.script.now c.args.text.now c.loop-replay.replay c.step.new.self c.loop-replay.text c.step.new.text c.loop-replay.invariant
    (λ history at.
    subst (λ (s : BusStep). Steps history c.loop-replay.replay c.step.new.self c.loop-replay.text c.step.new.text s) c.in-Entered.is (c.in_ok-step.ensures history at))

pub returns-in-Wrong-clause-first : goal.returns-in-Wrong-clause-first
returns-in-Wrong-clause-first c =
    first_wrong c.args.script.now c.args.text.now c.in-Wrong.line c.recall_ranges.ensures.text
    (passed_wrong c.args.script.now c.args.text.now c.loop-replay.replay c.step.new.self c.loop-replay.text c.step.new.text c.in-Wrong.line c.loop-replay.invariant
    (λ history at.
    subst (λ (s : BusStep). Steps history c.loop-replay.replay c.step.new.self c.loop-replay.text c.step.new.text s) c.in-Wrong.is (c.in_ok-step.ensures history at)))

pub returns-in-Wrong-clause-judged : goal.returns-in-Wrong-clause-judged
returns-in-Wrong-clause-judged c =
    passed_wrong c.args.script.now c.args.text.now c.loop-replay.replay c.step.new.self c.loop-replay.text c.step.new.text c.in-Wrong.line c.loop-replay.invariant
    (λ history at.
    subst (λ (s : BusStep). Steps history c.loop-replay.replay c.step.new.self c.loop-replay.text c.step.new.text s) c.in-Wrong.is (c.in_ok-step.ensures history at))
