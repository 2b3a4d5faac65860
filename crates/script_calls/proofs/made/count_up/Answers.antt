use Rattle.std.proofs.Common.{length, arith}
use Rattle.std.proofs.lemmas.List.FromFn.{fill_by_all}
use Rattle.script_runs.specs.Messages.{fill_byte}
use Rattle.script_calls.proofs.made.count_up.Goals as goal

pub returns : goal.returns
returns c =
    fill_by_all (fill_byte c.args.fill) c.loop-i.payload (length c.args.payload.now) 0 c.loop-i.auto.payload
    (λ k below. c.loop-i.invariant k (omega (arith, below, c.loop-i.auto.i-end, c.loop-i-test.false)))
