use Rattle.std.proofs.Common.{◌≡◌, rules, take, arith, subst}
use Rattle.replay_parts.proofs.Fronts.{alike_ends, alike_stops, take_one_more}
use Rattle.replay_parts.proofs.slices.alike_len.Goals as goal

pub loop-i-preserved : goal.loop-i-preserved
loop-i-preserved c = take_one_more c.args.one.now c.args.other.now c.loop-i.i c.loop-i.invariant (omega arith) (omega arith) (search rules)

pub returns-then-one-i-clause-text : goal.returns-then-one-i-clause-text
returns-then-one-i-clause-text c = alike_stops c.args.one.now c.args.other.now c.loop-i.i c.loop-i.invariant (omega arith) (omega arith) (search rules)

pub returns-clause-text : goal.returns-clause-text
returns-clause-text c =
    let end : c.loop-i.i ≡ c.min-shorter.result = omega arith in
    alike_ends c.args.one.now c.args.other.now c.min-shorter.result
    (subst (λ k. take k c.args.one.now ≡ take k c.args.other.now) end c.loop-i.invariant)
    (search rules)
