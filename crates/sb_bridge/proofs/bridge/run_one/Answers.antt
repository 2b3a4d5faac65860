use Rattle.std.proofs.Common.{sym, subst}
use Rattle.sb_bridge.specs.Works.{EndsAs}
use Rattle.sb_bridge.proofs.Rounds.{is-through, may_end_on_one, may_end_on_two, may_later_on_one, may_later_on_two}
use Rattle.sb_bridge.proofs.bridge.run_one.Goals as goal

pub loop-init : goal.loop-init
loop-init g c = (tt, tt, c.requires)

pub pass_one-requires : goal.pass_one-requires
pass_one-requires g c = c.loop.invariant.2.forwards

pub end_on_one-ended-requires : goal.end_on_one-ended-requires
end_on_one-ended-requires g c =
    let was = c.loop.invariant.2 in
    may_end_on_one c.args.job.crossing c.loop.from c.loop.to c.pass_one.new.from c.pass_one.new.to was.on_one was.on_two (c.pass_one.ensures.stops c.if-not-pass_one.true)

pub end_on_two-requires : goal.end_on_two-requires
end_on_two-requires g c =
    let was = c.loop.invariant.2 in
    may_end_on_two c.args.job.crossing c.loop.from c.loop.to c.pass_one.new.from c.pass_one.new.to was.on_one was.on_two (c.pass_one.ensures.stops c.if-not-pass_one.true)

pub returns-then-not-pass_one : goal.returns-then-not-pass_one
returns-then-not-pass_one g c =
    let was = c.loop.invariant.2 in
    is-through c.args.job.crossing c.loop.from c.loop.to c.pass_one.new.from c.pass_one.new.to was.on_one was.on_two (c.pass_one.ensures.stops c.if-not-pass_one.true)
    c.end_on_two.result (subst (EndsAs (record c.loop.from { port = c.pass_one.new.from })) (sym c.end_on_two.ensures.from) c.end_on_one-ended.ensures) c.end_on_two.ensures.to

pub loop-preserved : goal.loop-preserved
loop-preserved g c =
    let was = c.loop.invariant.2 in
    let on = c.pass_one.ensures.on c.if-not-pass_one.false in (
      tt,
      tt,
      record {
        forwards = on;
        on_one = may_later_on_one c.args.job.crossing c.loop.from c.loop.to c.pass_one.new.from c.pass_one.new.to was.on_one was.on_two on;
        on_two = may_later_on_two c.args.job.crossing c.loop.from c.loop.to c.pass_one.new.from c.pass_one.new.to was.on_one was.on_two on;
      },
    )
