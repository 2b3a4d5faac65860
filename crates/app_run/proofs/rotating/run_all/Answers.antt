use Rattle.std.proofs.Common.{refl, ◌∙◌, subst, arith, true, ◌≡◌, ◌+◌, ◌-◌}
use Rattle.std.specs.List.{All}
use Rattle.app_run.specs.Rounds.{RotatesTimes, equipped}
use Rattle.app_run.specs.Runners.{Progress}
use Rattle.app_run.proofs.OpenLaws.{times-none, times-more, times-nobody, going-none}
use Rattle.app_run.proofs.TurnLaws.{both}
use Rattle.app_run.proofs.rotating.run_all.Goals as goal

pub loop-round-init : goal.loop-round-init
loop-round-init g c = (
  times-none (both c.args.bus.now c.args.tables.now) (equipped c.args.runners.now.items c.args.bags.now.items c.args.held.now.items) c.requires.stand,
  c.requires.bags,
  c.requires.as_many,
  c.requires.as_many_held,
  refl,
)

pub loop-round-preserved : goal.loop-round-preserved
loop-round-preserved g c = (
  times-more c.loop-round._round (both c.args.bus.now c.args.tables.now) (equipped c.args.runners.now.items c.args.bags.now.items c.args.held.now.items)
      (both c.loop-round.bus c.loop-round.tables) (equipped c.loop-round.runners.items c.loop-round.bags.items c.loop-round.held.items)
      (both c.rotate.new.bus c.rotate.new.tables) (equipped c.rotate.new.runners.items c.rotate.new.bags.items c.rotate.new.held.items) c.loop-round.invariant.0 c.rotate.ensures.rotates,
  c.rotate.ensures.bags,
  c.rotate.ensures.as_many,
  c.rotate.ensures.as_many_held,
  c.rotate.ensures.runners ∙ c.loop-round.invariant.4,
)

pub returns-clause-rotates : goal.returns-clause-rotates
returns-clause-rotates g c =
    let through : c.loop-round._round ≡ c.args.turns = omega (arith, c.loop-round.auto._round-end, c.loop-round-test.false) in
    subst (λ n. RotatesTimes n (both c.args.bus.now c.args.tables.now) (equipped c.args.runners.now.items c.args.bags.now.items c.args.held.now.items)
    (both c.loop-round.bus c.loop-round.tables) (equipped c.loop-round.runners.items c.loop-round.bags.items c.loop-round.held.items)) through
    c.loop-round.invariant.0

pub returns-then-have_ended-clause-rotates : goal.returns-then-have_ended-clause-rotates
returns-then-have_ended-clause-rotates g c =
    let all_rounds : c.loop-round._round + (c.args.turns - c.loop-round._round) ≡ c.args.turns = omega (arith, c.loop-round.auto._round-end) in
    subst (λ n. RotatesTimes n (both c.args.bus.now c.args.tables.now) (equipped c.args.runners.now.items c.args.bags.now.items c.args.held.now.items)
    (both c.loop-round.bus c.loop-round.tables) (equipped c.loop-round.runners.items c.loop-round.bags.items c.loop-round.held.items)) all_rounds
    (times-nobody (c.args.turns - c.loop-round._round) c.loop-round._round (both c.args.bus.now c.args.tables.now) (equipped c.args.runners.now.items c.args.bags.now.items c.args.held.now.items)
    (both c.loop-round.bus c.loop-round.tables) (equipped c.loop-round.runners.items c.loop-round.bags.items c.loop-round.held.items) c.loop-round.invariant.0
    (going-none c.loop-round.runners.items c.loop-round.bags.items c.loop-round.held.items (subst (All (λ (p : Progress). p.ended ≡ true)) c.deref.ensures.value (c.have_ended.ensures.0 c.if-have_ended.true))))
