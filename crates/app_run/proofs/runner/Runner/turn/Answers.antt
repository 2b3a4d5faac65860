use Rattle.app_run.proofs.TurnConditions.{again, ready}
use Rattle.app_run.proofs.runner.Runner.turn.Goals as goal

pub make_turn-requires : goal.make_turn-requires
make_turn-requires g c = ready c.args.self.now (g.C.Calls.caller c.args.calls.now) c.requires

pub returns : goal.returns
returns g c =
    let caller = g.C.Calls.caller in
    record {
      turn = c.make_turn.ensures.turn;
      told = c.make_turn.ensures.told;
      same = c.make_turn.ensures.same;
      may_again = λ goes_on.
          again c.args.self.now c.make_turn.new.self (caller c.args.calls.now) (caller c.make_turn.new.calls) c.requires c.make_turn.ensures.turn c.make_turn.ensures.same goes_on;
    }
