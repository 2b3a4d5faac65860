use Rattle.std.proofs.Common.{refl, inl, arith}
use Rattle.app_calls.proofs.BufferCalls.{leaves-given}
use Rattle.app_calls.proofs.app_calls.CoreCallsCalls.allocate.Goals as goal

pub returns : goal.returns
returns g c = record {
  now = c.args.self.now.core.now;
  meets = inl refl;
  does = c.allocate.ensures.does;
  bag = c.allocate.ensures.bag;
  buffers = leaves-given c.args.self.now.core.now c.allocate.new.self c.args.self.now.app c.args.size c.args.self.now.held.now c.allocate.new.held c.allocate.result
      (record { may = c.requires.may; has = c.requires.bag; does = c.allocate.ensures.does; its = c.allocate.ensures.bag; rest = c.allocate.ensures.views; count = omega (arith, c.allocate.ensures.count) })
      c.allocate.ensures.zeros c.allocate.ensures.buffers c.allocate.ensures.bag_refused;
  others = record { tables = refl; held = refl };
  same = record { app = refl; names = refl; alone = refl };
}
