use Rattle.std.proofs.Common.{refl, inl, arith}
use Rattle.app_calls.proofs.BufferCalls.{leaves-released}
use Rattle.app_calls.proofs.app_calls.CoreCallsCalls.release.Goals as goal

pub returns : goal.returns
returns g c = record {
  now = c.args.self.now.core.now;
  meets = inl refl;
  does = c.release.ensures.does;
  bag = c.release.ensures.bag;
  buffers = leaves-released c.args.self.now.core.now c.release.new.self c.args.self.now.app c.args.buf c.args.self.now.held.now c.release.new.held c.release.result
      (record { may = c.requires.may; has = c.requires.bag; does = c.release.ensures.does; its = c.release.ensures.bag; rest = c.release.ensures.views; count = omega (arith, c.release.ensures.count) })
      c.release.ensures.buffers c.release.ensures.bag_refused;
  others = record { tables = refl; held = refl };
  same = record { app = refl; names = refl; alone = refl };
}
