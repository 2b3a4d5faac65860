use Rattle.std.proofs.Common.{refl, inl}
use Rattle.app_calls.proofs.BufferCalls.{leaves-none}
use Rattle.app_calls.proofs.app_calls.CoreCallsCalls.bus_end.Goals as goal

pub returns : goal.returns
returns g c = record {
  now = c.args.self.now.core.now;
  meets = inl refl;
  does = c.end.ensures.does;
  bag = c.end.ensures.bag;
  buffers = leaves-none c.args.self.now.held.now c.end.new.held c.end.ensures.empty;
  others = record { tables = refl; held = refl };
  same = record { app = refl; names = refl; alone = refl };
}
