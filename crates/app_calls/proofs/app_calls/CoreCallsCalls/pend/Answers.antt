use Rattle.std.proofs.Common.{refl, inl}
use Rattle.app_calls.proofs.BufferCalls.{leaves-views}
use Rattle.app_calls.proofs.app_calls.CoreCallsCalls.pend.Goals as goal

pub returns : goal.returns
returns g c = record {
  now = c.args.self.now.core.now;
  meets = inl refl;
  does = c.pend.ensures.does;
  bag = c.pend.ensures.bag;
  buffers = leaves-views c.args.self.now.held.now c.pend.new.held _ _ c.pend.ensures.buffers (λ number. refl);
  others = record { tables = refl; held = refl };
  same = record { app = refl; names = refl; alone = refl };
}
