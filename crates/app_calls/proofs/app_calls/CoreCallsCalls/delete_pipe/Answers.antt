use Rattle.std.proofs.Common.{refl, inl}
use Rattle.app_calls.proofs.BufferCalls.{leaves-views}
use Rattle.app_calls.proofs.app_calls.CoreCallsCalls.delete_pipe.Goals as goal

pub returns : goal.returns
returns g c = record {
  now = c.args.self.now.core.now;
  meets = inl refl;
  does = c.delete_pipe.ensures.does;
  bag = c.delete_pipe.ensures.bag;
  buffers = leaves-views c.args.self.now.held.now c.delete_pipe.new.held _ _ c.delete_pipe.ensures.buffers (λ number. refl);
  others = record { tables = refl; held = refl };
  same = record { app = refl; names = refl; alone = refl };
}
