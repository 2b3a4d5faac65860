use Rattle.std.proofs.Common.{refl, inl, arith}
use Rattle.buf_desc.specs.Held.{bytes_at}
use Rattle.app_calls.proofs.BufferCalls.{leaves-sent}
use Rattle.app_calls.proofs.app_calls.CoreCallsCalls.transmit_buffer.Goals as goal

pub returns : goal.returns
returns g c = record {
  now = c.args.self.now.core.now;
  meets = inl refl;
  does = c.transmit_buffer.ensures.does;
  bag = c.transmit_buffer.ensures.bag;
  buffers = leaves-sent c.args.self.now.core.now c.transmit_buffer.new.self c.args.self.now.app c.args.buf (bytes_at c.args.self.now.held.now c.args.buf) c.args.inc c.args.self.now.held.now c.transmit_buffer.new.held c.transmit_buffer.result
      (record { may = c.requires.may; has = c.requires.bag; does = c.transmit_buffer.ensures.does; its = c.transmit_buffer.ensures.bag; rest = c.transmit_buffer.ensures.views; count = omega (arith, c.transmit_buffer.ensures.count) })
      c.transmit_buffer.ensures.buffers c.transmit_buffer.ensures.bag_refused;
  others = record { tables = refl; held = refl };
  same = record { app = refl; names = refl; alone = refl };
}
