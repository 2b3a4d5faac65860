use Rattle.std.proofs.Common.{◌≡◌, true, sym, subst}
use Rattle.std.specs.Option.{is_some}
use Rattle.buf_desc.specs.Held.{buffer_at, bytes_at}
use Rattle.bus_service.specs.Ports.{PortView}
use Rattle.bus_service.proofs.unsent.BusPort.write_buffer.Goals as goal

pub bytes_of_mut-requires : goal.bytes_of_mut-requires
bytes_of_mut-requires g c = subst (λ (p : PortView). is_some (buffer_at p.bag c.args.buf) ≡ true) (sym c.self.view_is) c.requires.there

pub write-requires : goal.write-requires
write-requires g c =
    subst (g.W.Writer.fits c.args.writer) (sym c.bytes_of_mut.ensures.value)
    (subst (λ (p : PortView). g.W.Writer.fits c.args.writer (bytes_at p.bag c.args.buf)) (sym c.self.view_is) c.requires.fits)

pub invariant_of-self : goal.invariant_of-self
invariant_of-self g c = c.bags_stay.ensures.written c.self.inside.port.seen c.self.inside.port.app c.args.buf c.self.inside.bag c.write.new.bytes c.self.invariant
