use Rattle.std.proofs.Common.{sym, subst}
use Rattle.lend_block.specs.Loan.{LentBytes}
use Rattle.buf_desc.specs.Held.{Holding}
use Rattle.sb_calls.specs.Bags.{HasBag}
use Rattle.bus_service.proofs.ports.PortOf.bytes_of_mut.Goals as goal

pub invariant_of-self-lent : goal.invariant_of-self-lent
invariant_of-self-lent g c =
    let view = g.V.MessageView in
    let port = c.self.inside.port in
    let bag = c.self.inside.bag in
    λ w. subst (λ (b : Holding LentBytes). HasBag port.seen port.app b) (sym (view.written bag c.args.buf w))
    (c.bags_stay.ensures.written port.seen port.app c.args.buf (view.held bag) w c.self.invariant)
