use Rattle.std.proofs.Common.{ap, refl, ◌∙◌}
use Rattle.lend_block.specs.Loan.{LentBytes}
use Rattle.buf_desc.specs.Held.{Holding}
use Rattle.bus_messages.proofs.AllReleases.{relieved_store, bag_empty}
use Rattle.bus_messages.proofs.store.BusStore.release_all.Goals as goal

pub returns-clause-after : goal.returns-clause-after
returns-clause-after g c =
    relieved_store c.args.self.now c.release_each.new.store c.release_each.new.store c.args.app c.release_each.ensures.same c.release_each.ensures.none c.release_each.ensures.others c.release_each.ensures.account c.recall_held.ensures refl

pub returns-clause-empty : goal.returns-clause-empty
returns-clause-empty g c =
    let now = c.release_each.new.store in
    c.release_each.ensures.views
    ∙ ap (λ l. let v : Holding LentBytes = record c.args.held.now { buffers = l } in v)
    (bag_empty now.unsent now.descs now.account.sizes c.args.app c.release_each.new.held c.release_each.ensures.bag c.release_each.ensures.none)
