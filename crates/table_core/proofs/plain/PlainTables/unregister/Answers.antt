use Rattle.std.proofs.Common.{◌∙◌}
use Rattle.table_core.proofs.Unregisters.{idle_now, unregistered}
use Rattle.table_core.proofs.plain.PlainTables.unregister.Goals as goal

pub drop_handle-requires : goal.drop_handle-requires
drop_handle-requires g c = record { idle = idle_now c.args.self.now.limits c.args.self.now.state c.release_address.new.self.state c.args.app c.args.handle c.in_ok-release_address.ensures.does.made }

pub returns-clause-does : goal.returns-clause-does
returns-clause-does g c =
    let does = c.in_ok-release_address.ensures.does in
    record {
      made = unregistered c.args.self.now.limits c.args.self.now.state c.release_address.new.self.state c.drop_handle.new.self.state c.args.app c.args.handle does.made c.drop_handle.ensures.after;
      limits = c.drop_handle.ensures.limits ∙ does.limits;
      bags = λ other bag apart holds. c.drop_handle.ensures.bags other bag (does.bags other bag apart holds);
    }

pub returns-clause-bag : goal.returns-clause-bag
returns-clause-bag g c = c.drop_handle.ensures.bags c.args.app c.release_address.new.held c.in_ok-release_address.ensures.bag
