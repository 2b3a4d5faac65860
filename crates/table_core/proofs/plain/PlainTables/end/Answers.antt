use Rattle.std.proofs.Common.{◌-◌, true, set, ap, sym, refl, ◌∙◌, subst}
use Rattle.tbl_words.specs.Tables.{State}
use Rattle.table_core.specs.Core.{Plain, Holds}
use Rattle.table_core.specs.Inside.{plain_of}
use Rattle.table_core.proofs.Ends.{end_made, ended_holds}
use Rattle.table_core.proofs.Others.{ended_bag}
use Rattle.table_core.proofs.plain.PlainTables.end.Goals as goal

pub returns-clause-does : goal.returns-clause-does
returns-clause-does g c =
    let left = c.unregister_all.new.self in
    record {
      made =
          end_made c.args.self.now.limits c.args.self.now.state left.state _ c.args.app c.get.result c.unregister_all.ensures.after c.get.ensures.value
          (ap (λ (p : Plain). let s : State = record p.state { ended = set p.state.ended (c.get.result - 1) true } in s) c.self.view_is);
      limits = ap (λ (p : Plain). p.limits) c.self.view_is ∙ c.unregister_all.ensures.limits;
      bags = λ other bag apart holds.
          ended_holds (plain_of c.self.inside) (set c.self.inside.ended.items (c.get.result - 1) true) other bag
          (subst (λ (p : Plain). Holds p other bag) (sym c.self.view_is) (c.unregister_all.ensures.other_bags other bag (apart refl) holds));
    }

pub returns-clause-empty : goal.returns-clause-empty
returns-clause-empty g c = ended_bag c.unregister_all.new.self c.args.self.now.state c.args.app c.args.held.now c.unregister_all.new.held c.unregister_all.ensures.after c.unregister_all.ensures.bag c.unregister_all.ensures.room
