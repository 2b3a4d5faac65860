use Rattle.std.proofs.Common.{refl, sym, ap, subst, ◌∙◌}
use Rattle.bus_words.specs.declared.history.Call.TheVariants.{PoolGet}
use Rattle.fsw_base.specs.Grants.{answer_in, get_answer, pool_in}
use Rattle.list_bus.specs.Decided.{numbered}
use Rattle.list_bus.specs.Played.{Played, IsPlayed}
use Rattle.list_bus.specs.Inside.{means, played_in}
use Rattle.list_bus.proofs.DecidedCalls.{decides}
use Rattle.list_bus.proofs.PoolCalls.{get_made, with_pools}
use Rattle.list_bus.proofs.bus.ListBus.pool_get.Goals as goal

pub returns : goal.returns
returns c =
    let a = c.self.inside in
    let is = c.in_ok-made.ensures in
    rw c.number_answer.ensures
    (decides a (record a { pools = c.get.new.self }) c.args.self.now c.self.view_is c.args.app (PoolGet c.args.pool c.args.size) refl refl refl
    (subst (λ (p : Played). IsPlayed p) (sym c.self.view_is) c.requires) (numbered c.in_ok-made.made)
    (get_made (played_in a) c.args.app c.args.pool c.args.size
    ∙ sym (ap (λ made. (numbered made, with_pools (means a) c.get.new.self)) is.answer
    ∙ ap (λ pools. (numbered (answer_in a.pools c.args.pool (get_answer (pool_in a.pools c.args.pool) c.args.size)), with_pools (means a) pools)) is.after)))
