use Rattle.std.proofs.Common.{refl, sym, ap, subst, ◌∙◌}
use Rattle.bus_words.specs.declared.history.Call.TheVariants.{PoolPut}
use Rattle.fsw_base.specs.Grants.{answer_in, put_answer, pool_in}
use Rattle.list_bus.specs.Decided.{returned}
use Rattle.list_bus.specs.Played.{Played, IsPlayed}
use Rattle.list_bus.specs.Inside.{means, played_in}
use Rattle.list_bus.proofs.DecidedCalls.{decides}
use Rattle.list_bus.proofs.PoolCalls.{put_made, with_pools}
use Rattle.list_bus.proofs.bus.ListBus.pool_put.Goals as goal

pub returns : goal.returns
returns c =
    let a = c.self.inside in
    let is = c.put-made.ensures in
    rw c.return_answer.ensures
    (decides a (record a { pools = c.put-made.new.self }) c.args.self.now c.self.view_is c.args.app (PoolPut c.args.pool c.args.grant) refl refl refl
    (subst (λ (p : Played). IsPlayed p) (sym c.self.view_is) c.requires) (returned c.put-made.result)
    (put_made (played_in a) c.args.app c.args.pool c.args.grant
    ∙ sym (ap (λ made. (returned made, with_pools (means a) c.put-made.new.self)) is.answer
    ∙ ap (λ pools. (returned (answer_in a.pools c.args.pool (put_answer (pool_in a.pools c.args.pool) c.args.grant)), with_pools (means a) pools)) is.after)))
