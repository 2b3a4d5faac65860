use Rattle.std.proofs.Common.{refl, sym, ap, subst, ◌∙◌}
use Rattle.bus_words.specs.declared.history.Call.TheVariants.{PoolCreate}
use Rattle.fsw_base.specs.Grants.{create_answer}
use Rattle.list_bus.specs.Decided.{numbered}
use Rattle.list_bus.specs.Played.{Played, IsPlayed}
use Rattle.list_bus.specs.Inside.{means, played_in}
use Rattle.list_bus.proofs.DecidedCalls.{decides}
use Rattle.list_bus.proofs.PoolCalls.{create_made, with_pools}
use Rattle.list_bus.proofs.bus.ListBus.pool_create.Goals as goal

pub returns : goal.returns
returns c =
    let a = c.self.inside in
    let is = c.in_ok-made.ensures in
    rw c.number_answer.ensures
    (decides a (record a { pools = c.create.new.self }) c.args.self.now c.self.view_is c.args.app (PoolCreate c.args.bytes) refl refl refl
    (subst (λ (p : Played). IsPlayed p) (sym c.self.view_is) c.requires) (numbered c.in_ok-made.made)
    (create_made (played_in a) c.args.app c.args.bytes
    ∙ sym (ap (λ made. (numbered made, with_pools (means a) c.create.new.self)) is.answer ∙ ap (λ pools. (numbered (create_answer a.pools c.args.bytes), with_pools (means a) pools)) is.after)))
