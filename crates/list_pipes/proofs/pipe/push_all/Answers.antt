-- One item further.
use Rattle.bus_words.specs.Bus.{Item}
use Rattle.list_pipes.proofs.Places.{mapped_more}
use Rattle.list_pipes.proofs.pipe.push_all.Goals as goal

pub loop-item-preserved : goal.loop-item-preserved
loop-item-preserved c =
    mapped_more (λ (i : Item). i.number) c.args.items.now c.loop-item.item-index c.item-item.result _ _ _ _ c.loop-item-test.true c.item-item.is c.number.ensures c.in_ok-push.ensures.items c.loop-item.invariant
