use Rattle.bus_words.specs.Acts.{moved_on}
use Rattle.list_pipes.proofs.Places.{map_in_place_more}
use Rattle.list_pipes.proofs.nexts.move_on.Goals as goal

pub loop-next-preserved : goal.loop-next-preserved
loop-next-preserved c =
    map_in_place_more (moved_on c.args.id) _ _ _ _ _ c.loop-next-test.true c.loop-next.auto.next-items c.loop-next.invariant c.move_if.ensures
