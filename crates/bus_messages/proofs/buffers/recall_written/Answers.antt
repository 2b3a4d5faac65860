use Rattle.bus_messages.proofs.ListChanges.{still_written}
use Rattle.bus_messages.proofs.buffers.recall_written.Goals as goal

pub returns-clause-buffers : goal.returns-clause-buffers
returns-clause-buffers c = λ unsent descs sizes app number bag w holds. still_written unsent descs sizes app number bag w (c.recall_written.ensures.seen bag number w) c.recall_written.ensures.long holds

pub returns-clause-views : goal.returns-clause-views
returns-clause-views c = λ pipes loans most app number bag w holds. record { seen = holds.seen; counted = holds.counted; room = holds.room }
