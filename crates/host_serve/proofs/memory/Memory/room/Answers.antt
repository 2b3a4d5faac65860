use Rattle.host_serve.proofs.Ends.{some-of}
use Rattle.host_serve.proofs.memory.Memory.room.Goals as goal

pub returns-clause-empty : goal.returns-clause-empty
returns-clause-empty c = some-of c.with_capacity-taken.result c.note.result _ c.note.ensures.value c.with_capacity-taken.ensures.items

pub returns-clause-room : goal.returns-clause-room
returns-clause-room c = some-of c.with_capacity-taken.result c.note.result _ c.note.ensures.value c.with_capacity-taken.ensures.exact
