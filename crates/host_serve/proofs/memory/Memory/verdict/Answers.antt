use Rattle.host_serve.proofs.Ends.{some-of}
use Rattle.host_serve.proofs.memory.Memory.verdict.Goals as goal

pub returns-clause-answer : goal.returns-clause-answer
returns-clause-answer c = some-of c.check-taken.result c.note.result _ c.note.ensures.value c.check-taken.ensures
