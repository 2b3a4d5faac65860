use Rattle.host_serve.proofs.Ends.{some-of}
use Rattle.host_serve.proofs.memory.Memory.generated_script.Goals as goal

pub returns-clause-script : goal.returns-clause-script
returns-clause-script c = some-of c.generate-taken.result c.note.result _ c.note.ensures.value c.generate-taken.ensures
