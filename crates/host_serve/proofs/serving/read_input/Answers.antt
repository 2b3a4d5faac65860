use Rattle.std.proofs.Common.{refl}
use Rattle.host_serve.specs.Serve.{NoRoom, SourceFailed, TooLong, fed_through, made_through}
use Rattle.host_serve.proofs.Ends.{read-end, read-script}
use Rattle.host_serve.proofs.serving.read_input.Goals as goal

pub returns-in_default-clause-end : goal.returns-in_default-clause-end
returns-in_default-clause-end g c = λ how audit. NoRoom tt refl refl

pub returns-in-Whole-clause-script : goal.returns-in-Whole-clause-script
returns-in-Whole-clause-script g c =
    read-script c.script_of.result c.in-Whole.text.items _ _ _ c.deref.ensures.value c.in-Whole.ensures.bytes c.script_of.ensures.script

pub returns-in-Whole-clause-end : goal.returns-in-Whole-clause-end
returns-in-Whole-clause-end g c =
    read-end c.script_of.result c.in-Whole.text.items _ (fed_through c.args.source.now) (fed_through c.read_all.new.source)
    (made_through c.args.sink.now) (made_through c.script_of.new.sink) c.deref.ensures.value c.in-Whole.ensures.bytes c.script_of.ensures.end

pub returns-in-TooLarge-clause-end : goal.returns-in-TooLarge-clause-end
returns-in-TooLarge-clause-end g c = λ how audit. TooLong c.in-TooLarge.ensures.bytes (c.refuse.ensures.end audit)

pub returns-in-Fault-clause-end : goal.returns-in-Fault-clause-end
returns-in-Fault-clause-end g c = λ how audit. SourceFailed refl c.in-Fault.ensures.cause.1 c.in-Fault.ensures.bytes refl
