use Rattle.std.proofs.Common.{refl, subst}
use Rattle.report_check.specs.Parts.{parts_in}
use Rattle.host_serve.specs.Serve.{EndsParts, NoRoom, Read, SourceFailed, TooLong, made_through}
use Rattle.host_serve.proofs.checking.check_input.Goals as goal

pub returns-in_default-clause-end : goal.returns-in_default-clause-end
returns-in_default-clause-end g c = λ audit. NoRoom tt refl refl

pub returns-in-Whole-clause-end : goal.returns-in-Whole-clause-end
returns-in-Whole-clause-end g c = λ audit.
    Read c.in-Whole.input.items c.in-Whole.ensures.bytes
    (subst (λ b. EndsParts c.check_parts.result (parts_in b) (made_through c.args.sink.now audit) (made_through c.check_parts.new.sink audit)) c.deref.ensures.value (c.check_parts.ensures.end audit))

pub returns-in-TooLarge-clause-end : goal.returns-in-TooLarge-clause-end
returns-in-TooLarge-clause-end g c = λ audit. TooLong c.in-TooLarge.ensures.bytes (c.refuse.ensures.end audit)

pub returns-in-Fault-clause-end : goal.returns-in-Fault-clause-end
returns-in-Fault-clause-end g c = λ audit. SourceFailed refl c.in-Fault.ensures.cause.1 c.in-Fault.ensures.bytes refl
