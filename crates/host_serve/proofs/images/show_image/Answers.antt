use Rattle.std.proofs.Common.{refl, subst}
use Rattle.tbl_file.specs.Image.{image_fault}
use Rattle.host_serve.specs.Serve.{EndsShown, NoRoom, Read, SourceFailed, TooLong, made_through}
use Rattle.host_serve.proofs.images.show_image.Goals as goal

pub returns-in_default-clause-end : goal.returns-in_default-clause-end
returns-in_default-clause-end g c = λ audit. NoRoom tt refl refl

pub returns-in-Whole-clause-end : goal.returns-in-Whole-clause-end
returns-in-Whole-clause-end g c = λ audit.
    Read c.in-Whole.file.items c.in-Whole.ensures.bytes
    (subst (λ b. EndsShown c.show_file.result (image_fault b) b (made_through c.args.sink.now audit) (made_through c.show_file.new.sink audit)) c.deref.ensures.value (c.show_file.ensures.end audit))

pub returns-in-TooLarge-clause-end : goal.returns-in-TooLarge-clause-end
returns-in-TooLarge-clause-end g c = λ audit. TooLong c.in-TooLarge.ensures.bytes (c.refuse_image.ensures.end audit)

pub returns-in-Fault-clause-end : goal.returns-in-Fault-clause-end
returns-in-Fault-clause-end g c = λ audit. SourceFailed refl c.in-Fault.ensures.cause.1 c.in-Fault.ensures.bytes refl
