use Rattle.std.proofs.Common.{refl, subst}
use Rattle.host_serve.specs.Serve.{EndsPacked, NoRoom, Read, SourceFailed, TooLong, made_through}
use Rattle.host_serve.proofs.images.pack.Goals as goal

pub returns-in_default-clause-end : goal.returns-in_default-clause-end
returns-in_default-clause-end g c = λ audit. NoRoom tt refl refl

pub returns-in-Whole-clause-end : goal.returns-in-Whole-clause-end
returns-in-Whole-clause-end g c = λ audit.
    let head = c.args.head.now in
    Read c.in-Whole.bytes.items c.in-Whole.ensures.bytes
    (subst (λ b. EndsPacked c.pack_bytes.result head.name.now head.offset head.sub b (made_through c.args.sink.now audit) (made_through c.pack_bytes.new.sink audit)) c.deref.ensures.value (c.pack_bytes.ensures.end audit))

pub returns-in-TooLarge-clause-end : goal.returns-in-TooLarge-clause-end
returns-in-TooLarge-clause-end g c = λ audit. TooLong c.in-TooLarge.ensures.bytes (c.refuse_image.ensures.end audit)

pub returns-in-Fault-clause-end : goal.returns-in-Fault-clause-end
returns-in-Fault-clause-end g c = λ audit. SourceFailed refl c.in-Fault.ensures.cause.1 c.in-Fault.ensures.bytes refl
