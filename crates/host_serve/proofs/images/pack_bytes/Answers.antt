use Rattle.std.proofs.Common.{rules}
use Rattle.host_serve.specs.Serve.{made_through}
use Rattle.host_serve.proofs.Ends.{packed-some}
use Rattle.host_serve.proofs.images.pack_bytes.Goals as goal

pub returns-clause-end : goal.returns-clause-end
returns-clause-end g c = λ audit.
    let head = c.args.head.now in
    packed-some c.write_packed.result head.name.now head.offset head.sub c.args.bytes.now (made_through c.args.sink.now audit) (made_through c.write_packed.new.sink audit)
    (search rules) (c.write_packed.ensures.end audit)
