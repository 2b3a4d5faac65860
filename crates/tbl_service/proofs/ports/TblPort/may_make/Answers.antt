use Rattle.std.proofs.Common.{◌↔◌, IsTrue, subst}
use Rattle.tbl_words.specs.Entries.{call_of}
use Rattle.tbl_load.specs.Core.{MayCall}
use Rattle.tbl_service.specs.Ports.{PortView}
use Rattle.tbl_service.proofs.PermitTests.{permitted}
use Rattle.tbl_service.proofs.ports.TblPort.may_make.Goals as goal

pub returns : goal.returns
returns c =
    let call = call_of c.args.call.now in
    let port = c.self.inside.port in
    let told = c.permits.result.now in
    subst (λ (p : PortView). IsTrue c.is_permitted.result ↔ MayCall p.seen p.app call) c.self.view_is
    (permitted port.seen port.app call told.may_end c.is_permitted.result told.left c.permits.ensures.end c.permits.ensures.left c.is_permitted.ensures)
