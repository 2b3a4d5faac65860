use Rattle.std.proofs.Common.{ap, sym, ◌∙◌}
use Rattle.journal_store.specs.Budgets.{allowance_of}
use Rattle.tbl_words.specs.Log.{left_of}
use Rattle.tbl_service.specs.Ports.{PortView, left_by}
use Rattle.tbl_service.proofs.Openings.{own_left}
use Rattle.tbl_service.proofs.ports.TblPort.bytes_left.Goals as goal

pub returns-clause-asked : goal.returns-clause-asked
returns-clause-asked c = ap (λ a. a.bytes) c.permits.ensures.left ∙ ap (λ (p : PortView). (allowance_of (left_of p.seen.log) p.app).bytes) c.self.view_is

pub returns-clause-own : goal.returns-clause-own
returns-clause-own c =
    let port = c.self.inside.port in
    ap (λ a. a.bytes) (c.permits.ensures.left ∙ sym (own_left port.seen port.app port.mine c.recall.ensures.first c.recall.ensures.known c.recall.ensures.called c.recall.ensures.mine))
    ∙ ap (λ (p : PortView). (allowance_of (left_by p.seen p.mine) p.app).bytes) c.self.view_is
