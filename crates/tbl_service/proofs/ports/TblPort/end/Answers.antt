use Rattle.std.proofs.Common.{◌∙◌, ap₂}
use Rattle.tbl_words.specs.Tables.{has_ended}
use Rattle.tbl_load.specs.Core.{state_of}
use Rattle.tbl_service.proofs.Standings.{ends}
use Rattle.tbl_service.proofs.ports.TblPort.end.Goals as goal

pub returns-clause-ended : goal.returns-clause-ended
returns-clause-ended g c =
    let a = c.visit.ensures.answers in
    ap₂ (λ s n. has_ended s n) a.does.state a.app ∙ ends a.between.limits (state_of a.between) c.args.self.now.app
