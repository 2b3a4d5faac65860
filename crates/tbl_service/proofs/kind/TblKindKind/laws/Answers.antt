use Rattle.tbl_service.proofs.Laws.{table_laws}
use Rattle.tbl_service.proofs.kind.TblKindKind.laws.Goals as goal

pub returns : goal.returns
returns c = table_laws
