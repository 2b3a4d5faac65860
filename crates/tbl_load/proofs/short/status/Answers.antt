use Rattle.std.proofs.Common.{◌<◌, ◌^◌, Result, subst, arith}
use Rattle.tbl_words.specs.declared.statuses.TblStatus.{TblStatus}
use Rattle.table_core.specs.declared.answers.PlainState.{PlainState}
use Rattle.table_core.specs.Answers.{plain_figures_told}
use Rattle.tbl_load.proofs.Versions.{version_in, status_few}
use Rattle.tbl_load.proofs.short.status.Goals as goal

pub overflow_cast-result : goal.overflow_cast-result
overflow_cast-result c =
    let small : c.in-Ok.figures.version < 2 ^ 32 =
    subst (λ (r : Result PlainState TblStatus). version_in (plain_figures_told r) < 2 ^ 32) c.in-Ok.is
    (status_few c.args.core.now.limits c.args.core.now.state c.args.app c.args.handle c.requires.few (plain_figures_told c.status.result) c.args.core.now.state c.status.ensures.made) in
    omega (arith, small)
