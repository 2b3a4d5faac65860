use Rattle.std.proofs.Common.{◌<◌, ◌^◌, Result, subst, arith}
use Rattle.tbl_words.specs.declared.statuses.TblStatus.{TblStatus}
use Rattle.table_core.specs.declared.answers.PlainAddress.{PlainAddress}
use Rattle.table_core.specs.Answers.{plain_addressed}
use Rattle.tbl_load.proofs.Versions.{version_in, address_few}
use Rattle.tbl_load.proofs.short.get_address.Goals as goal

pub overflow_cast-result : goal.overflow_cast-result
overflow_cast-result c =
    let small : c.in-Ok.address.version < 2 ^ 32 =
    subst (λ (r : Result PlainAddress TblStatus). version_in (plain_addressed r) < 2 ^ 32) c.in-Ok.is
    (address_few c.args.core.now.limits c.args.core.now.state c.args.app c.args.handle c.requires.few (plain_addressed c.get_address.result) c.get_address.new.self.state c.get_address.ensures.does.made) in
    omega (arith, small)
