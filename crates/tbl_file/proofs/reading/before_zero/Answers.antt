use Rattle.std.proofs.Common.{sym, ◌∙◌}
use Rattle.tbl_file.proofs.ImageLemmas.{zero_at, no_zero}
use Rattle.tbl_file.proofs.reading.before_zero.Goals as goal

pub returns-in-Some : goal.returns-in-Some
returns-in-Some c = zero_at c.args.field.now c.in-Some.end (sym c.first_zero.ensures ∙ c.in-Some.is)

pub returns-in-None : goal.returns-in-None
returns-in-None c = no_zero c.args.field.now (sym c.first_zero.ensures ∙ c.in-None.is)
