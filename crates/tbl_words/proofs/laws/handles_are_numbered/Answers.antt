use Rattle.tbl_words.proofs.Numbers.{numbers_are_new, counts_never_fall}
use Rattle.tbl_words.proofs.Orders.{handles_rise, handles_were_made}
use Rattle.tbl_words.proofs.laws.handles_are_numbered.Goals as goal

pub returns : goal.returns
returns c = record { rise = handles_rise; made = handles_were_made; new = numbers_are_new; counted = counts_never_fall }
