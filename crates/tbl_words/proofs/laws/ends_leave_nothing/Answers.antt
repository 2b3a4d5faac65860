use Rattle.tbl_words.proofs.Ends.{owners_end, ends_leave_nothing}
use Rattle.tbl_words.proofs.Orders.{tables_have_handles}
use Rattle.tbl_words.proofs.laws.ends_leave_nothing.Goals as goal

pub returns : goal.returns
returns c = record {
  owners = owners_end;
  nothing = λ limits apps history legal over. ends_leave_nothing limits apps history legal over (tables_have_handles limits apps history);
}
