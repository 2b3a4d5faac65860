use Rattle.tbl_words.proofs.Ties.{handles_have_tables, owners_register}
use Rattle.tbl_words.proofs.Orders.{tables_have_handles}
use Rattle.tbl_words.proofs.laws.handles_have_tables.Goals as goal

pub returns : goal.returns
returns c = record { there = handles_have_tables; kept = tables_have_handles; owners = owners_register }
