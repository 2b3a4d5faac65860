use Rattle.tbl_words.proofs.Accounts.{registrations_draw, leaving_returns}
use Rattle.tbl_words.proofs.laws.blocks_go_by_tables.Goals as goal

pub returns : goal.returns
returns c = record { draws = registrations_draw; returns = leaving_returns }
