use Rattle.tbl_words.proofs.Holds.{holds_stay, addresses_hold}
use Rattle.tbl_words.proofs.laws.held_tables_stay.Goals as goal

pub returns : goal.returns
returns c = record { stay = holds_stay; present = addresses_hold }
