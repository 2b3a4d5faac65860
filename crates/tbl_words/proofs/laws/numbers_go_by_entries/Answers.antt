use Rattle.tbl_words.proofs.Bounds.{handles_go_by_entries, versions_go_by_entries}
use Rattle.tbl_words.proofs.laws.numbers_go_by_entries.Goals as goal

pub returns : goal.returns
returns c = record { handles = handles_go_by_entries; versions = versions_go_by_entries }
