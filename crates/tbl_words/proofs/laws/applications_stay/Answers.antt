use Rattle.tbl_words.proofs.Ends.{applications_stay}
use Rattle.tbl_words.proofs.laws.applications_stay.Goals as goal

pub returns : goal.returns
returns c = applications_stay
