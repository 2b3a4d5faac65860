use Rattle.tbl_words.proofs.Leaves.{leaves_add_up}
use Rattle.tbl_words.proofs.laws.leaves_add_up.Goals as goal

pub returns : goal.returns
returns c = leaves_add_up
