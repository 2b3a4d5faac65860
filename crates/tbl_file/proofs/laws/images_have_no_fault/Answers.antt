use Rattle.tbl_file.proofs.ImageLemmas.{no_fault}
use Rattle.tbl_file.proofs.laws.images_have_no_fault.Goals as goal

pub returns : goal.returns
returns c = no_fault
