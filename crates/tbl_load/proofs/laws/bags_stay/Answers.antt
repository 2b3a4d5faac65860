use Rattle.tbl_load.proofs.OpeningBags.{opens}
use Rattle.tbl_load.proofs.OthersBags.{others_keep, others_behind, called_by, called_further}
use Rattle.tbl_load.proofs.BagViews.{shown}
use Rattle.tbl_load.proofs.laws.bags_stay.Goals as goal

pub returns-clause-opens : goal.returns-clause-opens
returns-clause-opens c = opens

pub returns-clause-shown : goal.returns-clause-shown
returns-clause-shown c = shown

pub returns-clause-other_bags : goal.returns-clause-other_bags
returns-clause-other_bags c = others_keep

pub returns-clause-behind : goal.returns-clause-behind
returns-clause-behind c = others_behind

pub returns-clause-called : goal.returns-clause-called
returns-clause-called c = called_by

pub returns-clause-further : goal.returns-clause-further
returns-clause-further c = called_further
