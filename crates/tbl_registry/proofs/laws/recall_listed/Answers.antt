use Rattle.tbl_registry.proofs.Listings.{finds_alike, new_handle_listed, new_table_listed, leaves_listed}
use Rattle.tbl_registry.proofs.HandleDrops.{drop_leaves, handles_go_on}
use Rattle.tbl_registry.proofs.laws.recall_listed.Goals as goal

pub returns-clause-found : goal.returns-clause-found
returns-clause-found c = finds_alike

pub returns-clause-handles : goal.returns-clause-handles
returns-clause-handles c = new_handle_listed

pub returns-clause-tables : goal.returns-clause-tables
returns-clause-tables c = new_table_listed

pub returns-clause-leaves : goal.returns-clause-leaves
returns-clause-leaves c = leaves_listed

pub returns-clause-drops : goal.returns-clause-drops
returns-clause-drops c = drop_leaves

pub returns-clause-had : goal.returns-clause-had
returns-clause-had c = handles_go_on
