use Rattle.std.proofs.Common.{ap, ◌∙◌}
use Rattle.tbl_registry.specs.Inside.{shelf_of}
use Rattle.tbl_registry.proofs.Shelves.{none_shelf}
use Rattle.tbl_registry.proofs.shelf.Shelf.new.Goals as goal

pub returns : goal.returns
returns c = ap (shelf_of c.in_ok-slab.slab) c.in_ok-at.ensures ∙ none_shelf c.in_ok-slab.slab c.args.places
