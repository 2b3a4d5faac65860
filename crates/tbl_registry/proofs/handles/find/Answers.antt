use Rattle.std.proofs.Common.{Some, refl, sym, ap, ◌∙◌}
use Rattle.tbl_registry.proofs.HandleNumbers.{found, missed}
use Rattle.tbl_registry.proofs.handles.find.Goals as goal

pub returns-in-Some : goal.returns-in-Some
returns-in-Some c =
    ap Some c.index-handles-place.is
    ∙ sym (found c.args.handles.now c.args.number c.in-Some.place c.index-handles-place.result c.requires c.in-Some.ensures.some)

pub returns-in-None : goal.returns-in-None
returns-in-None c = sym (missed c.args.handles.now c.args.number (c.in-None.ensures.none refl))
