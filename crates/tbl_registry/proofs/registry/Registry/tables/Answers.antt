use Rattle.std.proofs.Common.{length, ap, arith}
use Rattle.tbl_registry.specs.Listing.{Listing}
use Rattle.tbl_registry.proofs.Places.{many}
use Rattle.tbl_registry.proofs.registry.Registry.tables.Goals as goal

pub returns : goal.returns
returns c =
    let r = c.self.inside in
    omega (arith, c.len.ensures, r.keys.ok.0, many r.shelf r.keys.items c.self.invariant.0.filed, ap (λ (l : Listing). length l.tables) c.self.view_is)
