use Rattle.std.proofs.Common.{arith}
use Rattle.tbl_registry.proofs.registry.Registry.handles.Goals as goal

pub overflow_cast-result : goal.overflow_cast-result
overflow_cast-result c =
    let r = c.self.inside in
    omega (arith, c.len.ensures, r.handles.ok.0, c.self.invariant.0.tied.handles_few, c.self.invariant.4)
