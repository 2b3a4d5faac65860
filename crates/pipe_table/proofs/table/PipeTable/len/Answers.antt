-- The places that aren't free have the live pipes.
use Rattle.std.proofs.Common.{length, ap, arith}
use Rattle.pipe_table.specs.Table.{Pipes}
use Rattle.pipe_table.proofs.NumberedPipes.{live_many}
use Rattle.pipe_table.proofs.table.PipeTable.len.Goals as goal

pub returns : goal.returns
returns c =
    let a = c.self.inside in
    let many = live_many 0 a.places.items a.live.items a.at.items c.self.invariant.0.filed in
    omega (arith, many, c.self.invariant.0.all, c.len.ensures, c.len-2.ensures, a.places.ok.0, a.free.ok.0, ap (λ (t : Pipes). length t.live) c.self.view_is)
