use Rattle.std.proofs.Common.{◌≡◌, length, arith}
use Rattle.std.proofs.lemmas.Bool.Decides.{nat_tests}
use Rattle.bridge_plan.proofs.PartLaws.{no_marks}
use Rattle.bridge_plan.proofs.parts.count_marks.Goals as goal

pub returns : goal.returns
returns c =
    let none : length c.loop-rest.rest.now ≡ 0 = grind (arith, nat_tests) in
    omega (arith, no_marks c.loop-rest.rest.now none, c.loop-rest.invariant.count)
