use Rattle.std.proofs.Common.{arith}
use Rattle.std.proofs.lemmas.Fmt.{length-decimal-le}
use Rattle.bus_events.proofs.text.recall_digits.Goals as goal

-- a number of 32 bits is below ten to the tenth
pub returns : goal.returns
returns c =
    let fits = c.ranges.number.fits in
    length-decimal-le 10 c.args.number (omega arith) (omega (arith, fits)) (omega (arith, fits))
