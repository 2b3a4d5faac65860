use Rattle.std.proofs.Common.{sym, arith}
use Rattle.std.proofs.lemmas.List.{length-take-le, take_all}
use Rattle.evs_events.specs.declared.line.TheConstants.{MAX_TEXT}
use Rattle.evs_events.proofs.line.cut.Goals as goal

pub slice_bounds-result-end : goal.slice_bounds-result-end
slice_bounds-result-end c = sym (length-take-le MAX_TEXT c.args.text.now (omega arith))

pub returns-then-text-gt-MAX_TEXT-clause-fits : goal.returns-then-text-gt-MAX_TEXT-clause-fits
returns-then-text-gt-MAX_TEXT-clause-fits c = omega (arith, length-take-le MAX_TEXT c.args.text.now (omega arith))

pub returns-else-text-gt-MAX_TEXT-clause-front : goal.returns-else-text-gt-MAX_TEXT-clause-front
returns-else-text-gt-MAX_TEXT-clause-front c = sym (take_all MAX_TEXT c.args.text.now (omega arith))
