use Rattle.std.proofs.Common.{Some, ap, ◌∙◌, arith}
use Rattle.es_pool.specs.declared.blocks.ClassStats.{ClassStats}
use Rattle.checked_bus.proofs.Classes.{class_there, class_past}
use Rattle.checked_bus.proofs.pools.class_in.Goals as goal

pub returns-then-place-classes : goal.returns-then-place-classes
returns-then-place-classes c = λ grants is. ap (λ (it : ClassStats). Some it) c.class.ensures ∙ class_there c.args.pool.now grants c.args.place is (omega (arith, c.if-place-classes.true, c.classes.ensures))

pub returns : goal.returns
returns c = λ grants is. class_past c.args.pool.now grants c.args.place is (omega (arith, c.if-place-classes.false, c.classes.ensures))
