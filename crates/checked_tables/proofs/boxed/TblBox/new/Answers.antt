use Rattle.fsw_base.specs.Limits.{limits_of}
use Rattle.checked_tables.proofs.Openings.{kept-new}
use Rattle.checked_tables.proofs.boxed.TblBox.new.Goals as goal

pub invariant_of-result : goal.invariant_of-result
invariant_of-result c = kept-new (limits_of c.args.cfg.now) c.args.apps c.in_ok-core.core c.in_ok-bags.bags.items c.requires.apps c.in_ok-core.ensures c.in_ok-bags.ensures
