use Rattle.fsw_base.specs.Limits.{limits_of}
use Rattle.bus_core.proofs.NewCores.{opened_plain, opened_keeps}
use Rattle.bus_core.proofs.plain.PlainBus.new.Goals as goal

pub invariant_of-result : goal.invariant_of-result
invariant_of-result c =
    opened_keeps (record { config = c.again.result; activities = c.in_ok-all_active.field-0; store = c.in_ok-new-3.field-0; pools = c.in_ok-new.field-0; records = c.in_ok-new-2.field-0 })
    (limits_of c.args.cfg.now) c.args.apps c.again.ensures c.in_ok-all_active.ensures c.in_ok-new-3.ensures c.in_ok-new.ensures c.in_ok-new-2.ensures

pub returns : goal.returns
returns c =
    opened_plain (record { config = c.again.result; activities = c.in_ok-all_active.field-0; store = c.in_ok-new-3.field-0; pools = c.in_ok-new.field-0; records = c.in_ok-new-2.field-0 })
    (limits_of c.args.cfg.now) c.args.apps c.again.ensures c.in_ok-all_active.ensures c.in_ok-new-3.ensures c.in_ok-new.ensures c.in_ok-new-2.ensures
