use Rattle.std.proofs.Common.{ap, ◌∙◌}
use Rattle.fsw_base.specs.Limits.{limits_of}
use Rattle.table_core.proofs.NewCores.{with_sizes, opened_plain, opened_keeps}
use Rattle.table_core.proofs.plain.PlainTables.new.Goals as goal

pub invariant_of-result : goal.invariant_of-result
invariant_of-result c =
    let limits = limits_of c.args.cfg.now in
    opened_keeps (record { config = c.again.result; ended = c.in_ok-none_ended.field-0; registry = c.in_ok-new.field-0; blocks = c.in_ok-new-2.field-0 })
    limits c.args.apps c.again.ensures c.in_ok-none_ended.ensures c.in_ok-new.ensures (c.in_ok-new-2.ensures ∙ ap (with_sizes limits) c.again-2.ensures)

pub returns : goal.returns
returns c =
    let limits = limits_of c.args.cfg.now in
    opened_plain (record { config = c.again.result; ended = c.in_ok-none_ended.field-0; registry = c.in_ok-new.field-0; blocks = c.in_ok-new-2.field-0 })
    limits c.args.apps c.again.ensures c.in_ok-none_ended.ensures c.in_ok-new.ensures (c.in_ok-new-2.ensures ∙ ap (with_sizes limits) c.again-2.ensures)
