use Rattle.std.proofs.Common.{sym, ◌∙◌}
use Rattle.fsw_c.proofs.Ranges.{bus-ranges, other-ranges}
use Rattle.fsw_c.proofs.limits.config_of.Goals as goal

pub invariant_of-result : goal.invariant_of-result
invariant_of-result c =
    let bus = bus-ranges c.args.limits.now (sym c.are_bus_limits.ensures ∙ c.if-not-are_bus_limits.false) in
    let other = other-ranges c.args.limits.now (sym c.are_other_limits.ensures ∙ c.if-not-are_other_limits.false) in
    record {
      msgids_in_range = bus.msgids;
      pipes_in_range = bus.pipes;
      dests_in_range = bus.dests;
      depth_in_range = bus.depth;
      msgmax_in_range = bus.msgmax;
      pool_in_range = bus.pool;
      apppool_in_range = bus.apppool;
      tables_in_range = other.tables;
      handles_in_range = other.handles;
      tablemax_in_range = other.tablemax;
      tablepool_in_range = other.tablepool;
      version_in_range = bus.version;
    }

pub returns-clause-apps : goal.returns-clause-apps
returns-clause-apps c = (other-ranges c.args.limits.now (sym c.are_other_limits.ensures ∙ c.if-not-are_other_limits.false)).apps.1
