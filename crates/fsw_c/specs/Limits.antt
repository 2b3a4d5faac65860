-- The limits that a program in C gives, and the core that it gets.
use Rattle.std.specs.Prelude.{◌≡◌, ℕ, ◌&&◌, Bool, nat_le, List, [], filter}
use Rattle.fsw_base.specs.Blocks.{usual_sizes}
use Rattle.fsw_base.specs.Limits.{Limits}
use Rattle.checked_bus.specs.Box.{opened, empty_bags}
use Rattle.checked_tables.specs.Box.{opened as opened_tables, empty_bags as empty_table_bags}
use Rattle.fsw_core.specs.declared.Core.{Core}
use Rattle.fsw_c.specs.declared.limits.FswLimits.{FswLimits}

-- the usual block sizes of so many bytes or more
abbrev pub sizes_from : ℕ → List ℕ
sizes_from least = filter (λ size. nat_le least size) usual_sizes

-- the limits given, with each sequence count at 0
abbrev pub limits_in : FswLimits → Limits
limits_in given = record {
  msgids = given.msgids;
  pipes = given.pipes;
  dests = given.dests;
  depth = given.depth;
  msgmax = given.msgmax;
  pool = given.pool;
  apppool = given.apppool;
  tables = given.tables;
  handles = given.handles;
  tablemax = given.tablemax;
  tablepool = given.tablepool;
  sizes = sizes_from given.blockmin;
  starts = [];
  version = given.version;
}

-- a number is in a range
abbrev pub is_in : ℕ → ℕ → ℕ → Bool
is_in least number most = nat_le least number && nat_le number most

-- the limits of the bus are in their ranges
abbrev pub are_bus_limits : FswLimits → Bool
are_bus_limits given =
    is_in 1 given.msgids 1024 && is_in 1 given.pipes 256 && is_in 1 given.dests 64 &&
    is_in 1 given.depth 1024 && is_in 7 given.msgmax 65542 && is_in 24 given.pool 16777216 &&
    is_in 24 given.apppool 1048576 && is_in 1 given.version 2

-- all other limits are
abbrev pub are_other_limits : FswLimits → Bool
are_other_limits given =
    is_in 1 given.apps 16 && nat_le given.buffers 65535 && is_in 1 given.tables 256 &&
    is_in 1 given.handles 1024 && is_in 1 given.tablemax 65536 &&
    is_in 24 given.tablepool 16777216 && nat_le given.blockmin 80000

-- each limit is in its range
abbrev pub are_limits : FswLimits → Bool
are_limits given = are_bus_limits given && are_other_limits given

-- no call was made of the bus and the tables, which serve as many applications as given; and each
-- application has an empty bag for as much as the limits say
pub record IsNewCore (given : FswLimits) (core : Core) : Type 0 where
  pub bus : core.bus.core ≡ opened (limits_in given) given.apps
  pub tables : core.tables.core ≡ opened_tables (limits_in given) given.apps
  pub bags : core.bus.bags ≡ empty_bags given.apps given.pipes given.buffers
  pub table_bags : core.tables.bags ≡ empty_table_bags given.apps given.handles
