-- The limits of a run, as the definitions of the bus and the tables read them.
use Rattle.std.specs.Prelude.{ℕ, List, []}
use Rattle.fsw_base.specs.Blocks.{usual_sizes}
use Rattle.fsw_base.specs.declared.config.Config.{Config}

pub record Limits : Type 0 where
  -- how many message ids may have a route
  pub msgids : ℕ
  -- how many pipes may be live at once
  pub pipes : ℕ
  -- how many subscriptions a message id may have
  pub dests : ℕ
  -- the greatest depth of a pipe
  pub depth : ℕ
  -- the largest message, in bytes
  pub msgmax : ℕ
  -- the bytes of the bus's pool, and the most that an application's may have
  pub pool : ℕ
  pub apppool : ℕ
  -- how many tables and handles there may be, the largest table and the tables' pool in bytes
  pub tables : ℕ
  pub handles : ℕ
  pub tablemax : ℕ
  pub tablepool : ℕ
  -- the block sizes of every pool
  pub sizes : List ℕ
  -- message ids and the sequence counts at which they start
  pub starts : List (ℕ × ℕ)
  -- the version of the bus, 1 or 2
  pub version : ℕ

-- the limits of a configuration
abbrev pub limits_of : Config → Limits
limits_of c = record {
  msgids = c.msgids;
  pipes = c.pipes;
  dests = c.dests;
  depth = c.depth;
  msgmax = c.msgmax;
  pool = c.pool;
  apppool = c.apppool;
  tables = c.tables;
  handles = c.handles;
  tablemax = c.tablemax;
  tablepool = c.tablepool;
  sizes = c.sizes;
  starts = c.starts;
  version = c.version;
}

-- the limits if nothing is configured
abbrev pub usual_limits : Limits
usual_limits = record {
  msgids = 256;
  pipes = 64;
  dests = 16;
  depth = 256;
  msgmax = 32768;
  pool = 524288;
  apppool = 65536;
  tables = 128;
  handles = 256;
  tablemax = 16384;
  tablepool = 524288;
  sizes = usual_sizes;
  starts = [];
  version = 1;
}
