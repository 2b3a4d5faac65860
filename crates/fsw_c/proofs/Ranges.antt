-- Limits in their ranges, one by one.
use Rattle.std.proofs.Common.{◌≡◌, ℕ, ◌≤◌, ◌&&◌, Bool, true, false, leb, true≢false, refl, sym, arith}
use Rattle.std.proofs.lemmas.Bool.Decides.{nat_tests}
use Rattle.fsw_c.specs.declared.limits.FswLimits.{FswLimits}
use Rattle.fsw_c.specs.Limits.{is_in, are_bus_limits, are_other_limits}

split : (a b : Bool) → (a && b) ≡ true → (a ≡ true) × (b ≡ true)
split true b is = (refl, is)
split false b never = absurd (true≢false (sym never))

at-most : (a b : ℕ) → leb a b ≡ true → a ≤ b
at-most a b is = grind (arith, nat_tests)

in-range : (least number most : ℕ) → is_in least number most ≡ true → (least ≤ number) × (number ≤ most)
in-range least number most is =
    let both = split (leb least number) (leb number most) is in
    (at-most least number both.0, at-most number most both.1)

pub record BusRanges (g : FswLimits) : Type 0 where
  pub msgids : (1 ≤ g.msgids) × (g.msgids ≤ 1024)
  pub pipes : (1 ≤ g.pipes) × (g.pipes ≤ 256)
  pub dests : (1 ≤ g.dests) × (g.dests ≤ 64)
  pub depth : (1 ≤ g.depth) × (g.depth ≤ 1024)
  pub msgmax : (7 ≤ g.msgmax) × (g.msgmax ≤ 65542)
  pub pool : (24 ≤ g.pool) × (g.pool ≤ 16777216)
  pub apppool : (24 ≤ g.apppool) × (g.apppool ≤ 1048576)
  pub version : (1 ≤ g.version) × (g.version ≤ 2)

pub bus-ranges : (g : FswLimits) → are_bus_limits g ≡ true → BusRanges g
bus-ranges g is =
    let b0 = is_in 1 g.msgids 1024 in
    let b1 = is_in 1 g.pipes 256 in
    let b2 = is_in 1 g.dests 64 in
    let b3 = is_in 1 g.depth 1024 in
    let b4 = is_in 7 g.msgmax 65542 in
    let b5 = is_in 24 g.pool 16777216 in
    let b6 = is_in 24 g.apppool 1048576 in
    let b7 = is_in 1 g.version 2 in
    let s7 = split (b0 && b1 && b2 && b3 && b4 && b5 && b6) b7 is in
    let s6 = split (b0 && b1 && b2 && b3 && b4 && b5) b6 s7.0 in
    let s5 = split (b0 && b1 && b2 && b3 && b4) b5 s6.0 in
    let s4 = split (b0 && b1 && b2 && b3) b4 s5.0 in
    let s3 = split (b0 && b1 && b2) b3 s4.0 in
    let s2 = split (b0 && b1) b2 s3.0 in
    let s1 = split (b0) b1 s2.0 in
    record {
      msgids = in-range 1 g.msgids 1024 s1.0;
      pipes = in-range 1 g.pipes 256 s1.1;
      dests = in-range 1 g.dests 64 s2.1;
      depth = in-range 1 g.depth 1024 s3.1;
      msgmax = in-range 7 g.msgmax 65542 s4.1;
      pool = in-range 24 g.pool 16777216 s5.1;
      apppool = in-range 24 g.apppool 1048576 s6.1;
      version = in-range 1 g.version 2 s7.1;
    }

pub record OtherRanges (g : FswLimits) : Type 0 where
  pub apps : (1 ≤ g.apps) × (g.apps ≤ 16)
  pub tables : (1 ≤ g.tables) × (g.tables ≤ 256)
  pub handles : (1 ≤ g.handles) × (g.handles ≤ 1024)
  pub tablemax : (1 ≤ g.tablemax) × (g.tablemax ≤ 65536)
  pub tablepool : (24 ≤ g.tablepool) × (g.tablepool ≤ 16777216)
  pub blockmin : g.blockmin ≤ 80000

pub other-ranges : (g : FswLimits) → are_other_limits g ≡ true → OtherRanges g
other-ranges g is =
    let b0 = is_in 1 g.apps 16 in
    let b1 = leb g.buffers 65535 in
    let b2 = is_in 1 g.tables 256 in
    let b3 = is_in 1 g.handles 1024 in
    let b4 = is_in 1 g.tablemax 65536 in
    let b5 = is_in 24 g.tablepool 16777216 in
    let b6 = leb g.blockmin 80000 in
    let s6 = split (b0 && b1 && b2 && b3 && b4 && b5) b6 is in
    let s5 = split (b0 && b1 && b2 && b3 && b4) b5 s6.0 in
    let s4 = split (b0 && b1 && b2 && b3) b4 s5.0 in
    let s3 = split (b0 && b1 && b2) b3 s4.0 in
    let s2 = split (b0 && b1) b2 s3.0 in
    let s1 = split (b0) b1 s2.0 in
    record {
      apps = in-range 1 g.apps 16 s1.0;
      tables = in-range 1 g.tables 256 s2.1;
      handles = in-range 1 g.handles 1024 s3.1;
      tablemax = in-range 1 g.tablemax 65536 s4.1;
      tablepool = in-range 24 g.tablepool 16777216 s5.1;
      blockmin = at-most g.blockmin 80000 s6.1;
    }
