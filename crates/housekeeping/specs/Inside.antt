-- What the fields of `Counters` stand for.
use Rattle.std.specs.Prelude.{ℕ, List, slice_index}
use Rattle.housekeeping.specs.Counters.{Counts}

-- the numbers of an array as counts, in the order of the counters
abbrev pub counts_in : List ℕ → Counts
counts_in numbers = record {
  nosub = slice_index numbers 0;
  send = slice_index numbers 1;
  recv = slice_index numbers 2;
  create = slice_index numbers 3;
  sub = slice_index numbers 4;
  opts = slice_index numbers 5;
  find = slice_index numbers 6;
  dup = slice_index numbers 7;
  limit = slice_index numbers 8;
  overflow = slice_index numbers 9;
  oldest = slice_index numbers 10;
}
