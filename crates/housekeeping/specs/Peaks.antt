-- The numbers in use of a software bus, and their peaks (cFE Software Bus, statistics telemetry).
use Rattle.std.specs.Prelude.{ℕ, max, List, [], ◌∷◌, map}
use Rattle.housekeeping.specs.declared.in_use.InUse.{InUse}

-- nothing is in use
abbrev pub nothing_in_use : InUse
nothing_in_use = record { msgids = 0; pipes = 0; subs = 0; buffers = 0; bytes = 0 }

-- the greater one of two of each number
abbrev pub greater : InUse → InUse → InUse
greater one other = record {
  msgids = max one.msgids other.msgids;
  pipes = max one.pipes other.pipes;
  subs = max one.subs other.subs;
  buffers = max one.buffers other.buffers;
  bytes = max one.bytes other.bytes;
}

-- the greatest of some numbers, 0 if there is none
abbrev pub greatest : List ℕ → ℕ
greatest [] = 0
greatest (number ∷ numbers) = max number (greatest numbers)

-- the peaks of what was in use, one time after the other: of each number by itself the greatest
-- that it ever was
abbrev pub peak_of : List InUse → InUse
peak_of uses = record {
  msgids = greatest (map (λ now. now.msgids) uses);
  pipes = greatest (map (λ now. now.pipes) uses);
  subs = greatest (map (λ now. now.subs) uses);
  buffers = greatest (map (λ now. now.buffers) uses);
  bytes = greatest (map (λ now. now.bytes) uses);
}
