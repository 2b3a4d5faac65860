-- The housekeeping packet of a software bus: telemetry in a space packet (CCSDS 133.0-B-2, 4.1).
-- Numbers are big-endian.
use Rattle.std.specs.Prelude.{ℕ, List, [], ◌∷◌, ◌++◌, flat_map}
use Rattle.byteorder.specs.Endian.{big_bytes}
use Rattle.ccsds_msg.specs.Message.{header_bytes}
use Rattle.housekeeping.specs.declared.in_use.InUse.{InUse}
use Rattle.housekeeping.specs.Counters.{Counts}

-- 4.1.3.3: the packet's id: telemetry, with the flag of a secondary header, of application process
-- 3
abbrev pub housekeeping_id : ℕ
housekeeping_id = 0x0803

-- the ten counts that the packet has, in its order; it does not have the oldest messages that were
-- dropped
abbrev pub counts_told : Counts → List ℕ
counts_told counts =
    counts.nosub ∷ counts.send ∷ counts.recv ∷ counts.create ∷ counts.sub ∷ counts.opts ∷
    counts.find ∷ counts.dup ∷ counts.limit ∷ counts.overflow ∷ []

-- the numbers in use that the packet has, in their order; it does not tell how many buffers are in
-- use
abbrev pub uses_told : InUse → List ℕ
uses_told now = now.msgids ∷ now.pipes ∷ now.subs ∷ now.bytes ∷ []

-- the packet's 64 bytes: a header with sequence flags 3 and count 0; the ten counts; four numbers
-- in use, each of these numbers in four bytes; and two bytes of zeros
unfoldable pub housekeeping_packet : Counts → InUse → List ℕ
housekeeping_packet counts now =
    header_bytes housekeeping_id 0 64 ++ flat_map (big_bytes 4) (counts_told counts) ++
    flat_map (big_bytes 4) (uses_told now) ++ 0 ∷ 0 ∷ []
