use Rattle.std.proofs.Common.{rules, ◌≡◌, flat_map, ◌++◌, ◌∷◌, [], length, take, drop, refl, sym, ap, ◌∙◌, arith}
use Rattle.std.proofs.lemmas.Grind.{common_steps}
use Rattle.byteorder.specs.Endian.{big_bytes}
use Rattle.ccsds_msg.specs.Message.{header_bytes}
use Rattle.ccsds_msg.proofs.MessageLemmas.{length-header_bytes}
use Rattle.housekeeping.specs.Packet.{housekeeping_id, counts_told, uses_told, housekeeping_packet}
use Rattle.housekeeping.proofs.PacketLemmas.{counts_told-counts_in, parts_placed}
use Rattle.housekeeping.proofs.counters.Counters.packet.Goals as goal

-- the four parts, each in its place
pub returns : goal.returns
unfolding housekeeping_packet
returns c =
    let eleven : length c.self.inside.counts ≡ 11 = search rules in
    let whole : length c.args.out.now ≡ 64 = search rules in
    let told : counts_told c.args.self.now.counts ≡ take 10 c.self.inside.counts = ap (λ s. counts_told s.counts) (sym c.self.view_is) ∙ counts_told-counts_in c.self.inside.counts eleven in
    let counts : c.write_u32_into.new.dst ≡ flat_map (big_bytes 4) (counts_told c.args.self.now.counts) = c.write_u32_into.ensures ∙ ap (flat_map (big_bytes 4)) (sym told) in
    let uses : c.write_u32_into-2.new.dst ≡ flat_map (big_bytes 4) (uses_told c.args.now) = c.write_u32_into-2.ensures in
    let zeros : c.copy_from_slice.new.self ≡ 0 ∷ 0 ∷ [] = c.copy_from_slice.ensures.after in
    let header : c.write_header.new.bytes ≡ header_bytes housekeeping_id 0 64 ++ drop 6 c.args.out.now = c.write_header.ensures.bytes ∙ ap (λ size. header_bytes housekeeping_id 0 size ++ drop 6 c.args.out.now) whole in
    rw (header, counts, uses, zeros)
    (parts_placed (header_bytes housekeeping_id 0 64) (drop 6 c.args.out.now) (flat_map (big_bytes 4) (counts_told c.args.self.now.counts)) (flat_map (big_bytes 4) (uses_told c.args.now)) (0 ∷ 0 ∷ []) (length-header_bytes housekeeping_id 0 64) (grind (arith, common_steps)) refl refl)
