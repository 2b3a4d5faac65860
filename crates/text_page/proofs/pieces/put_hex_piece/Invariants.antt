use Rattle.std.proofs.Common.{◌≡◌, ◌*◌, length, take}
use Rattle.text_page.specs.Texts.{hex_bytes}
use Rattle.text_page.proofs.pieces.put_hex_piece.Given as goal

abbrev pub invariant-loop-i : goal.invariant-loop-i
invariant-loop-i g l = record {
  room : length l.digits ≡ 32;
  so_far : take (2 * l.i) l.digits ≡ hex_bytes (take l.i l.bytes);
}
