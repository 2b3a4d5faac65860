use Rattle.std.proofs.Common.{◌≡◌, take}
use Rattle.std.specs.Prelude.{◌||◌}
use Rattle.std.specs.List.{list_all}
use Rattle.script_words.specs.Text.{is_text, is_feed}
use Rattle.script_words.proofs.text.are_plain_bytes.Given as goal

abbrev pub invariant-loop-byte : goal.invariant-loop-byte
invariant-loop-byte l = l.plain ≡ list_all (λ byte. is_text byte || is_feed byte) (take l.byte-index l.bytes)
