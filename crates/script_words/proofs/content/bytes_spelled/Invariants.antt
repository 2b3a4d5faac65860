use Rattle.std.proofs.Common.{◌≡◌, ◌++◌, length}
use Rattle.script_words.specs.Numbers.{hex_bytes}
use Rattle.script_words.proofs.content.bytes_spelled.Given as goal

abbrev pub invariant-loop-rest : goal.invariant-loop-rest
invariant-loop-rest l = l.bytes.items ++ hex_bytes l.rest ≡ hex_bytes l.word

abbrev pub decreases-loop-rest : goal.decreases-loop-rest
decreases-loop-rest l = length l.rest
