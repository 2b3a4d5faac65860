use Rattle.std.proofs.Common.{◌≡◌, drop}
use Rattle.script_words.specs.Text.{is_same}
use Rattle.script_words.proofs.text.is_same.Given as goal

-- what is left decides
abbrev pub invariant-loop-i : goal.invariant-loop-i
invariant-loop-i l = is_same (drop l.i l.word) (drop l.i l.other) ≡ is_same l.word l.other
