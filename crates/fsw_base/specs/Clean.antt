-- The answers of a source that never fails.
use Rattle.std.specs.Prelude.{ℕ, ◌==◌, min, if◌then◌else◌}
use Rattle.fsw_base.specs.declared.outside.ReadAnswer.{ReadAnswer}
use Rattle.fsw_base.specs.declared.outside.ReadAnswer.TheVariants.{Got, End}

-- as many bytes as fit, or the end if none is left
abbrev pub clean_answer : ℕ → ℕ → ReadAnswer
clean_answer left room = if left == 0 then End else (Got (min room left))
