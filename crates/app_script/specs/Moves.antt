-- Steps of reading that change what was read so far.
use Rattle.std.specs.Prelude.{◌≡◌, Result, Ok, Err}
use Rattle.fsw_base.specs.declared.script_faults.FaultKind.{FaultKind}
use Rattle.script_words.specs.declared.fail.LineFail.{LineFail}
use Rattle.script_words.specs.Readings.{Fails}

-- what was read is this reading afterwards, unless memory ran out
abbrev pub Moves : {X Y : Type 0} → Result X LineFail → Y → Result Y FaultKind → Type 0
Moves (Ok x) new reading = reading ≡ Ok new
Moves (Err failure) new reading = Fails failure reading
