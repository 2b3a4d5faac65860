-- Steps of reading a whole script.
use Rattle.std.specs.Prelude.{◌≡◌, ℕ, Result, Ok, Err}
use Rattle.fsw_base.specs.declared.script_faults.ScriptFault.{ScriptFault}
use Rattle.script_words.specs.declared.fail.LineFail.{LineFail}
use Rattle.script_words.specs.declared.fail.LineFail.TheVariants as of_line
use Rattle.app_script.specs.declared.fail.ReadFail.{ReadFail}
use Rattle.app_script.specs.declared.fail.ReadFail.TheVariants.{Memory, Fault}

-- a line's failure, with the line's number
abbrev pub located : ℕ → LineFail → ReadFail
located number (of_line.Memory error) = Memory error
located number (of_line.Fault kind) = Fault (record { line = number; kind = kind })

-- a failure is the reading's fault, unless memory ran out
abbrev pub FailsAs : {Y : Type 0} → ReadFail → Result Y ScriptFault → Type 0
FailsAs (Memory error) reading = Unit {0}
FailsAs (Fault fault) reading = reading ≡ Err fault

-- what a function returned is this reading, unless memory ran out
abbrev pub GivesScript : {Y : Type 0} → Result Y ReadFail → Result Y ScriptFault → Type 0
GivesScript (Ok x) reading = reading ≡ Ok x
GivesScript (Err failure) reading = FailsAs failure reading

-- what was read is this reading afterwards, unless memory ran out
abbrev pub MovesScript : {X Y : Type 0} → Result X ReadFail → Y → Result Y ScriptFault → Type 0
MovesScript (Ok x) new reading = reading ≡ Ok new
MovesScript (Err failure) new reading = FailsAs failure reading
