-- Steps of reading: a value, or what is wrong.
use Rattle.std.specs.Prelude.{◌≡◌, Result, Ok, Err}
use Rattle.fsw_base.specs.declared.script_faults.FaultKind.{FaultKind}
use Rattle.script_words.specs.declared.fail.LineFail.{LineFail}
use Rattle.script_words.specs.declared.fail.LineFail.TheVariants.{Memory, Fault}

-- the second step on what the first one found
infixl 10 ◌>>=◌
abbrev pub ◌>>=◌ : {A B : Type 0} → Result A FaultKind → (A → Result B FaultKind) →
    Result B FaultKind
(Ok x) >>= next = next x
(Err fault) >>= next = Err fault

-- what a function returned, seen by view, is this reading
abbrev pub Reads : {X Y : Type 0} → (X → Y) → Result X FaultKind → Result Y FaultKind → Type 0
Reads view (Ok x) reading = reading ≡ Ok (view x)
Reads view (Err fault) reading = reading ≡ Err fault

-- a failure is the reading's fault, unless memory ran out
abbrev pub Fails : {Y : Type 0} → LineFail → Result Y FaultKind → Type 0
Fails (Memory error) reading = Unit {0}
Fails (Fault fault) reading = reading ≡ Err fault

-- what a function returned, seen by view, is this reading, unless memory ran out
abbrev pub Gives : {X Y : Type 0} → (X → Y) → Result X LineFail → Result Y FaultKind → Type 0
Gives view (Ok x) reading = reading ≡ Ok (view x)
Gives view (Err failure) reading = Fails failure reading
