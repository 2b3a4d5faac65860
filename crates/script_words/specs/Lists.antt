-- Reading each item of a list.
use Rattle.std.specs.Prelude.{List, [], ◌∷◌, Result, Ok}
use Rattle.fsw_base.specs.declared.script_faults.FaultKind.{FaultKind}
use Rattle.script_words.specs.Readings.{◌>>=◌}

-- what each item reads as, or the first fault
unfoldable pub each : {X A : Type 0} → (X → Result A FaultKind) → List X → Result (List A) FaultKind
each read [] = Ok []
each read (item ∷ items) = do
  first ← read item
  others ← each read items
  Ok (first ∷ others)
