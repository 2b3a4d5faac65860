-- What reading a source to its end does to the bytes left, if these are told, and to its count
-- of faults.
use Rattle.std.specs.Prelude.{◌≡◌, ℕ, ◌+◌, ◌≤◌, Bool, true, false, List, [], ◌++◌, length, Option, IfSome}
use Rattle.std.specs.Option.{option_map}
use Rattle.fsw_base.specs.Outside.{Rose, IsCountOf}
use Rattle.fsw_base.specs.declared.outside.ReadAnswer.{ReadAnswer}
use Rattle.fsw_base.specs.declared.outside.ReadAnswer.TheVariants.{Got, End, Failed}
use Rattle.host_serve.specs.declared.reading.Reading.{Reading}
use Rattle.host_serve.specs.declared.reading.Reading.TheVariants.{Whole, TooLarge, Fault}

-- the most bytes that a script may have
abbrev pub most_input : ℕ
most_input = 1048576

-- the input that these bytes begin and those left end, if they are told
abbrev pub input_of : List ℕ → Option (List ℕ) → Option (List ℕ)
input_of bytes left = option_map (λ rest. bytes ++ rest) left

-- the input was just these bytes, at most as many as are taken, and nothing is left
pub record IsWhole (most : ℕ) (bytes : List ℕ) (old new : Option (List ℕ)) : Type 0 where
  pub read : old ≡ input_of bytes new
  pub nothing_left : IfSome new (λ left. left ≡ [])
  pub exactly : IfSome old (λ input. input ≡ bytes)
  pub small : length bytes ≤ most

-- one byte more than are taken was read, and no other
abbrev pub IsTooLarge : ℕ → Option (List ℕ) → Option (List ℕ) → Type 0
IsTooLarge most old new = (bytes : List ℕ) × (length bytes ≡ most + 1) × (old ≡ input_of bytes new)

-- a beginning of the input was read, no more than are taken
abbrev pub IsPartRead : ℕ → Option (List ℕ) → Option (List ℕ) → Type 0
IsPartRead most old new = (bytes : List ℕ) × (length bytes ≤ most) × (old ≡ input_of bytes new)

-- What was read, by the answer of a reading that takes so many bytes at most.
abbrev pub ReadsAll : Reading → ℕ → Option (List ℕ) → Option (List ℕ) → Type 0
ReadsAll (Whole v) most old new = IsWhole most v.items old new
ReadsAll TooLarge most old new = IsTooLarge most old new
ReadsAll Fault most old new = IsPartRead most old new

-- What the count of faults did, by the answer of the reading.
abbrev pub HasCause : Reading → ℕ → ℕ → Type 0
HasCause (Whole v) before now = before ≤ now
HasCause TooLarge before now = before ≤ now
HasCause Fault before now = (before ≤ now) × Rose before now

-- whether the reading answers that the source failed
abbrev pub is_fault : Reading → Bool
is_fault (Whole v) = false
is_fault TooLarge = false
is_fault Fault = true

-- what one read adds to the bytes kept, of which so many more are asked for
abbrev pub Adds : ReadAnswer → ℕ → List ℕ → List ℕ → Option (List ℕ) → Type 0
Adds (Got n) most before now left = IsCountOf n most × (length now ≡ length before + n)
Adds End most before now left = (now ≡ before) × IfSome left (λ rest. rest ≡ [])
Adds Failed most before now left = now ≡ before
