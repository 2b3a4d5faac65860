-- What a read and a write do to the bytes left and the bytes written, if these are told.
use Rattle.std.specs.Prelude.{◌≡◌, ℕ, ◌+◌, ◌-◌, ◌^◌, ◌≤◌, min, List, [], ◌++◌, length, take, Option, IfSome}
use Rattle.std.specs.Option.{option_map}
use Rattle.fsw_base.specs.declared.outside.ReadAnswer.{ReadAnswer}
use Rattle.fsw_base.specs.declared.outside.ReadAnswer.TheVariants.{Got, End, Failed}
use Rattle.fsw_base.specs.declared.outside.WriteAnswer.{WriteAnswer}
use Rattle.fsw_base.specs.declared.outside.WriteAnswer.TheVariants as writes

-- The count of faults rose, or is at its last value.
abbrev pub Rose : ℕ → ℕ → Type 0
Rose before now = min (before + 1) (2 ^ 64 - 1) ≤ now

-- at least one of so many
pub record IsCountOf (n all : ℕ) : Type 0 where
  pub one : 1 ≤ n
  pub within : n ≤ all

-- Got n: what was left is the first n bytes of the buffer and what is left now; End: nothing was
-- left; Failed: nothing was read, and `Rose` says that the count of faults rose
abbrev pub Reads : ReadAnswer → Option (List ℕ) → Option (List ℕ) → List ℕ → Type 0
Reads (Got n) old new buf =
    IsCountOf n (length buf) × (old ≡ option_map (λ rest. take n buf ++ rest) new)
Reads End old new buf = (new ≡ old) × IfSome old (λ bytes. bytes ≡ [])
Reads Failed old new buf = new ≡ old

-- Took n: the first n bytes given are written behind the others; Failed: nothing is written, and
-- `Rose` says that the count of faults rose
abbrev pub Writes : WriteAnswer → Option (List ℕ) → Option (List ℕ) → List ℕ → Type 0
Writes (writes.Took n) old new bytes =
    IsCountOf n (length bytes) × (new ≡ option_map (λ before. before ++ take n bytes) old)
Writes writes.Failed old new bytes = new ≡ old
