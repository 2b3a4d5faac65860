-- Which buffers each application holds, as a caller sees it.
use Rattle.std.specs.Prelude.{◌≡◌, ◌==◌, ◌<◌, ◌≤◌, ◌-◌, ℕ, not, List, [], filter, slice_index_or}
use Rattle.bucket_list.specs.Lists.{times, times_in}

-- How many descriptors there are, and those that each application holds, the newest first, from
-- application 1 on.
pub record HeldDescs : Type 0 where
  pub descs : ℕ
  pub lists : List (List ℕ)

-- the list of one application
abbrev pub held_by : HeldDescs → ℕ → List ℕ
held_by held app = slice_index_or held.lists (app - 1) []

-- an application holds a descriptor
abbrev pub IsHeldBy : HeldDescs → ℕ → ℕ → Type 0
IsHeldBy held app desc = 0 < times_in (held_by held app) desc

-- no application holds a descriptor
abbrev pub IsLetGo : HeldDescs → ℕ → Type 0
IsLetGo held desc = times held.lists desc ≡ 0

-- a list without one descriptor
abbrev pub without : ℕ → List ℕ → List ℕ
without desc descs = filter (λ d. not (d == desc)) descs

-- no descriptor is held twice, neither by one application nor by two, and each that is held is one
-- of those that there are
pub record AreApart (held : HeldDescs) : Type 0 where
  pub once : (desc : ℕ) → times held.lists desc ≤ 1
  pub exist : (desc : ℕ) → held.descs ≤ desc → IsLetGo held desc
