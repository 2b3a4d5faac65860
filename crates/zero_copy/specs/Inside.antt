-- What the links of the held lists stand for: each list with its anchor is a ring, linked in both
-- directions.
use Rattle.std.specs.Prelude.{◌≡◌, ◌==◌, ◌+◌, ◌<◌, ◌^◌, ℕ, if◌then◌else◌, List, [], ◌∷◌, length, slice_index, slice_index_or}
use Rattle.bucket_list.specs.Lists.{times_in}
use Rattle.bucket_list.specs.Chains.{chain}

-- from one place over these to another place, each linked to the next and back
abbrev pub Linked : List ℕ → List ℕ → ℕ → List ℕ → ℕ → Type 0
Linked next prev from [] to = (slice_index next from ≡ to) × (slice_index prev to ≡ from)
Linked next prev from (x ∷ xs) to =
    (slice_index next from ≡ x) × (slice_index prev x ≡ from) × Linked next prev x xs to

-- the list behind each anchor, as long as its count says; anchors are numbered on from the first
abbrev pub rings : List ℕ → ℕ → List ℕ → List (List ℕ)
rings next anchor [] = []
rings next anchor (count ∷ counts) =
    chain next (slice_index next anchor) count ∷ rings next (anchor + 1) counts

-- once if the owner is the application of this place, else never
abbrev pub owner_mark : List ℕ → ℕ → ℕ → ℕ
owner_mark owners place desc = if slice_index owners desc == (place + 1) then 1 else 0

-- each list is a ring round its anchor, and each descriptor stands once in its owner's list and in
-- no other
pub record AreHeld (next prev counts owners : List ℕ) (descs : ℕ) : Type 0 where
  pub next_all : length next ≡ descs + length counts
  pub prev_all : length prev ≡ descs + length counts
  pub few : descs + length counts < 2 ^ 32
  pub owners_all : length owners ≡ descs
  pub linked : (place : ℕ) → place < length counts →
      Linked next prev (descs + place) (slice_index_or (rings next descs counts) place [])
      (descs + place)
  pub counted : (place : ℕ) → place < length counts →
      length (slice_index_or (rings next descs counts) place []) ≡ slice_index counts place
  pub owned : (place desc : ℕ) → place < length counts →
      times_in (slice_index_or (rings next descs counts) place []) desc ≡
      owner_mark owners place desc
