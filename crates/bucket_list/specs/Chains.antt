-- Where links lead.
use Rattle.std.specs.Prelude.{ℕ, zero, suc, List, [], ◌∷◌, slice_index}

-- the first `count` nodes of a chain
abbrev pub chain : List ℕ → ℕ → ℕ → List ℕ
chain links first zero = []
chain links first (suc count) = first ∷ chain links (slice_index links first) count
