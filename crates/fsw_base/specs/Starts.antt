-- Message ids and the sequence counts at which they start (CCSDS 133.0-B, 4.1.3.4).
use Rattle.std.specs.Prelude.{ℕ, ◌==◌, ◌&&◌, nat_le, not, Bool, true, List, [], ◌∷◌, length, if◌then◌else◌}
use Rattle.std.specs.List.{list_any, list_all}
use Rattle.fsw_base.specs.declared.starts.TheConstants.{MAX_STARTS, MAX_ID, MAX_COUNT}

-- no first part stands twice
abbrev pub are_distinct_ids : List (ℕ × ℕ) → Bool
are_distinct_ids [] = true
are_distinct_ids (pair ∷ pairs) =
    not (list_any (λ other. other.0 == pair.0) pairs) && are_distinct_ids pairs

-- a message id and a count that its 14 bits hold
abbrev pub is_start : ℕ × ℕ → Bool
is_start pair = nat_le 1 pair.0 && nat_le pair.0 MAX_ID && nat_le pair.1 MAX_COUNT

-- not too many, each valid, each id once
abbrev pub are_count_starts : List (ℕ × ℕ) → Bool
are_count_starts pairs =
    nat_le (length pairs) MAX_STARTS && list_all is_start pairs && are_distinct_ids pairs

-- the count at which this id starts: its pair's, else 0
abbrev pub start_of : List (ℕ × ℕ) → ℕ → ℕ
start_of [] id = 0
start_of (pair ∷ pairs) id = if pair.0 == id then pair.1 else start_of pairs id
