-- Event kinds by number, and filters.
use Rattle.std.specs.Prelude.{ℕ, ◌&&◌, nat_le, Bool, List, length}
use Rattle.fsw_base.specs.Starts.{are_distinct_ids}
use Rattle.fsw_base.specs.declared.events.EventKind.{EventKind}
use Rattle.fsw_base.specs.declared.events.EventKind.TheVariants.{Debug, Information, Error, Critical}
use Rattle.fsw_base.specs.declared.events.TheConstants.{MAX_FILTERS}

-- the number of a kind, as scripts and reports have it
abbrev pub kind_number : EventKind → ℕ
kind_number Debug = 1
kind_number Information = 2
kind_number Error = 3
kind_number Critical = 4

-- not too many filters, each event id once
abbrev pub are_filters : List (ℕ × ℕ) → Bool
are_filters pairs = nat_le (length pairs) MAX_FILTERS && are_distinct_ids pairs
