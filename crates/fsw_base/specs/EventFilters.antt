-- An application's event filters (cFE Event Services, event filtering).
use Rattle.std.specs.Prelude.{ℕ, ◌+◌, ◌==◌, ◌||◌, not, min, bit_and, Bool, List, map, if◌then◌else◌}
use Rattle.std.specs.List.{list_any, list_all}

-- a filter: an event id, ones if the count must have zeros for an event to pass, and the events
-- of this id since the registration or the last reset
pub record EventFilter : Type 0 where
  pub id : ℕ
  pub mask : ℕ
  pub count : ℕ

-- the filters of a new registration, from pairs of an event id and a mask: none has seen an event
abbrev pub fresh_filters : List (ℕ × ℕ) → List EventFilter
fresh_filters pairs = map (λ pair. record { id = pair.0; mask = pair.1; count = 0 }) pairs

-- a filter lets an event through if its count AND its mask is 0
abbrev pub is_open : EventFilter → Bool
is_open filter = bit_and filter.count filter.mask == 0

-- whether some filter is for this event id
abbrev pub has_filter : List EventFilter → ℕ → Bool
has_filter filters id = list_any (λ filter. filter.id == id) filters

-- an event passes if the filter for its id lets it through, or no filter is for its id
abbrev pub passes : List EventFilter → ℕ → Bool
passes filters id = list_all (λ filter. not (filter.id == id) || is_open filter) filters

-- a filter after an event of this id, passed or not: it counts those of its own id, up to 65535
abbrev pub after_event : ℕ → EventFilter → EventFilter
after_event id filter =
    if filter.id == id then record filter { count = min (filter.count + 1) 65535 } else filter

-- the filters after an event of this id, passed or not
abbrev pub all_after_event : List EventFilter → ℕ → List EventFilter
all_after_event filters id = map (after_event id) filters

-- a filter after a reset of this id: it counts from 0 again if the id is its own
abbrev pub after_reset : ℕ → EventFilter → EventFilter
after_reset id filter = if filter.id == id then record filter { count = 0 } else filter

-- the filters after a reset of this id
abbrev pub restarted : List EventFilter → ℕ → List EventFilter
restarted filters id = map (after_reset id) filters
