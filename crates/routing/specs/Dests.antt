-- The destinations of a route, in order of subscription.
use Rattle.std.specs.Prelude.{ℕ, ◌==◌, ◌&&◌, Bool, List, [], ◌∷◌, Option, Some, None, slice_index_or, if◌then◌else◌}
use Rattle.std.specs.List.{list_any}
use Rattle.subscriptions.specs.declared.words.SubNo.{SubNo}

-- a destination: the name of the place where it is kept (its node), and its subscription
abbrev pub Dest : Type 0
Dest = ℕ × SubNo

-- whether two subscriptions are the same
abbrev pub is_sub : SubNo → SubNo → Bool
is_sub sub other = sub.slot == other.slot && sub.number == other.number

-- whether a subscription is among these destinations
abbrev pub has_sub : SubNo → List Dest → Bool
has_sub sub dests = list_any (λ dest. is_sub dest.1 sub) dests

-- the destinations without the first of this subscription
abbrev pub without : SubNo → List Dest → List Dest
without sub [] = []
without sub (dest ∷ dests) = if is_sub dest.1 sub then dests else dest ∷ without sub dests

-- the first destination, if there is one
abbrev pub first_dest : List Dest → Option Dest
first_dest [] = None
first_dest (dest ∷ dests) = Some dest

-- the node of the last destination
abbrev pub last_node : List Dest → ℕ
last_node [] = 0
last_node (dest ∷ []) = dest.0
last_node (dest ∷ other ∷ dests) = last_node (other ∷ dests)

-- whether a node is among these destinations
abbrev pub has_node : ℕ → List Dest → Bool
has_node node dests = list_any (λ dest. dest.0 == node) dests

-- lists of destinations, and how many a list may have
pub record DestTable : Type 0 where
  pub limit : ℕ
  pub lists : List (List Dest)

-- one of the lists
abbrev pub dests_in : DestTable → ℕ → List Dest
dests_in table list = slice_index_or table.lists list []
