-- What the links, the tables of destinations and the routes stand for.
use Rattle.std.specs.Prelude.{◌≡◌, ◌+◌, ◌*◌, ◌<◌, ◌≤◌, ◌^◌, ◌==◌, nat_lt, ℕ, if◌then◌else◌, List, [], ◌∷◌, length, map, sum_by, slice_index, slice_index_or, count_by, Option, Some, None}
use Rattle.bucket_list.specs.Lists.{Listed, listed_at, times_in, times}
use Rattle.bucket_list.specs.Chains.{chain}
use Rattle.subscriptions.specs.declared.words.SubNo.{SubNo}
use Rattle.routing.specs.Dests.{Dest, is_sub, DestTable, dests_in}
use Rattle.std.specs.FinMap as finmap
use Rattle.fsw_base.specs.Starts.{start_of}
use Rattle.msgid_map.specs.Map.{IdRoutes}
use Rattle.routing.specs.Routing.{Route}

-- Destinations: each list with its anchor is a ring. --

-- from one place over these to another, each linked to the next
abbrev pub Linked : List ℕ → ℕ → List ℕ → ℕ → Type 0
Linked links from [] to = slice_index links from ≡ to
Linked links from (x ∷ xs) to = (slice_index links from ≡ x) × Linked links x xs to

-- the list behind each anchor, as long as its length says; anchors are numbered on from the first
abbrev pub rings : List ℕ → ℕ → List ℕ → List (List ℕ)
rings links anchor [] = []
rings links anchor (len ∷ lens) =
    chain links (slice_index links anchor) len ∷ rings links (anchor + 1) lens

-- the last of these, or what stands before them
abbrev pub last_of : ℕ → List ℕ → ℕ
last_of from [] = from
last_of from (x ∷ xs) = last_of x xs

-- the subscription that is kept at a node
abbrev pub sub_at : List SubNo → ℕ → SubNo
sub_at subs node = slice_index_or subs node (record { slot = 0; number = 0 })

-- the destination that is kept at a node
abbrev pub dest_at : List SubNo → ℕ → Dest
dest_at subs node = (node, sub_at subs node)

-- the place before the first node of a subscription
abbrev pub place_before : List SubNo → SubNo → ℕ → List ℕ → ℕ
place_before subs sub from [] = from
place_before subs sub from (x ∷ xs) =
    if is_sub (sub_at subs x) sub then from else place_before subs sub x xs

-- the destinations of each list
abbrev pub dests_seen : List SubNo → List (List ℕ) → List (List Dest)
dests_seen subs lists = map (λ nodes. map (dest_at subs) nodes) lists

-- 1 for what was made already, else 0
abbrev pub made_before : ℕ → ℕ → ℕ
made_before nodes node = if nat_lt node nodes then 1 else 0

-- each list is a ring round its anchor with its last node noted, and each node made so far stands
-- once in one list or is free
pub record AreRings (links tails lens : List ℕ) (subs : List SubNo) (nodes limit : ℕ)
    (free : Listed) : Type 0 where
  pub links_all : length links ≡ nodes + length lens
  pub few : nodes + length lens < 2 ^ 32
  pub tails_all : length tails ≡ length lens
  pub subs_all : length subs ≡ nodes
  pub room : nodes ≡ length lens * limit
  pub free_room : free.room ≡ nodes
  pub free_made : free.nodes ≤ nodes
  pub free_one : length free.lists ≡ 1
  pub linked : (list : ℕ) → list < length lens →
      Linked links (nodes + list) (slice_index_or (rings links nodes lens) list []) (nodes + list)
  pub tailed : (list : ℕ) → list < length lens → 0 < slice_index lens list →
      slice_index tails list ≡
      last_of (nodes + list) (slice_index_or (rings links nodes lens) list [])
  pub within : (list : ℕ) → list < length lens → slice_index lens list ≤ limit
  pub placed : (node : ℕ) →
      times (rings links nodes lens) node + times_in (listed_at free 0) node ≡
      made_before free.nodes node
  pub all : sum_by (λ nodes. length nodes) (rings links nodes lens) + length (listed_at free 0) ≡
      free.nodes

-- a node that is taken from the free ones: one that was given back, else one that is made
pub record Takes (before after : Listed) (node : ℕ) : Type 0 where
  pub room : after.room ≡ before.room
  pub one : length after.lists ≡ 1
  pub exists : node < after.nodes
  pub made : after.nodes ≤ before.room
  pub taken : (other : ℕ) →
      times_in (listed_at after 0) other + (if node == other then 1 else 0) +
      made_before before.nodes other ≡ times_in (listed_at before 0) other +
      made_before after.nodes other
  pub fewer : length (listed_at after 0) + 1 + before.nodes ≡ length (listed_at before 0) +
      after.nodes

-- Routes: how their parts belong together. --

-- the routes with these ids, counts and destinations
abbrev pub routes_with : List ℕ → List ℕ → List (List Dest) → List Route
routes_with [] counts lists = []
routes_with (id ∷ ids) [] lists = []
routes_with (id ∷ ids) (count ∷ counts) [] = []
routes_with (id ∷ ids) (count ∷ counts) (dests ∷ lists) =
    record { id = id; counted = count; dests = dests } ∷ routes_with ids counts lists

-- the place of an id among these, counted on from this number
abbrev pub place_from : ℕ → List ℕ → ℕ → Option ℕ
place_from number [] id = None
place_from number (other ∷ ids) id =
    if other == id then Some number else place_from (number + 1) ids id

-- each id is mapped to its place, no other id is mapped, as many are mapped as there are, and no id
-- stands twice; there is a count
-- and a list for each route that may be made, 0 and empty until then; counts have 14 bits
pub record AreNumbered (numbers : IdRoutes) (ids : List ℕ) (capacity : ℕ) (counted : List ℕ)
    (table : DestTable) (msgids limit : ℕ) : Type 0 where
  pub mapped : (id : ℕ) → finmap.get numbers.routes id ≡ place_from 0 ids id
  pub once : (id : ℕ) → count_by (λ other. other == id) ids ≤ 1
  pub all : numbers.count ≡ length ids
  pub room : numbers.room + length ids ≡ msgids
  pub capacity_all : msgids ≤ capacity
  pub counted_all : length counted ≡ msgids
  pub lists_all : length table.lists ≡ msgids
  pub limit_is : table.limit ≡ limit
  pub few : msgids < 2 ^ 32
  pub fourteen : (route : ℕ) → slice_index counted route < 16384
  pub counted_none : (route : ℕ) → length ids ≤ route → slice_index counted route ≡ 0
  pub dests_none : (route : ℕ) → length ids ≤ route → dests_in table route ≡ []

-- beside each id stands the count at which it starts, and there is room for more
pub record AreStarted (starts : List (ℕ × ℕ)) (ids firsts : List ℕ)
    (capacity msgids : ℕ) : Type 0 where
  pub each : firsts ≡ map (start_of starts) ids
  pub small : (route : ℕ) → slice_index firsts route < 16384
  pub capacity_all : msgids ≤ capacity
