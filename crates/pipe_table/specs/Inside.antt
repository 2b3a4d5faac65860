-- Where the live pipes lie: each in a place of its own. Their numbers and their places stand in two
-- lists, in order of number.
use Rattle.std.specs.Prelude.{◌≡◌, ℕ, eqb, ◌+◌, ◌==◌, if◌then◌else◌, ◌<◌, ◌≤◌, All, List, [], ◌∷◌, ◌++◌, length, zip, Option, Some, None, slice_index_or}
use Rattle.std.specs.Option.{option_map, option_to_list}
use Rattle.std.specs.List.{IsDistinct}
use Rattle.bus_words.specs.declared.verdict.Verdict.{Verdict}
use Rattle.bus_words.specs.Pipes.{PipeOf, queue_after}
use Rattle.pipe_queue.specs.declared.item.Item.{Item}
use Rattle.pipe_table.specs.Table.{Pipes}

-- a place: its pipe, if there is one, and the greatest depth that it has room for
pub record PlaceState : Type 0 where
  pub pipe : Option (PipeOf Item)
  pub room : ℕ

-- the pipe once it was offered an item that got this verdict
abbrev pub judged : Verdict → Item → PipeOf Item → PipeOf Item
judged verdict item pipe = record pipe { queue = queue_after verdict item pipe.queue }

-- the pipe in a place
abbrev pub pipe_in : List PlaceState → ℕ → Option (PipeOf Item)
pipe_in places place = (slice_index_or places place (record { pipe = None; room = 0 })).pipe

-- the number of a pipe, if there is one
abbrev pub number_of : Option (PipeOf Item) → Option ℕ
number_of pipe = option_map (λ pipe. pipe.number) pipe

-- the place of a number's pipe
abbrev pub place_under : List ℕ → List ℕ → ℕ → Option ℕ
place_under [] at number = None
place_under (n ∷ numbers) [] number = None
place_under (n ∷ numbers) (place ∷ at) number =
    if n == number then Some place else place_under numbers at number

-- the pipe that a number's place has
abbrev pub pipe_of : List PlaceState → Option ℕ → Option (PipeOf Item)
pipe_of places None = None
pipe_of places (Some place) = pipe_in places place

-- the pipes in these places
abbrev pub live_in : List PlaceState → List ℕ → List (PipeOf Item)
live_in places [] = []
live_in places (place ∷ at) = option_to_list (pipe_in places place) ++ live_in places at

-- the table as its user sees it, by its places, the numbers of the live pipes and their places
abbrev pub table_of : ℕ → List PlaceState → List ℕ → List ℕ → ℕ → Pipes
table_of depth places numbers at created = record {
  live = live_in places at;
  places = zip numbers at;
  created = created;
  room = length places;
  depth = depth;
}

-- numbers rise from above this one
abbrev pub AreRising : ℕ → List ℕ → Type 0
AreRising below [] = Unit {0}
AreRising below (number ∷ numbers) = (below < number) × AreRising number numbers

-- numbers rise, and each has a place
pub record AreOrdered (numbers at : List ℕ) : Type 0 where
  pub rising : AreRising 0 numbers
  pub all : length numbers ≡ length at

-- the numbers rise from above this one, and each one's place has a pipe of this number
abbrev pub AreFiled : ℕ → List PlaceState → List ℕ → List ℕ → Type 0
AreFiled below places [] [] = Unit {0}
AreFiled below places [] (place ∷ at) = ⊥
AreFiled below places (number ∷ numbers) [] = ⊥
AreFiled below places (number ∷ numbers) (place ∷ at) =
    (below < number)
    × (place < length places)
    × (number_of (pipe_in places place) ≡ Some number)
    × AreFiled number places numbers at

-- a place without a pipe
pub record IsFree (places : List PlaceState) (place : ℕ) : Type 0 where
  pub there : place < length places
  pub empty : pipe_in places place ≡ None

-- each live pipe stands under its number, none is above those given, and all other places are free
pub record AreKept (depth : ℕ) (places : List PlaceState) (numbers at free : List ℕ)
    (created : ℕ) : Type 0 where
  pub filed : AreFiled 0 places numbers at
  pub given : All (λ number. number ≤ created) numbers
  pub empty : All (IsFree places) free
  pub once : IsDistinct eqb free
  pub all : length free + length at ≡ length places
  pub rooms : All (λ place. place.room ≡ depth) places
