-- The live pipes as their user sees them: what each one is, and where it lies.
use Rattle.std.specs.Prelude.{ℕ, ◌==◌, not, List, Option, option_map, filter, find}
use Rattle.bus_words.specs.Pipes.{PipeOf}
use Rattle.pipe_queue.specs.declared.item.Item.{Item}

-- The live pipes by rising number, the number and the place of each one in the same order, how many
-- were created, how many may be live, and the greatest depth.
pub record Pipes : Type 0 where
  pub live : List (PipeOf Item)
  pub places : List (ℕ × ℕ)
  pub created : ℕ
  pub room : ℕ
  pub depth : ℕ

-- the place of the pipe of this number
abbrev pub place_of : List (ℕ × ℕ) → ℕ → Option ℕ
place_of places number = option_map (λ pair. pair.1) (find (λ pair. pair.0 == number) places)

-- the numbers and places but those of the pipe of this number
abbrev pub without_place : ℕ → List (ℕ × ℕ) → List (ℕ × ℕ)
without_place number places = filter (λ pair. not (pair.0 == number)) places
