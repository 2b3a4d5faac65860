-- How much the words `image` and `pack` read.
use Rattle.std.specs.Prelude.{ℕ}

-- the most bytes of a table that `pack` takes
abbrev pub most_table : ℕ
most_table = 1048576

-- the most bytes of an image that `image` takes: so many of a table, and both headers
abbrev pub most_image : ℕ
most_image = 1048692
