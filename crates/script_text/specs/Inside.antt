-- What the field of a generator stands for.
use Rattle.std.specs.Prelude.{ℕ, ◌<◌}
use Rattle.script_text.specs.declared.draws.Generator.TheInside as generator

-- the generator's number
abbrev pub number_in : generator.Inside → ℕ
number_in g = g.number

-- which has 31 bits
abbrev pub IsShort : generator.Inside → Type 0
IsShort g = g.number < 2147483648
