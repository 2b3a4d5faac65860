-- What is drawn with a generator of pseudo-random numbers: a chain of numbers below 2^31, each made
-- from the one before.
use Rattle.std.specs.Prelude.{ℕ, ◌+◌, ◌*◌, ◌/◌, ◌%◌}

-- Something drawn, from the generator's number before: what it is, and the generator's number
-- afterwards.
abbrev pub Drawing : Type 0 → Type 0
Drawing X = ℕ → X × ℕ

-- this, with nothing more drawn
abbrev pub done : {X : Type 0} → X → Drawing X
done x number = (x, number)

-- one drawing, and then another one, which goes by what was drawn
infixl 10 ◌>>=◌
abbrev pub ◌>>=◌ : {X Y : Type 0} → Drawing X → (X → Drawing Y) → Drawing Y
first >>= next = λ number. next (first number).0 (first number).1

-- the generator's next number
abbrev pub next_number : ℕ → ℕ
next_number number = (number * 1103515245 + 12345) % 2147483648

-- One draw: a number below this bound. The lowest 16 bits of the generator's number are left out.
unfoldable pub draw : ℕ → Drawing ℕ
draw bound number = (next_number number / 65536 % bound, next_number number)

-- the generator's first number, for the script of this number
abbrev pub first_number : ℕ → ℕ
first_number script = script % 2147483648
