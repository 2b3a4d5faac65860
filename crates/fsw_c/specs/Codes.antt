-- The numbers of the handle's own statuses. They have service number 0, which cFE leaves free.
use Rattle.std.specs.Prelude.{ℕ}

-- the handle isn't open
abbrev pub closed_code : ℕ
closed_code = 3221225473

-- it is open already
abbrev pub already_open_code : ℕ
already_open_code = 3221225474

-- a limit isn't in its range
abbrev pub bad_limits_code : ℕ
bad_limits_code = 3221225475

-- there isn't as much memory
abbrev pub no_memory_code : ℕ
no_memory_code = 3221225476
