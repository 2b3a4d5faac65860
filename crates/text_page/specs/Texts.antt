-- How ids, bytes and names are printed, and how the texts of a list follow one another.
use Rattle.std.specs.Prelude.{ℕ, ◌+◌, ◌/◌, ◌%◌, nat_lt, List, [], ◌∷◌, ◌++◌, codes, if◌then◌else◌}
use Rattle.std.specs.List.{flat_map}

-- a lower-case hexadecimal digit
abbrev pub hex_digit : ℕ → ℕ
hex_digit n = if nat_lt n 10 then 48 + n else (87 + n)

-- a byte as two hexadecimal digits
abbrev pub hex_byte : ℕ → List ℕ
hex_byte byte = hex_digit (byte / 16) ∷ hex_digit (byte % 16) ∷ []

-- bytes as two hexadecimal digits each
abbrev pub hex_bytes : List ℕ → List ℕ
hex_bytes bytes = flat_map hex_byte bytes

-- a message id: 0x and four hexadecimal digits
abbrev pub hex_id : ℕ → List ℕ
hex_id id = codes "0x" ++ hex_byte (id / 256) ++ hex_byte (id % 256)

-- a name; the empty one is a dash
abbrev pub name_text : List ℕ → List ℕ
name_text [] = codes "-"
name_text (byte ∷ bytes) = byte ∷ bytes

-- the texts of a list's members one after another, each made with the member's number; the first
-- has number n
abbrev pub numbered : {X : Type 0} → (ℕ → X → List ℕ) → ℕ → List X → List ℕ
numbered text n [] = []
numbered text n (x ∷ xs) = text n x ++ numbered text (n + 1) xs
