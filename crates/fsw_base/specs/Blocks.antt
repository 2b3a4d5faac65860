-- The block sizes of a memory pool, in bytes.
use Rattle.std.specs.Prelude.{ℕ, ◌+◌, ◌%◌, ◌==◌, ◌&&◌, nat_le, position, Bool, true, List, [], ◌∷◌, length, Option}
use Rattle.fsw_base.specs.declared.blocks.TheConstants.{MAX_BLOCK_SIZE, MAX_BLOCK_SIZES}

-- each is a multiple of 8 and at most the largest size, the first is at least `least`, and each is
-- above the one before
abbrev pub are_rising_from : ℕ → List ℕ → Bool
are_rising_from least [] = true
are_rising_from least (size ∷ sizes) =
    nat_le least size && (size % 8 == 0) && nat_le size MAX_BLOCK_SIZE &&
    are_rising_from (size + 1) sizes

-- one size or more, not too many, and rising
abbrev pub are_block_sizes : List ℕ → Bool
are_block_sizes sizes =
    nat_le 1 (length sizes) && nat_le (length sizes) MAX_BLOCK_SIZES && are_rising_from 0 sizes

-- the sizes if nothing is configured
abbrev pub usual_sizes : List ℕ
usual_sizes =
    8 ∷ 16 ∷ 32 ∷ 48 ∷ 64 ∷ 96 ∷ 128 ∷ 160 ∷ 256 ∷ 512 ∷ 1024 ∷ 2048 ∷ 4096 ∷ 8192 ∷ 16384 ∷ 32768 ∷
    80000 ∷ []

-- the place of the first size that is large enough; sizes rise, so it is the smallest such size
abbrev pub class_of : ℕ → List ℕ → Option ℕ
class_of size sizes = position (λ block. nat_le size block) sizes
