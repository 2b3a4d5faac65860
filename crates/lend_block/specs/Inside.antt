-- What a part and a deed own. A block that is borrowed for r is lent for a lifetime of the loan,
-- and a part is a share of that lifetime's token.
use Rattle.std.specs.Prelude.{ℕ, List, [], ◌∷◌}
use mir.Syntax.{named}
use base.Fml.{Lft, Fml, fsep, flft, flent}
use denote.RawPtr.{Ptr, block_of, count_of}
use denote.Sharing.{beside, one, held, within}
use denote.Slice.{elements_shared, MutSlice, mut_slice_vals}
use denote.Builtin.{u8}
use denote.Ref.{MutBor}
use Rattle.left_right.specs.Parted.{tokens}

-- the bytes at a place may be read, for as long as r and one more lifetime last
abbrev pub readable : Lft → Ptr → List ℕ → Lft → Fml
readable r place bytes = within r (elements_shared u8 bytes (block_of place) (count_of place))

-- all that a block borrowed for r owns
abbrev pub borrow_owns : Lft → MutBor (List ℕ) → Fml
borrow_owns r block = (MutSlice (named 0) r u8).own_val block (mut_slice_vals block)

-- a part of count: that share of the loan's token, and the bytes to read
abbrev pub part_owns : Lft → Ptr → List ℕ → ℕ → ℕ → Fml
part_owns r place bytes loan count = fsep (tokens loan count) (readable r place bytes (loan ∷ []))

-- what a part shows while it is borrowed itself
abbrev pub part_shares : Lft → Ptr → List ℕ → ℕ → Lft → Fml
part_shares r place bytes loan =
    beside (one (λ q. flft (loan ∷ []) q)) (held (loan ∷ []) (readable r place bytes))

-- a deed: all that the borrowed block owns, once the loan has ended
abbrev pub deed_owns : Lft → MutBor (List ℕ) → ℕ → Fml
deed_owns r block loan = flent (loan ∷ []) (borrow_owns r block)
