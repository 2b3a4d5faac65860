-- The unsent buffers that a port lends.
use Rattle.std.proofs.Common.{◌≡◌, ℕ, Option, Some, None, is_some, refl, ap, sym, ◌∙◌}
use Rattle.std.specs.Option.{option_map}
use Rattle.lend_block.specs.Loan.{LentBytes}
use Rattle.buf_desc.specs.Held.{Holding, buffer_at}
use Rattle.bus_words.specs.Bus.{Buffer, has_unsent, unsent_at}
use Rattle.bus_messages.specs.Bag.{Shape, shape_of}
use Rattle.bus_messages.specs.Words.{desc_of, size_for}
use Rattle.sb_calls.specs.Bags.{HasBag, descs_of}
use Rattle.sb_calls.specs.Core.{Core, state_of}

-- whether something is there doesn't change with what is told of it
pub some-mapped : {A B : Type 0} (f : A → B) (o : Option A) → is_some (option_map f o) ≡ is_some o
some-mapped f None = refl
some-mapped f (Some x) = refl

-- the bag has a block if and only if the application has an unsent buffer of this number
pub unsent_found : (core : Core) (app : ℕ) (bag : Holding LentBytes) → HasBag core app bag → (number : ℕ) → is_some (buffer_at bag number) ≡ has_unsent (state_of core).unsent app number
unsent_found core app bag has number =
    let of_buffer : Buffer → Shape = λ b. record { desc = desc_of (descs_of core) number; size = size_for core.limits.sizes b.size; asked = b.size } in
    sym (some-mapped shape_of (buffer_at bag number)) ∙ ap is_some (has.buffers.due number) ∙ some-mapped of_buffer (unsent_at (state_of core).unsent app number)
