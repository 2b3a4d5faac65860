-- What a bag's buffers contain agrees with the unsent buffers of its application.
use Rattle.std.proofs.Common.{◌≡◌, ℕ, ◌≤◌, List, length, Option, Some, None, refl, ap, sym, ◌∙◌, arith}
use Rattle.std.specs.Option.{option_map}
use Rattle.lend_block.specs.Loan.{LentBytes}
use Rattle.buf_desc.specs.Block.{Unsent}
use Rattle.buf_desc.specs.Held.{Holding, buffer_at}
use Rattle.bus_words.specs.Bus.{Buffer, unsent_at}
use Rattle.bus_messages.specs.Store.{BufferDesc}
use Rattle.bus_messages.specs.Bag.{Shape, shape_of}
use Rattle.bus_messages.specs.Words.{desc_of, size_for}
use Rattle.sb_calls.specs.Bags.{HasBag, descs_of}
use Rattle.sb_calls.specs.Core.{Core, apps_of, state_of}
use Rattle.script_runs.specs.Written.{bytes_in}
use Rattle.script_runs.proofs.Buffers.{AreWritten, have-sizes, length-written, written-size}
use Rattle.app_calls.specs.Callers.{written_in}

of_block : (found : Option Unsent) → option_map (λ bytes. length bytes) (option_map (λ block. block.bytes) found) ≡ option_map (λ (shape : Shape). shape.asked) (option_map shape_of found)
of_block None = refl
of_block (Some block) = refl

of_buffer : (descs : List BufferDesc) (sizes : List ℕ) (number : ℕ) (found : Option Buffer) →
    option_map (λ (shape : Shape). shape.asked) (option_map (λ (buffer : Buffer). record { desc = desc_of descs number; size = size_for sizes buffer.size; asked = buffer.size }) found)
    ≡ option_map (λ buffer. buffer.size) found
of_buffer descs sizes number None = refl
of_buffer descs sizes number (Some buffer) = refl

-- as many bytes as the application's buffers have
pub bag-written : (core : Core) (app : ℕ) (bag : Holding LentBytes) → HasBag core app bag → AreWritten (state_of core).unsent app (written_in bag)
bag-written core app bag has = λ number.
    of_block (buffer_at bag number)
    ∙ ap (option_map (λ (shape : Shape). shape.asked)) (has.buffers.due number)
    ∙ of_buffer (descs_of core) core.limits.sizes number (unsent_at (state_of core).unsent app number)

-- 7 at least, and at most the limit
pub bag-sizes : (core : Core) (app number : ℕ) (bag : Holding LentBytes) (bytes : List ℕ) → HasBag core app bag → written_in bag number ≡ Some bytes →
    (7 ≤ length bytes) × (length bytes ≤ core.limits.msgmax)
bag-sizes core app number bag bytes has is =
    written-size core.limits (state_of core) app number (written_in bag) bytes (have-sizes core.limits (apps_of core) core.log.entries) (bag-written core app bag has) is

-- what two bags of one application contain is as long
pub alike-long : (core : Core) (app number : ℕ) (bag other : Holding LentBytes) → HasBag core app bag → HasBag core app other →
    length (bytes_in (written_in other) number) ≤ length (bytes_in (written_in bag) number)
alike-long core app number bag other has its =
    let one = length-written (state_of core).unsent app number (written_in bag) (bag-written core app bag has) in
    let two = length-written (state_of core).unsent app number (written_in other) (bag-written core app other its) in
    omega (arith, one, two)

pub alike-none : (core : Core) (app number : ℕ) (bag other : Holding LentBytes) → HasBag core app bag → HasBag core app other → written_in bag number ≡ None →
    written_in other number ≡ None
alike-none core app number bag other has its none =
    by_length (written_in other number)
    (bag-written core app other its number ∙ sym (bag-written core app bag has number) ∙ ap (option_map (λ bytes. length bytes)) none)
  where
    by_length : (found : Option (List ℕ)) → option_map (λ bytes. length bytes) found ≡ None → found ≡ None
    by_length None is = refl
    by_length (Some bytes) is = absurd (cc is)
