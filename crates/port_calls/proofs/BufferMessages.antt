-- What a message that is written over the whole of a buffer leaves.
use Rattle.std.proofs.Common.{◌≡◌, ℕ, ◌≤◌, ◌==◌, true, false, cond, eqb-true, List, [], length, drop, Option, Some, None, length-set, refl, ap, ◌∙◌, subst}
use Rattle.std.proofs.lemmas.List.{take_at}
use Rattle.std.specs.List.{position_or_len}
use Rattle.std.specs.Option.{is_some, option_map, option_map_or}
use Rattle.lend_block.specs.Loan.{LentBytes}
use Rattle.buf_desc.specs.Block.{Unsent}
use Rattle.buf_desc.specs.Fronts.{overwritten, with_bytes as with_block_bytes}
use Rattle.buf_desc.specs.Held.{Holding, buffer_at, bytes_at, with_bytes_at}
use Rattle.bus_messages.specs.Bag.{shape_of}
use Rattle.script_runs.specs.Messages.{sent_message}
use Rattle.script_runs.specs.Written.{with_bytes}
use Rattle.script_runs.proofs.Buffers.{length-sent_message}
use Rattle.app_calls.specs.Buffers.{WritesBag}
use Rattle.app_calls.specs.Callers.{written_in}

-- it is as long as the buffer, which has room for a message
pub formed-long : (found : Option Unsent) (id fill : ℕ) → is_some found ≡ true →
    ((bytes : List ℕ) → option_map (λ (block : Unsent). block.bytes) found ≡ Some bytes → (7 ≤ length bytes) × (length bytes ≤ 65542)) →
    length (sent_message id (length (option_map_or (λ (block : Unsent). block.bytes) found [])) fill) ≡ length (option_map_or (λ (block : Unsent). block.bytes) found [])
formed-long None id fill there sizes = absurd (cc there)
formed-long (Some block) id fill there sizes = length-sent_message id (length block.bytes) fill (sizes block.bytes refl).0

-- bytes over the whole of a buffer
changed-block : (found : Option Unsent) (change : List ℕ → List ℕ) →
    length (change (option_map_or (λ (block : Unsent). block.bytes) found [])) ≡ length (option_map_or (λ (block : Unsent). block.bytes) found []) →
    option_map (λ (block : Unsent). block.bytes) (option_map (λ block. with_block_bytes block (change (option_map_or (λ (block : Unsent). block.bytes) found []))) found)
    ≡ option_map change (option_map (λ (block : Unsent). block.bytes) found)
changed-block None change long = refl
changed-block (Some block) change long = ap Some (take_at (change block.bytes) (drop (length (change block.bytes)) block.bytes) (length block.bytes) long)

-- its block is what it was
same-shape : (found : Option Unsent) (w : List ℕ) → ((bytes w : List ℕ) → length (overwritten bytes w) ≡ length bytes) →
    option_map shape_of (option_map (λ block. with_block_bytes block w) found) ≡ option_map shape_of found
same-shape None w lengths = refl
same-shape (Some block) w lengths = ap (λ n. Some (record { desc = block.desc; size = block.size; asked = n })) (lengths block.bytes w)

module _ (old : Holding LentBytes) (buf : ℕ) (change : List ℕ → List ℕ)
    (seen : (bag : Holding LentBytes) (number : ℕ) (w : List ℕ) (other : ℕ) →
    buffer_at (with_bytes_at bag number w) other ≡ cond {A = Option Unsent} (number == other) (option_map (λ block. with_block_bytes block w) (buffer_at bag other)) (buffer_at bag other))
    (lengths : (bytes w : List ℕ) → length (overwritten bytes w) ≡ length bytes)
    (long : length (change (bytes_at old buf)) ≡ length (bytes_at old buf)) where
  abbrev w : List ℕ
  w = change (bytes_at old buf)

  written : (other : ℕ) → written_in (with_bytes_at old buf w) other ≡ with_bytes (written_in old) buf change other
  written other =
      ap (option_map (λ (block : Unsent). block.bytes)) (seen old buf w other)
      ∙ elim (buf == other) as (λ b. (buf == other) ≡ b →
      option_map (λ (block : Unsent). block.bytes) (cond {A = Option Unsent} b (option_map (λ block. with_block_bytes block w) (buffer_at old other)) (buffer_at old other))
      ≡ cond {A = Option (List ℕ)} b (option_map change (written_in old buf)) (written_in old other)) [
        | true ↦ λ is. subst (λ n. option_map (λ (block : Unsent). block.bytes) (option_map (λ block. with_block_bytes block w) (buffer_at old n)) ≡ option_map change (written_in old buf))
            (eqb-true buf other is) (changed-block (buffer_at old buf) change long)
        | false ↦ λ is. refl
      ] refl

  shapes : (other : ℕ) → option_map shape_of (buffer_at (with_bytes_at old buf w) other) ≡ option_map shape_of (buffer_at old other)
  shapes other =
      ap (option_map shape_of) (seen old buf w other)
      ∙ elim (buf == other) as (λ b.
      option_map shape_of (cond {A = Option Unsent} b (option_map (λ block. with_block_bytes block w) (buffer_at old other)) (buffer_at old other))
      ≡ option_map shape_of (buffer_at old other)) [
        | true ↦ same-shape (buffer_at old other) w lengths
        | false ↦ refl
      ]

  pub writes-whole : WritesBag old (with_bytes_at old buf (change (bytes_at old buf))) (with_bytes (written_in old) buf change)
  writes-whole = record {
    written = written;
    shapes = shapes;
    count = length-set old.buffers (position_or_len (λ (b : Unsent). b.number == buf) old.buffers) _;
    rest = refl;
  }
