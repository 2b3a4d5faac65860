-- When a bag has the views and buffers that are due once pipes, unsent buffers, loans or descriptors are others.
use Rattle.std.proofs.Common.{◌≡◌, ℕ, ◌==◌, ◌||◌, Bool, true, false, cond, true≢false, eqb-true, List, [], ◌∷◌, length, map, find, Option, Some, None, is_some, refl, ap, sym, ◌∙◌}
use Rattle.std.specs.List.{list_any}
use Rattle.std.specs.Option.{option_map, option_map_or, option_and_then}
use Rattle.lend_block.specs.Loan.{LentBytes}
use Rattle.buf_desc.specs.Block.{Unsent}
use Rattle.buf_desc.specs.Held.{Holding, buffer_at, bytes_at}
use Rattle.bus_words.specs.Bus.{Item, Pipe, Buffer, pipe_at, is_live, owns, unsent_of, unsent_at, has_unsent, unsent_size}
use Rattle.bus_words.specs.Held.{is_unsent, buffers_in}
use Rattle.bus_words.proofs.Buffers.{of_buffer, unsent_in}
use Rattle.bus_messages.specs.Bag.{HoldsViews, HoldsBuffers, Shape, shape_of, view_due, views_due}
use Rattle.bus_messages.specs.Store.{LastLoan, BufferDesc}
use Rattle.bus_words.specs.Pipes.{last_on}
use Rattle.bus_messages.specs.Words.{loan_of, desc_of, size_for}

-- Views. --

-- the view of a message that is lent by this loan
abbrev viewed : ℕ → Option Item → Option LentBytes
viewed loan last = option_map (λ (item : Item). record { loan = loan; bytes = item.message }) last

viewed-alike : (loan other : ℕ) (last : Option Item) → (is_some last ≡ true → other ≡ loan) → viewed other last ≡ viewed loan last
viewed-alike loan other None same = refl
viewed-alike loan other (Some item) same = ap (λ n. viewed n (Some item)) (same refl)

-- Pipes as an application sees them: it has the same ones, with the same last messages, lent by the same loans.
pub record AreSeenAlike (pipes now : List Pipe) (loans others : List LastLoan) (app : ℕ) : Type 0 where
  pub owned : (pipe : ℕ) → owns now app pipe ≡ owns pipes app pipe
  pub last : (pipe : ℕ) → owns pipes app pipe ≡ true → last_on now pipe ≡ last_on pipes pipe
  pub lent : (pipe : ℕ) → owns pipes app pipe ≡ true → is_some (last_on pipes pipe) ≡ true → loan_of others pipe ≡ loan_of loans pipe
  pub counted : views_due now app ≡ views_due pipes app

pub holds-alike : (pipes now : List Pipe) (loans others : List LastLoan) (most app : ℕ) (bag : Holding LentBytes) → AreSeenAlike pipes now loans others app →
    HoldsViews pipes loans most app bag → HoldsViews now others most app bag
holds-alike pipes now loans others most app bag alike holds = record {
  seen = λ pipe. holds.seen pipe ∙ sym (due pipe (owns pipes app pipe) refl);
  counted = holds.counted ∙ sym alike.counted;
  room = holds.room;
}
  where
    due : (pipe : ℕ) (b : Bool) → owns pipes app pipe ≡ b → view_due now others app pipe ≡ view_due pipes loans app pipe
    due pipe true own =
        ap (λ b. cond {A = Option LentBytes} b (viewed (loan_of others pipe) (last_on now pipe)) None) (alike.owned pipe)
        ∙ ap (λ l. cond {A = Option LentBytes} (owns pipes app pipe) (viewed (loan_of others pipe) l) None) (alike.last pipe own)
        ∙ ap (λ v. cond {A = Option LentBytes} (owns pipes app pipe) v None) (viewed-alike (loan_of loans pipe) (loan_of others pipe) (last_on pipes pipe) (alike.lent pipe own))
    due pipe false none =
        ap (λ b. cond {A = Option LentBytes} b (viewed (loan_of others pipe) (last_on now pipe)) None) (alike.owned pipe ∙ none)
        ∙ sym (ap (λ b. cond {A = Option LentBytes} b (viewed (loan_of loans pipe) (last_on pipes pipe)) None) none)

-- a pipe with a last message is live
pub last-live : (pipes : List Pipe) (number : ℕ) → is_some (last_on pipes number) ≡ true → is_live pipes number ≡ true
last-live [] number some = absurd (true≢false (sym some))
last-live (x ∷ pipes) number some =
    elim (x.number == number) as (λ b. is_some (option_and_then (λ (pipe : Pipe). pipe.last) (cond {A = Option Pipe} b (Some x) (pipe_at pipes number))) ≡ true → (b || is_live pipes number) ≡ true) [
      | true ↦ λ is. refl
      | false ↦ λ is. last-live pipes number is
    ] some

-- of loans told pipe by pipe, that of a live one
pub loan_of-told : (f : ℕ → ℕ) (pipes : List Pipe) (number : ℕ) → is_live pipes number ≡ true → loan_of (map (λ (pipe : Pipe). record { pipe = pipe.number; loan = f pipe.number }) pipes) number ≡ f number
loan_of-told f [] number live = absurd (true≢false (sym live))
loan_of-told f (x ∷ pipes) number live = by_test (x.number == number) refl (loan_of-told f pipes number) live
  where
    told : List LastLoan
    told = map (λ (pipe : Pipe). record { pipe = pipe.number; loan = f pipe.number }) pipes

    by_test : (b : Bool) → (x.number == number) ≡ b → (is_live pipes number ≡ true → loan_of told number ≡ f number) → (b || is_live pipes number) ≡ true →
        option_map_or {U = ℕ} (λ (one : LastLoan). one.loan) (cond {A = Option LastLoan} b (Some (record { pipe = x.number; loan = f x.number })) (find (λ (one : LastLoan). one.pipe == number) told)) 0 ≡ f number
    by_test true is ih live = ap f (eqb-true x.number number is)
    by_test false is ih live = ih live

-- Buffers. --

-- a bag has the buffers that are due if the application has the same ones, and their descriptors stay
pub buffers-alike : (unsent now : List (List Buffer)) (descs others : List BufferDesc) (sizes : List ℕ) (app : ℕ) (bag : Holding LentBytes) → unsent_of now app ≡ unsent_of unsent app →
    ((number : ℕ) → has_unsent unsent app number ≡ true → desc_of others number ≡ desc_of descs number) →
    HoldsBuffers unsent descs sizes app bag → HoldsBuffers now others sizes app bag
buffers-alike unsent now descs others sizes app bag same kept holds = record {
  known = holds.known;
  due = λ number. holds.due number ∙ sym (
      ap (λ (bs : List Buffer). option_map (shape others number) (find (λ (buffer : Buffer). buffer.number == number) bs)) same
      ∙ by_buffer number (unsent_at unsent app number) (kept number)
      );
}
  where
    shape : List BufferDesc → ℕ → Buffer → Shape
    shape told number buffer = record { desc = desc_of told number; size = size_for sizes buffer.size; asked = buffer.size }

    by_buffer : (number : ℕ) (found : Option Buffer) → (is_some found ≡ true → desc_of others number ≡ desc_of descs number) →
        option_map (shape others number) found ≡ option_map (shape descs number) found
    by_buffer number None is = refl
    by_buffer number (Some buffer) is = ap (λ d. Some (record { desc = d; size = size_for sizes buffer.size; asked = buffer.size })) (is refl)

-- of descriptors told buffer by buffer, that of one
pub desc_of-told : (f : ℕ → ℕ) (unsent : List (List Buffer)) (number : ℕ) → is_unsent unsent number ≡ true →
    desc_of (map (λ (buffer : Buffer). record { number = buffer.number; desc = f buffer.number }) (buffers_in unsent)) number ≡ f number
desc_of-told f unsent number is = told_in (buffers_in unsent) (sym (unsent_in unsent number) ∙ is)
  where
    told : List Buffer → List BufferDesc
    told buffers = map (λ (buffer : Buffer). record { number = buffer.number; desc = f buffer.number }) buffers

    told_in : (buffers : List Buffer) → list_any (of_buffer number) buffers ≡ true → desc_of (told buffers) number ≡ f number
    told_in [] some = absurd (true≢false (sym some))
    told_in (x ∷ buffers) some = by_test (x.number == number) refl (told_in buffers) some
      where
        by_test : (b : Bool) → (x.number == number) ≡ b → (list_any (of_buffer number) buffers ≡ true → desc_of (told buffers) number ≡ f number) → (b || list_any (of_buffer number) buffers) ≡ true →
            option_map_or {U = ℕ} (λ (one : BufferDesc). one.desc) (cond {A = Option BufferDesc} b (Some (record { number = x.number; desc = f x.number })) (find (λ (one : BufferDesc). one.number == number) (told buffers))) 0 ≡ f number
        by_test true here ih some = ap f (eqb-true x.number number here)
        by_test false here ih some = ih some

-- a bag has as many bytes of a buffer as the application's is long
pub bytes-due : (unsent : List (List Buffer)) (descs : List BufferDesc) (sizes : List ℕ) (app number : ℕ) (bag : Holding LentBytes) → HoldsBuffers unsent descs sizes app bag →
    length (bytes_at bag number) ≡ unsent_size unsent app number
bytes-due unsent descs sizes app number bag holds = by_parts (buffer_at bag number) (unsent_at unsent app number) (holds.due number)
  where
    by_parts : (block : Option Unsent) (buffer : Option Buffer) →
        option_map shape_of block ≡ option_map (λ (b : Buffer). record { desc = desc_of descs number; size = size_for sizes b.size; asked = b.size }) buffer →
        length (option_map_or (λ (b : Unsent). b.bytes) block []) ≡ option_map_or (λ (b : Buffer). b.size) buffer 0
    by_parts None None is = refl
    by_parts None (Some buffer) is = absurd (cc is)
    by_parts (Some block) None is = absurd (cc is)
    by_parts (Some block) (Some buffer) is = ap (λ (o : Option Shape). option_map_or (λ (s : Shape). s.asked) o 0) is
