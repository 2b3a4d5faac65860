-- Uses, counted over the pipes that the rows stand for.
use Rattle.std.proofs.Common.{◌≡◌, ℕ, ◌+◌, eqb, leb, List, [], ◌∷◌, count_by, sum_by, Option, Some, None, refl, ap, sym, ◌∙◌}
use Rattle.std.specs.Option.{option_map}
use Rattle.std.proofs.lemmas.List.Sums.{sum_by-cons}
use Rattle.fsw_base.proofs.Lists.{count_by-map}
use Rattle.buf_desc.specs.declared.slot.Slot.{Slot}
use Rattle.bus_words.specs.Bus.{Item}
use Rattle.bus_routes.specs.declared.tables.ItemRow.{ItemRow}
use Rattle.bus_routes.specs.Rows.{Row}
use Rattle.bus_routes.specs.Uses.{item_use, uses_in, uses_of}
use Rattle.bus_words.specs.Pipes.{pipe_by}
use Rattle.bus_messages.specs.Inside.{item_in, pipes_in}
use Rattle.bus_words.specs.Held.{names, named_by, is_on_pipes}

pub names-row : (slots : List Slot) (n : ℕ) (o : Option ItemRow) → names n (option_map (item_in slots) o) ≡ item_use n o
names-row slots n None = refl
names-row slots n (Some i) = refl

named_by-row : (slots : List Slot) (n : ℕ) (row : Row) → named_by n (pipe_by (item_in slots) row) ≡ uses_in n row
named_by-row slots n row =
    ap (λ k. k + names n (option_map (item_in slots) row.last)) (count_by-map (λ (i : Item). eqb i.number n) (item_in slots) row.queue)
    ∙ ap (λ k. count_by (λ (i : ItemRow). eqb i.number n) row.queue + k) (names-row slots n row.last)

-- how often the pipes name a send
pub named-rows : (slots : List Slot) (n : ℕ) (rows : List Row) → sum_by (named_by n) (pipes_in slots rows) ≡ uses_of n rows
named-rows slots n [] = refl
named-rows slots n (row ∷ rows) =
    sum_by-cons (named_by n) (pipe_by (item_in slots) row) (pipes_in slots rows)
    ∙ ap (λ k. k + sum_by (named_by n) (pipes_in slots rows)) (named_by-row slots n row)
    ∙ ap (λ k. uses_in n row + k) (named-rows slots n rows)
    ∙ sym (sum_by-cons (uses_in n) row rows)

pub is_on_pipes-rows : (slots : List Slot) (rows : List Row) (n : ℕ) → is_on_pipes (pipes_in slots rows) n ≡ leb 1 (uses_of n rows)
is_on_pipes-rows slots rows n = ap (leb 1) (named-rows slots n rows)
