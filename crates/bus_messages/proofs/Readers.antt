-- What is asked of one pipe.
use Rattle.std.proofs.Common.{◌≡◌, ℕ, Bool, true, false, cond, eqb, List, length, map, find, Option, Some, None, refl, ap, ◌∙◌}
use Rattle.std.proofs.lemmas.List.{length-map}
use Rattle.std.specs.Option.{option_map}
use Rattle.std.specs.Str.{bytes_eq}
use Rattle.fsw_base.proofs.Lists.{find-map}
use Rattle.bus_words.specs.Bus.{Item, Pipe, pipe_at, pipe_named, owns}
use Rattle.bus_routes.specs.declared.tables.ItemRow.{ItemRow}
use Rattle.buf_desc.specs.declared.slot.Slot.{Slot}
use Rattle.bus_words.specs.Pipes.{oldest_on, last_on, pipe_by}
use Rattle.bus_routes.specs.Rows.{Row, last_row_item}
use Rattle.bus_messages.specs.Inside.{item_in, pipes_in}
use Rattle.bus_words.proofs.PipeItems.{oldest_on-map, last_on-map, owns-map}

twice : {X : Type 0} (read : ItemRow → Item) (f : Pipe → X) (o : Option Row) → option_map f (option_map (pipe_by read) o) ≡ option_map (λ row. f (pipe_by read row)) o
twice read f None = refl
twice read f (Some row) = refl

-- of the one of a number
pub at_number : {X : Type 0} (read : ItemRow → Item) (f : Pipe → X) (rows : List Row) (number : ℕ) →
    option_map f (pipe_at (map (pipe_by read) rows) number) ≡ option_map (λ row. f (pipe_by read row)) (pipe_at rows number)
at_number read f rows number = ap (option_map f) (find-map (λ (pipe : Pipe). eqb pipe.number number) (pipe_by read) rows) ∙ twice read f (pipe_at rows number)

-- how many messages wait on it
pub waiting_on_it : (read : ItemRow → Item) (rows : List Row) (number : ℕ) →
    option_map (λ (pipe : Pipe). length pipe.queue) (pipe_at (map (pipe_by read) rows) number) ≡ option_map (λ (row : Row). length row.queue) (pipe_at rows number)
waiting_on_it read rows number = at_number read (λ (pipe : Pipe). length pipe.queue) rows number ∙ by_row (pipe_at rows number)
  where
    by_row : (o : Option Row) → option_map (λ (row : Row). length (pipe_by read row).queue) o ≡ option_map (λ (row : Row). length row.queue) o
    by_row None = refl
    by_row (Some row) = ap Some (length-map row.queue read)

-- of the one of a name
pub at_name : {X : Type 0} (read : ItemRow → Item) (f : Pipe → X) (rows : List Row) (name : List ℕ) →
    option_map f (pipe_named (map (pipe_by read) rows) name) ≡ option_map (λ row. f (pipe_by read row)) (find (λ row. bytes_eq row.name name) rows)
at_name read f rows name = ap (option_map f) (find-map (λ (pipe : Pipe). bytes_eq pipe.name name) (pipe_by read) rows) ∙ twice read f (find (λ row. bytes_eq row.name name) rows)

-- the number of the oldest message
pub oldest_number : (slots : List Slot) (rows : List Row) (number : ℕ) →
    option_map (λ (i : Item). i.number) (oldest_on (pipes_in slots rows) number) ≡ option_map (λ (i : ItemRow). i.number) (oldest_on rows number)
oldest_number slots rows number = ap (option_map (λ (i : Item). i.number)) (oldest_on-map (item_in slots) rows number) ∙ by_item (oldest_on rows number)
  where
    by_item : (o : Option ItemRow) → option_map (λ (i : Item). i.number) (option_map (item_in slots) o) ≡ option_map (λ (i : ItemRow). i.number) o
    by_item None = refl
    by_item (Some i) = refl

-- of the first of an owner
pub at_owner : {X : Type 0} (read : ItemRow → Item) (f : Pipe → X) (rows : List Row) (owner : ℕ) →
    option_map f (find (λ (pipe : Pipe). eqb pipe.owner owner) (map (pipe_by read) rows)) ≡ option_map (λ row. f (pipe_by read row)) (find (λ row. eqb row.owner owner) rows)
at_owner read f rows owner = ap (option_map f) (find-map (λ (pipe : Pipe). eqb pipe.owner owner) (pipe_by read) rows) ∙ twice read f (find (λ row. eqb row.owner owner) rows)

-- the number of the last message, told to the pipe's owner
pub last_number : (slots : List Slot) (rows : List Row) (app number : ℕ) →
    cond {A = Option ℕ} (owns (pipes_in slots rows) app number) (option_map (λ (i : Item). i.number) (last_on (pipes_in slots rows) number)) None
    ≡ option_map (λ (i : ItemRow). i.number) (last_row_item rows app number)
last_number slots rows app number =
    ap (λ b. cond {A = Option ℕ} b (option_map (λ (i : Item). i.number) (last_on (pipes_in slots rows) number)) None) (owns-map (item_in slots) rows app number)
    ∙ ap (λ o. cond {A = Option ℕ} (owns rows app number) (option_map (λ (i : Item). i.number) o) None) (last_on-map (item_in slots) rows number)
    ∙ by_test (owns rows app number) (last_on rows number)
  where
    by_test : (b : Bool) (o : Option ItemRow) →
        cond {A = Option ℕ} b (option_map (λ (i : Item). i.number) (option_map (item_in slots) o)) None ≡ option_map (λ (i : ItemRow). i.number) (cond {A = Option ItemRow} b o None)
    by_test true None = refl
    by_test true (Some i) = refl
    by_test false o = refl
