-- The blocks, told by what the pipes hold.
use Rattle.std.proofs.Common.{◌≡◌, ℕ, ◌+◌, true, List, [], ◌∷◌, map, sum_by, AllPairs, get_or, Option, Some, None, refl, ap, sym, ◌∙◌, subst, arith}
use Rattle.std.specs.List.{All}
use Rattle.std.specs.Option.{IfSome, option_map, option_map_or}
use Rattle.std.proofs.lemmas.List.Elements.{All-weaker}
use Rattle.std.proofs.lemmas.List.Sums.{sum_by-cons}
use Rattle.fsw_base.specs.Blocks.{class_of}
use Rattle.es_pool.specs.Pool.{size_at}
use Rattle.buf_desc.specs.Slots.{slot_at, sealed_at, is_sealed}
use Rattle.buf_desc.specs.Desk.{Buffers}
use Rattle.buf_desc.specs.declared.slot.Slot.{Slot}
use Rattle.bus_words.specs.Bus.{Item, Pipe}
use Rattle.bus_words.specs.Held.{items_of}
use Rattle.bus_routes.specs.declared.tables.ItemRow.{ItemRow}
use Rattle.bus_words.specs.Pipes.{last_on, pipe_by}
use Rattle.bus_routes.specs.Rows.{Row}
use Rattle.bus_routes.specs.Uses.{item_use}
use Rattle.bus_messages.specs.Words.{loan_of}
use Rattle.bus_messages.specs.Blocks.{IsGiven, AreOfOneSend, last_by, AreBlocks}
use Rattle.bus_messages.specs.Inside.{item_in, pipes_in, unsent_in, descs_in, loan_at, loan_in, AllItems, IsNamed, lasts_of, Backed, AreListed}
use Rattle.bus_messages.proofs.Bags.{loan-rows}
use Rattle.bus_messages.proofs.BlocksOut.{lies, item_found, block_named}
use Rattle.bus_messages.proofs.UseCounts.{names-row, named-rows}
use Rattle.bus_messages.proofs.Items.{items_weaker, last_found, of_items}
use Rattle.bus_messages.proofs.BufferLists.{is_unsent_here, unsent_block, member_open, desc_told, size_told}
use Rattle.bus_words.proofs.PipeItems.{last_on-map}
use Rattle.bus_messages.proofs.OneLoan.{one_block}
use Rattle.bus_messages.proofs.Ties.{sealed_live, sealed_number, sealed_asked, open_live}

-- how often the pipes received a send last
last-rows : (slots : List Slot) (n : ℕ) (rows : List Row) → sum_by (last_by n) (pipes_in slots rows) ≡ lasts_of n rows
last-rows slots n [] = refl
last-rows slots n (row ∷ rows) =
    sum_by-cons (last_by n) (pipe_by (item_in slots) row) (pipes_in slots rows)
    ∙ ap (λ k. k + sum_by (last_by n) (pipes_in slots rows)) (names-row slots n row.last)
    ∙ ap (λ k. item_use n row.last + k) (last-rows slots n rows)
    ∙ sym (sum_by-cons (λ (r : Row). item_use n r.last) row rows)

-- Blocks. --

-- an item is read from a row's one
record IsRead (slots : List Slot) (item : Item) : Type 0 where
  pub row : ItemRow
  pub named : IsNamed slots row
  pub is : item ≡ item_in slots row

module _ (b : Buffers) (rows : List Row) (lists : List (List ℕ)) (given : ℕ) (backed : Backed b rows given) (listed : AreListed b.slots lists) where
  abbrev pipes : List Pipe
  pipes = pipes_in b.slots rows

  all_read : All (IsRead b.slots) (items_of pipes)
  all_read =
      of_items b.slots (IsRead b.slots) rows
      (items_read rows backed.tied.items)
    where
      items_read : (some : List Row) → AllItems (IsNamed b.slots) some → AllItems (λ i. IsRead b.slots (item_in b.slots i)) some
      items_read some all = items_weaker (IsNamed b.slots) (λ i. IsRead b.slots (item_in b.slots i)) (λ i named. record { row = i; named = named; is = refl }) some all

  module _ (desc : ℕ) (sealed : is_sealed (slot_at b.slots desc) ≡ true) where
    abbrev number : ℕ
    number = (sealed_at b.slots desc).number

    abbrev lies_here : (i : ItemRow) → IsNamed b.slots i → i.number ≡ number → i.desc ≡ desc
    lies_here i named same = lies b rows lists given backed listed desc sealed i named same

    block_bytes : All (λ (item : Item). item.number ≡ number → item.message ≡ (sealed_at b.slots desc).bytes) (items_of pipes)
    block_bytes =
        All-weaker (IsRead b.slots) (λ (item : Item). item.number ≡ number → item.message ≡ (sealed_at b.slots desc).bytes)
        (λ item read same.
        ap (λ (i : Item). i.message) read.is
        ∙ ap (λ d. (sealed_at b.slots d).bytes) (lies_here read.row read.named (sym (ap (λ (i : Item). i.number) read.is) ∙ same)))
        (items_of pipes) all_read

    block_asked_for : All (λ (item : Item). item.number ≡ number → item.asked ≡ (sealed_at b.slots desc).asked) (items_of pipes)
    block_asked_for =
        All-weaker (IsRead b.slots) (λ (item : Item). item.number ≡ number → item.asked ≡ (sealed_at b.slots desc).asked)
        (λ item read same.
        ap (λ (i : Item). i.asked) read.is
        ∙ ap (λ d. (sealed_at b.slots d).asked) (lies_here read.row read.named (sym (ap (λ (i : Item). i.number) read.is) ∙ same)))
        (items_of pipes) all_read

    block_loan : (pipe : ℕ) (item : Item) → last_on pipes pipe ≡ Some item → item.number ≡ number → loan_of (map (loan_in b.slots) rows) pipe ≡ (sealed_at b.slots desc).loan
    block_loan pipe item e same =
        loan-rows b.slots rows pipe
        ∙ by_last (last_on rows pipe) (last_found (IsNamed b.slots) rows pipe backed.tied.items) (sym (last_on-map (item_in b.slots) rows pipe) ∙ e)
      where
        by_last : (o : Option ItemRow) → IfSome o (IsNamed b.slots) → option_map (item_in b.slots) o ≡ Some item → loan_at b.slots o ≡ (sealed_at b.slots desc).loan
        by_last None named f = absurd (cc (f))
        by_last (Some i) named f =
            ap (λ d. (sealed_at b.slots d).loan) (lies_here i named (ap (λ o. option_map_or {U = ℕ} (λ (x : Item). x.number) o 0) f ∙ same))

  -- the blocks are those of the sends that the pipes hold, and of the unsent buffers
  pub are_blocks : ((desc : ℕ) → is_sealed (slot_at b.slots desc) ≡ true → (sealed_at b.slots desc).size ≡ size_at b.pool desc) →
      AreBlocks b pipes (map (loan_in b.slots) rows) (unsent_in b.slots lists) (descs_in b.slots lists)
  are_blocks whole = record {
    each_sealed = λ desc sealed. record {
      named = block_named b rows lists given backed listed desc sealed;
      size = whole desc sealed
          ∙ sym (ap (λ (o : Option ℕ). option_map_or {U = ℕ} (λ c. get_or b.pool.sizes c 0) o 0)
          (ap (λ n. class_of n b.pool.sizes) (sym (sealed_asked (slot_at b.slots desc) sealed)) ∙ backed.tied.sizes desc (sealed_live (slot_at b.slots desc) sealed)));
      asked = block_asked_for desc sealed;
      bytes = block_bytes desc sealed;
      uses = backed.tied.uses desc sealed ∙ sym (named-rows b.slots (sealed_at b.slots desc).number rows);
      views = backed.tied.views desc sealed ∙ sym (last-rows b.slots (sealed_at b.slots desc).number rows);
      loan = block_loan desc sealed;
    };
    each_unsent = λ desc is. record {
      of_buffer = is_unsent_here b.slots lists listed backed.tied.numbers desc is;
      desc_told = desc_told b.slots lists listed backed.tied.numbers desc is;
      asked = sym (size_told b.slots lists listed backed.tied.numbers desc is);
      size = sym (ap (λ (o : Option ℕ). option_map_or {U = ℕ} (λ c. get_or b.pool.sizes c 0) o 0) (backed.tied.sizes desc (open_live (slot_at b.slots desc) is)));
    };
    all_sends = λ n is. let it = item_found b rows lists given backed listed n is in record { desc = it.item.desc; sealed = it.fact.sealed; has_number = it.fact.number ∙ it.number };
    all_buffers = λ n is.
        let m = unsent_block b.slots lists listed backed.tied.numbers n is in
        record { desc = m.desc; open_block = member_open b.slots lists listed backed.tied.numbers n m; has_number = m.has_key };
    one = backed.tied.numbers;
  }

  -- each item has a number that was given
  pub are_given : All (λ (item : Item). IsGiven given item.number) (items_of pipes)
  are_given =
      All-weaker (IsRead b.slots) (λ (item : Item). IsGiven given item.number)
      (λ item read.
      subst (IsGiven given)
      (sealed_number (slot_at b.slots read.row.desc) read.named.sealed ∙ read.named.number ∙ sym (ap (λ (i : Item). i.number) read.is))
      (backed.tied.given read.row.desc (sealed_live (slot_at b.slots read.row.desc) read.named.sealed)))
      (items_of pipes) all_read

  -- two items of one number are read from one block
  pub are_alike : AllPairs AreOfOneSend (items_of pipes)
  are_alike i j d h l =
      let one = all_read i d (omega (arith, h, l)) in
      let other = all_read j d l in
      agree (get_or (items_of pipes) i d) (get_or (items_of pipes) j d) one other
    where
      agree : (item other : Item) → IsRead b.slots item → IsRead b.slots other → AreOfOneSend item other
      agree item other read also same =
          let named : read.row.number ≡ also.row.number = sym (ap (λ (x : Item). x.number) read.is) ∙ same ∙ ap (λ (x : Item). x.number) also.is in
          let desc = one_block b.slots backed.tied.numbers read.row also.row read.named also.named named in (
            ap (λ (x : Item). x.message) read.is ∙ ap (λ n. (sealed_at b.slots n).bytes) desc ∙ sym (ap (λ (x : Item). x.message) also.is),
            ap (λ (x : Item). x.asked) read.is ∙ ap (λ n. (sealed_at b.slots n).asked) desc ∙ sym (ap (λ (x : Item). x.asked) also.is),
          )
