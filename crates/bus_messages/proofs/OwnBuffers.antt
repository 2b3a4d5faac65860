-- An unsent buffer that an application has, and the block of it in the application's bag.
use Rattle.std.proofs.Common.{◌≡◌, ℕ, ◌-◌, ◌<◌, ◌≤◌, ◌⊎◌, inl, inr, Bool, true, false, cond, eqb, List, [], ◌∷◌, length, get_or, find, Option, Some, None, refl, ap, sym, ◌∙◌, subst, arith}
use Rattle.std.specs.Option.{IsSome, option_map, option_map_or}
use Rattle.std.proofs.lemmas.Bool.{cases_lt, eqb-true}
use Rattle.std.proofs.lemmas.List.{get_or_past}
use Rattle.lend_block.specs.Loan.{LentBytes}
use Rattle.bucket_list.specs.Lists.{times_in}
use Rattle.es_pool.specs.Pool.{size_at}
use Rattle.buf_desc.specs.Block.{Unsent as UnsentBlock}
use Rattle.buf_desc.specs.Desk.{Buffers, IsOf}
use Rattle.buf_desc.specs.Held.{Holding, buffer_at, bytes_at}
use Rattle.buf_desc.specs.Slots.{slot_at, is_open, number_in, asked_in}
use Rattle.buf_desc.specs.declared.slot.Slot.TheVariants.{Unsent}
use Rattle.bus_words.specs.Bus.{Buffer, has_unsent, unsent_size}
use Rattle.bus_messages.specs.declared.store.BusStore.TheInside.{Inside}
use Rattle.bus_messages.specs.Bag.{Shape, shape_of, buffer_due, HoldsBuffers, HoldsBuffer}
use Rattle.bus_messages.specs.Store.{Store, BufferDesc}
use Rattle.bus_messages.specs.Words.{size_for}
use Rattle.bus_messages.specs.Inside.{store_of, Keeps, Seals, unsent_in, descs_in}
use Rattle.bus_messages.proofs.BufferLists.{IsMember, mine_block, mine_open, mine_found}
use Rattle.bus_messages.proofs.ListChanges.{list_of, due_found}
use Rattle.bus_messages.proofs.Ties.{open_is, open_live}

-- a bag that has all the blocks has that of each number
pub one_held : (unsent : List (List Buffer)) (descs : List BufferDesc) (sizes : List ℕ) (app : ℕ) (bag : Holding LentBytes) (number : ℕ) → HoldsBuffers unsent descs sizes app bag → HoldsBuffer unsent descs sizes app bag number
one_held unsent descs sizes app bag number holds = record { known = holds.known; due = holds.due number }

-- what stands in a list stands in one that is there
pub list_there : (lists : List (List ℕ)) (i d : ℕ) → 0 < times_in (get_or lists i []) d → i < length lists
list_there lists i d h = at (cases_lt i (length lists))
  where
    at : (i < length lists) ⊎ (length lists ≤ i) → i < length lists
    at (inl l) = l
    at (inr l) = absurd (let e = ap (λ (ds : List ℕ). times_in ds d) (get_or_past lists i [] l) in omega (arith, h, e))

-- what is found of a number has it
found_number : (blocks : List UnsentBlock) (n : ℕ) (block : UnsentBlock) → find (λ (b : UnsentBlock). eqb b.number n) blocks ≡ Some block → block.number ≡ n
found_number [] n block e = absurd (cc (e))
found_number (b ∷ blocks) n block e = at (eqb b.number n) refl e (found_number blocks n block)
  where
    at : (c : Bool) → eqb b.number n ≡ c → cond {A = Option UnsentBlock} c (Some b) (find (λ (x : UnsentBlock). eqb x.number n) blocks) ≡ Some block →
        (find (λ (x : UnsentBlock). eqb x.number n) blocks ≡ Some block → block.number ≡ n) → block.number ≡ n
    at true is f ih = sym (ap (λ o. option_map_or {U = ℕ} (λ (x : UnsentBlock). x.number) o 0) f) ∙ eqb-true b.number n is
    at false is f ih = ih f

module _ (a : Inside) (old : Store) (app buf : ℕ) (viewed : store_of a ≡ old) (keeps : Keeps a) (has : has_unsent old.unsent app buf ≡ true) where
  abbrev member : IsMember (λ d. number_in (slot_at a.desk.slots d)) (list_of a.lists.lists app) buf
  member = mine_block a.desk.slots a.lists.lists keeps.listed keeps.backed.tied.numbers app buf (ap (λ (o : Store). has_unsent o.unsent app buf) viewed ∙ has)

  -- the descriptor of the buffer
  abbrev pub desc : ℕ
  desc = member.desc

  pub mine : 0 < times_in (list_of a.lists.lists app) desc
  mine = member.listed

  pub numbered : number_in (slot_at a.desk.slots desc) ≡ buf
  numbered = member.has_key

  pub is_unsent : is_open (slot_at a.desk.slots desc) ≡ true
  is_unsent = mine_open a.desk.slots a.lists.lists keeps.listed keeps.backed.tied.numbers app desc mine

  -- its number is one of those given
  pub given_number : 1 ≤ buf
  given_number = subst (λ n. 1 ≤ n) numbered (keeps.backed.tied.given desc (open_live (slot_at a.desk.slots desc) is_unsent)).first

  pub place : app - 1 < length a.lists.lists
  place = list_there a.lists.lists (app - 1) desc mine

  -- its size is what was asked for
  pub size_is : unsent_size old.unsent app buf ≡ asked_in (slot_at a.desk.slots desc)
  size_is =
      ap (λ (o : Store). unsent_size o.unsent app buf) (sym viewed)
      ∙ ap (unsent_size (unsent_in a.desk.slots a.lists.lists) app) (sym numbered)
      ∙ ap (λ o. option_map_or {U = ℕ} (λ (b : Buffer). b.size) o 0) (mine_found a.desk.slots a.lists.lists keeps.listed keeps.backed.tied.numbers app desc mine)

  module _ (held : Holding LentBytes) (holds : HoldsBuffer old.unsent old.descs old.account.sizes app held buf) where
    abbrev shape : Shape
    shape = record { desc = desc; size = size_for a.desk.pool.sizes (asked_in (slot_at a.desk.slots desc)); asked = asked_in (slot_at a.desk.slots desc) }

    due_is : option_map shape_of (buffer_at held buf) ≡ Some shape
    due_is =
        holds.due
        ∙ ap (λ (o : Store). buffer_due o.unsent o.descs o.account.sizes app buf) (sym viewed)
        ∙ ap (buffer_due (unsent_in a.desk.slots a.lists.lists) (descs_in a.desk.slots a.lists.lists) a.desk.pool.sizes app) (sym numbered)
        ∙ due_found a.desk.slots a.lists.lists keeps.listed keeps.backed.tied.numbers a.desk.pool.sizes app desc mine

    pub in_bag : (o : Option UnsentBlock) → o ≡ buffer_at held buf → IsSome o
    in_bag o is = at o (ap (option_map shape_of) is ∙ due_is)
      where
        at : (x : Option UnsentBlock) → option_map shape_of x ≡ Some shape → IsSome x
        at None e = absurd (cc (e))
        at (Some b) e = refl

    module _ (block : UnsentBlock) (is : Some block ≡ buffer_at held buf) where
      shaped : shape_of block ≡ shape
      shaped = ap (λ o. option_map_or {U = Shape} (λ (s : Shape). s) o shape) (ap (option_map shape_of) is ∙ due_is)

      pub desc_is : block.desc ≡ desc
      desc_is = ap (λ (s : Shape). s.desc) shaped

      pub asked_is : length block.bytes ≡ asked_in (slot_at a.desk.slots desc)
      asked_is = ap (λ (s : Shape). s.asked) shaped

      pub number_is : block.number ≡ buf
      number_is = found_number held.buffers buf block (sym is)

      pub bytes_are : bytes_at held buf ≡ block.bytes
      bytes_are = ap (λ (o : Option UnsentBlock). option_map_or {U = List ℕ} (λ (b : UnsentBlock). b.bytes) o []) (sym is)

      pub own_block : IsOf a.desk block
      own_block = (
        ap (slot_at a.desk.slots) desc_is ∙ open_is (slot_at a.desk.slots desc) is_unsent
            ∙ ap (λ n. Unsent n (asked_in (slot_at a.desk.slots desc))) (numbered ∙ sym number_is)
            ∙ ap (Unsent block.number) (sym asked_is),
        ap (λ (s : Shape). s.size) shaped
            ∙ ap (λ (o : Option ℕ). option_map_or {U = ℕ} (λ c. get_or a.desk.pool.sizes c 0) o 0) (keeps.backed.tied.sizes desc (open_live (slot_at a.desk.slots desc) is_unsent))
            ∙ ap (size_at a.desk.pool) (sym desc_is),
      )

      pub numbered_block : number_in (slot_at a.desk.slots block.desc) ≡ buf
      numbered_block = ap (λ d. number_in (slot_at a.desk.slots d)) desc_is ∙ numbered

      pub in_list : 0 < times_in (list_of a.lists.lists app) block.desc
      in_list = subst (λ d. 0 < times_in (list_of a.lists.lists app) d) (sym desc_is) mine

      -- the buffer's size is what was asked for
      pub size_block : unsent_size old.unsent app buf ≡ asked_in (slot_at a.desk.slots block.desc)
      size_block = size_is ∙ ap (λ d. asked_in (slot_at a.desk.slots d)) (sym desc_is)

      -- the block is sealed for the buffer's number, as it was asked for
      pub seals_as : (sealed : Buffers) (message : List ℕ) → Seals a.desk sealed block.number (length block.bytes) message block.desc → Seals a.desk sealed buf (asked_in (slot_at a.desk.slots block.desc)) message block.desc
      seals_as sealed message seals =
          subst (λ n. Seals a.desk sealed n (asked_in (slot_at a.desk.slots block.desc)) message block.desc) number_is
          (subst (λ n. Seals a.desk sealed block.number n message block.desc) (asked_is ∙ ap (λ d. asked_in (slot_at a.desk.slots d)) (sym desc_is)) seals)
