-- Where tables lie: each block of the pool that is out is one table's.
use Rattle.std.proofs.Common.{◌≡◌, ℕ, ◌&&◌, ◌||◌, ◌⊎◌, inl, inr, Bool, true, false, eqb, List, Option, refl, ap, sym, ◌∙◌, arith}
use Rattle.std.proofs.lemmas.Bool.Decides.{nat_tests}
use Rattle.es_pool.specs.Pool.{is_out}
use Rattle.table_blocks.specs.Memory.{Memory, slot_at}
use Rattle.table_blocks.specs.Contents.{Content, is_open, content_at}
use Rattle.table_blocks.specs.Blocks.{IsPlaced, has_block}
use Rattle.table_blocks.specs.Inside.{IsStore}
use Rattle.table_blocks.specs.declared.slot.Slot.{Slot}
use Rattle.table_blocks.specs.declared.slot.Slot.TheVariants.{Free, Taken}
use Rattle.table_blocks.proofs.Store.{held_here}

abbrev key_in : Slot → ℕ
key_in (Free bytes) = 0
key_in (Taken key) = key

-- one test and one of two others hold
tests : (p q r : Bool) → (p && (q || r)) ≡ true → (p ≡ true) × ((q ≡ true) ⊎ (r ≡ true))
tests true true r is = (refl, inl refl)
tests true false r is = (refl, inr is)
tests false q r is = absurd (cc (is))

is_same : (m n : ℕ) → eqb m n ≡ true → m ≡ n
is_same m n same = grind (arith, nat_tests)

module _ (memory : Memory) (most : ℕ) (tables : List (Option Content)) (work : List (List ℕ)) (capacity : ℕ) (k : IsStore memory most tables work capacity) where
  taken : (key block : ℕ) → has_block tables key block ≡ true → slot_at memory.slots block ≡ Taken key
  taken key block has =
      let both = tests (is_open tables key) (eqb (content_at tables key).first block) (eqb (content_at tables key).second block) has in
      let held = held_here memory most key tables work capacity k both.0 in
      by_either both.1 held.first held.second
    where
      by_either : (eqb (content_at tables key).first block ≡ true) ⊎ (eqb (content_at tables key).second block ≡ true) →
          slot_at memory.slots (content_at tables key).first ≡ Taken key → slot_at memory.slots (content_at tables key).second ≡ Taken key → slot_at memory.slots block ≡ Taken key
      by_either (inl is) first second = ap (slot_at memory.slots) (sym (is_same (content_at tables key).first block is)) ∙ first
      by_either (inr is) first second = ap (slot_at memory.slots) (sym (is_same (content_at tables key).second block is)) ∙ second

  pub own_blocks : (key other block : ℕ) → has_block tables key block ≡ true → has_block tables other block ≡ true → key ≡ other
  own_blocks key other block has too = ap key_in (sym (taken key block has) ∙ taken other block too)

  pub placed : ((block owner : ℕ) → slot_at memory.slots block ≡ Taken owner → is_out memory.pool block ≡ true) → (key : ℕ) → is_open tables key ≡ true → IsPlaced memory.pool (content_at tables key)
  placed out key there =
      let held = held_here memory most key tables work capacity k there in
      record {
        first_out = out (content_at tables key).first key held.first;
        second_out = out (content_at tables key).second key held.second;
        first_class = held.first_class;
        second_class = held.second_class;
        apart = held.apart;
      }
