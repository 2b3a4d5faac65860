-- A use of a sealed block that is let go: its view came back, and then the use was dropped.
use Rattle.std.proofs.Common.{◌≡◌, ℕ, ◌-◌, true, false, cond, nat_le, nat_lt, List, set, sym, ap, ◌∙◌, arith}
use Rattle.std.proofs.lemmas.Bool.Decides.{nat_tests}
use Rattle.std.proofs.lemmas.List.{get_or-set_same}
use Rattle.es_pool.specs.Pool.{PoolState, size_at, given_back}
use Rattle.buf_desc.specs.Block.{Sealed as SealedBlock}
use Rattle.buf_desc.specs.Slots.{slot_at, sealed_in, sealed_at, is_sealed}
use Rattle.buf_desc.specs.Desk.{Buffers, freed, resealed, after_use}
use Rattle.buf_desc.specs.declared.slot.Slot.{Slot}
use Rattle.buf_desc.specs.declared.slot.Slot.TheVariants.{Free, Sealed}
use Rattle.buf_desc.proofs.Lists.{set_set}
use Rattle.buf_desc.proofs.Keeps.{sealed_within}

is_last : (uses : ℕ) → nat_le uses 1 ≡ true → nat_lt 1 uses ≡ false
is_last uses e = grind (arith, nat_tests)

is_not_last : (uses : ℕ) → nat_le uses 1 ≡ false → nat_lt 1 uses ≡ true
is_not_last uses e = grind (arith, nat_tests)

-- a sealed block that was written and then opened is free
pub opened : (slots written free : List Slot) (desc : ℕ) (sent : SealedBlock) → is_sealed (slot_at slots desc) ≡ true → written ≡ set slots desc (Sealed sent) → free ≡ set written desc (Free (sealed_at written desc).size) → free ≡ set slots desc (Free sent.size)
opened slots written free desc sent e e₁ e₂ =
    e₂ ∙ (ap (λ l. set l desc (Free (sealed_at l desc).size)) e₁
    ∙ (ap (λ s. set (set slots desc (Sealed sent)) desc (Free (sealed_in s).size)) (get_or-set_same slots desc (Sealed sent) (Free 0) (sealed_within slots desc e))
    ∙ set_set slots desc (Sealed sent) (Free sent.size)))

module _ (pool : PoolState) (slots : List Slot) (desc : ℕ) (sealed : is_sealed (slot_at slots desc) ≡ true) where
  -- the block before
  abbrev here : SealedBlock
  here = sealed_at slots desc

  -- the block once the view came back
  abbrev back : SealedBlock
  back = record here { views = here.views - 1 }

  abbrev returned : Buffers
  returned = record { pool = pool; slots = set slots desc (Sealed back) }

  abbrev dropped : Slot → Buffers
  dropped s = cond (nat_lt 1 (sealed_in s).uses) (resealed returned desc (record (sealed_in s) { uses = (sealed_in s).uses - 1 })) (freed returned desc)

  dropped_is : after_use (record { pool = pool; slots = slots }) desc ≡ dropped (Sealed back)
  dropped_is = ap dropped (get_or-set_same slots desc (Sealed back) (Free 0) (sealed_within slots desc sealed))

  pub use_kept : nat_le here.uses 1 ≡ false → record { pool = pool; slots = set slots desc (Sealed (record here { uses = here.uses - 1; views = here.views - 1 })) } ≡ after_use (record { pool = pool; slots = slots }) desc
  use_kept more =
      sym (dropped_is
      ∙ (ap (λ b. cond b (resealed returned desc (record back { uses = back.uses - 1 })) (freed returned desc)) (is_not_last here.uses more)
      ∙ ap (λ l. record returned { slots = l }) (set_set slots desc (Sealed back) (Sealed (record back { uses = back.uses - 1 })))))

  pub use_ended : nat_le here.uses 1 ≡ true → record { pool = given_back pool desc; slots = set slots desc (Free (size_at pool desc)) } ≡ after_use (record { pool = pool; slots = slots }) desc
  use_ended last =
      sym (dropped_is
      ∙ (ap (λ b. cond b (resealed returned desc (record back { uses = back.uses - 1 })) (freed returned desc)) (is_last here.uses last)
      ∙ ap (λ l. record { pool = given_back pool desc; slots = l }) (set_set slots desc (Sealed back) (Free (size_at pool desc)))))
