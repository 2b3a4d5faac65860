-- Blocks that go back leave no more out, and what is held is no more.
use Rattle.std.proofs.Common.{◌≡◌, ℕ, ◌-◌, ◌<◌, ◌≤◌, ◌⊎◌, inl, inr, Bool, true, false, cond, leb, List, length, get_or, set, sum_by, Option, Some, None, refl, ap, arith}
use Rattle.std.proofs.lemmas.Bool.{cases_lt}
use Rattle.std.proofs.lemmas.List.{set_past}
use Rattle.es_pool.specs.Pool.{PoolState, is_out, in_use_by, out_among, class_at, given_back}
use Rattle.es_pool.specs.declared.blocks.CutBlock.{CutBlock}
use Rattle.es_pool.proofs.Totals.{block, sum-change}
use Rattle.buf_desc.specs.Block.{Sealed as SealedBlock}
use Rattle.buf_desc.specs.Desk.{Buffers, resealed, freed, after_drop}
use Rattle.buf_desc.specs.Slots.{slot_at, sealed_at, is_live}
use Rattle.bus_routes.specs.declared.tables.ItemRow.{ItemRow}
use Rattle.bus_words.specs.Held.{held, bytes_in_use}
use Rattle.bus_messages.specs.declared.store.BusStore.TheInside.{Inside}
use Rattle.bus_messages.specs.Inside.{store_of, Keeps, let_go, shown}
use Rattle.bus_messages.proofs.Accounts.{bytes_law}
use Rattle.bus_messages.proofs.BlocksOut.{out_all}

-- no more blocks are out, and they have no more bytes
pub record IsLess (now before : PoolState) : Type 0 where
  pub out : out_among now.blocks ≤ out_among before.blocks
  pub bytes : in_use_by now.sizes now.blocks ≤ in_use_by before.sizes before.blocks

weighed_less : (f : CutBlock → ℕ) (blocks : List CutBlock) (n : ℕ) (b : CutBlock) → f b ≡ 0 → sum_by f (set blocks n b) ≤ sum_by f blocks
weighed_less f blocks n b none = at (cases_lt n (length blocks))
  where
    at : (n < length blocks) ⊎ (length blocks ≤ n) → sum_by f (set blocks n b) ≤ sum_by f blocks
    at (inl h) = omega (arith, sum-change f blocks n (get_or blocks n (block 0 true)) b (block 0 true) h refl, none)
    at (inr h) = omega (arith, ap (λ l. sum_by f l) (set_past blocks n b h))

same : (pool : PoolState) → IsLess pool pool
same pool = record { out = omega arith; bytes = omega arith }

less_back : (pool : PoolState) (n : ℕ) → IsLess (given_back pool n) pool
less_back pool n = record {
  out = weighed_less (λ b. cond {A = ℕ} b.out 1 0) pool.blocks n (block (class_at pool n) false) refl;
  bytes = weighed_less (λ b. cond {A = ℕ} b.out (get_or pool.sizes b.class 0) 0) pool.blocks n (block (class_at pool n) false) refl;
}

less_dropped : (b : Buffers) (d : ℕ) → IsLess (after_drop b d).pool b.pool
less_dropped b d = at (leb 2 (sealed_at b.slots d).uses)
  where
    at : (test : Bool) → IsLess (cond {A = Buffers} test (resealed b d (record (sealed_at b.slots d) { uses = (sealed_at b.slots d).uses - 1 })) (freed b d)).pool b.pool
    at true = same b.pool
    at false = less_back b.pool d

-- an item that is let go, and one that is shown
pub less_exchanged : (b : Buffers) (last next : Option ItemRow) → IsLess (shown (let_go b last) next).pool b.pool
less_exchanged b last next = view next
  where
    gone : (o : Option ItemRow) → IsLess (let_go b o).pool b.pool
    gone None = same b.pool
    gone (Some item) =
        let seen : SealedBlock = record (sealed_at b.slots item.desc) { views = (sealed_at b.slots item.desc).views - 1 } in
        less_dropped (resealed b item.desc seen) item.desc

    view : (o : Option ItemRow) → IsLess (shown (let_go b last) o).pool b.pool
    view None = gone last
    view (Some item) = gone last

-- so no more numbers are held, and their blocks have no more bytes
pub record HoldsLess (a b : Inside) : Type 0 where
  pub held : length (held (store_of b).pipes (store_of b).unsent (store_of b).numbers_given) ≤ length (held (store_of a).pipes (store_of a).unsent (store_of a).numbers_given)
  pub bytes : bytes_in_use (store_of b).account ≤ bytes_in_use (store_of a).account

pub holds_less : (a b : Inside) → Keeps a → Keeps b → ((d : ℕ) → is_live (slot_at a.desk.slots d) ≡ is_out a.desk.pool d) → ((d : ℕ) → is_live (slot_at b.desk.slots d) ≡ is_out b.desk.pool d) →
    IsLess b.desk.pool a.desk.pool → HoldsLess a b
holds_less a b keeps kept live_out still_out less = record {
  held =
      omega (
        arith,
        out_all a.desk a.tables.pipes a.lists.lists a.given keeps.backed keeps.listed live_out,
        out_all b.desk b.tables.pipes b.lists.lists b.given kept.backed kept.listed still_out,
        less.out,
      );
  bytes = omega (arith, bytes_law a keeps live_out, bytes_law b kept still_out, less.bytes);
}
