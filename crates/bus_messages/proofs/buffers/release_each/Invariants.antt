-- The application's buffers and their blocks alone are fewer than at first, and what the steps were counted for is released.
use Rattle.std.proofs.Common.{◌≡◌, ℕ, ◌+◌, ◌*◌, ◌≤◌, false, length}
use Rattle.lend_block.specs.Loan.{LentBytes}
use Rattle.buf_desc.specs.Held.{Holding}
use Rattle.bus_words.specs.Bus.{unsent_of, has_unsent, without_all_unsent}
use Rattle.bus_messages.specs.Bag.{HoldsBuffers}
use Rattle.bus_messages.specs.Words.{desc_of}
use Rattle.bus_messages.proofs.Accounts.{OutAlone}
use Rattle.bus_messages.proofs.AllReleases.{BuffersAlone}
use Rattle.bus_messages.proofs.buffers.release_each.Given as goal

abbrev pub invariant-loop : goal.invariant-loop
invariant-loop g l = record {
  others : without_all_unsent l.store.unsent l.app ≡ without_all_unsent l.initial.store.unsent l.app;
  places : length l.store.unsent ≡ length l.initial.store.unsent;
  same : BuffersAlone l.initial.store l.store;
  account : OutAlone l.initial.store.account l.store.account;
  had : (other : ℕ) → has_unsent l.initial.store.unsent l.app other ≡ false → has_unsent l.store.unsent l.app other ≡ false;
  descs : (other : ℕ) → has_unsent l.initial.store.unsent l.app other ≡ false → desc_of l.store.descs other ≡ desc_of l.initial.store.descs other;
  bag : HoldsBuffers l.store.unsent l.store.descs l.store.account.sizes l.app l.held;
  other_bags : (other : ℕ) (bag : Holding LentBytes) → (other ≡ l.app → ⊥) → HoldsBuffers l.initial.store.unsent l.initial.store.descs l.initial.store.account.sizes other bag →
      HoldsBuffers l.store.unsent l.store.descs l.store.account.sizes other bag;
  views : l.held ≡ record l.initial.held { buffers = l.held.buffers };
  cost : l.steps + 16 * length (unsent_of l.store.unsent l.app) ≤ l.initial.steps + 16 * length (unsent_of l.initial.store.unsent l.app);
}

abbrev pub decreases-loop : goal.decreases-loop
decreases-loop g l = length (unsent_of l.store.unsent l.app)
