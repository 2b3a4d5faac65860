-- The pipe's messages and their blocks alone are fewer than at first, and what the steps were counted for no longer waits.
use Rattle.std.proofs.Common.{◌≡◌, ℕ, ◌+◌, ◌*◌, ◌≤◌, true, not, eqb, filter}
use Rattle.lend_block.specs.Loan.{LentBytes}
use Rattle.buf_desc.specs.Held.{Holding}
use Rattle.bus_words.specs.Bus.{Pipe, owns}
use Rattle.bus_messages.specs.Words.{loan_of, waiting_on}
use Rattle.bus_messages.proofs.EmptyPipes.{Alone}
use Rattle.bus_messages.proofs.Lasts.{HasDue}
use Rattle.bus_messages.proofs.Accounts.{OutAlone}
use Rattle.bus_messages.proofs.pipes.empty_pipe.Given as goal

abbrev pub invariant-loop : goal.invariant-loop
invariant-loop g l = record {
  others : filter (λ (p : Pipe). not (eqb p.number l.pipe)) l.store.pipes ≡ filter (λ (p : Pipe). not (eqb p.number l.pipe)) l.initial.store.pipes;
  same : Alone l.initial.store l.store;
  account : OutAlone l.initial.store.account l.store.account;
  loans : (other : ℕ) → (l.pipe ≡ other → ⊥) → loan_of l.store.loans other ≡ loan_of l.initial.store.loans other;
  own : owns l.store.pipes l.app l.pipe ≡ true;
  bag : HasDue l.store l.app l.held;
  other_bags : (other : ℕ) (bag : Holding LentBytes) → (other ≡ l.app → ⊥) → HasDue l.initial.store other bag → HasDue l.store other bag;
  buffers : l.held ≡ record l.initial.held { views = l.held.views };
  cost : l.steps + 8 * waiting_on l.store.pipes l.pipe ≤ l.initial.steps + 8 * waiting_on l.initial.store.pipes l.pipe;
}

abbrev pub decreases-loop : goal.decreases-loop
decreases-loop g l = waiting_on l.store.pipes l.pipe
