-- What stays to the end is what stays now, and the subscriptions that are left are owned as at first.
use Rattle.std.proofs.Common.{◌≡◌, ℕ, false, not, eqb, length, filter}
use Rattle.lend_block.specs.Loan.{LentBytes}
use Rattle.buf_desc.specs.Held.{Holding}
use Rattle.bus_words.specs.Bus.{owns}
use Rattle.bus_messages.specs.Words.{loan_of}
use Rattle.bus_core.proofs.Bags.{HasViews}
use Rattle.bus_core.proofs.Releases.{AreOwned, AreFewer, Alone, OutAlone}
use Rattle.bus_core.proofs.pipe_ends.end_pipes.Given as goal

abbrev pub invariant-loop-pipe : goal.invariant-loop-pipe
invariant-loop-pipe g l = record {
  pipes : filter (λ p. not (eqb p.owner l.app)) l.store.pipes ≡ filter (λ p. not (eqb p.owner l.app)) l.initial.store.pipes;
  subscriptions :
      filter (λ sub. not (owns l.initial.store.pipes l.app sub.pipe)) l.store.subscriptions
      ≡ filter (λ sub. not (owns l.initial.store.pipes l.app sub.pipe)) l.initial.store.subscriptions;
  owned : AreOwned l.initial.store.pipes l.store.pipes l.app l.store.subscriptions;
  fewer : AreFewer l.initial.store.pipes l.store.pipes l.app;
  frame : Alone l.initial.store l.store;
  account : OutAlone l.initial.store.account l.store.account;
  loans : (pipe : ℕ) → owns l.initial.store.pipes l.app pipe ≡ false → loan_of l.store.loans pipe ≡ loan_of l.initial.store.loans pipe;
  bag : HasViews l.store l.app l.held;
  other_bags : (other : ℕ) (bag : Holding LentBytes) → (other ≡ l.app → ⊥) → HasViews l.initial.store other bag → HasViews l.store other bag;
  buffers : l.held ≡ record l.initial.held { views = l.held.views };
}

abbrev pub decreases-loop-pipe : goal.decreases-loop-pipe
decreases-loop-pipe g l = length l.store.pipes
