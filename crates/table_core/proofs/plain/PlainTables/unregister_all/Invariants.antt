use Rattle.std.proofs.Common.{◌≡◌, ◌≢◌, ℕ, ◌+◌, ◌*◌, ◌≤◌, count_by}
use Rattle.tbl_words.specs.declared.history.Call.TheVariants.{End}
use Rattle.tbl_words.specs.Machine.{without_handles}
use Rattle.table_blocks.specs.Held.{HeldViews}
use Rattle.table_core.specs.Core.{Holds, MayAct}
use Rattle.table_core.proofs.Ends.{of_app}
use Rattle.table_core.proofs.plain.PlainTables.unregister_all.Given as goal

abbrev pub invariant-loop-handle : goal.invariant-loop-handle
invariant-loop-handle g l = record {
  all : without_handles (of_app l.app) l.self.state ≡ without_handles (of_app l.app) l.initial.self.state;
  limits : l.self.limits ≡ l.initial.self.limits;
  may : MayAct l.self l.app End;
  bag : Holds l.self l.app l.held;
  room : l.held.room ≡ l.initial.held.room;
  others : (other : ℕ) (bag : HeldViews) → other ≢ l.app → Holds l.initial.self other bag → Holds l.self other bag;
  cost : l.steps + 16 * count_by (of_app l.app) l.self.state.handles ≤ l.initial.steps + 16 * count_by (of_app l.app) l.initial.self.state.handles;
}

abbrev pub decreases-loop-handle : goal.decreases-loop-handle
decreases-loop-handle g l = count_by (of_app l.app) l.self.state.handles
