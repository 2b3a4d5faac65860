-- Calls that were answered straight by the core.
use Rattle.std.proofs.Common.{◌≡◌, ℕ, refl, sym, inl, arith}
use Rattle.lend_block.specs.Loan.{LentBytes}
use Rattle.buf_desc.specs.Held.{Holding}
use Rattle.bus_words.specs.declared.calls.BusAnswer.{BusAnswer}
use Rattle.bus_words.specs.declared.history.Call.{Call}
use Rattle.sb_calls.specs.Bags.{KeepsBags}
use Rattle.sb_calls.specs.Core.{Core, Does}
use Rattle.script_runs.specs.Written.{written_after}
use Rattle.app_calls.specs.Callers.{Caller, HasOwnBag, Answers, LeavesBuffers, written_in}

-- a call that has nothing to do with buffers leaves them as they are
pub leaves-same : (bag : Holding LentBytes) (call : Call) (answer : BusAnswer) → ((number : ℕ) → written_after (written_in bag) call answer number ≡ written_in bag number) →
    LeavesBuffers bag bag call answer
leaves-same bag call answer same = record { written = λ number. sym (same number); count = omega arith; room = refl }

-- a call that leaves every bag as it is
pub answers-kept : (caller : Caller) (core : Core) (call : Call) (answer : BusAnswer) → HasOwnBag caller → Does caller.core core caller.app call answer → KeepsBags caller.core core →
    ((number : ℕ) → written_after (written_in caller.bag) call answer number ≡ written_in caller.bag number) →
    Answers caller (record caller { core = core }) call answer
answers-kept caller core call answer bag does keeps same = record {
  now = caller.core;
  meets = inl refl;
  does = does;
  bag = keeps caller.app caller.bag bag;
  buffers = leaves-same caller.bag call answer same;
  others = record { tables = refl; held = refl };
  same = record { app = refl; names = refl; alone = refl };
}
