-- What ports leave of the buffers in their bags.
use Rattle.std.proofs.Common.{◌≡◌, ℕ, ◌+◌, ◌≤◌, Bool, List, length, replicate, Result, IfOk, OnErr, sym, subst, arith}
use Rattle.fsw_base.specs.declared.statuses.SbStatus.{SbStatus}
use Rattle.lend_block.specs.Loan.{LentBytes}
use Rattle.buf_desc.specs.Held.{Holding, bytes_at}
use Rattle.bus_words.specs.declared.calls.BusAnswer.{BusAnswer}
use Rattle.bus_words.specs.declared.history.Call.{Call}
use Rattle.bus_words.specs.declared.history.Call.TheVariants as calls
use Rattle.sb_calls.specs.declared.results.Sent.{Sent}
use Rattle.bus_core.specs.Answers.{numbered, done}
use Rattle.sb_calls.specs.Answers.{sent}
use Rattle.bus_core.specs.Bags.{KeepsBuffers}
use Rattle.sb_calls.specs.Bags.{HasBag}
use Rattle.sb_calls.specs.Core.{MayCall}
use Rattle.sb_calls.proofs.OthersBags.{others_behind}
use Rattle.bus_service.specs.Ports.{PortView, Answers as PortAnswers}
use Rattle.bus_service.proofs.OthersCalls.{may_meanwhile}
use Rattle.script_runs.specs.Written.{written_after}
use Rattle.app_calls.specs.Callers.{LeavesBuffers, buffers_asked, written_in}
use Rattle.app_calls.proofs.CoreAnswers.{leaves-same}
use Rattle.app_calls.proofs.BufferCalls.{Called, leaves-given, leaves-sent, leaves-released}

-- a call that has nothing to do with buffers leaves them as they are
pub kept : (old new : PortView) (call : Call) (answer : BusAnswer) → new.bag ≡ old.bag → ((number : ℕ) → written_after (written_in old.bag) call answer number ≡ written_in old.bag number) →
    LeavesBuffers old.bag new.bag call answer
kept old new call answer same stay = subst (λ (bag : Holding LentBytes). LeavesBuffers old.bag bag call answer) (sym same) (leaves-same old.bag call answer stay)

module _ (old new : PortView) (call : Call) (answer : BusAnswer) (a : PortAnswers old new call answer) (may : MayCall old.seen old.app call) (has : HasBag old.seen old.app old.bag)
    (rest : new.bag ≡ record old.bag { buffers = new.bag.buffers }) (count : length new.bag.buffers ≤ length old.bag.buffers + buffers_asked call) where
  -- the port called the bus that it met, with its bag
  called : Called a.between new.seen old.app call answer old.bag new.bag
  called = record {
    may = may_meanwhile old.seen a.between old.app has.buffers.known a.others call may;
    has = others_behind old.seen a.between old.app old.bag a.others has;
    does = a.does;
    its = a.bag;
    rest = rest;
    count = count;
  }

module _ (old new : PortView) (has : HasBag old.seen old.app old.bag) (rest : new.bag ≡ record old.bag { buffers = new.bag.buffers }) where
  pub given : (size : ℕ) (result : Result ℕ SbStatus) → PortAnswers old new (calls.Allocate size) (numbered result) → MayCall old.seen old.app (calls.Allocate size) →
      length new.bag.buffers ≤ length old.bag.buffers + 1 → IfOk result (λ number. bytes_at new.bag number ≡ replicate size 0) → IfOk result (KeepsBuffers old.bag new.bag) →
      OnErr result (new.bag ≡ old.bag) → LeavesBuffers old.bag new.bag (calls.Allocate size) (numbered result)
  given size result a may count zeros keeps refused =
      leaves-given a.between new.seen old.app size old.bag new.bag result (called old new (calls.Allocate size) (numbered result) a may has rest count) zeros keeps refused

  pub gone : (buf : ℕ) (bytes : List ℕ) (inc : Bool) (result : Result Sent SbStatus) → PortAnswers old new (calls.TransmitBuffer buf bytes inc) (sent result) →
      MayCall old.seen old.app (calls.TransmitBuffer buf bytes inc) → length new.bag.buffers ≤ length old.bag.buffers → KeepsBuffers old.bag new.bag buf →
      OnErr result (new.bag ≡ old.bag) → LeavesBuffers old.bag new.bag (calls.TransmitBuffer buf bytes inc) (sent result)
  gone buf bytes inc result a may count keeps refused =
      leaves-sent a.between new.seen old.app buf bytes inc old.bag new.bag result
      (called old new (calls.TransmitBuffer buf bytes inc) (sent result) a may has rest (omega (arith, count))) keeps refused

  pub back : (buf : ℕ) (result : Result (Unit {0}) SbStatus) → PortAnswers old new (calls.Release buf) (done result) → MayCall old.seen old.app (calls.Release buf) →
      length new.bag.buffers ≤ length old.bag.buffers → KeepsBuffers old.bag new.bag buf → OnErr result (new.bag ≡ old.bag) →
      LeavesBuffers old.bag new.bag (calls.Release buf) (done result)
  back buf result a may count keeps refused =
      leaves-released a.between new.seen old.app buf old.bag new.bag result (called old new (calls.Release buf) (done result) a may has rest (omega (arith, count))) keeps refused
