-- What the core's calls leave of the buffers in the caller's bag.
use Rattle.std.proofs.Common.{◌≡◌, ℕ, ◌+◌, ◌-◌, ◌<◌, ◌≤◌, ◌==◌, Bool, true, false, cond, true≢false, eqb-true, eq-eqb, List, [], length, replicate, Option, Some, None, Result, Ok, Err, IfOk, OnErr, refl, ap, sym, ◌∙◌, subst, arith}
use Rattle.std.specs.Option.{option_map, option_map_or}
use Rattle.fsw_base.specs.declared.statuses.SbStatus.{SbStatus}
use Rattle.lend_block.specs.Loan.{LentBytes}
use Rattle.buf_desc.specs.Block.{Unsent}
use Rattle.buf_desc.specs.Held.{Holding, buffer_at, bytes_at}
use Rattle.bus_words.specs.declared.calls.BusAnswer.{BusAnswer}
use Rattle.bus_words.specs.declared.calls.BusAnswer.TheVariants.{Done}
use Rattle.bus_words.specs.declared.history.Call.{Call}
use Rattle.bus_words.specs.declared.history.Call.TheVariants as calls
use Rattle.bus_words.specs.Bus.{State}
use Rattle.bus_words.specs.Machine.{step}
use Rattle.bus_words.proofs.Steps.{length-standings}
use Rattle.bus_messages.specs.Bag.{HoldsViews}
use Rattle.sb_calls.specs.declared.results.Sent.{Sent}
use Rattle.bus_core.specs.Answers.{numbered, done}
use Rattle.sb_calls.specs.Answers.{sent}
use Rattle.bus_core.specs.Bags.{KeepsBuffers}
use Rattle.sb_calls.specs.Bags.{HasBag, loans_of}
use Rattle.sb_calls.specs.Core.{Core, Does, MayCall, apps_of, state_of}
use Rattle.script_runs.specs.Written.{Written, with_buffer, written_after}
use Rattle.script_runs.proofs.Buffers.{AreWritten, have-sizes, agree-step}
use Rattle.app_calls.specs.Buffers.{WritesBag}
use Rattle.app_calls.specs.Callers.{Caller, HasOwnBag, LeavesBuffers, MayWrite, Writes, buffers_asked, written_in}
use Rattle.app_calls.proofs.BufferBytes.{bag-written, bag-sizes}

-- Calls that leave the buffers. --

-- a call that may change views alone
pub leaves-views : (old new : Holding LentBytes) (call : Call) (answer : BusAnswer) → new ≡ record old { views = new.views } →
    ((number : ℕ) → written_after (written_in old) call answer number ≡ written_in old number) → LeavesBuffers old new call answer
leaves-views old new call answer views same =
    let count : length new.buffers ≡ length old.buffers = ap (λ (bag : Holding LentBytes). length bag.buffers) views in
    record {
      written = λ number. ap (λ (bag : Holding LentBytes). written_in bag number) views ∙ sym (same number);
      count = omega (arith, count);
      room = ap (λ (bag : Holding LentBytes). bag.buffer_room) views;
    }

-- a call that leaves nothing in the bag
pub leaves-none : (old new : Holding LentBytes) → new ≡ record old { views = []; buffers = [] } → LeavesBuffers old new calls.End Done
leaves-none old new empty =
    let count : length new.buffers ≡ 0 = ap (λ (bag : Holding LentBytes). length bag.buffers) empty in
    record {
      written = λ number. ap (λ (bag : Holding LentBytes). written_in bag number) empty;
      count = omega (arith, count);
      room = ap (λ (bag : Holding LentBytes). bag.buffer_room) empty;
    }

-- Calls of buffers. --

-- what a call that was made with a bag says of it
pub record Called (core now : Core) (app : ℕ) (call : Call) (answer : BusAnswer) (old new : Holding LentBytes) : Type 0 where
  pub may : MayCall core app call
  pub has : HasBag core app old
  pub does : Does core now app call answer
  pub its : HasBag now app new
  pub rest : new ≡ record old { buffers = new.buffers }
  pub count : length new.buffers ≤ length old.buffers + buffers_asked call

-- the buffers are as long as the answer says
agree-now : (core now : Core) (app : ℕ) (call : Call) (answer : BusAnswer) (old new : Holding LentBytes) → Called core now app call answer old new → (number : ℕ) →
    option_map (λ bytes. length bytes) (written_in new number) ≡ option_map (λ bytes. length bytes) (written_after (written_in old) call answer number)
agree-now core now app call answer old new c number =
    let s = state_of core in
    let all = (have-sizes core.limits (apps_of core) core.log.entries).all ∙ length-standings core.limits (apps_of core) core.log.entries in
    let there : app - 1 < length s.unsent = omega (arith, all, c.may.known, c.has.buffers.known) in
    let agree = agree-step core.limits core.log.entries s app call (written_in old) there (bag-written core app old c.has) in
    let told : AreWritten (state_of now).unsent app (written_after (written_in old) call answer) =
    subst (λ (t : State). AreWritten t.unsent app (written_after (written_in old) call answer)) (sym c.does.state)
    (subst (λ a. AreWritten ((step core.limits core.log.entries s app call).1).unsent app (written_after (written_in old) call a)) (sym c.does.as_machine) agree) in
    bag-written now app new c.its number ∙ sym (told number)

rest-room : (old new : Holding LentBytes) → new ≡ record old { buffers = new.buffers } → new.buffer_room ≡ old.buffer_room
rest-room old new rest = ap (λ (bag : Holding LentBytes). bag.buffer_room) rest

-- a call that changed nothing
leaves-refused : (old new : Holding LentBytes) (call : Call) (answer : BusAnswer) → new ≡ old → ((number : ℕ) → written_after (written_in old) call answer number ≡ written_in old number) →
    LeavesBuffers old new call answer
leaves-refused old new call answer same kept =
    subst (λ bag. LeavesBuffers old bag call answer) (sym same) (record { written = λ number. sym (kept number); count = omega arith; room = refl })

-- other buffers stay
kept-bytes : (old new : Holding LentBytes) (buf other : ℕ) → (buf == other) ≡ false → KeepsBuffers old new buf → written_in new other ≡ written_in old other
kept-bytes old new buf other differ keeps =
    ap (option_map (λ (block : Unsent). block.bytes)) (keeps other (λ same. true≢false (sym (eq-eqb buf other same) ∙ differ)))

-- a buffer that is there has the bytes that are told
given-bytes : (found : Option Unsent) (size : ℕ) → option_map (λ bytes. length bytes) (option_map (λ (block : Unsent). block.bytes) found) ≡ Some (length (replicate {A = ℕ} size 0)) →
    option_map_or (λ (block : Unsent). block.bytes) found [] ≡ replicate size 0 → option_map (λ (block : Unsent). block.bytes) found ≡ Some (replicate size 0)
given-bytes None size long zeros = absurd (cc long)
given-bytes (Some block) size long zeros = ap Some zeros

pub leaves-given : (core now : Core) (app size : ℕ) (old new : Holding LentBytes) (result : Result ℕ SbStatus) → Called core now app (calls.Allocate size) (numbered result) old new →
    IfOk result (λ number. bytes_at new number ≡ replicate size 0) → IfOk result (KeepsBuffers old new) → OnErr result (new ≡ old) →
    LeavesBuffers old new (calls.Allocate size) (numbered result)
leaves-given core now app size old new (Err status) c zeros keeps refused = leaves-refused old new (calls.Allocate size) (numbered (Err status)) refused (λ number. refl)
leaves-given core now app size old new (Ok number) c zeros keeps refused = record {
  written = λ other. elim (number == other) as (λ b. (number == other) ≡ b → written_in new other ≡ cond {A = Option (List ℕ)} b (Some (replicate size 0)) (written_in old other)) [
    | true ↦ λ is. subst (λ n. written_in new n ≡ Some (replicate size 0)) (eqb-true number other is)
        (given-bytes (buffer_at new number) size
        (agree-now core now app (calls.Allocate size) (numbered (Ok number)) old new c number
        ∙ ap (λ b. option_map (λ (bytes : List ℕ). length bytes) (cond {A = Option (List ℕ)} b (Some (replicate size 0)) (written_in old number))) (eq-eqb number number refl)) zeros)
    | false ↦ λ differ. kept-bytes old new number other differ keeps
  ] refl;
  count = c.count;
  room = rest-room old new c.rest;
}

-- if a buffer has left the others stay
none-left : (found : Option (List ℕ)) → option_map (λ bytes. length bytes) found ≡ None → found ≡ None
none-left None is = refl
none-left (Some bytes) is = absurd (cc is)

leaves-gone : (core now : Core) (app buf : ℕ) (call : Call) (answer : BusAnswer) (old new : Holding LentBytes) → Called core now app call answer old new →
    ((number : ℕ) → written_after (written_in old) call answer number ≡ with_buffer (written_in old) buf None number) → KeepsBuffers old new buf → LeavesBuffers old new call answer
leaves-gone core now app buf call answer old new c gone keeps = record {
  written = λ other. (elim (buf == other) as (λ b. (buf == other) ≡ b → written_in new other ≡ cond {A = Option (List ℕ)} b None (written_in old other)) [
    | true ↦ λ is. none-left (written_in new other)
        (agree-now core now app call answer old new c other
        ∙ ap (option_map (λ (bytes : List ℕ). length bytes)) (gone other ∙ ap (λ b. cond {A = Option (List ℕ)} b None (written_in old other)) is))
    | false ↦ λ differ. kept-bytes old new buf other differ keeps
  ] refl) ∙ sym (gone other);
  count = c.count;
  room = rest-room old new c.rest;
}

pub leaves-sent : (core now : Core) (app buf : ℕ) (bytes : List ℕ) (inc : Bool) (old new : Holding LentBytes) (result : Result Sent SbStatus) →
    Called core now app (calls.TransmitBuffer buf bytes inc) (sent result) old new → KeepsBuffers old new buf → OnErr result (new ≡ old) →
    LeavesBuffers old new (calls.TransmitBuffer buf bytes inc) (sent result)
leaves-sent core now app buf bytes inc old new (Err status) c keeps refused = leaves-refused old new (calls.TransmitBuffer buf bytes inc) (sent (Err status)) refused (λ number. refl)
leaves-sent core now app buf bytes inc old new (Ok it) c keeps refused = leaves-gone core now app buf (calls.TransmitBuffer buf bytes inc) (sent (Ok it)) old new c (λ number. refl) keeps

pub leaves-released : (core now : Core) (app buf : ℕ) (old new : Holding LentBytes) (result : Result (Unit {0}) SbStatus) →
    Called core now app (calls.Release buf) (done result) old new → KeepsBuffers old new buf → OnErr result (new ≡ old) → LeavesBuffers old new (calls.Release buf) (done result)
leaves-released core now app buf old new (Err status) c keeps refused = leaves-refused old new (calls.Release buf) (done (Err status)) refused (λ number. refl)
leaves-released core now app buf old new (Ok nothing) c keeps refused = leaves-gone core now app buf (calls.Release buf) (done (Ok nothing)) old new c (λ number. refl) keeps

-- Writing. --

-- a bag that was written into is still the application's
has-written : (core : Core) (app : ℕ) (old new : Holding LentBytes) (left : Written) → HasBag core app old → WritesBag old new left → HasBag core app new
has-written core app old new left has writes =
    record {
      views = subst (λ bag. HoldsViews (state_of core).pipes (loans_of core) core.limits.pipes app bag) (sym writes.rest)
          (record { seen = has.views.seen; counted = has.views.counted; room = has.views.room });
      buffers = record { known = has.buffers.known; due = λ number. writes.shapes number ∙ has.buffers.due number };
    }

pub writes-own : (caller : Caller) (new : Holding LentBytes) (left : Written) → HasOwnBag caller → WritesBag caller.bag new left → Writes caller (record caller { bag = new }) left
writes-own caller new left bag writes = record {
  core = refl;
  bag = has-written caller.core caller.app caller.bag new left bag writes;
  written = writes.written;
  count = writes.count;
  room = rest-room caller.bag new writes.rest;
  others = record { tables = refl; held = refl };
  same = record { app = refl; names = refl; alone = refl };
}

-- a buffer that may be written into has room for a message, and no more than a packet can have
pub written-sizes : (caller : Caller) → MayWrite caller → (buf : ℕ) (bytes : List ℕ) → written_in caller.bag buf ≡ Some bytes → (7 ≤ length bytes) × (length bytes ≤ 65542)
written-sizes caller may buf bytes is =
    let sizes = bag-sizes caller.core caller.app buf caller.bag bytes may.bag is in
    (sizes.0, omega (arith, sizes.1, may.small))
