-- What ports answer is what `Calls` asks.
use Rattle.std.proofs.Common.{◌≡◌, ℕ, ◌<◌, ◌≤◌, Bool, List, length, Some, refl, sym, ◌∙◌, subst, inr}
use Rattle.atomic_table.specs.Seated.{TableId}
use Rattle.bus_words.specs.declared.calls.BusAnswer.{BusAnswer}
use Rattle.bus_words.specs.declared.history.Call.{Call}
use Rattle.bus_words.specs.declared.history.Call.TheVariants as calls
use Rattle.buf_desc.specs.Held.{bytes_at}
use Rattle.sb_calls.specs.declared.results.Pended.{Pended}
use Rattle.sb_calls.specs.Answers.{waited}
use Rattle.sb_calls.specs.Bags.{HasBag}
use Rattle.bus_words.specs.Bus.{standing_of, waited_on}
use Rattle.sb_calls.specs.Core.{MayCall, state_of}
use Rattle.bus_service.specs.Ports.{PortView, Answers as PortAnswers, AnswersLook as PortLook}
use Rattle.tbl_words.specs.declared.calls.TblAnswer.{TblAnswer}
use Rattle.tbl_words.specs.declared.history.Call.{Call as TableCall}
use Rattle.tbl_load.specs.Bags.{HasBag as HasTableBag, CalledByOthers as OthersTables}
use Rattle.tbl_load.specs.Core.{MayCall as MayCallTable, Does as DoesTable}
use Rattle.tbl_service.specs.Ports.{PortView as TablesPortView, Answers as TablesPortAnswers}
use Rattle.script_runs.specs.Written.{with_bytes}
use Rattle.app_calls.specs.Buffers.{WritesBag}
use Rattle.app_calls.specs.Callers.{Caller, HasOwnBag, MayCallBus, MayWrite, Answers, AnswersLook, Writes, LeavesBuffers, pipe_waited_on, written_in}
use Rattle.app_calls.proofs.BufferCalls.{writes-own, written-sizes}
use Rattle.app_calls.specs.TableCallers.{MayCallTables, TablesAnswer}
use Rattle.port_calls.specs.Inside.{AreOfOne}
use Rattle.port_calls.specs.Ports.{caller_of}

-- Two ports, through which a caller calls. --

module _ (port : PortView) (tables : TablesPortView) (caller : Caller) (is : caller_of port tables ≡ caller) where
  -- what the caller may call, the port may
  pub port-may : (call : Call) → MayCallBus caller call → MayCall port.seen port.app call
  port-may call may = subst (λ (c : Caller). MayCall c.core c.app call) (sym is) may.may

  pub port-may_look : MayCallBus caller (calls.Look (pipe_waited_on caller)) → MayCall port.seen port.app (calls.Look (waited_on (standing_of (state_of port.seen) port.app)))
  port-may_look may = subst (λ (c : Caller). MayCall c.core c.app (calls.Look (pipe_waited_on c))) (sym is) may.may

  pub port-may_send : (buf : ℕ) (inc : Bool) → MayCallBus caller (calls.TransmitBuffer buf (bytes_at caller.bag buf) inc) →
      MayCall port.seen port.app (calls.TransmitBuffer buf (bytes_at port.bag buf) inc)
  port-may_send buf inc may = subst (λ (c : Caller). MayCall c.core c.app (calls.TransmitBuffer buf (bytes_at c.bag buf) inc)) (sym is) may.may

  -- the caller's bag is the port's, with the same room
  pub port-has : HasOwnBag caller → HasBag port.seen port.app port.bag
  port-has bag = subst HasOwnBag (sym is) bag

  pub port-room : length caller.bag.buffers < caller.bag.buffer_room → length port.bag.buffers < port.bag.buffer_room
  port-room room = subst (λ (c : Caller). length c.bag.buffers < c.bag.buffer_room) (sym is) room

  -- what a port is answered, as a call at these ports is answered
  module _ (new : PortView) where
    answered : (call : Call) (answer : BusAnswer) → PortAnswers port new call answer → LeavesBuffers port.bag new.bag call answer →
        Answers (caller_of port tables) (caller_of new tables) call answer
    answered call answer a left = record {
      now = a.between;
      meets = inr (refl, a.others);
      does = a.does;
      bag = subst (λ (app : ℕ). HasBag new.seen app new.bag) (sym a.app) a.bag;
      buffers = left;
      others = record { tables = refl; held = refl };
      same = record { app = a.app; names = refl; alone = refl };
    }

    pub port-answers : (call : Call) (answer : BusAnswer) → PortAnswers port new call answer → LeavesBuffers port.bag new.bag call answer →
        Answers caller (caller_of new tables) call answer
    port-answers call answer a left = subst (λ (c : Caller). Answers c (caller_of new tables) call answer) is (answered call answer a left)

    pub port-sends : (buf : ℕ) (inc : Bool) (answer : BusAnswer) → PortAnswers port new (calls.TransmitBuffer buf (bytes_at port.bag buf) inc) answer →
        LeavesBuffers port.bag new.bag (calls.TransmitBuffer buf (bytes_at port.bag buf) inc) answer →
        Answers caller (caller_of new tables) (calls.TransmitBuffer buf (bytes_at caller.bag buf) inc) answer
    port-sends buf inc answer a left =
        subst (λ (c : Caller). Answers c (caller_of new tables) (calls.TransmitBuffer buf (bytes_at c.bag buf) inc) answer) is
        (answered (calls.TransmitBuffer buf (bytes_at port.bag buf) inc) answer a left)

    pub port-looks : (told : Pended) → PortLook port new (waited_on (standing_of (state_of port.seen) port.app)) told →
        LeavesBuffers port.bag new.bag (calls.Look (waited_on (standing_of (state_of port.seen) port.app))) (waited told) →
        AnswersLook caller (caller_of new tables) (pipe_waited_on caller) told
    port-looks told a left =
        subst (λ (c : Caller). AnswersLook c (caller_of new tables) (pipe_waited_on c) told) is
        (record {
          now = a.between;
          meets = inr (refl, a.others);
          does = a.does;
          bag = subst (λ (app : ℕ). HasBag new.seen app new.bag) (sym a.app) a.bag;
          buffers = left;
          others = record { tables = refl; held = refl };
          same = record { app = a.app; names = refl; alone = refl };
        })

  -- bytes that were written into the port's buffers, as its application writes them
  pub port-sizes : MayWrite caller → (buf : ℕ) (bytes : List ℕ) → written_in port.bag buf ≡ Some bytes → (7 ≤ length bytes) × (length bytes ≤ 65542)
  port-sizes may buf bytes there = written-sizes caller may buf bytes (subst (λ (c : Caller). written_in c.bag buf ≡ Some bytes) is there)

  pub port-writes : (new : PortView) (buf : ℕ) (change : List ℕ → List ℕ) → HasOwnBag caller → WritesBag port.bag new.bag (with_bytes (written_in port.bag) buf change) →
      new ≡ record port { bag = new.bag } → Writes caller (caller_of new tables) (with_bytes (written_in caller.bag) buf change)
  port-writes new buf change bag writes rest =
      subst (λ (c : Caller). Writes c (caller_of new tables) (with_bytes (written_in c.bag) buf change)) is
      (subst (λ (p : PortView). Writes (caller_of port tables) (caller_of p tables) (with_bytes (written_in port.bag) buf change)) (sym rest)
      (writes-own (caller_of port tables) new.bag (with_bytes (written_in port.bag) buf change) (port-has bag) writes))

-- The ports stay ports of these services. --

module _ (bus_lock tables_lock bus tables : TableId) (port : PortView) (tables_port : TablesPortView)
    (ready : AreOfOne bus_lock tables_lock port bus tables_port tables) where
  pub bus-answered : (new : PortView) → new.lock ≡ port.lock → new.app ≡ port.app → AreOfOne bus_lock tables_lock new bus tables_port tables
  bus-answered new lock app = record { bus = ready.bus; tables = ready.tables; bus_port = lock ∙ ready.bus_port; tables_port = ready.tables_port; app = ready.app ∙ sym app }

  pub tables-answered : (new : TablesPortView) → new.lock ≡ tables_port.lock → new.app ≡ tables_port.app → AreOfOne bus_lock tables_lock port bus new tables
  tables-answered new lock app = record { bus = ready.bus; tables = ready.tables; bus_port = ready.bus_port; tables_port = lock ∙ ready.tables_port; app = app ∙ ready.app }

-- The tables. --

module _ (port : PortView) (tables : TablesPortView) (same : tables.app ≡ port.app) (caller : Caller) (is : caller_of port tables ≡ caller) where
  pub tables-may : (call : TableCall) → MayCallTables caller call → MayCallTable tables.seen tables.app call
  tables-may call may =
      subst (λ (app : ℕ). MayCallTable tables.seen app call) (sym same)
      (subst (λ (c : Caller). MayCallTable c.tables c.app call) (sym is) may.may)

  pub tables-answers : (new : TablesPortView) (call : TableCall) (answer : TblAnswer) → TablesPortAnswers tables new call answer →
      TablesAnswer caller (caller_of port new) call answer
  tables-answers new call answer a =
      subst (λ (c : Caller). TablesAnswer c (caller_of port new) call answer) is
      (record {
        now = a.between;
        meets = inr (refl, subst (λ (app : ℕ). OthersTables tables.seen a.between app) same a.others);
        does = subst (λ (app : ℕ). DoesTable a.between new.seen app call answer) same a.does;
        bag = subst (λ (app : ℕ). HasTableBag new.seen app new.bag) same a.bag;
        others = record { core = refl; bag = refl };
        same = record { app = refl; names = refl; alone = refl };
      })
