-- What the bridge takes along to its thread, and what it leaves there.
use Rattle.std.specs.Prelude.{◌≡◌, ◌⊎◌, ℕ, ◌+◌, ◌*◌, ◌<◌, ◌≤◌, false, List, [], ◌∷◌, ◌++◌, length, All}
use Rattle.bus_words.specs.declared.calls.BusAnswer.TheVariants.{Done, TimeOut}
use Rattle.bus_words.specs.declared.history.Call.TheVariants.{End}
use Rattle.bus_words.specs.declared.history.Entry.{Entry}
use Rattle.bus_words.specs.Bus.{Active}
use Rattle.bus_words.specs.Runs.{own_entries, standing_behind}
use Rattle.bus_service.specs.Ports.{Answers, PortView}
use Rattle.tbl_words.specs.declared.calls.TblAnswer.TheVariants as table_answers
use Rattle.tbl_words.specs.declared.history.Call.TheVariants as table_calls
use Rattle.tbl_load.specs.Core.{MayCall as MayCallTables}
use Rattle.tbl_service.specs.Ports.{Answers as TablesAnswers, PortView as TablesPortView}
use Rattle.app_run.specs.Openings.{budgets_for}
use Rattle.thread_run.specs.declared.works.RunParts.{RunParts}
use Rattle.thread_run.specs.Whole.{whole}
use Rattle.bridge_plan.specs.Plan.{bridge_of}
use Rattle.bridge_runs.specs.Bridge.{Waits}
use Rattle.bridge_runs.specs.Lefts.{bytes_of}
use Rattle.sb_bridge.specs.declared.ends.BridgeDone.{BridgeDone}
use Rattle.sb_bridge.specs.declared.bridge.BridgeJob.{BridgeJob}
use Rattle.sb_bridge.specs.declared.bridge.BridgePorts.{BridgePorts}
use Rattle.sb_bridge.specs.declared.bridge.Crossing.{Crossing}
use Rattle.sb_bridge.specs.declared.ends.EndedPorts.{EndedPorts}
use Rattle.sb_bridge.specs.Calls.{calls_in, sends_of}
use Rattle.sb_bridge.specs.Ports.{IsAt, IsOwn, budget_of, given_in}

-- a port of the bus of a side, of the bridge
pub record IsBridges (shared : RunParts) (port : PortView) : Type 0 where
  pub lock : port.lock ≡ shared.bus.now
  pub app : port.app ≡ bridge_of shared.script.now
  pub limits : port.seen.limits ≡ shared.script.now.limits
  pub budgets : port.seen.log.budgets ≡ budgets_for (whole shared)

-- no wait timed out
abbrev pub AreInTime : List Entry → Type 0
AreInTime waits = All (λ e. ¬ (e.answer ≡ TimeOut)) waits

-- What is known of the bridge's port of side 1 once it made its first calls: these, and behind them
-- waits on its pipe. It has an entry left for each that may come.
pub record HasBegun (crossing : Crossing) (from : PortView) (first waits : List Entry) :
    Type 0 where
  pub bridges : IsBridges crossing.one from
  pub at : IsAt crossing.pipe from
  pub active : standing_behind from.mine ≡ Active
  pub mine : from.mine ≡ first ++ waits
  pub count : length first ≡ crossing.firsts
  pub waited : Waits crossing.pipe false waits
  pub room : (budget_of from).entries ≡ 2 * crossing.most.entries + crossing.firsts + 1

-- And of that of side 2: it sent these messages.
pub record HasSent (crossing : Crossing) (to : PortView) (messages : List (List ℕ)) : Type 0 where
  pub bridges : IsBridges crossing.two to
  pub own : IsOwn to
  pub active : standing_behind to.mine ≡ Active
  pub sent : calls_in to.mine ≡ sends_of messages
  pub room : budget_of to ≡ crossing.most
  pub fits : length messages < crossing.most.entries

-- Between two messages: what the pipe gave was sent, and no wait timed out.
pub record IsForwarding (crossing : Crossing) (from to : PortView) : Type 0 where
  pub first : List Entry
  pub waits : List Entry
  pub begun : HasBegun crossing from first waits
  pub in_time : AreInTime waits
  pub few : length waits ≤ 2 * length (given_in from.seen crossing.pipe)
  pub sent : HasSent crossing to (given_in from.seen crossing.pipe)

-- the last of these waits timed out, and no other
pub record EndInTimeOut (waits : List Entry) : Type 0 where
  pub before : List Entry
  pub last : Entry
  pub all : waits ≡ before ++ last ∷ []
  pub in_time : AreInTime before
  pub timed_out : last.answer ≡ TimeOut

-- what the pipe gave goes beyond the budget of side 2, which is for all that the lines of side 1
-- may send
abbrev pub AreTooMany : Crossing → List (List ℕ) → Type 0
AreTooMany crossing given =
    (crossing.most.entries ≤ length given) ⊎ (crossing.most.bytes < bytes_of given)

-- It goes no further: all that the pipe gave was sent, and the last wait timed out; or its pipe
-- gave too many messages.
pub record HasStopped (crossing : Crossing) (from to : PortView) : Type 0 where
  pub first : List Entry
  pub waits : List Entry
  pub messages : List (List ℕ)
  pub begun : HasBegun crossing from first waits
  pub spare : length waits ≤ 2 * crossing.most.entries
  pub sent : HasSent crossing to messages
  pub how : (EndInTimeOut waits × (messages ≡ given_in from.seen crossing.pipe)) ⊎
      AreTooMany crossing (given_in from.seen crossing.pipe)

-- ---- ends

-- the bridge may make its end on a side: it made no call of the tables
pub record MayEnd (shared : RunParts) (ports : BridgePorts) : Type 0 where
  pub bridges : IsBridges shared ports.port
  pub own : IsOwn ports.port
  pub active : standing_behind ports.port.mine ≡ Active
  pub room : length ports.port.mine + 1 ≤ (budget_of ports.port).entries
  pub lock : ports.tables_port.lock ≡ shared.tables.now
  pub app : ports.tables_port.app ≡ bridge_of shared.script.now
  pub may : MayCallTables ports.tables_port.seen ports.tables_port.app table_calls.End
  pub none : ports.tables_port.mine ≡ []

-- It ended: what is left of both ports is theirs behind their last calls.
pub record EndsAs (ports : BridgePorts) (ended : EndedPorts) : Type 0 where
  pub last : PortView
  pub answers : Answers ports.port last End Done
  pub mine : own_entries last.app last.seen.log.entries ≡ last.mine
  pub port : ended.port ≡
      record { lock = last.lock; app = last.app; seen = last.seen; mine = last.mine }
  pub last_at_tables : TablesPortView
  pub table_answers :
      TablesAnswers ports.tables_port last_at_tables table_calls.End table_answers.Done
  pub tables_port : ended.tables_port ≡
      record {
        lock = last_at_tables.lock;
        app = last_at_tables.app;
        seen = last_at_tables.seen;
        mine = last_at_tables.mine;
      }

-- ---- the whole run

-- the bridge may begin
pub record MayBridge (job : BridgeJob) : Type 0 where
  pub forwards : IsForwarding job.crossing job.from.port job.to.port
  pub on_one : MayEnd job.crossing.one job.from
  pub on_two : MayEnd job.crossing.two job.to

-- The bridge is through: it stopped, and then ended on both sides.
pub record IsThrough (crossing : Crossing) (done : BridgeDone) : Type 0 where
  pub from : BridgePorts
  pub to : BridgePorts
  pub stopped : HasStopped crossing from.port to.port
  pub on_one : MayEnd crossing.one from
  pub on_two : MayEnd crossing.two to
  pub ends_on_one : EndsAs from done.from
  pub ends_on_two : EndsAs to done.to
