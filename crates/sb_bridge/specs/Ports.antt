-- The bridge's ports of the two buses: what is known of them between two calls, and what a wait and
-- a send leave.
use Rattle.std.specs.Prelude.{◌≡◌, ◌⊎◌, ℕ, ◌+◌, ◌-◌, ◌<◌, ◌≤◌, true, false, List, [], ◌∷◌, ◌++◌, length, map, All, Some, slice_index_or}
use Rattle.fsw_base.specs.declared.config.Budget.{Budget}
use Rattle.bus_words.specs.declared.calls.BusAnswer.{BusAnswer}
use Rattle.bus_words.specs.declared.calls.BusAnswer.TheVariants.{Got, TimeOut}
use Rattle.bus_words.specs.declared.history.Call.{Call}
use Rattle.bus_words.specs.declared.history.Call.TheVariants.{Transmit}
use Rattle.bus_words.specs.declared.history.Entry.{Entry}
use Rattle.bus_words.specs.Alone.{receipts}
use Rattle.bus_words.specs.Bus.{Active, Waiting, owns}
use Rattle.bus_words.specs.Runs.{own_entries, standing_behind}
use Rattle.bus_service.specs.Ports.{PortView}
use Rattle.sb_calls.specs.Bags.{last_message}
use Rattle.sb_calls.specs.Core.{Core, IsLegalCore, apps_of, state_of}
use Rattle.bridge_runs.specs.Bridge.{Waits}
use Rattle.sb_bridge.specs.Calls.{bytes_in, calls_in}

-- the messages that pipe p gave in the history that a core has
abbrev pub given_in : Core → ℕ → List (List ℕ)
given_in core p =
    map (λ received. received.message) (receipts core.limits (apps_of core) p core.log.entries)

-- the budget of a port's application
abbrev pub budget_of : PortView → Budget
budget_of port =
    slice_index_or port.seen.log.budgets (port.app - 1)
    (record { entries = 0; bytes = 0; buffers = 0 })

-- The application is one of the bus, whose history can be, as far as it is seen, and has of it just
-- the port's own entries.
pub record IsOwn (port : PortView) : Type 0 where
  pub some : 1 ≤ port.app
  pub known : port.app ≤ apps_of port.seen
  pub legal : IsLegalCore port.seen
  pub mine : own_entries port.app port.seen.log.entries ≡ port.mine

-- pipe p is the application's
pub record IsAt (p : ℕ) (port : PortView) : Type 0 where
  pub own : IsOwn port
  pub owned : owns (state_of port.seen).pipes port.app p ≡ true

-- it is the same application of the same bus
pub record IsSame (old new : PortView) : Type 0 where
  pub lock : new.lock ≡ old.lock
  pub app : new.app ≡ old.app
  pub limits : new.seen.limits ≡ old.seen.limits
  pub budgets : new.seen.log.budgets ≡ old.seen.log.budgets

-- the port's entries, and one call more that was so answered
abbrev pub one_more : PortView → Call → BusAnswer → List Entry
one_more port call answer =
    port.mine ++ record { app = port.app; call = call; answer = answer } ∷ []

-- The call on pipe p gave a message, which is now the pipe's last.
pub record HasTaken (p : ℕ) (old new : PortView) (call : Call) : Type 0 where
  pub same : IsSame old new
  pub at : IsAt p new
  pub active : standing_behind new.mine ≡ Active
  pub number : ℕ
  pub mine : new.mine ≡ one_more old call (Got number)
  pub message : List ℕ
  pub given : given_in new.seen p ≡ given_in old.seen p ++ message ∷ []
  pub last : last_message (state_of new.seen) new.app p ≡ Some message

-- It timed out, and gave none.
pub record HasTimedOut (p : ℕ) (old new : PortView) (call : Call) : Type 0 where
  pub same : IsSame old new
  pub at : IsAt p new
  pub active : standing_behind new.mine ≡ Active
  pub mine : new.mine ≡ one_more old call TimeOut
  pub given : given_in new.seen p ≡ given_in old.seen p

-- The application waits on pipe p, which gave nothing since; it made no call but these.
pub record WaitsStill (p : ℕ) (old new : PortView) (mine : List Entry) : Type 0 where
  pub same : IsSame old new
  pub at : IsAt p new
  pub waiting : standing_behind new.mine ≡ Waiting p
  pub mine_is : new.mine ≡ mine
  pub given : given_in new.seen p ≡ given_in old.seen p

-- One wait on pipe p, of one or two entries.
pub record HasWaited (p : ℕ) (old new : PortView) (entries : List Entry) : Type 0 where
  pub same : IsSame old new
  pub at : IsAt p new
  pub active : standing_behind new.mine ≡ Active
  pub mine : new.mine ≡ old.mine ++ entries
  pub waits : Waits p false entries
  pub few : length entries ≤ 2

-- It gave a message, which is now the pipe's last.
pub record TakesOne (p : ℕ) (old new : PortView) : Type 0 where
  pub entries : List Entry
  pub wait : HasWaited p old new entries
  pub in_time : All (λ e. ¬ (e.answer ≡ TimeOut)) entries
  pub message : List ℕ
  pub given : given_in new.seen p ≡ given_in old.seen p ++ message ∷ []
  pub last : last_message (state_of new.seen) new.app p ≡ Some message

-- Its last entry timed out, and no other, and it gave none.
pub record TimesOut (p : ℕ) (old new : PortView) : Type 0 where
  pub before : List Entry
  pub last : Entry
  pub wait : HasWaited p old new (before ++ last ∷ [])
  pub in_time : All (λ e. ¬ (e.answer ≡ TimeOut)) before
  pub timed_out : last.answer ≡ TimeOut
  pub given : given_in new.seen p ≡ given_in old.seen p

-- It sent a message, keeping its count.
pub record Sends (message : List ℕ) (old new : PortView) : Type 0 where
  pub same : IsSame old new
  pub own : IsOwn new
  pub active : standing_behind new.mine ≡ Active
  pub answer : BusAnswer
  pub mine : new.mine ≡ one_more old (Transmit message false) answer
  -- there was an entry left for its end too
  pub spare : length old.mine + 2 ≤ (budget_of old).entries

-- Nothing was sent: the budget has an entry for the end alone, or fewer bytes than the message.
pub record LacksRoom (message : List ℕ) (old new : PortView) : Type 0 where
  pub unchanged : new ≡ old
  pub lacks : ((budget_of old).entries ≤ length old.mine + 1) ⊎
      ((budget_of old).bytes < bytes_in (calls_in old.mine) + length message)
