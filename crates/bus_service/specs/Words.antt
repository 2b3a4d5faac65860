-- What the bus is to a port: its words.
use Rattle.std.specs.Prelude.{◌≡◌, ◌↔◌, ℕ, IsTrue}
use Rattle.journal_store.specs.Budgets.{allowance_of}
use Rattle.bus_words.specs.declared.calls.BusAnswer.{BusAnswer}
use Rattle.bus_words.specs.declared.history.Call.{Call}
use Rattle.bus_words.specs.declared.history.Call.TheVariants.{Figures, End}
use Rattle.bus_words.specs.declared.history.Entry.{Entry}
use Rattle.bus_words.specs.Log.{left_of}
use Rattle.bus_core.specs.News.{has_news}
use Rattle.sb_calls.specs.Bags.{CalledByOthers, AreOneLoan}
use Rattle.sb_calls.specs.Core.{Core, MayCall, Does, IsLegalCore, IsNoted, StandAlone, state_of}
use Rattle.core_port.specs.Words.{Words}
use Rattle.bus_service.specs.declared.permits.Permits.{Permits}

-- What is always true of a core: its history is one that the bus can have, and each entry has the
-- note that is due; each pipe gave what it gives alone, and pipes whose last messages are of one
-- send were given views of one loan.
pub record IsSound (core : Core) : Type 0 where
  pub legal : IsLegalCore core
  pub noted : IsNoted core
  pub alone : StandAlone core
  pub loans : AreOneLoan core

-- So much is left to the application; and these permits tell whether it may ask for the figures of
-- the bus, and so make any call that brings no bytes, but for a look, and whether it may make its
-- last one.
pub record Tells (core : Core) (app : ℕ) (permits : Permits) : Type 0 where
  pub left : permits.left ≡ allowance_of (left_of core.log) app
  pub any : IsTrue permits.any ↔ MayCall core app Figures
  pub last : IsTrue permits.last ↔ MayCall core app End

-- the words
abbrev pub bus : Words Core Entry Call BusAnswer Permits
bus =
    record {
      core = λ f es ns.
          record {
            limits = f.limits;
            log = record { budgets = f.budgets; entries = es };
            notes = ns;
          };
      fixed = λ c. record { limits = c.limits; budgets = c.log.budgets };
      entries = λ c. c.log.entries;
      notes = λ c. c.notes;
      entry = λ app call answer. record { app = app; call = call; answer = answer };
      caller = λ e. e.app;
      call = λ e. e.call;
      answer = λ e. e.answer;
      view_room = λ limits. limits.pipes;
      sound = IsSound;
      news = λ c. has_news (state_of c);
      others = CalledByOthers;
      may = MayCall;
      does = Does;
      tells = Tells;
    }
