-- What the tables are to a port: their words.
use Rattle.std.specs.Prelude.{◌≡◌, ◌↔◌, ℕ, false, IsTrue}
use Rattle.journal_store.specs.Budgets.{allowance_of}
use Rattle.tbl_words.specs.declared.calls.TblAnswer.{TblAnswer}
use Rattle.tbl_words.specs.declared.history.Call.{Call}
use Rattle.tbl_words.specs.declared.history.Call.TheVariants.{End}
use Rattle.tbl_words.specs.declared.history.Entry.{Entry}
use Rattle.tbl_words.specs.Log.{left_of}
use Rattle.tbl_load.specs.Bags.{CalledByOthers, AreOneLoan}
use Rattle.tbl_load.specs.Core.{Core, MayCall, Does, IsLegalCore, IsNoted}
use Rattle.core_port.specs.Words.{Words}
use Rattle.tbl_service.specs.declared.permits.Permits.{Permits}

-- What is always true of a core: its history is one that the tables can have, and each entry has
-- the note that is due; handles that hold one version of one table were given views of one loan.
pub record IsSound (core : Core) : Type 0 where
  pub legal : IsLegalCore core
  pub noted : IsNoted core
  pub loans : AreOneLoan core

-- So much is left to the application, and this tells whether it may make its last call, as any
-- other that brings no bytes.
pub record Tells (core : Core) (app : ℕ) (permits : Permits) : Type 0 where
  pub left : permits.left ≡ allowance_of (left_of core.log) app
  pub end : IsTrue permits.may_end ↔ MayCall core app End

-- the words
abbrev pub tables : Words Core Entry Call TblAnswer Permits
tables =
    record {
      core = λ f es ns.
          record {
            limits = f.limits;
            log = record { budgets = f.budgets; entries = es };
            notes = ns;
          };
      fixed = λ c. record { limits = c.limits; budgets = c.log.budgets };
      entries = λ c. c.log.entries;
      notes = λ c. c.notes;
      entry = λ app call answer. record { app = app; call = call; answer = answer };
      caller = λ e. e.app;
      call = λ e. e.call;
      answer = λ e. e.answer;
      view_room = λ limits. limits.handles;
      sound = IsSound;
      news = λ c. false;
      others = CalledByOthers;
      may = MayCall;
      does = Does;
      tells = Tells;
    }
