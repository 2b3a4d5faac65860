-- The core of Table Services as its callers see it: its limits, its journal with the budgets, and
-- the note of each entry. What the tables are follows from them.
use Rattle.std.specs.Prelude.{◌≡◌, ℕ, ◌≤◌, List, [], ◌∷◌, ◌++◌, length, IsTrue}
use Rattle.fsw_base.specs.Limits.{Limits}
use Rattle.lend_block.specs.declared.note.Note.{Note}
use Rattle.journal_store.specs.Budgets.{HasRoom}
use Rattle.tbl_words.specs.declared.calls.TblAnswer.{TblAnswer}
use Rattle.tbl_words.specs.declared.history.Call.{Call}
use Rattle.tbl_words.specs.declared.history.Entry.{Entry}
use Rattle.tbl_words.specs.Entries.{call_bytes}
use Rattle.tbl_words.specs.Log.{Log, left_of, with_entry}
use Rattle.tbl_words.specs.Tables.{State}
use Rattle.tbl_words.specs.Machine.{IsLegal, may_call, state_after, step}
use Rattle.table_core.specs.Core.{is_within}
use Rattle.tbl_load.specs.Notes.{AreDue, note_due}

pub record Core : Type 0 where
  pub limits : Limits
  pub log : Log
  pub notes : List Note

-- how many applications the core serves
abbrev pub apps_of : Core → ℕ
apps_of core = length core.log.budgets

-- the tables after the core's history
abbrev pub state_of : Core → State
state_of core = state_after core.limits (apps_of core) core.log.entries

-- the core's history is one that the tables can have
abbrev pub IsLegalCore : Core → Type 0
IsLegalCore core = IsLegal core.limits (apps_of core) core.log.entries

-- each entry has the note that is due
abbrev pub IsNoted : Core → Type 0
IsNoted core = AreDue core.log.entries core.notes

-- the application may make this call now: it is known and hasn't ended, has an entry and the call's
-- bytes left, and what it loads is a range of 1 to 65536 bytes
pub record MayCall (core : Core) (app : ℕ) (call : Call) : Type 0 where
  pub known : app ≤ apps_of core
  pub standing : IsTrue (may_call (state_of core) app)
  pub room : HasRoom (left_of core.log) app (call_bytes call)
  pub within : IsTrue (is_within call)

-- the core with one more entry and its note
abbrev pub with_noted : Core → Entry → Note → Core
with_noted core e note =
    record core { log = with_entry core.log e; notes = core.notes ++ note ∷ [] }

-- The call was answered as the tables answer it after the core's history. Its entry is the last
-- one, noted with the loan of the view that was given, if one was.
pub record Does (old new : Core) (app : ℕ) (call : Call) (answer : TblAnswer) : Type 0 where
  pub loan : ℕ
  pub entry : new ≡
      with_noted old (record { app = app; call = call; answer = answer }) (note_due answer loan)
  pub as_machine : answer ≡ (step old.limits (state_of old) app call).0
  pub state : state_of new ≡ (step old.limits (state_of old) app call).1
  pub legal : IsLegalCore new
  pub noted : IsNoted new
