-- The bus core as its callers see it: its limits, its journal with the budgets, and the note of
-- each entry. What the bus is follows from them.
use Rattle.std.specs.Prelude.{◌≡◌, ℕ, ◌≤◌, List, [], ◌∷◌, ◌++◌, length, Some, IsTrue}
use Rattle.fsw_base.specs.Limits.{Limits}
use Rattle.lend_block.specs.Loan.{LentBytes}
use Rattle.lend_block.specs.declared.note.Note.{Note}
use Rattle.buf_desc.specs.Held.{Holding}
use Rattle.bus_words.specs.declared.calls.BusAnswer.{BusAnswer}
use Rattle.bus_words.specs.declared.calls.BusAnswer.TheVariants.{Got}
use Rattle.bus_words.specs.declared.history.Call.{Call}
use Rattle.bus_words.specs.declared.history.Call.TheVariants.{Look}
use Rattle.bus_words.specs.declared.history.Entry.{Entry}
use Rattle.bus_words.specs.Alone.{Received, Gives, receipts, solo_receipts, unmade, cut}
use Rattle.bus_words.specs.Bus.{State, standing_of}
use Rattle.bus_words.specs.Entries.{call_bytes}
use Rattle.journal_store.specs.Budgets.{HasRoom}
use Rattle.bus_words.specs.Log.{Log, left_of, with_entry}
use Rattle.sb_calls.specs.declared.results.Pended.{Pended}
use Rattle.sb_calls.specs.declared.results.Pended.TheVariants.{Pending}
use Rattle.sb_calls.specs.Answers.{waited}
pub use Rattle.bus_core.specs.Core.{is_within, drops_for}
use Rattle.bus_words.specs.Machine.{IsLegal, may_call, state_after, step}
use Rattle.sb_calls.specs.Notes.{AreDue, note_due}
use Rattle.sb_calls.specs.Views.{bytes_seen}

pub record Core : Type 0 where
  pub limits : Limits
  pub log : Log
  pub notes : List Note

-- how many applications the core serves
abbrev pub apps_of : Core → ℕ
apps_of core = length core.log.budgets

-- the bus after the core's history
abbrev pub state_of : Core → State
state_of core = state_after core.limits (apps_of core) core.log.entries

-- the core's history is one that the bus can have
abbrev pub IsLegalCore : Core → Type 0
IsLegalCore core = IsLegal core.limits (apps_of core) core.log.entries

-- each entry has the note that is due
abbrev pub IsNoted : Core → Type 0
IsNoted core = AreDue core.log.entries core.notes

-- the application may make this call now
pub record MayCall (core : Core) (app : ℕ) (call : Call) : Type 0 where
  pub known : app ≤ apps_of core
  pub standing : IsTrue (may_call (standing_of (state_of core) app) call)
  pub room : HasRoom (left_of core.log) app (call_bytes call)
  pub within : IsTrue (is_within call)

-- the core with one more entry and its note
abbrev pub with_noted : Core → Entry → Note → Core
with_noted core e note =
    record core { log = with_entry core.log e; notes = core.notes ++ note ∷ [] }

-- The call was answered as the bus answers it after the core's history. Its entry is the last one,
-- noted with the loan of the view or the descriptor of the buffer that was given, if one was.
pub record Does (old new : Core) (app : ℕ) (call : Call) (answer : BusAnswer) : Type 0 where
  pub name : ℕ
  pub entry : new ≡
      with_noted old (record { app = app; call = call; answer = answer })
      (note_due answer call name)
  pub as_machine : answer ≡ (step old.limits old.log.entries (state_of old) app call).0
  pub state : state_of new ≡ (step old.limits old.log.entries (state_of old) app call).1
  pub legal : IsLegalCore new
  pub noted : IsNoted new

-- a look does what the bus does; if it finds the application still waiting, nothing changes
abbrev pub Looks : Core → Core → ℕ → ℕ → Pended → Type 0
Looks old new app pipe Pending =
    (new ≡ old) ×
    ((step old.limits old.log.entries (state_of old) app (Look pipe)).0 ≡ waited Pending)
Looks old new app pipe answer = Does old new app (Look pipe) (waited answer)

-- Isolation. --

-- the message of this number, which the application gets from a pipe by this call, is what its bag
-- shows of the pipe, the pipe's last message, and the newest that the pipe alone gives
abbrev pub GotAlone : Core → ℕ → ℕ → Call → ℕ → Holding LentBytes → Type 0
GotAlone old app pipe call number bag =
    (message : Received) × (message.number ≡ number) × (bytes_seen bag pipe ≡ Some message.message)
    × Gives old.limits (apps_of old) pipe old.log.entries
    (record { app = app; call = call; answer = Got number }) message

-- what each pipe gave so far is what the pipe alone gives, whatever befell the others
abbrev pub StandAlone : Core → Type 0
StandAlone core =
    (pipe : ℕ) →
    receipts core.limits (apps_of core) pipe core.log.entries ≡
    solo_receipts unmade (cut core.limits (apps_of core) pipe core.log.entries)
