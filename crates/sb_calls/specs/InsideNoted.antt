-- What contracts see of a noted journal's fields, and what is always true of them.
use Rattle.std.specs.Prelude.{◌≡◌, ◌+◌, ◌≤◌, length, vec_capacity}
use Rattle.journal_store.specs.Budgets.{entries_left}
use Rattle.bus_words.specs.Log.{left_of}
use Rattle.sb_calls.specs.declared.noted.NotedJournal.TheInside.{Inside}
use Rattle.sb_calls.specs.Notes.{NotedLog}

abbrev pub noted_log : Inside → NotedLog
noted_log a = record { log = a.journal; notes = a.notes.items }

-- each entry has its note, and there is room for the notes of all that may come
pub record IsEven (a : Inside) : Type 0 where
  pub even : length a.notes.items ≡ length a.journal.entries
  pub room : length a.journal.entries + entries_left (left_of a.journal) ≤ vec_capacity a.notes
