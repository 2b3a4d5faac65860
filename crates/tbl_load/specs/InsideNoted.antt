-- What contracts see of a noted journal's fields, and what is always true of them.
use Rattle.std.specs.Prelude.{◌+◌, ◌≤◌, length, vec_capacity}
use Rattle.journal_store.specs.Budgets.{entries_left}
use Rattle.tbl_words.specs.Log.{left_of}
use Rattle.tbl_load.specs.declared.noted.NotedJournal.TheInside.{Inside}
use Rattle.tbl_load.specs.Notes.{NotedLog, AreDue}

abbrev pub noted_log : Inside → NotedLog
noted_log a = record { log = a.journal; notes = a.notes.items; peak = a.peak }

-- each entry has the note that is due, and there is room for the notes of all that may come
pub record HasDueNotes (a : Inside) : Type 0 where
  pub due : AreDue a.journal.entries a.notes.items
  pub room : length a.journal.entries + entries_left (left_of a.journal) ≤ vec_capacity a.notes
