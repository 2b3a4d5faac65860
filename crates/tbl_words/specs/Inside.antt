-- How a journal keeps its entries: rows of one size, each with its bytes beside it.
use Rattle.std.specs.Prelude.{◌≡◌, List, map}
use Rattle.journal_store.specs.Store.{Stored}
use Rattle.journal_store.specs.Store as store
use Rattle.tbl_words.specs.declared.history.Entry.{Entry}
use Rattle.tbl_words.specs.declared.journal.Row.{Row}
use Rattle.tbl_words.specs.Entries.{call_of, with_text}
use Rattle.tbl_words.specs.Log.{charge_of}

-- the entry of a row, whose call gets its bytes back
abbrev pub entry_in : Stored Row → Entry
entry_in stored =
    record {
      app = stored.app;
      call = with_text stored.text (call_of stored.row.call);
      answer = stored.row.answer;
    }

-- the entries of the rows
abbrev pub entries_in : List (Stored Row) → List Entry
entries_in rows = map entry_in rows

-- what the rows take is what their entries do
abbrev pub AreWhole : List (Stored Row) → Type 0
AreWhole rows = map store.charge_of rows ≡ map charge_of (entries_in rows)
