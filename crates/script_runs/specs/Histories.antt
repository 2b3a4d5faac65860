-- What a run leaves of both services.
use Rattle.std.specs.Prelude.{List}
use Rattle.bus_words.specs.declared.history.Entry.{Entry}
use Rattle.tbl_words.specs.declared.history.Entry.{Entry as TableEntry}

-- the histories of a run: that of the bus, and that of the tables. Between the two no order is
-- kept.
pub record Histories : Type 0 where
  pub bus : List Entry
  pub tables : List TableEntry
