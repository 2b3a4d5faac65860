-- What the fields stand for.
use Rattle.std.specs.Prelude.{◌≡◌, length}
use Rattle.fsw_base.specs.Limits.{limits_of}
use Rattle.tbl_words.specs.Tables.{State}
use Rattle.list_tables.specs.Kept.{Kept}
use Rattle.list_tables.specs.declared.machine.ListTables.TheInside.{Inside}

-- the state that the fields are
abbrev pub state_in : Inside → State
state_in t = record {
  tables = t.tables.items;
  handles = t.handles.items;
  handles_made = t.handles_made;
  ended = t.ended.items;
  made = t.made.items;
  drawn = t.drawn;
}

-- what is kept
abbrev pub kept_in : Inside → Kept
kept_in t = record { limits = limits_of t.config; state = state_in t }

-- each block size has its number
abbrev pub HasAllNumbers : Inside → Type 0
HasAllNumbers t = length t.made.items ≡ length t.config.sizes
