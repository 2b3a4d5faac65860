-- What an application's last call does to the core behind a handle, and the status that it answers.
use Rattle.std.specs.Prelude.{◌≡◌, ℕ, [], Option, Some, None, IsSome}
use Rattle.bus_words.specs.declared.calls.BusAnswer.TheVariants.{Done}
use Rattle.bus_words.specs.declared.history.Call.TheVariants.{End}
use Rattle.tbl_words.specs.declared.calls.TblAnswer.TheVariants.{Done as TableDone}
use Rattle.tbl_words.specs.declared.history.Call.TheVariants.{End as TableEnd}
use Rattle.table_core.specs.Core.{Acts as TableActs}
use Rattle.checked_tables.specs.Asked.{unasked as unasked_tables}
use Rattle.checked_tables.specs.Box.{KeepsOtherBags as KeepsOtherTables, bag_of as table_bag_of}
use Rattle.bus_core.specs.Core.{Acts}
use Rattle.checked_bus.specs.declared.refusal.Refusal.{Refusal}
use Rattle.checked_bus.specs.Asked.{unasked_end}
use Rattle.fsw_core.specs.declared.Core.{Core}
use Rattle.fsw_c.specs.Codes.{closed_code}
use Rattle.fsw_c.specs.BusCodes.{unasked_code}
use Rattle.fsw_c.specs.BusAnswers.{KeepsBagsBut}

-- The handle is closed; or the bus isn't asked, and nothing changes; or the application's end is a
-- step of the bus, and one of the tables unless it ended there before: then the tables stay. Its
-- own bags are empty then, and those of all other applications stay.
pub data EndCall (old new : Option Core) (app status : ℕ) : Type 0 where
  Closed : old ≡ None → new ≡ None → status ≡ closed_code → EndCall old new app status
  Unasked : (o : Core) (why : Refusal) → old ≡ Some o → new ≡ Some o →
      unasked_end o.bus app ≡ Some why → status ≡ unasked_code why →
      EndCall old new app status
  Asked : (o n : Core) → old ≡ Some o → new ≡ Some n → unasked_end o.bus app ≡ None →
      Acts o.bus.core n.bus.core app End Done → KeepsBagsBut o.bus n.bus app End →
      (unasked_tables o.tables.core app TableEnd ≡ None →
      TableActs o.tables.core n.tables.core app TableEnd TableDone) →
      (unasked_tables o.tables.core app TableEnd ≡ None →
      KeepsOtherTables o.tables n.tables app ×
      (table_bag_of n.tables app ≡ record (table_bag_of o.tables app) { views = [] })) →
      (IsSome (unasked_tables o.tables.core app TableEnd) → n.tables ≡ o.tables) →
      status ≡ 0 → EndCall old new app status
