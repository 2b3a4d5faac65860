-- A receive on a pipe that has no last message lets nothing go.
use Rattle.std.proofs.Common.{◌≡◌, ℕ, Option, None, sym}
use Rattle.bus_routes.specs.declared.tables.ItemRow.{ItemRow}
use Rattle.bus_words.specs.Pipes.{last_on}
use Rattle.bus_messages.specs.declared.store.BusStore.TheInside.{Inside}
use Rattle.bus_messages.specs.Store.{Store}
use Rattle.bus_messages.specs.Inside.{store_of}
use Rattle.bus_messages.proofs.PipeRemovals.{rows_last}

module _ (a : Inside) (old : Store) (app pipe : ℕ) (viewed : store_of a ≡ old) (none : last_on old.pipes pipe ≡ None) where
  pub nothing_last : ◌≡◌ {A = Option ItemRow} None (last_on a.tables.pipes pipe)
  nothing_last = sym (rows_last a old viewed pipe none)
