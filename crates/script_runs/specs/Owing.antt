-- What an application has still to do: the entries that its lines will make.
use Rattle.std.specs.Prelude.{◌≡◌, List, [], ◌∷◌, Option, Some, None}
use Rattle.bus_words.specs.declared.history.Call.TheVariants as calls
use Rattle.bus_words.specs.declared.history.Entry.{Entry}
use Rattle.bus_words.specs.Bus.{Standing, Active, Waiting, Ended}
use Rattle.tbl_words.specs.declared.history.Entry.{Entry as TableEntry}
use Rattle.script_runs.specs.Rotation.{Running}
use Rattle.script_runs.specs.TableTrace.{TableTrace}
use Rattle.script_runs.specs.Trace.{Trace}

-- the one that goes on, if one does
abbrev pub first_left : List Running → Option Running
first_left [] = None
first_left (r ∷ rs) = Some r

-- These entries of the bus are what an application in this standing has still to make: those of the
-- lines left, behind a look if it waits; none if it doesn't go on.
abbrev pub Owes : Standing → Option Running → List Entry → Type 0
Owes standing None es = es ≡ []
Owes Active (Some r) es = Trace r.registers r.written r.lines es
Owes (Waiting pipe) (Some r) [] = ⊥
Owes (Waiting pipe) (Some r) (e ∷ es) =
    (e.call ≡ calls.Look pipe) × Trace r.registers r.written r.lines es
Owes Ended (Some r) es = ⊥

-- And these of the tables, if no call waits.
abbrev pub TableOwes : Option Running → List TableEntry → Type 0
TableOwes None es = es ≡ []
TableOwes (Some r) es = TableTrace r.handles r.lines es
