use Rattle.std.proofs.Common.{◌≡◌, find, drop}
use Rattle.std.specs.Str.{bytes_eq}
use Rattle.pipe_table.specs.Inside.{live_in}
use Rattle.pipe_table.proofs.table.PipeTable.find.Given as goal

-- what is left gives what the whole does
abbrev pub invariant-loop-at : goal.invariant-loop-at
invariant-loop-at l =
    find (λ pipe. bytes_eq pipe.name l.name) (live_in l.self-inside.places.items (drop l.at-index l.self-inside.at.items))
    ≡ find (λ pipe. bytes_eq pipe.name l.name) (live_in l.self-inside.places.items l.self-inside.at.items)
