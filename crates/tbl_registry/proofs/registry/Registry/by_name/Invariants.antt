use Rattle.std.proofs.Common.{◌≡◌, ◌&&◌, find, drop}
use Rattle.std.specs.Str.{bytes_eq}
use Rattle.tbl_registry.specs.Listing.{is_live}
use Rattle.tbl_registry.specs.Inside.{tables_in}
use Rattle.tbl_registry.proofs.registry.Registry.by_name.Given as goal

-- what is left gives what the whole does
abbrev pub invariant-loop-key : goal.invariant-loop-key
invariant-loop-key l =
    find (λ t. is_live l.self-inside.handles.items t.number && bytes_eq t.name l.name) (tables_in l.self-inside.shelf (drop l.key-index l.self-inside.keys.items))
    ≡ find (λ t. is_live l.self-inside.handles.items t.number && bytes_eq t.name l.name) (tables_in l.self-inside.shelf l.self-inside.keys.items)
