use Rattle.std.proofs.Common.{◌≡◌, take, map}
use Rattle.tbl_words.specs.Tables.{blocks_out}
use Rattle.list_tables.proofs.readers.all_out.Given as goal

-- the numbers of the sizes seen
abbrev pub invariant-loop-class : goal.invariant-loop-class
invariant-loop-class l = l.out.items ≡ map (blocks_out l.sizes l.tables) (take l.class l.sizes)
