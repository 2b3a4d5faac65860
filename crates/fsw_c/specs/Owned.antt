-- What a handle owns.
use Rattle.std.specs.Prelude.{Option, Some, None}
use base.Fml.{Fml, ftrue}
use denote.RawPtr.{Ptr}
use Rattle.std.specs.Box.Ownership.{box_owns}
use Rattle.std.specs.Global.{Global}
use Rattle.std_heap.specs.contracts.GlobalAllocator.TheImpl.{ghosts}
use Rattle.fsw_core.specs.contracts.Core.{the_row}

-- the core in a box at p if there is one, else nothing
abbrev pub maybe_owns : Global → Ptr → Option the_row.Denot → Fml
maybe_owns alloc p None = ftrue
maybe_owns alloc p (Some core) = box_owns (ghosts.dealloc_token alloc) the_row p core
