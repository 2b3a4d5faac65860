-- What a part shows may be read from any thread.
use Rattle.std.proofs.Common.{List, ℕ}
use mir.Syntax.{named}
use base.Fml.{Lft}
use denote.Builtin.{u8}
use denote.Param.Send.{IsSync, Common, mut_slice_sync, sendable}
use denote.RawPtr.{Ptr, block_of, count_of}
use Rattle.lend_block.specs.Inside.{readable}

pub readable_anywhere : (r : Lft) (place : Ptr) (bytes : List ℕ) → Common (readable r place bytes)
readable_anywhere r place bytes κ =
    let byte : IsSync u8 = search sendable in
    ((mut_slice_sync (named 0) r u8 byte).shared (record { ref_ptr = (block_of place, count_of place); ghost_name = 0; now = bytes }) 0 0 κ).1
