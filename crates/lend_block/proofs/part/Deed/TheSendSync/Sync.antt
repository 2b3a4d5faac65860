use denote.Param.Send.{IsSync, part_keyless}
use denote.Ref.{NamedLft}
use Rattle.lend_block.proofs.part.Deed.TheSendSync.Send.{send}
use Rattle.lend_block.specs.contracts.part.Deed.{the_row}

pub sync : (r : NamedLft) → IsSync (the_row r)
sync r = record { shared = λ d b o κ q. part_keyless (the_row r) (send r) q d b o }
