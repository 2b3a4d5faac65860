-- Bytes with a fault, and bytes without one.
use Rattle.std.proofs.Common.{◌≡◌, ℕ, ◌≤◌, false, List, length, Option, Some, None, is_some, refl}
use Rattle.std.specs.Result.{is_err}
use Rattle.ccsds_msg.specs.Message.{header_or_fault, fault}
use Rattle.ccsds_msg.specs.declared.packet.Header.{Header}
use Rattle.ccsds_msg.specs.declared.packet.MsgFault.{MsgFault}
use Rattle.ccsds_msg.proofs.MessageLemmas.{IsMessage-length}

pub err_at_fault : (why : Option MsgFault) (header : Header) → is_err (header_or_fault why header) ≡ is_some why
err_at_fault None header = refl
err_at_fault (Some fault) header = refl

-- bytes without a fault have a header and a byte more
pub no_fault_long : (bytes : List ℕ) → is_some (fault bytes) ≡ false → 7 ≤ length bytes
no_fault_long bytes passes = IsMessage-length bytes (none (fault bytes) passes)
  where
    none : (o : Option MsgFault) → is_some o ≡ false → o ≡ None
    none None passes = refl
    none (Some why) passes = absurd (cc (passes))
