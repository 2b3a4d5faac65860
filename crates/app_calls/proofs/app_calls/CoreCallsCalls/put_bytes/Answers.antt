use Rattle.app_calls.proofs.BufferCalls.{writes-own}
use Rattle.app_calls.proofs.app_calls.CoreCallsCalls.put_bytes.Goals as goal

pub returns : goal.returns
returns g c = writes-own _ _ _ c.requires.bag c.put_bytes_in.ensures
