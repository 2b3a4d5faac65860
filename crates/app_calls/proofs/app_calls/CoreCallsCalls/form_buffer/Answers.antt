use Rattle.app_calls.proofs.BufferCalls.{writes-own, written-sizes}
use Rattle.app_calls.proofs.app_calls.CoreCallsCalls.form_buffer.Goals as goal

pub returns : goal.returns
returns g c = writes-own _ _ _ c.requires.bag c.form_in.ensures

pub form_in-requires : goal.form_in-requires
form_in-requires g c bytes is = (written-sizes _ c.requires c.args.buf bytes is)
