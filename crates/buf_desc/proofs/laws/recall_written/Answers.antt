use Rattle.buf_desc.proofs.Lists.{length_over}
use Rattle.buf_desc.proofs.ByteWrites.{seen_written}
use Rattle.buf_desc.proofs.laws.recall_written.Goals as goal

pub returns-clause-seen : goal.returns-clause-seen
returns-clause-seen c = λ bag number w other. seen_written bag.buffers number w other

pub returns-clause-long : goal.returns-clause-long
returns-clause-long c = length_over
