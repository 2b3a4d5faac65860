-- The bytes that the call of a line brings and the line doesn't spell.
use Rattle.std.specs.Prelude.{ℕ, List, [], slice_index}
use Rattle.script_lines.specs.declared.line.Line.{Line}
use Rattle.script_lines.specs.declared.line.Line.TheVariants.{Send, TransmitBuffer, Stage, Load}
use Rattle.script_runs.specs.Messages.{content_bytes, sent_message}
use Rattle.script_runs.specs.Trace.{Registers}
use Rattle.script_runs.specs.Written.{Written, bytes_in}

-- The message of a `send` line, and the buffer of an `xmit` line as it was written; none of any
-- other line. A proof that looks at a line names it on an `unfolding` line, as `call_of`.
unfoldable pub made_bytes : Registers → Written → Line → List ℕ
made_bytes registers written (Send id size fill inc) = sent_message id size fill
made_bytes registers written (TransmitBuffer buf inc) =
    bytes_in written (slice_index registers.buffers buf)
made_bytes registers written line = []

-- The content of a load; none of any other line. It is opened in the same way.
unfoldable pub content_made : Line → List ℕ
content_made (Stage handle offset content) = content_bytes content
content_made (Load handle offset content) = content_bytes content
content_made line = []
