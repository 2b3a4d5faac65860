-- What an application's call lines take: their charges, and its budget.
use Rattle.std.specs.Prelude.{ℕ, ◌+◌, List, length, fold, replicate, slice_index, slice_set}
use Rattle.fsw_base.specs.declared.config.Budget.{Budget}
use Rattle.script_settings.specs.declared.account.Account.{Account}
use Rattle.script_lines.specs.declared.line.Line.{Line}
use Rattle.script_lines.specs.declared.line.Line.TheVariants.{Create, Find, Send, SendRaw, Pend, Allocate, TransmitBuffer, SendEvent, TableRegister, TableShare, Stage, Load}
use Rattle.script_words.specs.Content.{content_len}

-- before the first call line; no buffer was taken into any register
abbrev pub no_calls : Account
no_calls = record { calls = 0; waits = 0; bytes = 0; buffers = 0; sizes = replicate 64 0 }

-- The charge of a line, in bytes: of a message, a name, a text or a load; for xmit the size that
-- the latest alloc of its register asked for.
unfoldable pub charge_of : Account → Line → ℕ
charge_of account (Create pipe depth name) = length name
charge_of account (Find pipe name) = length name
charge_of account (Send id size fill inc) = size
charge_of account (SendRaw bytes inc) = length bytes
charge_of account (TransmitBuffer buf inc) = slice_index account.sizes buf
charge_of account (SendEvent id kind text) = length text
charge_of account (TableRegister handle name size option rules) = length name
charge_of account (TableShare handle name) = length name
charge_of account (Stage handle offset content) = content_len content
charge_of account (Load handle offset content) = content_len content
charge_of account line = 0

-- how many answers a line can wait for
unfoldable pub waits_of : Line → ℕ
waits_of (Pend pipe) = 1
waits_of line = 0

-- how many buffers a line takes
unfoldable pub buffers_of : Line → ℕ
buffers_of (Allocate buf size) = 1
buffers_of line = 0

-- for each register of buffers, the size that its latest alloc asked for
unfoldable pub sizes_after : List ℕ → Line → List ℕ
sizes_after sizes (Allocate buf size) = slice_set sizes buf size
sizes_after sizes line = sizes

-- one call line more
abbrev pub with_line : Account → Line → Account
with_line account line = record {
  calls = account.calls + 1;
  waits = account.waits + waits_of line;
  bytes = account.bytes + charge_of account line;
  buffers = account.buffers + buffers_of line;
  sizes = sizes_after account.sizes line;
}

-- what these call lines take
unfoldable pub account_of : List Line → Account
account_of lines = fold with_line no_calls lines

-- what an application with this account may add to a run: an entry for each call line, one more for
-- each that waits, and one for its end
abbrev pub budget_in : Account → Budget
budget_in account =
    record {
      entries = account.calls + account.waits + 1;
      bytes = account.bytes;
      buffers = account.buffers;
    }

unfoldable pub budget_of : List Line → Budget
budget_of lines = budget_in (account_of lines)
