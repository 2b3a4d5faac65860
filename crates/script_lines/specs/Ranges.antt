-- The call lines that a script can have: each number, register, name and text in its range.
use Rattle.std.specs.Prelude.{ℕ, ◌&&◌, nat_le, nat_lt, not, Bool, true, List, length}
use Rattle.std.specs.List.{list_all}
use Rattle.std.specs.Prelude.{codes}
use Rattle.fsw_base.specs.Events.{are_filters}
use Rattle.script_words.specs.Text.{is_text, is_same, trimmed}
use Rattle.script_words.specs.declared.content.Content.{Content}
use Rattle.script_words.specs.declared.content.Content.TheVariants.{Hex, Fill}
use Rattle.tbl_rules.specs.declared.rules.Rule.{Rule}
use Rattle.script_lines.specs.declared.line.Line.{Line}
use Rattle.script_lines.specs.declared.line.Line.TheVariants.{Create, Delete, SetOpts, GetOpts, Find, PipeName, Subscribe, Unsubscribe, Send, SendRaw, Receive, Pend, Allocate, TransmitBuffer, Release, PoolCreate, PoolGet, PoolPut, PoolFigures, Register, SendEvent, ResetFilter, LogMode, ClearLog, Housekeeping, Figures, TableRegister, TableShare, TableUnregister, Stage, Validate, Update, Abort, Load, GetAddress, ReleaseAddress, Status, Form, Put, ShowPipe, ShowTable}

-- a printed byte that is no blank
abbrev pub is_visible : ℕ → Bool
is_visible byte = nat_le 33 byte && nat_le byte 126

-- a name: at most 64 visible bytes; a hyphen alone spells the empty one
abbrev pub is_name : List ℕ → Bool
is_name name = nat_le (length name) 64 && list_all is_visible name && not (is_same name (codes "-"))

-- the text of an event: at most 200 bytes, with no blanks round it
abbrev pub is_event_text : List ℕ → Bool
is_event_text text =
    nat_le (length text) 200 && list_all is_text text && is_same (trimmed text) text

-- 1 to 256 bytes, spelled as digits
abbrev pub is_spelled : List ℕ → Bool
is_spelled bytes =
    nat_le 1 (length bytes) && nat_le (length bytes) 256 && list_all (λ byte. nat_le byte 255) bytes

abbrev pub is_content : Content → Bool
is_content (Hex bytes) = is_spelled bytes
is_content (Fill len byte) = nat_le 1 len && nat_le len 65536 && nat_le byte 255

abbrev pub is_filter : ℕ × ℕ → Bool
is_filter pair = nat_le pair.0 65535 && nat_le pair.1 65535

abbrev pub is_rule : Rule → Bool
is_rule rule = nat_le rule.offset 65535 && nat_le rule.low 255 && nat_le rule.high 255

-- a line that a script can have
unfoldable pub is_readable : Line → Bool
is_readable (Create pipe depth name) = nat_lt pipe 64 && nat_le depth 65535 && is_name name
is_readable (Delete pipe) = nat_lt pipe 64
is_readable (SetOpts pipe bits) = nat_lt pipe 64 && nat_le bits 255
is_readable (GetOpts pipe) = nat_lt pipe 64
is_readable (Find pipe name) = nat_lt pipe 64 && is_name name
is_readable (PipeName pipe) = nat_lt pipe 64
is_readable (Subscribe id pipe limit scope) =
    nat_le id 65535 && nat_lt pipe 64 && nat_le limit 65535
is_readable (Unsubscribe id pipe) = nat_le id 65535 && nat_lt pipe 64
is_readable (Send id size fill inc) =
    nat_le id 65535 && nat_le 7 size && nat_le size 65542 && nat_le fill 255
is_readable (SendRaw bytes inc) = is_spelled bytes
is_readable (Receive pipe) = nat_lt pipe 64
is_readable (Pend pipe) = nat_lt pipe 64
is_readable (Allocate buf size) = nat_lt buf 64 && nat_le size 65542
is_readable (TransmitBuffer buf inc) = nat_lt buf 64
is_readable (Release buf) = nat_lt buf 64
is_readable (PoolCreate pool bytes) = nat_lt pool 8 && nat_le bytes 4294967295
is_readable (PoolGet grant pool size) = nat_lt grant 64 && nat_lt pool 8 && nat_le size 4294967295
is_readable (PoolPut pool grant) = nat_lt pool 8 && nat_lt grant 64
is_readable (PoolFigures pool) = nat_lt pool 8
is_readable (Register filters) = are_filters filters && list_all is_filter filters
is_readable (SendEvent id kind text) = nat_le id 65535 && is_event_text text
is_readable (ResetFilter id) = nat_le id 65535
is_readable (LogMode mode) = nat_le mode 1
is_readable ClearLog = true
is_readable Housekeeping = true
is_readable Figures = true
is_readable (TableRegister handle name size option rules) =
    nat_lt handle 64 && is_name name && nat_le size 1000000 && nat_le option 7 &&
    nat_le (length rules) 8 && list_all is_rule rules
is_readable (TableShare handle name) = nat_lt handle 64 && is_name name
is_readable (TableUnregister handle) = nat_lt handle 64
is_readable (Stage handle offset content) =
    nat_lt handle 64 && nat_le offset 65536 && is_content content
is_readable (Validate handle) = nat_lt handle 64
is_readable (Update handle) = nat_lt handle 64
is_readable (Abort handle) = nat_lt handle 64
is_readable (Load handle offset content) =
    nat_lt handle 64 && nat_le offset 65536 && is_content content
is_readable (GetAddress handle) = nat_lt handle 64
is_readable (ReleaseAddress handle) = nat_lt handle 64
is_readable (Status handle) = nat_lt handle 64
is_readable (Form buf id fill) = nat_lt buf 64 && nat_le id 65535 && nat_le fill 255
is_readable (Put buf offset bytes) = nat_lt buf 64 && nat_le offset 65541 && is_spelled bytes
is_readable (ShowPipe pipe) = nat_lt pipe 64
is_readable (ShowTable handle) = nat_lt handle 64
