-- The bytes that lines make: the message of a `send` line (CCSDS 133.0-B, 4.1), and the content of
-- a load.
use Rattle.std.specs.Prelude.{ℕ, ◌+◌, ◌-◌, ◌%◌, List, ◌++◌, map}
use Rattle.std.specs.List.{range_with_len}
use Rattle.ccsds_msg.specs.Message.{header_bytes}
use Rattle.script_words.specs.declared.content.Content.{Content}
use Rattle.script_words.specs.declared.content.Content.TheVariants.{Hex, Fill}

-- byte number i of a payload that begins with this fill
abbrev pub fill_byte : ℕ → ℕ → ℕ
fill_byte fill i = (fill + i) % 256

-- so many bytes that count up from the fill
abbrev pub filled : ℕ → ℕ → List ℕ
filled fill len = map (fill_byte fill) (range_with_len 0 len)

-- a header with sequence count 0, then bytes that count up from the fill
abbrev pub sent_message : ℕ → ℕ → ℕ → List ℕ
sent_message id size fill = header_bytes id 0 size ++ filled fill (size - 6)

-- the bytes of a content: those that it spells, or so many that count up from the first
abbrev pub content_bytes : Content → List ℕ
content_bytes (Hex bytes) = bytes
content_bytes (Fill len byte) = filled byte len
