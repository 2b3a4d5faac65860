-- The lines of a report on what each application received and held.
use Rattle.std.specs.Prelude.{ℕ, List, ◌++◌, codes, decimal}
use Rattle.std.specs.List.{flat_map}
use Rattle.bus_words.specs.declared.receipts.Receipt.{Receipt}
use Rattle.bus_words.specs.declared.receipts.Receipt.TheVariants.{Nothing, Message, Table}
use Rattle.text_page.specs.Texts.{hex_id, hex_bytes, numbered}

-- what a receipt says: of a message the pipe, the send number, and the packet's id, sequence count,
-- size, sum of bytes and first bytes; of a table the handle, the version, and the size, the sum and
-- the first of its bytes
abbrev pub seen_text : Receipt → List ℕ
seen_text Nothing = codes "none"
seen_text (Message pipe number id count size sum head) =
    codes "msg p" ++ decimal pipe ++ codes " n" ++ decimal number ++ codes " id=" ++ hex_id id ++
    codes " seq=" ++ decimal count
    ++ codes " size=" ++ decimal size ++ codes " sum=" ++ decimal sum ++ codes " head=" ++
    hex_bytes head
seen_text (Table handle version size sum head) =
    codes "tbl h" ++ decimal handle ++ codes " v" ++ decimal version ++ codes " size=" ++
    decimal size ++ codes " sum=" ++ decimal sum
    ++ codes " head=" ++ hex_bytes head

-- the line of an application's receipt
abbrev pub receipt_text : ℕ → Receipt → List ℕ
receipt_text app receipt = codes "a" ++ decimal app ++ codes " " ++ seen_text receipt ++ codes "\n"

-- the lines of one application, in its own order
abbrev pub application_text : ℕ → List Receipt → List ℕ
application_text app receipts = flat_map (receipt_text app) receipts

-- the lines of all applications, which are numbered from 1
abbrev pub receipts_text : List (List Receipt) → List ℕ
receipts_text receipts = numbered application_text 1 receipts
