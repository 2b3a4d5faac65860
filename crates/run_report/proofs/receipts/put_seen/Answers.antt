use Rattle.std.proofs.Common.{sym, ap}
use Rattle.text_page.specs.Texts.{hex_bytes}
use Rattle.run_report.specs.ReceiptText.{seen_text}
use Rattle.text_page.proofs.PieceTexts.{◌▸◌, puts_as}
use Rattle.run_report.proofs.receipts.put_seen.Goals as goal

pub returns-in-Message : goal.returns-in-Message
returns-in-Message g c =
    puts_as (seen_text c.args.receipt.now) (ap seen_text (sym c.in-Message.is))
    (c.put-in-Message.ensures ▸ c.put_number.ensures ▸ c.put-in-Message-2.ensures ▸ c.put_number-in-Message.ensures
    ▸ c.put-in-Message-3.ensures ▸ c.put_hex_id.ensures ▸ c.put-in-Message-4.ensures ▸ c.put_number-in-Message-2.ensures
    ▸ c.put-in-Message-5.ensures ▸ c.put_number-in-Message-3.ensures ▸ c.put-in-Message-6.ensures ▸ c.put_number-in-Message-4.ensures
    ▸ c.put-in-Message-7.ensures ▸ puts_as (hex_bytes c.in-Message.head) (ap hex_bytes c.as_slice.ensures.bytes) c.put_hex_bytes.ensures)

pub returns-in-Table : goal.returns-in-Table
returns-in-Table g c =
    puts_as (seen_text c.args.receipt.now) (ap seen_text (sym c.in-Table.is))
    (c.put-in-Table.ensures ▸ c.put_number-in-Table.ensures ▸ c.put-in-Table-2.ensures ▸ c.put_number-in-Table-2.ensures
    ▸ c.put-in-Table-3.ensures ▸ c.put_number-in-Table-3.ensures ▸ c.put-in-Table-4.ensures ▸ c.put_number-in-Table-4.ensures
    ▸ c.put-in-Table-5.ensures ▸ puts_as (hex_bytes c.in-Table.head) (ap hex_bytes c.as_slice-in-Table.ensures.bytes) c.put_hex_bytes-in-Table.ensures)
