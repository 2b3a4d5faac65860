-- What comes next at an application's place among its lines.
use Rattle.std.specs.Prelude.{ℕ, Bool, false, not, List, [], slice_get, is_some, Option, Some}
use Rattle.std.specs.Option.{option_map_or}
use Rattle.bus_words.specs.declared.receipts.Receipt.{Receipt}
use Rattle.bus_words.specs.declared.receipts.Receipt.TheVariants.{Table}
use Rattle.tbl_words.specs.declared.history.Call.{Call}
use Rattle.tbl_words.specs.declared.history.Call.TheVariants.{End}
use Rattle.tbl_words.specs.Receipts.{Receipt as TableReceipt}
use Rattle.script_lines.specs.declared.line.Line.{Line}
use Rattle.script_runs.specs.TableTrace.{table_call_of}
use Rattle.script_calls.specs.Made.{content_made}
use Rattle.run_check.specs.TablePlaces.{TablePlace}

-- the call that comes next: that of the next line, or the end behind them all
abbrev pub call_at : List Line → TablePlace → Option Call
call_at lines p =
    option_map_or (λ line. table_call_of p.handles line) (slice_get lines p.place) (Some End)

-- whether there is a next line, and the tables don't see it
abbrev pub is_before_unseen : List Line → TablePlace → Bool
is_before_unseen lines p =
    option_map_or (λ line. not (is_some (table_call_of p.handles line))) (slice_get lines p.place)
    false

-- the bytes that the next line loads
abbrev pub content_at : List Line → TablePlace → List ℕ
content_at lines p = option_map_or content_made (slice_get lines p.place) []

-- what is told of a version of a table, as applications tell it
abbrev pub kept_receipt : TableReceipt → Receipt
kept_receipt r = Table r.handle r.version r.size r.sum_of_bytes r.head
