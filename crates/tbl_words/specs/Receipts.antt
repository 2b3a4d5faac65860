-- What an application tells of a table that it holds.
use Rattle.std.specs.Prelude.{ℕ, List, length, sum, take, Option, None, if◌then◌else◌}
use Rattle.std.specs.Option.{option_map, option_and_then}
use Rattle.tbl_words.specs.declared.receipts.TableReceipt.{TableReceipt}
use Rattle.tbl_words.specs.declared.receipts.TheConstants.{HEAD_BYTES}
use Rattle.tbl_words.specs.Tables.{State, owns, handle_at}

-- The handle, the version held, the bytes of the table, their sum, and the first of them.
pub record Receipt : Type 0 where
  pub handle : ℕ
  pub version : ℕ
  pub size : ℕ
  pub sum_of_bytes : ℕ
  pub head : List ℕ

-- a receipt with the bytes that it borrows
abbrev pub receipt_of : TableReceipt → Receipt
receipt_of r =
    record {
      handle = r.handle;
      version = r.version;
      size = r.size;
      sum_of_bytes = r.sum;
      head = r.head.now;
    }

-- the receipt of a version held by a handle
abbrev pub table_receipt : ℕ → ℕ → List ℕ → Receipt
table_receipt handle version value =
    record {
      handle = handle;
      version = version;
      size = length value;
      sum_of_bytes = sum value;
      head = take HEAD_BYTES value;
    }

-- the receipt of what an application's handle holds, if the handle is live and holds something
abbrev pub receipt_in : State → ℕ → ℕ → Option Receipt
receipt_in s app handle =
    if owns s.handles app handle
    then option_and_then
    (λ h. option_map (λ held. table_receipt handle held.version held.value) h.hold)
    (handle_at s.handles handle)
    else None
