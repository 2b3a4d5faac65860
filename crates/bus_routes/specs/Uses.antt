-- How often the pipes name a send: once for each of its messages that waits, and once for each that
-- was received last.
use Rattle.std.specs.Prelude.{ℕ, ◌+◌, ◌==◌, if◌then◌else◌, List, count_by, sum_by, Option, Some, None}
use Rattle.bus_routes.specs.declared.tables.ItemRow.{ItemRow}
use Rattle.bus_routes.specs.Rows.{Row}

-- 1 if there is an item, and it is of this send
abbrev pub item_use : ℕ → Option ItemRow → ℕ
item_use number None = 0
item_use number (Some item) = if item.number == number then 1 else 0

-- how many of these items are of the send
abbrev pub uses_among : ℕ → List ItemRow → ℕ
uses_among number items = count_by (λ item. item.number == number) items

-- how often a pipe names the send
abbrev pub uses_in : ℕ → Row → ℕ
uses_in number row = uses_among number row.queue + item_use number row.last

-- how often the pipes name it
abbrev pub uses_of : ℕ → List Row → ℕ
uses_of number rows = sum_by (uses_in number) rows
