-- A bag with nothing in it, and room for a view of each handle, is each application's of tables on which no call was made.
use Rattle.std.proofs.Common.{◌≡◌, ℕ, ◌≤◌, List, [], length, ap, sym, subst}
use Rattle.lend_block.specs.Loan.{LentBytes}
use Rattle.tbl_words.specs.declared.history.Entry.{Entry}
use Rattle.table_blocks.specs.Held.{HeldViews, held_at}
use Rattle.tbl_load.specs.Bags.{HasBag}
use Rattle.tbl_load.specs.Core.{Core}

pub opens : (core : Core) (app : ℕ) (bag : HeldViews) → core.log.entries ≡ [] → bag.views ≡ [] → core.limits.handles ≤ bag.room → HasBag core app bag
opens core app bag none no_views room =
    subst (λ (entries : List Entry). HasBag (record core { log = record core.log { entries = entries } }) app bag) (sym none)
    (record {
      seen = λ number. ap (λ (views : List (ℕ × LentBytes)). held_at (record bag { views = views }) number) no_views;
      counted = ap (λ (views : List (ℕ × LentBytes)). length views) no_views;
      room = room;
    })
