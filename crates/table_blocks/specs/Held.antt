-- What an application holds of tables: a finite map from handles to views.
use Rattle.std.specs.Prelude.{ℕ, ◌==◌, ◌++◌, List, Option, find}
use Rattle.std.specs.List.{before_first, after_first}
use Rattle.std.specs.Option.{option_map}
use Rattle.lend_block.specs.Loan.{LentBytes}

-- the views, each with its handle, in order of the handles, and how many there is room for
pub record HeldViews : Type 0 where
  pub views : List (ℕ × LentBytes)
  pub room : ℕ

-- the view of a handle
abbrev pub held_at : HeldViews → ℕ → Option LentBytes
held_at held handle = option_map (λ entry. entry.1) (find (λ entry. entry.0 == handle) held.views)

-- all but the view of a handle
abbrev pub without : HeldViews → ℕ → HeldViews
without held handle =
    record held {
      views = before_first (λ entry. entry.0 == handle) held.views ++
          after_first (λ entry. entry.0 == handle) held.views;
    }
