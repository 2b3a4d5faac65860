-- Handles that leave: at once, or one after another; and what is left once all applications have
-- ended.
use Rattle.std.specs.Prelude.{◌≡◌, ◌||◌, Bool, []}
use Rattle.fsw_base.specs.Limits.{Limits}
use Rattle.tbl_words.specs.Tables.{Handle, State, bytes_in_use}
use Rattle.tbl_words.specs.Machine.{without_handles}

-- some handles leave and then others do: that is as if all of them had left at once
abbrev pub LeavesAddUp : Type 0
LeavesAddUp =
    (s : State) (first second : Handle → Bool) →
    without_handles second (without_handles first s) ≡ without_handles (λ h. first h || second h) s

-- no handle is live, no table is there, and none of the pool's bytes is in use
pub record HoldsNothing (limits : Limits) (s : State) : Type 0 where
  pub handles : s.handles ≡ []
  pub tables : s.tables ≡ []
  pub bytes : bytes_in_use limits.sizes s.tables ≡ 0
