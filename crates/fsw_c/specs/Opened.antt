-- What an opening answers.
use Rattle.std.specs.Prelude.{ℕ}
use Rattle.fsw_c.specs.declared.opened.FswOpened.{FswOpened}

-- its status
abbrev pub status_of : FswOpened → ℕ
status_of opened = opened.status
