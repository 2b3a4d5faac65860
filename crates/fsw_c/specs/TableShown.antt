-- What C reads of a table where it lies.
use Rattle.std.specs.Prelude.{◌≡◌, ℕ, List, Option, Some, None, if◌then◌else◌}
use Rattle.checked_tables.specs.Asked.{is_application}
use Rattle.checked_tables.specs.Box.{Boxed, held_value}
use Rattle.fsw_core.specs.declared.Core.{Core}
use Rattle.fsw_c.specs.declared.holding.FswAddress.{FswAddress}
use Rattle.fsw_c.specs.Shown.{shown_length}

-- what the application's handle holds, if the tables serve the application
abbrev pub held_shown : Boxed → ℕ → ℕ → Option (List ℕ)
held_shown tables app handle =
    if is_application tables.core app then held_value tables.core app handle else None

-- the address is as long as what the application's handle holds
abbrev pub ShowsHeld : Option Core → ℕ → ℕ → FswAddress → Type 0
ShowsHeld new app handle address =
    (n : Core) → new ≡ Some n → address.len ≡ shown_length (held_shown n.tables app handle)
