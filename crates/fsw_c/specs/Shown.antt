-- What C reads where it lies, and the message that an application received last on a pipe.
use Rattle.std.specs.Prelude.{◌≡◌, ℕ, List, length, Option, Some, None, if◌then◌else◌}
use Rattle.checked_bus.specs.Asked.{is_application}
use Rattle.checked_bus.specs.Box.{Boxed, last_message}
use Rattle.fsw_core.specs.declared.Core.{Core}
use Rattle.fsw_c.specs.declared.messages.FswMessage.{FswMessage}

-- how many bytes are there to be read; none if there is nothing
abbrev pub shown_length : Option (List ℕ) → ℕ
shown_length None = 0
shown_length (Some bytes) = length bytes

-- the application's last message on the pipe, if the bus serves the application
abbrev pub last_shown : Boxed → ℕ → ℕ → Option (List ℕ)
last_shown bus app pipe =
    if is_application bus.core app then last_message bus.core app pipe else None

-- the message is as long as the application's last message on the pipe
abbrev pub ShowsLast : Option Core → ℕ → ℕ → FswMessage → Type 0
ShowsLast new app pipe message =
    (n : Core) → new ≡ Some n → message.len ≡ shown_length (last_shown n.bus app pipe)
