-- Why the tables aren't asked a call, if they aren't. They are asked if the core's condition of the
-- call holds.
use Rattle.std.specs.Prelude.{ℕ, ◌&&◌, not, nat_le, Bool, true, length, Option, Some, None, if◌then◌else◌}
use Rattle.tbl_words.specs.declared.history.Call.{Call}
use Rattle.tbl_words.specs.declared.history.Call.TheVariants.{Register, Share}
use Rattle.tbl_words.specs.Tables.{State}
use Rattle.tbl_words.specs.Machine.{may_call}
use Rattle.table_core.specs.Core.{Plain, is_within, has_handle_number}
use Rattle.checked_tables.specs.declared.refusal.Refusal.{Refusal}
use Rattle.checked_tables.specs.declared.refusal.Refusal.TheVariants.{NoApplication, TooLong, NotActive, NoNumbers}
use Rattle.checked_tables.specs.Box.{apps_in}

-- the tables serve an application of this number
abbrev pub is_application : Plain → ℕ → Bool
is_application core app = nat_le 1 app && nat_le app (apps_in core)

-- a number is left for the handle that the call gives, if it gives one
abbrev pub has_number : State → Call → Bool
has_number s (Register name size option rules) = has_handle_number s
has_number s (Share name) = has_handle_number s
has_number s call = true

-- what the call brings is within what the core takes, and a registration has at most 8 rules
abbrev pub has_few : Call → Bool
has_few (Register name size option rules) = nat_le (length rules) 8
has_few call = is_within call

-- this reason, if the test says so, else one of the others
abbrev pub reason_if : Bool → Refusal → Option Refusal → Option Refusal
reason_if test why others = if test then Some why else others

-- why the tables aren't asked a call, the first reason that applies; none if they are asked
abbrev pub unasked : Plain → ℕ → Call → Option Refusal
unasked core app call =
    reason_if (not (is_application core app)) NoApplication
    (reason_if (not (has_few call)) TooLong
    (reason_if (not (may_call core.state app)) NotActive
    (reason_if (not (has_number core.state call)) NoNumbers None)))
