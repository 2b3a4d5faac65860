-- A receive that is refused as a bad argument names a pipe that isn't the caller's.
use Rattle.std.proofs.Common.{◌≡◌, ℕ, Bool, true, false, not, None, refl, ap, sym, ◌∙◌}
use Rattle.std.specs.Prelude.{Result, Err}
use Rattle.fsw_base.specs.Limits.{Limits}
use Rattle.fsw_base.specs.declared.statuses.SbStatus.{SbStatus}
use Rattle.fsw_base.specs.declared.statuses.SbStatus.TheVariants.{BadArgument, NoMessage}
use Rattle.bus_words.specs.declared.calls.BusAnswer.TheVariants.{Sb}
use Rattle.bus_words.specs.declared.history.Call.TheVariants.{Receive}
use Rattle.bus_words.specs.Bus.{State, owns, is_empty}
use Rattle.bus_words.specs.Machine.{Reads, by_bus, refused_if, decided_with, reads_after}
use Rattle.bus_core.specs.Answers.{got}
use Rattle.sb_calls.specs.Core.{Core, Does, state_of}

unowned : (reads : Reads) (limits : Limits) (s : State) (app pipe : ℕ) (own empty : Bool) →
    Sb BadArgument ≡ (decided_with reads limits s app (Receive pipe) (by_bus (refused_if (not own) BadArgument (refused_if empty NoMessage None)))).0 → own ≡ false
unowned reads limits s app pipe false empty is = refl
unowned reads limits s app pipe true true never = absurd (cc (never))
unowned reads limits s app pipe true false never = absurd (cc (never))

pub refused_unowned : (old new : Core) (app pipe : ℕ) (told : Result ℕ SbStatus) → told ≡ Err BadArgument → Does old new app (Receive pipe) (got told) → owns (state_of old).pipes app pipe ≡ false
refused_unowned old new app pipe told is does =
    let s = state_of old in
    unowned (reads_after old.limits old.log.entries) old.limits s app pipe (owns s.pipes app pipe) (is_empty s.pipes pipe) (sym (ap got is) ∙ does.as_machine)
