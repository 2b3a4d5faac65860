use Rattle.std.proofs.Common.{Some, refl, sym, ◌∙◌}
use Rattle.fsw_base.specs.declared.statuses.SbStatus.TheVariants.{BadArgument}
use Rattle.housekeeping.specs.declared.names.CounterName.TheVariants as counters
use Rattle.bus_words.specs.declared.history.Call.TheVariants.{GetOpts}
use Rattle.bus_words.specs.Refusals.{OfBus}
use Rattle.bus_core.proofs.CallLaws.{acts_still, cause_told, refused_acts}
use Rattle.bus_core.proofs.Asks.{bits_made, bits_refused}
use Rattle.bus_core.proofs.plain.PlainBus.get_opts.Goals as goal

pub returns-in_default-clause-does : goal.returns-in_default-clause-does
returns-in_default-clause-does c = λ app.
    let old = c.args.self.now in
    let why = cause_told c.self.inside old app (GetOpts c.args.pipe) (Some (OfBus BadArgument)) c.self.view_is (bits_refused c.self.inside app c.args.pipe (sym c.bits.ensures ∙ c.in_default.is)) in
    refused_acts old c.refuse.new.self app (GetOpts c.args.pipe) BadArgument counters.Opts c.refuse.ensures.ticked c.refuse.ensures.covered why refl refl refl

pub returns-clause-does : goal.returns-clause-does
returns-clause-does c = λ app.
    acts_still c.self.inside c.args.self.now app (GetOpts c.args.pipe) _ c.self.view_is c.self.invariant
    (bits_made c.self.inside app c.args.pipe c.in-Some.bits (sym c.bits.ensures ∙ c.in-Some.is)) refl refl refl
