use Rattle.std.proofs.Common.{◌<◌, true, false, length, Some, None, ap, sym, ◌∙◌, arith}
use Rattle.std.specs.Option.{is_some}
use Rattle.fsw_base.specs.Limits.{limits_of}
use Rattle.fsw_base.specs.declared.statuses.SbStatus.TheVariants.{PipeCrErr}
use Rattle.bus_words.specs.Machine.{create_cause}
use Rattle.bus_core.specs.Inside.{means}
use Rattle.bus_core.proofs.Asks.{name_told}
use Rattle.bus_core.proofs.Refusals.{at_core, create_checked, not_at_least}
use Rattle.bus_core.proofs.plain.PlainBus.create_cause.Goals as goal

pub returns-then-is_some : goal.returns-then-is_some
returns-then-is_some c =
    let a = c.self.inside in
    let name = c.args.name.now in
    let free : length a.store.pipes < a.config.pipes = omega (arith, c.pipes_len.ensures.len, c.if-pipes_len-self.false) in
    let taken = name_told a.store.pipes name ∙ ap is_some (sym c.find.ensures) ∙ sym c.is_some.ensures ∙ c.if-is_some.true in
    at_core a c.args.self.now c.self.view_is (λ limits s. create_cause limits s c.args.depth name) (Some PipeCrErr)
    (create_checked (limits_of a.config) (means a).bus c.args.depth name false false true
    (sym c.is_bad_pipe.ensures ∙ c.if-is_bad_pipe.false) (not_at_least a.config.pipes (length a.store.pipes) free) taken)

pub returns : goal.returns
returns c =
    let a = c.self.inside in
    let name = c.args.name.now in
    let free : length a.store.pipes < a.config.pipes = omega (arith, c.pipes_len.ensures.len, c.if-pipes_len-self.false) in
    let taken = name_told a.store.pipes name ∙ ap is_some (sym c.find.ensures) ∙ sym c.is_some.ensures ∙ c.if-is_some.false in
    at_core a c.args.self.now c.self.view_is (λ limits s. create_cause limits s c.args.depth name) None
    (create_checked (limits_of a.config) (means a).bus c.args.depth name false false false
    (sym c.is_bad_pipe.ensures ∙ c.if-is_bad_pipe.false) (not_at_least a.config.pipes (length a.store.pipes) free) taken)
