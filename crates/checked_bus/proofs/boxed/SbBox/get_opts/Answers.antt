use Rattle.std.proofs.Common.{subst}
use Rattle.bus_words.specs.declared.history.Call.TheVariants.{GetOpts}
use Rattle.bus_core.specs.Core.{Acts}
use Rattle.bus_core.specs.Answers.{numbered}
use Rattle.checked_bus.specs.Box.{Boxed}
use Rattle.checked_bus.proofs.Apps.{apps-acts}
use Rattle.checked_bus.proofs.Kept.{kept-bags}
use Rattle.checked_bus.proofs.boxed.SbBox.get_opts.Goals as goal

pub invariant_of-self : goal.invariant_of-self
invariant_of-self c =
    kept-bags c.self.inside.core c.get_opts.new.self c.self.inside.bags.items c.self.invariant (apps-acts _ _ _ _ _ (c.get_opts.ensures.does 0)) c.get_opts.ensures.bags

pub returns-clause-does : goal.returns-clause-does
returns-clause-does c = λ app. subst (λ (box : Boxed). Acts box.core c.get_opts.new.self app (GetOpts c.args.pipe) (numbered c.get_opts.result)) c.self.view_is (c.get_opts.ensures.does app)
