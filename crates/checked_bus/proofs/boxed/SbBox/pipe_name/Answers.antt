use Rattle.std.proofs.Common.{subst}
use Rattle.bus_words.specs.declared.history.Call.TheVariants.{PipeName}
use Rattle.bus_core.specs.Core.{Acts}
use Rattle.bus_core.specs.Answers.{named}
use Rattle.checked_bus.specs.Box.{Boxed}
use Rattle.checked_bus.proofs.Apps.{apps-acts}
use Rattle.checked_bus.proofs.Kept.{kept-bags}
use Rattle.checked_bus.proofs.boxed.SbBox.pipe_name.Goals as goal

pub invariant_of-self : goal.invariant_of-self
invariant_of-self c =
    kept-bags c.self.inside.core c.pipe_name.new.self c.self.inside.bags.items c.self.invariant (apps-acts _ _ _ _ _ (c.pipe_name.ensures.does 0)) c.pipe_name.ensures.bags

pub returns-clause-does : goal.returns-clause-does
returns-clause-does c = λ app. subst (λ (box : Boxed). Acts box.core c.pipe_name.new.self app (PipeName c.args.pipe) (named c.pipe_name.result)) c.self.view_is (c.pipe_name.ensures.does app)
