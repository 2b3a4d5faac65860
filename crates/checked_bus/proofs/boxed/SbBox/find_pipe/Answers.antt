use Rattle.std.proofs.Common.{subst}
use Rattle.bus_words.specs.declared.history.Call.TheVariants.{Find}
use Rattle.bus_core.specs.Core.{Acts}
use Rattle.bus_core.specs.Answers.{numbered}
use Rattle.checked_bus.specs.Box.{Boxed}
use Rattle.checked_bus.proofs.Apps.{apps-acts}
use Rattle.checked_bus.proofs.Kept.{kept-bags}
use Rattle.checked_bus.proofs.boxed.SbBox.find_pipe.Goals as goal

pub invariant_of-self : goal.invariant_of-self
invariant_of-self c =
    kept-bags c.self.inside.core c.find_pipe.new.self c.self.inside.bags.items c.self.invariant (apps-acts _ _ _ _ _ (c.find_pipe.ensures.does 0)) c.find_pipe.ensures.bags

pub returns-clause-does : goal.returns-clause-does
returns-clause-does c = λ app. subst (λ (box : Boxed). Acts box.core c.find_pipe.new.self app (Find c.args.name.now) (numbered c.find_pipe.result)) c.self.view_is (c.find_pipe.ensures.does app)
