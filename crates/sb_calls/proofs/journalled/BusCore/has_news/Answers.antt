use Rattle.std.proofs.Common.{◌≡◌, ◌≢◌, ◌∙◌, ℕ, true, false, ap, subst}
use Rattle.bus_words.specs.declared.calls.BusAnswer.TheVariants.{Pending}
use Rattle.bus_words.specs.Bus.{State, standing_of, waited_on}
use Rattle.bus_words.specs.Machine.{pended_answer}
use Rattle.bus_core.specs.News.{has_news, is_waiting}
use Rattle.sb_calls.specs.Core.{state_of}
use Rattle.sb_calls.proofs.EntryLemma.{bus_is}
use Rattle.sb_calls.proofs.journalled.BusCore.has_news.Goals as goal

pub returns-clause-told : goal.returns-clause-told
returns-clause-told c = c.has_news.ensures.told ∙ ap has_news (bus_is c.self.inside c.self.invariant ∙ ap state_of c.self.view_is)

pub returns-clause-none : goal.returns-clause-none
returns-clause-none c =
    subst (λ (s : State). c.has_news.result ≡ false → (app : ℕ) → is_waiting (standing_of s app) ≡ true → pended_answer s app (waited_on (standing_of s app)) ≡ Pending)
    (bus_is c.self.inside c.self.invariant ∙ ap state_of c.self.view_is) c.has_news.ensures.none

pub returns-clause-some : goal.returns-clause-some
returns-clause-some c =
    subst (λ (s : State). c.has_news.result ≡ true → (app : ℕ) × (is_waiting (standing_of s app) ≡ true) × (pended_answer s app (waited_on (standing_of s app)) ≢ Pending))
    (bus_is c.self.inside c.self.invariant ∙ ap state_of c.self.view_is) c.has_news.ensures.some
