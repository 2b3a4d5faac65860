-- Looks: one that found something makes its entry, one that still waits leaves all as it was.
use Rattle.std.proofs.Common.{◌≡◌, ℕ, true, false, IsTrue, refl, ap, sym, ◌∙◌, subst}
use Rattle.bus_words.specs.declared.calls.BusAnswer.{BusAnswer}
use Rattle.bus_words.specs.declared.history.Call.TheVariants.{Look}
use Rattle.bus_words.specs.Bus.{State, standing_of, waited_on}
use Rattle.bus_words.specs.Machine.{makes_entry, step}
use Rattle.sb_calls.specs.declared.results.Pended.{Pended}
use Rattle.sb_calls.specs.declared.results.Pended.TheVariants as waits
use Rattle.sb_calls.specs.Answers.{waited, is_pending}
use Rattle.bus_core.specs.Core.{Plain, Acts}
use Rattle.sb_calls.specs.declared.journalled.BusCore.TheInside.{Inside}
use Rattle.sb_calls.specs.Core.{Core, Does, Looks, state_of}
use Rattle.sb_calls.specs.Inside.{core_of, Stands}
use Rattle.sb_calls.proofs.EntryLemma.{bus_is, step_is}

pub pending_is : (answer : Pended) → is_pending answer ≡ true → answer ≡ waits.Pending
pending_is (waits.Got n) is = absurd (cc (is))
pending_is waits.TimeOut is = absurd (cc (is))
pending_is waits.Pending is = refl

pub makes_look : (pipe : ℕ) (answer : Pended) → is_pending answer ≡ false → IsTrue (makes_entry (Look pipe) (waited answer))
makes_look pipe (waits.Got n) is = refl
makes_look pipe waits.TimeOut is = refl
makes_look pipe waits.Pending is = absurd (cc (is))

pub looks-found : (old new : Core) (app pipe : ℕ) (answer : Pended) → is_pending answer ≡ false → Does old new app (Look pipe) (waited answer) → Looks old new app pipe answer
looks-found old new app pipe (waits.Got number) is does = does
looks-found old new app pipe waits.TimeOut is does = does
looks-found old new app pipe waits.Pending is does = absurd (cc (is))

-- the pipe that the application waits on
pub waited_here : (a : Inside) (old : Core) (app : ℕ) → core_of a ≡ old → Stands a → waited_on (standing_of a.core.whole.bus app) ≡ waited_on (standing_of (state_of old) app)
waited_here a old app is stands = ap (λ (s : State). waited_on (standing_of s app)) (bus_is a stands ∙ ap state_of is)

-- one that still waits
pub looks-still : (a : Inside) (core : Plain) (old : Core) (app pipe : ℕ) (answer : Pended) → core_of a ≡ old → Stands a → is_pending answer ≡ true → core ≡ a.core →
    Acts a.core core app (Look pipe) (waited answer) → Looks old (core_of (record a { core = core })) app pipe answer
looks-still a core old app pipe answer viewed stands is same acts =
    let told : (step a.core.limits a.noted.log.entries (state_of (core_of a)) app (Look pipe)).0 ≡ waited waits.Pending =
    ap (λ s. (step a.core.limits a.noted.log.entries s app (Look pipe)).0) (sym (bus_is a stands))
    ∙ ap (λ (p : BusAnswer × State). p.0) (step_is a core app (Look pipe) (waited answer) stands acts)
    ∙ ap waited (pending_is answer is) in
    let P : Core → Type 0 = λ o. Looks o (core_of (record a { core = core })) app pipe waits.Pending in
    subst (λ x. Looks old (core_of (record a { core = core })) app pipe x) (sym (pending_is answer is))
    (subst P viewed (ap (λ c. core_of (record a { core = c })) same, told))
