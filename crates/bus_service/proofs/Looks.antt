-- Looks by ports: one in vain leaves the core, one that found something is a call, and others'
-- entries leave which pipe is waited on.
use Rattle.std.proofs.Common.{◌≡◌, ℕ, ◌≤◌, true, false, true≢false, ap, subst}
use Rattle.bus_words.specs.declared.history.Call.TheVariants.{Look}
use Rattle.bus_words.specs.Bus.{Standing, standing_of, waited_on}
use Rattle.sb_calls.specs.declared.results.Pended.{Pended}
use Rattle.sb_calls.specs.declared.results.Pended.TheVariants as waits
use Rattle.sb_calls.specs.Answers.{waited, is_pending}
use Rattle.sb_calls.specs.Bags.{CalledByOthers}
use Rattle.sb_calls.specs.Core.{Core, Does, Looks, state_of}
use Rattle.sb_calls.proofs.Looks.{pending_is}
use Rattle.bus_service.proofs.OthersCalls.{standing_meanwhile}

pub looked_in_vain : (old new : Core) (app : ℕ) (told : Pended) →
    Looks old new app (waited_on (standing_of (state_of old) app)) told → is_pending told ≡ true →
    new ≡ old
looked_in_vain old new app told looks vain =
    (subst (λ (p : Pended). Looks old new app (waited_on (standing_of (state_of old) app)) p)
    (pending_is told vain) looks).0

pub looked : (old new : Core) (app : ℕ) (told : Pended) →
    Looks old new app (waited_on (standing_of (state_of old) app)) told → is_pending told ≡ false →
    Does old new app (Look (waited_on (standing_of (state_of old) app))) (waited told)
looked old new app (waits.Got number) looks found = looks
looked old new app waits.TimeOut looks found = looks
looked old new app waits.Pending looks found = absurd (true≢false found)

pub same_look : (old new : Core) (app : ℕ) → 1 ≤ app → CalledByOthers old new app →
    Look (waited_on (standing_of (state_of new) app)) ≡
    Look (waited_on (standing_of (state_of old) app))
same_look old new app first others =
    ap (λ (standing : Standing). Look (waited_on standing))
    (standing_meanwhile old new app first others)
