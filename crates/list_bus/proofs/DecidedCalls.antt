-- What a call is decided to, by the fields of the bus.
use Rattle.std.proofs.Common.{◌≡◌, ℕ, List, Option, Some, None, refl, sym, ap, ◌∙◌, subst}
use Rattle.fsw_base.specs.Limits.{Limits, limits_of}
use Rattle.bus_words.specs.declared.calls.BusAnswer.{BusAnswer}
use Rattle.bus_words.specs.declared.history.Call.{Call}
use Rattle.bus_words.specs.Acts.{reads_in, completed}
use Rattle.bus_words.specs.Bus.{State}
use Rattle.bus_words.specs.Machine.{cause, decided_with, accept_with, refused_state}
use Rattle.bus_words.specs.Refusals.{Refusal, refusal_answer}
use Rattle.list_messages.specs.Messages.{Messages, IsKept}
use Rattle.list_messages.specs.Sends.{Use}
use Rattle.list_bus.specs.Played.{Played, IsPlayed}
use Rattle.list_bus.specs.Decided.{decided, Decides}
use Rattle.list_bus.specs.Inside.{means, limits_in, played_in}
use Rattle.list_bus.specs.declared.bus.ListBus.TheInside.{Inside}

-- what is decided for this cause, or if there is none
pub decided_by : (p : Played) (app : ℕ) (call : Call) (why : Option Refusal) → cause p.limits p.whole.bus app call ≡ why →
    decided p app call ≡ completed p.limits p.whole call (decided_with (reads_in p.whole) p.limits p.whole.bus app call why)
decided_by p app call why is =
    ap (λ o. completed p.limits p.whole call (decided_with (reads_in p.whole) p.limits p.whole.bus app call o)) is

-- a call that changes nothing
pub decides_still : (now : Played) (app : ℕ) (call : Call) (answer : BusAnswer) → decided now app call ≡ (answer, now.whole) → IsPlayed now →
    Decides now now app call answer
decides_still now app call answer made kept =
    record { made = made; limits = refl; events = refl; statistics = refl; kept = kept }

-- a refused call that changes nothing
pub refused : (now : Played) (app : ℕ) (call : Call) (why : Refusal) → cause now.limits now.whole.bus app call ≡ Some why →
    completed now.limits now.whole call (refusal_answer why, refused_state now.whole.bus call why) ≡ (refusal_answer why, now.whole) → IsPlayed now →
    Decides now now app call (refusal_answer why)
refused now app call why is still kept =
    decides_still now app call (refusal_answer why) (decided_by now app call (Some why) is ∙ still) kept

-- a call that isn't refused and changes nothing
pub accepted_still : (now : Played) (app : ℕ) (call : Call) (answer : BusAnswer) → cause now.limits now.whole.bus app call ≡ None →
    completed now.limits now.whole call (accept_with (reads_in now.whole) now.limits now.whole.bus app call) ≡ (answer, now.whole) → IsPlayed now →
    Decides now now app call answer
accepted_still now app call answer is still kept = decides_still now app call answer (decided_by now app call None is ∙ still) kept

-- what is read off the bus is read off its fields
pub at_fields : {A : Type 0} (a : Inside) (now : Played) → played_in a ≡ now → (read : Limits → State → A) (found : A) →
    read now.limits now.whole.bus ≡ found → read (limits_in a) (means a).bus ≡ found
at_fields a now viewed read found is = ap (λ (p : Played). read p.limits p.whole.bus) viewed ∙ is

-- send numbers are named as the fields have it
pub kept_at : (a : Inside) (now : Played) → played_in a ≡ now → IsPlayed now → IsKept a.messages
kept_at a now viewed kept = subst (λ p. IsPlayed p) (sym viewed) kept

-- the limits with the pool of this part of messages
abbrev pub limits_with : Inside → Messages → Limits
limits_with a part = record (limits_of a.config) { pool = part.pool; sizes = part.sizes }

-- the fields with this part of messages
abbrev pub with_part : Inside → Messages → List Use → Inside
with_part a part uses = record a { messages = record { part = part; uses = uses } }

module _ (a next : Inside) (now : Played) (viewed : played_in a ≡ now) (app : ℕ) (call : Call)
    (config : limits_in next ≡ limits_in a) (desk : next.desk ≡ a.desk) (counters : next.counters ≡ a.counters) (kept : IsPlayed (played_in next)) where
  -- what is decided by the fields is decided by the bus
  pub decides : (answer : BusAnswer) → decided (played_in a) app call ≡ (answer, means next) → Decides now (played_in next) app call answer
  decides answer made =
      subst (λ p. Decides p (played_in next) app call answer) viewed
      (record { made = made; limits = config; events = desk; statistics = counters; kept = kept })

  -- a call that isn't refused
  pub accepted : (answer : BusAnswer) → cause now.limits now.whole.bus app call ≡ None →
      completed (limits_in a) (means a) call (accept_with (reads_in (means a)) (limits_in a) (means a).bus app call) ≡ (answer, means next) →
      Decides now (played_in next) app call answer
  accepted answer is made =
      decides answer (decided_by (played_in a) app call None (at_fields a now viewed (λ limits s. cause limits s app call) None is) ∙ made)
