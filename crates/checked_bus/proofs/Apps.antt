-- No call changes how many applications the bus serves, and each unsent buffer still has a number that was given.
use Rattle.std.proofs.Common.{◌≡◌, ℕ, ◌≤◌, Bool, true, false, length, Result, Err, OnErr, IsTrue, refl, ap, sym, ◌∙◌, subst}
use Rattle.std.proofs.lemmas.List.Elements.{All-from_recursion, recursion_from_All}
use Rattle.fsw_base.specs.declared.statuses.SbStatus.{SbStatus}
use Rattle.fsw_base.specs.declared.statuses.SbStatus.TheVariants.{BufAlocErr}
use Rattle.housekeeping.specs.declared.names.CounterName.TheVariants.{Send}
use Rattle.fsw_base.specs.Grants.{has_numbers}
use Rattle.bus_words.specs.declared.calls.BusAnswer.{BusAnswer}
use Rattle.bus_words.specs.declared.history.Call.{Call}
use Rattle.bus_words.specs.Acts.{Whole}
use Rattle.bus_words.specs.Bus.{Buffer, State}
use Rattle.bus_words.specs.Held.{buffers_in}
use Rattle.bus_words.proofs.Standings.{applications_stay}
use Rattle.bus_core.specs.Core.{Plain, Acts, apps_in, with_tick, has_send_number}
use Rattle.checked_bus.specs.Box.{AreGiven}
use Rattle.checked_bus.proofs.Given.{Given, given_stays}

-- what no call changes
pub record Goes (old new : Plain) : Type 0 where
  pub apps : apps_in new ≡ apps_in old
  pub given : AreGiven old.whole.bus → AreGiven new.whole.bus

pub goes-same : (old new : Plain) → new ≡ old → Goes old new
goes-same old new is = record { apps = ap apps_in is; given = subst (λ (c : Plain). AreGiven c.whole.bus) (sym is) }

pub each_given : (s : State) → AreGiven s → Given s
each_given s = recursion_from_All (λ (b : Buffer). b.number ≤ s.numbers_given) (buffers_in s.unsent)

pub apps-acts : (old new : Plain) (app : ℕ) (call : Call) (answer : BusAnswer) → Acts old new app call answer → Goes old new
apps-acts old new app call answer acts = record {
  apps = sym (ap (λ (made : BusAnswer × Whole). length made.1.bus.standings) acts.made) ∙ applications_stay old.limits old.whole app call;
  given = λ given.
      let after = given_stays old.limits old.whole app call (each_given old.whole.bus given) in
      let all = All-from_recursion (λ (b : Buffer). b.number ≤ new.whole.bus.numbers_given) (buffers_in new.whole.bus.unsent) in
      all (subst (λ (made : BusAnswer × Whole). Given made.1.bus) acts.made after);
}

-- a call that needs a send number
pub apps-numbered : {T : Type 0} (old new : Plain) (app : ℕ) (call : Call) (told : Result T SbStatus) (answer : BusAnswer) →
    (IsTrue (has_send_number old.whole.bus) → Acts old new app call answer) → (has_send_number old.whole.bus ≡ false → told ≡ Err BufAlocErr) →
    OnErr told (new ≡ with_tick old Send) → Goes old new
apps-numbered {T} old new app call told answer does spent refused = by_left (has_send_number old.whole.bus) refl
  where
    ticked : new ≡ with_tick old Send → Goes old new
    ticked is = record { apps = ap apps_in is; given = λ given. subst (λ (c : Plain). AreGiven c.whole.bus) (sym is) given }

    by_left : (left : Bool) → has_send_number old.whole.bus ≡ left → Goes old new
    by_left true is = apps-acts old new app call answer (does is)
    by_left false is =
        let Then : Result T SbStatus → Type 0 = λ r. OnErr r (new ≡ with_tick old Send) in
        ticked (subst Then (spent is) refused)

-- a call that needs a number of a grant
pub apps-granted : (old new : Plain) (app : ℕ) (call : Call) (pool : ℕ) (answer : BusAnswer) → (IsTrue (has_numbers old.whole.bus.pools pool) → Acts old new app call answer) →
    (has_numbers old.whole.bus.pools pool ≡ false → new ≡ old) → Goes old new
apps-granted old new app call pool answer does spent = by_left (has_numbers old.whole.bus.pools pool) refl
  where
    by_left : (left : Bool) → has_numbers old.whole.bus.pools pool ≡ left → Goes old new
    by_left true is = apps-acts old new app call answer (does is)
    by_left false is = goes-same old new (spent is)
