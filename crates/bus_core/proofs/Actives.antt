-- An application that calls is active, or waits if it looks.
use Rattle.std.proofs.Common.{◌≡◌, ℕ, ◌-◌, ◌≤◌, Bool, true, false, cond, eqb, List, length, get_or, IsTrue, refl, ap, sym, ◌∙◌, subst, arith}
use Rattle.std.proofs.lemmas.Bool.Decides.{nat_tests}
use Rattle.std.proofs.lemmas.Bool.{eqb-true}
use Rattle.std.proofs.lemmas.List.{length-map}
use Rattle.bus_words.specs.declared.history.Call.{Call}
use Rattle.bus_words.specs.declared.history.Call.TheVariants.{Delete, Receive, Pend, Look, Figures}
use Rattle.bus_words.specs.Bus.{Standing, Active, Waiting, Ended, standing_of}
use Rattle.bus_words.specs.Machine.{may_call}
use Rattle.bus_core.specs.declared.plain.PlainBus.TheInside.{Inside}
use Rattle.bus_core.specs.declared.activities.Activity.{Activity}
use Rattle.bus_core.specs.declared.activities.Activity.TheVariants as activities
use Rattle.bus_core.specs.Core.{Plain, MayAct, is_within}
use Rattle.bus_core.specs.Inside.{plain_of, means}
use Rattle.bus_core.specs.Rows.{standing_in, activity_at}
use Rattle.bus_core.proofs.WaitingApplications.{standing_at}

-- a call that only an active application may make
abbrev pub IsOfActive : Call → Type 0
IsOfActive call = (x : Activity) → may_call (standing_in x) call ≡ true → x ≡ activities.Active

module _ (a : Inside) (old : Plain) (app : ℕ) (call : Call) (viewed : plain_of a ≡ old) (may : MayAct old app call) where
  told : may_call (standing_in (activity_at a.activities.items app)) call ≡ true
  told =
      sym (ap (λ (s : Standing). may_call s call) (standing_at a.activities.items (means a).bus app refl))
      ∙ ap (λ (o : Plain). may_call (standing_of o.whole.bus app) call) viewed
      ∙ may.standing

  pub is_active : IsOfActive call → activity_at a.activities.items app ≡ activities.Active
  is_active only = only (activity_at a.activities.items app) told

  pub known_here : app ≤ length a.activities.items
  known_here =
      subst (λ n. app ≤ n) (length-map a.activities.items standing_in)
      (subst (λ (o : Plain). app ≤ length o.whole.bus.standings) (sym viewed) may.known)

-- the pipe that an application looks at is the one that it waits on
pub looks_at : (x : Activity) (pipe : ℕ) → may_call (standing_in x) (Look pipe) ≡ true → x ≡ activities.Waiting pipe
looks_at activities.Active pipe may = absurd (cc (may))
looks_at (activities.Waiting other) pipe may = ap activities.Waiting (eqb-true other pipe may)
looks_at activities.Ended pipe may = absurd (cc (may))

pub is_waiting : (a : Inside) (old : Plain) (app pipe : ℕ) → plain_of a ≡ old → MayAct old app (Look pipe) → activity_at a.activities.items app ≡ activities.Waiting pipe
is_waiting a old app pipe viewed may = looks_at (activity_at a.activities.items app) pipe (told a old app (Look pipe) viewed may)

pub active_receives : (pipe : ℕ) → IsOfActive (Receive pipe)
active_receives pipe activities.Active may = refl
active_receives pipe (activities.Waiting other) may = absurd (cc (may))
active_receives pipe activities.Ended may = absurd (cc (may))

pub active_deletes : (pipe : ℕ) → IsOfActive (Delete pipe)
active_deletes pipe activities.Active may = refl
active_deletes pipe (activities.Waiting other) may = absurd (cc (may))
active_deletes pipe activities.Ended may = absurd (cc (may))

pub active_pends : (pipe : ℕ) → IsOfActive (Pend pipe)
active_pends pipe activities.Active may = refl
active_pends pipe (activities.Waiting other) may = absurd (cc (may))
active_pends pipe activities.Ended may = absurd (cc (may))

-- one that does anything has a number from 1
pub is_numbered : (acts : List Activity) (app : ℕ) → (activity_at acts app ≡ activities.Ended → ⊥) → 1 ≤ app
is_numbered acts app busy = by_test (eqb app 0) refl
  where
    some : (n : ℕ) → eqb n 0 ≡ false → 1 ≤ n
    some n is = grind (arith, nat_tests)

    by_test : (b : Bool) → eqb app 0 ≡ b → 1 ≤ app
    by_test true e = absurd (busy (ap (λ b. cond {A = Activity} b activities.Ended (get_or acts (app - 1) activities.Ended)) e))
    by_test false e = some app e

pub active_first : (acts : List Activity) (app : ℕ) → activity_at acts app ≡ activities.Active → 1 ≤ app
active_first acts app active = is_numbered acts app (λ ended. wrong (sym active ∙ ended))
  where
    wrong : activities.Active ≡ activities.Ended → ⊥
    wrong is = cc (is)

-- one that may ask for the figures is active
only_active : (s : Standing) → may_call s Figures ≡ true → s ≡ Active
only_active Active may = refl
only_active (Waiting pipe) may = absurd (cc (may))
only_active Ended may = absurd (cc (may))

-- and may make each call that an active application may
pub of_active : (core : Plain) (app : ℕ) (call : Call) → IsTrue (may_call Active call) → IsTrue (is_within call) → MayAct core app Figures → MayAct core app call
of_active core app call allowed within may =
    let active = only_active (standing_of core.whole.bus app) may.standing in
    record { known = may.known; standing = subst (λ (s : Standing). IsTrue (may_call s call)) (sym active) allowed; within = within }
