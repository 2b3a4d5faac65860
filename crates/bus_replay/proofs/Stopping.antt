-- If no entry of the bus comes next.
use Rattle.std.proofs.Common.{◌≡◌, ◌≢◌, ℕ, zero, suc, ◌+◌, ◌<◌, ◌≤◌, ◌==◌, ◌&&◌, arith, Bool, true, false, true≢false, eqb-true, List, [], ◌∷◌, ◌++◌, length, Some, refl, ap, sym, ◌∙◌, subst}
use Rattle.std.proofs.lemmas.Bool.Decides.{nat_tests}
use Rattle.bus_words.specs.declared.history.Call.{Call}
use Rattle.bus_words.specs.declared.history.Entry.{Entry}
use Rattle.bus_words.specs.Acts.{act}
use Rattle.bus_words.specs.Bus.{State, Standing, Active, Waiting, Ended, has_ended, opening, standing_of}
use Rattle.bus_words.specs.Machine.{brings, makes_entry, may_call}
use Rattle.script_runs.specs.Trace.{own_entries}
use Rattle.run_check.specs.Begun.{IsBegun, IsWhole}
use Rattle.run_check.specs.Judged.{Begins, entry_head}
use Rattle.run_check.specs.Places.{lines_of, place_after, running_from}
use Rattle.run_check.proofs.Entries.{app_range}
use Rattle.run_check.proofs.Progress.{applications_go_on, legal_last}
use Rattle.bus_replay.specs.Places.{call_at}
use Rattle.bus_replay.specs.Replays.{IsReplayed, Replay, have_all_ended}
use Rattle.bus_replay.proofs.Entering.{bus_is, next_known, progress}

-- Whether all have ended. --

-- one that has ended stands so
pub ended_is : (standing : Standing) → has_ended standing ≡ true → standing ≡ Ended
ended_is Active is = absurd (true≢false (sym is))
ended_is (Waiting pipe) is = absurd (true≢false (sym is))
ended_is Ended is = refl

pub going_is : (standing : Standing) → has_ended standing ≡ false → standing ≢ Ended
going_is standing going ended = true≢false (sym (ap has_ended ended) ∙ going)

not_ended : (standing : Standing) → standing ≢ Ended → has_ended standing ≡ false
not_ended Active going = refl
not_ended (Waiting pipe) going = refl
not_ended Ended going = absurd (going refl)

below : (app n : ℕ) → app ≤ suc n → (app == suc n) ≡ false → app ≤ n
below app n few apart = grind (arith, nat_tests)

all_ended : (s : State) (n app : ℕ) → have_all_ended s n ≡ true → 1 ≤ app → app ≤ n → has_ended (standing_of s app) ≡ true
all_ended s zero app all one few = absurd (omega (arith, one, few))
all_ended s (suc n) app all one few = by (has_ended (standing_of s (suc n))) refl (have_all_ended s n) refl (all_ended s n app)
  where
    by : (b : Bool) → has_ended (standing_of s (suc n)) ≡ b → (c : Bool) → have_all_ended s n ≡ c →
        (have_all_ended s n ≡ true → 1 ≤ app → app ≤ n → has_ended (standing_of s app) ≡ true) → has_ended (standing_of s app) ≡ true
    by false last c rest before = absurd (none c rest)
      where
        none : (c : Bool) → have_all_ended s n ≡ c → ⊥
        none true rest = true≢false (sym all ∙ ap (λ x. x && has_ended (standing_of s (suc n))) rest ∙ last)
        none false rest = true≢false (sym all ∙ ap (λ x. x && has_ended (standing_of s (suc n))) rest)
    by true last false rest before = absurd (true≢false (sym all ∙ ap (λ x. x && has_ended (standing_of s (suc n))) rest))
    by true last true rest before = here (app == suc n) refl
      where
        here : (b : Bool) → (app == suc n) ≡ b → has_ended (standing_of s app) ≡ true
        here true same = ap (λ a. has_ended (standing_of s a)) (eqb-true app (suc n) same) ∙ last
        here false apart = before rest one (below app n few apart)

-- one that hasn't
pub record Going (s : State) (n : ℕ) : Type 0 where
  pub app : ℕ
  pub one : 1 ≤ app
  pub few : app ≤ n
  pub going : has_ended (standing_of s app) ≡ false

one_going : (s : State) (n : ℕ) → have_all_ended s n ≡ false → Going s n
one_going s zero none = absurd (true≢false none)
one_going s (suc n) none = by (have_all_ended s n) refl (one_going s n)
  where
    by : (c : Bool) → have_all_ended s n ≡ c → (have_all_ended s n ≡ false → Going s n) → Going s (suc n)
    by true rest before = record {
      app = suc n;
      one = omega arith;
      few = omega arith;
      going = sym (ap (λ x. x && has_ended (standing_of s (suc n))) rest) ∙ none;
    }
    by false rest before = let found = before rest in record { app = found.app; one = found.one; few = omega (arith, found.few); going = found.going }

-- who may call hasn't ended
goes : (standing : Standing) (call : Call) → may_call standing call ≡ true → standing ≢ Ended
goes standing call may is = true≢false (sym may ∙ ap (λ st. may_call st call) is ∙ never call)
  where
    never : (call : Call) → may_call Ended call ≡ false
    never call = refl

-- so it is if each has, and isn't if one hasn't
pub each_ended : (s : State) (n : ℕ) → ((app : ℕ) → 1 ≤ app → app ≤ n → has_ended (standing_of s app) ≡ true) → have_all_ended s n ≡ true
each_ended s zero all = refl
each_ended s (suc n) all =
    ap (λ x. x && has_ended (standing_of s (suc n))) (each_ended s n (λ app one few. all app one (omega (arith, few)))) ∙ all (suc n) (omega arith) (omega arith)

pub one_not_ended : (s : State) (n k : ℕ) → 1 ≤ k → k ≤ n → has_ended (standing_of s k) ≡ false → have_all_ended s n ≡ false
one_not_ended s zero k one few going = absurd (omega (arith, one, few))
one_not_ended s (suc n) k one few going = by (k == suc n) refl (one_not_ended s n k one)
  where
    none : (x : Bool) → x && false ≡ false
    none true = refl
    none false = refl

    by : (b : Bool) → (k == suc n) ≡ b → (k ≤ n → has_ended (standing_of s k) ≡ false → have_all_ended s n ≡ false) → have_all_ended s (suc n) ≡ false
    by true same before =
        ap (λ x. have_all_ended s n && x) (ap (λ a. has_ended (standing_of s a)) (sym (eqb-true k (suc n) same)) ∙ going) ∙ none (have_all_ended s n)
    by false apart before = ap (λ x. x && has_ended (standing_of s (suc n))) (before (below k n few apart) going)

-- one more that has ended
pub ended_more : (s : State) (n : ℕ) → ((app : ℕ) → 1 ≤ app → app < n → has_ended (standing_of s app) ≡ true) → has_ended (standing_of s n) ≡ true → (app : ℕ) → 1 ≤ app → app < n + 1 → has_ended (standing_of s app) ≡ true
ended_more s n before last app one less = by (app == n) refl
  where
    within : (app == n) ≡ false → app < n
    within apart = grind (arith, nat_tests)

    by : (b : Bool) → (app == n) ≡ b → has_ended (standing_of s app) ≡ true
    by true same = ap (λ a. has_ended (standing_of s a)) (eqb-true app n same) ∙ last
    by false apart = before app one (within apart)

-- What that says of the run. --

module _ (history : List Entry) (r : Replay) (at : IsReplayed history r) where
  -- all that have ended made all their entries
  pub are_whole : have_all_ended r.played.whole.bus (length r.script.apps) ≡ true → IsWhole r.script history
  are_whole all app one few =
      (applications_go_on r.script app).whole (own_entries app history)
      (progress history r at app one few Ended (ended_is (standing_of r.played.whole.bus app) (all_ended r.played.whole.bus (length r.script.apps) app all one few)))

  -- one that hasn't has still one to make
  still : (app : ℕ) → 1 ≤ app → app ≤ length r.script.apps → (standing : Standing) → standing_of r.played.whole.bus app ≡ standing → has_ended standing ≡ false → ¬ IsWhole r.script history
  still app one few Active is going whole =
      (applications_go_on r.script app).missing (own_entries app history) Active (running_from r.script app (place_after r.script app history))
      (progress history r at app one few Active is) (whole app one few)
  still app one few (Waiting pipe) is going whole =
      (applications_go_on r.script app).missing (own_entries app history) (Waiting pipe) (running_from r.script app (place_after r.script app history))
      (progress history r at app one few (Waiting pipe) is) (whole app one few)
  still app one few Ended is going whole = true≢false going

  pub one_missing : have_all_ended r.played.whole.bus (length r.script.apps) ≡ false → ¬ IsWhole r.script history
  one_missing none whole =
      let found = one_going r.played.whole.bus (length r.script.apps) none in
      still found.app found.one found.few (standing_of r.played.whole.bus found.app) refl found.going whole

  -- so has this one
  pub this_missing : (app : ℕ) → 1 ≤ app → app ≤ length r.script.apps → standing_of r.played.whole.bus app ≢ Ended → ¬ IsWhole r.script history
  this_missing app one few going whole =
      still app one few (standing_of r.played.whole.bus app) refl (not_ended (standing_of r.played.whole.bus app) going) whole

  -- who makes the next entry hasn't ended
  pub next_going : (e : Entry) → IsBegun r.script (history ++ e ∷ []) → standing_of r.played.whole.bus e.app ≢ Ended
  next_going e begun =
      goes (standing_of r.played.whole.bus e.app) e.call
      (ap (λ (s : State). may_call (standing_of s e.app) e.call) (bus_is history r at)
      ∙ (legal_last r.script.limits (length r.script.apps) [] (opening r.script.limits (length r.script.apps)) history e begun.legal).0)

  -- if each whose number the text begins with has ended, it begins with the line of no next entry
  pub nobodys : (text : List ℕ) →
      ((app : ℕ) → 1 ≤ app → app ≤ length r.script.apps → Begins text (entry_head (r.entries + 1) app) → standing_of r.played.whole.bus app ≡ Ended) →
      (e : Entry) → IsBegun r.script (history ++ e ∷ []) → ¬ Begins text (entry_head (length history + 1) e.app)
  nobodys text ended e begun begins =
      let range = app_range r.script history e [] begun in
      next_going e begun (ended e.app range.0 range.1 (subst (λ n. Begins text (entry_head (n + 1) e.app)) (sym at.entries) begins))

  -- nor if the one whose number it begins with can't make its call, or makes no entry by it
  pub can_not : (text : List ℕ) (app : ℕ) (call : Call) → ((other : ℕ) → other ≤ length r.script.apps → Begins text (entry_head (r.entries + 1) other) → other ≡ app) →
      call_at (standing_of r.played.whole.bus app) (lines_of r.script app) (place_after r.script app history) ≡ Some call →
      ((makes_entry call ((act r.played.limits r.played.whole app call).0) ≡ true) → (brings r.played.whole.bus.unsent app call ≡ true) → ⊥) →
      (e : Entry) → IsBegun r.script (history ++ e ∷ []) → ¬ Begins text (entry_head (length history + 1) e.app)
  can_not text app call only comes never e begun begins =
      let range = app_range r.script history e [] begun in
      let same : e.app ≡ app = only e.app range.1 (subst (λ n. Begins text (entry_head (n + 1) e.app)) (sym at.entries) begins) in
      let known =
      next_known history r at e call begun range.0 range.1
      (ap (λ a. call_at (standing_of r.played.whole.bus a) (lines_of r.script a) (place_after r.script a history)) same ∙ comes) in
      never (ap (λ a. makes_entry call ((act r.played.limits r.played.whole a call).0)) (sym same) ∙ known.0) (ap (λ a. brings r.played.whole.bus.unsent a call) (sym same) ∙ known.1)
