-- If no entry of the tables comes next.
use Rattle.std.proofs.Common.{◌≡◌, ℕ, zero, suc, ◌+◌, ◌<◌, ◌≤◌, ◌==◌, ◌&&◌, arith, Bool, true, false, true≢false, eqb-true, List, [], ◌∷◌, ◌++◌, length, refl, ap, sym, ◌∙◌, subst}
use Rattle.std.proofs.lemmas.Bool.Decides.{nat_tests}
use Rattle.tbl_words.specs.declared.history.Entry.{Entry}
use Rattle.tbl_words.specs.Machine.{state_after}
use Rattle.tbl_words.specs.Tables.{State, has_ended, opening}
use Rattle.tbl_words.proofs.Ends.{goes}
use Rattle.script_runs.specs.TableTrace.{own_table_entries}
use Rattle.run_check.specs.Begun.{AreBegunTables, AreWholeTables}
use Rattle.run_check.specs.Judged.{Begins, entry_head}
use Rattle.run_check.specs.TablePlaces.{left_at_tables, running_at_tables, table_place_after}
use Rattle.run_check.specs.TableProgress.{IsAtTables}
use Rattle.run_check.proofs.TableEntries.{table_app_range}
use Rattle.run_check.proofs.TableGoesOn.{table_places_go_on}
use Rattle.run_check.proofs.TableProgress.{applications_go_on_at_tables, legal_last}
use Rattle.table_replay.specs.Replays.{IsReplayed, Replay, have_all_ended}

-- Whether all have ended. --

below : (app n : ℕ) → app ≤ suc n → (app == suc n) ≡ false → app ≤ n
below app n few apart = grind (arith, nat_tests)

all_ended : (s : State) (n app : ℕ) → have_all_ended s n ≡ true → 1 ≤ app → app ≤ n → has_ended s app ≡ true
all_ended s zero app all one few = absurd (omega (arith, one, few))
all_ended s (suc n) app all one few = by (has_ended s (suc n)) refl (have_all_ended s n) refl (all_ended s n app)
  where
    by : (b : Bool) → has_ended s (suc n) ≡ b → (c : Bool) → have_all_ended s n ≡ c → (have_all_ended s n ≡ true → 1 ≤ app → app ≤ n → has_ended s app ≡ true) → has_ended s app ≡ true
    by false last c rest before = absurd (none c rest)
      where
        none : (c : Bool) → have_all_ended s n ≡ c → ⊥
        none true rest = true≢false (sym all ∙ ap (λ x. x && has_ended s (suc n)) rest ∙ last)
        none false rest = true≢false (sym all ∙ ap (λ x. x && has_ended s (suc n)) rest)
    by true last false rest before = absurd (true≢false (sym all ∙ ap (λ x. x && has_ended s (suc n)) rest))
    by true last true rest before = here (app == suc n) refl
      where
        here : (b : Bool) → (app == suc n) ≡ b → has_ended s app ≡ true
        here true same = ap (λ a. has_ended s a) (eqb-true app (suc n) same) ∙ last
        here false apart = before rest one (below app n few apart)

-- one that hasn't
pub record Going (s : State) (n : ℕ) : Type 0 where
  pub app : ℕ
  pub one : 1 ≤ app
  pub few : app ≤ n
  pub going : has_ended s app ≡ false

one_going : (s : State) (n : ℕ) → have_all_ended s n ≡ false → Going s n
one_going s zero none = absurd (true≢false none)
one_going s (suc n) none = by (have_all_ended s n) refl (one_going s n)
  where
    by : (c : Bool) → have_all_ended s n ≡ c → (have_all_ended s n ≡ false → Going s n) → Going s (suc n)
    by true rest before = record { app = suc n; one = omega arith; few = omega arith; going = sym (ap (λ x. x && has_ended s (suc n)) rest) ∙ none }
    by false rest before = let found = before rest in record { app = found.app; one = found.one; few = omega (arith, found.few); going = found.going }

-- so it is if each has, and isn't if one hasn't
pub each_ended : (s : State) (n : ℕ) → ((app : ℕ) → 1 ≤ app → app ≤ n → has_ended s app ≡ true) → have_all_ended s n ≡ true
each_ended s zero all = refl
each_ended s (suc n) all =
    ap (λ x. x && has_ended s (suc n)) (each_ended s n (λ app one few. all app one (omega (arith, few)))) ∙ all (suc n) (omega arith) (omega arith)

pub one_not_ended : (s : State) (n k : ℕ) → 1 ≤ k → k ≤ n → has_ended s k ≡ false → have_all_ended s n ≡ false
one_not_ended s zero k one few going = absurd (omega (arith, one, few))
one_not_ended s (suc n) k one few going = by (k == suc n) refl (one_not_ended s n k one)
  where
    none : (x : Bool) → x && false ≡ false
    none true = refl
    none false = refl

    by : (b : Bool) → (k == suc n) ≡ b → (k ≤ n → has_ended s k ≡ false → have_all_ended s n ≡ false) → have_all_ended s (suc n) ≡ false
    by true same before =
        ap (λ x. have_all_ended s n && x) (ap (λ a. has_ended s a) (sym (eqb-true k (suc n) same)) ∙ going) ∙ none (have_all_ended s n)
    by false apart before = ap (λ x. x && has_ended s (suc n)) (before (below k n few apart) going)

-- one more that has ended
pub ended_more : (s : State) (n : ℕ) → ((app : ℕ) → 1 ≤ app → app < n → has_ended s app ≡ true) → has_ended s n ≡ true → (app : ℕ) → 1 ≤ app → app < n + 1 → has_ended s app ≡ true
ended_more s n before last app one less = by (app == n) refl
  where
    within : (app == n) ≡ false → app < n
    within apart = grind (arith, nat_tests)

    by : (b : Bool) → (app == n) ≡ b → has_ended s app ≡ true
    by true same = ap (λ a. has_ended s a) (eqb-true app n same) ∙ last
    by false apart = before app one (within apart)

-- What that says of the run. --

module _ (history : List Entry) (r : Replay) (at : IsReplayed history r) where
  abbrev s : State
  s = state_after r.script.limits (length r.script.apps) history

  there : (app : ℕ) (b : Bool) → 1 ≤ app → app ≤ length r.script.apps → has_ended r.state app ≡ b →
      IsAtTables r.script app (own_table_entries app history) (left_at_tables r.script app b (table_place_after r.script app history))
  there app b one few is =
      subst (λ (b : Bool). IsAtTables r.script app (own_table_entries app history) (left_at_tables r.script app b (table_place_after r.script app history)))
      (ap (λ t. has_ended t app) (sym at.state) ∙ is)
      (table_places_go_on r.script history app at.begun one few)

  -- all that have ended made all their entries
  pub are_whole : have_all_ended r.state (length r.script.apps) ≡ true → AreWholeTables r.script history
  are_whole all app one few =
      (applications_go_on_at_tables r.script app).whole (own_table_entries app history)
      (there app true one few (all_ended r.state (length r.script.apps) app all one few))

  -- one that hasn't has still one to make
  pub one_missing : have_all_ended r.state (length r.script.apps) ≡ false → ¬ AreWholeTables r.script history
  one_missing none whole =
      let found = one_going r.state (length r.script.apps) none in
      (applications_go_on_at_tables r.script found.app).missing (own_table_entries found.app history)
      (running_at_tables r.script found.app (table_place_after r.script found.app history)) (there found.app false found.one found.few found.going)
      (whole found.app found.one found.few)

  -- who makes the next entry hasn't ended
  next_going : (e : Entry) → AreBegunTables r.script (history ++ e ∷ []) → has_ended r.state e.app ≡ false
  next_going e begun =
      ap (λ t. has_ended t e.app) at.state
      ∙ goes s e.app (legal_last r.script.limits (opening r.script.limits (length r.script.apps)) history e begun.legal).0

  -- if a text begins with the number of none that hasn't ended, it begins with the line of no next entry
  pub nobodys : (text : List ℕ) →
      ((app : ℕ) → 1 ≤ app → app ≤ length r.script.apps → has_ended r.state app ≡ false → ¬ Begins text (entry_head (r.entries + 1) app)) →
      (e : Entry) → AreBegunTables r.script (history ++ e ∷ []) → ¬ Begins text (entry_head (length history + 1) e.app)
  nobodys text none e begun begins =
      let range = table_app_range r.script history e [] begun in
      none e.app range.0 range.1 (next_going e begun)
      (subst (λ n. Begins text (entry_head (n + 1) e.app)) (sym at.entries) begins)
