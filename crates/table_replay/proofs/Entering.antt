-- A replay behind one more entry.
use Rattle.std.proofs.Common.{◌≡◌, ℕ, ◌+◌, ◌-◌, ◌≤◌, ◌==◌, arith, Bool, true, false, not, true≢false, eqb-true, List, [], ◌∷◌, ◌++◌, length, set, get_or, Some, refl, ap, sym, ◌∙◌, subst, length-append}
use Rattle.std.specs.Prelude.{slice_get}
use Rattle.std.proofs.lemmas.Option.{get_or_from_slice_get}
use Rattle.tbl_words.specs.declared.history.Entry.{Entry}
use Rattle.tbl_words.specs.Machine.{state_after, step}
use Rattle.tbl_words.specs.Tables.{State, has_ended}
use Rattle.tbl_words.specs.Uses.{greater_of, peak_after, use_of}
use Rattle.tbl_words.proofs.Peaks.{peaks_go_on}
use Rattle.script_runs.specs.TableTrace.{own_table_entries}
use Rattle.run_check.specs.Begun.{AreBegunTables}
use Rattle.run_check.specs.Places.{lines_of}
use Rattle.run_check.specs.TablePlaces.{TablePlace, first_table_place, left_at_tables, running_at_tables, settled_at_tables, table_place_after}
use Rattle.run_check.specs.TableProgress.{IsAtTables}
use Rattle.run_check.proofs.TableGoesOn.{table_places_go_on}
use Rattle.run_check.proofs.TableProgress.{next_table_calls_may_come}
use Rattle.table_replay.specs.Places.{call_at}
use Rattle.table_replay.specs.Replays.{IsReplayed, Replay, settled}
use Rattle.replay_parts.proofs.Lists.{get_set, get_set_other}
use Rattle.table_replay.proofs.Behind.{place_other, place_own, same_number, state_then}
use Rattle.table_replay.proofs.Nexts.{next_is}

-- the entry of an application that hasn't ended, with the call that comes next and the machine's answer, may come next
pub may_come : (history : List Entry) (r : Replay) (e : Entry) → IsReplayed history r → 1 ≤ e.app → e.app ≤ length r.script.apps → has_ended r.state e.app ≡ false →
    call_at (lines_of r.script e.app) (table_place_after r.script e.app history) ≡ Some e.call → e.answer ≡ (step r.limits r.state e.app e.call).0 →
    AreBegunTables r.script (history ++ e ∷ [])
may_come history r e at one few going comes answered =
    next_table_calls_may_come r.script history e (Some (running_at_tables r.script e.app p)) at.begun one few progress (next_is r.script e.app p ∙ comes)
    (record { may = ap not still; answer = answered ∙ ap (λ l. (step l r.state e.app e.call).0) at.limits ∙ ap (λ s. (step r.script.limits s e.app e.call).0) at.state })
  where
    p : TablePlace
    p = table_place_after r.script e.app history

    s : State
    s = state_after r.script.limits (length r.script.apps) history

    still : has_ended s e.app ≡ false
    still = ap (λ t. has_ended t e.app) (sym at.state) ∙ going

    progress : IsAtTables r.script e.app (own_table_entries e.app history) (Some (running_at_tables r.script e.app p))
    progress =
        subst (λ (b : Bool). IsAtTables r.script e.app (own_table_entries e.app history) (left_at_tables r.script e.app b p)) still
        (table_places_go_on r.script history e.app at.begun one few)

-- what the replay is behind it
pub entered : (history : List Entry) (r now : Replay) (e : Entry) → IsReplayed history r → AreBegunTables r.script (history ++ e ∷ []) →
    now ≡ settled (record r { state = (step r.limits r.state e.app e.call).1 }) (r.entries + 1) e → 1 ≤ e.app → e.app ≤ length r.script.apps →
    IsReplayed (history ++ e ∷ []) now
entered history r now e at begun is one few =
    let P : Replay → Type 0 = IsReplayed (history ++ e ∷ []) in
    subst P (sym is) (record {
      begun = begun;
      limits = at.limits;
      state = then;
      peak = ap (λ u. greater_of u (use_of r.limits ((step r.limits r.state e.app e.call).1))) at.peak
          ∙ ap (λ l. greater_of (peak_after r.script.limits (length r.script.apps) history) (use_of l ((step r.limits r.state e.app e.call).1))) at.limits
          ∙ ap (λ s. greater_of (peak_after r.script.limits (length r.script.apps) history) (use_of r.script.limits s)) then
          ∙ sym (peaks_go_on r.script.limits (length r.script.apps) history e);
      entries = ap (λ n. n + 1) at.entries ∙ sym (length-append history (e ∷ []));
      places = λ app first last. placed app first last (e.app == app) refl;
    })
  where
    t : State
    t = (step r.limits r.state e.app e.call).1

    stepped : t ≡ (step r.script.limits (state_after r.script.limits (length r.script.apps) history) e.app e.call).1
    stepped = ap (λ l. (step l r.state e.app e.call).1) at.limits ∙ ap (λ s. (step r.script.limits s e.app e.call).1) at.state

    then : t ≡ state_after r.script.limits (length r.script.apps) (history ++ e ∷ [])
    then = stepped ∙ sym (state_then r.script history e)

    p : TablePlace
    p = table_place_after r.script e.app history

    there : get_or r.places (e.app - 1) first_table_place ≡ p
    there = get_or_from_slice_get r.places (e.app - 1) p first_table_place (at.places e.app one few)

    gone : TablePlace → TablePlace
    gone q = settled_at_tables e.app t (lines_of r.script e.app) e.call e.answer q

    own : gone (get_or r.places (e.app - 1) first_table_place) ≡ table_place_after r.script e.app (history ++ e ∷ [])
    own =
        ap gone there
        ∙ ap (λ s. settled_at_tables e.app s (lines_of r.script e.app) e.call e.answer p) stepped
        ∙ sym (place_own r.script history e)

    places : List TablePlace
    places = set r.places (e.app - 1) (gone (get_or r.places (e.app - 1) first_table_place))

    placed : (app : ℕ) → 1 ≤ app → app ≤ length r.script.apps → (b : Bool) → (e.app == app) ≡ b →
        slice_get places (app - 1) ≡ Some (table_place_after r.script app (history ++ e ∷ []))
    placed app first last true mine =
        let P : ℕ → Type 0 = λ a. slice_get places (a - 1) ≡ Some (table_place_after r.script a (history ++ e ∷ [])) in
        subst P (eqb-true e.app app mine)
        (get_set r.places (e.app - 1) (gone (get_or r.places (e.app - 1) first_table_place)) p (at.places e.app one few) ∙ ap Some own)
    placed app first last false apart =
        get_set_other r.places (e.app - 1) (app - 1) (gone (get_or r.places (e.app - 1) first_table_place)) (λ same. differ app first apart (omega (arith, same, one, first)))
        ∙ at.places app first last
        ∙ ap Some (sym (place_other r.script app history e apart))
      where
        differ : (a : ℕ) → 1 ≤ a → (e.app == a) ≡ false → e.app ≡ a → ⊥
        differ a some isnt same = true≢false (sym (same_number e.app) ∙ ap (λ n. e.app == n) same ∙ isnt)
