-- A replay behind one more entry.
use Rattle.std.proofs.Common.{◌≡◌, ℕ, ◌+◌, ◌-◌, ◌≤◌, ◌==◌, arith, Bool, true, false, true≢false, eqb-true, List, [], ◌∷◌, ◌++◌, length, Option, Some, None, refl, ap, sym, ◌∙◌, subst, length-append}
use Rattle.std.specs.Prelude.{slice_get}
use Rattle.std.specs.Option.{option_map, option_map_or}
use Rattle.bus_words.specs.declared.calls.BusAnswer.{BusAnswer}
use Rattle.bus_words.specs.declared.history.Call.{Call}
use Rattle.bus_words.specs.declared.history.Call.TheVariants as calls
use Rattle.bus_words.specs.declared.history.Entry.{Entry}
use Rattle.bus_words.specs.Acts.{Whole, act, whole_after}
use Rattle.bus_words.specs.Bus.{State, Standing, Active, Waiting, Ended, standing_of}
use Rattle.bus_words.specs.Machine.{brings, makes_entry, may_call, state_after, step}
use Rattle.bus_words.proofs.Acts.{acts_after, whole_after-legal}
use Rattle.script_lines.specs.declared.line.Line.{Line}
use Rattle.script_runs.specs.Trace.{call_of, own_entries}
use Rattle.app_script.specs.Script.{ScriptText}
use Rattle.list_bus.specs.Played.{IsPlayed, Played}
use Rattle.run_check.specs.Begun.{IsBegun}
use Rattle.run_check.specs.Places.{Place, left_from, lines_of, place_after, settled}
use Rattle.run_check.specs.Progress.{IsAt}
use Rattle.run_check.proofs.BusGoesOn.{from_line, line_makes, places_stand}
use Rattle.run_check.proofs.Progress.{next_calls_are_known, next_calls_may_come}
use Rattle.bus_replay.specs.Places.{Kept, call_at, place_of}
use Rattle.bus_replay.specs.Replays.{IsReplayed, IsSettled, Replay}
use Rattle.bus_replay.proofs.Behind.{place_other, place_own, same_number, whole_then}
use Rattle.bus_replay.proofs.Nexts.{next_is}

-- What comes next may be called. --

line_may : (call : Call) → from_line call ≡ true → may_call Active call ≡ true
line_may (calls.Look pipe) is = absurd (true≢false (sym is))
line_may call is = refl

-- the call that comes next may be made
pub may_make : (standing : Standing) (lines : List Line) (p : Place) (call : Call) → call_at standing lines p ≡ Some call → may_call standing call ≡ true
may_make Active lines p call comes = by (slice_get lines p.place) comes
  where
    by : (o : Option Line) → option_map_or (λ line. call_of p.registers p.written line) o (Some calls.End) ≡ Some call → may_call Active call ≡ true
    by None is = let end : calls.End ≡ call = cc is in ap (λ c. may_call Active c) (sym end)
    by (Some line) is = line_may call (line_makes p.registers p.written line call is)
may_make (Waiting pipe) lines p call comes = let look : calls.Look pipe ≡ call = cc comes in ap (λ c. may_call (Waiting pipe) c) (sym look) ∙ same_number pipe
may_make Ended lines p call comes = absurd (cc comes)

module _ (history : List Entry) (r : Replay) (at : IsReplayed history r) where
  abbrev W : Whole
  W = whole_after r.script.limits (length r.script.apps) history

  abbrev S : State
  S = state_after r.script.limits (length r.script.apps) history

  -- the bus is the state after the history
  pub bus_is : r.played.whole.bus ≡ S
  bus_is = ap (λ (w : Whole). w.bus) (at.whole ∙ whole_after-legal r.script.limits (length r.script.apps) history at.begun.legal)

  -- what it does of a call is what it does after the history
  acts_same : (app : ℕ) (call : Call) → act r.played.limits r.played.whole app call ≡ act r.script.limits W app call
  acts_same app call = ap (λ l. act l r.played.whole app call) at.limits ∙ ap (λ w. act r.script.limits w app call) at.whole

  -- and what it answers, what the machine answers after the history
  pub answers : (app : ℕ) (call : Call) → (act r.played.limits r.played.whole app call).0 ≡ (step r.script.limits history S app call).0
  answers app call =
      ap (λ (m : BusAnswer × Whole). m.0) (acts_same app call ∙ acts_after r.script.limits (length r.script.apps) history app call at.begun.legal)

  -- how an application stands, and what it has still to make
  pub progress : (app : ℕ) → 1 ≤ app → app ≤ length r.script.apps → (standing : Standing) → standing_of r.played.whole.bus app ≡ standing →
      IsAt r.script app (own_entries app history) standing (left_from r.script app standing (place_after r.script app history))
  progress app one few standing is =
      subst (λ (st : Standing). IsAt r.script app (own_entries app history) st (left_from r.script app st (place_after r.script app history)))
      (ap (λ (w : Whole). standing_of w.bus app) (sym at.whole) ∙ is)
      (places_stand r.script history app at.begun one few).0

  -- the entry with the call that comes next and the machine's answer may come next, if the machine enters it
  pub may_come : (e : Entry) → 1 ≤ e.app → e.app ≤ length r.script.apps →
      call_at (standing_of r.played.whole.bus e.app) (lines_of r.script e.app) (place_after r.script e.app history) ≡ Some e.call →
      e.answer ≡ (act r.played.limits r.played.whole e.app e.call).0 → makes_entry e.call e.answer ≡ true → brings r.played.whole.bus.unsent e.app e.call ≡ true →
      IsBegun r.script (history ++ e ∷ [])
  may_come e one few comes answered entered brought =
      next_calls_may_come r.script history e standing (left_from r.script e.app standing p) at.begun one few (progress e.app one few standing refl)
      (next_is r.script e.app standing p ∙ comes)
      (record {
        may = ap (λ (s : State). may_call (standing_of s e.app) e.call) (sym bus_is) ∙ may_make standing (lines_of r.script e.app) p e.call comes;
        answer = answered ∙ answers e.app e.call;
        entered = entered;
        brought = ap (λ (s : State). brings s.unsent e.app e.call) (sym bus_is) ∙ brought;
      })
    where
      standing : Standing
      standing = standing_of r.played.whole.bus e.app

      p : Place
      p = place_after r.script e.app history

  -- an application's next entry has the call that comes next, and is answered what the bus answers
  pub next_known : (e : Entry) (call : Call) → IsBegun r.script (history ++ e ∷ []) → 1 ≤ e.app → e.app ≤ length r.script.apps →
      call_at (standing_of r.played.whole.bus e.app) (lines_of r.script e.app) (place_after r.script e.app history) ≡ Some call →
      (makes_entry call ((act r.played.limits r.played.whole e.app call).0) ≡ true) × (brings r.played.whole.bus.unsent e.app call ≡ true)
  next_known e call begun one few comes =
      let standing = standing_of r.played.whole.bus e.app in
      let p = place_after r.script e.app history in
      let known =
      next_calls_are_known r.script history e standing (left_from r.script e.app standing p) call (progress e.app one few standing refl)
      (next_is r.script e.app standing p ∙ comes) begun in (
        ap (λ (a : BusAnswer). makes_entry call a) (answers e.app call)
            ∙ ap (λ (c : Call). makes_entry c ((step r.script.limits history S e.app c).0)) (sym known.0)
            ∙ ap (λ (a : BusAnswer). makes_entry e.call a) (sym known.1.answer)
            ∙ known.1.entered,
        ap (λ (s : State). brings s.unsent e.app call) bus_is ∙ ap (λ (c : Call). brings S.unsent e.app c) (sym known.0) ∙ known.1.brought,
      )

  -- what the replay is behind it
  pub entered : (then : Played) (now : Replay) (e : Entry) → IsBegun r.script (history ++ e ∷ []) → 1 ≤ e.app → e.app ≤ length r.script.apps →
      act r.played.limits r.played.whole e.app e.call ≡ (e.answer, then.whole) → then.limits ≡ r.played.limits → IsPlayed then →
      IsSettled (record r { played = then }) now (r.entries + 1) e → IsReplayed (history ++ e ∷ []) now
  entered then now e begun one few acted limits kept is = record {
    begun = subst (λ (s : ScriptText). IsBegun s (history ++ e ∷ [])) (sym is.script) begun;
    limits = ap (λ (p : Played). p.limits) is.played ∙ limits ∙ at.limits ∙ ap (λ (s : ScriptText). s.limits) (sym is.script);
    whole = ap (λ (p : Played). p.whole) is.played ∙ whole ∙ ap (λ (s : ScriptText). whole_after s.limits (length s.apps) (history ++ e ∷ [])) (sym is.script);
    kept = subst IsPlayed (sym is.played) kept;
    entries = is.entries ∙ ap (λ n. n + 1) at.entries ∙ sym (length-append history (e ∷ []));
    places = subst (λ (s : ScriptText). (app : ℕ) → 1 ≤ app → app ≤ length s.apps → option_map place_of (slice_get now.places (app - 1)) ≡ Some (place_after s app (history ++ e ∷ [])))
        (sym is.script) (λ app first last. placed app first last (e.app == app) refl);
  }
    where
      stepped : then.whole ≡ (act r.script.limits W e.app e.call).1
      stepped = ap (λ (m : BusAnswer × Whole). m.1) (sym acted ∙ acts_same e.app e.call)

      whole : then.whole ≡ whole_after r.script.limits (length r.script.apps) (history ++ e ∷ [])
      whole = stepped ∙ sym (whole_then r.script history e)

      p : Place
      p = place_after r.script e.app history

      own : settled e.app then.whole.bus (lines_of r.script e.app) e.call e.answer p ≡ place_after r.script e.app (history ++ e ∷ [])
      own =
          ap (λ (w : Whole). settled e.app w.bus (lines_of r.script e.app) e.call e.answer p) stepped
          ∙ sym (place_own r.script history e)

      -- the one whose entry it is
      its : option_map place_of (slice_get now.places (e.app - 1)) ≡ Some (place_after r.script e.app (history ++ e ∷ []))
      its = by (slice_get r.places (e.app - 1)) refl (at.places e.app one few)
        where
          by : (o : Option Kept) → slice_get r.places (e.app - 1) ≡ o → option_map place_of (slice_get r.places (e.app - 1)) ≡ Some p →
              option_map place_of (slice_get now.places (e.app - 1)) ≡ Some (place_after r.script e.app (history ++ e ∷ []))
          by None there some = absurd (cc (sym some ∙ ap (λ (o : Option Kept). option_map place_of o) there))
          by (Some k) there some =
              let same : place_of k ≡ p = cc (sym (ap (λ (o : Option Kept). option_map place_of o) there) ∙ some) in
              is.own k there
              ∙ ap (λ (q : Place). Some (settled e.app then.whole.bus (lines_of r.script e.app) e.call e.answer q)) same
              ∙ ap Some own

      placed : (app : ℕ) → 1 ≤ app → app ≤ length r.script.apps → (b : Bool) → (e.app == app) ≡ b →
          option_map place_of (slice_get now.places (app - 1)) ≡ Some (place_after r.script app (history ++ e ∷ []))
      placed app first last true mine =
          subst (λ (a : ℕ). option_map place_of (slice_get now.places (a - 1)) ≡ Some (place_after r.script a (history ++ e ∷ []))) (eqb-true e.app app mine) its
      placed app first last false apart =
          ap (λ (o : Option Kept). option_map place_of o) (is.others (app - 1) (λ same. differ (omega (arith, same, one, first))))
          ∙ at.places app first last
          ∙ ap Some (sym (place_other r.script app history e apart))
        where
          differ : e.app ≡ app → ⊥
          differ same = true≢false (sym (same_number e.app) ∙ ap (λ n. e.app == n) same ∙ apart)
