-- What a step leaves of the unsent buffers: those of the other applications stay, and what leaves is unsent no more.
use Rattle.std.proofs.Common.{◌≡◌, ℕ, ◌-◌, ◌≤◌, ◌==◌, false, true, true≢false, eq-eqb, IsTrue, List, [], slice_set, refl, ap, sym, ◌∙◌, arith}
use Rattle.std.specs.Prelude.{count_by, filter, not}
use Rattle.std.proofs.lemmas.List.{get_or-set_other, set-set}
use Rattle.fsw_base.specs.Limits.{Limits}
use Rattle.bus_words.specs.declared.history.Call.{Call}
use Rattle.bus_words.specs.declared.history.Entry.{Entry}
use Rattle.bus_words.specs.Bus.{Buffer, State, standing_of, unsent_of, has_unsent, without_unsent, without_all_unsent}
use Rattle.bus_words.specs.Held.{is_unsent, buffers_in}
use Rattle.bus_words.specs.Machine.{step, may_call}
use Rattle.bus_words.proofs.Buffers.{of_buffer, OtherBuffer, none_unsent, not_unsent, Each-without_all, count_gone}
use Rattle.bus_words.proofs.Items.{none_counted}
use Rattle.bus_words.proofs.LegalSteps.{legal-step, caller-first}

differs : (a b : ℕ) → (a == b) ≡ false → 1 ≤ a → 1 ≤ b → b - 1 ≡ a - 1 → ⊥
differs a b other first next same = true≢false (sym (eq-eqb a b (omega (arith, same, first, next))) ∙ other)

-- a step of another leaves an application's buffers
pub unsent-other : (limits : Limits) (history : List Entry) (s : State) (who app : ℕ) (call : Call) → IsTrue (may_call (standing_of s who) call) → (app == who) ≡ false → 1 ≤ app →
    unsent_of ((step limits history s who call).1).unsent app ≡ unsent_of s.unsent app
unsent-other limits history s who app call may differ first =
    let other : (new : List Buffer) → unsent_of (slice_set s.unsent (who - 1) new) app ≡ unsent_of s.unsent app =
    λ new. get_or-set_other s.unsent (who - 1) (app - 1) new [] (λ same. differs app who differ first (caller-first s who call may) (sym same)) in
    legal-step (λ t. unsent_of t.unsent app ≡ unsent_of s.unsent app) limits history s who call may (record {
      same = refl;
      creates = λ depth name. refl;
      subscribes = λ id pipe limit scope. refl;
      sends = λ sending id. refl;
      receives = λ pipe own. refl;
      deletes = λ pipe own. refl;
      sets = λ pipe bits. refl;
      unsubscribes = λ id pipe. refl;
      waits = λ pipe own. refl;
      looks = λ pipe on. refl;
      ends = other [];
      pools = λ pools. refl;
      allocates = λ size. other _;
      leaves = λ buf. other _;
      records = λ t desk statistics is. is;
      passes = λ sending id. other _;
    })

-- If no two buffers have one number. --

-- the number of a buffer that left is no unsent buffer's any more
pub gone-unsent : (unsent : List (List Buffer)) (app n : ℕ) → count_by (of_buffer n) (buffers_in unsent) ≤ 1 → has_unsent unsent app n ≡ true →
    is_unsent (without_unsent unsent app n) n ≡ false
gone-unsent unsent app n once has =
    none_unsent (without_unsent unsent app n) n (none_counted (of_buffer n) (buffers_in (without_unsent unsent app n)) (count_gone n unsent app has once))

-- nor is it if all of the application's left
pub all_gone-unsent : (unsent : List (List Buffer)) (app n : ℕ) → count_by (of_buffer n) (buffers_in unsent) ≤ 1 → has_unsent unsent app n ≡ true →
    is_unsent (without_all_unsent unsent app) n ≡ false
all_gone-unsent unsent app n once has =
    let left = without_unsent unsent app n in
    ap (λ u. is_unsent u n) (sym (set-set unsent (app - 1) (filter (λ buffer. not (buffer.number == n)) (unsent_of unsent app)) []))
    ∙ none_unsent (without_all_unsent left app) n (Each-without_all (OtherBuffer n) left app (not_unsent left n (gone-unsent unsent app n once has)))
