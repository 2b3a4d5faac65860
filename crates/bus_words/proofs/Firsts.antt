-- Unsent buffers have numbers from 1 on, after every history.
use Rattle.std.proofs.Common.{◌≡◌, ℕ, zero, suc, ◌+◌, ◌-◌, ◌≤◌, ◌==◌, ◌||◌, not, Bool, true, false, true≢false, ne_eqb, List, [], ◌∷◌, filter, slice_index_or, slice_set, Option, is_some, refl, ap, sym, ◌∙◌, arith}
use Rattle.std.specs.List.{list_any}
use Rattle.fsw_base.specs.Limits.{Limits}
use Rattle.bus_words.specs.declared.history.Call.{Call}
use Rattle.bus_words.specs.declared.history.Entry.{Entry}
use Rattle.bus_words.specs.Bus.{Buffer, State, opening, unsent_of, has_unsent}
use Rattle.bus_words.specs.Held.{is_unsent}
use Rattle.bus_words.specs.Machine.{step}
use Rattle.bus_words.proofs.Finds.{neither, find-any, any-filter_none}
use Rattle.bus_words.proofs.Steps.{after_step}

-- no unsent buffer has the number 0
abbrev pub AreFirst : State → Type 0
AreFirst s = is_unsent s.unsent 0 ≡ false

abbrev is_zero : Buffer → Bool
is_zero buffer = buffer.number == 0

-- so none of an application's has
none_of : (unsent : List (List Buffer)) (i : ℕ) → is_unsent unsent 0 ≡ false → list_any is_zero (slice_index_or unsent i []) ≡ false
none_of [] i none = refl
none_of (buffers ∷ others) zero none = (neither (list_any is_zero buffers) (is_unsent others 0) none).0
none_of (buffers ∷ others) (suc i) none = none_of others i (neither (list_any is_zero buffers) (is_unsent others 0) none).1

none_set : (unsent : List (List Buffer)) (i : ℕ) (new : List Buffer) → is_unsent unsent 0 ≡ false → list_any is_zero new ≡ false → is_unsent (slice_set unsent i new) 0 ≡ false
none_set [] i new none fresh = refl
none_set (buffers ∷ others) zero new none fresh =
    ap (λ b. b || is_unsent others 0) fresh ∙ (neither (list_any is_zero buffers) (is_unsent others 0) none).1
none_set (buffers ∷ others) (suc i) new none fresh =
    let parts = neither (list_any is_zero buffers) (is_unsent others 0) none in
    ap (λ b. b || is_unsent (slice_set others i new) 0) parts.0 ∙ none_set others i new parts.1 fresh

pub AreFirst-step : (limits : Limits) (history : List Entry) (s : State) (app : ℕ) (call : Call) → AreFirst s → AreFirst ((step limits history s app call).1)
AreFirst-step limits history s app call first =
    after_step AreFirst limits history s app call (record {
      same = first;
      creates = λ depth name none. first;
      subscribes = λ id pipe limit scope none other. first;
      sends = λ sending id who number room. first;
      receives = λ pipe. first;
      deletes = λ pipe none. first;
      sets = λ pipe bits none. first;
      unsubscribes = λ id pipe none. first;
      stands = λ pipe standing going. first;
      ends = none_set s.unsent (app - 1) [] first refl;
      pools = λ next follows. first;
      allocates = λ size none.
          none_set s.unsent (app - 1) _ first
          (ap (λ b. b || list_any is_zero (unsent_of s.unsent app)) (ne_eqb (s.numbers_given + 1) 0 (λ is. omega (arith, is))) ∙ none_of s.unsent (app - 1) first);
      leaves = left;
      records = λ t desk statistics is. is;
      passes = λ sending id who has asked. left sending.number has;
    })
  where
    left : (buf : ℕ) → has_unsent s.unsent app buf ≡ true → is_unsent (slice_set s.unsent (app - 1) (filter (λ buffer. not (buffer.number == buf)) (unsent_of s.unsent app))) 0 ≡ false
    left buf has = none_set s.unsent (app - 1) _ first (any-filter_none is_zero (λ buffer. not (buffer.number == buf)) (unsent_of s.unsent app) (none_of s.unsent (app - 1) first))

pub AreFirst-opening : (limits : Limits) (apps : ℕ) → AreFirst (opening limits apps)
AreFirst-opening limits zero = refl
AreFirst-opening limits (suc apps) = AreFirst-opening limits apps

-- an unsent buffer of an application's own has a number from 1 on
pub first-of : (s : State) (app buf : ℕ) → AreFirst s → has_unsent s.unsent app buf ≡ true → 1 ≤ buf
first-of s app zero first has =
    absurd (true≢false (sym has ∙ ap (λ (o : Option Buffer). is_some o) (find-any is_zero (unsent_of s.unsent app) (none_of s.unsent (app - 1) first))))
first-of s app (suc buf) first has = omega arith
