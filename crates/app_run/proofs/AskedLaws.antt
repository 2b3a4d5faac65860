-- The sizes that lines ask for bound the buffers that registers name.
use Rattle.std.proofs.Common.{◌≡◌, ℕ, zero, suc, ◌+◌, ◌≤◌, ◌<◌, ◌==◌, Bool, true, false, cond, true≢false, eqb-true, eq-eqb, ne_eqb, inl, inr, List, [], ◌∷◌, length, replicate, slice_index, slice_set, Option, Some, None, refl, ap, sym, ◌∙◌, subst, arith}
use Rattle.std.specs.Option.{option_map_or}
use Rattle.std.proofs.lemmas.Bool.{cases_lt}
use Rattle.std.proofs.lemmas.List.{length-set, length-replicate}
use Rattle.ccsds_msg.specs.Message.{message_id}
use Rattle.fsw_base.specs.Limits.{Limits}
use Rattle.bus_words.specs.declared.history.Call.{Call}
use Rattle.bus_words.specs.declared.history.Call.TheVariants as calls
use Rattle.bus_words.specs.declared.history.Entry.{Entry}
use Rattle.bus_words.specs.Bus.{State, Sending, Subscription, route}
use Rattle.bus_words.specs.Refusals.{Refusal, OfBus, OfPools, OfEvents}
use Rattle.bus_words.specs.Machine.{step, cause, decided, buffer_gone, passed_along}
use Rattle.bus_words.proofs.Steps.{after_step}
use Rattle.script_lines.specs.declared.line.Line.{Line}
use Rattle.script_lines.specs.declared.line.Line.TheVariants as lines
use Rattle.script_settings.specs.Accounts.{sizes_after}
use Rattle.script_runs.specs.LineCalls.{line_call_of}
use Rattle.script_runs.specs.Trace.{Registers, number_of, call_of, registers_after}
use Rattle.script_runs.specs.Written.{Written, bytes_in, with_buffer, written_after}
use Rattle.app_run.specs.Lines.{AreAsked}

-- Numbers given. --

-- no step takes a number back
pub given-step : (limits : Limits) (history : List Entry) (s : State) (app : ℕ) (call : Call) → s.numbers_given ≤ ((step limits history s app call).1).numbers_given
given-step limits history s app call =
    after_step (λ t. s.numbers_given ≤ t.numbers_given) limits history s app call (record {
      same = omega arith;
      creates = λ depth name none. omega arith;
      subscribes = λ id pipe limit scope none other. omega arith;
      sends = λ sending id who number room. omega (arith, number);
      receives = λ pipe. omega arith;
      deletes = λ pipe none. omega arith;
      sets = λ pipe bits none. omega arith;
      unsubscribes = λ id pipe none. omega arith;
      stands = λ pipe standing going. omega arith;
      ends = omega arith;
      pools = λ next follows. omega arith;
      allocates = λ size none. omega arith;
      leaves = λ buf has. omega arith;
      records = λ t desk statistics is. is;
      passes = λ sending id who has asked. omega arith;
    })

-- Registers. --

set-here : (xs : List ℕ) (i x : ℕ) → i < length xs → slice_index (slice_set xs i x) i ≡ x
set-here [] i x there = absurd (omega (arith, there))
set-here (y ∷ xs) zero x there = refl
set-here (y ∷ xs) (suc i) x there = set-here xs i x (omega (arith, there))

set-other : (xs : List ℕ) (i j x : ℕ) → (i ≡ j → ⊥) → slice_index (slice_set xs i x) j ≡ slice_index xs j
set-other [] i j x other = refl
set-other (y ∷ xs) zero zero x other = absurd (other refl)
set-other (y ∷ xs) zero (suc j) x other = refl
set-other (y ∷ xs) (suc i) zero x other = refl
set-other (y ∷ xs) (suc i) (suc j) x other = set-other xs i j x (λ same. other (ap suc same))

set-beyond : (xs : List ℕ) (i j x : ℕ) → length xs ≤ i → slice_index (slice_set xs i x) j ≡ slice_index xs j
set-beyond [] i j x beyond = refl
set-beyond (y ∷ xs) zero j x beyond = absurd (omega (arith, beyond))
set-beyond (y ∷ xs) (suc i) zero x beyond = refl
set-beyond (y ∷ xs) (suc i) (suc j) x beyond = set-beyond xs i j x (omega (arith, beyond))

-- what holds of both values at a place of two lists, once one is set in each at the same place
both-set : (P : ℕ → ℕ → Type 0) (xs ys : List ℕ) (i x y : ℕ) → length ys ≡ length xs → ((j : ℕ) → P (slice_index xs j) (slice_index ys j)) → P x y → (j : ℕ) →
    P (slice_index (slice_set xs i x) j) (slice_index (slice_set ys i y) j)
both-set P xs ys i x y alike each here j =
    elim (j == i) as (λ b. (j == i) ≡ b → P (slice_index (slice_set xs i x) j) (slice_index (slice_set ys i y) j)) [
      | true ↦ λ is. subst (λ k. P (slice_index (slice_set xs i x) k) (slice_index (slice_set ys i y) k)) (sym (eqb-true j i is)) at
      | false ↦ λ differ.
          let other : i ≡ j → ⊥ = λ same. true≢false (sym (eq-eqb j i (sym same)) ∙ differ) in
          subst (λ n. P n (slice_index (slice_set ys i y) j)) (sym (set-other xs i j x other)) (subst (λ n. P (slice_index xs j) n) (sym (set-other ys i j y other)) (each j))
    ] refl
  where
    at : P (slice_index (slice_set xs i x) i) (slice_index (slice_set ys i y) i)
    at = elim (cases_lt i (length xs)) [
      | inl there ↦ subst (λ n. P n (slice_index (slice_set ys i y) i)) (sym (set-here xs i x there)) (subst (λ n. P x n) (sym (set-here ys i y (omega (arith, there, alike)))) here)
      | inr beyond ↦ subst (λ n. P n (slice_index (slice_set ys i y) i)) (sym (set-beyond xs i i x beyond))
          (subst (λ n. P (slice_index xs i) n) (sym (set-beyond ys i i y (omega (arith, beyond, alike)))) (each i))
    ]

-- Changes. --

-- fewer bytes, and more numbers given
pub asked-fewer : (registers asked : List ℕ) (written after : Written) (given now : ℕ) → AreAsked registers written given asked → given ≤ now →
    ((number : ℕ) → length (bytes_in after number) ≤ length (bytes_in written number)) → after 0 ≡ None → AreAsked registers after now asked
asked-fewer registers asked written after given now are more fewer none = record {
  alike = are.alike;
  sizes = λ register. omega (arith, are.sizes register, fewer (slice_index registers register));
  numbers = λ register. omega (arith, are.numbers register, more);
  none = none;
}

-- the same bytes
pub asked-more : (registers asked : List ℕ) (written : Written) (given now : ℕ) → AreAsked registers written given asked → given ≤ now → AreAsked registers written now asked
asked-more registers asked written given now are more = asked-fewer registers asked written written given now are more (λ number. omega arith) are.none

-- without a buffer
asked-gone : (registers asked : List ℕ) (written : Written) (buf given now : ℕ) → AreAsked registers written given asked → given ≤ now → AreAsked registers (with_buffer written buf None) now asked
asked-gone registers asked written buf given now are more =
    asked-fewer registers asked written (with_buffer written buf None) given now are more
    (λ number. elim (buf == number) as (λ b. length (option_map_or (λ bytes. bytes) (cond {A = Option (List ℕ)} b None (written number)) []) ≤ length (bytes_in written number)) [
      | true ↦ omega arith
      | false ↦ omega arith
    ])
    (elim (buf == 0) as (λ b. cond {A = Option (List ℕ)} b None (written 0) ≡ None) [ true ↦ refl | false ↦ are.none ])

-- a register that was set to 0
asked-refused : (registers asked : List ℕ) (written : Written) (given now buf size : ℕ) → AreAsked registers written given asked → given ≤ now →
    AreAsked (slice_set registers buf 0) written now (slice_set asked buf size)
asked-refused registers asked written given now buf size are more =
    let each = both-set (λ number most. (length (bytes_in written number) ≤ most) × (number ≤ now)) registers asked buf 0 size are.alike
    (λ register. (are.sizes register, omega (arith, are.numbers register, more)))
    (subst (λ found. length (option_map_or (λ bytes. bytes) found []) ≤ size) (sym are.none) (omega arith), omega arith) in
    record {
      alike = length-set asked buf size ∙ are.alike ∙ sym (length-set registers buf 0);
      sizes = λ register. (each register).0;
      numbers = λ register. (each register).1;
      none = are.none;
    }

-- a buffer in a register
asked-given : (registers asked : List ℕ) (written : Written) (given buf size : ℕ) → AreAsked registers written given asked →
    AreAsked (slice_set registers buf (given + 1)) (with_buffer written (given + 1) (Some (replicate size 0))) (given + 1) (slice_set asked buf size)
asked-given registers asked written given buf size are =
    let after = with_buffer written (given + 1) (Some (replicate size 0)) in
    let each = both-set (λ number most. (length (bytes_in after number) ≤ most) × (number ≤ given + 1)) registers asked buf (given + 1) size are.alike
    (λ register. (
      subst (λ b. length (option_map_or (λ bytes. bytes) (cond {A = Option (List ℕ)} b (Some (replicate size 0)) (written (slice_index registers register))) []) ≤ slice_index asked register)
          (sym (ne_eqb (given + 1) (slice_index registers register) (λ same. omega (arith, same, are.numbers register)))) (are.sizes register),
      omega (arith, are.numbers register),
    )) (
      subst (λ b. length (option_map_or (λ bytes. bytes) (cond {A = Option (List ℕ)} b (Some (replicate size 0)) (written (given + 1))) []) ≤ size)
          (sym (eq-eqb (given + 1) (given + 1) refl)) (omega (arith, length-replicate {A = ℕ} size 0)),
      omega arith,
    ) in
    record {
      alike = length-set asked buf size ∙ are.alike ∙ sym (length-set registers buf (given + 1));
      sizes = λ register. (each register).0;
      numbers = λ register. (each register).1;
      none = ap (λ b. cond {A = Option (List ℕ)} b (Some (replicate size 0)) (written 0)) (ne_eqb (given + 1) 0 (λ same. omega (arith, same))) ∙ are.none;
    }

-- Lines. --

-- what the answer to a line's call leaves
abbrev pub AskedLine : Limits → List Entry → State → ℕ → Registers → Written → List ℕ → Line → Option Call → Type 0
AskedLine limits history s app registers written asked line None = Unit {0}
AskedLine limits history s app registers written asked line (Some call) =
    AreAsked (registers_after registers line (step limits history s app call).0).buffers (written_after written call (step limits history s app call).0)
    ((step limits history s app call).1).numbers_given (sizes_after asked line)

asked-alloc : (limits : Limits) (history : List Entry) (s : State) (app : ℕ) (registers asked : List ℕ) (written : Written) (buf size : ℕ) (why : Option Refusal) →
    AreAsked registers written s.numbers_given asked →
    AreAsked (slice_set registers buf (number_of (decided limits history s app (calls.Allocate size) why).0))
    (written_after written (calls.Allocate size) (decided limits history s app (calls.Allocate size) why).0)
    ((decided limits history s app (calls.Allocate size) why).1).numbers_given (slice_set asked buf size)
asked-alloc limits history s app registers asked written buf size (Some (OfBus status)) are = asked-refused registers asked written s.numbers_given s.numbers_given buf size are (omega arith)
asked-alloc limits history s app registers asked written buf size (Some (OfPools status)) are = asked-refused registers asked written s.numbers_given s.numbers_given buf size are (omega arith)
asked-alloc limits history s app registers asked written buf size (Some (OfEvents status)) are = asked-refused registers asked written s.numbers_given s.numbers_given buf size are (omega arith)
asked-alloc limits history s app registers asked written buf size None are = asked-given registers asked written s.numbers_given buf size are

asked-passed : (registers asked : List ℕ) (written : Written) (buf : ℕ) (bytes : List ℕ) (inc : Bool) (subs : List Subscription) (sending : Sending) (s : State) →
    AreAsked registers (with_buffer written buf None) s.numbers_given asked →
    AreAsked registers (written_after written (calls.TransmitBuffer buf bytes inc) (passed_along subs sending s).0) ((passed_along subs sending s).1).numbers_given asked
asked-passed registers asked written buf bytes inc [] sending s are = are
asked-passed registers asked written buf bytes inc (sub ∷ subs) sending s are = are

asked-xmit : (limits : Limits) (history : List Entry) (s : State) (app : ℕ) (registers asked : List ℕ) (written : Written) (buf : ℕ) (bytes : List ℕ) (inc : Bool) (why : Option Refusal) →
    AreAsked registers written s.numbers_given asked →
    AreAsked registers (written_after written (calls.TransmitBuffer buf bytes inc) (decided limits history s app (calls.TransmitBuffer buf bytes inc) why).0)
    ((decided limits history s app (calls.TransmitBuffer buf bytes inc) why).1).numbers_given asked
asked-xmit limits history s app registers asked written buf bytes inc (Some (OfBus status)) are = are
asked-xmit limits history s app registers asked written buf bytes inc (Some (OfPools status)) are = are
asked-xmit limits history s app registers asked written buf bytes inc (Some (OfEvents status)) are = are
asked-xmit limits history s app registers asked written buf bytes inc None are =
    asked-passed registers asked written buf bytes inc (route s.subscriptions (message_id bytes)) _ (buffer_gone s app buf)
    (asked-gone registers asked written buf s.numbers_given s.numbers_given are (omega arith))

asked-release : (limits : Limits) (history : List Entry) (s : State) (app : ℕ) (registers asked : List ℕ) (written : Written) (buf : ℕ) (why : Option Refusal) →
    AreAsked registers written s.numbers_given asked →
    AreAsked registers (written_after written (calls.Release buf) (decided limits history s app (calls.Release buf) why).0)
    ((decided limits history s app (calls.Release buf) why).1).numbers_given asked
asked-release limits history s app registers asked written buf (Some (OfBus status)) are = are
asked-release limits history s app registers asked written buf (Some (OfPools status)) are = are
asked-release limits history s app registers asked written buf (Some (OfEvents status)) are = are
asked-release limits history s app registers asked written buf None are = asked-gone registers asked written buf s.numbers_given s.numbers_given are (omega arith)

-- after a line's call
pub asked-line : (limits : Limits) (history : List Entry) (s : State) (app : ℕ) (registers : Registers) (written : Written) (asked : List ℕ) (line : Line) →
    AreAsked registers.buffers written s.numbers_given asked → AskedLine limits history s app registers written asked line (call_of registers written line)
unfolding call_of line_call_of registers_after sizes_after
asked-line limits history s app registers written asked (lines.Create pipe depth name) are =
    asked-more registers.buffers asked written _ _ are (given-step limits history s app (calls.Create depth name))
asked-line limits history s app registers written asked (lines.Delete pipe) are = asked-more registers.buffers asked written _ _ are (given-step limits history s app (calls.Delete _))
asked-line limits history s app registers written asked (lines.SetOpts pipe bits) are = asked-more registers.buffers asked written _ _ are (given-step limits history s app (calls.SetOpts _ bits))
asked-line limits history s app registers written asked (lines.GetOpts pipe) are = asked-more registers.buffers asked written _ _ are (given-step limits history s app (calls.GetOpts _))
asked-line limits history s app registers written asked (lines.Find pipe name) are = asked-more registers.buffers asked written _ _ are (given-step limits history s app (calls.Find name))
asked-line limits history s app registers written asked (lines.PipeName pipe) are = asked-more registers.buffers asked written _ _ are (given-step limits history s app (calls.PipeName _))
asked-line limits history s app registers written asked (lines.Subscribe id pipe limit scope) are =
    asked-more registers.buffers asked written _ _ are (given-step limits history s app (calls.Subscribe id _ limit scope))
asked-line limits history s app registers written asked (lines.Unsubscribe id pipe) are = asked-more registers.buffers asked written _ _ are (given-step limits history s app (calls.Unsubscribe id _))
asked-line limits history s app registers written asked (lines.Send id size fill inc) are = asked-more registers.buffers asked written _ _ are (given-step limits history s app (calls.Transmit _ inc))
asked-line limits history s app registers written asked (lines.SendRaw bytes inc) are = asked-more registers.buffers asked written _ _ are (given-step limits history s app (calls.Transmit bytes inc))
asked-line limits history s app registers written asked (lines.Receive pipe) are = asked-more registers.buffers asked written _ _ are (given-step limits history s app (calls.Receive _))
asked-line limits history s app registers written asked (lines.Pend pipe) are = asked-more registers.buffers asked written _ _ are (given-step limits history s app (calls.Pend _))
asked-line limits history s app registers written asked (lines.Allocate buf size) are =
    asked-alloc limits history s app registers.buffers asked written buf size (cause limits s app (calls.Allocate size)) are
asked-line limits history s app registers written asked (lines.TransmitBuffer buf inc) are =
    let call = calls.TransmitBuffer (slice_index registers.buffers buf) (bytes_in written (slice_index registers.buffers buf)) inc in
    asked-xmit limits history s app registers.buffers asked written (slice_index registers.buffers buf) (bytes_in written (slice_index registers.buffers buf)) inc (cause limits s app call) are
asked-line limits history s app registers written asked (lines.Release buf) are =
    asked-release limits history s app registers.buffers asked written (slice_index registers.buffers buf) (cause limits s app (calls.Release (slice_index registers.buffers buf))) are
asked-line limits history s app registers written asked (lines.PoolCreate pool bytes) are = asked-more registers.buffers asked written _ _ are (given-step limits history s app (calls.PoolCreate bytes))
asked-line limits history s app registers written asked (lines.PoolGet grant pool size) are = asked-more registers.buffers asked written _ _ are (given-step limits history s app (calls.PoolGet _ size))
asked-line limits history s app registers written asked (lines.PoolPut pool grant) are = asked-more registers.buffers asked written _ _ are (given-step limits history s app (calls.PoolPut _ _))
asked-line limits history s app registers written asked (lines.PoolFigures pool) are = asked-more registers.buffers asked written _ _ are (given-step limits history s app (calls.PoolFigures _))
asked-line limits history s app registers written asked (lines.Register filters) are = asked-more registers.buffers asked written _ _ are (given-step limits history s app (calls.Register filters))
asked-line limits history s app registers written asked (lines.SendEvent id kind text) are = asked-more registers.buffers asked written _ _ are (given-step limits history s app (calls.SendEvent id kind text))
asked-line limits history s app registers written asked (lines.ResetFilter id) are = asked-more registers.buffers asked written _ _ are (given-step limits history s app (calls.ResetFilter id))
asked-line limits history s app registers written asked (lines.LogMode mode) are = asked-more registers.buffers asked written _ _ are (given-step limits history s app (calls.LogMode mode))
asked-line limits history s app registers written asked lines.ClearLog are = asked-more registers.buffers asked written _ _ are (given-step limits history s app calls.ClearLog)
asked-line limits history s app registers written asked lines.Housekeeping are = asked-more registers.buffers asked written _ _ are (given-step limits history s app calls.Housekeeping)
asked-line limits history s app registers written asked lines.Figures are = asked-more registers.buffers asked written _ _ are (given-step limits history s app calls.Figures)
asked-line limits history s app registers written asked line are = tt
