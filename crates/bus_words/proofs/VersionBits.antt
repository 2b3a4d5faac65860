-- Option bits of pipes are bits of the bus's version, so no pipe of version 1 drops its oldest message.
use Rattle.std.proofs.Common.{◌≡◌, ℕ, zero, suc, ◌/◌, ◌%◌, ◌≤◌, ◌==◌, ◌&&◌, ◌||◌, not, Bool, true, false, cond, if◌then◌else◌, List, [], ◌∷◌, length, find, Some, None, refl, subst, arith}
use Rattle.std.specs.Prelude.{nat_le, nat_lt}
use Rattle.std.specs.List.{AllByRecursion}
use Rattle.std.specs.Option.{option_map_or}
use Rattle.fsw_base.specs.declared.statuses.SbStatus.TheVariants.{BadArgument}
use Rattle.fsw_base.specs.Limits.{Limits}
use Rattle.bus_words.specs.declared.history.Call.{Call}
use Rattle.bus_words.specs.declared.history.Entry.{Entry}
use Rattle.bus_words.specs.declared.verdict.Verdict.TheVariants.{Skip, OverLimit, In, Oldest, Full}
use Rattle.bus_words.specs.Bus.{Pipe, Subscription, State, Sending, opening, owns, all_bits, with_pipe, with_bits, route, ignores_own, waiting_of, offered, deliver, after_receive, drops}
use Rattle.bus_words.specs.Pipes.{drops_oldest, is_oldest}
use Rattle.bus_words.specs.Machine.{set_opts_cause, step, state_after}
use Rattle.bus_words.proofs.Bounds.{neither, lt-false, by_push, by_filter, all-with_pipe}
use Rattle.bus_words.proofs.Steps.{refused_if-none, after_step, state_from-keeps}

-- Bits. --

-- the pipe has bits up to these
abbrev pub HasBits : ℕ → Pipe → Type 0
HasBits most pipe = pipe.bits ≤ most

bits-deliver : (most : ℕ) (sending : Sending) (subs : List Subscription) (pipes : List Pipe) → AllByRecursion (HasBits most) pipes → AllByRecursion (HasBits most) (deliver sending subs pipes)
bits-deliver most sending [] pipes all = all
bits-deliver most sending (sub ∷ subs) pipes all =
    bits-deliver most sending subs (with_pipe (offered sending sub) sub.pipe pipes) (all-with_pipe (HasBits most) (offered sending sub) (λ pipe has. has) sub.pipe pipes all)

-- each pipe has bits of the limits' version
abbrev pub HaveBits : Limits → State → Type 0
HaveBits limits s = AllByRecursion (HasBits (all_bits limits.version)) s.pipes

bits_set : (limits : Limits) (s : State) (app pipe bits : ℕ) → set_opts_cause limits s app pipe bits ≡ None → bits ≤ all_bits limits.version
bits_set limits s app pipe bits none =
    let tests = refused_if-none (not (owns s.pipes app pipe) || nat_lt (all_bits limits.version) bits) BadArgument None none in
    lt-false (all_bits limits.version) bits (neither (not (owns s.pipes app pipe)) (nat_lt (all_bits limits.version) bits) tests.0).1

HaveBits-step : (limits : Limits) (history : List Entry) (s : State) (app : ℕ) (call : Call) → HaveBits limits s → HaveBits limits ((step limits history s app call).1)
HaveBits-step limits history s app call all =
    let most = all_bits limits.version in
    let received = λ (pipe : ℕ). all-with_pipe (HasBits most) after_receive (λ p has. has) pipe s.pipes all in
    after_step (HaveBits limits) limits history s app call (record {
      same = all;
      creates = λ depth name none. by_push (HasBits most) s.pipes _ all (omega arith);
      subscribes = λ id pipe limit scope none new. all;
      sends = λ sending id who number room. bits-deliver most sending (route s.subscriptions id) s.pipes all;
      receives = received;
      deletes = λ pipe none. by_filter (HasBits most) (λ p. not (p.number == pipe)) s.pipes all;
      sets = λ pipe bits none. all-with_pipe (HasBits most) (with_bits bits) (λ p has. bits_set limits s app pipe bits none) pipe s.pipes all;
      unsubscribes = λ id pipe none. all;
      stands = λ pipe standing going. received pipe;
      ends = by_filter (HasBits most) (λ p. not (p.owner == app)) s.pipes all;
      pools = λ next follows. all;
      allocates = λ size none. all;
      leaves = λ buf has. all;
      records = λ t desk statistics is. is;
      passes = λ sending id who has asked. bits-deliver most sending (route s.subscriptions id) s.pipes all;
    })

-- after every history each pipe has bits of the version
pub HaveBits-after : (limits : Limits) (apps : ℕ) (history : List Entry) → HaveBits limits (state_after limits apps history)
HaveBits-after limits apps history = state_from-keeps (HaveBits limits) limits (HaveBits-step limits) [] (opening limits apps) history tt

-- Drops. --

never_drops : (bits : ℕ) → bits ≤ 1 → (bits / 2 % 2 == 1) ≡ false
never_drops zero few = refl
never_drops (suc zero) few = refl
never_drops (suc (suc bits)) few = absurd (omega (arith, few))

-- no verdict is Oldest on a pipe without option bit 0x02
never_oldest : (skips over room drops : Bool) → drops ≡ false →
    cond {A = ℕ} (is_oldest (if skips then Skip else if over then OverLimit else if room then In else if drops then Oldest else Full)) 1 0 ≡ 0
never_oldest true over room drops is = refl
never_oldest false true room drops is = refl
never_oldest false false true drops is = refl
never_oldest false false false true is = absurd (cc (is))
never_oldest false false false false is = refl

none_counted : (sending : Sending) (sub : Subscription) (pipes : List Pipe) → AllByRecursion (HasBits 1) pipes → drops sending (sub ∷ []) pipes ≡ 0
none_counted sending sub pipes all = let one = at pipes all in omega (arith, one)
  where
    count : Pipe → ℕ
    count pipe = cond {A = ℕ} (is_oldest (
        if ignores_own pipe && pipe.owner == sending.sender then Skip
        else if nat_le sub.limit (waiting_of pipe sub.number) then OverLimit
        else if nat_lt (length pipe.queue) pipe.depth then In
        else if drops_oldest pipe then Oldest
        else Full)) 1 0

    at : (pipes : List Pipe) → AllByRecursion (HasBits 1) pipes → option_map_or count (find (λ (p : Pipe). p.number == sub.pipe) pipes) 0 ≡ 0
    at [] all = refl
    at (pipe ∷ pipes) all = elim (pipe.number == sub.pipe) as (λ b. option_map_or count (cond b (Some pipe) (find (λ (p : Pipe). p.number == sub.pipe) pipes)) 0 ≡ 0) [
      | true ↦ never_oldest _ _ _ (drops_oldest pipe) (never_drops pipe.bits all.0)
      | false ↦ at pipes all.1
    ]

none_dropped : (sending : Sending) (subs : List Subscription) (pipes : List Pipe) → AllByRecursion (HasBits 1) pipes → drops sending subs pipes ≡ 0
none_dropped sending [] pipes all = refl
none_dropped sending (sub ∷ subs) pipes all =
    let one = none_counted sending sub pipes all in
    let rest = none_dropped sending subs (with_pipe (offered sending sub) sub.pipe pipes) (all-with_pipe (HasBits 1) (offered sending sub) (λ pipe has. has) sub.pipe pipes all) in
    omega (arith, one, rest)

-- a bus of version 1 drops no message, whatever its history
pub none_in_version_1 : (limits : Limits) (apps : ℕ) (history : List Entry) (sending : Sending) (subs : List Subscription) → limits.version ≡ 1 →
    drops sending subs (state_after limits apps history).pipes ≡ 0
none_in_version_1 limits apps history sending subs first =
    none_dropped sending subs (state_after limits apps history).pipes
    (subst (λ version. AllByRecursion (HasBits (all_bits version)) (state_after limits apps history).pipes) first (HaveBits-after limits apps history))
