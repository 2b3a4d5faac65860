-- What an application wrote agrees with the unsent buffers that it has: the same numbers, and as many bytes as their sizes.
use Rattle.std.proofs.Common.{◌≡◌, ℕ, zero, suc, ◌+◌, ◌-◌, ◌<◌, ◌≤◌, ◌==◌, ◌&&◌, not, Bool, true, false, cond, true≢false, eqb-true, eq-eqb, IsTrue, List, [], ◌∷◌, ◌++◌, length, map, replicate, take, drop, filter, slice_index, slice_set, length-drop, length-take-le, Option, Some, None, IfSome, refl, ap, sym, ◌∙◌, subst, arith}
use Rattle.std.specs.Prelude.{nat_le, nat_lt, find}
use Rattle.std.specs.Option.{option_map, option_map_or}
use Rattle.std.specs.List.{range_with_len}
use Rattle.std.proofs.lemmas.Bool.{leb-true, ltb-false}
use Rattle.std.proofs.lemmas.List.{get_or-set_same, get_or-set_other, length-append, length-set, length-replicate}
use Rattle.std.proofs.lemmas.List.FromFn.{length-map-range_with_len}
use Rattle.ccsds_msg.specs.Message.{header_bytes, message_id}
use Rattle.ccsds_msg.proofs.MessageLemmas.{length-header_bytes}
use Rattle.fsw_base.specs.declared.statuses.SbStatus.TheVariants.{BadArgument, MsgTooBig}
use Rattle.fsw_base.specs.Limits.{Limits}
use Rattle.bus_words.specs.declared.calls.BusAnswer.{BusAnswer}
use Rattle.bus_words.specs.declared.history.Call.{Call}
use Rattle.bus_words.specs.declared.history.Call.TheVariants as calls
use Rattle.bus_words.specs.declared.history.Entry.{Entry}
use Rattle.bus_words.specs.Bus.{Buffer, State, Active, Waiting, Sending, Subscription, opening, standing_of, with_standing, is_empty, others_idle, is_subscribed, unsent_of, unsent_at, unsent_size, with_unsent, without_unsent, route}
use Rattle.bus_words.specs.Held.{buffers_in}
use Rattle.bus_words.specs.Refusals.{Refusal, OfBus, OfPools, OfEvents, refusal_answer}
use Rattle.bus_words.specs.Machine.{step, state_after, may_call, brings, cause, accept, decided, received, refused_state, allocate_cause, buffer_gone, sent_along, passed_along, packet_in}
use Rattle.bus_words.proofs.Buffers.{Each-unsent_of, Each-with_unsent, Each-without_unsent, Each-without_all}
use Rattle.bus_words.proofs.Finds.{Each, find-filter, find-filter_none, same-sym}
use Rattle.bus_words.proofs.LegalSteps.{legal-step, caller-first}
use Rattle.bus_words.proofs.Steps.{after_refusal, after_step, state_from-keeps, refused_if-none}
use Rattle.script_lines.specs.declared.line.Line.{Line}
use Rattle.script_lines.specs.declared.line.Line.TheVariants as lines
use Rattle.script_runs.specs.LineCalls.{line_call_of}
use Rattle.script_runs.specs.Messages.{fill_byte, sent_message}
use Rattle.script_runs.specs.Trace.{Registers, call_of}
use Rattle.script_runs.specs.Written.{Written, first_written, bytes_in, with_buffer, with_bytes, written_after, put_in, written_by}

-- An application has the buffers that it wrote, in their sizes, and no others.
abbrev pub AreWritten : List (List Buffer) → ℕ → Written → Type 0
AreWritten unsent app written = (number : ℕ) → option_map (λ bytes. length bytes) (written number) ≡ option_map (λ buffer. buffer.size) (unsent_at unsent app number)

-- Buffers of all applications. --

-- a buffer has room for the shortest message, and not for one that is too big
pub record IsSize (limits : Limits) (buffer : Buffer) : Type 0 where
  pub least : 7 ≤ buffer.size
  pub most : buffer.size ≤ limits.msgmax

-- each application has a list of buffers, and each buffer such a size
pub record HaveSizes (limits : Limits) (s : State) : Type 0 where
  pub all : length s.unsent ≡ length s.standings
  pub sizes : Each (IsSize limits) (buffers_in s.unsent)

allocated-size : (limits : Limits) (s : State) (size number : ℕ) → allocate_cause limits s size ≡ None → IsSize limits (record { number = number; size = size })
allocated-size limits s size number none =
    let first = refused_if-none (nat_lt size 7) BadArgument _ none in
    let second = refused_if-none (nat_lt limits.msgmax size) MsgTooBig _ first.1 in
    let least = ltb-false size 7 first.0 in
    let most = ltb-false limits.msgmax size second.0 in
    record { least = omega (arith, least); most = omega (arith, most) }

have-sizes-step : (limits : Limits) (history : List Entry) (s : State) (app : ℕ) (call : Call) → HaveSizes limits s → HaveSizes limits ((step limits history s app call).1)
have-sizes-step limits history s app call have =
    after_step (HaveSizes limits) limits history s app call (record {
      same = have;
      creates = λ depth name none. record { all = have.all; sizes = have.sizes };
      subscribes = λ id pipe limit scope none other. record { all = have.all; sizes = have.sizes };
      sends = λ sending id who number room. record { all = have.all; sizes = have.sizes };
      receives = λ pipe. record { all = have.all; sizes = have.sizes };
      deletes = λ pipe none. record { all = have.all; sizes = have.sizes };
      sets = λ pipe bits none. record { all = have.all; sizes = have.sizes };
      unsubscribes = λ id pipe none. record { all = have.all; sizes = have.sizes };
      stands = λ pipe standing going. record { all = have.all ∙ sym (length-set s.standings (app - 1) standing); sizes = have.sizes };
      ends = record {
        all = length-set s.unsent (app - 1) [] ∙ have.all ∙ sym (length-set s.standings (app - 1) _);
        sizes = Each-without_all (IsSize limits) s.unsent app have.sizes;
      };
      pools = λ next follows. record { all = have.all; sizes = have.sizes };
      allocates = λ size none. record {
        all = length-set s.unsent (app - 1) _ ∙ have.all;
        sizes = Each-with_unsent (IsSize limits) s.unsent app (record { number = s.numbers_given + 1; size = size }) have.sizes (allocated-size limits s size (s.numbers_given + 1) none);
      };
      leaves = λ buf has. record { all = length-set s.unsent (app - 1) _ ∙ have.all; sizes = Each-without_unsent (IsSize limits) s.unsent app buf have.sizes };
      records = λ t desk statistics is. record { all = is.all; sizes = is.sizes };
      passes = λ sending id who has asked. record { all = length-set s.unsent (app - 1) _ ∙ have.all; sizes = Each-without_unsent (IsSize limits) s.unsent app sending.number have.sizes };
    })

none-unsent : (limits : Limits) (apps : ℕ) → Each (IsSize limits) (buffers_in (replicate apps []))
none-unsent limits zero = tt
none-unsent limits (suc apps) = none-unsent limits apps

-- after every history
pub have-sizes : (limits : Limits) (apps : ℕ) (history : List Entry) → HaveSizes limits (state_after limits apps history)
have-sizes limits apps history =
    state_from-keeps (HaveSizes limits) limits (λ before s app call have. have-sizes-step limits before s app call have)
    [] (opening limits apps) history
    (record { all = length-replicate apps [] ∙ sym (length-replicate apps _); sizes = none-unsent limits apps })

-- what is found is one of them
found_is : {X : Type 0} (P : X → Type 0) (test : X → Bool) (xs : List X) (x : X) → find test xs ≡ Some x → Each P xs → P x
found_is P test [] x is each = absurd (cc is)
found_is P test (y ∷ ys) x is each =
    elim (test y) as (λ b. cond {A = Option _} b (Some y) (find test ys) ≡ Some x → P x) [
      | true ↦ λ here. let same : y ≡ x = cc here in subst P same each.0
      | false ↦ λ there. found_is P test ys x there each.1
    ] is

pub unsent-size : (limits : Limits) (s : State) (app number : ℕ) (buffer : Buffer) → HaveSizes limits s → unsent_at s.unsent app number ≡ Some buffer → IsSize limits buffer
unsent-size limits s app number buffer have is =
    found_is (IsSize limits) (λ b. b.number == number) (unsent_of s.unsent app) buffer is (Each-unsent_of (IsSize limits) s.unsent (app - 1) have.sizes)

-- what was written is as long as a buffer
pub written-size : (limits : Limits) (s : State) (app number : ℕ) (written : Written) (bytes : List ℕ) → HaveSizes limits s → AreWritten s.unsent app written → written number ≡ Some bytes →
    (7 ≤ length bytes) × (length bytes ≤ limits.msgmax)
written-size limits s app number written bytes have agree is = by_buffer (unsent_at s.unsent app number) refl
  where
    by_buffer : (found : Option Buffer) → unsent_at s.unsent app number ≡ found → (7 ≤ length bytes) × (length bytes ≤ limits.msgmax)
    by_buffer None none = absurd (cc (sym (agree number) ∙ ap (option_map (λ b. length b)) is, ap (option_map (λ (b : Buffer). b.size)) none))
    by_buffer (Some buffer) some =
        let size = unsent-size limits s app number buffer have some in
        let same : Some (length bytes) ≡ Some buffer.size = sym (ap (option_map (λ b. length b)) is) ∙ agree number ∙ ap (option_map (λ (b : Buffer). b.size)) some in
        let long : length bytes ≡ buffer.size = cc same in
        (omega (arith, size.least, long), omega (arith, size.most, long))

-- Lines that no service sees. --

pub length-sent_message : (id size fill : ℕ) → 7 ≤ size → length (sent_message id size fill) ≡ size
length-sent_message id size fill least =
    length-append (header_bytes id 0 size) (map (fill_byte fill) (range_with_len 0 (size - 6)))
    ∙ ap (λ n. n + length (map (fill_byte fill) (range_with_len 0 (size - 6)))) (length-header_bytes id 0 size)
    ∙ ap (λ n. 6 + n) (length-map-range_with_len (fill_byte fill) 0 (size - 6))
    ∙ omega (arith, least)

pub length-put_in : (old : List ℕ) (offset : ℕ) (bytes : List ℕ) → length (put_in old offset bytes) ≡ length old
length-put_in old offset bytes = by_test (nat_le (offset + length bytes) (length old)) refl
  where
    by_test : (b : Bool) → nat_le (offset + length bytes) (length old) ≡ b →
        length (cond {A = List ℕ} b (take offset old ++ (bytes ++ drop (offset + length bytes) old)) old) ≡ length old
    by_test false is = refl
    by_test true is =
        let fits = leb-true (offset + length bytes) (length old) is in
        let front = length-take-le offset old (omega (arith, fits)) in
        let behind = length-drop (offset + length bytes) old in
        length-append (take offset old) (bytes ++ drop (offset + length bytes) old)
        ∙ ap (λ n. length (take offset old) + n) (length-append bytes (drop (offset + length bytes) old))
        ∙ omega (arith, fits, front, behind)

-- with bytes changed by what leaves how many they are
changed-alike : (written : Written) (at : ℕ) (change : List ℕ → List ℕ) → IfSome (written at) (λ bytes. length (change bytes) ≡ length bytes) → (number : ℕ) →
    option_map (λ bytes. length bytes) (with_bytes written at change number) ≡ option_map (λ bytes. length bytes) (written number)
changed-alike written at change same number =
    elim (at == number) as (λ b. (at == number) ≡ b → option_map (λ bytes. length bytes) (cond {A = Option (List ℕ)} b (option_map change (written at)) (written number))
    ≡ option_map (λ bytes. length bytes) (written number)) [
      | true ↦ λ is. here (written at) same ∙ ap (λ n. option_map (λ bytes. length bytes) (written n)) (eqb-true at number is)
      | false ↦ λ differ. refl
    ] refl
  where
    here : (found : Option (List ℕ)) → IfSome found (λ bytes. length (change bytes) ≡ length bytes) →
        option_map (λ bytes. length bytes) (option_map change found) ≡ option_map (λ bytes. length bytes) found
    here None kept = refl
    here (Some bytes) kept = ap Some kept

-- a line that no service sees leaves the sizes of what was written
pub agree-local : (limits : Limits) (s : State) (app : ℕ) (written : Written) (buffers : List ℕ) (line : Line) → HaveSizes limits s → AreWritten s.unsent app written →
    AreWritten s.unsent app (written_by written buffers line)
unfolding written_by
agree-local limits s app written buffers (lines.Form buf id fill) have agree = λ number.
    changed-alike written (slice_index buffers buf) (λ old. sent_message id (length old) fill)
    (long (written (slice_index buffers buf)) refl) number ∙ agree number
  where
    long : (found : Option (List ℕ)) → written (slice_index buffers buf) ≡ found → IfSome found (λ bytes. length (sent_message id (length bytes) fill) ≡ length bytes)
    long None is = tt
    long (Some bytes) is = length-sent_message id (length bytes) fill (written-size limits s app (slice_index buffers buf) written bytes have agree is).0
agree-local limits s app written buffers (lines.Put buf offset bytes) have agree = λ number.
    changed-alike written (slice_index buffers buf) (λ old. put_in old offset bytes) (long (written (slice_index buffers buf))) number ∙ agree number
  where
    long : (found : Option (List ℕ)) → IfSome found (λ old. length (put_in old offset bytes) ≡ length old)
    long None = tt
    long (Some old) = length-put_in old offset bytes
agree-local limits s app written buffers line have agree = agree

-- Calls. --

abbrev brings_option : List (List Buffer) → ℕ → Option Call → Bool
brings_option unsent app None = true
brings_option unsent app (Some call) = brings unsent app call

as_long : (found : Option (List ℕ)) (buffer : Option Buffer) → option_map (λ bytes. length bytes) found ≡ option_map (λ b. b.size) buffer →
    length (option_map_or (λ bytes. bytes) found []) ≡ option_map_or (λ b. b.size) buffer 0
as_long None None same = refl
as_long None (Some buffer) same = absurd (cc same)
as_long (Some bytes) None same = absurd (cc same)
as_long (Some bytes) (Some buffer) same = cc same

pub length-written : (unsent : List (List Buffer)) (app number : ℕ) (written : Written) → AreWritten unsent app written → length (bytes_in written number) ≡ unsent_size unsent app number
length-written unsent app number written agree = as_long (written number) (unsent_at unsent app number) (agree number)

-- a line's call brings the bytes that it is about
brings-made : (unsent : List (List Buffer)) (app : ℕ) (registers : Registers) (written : Written) (line : Line) → AreWritten unsent app written →
    brings_option unsent app (call_of registers written line) ≡ true
unfolding call_of line_call_of
brings-made unsent app registers written (lines.TransmitBuffer buf inc) agree =
    eq-eqb _ _ (length-written unsent app (slice_index registers.buffers buf) written agree)
brings-made unsent app registers written line agree = refl

pub brings-line : (unsent : List (List Buffer)) (app : ℕ) (registers : Registers) (written : Written) (line : Line) (call : Call) → AreWritten unsent app written →
    call_of registers written line ≡ Some call → brings unsent app call ≡ true
brings-line unsent app registers written line call agree is = ap (brings_option unsent app) (sym is) ∙ brings-made unsent app registers written line agree

-- One's own steps. --

-- a refused call leaves what was written
written-refused : (written : Written) (call : Call) (why : Refusal) → written_after written call (refusal_answer why) ≡ written
written-refused written (calls.Allocate size) (OfBus status) = refl
written-refused written (calls.Allocate size) (OfPools status) = refl
written-refused written (calls.Allocate size) (OfEvents status) = refl
written-refused written (calls.TransmitBuffer buf bytes inc) (OfBus status) = refl
written-refused written (calls.TransmitBuffer buf bytes inc) (OfPools status) = refl
written-refused written (calls.TransmitBuffer buf bytes inc) (OfEvents status) = refl
written-refused written (calls.Release buf) (OfBus status) = refl
written-refused written (calls.Release buf) (OfPools status) = refl
written-refused written (calls.Release buf) (OfEvents status) = refl
written-refused written calls.End (OfBus status) = refl
written-refused written calls.End (OfPools status) = refl
written-refused written calls.End (OfEvents status) = refl
written-refused written call why = refl

-- a buffer more
agree-given : (unsent : List (List Buffer)) (app : ℕ) (written : Written) (number size : ℕ) → app - 1 < length unsent → AreWritten unsent app written →
    AreWritten (with_unsent unsent app (record { number = number; size = size })) app (with_buffer written number (Some (replicate size 0)))
agree-given unsent app written number size there agree other =
    let own = get_or-set_same unsent (app - 1) (record { number = number; size = size } ∷ unsent_of unsent app) [] there in
    elim (number == other) as (λ b. option_map (λ bytes. length bytes) (cond {A = Option (List ℕ)} b (Some (replicate size 0)) (written other))
    ≡ option_map (λ (x : Buffer). x.size) (cond {A = Option Buffer} b (Some (record { number = number; size = size })) (unsent_at unsent app other))) [
      | true ↦ ap Some (length-replicate size 0)
      | false ↦ agree other
    ] ∙ ap (λ bs. option_map (λ (x : Buffer). x.size) (find (λ (b : Buffer). b.number == other) bs)) (sym own)

-- a buffer less
agree-gone : (unsent : List (List Buffer)) (app : ℕ) (written : Written) (number : ℕ) → app - 1 < length unsent → AreWritten unsent app written →
    AreWritten (without_unsent unsent app number) app (with_buffer written number None)
agree-gone unsent app written number there agree other =
    let left = filter (λ (b : Buffer). not (b.number == number)) (unsent_of unsent app) in
    let own = get_or-set_same unsent (app - 1) left [] there in
    elim (number == other) as (λ b. (number == other) ≡ b → option_map (λ bytes. length bytes) (cond {A = Option (List ℕ)} b None (written other))
    ≡ option_map (λ (x : Buffer). x.size) (find (λ (b : Buffer). b.number == other) left)) [
      | true ↦ λ is. ap (option_map (λ (x : Buffer). x.size)) (sym (find-filter_none (λ (b : Buffer). b.number == other) (λ b. not (b.number == number))
          (λ b has. ap not (ap (λ n. b.number == n) (eqb-true number other is) ∙ has)) (unsent_of unsent app)))
      | false ↦ λ differ. agree other ∙ ap (option_map (λ (x : Buffer). x.size)) (sym (find-filter (λ (b : Buffer). b.number == other) (λ b. not (b.number == number))
          (λ b has. ap not (ap (λ n. n == number) (eqb-true b.number other has) ∙ same-sym other number ∙ differ)) (unsent_of unsent app)))
    ] refl ∙ ap (λ bs. option_map (λ (x : Buffer). x.size) (find (λ (b : Buffer). b.number == other) bs)) (sym own)

-- none any more
agree-none : (unsent : List (List Buffer)) (app : ℕ) → app - 1 < length unsent → AreWritten (slice_set unsent (app - 1) []) app first_written
agree-none unsent app there other =
    ap (λ bs. option_map (λ (x : Buffer). x.size) (find (λ (b : Buffer). b.number == other) bs)) (sym (get_or-set_same unsent (app - 1) [] [] there))

-- what a send leaves
agree-sent : (limits : Limits) (app : ℕ) (written : Written) (subs : List Subscription) (sending : Sending) (s : State) → AreWritten s.unsent app written →
    AreWritten ((sent_along limits subs sending s).1).unsent app written
agree-sent limits app written [] sending s agree = agree
agree-sent limits app written (sub ∷ subs) sending s agree = agree

-- what a send of a buffer leaves
agree-passed : (unsent : List (List Buffer)) (app : ℕ) (written : Written) (buf : ℕ) (bytes : List ℕ) (inc : Bool) (subs : List Subscription) (sending : Sending) (s : State) →
    AreWritten s.unsent app (with_buffer written buf None) →
    AreWritten ((passed_along subs sending s).1).unsent app (written_after written (calls.TransmitBuffer buf bytes inc) (passed_along subs sending s).0)
agree-passed unsent app written buf bytes inc [] sending s agree = agree
agree-passed unsent app written buf bytes inc (sub ∷ subs) sending s agree = agree

-- what a step says of one's own buffers
abbrev Agrees : ℕ → Written → Call → BusAnswer × State → Type 0
Agrees app written call next = AreWritten next.1.unsent app (written_after written call next.0)

either : (F : State → Type 0) (b : Bool) (one other : State) → F one → F other → F (cond {A = State} b one other)
either F true one other first second = first
either F false one other first second = second

agrees-accepted : (limits : Limits) (history : List Entry) (s : State) (app : ℕ) (call : Call) (written : Written) → app - 1 < length s.unsent → AreWritten s.unsent app written →
    Agrees app written call (accept limits history s app call)
agrees-accepted limits history s app (calls.Create depth name) written there agree = agree
agrees-accepted limits history s app (calls.Delete pipe) written there agree = agree
agrees-accepted limits history s app (calls.SetOpts pipe bits) written there agree = agree
agrees-accepted limits history s app (calls.GetOpts pipe) written there agree = agree
agrees-accepted limits history s app (calls.Find name) written there agree = agree
agrees-accepted limits history s app (calls.PipeName pipe) written there agree = agree
agrees-accepted limits history s app (calls.Subscribe id pipe limit scope) written there agree =
    either (λ t. AreWritten t.unsent app written) (is_subscribed s.subscriptions id pipe) s _ agree agree
agrees-accepted limits history s app (calls.Unsubscribe id pipe) written there agree = agree
agrees-accepted limits history s app (calls.Transmit bytes inc) written there agree = agree-sent limits app written (route s.subscriptions (message_id bytes)) _ s agree
agrees-accepted limits history s app (calls.Receive pipe) written there agree = agree
agrees-accepted limits history s app (calls.Pend pipe) written there agree =
    either (λ t. AreWritten t.unsent app written) (is_empty s.pipes pipe && not (others_idle s app)) (with_standing (received s pipe) app (Waiting pipe)) (received s pipe) agree agree
agrees-accepted limits history s app (calls.Look pipe) written there agree =
    either (λ t. AreWritten t.unsent app written) (is_empty s.pipes pipe && not (others_idle s app)) s (with_standing (received s pipe) app Active) agree agree
agrees-accepted limits history s app (calls.Allocate size) written there agree = agree-given s.unsent app written (s.numbers_given + 1) size there agree
agrees-accepted limits history s app (calls.TransmitBuffer buf bytes inc) written there agree =
    agree-passed s.unsent app written buf bytes inc (route s.subscriptions (message_id bytes)) _ (buffer_gone s app buf) (agree-gone s.unsent app written buf there agree)
agrees-accepted limits history s app (calls.Release buf) written there agree = agree-gone s.unsent app written buf there agree
agrees-accepted limits history s app (calls.PoolCreate bytes) written there agree = agree
agrees-accepted limits history s app (calls.PoolGet pool size) written there agree = agree
agrees-accepted limits history s app (calls.PoolPut pool grant) written there agree = agree
agrees-accepted limits history s app (calls.PoolFigures pool) written there agree = agree
agrees-accepted limits history s app (calls.Register filters) written there agree = agree
agrees-accepted limits history s app (calls.SendEvent id kind text) written there agree = agree
agrees-accepted limits history s app (calls.ResetFilter id) written there agree = agree
agrees-accepted limits history s app (calls.LogMode mode) written there agree = agree
agrees-accepted limits history s app calls.ClearLog written there agree = agree
agrees-accepted limits history s app calls.Housekeeping written there agree = agree-sent limits app written (route s.subscriptions (message_id (packet_in limits s))) _ s agree
agrees-accepted limits history s app calls.Figures written there agree = agree
agrees-accepted limits history s app calls.End written there agree = agree-none s.unsent app there

agrees-decided : (limits : Limits) (history : List Entry) (s : State) (app : ℕ) (call : Call) (written : Written) (why : Option Refusal) → app - 1 < length s.unsent →
    AreWritten s.unsent app written → Agrees app written call (decided limits history s app call why)
agrees-decided limits history s app call written (Some why) there agree =
    subst (λ w. AreWritten (refused_state s call why).unsent app w) (sym (written-refused written call why))
    (after_refusal (λ t. AreWritten t.unsent app written) s call why agree (λ pipe. agree) (λ next follows. agree))
agrees-decided limits history s app call written None there agree = agrees-accepted limits history s app call written there agree

-- after one's own step what was written still agrees with the buffers
pub agree-step : (limits : Limits) (history : List Entry) (s : State) (app : ℕ) (call : Call) (written : Written) → app - 1 < length s.unsent → AreWritten s.unsent app written →
    AreWritten ((step limits history s app call).1).unsent app (written_after written call (step limits history s app call).0)
agree-step limits history s app call written there agree = agrees-decided limits history s app call written (cause limits s app call) there agree

-- Others' steps. --

differs : (a b : ℕ) → (a == b) ≡ false → 1 ≤ a → 1 ≤ b → b - 1 ≡ a - 1 → ⊥
differs a b other first next same = true≢false (sym (eq-eqb a b (omega (arith, same, first, next))) ∙ other)

-- they leave an application's buffers
pub unsent-other : (limits : Limits) (history : List Entry) (s : State) (who app : ℕ) (call : Call) → IsTrue (may_call (standing_of s who) call) → (app == who) ≡ false → 1 ≤ app →
    unsent_of ((step limits history s who call).1).unsent app ≡ unsent_of s.unsent app
unsent-other limits history s who app call may differ first =
    let other : (new : List Buffer) → unsent_of (slice_set s.unsent (who - 1) new) app ≡ unsent_of s.unsent app =
    λ new. get_or-set_other s.unsent (who - 1) (app - 1) new [] (λ same. differs app who differ first (caller-first s who call may) (sym same)) in
    legal-step (λ t. unsent_of t.unsent app ≡ unsent_of s.unsent app) limits history s who call may (record {
      same = refl;
      creates = λ depth name. refl;
      subscribes = λ id pipe limit scope. refl;
      sends = λ sending id. refl;
      receives = λ pipe own. refl;
      deletes = λ pipe own. refl;
      sets = λ pipe bits. refl;
      unsubscribes = λ id pipe. refl;
      waits = λ pipe own. refl;
      looks = λ pipe on. refl;
      ends = other [];
      pools = λ pools. refl;
      allocates = λ size. other _;
      leaves = λ buf. other _;
      records = λ t desk statistics is. is;
      passes = λ sending id. other _;
    })

-- so what it wrote agrees with them as before
pub agree-other : (s t : State) (app : ℕ) (written : Written) → unsent_of t.unsent app ≡ unsent_of s.unsent app → AreWritten s.unsent app written → AreWritten t.unsent app written
agree-other s t app written same agree = λ number.
    agree number ∙ ap (λ bs. option_map (λ (x : Buffer). x.size) (find (λ (b : Buffer). b.number == number) bs)) (sym same)
