-- What a memory pool counts are the entries that it gave a grant, and those whose return it refused.
use Rattle.std.proofs.Common.{◌≡◌, ℕ, zero, suc, ◌+◌, ◌-◌, ◌^◌, ◌≤◌, ◌==◌, ◌&&◌, ◌||◌, not, min, Bool, true, false, cond, List, [], ◌∷◌, ◌++◌, length, get_or, set, Option, Some, None, refl, ap, sym, ◌∙◌, subst, zero-add, arith}
use Rattle.std.specs.Prelude.{All, count_by, is_none}
use Rattle.std.proofs.lemmas.Bool.{false≢true, true≢false}
use Rattle.std.proofs.lemmas.Bool.Decides.{nat_tests}
use Rattle.std.proofs.lemmas.List.{get_or-set_other, length_push}
use Rattle.std.proofs.lemmas.Grind.{get_or-set_at}
use Rattle.std.proofs.lemmas.List.Elements.{All-get_or}
use Rattle.std.proofs.lemmas.List.Sums.{sum_by-append}
use Rattle.std.proofs.Math.ListN.{get_or-map}
use Rattle.fsw_base.specs.Limits.{Limits}
use Rattle.fsw_base.specs.Blocks.{class_of}
use Rattle.fsw_base.specs.PoolAccounts.{counted, has_room, has_room_if}
use Rattle.fsw_base.specs.declared.statuses.EsStatus.{EsStatus}
use Rattle.fsw_base.specs.declared.statuses.EsStatus.TheVariants.{ErrMemBlockSize, BufferNotInPool, PoolBlockInvalid, NoPool}
use Rattle.ccsds_msg.specs.Message.{message_id}
use Rattle.fsw_base.specs.Grants.{Grant, PoolGrants, Pools, IsNumbered, new_pool, is_pool, pool_in, with_pool, with_grant, after_get, after_get_if, after_put, after_end, all_after_end, pool_account, is_among, was_given, without, refuses_pool, after_create}
use Rattle.bus_words.specs.declared.calls.BusAnswer.{BusAnswer}
use Rattle.bus_words.specs.declared.calls.BusAnswer.TheVariants.{Number, Es, Done}
use Rattle.bus_words.specs.declared.history.Call.{Call}
use Rattle.bus_words.specs.declared.history.Call.TheVariants.{Create, Delete, SetOpts, GetOpts, Find, PipeName, Subscribe, Unsubscribe, Transmit, Receive, Pend, Look, Allocate, TransmitBuffer, Release, PoolCreate, PoolGet, PoolPut, PoolFigures, Register, SendEvent, ResetFilter, LogMode, ClearLog, Housekeeping, Figures, End}
use Rattle.bus_words.specs.declared.history.Entry.{Entry}
use Rattle.bus_words.specs.Refusals.{Refusal, OfBus, OfPools, OfEvents, refusal_answer}
use Rattle.bus_words.specs.Bus.{Subscription, State, Sending, Waiting, Active, ArePools, opening, route, is_empty, is_subscribed, others_idle, with_standing}
use Rattle.bus_words.specs.Sends.{Reads, sending_from, sending_in, packet_in}
use Rattle.bus_words.specs.Machine.{LegalFrom, IsLegal, accept_with, buffer_gone, cause, decided_with, passed_along, by_pools, pool_get_cause, pool_put_cause, reads_after, received, refused_if, refused_state, sent_along, state_after, state_from, step}
use Rattle.bus_words.specs.Readings.{gets_grant, is_refused_return, count_of, account_after}
use Rattle.bus_words.proofs.PoolGrants.{ArePools-step, ArePools-opening}
use Rattle.bus_words.proofs.Steps.{after_choice, refused_receive, with_subscription}

-- one more, short of the last value of a count, if the test holds
abbrev raised : Bool → ℕ → ℕ
raised test n = cond test (counted n) n

-- a call so answered raises the counts of a pool
record Raises (pool : ℕ) (call : Call) (s next : Pools) (answer : BusAnswer) : Type 0 where
  pub requests : (pool_in next pool).requests ≡ raised (gets_grant pool call answer) ((pool_in s pool).requests)
  pub errors : (pool_in next pool).errors ≡ raised (is_refused_return pool call answer) ((pool_in s pool).errors)

-- if the call is neither, no count changes
neither : (pool : ℕ) (call : Call) (s next : Pools) (answer : BusAnswer) → gets_grant pool call answer ≡ false → is_refused_return pool call answer ≡ false →
    (pool_in next pool).requests ≡ (pool_in s pool).requests → (pool_in next pool).errors ≡ (pool_in s pool).errors → Raises pool call s next answer
neither pool call s next answer gets refused requests errors = record {
  requests = requests ∙ ap (λ b. raised b ((pool_in s pool).requests)) (sym gets);
  errors = errors ∙ ap (λ b. raised b ((pool_in s pool).errors)) (sym refused);
}

-- whether a call is a return
abbrev is_return : Call → Bool
is_return (PoolPut number grant) = true
is_return call = false

-- One pool. --

get-requests : (p : PoolGrants) (app size : ℕ) → has_room (pool_account p) size ≡ true →
    ((after_get p app size).requests ≡ counted p.requests) × ((after_get p app size).errors ≡ p.errors)
get-requests p app size = by_class (class_of size p.sizes)
  where
    Got : PoolGrants → Type 0
    Got q = (q.requests ≡ counted p.requests) × (q.errors ≡ p.errors)

    by_class : (o : Option ℕ) → has_room_if (pool_account p) o ≡ true → Got (after_get_if p app o)
    by_class None room = absurd (false≢true room)
    by_class (Some class) room =
        subst (λ b. Got (cond {A = PoolGrants} b (with_grant p app class) p)) (sym room) (refl, refl)

put-requests : (p : PoolGrants) (number : ℕ) → (after_put p number).requests ≡ p.requests
put-requests p number = by_out (is_among p.out number)
  where
    by_out : (b : Bool) →
        (cond {A = PoolGrants} b (record p { out = without number p.out }) (record p { errors = counted p.errors })).requests
        ≡ p.requests
    by_out true = refl
    by_out false = refl

put-errors : (p : PoolGrants) (number : ℕ) (out : Bool) → is_among p.out number ≡ out → (after_put p number).errors ≡ raised (not out) p.errors
put-errors p number true is =
    ap (λ b. (cond {A = PoolGrants} b (record p { out = without number p.out }) (record p { errors = counted p.errors })).errors) is
put-errors p number false is =
    ap (λ b. (cond {A = PoolGrants} b (record p { out = without number p.out }) (record p { errors = counted p.errors })).errors) is

-- a grant that is out was given
among-given : (p : PoolGrants) (number : ℕ) (out : List Grant) → All (λ grant. (1 ≤ grant.number) × (grant.number ≤ p.given)) out → is_among out number ≡ true →
    was_given p number ≡ true
among-given p number [] all is = absurd (false≢true is)
among-given p number (grant ∷ out) all is = by_number (grant.number == number) refl is (among-given p number out (λ k d below. all (suc k) d (omega (arith, below))))
  where
    by_number : (b : Bool) → (grant.number == number) ≡ b → (b || is_among out number) ≡ true → (is_among out number ≡ true → was_given p number ≡ true) →
        was_given p number ≡ true
    by_number true same more others = grind (arith, nat_tests, all 0 grant (omega arith), same)
    by_number false other more others = others more

-- All pools. --

-- a change of one pool is a change of that one
changed : (s : Pools) (number pool : ℕ) (after : PoolGrants) → 1 ≤ pool → is_pool s number ≡ true →
    pool_in (with_pool s number after) pool ≡ cond (number == pool) after (pool_in s pool)
changed s number pool after from there =
    ap (λ b. pool_in (cond {A = Pools} b (record s { pools = set s.pools (number - 1) after }) s) pool) there ∙ by_number (number == pool) refl
  where
    by_number : (b : Bool) → (number == pool) ≡ b → get_or (set s.pools (number - 1) after) (pool - 1) (new_pool [] 0) ≡ cond b after (pool_in s pool)
    by_number true same =
        get_or-set_at s.pools (number - 1) (pool - 1) after (new_pool [] 0) (grind (arith, nat_tests, same)) (grind (arith, nat_tests, there))
    by_number false other =
        get_or-set_other s.pools (number - 1) (pool - 1) after (new_pool [] 0) (λ is. absurd (true≢false (grind (arith, nat_tests, is, from, there, other))))

-- if there is no such pool nothing changes
unchanged : (s : Pools) (number : ℕ) (after : PoolGrants) → is_pool s number ≡ false → with_pool s number after ≡ s
unchanged s number after none = ap (λ b. cond {A = Pools} b (record s { pools = set s.pools (number - 1) after }) s) none

-- Calls. --

-- no pool's counts change
quiet : (pool : ℕ) (call : Call) (s next : Pools) (answer : BusAnswer) → gets_grant pool call answer ≡ false → is_refused_return pool call answer ≡ false → next ≡ s →
    Raises pool call s next answer
quiet pool call s next answer gets refused same =
    neither pool call s next answer gets refused (ap (λ p. (pool_in p pool).requests) same) (ap (λ p. (pool_in p pool).errors) same)

create-raises : (s : Pools) (pool bytes : ℕ) (call : Call) (answer : BusAnswer) → gets_grant pool call answer ≡ false → is_refused_return pool call answer ≡ false →
    Raises pool call s (after_create s bytes) answer
create-raises s pool bytes call answer gets refused = by_refusal (refuses_pool s bytes)
  where
    more : (pools : List PoolGrants) (at : ℕ) →
        ((get_or (pools ++ new_pool s.sizes bytes ∷ []) at (new_pool [] 0)).requests ≡ (get_or pools at (new_pool [] 0)).requests)
        × ((get_or (pools ++ new_pool s.sizes bytes ∷ []) at (new_pool [] 0)).errors ≡ (get_or pools at (new_pool [] 0)).errors)
    more [] zero = (refl, refl)
    more [] (suc at) = (refl, refl)
    more (p ∷ pools) zero = (refl, refl)
    more (p ∷ pools) (suc at) = more pools at

    by_refusal : (b : Bool) → Raises pool call s (cond b s (record s { pools = s.pools ++ new_pool s.sizes bytes ∷ [] })) answer
    by_refusal true = quiet pool call s s answer gets refused refl
    by_refusal false =
        let same = more s.pools (pool - 1) in
        neither pool call s (record s { pools = s.pools ++ new_pool s.sizes bytes ∷ [] }) answer gets refused same.0 same.1

end-raises : (s : Pools) (pool app : ℕ) → Raises pool End s (all_after_end app s) Done
end-raises s pool app =
    let ended : pool_in (all_after_end app s) pool ≡ after_end app (pool_in s pool) = get_or-map (after_end app) s.pools (pool - 1) (new_pool [] 0) in
    neither pool End s (all_after_end app s) Done refl refl
    (ap (λ (p : PoolGrants). p.requests) ended) (ap (λ (p : PoolGrants). p.errors) ended)

get-raises : (s : Pools) (pool app number size : ℕ) → 1 ≤ pool → is_pool s number ≡ true → has_room (pool_account (pool_in s number)) size ≡ true →
    Raises pool (PoolGet number size) s (with_pool s number (after_get (pool_in s number) app size)) (Number ((pool_in s number).given + 1))
get-raises s pool app number size from there room = by_number (number == pool) refl
  where
    after : PoolGrants
    after = after_get (pool_in s number) app size

    next : Pools
    next = with_pool s number after

    got : (after.requests ≡ counted ((pool_in s number).requests)) × (after.errors ≡ (pool_in s number).errors)
    got = get-requests (pool_in s number) app size room

    by_number : (b : Bool) → (number == pool) ≡ b → Raises pool (PoolGet number size) s next (Number ((pool_in s number).given + 1))
    by_number true same =
        let here : number ≡ pool = grind (arith, nat_tests, same) in
        let now = changed s number pool after from there ∙ ap (λ b. cond b after (pool_in s pool)) same in
        record {
          requests = ap (λ (p : PoolGrants). p.requests) now ∙ got.0 ∙ ap (λ n. counted ((pool_in s n).requests)) here
              ∙ ap (λ b. raised b ((pool_in s pool).requests)) (sym same);
          errors = ap (λ (p : PoolGrants). p.errors) now ∙ got.1 ∙ ap (λ n. (pool_in s n).errors) here;
        }
    by_number false other =
        let now = changed s number pool after from there ∙ ap (λ b. cond b after (pool_in s pool)) other in
        neither pool (PoolGet number size) s next (Number ((pool_in s number).given + 1)) other refl
        (ap (λ (p : PoolGrants). p.requests) now) (ap (λ (p : PoolGrants). p.errors) now)

-- what a return answers
abbrev return_answer : Option EsStatus → BusAnswer
return_answer None = Done
return_answer (Some status) = Es status

and_true : (b : Bool) → b ≡ (b && true)
and_true true = refl
and_true false = refl

and_false : (b : Bool) → false ≡ (b && false)
and_false true = refl
and_false false = refl

put-raises : (s : Pools) (pool number grant : ℕ) → 1 ≤ pool → All IsNumbered s.pools →
    Raises pool (PoolPut number grant) s (with_pool s number (after_put (pool_in s number) grant))
    (return_answer
    (refused_if (not (is_pool s number)) NoPool
    (refused_if (not (was_given (pool_in s number) grant)) BufferNotInPool
    (refused_if (not (is_among (pool_in s number).out grant)) PoolBlockInvalid None))))
put-raises s pool number grant from counts =
    by_tests (is_pool s number) (was_given p grant) (is_among p.out grant) refl refl refl
  where
    p : PoolGrants
    p = pool_in s number

    after : PoolGrants
    after = after_put p grant

    next : Pools
    next = with_pool s number after

    answer_by : Bool → Bool → Bool → BusAnswer
    answer_by there given out =
        return_answer (refused_if (not there) NoPool (refused_if (not given) BufferNotInPool (refused_if (not out) PoolBlockInvalid None)))

    -- a return to a pool that there is, wrong or not
    there_is : (answer : BusAnswer) (out : Bool) → is_pool s number ≡ true → is_among p.out grant ≡ out → gets_grant pool (PoolPut number grant) answer ≡ false →
        is_refused_return pool (PoolPut number grant) answer ≡ (number == pool && not out) → Raises pool (PoolPut number grant) s next answer
    there_is answer out there is gets refused = by_number (number == pool) refl
      where
        by_number : (b : Bool) → (number == pool) ≡ b → Raises pool (PoolPut number grant) s next answer
        by_number true same =
            let here : number ≡ pool = grind (arith, nat_tests, same) in
            let now = changed s number pool after from there ∙ ap (λ b. cond b after (pool_in s pool)) same in
            record {
              requests = ap (λ (q : PoolGrants). q.requests) now ∙ put-requests p grant ∙ ap (λ n. (pool_in s n).requests) here
                  ∙ ap (λ b. raised b ((pool_in s pool).requests)) (sym gets);
              errors = ap (λ (q : PoolGrants). q.errors) now ∙ put-errors p grant out is ∙ ap (λ n. raised (not out) ((pool_in s n).errors)) here
                  ∙ ap (λ b. raised (b && not out) ((pool_in s pool).errors)) (sym same) ∙ ap (λ b. raised b ((pool_in s pool).errors)) (sym refused);
            }
        by_number false other =
            let now = changed s number pool after from there ∙ ap (λ b. cond b after (pool_in s pool)) other in
            neither pool (PoolPut number grant) s next answer gets (refused ∙ ap (λ b. b && not out) other)
            (ap (λ (q : PoolGrants). q.requests) now) (ap (λ (q : PoolGrants). q.errors) now)

    by_tests : (there given out : Bool) → is_pool s number ≡ there → was_given p grant ≡ given → is_among p.out grant ≡ out →
        Raises pool (PoolPut number grant) s next (answer_by (is_pool s number) (was_given p grant) (is_among p.out grant))
    by_tests false given out none gives is =
        subst (λ b. Raises pool (PoolPut number grant) s next (answer_by b (was_given p grant) (is_among p.out grant))) (sym none)
        (quiet pool (PoolPut number grant) s next (Es NoPool) refl refl (unchanged s number after none))
    by_tests true false true there gives is =
        absurd (true≢false
        (sym (among-given p grant p.out
        (All-get_or IsNumbered s.pools (number - 1) (new_pool [] 0) (grind (arith, nat_tests, there)) counts).given_all is)
        ∙ gives))
    by_tests true false false there gives is =
        subst (λ b. Raises pool (PoolPut number grant) s next (answer_by b (was_given p grant) (is_among p.out grant))) (sym there)
        (subst (λ b. Raises pool (PoolPut number grant) s next (answer_by true b (is_among p.out grant))) (sym gives)
        (there_is (Es BufferNotInPool) false there is refl (and_true (number == pool))))
    by_tests true true out there gives is =
        subst (λ b. Raises pool (PoolPut number grant) s next (answer_by b (was_given p grant) (is_among p.out grant))) (sym there)
        (subst (λ b. Raises pool (PoolPut number grant) s next (answer_by true b (is_among p.out grant))) (sym gives)
        (subst (λ b. Raises pool (PoolPut number grant) s next (answer_by true true b)) (sym is) (by_out out is)))
      where
        by_out : (b : Bool) → is_among p.out grant ≡ b → Raises pool (PoolPut number grant) s next (answer_by true true b)
        by_out true out_is = there_is Done true there out_is refl (and_false (number == pool))
        by_out false out_is = there_is (Es PoolBlockInvalid) false there out_is refl (and_true (number == pool))

-- Refusals. --

refused-raises : (s : State) (pool : ℕ) (call : Call) (why : Refusal) → is_return call ≡ false → Raises pool call s.pools ((refused_state s call why).pools) (refusal_answer why)
refused-raises s pool (Create depth name) why other = quiet pool _ s.pools s.pools (refusal_answer why) refl refl refl
refused-raises s pool (Delete pipe) why other = quiet pool _ s.pools s.pools (refusal_answer why) refl refl refl
refused-raises s pool (SetOpts pipe bits) why other = quiet pool _ s.pools s.pools (refusal_answer why) refl refl refl
refused-raises s pool (GetOpts pipe) why other = quiet pool _ s.pools s.pools (refusal_answer why) refl refl refl
refused-raises s pool (Find name) why other = quiet pool _ s.pools s.pools (refusal_answer why) refl refl refl
refused-raises s pool (PipeName pipe) why other = quiet pool _ s.pools s.pools (refusal_answer why) refl refl refl
refused-raises s pool (Subscribe id pipe limit scope) why other = quiet pool _ s.pools s.pools (refusal_answer why) refl refl refl
refused-raises s pool (Unsubscribe id pipe) why other = quiet pool _ s.pools s.pools (refusal_answer why) refl refl refl
refused-raises s pool (Transmit bytes inc) why other = quiet pool _ s.pools s.pools (refusal_answer why) refl refl refl
refused-raises s pool (Receive pipe) why other =
    quiet pool (Receive pipe) s.pools ((refused_state s (Receive pipe) why).pools) (refusal_answer why) refl refl
    (refused_receive (λ t. t.pools ≡ s.pools) s pipe why refl refl)
refused-raises s pool (Pend pipe) why other = quiet pool _ s.pools s.pools (refusal_answer why) refl refl refl
refused-raises s pool (Look pipe) why other = quiet pool _ s.pools s.pools (refusal_answer why) refl refl refl
refused-raises s pool (Allocate size) why other = quiet pool _ s.pools s.pools (refusal_answer why) refl refl refl
refused-raises s pool (TransmitBuffer buf bytes inc) why other = quiet pool _ s.pools s.pools (refusal_answer why) refl refl refl
refused-raises s pool (Release buf) why other = quiet pool _ s.pools s.pools (refusal_answer why) refl refl refl
refused-raises s pool (PoolCreate bytes) why other = quiet pool _ s.pools s.pools (refusal_answer why) refl refl refl
refused-raises s pool (PoolGet number size) (OfBus status) other = quiet pool (PoolGet number size) s.pools s.pools (refusal_answer (OfBus status)) refl refl refl
refused-raises s pool (PoolGet number size) (OfPools status) other = quiet pool (PoolGet number size) s.pools s.pools (refusal_answer (OfPools status)) refl refl refl
refused-raises s pool (PoolGet number size) (OfEvents status) other = quiet pool (PoolGet number size) s.pools s.pools (refusal_answer (OfEvents status)) refl refl refl
refused-raises s pool (PoolPut number grant) why other = absurd (true≢false other)
refused-raises s pool (PoolFigures number) why other = quiet pool _ s.pools s.pools (refusal_answer why) refl refl refl
refused-raises s pool (Register filters) why other = quiet pool _ s.pools s.pools (refusal_answer why) refl refl refl
refused-raises s pool (SendEvent id kind text) why other = quiet pool _ s.pools s.pools (refusal_answer why) refl refl refl
refused-raises s pool (ResetFilter id) why other = quiet pool _ s.pools s.pools (refusal_answer why) refl refl refl
refused-raises s pool (LogMode mode) why other = quiet pool _ s.pools s.pools (refusal_answer why) refl refl refl
refused-raises s pool ClearLog why other = quiet pool _ s.pools s.pools (refusal_answer why) refl refl refl
refused-raises s pool Housekeeping why other = quiet pool _ s.pools s.pools (refusal_answer why) refl refl refl
refused-raises s pool Figures why other = quiet pool _ s.pools s.pools (refusal_answer why) refl refl refl
refused-raises s pool End why other = quiet pool _ s.pools s.pools (refusal_answer why) refl refl refl

-- Calls that aren't refused. --

along-same : (limits : Limits) (subs : List Subscription) (sending : Sending) (s : State) → ((sent_along limits subs sending s).1).pools ≡ s.pools
along-same limits [] sending s = refl
along-same limits (sub ∷ subs) sending s = refl

passing-same : (subs : List Subscription) (sending : Sending) (s : State) → ((passed_along subs sending s).1).pools ≡ s.pools
passing-same [] sending s = refl
passing-same (sub ∷ subs) sending s = refl

-- a request that isn't refused is to a pool that there is, and that has room
get-none : (s : State) (number size : ℕ) → by_pools (pool_get_cause s number size) ≡ None → (is_pool s.pools number ≡ true) × (has_room (pool_account (pool_in s.pools number)) size ≡ true)
get-none s number size = by_tests (is_pool s.pools number) (has_room (pool_account (pool_in s.pools number)) size)
  where
    by_tests : (there room : Bool) → by_pools (refused_if (not there) NoPool (refused_if (not room) ErrMemBlockSize None)) ≡ None → (there ≡ true) × (room ≡ true)
    by_tests true true none = (refl, refl)
    by_tests true false none = absurd (true≢false (sym (ap is_none none)))
    by_tests false room none = absurd (true≢false (sym (ap is_none none)))

accepted-raises : (reads : Reads) (limits : Limits) (s : State) (pool app : ℕ) (call : Call) → 1 ≤ pool → is_return call ≡ false → cause limits s app call ≡ None →
    Raises pool call s.pools (((accept_with reads limits s app call).1).pools) ((accept_with reads limits s app call).0)
accepted-raises reads limits s pool app (Create depth name) from other none = quiet pool _ s.pools s.pools _ refl refl refl
accepted-raises reads limits s pool app (Delete pipe) from other none = quiet pool _ s.pools s.pools _ refl refl refl
accepted-raises reads limits s pool app (SetOpts pipe bits) from other none = quiet pool _ s.pools s.pools _ refl refl refl
accepted-raises reads limits s pool app (GetOpts pipe) from other none = quiet pool _ s.pools s.pools _ refl refl refl
accepted-raises reads limits s pool app (Find name) from other none = quiet pool _ s.pools s.pools _ refl refl refl
accepted-raises reads limits s pool app (PipeName pipe) from other none = quiet pool _ s.pools s.pools _ refl refl refl
accepted-raises reads limits s pool app (Subscribe id pipe limit scope) from other none =
    quiet pool (Subscribe id pipe limit scope) s.pools _ Done refl refl
    (after_choice Same (is_subscribed s.subscriptions id pipe) s (with_subscription s id pipe limit scope) refl refl)
  where
    Same : State → Type 0
    Same t = t.pools ≡ s.pools
accepted-raises reads limits s pool app (Unsubscribe id pipe) from other none = quiet pool _ s.pools s.pools _ refl refl refl
accepted-raises reads limits s pool app (Transmit bytes inc) from other none =
    let made = sent_along limits (route s.subscriptions (message_id bytes)) (sending_from reads s app bytes inc) s in
    quiet pool (Transmit bytes inc) s.pools ((made.1).pools) (made.0) refl refl (along-same limits (route s.subscriptions (message_id bytes)) (sending_from reads s app bytes inc) s)
accepted-raises reads limits s pool app (Receive pipe) from other none = quiet pool _ s.pools s.pools _ refl refl refl
accepted-raises reads limits s pool app (Pend pipe) from other none =
    quiet pool (Pend pipe) s.pools _ _ refl refl
    (after_choice Same (is_empty s.pipes pipe && not (others_idle s app)) (with_standing (received s pipe) app (Waiting pipe)) (received s pipe) refl refl)
  where
    Same : State → Type 0
    Same t = t.pools ≡ s.pools
accepted-raises reads limits s pool app (Look pipe) from other none =
    quiet pool (Look pipe) s.pools _ _ refl refl
    (after_choice Same (is_empty s.pipes pipe && not (others_idle s app)) s (with_standing (received s pipe) app Active) refl refl)
  where
    Same : State → Type 0
    Same t = t.pools ≡ s.pools
accepted-raises reads limits s pool app (Allocate size) from other none = quiet pool _ s.pools s.pools _ refl refl refl
accepted-raises reads limits s pool app (TransmitBuffer buf bytes inc) from other none =
    let made = passed_along (route s.subscriptions (message_id bytes)) (sending_in reads s app buf bytes inc) (buffer_gone s app buf) in
    quiet pool (TransmitBuffer buf bytes inc) s.pools ((made.1).pools) (made.0) refl refl
    (passing-same (route s.subscriptions (message_id bytes)) (sending_in reads s app buf bytes inc) (buffer_gone s app buf))
accepted-raises reads limits s pool app (Release buf) from other none = quiet pool _ s.pools s.pools _ refl refl refl
accepted-raises reads limits s pool app (PoolCreate bytes) from other none = create-raises s.pools pool bytes (PoolCreate bytes) _ refl refl
accepted-raises reads limits s pool app (PoolGet number size) from other none =
    let why = get-none s number size none in
    get-raises s.pools pool app number size from why.0 why.1
accepted-raises reads limits s pool app (PoolPut number grant) from other none = absurd (true≢false other)
accepted-raises reads limits s pool app (PoolFigures number) from other none = quiet pool _ s.pools s.pools _ refl refl refl
accepted-raises reads limits s pool app (Register filters) from other none = quiet pool _ s.pools s.pools _ refl refl refl
accepted-raises reads limits s pool app (SendEvent id kind text) from other none = quiet pool _ s.pools s.pools _ refl refl refl
accepted-raises reads limits s pool app (ResetFilter id) from other none = quiet pool _ s.pools s.pools _ refl refl refl
accepted-raises reads limits s pool app (LogMode mode) from other none = quiet pool _ s.pools s.pools _ refl refl refl
accepted-raises reads limits s pool app ClearLog from other none = quiet pool _ s.pools s.pools _ refl refl refl
accepted-raises reads limits s pool app Housekeeping from other none =
    let made = sent_along limits (route s.subscriptions (message_id (packet_in limits s))) (sending_from reads s app (packet_in limits s) true) s in
    quiet pool Housekeeping s.pools ((made.1).pools) (made.0) refl refl
    (along-same limits (route s.subscriptions (message_id (packet_in limits s))) (sending_from reads s app (packet_in limits s) true) s)
accepted-raises reads limits s pool app Figures from other none = quiet pool _ s.pools s.pools _ refl refl refl
accepted-raises reads limits s pool app End from other none = end-raises s.pools pool app

-- Histories. --

-- a call raises the counts of a pool by its own kind
step-raises : (limits : Limits) (history : List Entry) (s : State) (pool app : ℕ) (call : Call) → 1 ≤ pool → All IsNumbered s.pools.pools →
    Raises pool call s.pools (((step limits history s app call).1).pools) ((step limits history s app call).0)
step-raises limits history s pool app call from counts =
    let raises = by_call call (is_return call) refl in
    record { requests = raises.requests; errors = raises.errors }
  where
    reads : Reads
    reads = reads_after limits history

    Does : (call : Call) → BusAnswer × State → Type 0
    Does call made = Raises pool call s.pools ((made.1).pools) (made.0)

    by_option : (number grant : ℕ) (o : Option EsStatus) → Raises pool (PoolPut number grant) s.pools (with_pool s.pools number (after_put (pool_in s.pools number) grant)) (return_answer o) →
        Does (PoolPut number grant) (decided_with reads limits s app (PoolPut number grant) (by_pools o))
    by_option number grant None raises = raises
    by_option number grant (Some status) raises = raises

    by_cause : (call : Call) (why : Option Refusal) → cause limits s app call ≡ why → is_return call ≡ false → Does call (decided_with reads limits s app call why)
    by_cause call None none other = accepted-raises reads limits s pool app call from other none
    by_cause call (Some why) some other = refused-raises s pool call why other

    returns : (call : Call) → is_return call ≡ true → Does call (decided_with reads limits s app call (cause limits s app call))
    returns (PoolPut number grant) is = by_option number grant (pool_put_cause s number grant) (put-raises s.pools pool number grant from counts)
    returns call is = absurd (true≢false (sym is))

    by_call : (call : Call) (b : Bool) → is_return call ≡ b → Does call (decided_with reads limits s app call (cause limits s app call))
    by_call call true is = returns call is
    by_call call false is = by_cause call (cause limits s app call) refl is

-- a count that was so many, at most the largest, and one more if the test holds
raised-more : (b : Bool) (n : ℕ) → raised b (min n (2 ^ 32 - 1)) ≡ min (n + cond {A = ℕ} b 1 0) (2 ^ 32 - 1)
raised-more true n = omega arith
raised-more false n = omega arith

-- the counts of a pool behind more entries
record Counts (pool n m : ℕ) (s : Pools) : Type 0 where
  pub requests : (pool_in s pool).requests ≡ min n (2 ^ 32 - 1)
  pub errors : (pool_in s pool).errors ≡ min m (2 ^ 32 - 1)

counts-step : (limits : Limits) (history : List Entry) (s : State) (pool n m : ℕ) (e : Entry) → 1 ≤ pool → All IsNumbered s.pools.pools →
    e.answer ≡ (step limits history s e.app e.call).0 → Counts pool n m s.pools →
    Counts pool (n + cond {A = ℕ} (gets_grant pool e.call e.answer) 1 0) (m + cond {A = ℕ} (is_refused_return pool e.call e.answer) 1 0) ((step limits history s e.app e.call).1).pools
counts-step limits history s pool n m e from counted_all answered counts =
    let next = ((step limits history s e.app e.call).1).pools in
    let raises = subst (Raises pool e.call s.pools next) (sym answered) (step-raises limits history s pool e.app e.call from counted_all) in
    record {
      requests = raises.requests ∙ ap (raised (gets_grant pool e.call e.answer)) counts.requests ∙ raised-more (gets_grant pool e.call e.answer) n;
      errors = raises.errors ∙ ap (raised (is_refused_return pool e.call e.answer)) counts.errors ∙ raised-more (is_refused_return pool e.call e.answer) m;
    }

-- a count of an entry more
pub count-more : (p : Entry → Bool) (e : Entry) (es : List Entry) → count_by p (e ∷ es) ≡ cond {A = ℕ} (p e) 1 0 + count_by p es
count-more p e es =
    sum_by-append (λ (x : Entry). cond {A = ℕ} (p x) 1 0) (e ∷ []) es ∙ ap (λ n. n + count_by p es) (zero-add (cond {A = ℕ} (p e) 1 0))

counts-from : (limits : Limits) (history : List Entry) (s : State) (es : List Entry) (pool n m : ℕ) → 1 ≤ pool → ArePools limits (length history) s.pools →
    LegalFrom limits history s es → Counts pool n m s.pools →
    Counts pool (n + count_by (λ e. gets_grant pool e.call e.answer) es) (m + count_by (λ e. is_refused_return pool e.call e.answer) es) (state_from limits history s es).pools
counts-from limits history s [] pool n m from are legal counts = record {
  requests = counts.requests ∙ ap (λ k. min k (2 ^ 32 - 1)) (omega arith);
  errors = counts.errors ∙ ap (λ k. min k (2 ^ 32 - 1)) (omega arith);
}
counts-from limits history s (e ∷ es) pool n m from are legal counts =
    let next = (step limits history s e.app e.call).1 in
    let got = cond {A = ℕ} (gets_grant pool e.call e.answer) 1 0 in
    let refused = cond {A = ℕ} (is_refused_return pool e.call e.answer) 1 0 in
    let now = subst (λ k. ArePools limits k next.pools) (sym (length_push history e)) (ArePools-step limits history s e.app e.call (length history) are) in
    let rest = counts-from limits (history ++ e ∷ []) next es pool (n + got) (m + refused) from now legal.4 (counts-step limits history s pool n m e from are.numbered legal.1 counts) in
    record {
      requests = rest.requests ∙ ap (λ k. min k (2 ^ 32 - 1)) (omega (arith, count-more (λ x. gets_grant pool x.call x.answer) e es));
      errors = rest.errors ∙ ap (λ k. min k (2 ^ 32 - 1)) (omega (arith, count-more (λ x. is_refused_return pool x.call x.answer) e es));
    }

counts-after : (limits : Limits) (apps pool : ℕ) (history : List Entry) → IsLegal limits apps history → 1 ≤ pool →
    Counts pool (0 + count_by (λ e. gets_grant pool e.call e.answer) history) (0 + count_by (λ e. is_refused_return pool e.call e.answer) history) (state_after limits apps history).pools
counts-after limits apps pool history legal from =
    counts-from limits [] (opening limits apps) history pool 0 0 from (ArePools-opening limits apps) legal (opens (pool - 1))
  where
    opens : (at : ℕ) → Counts pool 0 0 (opening limits apps).pools
    opens at = record { requests = refl; errors = refl }

-- a pool's requests are the entries that it gave a grant
pub requests_are_read : (limits : Limits) (apps pool : ℕ) (history : List Entry) → IsLegal limits apps history → 1 ≤ pool →
    (account_after limits apps history pool).requests ≡ count_of (gets_grant pool) history
requests_are_read limits apps pool history legal from =
    (counts-after limits apps pool history legal from).requests ∙ ap (λ n. min n (2 ^ 32 - 1)) (zero-add (count_by (λ e. gets_grant pool e.call e.answer) history))

-- and its errors those whose return it refused
pub errors_are_read : (limits : Limits) (apps pool : ℕ) (history : List Entry) → IsLegal limits apps history → 1 ≤ pool →
    (account_after limits apps history pool).errors ≡ count_of (is_refused_return pool) history
errors_are_read limits apps pool history legal from =
    (counts-after limits apps pool history legal from).errors ∙ ap (λ n. min n (2 ^ 32 - 1)) (zero-add (count_by (λ e. is_refused_return pool e.call e.answer) history))
