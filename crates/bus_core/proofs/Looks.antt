-- What a receive that may wait leaves, and a look.
use Rattle.std.proofs.Common.{add-one, zero, suc, ◌≡◌, ℕ, ◌+◌, ◌-◌, ◌<◌, ◌≤◌, Bool, true, false, ◌&&◌, not, cond, if◌then◌else◌, List, [], ◌∷◌, length, map, set, take, drop, Some, None, refl, ap, sym, ◌∙◌, subst, arith, Vec, Global}
use Rattle.std.specs.List.{list_all}
use Rattle.std.proofs.lemmas.List.{map-set, length-set}
use Rattle.std.proofs.lemmas.List.Folds.{list_all-map}
use Rattle.fsw_base.specs.Limits.{limits_of}
use Rattle.fsw_base.specs.declared.statuses.SbStatus.{SbStatus}
use Rattle.fsw_base.specs.declared.statuses.SbStatus.TheVariants.{BadArgument}
use Rattle.housekeeping.specs.declared.names.CounterName.TheVariants as counters
use Rattle.bus_words.specs.declared.calls.BusAnswer.{BusAnswer}
use Rattle.bus_words.specs.declared.calls.BusAnswer.TheVariants.{Got, TimeOut, Pending, Sb}
use Rattle.bus_words.specs.declared.history.Call.TheVariants.{Pend, Look}
use Rattle.bus_words.specs.Counters.{refusal_counter}
use Rattle.bus_words.specs.Bus.{State, Standing, Active, Waiting, owns, with_pipe, after_receive, is_empty, is_idle, others_idle, with_standing}
use Rattle.bus_words.specs.Machine.{refused_if, unowned_cause, received, oldest_number, pended_answer, pended, looked}
use Rattle.bus_messages.specs.Store.{Store}
use Rattle.bus_words.specs.Pipes.{IsRising}
use Rattle.bus_messages.specs.Words.{with_held}
use Rattle.bus_core.specs.declared.plain.PlainBus.TheInside.{Inside}
use Rattle.bus_core.specs.declared.receiving.Pended.{Pended}
use Rattle.bus_core.specs.declared.receiving.Pended.TheVariants as waits
use Rattle.bus_core.specs.declared.activities.Activity.{Activity}
use Rattle.bus_core.specs.declared.activities.Activity.TheVariants as activities
use Rattle.bus_core.specs.Answers.{waited, is_pending}
use Rattle.bus_core.specs.Inside.{means, AreInOrder, IsReady, AreReady}
use Rattle.bus_core.specs.Rows.{standing_in, activity_at, idle_in}
use Rattle.bus_core.proofs.CallLaws.{bare, accepted_by}
use Rattle.bus_core.proofs.Changes.{received_keeps}
use Rattle.bus_core.proofs.Owners.{owns_changed, last_received}
use Rattle.bus_core.proofs.WaitingApplications.{ready_set, ready_others, ready_received}
use Rattle.bus_core.proofs.Waits.{oldest_told, empty-none, empty-some, oldest-some, none-told}

-- The others. --

-- all but one pass if all before it pass and all behind it
pub others_beside : {X : Type 0} (p : X → Bool) (xs : List X) (i : ℕ) (y : X) → i < length xs → p y ≡ true →
    (list_all p (take i xs) && list_all p (drop (i + 1) xs)) ≡ list_all p (set xs i y)
others_beside {X} p xs i y within passes = rw add-one (beside xs i within)
  where
    by : (a b c : Bool) → ((a && b) && c) ≡ (a && (b && c))
    by true b c = refl
    by false b c = refl

    beside : (xs : List X) (i : ℕ) → i < length xs → (list_all p (take i xs) && list_all p (drop (suc i) xs)) ≡ list_all p (set xs i y)
    beside [] i within = absurd (omega (arith, within))
    beside (x ∷ xs) zero within = sym (ap (λ b. b && list_all p xs) passes)
    beside (x ∷ xs) (suc i) within =
        by (p x) (list_all p (take i xs)) (list_all p (drop (suc i) xs)) ∙ ap (λ b. p x && b) (beside xs i (omega (arith, within)))

-- Answers. --

-- whether all others are idle
pub others_idle-acts : (a : Inside) (app : ℕ) → others_idle (means a).bus app ≡ list_all (idle_in a.store.pipes) (set a.activities.items (app - 1) activities.Ended)
others_idle-acts a app =
    ap (list_all (is_idle a.store.pipes)) (sym (map-set standing_in a.activities.items (app - 1) activities.Ended))
    ∙ list_all-map (is_idle a.store.pipes) standing_in (set a.activities.items (app - 1) activities.Ended)

-- the answer, by whether the pipe is empty and the others are idle
abbrev answer_by : Bool → Bool → ℕ → BusAnswer
answer_by empty idle number = if not empty then Got number else if idle then TimeOut else Pending

-- a message waits
pub pended-some : (a : Inside) (app pipe number : ℕ) → oldest_told a.store.pipes pipe ≡ Some number → pended_answer (means a).bus app pipe ≡ Got number
pended-some a app pipe number some =
    ap (λ b. answer_by b (others_idle (means a).bus app) (oldest_number a.store.pipes pipe)) (empty-some a.store.pipes pipe number some)
    ∙ ap Got (oldest-some a.store.pipes pipe number some)

-- none waits
pub pended-none : (a : Inside) (app pipe : ℕ) (idle : Bool) → oldest_told a.store.pipes pipe ≡ None →
    list_all (idle_in a.store.pipes) (set a.activities.items (app - 1) activities.Ended) ≡ idle →
    pended_answer (means a).bus app pipe ≡ (if idle then TimeOut else Pending)
pended-none a app pipe idle none is =
    ap (λ b. answer_by b (others_idle (means a).bus app) (oldest_number a.store.pipes pipe)) (empty-none a.store.pipes pipe none)
    ∙ ap (λ b. answer_by true b (oldest_number a.store.pipes pipe)) (others_idle-acts a app ∙ is)

-- if an answer says that the application waits, the pipe is empty and another is busy
waits_where : (empty idle : Bool) (number : ℕ) (answer : Pended) → waited answer ≡ answer_by empty idle number → (empty && not idle) ≡ is_pending answer
waits_where false idle number (waits.Got n) is = refl
waits_where false idle number waits.TimeOut is = absurd (cc (is))
waits_where false idle number waits.Pending is = absurd (cc (is))
waits_where true true number (waits.Got n) is = absurd (cc (is))
waits_where true true number waits.TimeOut is = refl
waits_where true true number waits.Pending is = absurd (cc (is))
waits_where true false number (waits.Got n) is = absurd (cc (is))
waits_where true false number waits.TimeOut is = absurd (cc (is))
waits_where true false number waits.Pending is = refl

-- the test that makes an application wait
pending-test : (s : State) (app pipe : ℕ) (answer : Pended) → waited answer ≡ pended_answer s app pipe → (is_empty s.pipes pipe && not (others_idle s app)) ≡ is_pending answer
pending-test s app pipe answer is = waits_where (is_empty s.pipes pipe) (others_idle s app) (oldest_number s.pipes pipe) answer is

-- if it waits, the pipe is empty
pub pending_empty : (s : State) (app pipe : ℕ) (answer : Pended) → waited answer ≡ pended_answer s app pipe → is_pending answer ≡ true → is_empty s.pipes pipe ≡ true
pending_empty s app pipe answer is waits = first (is_empty s.pipes pipe) (not (others_idle s app)) (pending-test s app pipe answer is ∙ waits)
  where
    first : (e o : Bool) → (e && o) ≡ true → e ≡ true
    first true o both = refl
    first false o both = both

-- Receives that may wait. --

-- a refused one is counted
pub pend_refused : (pipe : ℕ) (test : Bool) (status : SbStatus) → refused_if test BadArgument None ≡ Some status → refusal_counter (Pend pipe) (Sb status) ≡ counters.Recv ∷ []
pend_refused pipe true status is = let same : BadArgument ≡ status = cc (is) in ap (λ s. refusal_counter (Pend pipe) (Sb s)) (sym same)
pend_refused pipe false status is = absurd (cc (is))

-- one that isn't refused counts nothing
pub pend_counts : (pipe : ℕ) (answer : Pended) → refusal_counter (Pend pipe) (waited answer) ≡ []
pend_counts pipe (waits.Got number) = refl
pend_counts pipe waits.TimeOut = refl
pend_counts pipe waits.Pending = refl

module _ (a : Inside) (next : Store) (acts : Vec Activity Global) (app pipe : ℕ) (answer : Pended)
    (is : next ≡ record a.store { pipes = with_pipe after_receive pipe a.store.pipes; account = with_held a.store.account next.pipes a.store.unsent a.store.numbers_given; loans = next.loans })
    (waits : acts.items ≡ (if is_pending answer then set a.activities.items (app - 1) (activities.Waiting pipe) else a.activities.items))
    (answers : waited answer ≡ pended_answer (means a).bus app pipe) where
  standings_by : (b : Bool) →
      map standing_in (cond {A = List Activity} b (set a.activities.items (app - 1) (activities.Waiting pipe)) a.activities.items)
      ≡ (cond {A = State} b (with_standing (received (means a).bus pipe) app (Waiting pipe)) (received (means a).bus pipe)).standings
  standings_by true = map-set standing_in a.activities.items (app - 1) (activities.Waiting pipe)
  standings_by false = refl

  pend_by : (b : Bool) →
      record (received (means a).bus pipe) { standings = (cond {A = State} b (with_standing (received (means a).bus pipe) app (Waiting pipe)) (received (means a).bus pipe)).standings }
      ≡ cond {A = State} b (with_standing (received (means a).bus pipe) app (Waiting pipe)) (received (means a).bus pipe)
  pend_by true = refl
  pend_by false = refl

  pend_means : means (record a { store = next; activities = acts }) ≡ record (means a) { bus = pended (means a).bus app pipe }
  pend_means =
      ap (λ s. means (record a { store = s; activities = acts })) is
      ∙ ap (λ l. record (means a) { bus = record (received (means a).bus pipe) { standings = map standing_in l } }) waits
      ∙ ap (λ (st : List Standing). record (means a) { bus = record (received (means a).bus pipe) { standings = st } }) (standings_by (is_pending answer))
      ∙ ap (λ (s : State). record (means a) { bus = s }) (pend_by (is_pending answer))
      ∙ ap (λ b. record (means a) { bus = cond {A = State} b (with_standing (received (means a).bus pipe) app (Waiting pipe)) (received (means a).bus pipe) })
      (sym (pending-test (means a).bus app pipe answer answers))

  pub pend_made : unowned_cause (means a).bus app pipe ≡ None → bare (limits_of a.config) (means a) app (Pend pipe) ≡ (waited answer, means (record a { store = next; activities = acts }))
  pend_made why =
      accepted_by (limits_of a.config) (means a) app (Pend pipe) (unowned_cause (means a).bus app pipe) refl why
      ∙ ap (λ x. (x, record (means a) { bus = pended (means a).bus app pipe })) (sym answers)
      ∙ ap (λ w. (waited answer, w)) (sym pend_means)

  pub pend_keeps : AreInOrder a → IsRising 0 a.store.pipes → owns a.store.pipes app pipe ≡ true → activity_at a.activities.items app ≡ activities.Active →
      1 ≤ app → app ≤ length a.activities.items → AreInOrder (record a { store = next; activities = acts })
  pend_keeps keeps rises own active first within =
      received_keeps a next keeps pipe acts is (ap length waits ∙ many (is_pending answer))
      (subst (AreReady (with_pipe after_receive pipe a.store.pipes)) (sym waits) (by_answer (is_pending answer) refl))
    where
      many : (b : Bool) → length (cond {A = List Activity} b (set a.activities.items (app - 1) (activities.Waiting pipe)) a.activities.items) ≡ length a.activities.items
      many true = length-set a.activities.items (app - 1) (activities.Waiting pipe)
      many false = refl

      others : (other number : ℕ) → (other ≡ app → ⊥) → IsReady a.store.pipes other number → IsReady (with_pipe after_receive pipe a.store.pipes) other number
      others other number apart ready = ready_received a.store.pipes other number ready app pipe rises own apart

      its_own : is_pending answer ≡ true → (number : ℕ) → activities.Waiting pipe ≡ activities.Waiting number → IsReady (with_pipe after_receive pipe a.store.pipes) app number
      its_own pending number same =
          let here : pipe ≡ number = cc (same) in
          subst (IsReady (with_pipe after_receive pipe a.store.pipes) app) here
          (record {
            own = owns_changed after_receive (λ p. refl) pipe (λ p. refl) a.store.pipes app pipe ∙ own;
            none = last_received a.store.pipes pipe ∙ none-told a.store.pipes pipe (pending_empty (means a).bus app pipe answer answers pending);
          })

      by_answer : (b : Bool) → is_pending answer ≡ b →
          AreReady (with_pipe after_receive pipe a.store.pipes) (cond {A = List Activity} b (set a.activities.items (app - 1) (activities.Waiting pipe)) a.activities.items)
      by_answer true pending = ready_set a.store.pipes (with_pipe after_receive pipe a.store.pipes) a.activities.items keeps.ready app (activities.Waiting pipe) first within (its_own pending) others
      by_answer false pending = ready_others a.store.pipes (with_pipe after_receive pipe a.store.pipes) a.activities.items keeps.ready app active others

-- Looks. --

module _ (a : Inside) (next : Store) (acts : Vec Activity Global) (app pipe : ℕ)
    (is : next ≡ record a.store { pipes = with_pipe after_receive pipe a.store.pipes; account = with_held a.store.account next.pipes a.store.unsent a.store.numbers_given; loans = next.loans })
    (active : acts.items ≡ set a.activities.items (app - 1) activities.Active) where
  pub look_made : (answer : Pended) → is_pending answer ≡ false → waited answer ≡ pended_answer (means a).bus app pipe →
      bare (limits_of a.config) (means a) app (Look pipe) ≡ (waited answer, means (record a { store = next; activities = acts }))
  look_made answer found answers =
      let look_means : means (record a { store = next; activities = acts }) ≡ record (means a) { bus = looked (means a).bus app pipe } =
      ap (λ s. means (record a { store = s; activities = acts })) is
      ∙ ap (λ l. record (means a) { bus = record (received (means a).bus pipe) { standings = map standing_in l } }) active
      ∙ ap (λ (st : List Standing). record (means a) { bus = record (received (means a).bus pipe) { standings = st } }) (map-set standing_in a.activities.items (app - 1) activities.Active)
      ∙ ap (λ b. record (means a) { bus = cond {A = State} b (means a).bus (with_standing (received (means a).bus pipe) app Active) }) (sym (pending-test (means a).bus app pipe answer answers ∙ found)) in
      ap (λ x. (x, record (means a) { bus = looked (means a).bus app pipe })) (sym answers)
      ∙ ap (λ w. (waited answer, w)) (sym look_means)

  pub look_keeps : AreInOrder a → IsRising 0 a.store.pipes → owns a.store.pipes app pipe ≡ true → 1 ≤ app → app ≤ length a.activities.items → AreInOrder (record a { store = next; activities = acts })
  look_keeps keeps rises own first within =
      received_keeps a next keeps pipe acts is (ap length active ∙ length-set a.activities.items (app - 1) activities.Active)
      (subst (AreReady (with_pipe after_receive pipe a.store.pipes)) (sym active)
      (ready_set a.store.pipes (with_pipe after_receive pipe a.store.pipes) a.activities.items keeps.ready app activities.Active first within
      (λ number wrong. absurd (cc (wrong)))
      (λ other number apart ready. ready_received a.store.pipes other number ready app pipe rises own apart)))

-- one that finds nothing
pub look_still : (a : Inside) (app pipe : ℕ) (answer : Pended) → is_pending answer ≡ true → waited answer ≡ pended_answer (means a).bus app pipe →
    bare (limits_of a.config) (means a) app (Look pipe) ≡ (waited answer, means a)
look_still a app pipe answer pending answers =
    let s = (means a).bus in
    ap (λ x. (x, record (means a) { bus = looked s app pipe })) (sym answers)
    ∙ ap (λ b. (waited answer, record (means a) { bus = cond {A = State} b s (with_standing (received s pipe) app Active) })) (pending-test s app pipe answer answers ∙ pending)
