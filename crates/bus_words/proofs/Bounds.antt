-- The bounds that the limits set hold after every history.
use Rattle.std.proofs.Common.{◌≡◌, ℕ, ◌+◌, ◌<◌, ◌≤◌, ◌==◌, ◌&&◌, ◌||◌, not, Bool, true, false, cond, if◌then◌else◌, List, [], ◌∷◌, ◌++◌, length, filter, drop, Option, None, refl, ap, ◌∙◌, subst, arith, length-append}
use Rattle.std.specs.Prelude.{nat_le, nat_lt}
use Rattle.std.specs.List.{AllByRecursion}
use Rattle.std.proofs.lemmas.List.{length-map, length-drop, length_push}
use Rattle.std.proofs.lemmas.List.Elements.{filter-append}
use Rattle.std.proofs.lemmas.List.Sums.{length-filter, count_by-le-length}
use Rattle.std.proofs.lemmas.Bool.Decides.{nat_tests}
use Rattle.fsw_base.specs.declared.statuses.SbStatus.{SbStatus}
use Rattle.fsw_base.specs.declared.statuses.SbStatus.TheVariants.{BadArgument, MaxPipesMet, PipeCrErr, MaxMsgsMet, MaxDestsMet}
use Rattle.fsw_base.specs.Limits.{Limits}
use Rattle.ccsds_msg.specs.Message.{is_valid_id}
use Rattle.bus_words.specs.declared.history.Call.{Call}
use Rattle.bus_words.specs.declared.history.Entry.{Entry}
use Rattle.bus_words.specs.Bus.{Pipe, Subscription, State, Sending, opening, owns, with_pipe, with_bits, is_named, route, is_subscribed, has_route, ignores_own, waiting_of, item_for, offered, deliver, after_receive}
use Rattle.bus_words.specs.Pipes.{drops_oldest, queue_after}
use Rattle.bus_words.specs.declared.verdict.Verdict.TheVariants.{Skip, OverLimit, In, Oldest, Full}
use Rattle.bus_words.specs.Machine.{refused_if, create_cause, subscribe_cause, step, state_after}
use Rattle.bus_words.proofs.Steps.{refused_if-none, after_step, state_from-keeps}

-- Tests. --

pub neither : (a b : Bool) → (a || b) ≡ false → (a ≡ false) × (b ≡ false)
neither true b is = cc
neither false b is = (refl, is)

le-false : (a b : ℕ) → nat_le a b ≡ false → b < a
le-false a b is = grind (arith, nat_tests)

pub lt-false : (a b : ℕ) → nat_lt a b ≡ false → b ≤ a
lt-false a b is = grind (arith, nat_tests)

lt-true : (a b : ℕ) → nat_lt a b ≡ true → a < b
lt-true a b is = grind (arith, nat_tests)

eq-true : (a b : ℕ) → (a == b) ≡ true → a ≡ b
eq-true a b is = grind (arith, nat_tests)

-- Lists. --

pub by_push : {X : Type 0} (P : X → Type 0) (xs : List X) (x : X) → AllByRecursion P xs → P x → AllByRecursion P (xs ++ x ∷ [])
by_push P [] x all one = (one, tt)
by_push P (y ∷ xs) x all one = (all.0, by_push P xs x all.1 one)

pub by_filter : {X : Type 0} (P : X → Type 0) (p : X → Bool) (xs : List X) → AllByRecursion P xs → AllByRecursion P (filter p xs)
by_filter P p [] all = tt
by_filter {X} P p (x ∷ xs) all =
    elim (p x) as (λ b. AllByRecursion P (cond {A = List X} b (x ∷ filter p xs) (filter p xs))) [
      | true ↦ (all.0, by_filter P p xs all.1)
      | false ↦ by_filter P p xs all.1
    ]

-- a filter of fewer passes no more
length-filter_of_filter : {X : Type 0} (p q : X → Bool) (xs : List X) → length (filter q (filter p xs)) ≤ length (filter q xs)
length-filter_of_filter p q [] = omega arith
length-filter_of_filter {X} p q (x ∷ xs) =
    let fewer = length-filter_of_filter p q xs in
    elim (p x) as (λ b. length (filter q (cond {A = List X} b (x ∷ filter p xs) (filter p xs))) ≤ length (filter q (x ∷ xs))) [
      | true ↦ elim (q x) as (λ c. length (cond {A = List X} c (x ∷ filter q (filter p xs)) (filter q (filter p xs))) ≤ length (cond {A = List X} c (x ∷ filter q xs) (filter q xs))) [ true ↦ omega arith | false ↦ fewer ]
      | false ↦ elim (q x) as (λ c. length (filter q (filter p xs)) ≤ length (cond {A = List X} c (x ∷ filter q xs) (filter q xs))) [ true ↦ omega arith | false ↦ fewer ]
    ]

-- Pipes. --

-- a pipe of an allowed depth and a name of an allowed length, on which no more messages wait than it holds
pub record PipeFits (limits : Limits) (pipe : Pipe) : Type 0 where
  pub some : 1 ≤ pipe.depth
  pub depth : pipe.depth ≤ limits.depth
  pub named : 1 ≤ length pipe.name
  pub name : length pipe.name ≤ 19
  pub queue : length pipe.queue ≤ pipe.depth

-- every such pipe stays one when it is offered a message
pub PipeFits-offered : (limits : Limits) (sending : Sending) (sub : Subscription) (pipe : Pipe) → PipeFits limits pipe → PipeFits limits (offered sending sub pipe)
PipeFits-offered limits sending sub pipe fits = record {
  some = fits.some;
  depth = fits.depth;
  named = fits.named;
  name = fits.name;
  queue = at (ignores_own pipe && pipe.owner == sending.sender) (nat_le sub.limit (waiting_of pipe sub.number)) (nat_lt (length pipe.queue) pipe.depth) (drops_oldest pipe) refl;
}
  where
    at : (skips over room drops : Bool) → nat_lt (length pipe.queue) pipe.depth ≡ room →
        length (queue_after (if skips then Skip else if over then OverLimit else if room then In else if drops then Oldest else Full) (item_for sending sub) pipe.queue) ≤ pipe.depth
    at true over room drops is = fits.queue
    at false true room drops is = fits.queue
    at false false true drops is = omega (arith, length_push pipe.queue (item_for sending sub), lt-true (length pipe.queue) pipe.depth is)
    at false false false true is = omega (arith, length_push (drop 1 pipe.queue) (item_for sending sub), length-drop 1 pipe.queue, fits.queue, fits.some)
    at false false false false is = fits.queue

-- and when a message is received on it
pub PipeFits-after_receive : (limits : Limits) (pipe : Pipe) → PipeFits limits pipe → PipeFits limits (after_receive pipe)
PipeFits-after_receive limits pipe fits = record {
  some = fits.some;
  depth = fits.depth;
  named = fits.named;
  name = fits.name;
  queue = omega (arith, length-drop 1 pipe.queue);
}

-- and when its option bits are set
pub PipeFits-with_bits : (limits : Limits) (bits : ℕ) (pipe : Pipe) → PipeFits limits pipe → PipeFits limits (with_bits bits pipe)
PipeFits-with_bits limits bits pipe fits = record {
  some = fits.some;
  depth = fits.depth;
  named = fits.named;
  name = fits.name;
  queue = fits.queue;
}

pub all-with_pipe : (P : Pipe → Type 0) (change : Pipe → Pipe) → ((pipe : Pipe) → P pipe → P (change pipe)) → (number : ℕ) (pipes : List Pipe) →
    AllByRecursion P pipes → AllByRecursion P (with_pipe change number pipes)
all-with_pipe P change keeps number [] all = tt
all-with_pipe P change keeps number (pipe ∷ pipes) all = (
  elim (pipe.number == number) as (λ b. P (cond {A = Pipe} b (change pipe) pipe)) [ true ↦ keeps pipe all.0 | false ↦ all.0 ],
  all-with_pipe P change keeps number pipes all.1,
)

all-deliver : (limits : Limits) (sending : Sending) (subs : List Subscription) (pipes : List Pipe) →
    AllByRecursion (PipeFits limits) pipes → AllByRecursion (PipeFits limits) (deliver sending subs pipes)
all-deliver limits sending [] pipes all = all
all-deliver limits sending (sub ∷ subs) pipes all =
    all-deliver limits sending subs (with_pipe (offered sending sub) sub.pipe pipes)
    (all-with_pipe (PipeFits limits) (offered sending sub) (PipeFits-offered limits sending sub) sub.pipe pipes all)

pub length-with_pipe : (change : Pipe → Pipe) (number : ℕ) (pipes : List Pipe) → length (with_pipe change number pipes) ≡ length pipes
length-with_pipe change number pipes = length-map pipes _

pub length-deliver : (sending : Sending) (subs : List Subscription) (pipes : List Pipe) → length (deliver sending subs pipes) ≡ length pipes
length-deliver sending [] pipes = refl
length-deliver sending (sub ∷ subs) pipes =
    length-deliver sending subs (with_pipe (offered sending sub) sub.pipe pipes) ∙ length-with_pipe (offered sending sub) sub.pipe pipes

-- The whole bus. --

-- no more pipes, routed ids and subscriptions of an id than the limits allow, and each pipe fits them
pub record IsWithin (limits : Limits) (s : State) : Type 0 where
  pub pipes : length s.pipes ≤ limits.pipes
  pub each : AllByRecursion (PipeFits limits) s.pipes
  pub routed : length s.routed ≤ limits.msgids
  pub routes : (id : ℕ) → length (route s.subscriptions id) ≤ limits.dests

-- what the refusals of a create that don't come say
pub record MayCreate (limits : Limits) (s : State) (depth : ℕ) (name : List ℕ) : Type 0 where
  pub some : 1 ≤ depth
  pub deep : depth ≤ limits.depth
  pub named : 1 ≤ length name
  pub short : length name ≤ 19
  pub room : length s.pipes < limits.pipes
  pub new : is_named s.pipes name ≡ false

pub create_cause-none : (limits : Limits) (s : State) (depth : ℕ) (name : List ℕ) → create_cause limits s depth name ≡ None → MayCreate limits s depth name
create_cause-none limits s depth name none =
    let first = refused_if-none (depth == 0 || nat_lt limits.depth depth || length name == 0 || nat_lt 19 (length name)) BadArgument _ none in
    let second = refused_if-none (nat_le limits.pipes (length s.pipes)) MaxPipesMet _ first.1 in
    let third = refused_if-none (is_named s.pipes name) PipeCrErr None second.1 in
    let long = neither (depth == 0 || nat_lt limits.depth depth || length name == 0) (nat_lt 19 (length name)) first.0 in
    let empty = neither (depth == 0 || nat_lt limits.depth depth) (length name == 0) long.0 in
    let deep = neither (depth == 0) (nat_lt limits.depth depth) empty.0 in
    record {
      some = nonzero depth deep.0;
      deep = lt-false limits.depth depth deep.1;
      named = nonzero (length name) empty.1;
      short = lt-false 19 (length name) long.1;
      room = le-false limits.pipes (length s.pipes) second.0;
      new = third.0;
    }
  where
    nonzero : (n : ℕ) → (n == 0) ≡ false → 1 ≤ n
    nonzero n is = grind (arith, nat_tests)

-- what the refusals of a new subscription that don't come say
pub record MaySubscribe (limits : Limits) (s : State) (app id pipe : ℕ) : Type 0 where
  pub valid : is_valid_id id ≡ true
  pub owned : owns s.pipes app pipe ≡ true
  pub known : (not (has_route s.routed id) && nat_le limits.msgids (length s.routed)) ≡ false
  pub room : length (route s.subscriptions id) < limits.dests

pub subscribe_cause-none : (limits : Limits) (s : State) (app id pipe : ℕ) → subscribe_cause limits s app id pipe ≡ None → is_subscribed s.subscriptions id pipe ≡ false →
    MaySubscribe limits s app id pipe
subscribe_cause-none limits s app id pipe none new =
    let first = refused_if-none (not (is_valid_id id) || not (owns s.pipes app pipe)) BadArgument _ none in
    let others : Option SbStatus = refused_if (not (has_route s.routed id) && nat_le limits.msgids (length s.routed)) MaxMsgsMet (refused_if (nat_le limits.dests (length (route s.subscriptions id))) MaxDestsMet None) in
    let rest : others ≡ None = subst (λ b. cond {A = Option SbStatus} b None others ≡ None) new first.1 in
    let second = refused_if-none (not (has_route s.routed id) && nat_le limits.msgids (length s.routed)) MaxMsgsMet _ rest in
    let third = refused_if-none (nat_le limits.dests (length (route s.subscriptions id))) MaxDestsMet None second.1 in
    let both = neither (not (is_valid_id id)) (not (owns s.pipes app pipe)) first.0 in
    record {
      valid = not-false (is_valid_id id) both.0;
      owned = not-false (owns s.pipes app pipe) both.1;
      known = second.0;
      room = le-false limits.dests (length (route s.subscriptions id)) third.0;
    }
  where
    not-false : (b : Bool) → not b ≡ false → b ≡ true
    not-false true is = refl
    not-false false is = cc

routed-more : (limits : Limits) (routed : List ℕ) (id : ℕ) (known : Bool) → (not known && nat_le limits.msgids (length routed)) ≡ false → length routed ≤ limits.msgids →
    length (cond {A = List ℕ} known routed (routed ++ id ∷ [])) ≤ limits.msgids
routed-more limits routed id true room within = within
routed-more limits routed id false room within = omega (arith, length_push routed id, le-false limits.msgids (length routed) room)

routes-more : (limits : Limits) (subs : List Subscription) (sub : Subscription) → length (route subs sub.id) < limits.dests → ((id : ℕ) → length (route subs id) ≤ limits.dests) →
    (id : ℕ) → length (route (subs ++ sub ∷ []) id) ≤ limits.dests
routes-more limits subs sub room within id =
    let split = ap length (filter-append (λ (x : Subscription). x.id == id) subs (sub ∷ [])) ∙ length-append (route subs id) (route (sub ∷ []) id) in
    omega (arith, split, at (sub.id == id) refl)
  where
    at : (same : Bool) → (sub.id == id) ≡ same → length (route subs id) + length (cond {A = List Subscription} same (sub ∷ []) []) ≤ limits.dests
    at true is = let e = ap (λ n. length (route subs n)) (eq-true sub.id id is) in omega arith
    at false is = omega (arith, within id)

-- a step stays within the limits
pub IsWithin-step : (limits : Limits) (history : List Entry) (s : State) (app : ℕ) (call : Call) → IsWithin limits s → IsWithin limits ((step limits history s app call).1)
IsWithin-step limits history s app call within =
    after_step (IsWithin limits) limits history s app call (record {
      same = within;
      creates = λ depth name none.
          let may = create_cause-none limits s depth name none in
          let new : Pipe = record { number = s.pipes_created + 1; name = name; owner = app; depth = depth; bits = 0; queue = []; last = None } in record {
            pipes = omega (arith, length_push s.pipes new);
            each = by_push (PipeFits limits) s.pipes new within.each (record { some = may.some; depth = may.deep; named = may.named; name = may.short; queue = omega arith });
            routed = within.routed;
            routes = within.routes;
          };
      subscribes = λ id pipe limit scope none new. let may = subscribe_cause-none limits s app id pipe none new in record {
        pipes = within.pipes;
        each = within.each;
        routed = routed-more limits s.routed id (has_route s.routed id) may.known within.routed;
        routes = routes-more limits s.subscriptions _ may.room within.routes;
      };
      sends = λ sending id who number room. record {
        pipes = omega (arith, length-deliver sending (route s.subscriptions id) s.pipes);
        each = all-deliver limits sending (route s.subscriptions id) s.pipes within.each;
        routed = within.routed;
        routes = within.routes;
      };
      receives = λ pipe. record {
        pipes = omega (arith, length-with_pipe after_receive pipe s.pipes);
        each = all-with_pipe (PipeFits limits) after_receive (PipeFits-after_receive limits) pipe s.pipes within.each;
        routed = within.routed;
        routes = within.routes;
      };
      deletes = λ pipe none. record {
        pipes = omega (arith, length-filter (λ (p : Pipe). not (p.number == pipe)) s.pipes, count_by-le-length (λ (p : Pipe). not (p.number == pipe)) s.pipes);
        each = by_filter (PipeFits limits) (λ p. not (p.number == pipe)) s.pipes within.each;
        routed = within.routed;
        routes = λ id. let fewer = length-filter_of_filter (λ (x : Subscription). not (x.pipe == pipe)) (λ (x : Subscription). x.id == id) s.subscriptions in omega (arith, within.routes id);
      };
      sets = λ pipe bits none. record {
        pipes = omega (arith, length-with_pipe (with_bits bits) pipe s.pipes);
        each = all-with_pipe (PipeFits limits) (with_bits bits) (PipeFits-with_bits limits bits) pipe s.pipes within.each;
        routed = within.routed;
        routes = within.routes;
      };
      unsubscribes = λ id pipe none. record {
        pipes = within.pipes;
        each = within.each;
        routed = within.routed;
        routes = λ other. let fewer = length-filter_of_filter (λ (x : Subscription). not (x.id == id && x.pipe == pipe)) (λ (x : Subscription). x.id == other) s.subscriptions in omega (arith, within.routes other);
      };
      stands = λ pipe standing going. record {
        pipes = omega (arith, length-with_pipe after_receive pipe s.pipes);
        each = all-with_pipe (PipeFits limits) after_receive (PipeFits-after_receive limits) pipe s.pipes within.each;
        routed = within.routed;
        routes = within.routes;
      };
      ends = record {
        pipes = omega (arith, length-filter (λ (p : Pipe). not (p.owner == app)) s.pipes, count_by-le-length (λ (p : Pipe). not (p.owner == app)) s.pipes);
        each = by_filter (PipeFits limits) (λ p. not (p.owner == app)) s.pipes within.each;
        routed = within.routed;
        routes = λ id. let fewer = length-filter_of_filter (λ (x : Subscription). not (owns s.pipes app x.pipe)) (λ (x : Subscription). x.id == id) s.subscriptions in omega (arith, within.routes id);
      };
      pools = λ next follows. record { pipes = within.pipes; each = within.each; routed = within.routed; routes = within.routes };
      allocates = λ size none. record { pipes = within.pipes; each = within.each; routed = within.routed; routes = within.routes };
      leaves = λ buf has. record { pipes = within.pipes; each = within.each; routed = within.routed; routes = within.routes };
      records = λ t desk statistics is. record { pipes = is.pipes; each = is.each; routed = is.routed; routes = is.routes };
      passes = λ sending id who has asked. record {
        pipes = omega (arith, length-deliver sending (route s.subscriptions id) s.pipes);
        each = all-deliver limits sending (route s.subscriptions id) s.pipes within.each;
        routed = within.routed;
        routes = within.routes;
      };
    })

-- every history stays within the limits
pub IsWithin-after : (limits : Limits) (apps : ℕ) (history : List Entry) → IsWithin limits (state_after limits apps history)
IsWithin-after limits apps history =
    state_from-keeps (IsWithin limits) limits (IsWithin-step limits) [] (opening limits apps) history
    (record { pipes = omega arith; each = tt; routed = omega arith; routes = λ id. omega arith })
