-- What ties subscriptions to pipes after every history: each one's pipe is live, and no two are of one id and pipe.
use Rattle.std.proofs.Common.{◌≡◌, ℕ, ◌+◌, ◌==◌, ◌&&◌, ◌||◌, not, Bool, true, false, cond, true≢false, eqb-true, List, [], ◌∷◌, ◌++◌, map, filter, Option, None, refl, ap, sym, ◌∙◌}
use Rattle.std.specs.List.{list_any}
use Rattle.std.specs.Option.{is_some}
use Rattle.fsw_base.specs.declared.statuses.SbStatus.{SbStatus}
use Rattle.fsw_base.specs.Limits.{Limits}
use Rattle.ccsds_msg.specs.Message.{is_valid_id}
use Rattle.bus_words.specs.declared.history.Call.{Call}
use Rattle.bus_words.specs.declared.history.Entry.{Entry}
use Rattle.bus_words.specs.Bus.{Pipe, Subscription, State, opening, with_bits, route, is_subscribed, is_live, owns, after_receive}
use Rattle.bus_words.specs.Machine.{subscribe_cause, refused_if, step, state_after}
use Rattle.bus_words.proofs.Finds.{Each, Each-push, Each-drop, Each-kept, neither, not_false, not_true, same-sym, any-map, any-push, any-filter_none, any-rest, any-same, any-none}
use Rattle.bus_words.proofs.Steps.{after_step, state_from-keeps, pipe_numbers-deliver, pipe_numbers-with_pipe}

-- no two of the subscriptions are of one id and pipe
abbrev pub ArePairs : List Subscription → Type 0
ArePairs [] = Unit {0}
ArePairs (sub ∷ subs) = (is_subscribed subs sub.id sub.pipe ≡ false) × ArePairs subs

-- each live subscription's pipe is live, and no two are of one id and pipe
pub record AreTied (s : State) : Type 0 where
  pub pairs : ArePairs s.subscriptions
  pub live : Each (λ sub. is_live s.pipes sub.pipe ≡ true) s.subscriptions

ArePairs-push : (subs : List Subscription) (sub : Subscription) → is_subscribed subs sub.id sub.pipe ≡ false → ArePairs subs → ArePairs (subs ++ sub ∷ [])
ArePairs-push [] sub none pairs = (refl, tt)
ArePairs-push (x ∷ subs) sub none pairs =
    let parts = neither (x.id == sub.id && x.pipe == sub.pipe) (is_subscribed subs sub.id sub.pipe) none in (
      any-push (λ (y : Subscription). y.id == x.id && y.pipe == x.pipe) subs sub
          ∙ ap (λ b. b || (sub.id == x.id && sub.pipe == x.pipe)) pairs.0
          ∙ ap (λ b. b && (sub.pipe == x.pipe)) (same-sym sub.id x.id)
          ∙ ap (λ b. (x.id == sub.id) && b) (same-sym sub.pipe x.pipe)
          ∙ parts.0,
      ArePairs-push subs sub parts.1 pairs.1,
    )

ArePairs-filter : (keeps : Subscription → Bool) (subs : List Subscription) → ArePairs subs → ArePairs (filter keeps subs)
ArePairs-filter keeps [] pairs = tt
ArePairs-filter keeps (x ∷ subs) pairs =
    elim (keeps x) as (λ b. ArePairs (cond {A = List Subscription} b (x ∷ filter keeps subs) (filter keeps subs))) [
      | true ↦ (any-filter_none (λ (y : Subscription). y.id == x.id && y.pipe == x.pipe) keeps subs pairs.0, ArePairs-filter keeps subs pairs.1)
      | false ↦ ArePairs-filter keeps subs pairs.1
    ]

-- pipes of the same numbers have the same live numbers
pub is_live-numbers : (pipes others : List Pipe) (number : ℕ) → map (λ pipe. pipe.number) pipes ≡ map (λ pipe. pipe.number) others → is_live pipes number ≡ is_live others number
is_live-numbers pipes others number same =
    sym (any-map (λ n. n == number) (λ (pipe : Pipe). pipe.number) pipes)
    ∙ ap (list_any (λ n. n == number)) same
    ∙ any-map (λ n. n == number) (λ (pipe : Pipe). pipe.number) others

-- an owned pipe is live
pub is_live-owns : (pipes : List Pipe) (app number : ℕ) → owns pipes app number ≡ true → is_live pipes number ≡ true
is_live-owns [] app number own = own
is_live-owns (pipe ∷ pipes) app number own =
    elim (pipe.number == number) as (λ b. ((b && pipe.owner == app) || owns pipes app number) ≡ true → (b || is_live pipes number) ≡ true) [
      | true ↦ λ is. refl
      | false ↦ λ is. is_live-owns pipes app number is
    ] own

-- a first refusal that doesn't apply
pub refused_none : (test : Bool) (status : SbStatus) (others : Option SbStatus) → refused_if test status others ≡ None → test ≡ false
refused_none test status others none =
    elim test as (λ b. refused_if b status others ≡ None → b ≡ false) [ true ↦ λ is. absurd (true≢false (ap is_some is)) | false ↦ λ is. refl ] none

-- an accepted subscription is of a pipe of the caller's own
pub subscribe-owns : (limits : Limits) (s : State) (app id pipe : ℕ) → subscribe_cause limits s app id pipe ≡ None → owns s.pipes app pipe ≡ true
subscribe-owns limits s app id pipe none =
    not_false (owns s.pipes app pipe) (neither (not (is_valid_id id)) (not (owns s.pipes app pipe)) (refused_none _ _ _ none)).1

live-same : (subs : List Subscription) (pipes others : List Pipe) → map (λ pipe. pipe.number) others ≡ map (λ pipe. pipe.number) pipes →
    Each (λ sub. is_live pipes sub.pipe ≡ true) subs → Each (λ sub. is_live others sub.pipe ≡ true) subs
live-same subs pipes others same live =
    Each-drop (λ (sub : Subscription). is_live pipes sub.pipe ≡ true) (λ sub. is_live others sub.pipe ≡ true) subs (λ sub is. is_live-numbers others pipes sub.pipe same ∙ is) live

-- a live pipe of another number stays when one leaves
live-left : (pipes : List Pipe) (gone number : ℕ) → not (number == gone) ≡ true → is_live pipes number ≡ true → is_live (filter (λ other. not (other.number == gone)) pipes) number ≡ true
live-left pipes gone number other live =
    any-rest (λ (pipe : Pipe). pipe.number == number) (λ pipe. pipe.number == gone) pipes live
    (any-same (λ (pipe : Pipe). pipe.number == number && pipe.number == gone) (λ pipe. false) pipes
    (λ pipe. elim (pipe.number == number) as (λ b. (pipe.number == number) ≡ b → (b && pipe.number == gone) ≡ false) [
      | true ↦ λ is. ap (λ n. n == gone) (eqb-true pipe.number number is) ∙ not_true (number == gone) other
      | false ↦ λ is. refl
    ] refl)
    ∙ any-none pipes)

pub AreTied-step : (limits : Limits) (history : List Entry) (s : State) (app : ℕ) (call : Call) → AreTied s → AreTied ((step limits history s app call).1)
AreTied-step limits history s app call tied =
    after_step AreTied limits history s app call (record {
      same = tied;
      creates = λ depth name none. record {
        pairs = tied.pairs;
        live = Each-drop (λ (sub : Subscription). is_live s.pipes sub.pipe ≡ true) (λ sub. is_live (s.pipes ++ _ ∷ []) sub.pipe ≡ true) s.subscriptions
            (λ sub is. any-push (λ (pipe : Pipe). pipe.number == sub.pipe) s.pipes _ ∙ ap (λ b. b || (s.pipes_created + 1 == sub.pipe)) is) tied.live;
      };
      subscribes = λ id pipe limit scope none other. record {
        pairs = ArePairs-push s.subscriptions _ other tied.pairs;
        live = Each-push (λ (sub : Subscription). is_live s.pipes sub.pipe ≡ true) s.subscriptions _ tied.live (is_live-owns s.pipes app pipe (subscribe-owns limits s app id pipe none));
      };
      sends = λ sending id who number room. record {
        pairs = tied.pairs;
        live = live-same s.subscriptions s.pipes _ (pipe_numbers-deliver sending (route s.subscriptions id) s.pipes) tied.live;
      };
      receives = λ pipe. record { pairs = tied.pairs; live = live-same s.subscriptions s.pipes _ (pipe_numbers-with_pipe after_receive (λ p. refl) pipe s.pipes) tied.live };
      deletes = λ pipe none. record {
        pairs = ArePairs-filter (λ x. not (x.pipe == pipe)) s.subscriptions tied.pairs;
        live = Each-kept (λ (sub : Subscription). is_live s.pipes sub.pipe ≡ true) (λ sub. is_live (filter (λ other. not (other.number == pipe)) s.pipes) sub.pipe ≡ true) (λ sub. not (sub.pipe == pipe)) s.subscriptions
            (λ sub other is. live-left s.pipes pipe sub.pipe other is) tied.live;
      };
      sets = λ pipe bits none. record { pairs = tied.pairs; live = live-same s.subscriptions s.pipes _ (pipe_numbers-with_pipe (with_bits bits) (λ p. refl) pipe s.pipes) tied.live };
      unsubscribes = λ id pipe none. record {
        pairs = ArePairs-filter (λ x. not (x.id == id && x.pipe == pipe)) s.subscriptions tied.pairs;
        live = Each-kept (λ (sub : Subscription). is_live s.pipes sub.pipe ≡ true) (λ sub. is_live s.pipes sub.pipe ≡ true) (λ x. not (x.id == id && x.pipe == pipe)) s.subscriptions (λ sub kept is. is) tied.live;
      };
      stands = λ pipe standing going. record { pairs = tied.pairs; live = live-same s.subscriptions s.pipes _ (pipe_numbers-with_pipe after_receive (λ p. refl) pipe s.pipes) tied.live };
      ends = record {
        pairs = ArePairs-filter (λ x. not (owns s.pipes app x.pipe)) s.subscriptions tied.pairs;
        live = Each-kept (λ (sub : Subscription). is_live s.pipes sub.pipe ≡ true) (λ sub. is_live (filter (λ pipe. not (pipe.owner == app)) s.pipes) sub.pipe ≡ true) (λ x. not (owns s.pipes app x.pipe)) s.subscriptions
            (λ sub other is. any-rest (λ (pipe : Pipe). pipe.number == sub.pipe) (λ pipe. pipe.owner == app) s.pipes is (not_true (owns s.pipes app sub.pipe) other)) tied.live;
      };
      pools = λ next follows. record { pairs = tied.pairs; live = tied.live };
      allocates = λ size none. record { pairs = tied.pairs; live = tied.live };
      leaves = λ buf has. record { pairs = tied.pairs; live = tied.live };
      records = λ t desk statistics is. record { pairs = is.pairs; live = is.live };
      passes = λ sending id who has asked. record {
        pairs = tied.pairs;
        live = live-same s.subscriptions s.pipes _ (pipe_numbers-deliver sending (route s.subscriptions id) s.pipes) tied.live;
      };
    })

-- after every history
pub AreTied-after : (limits : Limits) (apps : ℕ) (history : List Entry) → AreTied (state_after limits apps history)
AreTied-after limits apps history = state_from-keeps AreTied limits (AreTied-step limits) [] (opening limits apps) history (record { pairs = tt; live = tt })
