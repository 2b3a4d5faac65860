-- Causes by their tests, and causes at the core that callers see.
use Rattle.std.proofs.Common.{◌≡◌, ℕ, ◌<◌, ◌≤◌, Bool, true, false, ◌&&◌, ◌||◌, not, cond, eqb, leb, ltb, List, length, Option, Some, None, refl, ap, sym, ◌∙◌, subst, arith}
use Rattle.std.specs.List.{list_any}
use Rattle.std.specs.Option.{is_some}
use Rattle.std.specs.Str.{bytes_eq}
use Rattle.std.proofs.lemmas.Bool.Decides.{nat_tests}
use Rattle.std.proofs.lemmas.List.{length-map}
use Rattle.fsw_base.proofs.Lists.{list_any-map}
use Rattle.fsw_base.specs.Limits.{Limits, limits_of}
use Rattle.fsw_base.specs.declared.statuses.SbStatus.{SbStatus}
use Rattle.fsw_base.specs.declared.statuses.SbStatus.TheVariants.{BadArgument, MaxPipesMet, PipeCrErr, MaxMsgsMet, MaxDestsMet}
use Rattle.ccsds_msg.specs.Message.{fault, is_valid_id}
use Rattle.ccsds_msg.specs.declared.packet.MsgFault.{MsgFault}
use Rattle.ccsds_msg.proofs.MessageLemmas.{IsMessage-length}
use Rattle.bus_words.specs.Bus.{State, owns, is_subscribed, has_route, route}
use Rattle.bus_words.specs.Machine.{create_cause, subscribe_cause, unowned_cause, refused_if}
use Rattle.bus_core.specs.declared.plain.PlainBus.TheInside.{Inside}
use Rattle.bus_routes.specs.Rows.{RouteRow}
use Rattle.bus_core.specs.Core.{Plain}
use Rattle.bus_core.specs.Inside.{plain_of, means}
use Rattle.bus_routes.specs.Rows.{ids_of, has_way}

-- what is told of the core is told of the fields
pub at_fields : (a : Inside) (now : Plain) → plain_of a ≡ now → (F : Limits → State → Option SbStatus) (why : Option SbStatus) →
    F now.limits now.whole.bus ≡ why → F (limits_of a.config) (means a).bus ≡ why
at_fields a now is F why there = let P : Plain → Type 0 = λ o. F o.limits o.whole.bus ≡ why in subst P (sym is) there

-- and the other way round
pub at_core : (a : Inside) (now : Plain) → plain_of a ≡ now → (F : Limits → State → Option SbStatus) (why : Option SbStatus) →
    F (limits_of a.config) (means a).bus ≡ why → why ≡ F now.limits now.whole.bus
at_core a now is F why here = let P : Plain → Type 0 = λ o. why ≡ F o.limits o.whole.bus in subst P is (sym here)

-- tests of numbers
pub not_at_least : (m n : ℕ) → n < m → leb m n ≡ false
not_at_least m n below = grind (arith, nat_tests)

pub at_least : (m n : ℕ) → m ≤ n → leb m n ≡ true
at_least m n there = grind (arith, nat_tests)

-- Creating a pipe. --

abbrev pub bad_pipe : Limits → ℕ → List ℕ → Bool
bad_pipe limits depth name = eqb depth 0 || ltb limits.depth depth || eqb (length name) 0 || ltb 19 (length name)

pub create_checked : (limits : Limits) (s : State) (depth : ℕ) (name : List ℕ) (bad full taken : Bool) →
    bad_pipe limits depth name ≡ bad → leb limits.pipes (length s.pipes) ≡ full → list_any (λ pipe. bytes_eq pipe.name name) s.pipes ≡ taken →
    create_cause limits s depth name ≡ refused_if bad BadArgument (refused_if full MaxPipesMet (refused_if taken PipeCrErr None))
create_checked limits s depth name bad full taken is_bad is_full is_taken =
    ap (λ b. refused_if b BadArgument (refused_if (leb limits.pipes (length s.pipes)) MaxPipesMet (refused_if (list_any (λ pipe. bytes_eq pipe.name name) s.pipes) PipeCrErr None))) is_bad
    ∙ ap (λ b. refused_if bad BadArgument (refused_if b MaxPipesMet (refused_if (list_any (λ pipe. bytes_eq pipe.name name) s.pipes) PipeCrErr None))) is_full
    ∙ ap (λ b. refused_if bad BadArgument (refused_if full MaxPipesMet (refused_if b PipeCrErr None))) is_taken

-- Subscribing. --

pub subscribe_checked : (limits : Limits) (s : State) (app id pipe : ℕ) (bad live lacks full : Bool) →
    (not (is_valid_id id) || not (owns s.pipes app pipe)) ≡ bad → is_subscribed s.subscriptions id pipe ≡ live →
    (not (has_route s.routed id) && leb limits.msgids (length s.routed)) ≡ lacks → leb limits.dests (length (route s.subscriptions id)) ≡ full →
    subscribe_cause limits s app id pipe ≡ refused_if bad BadArgument (cond live None (refused_if lacks MaxMsgsMet (refused_if full MaxDestsMet None)))
subscribe_checked limits s app id pipe bad live lacks full is_bad is_live is_lacks is_full =
    ap (λ b. refused_if b BadArgument (cond (is_subscribed s.subscriptions id pipe) None
    (refused_if (not (has_route s.routed id) && leb limits.msgids (length s.routed)) MaxMsgsMet (refused_if (leb limits.dests (length (route s.subscriptions id))) MaxDestsMet None)))) is_bad
    ∙ ap (λ b. refused_if bad BadArgument (cond b None
    (refused_if (not (has_route s.routed id) && leb limits.msgids (length s.routed)) MaxMsgsMet (refused_if (leb limits.dests (length (route s.subscriptions id))) MaxDestsMet None)))) is_live
    ∙ ap (λ b. refused_if bad BadArgument (cond live None
    (refused_if b MaxMsgsMet (refused_if (leb limits.dests (length (route s.subscriptions id))) MaxDestsMet None)))) is_lacks
    ∙ ap (λ b. refused_if bad BadArgument (cond live None (refused_if lacks MaxMsgsMet (refused_if b MaxDestsMet None)))) is_full

-- whether an id has a route
pub has_route-rows : (routes : List RouteRow) (id : ℕ) → has_route (ids_of routes) id ≡ has_way routes id
has_route-rows routes id = list_any-map (λ other. eqb other id) (λ route. route.id) routes

-- whether an id lacks a route that it can't get
pub lacks_route : (a : Inside) (id : ℕ) (lacks : Bool) → (not (has_way a.store.routes id) && leb a.config.msgids (length a.store.routes)) ≡ lacks →
    (not (has_route (means a).bus.routed id) && leb a.config.msgids (length (means a).bus.routed)) ≡ lacks
lacks_route a id lacks is =
    ap (λ b. not b && leb a.config.msgids (length (means a).bus.routed)) (has_route-rows a.store.routes id)
    ∙ ap (λ n. not (has_way a.store.routes id) && leb a.config.msgids n) (length-map a.store.routes (λ route. route.id))
    ∙ is

-- Sending. --

-- what passes as a message has its header and a byte more at least
pub message_least : (bytes : List ℕ) → not (is_some (fault bytes)) ≡ true → 7 ≤ length bytes
message_least bytes passes = IsMessage-length bytes (none (fault bytes) passes)
  where
    none : (o : Option MsgFault) → not (is_some o) ≡ true → o ≡ None
    none None passes = refl
    none (Some why) passes = absurd (cc (passes))

-- Pipes of others. --

-- an application owns a pipe that it isn't refused for
pub not_unowned : (s : State) (app pipe : ℕ) → unowned_cause s app pipe ≡ None → owns s.pipes app pipe ≡ true
not_unowned s app pipe none = by_test (owns s.pipes app pipe) none
  where
    by_test : (b : Bool) → refused_if (not b) BadArgument None ≡ None → b ≡ true
    by_test true none = refl
    by_test false none = absurd (cc (none))
