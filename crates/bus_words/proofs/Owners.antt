-- No application that has ended owns a live pipe or has an unsent buffer; so if all have ended nothing is left.
use Rattle.std.proofs.Common.{◌≡◌, ℕ, zero, suc, ◌+◌, ◌-◌, ◌<◌, ◌≤◌, ◌⊎◌, inl, inr, ◌==◌, ◌&&◌, ◌||◌, not, Bool, true, false, cond, true≢false, eqb-true, eq-eqb, ne_eqb, IsTrue, List, [], ◌∷◌, ◌++◌, length, filter, replicate, slice_index_or, slice_set, refl, ap, sym, ◌∙◌, subst, arith}
use Rattle.std.proofs.lemmas.Bool.{cases_lt}
use Rattle.std.proofs.lemmas.List.{get_or-set_other, get_or_past}
use Rattle.fsw_base.specs.Limits.{Limits}
use Rattle.bus_words.specs.declared.history.Call.{Call}
use Rattle.bus_words.specs.declared.history.Entry.{Entry}
use Rattle.bus_words.specs.Bus.{Pipe, Buffer, Subscription, State, Standing, Active, Waiting, Ended, Sending, opening, standing_of, owns, route, with_pipe, with_bits, with_standing, has_ended, offered, deliver, after_receive, unsent_of, without_all_unsent}
use Rattle.bus_words.specs.Held.{buffers_in}
use Rattle.bus_words.specs.Machine.{ended, step, state_from, state_after, may_call, LegalFrom, IsLegal}
use Rattle.bus_words.proofs.Finds.{Each, Each-push, Each-filter, Each-drop, Each-kept, not_true}
use Rattle.bus_words.proofs.Steps.{after_step}

-- Pipes. --

pub Each-with_pipe : (P : Pipe → Type 0) (change : Pipe → Pipe) → ((pipe : Pipe) → P pipe → P (change pipe)) → (number : ℕ) (pipes : List Pipe) →
    Each P pipes → Each P (with_pipe change number pipes)
Each-with_pipe P change keeps number [] each = tt
Each-with_pipe P change keeps number (pipe ∷ pipes) each = (
  elim (pipe.number == number) as (λ b. P (cond {A = Pipe} b (change pipe) pipe)) [ true ↦ keeps pipe each.0 | false ↦ each.0 ],
  Each-with_pipe P change keeps number pipes each.1,
)

-- an offer keeps the pipe's owner
owner-offered : (P : ℕ → Type 0) (sending : Sending) (sub : Subscription) (pipe : Pipe) → P pipe.owner → P (offered sending sub pipe).owner
owner-offered P sending sub pipe is = is

pub Each-deliver : (P : Pipe → Type 0) (sending : Sending) → ((sub : Subscription) (pipe : Pipe) → P pipe → P (offered sending sub pipe)) →
    (subs : List Subscription) (pipes : List Pipe) → Each P pipes → Each P (deliver sending subs pipes)
Each-deliver P sending keeps [] pipes each = each
Each-deliver P sending keeps (sub ∷ subs) pipes each =
    Each-deliver P sending keeps subs (with_pipe (offered sending sub) sub.pipe pipes)
    (Each-with_pipe P (offered sending sub) (keeps sub) sub.pipe pipes each)

-- Standings. --

-- who may make a call hasn't ended
pub goes : (standing : Standing) (call : Call) → IsTrue (may_call standing call) → has_ended standing ≡ false
goes Active call may = refl
goes (Waiting pipe) call may = refl
goes Ended call may = absurd (true≢false (sym may))

set_goes : (xs : List Standing) (i j : ℕ) (standing : Standing) → has_ended standing ≡ false → has_ended (slice_index_or xs i Ended) ≡ false →
    has_ended (slice_index_or (slice_set xs j standing) i Ended) ≡ false
set_goes [] i j standing new old = old
set_goes (x ∷ xs) zero zero standing new old = new
set_goes (x ∷ xs) zero (suc j) standing new old = old
set_goes (x ∷ xs) (suc i) zero standing new old = old
set_goes (x ∷ xs) (suc i) (suc j) standing new old = set_goes xs i j standing new old

-- if an application starts to wait, or goes on, nobody ends
still_goes : (s : State) (app owner : ℕ) (standing : Standing) → has_ended standing ≡ false → has_ended (standing_of s owner) ≡ false →
    has_ended (standing_of (with_standing s app standing) owner) ≡ false
still_goes s app owner standing new old =
    elim (owner == 0) as (λ b. has_ended (cond {A = Standing} b Ended (slice_index_or s.standings (owner - 1) Ended)) ≡ false →
    has_ended (cond {A = Standing} b Ended (slice_index_or (slice_set s.standings (app - 1) standing) (owner - 1) Ended)) ≡ false) [
      | true ↦ λ is. is
      | false ↦ λ is. set_goes s.standings (owner - 1) (app - 1) standing new is
    ] old

-- who goes on has a number
has_number : (s : State) (app : ℕ) → has_ended (standing_of s app) ≡ false → 1 ≤ app
has_number s zero going = absurd (true≢false going)
has_number s (suc app) going = omega arith

-- if an application ends, no other does
other_goes : (s : State) (app owner : ℕ) → has_ended (standing_of s app) ≡ false → (owner == app) ≡ false → has_ended (standing_of s owner) ≡ false →
    has_ended (standing_of (ended s app) owner) ≡ false
other_goes s app owner going differ old =
    let apart : (owner - 1 ≡ app - 1) → ⊥ =
    λ same. true≢false (sym (eq-eqb owner app (omega (arith, same, has_number s app going, has_number s owner old))) ∙ differ) in
    ap (λ standing. has_ended (cond {A = Standing} (owner == 0) Ended standing)) (get_or-set_other s.standings (app - 1) (owner - 1) Ended Ended apart) ∙ old

-- Owners. --

-- the owner of each live pipe hasn't ended
abbrev pub AreOwned : State → Type 0
AreOwned s = Each (λ pipe. has_ended (standing_of s pipe.owner) ≡ false) s.pipes

AreOwned-step : (limits : Limits) (history : List Entry) (s : State) (app : ℕ) (call : Call) → has_ended (standing_of s app) ≡ false → AreOwned s →
    AreOwned ((step limits history s app call).1)
AreOwned-step limits history s app call going owned =
    let Goes : ℕ → Type 0 = λ owner. has_ended (standing_of s owner) ≡ false in
    let Owned : Pipe → Type 0 = λ pipe. Goes pipe.owner in
    after_step AreOwned limits history s app call (record {
      same = owned;
      creates = λ depth name none. Each-push Owned s.pipes _ owned going;
      subscribes = λ id pipe limit scope none other. owned;
      sends = λ sending id who number room. Each-deliver Owned sending (owner-offered Goes sending) (route s.subscriptions id) s.pipes owned;
      receives = λ pipe. Each-with_pipe Owned after_receive (λ p is. is) pipe s.pipes owned;
      deletes = λ pipe none. Each-filter Owned (λ other. not (other.number == pipe)) s.pipes owned;
      sets = λ pipe bits none. Each-with_pipe Owned (with_bits bits) (λ p is. is) pipe s.pipes owned;
      unsubscribes = λ id pipe none. owned;
      stands = λ pipe standing new.
          let Next : Pipe → Type 0 = λ p. has_ended (standing_of (with_standing s app standing) p.owner) ≡ false in
          Each-with_pipe Next after_receive (λ p is. is) pipe s.pipes
          (Each-drop Owned Next s.pipes (λ p old. still_goes s app p.owner standing new old) owned);
      ends = Each-kept Owned (λ p. has_ended (standing_of (ended s app) p.owner) ≡ false) (λ p. not (p.owner == app)) s.pipes
          (λ p stays old. other_goes s app p.owner going (not_true (p.owner == app) stays) old) owned;
      pools = λ next follows. owned;
      allocates = λ size none. owned;
      leaves = λ buf has. owned;
      records = λ t desk statistics is. is;
      passes = λ sending id who has asked. Each-deliver Owned sending (owner-offered Goes sending) (route s.subscriptions id) s.pipes owned;
    })

owned_from : (limits : Limits) (history : List Entry) (s : State) (es : List Entry) → LegalFrom limits history s es → AreOwned s →
    AreOwned (state_from limits history s es)
owned_from limits history s [] legal owned = owned
owned_from limits history s (e ∷ es) legal owned =
    owned_from limits (history ++ e ∷ []) ((step limits history s e.app e.call).1) es legal.4
    (AreOwned-step limits history s e.app e.call (goes (standing_of s e.app) e.call legal.0) owned)

-- after every legal history
pub AreOwned-after : (limits : Limits) (apps : ℕ) (history : List Entry) → IsLegal limits apps history → AreOwned (state_after limits apps history)
AreOwned-after limits apps history legal = owned_from limits [] (opening limits apps) history legal tt

-- so one that has ended owns no pipe
pub owns_none : (s : State) (app number : ℕ) (pipes : List Pipe) → Each (λ pipe. has_ended (standing_of s pipe.owner) ≡ false) pipes →
    has_ended (standing_of s app) ≡ true → owns pipes app number ≡ false
owns_none s app number [] owned over = refl
owns_none s app number (pipe ∷ pipes) owned over =
    let anothers : (pipe.owner == app) ≡ false =
    ne_eqb pipe.owner app (λ same. true≢false (sym (ap (λ n. has_ended (standing_of s n)) same ∙ over) ∙ owned.0)) in
    elim (pipe.number == number) as (λ b. ((b && pipe.owner == app) || owns pipes app number) ≡ false) [
      | true ↦ ap (λ b. b || owns pipes app number) anothers ∙ owns_none s app number pipes owned.1 over
      | false ↦ owns_none s app number pipes owned.1 over
    ]

-- and if all have ended there is none
pub none_left : (s : State) (pipes : List Pipe) → Each (λ pipe. has_ended (standing_of s pipe.owner) ≡ false) pipes →
    ((app : ℕ) → has_ended (standing_of s app) ≡ true) → pipes ≡ []
none_left s [] owned over = refl
none_left s (pipe ∷ pipes) owned over = absurd (true≢false (sym (over pipe.owner) ∙ owned.0))

-- Unsent buffers. --

-- an application that has ended has none
abbrev pub AreHanded : State → Type 0
AreHanded s = (app : ℕ) → 1 ≤ app → has_ended (standing_of s app) ≡ true → unsent_of s.unsent app ≡ []

set_empty : (unsent : List (List Buffer)) (i : ℕ) → slice_index_or (slice_set unsent i []) i [] ≡ []
set_empty [] i = refl
set_empty (buffers ∷ others) zero = refl
set_empty (buffers ∷ others) (suc i) = set_empty others i

module _ (s : State) (app : ℕ) (going : has_ended (standing_of s app) ≡ false) (handed : AreHanded s) where
  -- one that has ended isn't the caller
  apart : (other : ℕ) → 1 ≤ other → has_ended (standing_of s other) ≡ true → other - 1 ≡ app - 1 → ⊥
  apart other some over same =
      let is : other ≡ app = omega (arith, same, some, has_number s app going) in
      true≢false (sym over ∙ ap (λ n. has_ended (standing_of s n)) is ∙ going)

  -- a change of the caller's buffers
  handed_set : (buffers : List Buffer) → AreHanded (record s { unsent = slice_set s.unsent (app - 1) buffers })
  handed_set buffers other some over = get_or-set_other s.unsent (app - 1) (other - 1) buffers [] (apart other some over) ∙ handed other some over

  -- the caller starts to wait, or goes on
  handed_stands : (standing : Standing) → has_ended standing ≡ false → AreHanded (with_standing s app standing)
  handed_stands standing new other some over = by_test (has_ended (standing_of s other)) refl
    where
      by_test : (b : Bool) → has_ended (standing_of s other) ≡ b → unsent_of s.unsent other ≡ []
      by_test true is = handed other some is
      by_test false is = absurd (true≢false (sym over ∙ still_goes s app other standing new is))

  -- the caller ends
  handed_ends : AreHanded (ended s app)
  handed_ends other some over =
      elim (other == app) as (λ b. (other == app) ≡ b → unsent_of (without_all_unsent s.unsent app) other ≡ []) [
        | true ↦ λ same. ap (unsent_of (without_all_unsent s.unsent app)) (eqb-true other app same) ∙ set_empty s.unsent (app - 1)
        | false ↦ λ differ. others (has_ended (standing_of s other)) refl differ
      ] refl
    where
      others : (b : Bool) → has_ended (standing_of s other) ≡ b → (other == app) ≡ false → unsent_of (without_all_unsent s.unsent app) other ≡ []
      others true is differ = get_or-set_other s.unsent (app - 1) (other - 1) [] [] (apart other some is) ∙ handed other some is
      others false is differ = absurd (true≢false (sym over ∙ other_goes s app other going differ is))

AreHanded-step : (limits : Limits) (history : List Entry) (s : State) (app : ℕ) (call : Call) → has_ended (standing_of s app) ≡ false → AreHanded s →
    AreHanded ((step limits history s app call).1)
AreHanded-step limits history s app call going handed =
    after_step AreHanded limits history s app call (record {
      same = handed;
      creates = λ depth name none. handed;
      subscribes = λ id pipe limit scope none other. handed;
      sends = λ sending id who number room. handed;
      receives = λ pipe. handed;
      deletes = λ pipe none. handed;
      sets = λ pipe bits none. handed;
      unsubscribes = λ id pipe none. handed;
      stands = λ pipe standing new. handed_stands s app going handed standing new;
      ends = handed_ends s app going handed;
      pools = λ next follows. handed;
      allocates = λ size none. handed_set s app going handed (record { number = s.numbers_given + 1; size = size } ∷ unsent_of s.unsent app);
      leaves = λ buf has. handed_set s app going handed (filter (λ buffer. not (buffer.number == buf)) (unsent_of s.unsent app));
      records = λ t desk statistics is. is;
      passes = λ sending id who has asked. handed_set s app going handed (filter (λ buffer. not (buffer.number == sending.number)) (unsent_of s.unsent app));
    })

handed_from : (limits : Limits) (history : List Entry) (s : State) (es : List Entry) → LegalFrom limits history s es → AreHanded s →
    AreHanded (state_from limits history s es)
handed_from limits history s [] legal handed = handed
handed_from limits history s (e ∷ es) legal handed =
    handed_from limits (history ++ e ∷ []) ((step limits history s e.app e.call).1) es legal.4
    (AreHanded-step limits history s e.app e.call (goes (standing_of s e.app) e.call legal.0) handed)

-- after every legal history
pub AreHanded-after : (limits : Limits) (apps : ℕ) (history : List Entry) → IsLegal limits apps history → AreHanded (state_after limits apps history)
AreHanded-after limits apps history legal = handed_from limits [] (opening limits apps) history legal (λ app some over. nothing apps (app - 1))
  where
    nothing : (n i : ℕ) → slice_index_or (replicate {A = List Buffer} n []) i [] ≡ []
    nothing zero i = refl
    nothing (suc n) zero = refl
    nothing (suc n) (suc i) = nothing n i

-- if all have ended there is none
pub none_unsent : (unsent : List (List Buffer)) → ((i : ℕ) → slice_index_or unsent i [] ≡ []) → buffers_in unsent ≡ []
none_unsent [] none = refl
none_unsent (buffers ∷ others) none = ap (λ (l : List Buffer). l ++ buffers_in others) (none 0) ∙ none_unsent others (λ i. none (suc i))

pub none_handed : (s : State) → AreHanded s → ((app : ℕ) → has_ended (standing_of s app) ≡ true) → buffers_in s.unsent ≡ []
none_handed s handed over = none_unsent s.unsent at_place
  where
    at_place : (i : ℕ) → slice_index_or s.unsent i [] ≡ []
    at_place i =
        let place : suc i - 1 ≡ i = omega arith in
        subst (λ k. slice_index_or s.unsent k [] ≡ []) place (handed (suc i) (omega arith) (over (suc i)))

-- Ends of all. --

-- who isn't among so many applications counts as one that has ended
pub all_ended : (s : State) (apps : ℕ) → length s.standings ≡ apps → ((app : ℕ) → 1 ≤ app → app ≤ apps → has_ended (standing_of s app) ≡ true) →
    (app : ℕ) → has_ended (standing_of s app) ≡ true
all_ended s apps many over zero = refl
all_ended s apps many over (suc app) = by_place (cases_lt apps (suc app))
  where
    by_place : (apps < suc app) ⊎ (suc app ≤ apps) → has_ended (standing_of s (suc app)) ≡ true
    by_place (inr within) = over (suc app) (omega arith) within
    by_place (inl past) =
        elim (suc app == 0) as (λ b. has_ended (cond {A = Standing} b Ended (slice_index_or s.standings (suc app - 1) Ended)) ≡ true) [
          | true ↦ refl
          | false ↦ ap has_ended (get_or_past s.standings (suc app - 1) Ended (omega (arith, many, past)))
        ]
