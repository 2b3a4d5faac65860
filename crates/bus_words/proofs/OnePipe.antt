-- What each entry does to one pipe of the bus, and to the pipe alone: they stay alike, and give the same messages.
use Rattle.std.proofs.Common.{◌≡◌, ℕ, suc, ◌+◌, ◌<◌, ◌≤◌, ◌==◌, ◌&&◌, ◌||◌, not, Bool, true, false, cond, true≢false, eqb-true, ne_eqb, leb-false, append-nil, List, [], ◌∷◌, ◌++◌, length, map, filter, Option, Some, None, refl, ap, sym, ◌∙◌, subst, arith}
use Rattle.std.specs.Prelude.{find, nat_le, if◌then◌else◌}
use Rattle.std.specs.List.{list_any}
use Rattle.std.specs.Option.{option_map, option_map_or}
use Rattle.fsw_base.specs.declared.config.Scope.{Scope}
use Rattle.fsw_base.specs.declared.config.Scope.TheVariants.{Global}
use Rattle.bus_words.specs.Bus.{Item, Pipe, Subscription, State, Sending, pipe_at, with_pipe, with_bits, is_live, owns, is_subscribed, route, deliver, offered, oldest, after_receive}
use Rattle.bus_words.specs.Alone.{Alone, Input, Start, Sub, Unsub, Opts, Send, Take, Stop, Received, if_on, last_of, solo, solo_receipts}
use Rattle.bus_words.proofs.Finds.{Each, neither, same-sym, filters, filter-all, filter-none, filter-push, filter-any, any-map, any-filter, find-push_here, find-push_other, find-filter, find-filter_none, find-any}
use Rattle.bus_words.proofs.Steps.{AreRising, number-offered}
use Rattle.bus_words.proofs.Ties.{ArePairs}
use Rattle.bus_words.proofs.AlikePipes.{AreAlike, IsSeen, unmoved, alike-take, alike-bits, alike-stop, alike-start, alike-sub, alike-unsub, alike-send, offered_to, with_own}

-- One pipe of the bus. --

-- the subscriptions of pipe p
abbrev pub mine : ℕ → List Subscription → List Subscription
mine p subs = filter (λ sub. sub.pipe == p) subs

-- the last message of pipe p
abbrev pub newest_on : List Pipe → ℕ → List Received
newest_on pipes p = option_map_or (λ (pipe : Pipe). last_of pipe.last) (pipe_at pipes p) []

other_number : (p q n : ℕ) → (p == q) ≡ false → (n == q) ≡ true → (n == p) ≡ false
other_number p q n apart is = ap (λ m. m == p) (eqb-true n q is) ∙ same-sym q p ∙ apart

changed_same : (change : Pipe → Pipe) → ((pipe : Pipe) → (change pipe).number ≡ pipe.number) → (p : ℕ) (pipes : List Pipe) →
    pipe_at (with_pipe change p pipes) p ≡ option_map change (pipe_at pipes p)
changed_same change keeps p [] = refl
changed_same change keeps p (x ∷ pipes) =
    elim (x.number == p) as (λ b. (x.number == p) ≡ b → pipe_at (cond {A = Pipe} b (change x) x ∷ with_pipe change p pipes) p ≡ option_map change (cond {A = Option Pipe} b (Some x) (pipe_at pipes p))) [
      | true ↦ λ is. ap (λ b. cond {A = Option Pipe} b (Some (change x)) (pipe_at (with_pipe change p pipes) p)) (ap (λ n. n == p) (keeps x) ∙ is)
      | false ↦ λ is. ap (λ b. cond {A = Option Pipe} b (Some x) (pipe_at (with_pipe change p pipes) p)) is ∙ changed_same change keeps p pipes
    ] refl

-- a change of this pipe
pub changed_here : (change : Pipe → Pipe) → ((pipe : Pipe) → (change pipe).number ≡ pipe.number) → (p q : ℕ) (pipes : List Pipe) → (p == q) ≡ true →
    pipe_at (with_pipe change q pipes) p ≡ option_map change (pipe_at pipes p)
changed_here change keeps p q pipes is = ap (λ n. pipe_at (with_pipe change n pipes) p) (sym (eqb-true p q is)) ∙ changed_same change keeps p pipes

-- a change of another pipe
changed_other : (change : Pipe → Pipe) → ((pipe : Pipe) → (change pipe).number ≡ pipe.number) → (p q : ℕ) (pipes : List Pipe) → (p == q) ≡ false →
    pipe_at (with_pipe change q pipes) p ≡ pipe_at pipes p
changed_other change keeps p q [] apart = refl
changed_other change keeps p q (x ∷ pipes) apart =
    let rest = changed_other change keeps p q pipes apart in
    elim (x.number == q) as (λ b. (x.number == q) ≡ b → pipe_at (cond {A = Pipe} b (change x) x ∷ with_pipe change q pipes) p ≡ cond {A = Option Pipe} (x.number == p) (Some x) (pipe_at pipes p)) [
      | true ↦ λ is.
          ap (λ b. cond {A = Option Pipe} b (Some (change x)) (pipe_at (with_pipe change q pipes) p)) (ap (λ n. n == p) (keeps x) ∙ other_number p q x.number apart is)
          ∙ rest
          ∙ ap (λ b. cond {A = Option Pipe} b (Some x) (pipe_at pipes p)) (sym (other_number p q x.number apart is))
      | false ↦ λ is. ap (λ o. cond {A = Option Pipe} (x.number == p) (Some x) o) rest
    ] refl

-- Which pipes are live. --

AreRising-le : (low top : ℕ) (ns : List ℕ) → AreRising low top ns → low ≤ top
AreRising-le low top [] rising = rising
AreRising-le low top (n ∷ ns) rising = omega (arith, rising.0, AreRising-le n top ns rising.1)

-- no number is above the highest
none_above : (low top p : ℕ) (ns : List ℕ) → AreRising low top ns → top < p → list_any (λ n. n == p) ns ≡ false
none_above low top p [] rising above = refl
none_above low top p (n ∷ ns) rising above =
    let less : n ≤ top = AreRising-le n top ns rising.1 in
    ap (λ b. b || list_any (λ m. m == p) ns) (ne_eqb n p (λ same. omega (arith, same, less, above))) ∙ none_above n top p ns rising.1 above

-- none at the lowest or below
none_below : (low top p : ℕ) (ns : List ℕ) → AreRising low top ns → p ≤ low → list_any (λ n. n == p) ns ≡ false
none_below low top p [] rising below = refl
none_below low top p (n ∷ ns) rising below =
    ap (λ b. b || list_any (λ m. m == p) ns) (ne_eqb n p (λ same. omega (arith, same, rising.0, below))) ∙ none_below n top p ns rising.1 (omega (arith, rising.0, below))

-- a pipe that isn't made yet isn't live
unmade_dead : (top p : ℕ) (pipes : List Pipe) → AreRising 0 top (map (λ pipe. pipe.number) pipes) → top < p → is_live pipes p ≡ false
unmade_dead top p pipes rising above = sym (any-map (λ n. n == p) (λ (pipe : Pipe). pipe.number) pipes) ∙ none_above 0 top p _ rising above

-- and so is none of a number that no pipe has
never_live : (created p : ℕ) (pipes : List Pipe) → AreRising 0 created (map (λ pipe. pipe.number) pipes) → (nat_le 1 p && nat_le p created) ≡ false → is_live pipes p ≡ false
never_live created p pipes rising early = by_first (nat_le 1 p) refl early
  where
    by_first : (b : Bool) → nat_le 1 p ≡ b → (b && nat_le p created) ≡ false → is_live pipes p ≡ false
    by_first true some late = unmade_dead created p pipes rising (leb-false p created late)
    by_first false none late =
        sym (any-map (λ n. n == p) (λ (pipe : Pipe). pipe.number) pipes) ∙ none_below 0 created p _ rising (omega (arith, leb-false 1 p none))

any-find : (pipes : List Pipe) (p : ℕ) → pipe_at pipes p ≡ None → is_live pipes p ≡ false
any-find [] p none = refl
any-find (x ∷ pipes) p none =
    elim (x.number == p) as (λ b. cond {A = Option Pipe} b (Some x) (pipe_at pipes p) ≡ None → (b || is_live pipes p) ≡ false) [
      | true ↦ λ is. absurd (true≢false (ap (λ (o : Option Pipe). option_map_or (λ y. true) o false) is))
      | false ↦ λ is. any-find pipes p is
    ] none

-- a pipe that isn't live has no subscription
dead_none : (pipes : List Pipe) (p : ℕ) (subs : List Subscription) → Each (λ sub. is_live pipes sub.pipe ≡ true) subs → is_live pipes p ≡ false → mine p subs ≡ []
dead_none pipes p [] live dead = refl
dead_none pipes p (sub ∷ subs) live dead =
    elim (sub.pipe == p) as (λ b. (sub.pipe == p) ≡ b → cond {A = List Subscription} b (sub ∷ mine p subs) (mine p subs) ≡ []) [
      | true ↦ λ is. absurd (true≢false (sym live.0 ∙ ap (is_live pipes) (eqb-true sub.pipe p is) ∙ dead))
      | false ↦ λ is. dead_none pipes p subs live.1 dead
    ] refl

-- A delivery. --

-- the pipe once each of these subscriptions of its own was offered what is sent
abbrev pub offers : Sending → List Subscription → Pipe → Pipe
offers sending [] pipe = pipe
offers sending (sub ∷ subs) pipe = offers sending subs (offered sending sub pipe)

same_option : (f : Pipe → Pipe) → ((pipe : Pipe) → f pipe ≡ pipe) → (o : Option Pipe) → o ≡ option_map f o
same_option f same None = refl
same_option f same (Some pipe) = ap (λ x. Some x) (sym (same pipe))

twice : (f g : Pipe → Pipe) (o : Option Pipe) → option_map f (option_map g o) ≡ option_map (λ pipe. f (g pipe)) o
twice f g None = refl
twice f g (Some pipe) = refl

option_map-same : (f g : Pipe → Pipe) → ((pipe : Pipe) → f pipe ≡ g pipe) → (o : Option Pipe) → option_map f o ≡ option_map g o
option_map-same f g same None = refl
option_map-same f g same (Some pipe) = ap (λ x. Some x) (same pipe)

-- a delivery offers a pipe its own subscriptions
delivered_at : (sending : Sending) (p : ℕ) (subs : List Subscription) (pipes : List Pipe) →
    pipe_at (deliver sending subs pipes) p ≡ option_map (offers sending (mine p subs)) (pipe_at pipes p)
delivered_at sending p [] pipes = same_option (offers sending []) (λ pipe. refl) (pipe_at pipes p)
delivered_at sending p (sub ∷ subs) pipes =
    delivered_at sending p subs (with_pipe (offered sending sub) sub.pipe pipes)
    ∙ elim (sub.pipe == p) as (λ b. (p == sub.pipe) ≡ b → option_map (offers sending (mine p subs)) (pipe_at (with_pipe (offered sending sub) sub.pipe pipes) p) ≡ option_map (offers sending (cond {A = List Subscription} b (sub ∷ mine p subs) (mine p subs))) (pipe_at pipes p)) [
      | true ↦ λ is.
          ap (option_map (offers sending (mine p subs))) (changed_here (offered sending sub) (number-offered sending sub) p sub.pipe pipes is)
          ∙ twice (offers sending (mine p subs)) (offered sending sub) (pipe_at pipes p)
      | false ↦ λ is. ap (option_map (offers sending (mine p subs))) (changed_other (offered sending sub) (number-offered sending sub) p sub.pipe pipes is)
    ] (same-sym p sub.pipe)

-- of an id's route at most one subscription is the pipe's
offers-route : (sending : Sending) (p id : ℕ) (subs : List Subscription) (pipe : Pipe) → ArePairs subs →
    offers sending (mine p (route subs id)) pipe ≡ offered_to sending (find (λ sub. sub.id == id) (mine p subs)) pipe
offers-route sending p id [] pipe pairs = refl
offers-route sending p id (sub ∷ subs) pipe pairs =
    let rest = offers-route sending p id subs pipe pairs.1 in
    let found : List Subscription → Option Subscription = find (λ (x : Subscription). x.id == id) in
    elim (sub.id == id) as (λ b. (sub.id == id) ≡ b → offers sending (mine p (cond {A = List Subscription} b (sub ∷ route subs id) (route subs id))) pipe ≡ offered_to sending (found (cond {A = List Subscription} (sub.pipe == p) (sub ∷ mine p subs) (mine p subs))) pipe) [
      | true ↦ λ same. elim (sub.pipe == p) as (λ c. (sub.pipe == p) ≡ c → offers sending (cond {A = List Subscription} c (sub ∷ mine p (route subs id)) (mine p (route subs id))) pipe ≡ offered_to sending (found (cond {A = List Subscription} c (sub ∷ mine p subs) (mine p subs))) pipe) [
        | true ↦ λ is.
            let none : is_subscribed subs id p ≡ false = ap (λ n. is_subscribed subs n p) (sym (eqb-true sub.id id same)) ∙ ap (is_subscribed subs sub.id) (sym (eqb-true sub.pipe p is)) ∙ pairs.0 in
            let no : mine p (route subs id) ≡ [] = filter-any (λ (x : Subscription). x.pipe == p) (route subs id)
            (any-filter (λ (x : Subscription). x.pipe == p) (λ x. x.id == id) (λ x. x.id == id && x.pipe == p) (λ x. swapped (x.id == id) (x.pipe == p)) subs ∙ none) in
            ap (λ xs. offers sending xs (offered sending sub pipe)) no
            ∙ ap (λ b. offered_to sending (cond {A = Option Subscription} b (Some sub) (found (mine p subs))) pipe) (sym same)
        | false ↦ λ is. rest
      ] refl
      | false ↦ λ same. elim (sub.pipe == p) as (λ c. offers sending (mine p (route subs id)) pipe ≡ offered_to sending (found (cond {A = List Subscription} c (sub ∷ mine p subs) (mine p subs))) pipe) [
        | true ↦ rest ∙ ap (λ b. offered_to sending (cond {A = Option Subscription} b (Some sub) (found (mine p subs))) pipe) (sym same)
        | false ↦ rest
      ]
    ] refl
  where
    swapped : (a b : Bool) → (a && b) ≡ (b && a)
    swapped true true = refl
    swapped true false = refl
    swapped false true = refl
    swapped false false = refl

-- what a send of an id does to a pipe
delivered_route : (sending : Sending) (p id : ℕ) (subs : List Subscription) (pipes : List Pipe) → ArePairs subs →
    pipe_at (deliver sending (route subs id) pipes) p ≡ option_map (offered_to sending (find (λ sub. sub.id == id) (mine p subs))) (pipe_at pipes p)
delivered_route sending p id subs pipes pairs =
    delivered_at sending p (route subs id) pipes
    ∙ option_map-same (offers sending (mine p (route subs id))) (offered_to sending (find (λ sub. sub.id == id) (mine p subs))) (λ pipe. offers-route sending p id subs pipe pairs) (pipe_at pipes p)

-- Entries. --

-- these inputs leave the pipe and the pipe alone alike, and give what the entry gives
pub record Goes (p : ℕ) (inputs : List Input) (gets : Bool) (top : ℕ) (pipes : List Pipe) (subs : List Subscription) (a : Alone) : Type 0 where
  pub own : ℕ → ℕ
  pub alike : AreAlike own top (pipe_at pipes p) (mine p subs) (solo a inputs)
  pub given : solo_receipts a inputs ≡ (if gets then newest_on pipes p else [])

-- the pipe in this state of the bus and the pipe alone
abbrev pub Stand : (ℕ → ℕ) → ℕ → State → Alone → Type 0
Stand own p s a = AreAlike own s.subscriptions_made (pipe_at s.pipes p) (mine p s.subscriptions) a

-- an entry that is nothing to the pipe
pub goes_by : (own : ℕ → ℕ) (p top : ℕ) (pipes : List Pipe) (subs : List Subscription) (a : Alone) → AreAlike own top (pipe_at pipes p) (mine p subs) a → Goes p [] false top pipes subs a
goes_by own p top pipes subs a alike = record { own = own; alike = alike; given = refl }

if_on_goes : (p pipe : ℕ) (input : Input) (gets : Bool) (top : ℕ) (pipes : List Pipe) (subs : List Subscription) (a : Alone) →
    ((p == pipe) ≡ true → Goes p (input ∷ []) gets top pipes subs a) → ((p == pipe) ≡ false → Goes p [] gets top pipes subs a) → Goes p (if_on p pipe input) gets top pipes subs a
if_on_goes p pipe input gets top pipes subs a here other =
    elim (p == pipe) as (λ b. (p == pipe) ≡ b → Goes p (cond {A = List Input} b (input ∷ []) []) gets top pipes subs a) [ true ↦ here | false ↦ other ] refl

-- the pipe is made, or another
pub goes-create : (own : ℕ → ℕ) (p top app depth number created : ℕ) (name : List ℕ) (pipes : List Pipe) (subs : List Subscription) (a : Alone) →
    AreRising 0 created (map (λ pipe. pipe.number) pipes) → created < number → Each (λ sub. is_live pipes sub.pipe ≡ true) subs → AreAlike own top (pipe_at pipes p) (mine p subs) a →
    Goes p (if_on p number (Start app depth)) false top (pipes ++ record { number = number; name = name; owner = app; depth = depth; bits = 0; queue = []; last = None } ∷ []) subs a
goes-create own p top app depth number created name pipes subs a rising higher live alike =
    let new : Pipe = record { number = number; name = name; owner = app; depth = depth; bits = 0; queue = []; last = None } in
    if_on_goes p number (Start app depth) false top (pipes ++ new ∷ []) subs a
    (λ is.
    let dead : is_live pipes p ≡ false = unmade_dead created p pipes rising (subst (λ n. created < n) (sym (eqb-true p number is)) higher) in
    record {
      own = λ n. 0;
      alike = unmoved (λ n. 0) top top (Some new) (pipe_at (pipes ++ new ∷ []) p) [] (mine p subs) _ (omega arith)
          (sym (find-push_here (λ (x : Pipe). x.number == p) pipes new (find-any (λ (x : Pipe). x.number == p) pipes dead) (same-sym number p ∙ is)))
          (sym (dead_none pipes p subs live dead)) (alike-start top app depth number name);
      given = refl;
    })
    (λ other. goes_by own p top (pipes ++ new ∷ []) subs a
    (unmoved own top top (pipe_at pipes p) (pipe_at (pipes ++ new ∷ []) p) (mine p subs) (mine p subs) a (omega arith)
    (sym (find-push_other (λ (x : Pipe). x.number == p) pipes new (same-sym number p ∙ other))) refl alike))

-- the pipe is deleted, or another
pub goes-delete : (own : ℕ → ℕ) (p top pipe : ℕ) (pipes : List Pipe) (subs : List Subscription) (a : Alone) → AreAlike own top (pipe_at pipes p) (mine p subs) a →
    Goes p (if_on p pipe Stop) false top (filter (λ x. not (x.number == pipe)) pipes) (filter (λ sub. not (sub.pipe == pipe)) subs) a
goes-delete own p top pipe pipes subs a alike =
    let left = filter (λ (x : Pipe). not (x.number == pipe)) pipes in
    let kept = filter (λ (sub : Subscription). not (sub.pipe == pipe)) subs in
    if_on_goes p pipe Stop false top left kept a
    (λ is.
    let gone : (n : ℕ) → (n == p) ≡ true → not (n == pipe) ≡ false = λ n same. ap (λ b. not b) (ap (λ q. n == q) (sym (eqb-true p pipe is)) ∙ same) in
    record {
      own = own;
      alike = unmoved own top top None (pipe_at left p) [] (mine p kept) _ (omega arith)
          (sym (find-filter_none (λ (x : Pipe). x.number == p) (λ x. not (x.number == pipe)) (λ x same. gone x.number same) pipes))
          (sym (filters (λ (sub : Subscription). sub.pipe == p) (λ sub. not (sub.pipe == pipe)) (λ sub. false) (λ sub same. gone sub.pipe same) subs ∙ filter-none (mine p subs)))
          (alike-stop own top (pipe_at pipes p) (mine p subs) a alike);
      given = refl;
    })
    (λ other.
    let stays : (n : ℕ) → (n == p) ≡ true → not (n == pipe) ≡ true = λ n same. ap (λ b. not b) (ap (λ q. q == pipe) (eqb-true n p same) ∙ other) in
    goes_by own p top left kept a (unmoved own top top (pipe_at pipes p) (pipe_at left p) (mine p subs) (mine p kept) a (omega arith)
    (sym (find-filter (λ (x : Pipe). x.number == p) (λ x. not (x.number == pipe)) (λ x same. stays x.number same) pipes))
    (sym (filters (λ (sub : Subscription). sub.pipe == p) (λ sub. not (sub.pipe == pipe)) (λ sub. true) (λ sub same. stays sub.pipe same) subs ∙ filter-all (mine p subs)))
    alike))

-- its option bits are set, or another's
pub goes-opts : (own : ℕ → ℕ) (p top pipe bits : ℕ) (pipes : List Pipe) (subs : List Subscription) (a : Alone) → AreAlike own top (pipe_at pipes p) (mine p subs) a →
    Goes p (if_on p pipe (Opts bits)) false top (with_pipe (with_bits bits) pipe pipes) subs a
goes-opts own p top pipe bits pipes subs a alike =
    if_on_goes p pipe (Opts bits) false top (with_pipe (with_bits bits) pipe pipes) subs a
    (λ is. record {
      own = own;
      alike = unmoved own top top (option_map (with_bits bits) (pipe_at pipes p)) _ (mine p subs) (mine p subs) _ (omega arith)
          (sym (changed_here (with_bits bits) (λ x. refl) p pipe pipes is)) refl (alike-bits own top bits (pipe_at pipes p) (mine p subs) a alike);
      given = refl;
    })
    (λ other. goes_by own p top _ subs a (unmoved own top top (pipe_at pipes p) _ (mine p subs) (mine p subs) a (omega arith)
    (sym (changed_other (with_bits bits) (λ x. refl) p pipe pipes other)) refl alike))

-- whether it is subscribed
subscribed_here : (p id : ℕ) (subs : List Subscription) → list_any (λ sub. sub.id == id) (mine p subs) ≡ is_subscribed subs id p
subscribed_here p id subs = any-filter (λ (sub : Subscription). sub.id == id) (λ sub. sub.pipe == p) (λ sub. sub.id == id && sub.pipe == p) (λ sub. refl) subs

-- a subscription once more
pub goes-duplicate : (own : ℕ → ℕ) (p top id pipe limit : ℕ) (pipes : List Pipe) (subs : List Subscription) (a : Alone) → is_subscribed subs id pipe ≡ true →
    AreAlike own top (pipe_at pipes p) (mine p subs) a → Goes p (if_on p pipe (Sub id limit)) false top pipes subs a
goes-duplicate own p top id pipe limit pipes subs a live alike =
    if_on_goes p pipe (Sub id limit) false top pipes subs a
    (λ is.
    let there : list_any (λ (sub : Subscription). sub.id == id) a.subscriptions ≡ true =
    ap (list_any (λ (sub : Subscription). sub.id == id)) alike.subscriptions ∙ any-map (λ (sub : Subscription). sub.id == id) _ (mine p subs)
    ∙ subscribed_here p id subs ∙ ap (is_subscribed subs id) (eqb-true p pipe is) ∙ live in
    let more : Alone = record a {
      subscriptions = a.subscriptions ++ record { number = a.made + 1; id = id; pipe = 1; limit = limit; scope = Global } ∷ [];
      made = a.made + 1;
    } in
    record {
      own = own;
      alike = subst (λ b. AreAlike own top (pipe_at pipes p) (mine p subs) (cond {A = Alone} b a more)) (sym there) alike;
      given = refl;
    })
    (λ other. goes_by own p top pipes subs a alike)

-- a new subscription of it, or of another
pub goes-subscribe : (own : ℕ → ℕ) (p top id pipe limit : ℕ) (scope : Scope) (pipes : List Pipe) (subs : List Subscription) (a : Alone) → is_subscribed subs id pipe ≡ false →
    AreAlike own top (pipe_at pipes p) (mine p subs) a →
    Goes p (if_on p pipe (Sub id limit)) false (top + 1) pipes (subs ++ record { number = top + 1; id = id; pipe = pipe; limit = limit; scope = scope } ∷ []) a
goes-subscribe own p top id pipe limit scope pipes subs a none alike =
    let new : Subscription = record { number = top + 1; id = id; pipe = pipe; limit = limit; scope = scope } in
    let pushed = filter-push (λ (sub : Subscription). sub.pipe == p) subs new in
    if_on_goes p pipe (Sub id limit) false (top + 1) pipes (subs ++ new ∷ []) a
    (λ is. record {
      own = with_own own (top + 1) (a.made + 1);
      alike = unmoved (with_own own (top + 1) (a.made + 1)) (top + 1) (top + 1) (pipe_at pipes p) (pipe_at pipes p) (mine p subs ++ new ∷ []) (mine p (subs ++ new ∷ [])) _ (omega arith) refl
          (sym (pushed ∙ ap (λ b. mine p subs ++ cond {A = List Subscription} b (new ∷ []) []) (same-sym pipe p ∙ is)))
          (alike-sub own top id pipe limit scope (pipe_at pipes p) (mine p subs) a (subscribed_here p id subs ∙ ap (is_subscribed subs id) (eqb-true p pipe is) ∙ none) alike);
      given = refl;
    })
    (λ other. goes_by own p (top + 1) pipes (subs ++ new ∷ []) a (unmoved own top (top + 1) (pipe_at pipes p) (pipe_at pipes p) (mine p subs) (mine p (subs ++ new ∷ [])) a (omega arith) refl
    (sym (pushed ∙ ap (λ b. mine p subs ++ cond {A = List Subscription} b (new ∷ []) []) (same-sym pipe p ∙ other) ∙ append-nil (mine p subs)))
    alike))

-- the end of a subscription of it, or of another
pub goes-unsubscribe : (own : ℕ → ℕ) (p top id pipe : ℕ) (pipes : List Pipe) (subs : List Subscription) (a : Alone) → AreAlike own top (pipe_at pipes p) (mine p subs) a →
    Goes p (if_on p pipe (Unsub id)) false top pipes (filter (λ sub. not (sub.id == id && sub.pipe == pipe)) subs) a
goes-unsubscribe own p top id pipe pipes subs a alike =
    let kept = filter (λ (sub : Subscription). not (sub.id == id && sub.pipe == pipe)) subs in
    if_on_goes p pipe (Unsub id) false top pipes kept a
    (λ is. record {
      own = own;
      alike = unmoved own top top (pipe_at pipes p) (pipe_at pipes p) (filter (λ sub. not (sub.id == id)) (mine p subs)) (mine p kept) _ (omega arith) refl
          (sym (filters (λ (sub : Subscription). sub.pipe == p) (λ sub. not (sub.id == id && sub.pipe == pipe)) (λ sub. not (sub.id == id))
          (λ sub same. ap (λ b. not (sub.id == id && b)) (ap (λ q. sub.pipe == q) (sym (eqb-true p pipe is)) ∙ same) ∙ ap (λ b. not b) (and_true (sub.id == id))) subs))
          (alike-unsub own top id (pipe_at pipes p) (mine p subs) a alike);
      given = refl;
    })
    (λ other. goes_by own p top pipes kept a (unmoved own top top (pipe_at pipes p) (pipe_at pipes p) (mine p subs) (mine p kept) a (omega arith) refl
    (sym (filters (λ (sub : Subscription). sub.pipe == p) (λ sub. not (sub.id == id && sub.pipe == pipe)) (λ sub. true)
    (λ sub same. ap (λ b. not (sub.id == id && b)) (ap (λ q. q == pipe) (eqb-true sub.pipe p same) ∙ other) ∙ ap (λ b. not b) (and_false (sub.id == id))) subs
    ∙ filter-all (mine p subs)))
    alike))
  where
    and_true : (b : Bool) → (b && true) ≡ b
    and_true true = refl
    and_true false = refl

    and_false : (b : Bool) → (b && false) ≡ false
    and_false true = refl
    and_false false = refl

-- the pipe alone gives what is the pipe's last
seen_last : (own : ℕ → ℕ) (live : Option Pipe) (pipe : Pipe) → IsSeen own live pipe → last_of pipe.last ≡ option_map_or (λ (x : Pipe). last_of x.last) live []
seen_last own None pipe seen = ap last_of seen.1
seen_last own (Some live) pipe seen = seen.last

none_queued : (live : Pipe) → (length live.queue == 0) ≡ true → live.queue ≡ []
none_queued live is = by_queue live.queue is
  where
    by_queue : (queue : List Item) → (length queue == 0) ≡ true → queue ≡ []
    by_queue [] is = refl
    by_queue (item ∷ queue) is = let same : suc (length queue) ≡ 0 = eqb-true (suc (length queue)) 0 is in absurd (omega (arith, same))

-- an empty pipe gives nothing
seen_none : (own : ℕ → ℕ) (live : Option Pipe) (pipe : Pipe) → IsSeen own live pipe → option_map_or (λ (x : Pipe). length x.queue == 0) live true ≡ true → last_of (oldest pipe.queue) ≡ []
seen_none own None pipe seen empty = ap (λ q. last_of (oldest q)) seen.0
seen_none own (Some live) pipe seen empty = ap (λ q. last_of (oldest q)) (seen.queue ∙ ap (map _) (none_queued live empty))

taken : (own : ℕ → ℕ) (p top pipe : ℕ) (pipes : List Pipe) (subs : List Subscription) (a : Alone) → (p == pipe) ≡ true → AreAlike own top (pipe_at pipes p) (mine p subs) a →
    AreAlike own top (pipe_at (with_pipe after_receive pipe pipes) p) (mine p subs) (record a { pipe = after_receive a.pipe })
taken own p top pipe pipes subs a is alike =
    unmoved own top top (option_map after_receive (pipe_at pipes p)) _ (mine p subs) (mine p subs) _ (omega arith)
    (sym (changed_here after_receive (λ x. refl) p pipe pipes is)) refl (alike-take own top (pipe_at pipes p) (mine p subs) a alike)

untaken : (own : ℕ → ℕ) (p top pipe : ℕ) (pipes : List Pipe) (subs : List Subscription) (a : Alone) → (p == pipe) ≡ false → AreAlike own top (pipe_at pipes p) (mine p subs) a →
    AreAlike own top (pipe_at (with_pipe after_receive pipe pipes) p) (mine p subs) a
untaken own p top pipe pipes subs a other alike =
    unmoved own top top (pipe_at pipes p) _ (mine p subs) (mine p subs) a (omega arith)
    (sym (changed_other after_receive (λ x. refl) p pipe pipes other)) refl alike

-- a receive that gives a message, on it or on another
pub goes-got : (own : ℕ → ℕ) (p top pipe : ℕ) (pipes : List Pipe) (subs : List Subscription) (a : Alone) → AreAlike own top (pipe_at pipes p) (mine p subs) a →
    Goes p (if_on p pipe Take) (p == pipe) top (with_pipe after_receive pipe pipes) subs a
goes-got own p top pipe pipes subs a alike =
    elim (p == pipe) as (λ b. (p == pipe) ≡ b → Goes p (cond {A = List Input} b (Take ∷ []) []) b top (with_pipe after_receive pipe pipes) subs a) [
      | true ↦ λ is.
          let now = taken own p top pipe pipes subs a is alike in
          record { own = own; alike = now; given = append-nil (last_of (after_receive a.pipe).last) ∙ seen_last own (pipe_at (with_pipe after_receive pipe pipes) p) (after_receive a.pipe) now.pipe }
      | false ↦ λ other. goes_by own p top _ subs a (untaken own p top pipe pipes subs a other alike)
    ] refl

-- a receive on an empty pipe
pub goes-empty : (own : ℕ → ℕ) (p top pipe : ℕ) (pipes : List Pipe) (subs : List Subscription) (a : Alone) →
    option_map_or (λ (x : Pipe). length x.queue == 0) (pipe_at pipes pipe) true ≡ true → AreAlike own top (pipe_at pipes p) (mine p subs) a →
    Goes p (if_on p pipe Take) false top (with_pipe after_receive pipe pipes) subs a
goes-empty own p top pipe pipes subs a empty alike =
    if_on_goes p pipe Take false top (with_pipe after_receive pipe pipes) subs a
    (λ is. record {
      own = own;
      alike = taken own p top pipe pipes subs a is alike;
      given = append-nil (last_of (after_receive a.pipe).last)
          ∙ seen_none own (pipe_at pipes p) a.pipe alike.pipe (ap (λ q. option_map_or (λ (x : Pipe). length x.queue == 0) (pipe_at pipes q) true) (eqb-true p pipe is) ∙ empty);
    })
    (λ other. goes_by own p top _ subs a (untaken own p top pipe pipes subs a other alike))

-- an accepted send, once the pipe was made
pub goes-send : (own : ℕ → ℕ) (p top id : ℕ) (sending : Sending) (pipes : List Pipe) (subs : List Subscription) (a : Alone) → ArePairs subs → Each (λ sub. is_live pipes sub.pipe ≡ true) subs →
    AreAlike own top (pipe_at pipes p) (mine p subs) a →
    Goes p (Send sending.sender id sending.number sending.message ∷ []) false top (deliver sending (route subs id) pipes) subs a
goes-send own p top id sending pipes subs a pairs live alike = record {
  own = own;
  alike = unmoved own top top (option_map (offered_to sending (find (λ sub. sub.id == id) (mine p subs))) (pipe_at pipes p)) _ (mine p subs) (mine p subs) _ (omega arith)
      (sym (delivered_route sending p id subs pipes pairs)) refl
      (alike-send own top id (pipe_at pipes p) (mine p subs) a sending (λ none. dead_none pipes p subs live (any-find pipes p none)) alike);
  given = refl;
}

-- an accepted send if the pipe isn't made
pub goes-early : (own : ℕ → ℕ) (p top created id : ℕ) (sending : Sending) (pipes : List Pipe) (subs : List Subscription) (a : Alone) → ArePairs subs →
    AreRising 0 created (map (λ pipe. pipe.number) pipes) → (nat_le 1 p && nat_le p created) ≡ false → AreAlike own top (pipe_at pipes p) (mine p subs) a →
    Goes p [] false top (deliver sending (route subs id) pipes) subs a
goes-early own p top created id sending pipes subs a pairs rising early alike =
    let none : pipe_at pipes p ≡ None = find-any (λ (x : Pipe). x.number == p) pipes (never_live created p pipes rising early) in
    goes_by own p top _ subs a (unmoved own top top (pipe_at pipes p) _ (mine p subs) (mine p subs) a (omega arith)
    (none ∙ sym (delivered_route sending p id subs pipes pairs ∙ ap (option_map (offered_to sending (find (λ sub. sub.id == id) (mine p subs)))) none)) refl alike)

-- The end of an application. --

-- numbers above a pipe's are not its
none_later : (low top p app : ℕ) (pipes : List Pipe) → AreRising low top (map (λ pipe. pipe.number) pipes) → p ≤ low → owns pipes app p ≡ false
none_later low top p app [] rising below = refl
none_later low top p app (x ∷ pipes) rising below =
    ap (λ b. (b && x.owner == app) || owns pipes app p) (ne_eqb x.number p (λ same. omega (arith, same, rising.0, below)))
    ∙ none_later x.number top p app pipes rising.1 (omega (arith, rising.0, below))

unlisted : (low top p : ℕ) (keeps : Pipe → Bool) (pipes : List Pipe) → AreRising low top (map (λ pipe. pipe.number) pipes) → p ≤ low → pipe_at (filter keeps pipes) p ≡ None
unlisted low top p keeps [] rising below = refl
unlisted low top p keeps (x ∷ pipes) rising below =
    let rest = unlisted x.number top p keeps pipes rising.1 (omega (arith, rising.0, below)) in
    elim (keeps x) as (λ b. pipe_at (cond {A = List Pipe} b (x ∷ filter keeps pipes) (filter keeps pipes)) p ≡ None) [
      | true ↦ ap (λ b. cond {A = Option Pipe} b (Some x) (pipe_at (filter keeps pipes) p)) (ne_eqb x.number p (λ same. omega (arith, same, rising.0, below))) ∙ rest
      | false ↦ rest
    ]

-- the application's own pipe leaves
own_leaves : (low top p app : ℕ) (pipes : List Pipe) → AreRising low top (map (λ pipe. pipe.number) pipes) → owns pipes app p ≡ true → pipe_at (filter (λ pipe. not (pipe.owner == app)) pipes) p ≡ None
own_leaves low top p app [] rising own = refl
own_leaves low top p app (x ∷ pipes) rising own =
    let left = filter (λ (pipe : Pipe). not (pipe.owner == app)) pipes in
    elim (x.number == p) as (λ b. (x.number == p) ≡ b → ((b && x.owner == app) || owns pipes app p) ≡ true → pipe_at (cond {A = List Pipe} (not (x.owner == app)) (x ∷ left) left) p ≡ None) [
      | true ↦ λ is. elim (x.owner == app) as (λ c. (c || owns pipes app p) ≡ true → pipe_at (cond {A = List Pipe} (not c) (x ∷ left) left) p ≡ None) [
        | true ↦ λ so. unlisted x.number top p (λ pipe. not (pipe.owner == app)) pipes rising.1 (subst (λ n. p ≤ n) (sym (eqb-true x.number p is)) (omega arith))
        | false ↦ λ so. absurd (true≢false (sym so ∙ none_later x.number top p app pipes rising.1 (subst (λ n. p ≤ n) (sym (eqb-true x.number p is)) (omega arith))))
      ]
      | false ↦ λ is so.
          let rest = own_leaves x.number top p app pipes rising.1 so in
          elim (x.owner == app) as (λ c. pipe_at (cond {A = List Pipe} (not c) (x ∷ left) left) p ≡ None) [
            | true ↦ rest
            | false ↦ ap (λ b. cond {A = Option Pipe} b (Some x) (pipe_at left p)) is ∙ rest
          ]
    ] refl own

-- another's pipe stays
other_stays : (p app : ℕ) (pipes : List Pipe) → owns pipes app p ≡ false → pipe_at (filter (λ pipe. not (pipe.owner == app)) pipes) p ≡ pipe_at pipes p
other_stays p app [] other = refl
other_stays p app (x ∷ pipes) other =
    let left = filter (λ (pipe : Pipe). not (pipe.owner == app)) pipes in
    let parts = neither (x.number == p && x.owner == app) (owns pipes app p) other in
    let rest = other_stays p app pipes parts.1 in
    elim (x.owner == app) as (λ c. (x.number == p && c) ≡ false → pipe_at (cond {A = List Pipe} (not c) (x ∷ left) left) p ≡ cond {A = Option Pipe} (x.number == p) (Some x) (pipe_at pipes p)) [
      | true ↦ λ is. elim (x.number == p) as (λ b. (b && true) ≡ false → pipe_at left p ≡ cond {A = Option Pipe} b (Some x) (pipe_at pipes p)) [
        | true ↦ λ so. absurd (true≢false so)
        | false ↦ λ so. rest
      ] is
      | false ↦ λ is. ap (λ o. cond {A = Option Pipe} (x.number == p) (Some x) o) rest
    ] parts.0

-- its owner ends, or another application
pub goes-end : (own : ℕ → ℕ) (p top created app : ℕ) (pipes : List Pipe) (subs : List Subscription) (a : Alone) → AreRising 0 created (map (λ pipe. pipe.number) pipes) →
    AreAlike own top (pipe_at pipes p) (mine p subs) a →
    Goes p (if owns pipes app p then Stop ∷ [] else []) false top (filter (λ pipe. not (pipe.owner == app)) pipes) (filter (λ sub. not (owns pipes app sub.pipe)) subs) a
goes-end own p top created app pipes subs a rising alike =
    let left = filter (λ (pipe : Pipe). not (pipe.owner == app)) pipes in
    let kept = filter (λ (sub : Subscription). not (owns pipes app sub.pipe)) subs in
    elim (owns pipes app p) as (λ b. owns pipes app p ≡ b → Goes p (cond {A = List Input} b (Stop ∷ []) []) false top left kept a) [
      | true ↦ λ is. record {
        own = own;
        alike = unmoved own top top None (pipe_at left p) [] (mine p kept) _ (omega arith) (sym (own_leaves 0 created p app pipes rising is))
            (sym (filters (λ (sub : Subscription). sub.pipe == p) (λ sub. not (owns pipes app sub.pipe)) (λ sub. false) (λ sub same. ap (λ n. not (owns pipes app n)) (eqb-true sub.pipe p same) ∙ ap (λ b. not b) is) subs ∙ filter-none (mine p subs)))
            (alike-stop own top (pipe_at pipes p) (mine p subs) a alike);
        given = refl;
      }
      | false ↦ λ is. goes_by own p top left kept a (unmoved own top top (pipe_at pipes p) (pipe_at left p) (mine p subs) (mine p kept) a (omega arith) (sym (other_stays p app pipes is))
          (sym (filters (λ (sub : Subscription). sub.pipe == p) (λ sub. not (owns pipes app sub.pipe)) (λ sub. true) (λ sub same. ap (λ n. not (owns pipes app n)) (eqb-true sub.pipe p same) ∙ ap (λ b. not b) is) subs ∙ filter-all (mine p subs)))
          alike)
    ] refl
