-- An application's pipes that end, with their subscriptions and messages.
use Rattle.std.proofs.Common.{◌≡◌, ℕ, ◌<◌, Bool, true, false, not, cond, ◌&&◌, eqb, List, [], ◌∷◌, length, get_or, filter, find, Option, Some, None, refl, ap, sym, ◌∙◌, arith}
use Rattle.std.specs.List.{All}
use Rattle.std.specs.Option.{option_map}
use Rattle.std.proofs.lemmas.Bool.{eqb-true, eq-eqb}
use Rattle.std.proofs.lemmas.List.Elements.{All-nil, All-cons, All-weaker, All-filter, filter_passes}
use Rattle.std.proofs.lemmas.Map.Views.{any-filter_same}
use Rattle.fsw_base.specs.PoolAccounts.{Account}
use Rattle.bus_words.specs.Bus.{Pipe, Subscription, owns}
use Rattle.bus_words.proofs.Finds.{any-filter_none}
use Rattle.bus_routes.proofs.EndingsLists.{found_all, found_any, found_passes, filter_whole, filter_shorter, filter_within, none_any, not_found}
use Rattle.bus_routes.proofs.Endings.{and_left}
use Rattle.bus_routes.proofs.Removals.{other_number}
use Rattle.bus_messages.specs.Store.{Store, LastLoan}
use Rattle.bus_words.specs.Pipes.{IsRising}

-- rising numbers are all above the first bound
rising_above : (below : ℕ) (pipes : List Pipe) → IsRising below pipes → All (λ one. below < one.number) pipes
rising_above below [] rising = All-nil (λ (one : Pipe). below < one.number)
rising_above below (one ∷ pipes) rising =
    All-cons (λ r. below < r.number) one pipes rising.0
    (All-weaker (λ r. one.number < r.number) (λ r. below < r.number) (λ r above. omega (arith, above, rising.0)) pipes (rising_above one.number pipes rising.1))

-- no other pipe has the number of a live one
pub own_pipe : (p : Pipe → Bool) (below : ℕ) (pipes : List Pipe) (one : Pipe) → IsRising below pipes → find p pipes ≡ Some one → All (λ r. r.number ≡ one.number → r ≡ one) pipes
own_pipe p below [] one rising found = absurd cc
own_pipe p below (r ∷ pipes) one rising found = choose (own_pipe p r.number pipes one rising.1) (p r) found
  where
    Own : Pipe → Type 0
    Own q = q.number ≡ one.number → q ≡ one

    choose : (find p pipes ≡ Some one → All Own pipes) → (b : Bool) → cond {A = Option Pipe} b (Some r) (find p pipes) ≡ Some one → All Own (r ∷ pipes)
    choose rest true found =
        let same : r ≡ one = cc in
        All-cons Own r pipes (λ _. same)
        (All-weaker (λ q. r.number < q.number) Own (λ q above is. absurd (omega (arith, above, is, ap (λ x. x.number) same))) pipes (rising_above r.number pipes rising.1))
    choose rest false found =
        let above : r.number < one.number = found_all p (λ q. r.number < q.number) pipes one (rising_above r.number pipes rising.1) found in
        All-cons Own r pipes (λ is. absurd (omega (arith, above, is))) (rest found)

-- the first of an application's pipes, by its number
pub first_pipe : (o : Option Pipe) (number : ℕ) → option_map (λ one. one.number) o ≡ Some number → (one : Pipe) × (o ≡ Some one) × (one.number ≡ number)
first_pipe None number is = absurd cc
first_pipe (Some one) number is = let same : one.number ≡ number = cc in (one, refl, same)

-- an application has no pipe
pub no_first : (o : Option Pipe) → option_map (λ one. one.number) o ≡ None → o ≡ None
no_first None is = refl
no_first (Some one) is = absurd cc

module _ (pipes : List Pipe) (app number : ℕ) (one : Pipe) (found : find (λ r. eqb r.owner app) pipes ≡ Some one) (its : one.number ≡ number) where
  -- its owner
  owner_is : one.owner ≡ app
  owner_is = eqb-true one.owner app (found_passes (λ r. eqb r.owner app) pipes one found)

  -- its end takes no pipe of another application away
  pub pipes_stay : IsRising 0 pipes → filter (λ r. not (eqb r.owner app)) (filter (λ r. not (eqb r.number number)) pipes) ≡ filter (λ r. not (eqb r.owner app)) pipes
  pipes_stay rising =
      filter_within (λ r. not (eqb r.owner app)) (λ r. not (eqb r.number number)) pipes
      (All-weaker (λ r. r.number ≡ one.number → r ≡ one) (λ r. not (eqb r.owner app) ≡ true → not (eqb r.number number) ≡ true)
      (λ r only other. by_number r only other (eqb r.number number) refl) pipes (own_pipe (λ r. eqb r.owner app) 0 pipes one rising found))
    where
      by_number : (r : Pipe) → (r.number ≡ one.number → r ≡ one) → not (eqb r.owner app) ≡ true → (b : Bool) → eqb r.number number ≡ b → not b ≡ true
      by_number r only other true e =
          let same : r ≡ one = only (eqb-true r.number number e ∙ sym its) in
          absurd (cc (sym other ∙ ap not (eq-eqb r.owner app (ap (λ q. q.owner) same ∙ owner_is))))
      by_number r only other false e = refl

  -- there are fewer then
  pub pipes_fewer : length (filter (λ r. not (eqb r.number number)) pipes) < length pipes
  pipes_fewer = filter_shorter (λ r. eqb r.owner app) (λ r. not (eqb r.number number)) pipes one found (ap not (eq-eqb one.number number its))

  -- its number is of one of the application's pipes
  pub first_owned : owns pipes app number ≡ true
  first_owned =
      found_any (λ r. eqb r.owner app) (λ r. eqb r.number number && eqb r.owner app) pipes one found
      (ap (λ b. b && eqb one.owner app) (eq-eqb one.number number its) ∙ eq-eqb one.owner app owner_is)

-- whether another pipe is the application's
pub owned_else : (pipes : List Pipe) (app number pipe : ℕ) → not (eqb pipe number) ≡ true → owns (filter (λ r. not (eqb r.number number)) pipes) app pipe ≡ owns pipes app pipe
owned_else pipes app number pipe apart =
    any-filter_same (λ r. eqb r.number pipe && eqb r.owner app) (λ r. not (eqb r.number number)) true
    (λ r passes. other_number r.number pipe number apart (and_left (eqb r.number pipe) (eqb r.owner app) passes)) pipes

-- subscriptions of the application's pipes, at first and now
abbrev pub AreOwned : List Pipe → List Pipe → ℕ → List Subscription → Type 0
AreOwned first now app subscriptions = All (λ sub. owns first app sub.pipe ≡ owns now app sub.pipe) subscriptions

-- the end of one of its pipes
pub owned_after : (first now : List Pipe) (app number : ℕ) (subscriptions : List Subscription) → AreOwned first now app subscriptions →
    AreOwned first (filter (λ r. not (eqb r.number number)) now) app (filter (λ sub. not (eqb sub.pipe number)) subscriptions)
owned_after first now app number subscriptions owned = λ k d within.
    let stay = filter (λ sub. not (eqb sub.pipe number)) subscriptions in
    let sub = get_or stay k d in
    let was = All-filter (λ sub. not (eqb sub.pipe number)) (λ sub. owns first app sub.pipe ≡ owns now app sub.pipe) subscriptions owned in
    was k d within ∙ sym (owned_else now app number sub.pipe (filter_passes (λ sub. not (eqb sub.pipe number)) subscriptions k d within))

-- it takes no subscription of another application's pipe away
pub subs_stay : (first now : List Pipe) (app number : ℕ) (subscriptions : List Subscription) → AreOwned first now app subscriptions → owns now app number ≡ true →
    filter (λ sub. not (owns first app sub.pipe)) (filter (λ sub. not (eqb sub.pipe number)) subscriptions) ≡ filter (λ sub. not (owns first app sub.pipe)) subscriptions
subs_stay first now app number subscriptions owned its =
    filter_within (λ sub. not (owns first app sub.pipe)) (λ sub. not (eqb sub.pipe number)) subscriptions
    (All-weaker (λ sub. owns first app sub.pipe ≡ owns now app sub.pipe) (λ sub. not (owns first app sub.pipe) ≡ true → not (eqb sub.pipe number) ≡ true)
    (λ sub same other. by_pipe sub same other (eqb sub.pipe number) refl) subscriptions owned)
  where
    by_pipe : (sub : Subscription) → owns first app sub.pipe ≡ owns now app sub.pipe → not (owns first app sub.pipe) ≡ true → (b : Bool) → eqb sub.pipe number ≡ b → not b ≡ true
    by_pipe sub same other true e =
        absurd (cc (sym other ∙ ap not (same ∙ ap (owns now app) (eqb-true sub.pipe number e) ∙ its)))
    by_pipe sub same other false e = refl

-- Once the application has no pipe. --

module _ (now : List Pipe) (app : ℕ) (none : find (λ r. eqb r.owner app) now ≡ None) where
  -- all pipes are of others
  others : All (λ r. eqb r.owner app ≡ false) now
  others = not_found (λ r. eqb r.owner app) now none

  -- all pipes stay
  pub pipes_left : filter (λ r. not (eqb r.owner app)) now ≡ now
  pipes_left = filter_whole (λ r. not (eqb r.owner app)) now (All-weaker (λ r. eqb r.owner app ≡ false) (λ r. not (eqb r.owner app) ≡ true) (λ r other. ap not other) now others)

  -- no number is of a pipe of its own
  owns_none : (pipe : ℕ) → owns now app pipe ≡ false
  owns_none pipe =
      none_any (λ r. eqb r.number pipe && eqb r.owner app) now
      (All-weaker (λ r. eqb r.owner app ≡ false) (λ r. (eqb r.number pipe && eqb r.owner app) ≡ false) (λ r other. ap (λ b. eqb r.number pipe && b) other ∙ and_false (eqb r.number pipe)) now others)
    where
      and_false : (b : Bool) → (b && false) ≡ false
      and_false true = refl
      and_false false = refl

  -- no subscription that is left is of a pipe of its own
  pub subs_left : (first : List Pipe) (subscriptions : List Subscription) → AreOwned first now app subscriptions → filter (λ sub. not (owns first app sub.pipe)) subscriptions ≡ subscriptions
  subs_left first subscriptions owned =
      filter_whole (λ sub. not (owns first app sub.pipe)) subscriptions
      (All-weaker (λ sub. owns first app sub.pipe ≡ owns now app sub.pipe) (λ sub. not (owns first app sub.pipe) ≡ true) (λ sub same. ap not (same ∙ owns_none sub.pipe)) subscriptions owned)

-- What each round leaves. --

-- pipes, subscriptions, account and loans alone are others than at first
abbrev pub Alone : Store → Store → Type 0
Alone first store = store ≡ record first { pipes = store.pipes; subscriptions = store.subscriptions; account = store.account; loans = store.loans }

-- what is out alone is other than at first
abbrev pub OutAlone : Account → Account → Type 0
OutAlone first account = account ≡ record first { out = account.out }

module _ (first before after : Store) (pipes : List Pipe) (left : List Subscription) (out : List ℕ) (loans : List LastLoan)
    (is : after ≡ record before { pipes = pipes; subscriptions = left; account = record before.account { out = out }; loans = loans }) where
  pub still_alone : Alone first before → Alone first after
  still_alone was =
      is
      ∙ ap (λ (t : Store). let v : Store = record t { pipes = pipes; subscriptions = left; account = record before.account { out = out }; loans = loans } in v) was
      ∙ sym (ap (λ (t : Store). let v : Store = record first { pipes = t.pipes; subscriptions = t.subscriptions; account = t.account; loans = t.loans } in v) is)

  pub still_out : OutAlone first.account before.account → OutAlone first.account after.account
  still_out was =
      ap (λ (t : Store). t.account) is
      ∙ ap (λ (c : Account). let v : Account = record c { out = out } in v) was
      ∙ sym (ap (λ (t : Store). let v : Account = record first.account { out = t.account.out } in v) is)

-- a pipe of its own was one at first
abbrev pub AreFewer : List Pipe → List Pipe → ℕ → Type 0
AreFewer first now app = (number : ℕ) → owns now app number ≡ true → owns first app number ≡ true

pub still_fewer : (first now : List Pipe) (app number : ℕ) → AreFewer first now app → AreFewer first (filter (λ r. not (eqb r.number number)) now) app
still_fewer first now app number fewer other own = fewer other (by_test (owns now app other) refl)
  where
    by_test : (b : Bool) → owns now app other ≡ b → owns now app other ≡ true
    by_test true e = e
    by_test false e = absurd (wrong (sym own ∙ any-filter_none (λ (p : Pipe). eqb p.number other && eqb p.owner app) (λ (p : Pipe). not (eqb p.number number)) now e))
      where
        wrong : true ≡ false → ⊥
        wrong is = cc (is)
