-- Whose a pipe is, and what changes of pipes leave of it.
use Rattle.std.proofs.Common.{◌≡◌, ℕ, ◌<◌, ◌≤◌, Bool, true, false, ◌&&◌, ◌||◌, not, cond, eqb, List, [], ◌∷◌, ◌++◌, filter, find, Option, Some, refl, ap, sym, ◌∙◌, arith}
use Rattle.std.specs.List.{list_any}
use Rattle.std.specs.Option.{option_and_then}
use Rattle.std.proofs.lemmas.Bool.{eqb-true}
use Rattle.std.proofs.lemmas.Bool.Decides.{nat_tests}
use Rattle.std.proofs.lemmas.Map.Views.{any-filter_same}
use Rattle.bus_words.specs.Bus.{Pipe, pipe_at, is_live, owns, with_pipe, oldest, after_receive}
use Rattle.bus_words.proofs.Finds.{any-push, both}
use Rattle.bus_routes.proofs.EndingsLists.{find_within}
use Rattle.bus_words.specs.Pipes.{IsRising, oldest_on, last_on}

-- Owners. --

-- a pipe that an application owns is live
pub live_owned : (pipes : List Pipe) (app number : ℕ) → owns pipes app number ≡ true → is_live pipes number ≡ true
live_owned [] app number own = absurd (cc (own))
live_owned (pipe ∷ pipes) app number own = by_tests (eqb pipe.number number) (eqb pipe.owner app) (owns pipes app number) (is_live pipes number) (live_owned pipes app number) own
  where
    by_tests : (n o rest live : Bool) → (rest ≡ true → live ≡ true) → (n && o || rest) ≡ true → (n || live) ≡ true
    by_tests true o rest live ih is = refl
    by_tests false o rest live ih is = ih is

-- nobody owns a pipe of a number below all
none_below : (app number below : ℕ) (pipes : List Pipe) → IsRising below pipes → number ≤ below → owns pipes app number ≡ false
none_below app number below [] rises low = refl
none_below app number below (pipe ∷ pipes) rises low =
    ap (λ b. b && eqb pipe.owner app || owns pipes app number) (off pipe.number number (omega (arith, rises.0, low)))
    ∙ none_below app number pipe.number pipes rises.1 (omega (arith, rises.0, low))
  where
    off : (m n : ℕ) → n < m → eqb m n ≡ false
    off m n above = grind (arith, nat_tests)

-- a pipe has one owner
pub one_owner : (below : ℕ) (pipes : List Pipe) (app other number : ℕ) → IsRising below pipes → owns pipes app number ≡ true → owns pipes other number ≡ true → app ≡ other
one_owner below [] app other number rises mine its = absurd (cc (mine))
one_owner below (pipe ∷ pipes) app other number rises mine its = by_number (one_owner pipe.number pipes app other number rises.1) (eqb pipe.number number) refl mine its
  where
    low : (m n : ℕ) → eqb m n ≡ true → n ≤ m
    low m n same = grind (arith, nat_tests)

    here : (o rest : Bool) → rest ≡ false → (o || rest) ≡ true → o ≡ true
    here true rest none is = refl
    here false rest none is = sym none ∙ is

    by_number : (owns pipes app number ≡ true → owns pipes other number ≡ true → app ≡ other) → (b : Bool) → eqb pipe.number number ≡ b →
        (b && eqb pipe.owner app || owns pipes app number) ≡ true → (b && eqb pipe.owner other || owns pipes other number) ≡ true → app ≡ other
    by_number ih false e mine its = ih mine its
    by_number ih true e mine its =
        let after = λ (user : ℕ). none_below user number pipe.number pipes rises.1 (low pipe.number number e) in
        sym (eqb-true pipe.owner app (here (eqb pipe.owner app) (owns pipes app number) (after app) mine))
        ∙ eqb-true pipe.owner other (here (eqb pipe.owner other) (owns pipes other number) (after other) its)

-- One pipe more. --

find_pushed : {X : Type 0} (test : X → Bool) (xs : List X) (x : X) → list_any test xs ≡ true → find test (xs ++ x ∷ []) ≡ find test xs
find_pushed test [] x found = absurd (cc (found))
find_pushed {X} test (y ∷ xs) x found = by_test (find_pushed test xs x) (test y) found
  where
    by_test : (list_any test xs ≡ true → find test (xs ++ x ∷ []) ≡ find test xs) → (b : Bool) → (b || list_any test xs) ≡ true →
        cond {A = Option X} b (Some y) (find test (xs ++ x ∷ [])) ≡ cond {A = Option X} b (Some y) (find test xs)
    by_test ih true found = refl
    by_test ih false found = ih found

pub owns_pushed : (pipes : List Pipe) (pipe : Pipe) (app number : ℕ) → owns pipes app number ≡ true → owns (pipes ++ pipe ∷ []) app number ≡ true
owns_pushed pipes pipe app number own =
    any-push (λ (p : Pipe). eqb p.number number && eqb p.owner app) pipes pipe
    ∙ ap (λ b. b || (eqb pipe.number number && eqb pipe.owner app)) own

pub last_pushed : (pipes : List Pipe) (pipe : Pipe) (app number : ℕ) → owns pipes app number ≡ true → last_on (pipes ++ pipe ∷ []) number ≡ last_on pipes number
last_pushed pipes pipe app number own =
    ap (option_and_then (λ (p : Pipe). p.last)) (find_pushed (λ (p : Pipe). eqb p.number number) pipes pipe (live_owned pipes app number own))

-- A change that keeps numbers. --

module _ (change : Pipe → Pipe) (numbers : (pipe : Pipe) → (change pipe).number ≡ pipe.number) (changed : ℕ) where
  -- another pipe stays
  pub other_stays : (other : ℕ) → (changed ≡ other → ⊥) → (pipes : List Pipe) → pipe_at (with_pipe change changed pipes) other ≡ pipe_at pipes other
  other_stays other apart [] = refl
  other_stays other apart (pipe ∷ pipes) = by_test (eqb pipe.number changed) refl (other_stays other apart pipes)
    where
      off : (b : Bool) → eqb pipe.number changed ≡ true → eqb pipe.number other ≡ b → eqb pipe.number other ≡ false
      off false e is = is
      off true e is = absurd (apart (sym (eqb-true pipe.number changed e) ∙ eqb-true pipe.number other is))

      by_test : (b : Bool) → eqb pipe.number changed ≡ b → pipe_at (with_pipe change changed pipes) other ≡ pipe_at pipes other →
          cond {A = Option Pipe} (eqb (cond {A = Pipe} b (change pipe) pipe).number other) (Some (cond {A = Pipe} b (change pipe) pipe)) (pipe_at (with_pipe change changed pipes) other)
          ≡ cond {A = Option Pipe} (eqb pipe.number other) (Some pipe) (pipe_at pipes other)
      by_test false e ih = ap (cond {A = Option Pipe} (eqb pipe.number other) (Some pipe)) ih
      by_test true e ih =
          let none = off (eqb pipe.number other) e refl in
          ap (λ c. cond {A = Option Pipe} c (Some (change pipe)) (pipe_at (with_pipe change changed pipes) other)) (ap (λ n. eqb n other) (numbers pipe) ∙ none)
          ∙ ih
          ∙ sym (ap (λ c. cond {A = Option Pipe} c (Some pipe) (pipe_at pipes other)) none)

  -- owners stay
  pub owns_changed : ((pipe : Pipe) → (change pipe).owner ≡ pipe.owner) → (pipes : List Pipe) (app number : ℕ) → owns (with_pipe change changed pipes) app number ≡ owns pipes app number
  owns_changed owners [] app number = refl
  owns_changed owners (pipe ∷ pipes) app number =
      ap (λ b. b || owns (with_pipe change changed pipes) app number) (by_test (eqb pipe.number changed))
      ∙ ap (λ b. (eqb pipe.number number && eqb pipe.owner app) || b) (owns_changed owners pipes app number)
    where
      by_test : (b : Bool) → (eqb (cond {A = Pipe} b (change pipe) pipe).number number && eqb (cond {A = Pipe} b (change pipe) pipe).owner app) ≡ (eqb pipe.number number && eqb pipe.owner app)
      by_test false = refl
      by_test true =
          ap (λ n. eqb n number && eqb (change pipe).owner app) (numbers pipe)
          ∙ ap (λ n. eqb pipe.number number && eqb n app) (owners pipe)

  -- last messages stay, if the change keeps them
  pub lasts_changed : ((pipe : Pipe) → (change pipe).last ≡ pipe.last) → (pipes : List Pipe) (number : ℕ) → last_on (with_pipe change changed pipes) number ≡ last_on pipes number
  lasts_changed lasts [] number = refl
  lasts_changed lasts (pipe ∷ pipes) number = by_test (eqb pipe.number changed) (lasts_changed lasts pipes number)
    where
      choose : (b : Bool) → (p : Pipe) → p.last ≡ pipe.last → last_on (with_pipe change changed pipes) number ≡ last_on pipes number →
          option_and_then (λ (q : Pipe). q.last) (cond {A = Option Pipe} b (Some p) (pipe_at (with_pipe change changed pipes) number))
          ≡ option_and_then (λ (q : Pipe). q.last) (cond {A = Option Pipe} b (Some pipe) (pipe_at pipes number))
      choose true p same ih = same
      choose false p same ih = ih

      by_test : (b : Bool) → last_on (with_pipe change changed pipes) number ≡ last_on pipes number →
          option_and_then (λ (q : Pipe). q.last) (cond {A = Option Pipe} (eqb (cond {A = Pipe} b (change pipe) pipe).number number) (Some (cond {A = Pipe} b (change pipe) pipe)) (pipe_at (with_pipe change changed pipes) number))
          ≡ option_and_then (λ (q : Pipe). q.last) (cond {A = Option Pipe} (eqb pipe.number number) (Some pipe) (pipe_at pipes number))
      by_test false ih = choose (eqb pipe.number number) pipe refl ih
      by_test true ih =
          ap (λ n. option_and_then (λ (q : Pipe). q.last) (cond {A = Option Pipe} (eqb n number) (Some (change pipe)) (pipe_at (with_pipe change changed pipes) number))) (numbers pipe)
          ∙ choose (eqb pipe.number number) (change pipe) (lasts pipe) ih

-- after a receive the last message is the one that waited longest
pub last_received : (pipes : List Pipe) (number : ℕ) → last_on (with_pipe after_receive number pipes) number ≡ oldest_on pipes number
last_received [] number = refl
last_received (pipe ∷ pipes) number = by_test (eqb pipe.number number) refl (last_received pipes number)
  where
    rest : List Pipe
    rest = with_pipe after_receive number pipes

    by_test : (b : Bool) → eqb pipe.number number ≡ b → last_on rest number ≡ oldest_on pipes number →
        option_and_then (λ (q : Pipe). q.last) (cond {A = Option Pipe} (eqb (cond {A = Pipe} b (after_receive pipe) pipe).number number) (Some (cond {A = Pipe} b (after_receive pipe) pipe)) (pipe_at rest number))
        ≡ option_and_then (λ (q : Pipe). oldest q.queue) (cond {A = Option Pipe} b (Some pipe) (pipe_at pipes number))
    by_test true e ih = ap (λ c. option_and_then (λ (q : Pipe). q.last) (cond {A = Option Pipe} c (Some (after_receive pipe)) (pipe_at rest number))) e
    by_test false e ih = ap (λ c. option_and_then (λ (q : Pipe). q.last) (cond {A = Option Pipe} c (Some pipe) (pipe_at rest number))) e ∙ ih

-- Pipes that leave. --

stays_of : (m number other : ℕ) → (number ≡ other → ⊥) → eqb m other ≡ true → not (eqb m number) ≡ true
stays_of m number other apart is = by_test (eqb m number) refl
  where
    by_test : (b : Bool) → eqb m number ≡ b → not b ≡ true
    by_test false e = refl
    by_test true e = absurd (apart (sym (eqb-true m number e) ∙ eqb-true m other is))

-- one pipe leaves: the others stay
module _ (number other : ℕ) (apart : number ≡ other → ⊥) (pipes : List Pipe) where
  pub owns_without : (app : ℕ) → owns (filter (λ (p : Pipe). not (eqb p.number number)) pipes) app other ≡ owns pipes app other
  owns_without app =
      any-filter_same (λ (p : Pipe). eqb p.number other && eqb p.owner app) (λ (p : Pipe). not (eqb p.number number)) true
      (λ p passes. stays_of p.number number other apart (both (eqb p.number other) (eqb p.owner app) passes).0) pipes

  pub last_without : last_on (filter (λ (p : Pipe). not (eqb p.number number)) pipes) other ≡ last_on pipes other
  last_without =
      ap (option_and_then (λ (p : Pipe). p.last))
      (find_within (λ (p : Pipe). eqb p.number other) (λ (p : Pipe). not (eqb p.number number)) (λ p is. stays_of p.number number other apart is) pipes)

-- an application's pipes leave: another's stay
module _ (app other : ℕ) (apart : other ≡ app → ⊥) where
  kept_by : (owner : ℕ) → eqb owner other ≡ true → not (eqb owner app) ≡ true
  kept_by owner its = by_test (eqb owner app) refl
    where
      by_test : (b : Bool) → eqb owner app ≡ b → not b ≡ true
      by_test false e = refl
      by_test true e = absurd (apart (sym (eqb-true owner other its) ∙ eqb-true owner app e))

  pub owns_left : (pipes : List Pipe) (number : ℕ) → owns (filter (λ (p : Pipe). not (eqb p.owner app)) pipes) other number ≡ owns pipes other number
  owns_left pipes number =
      any-filter_same (λ (p : Pipe). eqb p.number number && eqb p.owner other) (λ (p : Pipe). not (eqb p.owner app)) true
      (λ p passes. kept_by p.owner (both (eqb p.number number) (eqb p.owner other) passes).1) pipes

  found_left : (below : ℕ) (pipes : List Pipe) (number : ℕ) → IsRising below pipes → owns pipes other number ≡ true → pipe_at (filter (λ (p : Pipe). not (eqb p.owner app)) pipes) number ≡ pipe_at pipes number
  found_left below [] number rises own = refl
  found_left below (pipe ∷ pipes) number rises own = by_number (found_left pipe.number pipes number rises.1) (eqb pipe.number number) refl own
    where
      rest : List Pipe
      rest = filter (λ (p : Pipe). not (eqb p.owner app)) pipes

      low : (m n : ℕ) → eqb m n ≡ true → n ≤ m
      low m n same = grind (arith, nat_tests)

      here : (o later : Bool) → later ≡ false → (o || later) ≡ true → o ≡ true
      here true later none is = refl
      here false later none is = sym none ∙ is

      by_owner : (keeps : Bool) → eqb pipe.number number ≡ false → pipe_at rest number ≡ pipe_at pipes number →
          pipe_at (cond {A = List Pipe} keeps (pipe ∷ rest) rest) number ≡ pipe_at pipes number
      by_owner false e ih = ih
      by_owner true e ih = ap (λ c. cond {A = Option Pipe} c (Some pipe) (pipe_at rest number)) e ∙ ih

      by_number : (owns pipes other number ≡ true → pipe_at rest number ≡ pipe_at pipes number) → (b : Bool) → eqb pipe.number number ≡ b →
          (b && eqb pipe.owner other || owns pipes other number) ≡ true →
          pipe_at (cond {A = List Pipe} (not (eqb pipe.owner app)) (pipe ∷ rest) rest) number ≡ cond {A = Option Pipe} b (Some pipe) (pipe_at pipes number)
      by_number ih false e own = by_owner (not (eqb pipe.owner app)) e (ih own)
      by_number ih true e own =
          let mine = here (eqb pipe.owner other) (owns pipes other number) (none_below other number pipe.number pipes rises.1 (low pipe.number number e)) own in
          ap (λ c. pipe_at (cond {A = List Pipe} c (pipe ∷ rest) rest) number) (kept_by pipe.owner mine)
          ∙ ap (λ c. cond {A = Option Pipe} c (Some pipe) (pipe_at rest number)) e

  pub last_left : (pipes : List Pipe) (number : ℕ) → IsRising 0 pipes → owns pipes other number ≡ true → last_on (filter (λ (p : Pipe). not (eqb p.owner app)) pipes) number ≡ last_on pipes number
  last_left pipes number rises own = ap (option_and_then (λ (p : Pipe). p.last)) (found_left 0 pipes number rises own)
