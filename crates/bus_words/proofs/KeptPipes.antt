-- What a change of one application's pipes leaves as it is of another's: who owns which, and the last messages.
use Rattle.std.proofs.Common.{◌≡◌, ℕ, ◌≤◌, ◌==◌, ◌&&◌, ◌||◌, not, Bool, true, false, cond, true≢false, eqb-true, ne_eqb, List, [], ◌∷◌, ◌++◌, map, filter, Option, Some, refl, ap, sym, ◌∙◌, arith}
use Rattle.std.specs.Option.{option_and_then}
use Rattle.bus_words.specs.Bus.{Pipe, Subscription, Sending, pipe_at, is_live, owns, with_pipe, offered, deliver, after_receive}
use Rattle.bus_words.proofs.Finds.{same-sym, any-push, find-filter}
use Rattle.bus_words.proofs.Steps.{AreRising, number-offered}
use Rattle.bus_words.proofs.Ties.{is_live-owns}

-- Tests. --

false_or : (a : Bool) → (a ≡ true → ⊥) → a ≡ false
false_or a never = elim a as (λ a. (a ≡ true → ⊥) → a ≡ false) [ true ↦ λ never. absurd (never refl) | false ↦ λ never. refl ] never

pub and-false : (a : Bool) → (a && false) ≡ false
and-false a = elim a as (λ a. (a && false) ≡ false) [ true ↦ refl | false ↦ refl ]

or-false : (a : Bool) → (a || false) ≡ a
or-false a = elim a as (λ a. (a || false) ≡ a) [ true ↦ refl | false ↦ refl ]

-- Numbers. --

-- no two of the pipes have one number
abbrev pub AreSingle : List Pipe → Type 0
AreSingle [] = Unit {0}
AreSingle (pipe ∷ pipes) = (is_live pipes pipe.number ≡ false) × AreSingle pipes

none_below : (low top p : ℕ) (pipes : List Pipe) → AreRising low top (map (λ pipe. pipe.number) pipes) → p ≤ low → is_live pipes p ≡ false
none_below low top p [] rising below = refl
none_below low top p (pipe ∷ pipes) rising below =
    ap (λ b. b || is_live pipes p) (ne_eqb pipe.number p (λ same. omega (arith, same, rising.0, below)))
    ∙ none_below pipe.number top p pipes rising.1 (omega (arith, rising.0, below))

-- pipes in order of number
pub single-rising : (low top : ℕ) (pipes : List Pipe) → AreRising low top (map (λ pipe. pipe.number) pipes) → AreSingle pipes
single-rising low top [] rising = tt
single-rising low top (pipe ∷ pipes) rising = (none_below pipe.number top pipe.number pipes rising.1 (omega arith), single-rising pipe.number top pipes rising.1)

-- a pipe has one owner
pub owns-one : (pipes : List Pipe) (one other number : ℕ) → AreSingle pipes → (other == one) ≡ false → owns pipes one number ≡ true → owns pipes other number ≡ false
owns-one [] one other number single differ own = refl
owns-one (pipe ∷ pipes) one other number single differ own =
    elim (pipe.number == number) as (λ b. (pipe.number == number) ≡ b → ((b && pipe.owner == one) || owns pipes one number) ≡ true → ((b && pipe.owner == other) || owns pipes other number) ≡ false) [
      | true ↦ λ is own.
          let dead : is_live pipes number ≡ false = ap (is_live pipes) (sym (eqb-true pipe.number number is)) ∙ single.0 in
          let none : (app : ℕ) → owns pipes app number ≡ false = λ app. false_or (owns pipes app number) (λ o. true≢false (sym (is_live-owns pipes app number o) ∙ dead)) in
          let his : (pipe.owner == one) ≡ true = sym (or-false (pipe.owner == one)) ∙ ap (λ b. (pipe.owner == one) || b) (sym (none one)) ∙ own in
          ap (λ b. b || owns pipes other number) (ap (λ n. n == other) (eqb-true pipe.owner one his) ∙ same-sym one other ∙ differ) ∙ none other
      | false ↦ λ is own. owns-one pipes one other number single.1 differ own
    ] refl own

-- What is kept of another's pipes. --

-- what an application has of a pipe: that it owns it, and its last message
pub record IsKept (pipes now : List Pipe) (app number : ℕ) : Type 0 where
  pub owned : owns now app number ≡ owns pipes app number
  pub last : owns pipes app number ≡ true → option_and_then (λ pipe. pipe.last) (pipe_at now number) ≡ option_and_then (λ pipe. pipe.last) (pipe_at pipes number)

pub kept-same : (pipes : List Pipe) (app number : ℕ) → IsKept pipes pipes app number
kept-same pipes app number = record { owned = refl; last = λ own. refl }

pub find-push_found : (pipes : List Pipe) (pipe : Pipe) (number : ℕ) → is_live pipes number ≡ true → pipe_at (pipes ++ pipe ∷ []) number ≡ pipe_at pipes number
find-push_found [] pipe number live = absurd (true≢false (sym live))
find-push_found (x ∷ pipes) pipe number live =
    elim (x.number == number) as (λ b. (b || is_live pipes number) ≡ true → cond {A = Option Pipe} b (Some x) (pipe_at (pipes ++ pipe ∷ []) number) ≡ cond {A = Option Pipe} b (Some x) (pipe_at pipes number)) [
      | true ↦ λ live. refl
      | false ↦ λ live. find-push_found pipes pipe number live
    ] live

-- a pipe more, of another
pub kept-push : (pipes : List Pipe) (pipe : Pipe) (app number : ℕ) → (pipe.owner == app) ≡ false → IsKept pipes (pipes ++ pipe ∷ []) app number
kept-push pipes pipe app number differ = record {
  owned =
      any-push (λ (p : Pipe). p.number == number && p.owner == app) pipes pipe
      ∙ ap (λ b. owns pipes app number || ((pipe.number == number) && b)) differ
      ∙ ap (λ b. owns pipes app number || b) (and-false (pipe.number == number))
      ∙ or-false (owns pipes app number);
  last = λ own. ap (option_and_then (λ p. p.last)) (find-push_found pipes pipe number (is_live-owns pipes app number own));
}

-- a change that keeps number and owner
pub owns-with_pipe : (change : Pipe → Pipe) → ((pipe : Pipe) → (change pipe).number ≡ pipe.number) → ((pipe : Pipe) → (change pipe).owner ≡ pipe.owner) →
    (at : ℕ) (pipes : List Pipe) (app number : ℕ) → owns (with_pipe change at pipes) app number ≡ owns pipes app number
owns-with_pipe change keeps owner at [] app number = refl
owns-with_pipe change keeps owner at (x ∷ pipes) app number =
    ap (λ b. b || owns (with_pipe change at pipes) app number)
    (elim (x.number == at) as (λ b. ((cond {A = Pipe} b (change x) x).number == number && (cond {A = Pipe} b (change x) x).owner == app) ≡ (x.number == number && x.owner == app)) [
      | true ↦ ap (λ n. n == number && (change x).owner == app) (keeps x) ∙ ap (λ o. x.number == number && o == app) (owner x)
      | false ↦ refl
    ])
    ∙ ap (λ b. (x.number == number && x.owner == app) || b) (owns-with_pipe change keeps owner at pipes app number)

pub last-with_pipe : (change : Pipe → Pipe) → ((pipe : Pipe) → (change pipe).number ≡ pipe.number) → ((pipe : Pipe) → (change pipe).last ≡ pipe.last) →
    (at : ℕ) (pipes : List Pipe) (number : ℕ) →
    option_and_then (λ (pipe : Pipe). pipe.last) (pipe_at (with_pipe change at pipes) number) ≡ option_and_then (λ (pipe : Pipe). pipe.last) (pipe_at pipes number)
last-with_pipe change keeps last at [] number = refl
last-with_pipe change keeps last at (x ∷ pipes) number =
    let rest = last-with_pipe change keeps last at pipes number in
    elim (x.number == at) as (λ b. option_and_then (λ (pipe : Pipe). pipe.last) (pipe_at (cond {A = Pipe} b (change x) x ∷ with_pipe change at pipes) number) ≡ option_and_then (λ (pipe : Pipe). pipe.last) (pipe_at (x ∷ pipes) number)) [
      | true ↦
          ap (λ n. option_and_then (λ (pipe : Pipe). pipe.last) (cond {A = Option Pipe} (n == number) (Some (change x)) (pipe_at (with_pipe change at pipes) number))) (keeps x)
          ∙ by_test (change x) (last x) rest
      | false ↦ by_test x refl rest
    ]
  where
    by_test : (y : Pipe) → y.last ≡ x.last →
        option_and_then (λ (pipe : Pipe). pipe.last) (pipe_at (with_pipe change at pipes) number) ≡ option_and_then (λ (pipe : Pipe). pipe.last) (pipe_at pipes number) →
        option_and_then (λ (pipe : Pipe). pipe.last) (cond {A = Option Pipe} (x.number == number) (Some y) (pipe_at (with_pipe change at pipes) number)) ≡ option_and_then (λ (pipe : Pipe). pipe.last) (pipe_at (x ∷ pipes) number)
    by_test y same rest =
        elim (x.number == number) as (λ b. option_and_then (λ (pipe : Pipe). pipe.last) (cond {A = Option Pipe} b (Some y) (pipe_at (with_pipe change at pipes) number)) ≡ option_and_then (λ (pipe : Pipe). pipe.last) (cond {A = Option Pipe} b (Some x) (pipe_at pipes number))) [
          | true ↦ same
          | false ↦ rest
        ]

-- a change that keeps number, owner and last message
pub kept-change : (change : Pipe → Pipe) → ((pipe : Pipe) → (change pipe).number ≡ pipe.number) → ((pipe : Pipe) → (change pipe).owner ≡ pipe.owner) →
    ((pipe : Pipe) → (change pipe).last ≡ pipe.last) → (at : ℕ) (pipes : List Pipe) (app number : ℕ) → IsKept pipes (with_pipe change at pipes) app number
kept-change change keeps owner last at pipes app number = record {
  owned = owns-with_pipe change keeps owner at pipes app number;
  last = λ own. last-with_pipe change keeps last at pipes number;
}

kept-then : (pipes between now : List Pipe) (app number : ℕ) → IsKept pipes between app number → IsKept between now app number → IsKept pipes now app number
kept-then pipes between now app number first second = record {
  owned = second.owned ∙ first.owned;
  last = λ own. second.last (first.owned ∙ own) ∙ first.last own;
}

pub owner-offered : (sending : Sending) (sub : Subscription) (pipe : Pipe) → (offered sending sub pipe).owner ≡ pipe.owner
owner-offered sending sub pipe = refl

pub last-offered : (sending : Sending) (sub : Subscription) (pipe : Pipe) → (offered sending sub pipe).last ≡ pipe.last
last-offered sending sub pipe = refl

-- a delivery changes what is queued, and no more
pub kept-deliver : (sending : Sending) (subs : List Subscription) (pipes : List Pipe) (app number : ℕ) → IsKept pipes (deliver sending subs pipes) app number
kept-deliver sending [] pipes app number = kept-same pipes app number
kept-deliver sending (sub ∷ subs) pipes app number =
    kept-then pipes (with_pipe (offered sending sub) sub.pipe pipes) (deliver sending subs (with_pipe (offered sending sub) sub.pipe pipes)) app number
    (kept-change (offered sending sub) (number-offered sending sub) (owner-offered sending sub) (last-offered sending sub) sub.pipe pipes app number)
    (kept-deliver sending subs (with_pipe (offered sending sub) sub.pipe pipes) app number)

pub changed_other : (change : Pipe → Pipe) → ((pipe : Pipe) → (change pipe).number ≡ pipe.number) → (p q : ℕ) (pipes : List Pipe) → (p == q) ≡ false →
    pipe_at (with_pipe change q pipes) p ≡ pipe_at pipes p
changed_other change keeps p q [] differ = refl
changed_other change keeps p q (x ∷ pipes) differ =
    let rest = changed_other change keeps p q pipes differ in
    elim (x.number == q) as (λ b. (x.number == q) ≡ b → pipe_at (cond {A = Pipe} b (change x) x ∷ with_pipe change q pipes) p ≡ cond {A = Option Pipe} (x.number == p) (Some x) (pipe_at pipes p)) [
      | true ↦ λ is.
          let not_it : (x.number == p) ≡ false = ap (λ n. n == p) (eqb-true x.number q is) ∙ same-sym q p ∙ differ in
          ap (λ b. cond {A = Option Pipe} b (Some (change x)) (pipe_at (with_pipe change q pipes) p)) (ap (λ n. n == p) (keeps x) ∙ not_it)
          ∙ rest
          ∙ ap (λ b. cond {A = Option Pipe} b (Some x) (pipe_at pipes p)) (sym not_it)
      | false ↦ λ is. ap (λ o. cond {A = Option Pipe} (x.number == p) (Some x) o) rest
    ] refl

-- a pipe that is owned isn't another's
differs : (pipes : List Pipe) (app number at : ℕ) → owns pipes app at ≡ false → owns pipes app number ≡ true → (number == at) ≡ false
differs pipes app number at none own =
    false_or (number == at) (λ is. true≢false (sym own ∙ ap (owns pipes app) (eqb-true number at is) ∙ none))

-- a receive on another's pipe
pub kept-receive : (pipes : List Pipe) (app at number : ℕ) → owns pipes app at ≡ false → IsKept pipes (with_pipe after_receive at pipes) app number
kept-receive pipes app at number none = record {
  owned = owns-with_pipe after_receive (λ p. refl) (λ p. refl) at pipes app number;
  last = λ own. ap (option_and_then (λ p. p.last)) (changed_other after_receive (λ p. refl) number at pipes (differs pipes app number at none own));
}

-- a pipe of another leaves
pub kept-delete : (pipes : List Pipe) (app at number : ℕ) → owns pipes app at ≡ false → IsKept pipes (filter (λ other. not (other.number == at)) pipes) app number
kept-delete pipes app at number none = record {
  owned = owned pipes none;
  last = λ own. ap (option_and_then (λ p. p.last)) (found (differs pipes app number at none own));
}
  where
    owned : (ps : List Pipe) → owns ps app at ≡ false → owns (filter (λ other. not (other.number == at)) ps) app number ≡ owns ps app number
    owned [] none = refl
    owned (x ∷ ps) none =
        elim (x.number == at) as (λ b. (x.number == at) ≡ b → ((b && x.owner == app) || owns ps app at) ≡ false → owns (cond {A = List Pipe} (not b) (x ∷ filter (λ other. not (other.number == at)) ps) (filter (λ other. not (other.number == at)) ps)) app number ≡ ((x.number == number && x.owner == app) || owns ps app number)) [
          | true ↦ λ is gone. elim (x.owner == app) as (λ c. (c || owns ps app at) ≡ false → owns (filter (λ other. not (other.number == at)) ps) app number ≡ ((x.number == number && c) || owns ps app number)) [
            | true ↦ λ gone. absurd (true≢false gone)
            | false ↦ λ gone. owned ps gone ∙ ap (λ b. b || owns ps app number) (sym (and-false (x.number == number)))
          ] gone
          | false ↦ λ is gone. ap (λ b. (x.number == number && x.owner == app) || b) (owned ps gone)
        ] refl none

    found : (number == at) ≡ false → pipe_at (filter (λ other. not (other.number == at)) pipes) number ≡ pipe_at pipes number
    found differ =
        find-filter (λ (x : Pipe). x.number == number) (λ x. not (x.number == at))
        (λ x is. ap not (ap (λ n. n == at) (eqb-true x.number number is) ∙ differ)) pipes

-- all pipes of another leave
pub kept-end : (pipes : List Pipe) (app who number : ℕ) → AreSingle pipes → (app == who) ≡ false → IsKept pipes (filter (λ pipe. not (pipe.owner == who)) pipes) app number
kept-end pipes app who number single differ = record {
  owned = owned pipes;
  last = λ own. ap (option_and_then (λ p. p.last)) (found pipes single own);
}
  where
    owned : (ps : List Pipe) → owns (filter (λ pipe. not (pipe.owner == who)) ps) app number ≡ owns ps app number
    owned [] = refl
    owned (x ∷ ps) =
        elim (x.owner == who) as (λ b. (x.owner == who) ≡ b → owns (cond {A = List Pipe} (not b) (x ∷ filter (λ pipe. not (pipe.owner == who)) ps) (filter (λ pipe. not (pipe.owner == who)) ps)) app number ≡ ((x.number == number && x.owner == app) || owns ps app number)) [
          | true ↦ λ is.
              let not_his : (x.owner == app) ≡ false = ap (λ n. n == app) (eqb-true x.owner who is) ∙ same-sym who app ∙ differ in
              owned ps ∙ ap (λ b. b || owns ps app number) (sym (and-false (x.number == number))) ∙ ap (λ b. (x.number == number && b) || owns ps app number) (sym not_his)
          | false ↦ λ is. ap (λ b. (x.number == number && x.owner == app) || b) (owned ps)
        ] refl

    found : (ps : List Pipe) → AreSingle ps → owns ps app number ≡ true → pipe_at (filter (λ pipe. not (pipe.owner == who)) ps) number ≡ pipe_at ps number
    found [] one own = refl
    found (x ∷ ps) one own =
        elim (x.number == number) as (λ b. (x.number == number) ≡ b → ((b && x.owner == app) || owns ps app number) ≡ true →
        pipe_at (cond {A = List Pipe} (not (x.owner == who)) (x ∷ filter (λ pipe. not (pipe.owner == who)) ps) (filter (λ pipe. not (pipe.owner == who)) ps)) number ≡ cond {A = Option Pipe} b (Some x) (pipe_at ps number)) [
          | true ↦ λ is own.
              let dead : is_live ps number ≡ false = ap (is_live ps) (sym (eqb-true x.number number is)) ∙ one.0 in
              let none : owns ps app number ≡ false = false_or (owns ps app number) (λ o. true≢false (sym (is_live-owns ps app number o) ∙ dead)) in
              let his : (x.owner == app) ≡ true = sym (or-false (x.owner == app)) ∙ ap (λ b. (x.owner == app) || b) (sym none) ∙ own in
              ap (λ b. pipe_at (cond {A = List Pipe} (not b) (x ∷ filter (λ pipe. not (pipe.owner == who)) ps) (filter (λ pipe. not (pipe.owner == who)) ps)) number) (ap (λ n. n == who) (eqb-true x.owner app his) ∙ differ)
              ∙ ap (λ b. cond {A = Option Pipe} b (Some x) (pipe_at (filter (λ pipe. not (pipe.owner == who)) ps) number)) is
          | false ↦ λ is own. elim (x.owner == who) as (λ c. pipe_at (cond {A = List Pipe} (not c) (x ∷ filter (λ pipe. not (pipe.owner == who)) ps) (filter (λ pipe. not (pipe.owner == who)) ps)) number ≡ pipe_at ps number) [
            | true ↦ found ps one.1 own
            | false ↦ ap (λ b. cond {A = Option Pipe} b (Some x) (pipe_at (filter (λ pipe. not (pipe.owner == who)) ps) number)) is ∙ found ps one.1 own
          ]
        ] refl own
