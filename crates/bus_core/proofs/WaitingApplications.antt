-- Applications that wait do so on pipes without a last message, whatever others do.
use Rattle.std.proofs.Common.{◌≡◌, ℕ, ◌-◌, ◌≤◌, ◌⊎◌, inl, inr, Bool, true, false, cond, eqb, List, [], ◌∷◌, ◌++◌, length, map, set, get_or, filter, not, refl, ap, sym, ◌∙◌, subst, arith}
use Rattle.std.specs.Option.{option_and_then}
use Rattle.std.proofs.lemmas.Bool.{cases_eq}
use Rattle.std.proofs.lemmas.Bool.Decides.{nat_tests}
use Rattle.std.proofs.lemmas.List.{get_or-set_same, get_or-set_other}
use Rattle.std.proofs.Math.ListN.{get_or-map}
use Rattle.bus_words.specs.Bus.{Pipe, Subscription, Sending, Standing, Ended, State, standing_of, owns, with_pipe, with_bits, offered, deliver, after_receive}
use Rattle.bus_words.specs.Pipes.{IsRising}
use Rattle.bus_core.specs.declared.activities.Activity.{Activity}
use Rattle.bus_core.specs.declared.activities.Activity.TheVariants as activities
use Rattle.bus_core.specs.Inside.{IsReady, AreReady}
use Rattle.bus_core.specs.Rows.{standing_in, activity_at}
use Rattle.bus_core.proofs.Owners.{one_owner, owns_pushed, last_pushed, other_stays, owns_changed, lasts_changed, owns_without, last_without, owns_left, last_left}

-- One pipe. --

module _ (pipes : List Pipe) (app number : ℕ) (ready : IsReady pipes app number) where
  pub ready_pushed : (pipe : Pipe) → IsReady (pipes ++ pipe ∷ []) app number
  ready_pushed pipe = record { own = owns_pushed pipes pipe app number ready.own; none = last_pushed pipes pipe app number ready.own ∙ ready.none }

  pub ready_changed : (change : Pipe → Pipe) → ((pipe : Pipe) → (change pipe).number ≡ pipe.number) → ((pipe : Pipe) → (change pipe).owner ≡ pipe.owner) →
      ((pipe : Pipe) → (change pipe).last ≡ pipe.last) → (changed : ℕ) → IsReady (with_pipe change changed pipes) app number
  ready_changed change numbers owners lasts changed = record {
    own = owns_changed change numbers changed owners pipes app number ∙ ready.own;
    none = lasts_changed change numbers changed lasts pipes number ∙ ready.none;
  }

  pub ready_set_bits : (bits changed : ℕ) → IsReady (with_pipe (with_bits bits) changed pipes) app number
  ready_set_bits bits changed = ready_changed (with_bits bits) (λ pipe. refl) (λ pipe. refl) (λ pipe. refl) changed

  -- another application's pipe receives, or leaves
  module _ (other changed : ℕ) (rises : IsRising 0 pipes) (own : owns pipes other changed ≡ true) (apart : app ≡ other → ⊥) where
    not_it : changed ≡ number → ⊥
    not_it same = apart (one_owner 0 pipes app other number rises ready.own (ap (owns pipes other) (sym same) ∙ own))

    pub ready_received : IsReady (with_pipe after_receive changed pipes) app number
    ready_received = record {
      own = owns_changed after_receive (λ pipe. refl) changed (λ pipe. refl) pipes app number ∙ ready.own;
      none = ap (option_and_then (λ (pipe : Pipe). pipe.last)) (other_stays after_receive (λ pipe. refl) changed number not_it pipes) ∙ ready.none;
    }

    pub ready_without : IsReady (filter (λ (p : Pipe). not (eqb p.number changed)) pipes) app number
    ready_without = record { own = owns_without changed number not_it pipes app ∙ ready.own; none = last_without changed number not_it pipes ∙ ready.none }

  -- another application's pipes leave
  pub ready_left : (other : ℕ) → (app ≡ other → ⊥) → IsRising 0 pipes → IsReady (filter (λ (p : Pipe). not (eqb p.owner other)) pipes) app number
  ready_left other apart rises = record {
    own = owns_left other app apart pipes number ∙ ready.own;
    none = last_left other app apart pipes number rises ready.own ∙ ready.none;
  }

-- a message is sent
pub ready_sent : (sending : Sending) (subs : List Subscription) (pipes : List Pipe) (app number : ℕ) → IsReady pipes app number → IsReady (deliver sending subs pipes) app number
ready_sent sending [] pipes app number ready = ready
ready_sent sending (sub ∷ subs) pipes app number ready =
    ready_sent sending subs (with_pipe (offered sending sub) sub.pipe pipes) app number
    (ready_changed pipes app number ready (offered sending sub)
    (λ pipe. refl) (λ pipe. refl) (λ pipe. refl) sub.pipe)

-- What applications do. --

nonzero : (n : ℕ) → 1 ≤ n → eqb n 0 ≡ false
nonzero n some = grind (arith, nat_tests)

-- the standing of an application is what it does
pub standing_at : (acts : List Activity) (s : State) (app : ℕ) → s.standings ≡ map standing_in acts → standing_of s app ≡ standing_in (activity_at acts app)
standing_at acts s app is =
    ap (λ (l : List Standing). cond {A = Standing} (eqb app 0) Ended (get_or l (app - 1) Ended)) is
    ∙ ap (cond {A = Standing} (eqb app 0) Ended) (get_or-map standing_in acts (app - 1) activities.Ended)
    ∙ by_test (eqb app 0)
  where
    by_test : (b : Bool) → cond {A = Standing} b Ended (standing_in (get_or acts (app - 1) activities.Ended)) ≡ standing_in (cond {A = Activity} b activities.Ended (get_or acts (app - 1) activities.Ended))
    by_test true = refl
    by_test false = refl

module _ (acts : List Activity) (app : ℕ) (x : Activity) (first : 1 ≤ app) (within : app ≤ length acts) where
  pub activity_now : activity_at (set acts (app - 1) x) app ≡ x
  activity_now =
      ap (λ b. cond {A = Activity} b activities.Ended (get_or (set acts (app - 1) x) (app - 1) activities.Ended)) (nonzero app first)
      ∙ get_or-set_same acts (app - 1) x activities.Ended (omega (arith, first, within))

  pub activity_else : (other : ℕ) → (other ≡ app → ⊥) → activity_at (set acts (app - 1) x) other ≡ activity_at acts other
  activity_else other apart = by_test (eqb other 0) refl
    where
      zero : (n : ℕ) → eqb n 0 ≡ false → 1 ≤ n
      zero n none = grind (arith, nat_tests)

      by_test : (b : Bool) → eqb other 0 ≡ b → cond {A = Activity} b activities.Ended (get_or (set acts (app - 1) x) (other - 1) activities.Ended) ≡ cond {A = Activity} b activities.Ended (get_or acts (other - 1) activities.Ended)
      by_test true e = refl
      by_test false e =
          let some = zero other e in
          get_or-set_other acts (app - 1) (other - 1) x activities.Ended (λ same. apart (omega (arith, some, first, same)))

-- All that wait. --

module _ (pipes next : List Pipe) (acts : List Activity) (ready : AreReady pipes acts) where
  pub ready_all : ((app number : ℕ) → IsReady pipes app number → IsReady next app number) → AreReady next acts
  ready_all each = λ app number waits. each app number (ready app number waits)

  -- but for one that is active
  pub ready_others : (app : ℕ) → activity_at acts app ≡ activities.Active → ((other number : ℕ) → (other ≡ app → ⊥) → IsReady pipes other number → IsReady next other number) → AreReady next acts
  ready_others app active each = λ other number waits. each other number (λ same. wrong (sym active ∙ ap (activity_at acts) (sym same) ∙ waits)) (ready other number waits)
    where
      wrong : {number : ℕ} → activities.Active ≡ activities.Waiting number → ⊥
      wrong is = cc (is)

  -- but for one that does something else from now on
  pub ready_set : (app : ℕ) (x : Activity) → 1 ≤ app → app ≤ length acts → ((number : ℕ) → x ≡ activities.Waiting number → IsReady next app number) →
      ((other number : ℕ) → (other ≡ app → ⊥) → IsReady pipes other number → IsReady next other number) → AreReady next (set acts (app - 1) x)
  ready_set app x first within own each = λ other number waits. at other number waits (cases_eq other app)
    where
      at : (other number : ℕ) → activity_at (set acts (app - 1) x) other ≡ activities.Waiting number → (other ≡ app) ⊎ (other ≡ app → ⊥) → IsReady next other number
      at other number waits (inl same) =
          subst (λ n. IsReady next n number) (sym same)
          (own number (sym (activity_now acts app x first within) ∙ ap (activity_at (set acts (app - 1) x)) (sym same) ∙ waits))
      at other number waits (inr apart) = each other number apart (ready other number (sym (activity_else acts app x first within other apart) ∙ waits))
