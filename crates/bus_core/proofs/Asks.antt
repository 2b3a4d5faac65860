-- Calls that only ask one thing of a pipe.
use Rattle.std.proofs.Common.{◌≡◌, ℕ, Bool, true, false, ◌||◌, not, cond, eqb, List, [], ◌∷◌, find, Option, Some, None, is_some, refl, ap, ◌∙◌}
use Rattle.std.specs.List.{list_any}
use Rattle.std.specs.Option.{option_map, option_map_or}
use Rattle.std.specs.Str.{bytes_eq}
use Rattle.fsw_base.specs.Limits.{limits_of}
use Rattle.fsw_base.specs.declared.statuses.SbStatus.TheVariants.{BadArgument}
use Rattle.bus_words.specs.declared.calls.BusAnswer.TheVariants.{Number, Name}
use Rattle.bus_words.specs.declared.history.Call.TheVariants.{GetOpts, Find, PipeName}
use Rattle.bus_words.specs.Acts.{reads_in}
use Rattle.bus_words.specs.Bus.{Pipe, pipe_at, pipe_named}
use Rattle.bus_words.specs.Machine.{by_bus, cause, refused_if}
use Rattle.bus_words.specs.Refusals.{OfBus}
use Rattle.bus_core.specs.declared.plain.PlainBus.TheInside.{Inside}
use Rattle.bus_core.specs.Inside.{means}
use Rattle.bus_core.proofs.CallLaws.{bare, bare_by}

-- A search tells what a test tells. --

any_found : {X : Type 0} (p : X → Bool) (xs : List X) → list_any p xs ≡ is_some (find p xs)
any_found p [] = refl
any_found {X} p (x ∷ xs) = by_test (p x) (any_found p xs)
  where
    by_test : (b : Bool) → list_any p xs ≡ is_some (find p xs) → (b || list_any p xs) ≡ is_some (cond {A = Option X} b (Some x) (find p xs))
    by_test true ih = refl
    by_test false ih = ih

-- whether a pipe has the name
pub name_told : (pipes : List Pipe) (name : List ℕ) →
    list_any (λ p. bytes_eq p.name name) pipes ≡ is_some (option_map (λ p. p.number) (find (λ p. bytes_eq p.name name) pipes))
name_told pipes name = any_found (λ (p : Pipe). bytes_eq p.name name) pipes ∙ mapped (find (λ p. bytes_eq p.name name) pipes)
  where
    mapped : (o : Option Pipe) → is_some o ≡ is_some (option_map (λ p. p.number) o)
    mapped None = refl
    mapped (Some p) = refl

-- Calls that only ask. --

-- what is told of the pipe that passes a test, if one does
found : {X : Type 0} (p : Pipe → Bool) (f : Pipe → X) (other x : X) (pipes : List Pipe) → option_map f (find p pipes) ≡ Some x → (list_any p pipes ≡ true) × (option_map_or f (find p pipes) other ≡ x)
found {X} p f other x pipes some = let both = at (find p pipes) some in (any_found p pipes ∙ both.0, both.1)
  where
    at : (o : Option Pipe) → option_map f o ≡ Some x → (is_some o ≡ true) × (option_map_or f o other ≡ x)
    at None some = absurd (cc (some))
    at (Some pipe) some = let same : f pipe ≡ x = cc (some) in (refl, same)

-- if none does
not_found : {X : Type 0} (p : Pipe → Bool) (f : Pipe → X) (pipes : List Pipe) → option_map f (find p pipes) ≡ None → list_any p pipes ≡ false
not_found p f pipes none = any_found p pipes ∙ at (find p pipes) none
  where
    at : (o : Option Pipe) → option_map f o ≡ None → is_some o ≡ false
    at None none = refl
    at (Some pipe) none = absurd (cc (none))

module _ (a : Inside) (app : ℕ) where
  pub bits_made : (pipe bits : ℕ) → option_map (λ p. p.bits) (pipe_at a.store.pipes pipe) ≡ Some bits →
      bare (limits_of a.config) (means a) app (GetOpts pipe) ≡ (Number bits, means a)
  bits_made pipe bits some =
      let both = found (λ p. eqb p.number pipe) (λ p. p.bits) 0 bits a.store.pipes some in
      bare_by (limits_of a.config) (means a) app (GetOpts pipe) None (ap (λ b. by_bus (refused_if (not b) BadArgument None)) both.0)
      ∙ ap (λ n. (Number n, means a)) both.1

  pub bits_refused : (pipe : ℕ) → option_map (λ p. p.bits) (pipe_at a.store.pipes pipe) ≡ None →
      cause (limits_of a.config) (means a).bus app (GetOpts pipe) ≡ Some (OfBus BadArgument)
  bits_refused pipe none = ap (λ b. by_bus (refused_if (not b) BadArgument None)) (not_found (λ p. eqb p.number pipe) (λ p. p.bits) a.store.pipes none)

  pub number_made : (name : List ℕ) (number : ℕ) → option_map (λ p. p.number) (pipe_named a.store.pipes name) ≡ Some number →
      bare (limits_of a.config) (means a) app (Find name) ≡ (Number number, means a)
  number_made name number some =
      let both = found (λ p. bytes_eq p.name name) (λ p. p.number) 0 number a.store.pipes some in
      bare_by (limits_of a.config) (means a) app (Find name) None (ap (λ b. by_bus (refused_if (not b) BadArgument None)) both.0)
      ∙ ap (λ n. (Number n, means a)) both.1

  pub number_refused : (name : List ℕ) → option_map (λ p. p.number) (pipe_named a.store.pipes name) ≡ None →
      cause (limits_of a.config) (means a).bus app (Find name) ≡ Some (OfBus BadArgument)
  number_refused name none = ap (λ b. by_bus (refused_if (not b) BadArgument None)) (not_found (λ p. bytes_eq p.name name) (λ p. p.number) a.store.pipes none)

  pub name_made : (pipe : ℕ) (name : List ℕ) → option_map (λ p. p.name) (pipe_at a.store.pipes pipe) ≡ Some name →
      bare (limits_of a.config) (means a) app (PipeName pipe) ≡ (Name name, means a)
  name_made pipe name some =
      let both = found (λ p. eqb p.number pipe) (λ p. p.name) [] name a.store.pipes some in
      bare_by (limits_of a.config) (means a) app (PipeName pipe) None (ap (λ b. by_bus (refused_if (not b) BadArgument None)) both.0)
      ∙ ap (λ n. (Name n, means a)) both.1

  pub name_refused : (pipe : ℕ) → option_map (λ p. p.name) (pipe_at a.store.pipes pipe) ≡ None →
      cause (limits_of a.config) (means a).bus app (PipeName pipe) ≡ Some (OfBus BadArgument)
  name_refused pipe none = ap (λ b. by_bus (refused_if (not b) BadArgument None)) (not_found (λ p. eqb p.number pipe) (λ p. p.name) a.store.pipes none)
