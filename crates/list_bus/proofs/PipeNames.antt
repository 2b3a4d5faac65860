-- The name of a pipe, by the pipe of its number.
use Rattle.std.proofs.Common.{◌≡◌, ◌==◌, ℕ, Bool, true, false, ◌||◌, not, cond, List, [], ◌∷◌, Option, Some, None, refl, ap, ◌∙◌}
use Rattle.std.specs.List.{list_any}
use Rattle.std.specs.Option.{is_some, option_map_or}
use Rattle.std.specs.Prelude.{find}
use Rattle.fsw_base.specs.declared.statuses.SbStatus.TheVariants.{BadArgument}
use Rattle.bus_words.specs.declared.calls.BusAnswer.TheVariants.{Name, Sb}
use Rattle.bus_words.specs.declared.history.Call.TheVariants.{PipeName}
use Rattle.bus_words.specs.Bus.{Pipe}
use Rattle.bus_words.specs.Pipes.{pipe_at}
use Rattle.bus_words.specs.Machine.{by_bus, refused_if}
use Rattle.bus_words.specs.Refusals.{OfBus}
use Rattle.list_bus.specs.Played.{Played}
use Rattle.list_bus.specs.Decided.{decided}
use Rattle.list_bus.proofs.DecidedCalls.{decided_by}

-- what passes a test is found
any-find : {X : Type 0} (test : X → Bool) (xs : List X) → list_any test xs ≡ is_some (find test xs)
any-find test [] = refl
any-find {X} test (x ∷ xs) = by_test (test x) (any-find test xs)
  where
    by_test : (b : Bool) → list_any test xs ≡ is_some (find test xs) → (b || list_any test xs) ≡ is_some (cond {A = Option X} b (Some x) (find test xs))
    by_test true rest = refl
    by_test false rest = rest

module _ (p : Played) (app number : ℕ) where
  abbrev pipes : List Pipe
  pipes = p.whole.bus.pipes

  abbrev test : Pipe → Bool
  test = λ pipe. pipe.number == number

  pub name_made : (pipe : Pipe) → pipe_at pipes number ≡ Some pipe → decided p app (PipeName number) ≡ (Name pipe.name, p.whole)
  name_made pipe is =
      decided_by p app (PipeName number) None (ap (λ b. by_bus (refused_if (not b) BadArgument None)) (any-find test pipes ∙ ap is_some is))
      ∙ ap (λ (o : Option Pipe). (Name (option_map_or {U = List ℕ} (λ pipe. pipe.name) o []), p.whole)) is

  pub nameless_made : pipe_at pipes number ≡ None → decided p app (PipeName number) ≡ (Sb BadArgument, p.whole)
  nameless_made none =
      decided_by p app (PipeName number) (Some (OfBus BadArgument)) (ap (λ b. by_bus (refused_if (not b) BadArgument None)) (any-find test pipes ∙ ap is_some none))
