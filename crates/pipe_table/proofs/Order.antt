-- The live pipes stand in order of number, each in a place of its own.
use Rattle.std.proofs.Common.{ℕ, List, [], ◌∷◌, ◌++◌, sym, subst, arith}
use Rattle.std.specs.Option.{option_to_list}
use Rattle.bus_words.specs.Pipes.{IsRising}
use Rattle.pipe_table.specs.Inside.{PlaceState, live_in, AreFiled}
use Rattle.pipe_table.proofs.NumberedPipes.{stands_here}

pub in_order : (below : ℕ) (places : List PlaceState) (numbers at : List ℕ) → AreFiled below places numbers at → IsRising below (live_in places at)
in_order below places [] [] filed = tt
in_order below places [] (p ∷ at) filed = absurd filed
in_order below places (m ∷ numbers) [] filed = absurd filed
in_order below places (m ∷ numbers) (p ∷ at) filed =
    let stands = stands_here places p m filed.1 filed.2 in
    subst (λ o. IsRising below (option_to_list o ++ live_in places at)) (sym stands.has)
    (omega (arith, filed.0, stands.numbered), subst (λ n. IsRising n (live_in places at)) (sym stands.numbered) (in_order m places numbers at filed.3))
