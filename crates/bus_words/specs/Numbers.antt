-- The send numbers that a history gives.
use Rattle.std.specs.Prelude.{◌≡◌, ℕ, zero, suc, ◌<◌, All, List, [], ◌∷◌, ◌++◌}
use Rattle.fsw_base.specs.Limits.{Limits}
use Rattle.bus_words.specs.declared.calls.BusAnswer.{BusAnswer}
use Rattle.bus_words.specs.declared.calls.BusAnswer.TheVariants.{Number, Sent}
use Rattle.bus_words.specs.declared.history.Call.{Call}
use Rattle.bus_words.specs.declared.history.Call.TheVariants.{Transmit, Allocate, Housekeeping}
use Rattle.bus_words.specs.declared.history.Entry.{Entry}
use Rattle.bus_words.specs.Held.{numbers_to}
use Rattle.bus_words.specs.Machine.{IsLegal, state_after}

-- the number of an accepted send; none if nobody subscribes to its id, which is answered by 0
abbrev pub number_sent : ℕ → List ℕ
number_sent zero = []
number_sent (suc n) = suc n ∷ []

-- the send number that a call so answered gave: to a message, to a housekeeping packet, or to a
-- buffer, which keeps it when it is transmitted
abbrev pub number_given : Call → BusAnswer → List ℕ
number_given (Transmit bytes inc) (Sent number reached) = number_sent number
number_given Housekeeping (Sent number reached) = number_sent number
number_given (Allocate size) (Number number) = number ∷ []
number_given call answer = []

-- the send numbers that the entries of a history gave, in order
abbrev pub numbers_in : List Entry → List ℕ
numbers_in [] = []
numbers_in (e ∷ es) = number_given e.call e.answer ++ numbers_in es

-- a history gives the numbers 1, 2, 3 and so on, as many as the bus counts
abbrev pub NumbersInOrder : Type 0
NumbersInOrder =
    (limits : Limits) (apps : ℕ) (history : List Entry) → IsLegal limits apps history →
    numbers_in history ≡ numbers_to (state_after limits apps history).numbers_given

-- a number that one entry more gives is greater than all before
abbrev pub NumbersAreNew : Type 0
NumbersAreNew =
    (limits : Limits) (apps : ℕ) (history : List Entry) (e : Entry) →
    IsLegal limits apps (history ++ e ∷ []) →
    All (λ number. All (λ before. before < number) (numbers_in history))
    (number_given e.call e.answer)
