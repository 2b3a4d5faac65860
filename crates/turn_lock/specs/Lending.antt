-- What a turn becomes once the borrow of its value ends.
use Rattle.std.specs.Prelude.{ℕ, Bool, List}
use Rattle.std.specs.Borrow.{Lends, MutBor, Fml, RattleType}
use Rattle.turn_lock.specs.Seats.{TurnView}
use Rattle.turn_lock.specs.contracts.turn.Turn.{the_row}

-- the turn with this value
abbrev pub with_value : {T F E : Type 0} → TurnView T F E → T → TurnView T F E
with_value t value = record t { value = value }

abbrev pub LendsValue : (T F E : RattleType) → (T.Denot → F.Denot) →
    (T.Denot → List (ℕ × E.Denot)) → (awaited news : T.Denot → Bool) →
    MutBor (TurnView T.Denot F.Denot E.Denot) → MutBor T.Denot → Fml
LendsValue T F E fixed history awaited news s r =
    Lends (the_row T F E
    record { fixed = fixed; history = history; awaited = awaited; news = news }) T s r
    (with_value s.now)
