use Rattle.std.proofs.Common.{sym, ◌∙◌, eqb}
use Rattle.checked_bus.proofs.SeatLists.{first_there}
use Rattle.checked_bus.proofs.lent_bag.place_of.Goals as goal

pub returns-then-is_first : goal.returns-then-is_first
returns-then-is_first c = sym (first_there (λ seat. eqb seat.number c.args.number) c.args.seats.now.items (sym c.is_first.ensures ∙ c.if-is_first.true))
