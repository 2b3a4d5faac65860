use Rattle.std.proofs.Common.{ℕ, ap, sym, ◌∙◌, not, eqb}
use Rattle.lend_block.specs.Loan.{LentBytes}
use Rattle.buf_desc.specs.Block.{Unsent}
use Rattle.buf_desc.specs.Held.{Holding, buffer_at}
use Rattle.checked_bus.specs.Lent.{is_as_long}
use Rattle.bus_messages.proofs.LentBuffers.{lent_at}
use Rattle.checked_bus.proofs.SeatLists.{not_found}
use Rattle.checked_bus.proofs.LentSeats.{misfit_of, no_misfit, its_place}
use Rattle.checked_bus.proofs.lent_bag.LentBag.is_misfit.Goals as goal

pub returns-in-Some : goal.returns-in-Some
returns-in-Some c =
    let seats = c.self.inside.seats.items in
    let at = its_place seats c.number.result c.in-Some.place c.index.result.now (sym c.in-Some.ensures) c.index.ensures in
    let there = sym (ap (λ (b : Holding LentBytes). buffer_at b c.args.buffer.now.number) c.self.view_is) ∙ sym (ap (λ (n : ℕ). lent_at c.self.inside.seats.items n) c.number.ensures) ∙ at in
    misfit_of c.args.self.now c.args.buffer.now c.index.result.now _ there (ap not (c.is_as_long.ensures ∙ ap (is_as_long c.args.buffer.now) c.size.ensures))

pub returns-in-None : goal.returns-in-None
returns-in-None c =
    let seats = c.self.inside.seats.items in
    let none = not_found (λ (seat : Unsent). eqb seat.number c.number.result) seats (sym c.in-None.ensures) in
    no_misfit c.args.self.now c.args.buffer.now (sym (ap (λ (b : Holding LentBytes). buffer_at b c.args.buffer.now.number) c.self.view_is) ∙ sym (ap (λ (n : ℕ). lent_at c.self.inside.seats.items n) c.number.ensures) ∙ none)
