use Rattle.std.proofs.Common.{ℕ, List, [], Option, ap, sym, ◌∙◌}
use Rattle.std.specs.Option.{option_map, unwrap_or}
use Rattle.buf_desc.specs.Block.{Unsent}
use Rattle.checked_bus.specs.Lent.{bytes_in}
use Rattle.checked_bus.proofs.LentSeats.{seat_there, back_alone, filled}
use Rattle.checked_bus.proofs.lent_bag.take_back.Goals as goal

pub returns-clause-held : goal.returns-clause-held
returns-clause-held c = λ seat at.
    let same = seat_there c.args.seats.now.items c.args.place seat c.remove_at-seat.result at c.remove_at-seat.ensures.value in
    let space = sym (ap (λ (o : Option (List ℕ)). unwrap_or o []) (sym (ap (option_map (λ it. it.now)) c.surely_some-space.ensures) ∙ c.take.ensures.value)) in
    back_alone c.args.held.now c.put_buffer.new.self c.take_back.result (filled seat (bytes_in c.args.buffer.now)) c.requires.empty c.put_buffer.ensures.nothing_else c.put_buffer.ensures.one_more (c.put_buffer.ensures.seen c.take_back.result.number)
    (c.take_back.ensures ∙ ap (λ (it : Unsent). filled it c.surely_some-space.result.now) same ∙ ap (filled seat) (sym space))
