use Rattle.std.proofs.Common.{ℕ, ◌≡◌, true, eqb, List, Some, is_some, vec_capacity, ap, sym, ◌∙◌, subst, arith}
use Rattle.std.specs.List.{insert}
use Rattle.housekeeping.specs.declared.names.CounterName.TheVariants.{Send}
use Rattle.lend_block.specs.Loan.{LentBytes}
use Rattle.buf_desc.specs.Block.{Unsent}
use Rattle.buf_desc.specs.Held.{Holding, buffer_at, bytes_at}
use Rattle.bus_words.specs.declared.history.Call.TheVariants.{TransmitBuffer}
use Rattle.bus_core.specs.Answers.{sent}
use Rattle.bus_core.specs.Core.{Acts}
use Rattle.bus_core.specs.Bags.{HasBag}
use Rattle.checked_bus.specs.Inside.{seat_of}
use Rattle.checked_bus.specs.Lent.{written}
use Rattle.checked_bus.proofs.SeatLists.{not_found}
use Rattle.checked_bus.proofs.LentSeats.{seen, left, none_unsent}
use Rattle.checked_bus.proofs.LentReturns.{comes, size_there, kept_there, kept_one, kept_bytes, ok_kept, ok_buffers, ok_bag, ok_views, err_kept, err_bag, err_stays, err_has, none_here, none_one, none_bytes, on_err, no_ok, views_same, sent_gone, never_sent, none_has}
use Rattle.checked_bus.proofs.lent_bag.LentBag.transmit.Goals as goal

pub transmit_buffer_lending-requires-clause-buffer : goal.transmit_buffer_lending-requires-clause-buffer
transmit_buffer_lending-requires-clause-buffer g c =
    let none = not_found (λ (seat : Unsent). eqb seat.number c.number-number.result) c.self.inside.seats.items (sym c.in_default.ensures) in
    none_one c.args.core.now c.args.app c.self.inside.held c.self.inside.seats.items c.self.inside.room c.number-number.result c.self.invariant.0 none (subst (HasBag c.args.core.now c.args.app) (sym c.self.view_is) c.requires.bag)

pub returns-in_default-clause-does : goal.returns-in_default-clause-does
returns-in_default-clause-does g c =
    let none = not_found (λ (seat : Unsent). eqb seat.number c.number-number.result) c.self.inside.seats.items (sym c.in_default.ensures) in
    let gone = none_here c.self.inside.held c.self.inside.seats.items c.self.inside.room c.args.self.now c.args.buffer.now c.number-number.result c.self.view_is c.number-number.ensures none in
    subst (λ (m : ℕ). Acts c.args.core.now c.transmit_buffer_lending.new.self c.args.app (TransmitBuffer m (written c.args.self.now c.args.buffer.now) c.args.inc) (sent c.transmit_buffer_lending.result)) c.number-number.ensures
    (subst (λ (bs : List ℕ). Acts c.args.core.now c.transmit_buffer_lending.new.self c.args.app (TransmitBuffer c.number-number.result bs c.args.inc) (sent c.transmit_buffer_lending.result)) (none_bytes c.self.inside.held c.args.self.now c.args.buffer.now c.number-number.result c.self.invariant.0 gone) c.transmit_buffer_lending.ensures.does)

pub returns-in_default-clause-gone : goal.returns-in_default-clause-gone
returns-in_default-clause-gone g c =
    let none = not_found (λ (seat : Unsent). eqb seat.number c.number-number.result) c.self.inside.seats.items (sym c.in_default.ensures) in
    let never = never_sent c.args.core.now c.transmit_buffer_lending.new.self c.args.app c.number-number.result (bytes_at c.self.inside.held c.number-number.result) c.args.inc c.transmit_buffer_lending.result (none_unsent c.args.core.now c.args.app c.number-number.result (seen c.self.inside.held c.self.inside.seats.items c.self.inside.room) none (subst (HasBag c.args.core.now c.args.app) (sym c.self.view_is) c.requires.bag)) c.transmit_buffer_lending.ensures.does in
    no_ok _ c.transmit_buffer_lending.result never

pub returns-in_default-clause-bag : goal.returns-in_default-clause-bag
returns-in_default-clause-bag g c =
    let none = not_found (λ (seat : Unsent). eqb seat.number c.number-number.result) c.self.inside.seats.items (sym c.in_default.ensures) in
    let never = never_sent c.args.core.now c.transmit_buffer_lending.new.self c.args.app c.number-number.result (bytes_at c.self.inside.held c.number-number.result) c.args.inc c.transmit_buffer_lending.result (none_unsent c.args.core.now c.args.app c.number-number.result (seen c.self.inside.held c.self.inside.seats.items c.self.inside.room) none (subst (HasBag c.args.core.now c.args.app) (sym c.self.view_is) c.requires.bag)) c.transmit_buffer_lending.ensures.does in
    none_has c.args.core.now c.transmit_buffer_lending.new.self c.args.app c.number-number.result c.transmit_buffer_lending.result Send c.self.inside.held c.transmit_buffer_lending.new.held c.self.inside.seats.items c.self.inside.room never c.transmit_buffer_lending.ensures.refused c.transmit_buffer_lending.ensures.bag_refused (subst (HasBag c.args.core.now c.args.app) (sym c.self.view_is) c.requires.bag)

pub take_back-requires-clause-size : goal.take_back-requires-clause-size
take_back-requires-clause-size g c =
    let come = comes c.args.core.now c.args.app c.self.inside.held c.self.inside.seats.items c.self.inside.room c.args.self.now c.args.buffer.now c.number-number.result c.in-Some.place c.self.view_is c.number-number.ensures (sym c.in-Some.ensures) c.self.invariant.4 c.requires.fits c.requires.bag in
    size_there come

pub take_back-requires-clause-out : goal.take_back-requires-clause-out
take_back-requires-clause-out g c =
    let come = comes c.args.core.now c.args.app c.self.inside.held c.self.inside.seats.items c.self.inside.room c.args.self.now c.args.buffer.now c.number-number.result c.in-Some.place c.self.view_is c.number-number.ensures (sym c.in-Some.ensures) c.self.invariant.4 c.requires.fits c.requires.bag in
    come.out

pub transmit_buffer_lending-answer-requires-clause-buffer : goal.transmit_buffer_lending-answer-requires-clause-buffer
transmit_buffer_lending-answer-requires-clause-buffer g c =
    let come = comes c.args.core.now c.args.app c.self.inside.held c.self.inside.seats.items c.self.inside.room c.args.self.now c.args.buffer.now c.number-number.result c.in-Some.place c.self.view_is c.number-number.ensures (sym c.in-Some.ensures) c.self.invariant.4 c.requires.fits c.requires.bag in
    let kept = c.take_back.ensures.held come.seat come.at in
    kept_one come c.self.invariant.0 c.take_back.new.held kept

pub invariant_of-self-in-Ok : goal.invariant_of-self-in-Ok
invariant_of-self-in-Ok g c =
    let come = comes c.args.core.now c.args.app c.self.inside.held c.self.inside.seats.items c.self.inside.room c.args.self.now c.args.buffer.now c.number-number.result c.in-Some.place c.self.view_is c.number-number.ensures (sym c.in-Some.ensures) c.self.invariant.4 c.requires.fits c.requires.bag in
    let kept = c.take_back.ensures.held come.seat come.at in
    let none = sent_gone c.args.core.now c.transmit_buffer_lending-answer.new.self c.args.app c.number-number.result (bytes_at c.take_back.new.held c.number-number.result) c.args.inc c.transmit_buffer_lending-answer.result c.in-Ok.field-0 c.in-Ok.is c.transmit_buffer_lending-answer.ensures.does in
    let forgot = c.forget.ensures.items ∙ ap (left c.number-number.result) c.take_back.ensures.seats in
    ok_kept come c.self.invariant.0 c.take_back.new.held kept c.transmit_buffer_lending-answer.new.self c.transmit_buffer_lending-answer.new.held c.forget.new.seats.items c.transmit_buffer_lending-answer.ensures.bag c.transmit_buffer_lending-answer.ensures.buffers none c.transmit_buffer_lending-answer.ensures.views forgot (vec_capacity c.self.inside.seats) (vec_capacity c.forget.new.seats) c.self.invariant (c.forget.ensures.capacity ∙ c.take_back.ensures.capacity)

pub lend_again-requires-clause-there : goal.lend_again-requires-clause-there
lend_again-requires-clause-there g c =
    let come = comes c.args.core.now c.args.app c.self.inside.held c.self.inside.seats.items c.self.inside.room c.args.self.now c.args.buffer.now c.number-number.result c.in-Some.place c.self.view_is c.number-number.ensures (sym c.in-Some.ensures) c.self.invariant.4 c.requires.fits c.requires.bag in
    let kept = c.take_back.ensures.held come.seat come.at in
    subst (λ (b : Holding LentBytes). is_some (buffer_at b c.number-number.result) ≡ true) (sym c.in-Err.ensures.bag_refused) (kept_there come c.self.invariant.0 c.take_back.new.held kept)

pub invariant_of-self-in-Err : goal.invariant_of-self-in-Err
invariant_of-self-in-Err g c =
    let come = comes c.args.core.now c.args.app c.self.inside.held c.self.inside.seats.items c.self.inside.room c.args.self.now c.args.buffer.now c.number-number.result c.in-Some.place c.self.view_is c.number-number.ensures (sym c.in-Some.ensures) c.self.invariant.4 c.requires.fits c.requires.bag in
    let kept = c.take_back.ensures.held come.seat come.at in
    let put = λ (block : Unsent) (at : buffer_at c.transmit_buffer_lending-answer.new.held c.number-number.result ≡ Some block). c.lend_again.ensures.seats block at ∙ ap (λ (bs : List Unsent). insert bs c.in-Some.place (seat_of block)) c.take_back.ensures.seats in
    err_kept come c.self.invariant.0 c.take_back.new.held kept c.transmit_buffer_lending-answer.new.held c.lend_again.new.held c.lend_again.new.seats.items c.lend_again.result c.in-Err.ensures.bag_refused c.lend_again.ensures.held put (vec_capacity c.self.inside.seats) (vec_capacity c.lend_again.new.seats) c.self.invariant (omega (arith, c.lend_again.ensures.capacity, c.take_back.ensures.capacity))

pub returns-in-Ok-clause-does : goal.returns-in-Ok-clause-does
returns-in-Ok-clause-does g c =
    let come = comes c.args.core.now c.args.app c.self.inside.held c.self.inside.seats.items c.self.inside.room c.args.self.now c.args.buffer.now c.number-number.result c.in-Some.place c.self.view_is c.number-number.ensures (sym c.in-Some.ensures) c.self.invariant.4 c.requires.fits c.requires.bag in
    let kept = c.take_back.ensures.held come.seat come.at in
    subst (λ (m : ℕ). Acts c.args.core.now c.transmit_buffer_lending-answer.new.self c.args.app (TransmitBuffer m (written c.args.self.now c.args.buffer.now) c.args.inc) (sent c.transmit_buffer_lending-answer.result)) c.number-number.ensures
    (subst (λ (bs : List ℕ). Acts c.args.core.now c.transmit_buffer_lending-answer.new.self c.args.app (TransmitBuffer c.number-number.result bs c.args.inc) (sent c.transmit_buffer_lending-answer.result)) (kept_bytes come c.self.invariant.0 c.take_back.new.held kept) c.transmit_buffer_lending-answer.ensures.does)

pub returns-in-Ok-clause-buffers : goal.returns-in-Ok-clause-buffers
returns-in-Ok-clause-buffers g c =
    let come = comes c.args.core.now c.args.app c.self.inside.held c.self.inside.seats.items c.self.inside.room c.args.self.now c.args.buffer.now c.number-number.result c.in-Some.place c.self.view_is c.number-number.ensures (sym c.in-Some.ensures) c.self.invariant.4 c.requires.fits c.requires.bag in
    let kept = c.take_back.ensures.held come.seat come.at in
    let none = sent_gone c.args.core.now c.transmit_buffer_lending-answer.new.self c.args.app c.number-number.result (bytes_at c.take_back.new.held c.number-number.result) c.args.inc c.transmit_buffer_lending-answer.result c.in-Ok.field-0 c.in-Ok.is c.transmit_buffer_lending-answer.ensures.does in
    let forgot = c.forget.ensures.items ∙ ap (left c.number-number.result) c.take_back.ensures.seats in
    ok_buffers come c.self.invariant.0 c.take_back.new.held kept c.transmit_buffer_lending-answer.new.self c.transmit_buffer_lending-answer.new.held c.forget.new.seats.items c.transmit_buffer_lending-answer.ensures.bag c.transmit_buffer_lending-answer.ensures.buffers none c.transmit_buffer_lending-answer.ensures.views forgot

pub returns-in-Ok-clause-bag : goal.returns-in-Ok-clause-bag
returns-in-Ok-clause-bag g c =
    let come = comes c.args.core.now c.args.app c.self.inside.held c.self.inside.seats.items c.self.inside.room c.args.self.now c.args.buffer.now c.number-number.result c.in-Some.place c.self.view_is c.number-number.ensures (sym c.in-Some.ensures) c.self.invariant.4 c.requires.fits c.requires.bag in
    let kept = c.take_back.ensures.held come.seat come.at in
    let none = sent_gone c.args.core.now c.transmit_buffer_lending-answer.new.self c.args.app c.number-number.result (bytes_at c.take_back.new.held c.number-number.result) c.args.inc c.transmit_buffer_lending-answer.result c.in-Ok.field-0 c.in-Ok.is c.transmit_buffer_lending-answer.ensures.does in
    let forgot = c.forget.ensures.items ∙ ap (left c.number-number.result) c.take_back.ensures.seats in
    ok_bag come c.self.invariant.0 c.take_back.new.held kept c.transmit_buffer_lending-answer.new.self c.transmit_buffer_lending-answer.new.held c.forget.new.seats.items c.transmit_buffer_lending-answer.ensures.bag c.transmit_buffer_lending-answer.ensures.buffers none c.transmit_buffer_lending-answer.ensures.views forgot

pub returns-in-Ok-clause-views : goal.returns-in-Ok-clause-views
returns-in-Ok-clause-views g c =
    let come = comes c.args.core.now c.args.app c.self.inside.held c.self.inside.seats.items c.self.inside.room c.args.self.now c.args.buffer.now c.number-number.result c.in-Some.place c.self.view_is c.number-number.ensures (sym c.in-Some.ensures) c.self.invariant.4 c.requires.fits c.requires.bag in
    let kept = c.take_back.ensures.held come.seat come.at in
    let none = sent_gone c.args.core.now c.transmit_buffer_lending-answer.new.self c.args.app c.number-number.result (bytes_at c.take_back.new.held c.number-number.result) c.args.inc c.transmit_buffer_lending-answer.result c.in-Ok.field-0 c.in-Ok.is c.transmit_buffer_lending-answer.ensures.does in
    let forgot = c.forget.ensures.items ∙ ap (left c.number-number.result) c.take_back.ensures.seats in
    ok_views come c.self.invariant.0 c.take_back.new.held kept c.transmit_buffer_lending-answer.new.self c.transmit_buffer_lending-answer.new.held c.forget.new.seats.items c.transmit_buffer_lending-answer.ensures.bag c.transmit_buffer_lending-answer.ensures.buffers none c.transmit_buffer_lending-answer.ensures.views forgot

pub returns-in-Err-clause-does : goal.returns-in-Err-clause-does
returns-in-Err-clause-does g c =
    let come = comes c.args.core.now c.args.app c.self.inside.held c.self.inside.seats.items c.self.inside.room c.args.self.now c.args.buffer.now c.number-number.result c.in-Some.place c.self.view_is c.number-number.ensures (sym c.in-Some.ensures) c.self.invariant.4 c.requires.fits c.requires.bag in
    let kept = c.take_back.ensures.held come.seat come.at in
    subst (λ (m : ℕ). Acts c.args.core.now c.transmit_buffer_lending-answer.new.self c.args.app (TransmitBuffer m (written c.args.self.now c.args.buffer.now) c.args.inc) (sent c.transmit_buffer_lending-answer.result)) c.number-number.ensures
    (subst (λ (bs : List ℕ). Acts c.args.core.now c.transmit_buffer_lending-answer.new.self c.args.app (TransmitBuffer c.number-number.result bs c.args.inc) (sent c.transmit_buffer_lending-answer.result)) (kept_bytes come c.self.invariant.0 c.take_back.new.held kept) c.transmit_buffer_lending-answer.ensures.does)

pub returns-in-Err-clause-bag_refused : goal.returns-in-Err-clause-bag_refused
returns-in-Err-clause-bag_refused g c =
    let come = comes c.args.core.now c.args.app c.self.inside.held c.self.inside.seats.items c.self.inside.room c.args.self.now c.args.buffer.now c.number-number.result c.in-Some.place c.self.view_is c.number-number.ensures (sym c.in-Some.ensures) c.self.invariant.4 c.requires.fits c.requires.bag in
    let kept = c.take_back.ensures.held come.seat come.at in
    let put = λ (block : Unsent) (at : buffer_at c.transmit_buffer_lending-answer.new.held c.number-number.result ≡ Some block). c.lend_again.ensures.seats block at ∙ ap (λ (bs : List Unsent). insert bs c.in-Some.place (seat_of block)) c.take_back.ensures.seats in
    on_err c.transmit_buffer_lending-answer.result (err_bag come c.self.invariant.0 c.take_back.new.held kept c.transmit_buffer_lending-answer.new.held c.lend_again.new.held c.lend_again.new.seats.items c.lend_again.result c.in-Err.ensures.bag_refused c.lend_again.ensures.held put)

pub returns-in-Err-clause-stays : goal.returns-in-Err-clause-stays
returns-in-Err-clause-stays g c =
    let come = comes c.args.core.now c.args.app c.self.inside.held c.self.inside.seats.items c.self.inside.room c.args.self.now c.args.buffer.now c.number-number.result c.in-Some.place c.self.view_is c.number-number.ensures (sym c.in-Some.ensures) c.self.invariant.4 c.requires.fits c.requires.bag in
    let kept = c.take_back.ensures.held come.seat come.at in
    let put = λ (block : Unsent) (at : buffer_at c.transmit_buffer_lending-answer.new.held c.number-number.result ≡ Some block). c.lend_again.ensures.seats block at ∙ ap (λ (bs : List Unsent). insert bs c.in-Some.place (seat_of block)) c.take_back.ensures.seats in
    on_err c.transmit_buffer_lending-answer.result (err_stays come c.self.invariant.0 c.take_back.new.held kept c.transmit_buffer_lending-answer.new.held c.lend_again.new.held c.lend_again.new.seats.items c.lend_again.result c.in-Err.ensures.bag_refused c.lend_again.ensures.held put c.lend_again.ensures.number c.lend_again.ensures.whole c.lend_again.ensures.bytes)

pub returns-in-Err-clause-buffers : goal.returns-in-Err-clause-buffers
returns-in-Err-clause-buffers g c =
    let come = comes c.args.core.now c.args.app c.self.inside.held c.self.inside.seats.items c.self.inside.room c.args.self.now c.args.buffer.now c.number-number.result c.in-Some.place c.self.view_is c.number-number.ensures (sym c.in-Some.ensures) c.self.invariant.4 c.requires.fits c.requires.bag in
    let kept = c.take_back.ensures.held come.seat come.at in
    let put = λ (block : Unsent) (at : buffer_at c.transmit_buffer_lending-answer.new.held c.number-number.result ≡ Some block). c.lend_again.ensures.seats block at ∙ ap (λ (bs : List Unsent). insert bs c.in-Some.place (seat_of block)) c.take_back.ensures.seats in
    λ other apart. ap (λ (b : Holding LentBytes). buffer_at b other) (err_bag come c.self.invariant.0 c.take_back.new.held kept c.transmit_buffer_lending-answer.new.held c.lend_again.new.held c.lend_again.new.seats.items c.lend_again.result c.in-Err.ensures.bag_refused c.lend_again.ensures.held put)

pub returns-in-Err-clause-bag : goal.returns-in-Err-clause-bag
returns-in-Err-clause-bag g c =
    let come = comes c.args.core.now c.args.app c.self.inside.held c.self.inside.seats.items c.self.inside.room c.args.self.now c.args.buffer.now c.number-number.result c.in-Some.place c.self.view_is c.number-number.ensures (sym c.in-Some.ensures) c.self.invariant.4 c.requires.fits c.requires.bag in
    let kept = c.take_back.ensures.held come.seat come.at in
    let put = λ (block : Unsent) (at : buffer_at c.transmit_buffer_lending-answer.new.held c.number-number.result ≡ Some block). c.lend_again.ensures.seats block at ∙ ap (λ (bs : List Unsent). insert bs c.in-Some.place (seat_of block)) c.take_back.ensures.seats in
    err_has come c.self.invariant.0 c.take_back.new.held kept c.transmit_buffer_lending-answer.new.held c.lend_again.new.held c.lend_again.new.seats.items c.lend_again.result c.in-Err.ensures.bag_refused c.lend_again.ensures.held put c.transmit_buffer_lending-answer.new.self Send c.in-Err.ensures.refused

pub returns-in-Err-clause-views : goal.returns-in-Err-clause-views
returns-in-Err-clause-views g c =
    let come = comes c.args.core.now c.args.app c.self.inside.held c.self.inside.seats.items c.self.inside.room c.args.self.now c.args.buffer.now c.number-number.result c.in-Some.place c.self.view_is c.number-number.ensures (sym c.in-Some.ensures) c.self.invariant.4 c.requires.fits c.requires.bag in
    let kept = c.take_back.ensures.held come.seat come.at in
    let put = λ (block : Unsent) (at : buffer_at c.transmit_buffer_lending-answer.new.held c.number-number.result ≡ Some block). c.lend_again.ensures.seats block at ∙ ap (λ (bs : List Unsent). insert bs c.in-Some.place (seat_of block)) c.take_back.ensures.seats in
    views_same (seen c.lend_again.new.held c.lend_again.new.seats.items c.self.inside.room) c.args.self.now (err_bag come c.self.invariant.0 c.take_back.new.held kept c.transmit_buffer_lending-answer.new.held c.lend_again.new.held c.lend_again.new.seats.items c.lend_again.result c.in-Err.ensures.bag_refused c.lend_again.ensures.held put)
