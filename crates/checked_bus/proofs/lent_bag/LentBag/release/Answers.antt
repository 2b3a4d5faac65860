use Rattle.std.proofs.Common.{◌≡◌, true, eqb, List, Some, is_some, vec_capacity, ap, sym, ◌∙◌, subst, arith}
use Rattle.std.specs.List.{insert}
use Rattle.housekeeping.specs.declared.names.CounterName.TheVariants.{Send}
use Rattle.lend_block.specs.Loan.{LentBytes}
use Rattle.buf_desc.specs.Block.{Unsent}
use Rattle.buf_desc.specs.Held.{Holding, buffer_at}
use Rattle.bus_core.specs.Bags.{HasBag}
use Rattle.checked_bus.specs.Inside.{seat_of}
use Rattle.checked_bus.proofs.SeatLists.{not_found}
use Rattle.checked_bus.proofs.LentSeats.{seen, left, none_unsent}
use Rattle.checked_bus.proofs.LentReturns.{comes, size_there, kept_there, kept_one, ok_kept, ok_buffers, ok_bag, ok_views, err_kept, err_bag, err_stays, err_has, none_one, on_err, no_ok, views_same, released_gone, never_released, none_has}
use Rattle.checked_bus.proofs.lent_bag.LentBag.release.Goals as goal

pub release_lending-requires-clause-buffer : goal.release_lending-requires-clause-buffer
release_lending-requires-clause-buffer g c =
    let none = not_found (λ (seat : Unsent). eqb seat.number c.number-number.result) c.self.inside.seats.items (sym c.in_default.ensures) in
    none_one c.args.core.now c.args.app c.self.inside.held c.self.inside.seats.items c.self.inside.room c.number-number.result c.self.invariant.0 none (subst (HasBag c.args.core.now c.args.app) (sym c.self.view_is) c.requires.bag)

pub returns-in_default-clause-gone : goal.returns-in_default-clause-gone
returns-in_default-clause-gone g c =
    let none = not_found (λ (seat : Unsent). eqb seat.number c.number-number.result) c.self.inside.seats.items (sym c.in_default.ensures) in
    let never = never_released c.args.core.now c.release_lending.new.self c.args.app c.number-number.result c.release_lending.result (none_unsent c.args.core.now c.args.app c.number-number.result (seen c.self.inside.held c.self.inside.seats.items c.self.inside.room) none (subst (HasBag c.args.core.now c.args.app) (sym c.self.view_is) c.requires.bag)) c.release_lending.ensures.does in
    no_ok _ c.release_lending.result never

pub returns-in_default-clause-bag : goal.returns-in_default-clause-bag
returns-in_default-clause-bag g c =
    let none = not_found (λ (seat : Unsent). eqb seat.number c.number-number.result) c.self.inside.seats.items (sym c.in_default.ensures) in
    let never = never_released c.args.core.now c.release_lending.new.self c.args.app c.number-number.result c.release_lending.result (none_unsent c.args.core.now c.args.app c.number-number.result (seen c.self.inside.held c.self.inside.seats.items c.self.inside.room) none (subst (HasBag c.args.core.now c.args.app) (sym c.self.view_is) c.requires.bag)) c.release_lending.ensures.does in
    none_has c.args.core.now c.release_lending.new.self c.args.app c.number-number.result c.release_lending.result Send c.self.inside.held c.release_lending.new.held c.self.inside.seats.items c.self.inside.room never c.release_lending.ensures.refused c.release_lending.ensures.bag_refused (subst (HasBag c.args.core.now c.args.app) (sym c.self.view_is) c.requires.bag)

pub take_back-requires-clause-size : goal.take_back-requires-clause-size
take_back-requires-clause-size g c =
    let come = comes c.args.core.now c.args.app c.self.inside.held c.self.inside.seats.items c.self.inside.room c.args.self.now c.args.buffer.now c.number-number.result c.in-Some.place c.self.view_is c.number-number.ensures (sym c.in-Some.ensures) c.self.invariant.4 c.requires.fits c.requires.bag in
    size_there come

pub take_back-requires-clause-out : goal.take_back-requires-clause-out
take_back-requires-clause-out g c =
    let come = comes c.args.core.now c.args.app c.self.inside.held c.self.inside.seats.items c.self.inside.room c.args.self.now c.args.buffer.now c.number-number.result c.in-Some.place c.self.view_is c.number-number.ensures (sym c.in-Some.ensures) c.self.invariant.4 c.requires.fits c.requires.bag in
    come.out

pub release_lending-answer-requires-clause-buffer : goal.release_lending-answer-requires-clause-buffer
release_lending-answer-requires-clause-buffer g c =
    let come = comes c.args.core.now c.args.app c.self.inside.held c.self.inside.seats.items c.self.inside.room c.args.self.now c.args.buffer.now c.number-number.result c.in-Some.place c.self.view_is c.number-number.ensures (sym c.in-Some.ensures) c.self.invariant.4 c.requires.fits c.requires.bag in
    let kept = c.take_back.ensures.held come.seat come.at in
    kept_one come c.self.invariant.0 c.take_back.new.held kept

pub invariant_of-self-in-Ok : goal.invariant_of-self-in-Ok
invariant_of-self-in-Ok g c =
    let come = comes c.args.core.now c.args.app c.self.inside.held c.self.inside.seats.items c.self.inside.room c.args.self.now c.args.buffer.now c.number-number.result c.in-Some.place c.self.view_is c.number-number.ensures (sym c.in-Some.ensures) c.self.invariant.4 c.requires.fits c.requires.bag in
    let kept = c.take_back.ensures.held come.seat come.at in
    let none = released_gone c.args.core.now c.release_lending-answer.new.self c.args.app c.number-number.result c.release_lending-answer.result tt c.in-Ok.is c.release_lending-answer.ensures.does in
    let forgot = c.forget.ensures.items ∙ ap (left c.number-number.result) c.take_back.ensures.seats in
    ok_kept come c.self.invariant.0 c.take_back.new.held kept c.release_lending-answer.new.self c.release_lending-answer.new.held c.forget.new.seats.items c.release_lending-answer.ensures.bag c.release_lending-answer.ensures.buffers none c.release_lending-answer.ensures.views forgot (vec_capacity c.self.inside.seats) (vec_capacity c.forget.new.seats) c.self.invariant (c.forget.ensures.capacity ∙ c.take_back.ensures.capacity)

pub lend_again-requires-clause-there : goal.lend_again-requires-clause-there
lend_again-requires-clause-there g c =
    let come = comes c.args.core.now c.args.app c.self.inside.held c.self.inside.seats.items c.self.inside.room c.args.self.now c.args.buffer.now c.number-number.result c.in-Some.place c.self.view_is c.number-number.ensures (sym c.in-Some.ensures) c.self.invariant.4 c.requires.fits c.requires.bag in
    let kept = c.take_back.ensures.held come.seat come.at in
    subst (λ (b : Holding LentBytes). is_some (buffer_at b c.number-number.result) ≡ true) (sym c.in-Err.ensures.bag_refused) (kept_there come c.self.invariant.0 c.take_back.new.held kept)

pub invariant_of-self-in-Err : goal.invariant_of-self-in-Err
invariant_of-self-in-Err g c =
    let come = comes c.args.core.now c.args.app c.self.inside.held c.self.inside.seats.items c.self.inside.room c.args.self.now c.args.buffer.now c.number-number.result c.in-Some.place c.self.view_is c.number-number.ensures (sym c.in-Some.ensures) c.self.invariant.4 c.requires.fits c.requires.bag in
    let kept = c.take_back.ensures.held come.seat come.at in
    let put = λ (block : Unsent) (at : buffer_at c.release_lending-answer.new.held c.number-number.result ≡ Some block). c.lend_again.ensures.seats block at ∙ ap (λ (bs : List Unsent). insert bs c.in-Some.place (seat_of block)) c.take_back.ensures.seats in
    err_kept come c.self.invariant.0 c.take_back.new.held kept c.release_lending-answer.new.held c.lend_again.new.held c.lend_again.new.seats.items c.lend_again.result c.in-Err.ensures.bag_refused c.lend_again.ensures.held put (vec_capacity c.self.inside.seats) (vec_capacity c.lend_again.new.seats) c.self.invariant (omega (arith, c.lend_again.ensures.capacity, c.take_back.ensures.capacity))

pub returns-in-Ok-clause-buffers : goal.returns-in-Ok-clause-buffers
returns-in-Ok-clause-buffers g c =
    let come = comes c.args.core.now c.args.app c.self.inside.held c.self.inside.seats.items c.self.inside.room c.args.self.now c.args.buffer.now c.number-number.result c.in-Some.place c.self.view_is c.number-number.ensures (sym c.in-Some.ensures) c.self.invariant.4 c.requires.fits c.requires.bag in
    let kept = c.take_back.ensures.held come.seat come.at in
    let none = released_gone c.args.core.now c.release_lending-answer.new.self c.args.app c.number-number.result c.release_lending-answer.result tt c.in-Ok.is c.release_lending-answer.ensures.does in
    let forgot = c.forget.ensures.items ∙ ap (left c.number-number.result) c.take_back.ensures.seats in
    ok_buffers come c.self.invariant.0 c.take_back.new.held kept c.release_lending-answer.new.self c.release_lending-answer.new.held c.forget.new.seats.items c.release_lending-answer.ensures.bag c.release_lending-answer.ensures.buffers none c.release_lending-answer.ensures.views forgot

pub returns-in-Ok-clause-bag : goal.returns-in-Ok-clause-bag
returns-in-Ok-clause-bag g c =
    let come = comes c.args.core.now c.args.app c.self.inside.held c.self.inside.seats.items c.self.inside.room c.args.self.now c.args.buffer.now c.number-number.result c.in-Some.place c.self.view_is c.number-number.ensures (sym c.in-Some.ensures) c.self.invariant.4 c.requires.fits c.requires.bag in
    let kept = c.take_back.ensures.held come.seat come.at in
    let none = released_gone c.args.core.now c.release_lending-answer.new.self c.args.app c.number-number.result c.release_lending-answer.result tt c.in-Ok.is c.release_lending-answer.ensures.does in
    let forgot = c.forget.ensures.items ∙ ap (left c.number-number.result) c.take_back.ensures.seats in
    ok_bag come c.self.invariant.0 c.take_back.new.held kept c.release_lending-answer.new.self c.release_lending-answer.new.held c.forget.new.seats.items c.release_lending-answer.ensures.bag c.release_lending-answer.ensures.buffers none c.release_lending-answer.ensures.views forgot

pub returns-in-Ok-clause-views : goal.returns-in-Ok-clause-views
returns-in-Ok-clause-views g c =
    let come = comes c.args.core.now c.args.app c.self.inside.held c.self.inside.seats.items c.self.inside.room c.args.self.now c.args.buffer.now c.number-number.result c.in-Some.place c.self.view_is c.number-number.ensures (sym c.in-Some.ensures) c.self.invariant.4 c.requires.fits c.requires.bag in
    let kept = c.take_back.ensures.held come.seat come.at in
    let none = released_gone c.args.core.now c.release_lending-answer.new.self c.args.app c.number-number.result c.release_lending-answer.result tt c.in-Ok.is c.release_lending-answer.ensures.does in
    let forgot = c.forget.ensures.items ∙ ap (left c.number-number.result) c.take_back.ensures.seats in
    ok_views come c.self.invariant.0 c.take_back.new.held kept c.release_lending-answer.new.self c.release_lending-answer.new.held c.forget.new.seats.items c.release_lending-answer.ensures.bag c.release_lending-answer.ensures.buffers none c.release_lending-answer.ensures.views forgot

pub returns-in-Err-clause-bag_refused : goal.returns-in-Err-clause-bag_refused
returns-in-Err-clause-bag_refused g c =
    let come = comes c.args.core.now c.args.app c.self.inside.held c.self.inside.seats.items c.self.inside.room c.args.self.now c.args.buffer.now c.number-number.result c.in-Some.place c.self.view_is c.number-number.ensures (sym c.in-Some.ensures) c.self.invariant.4 c.requires.fits c.requires.bag in
    let kept = c.take_back.ensures.held come.seat come.at in
    let put = λ (block : Unsent) (at : buffer_at c.release_lending-answer.new.held c.number-number.result ≡ Some block). c.lend_again.ensures.seats block at ∙ ap (λ (bs : List Unsent). insert bs c.in-Some.place (seat_of block)) c.take_back.ensures.seats in
    on_err c.release_lending-answer.result (err_bag come c.self.invariant.0 c.take_back.new.held kept c.release_lending-answer.new.held c.lend_again.new.held c.lend_again.new.seats.items c.lend_again.result c.in-Err.ensures.bag_refused c.lend_again.ensures.held put)

pub returns-in-Err-clause-stays : goal.returns-in-Err-clause-stays
returns-in-Err-clause-stays g c =
    let come = comes c.args.core.now c.args.app c.self.inside.held c.self.inside.seats.items c.self.inside.room c.args.self.now c.args.buffer.now c.number-number.result c.in-Some.place c.self.view_is c.number-number.ensures (sym c.in-Some.ensures) c.self.invariant.4 c.requires.fits c.requires.bag in
    let kept = c.take_back.ensures.held come.seat come.at in
    let put = λ (block : Unsent) (at : buffer_at c.release_lending-answer.new.held c.number-number.result ≡ Some block). c.lend_again.ensures.seats block at ∙ ap (λ (bs : List Unsent). insert bs c.in-Some.place (seat_of block)) c.take_back.ensures.seats in
    on_err c.release_lending-answer.result (err_stays come c.self.invariant.0 c.take_back.new.held kept c.release_lending-answer.new.held c.lend_again.new.held c.lend_again.new.seats.items c.lend_again.result c.in-Err.ensures.bag_refused c.lend_again.ensures.held put c.lend_again.ensures.number c.lend_again.ensures.whole c.lend_again.ensures.bytes)

pub returns-in-Err-clause-buffers : goal.returns-in-Err-clause-buffers
returns-in-Err-clause-buffers g c =
    let come = comes c.args.core.now c.args.app c.self.inside.held c.self.inside.seats.items c.self.inside.room c.args.self.now c.args.buffer.now c.number-number.result c.in-Some.place c.self.view_is c.number-number.ensures (sym c.in-Some.ensures) c.self.invariant.4 c.requires.fits c.requires.bag in
    let kept = c.take_back.ensures.held come.seat come.at in
    let put = λ (block : Unsent) (at : buffer_at c.release_lending-answer.new.held c.number-number.result ≡ Some block). c.lend_again.ensures.seats block at ∙ ap (λ (bs : List Unsent). insert bs c.in-Some.place (seat_of block)) c.take_back.ensures.seats in
    λ other apart. ap (λ (b : Holding LentBytes). buffer_at b other) (err_bag come c.self.invariant.0 c.take_back.new.held kept c.release_lending-answer.new.held c.lend_again.new.held c.lend_again.new.seats.items c.lend_again.result c.in-Err.ensures.bag_refused c.lend_again.ensures.held put)

pub returns-in-Err-clause-bag : goal.returns-in-Err-clause-bag
returns-in-Err-clause-bag g c =
    let come = comes c.args.core.now c.args.app c.self.inside.held c.self.inside.seats.items c.self.inside.room c.args.self.now c.args.buffer.now c.number-number.result c.in-Some.place c.self.view_is c.number-number.ensures (sym c.in-Some.ensures) c.self.invariant.4 c.requires.fits c.requires.bag in
    let kept = c.take_back.ensures.held come.seat come.at in
    let put = λ (block : Unsent) (at : buffer_at c.release_lending-answer.new.held c.number-number.result ≡ Some block). c.lend_again.ensures.seats block at ∙ ap (λ (bs : List Unsent). insert bs c.in-Some.place (seat_of block)) c.take_back.ensures.seats in
    err_has come c.self.invariant.0 c.take_back.new.held kept c.release_lending-answer.new.held c.lend_again.new.held c.lend_again.new.seats.items c.lend_again.result c.in-Err.ensures.bag_refused c.lend_again.ensures.held put c.release_lending-answer.new.self Send c.in-Err.ensures.refused

pub returns-in-Err-clause-views : goal.returns-in-Err-clause-views
returns-in-Err-clause-views g c =
    let come = comes c.args.core.now c.args.app c.self.inside.held c.self.inside.seats.items c.self.inside.room c.args.self.now c.args.buffer.now c.number-number.result c.in-Some.place c.self.view_is c.number-number.ensures (sym c.in-Some.ensures) c.self.invariant.4 c.requires.fits c.requires.bag in
    let kept = c.take_back.ensures.held come.seat come.at in
    let put = λ (block : Unsent) (at : buffer_at c.release_lending-answer.new.held c.number-number.result ≡ Some block). c.lend_again.ensures.seats block at ∙ ap (λ (bs : List Unsent). insert bs c.in-Some.place (seat_of block)) c.take_back.ensures.seats in
    views_same (seen c.lend_again.new.held c.lend_again.new.seats.items c.self.inside.room) c.args.self.now (err_bag come c.self.invariant.0 c.take_back.new.held kept c.release_lending-answer.new.held c.lend_again.new.held c.lend_again.new.seats.items c.lend_again.result c.in-Err.ensures.bag_refused c.lend_again.ensures.held put)
