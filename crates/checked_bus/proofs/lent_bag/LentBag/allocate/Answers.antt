use Rattle.std.proofs.Common.{rules, ℕ, ◌<◌, length, List, ap, sym, ◌∙◌, ◌≡◌, subst, vec_capacity}
use Rattle.std.proofs.lemmas.List.Edits.{insert_end}
use Rattle.std.specs.List.{insert}
use Rattle.lend_block.specs.Loan.{LentBytes}
use Rattle.buf_desc.specs.Block.{Unsent}
use Rattle.buf_desc.specs.Held.{Holding, buffer_at}
use Rattle.bus_core.specs.Bags.{HasBag}
use Rattle.checked_bus.specs.Inside.{seat_of}
use Rattle.checked_bus.proofs.LentSeats.{some_size, there_is, some_block, zeros_lent, given_out, others_lent, lent_kept, emptied, has_lent, seen}
use Rattle.checked_bus.proofs.lent_bag.LentBag.allocate.Goals as goal

pub invariant_of-self-2 : goal.invariant_of-self-2
invariant_of-self-2 g c =
    let n = c.in_ok-number.number in
    let some = there_is c.allocate_lending.new.held n c.args.size c.in_ok-number.ensures.zeros (some_size c.args.core.now c.allocate_lending.new.self c.args.app c.args.size n c.allocate_lending.result c.in_ok-number.was c.allocate_lending.ensures.does c.allocate_lending.ensures.spent) in
    let it = some_block (buffer_at c.allocate_lending.new.held n) some in
    let last : c.len-place.result ≡ length c.self.inside.seats.items = search rules in
    let added = c.lend.ensures.seats it.0 it.1 ∙ ap (λ (i : ℕ). insert c.self.inside.seats.items i (seat_of it.0)) last ∙ insert_end c.self.inside.seats.items (seat_of it.0) in
    let fresh = ap (λ (b : Holding LentBytes). buffer_at b n) c.self.view_is ∙ ap (buffer_at c.args.self.now) c.in_ok-number.ensures.number ∙ c.requires.fresh in
    let room = sym (ap (λ (b : Holding LentBytes). b.buffer_room) c.lend.ensures.held ∙ ap (λ (b : Holding LentBytes). b.buffer_room) c.allocate_lending.ensures.views) in
    let below = subst (λ (b : Holding LentBytes). length b.buffers < b.buffer_room) (sym c.self.view_is) c.requires.room in
    lent_kept c.self.inside.held c.allocate_lending.new.held c.lend.new.held c.self.inside.seats.items c.lend.new.seats.items c.self.inside.room c.args.size n it.0 c.lend.result added it.1 fresh c.in_ok-number.ensures.zeros c.lend.ensures.whole c.lend.ensures.bytes
    (vec_capacity c.self.inside.seats) (vec_capacity c.lend.new.seats) c.self.invariant room
    (emptied c.args.core.now c.allocate_lending.new.self c.args.app n c.args.size c.self.inside.held c.allocate_lending.new.held c.lend.new.held c.self.inside.seats.items c.self.inside.room it.0 c.self.invariant.0 c.allocate_lending.ensures.count it.1 c.lend.ensures.held) below c.lend.ensures.capacity

pub returns-clause-zeros : goal.returns-clause-zeros
returns-clause-zeros g c =
    let n = c.in_ok-number.number in
    let some = there_is c.allocate_lending.new.held n c.args.size c.in_ok-number.ensures.zeros (some_size c.args.core.now c.allocate_lending.new.self c.args.app c.args.size n c.allocate_lending.result c.in_ok-number.was c.allocate_lending.ensures.does c.allocate_lending.ensures.spent) in
    let it = some_block (buffer_at c.allocate_lending.new.held n) some in
    let last : c.len-place.result ≡ length c.self.inside.seats.items = search rules in
    let added = c.lend.ensures.seats it.0 it.1 ∙ ap (λ (i : ℕ). insert c.self.inside.seats.items i (seat_of it.0)) last ∙ insert_end c.self.inside.seats.items (seat_of it.0) in
    let fresh = ap (λ (b : Holding LentBytes). buffer_at b n) c.self.view_is ∙ ap (buffer_at c.args.self.now) c.in_ok-number.ensures.number ∙ c.requires.fresh in
    zeros_lent c.self.inside.held c.allocate_lending.new.held c.lend.new.held c.self.inside.seats.items c.lend.new.seats.items c.self.inside.room c.args.size n it.0 c.lend.result added it.1 fresh c.in_ok-number.ensures.zeros c.lend.ensures.whole c.lend.ensures.bytes

pub returns-clause-given : goal.returns-clause-given
returns-clause-given g c =
    let n = c.in_ok-number.number in
    let some = there_is c.allocate_lending.new.held n c.args.size c.in_ok-number.ensures.zeros (some_size c.args.core.now c.allocate_lending.new.self c.args.app c.args.size n c.allocate_lending.result c.in_ok-number.was c.allocate_lending.ensures.does c.allocate_lending.ensures.spent) in
    let it = some_block (buffer_at c.allocate_lending.new.held n) some in
    let last : c.len-place.result ≡ length c.self.inside.seats.items = search rules in
    let added = c.lend.ensures.seats it.0 it.1 ∙ ap (λ (i : ℕ). insert c.self.inside.seats.items i (seat_of it.0)) last ∙ insert_end c.self.inside.seats.items (seat_of it.0) in
    let fresh = ap (λ (b : Holding LentBytes). buffer_at b n) c.self.view_is ∙ ap (buffer_at c.args.self.now) c.in_ok-number.ensures.number ∙ c.requires.fresh in
    given_out c.self.inside.held c.allocate_lending.new.held c.lend.new.held c.self.inside.seats.items c.lend.new.seats.items c.self.inside.room c.args.size n it.0 c.lend.result added it.1 fresh c.in_ok-number.ensures.zeros c.lend.ensures.whole c.lend.ensures.bytes c.lend.ensures.number

pub returns-clause-buffers : goal.returns-clause-buffers
returns-clause-buffers g c =
    let n = c.in_ok-number.number in
    let some = there_is c.allocate_lending.new.held n c.args.size c.in_ok-number.ensures.zeros (some_size c.args.core.now c.allocate_lending.new.self c.args.app c.args.size n c.allocate_lending.result c.in_ok-number.was c.allocate_lending.ensures.does c.allocate_lending.ensures.spent) in
    let it = some_block (buffer_at c.allocate_lending.new.held n) some in
    let last : c.len-place.result ≡ length c.self.inside.seats.items = search rules in
    let added = c.lend.ensures.seats it.0 it.1 ∙ ap (λ (i : ℕ). insert c.self.inside.seats.items i (seat_of it.0)) last ∙ insert_end c.self.inside.seats.items (seat_of it.0) in
    let fresh = ap (λ (b : Holding LentBytes). buffer_at b n) c.self.view_is ∙ ap (buffer_at c.args.self.now) c.in_ok-number.ensures.number ∙ c.requires.fresh in
    λ other apart. others_lent c.self.inside.held c.allocate_lending.new.held c.lend.new.held c.self.inside.seats.items c.lend.new.seats.items c.self.inside.room c.args.size n it.0 c.lend.result added it.1 fresh c.in_ok-number.ensures.zeros c.lend.ensures.whole c.lend.ensures.bytes other apart ∙ ap (λ (b : Holding LentBytes). buffer_at b other) c.self.view_is

pub returns-clause-bag : goal.returns-clause-bag
returns-clause-bag g c =
    let n = c.in_ok-number.number in
    let some = there_is c.allocate_lending.new.held n c.args.size c.in_ok-number.ensures.zeros (some_size c.args.core.now c.allocate_lending.new.self c.args.app c.args.size n c.allocate_lending.result c.in_ok-number.was c.allocate_lending.ensures.does c.allocate_lending.ensures.spent) in
    let it = some_block (buffer_at c.allocate_lending.new.held n) some in
    let last : c.len-place.result ≡ length c.self.inside.seats.items = search rules in
    let added = c.lend.ensures.seats it.0 it.1 ∙ ap (λ (i : ℕ). insert c.self.inside.seats.items i (seat_of it.0)) last ∙ insert_end c.self.inside.seats.items (seat_of it.0) in
    subst (λ (more : List Unsent). HasBag c.allocate_lending.new.self c.args.app (seen c.lend.new.held more c.self.inside.room)) (sym added)
    (has_lent c.args.core.now c.allocate_lending.new.self c.args.app n c.args.size c.self.inside.held c.allocate_lending.new.held c.lend.new.held c.self.inside.seats.items c.self.inside.room it.0 c.self.invariant.0 c.allocate_lending.ensures.count it.1 c.lend.ensures.held
    c.allocate_lending.ensures.bag (subst (HasBag c.args.core.now c.args.app) (sym c.self.view_is) c.requires.bag))
