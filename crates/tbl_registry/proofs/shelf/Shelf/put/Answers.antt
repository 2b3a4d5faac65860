use Rattle.std.proofs.Common.{◌<◌, Some, ap, ◌∙◌, arith, length, set}
use Rattle.std.proofs.lemmas.List.{length-map}
use Rattle.tbl_registry.specs.Inside.{table_in, lies_at}
use Rattle.tbl_registry.proofs.Shelves.{free_there, fewer, put_shelf, put_kept}
use Rattle.tbl_registry.proofs.shelf.Shelf.put.Goals as goal

pub insert_reserved-at-requires : goal.insert_reserved-at-requires
insert_reserved-at-requires c =
    let s = c.self.inside in
    let within : c.args.key < length s.at.items = omega (arith, c.requires.within, ap length c.self.view_is, length-map s.at.items (lies_at s.slab)) in
    let free = free_there s.slab s.at.items c.args.key c.self.invariant (ap (λ l. table_in l c.args.key) c.self.view_is ∙ c.requires.free) in
    omega (arith, fewer s.at.items c.args.key within free, c.self.invariant.counted, c.self.invariant.room)

pub invariant_of-self : goal.invariant_of-self
invariant_of-self c =
    let s = c.self.inside in
    let within : c.args.key < length s.at.items = omega (arith, c.requires.within, ap length c.self.view_is, length-map s.at.items (lies_at s.slab)) in
    let free = free_there s.slab s.at.items c.args.key c.self.invariant (ap (λ l. table_in l c.args.key) c.self.view_is ∙ c.requires.free) in
    let put = c.insert_reserved-at.ensures in
    put_kept s.slab c.insert_reserved-at.new.self s.at.items c.args.key c.insert_reserved-at.result c.args.entry c.self.invariant within free put.was_vacant put.updates put.len put.capacity

pub returns : goal.returns
returns c =
    let s = c.self.inside in
    let within : c.args.key < length s.at.items = omega (arith, c.requires.within, ap length c.self.view_is, length-map s.at.items (lies_at s.slab)) in
    let free = free_there s.slab s.at.items c.args.key c.self.invariant (ap (λ l. table_in l c.args.key) c.self.view_is ∙ c.requires.free) in
    let put = c.insert_reserved-at.ensures in
    put_shelf s.slab c.insert_reserved-at.new.self s.at.items c.args.key c.insert_reserved-at.result c.args.entry c.self.invariant within free put.was_vacant put.updates put.len put.capacity
    ∙ ap (λ l. set l c.args.key (Some c.args.entry)) c.self.view_is
