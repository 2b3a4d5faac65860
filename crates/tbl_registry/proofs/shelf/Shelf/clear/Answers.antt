use Rattle.std.proofs.Common.{◌≡◌, ◌<◌, Some, None, sym, ap, ◌∙◌, arith, length, get_or, set}
use Rattle.std.proofs.lemmas.List.{length-map, get_or_default}
use Rattle.tbl_registry.specs.Inside.{lies_at}
use Rattle.tbl_registry.proofs.Shelves.{cleared_shelf, cleared_kept, same_shelf}
use Rattle.tbl_registry.proofs.shelf.Shelf.clear.Goals as goal

pub index-requires : goal.index-requires
index-requires c =
    let s = c.self.inside in
    omega (arith, c.requires, ap length c.self.view_is, length-map s.at.items (lies_at s.slab), s.at.ok.0)

pub remove-requires : goal.remove-requires
remove-requires c =
    let s = c.self.inside in
    let within : c.args.key < length s.at.items = omega (arith, c.requires, ap length c.self.view_is, length-map s.at.items (lies_at s.slab)) in
    let has : get_or s.at.items c.args.key None ≡ Some c.in-Some.at = get_or_default s.at.items c.args.key None c.index.result.now within ∙ sym c.index.ensures ∙ c.in-Some.is in
    c.self.invariant.there c.args.key c.in-Some.at has

pub invariant_of-self : goal.invariant_of-self
invariant_of-self c =
    let s = c.self.inside in
    let within : c.args.key < length s.at.items = omega (arith, c.requires, ap length c.self.view_is, length-map s.at.items (lies_at s.slab)) in
    let has : get_or s.at.items c.args.key None ≡ Some c.in-Some.at = get_or_default s.at.items c.args.key None c.index.result.now within ∙ sym c.index.ensures ∙ c.in-Some.is in
    let out = c.remove.ensures in
    cleared_kept s.slab c.remove.new.self s.at.items c.args.key c.in-Some.at c.self.invariant within has out.updates out.len out.capacity

pub returns-in-Some : goal.returns-in-Some
returns-in-Some c =
    let s = c.self.inside in
    let within : c.args.key < length s.at.items = omega (arith, c.requires, ap length c.self.view_is, length-map s.at.items (lies_at s.slab)) in
    let has : get_or s.at.items c.args.key None ≡ Some c.in-Some.at = get_or_default s.at.items c.args.key None c.index.result.now within ∙ sym c.index.ensures ∙ c.in-Some.is in
    let out = c.remove.ensures in
    cleared_shelf s.slab c.remove.new.self s.at.items c.args.key c.in-Some.at c.self.invariant within has out.updates out.len out.capacity
    ∙ ap (λ l. set l c.args.key None) c.self.view_is

pub returns-in_default : goal.returns-in_default
returns-in_default c =
    let s = c.self.inside in
    let within : c.args.key < length s.at.items = omega (arith, c.requires, ap length c.self.view_is, length-map s.at.items (lies_at s.slab)) in
    let has : get_or s.at.items c.args.key None ≡ None = get_or_default s.at.items c.args.key None c.index.result.now within ∙ sym c.index.ensures ∙ c.in_default.is in
    sym c.self.view_is ∙ same_shelf s.slab s.at.items c.args.key within has ∙ ap (λ l. set l c.args.key None) c.self.view_is
