use Rattle.std.proofs.Common.{◌+◌, List, drop, get_or, ap, sym, ◌∙◌, subst, arith}
use Rattle.std.proofs.lemmas.List.{at_drop_more}
use Rattle.bus_routes.specs.declared.tables.ItemRow.{ItemRow}
use Rattle.bus_messages.specs.Inside.{AreLoose, all_dropped}
use Rattle.bus_messages.proofs.Drops.{first_sealed, first_used, first_back, rest_loose}
use Rattle.bus_messages.proofs.blocks.drop_uses.Goals as goal

pub drop_use-requires-clause-sealed : goal.drop_use-requires-clause-sealed
drop_use-requires-clause-sealed g c =
    let l = c.loop-oldest in
    let none : ItemRow = record { number = 0; desc = 0; subscription = 0 } in
    let left = at_drop_more (λ (m : List ItemRow). m) c.args.items.now l.oldest-index none c.loop-oldest-test.true in
    first_sealed l.desk (get_or c.args.items.now l.oldest-index none) (drop (l.oldest-index + 1) c.args.items.now) (subst (AreLoose l.desk) left l.invariant.loose)

pub drop_use-requires-clause-some : goal.drop_use-requires-clause-some
drop_use-requires-clause-some g c =
    let l = c.loop-oldest in
    let none : ItemRow = record { number = 0; desc = 0; subscription = 0 } in
    let left = at_drop_more (λ (m : List ItemRow). m) c.args.items.now l.oldest-index none c.loop-oldest-test.true in
    first_used l.desk (get_or c.args.items.now l.oldest-index none) (drop (l.oldest-index + 1) c.args.items.now) (subst (AreLoose l.desk) left l.invariant.loose)

pub drop_use-requires-clause-all_back : goal.drop_use-requires-clause-all_back
drop_use-requires-clause-all_back g c =
    let l = c.loop-oldest in
    let none : ItemRow = record { number = 0; desc = 0; subscription = 0 } in
    let left = at_drop_more (λ (m : List ItemRow). m) c.args.items.now l.oldest-index none c.loop-oldest-test.true in
    first_back l.desk (get_or c.args.items.now l.oldest-index none) (drop (l.oldest-index + 1) c.args.items.now) (subst (AreLoose l.desk) left l.invariant.loose)

pub loop-oldest-preserved : goal.loop-oldest-preserved
loop-oldest-preserved g c =
    let l = c.loop-oldest in
    let none : ItemRow = record { number = 0; desc = 0; subscription = 0 } in
    let x = get_or c.args.items.now l.oldest-index none in
    let rest = drop (l.oldest-index + 1) c.args.items.now in
    let left = at_drop_more (λ (m : List ItemRow). m) c.args.items.now l.oldest-index none c.loop-oldest-test.true in
    record {
      left = ap (λ b. all_dropped b rest) c.drop_use.ensures.after ∙ sym (ap (all_dropped l.desk) left) ∙ l.invariant.left;
      loose = subst (λ b. AreLoose b rest) (sym c.drop_use.ensures.after) (rest_loose l.desk x rest (subst (AreLoose l.desk) left l.invariant.loose));
      cost = omega (arith, l.invariant.cost, c.drop_use.ensures.cost);
    }
