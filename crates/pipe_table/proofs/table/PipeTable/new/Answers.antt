use Rattle.std.proofs.Common.{ℕ, List, [], None, length, ap, sym, subst, arith}
use Rattle.std.specs.List.{range_with_len}
use Rattle.std.proofs.lemmas.List.{length-replicate}
use Rattle.pipe_table.specs.Inside.{PlaceState, AreKept}
use Rattle.pipe_table.proofs.Searches.{kept_opening}
use Rattle.pipe_table.proofs.table.PipeTable.new.Goals as goal

pub invariant_of-result : goal.invariant_of-result
invariant_of-result c =
    let places = c.in_ok-free_places.field-0.items in
    let free = c.in_ok-all_places.field-0.items in
    let all = ap length c.in_ok-free_places.ensures in
    let many = length-replicate {A = PlaceState} c.args.pipes (record { pipe = None; room = c.args.depth }) in
    let one = subst (λ l. AreKept c.args.depth l [] [] (range_with_len 0 c.args.pipes) 0) (sym c.in_ok-free_places.ensures) (kept_opening c.args.depth c.args.pipes) in
    let two = subst (λ l. AreKept c.args.depth places [] [] l 0) (sym c.in_ok-all_places.ensures.items) one in
    let three = subst (λ (l : List ℕ). AreKept c.args.depth places l [] free 0) (sym c.in_ok-with_capacity.ensures.items) two in (
      subst (λ (l : List ℕ). AreKept c.args.depth places c.in_ok-with_capacity.field-0.items l free 0) (sym c.in_ok-with_capacity-2.ensures.items) three,
      omega (arith, all, many, c.in_ok-all_places.ensures.room),
      omega (arith, all, many, c.in_ok-with_capacity.ensures.capacity),
      omega (arith, all, many, c.in_ok-with_capacity-2.ensures.capacity),
    )
