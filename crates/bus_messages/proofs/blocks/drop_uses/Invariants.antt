use Rattle.std.proofs.Common.{◌≡◌, ◌+◌, ◌*◌, ◌≤◌, drop}
use Rattle.bus_messages.specs.Inside.{AreLoose, all_dropped}
use Rattle.bus_messages.proofs.blocks.drop_uses.Given as goal

-- what is left comes to what the whole does, and has its uses still
abbrev pub invariant-loop-oldest : goal.invariant-loop-oldest
invariant-loop-oldest g l = record {
  left : all_dropped l.desk (drop l.oldest-index l.items) ≡ all_dropped l.fn.desk l.items;
  loose : AreLoose l.desk (drop l.oldest-index l.items);
  cost : l.steps ≤ l.fn.steps + 8 * l.oldest-index;
}
