use Rattle.std.proofs.Common.{◌+◌, ◌-◌, ◌∙◌, sym, arith}
use Rattle.routing.proofs.Walk.{walk_start, walk_node, walk_found, walk_on, walk_end}
use Rattle.routing.proofs.dests.find_before.Goals as goal

pub loop-init : goal.loop-init
loop-init g c = record { at = walk_start c.args.links.now c.args.subs.now c.args.sub c.args.anchor c.args.len (c.args.len - 0) (omega arith) c.requires.within c.requires.anchor; cost = omega arith }

pub bounds-subs-node : goal.bounds-subs-node
bounds-subs-node g c =
    walk_node c.args.links.now c.args.subs.now c.args.sub c.args.anchor c.args.len c.loop.before (c.args.len - c.loop.counter) c.read-node.result c.loop.invariant.at (omega (arith, c.loop-test.true)) c.read-node.ensures.value

pub returns-then-eq-clause-before : goal.returns-then-eq-clause-before
returns-then-eq-clause-before g c =
    walk_found c.args.links.now c.args.subs.now c.args.sub c.args.anchor c.args.len c.loop.before (c.args.len - c.loop.counter) c.read-node.result c.loop.invariant.at (omega (arith, c.loop-test.true)) c.read-node.ensures.value (sym c.eq.ensures ∙ c.if-eq.true)

pub loop-preserved : goal.loop-preserved
loop-preserved g c =
    record {
      at = walk_on c.args.links.now c.args.subs.now c.args.sub c.args.anchor c.args.len c.loop.before (c.args.len - c.loop.counter) c.read-node.result c.loop.invariant.at (omega (arith, c.loop-test.true)) c.read-node.ensures.value (c.args.len - (c.loop.counter + 1)) (omega arith) (sym c.eq.ensures ∙ c.if-eq.false) c.requires.nodes;
      cost = omega (arith, c.loop.invariant.cost, c.read-node.ensures.cost);
    }

pub returns-clause-before : goal.returns-clause-before
returns-clause-before g c =
    walk_end c.args.links.now c.args.subs.now c.args.sub c.args.anchor c.args.len c.loop.before (c.args.len - c.loop.counter) c.loop.invariant.at (omega arith)
