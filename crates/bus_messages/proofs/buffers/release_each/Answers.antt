-- Each round releases the buffer that the application was given last.
use Rattle.std.proofs.Common.{ap, ◌∙◌, arith}
use Rattle.lend_block.specs.Loan.{LentBytes}
use Rattle.buf_desc.specs.Held.{Holding}
use Rattle.bus_messages.proofs.AllReleases.{round_others, round_places, round_same, round_account, round_had}
use Rattle.bus_messages.proofs.buffers.release_each.Goals as goal

pub loop-preserved : goal.loop-preserved
loop-preserved g c =
    let first = c.args.store.now in
    let before = c.loop.store in
    let after = c.release_newest.new.self in
    let was = c.loop.invariant in
    let is = c.in-Some.ensures.after in
    record {
      others = round_others first before after c.args.app c.in-Some.field-0 is was.others;
      places = round_places first before after c.args.app c.in-Some.field-0 is was.places;
      same = round_same first before after c.args.app c.in-Some.field-0 is was.same;
      account = round_account first before after c.args.app c.in-Some.field-0 is was.account;
      had = λ other none. round_had first before after c.args.app c.in-Some.field-0 is other (was.had other none);
      descs = λ other none. c.release_newest.ensures.descs other (was.had other none) ∙ was.descs other none;
      bag = c.release_newest.ensures.bag;
      other_bags = λ other bag apart holds. c.release_newest.ensures.other_bags other bag apart (was.other_bags other bag apart holds);
      views = c.release_newest.ensures.views ∙ ap (λ (h : Holding LentBytes). let v : Holding LentBytes = record h { buffers = c.release_newest.new.held.buffers } in v) was.views;
      cost = omega (arith, c.in-Some.ensures.fewer, c.release_newest.ensures.cost, was.cost);
    }

pub returns-clause-other_bags : goal.returns-clause-other_bags
returns-clause-other_bags g c = λ other bag apart holds. c.release_newest.ensures.other_bags other bag apart (c.loop.invariant.other_bags other bag apart holds)
