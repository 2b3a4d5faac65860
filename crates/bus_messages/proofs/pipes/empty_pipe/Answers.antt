-- Each round receives the message that waits longest, and the last round lets the last one go.
use Rattle.std.proofs.Common.{ap, sym, ◌∙◌, arith}
use Rattle.lend_block.specs.Loan.{LentBytes}
use Rattle.buf_desc.specs.Held.{Holding}
use Rattle.bus_messages.proofs.EmptyPipes.{round_others, round_same, round_account, round_owns, round_fewer, round_waits, round_last}
use Rattle.bus_messages.proofs.pipes.empty_pipe.Goals as goal

pub loop-smaller : goal.loop-smaller
loop-smaller g c =
    let fewer = round_fewer c.args.store.now c.loop.store c.receive.new.self c.args.pipe c.receive.ensures.after c.in-Some.field-0 (sym c.receive.ensures.number ∙ c.in-Some.is) in
    omega (arith, fewer)

pub loop-preserved : goal.loop-preserved
loop-preserved g c =
    let first = c.args.store.now in
    let before = c.loop.store in
    let after = c.receive.new.self in
    let was = c.loop.invariant in
    let fewer = round_fewer first before after c.args.pipe c.receive.ensures.after c.in-Some.field-0 (sym c.receive.ensures.number ∙ c.in-Some.is) in
    record {
      others = round_others first before after c.args.pipe c.receive.ensures.after was.others;
      same = round_same first before after c.args.pipe c.receive.ensures.after was.same;
      account = round_account first before after c.args.pipe c.receive.ensures.after was.account;
      loans = λ other apart. c.receive.ensures.loans other apart ∙ was.loans other apart;
      own = round_owns first before after c.args.pipe c.receive.ensures.after c.args.app was.own;
      bag = c.receive.ensures.bag;
      other_bags = λ other bag apart holds. c.receive.ensures.other_bags other bag apart (was.other_bags other bag apart holds);
      buffers = c.receive.ensures.buffers ∙ ap (λ (h : Holding LentBytes). let v : Holding LentBytes = record h { views = c.receive.new.held.views } in v) was.buffers;
      cost = omega (arith, fewer, c.receive.ensures.cost, was.cost);
    }

pub returns-clause-waits : goal.returns-clause-waits
returns-clause-waits g c = round_waits c.args.store.now c.loop.store c.receive.new.self c.args.pipe c.receive.ensures.after (sym c.receive.ensures.number ∙ c.in_default.is)

pub returns-clause-last : goal.returns-clause-last
returns-clause-last g c = round_last c.args.store.now c.loop.store c.receive.new.self c.args.pipe c.receive.ensures.after (sym c.receive.ensures.number ∙ c.in_default.is)

pub returns-clause-others : goal.returns-clause-others
returns-clause-others g c = round_others c.args.store.now c.loop.store c.receive.new.self c.args.pipe c.receive.ensures.after c.loop.invariant.others

pub returns-clause-same : goal.returns-clause-same
returns-clause-same g c = round_same c.args.store.now c.loop.store c.receive.new.self c.args.pipe c.receive.ensures.after c.loop.invariant.same

pub returns-clause-account : goal.returns-clause-account
returns-clause-account g c = round_account c.args.store.now c.loop.store c.receive.new.self c.args.pipe c.receive.ensures.after c.loop.invariant.account

pub returns-clause-loans : goal.returns-clause-loans
returns-clause-loans g c = λ other apart. c.receive.ensures.loans other apart ∙ c.loop.invariant.loans other apart

pub returns-clause-other_bags : goal.returns-clause-other_bags
returns-clause-other_bags g c = λ other bag apart holds. c.receive.ensures.other_bags other bag apart (c.loop.invariant.other_bags other bag apart holds)

pub returns-clause-buffers : goal.returns-clause-buffers
returns-clause-buffers g c = c.receive.ensures.buffers ∙ ap (λ (h : Holding LentBytes). let v : Holding LentBytes = record h { views = c.receive.new.held.views } in v) c.loop.invariant.buffers
