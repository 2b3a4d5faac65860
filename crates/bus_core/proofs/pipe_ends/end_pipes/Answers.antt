-- Each round ends the first of the application's pipes.
use Rattle.std.proofs.Common.{not, eqb, length, filter, find, ap, sym, subst, ◌∙◌, arith}
use Rattle.lend_block.specs.Loan.{LentBytes}
use Rattle.buf_desc.specs.Held.{Holding}
use Rattle.bus_words.specs.Bus.{Pipe, Subscription, owns}
use Rattle.bus_words.specs.Held.{blocks_held}
use Rattle.bus_messages.specs.Store.{Store}
use Rattle.bus_core.proofs.Releases.{AreOwned, AreFewer, first_pipe, no_first, pipes_stay, pipes_fewer, first_owned, owned_after, subs_stay, pipes_left, subs_left, still_alone, still_out, still_fewer}
use Rattle.bus_core.proofs.pipe_ends.end_pipes.Goals as goal

pub loop-pipe-smaller : goal.loop-pipe-smaller
loop-pipe-smaller g c =
    let pipes = c.loop-pipe.store.pipes in
    let one = first_pipe (find (λ r. eqb r.owner c.args.app) pipes) c.in-Some.pipe (sym c.first_of.ensures ∙ c.in-Some.is) in
    omega (arith, ap (λ t. length t.pipes) c.delete_pipe.ensures.after, pipes_fewer pipes c.args.app c.in-Some.pipe one.0 one.1 one.2)

pub loop-pipe-preserved : goal.loop-pipe-preserved
loop-pipe-preserved g c =
    let app = c.args.app in
    let number = c.in-Some.pipe in
    let first = c.args.store.now in
    let before = c.loop-pipe.store in
    let after = c.delete_pipe.new.self in
    let is = c.delete_pipe.ensures.after in
    let was = c.loop-pipe.invariant in
    let one = first_pipe (find (λ r. eqb r.owner app) before.pipes) number (sym c.first_of.ensures ∙ c.in-Some.is) in
    let own = first_owned before.pipes app number one.0 one.1 one.2 in
    let pipes = filter (λ (r : Pipe). not (eqb r.number number)) before.pipes in
    let stay = filter (λ (sub : Subscription). not (eqb sub.pipe number)) before.subscriptions in
    let out = blocks_held before.account.sizes after.pipes before.unsent before.numbers_given in
    record {
      pipes =
          ap (λ t. filter (λ p. not (eqb p.owner app)) t.pipes) is
          ∙ pipes_stay before.pipes app number one.0 one.1 one.2 c.recall_order.ensures
          ∙ was.pipes;
      subscriptions =
          ap (λ t. filter (λ sub. not (owns first.pipes app sub.pipe)) t.subscriptions) is
          ∙ subs_stay first.pipes before.pipes app number before.subscriptions was.owned own
          ∙ was.subscriptions;
      owned =
          subst (λ (t : Store). AreOwned first.pipes t.pipes app t.subscriptions) (sym is)
          (owned_after first.pipes before.pipes app number before.subscriptions was.owned);
      fewer = subst (λ (t : Store). AreFewer first.pipes t.pipes app) (sym is) (still_fewer first.pipes before.pipes app number was.fewer);
      frame = still_alone first before after pipes stay out after.loans is was.frame;
      account = still_out first before after pipes stay out after.loans is was.account;
      loans = λ pipe none. c.delete_pipe.ensures.loans pipe (λ same. absurd (cc (sym none ∙ ap (owns first.pipes app) (sym same) ∙ was.fewer number own))) ∙ was.loans pipe none;
      bag = c.delete_pipe.ensures.bag;
      other_bags = λ other bag apart holds. c.delete_pipe.ensures.other_bags other bag apart (was.other_bags other bag apart holds);
      buffers = c.delete_pipe.ensures.buffers ∙ ap (λ (h : Holding LentBytes). let v : Holding LentBytes = record h { views = c.delete_pipe.new.held.views } in v) was.buffers;
    }

pub returns-clause-after : goal.returns-clause-after
returns-clause-after g c =
    let app = c.args.app in
    let first = c.args.store.now in
    let now = c.loop-pipe.store in
    let none = no_first (find (λ r. eqb r.owner app) now.pipes) (sym c.first_of.ensures ∙ c.in_default.is) in
    c.loop-pipe.invariant.frame
    ∙ ap (λ l. let v : Store = record first { pipes = l; subscriptions = now.subscriptions; account = now.account; loans = now.loans } in v) (sym (pipes_left now.pipes app none) ∙ c.loop-pipe.invariant.pipes)
    ∙ ap (λ l. let v : Store = record first { pipes = filter (λ p. not (eqb p.owner app)) first.pipes; subscriptions = l; account = now.account; loans = now.loans } in v)
    (sym (subs_left now.pipes app none first.pipes now.subscriptions c.loop-pipe.invariant.owned) ∙ c.loop-pipe.invariant.subscriptions)

pub delete_pipe-requires-clause-own : goal.delete_pipe-requires-clause-own
delete_pipe-requires-clause-own g c =
    let pipes = c.loop-pipe.store.pipes in
    let one = first_pipe (find (λ r. eqb r.owner c.args.app) pipes) c.in-Some.pipe (sym c.first_of.ensures ∙ c.in-Some.is) in
    first_owned pipes c.args.app c.in-Some.pipe one.0 one.1 one.2
