-- Each round ends one subscription of the pipe.
use Rattle.std.proofs.Common.{◌≡◌, not, eqb, length, filter, Bool, Some, option_map, ap, sym, ◌∙◌, arith}
use Rattle.std.proofs.lemmas.Bool.{eq-eqb}
use Rattle.subscriptions.specs.Subs.{LiveSubscription, Subscribed, live_at, without}
use Rattle.bus_routes.proofs.EndingsLists.{not_none}
use Rattle.bus_routes.proofs.Endings.{of_pipe, stays_without, fewer_without, none_of_pipe, same_frame, same_routing}
use Rattle.bus_routes.proofs.ending.end_of_pipe.Goals as goal

pub loop-sub-smaller : goal.loop-sub-smaller
loop-sub-smaller g c =
    let subs = c.loop-sub.subs in
    let own : option_map (λ s. s.pipe) (live_at subs c.in-Some.sub) ≡ Some c.args.pipe = c.in-Some.ensures.own in
    let one = of_pipe (live_at subs c.in-Some.sub) c.args.pipe own in
    omega (arith, ap (λ s. length s.live) c.end_subscription.ensures.after, fewer_without subs.live c.in-Some.sub one.0 one.1)

pub loop-sub-preserved : goal.loop-sub-preserved
loop-sub-preserved g c =
    let subs = c.loop-sub.subs in
    let own : option_map (λ s. s.pipe) (live_at subs c.in-Some.sub) ≡ Some c.args.pipe = c.in-Some.ensures.own in
    let one = of_pipe (live_at subs c.in-Some.sub) c.args.pipe own in
    let stays : LiveSubscription → Bool = λ s. not (eqb s.pipe c.args.pipe) in
    record {
      routed = c.end_subscription.ensures.routed;
      stays =
          ap (λ s. filter stays s.live) c.end_subscription.ensures.after
          ∙ stays_without subs.live c.in-Some.sub one.0 stays c.recall_order.ensures.rising one.1 (ap not (eq-eqb one.0.pipe c.args.pipe one.2))
          ∙ c.loop-sub.invariant.stays;
      frame = same_frame c.args.subs.now subs c.end_subscription.new.subs (without subs c.in-Some.sub).live c.end_subscription.ensures.after c.loop-sub.invariant.frame;
      same = same_routing c.args.routes.now c.loop-sub.routes c.end_subscription.new.routes c.end_subscription.ensures.same c.loop-sub.invariant.same;
      ways = c.end_subscription.ensures.ways ∙ c.loop-sub.invariant.ways;
    }

pub returns-clause-after : goal.returns-clause-after
returns-clause-after g c =
    let subs = c.loop-sub.subs in
    let none = none_of_pipe subs.live c.args.pipe
    (λ any. not_none c.any_of_pipe.result (c.any_of_pipe.ensures.some.1 any) c.in_default.is) in
    c.loop-sub.invariant.frame ∙ ap (λ l. let v : Subscribed = record c.args.subs.now { live = l } in v) (sym none ∙ c.loop-sub.invariant.stays)
