use Rattle.std.proofs.Common.{◌∙◌, ap, replicate}
use Rattle.es_pool.proofs.Accounts.{balanced_new}
use Rattle.es_pool.proofs.plain.PlainPool.new.Goals as goal

pub invariant_of-result : goal.invariant_of-result
invariant_of-result c =
    balanced_new c.args.bytes 0 0 c.args.sizes c.in_ok-made.made.items c.in_ok-out.out.items c.count-classes.ensures.rising
    (c.in_ok-made.ensures ∙ ap (λ n. replicate n 0) c.count-classes.ensures.count) (c.in_ok-out.ensures ∙ ap (λ n. replicate n 0) c.count-classes.ensures.count)
