use Rattle.std.proofs.Common.{◌∙◌, ◌-◌, ap, sym}
use Rattle.fsw_base.specs.PoolAccounts.{cost_of}
use Rattle.es_pool.proofs.Law.{rest_alike, same_figures}
use Rattle.es_pool.proofs.agreement.shows_alike.Goals as goal

pub returns : goal.returns
returns c =
    let pool = c.args.pool.now in
    let plain = c.args.plain.now in
    let a = c.requires in
    let s = c.stats.ensures in
    let t = c.stats-2.ensures in
    c.eq.ensures ∙ same_figures _ _ _ _ _ _ _ _
    (ap (λ x. x.size) s ∙ (sym a.bytes ∙ sym (ap (λ x. x.size) t)))
    (ap (λ x. x.requests) s ∙ (sym a.requests ∙ sym (ap (λ x. x.requests) t)))
    (ap (λ x. x.errors) s ∙ (sym a.errors ∙ sym (ap (λ x. x.errors) t)))
    (ap (λ x. x.free) s ∙ (sym (ap (λ n. n - cost_of plain.made plain.sizes) a.bytes ∙ ap (λ n. pool.bytes - n) (rest_alike pool plain a)) ∙ sym (ap (λ x. x.free) t)))
