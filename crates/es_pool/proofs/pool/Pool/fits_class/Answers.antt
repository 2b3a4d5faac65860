use Rattle.std.proofs.Common.{◌+◌, ◌<◌, ◌≤◌, ◌∙◌, length, get_or, ap, sym, arith}
use Rattle.fsw_base.specs.PoolAccounts.{overhead}
use Rattle.es_pool.specs.Pool.{fits_class, used_by, out_in, free_in, made_in}
use Rattle.es_pool.proofs.Sizes.{size_small, product_small, fits_free, fits_read}
use Rattle.es_pool.proofs.Totals.{made-split}
use Rattle.es_pool.proofs.pool.Pool.fits_class.Goals as goal

pub returns-then-count-free : goal.returns-then-count-free
returns-then-count-free c =
    let s = c.self.inside in
    let kept = c.self.invariant.kept in
    let k = c.args.class in
    let within : k < length s.sizes = omega (arith, c.requires, ap (λ v. length v.sizes) c.self.view_is) in
    let enough : c.args.count ≤ free_in s.blocks.items k = omega (arith, kept.counted k within) in
    sym
    (fits_free (used_by s.sizes s.blocks.items) s.rest s.bytes (get_or s.sizes k 0 + overhead) (out_in s.blocks.items k) (free_in s.blocks.items k) (made_in s.blocks.items k) c.args.count
    kept.adds_up (made-split s.blocks.items k) enough)
    ∙ ap (λ v. fits_class v k c.args.count) c.self.view_is

pub overflow_add-cost : goal.overflow_add-cost
overflow_add-cost c =
    let s = c.self.inside in
    let kept = c.self.invariant.kept in
    omega (arith, size_small s.sizes c.args.class kept.sizes_fit (omega (arith, c.requires, ap (λ v. length v.sizes) c.self.view_is)))

pub overflow_mul-result : goal.overflow_mul-result
overflow_mul-result c =
    let s = c.self.inside in
    let kept = c.self.invariant.kept in
    let small = size_small s.sizes c.args.class kept.sizes_fit (omega (arith, c.requires, ap (λ v. length v.sizes) c.self.view_is)) in
    let product = product_small c.from.result c.from-2.result (omega (arith, small)) (omega arith) in
    omega (arith, product)

pub returns : goal.returns
returns c =
    let s = c.self.inside in
    let kept = c.self.invariant.kept in
    let k = c.args.class in
    let within : k < length s.sizes = omega (arith, c.requires, ap (λ v. length v.sizes) c.self.view_is) in
    fits_read c.from.result c.from-2.result c.from-3.result (used_by s.sizes s.blocks.items) s.rest s.bytes (get_or s.sizes k 0 + overhead)
    (out_in s.blocks.items k) (free_in s.blocks.items k) (made_in s.blocks.items k) c.args.count
    (omega arith) (omega (arith, kept.counted k within)) c.from-3.ensures kept.adds_up (made-split s.blocks.items k)
    ∙ ap (λ v. fits_class v k c.args.count) c.self.view_is
