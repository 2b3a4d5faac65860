use Rattle.std.proofs.Common.{◌≡◌, ℕ, ◌-◌, ◌<◌, ◌≤◌, suc, length, get_or, Some, subst, ap, arith}
use Rattle.std.proofs.lemmas.Bool.Decides.{nat_tests}
use Rattle.fsw_base.specs.Blocks.{class_of}
use Rattle.es_pool.specs.Pool.{PoolState}
use Rattle.es_pool.proofs.ClassChoice.{class_is}
use Rattle.es_pool.proofs.pool.Pool.is_class_for.Goals as goal

pub returns-else-class-eq0 : goal.returns-else-class-eq0
returns-else-class-eq0 c larger =
    let s = c.self.inside in
    let class = c.args.class in
    let within : class < length s.sizes = omega (arith, c.requires, ap (λ v. length v.sizes) c.self.view_is) in
    let large : c.args.size ≤ get_or s.sizes class 0 = omega (arith, c.at.ensures) in
    let above : c.at-else-class-eq0.result < c.args.size = grind (arith, nat_tests) in
    let before : (n : ℕ) → class ≡ suc n → get_or s.sizes n 0 < c.args.size =
    λ n is.
    let same : get_or s.sizes (class - 1) 0 ≡ get_or s.sizes n 0 = ap (λ k. get_or s.sizes k 0) (omega (arith, is)) in
    omega (arith, above, c.at-else-class-eq0.ensures, same) in
    subst (λ (v : PoolState). class_of c.args.size v.sizes ≡ Some class) c.self.view_is
    (class_is s.sizes c.args.size class c.self.invariant.kept.sizes_fit within large before)
