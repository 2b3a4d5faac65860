use Rattle.std.proofs.Common.{◌-◌, ◌<◌, ◌≤◌, length, get_or, IsTrue, subst, arith}
use Rattle.std.proofs.lemmas.Bool.Decides.{nat_tests}
use Rattle.es_pool.specs.Pool.{PoolState, fits}
use Rattle.es_pool.specs.Inside.{state_of}
use Rattle.es_pool.proofs.SureFits.{fits_surely}
use Rattle.es_pool.proofs.pool.Pool.fits_surely.Goals as goal

pub returns-then-size-at : goal.returns-then-size-at
returns-then-size-at c told =
    let s = c.self.inside in
    let kept = c.self.invariant.kept in
    let large : c.args.size ≤ get_or s.sizes s.recent 0 = omega (arith, c.at.ensures) in
    let room : 80016 ≤ s.rest = omega arith in
    subst (λ (v : PoolState). IsTrue (fits v c.args.size 1)) c.self.view_is
    (fits_surely (state_of s) c.args.size s.rest s.recent kept.sizes_fit c.self.invariant.recent large room kept.adds_up)

pub returns : goal.returns
returns c enough =
    let s = c.self.inside in
    let kept = c.self.invariant.kept in
    let last = c.count-last.result - 1 in
    let within : last < length s.sizes = omega (arith, c.count-last.ensures.count, c.count-last.ensures.some) in
    let held : c.args.size ≤ c.at-2.result = grind (arith, nat_tests) in
    let large : c.args.size ≤ get_or s.sizes last 0 = omega (arith, held, c.at-2.ensures) in
    let room : 80016 ≤ s.rest = omega arith in
    subst (λ (v : PoolState). IsTrue (fits v c.args.size 1)) c.self.view_is
    (fits_surely (state_of s) c.args.size s.rest last kept.sizes_fit within large room kept.adds_up)
