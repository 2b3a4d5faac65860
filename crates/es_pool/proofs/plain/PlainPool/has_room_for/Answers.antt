use Rattle.std.proofs.Common.{◌<◌, ◌≤◌, length, ap, arith}
use Rattle.std.proofs.lemmas.List.{get_or_read}
use Rattle.es_pool.specs.Inside.{account_of}
use Rattle.es_pool.proofs.Accounts.{out_few, at_most_once}
use Rattle.es_pool.proofs.Sizes.{size_small}
use Rattle.es_pool.proofs.plain.PlainPool.has_room_for.Goals as goal

pub overflow_add-index : goal.overflow_add-index
overflow_add-index c =
    let s = c.self.inside in
    let k = c.args.class in
    let h : k < length s.sizes = omega (arith, c.requires, ap (λ v. length v.sizes) c.self.view_is) in
    omega (arith, out_few (account_of s) k c.self.invariant h, get_or_read s.out.items k c.index.result.now (omega (arith, h, c.self.invariant.out_all)) c.index.ensures 0)

pub overflow_add-at : goal.overflow_add-at
overflow_add-at c =
    let s = c.self.inside in
    omega (arith, size_small s.sizes c.args.class c.self.invariant.sizes_fit (omega (arith, c.requires, ap (λ v. length v.sizes) c.self.view_is)))

pub overflow_mul-cost : goal.overflow_mul-cost
overflow_mul-cost c =
    let s = c.self.inside in
    let k = c.args.class in
    let h : k < length s.sizes = omega (arith, c.requires, ap (λ v. length v.sizes) c.self.view_is) in
    let small = size_small s.sizes k c.self.invariant.sizes_fit h in
    let one : c.saturating_sub-missing.result ≤ 1 = omega (
      arith,
      c.self.invariant.most k h,
      get_or_read s.out.items k c.index.result.now (omega (arith, h, c.self.invariant.out_all)) c.index.ensures 0,
      get_or_read s.made.items k c.index-2.result.now (omega (arith, h, c.self.invariant.made_all)) c.index-2.ensures 0,
    ) in
    let once = at_most_once c.from.result c.from-2.result c.saturating_sub-missing.result c.from-2.ensures one in
    omega (arith, once, small)

pub cost_of-requires-clause-fits : goal.cost_of-requires-clause-fits
cost_of-requires-clause-fits c = omega (arith, c.self.invariant.paid)

pub overflow_add-result : goal.overflow_add-result
overflow_add-result c =
    let s = c.self.inside in
    let k = c.args.class in
    let h : k < length s.sizes = omega (arith, c.requires, ap (λ v. length v.sizes) c.self.view_is) in
    let small = size_small s.sizes k c.self.invariant.sizes_fit h in
    let one : c.saturating_sub-missing.result ≤ 1 = omega (
      arith,
      c.self.invariant.most k h,
      get_or_read s.out.items k c.index.result.now (omega (arith, h, c.self.invariant.out_all)) c.index.ensures 0,
      get_or_read s.made.items k c.index-2.result.now (omega (arith, h, c.self.invariant.made_all)) c.index-2.ensures 0,
    ) in
    let once = at_most_once c.from.result c.from-2.result c.saturating_sub-missing.result c.from-2.ensures one in
    omega (arith, once, small)
