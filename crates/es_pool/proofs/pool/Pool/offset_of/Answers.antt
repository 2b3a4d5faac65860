use Rattle.std.proofs.Common.{◌+◌, ◌<◌, ◌≤◌, length, ap, ◌∙◌, subst, arith}
use Rattle.std.proofs.lemmas.List.{get_or_read}
use Rattle.es_pool.specs.Inside.{state_of}
use Rattle.es_pool.specs.Places.{offset_at}
use Rattle.es_pool.specs.Pool.{PoolState, size_at}
use Rattle.es_pool.proofs.Places.{place_within}
use Rattle.es_pool.proofs.pool.Pool.offset_of.Goals as goal

pub index-requires : goal.index-requires
index-requires c =
    let s = c.self.inside in
    omega (arith, c.requires, ap (λ (v : PoolState). length v.blocks) c.self.view_is, c.self.invariant.offsets.many, s.offsets.ok)

pub returns-clause-offset : goal.returns-clause-offset
returns-clause-offset c =
    let s = c.self.inside in
    let n = c.args.block in
    let within : n < length s.blocks.items = omega (arith, c.requires, ap (λ (v : PoolState). length v.blocks) c.self.view_is) in
    get_or_read s.offsets.items n c.index.result.now (omega (arith, within, c.self.invariant.offsets.many)) c.index.ensures 0
    ∙ c.self.invariant.offsets.each n within
    ∙ ap (λ (v : PoolState). offset_at v n) c.self.view_is

pub returns-clause-behind : goal.returns-clause-behind
returns-clause-behind c =
    let s = c.self.inside in
    let n = c.args.block in
    let within : n < length s.blocks.items = omega (arith, c.requires, ap (λ (v : PoolState). length v.blocks) c.self.view_is) in
    let at = get_or_read s.offsets.items n c.index.result.now (omega (arith, within, c.self.invariant.offsets.many)) c.index.ensures 0 ∙ c.self.invariant.offsets.each n within in
    omega (arith, at)

pub returns-clause-within : goal.returns-clause-within
returns-clause-within c =
    let s = c.self.inside in
    let n = c.args.block in
    let within : n < length s.blocks.items = omega (arith, c.requires, ap (λ (v : PoolState). length v.blocks) c.self.view_is) in
    let at = get_or_read s.offsets.items n c.index.result.now (omega (arith, within, c.self.invariant.offsets.many)) c.index.ensures 0 ∙ c.self.invariant.offsets.each n within in
    let here = place_within (state_of s) n s.rest c.self.invariant.kept.adds_up within in
    subst (λ (v : PoolState). c.index.result.now + size_at v n ≤ v.bytes) c.self.view_is (omega (arith, at, here))
