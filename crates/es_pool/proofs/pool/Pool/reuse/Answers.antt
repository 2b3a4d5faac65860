use Rattle.std.proofs.Common.{◌≡◌, ℕ, ◌+◌, ◌<◌, ◌∙◌, true, false, List, length, get_or, set, refl, sym, subst, ap, arith}
use Rattle.std.proofs.lemmas.List.{get_or_default, get_or_read}
use Rattle.es_pool.specs.Pool.{PoolState, Draws, Reuses, out_among}
use Rattle.es_pool.specs.Inside.{state_of}
use Rattle.es_pool.specs.declared.blocks.CutBlock.{CutBlock}
use Rattle.es_pool.proofs.Totals.{block}
use Rattle.es_pool.proofs.Keeps.{reused_read, kept_at}
use Rattle.es_pool.proofs.Places.{offsets_set}
use Rattle.es_pool.proofs.pool.Pool.reuse.Goals as goal

pub overflow_add-self : goal.overflow_add-self
overflow_add-self g c =
    let s = c.self.inside in
    let h : c.args.class < length s.sizes = omega (arith, c.requires.class, ap (λ v. length v.sizes) c.self.view_is) in
    let done = reused_read (state_of s) s.rest s.in_use s.made.items s.free c.pop.new.self s.blocks.cap c.args.class c.in-Some.block c.at.result 0 c.self.invariant.kept h c.in-Some.ensures.front c.in-Some.ensures.after c.at.ensures in
    omega (arith, done.fits)

pub invariant_of-self : goal.invariant_of-self
invariant_of-self g c =
    let s = c.self.inside in
    let h : c.args.class < length s.sizes = omega (arith, c.requires.class, ap (λ v. length v.sizes) c.self.view_is) in
    let done = reused_read (state_of s) s.rest s.in_use s.made.items s.free c.pop.new.self s.blocks.cap c.args.class c.in-Some.block c.at.result c.saturating_add-self-inside.result c.self.invariant.kept h c.in-Some.ensures.front c.in-Some.ensures.after c.at.ensures in
    let b = c.index_mut.result.now in
    let same : b.class ≡ c.args.class = ap (λ (x : CutBlock). x.class) (get_or_read s.blocks.items c.in-Some.block b done.within c.index_mut.ensures.value (block c.args.class true) ∙ done.was_free) in
    let blocks : ℕ → List CutBlock = λ i. set s.blocks.items c.in-Some.block (block i true) in
    let to : ℕ → PoolState = λ i. record (state_of s) { blocks = blocks i; requests = c.saturating_add-self-inside.result } in
    record {
      kept = kept_at (to c.args.class) (to b.class) s.rest (s.in_use + c.at.result) s.made.items c.pop.new.self c.pop.new.self s.blocks.cap s.blocks.cap (ap to same) refl refl done.kept;
      out = ap (λ (n : ℕ). n + 1) c.self.invariant.out ∙ (sym done.out ∙ sym (ap (λ i. out_among (blocks i)) same));
      recent = h;
      offsets = offsets_set (state_of s) s.offsets.items c.in-Some.block b.class c.saturating_add-self-inside.result true (sym (ap (λ (x : CutBlock). x.class) (get_or_read s.blocks.items c.in-Some.block b done.within c.index_mut.ensures.value (block 0 true)))) c.self.invariant.offsets;
      room = c.self.invariant.room;
    }

pub returns-clause-drawn : goal.returns-clause-drawn
returns-clause-drawn g c =
    let s = c.self.inside in
    let k = c.args.class in
    let n = c.in-Some.block in
    let h : k < length s.sizes = omega (arith, c.requires.class, ap (λ v. length v.sizes) c.self.view_is) in
    let done = reused_read (state_of s) s.rest s.in_use s.made.items s.free c.pop.new.self s.blocks.cap k n c.at.result c.saturating_add-self-inside.result c.self.invariant.kept h c.in-Some.ensures.front c.in-Some.ensures.after c.at.ensures in
    let b = c.index_mut.result.now in
    let same : b.class ≡ k = ap (λ (x : CutBlock). x.class) (get_or_read s.blocks.items n b done.within c.index_mut.ensures.value (block k true) ∙ done.was_free) in
    let to : ℕ → ℕ → PoolState = λ i requests. record (state_of s) { blocks = set s.blocks.items n (block i true); requests = requests } in
    subst (λ (v : PoolState). Draws v (to b.class c.saturating_add-self-inside.result) k n) c.self.view_is
    (Reuses done.within done.was_free (ap (λ i. to i c.saturating_add-self-inside.result) same ∙ ap (to k) c.saturating_add-self-inside.ensures))

pub returns-clause-was_not_out : goal.returns-clause-was_not_out
returns-clause-was_not_out g c =
    let s = c.self.inside in
    let k = c.args.class in
    let n = c.in-Some.block in
    let h : k < length s.sizes = omega (arith, c.requires.class, ap (λ v. length v.sizes) c.self.view_is) in
    let done = reused_read (state_of s) s.rest s.in_use s.made.items s.free c.pop.new.self s.blocks.cap k n c.at.result 0 c.self.invariant.kept h c.in-Some.ensures.front c.in-Some.ensures.after c.at.ensures in
    ap (λ (v : PoolState). (get_or v.blocks n (block 0 false)).out) (sym c.self.view_is)
    ∙ (ap (λ (b : CutBlock). b.out) (get_or_default s.blocks.items n (block 0 false) (block k true) done.within ∙ done.was_free))

pub overflow_add-self-in-Some : goal.overflow_add-self-in-Some
overflow_add-self-in-Some g c =
    let s = c.self.inside in
    let k = c.args.class in
    let n = c.in-Some.block in
    let h : k < length s.sizes = omega (arith, c.requires.class, ap (λ v. length v.sizes) c.self.view_is) in
    let done = reused_read (state_of s) s.rest s.in_use s.made.items s.free c.pop.new.self s.blocks.cap k n c.at.result 0 c.self.invariant.kept h c.in-Some.ensures.front c.in-Some.ensures.after c.at.ensures in
    omega (arith, done.out_fits, c.self.invariant.out)

pub returns-clause-was_cut : goal.returns-clause-was_cut
returns-clause-was_cut g c =
    let s = c.self.inside in
    let k = c.args.class in
    let n = c.in-Some.block in
    let h : k < length s.sizes = omega (arith, c.requires.class, ap (λ v. length v.sizes) c.self.view_is) in
    let done = reused_read (state_of s) s.rest s.in_use s.made.items s.free c.pop.new.self s.blocks.cap k n c.at.result 0 c.self.invariant.kept h c.in-Some.ensures.front c.in-Some.ensures.after c.at.ensures in
    subst (λ (v : PoolState). n < length v.blocks) c.self.view_is done.within
