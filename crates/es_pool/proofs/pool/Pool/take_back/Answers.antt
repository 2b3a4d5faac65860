use Rattle.std.proofs.Common.{◌≡◌, ℕ, ◌∙◌, ◌-◌, true, false, List, set, refl, sym, ap, arith}
use Rattle.std.proofs.lemmas.List.{get_or_read}
use Rattle.es_pool.specs.Pool.{PoolState, is_out, out_among}
use Rattle.es_pool.specs.Inside.{state_of}
use Rattle.es_pool.specs.declared.blocks.CutBlock.{CutBlock}
use Rattle.es_pool.proofs.Totals.{block}
use Rattle.es_pool.proofs.Keeps.{back, inside_from_out, kept_at}
use Rattle.es_pool.proofs.Places.{offsets_set}
use Rattle.es_pool.proofs.pool.Pool.take_back.Goals as goal

pub push-requires-clause-loose : goal.push-requires-clause-loose
push-requires-clause-loose g c =
    let s = c.self.inside in
    let n = c.args.block in
    let out : is_out (state_of s) n ≡ true = ap (λ v. is_out v n) c.self.view_is ∙ c.requires in
    let class = c.from-class.ensures ∙ ap (λ (b : CutBlock). b.class) (get_or_read s.blocks.items n c.index.result.now (inside_from_out s.blocks.items n out) c.index.ensures (block 0 true)) in
    let done = back (state_of s) s.rest s.in_use s.made.items s.free s.blocks.cap c.from-class.result n c.at.result c.self.invariant.kept out class c.at.ensures in
    done.loose

pub push-requires-clause-list : goal.push-requires-clause-list
push-requires-clause-list g c =
    let s = c.self.inside in
    let n = c.args.block in
    let out : is_out (state_of s) n ≡ true = ap (λ v. is_out v n) c.self.view_is ∙ c.requires in
    let class = c.from-class.ensures ∙ ap (λ (b : CutBlock). b.class) (get_or_read s.blocks.items n c.index.result.now (inside_from_out s.blocks.items n out) c.index.ensures (block 0 true)) in
    omega (arith, class, c.self.invariant.kept.lists_all, c.self.invariant.kept.classes n (inside_from_out s.blocks.items n out))

pub invariant_of-self : goal.invariant_of-self
invariant_of-self g c =
    let s = c.self.inside in
    let n = c.args.block in
    let out : is_out (state_of s) n ≡ true = ap (λ v. is_out v n) c.self.view_is ∙ c.requires in
    let class = c.from-class.ensures ∙ ap (λ (b : CutBlock). b.class) (get_or_read s.blocks.items n c.index.result.now (inside_from_out s.blocks.items n out) c.index.ensures (block 0 true)) in
    let done = back (state_of s) s.rest s.in_use s.made.items s.free s.blocks.cap c.from-class.result n c.at.result c.self.invariant.kept out class c.at.ensures in
    let b = c.index_mut.result.now in
    let same : b.class ≡ c.from-class.result = ap (λ (x : CutBlock). x.class) (get_or_read s.blocks.items n b done.within c.index_mut.ensures.value (block 0 true)) ∙ sym class in
    let blocks : ℕ → List CutBlock = λ i. set s.blocks.items n (block i false) in
    let now : ℕ → PoolState = λ i. record (state_of s) { blocks = blocks i } in
    record {
      kept = kept_at (now c.from-class.result) (now b.class) s.rest (s.in_use - c.at.result) s.made.items _ c.push.new.self s.blocks.cap s.blocks.cap (ap now same) c.push.ensures.after refl done.kept;
      out = omega (arith, done.out, c.self.invariant.out, ap (λ i. out_among (blocks i)) same);
      recent = c.self.invariant.recent;
      offsets = offsets_set (state_of s) s.offsets.items n b.class s.requests false (done.class_is ∙ sym same) c.self.invariant.offsets;
      room = c.self.invariant.room;
    }

pub overflow_sub-self-2 : goal.overflow_sub-self-2
overflow_sub-self-2 g c =
    let s = c.self.inside in
    let n = c.args.block in
    let out : is_out (state_of s) n ≡ true = ap (λ v. is_out v n) c.self.view_is ∙ c.requires in
    let class = c.from-class.ensures ∙ ap (λ (b : CutBlock). b.class) (get_or_read s.blocks.items n c.index.result.now (inside_from_out s.blocks.items n out) c.index.ensures (block 0 true)) in
    let done = back (state_of s) s.rest s.in_use s.made.items s.free s.blocks.cap c.from-class.result n c.at.result c.self.invariant.kept out class c.at.ensures in
    omega (arith, done.out, c.self.invariant.out)
