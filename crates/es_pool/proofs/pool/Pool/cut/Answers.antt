use Rattle.std.proofs.Common.{refl, ℕ, ◌≡◌, ◌∙◌, ◌+◌, ◌-◌, ◌<◌, ◌≤◌, List, true, length, set, get_or, subst, sym, ap, arith}
use Rattle.std.proofs.lemmas.List.{get_or_read}
use Rattle.std.specs.Vec.{vec_capacity}
use Rattle.es_pool.specs.Pool.{PoolState, fits_class, free_in, out_among, rest_of}
use Rattle.es_pool.specs.Inside.{state_of}
use Rattle.fsw_base.specs.PoolAccounts.{overhead}
use Rattle.es_pool.specs.declared.blocks.CutBlock.{CutBlock}
use Rattle.es_pool.proofs.Totals.{block}
use Rattle.es_pool.proofs.Keeps.{cut, kept_at, cut_sufficed}
use Rattle.es_pool.proofs.Places.{offsets_push}
use Rattle.es_pool.proofs.pool.Pool.cut.Goals as goal

pub add_node-block-requires : goal.add_node-block-requires
add_node-block-requires c =
    let s = c.self.inside in
    let k = c.args.class in
    let h : k < length s.sizes = omega (arith, c.requires.class, ap (λ v. length v.sizes) c.self.view_is) in
    let none : free_in s.blocks.items k ≡ 0 = ap (λ v. free_in v.blocks k) c.self.view_is ∙ c.requires.none in
    let fits : fits_class (state_of s) k 1 ≡ true = ap (λ v. fits_class v k 1) c.self.view_is ∙ c.requires.fits in
    let done = cut (state_of s) s.rest s.in_use s.made.items s.free s.blocks.cap k (get_or s.made.items k 0) c.at-size.result 0 c.self.invariant.kept h none fits c.at-size.ensures refl in
    done.node

pub push_reserved-requires : goal.push_reserved-requires
push_reserved-requires c =
    let s = c.self.inside in
    let k = c.args.class in
    let h : k < length s.sizes = omega (arith, c.requires.class, ap (λ v. length v.sizes) c.self.view_is) in
    let none : free_in s.blocks.items k ≡ 0 = ap (λ v. free_in v.blocks k) c.self.view_is ∙ c.requires.none in
    let fits : fits_class (state_of s) k 1 ≡ true = ap (λ v. fits_class v k 1) c.self.view_is ∙ c.requires.fits in
    let done = cut (state_of s) s.rest s.in_use s.made.items s.free s.blocks.cap k (get_or s.made.items k 0) c.at-size.result 0 c.self.invariant.kept h none fits c.at-size.ensures refl in
    omega (arith, done.space, s.blocks.ok)

pub overflow_add-index_mut : goal.overflow_add-index_mut
overflow_add-index_mut c =
    let s = c.self.inside in
    let k = c.args.class in
    let h : k < length s.sizes = omega (arith, c.requires.class, ap (λ v. length v.sizes) c.self.view_is) in
    let none : free_in s.blocks.items k ≡ 0 = ap (λ v. free_in v.blocks k) c.self.view_is ∙ c.requires.none in
    let fits : fits_class (state_of s) k 1 ≡ true = ap (λ v. fits_class v k 1) c.self.view_is ∙ c.requires.fits in
    let count : c.index_mut.result.now ≡ get_or s.made.items k 0 = get_or_read s.made.items k c.index_mut.result.now (omega (arith, h, c.self.invariant.kept.made_all)) c.index_mut.ensures.value 0 in
    let done = cut (state_of s) s.rest s.in_use s.made.items s.free s.blocks.cap k c.index_mut.result.now c.at-size.result 0 c.self.invariant.kept h none fits c.at-size.ensures count in
    omega (arith, done.made_fits)

pub overflow_sub-self : goal.overflow_sub-self
overflow_sub-self c =
    let s = c.self.inside in
    let k = c.args.class in
    let h : k < length s.sizes = omega (arith, c.requires.class, ap (λ v. length v.sizes) c.self.view_is) in
    let none : free_in s.blocks.items k ≡ 0 = ap (λ v. free_in v.blocks k) c.self.view_is ∙ c.requires.none in
    let fits : fits_class (state_of s) k 1 ≡ true = ap (λ v. fits_class v k 1) c.self.view_is ∙ c.requires.fits in
    let done = cut (state_of s) s.rest s.in_use s.made.items s.free s.blocks.cap k (get_or s.made.items k 0) c.at-size.result 0 c.self.invariant.kept h none fits c.at-size.ensures refl in
    omega (arith, done.enough)

pub overflow_add-self : goal.overflow_add-self
overflow_add-self c =
    let s = c.self.inside in
    let k = c.args.class in
    let h : k < length s.sizes = omega (arith, c.requires.class, ap (λ v. length v.sizes) c.self.view_is) in
    let none : free_in s.blocks.items k ≡ 0 = ap (λ v. free_in v.blocks k) c.self.view_is ∙ c.requires.none in
    let fits : fits_class (state_of s) k 1 ≡ true = ap (λ v. fits_class v k 1) c.self.view_is ∙ c.requires.fits in
    let done = cut (state_of s) s.rest s.in_use s.made.items s.free s.blocks.cap k (get_or s.made.items k 0) c.at-size.result 0 c.self.invariant.kept h none fits c.at-size.ensures refl in
    omega (arith, done.enough)

pub overflow_add-self-2 : goal.overflow_add-self-2
overflow_add-self-2 c =
    let s = c.self.inside in
    let k = c.args.class in
    let h : k < length s.sizes = omega (arith, c.requires.class, ap (λ v. length v.sizes) c.self.view_is) in
    let none : free_in s.blocks.items k ≡ 0 = ap (λ v. free_in v.blocks k) c.self.view_is ∙ c.requires.none in
    let fits : fits_class (state_of s) k 1 ≡ true = ap (λ v. fits_class v k 1) c.self.view_is ∙ c.requires.fits in
    let done = cut (state_of s) s.rest s.in_use s.made.items s.free s.blocks.cap k (get_or s.made.items k 0) c.at-size.result 0 c.self.invariant.kept h none fits c.at-size.ensures refl in
    omega (arith, done.in_use_fits)

pub invariant_of-self : goal.invariant_of-self
invariant_of-self c =
    let s = c.self.inside in
    let k = c.args.class in
    let h : k < length s.sizes = omega (arith, c.requires.class, ap (λ v. length v.sizes) c.self.view_is) in
    let none : free_in s.blocks.items k ≡ 0 = ap (λ v. free_in v.blocks k) c.self.view_is ∙ c.requires.none in
    let fits : fits_class (state_of s) k 1 ≡ true = ap (λ v. fits_class v k 1) c.self.view_is ∙ c.requires.fits in
    let count : c.index_mut.result.now ≡ get_or s.made.items k 0 = get_or_read s.made.items k c.index_mut.result.now (omega (arith, h, c.self.invariant.kept.made_all)) c.index_mut.ensures.value 0 in
    let done = cut (state_of s) s.rest s.in_use s.made.items s.free s.blocks.cap k c.index_mut.result.now c.at-size.result c.saturating_add-self-inside.result c.self.invariant.kept h none fits c.at-size.ensures count in
    let to : List CutBlock → PoolState = λ blocks. record (state_of s) { blocks = blocks; requests = c.saturating_add-self-inside.result } in
    record {
      kept = kept_at _ (to c.push_reserved.new.self.items) (s.rest - (c.at-size.result + 16)) (s.in_use + c.at-size.result) (set s.made.items k (c.index_mut.result.now + 1)) _ c.add_node-block.new.self _ (vec_capacity c.push_reserved.new.self)
          (ap to c.push_reserved.ensures.items) c.add_node-block.ensures.after c.push_reserved.ensures.capacity done.kept;
      out = ap (λ (n : ℕ). n + 1) c.self.invariant.out ∙ sym (ap out_among c.push_reserved.ensures.items ∙ done.out);
      recent = h;
      offsets = offsets_push (state_of s) s.offsets.items c.push_reserved-2.new.self.items c.push_reserved.new.self.items k s.rest c.saturating_add-self-inside.result (s.bytes - s.rest + overhead)
          c.self.invariant.kept.adds_up c.self.invariant.offsets c.push_reserved.ensures.items c.push_reserved-2.ensures.items refl;
      room = omega (arith, c.push_reserved.ensures.capacity, c.push_reserved-2.ensures.capacity, c.self.invariant.room);
    }

pub overflow_add-self-3 : goal.overflow_add-self-3
overflow_add-self-3 c =
    let s = c.self.inside in
    let k = c.args.class in
    let h : k < length s.sizes = omega (arith, c.requires.class, ap (λ v. length v.sizes) c.self.view_is) in
    let none : free_in s.blocks.items k ≡ 0 = ap (λ v. free_in v.blocks k) c.self.view_is ∙ c.requires.none in
    let fits : fits_class (state_of s) k 1 ≡ true = ap (λ v. fits_class v k 1) c.self.view_is ∙ c.requires.fits in
    let done = cut (state_of s) s.rest s.in_use s.made.items s.free s.blocks.cap k (get_or s.made.items k 0) c.at-size.result 0 c.self.invariant.kept h none fits c.at-size.ensures refl in
    omega (arith, done.out_fits, c.self.invariant.out)

pub returns-clause-rest_sufficed : goal.returns-clause-rest_sufficed
returns-clause-rest_sufficed c =
    let s = c.self.inside in
    let k = c.args.class in
    let h : k < length s.sizes = omega (arith, c.requires.class, ap (λ v. length v.sizes) c.self.view_is) in
    let none : free_in s.blocks.items k ≡ 0 = ap (λ v. free_in v.blocks k) c.self.view_is ∙ c.requires.none in
    let fits : fits_class (state_of s) k 1 ≡ true = ap (λ v. fits_class v k 1) c.self.view_is ∙ c.requires.fits in
    let done = cut (state_of s) s.rest s.in_use s.made.items s.free s.blocks.cap k (get_or s.made.items k 0) c.at-size.result 0 c.self.invariant.kept h none fits c.at-size.ensures refl in
    subst (λ (v : PoolState). get_or s.sizes (get_or c.push_reserved.new.self.items c.add_node-block.result (block 0 true)).class 0 + overhead ≤ rest_of v) c.self.view_is
    (cut_sufficed (state_of s) c.push_reserved.new.self.items k c.add_node-block.result c.at-size.result s.rest c.push_reserved.ensures.items
    (c.add_node-block.ensures.number ∙ c.self.invariant.kept.nodes_all) c.self.invariant.kept.adds_up c.at-size.ensures done.enough)

pub overflow_sub-offset : goal.overflow_sub-offset
overflow_sub-offset c = omega (arith, c.self.invariant.kept.adds_up)

pub overflow_add-offset : goal.overflow_add-offset
overflow_add-offset c =
    let s = c.self.inside in
    let k = c.args.class in
    let h : k < length s.sizes = omega (arith, c.requires.class, ap (λ v. length v.sizes) c.self.view_is) in
    let none : free_in s.blocks.items k ≡ 0 = ap (λ v. free_in v.blocks k) c.self.view_is ∙ c.requires.none in
    let fits : fits_class (state_of s) k 1 ≡ true = ap (λ v. fits_class v k 1) c.self.view_is ∙ c.requires.fits in
    let done = cut (state_of s) s.rest s.in_use s.made.items s.free s.blocks.cap k (get_or s.made.items k 0) c.at-size.result 0 c.self.invariant.kept h none fits c.at-size.ensures refl in
    omega (arith, done.enough, c.self.invariant.kept.adds_up)

pub push_reserved-requires-2 : goal.push_reserved-requires-2
push_reserved-requires-2 c =
    let s = c.self.inside in
    let k = c.args.class in
    let h : k < length s.sizes = omega (arith, c.requires.class, ap (λ v. length v.sizes) c.self.view_is) in
    let none : free_in s.blocks.items k ≡ 0 = ap (λ v. free_in v.blocks k) c.self.view_is ∙ c.requires.none in
    let fits : fits_class (state_of s) k 1 ≡ true = ap (λ v. fits_class v k 1) c.self.view_is ∙ c.requires.fits in
    let done = cut (state_of s) s.rest s.in_use s.made.items s.free s.blocks.cap k (get_or s.made.items k 0) c.at-size.result 0 c.self.invariant.kept h none fits c.at-size.ensures refl in
    omega (arith, done.space, s.blocks.ok, c.self.invariant.offsets.many, c.self.invariant.room, s.offsets.ok)
