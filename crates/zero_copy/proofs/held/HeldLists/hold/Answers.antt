use Rattle.std.proofs.Common.{◌≡◌, ◌+◌, ◌-◌, ◌<◌, ◌∙◌, ◌∷◌, [], List, ℕ, length, get_or, set, refl, ap, arith}
use Rattle.std.proofs.lemmas.List.{get_or_read, length-set}
use Rattle.bucket_list.specs.Lists.{times}
use Rattle.zero_copy.specs.Held.{HeldDescs, held_by}
use Rattle.zero_copy.specs.Inside.{rings}
use Rattle.zero_copy.proofs.Changes.{length-rings, hold_read, hold_fits, first_inside}
use Rattle.zero_copy.proofs.held.HeldLists.hold.Goals as goal

pub overflow_add-anchor : goal.overflow_add-anchor
overflow_add-anchor g c =
    let s = c.self.inside in
    let k = c.get-place.result - 1 in
    let h : k < length s.counts.items = omega (arith, c.requires.app, c.get-place.ensures.first, c.get-place.ensures.value, length-rings s.next s.descs s.counts.items, ap (λ v. length v.lists) c.self.view_is) in
    omega (arith, h, c.self.invariant.few)

pub read-first-requires : goal.read-first-requires
read-first-requires g c =
    let s = c.self.inside in
    let k = c.get-place.result - 1 in
    let h : k < length s.counts.items = omega (arith, c.requires.app, c.get-place.ensures.first, c.get-place.ensures.value, length-rings s.next s.descs s.counts.items, ap (λ v. length v.lists) c.self.view_is) in
    omega (arith, h, c.self.invariant.next_all)

pub write-requires-2 : goal.write-requires-2
write-requires-2 g c =
    let s = c.self.inside in
    let k = c.get-place.result - 1 in
    let h : k < length s.counts.items = omega (arith, c.requires.app, c.get-place.ensures.first, c.get-place.ensures.value, length-rings s.next s.descs s.counts.items, ap (λ v. length v.lists) c.self.view_is) in
    first_inside s.next s.prev s.counts.items s.owners.items s.descs k c.read-first.result c.self.invariant h c.read-first.ensures.value

pub write-requires-3 : goal.write-requires-3
write-requires-3 g c =
    let s = c.self.inside in
    let k = c.get-place.result - 1 in
    let h : k < length s.counts.items = omega (arith, c.requires.app, c.get-place.ensures.first, c.get-place.ensures.value, length-rings s.next s.descs s.counts.items, ap (λ v. length v.lists) c.self.view_is) in
    omega (arith, h, c.self.invariant.next_all, ap length c.write.ensures.after, length-set s.next c.args.desc c.read-first.result)

pub index_mut-requires : goal.index_mut-requires
index_mut-requires g c =
    let s = c.self.inside in
    let k = c.get-place.result - 1 in
    let h : k < length s.counts.items = omega (arith, c.requires.app, c.get-place.ensures.first, c.get-place.ensures.value, length-rings s.next s.descs s.counts.items, ap (λ v. length v.lists) c.self.view_is) in
    omega (arith, h, s.counts.ok)

pub overflow_add-index_mut : goal.overflow_add-index_mut
overflow_add-index_mut g c =
    let s = c.self.inside in
    let k = c.get-place.result - 1 in
    let h : k < length s.counts.items = omega (arith, c.requires.app, c.get-place.ensures.first, c.get-place.ensures.value, length-rings s.next s.descs s.counts.items, ap (λ v. length v.lists) c.self.view_is) in
    let within : c.args.desc < s.descs = omega (arith, c.requires.desc, ap (λ v. v.descs) c.self.view_is) in
    let free : times (rings s.next s.descs s.counts.items) c.args.desc ≡ 0 = ap (λ v. times v.lists c.args.desc) c.self.view_is ∙ c.requires.let_go in
    let count = get_or_read s.counts.items k c.index_mut.result.now h c.index_mut.ensures.value 0 in
    let fits = hold_fits s.next s.next s.prev s.prev s.counts.items s.owners.items s.descs k c.args.desc c.index_mut.result.now c.self.invariant h within free count in
    omega (arith, fits, c.self.invariant.few, h)

pub invariant_of-self : goal.invariant_of-self
invariant_of-self g c =
    let s = c.self.inside in
    let k = c.get-place.result - 1 in
    let h : k < length s.counts.items = omega (arith, c.requires.app, c.get-place.ensures.first, c.get-place.ensures.value, length-rings s.next s.descs s.counts.items, ap (λ v. length v.lists) c.self.view_is) in
    let within : c.args.desc < s.descs = omega (arith, c.requires.desc, ap (λ v. v.descs) c.self.view_is) in
    let free : times (rings s.next s.descs s.counts.items) c.args.desc ≡ 0 = ap (λ v. times v.lists c.args.desc) c.self.view_is ∙ c.requires.let_go in
    let count = get_or_read s.counts.items k c.index_mut.result.now h c.index_mut.ensures.value 0 in
    let done = hold_read s.next c.write.new.self c.write-3.new.self s.prev c.write-2.new.self c.write-4.new.self s.counts.items s.owners.items s.descs k (s.descs + k) c.args.desc c.read-first.result c.index_mut.result.now c.self.invariant h within free count
    refl c.read-first.ensures.value c.write.ensures.after c.write-2.ensures.after c.write-3.ensures.after c.write-4.ensures.after in
    done.kept

pub returns-clause-after : goal.returns-clause-after
returns-clause-after g c =
    let s = c.self.inside in
    let k = c.get-place.result - 1 in
    let h : k < length s.counts.items = omega (arith, c.requires.app, c.get-place.ensures.first, c.get-place.ensures.value, length-rings s.next s.descs s.counts.items, ap (λ v. length v.lists) c.self.view_is) in
    let within : c.args.desc < s.descs = omega (arith, c.requires.desc, ap (λ v. v.descs) c.self.view_is) in
    let free : times (rings s.next s.descs s.counts.items) c.args.desc ≡ 0 = ap (λ v. times v.lists c.args.desc) c.self.view_is ∙ c.requires.let_go in
    let count = get_or_read s.counts.items k c.index_mut.result.now h c.index_mut.ensures.value 0 in
    let done = hold_read s.next c.write.new.self c.write-3.new.self s.prev c.write-2.new.self c.write-4.new.self s.counts.items s.owners.items s.descs k (s.descs + k) c.args.desc c.read-first.result c.index_mut.result.now c.self.invariant h within free count
    refl c.read-first.ensures.value c.write.ensures.after c.write-2.ensures.after c.write-3.ensures.after c.write-4.ensures.after in
    let held : ℕ → List (List ℕ) → HeldDescs = λ descs lists. record { descs = descs; lists = lists } in
    ap (held s.descs) done.after
    ∙ (ap (λ app. held s.descs (set (rings s.next s.descs s.counts.items) (app - 1) (c.args.desc ∷ get_or (rings s.next s.descs s.counts.items) (app - 1) []))) c.get-place.ensures.value
    ∙ ap (λ (v : HeldDescs). held v.descs (set v.lists (c.args.app - 1) (c.args.desc ∷ held_by v c.args.app))) c.self.view_is)
