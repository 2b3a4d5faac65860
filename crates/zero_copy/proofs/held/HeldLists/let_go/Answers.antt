use Rattle.std.proofs.Common.{◌≡◌, ◌-◌, ◌<◌, ◌∙◌, [], List, ℕ, length, get_or, set, ap, arith}
use Rattle.std.proofs.lemmas.List.{get_or_read}
use Rattle.bucket_list.specs.Lists.{times_in}
use Rattle.zero_copy.specs.Held.{HeldDescs, held_by, without}
use Rattle.zero_copy.specs.Inside.{rings}
use Rattle.zero_copy.proofs.Changes.{length-rings, desc_in, let_go_read, before_inside, behind_inside, some_counted}
use Rattle.zero_copy.proofs.held.HeldLists.let_go.Goals as goal

pub read-before-requires : goal.read-before-requires
read-before-requires g c =
    let s = c.self.inside in
    let k = c.get-place.result - 1 in
    let h : k < length s.counts.items = omega (arith, c.requires.app, c.get-place.ensures.first, c.get-place.ensures.value, length-rings s.next s.descs s.counts.items, ap (λ v. length v.lists) c.self.view_is) in
    let same : get_or (rings s.next s.descs s.counts.items) k [] ≡ held_by c.args.self.now c.args.app =
    ap (λ n. get_or (rings s.next s.descs s.counts.items) (n - 1) []) c.get-place.ensures.value ∙ ap (λ v. held_by v c.args.app) c.self.view_is in
    let held : 0 < times_in (get_or (rings s.next s.descs s.counts.items) k []) c.args.desc = omega (arith, c.requires.held, ap (λ ds. times_in ds c.args.desc) same) in
    let within = desc_in s.next s.prev s.counts.items s.owners.items s.descs k c.args.desc c.self.invariant h held in
    omega (arith, within, c.self.invariant.prev_all)

pub read-behind-requires : goal.read-behind-requires
read-behind-requires g c =
    let s = c.self.inside in
    let k = c.get-place.result - 1 in
    let h : k < length s.counts.items = omega (arith, c.requires.app, c.get-place.ensures.first, c.get-place.ensures.value, length-rings s.next s.descs s.counts.items, ap (λ v. length v.lists) c.self.view_is) in
    let same : get_or (rings s.next s.descs s.counts.items) k [] ≡ held_by c.args.self.now c.args.app =
    ap (λ n. get_or (rings s.next s.descs s.counts.items) (n - 1) []) c.get-place.ensures.value ∙ ap (λ v. held_by v c.args.app) c.self.view_is in
    let held : 0 < times_in (get_or (rings s.next s.descs s.counts.items) k []) c.args.desc = omega (arith, c.requires.held, ap (λ ds. times_in ds c.args.desc) same) in
    let within = desc_in s.next s.prev s.counts.items s.owners.items s.descs k c.args.desc c.self.invariant h held in
    omega (arith, within, c.self.invariant.next_all)

pub write-requires : goal.write-requires
write-requires g c =
    let s = c.self.inside in
    let k = c.get-place.result - 1 in
    let h : k < length s.counts.items = omega (arith, c.requires.app, c.get-place.ensures.first, c.get-place.ensures.value, length-rings s.next s.descs s.counts.items, ap (λ v. length v.lists) c.self.view_is) in
    let same : get_or (rings s.next s.descs s.counts.items) k [] ≡ held_by c.args.self.now c.args.app =
    ap (λ n. get_or (rings s.next s.descs s.counts.items) (n - 1) []) c.get-place.ensures.value ∙ ap (λ v. held_by v c.args.app) c.self.view_is in
    let held : 0 < times_in (get_or (rings s.next s.descs s.counts.items) k []) c.args.desc = omega (arith, c.requires.held, ap (λ ds. times_in ds c.args.desc) same) in
    before_inside s.next s.prev s.counts.items s.owners.items s.descs k c.args.desc c.read-before.result c.self.invariant h held c.read-before.ensures.value

pub write-requires-2 : goal.write-requires-2
write-requires-2 g c =
    let s = c.self.inside in
    let k = c.get-place.result - 1 in
    let h : k < length s.counts.items = omega (arith, c.requires.app, c.get-place.ensures.first, c.get-place.ensures.value, length-rings s.next s.descs s.counts.items, ap (λ v. length v.lists) c.self.view_is) in
    let same : get_or (rings s.next s.descs s.counts.items) k [] ≡ held_by c.args.self.now c.args.app =
    ap (λ n. get_or (rings s.next s.descs s.counts.items) (n - 1) []) c.get-place.ensures.value ∙ ap (λ v. held_by v c.args.app) c.self.view_is in
    let held : 0 < times_in (get_or (rings s.next s.descs s.counts.items) k []) c.args.desc = omega (arith, c.requires.held, ap (λ ds. times_in ds c.args.desc) same) in
    behind_inside s.next s.prev s.counts.items s.owners.items s.descs k c.args.desc c.read-behind.result c.self.invariant h held c.read-behind.ensures.value

pub index_mut-requires : goal.index_mut-requires
index_mut-requires g c =
    let s = c.self.inside in
    let k = c.get-place.result - 1 in
    let h : k < length s.counts.items = omega (arith, c.requires.app, c.get-place.ensures.first, c.get-place.ensures.value, length-rings s.next s.descs s.counts.items, ap (λ v. length v.lists) c.self.view_is) in
    omega (arith, h, s.counts.ok)

pub overflow_sub-index_mut : goal.overflow_sub-index_mut
overflow_sub-index_mut g c =
    let s = c.self.inside in
    let k = c.get-place.result - 1 in
    let h : k < length s.counts.items = omega (arith, c.requires.app, c.get-place.ensures.first, c.get-place.ensures.value, length-rings s.next s.descs s.counts.items, ap (λ v. length v.lists) c.self.view_is) in
    let same : get_or (rings s.next s.descs s.counts.items) k [] ≡ held_by c.args.self.now c.args.app =
    ap (λ n. get_or (rings s.next s.descs s.counts.items) (n - 1) []) c.get-place.ensures.value ∙ ap (λ v. held_by v c.args.app) c.self.view_is in
    let held : 0 < times_in (get_or (rings s.next s.descs s.counts.items) k []) c.args.desc = omega (arith, c.requires.held, ap (λ ds. times_in ds c.args.desc) same) in
    let count = get_or_read s.counts.items k c.index_mut.result.now h c.index_mut.ensures.value 0 in
    some_counted s.next s.prev s.counts.items s.owners.items s.descs k c.args.desc c.index_mut.result.now c.self.invariant h held count

pub index_mut-requires-2 : goal.index_mut-requires-2
index_mut-requires-2 g c =
    let s = c.self.inside in
    let k = c.get-place.result - 1 in
    let h : k < length s.counts.items = omega (arith, c.requires.app, c.get-place.ensures.first, c.get-place.ensures.value, length-rings s.next s.descs s.counts.items, ap (λ v. length v.lists) c.self.view_is) in
    let same : get_or (rings s.next s.descs s.counts.items) k [] ≡ held_by c.args.self.now c.args.app =
    ap (λ n. get_or (rings s.next s.descs s.counts.items) (n - 1) []) c.get-place.ensures.value ∙ ap (λ v. held_by v c.args.app) c.self.view_is in
    let held : 0 < times_in (get_or (rings s.next s.descs s.counts.items) k []) c.args.desc = omega (arith, c.requires.held, ap (λ ds. times_in ds c.args.desc) same) in
    let within = desc_in s.next s.prev s.counts.items s.owners.items s.descs k c.args.desc c.self.invariant h held in
    omega (arith, within, s.owners.ok, c.self.invariant.owners_all)

pub invariant_of-self : goal.invariant_of-self
invariant_of-self g c =
    let s = c.self.inside in
    let k = c.get-place.result - 1 in
    let h : k < length s.counts.items = omega (arith, c.requires.app, c.get-place.ensures.first, c.get-place.ensures.value, length-rings s.next s.descs s.counts.items, ap (λ v. length v.lists) c.self.view_is) in
    let same : get_or (rings s.next s.descs s.counts.items) k [] ≡ held_by c.args.self.now c.args.app =
    ap (λ n. get_or (rings s.next s.descs s.counts.items) (n - 1) []) c.get-place.ensures.value ∙ ap (λ v. held_by v c.args.app) c.self.view_is in
    let held : 0 < times_in (get_or (rings s.next s.descs s.counts.items) k []) c.args.desc = omega (arith, c.requires.held, ap (λ ds. times_in ds c.args.desc) same) in
    let count = get_or_read s.counts.items k c.index_mut.result.now h c.index_mut.ensures.value 0 in
    let done = let_go_read s.next c.write.new.self s.prev c.write-2.new.self s.counts.items s.owners.items s.descs k c.args.desc c.read-before.result c.read-behind.result c.index_mut.result.now c.self.invariant h held count
    c.read-before.ensures.value c.read-behind.ensures.value c.write.ensures.after c.write-2.ensures.after in
    done.changed.kept

pub returns-clause-after : goal.returns-clause-after
returns-clause-after g c =
    let s = c.self.inside in
    let k = c.get-place.result - 1 in
    let h : k < length s.counts.items = omega (arith, c.requires.app, c.get-place.ensures.first, c.get-place.ensures.value, length-rings s.next s.descs s.counts.items, ap (λ v. length v.lists) c.self.view_is) in
    let same : get_or (rings s.next s.descs s.counts.items) k [] ≡ held_by c.args.self.now c.args.app =
    ap (λ n. get_or (rings s.next s.descs s.counts.items) (n - 1) []) c.get-place.ensures.value ∙ ap (λ v. held_by v c.args.app) c.self.view_is in
    let held : 0 < times_in (get_or (rings s.next s.descs s.counts.items) k []) c.args.desc = omega (arith, c.requires.held, ap (λ ds. times_in ds c.args.desc) same) in
    let count = get_or_read s.counts.items k c.index_mut.result.now h c.index_mut.ensures.value 0 in
    let done = let_go_read s.next c.write.new.self s.prev c.write-2.new.self s.counts.items s.owners.items s.descs k c.args.desc c.read-before.result c.read-behind.result c.index_mut.result.now c.self.invariant h held count
    c.read-before.ensures.value c.read-behind.ensures.value c.write.ensures.after c.write-2.ensures.after in
    let to : ℕ → List (List ℕ) → HeldDescs = λ descs lists. record { descs = descs; lists = lists } in
    ap (to s.descs) done.changed.after
    ∙ (ap (λ app. to s.descs (set (rings s.next s.descs s.counts.items) (app - 1) (without c.args.desc (get_or (rings s.next s.descs s.counts.items) (app - 1) [])))) c.get-place.ensures.value
    ∙ ap (λ (v : HeldDescs). to v.descs (set v.lists (c.args.app - 1) (without c.args.desc (held_by v c.args.app)))) c.self.view_is)

pub returns-clause-let_go : goal.returns-clause-let_go
returns-clause-let_go g c =
    let s = c.self.inside in
    let k = c.get-place.result - 1 in
    let h : k < length s.counts.items = omega (arith, c.requires.app, c.get-place.ensures.first, c.get-place.ensures.value, length-rings s.next s.descs s.counts.items, ap (λ v. length v.lists) c.self.view_is) in
    let same : get_or (rings s.next s.descs s.counts.items) k [] ≡ held_by c.args.self.now c.args.app =
    ap (λ n. get_or (rings s.next s.descs s.counts.items) (n - 1) []) c.get-place.ensures.value ∙ ap (λ v. held_by v c.args.app) c.self.view_is in
    let held : 0 < times_in (get_or (rings s.next s.descs s.counts.items) k []) c.args.desc = omega (arith, c.requires.held, ap (λ ds. times_in ds c.args.desc) same) in
    let count = get_or_read s.counts.items k c.index_mut.result.now h c.index_mut.ensures.value 0 in
    let done = let_go_read s.next c.write.new.self s.prev c.write-2.new.self s.counts.items s.owners.items s.descs k c.args.desc c.read-before.result c.read-behind.result c.index_mut.result.now c.self.invariant h held count
    c.read-before.ensures.value c.read-behind.ensures.value c.write.ensures.after c.write-2.ensures.after in
    done.free
