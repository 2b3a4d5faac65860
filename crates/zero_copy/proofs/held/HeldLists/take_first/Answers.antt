use Rattle.std.proofs.Common.{◌≡◌, ◌+◌, ◌-◌, ◌<◌, ◌≤◌, ◌∙◌, ◌∷◌, [], length, get_or, set, drop, refl, sym, subst, ap, arith}
use Rattle.std.proofs.lemmas.List.{get_or_read, get_or-set_same, set-get_or, nil_from_length}
use Rattle.bucket_list.specs.Lists.{times_in}
use Rattle.bucket_list.proofs.ListInvariant.{empty_or_not}
use Rattle.zero_copy.specs.Held.{HeldDescs, held_by, without}
use Rattle.zero_copy.specs.Inside.{rings}
use Rattle.zero_copy.proofs.Links.{first_in}
use Rattle.zero_copy.proofs.Changes.{length-rings, desc_in, first_read, without_head, once_listed}
use Rattle.zero_copy.proofs.held.HeldLists.take_first.Goals as goal

pub index-requires : goal.index-requires
index-requires g c =
    let s = c.self.inside in
    let k = c.get-place.result - 1 in
    let h : k < length s.counts.items = omega (arith, c.requires, c.get-place.ensures.first, c.get-place.ensures.value, length-rings s.next s.descs s.counts.items, ap (λ v. length v.lists) c.self.view_is) in
    omega (arith, h, s.counts.ok)

pub returns-then-index-eq0-clause-none : goal.returns-then-index-eq0-clause-none
returns-then-index-eq0-clause-none g c =
    let s = c.self.inside in
    let k = c.get-place.result - 1 in
    let h : k < length s.counts.items = omega (arith, c.requires, c.get-place.ensures.first, c.get-place.ensures.value, length-rings s.next s.descs s.counts.items, ap (λ v. length v.lists) c.self.view_is) in
    let same : get_or (rings s.next s.descs s.counts.items) k [] ≡ held_by c.args.self.now c.args.app =
    ap (λ n. get_or (rings s.next s.descs s.counts.items) (n - 1) []) c.get-place.ensures.value ∙ ap (λ v. held_by v c.args.app) c.self.view_is in
    let count = get_or_read s.counts.items k c.index.result.now h c.index.ensures 0 in
    let ds = held_by c.args.self.now c.args.app in
    let none : length ds ≡ 0 = omega (arith, ap length same, c.self.invariant.counted k h, count, c.if-index-eq0.true) in
    let empty = nil_from_length ds none in
    ((λ _. empty), (λ _. refl))

pub returns-then-index-eq0-clause-after : goal.returns-then-index-eq0-clause-after
returns-then-index-eq0-clause-after g c =
    let s = c.self.inside in
    let k = c.get-place.result - 1 in
    let h : k < length s.counts.items = omega (arith, c.requires, c.get-place.ensures.first, c.get-place.ensures.value, length-rings s.next s.descs s.counts.items, ap (λ v. length v.lists) c.self.view_is) in
    let same : get_or (rings s.next s.descs s.counts.items) k [] ≡ held_by c.args.self.now c.args.app =
    ap (λ n. get_or (rings s.next s.descs s.counts.items) (n - 1) []) c.get-place.ensures.value ∙ ap (λ v. held_by v c.args.app) c.self.view_is in
    let count = get_or_read s.counts.items k c.index.result.now h c.index.ensures 0 in
    let ds = held_by c.args.self.now c.args.app in
    let none : length ds ≡ 0 = omega (arith, ap length same, c.self.invariant.counted k h, count, c.if-index-eq0.true) in
    let empty = nil_from_length ds none in
    let lists = c.args.self.now.lists in
    let stays : lists ≡ set lists (c.args.app - 1) (drop 1 ds) = sym (set-get_or lists (c.args.app - 1) []) ∙ ap (set lists (c.args.app - 1)) (empty ∙ sym (ap (drop 1) empty)) in
    ap (λ ls. let v : HeldDescs = record { descs = c.args.self.now.descs; lists = ls } in v) stays

pub overflow_add-self-inside : goal.overflow_add-self-inside
overflow_add-self-inside g c =
    let s = c.self.inside in
    let k = c.get-place.result - 1 in
    let h : k < length s.counts.items = omega (arith, c.requires, c.get-place.ensures.first, c.get-place.ensures.value, length-rings s.next s.descs s.counts.items, ap (λ v. length v.lists) c.self.view_is) in
    omega (arith, h, c.self.invariant.few)

pub read-first-requires : goal.read-first-requires
read-first-requires g c =
    let s = c.self.inside in
    let k = c.get-place.result - 1 in
    let h : k < length s.counts.items = omega (arith, c.requires, c.get-place.ensures.first, c.get-place.ensures.value, length-rings s.next s.descs s.counts.items, ap (λ v. length v.lists) c.self.view_is) in
    omega (arith, h, c.self.invariant.next_all)

pub let_go-requires-clause-held : goal.let_go-requires-clause-held
let_go-requires-clause-held g c =
    let s = c.self.inside in
    let k = c.get-place.result - 1 in
    let h : k < length s.counts.items = omega (arith, c.requires, c.get-place.ensures.first, c.get-place.ensures.value, length-rings s.next s.descs s.counts.items, ap (λ v. length v.lists) c.self.view_is) in
    let same : get_or (rings s.next s.descs s.counts.items) k [] ≡ held_by c.args.self.now c.args.app =
    ap (λ n. get_or (rings s.next s.descs s.counts.items) (n - 1) []) c.get-place.ensures.value ∙ ap (λ v. held_by v c.args.app) c.self.view_is in
    let count = get_or_read s.counts.items k c.index.result.now h c.index.ensures 0 in
    let some : 0 < c.index.result.now = omega (arith, c.if-index-eq0.false) in
    let first = first_read s.next s.prev s.counts.items s.owners.items s.descs k (s.descs + k) c.read-first.result c.index.result.now c.self.invariant h some count refl c.read-first.ensures.value in
    let ds = held_by c.args.self.now c.args.app in
    let front : ds ≡ c.read-first.result ∷ drop 1 ds = sym same ∙ (first ∙ ap (λ ns. c.read-first.result ∷ drop 1 ns) same) in
    subst (λ ns. 0 < times_in ns c.read-first.result) (sym front) (first_in c.read-first.result (drop 1 ds))

pub returns-clause-none : goal.returns-clause-none
returns-clause-none g c =
    let s = c.self.inside in
    let k = c.get-place.result - 1 in
    let h : k < length s.counts.items = omega (arith, c.requires, c.get-place.ensures.first, c.get-place.ensures.value, length-rings s.next s.descs s.counts.items, ap (λ v. length v.lists) c.self.view_is) in
    let same : get_or (rings s.next s.descs s.counts.items) k [] ≡ held_by c.args.self.now c.args.app =
    ap (λ n. get_or (rings s.next s.descs s.counts.items) (n - 1) []) c.get-place.ensures.value ∙ ap (λ v. held_by v c.args.app) c.self.view_is in
    let count = get_or_read s.counts.items k c.index.result.now h c.index.ensures 0 in
    let some : 0 < c.index.result.now = omega (arith, c.if-index-eq0.false) in
    let first = first_read s.next s.prev s.counts.items s.owners.items s.descs k (s.descs + k) c.read-first.result c.index.result.now c.self.invariant h some count refl c.read-first.ensures.value in
    let ds = held_by c.args.self.now c.args.app in
    let front : ds ≡ c.read-first.result ∷ drop 1 ds = sym same ∙ (first ∙ ap (λ ns. c.read-first.result ∷ drop 1 ns) same) in
    ((λ no. cc), (λ none. absurd (empty_or_not ds (drop 1 ds) c.read-first.result front none)))

pub returns-clause-first : goal.returns-clause-first
returns-clause-first g c =
    let s = c.self.inside in
    let k = c.get-place.result - 1 in
    let h : k < length s.counts.items = omega (arith, c.requires, c.get-place.ensures.first, c.get-place.ensures.value, length-rings s.next s.descs s.counts.items, ap (λ v. length v.lists) c.self.view_is) in
    let same : get_or (rings s.next s.descs s.counts.items) k [] ≡ held_by c.args.self.now c.args.app =
    ap (λ n. get_or (rings s.next s.descs s.counts.items) (n - 1) []) c.get-place.ensures.value ∙ ap (λ v. held_by v c.args.app) c.self.view_is in
    let count = get_or_read s.counts.items k c.index.result.now h c.index.ensures 0 in
    let some : 0 < c.index.result.now = omega (arith, c.if-index-eq0.false) in
    let first = first_read s.next s.prev s.counts.items s.owners.items s.descs k (s.descs + k) c.read-first.result c.index.result.now c.self.invariant h some count refl c.read-first.ensures.value in
    let ds = held_by c.args.self.now c.args.app in
    let front : ds ≡ c.read-first.result ∷ drop 1 ds = sym same ∙ (first ∙ ap (λ ns. c.read-first.result ∷ drop 1 ns) same) in
    let gone : without c.read-first.result ds ≡ drop 1 ds = without_head c.read-first.result (drop 1 ds) ds front (λ q. subst (λ ns. times_in ns q ≤ 1) same (once_listed s.next s.prev s.counts.items s.owners.items s.descs k c.self.invariant h q)) in
    let lists = c.args.self.now.lists in
    let inside : c.args.app - 1 < length lists = omega (arith, c.requires, c.get-place.ensures.first, c.get-place.ensures.value) in
    let left : held_by c.let_go.new.self c.args.app ≡ drop 1 ds = ap (λ v. held_by v c.args.app) c.let_go.ensures.after ∙ (get_or-set_same lists (c.args.app - 1) (without c.read-first.result ds) [] inside ∙ gone) in
    front ∙ ap (λ ns. c.read-first.result ∷ ns) (sym left)

pub returns-clause-after : goal.returns-clause-after
returns-clause-after g c =
    let s = c.self.inside in
    let k = c.get-place.result - 1 in
    let h : k < length s.counts.items = omega (arith, c.requires, c.get-place.ensures.first, c.get-place.ensures.value, length-rings s.next s.descs s.counts.items, ap (λ v. length v.lists) c.self.view_is) in
    let same : get_or (rings s.next s.descs s.counts.items) k [] ≡ held_by c.args.self.now c.args.app =
    ap (λ n. get_or (rings s.next s.descs s.counts.items) (n - 1) []) c.get-place.ensures.value ∙ ap (λ v. held_by v c.args.app) c.self.view_is in
    let count = get_or_read s.counts.items k c.index.result.now h c.index.ensures 0 in
    let some : 0 < c.index.result.now = omega (arith, c.if-index-eq0.false) in
    let first = first_read s.next s.prev s.counts.items s.owners.items s.descs k (s.descs + k) c.read-first.result c.index.result.now c.self.invariant h some count refl c.read-first.ensures.value in
    let ds = held_by c.args.self.now c.args.app in
    let front : ds ≡ c.read-first.result ∷ drop 1 ds = sym same ∙ (first ∙ ap (λ ns. c.read-first.result ∷ drop 1 ns) same) in
    let gone : without c.read-first.result ds ≡ drop 1 ds = without_head c.read-first.result (drop 1 ds) ds front (λ q. subst (λ ns. times_in ns q ≤ 1) same (once_listed s.next s.prev s.counts.items s.owners.items s.descs k c.self.invariant h q)) in
    c.let_go.ensures.after ∙ ap (λ ns. let v : HeldDescs = record { descs = c.args.self.now.descs; lists = set c.args.self.now.lists (c.args.app - 1) ns } in v) gone

pub returns-clause-exists : goal.returns-clause-exists
returns-clause-exists g c =
    let s = c.self.inside in
    let k = c.get-place.result - 1 in
    let h : k < length s.counts.items = omega (arith, c.requires, c.get-place.ensures.first, c.get-place.ensures.value, length-rings s.next s.descs s.counts.items, ap (λ v. length v.lists) c.self.view_is) in
    let count = get_or_read s.counts.items k c.index.result.now h c.index.ensures 0 in
    let some : 0 < c.index.result.now = omega (arith, c.if-index-eq0.false) in
    let first = first_read s.next s.prev s.counts.items s.owners.items s.descs k (s.descs + k) c.read-first.result c.index.result.now c.self.invariant h some count refl c.read-first.ensures.value in
    let there : 0 < times_in (get_or (rings s.next s.descs s.counts.items) k []) c.read-first.result =
    subst (λ ns. 0 < times_in ns c.read-first.result) (sym first) (first_in c.read-first.result (drop 1 (get_or (rings s.next s.descs s.counts.items) k []))) in
    omega (
      arith,
      desc_in s.next s.prev s.counts.items s.owners.items s.descs k c.read-first.result c.self.invariant h there,
      ap (λ (v : HeldDescs). v.descs) c.let_go.ensures.after,
      ap (λ (v : HeldDescs). v.descs) c.self.view_is,
    )
