use Rattle.std.proofs.Common.{◌≡◌, ◌+◌, ℕ, List, [], ◌∷◌, ◌++◌, length, set, Some, refl, ap, sym, ◌∙◌, subst, arith}
use Rattle.std.specs.List.{All}
use Rattle.std.specs.Option.{option_to_list}
use Rattle.std.proofs.lemmas.List.{get_or_default, length-set}
use Rattle.bus_words.specs.Pipes.{PipeOf, new_pipe}
use Rattle.pipe_queue.specs.declared.item.Item.{Item}
use Rattle.pipe_table.specs.Table.{Pipes}
use Rattle.pipe_table.specs.Inside.{PlaceState, IsFree, AreKept, table_of}
use Rattle.pipe_table.proofs.NumberedPipes.{nowhere, as_many, live_many}
use Rattle.pipe_table.proofs.Changes.{created_table, created_kept, room_at, all_last}
use Rattle.pipe_table.proofs.table.PipeTable.create.Goals as goal

pub unwrap-place-requires : goal.unwrap-place-requires
unwrap-place-requires c =
    let a = c.self.inside in
    let many = live_many 0 a.places.items a.live.items a.at.items c.self.invariant.0.filed in
    c.pop.ensures.variant.1 (omega (arith, many, c.self.invariant.0.all, a.free.ok.0, c.requires.room, ap (λ (t : Pipes). length t.live) c.self.view_is, ap (λ (t : Pipes). t.room) c.self.view_is))

pub push_reserved-requires : goal.push_reserved-requires
push_reserved-requires c =
    let a = c.self.inside in
    let many = live_many 0 a.places.items a.live.items a.at.items c.self.invariant.0.filed in
    let both = as_many 0 a.places.items a.live.items a.at.items c.self.invariant.0.filed in
    omega (arith, many, both, a.live.ok.0, c.self.invariant.2, c.requires.room, ap (λ (t : Pipes). length t.live) c.self.view_is, ap (λ (t : Pipes). t.room) c.self.view_is)

pub push_reserved-requires-2 : goal.push_reserved-requires-2
push_reserved-requires-2 c =
    let a = c.self.inside in
    let many = live_many 0 a.places.items a.live.items a.at.items c.self.invariant.0.filed in
    omega (arith, many, a.at.ok.0, c.self.invariant.3, c.requires.room, ap (λ (t : Pipes). length t.live) c.self.view_is, ap (λ (t : Pipes). t.room) c.self.view_is)

pub fill-requires-clause-free : goal.fill-requires-clause-free
fill-requires-clause-free c =
    let a = c.self.inside in
    let places = a.places.items in
    let p = c.unwrap-place.result in
    let popped : a.free.items ≡ c.pop.new.self.items ++ p ∷ [] = c.pop.ensures.items ∙ ap (λ o. c.pop.new.self.items ++ option_to_list o) c.unwrap-place.ensures in
    let free = all_last (IsFree places) c.pop.new.self.items p (subst (λ l. All (IsFree places) l) popped c.self.invariant.0.empty) in
    ap (λ (s : PlaceState). s.pipe) (c.index_mut.ensures.value ∙ get_or_default places p _ nowhere free.there) ∙ free.empty

pub invariant_of-self : goal.invariant_of-self
invariant_of-self c =
    let a = c.self.inside in
    let places = a.places.items in
    let p = c.unwrap-place.result in
    let kept = c.self.invariant.0 in
    let popped : a.free.items ≡ c.pop.new.self.items ++ p ∷ [] = c.pop.ensures.items ∙ ap (λ o. c.pop.new.self.items ++ option_to_list o) c.unwrap-place.ensures in
    let free = all_last (IsFree places) c.pop.new.self.items p (subst (λ l. All (IsFree places) l) popped kept.empty) in
    let there = c.index_mut.ensures.value ∙ get_or_default places p _ nowhere free.there in
    let pipe : PipeOf Item = new_pipe (a.created + 1) c.args.name.now c.args.owner c.args.depth in
    let holds : c.fill.new.self.pipe ≡ Some pipe = ap (λ (s : PlaceState). s.pipe) c.fill.ensures in
    let room : c.fill.new.self.room ≡ a.depth = ap (λ (s : PlaceState). s.room) c.fill.ensures ∙ ap (λ (s : PlaceState). s.room) there ∙ room_at a.depth places p free.there kept.rooms in
    let all = length-set places p c.fill.new.self in
    let K : List ℕ → List ℕ → Type 0 = λ l m. AreKept a.depth (set places p c.fill.new.self) l m c.pop.new.self.items (a.created + 1) in (
      subst (λ l. K l c.push_reserved-2.new.self.items) (sym c.push_reserved.ensures.items)
          (subst (λ m. K (a.live.items ++ (a.created + 1) ∷ []) m) (sym c.push_reserved-2.ensures.items)
          (created_kept a.depth places a.live.items a.at.items a.free.items c.pop.new.self.items a.created (a.created + 1) p c.fill.new.self pipe kept popped holds room refl refl)),
      omega (arith, c.self.invariant.1, all, c.pop.ensures.capacity),
      omega (arith, c.self.invariant.2, all, c.push_reserved.ensures.capacity),
      omega (arith, c.self.invariant.3, all, c.push_reserved-2.ensures.capacity),
    )

pub returns-clause-after : goal.returns-clause-after
returns-clause-after c =
    let a = c.self.inside in
    let places = a.places.items in
    let p = c.unwrap-place.result in
    let kept = c.self.invariant.0 in
    let popped : a.free.items ≡ c.pop.new.self.items ++ p ∷ [] = c.pop.ensures.items ∙ ap (λ o. c.pop.new.self.items ++ option_to_list o) c.unwrap-place.ensures in
    let free = all_last (IsFree places) c.pop.new.self.items p (subst (λ l. All (IsFree places) l) popped kept.empty) in
    let there = c.index_mut.ensures.value ∙ get_or_default places p _ nowhere free.there in
    let pipe : PipeOf Item = new_pipe (a.created + 1) c.args.name.now c.args.owner c.args.depth in
    let holds : c.fill.new.self.pipe ≡ Some pipe = ap (λ (s : PlaceState). s.pipe) c.fill.ensures in
    let room : c.fill.new.self.room ≡ a.depth = ap (λ (s : PlaceState). s.room) c.fill.ensures ∙ ap (λ (s : PlaceState). s.room) there ∙ room_at a.depth places p free.there kept.rooms in
    let next = a.created + 1 in
    ap (λ l. table_of a.depth (set places p c.fill.new.self) l c.push_reserved-2.new.self.items next) c.push_reserved.ensures.items
    ∙ ap (λ l. table_of a.depth (set places p c.fill.new.self) (a.live.items ++ next ∷ []) l next) c.push_reserved-2.ensures.items
    ∙ created_table a.depth places a.live.items a.at.items a.free.items c.pop.new.self.items a.created next p c.fill.new.self pipe kept popped holds room refl refl
    ∙ ap (λ (t : Pipes). record t { live = t.live ++ new_pipe (t.created + 1) c.args.name.now c.args.owner c.args.depth ∷ []; places = t.places ++ (t.created + 1, p) ∷ []; created = t.created + 1 }) c.self.view_is
