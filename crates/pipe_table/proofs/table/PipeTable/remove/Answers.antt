use Rattle.std.proofs.Common.{◌≡◌, ◌<◌, ℕ, List, length, set, get_or, Some, None, ap, sym, ◌∙◌, subst, arith}
use Rattle.std.specs.List.{remove}
use Rattle.std.proofs.lemmas.List.{get_or_default, get_or_read, length-set, length_push}
use Rattle.bus_words.specs.Pipes.{without_pipe}
use Rattle.pipe_table.specs.Table.{Pipes, without_place}
use Rattle.pipe_table.specs.Inside.{PlaceState, AreKept, table_of}
use Rattle.pipe_table.proofs.NumberedPipes.{ordered, as_many, under_index, under_none, stands_under, nowhere}
use Rattle.pipe_table.proofs.Changes.{removed_table, removed_kept, room_at, unremoved}
use Rattle.pipe_table.proofs.table.PipeTable.remove.Goals as goal

pub index_of-requires : goal.index_of-requires
index_of-requires c = (ordered c.self.inside.places.items c.self.inside.live.items c.self.inside.at.items c.self.invariant.0.filed).rising

pub remove-at-requires : goal.remove-at-requires
remove-at-requires c =
    let a = c.self.inside in
    let at : (c.in-Some.index < length a.live.items) × (get_or a.live.items c.in-Some.index 0 ≡ c.args.number) = c.in-Some.ensures.some in
    omega (arith, at.0, as_many 0 a.places.items a.live.items a.at.items c.self.invariant.0.filed, a.at.ok.0)

pub index_mut-requires : goal.index_mut-requires
index_mut-requires c =
    let a = c.self.inside in
    let places = a.places.items in
    let kept = c.self.invariant.0 in
    let i = c.in-Some.index in
    let at : (i < length a.live.items) × (get_or a.live.items i 0 ≡ c.args.number) = c.in-Some.ensures.some in
    let p = c.remove-at.result in
    let both = as_many 0 places a.live.items a.at.items kept.filed in
    let place : p ≡ get_or a.at.items i 0 = get_or_read a.at.items i p (omega (arith, at.0, both)) c.remove-at.ensures.value 0 in
    let under = under_index 0 a.live.items a.at.items i c.args.number (ordered places a.live.items a.at.items kept.filed).rising both at.0 at.1 ∙ ap Some (sym place) in
    let within : p < length places = (stands_under 0 places a.live.items a.at.items c.args.number p kept.filed under).there in
    omega (arith, within, a.places.ok.0)

pub push_reserved-requires : goal.push_reserved-requires
push_reserved-requires c =
    let a = c.self.inside in
    let places = a.places.items in
    let kept = c.self.invariant.0 in
    let i = c.in-Some.index in
    let at : (i < length a.live.items) × (get_or a.live.items i 0 ≡ c.args.number) = c.in-Some.ensures.some in
    let p = c.remove-at.result in
    let both = as_many 0 places a.live.items a.at.items kept.filed in
    let place : p ≡ get_or a.at.items i 0 = get_or_read a.at.items i p (omega (arith, at.0, both)) c.remove-at.ensures.value 0 in
    let under = under_index 0 a.live.items a.at.items i c.args.number (ordered places a.live.items a.at.items kept.filed).rising both at.0 at.1 ∙ ap Some (sym place) in
    let within : p < length places = (stands_under 0 places a.live.items a.at.items c.args.number p kept.filed under).there in
    let there = c.index_mut.ensures.value ∙ get_or_default places p _ nowhere within in
    let holds : c.clear.new.self.pipe ≡ None = ap (λ (s : PlaceState). s.pipe) c.clear.ensures in
    let room : c.clear.new.self.room ≡ a.depth = ap (λ (s : PlaceState). s.room) c.clear.ensures ∙ ap (λ (s : PlaceState). s.room) there ∙ room_at a.depth places p within kept.rooms in
    let counted = (removed_kept a.depth places a.live.items a.at.items a.free.items a.created i p c.clear.new.self kept at.0 place holds room).all in
    omega (arith, counted, length_push a.free.items p, length-set places p c.clear.new.self, c.self.invariant.1, a.free.ok.0)

pub invariant_of-self : goal.invariant_of-self
invariant_of-self c =
    let a = c.self.inside in
    let places = a.places.items in
    let kept = c.self.invariant.0 in
    let i = c.in-Some.index in
    let at : (i < length a.live.items) × (get_or a.live.items i 0 ≡ c.args.number) = c.in-Some.ensures.some in
    let p = c.remove-at.result in
    let both = as_many 0 places a.live.items a.at.items kept.filed in
    let place : p ≡ get_or a.at.items i 0 = get_or_read a.at.items i p (omega (arith, at.0, both)) c.remove-at.ensures.value 0 in
    let under = under_index 0 a.live.items a.at.items i c.args.number (ordered places a.live.items a.at.items kept.filed).rising both at.0 at.1 ∙ ap Some (sym place) in
    let within : p < length places = (stands_under 0 places a.live.items a.at.items c.args.number p kept.filed under).there in
    let there = c.index_mut.ensures.value ∙ get_or_default places p _ nowhere within in
    let holds : c.clear.new.self.pipe ≡ None = ap (λ (s : PlaceState). s.pipe) c.clear.ensures in
    let room : c.clear.new.self.room ≡ a.depth = ap (λ (s : PlaceState). s.room) c.clear.ensures ∙ ap (λ (s : PlaceState). s.room) there ∙ room_at a.depth places p within kept.rooms in
    let all = length-set places p c.clear.new.self in
    let K : List ℕ → List ℕ → List ℕ → Type 0 = λ l m n. AreKept a.depth (set places p c.clear.new.self) l m n a.created in (
      subst (λ l. K l c.remove-at.new.self.items c.push_reserved.new.self.items) (sym c.remove.ensures.items)
          (subst (λ m. K (remove a.live.items i) m c.push_reserved.new.self.items) (sym c.remove-at.ensures.items)
          (subst (K (remove a.live.items i) (remove a.at.items i)) (sym c.push_reserved.ensures.items)
          (removed_kept a.depth places a.live.items a.at.items a.free.items a.created i p c.clear.new.self kept at.0 place holds room))),
      omega (arith, c.self.invariant.1, all, c.push_reserved.ensures.capacity),
      omega (arith, c.self.invariant.2, all, c.remove.ensures.capacity),
      omega (arith, c.self.invariant.3, all, c.remove-at.ensures.capacity),
    )

pub returns-in-Some : goal.returns-in-Some
returns-in-Some c =
    let a = c.self.inside in
    let places = a.places.items in
    let kept = c.self.invariant.0 in
    let i = c.in-Some.index in
    let at : (i < length a.live.items) × (get_or a.live.items i 0 ≡ c.args.number) = c.in-Some.ensures.some in
    let p = c.remove-at.result in
    let both = as_many 0 places a.live.items a.at.items kept.filed in
    let place : p ≡ get_or a.at.items i 0 = get_or_read a.at.items i p (omega (arith, at.0, both)) c.remove-at.ensures.value 0 in
    let under = under_index 0 a.live.items a.at.items i c.args.number (ordered places a.live.items a.at.items kept.filed).rising both at.0 at.1 ∙ ap Some (sym place) in
    let within : p < length places = (stands_under 0 places a.live.items a.at.items c.args.number p kept.filed under).there in
    let there = c.index_mut.ensures.value ∙ get_or_default places p _ nowhere within in
    let holds : c.clear.new.self.pipe ≡ None = ap (λ (s : PlaceState). s.pipe) c.clear.ensures in
    let room : c.clear.new.self.room ≡ a.depth = ap (λ (s : PlaceState). s.room) c.clear.ensures ∙ ap (λ (s : PlaceState). s.room) there ∙ room_at a.depth places p within kept.rooms in
    let gone : Pipes → ℕ → Pipes = λ t n. record t { live = without_pipe n t.live; places = without_place n t.places } in
    ap (λ l. table_of a.depth (set places p c.clear.new.self) l c.remove-at.new.self.items a.created) c.remove.ensures.items
    ∙ ap (λ l. table_of a.depth (set places p c.clear.new.self) (remove a.live.items i) l a.created) c.remove-at.ensures.items
    ∙ removed_table a.depth places a.live.items a.at.items a.free.items a.created i p c.clear.new.self kept at.0 place holds room
    ∙ ap (gone (table_of a.depth places a.live.items a.at.items a.created)) at.1
    ∙ ap (λ (t : Pipes). gone t c.args.number) c.self.view_is

pub returns-in_default : goal.returns-in_default
returns-in_default c =
    let a = c.self.inside in
    sym c.self.view_is
    ∙ unremoved a.depth a.places.items a.live.items a.at.items a.created c.args.number c.self.invariant.0.filed (under_none a.live.items a.at.items c.args.number (c.index_of.ensures.none c.in_default.is))
    ∙ ap (λ (t : Pipes). record t { live = without_pipe c.args.number t.live; places = without_place c.args.number t.places }) c.self.view_is
