use Rattle.std.proofs.Common.{◌≡◌, ℕ, ◌+◌, ◌%◌, Bool, true, false, cond, eqb, List, [], ◌∷◌, map, Option, Some, None, refl, ap, sym, ◌∙◌}
use Rattle.bus_words.specs.Acts.{next_in}
use Rattle.bus_routes.specs.Rows.{RouteRow, counted_on, way_from, way_of}
use Rattle.bus_routes.specs.Tables.{Tables}
use Rattle.bus_messages.specs.Words.{next_of}
use Rattle.bus_messages.proofs.NewBlocks.{next_in-rows}
use Rattle.bus_messages.proofs.sending.next_count.Goals as goal

-- a route stands if it stood once it has given a count more
stays : (routes : List RouteRow) (id place : ℕ) → way_from place (counted_on routes id) id ≡ way_from place routes id
stays [] id place = refl
stays (route ∷ routes) id place = by_test (eqb route.id id) refl (stays routes id (place + 1))
  where
    by_test : (b : Bool) → eqb route.id id ≡ b → way_from (place + 1) (counted_on routes id) id ≡ way_from (place + 1) routes id →
        way_from place (cond {A = List RouteRow} b (record route { counted = (route.counted + 1) % 16384 } ∷ routes) (route ∷ counted_on routes id)) id
        ≡ cond {A = Option ℕ} b (Some place) (way_from (place + 1) routes id)
    by_test true test rest = ap (λ b. cond {A = Option ℕ} b (Some place) (way_from (place + 1) routes id)) test
    by_test false test rest = ap (λ b. cond {A = Option ℕ} b (Some place) (way_from (place + 1) (counted_on routes id) id)) test ∙ rest

pub returns-then-inc-clause-count : goal.returns-then-inc-clause-count
returns-then-inc-clause-count c =
    let t = c.args.tables.now in
    ap Some (c.next_count.ensures.count ∙ sym (next_in-rows t.room.starts t.routes c.args.way.id c.requires.some))
    ∙ sym (ap (λ b. cond {A = Option ℕ} b (Some (next_in (map (next_of t.room.starts) t.routes) c.args.way.id)) None) c.if-inc.true)

pub returns-then-inc-clause-way : goal.returns-then-inc-clause-way
returns-then-inc-clause-way c =
    ap (λ (t : Tables). way_of t.routes c.args.way.id) c.next_count.ensures.after
    ∙ stays c.args.tables.now.routes c.args.way.id 0
    ∙ c.requires.way
