-- What is read off the three tables is what contracts see of them.
use Rattle.std.proofs.Common.{◌≡◌, ℕ, ◌+◌, Bool, true, false, ◌&&◌, ◌||◌, cond, eqb, List, [], ◌∷◌, length, map, find, Option, Some, None, is_some, refl, ap, sym, ◌∙◌}
use Rattle.std.proofs.lemmas.List.{length-map}
use Rattle.std.specs.List.{list_any}
use Rattle.std.specs.Option.{option_map, option_and_then}
use Rattle.std.specs.Str.{bytes_eq}
use Rattle.fsw_base.proofs.Lists.{find-map, list_any-map}
use Rattle.pipe_queue.specs.declared.item.Item.{Item}
use Rattle.routing.specs.Routing.{Route, route_from, route_of}
use Rattle.bus_routes.specs.declared.tables.ItemRow.{ItemRow}
use Rattle.bus_words.specs.Pipes.{pipe_at, owns, oldest_on, last_on, PipeOf, pipe_named, first_owned}
use Rattle.bus_words.proofs.PipeItems.{oldest_on-map, last_on-map}
use Rattle.bus_routes.specs.Rows.{Row, last_row_item, has_way, way_from}
use Rattle.bus_routes.specs.Inside.{item_in, row_in, way_in}

-- whether a pipe is the application's
pub owns_there : (rows : List (PipeOf Item)) (app number : ℕ) → owns rows app number ≡ owns (map row_in rows) app number
owns_there rows app number = sym (list_any-map (λ (row : Row). eqb row.number number && eqb row.owner app) row_in rows)

-- what the first row that passes tells
told_there : {U : Type 0} (p : Row → Bool) (f : PipeOf Item → U) (g : Row → U) → ((row : PipeOf Item) → f row ≡ g (row_in row)) → (rows : List (PipeOf Item)) →
    option_map f (find (λ row. p (row_in row)) rows) ≡ option_map g (find p (map row_in rows))
told_there {U} p f g same rows = by_row (find (λ row. p (row_in row)) rows) ∙ ap (λ o. option_map g o) (sym (find-map p row_in rows))
  where
    by_row : (o : Option (PipeOf Item)) → option_map f o ≡ option_map g (option_map row_in o)
    by_row None = refl
    by_row (Some row) = ap Some (same row)

-- the option bits of a pipe
pub bits_there : (rows : List (PipeOf Item)) (number : ℕ) →
    ◌≡◌ {A = Option ℕ} (option_map (λ row. row.bits) (pipe_at rows number)) (option_map (λ row. row.bits) (pipe_at (map row_in rows) number))
bits_there rows number = told_there (λ row. eqb row.number number) (λ row. row.bits) (λ row. row.bits) (λ row. refl) rows

-- its name
pub name_there : (rows : List (PipeOf Item)) (number : ℕ) →
    ◌≡◌ {A = Option (List ℕ)} (option_map (λ row. row.name) (pipe_at rows number)) (option_map (λ row. row.name) (pipe_at (map row_in rows) number))
name_there rows number = told_there (λ row. eqb row.number number) (λ row. row.name) (λ row. row.name) (λ row. refl) rows

-- how many items wait on it
pub waiting_there : (rows : List (PipeOf Item)) (number : ℕ) →
    ◌≡◌ {A = Option ℕ} (option_map (λ row. length row.queue) (pipe_at rows number)) (option_map (λ row. length row.queue) (pipe_at (map row_in rows) number))
waiting_there rows number = told_there (λ row. eqb row.number number) (λ row. length row.queue) (λ row. length row.queue) (λ row. sym (length-map row.queue item_in)) rows

-- the number of the first pipe of a name
pub find_there : (rows : List (PipeOf Item)) (name : List ℕ) →
    ◌≡◌ {A = Option ℕ} (option_map (λ row. row.number) (pipe_named rows name)) (option_map (λ row. row.number) (find (λ row. bytes_eq row.name name) (map row_in rows)))
find_there rows name = told_there (λ row. bytes_eq row.name name) (λ row. row.number) (λ row. row.number) (λ row. refl) rows

-- the number of the first pipe of an owner
pub first_there : (rows : List (PipeOf Item)) (app : ℕ) →
    ◌≡◌ {A = Option ℕ} (option_map (λ row. row.number) (first_owned rows app)) (option_map (λ row. row.number) (find (λ row. eqb row.owner app) (map row_in rows)))
first_there rows app = told_there (λ row. eqb row.owner app) (λ row. row.number) (λ row. row.number) (λ row. refl) rows

-- the oldest item on a pipe
pub oldest_there : (rows : List (PipeOf Item)) (number : ℕ) → option_map item_in (oldest_on rows number) ≡ oldest_on (map row_in rows) number
oldest_there rows number = sym (oldest_on-map item_in rows number)

-- the item that was received last on a pipe
pub last_there : (rows : List (PipeOf Item)) (number : ℕ) → option_map item_in (last_on rows number) ≡ last_on (map row_in rows) number
last_there rows number = sym (last_on-map item_in rows number)

-- to the application alone it is told
pub last_owned : (rows : List (PipeOf Item)) (app number : ℕ) → owns rows app number ≡ true →
    option_map item_in (option_and_then (λ row. row.last) (pipe_at rows number)) ≡ last_row_item (map row_in rows) app number
last_owned rows app number owned =
    last_there rows number
    ∙ ap (λ b. cond {A = Option ItemRow} b (option_and_then (λ (row : Row). row.last) (pipe_at (map row_in rows) number)) None) (sym owned ∙ owns_there rows app number)

pub last_foreign : (rows : List (PipeOf Item)) (app number : ℕ) → owns rows app number ≡ false → None ≡ last_row_item (map row_in rows) app number
last_foreign rows app number foreign =
    ap (λ b. cond {A = Option ItemRow} b (option_and_then (λ (row : Row). row.last) (pipe_at (map row_in rows) number)) None) (sym foreign ∙ owns_there rows app number)

-- whether an id has a route, wherever their numbers begin
pub route_there : (number : ℕ) (routes : List Route) (id : ℕ) → is_some (route_from number routes id) ≡ list_any (λ route. eqb route.id id) (map way_in routes)
route_there number [] id = refl
route_there number (route ∷ routes) id = by_test (eqb route.id id) (route_there (number + 1) routes id)
  where
    by_test : (b : Bool) → is_some (route_from (number + 1) routes id) ≡ has_way (map way_in routes) id →
        is_some (cond {A = Option ℕ} b (Some number) (route_from (number + 1) routes id)) ≡ (b || has_way (map way_in routes) id)
    by_test true ih = refl
    by_test false ih = ih

pub way_there : (routes : List Route) (id : ℕ) → is_some (route_of routes id) ≡ has_way (map way_in routes) id
way_there routes id = route_there 0 routes id

-- the place of an id's route, wherever places begin
pub place_there : (number : ℕ) (routes : List Route) (id : ℕ) → way_from number (map way_in routes) id ≡ route_from number routes id
place_there number [] id = refl
place_there number (route ∷ routes) id = ap (cond {A = Option ℕ} (eqb route.id id) (Some number)) (place_there (number + 1) routes id)
