-- The tables with the bags of their applications.
use Rattle.std.specs.Prelude.{◌≡◌, ℕ, ◌-◌, ◌≤◌, ◌==◌, false, List, [], length, replicate, slice_index_or, slice_set, Option, None, if◌then◌else◌}
use Rattle.std.specs.Option.{option_map, option_and_then}
use Rattle.fsw_base.specs.Limits.{Limits}
use Rattle.tbl_words.specs.Tables.{handle_at, opening}
use Rattle.table_blocks.specs.Held.{HeldViews, held_at}
use Rattle.table_core.specs.Core.{Plain, Holds}

-- the tables, and the bag of each application, from application 1
pub record Boxed : Type 0 where
  pub core : Plain
  pub bags : List HeldViews

-- how many applications the tables serve
abbrev pub apps_in : Plain → ℕ
apps_in core = length core.state.ended

-- the tables of so many applications on which no call was made
abbrev pub opened : Limits → ℕ → Plain
opened limits apps = record { limits = limits; state = opening limits apps; lent = [] }

-- a bag for each of so many applications, empty, with room for so many views
abbrev pub empty_bags : ℕ → ℕ → List HeldViews
empty_bags apps views = replicate apps (record { views = []; room = views })

-- a bag with nothing in it, and room for nothing
abbrev pub no_bag : HeldViews
no_bag = record { views = []; room = 0 }

-- the bag of an application
abbrev pub bag_in : List HeldViews → ℕ → HeldViews
bag_in bags app = slice_index_or bags (app - 1) no_bag

abbrev pub bag_of : Boxed → ℕ → HeldViews
bag_of box app = bag_in box.bags app

-- every other application's bag stays
abbrev pub KeepsOtherBags : Boxed → Boxed → ℕ → Type 0
KeepsOtherBags old new app = new.bags ≡ slice_set old.bags (app - 1) (bag_of new app)

-- the bag shows what it showed of every other handle
abbrev pub KeepsOtherViews : HeldViews → HeldViews → ℕ → Type 0
KeepsOtherViews old new handle =
    (other : ℕ) → (handle == other) ≡ false → held_at new other ≡ held_at old other

-- there are 16 applications at most, and one bag for each, which is the application's
pub record Keeps (box : Boxed) : Type 0 where
  pub few : apps_in box.core ≤ 16
  pub counted : length box.bags ≡ apps_in box.core
  pub own : (app : ℕ) → 1 ≤ app → app ≤ apps_in box.core → Holds box.core app (bag_of box app)

-- what a handle of the application's holds, if it holds something
abbrev pub held_value : Plain → ℕ → ℕ → Option (List ℕ)
held_value core app handle =
    option_and_then
    (λ h. if h.app == app then option_map (λ hold. hold.value) h.hold else None)
    (handle_at core.state.handles handle)
