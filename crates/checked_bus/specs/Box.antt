-- The bus with the bags of its applications.
use Rattle.std.specs.Prelude.{◌≡◌, ℕ, ◌-◌, ◌≤◌, List, [], length, replicate, slice_index_or, slice_set, Option, None, if◌then◌else◌}
use Rattle.std.specs.List.{All}
use Rattle.std.specs.Option.{option_map}
use Rattle.fsw_base.specs.Limits.{Limits}
use Rattle.lend_block.specs.Loan.{LentBytes}
use Rattle.buf_desc.specs.Held.{Holding}
use Rattle.bus_words.specs.Acts.{opening_whole}
use Rattle.bus_words.specs.Bus.{State, owns}
use Rattle.bus_words.specs.Held.{buffers_in}
use Rattle.bus_words.specs.Pipes.{last_on}
use Rattle.bus_core.specs.Core.{Plain, apps_in}
use Rattle.bus_core.specs.Bags.{HasBag}

-- the bus, and the bag of each application, from application 1, with a seat of each unsent buffer
pub record Boxed : Type 0 where
  pub core : Plain
  pub bags : List (Holding LentBytes)

-- the bus of so many applications on which no call was made
abbrev pub opened : Limits → ℕ → Plain
opened limits apps = record {
  limits = limits;
  whole = opening_whole limits apps;
  loans = [];
  descs = [];
}

-- a bag for each of so many applications, empty, with room for so many views and buffers
abbrev pub empty_bags : ℕ → ℕ → ℕ → List (Holding LentBytes)
empty_bags apps views buffers =
    replicate apps
    (record { views = []; buffers = []; view_room = views; buffer_room = buffers })

-- a bag with nothing in it, and room for nothing
abbrev pub no_bag : Holding LentBytes
no_bag = record { views = []; buffers = []; view_room = 0; buffer_room = 0 }

-- the bag of an application, among those from application 1
abbrev pub bag_in : List (Holding LentBytes) → ℕ → Holding LentBytes
bag_in bags app = slice_index_or bags (app - 1) no_bag

-- the bag of an application of the box
abbrev pub bag_of : Boxed → ℕ → Holding LentBytes
bag_of box app = bag_in box.bags app

-- the bag of every other application stays
abbrev pub KeepsOtherBags : Boxed → Boxed → ℕ → Type 0
KeepsOtherBags old new app = new.bags ≡ slice_set old.bags (app - 1) (bag_of new app)

-- of the application's own bag, the views alone may be others
abbrev pub KeepsOwnBuffers : Boxed → Boxed → ℕ → Type 0
KeepsOwnBuffers old new app =
    bag_of new app ≡ record (bag_of old app) { views = (bag_of new app).views }

-- of the application's own bag, the buffers alone may be others
abbrev pub KeepsOwnViews : Boxed → Boxed → ℕ → Type 0
KeepsOwnViews old new app =
    bag_of new app ≡ record (bag_of old app) { buffers = (bag_of new app).buffers }

-- each unsent buffer has a number that was given
abbrev pub AreGiven : State → Type 0
AreGiven s = All (λ buffer. buffer.number ≤ s.numbers_given) (buffers_in s.unsent)

-- there are at most 16 applications, and each has its bag; each unsent buffer has a number that was
-- given
pub record Keeps (box : Boxed) : Type 0 where
  pub few : apps_in box.core ≤ 16
  pub given : AreGiven box.core.whole.bus
  pub counted : length box.bags ≡ apps_in box.core
  pub own : (app : ℕ) → 1 ≤ app → app ≤ apps_in box.core → HasBag box.core app (bag_of box app)

-- the message that the application received last on a pipe of its own, if it received one
abbrev pub last_message : Plain → ℕ → ℕ → Option (List ℕ)
last_message core app pipe =
    if owns core.whole.bus.pipes app pipe
    then option_map (λ item. item.message) (last_on core.whole.bus.pipes pipe) else None
