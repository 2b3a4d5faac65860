-- A bag with nothing in it, and room for a view of each pipe, is each application's on a bus on which no call was made.
use Rattle.std.proofs.Common.{◌≡◌, ℕ, zero, suc, ◌-◌, ◌≤◌, ◌==◌, List, [], length, find, replicate, slice_index_or, refl, ap, sym, ◌∙◌, subst}
use Rattle.std.specs.Option.{option_map}
use Rattle.lend_block.specs.Loan.{LentBytes}
use Rattle.buf_desc.specs.Block.{Unsent}
use Rattle.buf_desc.specs.Held.{Holding, view_at}
use Rattle.bus_words.specs.declared.history.Entry.{Entry}
use Rattle.bus_words.specs.Bus.{Buffer}
use Rattle.bus_messages.specs.Bag.{Shape, shape_of}
use Rattle.bus_messages.specs.Words.{desc_of, size_for}
use Rattle.sb_calls.specs.Bags.{HasBag, descs_of}
use Rattle.sb_calls.specs.Core.{Core, apps_of}

no-buffers : (n i : ℕ) → slice_index_or (replicate {A = List Buffer} n []) i [] ≡ []
no-buffers zero i = refl
no-buffers (suc n) zero = refl
no-buffers (suc n) (suc i) = no-buffers n i

abbrev the_shape : ℕ → ℕ → ℕ → Shape
the_shape desc size asked = record { desc = desc; size = size; asked = asked }

-- the same bus with no entry
abbrev unused : Core → Core
unused core = record core { log = record core.log { entries = [] } }

pub opens : (core : Core) (app : ℕ) (bag : Holding LentBytes) → core.log.entries ≡ [] → 1 ≤ app → bag.views ≡ [] → bag.buffers ≡ [] → core.limits.pipes ≤ bag.view_room → HasBag core app bag
opens core app bag none first no_views no_blocks room =
    subst (λ (entries : List Entry). HasBag (record core { log = record core.log { entries = entries } }) app bag) (sym none)
    (record {
      views = record {
        seen = λ pipe. ap (λ (views : List (ℕ × LentBytes)). view_at (record bag { views = views }) pipe) no_views;
        counted = ap (λ (views : List (ℕ × LentBytes)). length views) no_views;
        room = room;
      };
      buffers = record {
        known = first;
        due = λ number.
            ap (λ (blocks : List Unsent). option_map shape_of (find (λ (b : Unsent). b.number == number) blocks)) no_blocks
            ∙ ap (λ (bs : List Buffer). option_map (λ (b : Buffer). the_shape (desc_of (descs_of (unused core)) number) (size_for core.limits.sizes b.size) b.size) (find (λ (b : Buffer). b.number == number) bs))
            (sym (no-buffers (apps_of core) (app - 1)));
      };
    })
