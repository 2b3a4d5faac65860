-- The box before the first call.
use Rattle.std.proofs.Common.{◌≡◌, ℕ, zero, suc, ◌-◌, ◌==◌, ◌<◌, ◌≤◌, List, [], length, slice_index_or, replicate, refl, ap, sym, ◌∙◌, subst, arith}
use Rattle.std.proofs.lemmas.List.{get_or-replicate, length-replicate}
use Rattle.std.specs.Prelude.{find}
use Rattle.std.specs.List.{All}
use Rattle.std.specs.Option.{option_map}
use Rattle.std.proofs.lemmas.List.Elements.{All-nil, All-same}
use Rattle.fsw_base.specs.Limits.{Limits}
use Rattle.bus_words.specs.Bus.{Buffer, Active}
use Rattle.bus_words.specs.Held.{buffers_in}
use Rattle.bus_messages.specs.Bag.{Shape}
use Rattle.bus_messages.specs.Words.{desc_of, size_for}
use Rattle.lend_block.specs.Loan.{LentBytes}
use Rattle.buf_desc.specs.Held.{Holding}
use Rattle.bus_core.specs.Core.{Plain}
use Rattle.bus_core.specs.Bags.{HasBag}
use Rattle.checked_bus.specs.Box.{Keeps, no_bag, opened}
use Rattle.checked_bus.proofs.Kept.{boxed}

no-buffers : (n i : ℕ) → slice_index_or (replicate {A = List Buffer} n []) i [] ≡ []
no-buffers zero i = refl
no-buffers (suc n) zero = refl
no-buffers (suc n) (suc i) = no-buffers n i

abbrev the_shape : ℕ → ℕ → ℕ → Shape
the_shape desc size asked = record { desc = desc; size = size; asked = asked }

abbrev empty : Limits → ℕ → Holding LentBytes
empty limits buffers = record { views = []; buffers = []; view_room = limits.pipes; buffer_room = buffers }

has-empty : (limits : Limits) (apps app buffers : ℕ) → 1 ≤ app → HasBag (opened limits apps) app (empty limits buffers)
has-empty limits apps app buffers first = record {
  views = record { seen = λ pipe. refl; counted = refl; room = omega arith };
  buffers = record {
    known = first;
    due = λ number. ap (λ bs. option_map (λ (buffer : Buffer). the_shape (desc_of [] number) (size_for limits.sizes buffer.size) buffer.size) (find (λ (buffer : Buffer). buffer.number == number) bs))
        (sym (no-buffers apps (app - 1)));
  };
}

none_in : (n : ℕ) → buffers_in (replicate {A = List Buffer} n []) ≡ []
none_in zero = refl
none_in (suc n) = none_in n

none_given : (apps : ℕ) → All (λ (b : Buffer). b.number ≤ 0) (buffers_in (replicate {A = List Buffer} apps []))
none_given apps = All-same (λ (b : Buffer). b.number ≤ 0) (buffers_in (replicate {A = List Buffer} apps [])) [] (none_in apps) (All-nil (λ (b : Buffer). b.number ≤ 0))

pub kept-new : (limits : Limits) (apps buffers : ℕ) (core : Plain) (bags : List (Holding LentBytes)) → apps ≤ 16 → core ≡ opened limits apps → bags ≡ replicate apps (empty limits buffers) → Keeps (boxed core bags)
kept-new limits apps buffers core bags few is are =
    let many : length (opened limits apps).whole.bus.standings ≡ apps = length-replicate apps Active in
    let Of : Plain → Type 0 = λ c. Keeps (boxed c bags) in
    let With : List (Holding LentBytes) → Type 0 = λ bs. Keeps (boxed (opened limits apps) bs) in
    subst Of (sym is) (subst With (sym are) (record {
      few = omega (arith, many, few);
      given = none_given apps;
      counted = length-replicate apps (empty limits buffers) ∙ sym many;
      own = λ app first known.
          let within : app - 1 < apps = omega (arith, first, known, many) in
          subst (HasBag (opened limits apps) app) (sym (get_or-replicate apps (app - 1) (empty limits buffers) no_bag within)) (has-empty limits apps app buffers first);
    }))
