-- The box before the first call.
use Rattle.std.proofs.Common.{◌≡◌, ℕ, ◌-◌, ◌<◌, ◌≤◌, false, List, [], length, replicate, refl, sym, ◌∙◌, subst, arith}
use Rattle.std.proofs.lemmas.List.{get_or-replicate, length-replicate}
use Rattle.fsw_base.specs.Limits.{Limits}
use Rattle.table_blocks.specs.Held.{HeldViews}
use Rattle.table_core.specs.Core.{Plain, Holds}
use Rattle.checked_tables.specs.Box.{Keeps, no_bag, opened}
use Rattle.checked_tables.proofs.Kept.{boxed}

abbrev empty : Limits → HeldViews
empty limits = record { views = []; room = limits.handles }

holds-empty : (limits : Limits) (apps app : ℕ) → Holds (opened limits apps) app (empty limits)
holds-empty limits apps app = record { seen = λ number. refl; counted = refl; room = omega arith }

pub kept-new : (limits : Limits) (apps : ℕ) (core : Plain) (bags : List HeldViews) → apps ≤ 16 → core ≡ opened limits apps → bags ≡ replicate apps (empty limits) → Keeps (boxed core bags)
kept-new limits apps core bags few is are =
    let many : length (opened limits apps).state.ended ≡ apps = length-replicate apps false in
    let Of : Plain → Type 0 = λ c. Keeps (boxed c bags) in
    let With : List HeldViews → Type 0 = λ bs. Keeps (boxed (opened limits apps) bs) in
    subst Of (sym is) (subst With (sym are) (record {
      few = omega (arith, many, few);
      counted = length-replicate apps (empty limits) ∙ sym many;
      own = λ app first known.
          let within : app - 1 < apps = omega (arith, first, known, many) in
          subst (Holds (opened limits apps) app) (sym (get_or-replicate apps (app - 1) (empty limits) no_bag within)) (holds-empty limits apps app);
    }))
