-- What an audit was shown, if it tells.
use base.Fml.{GName}
use Rattle.std.specs.Prelude.{◌≡◌, ◌⊎◌, List, [], ◌∷◌, ◌++◌, Option, None}
use Rattle.std.specs.Option.{option_map}
use Rattle.script_runs.specs.Histories.{Histories}

-- The histories of the run were put behind those shown before, or nothing is shown from now on.
abbrev pub IsShown : Option (List Histories) → Option (List Histories) → Histories → Type 0
IsShown old new histories = (new ≡ option_map (λ shown. shown ++ histories ∷ []) old) ⊎ (new ≡ None)

-- An audit behind a guard: which audit it is, and the histories that it was shown, if it shows
-- them.
pub record GuardedAudit : Type 0 where
  pub audit : GName
  pub shown : Option (List Histories)
