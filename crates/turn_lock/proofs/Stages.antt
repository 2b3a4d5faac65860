-- Where seats stand in a turn.
use Rattle.std.proofs.Common.{◌≡◌, true, false, true≢false, refl, sym}
use Rattle.turn_lock.specs.declared.rule.Way.{Way}
use Rattle.turn_lock.specs.declared.rule.Way.TheVariants.{AsFound, ToSleep, ToRing}
use Rattle.turn_lock.specs.declared.view.Stage.{Stage}
use Rattle.turn_lock.specs.declared.view.Stage.TheVariants.{Main, Away, Has, Owes, Spent}
use Rattle.turn_lock.specs.Views.{is_live, is_served, is_main, is_there, stage_by}

pub off : false ≡ true → ⊥
off e = true≢false (sym e)

pub served_live : (stage : Stage) → is_served stage ≡ true → is_live stage ≡ true
served_live Main e = e
served_live Away e = refl
served_live Has e = refl
served_live Owes e = refl
served_live Spent e = e

pub live_there : (stage : Stage) → is_live stage ≡ true → is_there stage ≡ true
live_there Main e = refl
live_there Away e = refl
live_there Has e = refl
live_there Owes e = refl
live_there Spent e = e

pub live_not_main : (stage : Stage) → is_live stage ≡ true → is_main stage ≡ true → ⊥
live_not_main Main e m = off e
live_not_main Away e m = off m
live_not_main Has e m = off m
live_not_main Owes e m = off m
live_not_main Spent e m = off m

-- in whichever way a seat left its turn, it is its application's, and the value is out with it no more
pub left_live : (way : Way) → is_live (stage_by way) ≡ true
left_live AsFound = refl
left_live ToSleep = refl
left_live ToRing = refl

pub left_unserved : (way : Way) → is_served (stage_by way) ≡ true → ⊥
left_unserved AsFound e = off e
left_unserved ToSleep e = off e
left_unserved ToRing e = off e

pub left_not_main : (way : Way) → is_main (stage_by way) ≡ true → ⊥
left_not_main AsFound e = off e
left_not_main ToSleep e = off e
left_not_main ToRing e = off e
