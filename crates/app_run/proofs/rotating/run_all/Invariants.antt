use Rattle.std.proofs.Common.{◌≡◌, length}
use Rattle.app_run.specs.Rounds.{RotatesTimes, AllEquipped, equipped}
use Rattle.app_run.proofs.TurnLaws.{both}
use Rattle.app_run.proofs.rotating.run_all.Given as goal

-- so many rotations were made, and each bag is its application's
abbrev pub invariant-loop-round : goal.invariant-loop-round
invariant-loop-round g l =
    RotatesTimes l._round (both l.fn.bus l.fn.tables) (equipped l.fn.runners.items l.fn.bags.items l.fn.held.items) (both l.bus l.tables) (equipped l.runners.items l.bags.items l.held.items)
    × AllEquipped (both l.bus l.tables) l.bags.items l.held.items
    × (length l.bags.items ≡ length l.runners.items)
    × (length l.held.items ≡ length l.runners.items)
    × (length l.runners.items ≡ length l.fn.runners.items)
