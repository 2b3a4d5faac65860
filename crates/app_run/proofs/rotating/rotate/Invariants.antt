use Rattle.std.proofs.Common.{◌≡◌, length}
use Rattle.app_run.specs.Rounds.{AreTurned, AllEquipped, equipped}
use Rattle.app_run.proofs.TurnLaws.{both}
use Rattle.app_run.proofs.rotating.rotate.Given as goal

-- the applications so far took their turns, and each bag is its application's
abbrev pub invariant-loop-i : goal.invariant-loop-i
invariant-loop-i g l =
    AreTurned l.i (both l.fn.bus l.fn.tables) (equipped l.fn.runners.items l.fn.bags.items l.fn.held.items) (both l.bus l.tables) (equipped l.runners.items l.bags.items l.held.items)
    × AllEquipped (both l.bus l.tables) l.bags.items l.held.items
    × (length l.bags.items ≡ length l.fn.bags.items)
    × (length l.held.items ≡ length l.fn.held.items)
    × (length l.runners.items ≡ length l.fn.runners.items)
