use Rattle.std.proofs.Common.{arith}
use Rattle.turn_lock.proofs.LeavesTurns.{pass_keeps_as}
use Rattle.turn_lock.proofs.board.Board.free.Goals as goal

pub swap-requires : goal.swap-requires
swap-requires g c = let full = c.requires.full in (
  c.requires.table,
  omega (arith, c.args.self.now.two),
  pass_keeps_as g.T.Historied.fixed g.T.Historied.history g.T.Historied.awaited (g.T.Historied.fixed c.args.self.now.table.shared.key.value) c.args.self.now.table.shared.table_id.slots c.args.place.now.id c.args.place.now.me g.N.TurnEnd.log g.N.TurnEnd.way full.0 full.1 c.args.self.now.one c.requires.served full.2 full.3 full.4 c.requires.grows,
)
