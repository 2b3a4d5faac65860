use Rattle.std.proofs.Common.{arith}
use Rattle.turn_lock.proofs.SplitsJoins.{join_keeps}
use Rattle.turn_lock.proofs.board.Board.glue.Goals as goal

pub join_seat-requires : goal.join_seat-requires
join_seat-requires g c = let table = c.requires.table in let other = c.requires.other in (
  table.0,
  table.1,
  other.1,
  omega (arith, c.args.self.now.two),
  join_keeps g.T.Historied.fixed g.T.Historied.history g.T.Historied.awaited (g.T.Historied.fixed c.args.self.now.table.shared.key.value) c.args.main.now.id c.args.other.id c.args.main.now.me.0 c.args.other.me.0 c.requires.main other.0,
)
