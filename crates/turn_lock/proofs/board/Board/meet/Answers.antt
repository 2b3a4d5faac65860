use Rattle.std.proofs.Common.{arith}
use Rattle.turn_lock.proofs.SplitsJoins.{meet_keeps}
use Rattle.turn_lock.proofs.board.Board.meet.Goals as goal

pub load-requires : goal.load-requires
load-requires g c = (
  c.requires.table,
  omega (arith, c.args.self.now.two),
  meet_keeps g.T.Historied.fixed g.T.Historied.history g.T.Historied.awaited (g.T.Historied.fixed c.args.self.now.table.shared.key.value) c.args.self.now.table.shared.table_id.slots c.args.main.now.id c.args.main.now.me c.requires.main,
)
