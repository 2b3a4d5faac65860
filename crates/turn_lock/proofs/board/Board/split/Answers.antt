use Rattle.std.proofs.Common.{arith}
use Rattle.turn_lock.proofs.SplitsJoins.{split_keeps}
use Rattle.turn_lock.proofs.board.Board.split.Goals as goal

pub split_seat-requires : goal.split_seat-requires
split_seat-requires g c = let main = c.requires.main in (
  c.requires.table,
  omega (arith, c.args.self.now.two),
  split_keeps g.T.Historied.fixed g.T.Historied.history g.T.Historied.awaited (g.T.Historied.fixed c.args.self.now.table.shared.key.value) c.args.main.now.id g.N.NamedApp.app c.args.main.now.me.0 main.0 main.1 main.2,
)
