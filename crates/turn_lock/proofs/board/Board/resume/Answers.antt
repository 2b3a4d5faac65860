use Rattle.std.proofs.Common.{arith}
use Rattle.turn_lock.proofs.SplitsJoins.{resume_keeps}
use Rattle.turn_lock.proofs.board.Board.resume.Goals as goal

pub split_seat-requires : goal.split_seat-requires
split_seat-requires g c = (
  c.requires.table,
  omega (arith, c.args.self.now.two),
  resume_keeps g.T.Historied.fixed g.T.Historied.history g.T.Historied.awaited (g.T.Historied.fixed c.args.self.now.table.shared.key.value) c.args.main.now.id c.args.main.now.me.0 c.requires.main c.requires.one,
)
