use Rattle.std.proofs.Common.{arith, sym, ap, ◌∙◌, ◌%◌}
use Rattle.turn_lock.proofs.LeavesTurns.{hear_keeps}
use Rattle.turn_lock.proofs.board.Board.hear.Goals as goal

pub load-found-requires : goal.load-found-requires
load-found-requires g c = (
  c.requires.table,
  omega (arith, c.args.self.now.two),
  hear_keeps g.T.Historied.fixed g.T.Historied.history g.T.Historied.awaited (g.T.Historied.fixed c.args.self.now.table.shared.key.value) c.args.self.now.table.shared.table_id.slots c.args.place.now.id c.args.place.now.me c.requires.served,
)
