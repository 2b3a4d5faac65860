use Rattle.std.proofs.Common.{arith}
use Rattle.turn_lock.proofs.LeavesTurns.{ring_keeps}
use Rattle.turn_lock.proofs.board.Board.strike.Goals as goal

pub fetch_add-requires : goal.fetch_add-requires
fetch_add-requires g c = (
  c.requires.table,
  omega (arith, c.args.self.now.two),
  ring_keeps g.T.Historied.fixed g.T.Historied.history g.T.Historied.awaited (g.T.Historied.fixed c.args.self.now.table.shared.key.value) c.args.self.now.table.shared.table_id.slots c.args.place.id c.args.place.me c.requires.owes,
)
