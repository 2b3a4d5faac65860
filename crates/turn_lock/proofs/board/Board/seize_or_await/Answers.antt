use Rattle.std.proofs.Common.{arith}
use Rattle.turn_lock.proofs.TakesTurns.{seize_keeps_as}
use Rattle.turn_lock.proofs.LockWords.{awaited}
use Rattle.turn_lock.proofs.board.Board.seize_or_await.Goals as goal

pub swap-requires : goal.swap-requires
swap-requires g c = let away = c.requires.away in (
  c.requires.table,
  omega (arith, c.args.self.now.two),
  seize_keeps_as g.T.Historied.fixed g.T.Historied.history g.T.Historied.awaited (g.T.Historied.fixed c.args.self.now.table.shared.key.value) c.args.self.now.table.shared.table_id.slots c.args.place.now.id c.args.place.now.me (λ _. 2) awaited away.1 away.0,
)
