use Rattle.std.proofs.Common.{sym, ◌∙◌}
use Rattle.std.specs.Slots.{slots_items}
use Rattle.turn_lock.proofs.Closes.{closes_as, taken_some}
use Rattle.turn_lock.proofs.board.Board.close.Goals as goal

pub unreachable-requires : goal.unreachable-requires
unreachable-requires g c =
    let r = closes_as g.T.Historied.fixed g.T.Historied.history g.T.Historied.awaited (g.T.Historied.fixed c.args.self.table.shared.key.value) c.args.main.id c.args.main.me.0
    (slots_items c.close_with-closed.result.words) (slots_items c.close_with-closed.result.slots) c.take-value.result c.requires.main.0 c.requires.joined c.close_with-closed.ensures.values.2 c.take-value.ensures.value in
    cc (sym r.1 ∙ c.in-None.is)

pub returns : goal.returns
returns g c =
    let r = closes_as g.T.Historied.fixed g.T.Historied.history g.T.Historied.awaited (g.T.Historied.fixed c.args.self.table.shared.key.value) c.args.main.id c.args.main.me.0
    (slots_items c.close_with-closed.result.words) (slots_items c.close_with-closed.result.slots) c.take-value.result c.requires.main.0 c.requires.joined c.close_with-closed.ensures.values.2 c.take-value.ensures.value in
    taken_some g.T.Historied.fixed g.T.Historied.history g.T.Historied.awaited (g.T.Historied.fixed c.args.self.table.shared.key.value) c.args.main.me.0 c.take-value.result r.0 c.in-Some.value r.1 c.in-Some.is r.2
