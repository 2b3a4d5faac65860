use Rattle.std.proofs.Common.{◌∙◌, ◌∷◌, ◌++◌, [], ap, Some}
use Rattle.turn_lock.proofs.Opens.{opens_as}
use Rattle.turn_lock.proofs.board.Board.new.Goals as goal

pub new-requires : goal.new-requires
new-requires g c = opens_as g.T.Historied.fixed g.T.Historied.history g.T.Historied.awaited c.args.value c.of-about.result.value c.push.new.self.items c.requires c.of-about.ensures (c.in_ok-push.ensures.items ∙ ap (λ l. l ++ Some c.args.value ∷ []) c.new-slots.ensures.items)
