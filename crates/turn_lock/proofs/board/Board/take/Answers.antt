use Rattle.std.proofs.Common.{◌∙◌, ◌∷◌, ap, sym, Some}
use Rattle.atomic_table.specs.Table.{rest}
use Rattle.turn_lock.proofs.board.Board.take.Goals as goal

pub exchange-requires : goal.exchange-requires
exchange-requires g c = let full = c.requires.full in (c.requires.table, (Some full.0, full.1 ∙ ap (λ l. (0, Some full.0) ∷ l) (sym (ap rest full.1))))
