use Rattle.text_page.specs.Texts.{hex_id}
use Rattle.text_page.proofs.PieceTexts.{puts_as}
use Rattle.text_page.proofs.pieces.put_hex_id.Goals as goal

pub returns : goal.returns
returns g c = puts_as (hex_id c.args.id) c.hex_id.ensures c.put.ensures
