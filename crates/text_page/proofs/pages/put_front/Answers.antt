use Rattle.std.proofs.Common.{take}
use Rattle.text_page.proofs.PieceTexts.{◌▸◌, waits_behind}
use Rattle.text_page.proofs.pages.put_front.Goals as goal

pub returns-clause-puts : goal.returns-clause-puts
returns-clause-puts g c =
    c.make_room.ensures.puts
    ▸ waits_behind c.make_room.new.sink c.make_room.new.page c.append_front.new.self (take c.append_front.result c.args.text.now) c.append_front.ensures.text
