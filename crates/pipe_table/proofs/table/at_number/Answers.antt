use Rattle.std.proofs.Common.{◌≡◌, ◌<◌, length, get_or, Some, sym, ap, ◌∙◌, arith}
use Rattle.std.proofs.lemmas.List.{get_or_read}
use Rattle.pipe_table.proofs.NumberedPipes.{under_index, under_none}
use Rattle.pipe_table.proofs.table.at_number.Goals as goal

pub returns-in-Some : goal.returns-in-Some
returns-in-Some c =
    let numbers = c.args.live.now.items in
    let at = c.args.at.now.items in
    let i = c.in-Some.index in
    let here : (i < length numbers) × (get_or numbers i 0 ≡ c.args.number) = c.in-Some.ensures.some in
    ap Some (get_or_read at i c.index.result.now (omega (arith, here.0, c.requires.all)) c.index.ensures 0)
    ∙ sym (under_index 0 numbers at i c.args.number c.requires.rising c.requires.all here.0 here.1)

pub returns-in-None : goal.returns-in-None
returns-in-None c = sym (under_none c.args.live.now.items c.args.at.now.items c.args.number (c.index_of.ensures.none c.in-None.is))
