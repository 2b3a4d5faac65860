use Rattle.std.proofs.Common.{◌++◌, List, ℕ, codes, decimal, ap, ◌∙◌, append_assoc}
use Rattle.text_page.specs.Texts.{hex_id}
use Rattle.bus_events.proofs.text.pair_text.Goals as goal

-- the four pieces, one behind the other
pub returns-clause-text : goal.returns-clause-text
returns-clause-text c =
    let front = c.args.front.now in
    let id = hex_id c.args.id in
    let pipe = decimal c.args.pipe in
    c.put_number.ensures.text
    ∙ ap (λ (text : List ℕ). text ++ pipe) (c.put.ensures ∙ ap (λ (text : List ℕ). text ++ codes " pipe ") c.id_text-text.ensures)
    ∙ append_assoc (front ++ id) (codes " pipe ") pipe
    ∙ append_assoc front id (codes " pipe " ++ pipe)
