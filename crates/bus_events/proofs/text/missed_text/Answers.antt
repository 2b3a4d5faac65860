use Rattle.std.proofs.Common.{◌++◌, List, ℕ, codes, decimal, ap, ◌∙◌, append_assoc}
use Rattle.bus_events.specs.Events.{pair_text, missed_text}
use Rattle.bus_events.proofs.text.missed_text.Goals as goal

-- the sender's number behind the pair
pub returns : goal.returns
returns c =
    let front = c.args.front.now in
    let pair = pair_text c.args.id c.args.pipe in
    let sender = decimal c.get.result in
    c.put_number.ensures.text
    ∙ ap (λ (text : List ℕ). text ++ sender) (c.put.ensures ∙ ap (λ (text : List ℕ). text ++ codes " sender ") c.pair_text-text.ensures.text)
    ∙ ap (λ (text : List ℕ). text ++ sender) (append_assoc front pair (codes " sender "))
    ∙ append_assoc front (pair ++ codes " sender ") sender
    ∙ ap (λ number. front ++ missed_text c.args.id c.args.pipe number) c.get.ensures.value
