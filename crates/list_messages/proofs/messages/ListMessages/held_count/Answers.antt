use Rattle.std.proofs.Common.{sym, subst, ap, ◌∙◌}
use Rattle.list_messages.specs.Messages.{Named, IsKept}
use Rattle.std.proofs.Common.{length}
use Rattle.bus_words.specs.Held.{held}
use Rattle.list_messages.proofs.HeldNumbers.{held_count}
use Rattle.list_messages.proofs.messages.ListMessages.held_count.Goals as goal

pub returns : goal.returns
returns c =
    let m = c.self.inside in
    let holds = subst (λ (t : Named). IsKept t) (sym c.self.view_is) c.requires in
    c.used_count.ensures
    ∙ (sym (held_count m.sends.uses m.pipes.items m.unsent.items m.given holds.given_all holds.first holds.tied)
    ∙ ap (λ (t : Named). length (held t.part.pipes t.part.unsent t.part.numbers_given)) c.self.view_is)
