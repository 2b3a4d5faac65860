use Rattle.std.proofs.Common.{sym, subst, ap, ◌∙◌}
use Rattle.list_messages.specs.Messages.{Named, IsKept}
use Rattle.bus_words.specs.Bus.{Sending, any_send, missed, has_unsent, unsent_size}
use Rattle.bus_words.proofs.MissedItems.{missed-any}
use Rattle.list_messages.proofs.NamedNumbers.{kept_delivered, kept_left}
use Rattle.list_messages.proofs.Ties.{size_tied}
use Rattle.list_messages.proofs.messages.ListMessages.send_buffer.Goals as goal

pub settle-requires : goal.settle-requires
settle-requires c =
    let m = c.self.inside in
    let holds = subst (λ (t : Named). IsKept t) (sym c.self.view_is) c.requires.kept in
    (size_tied m.sends.uses m.pipes.items m.unsent.items c.args.sender c.args.number holds.tied
    (ap (λ (t : Named). has_unsent t.part.unsent c.args.sender c.args.number) c.self.view_is ∙ c.requires.own)).1

pub returns-clause-misses : goal.returns-clause-misses
returns-clause-misses c =
    let m = c.self.inside in
    let sending : Sending = record { sender = c.args.sender; number = c.args.number; asked = c.unsent_size-size.result; message = c.args.message.items } in
    rw (c.in_ok-done.ensures.misses, c.in_ok-sending.ensures)
    (missed-any sending c.args.subs.now m.pipes.items ∙ ap (λ (t : Named). missed (any_send c.args.sender) c.args.subs.now t.part.pipes) c.self.view_is)

pub returns-clause-kept : goal.returns-clause-kept
returns-clause-kept c =
    let m = c.self.inside in
    let holds = subst (λ (t : Named). IsKept t) (sym c.self.view_is) c.requires.kept in
    let own =
    size_tied m.sends.uses m.pipes.items m.unsent.items c.args.sender c.args.number holds.tied
    (ap (λ (t : Named). has_unsent t.part.unsent c.args.sender c.args.number) c.self.view_is ∙ c.requires.own) in
    let size = c.unsent_size-size.ensures ∙ ap (λ unsent. unsent_size unsent c.args.sender c.args.number) c.deref.ensures.value in
    rw (c.drop_names.ensures, c.deref-2.ensures.value, c.in_ok-settle.ensures, c.in_ok-gone.ensures.after, c.in_ok-gone.ensures.gone, c.in_ok-done.ensures.pipes, c.in_ok-done.ensures.gone, c.in_ok-done.ensures.joined, c.in_ok-sending.ensures)
    (kept_left _ m.given _ m.unsent.items m.created (kept_delivered m.sends.uses m.given m.pipes.items m.unsent.items m.created holds _ c.args.subs.now (size ∙ own.0) own.1) c.args.sender c.args.number)
