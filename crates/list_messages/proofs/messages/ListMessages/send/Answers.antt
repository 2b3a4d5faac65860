use Rattle.std.proofs.Common.{◌≡◌, ◌+◌, refl, sym, subst, ap, ◌∙◌}
use Rattle.bus_words.specs.Bus.{Sending, any_send, missed}
use Rattle.bus_words.proofs.MissedItems.{missed-any}
use Rattle.fsw_base.specs.PoolAccounts.{Account, has_room, after_request}
use Rattle.list_messages.specs.Messages.{Messages, Named, IsKept, account_in, sending_of, with_sent}
use Rattle.list_messages.specs.Inside.{named_in}
use Rattle.list_messages.proofs.NamedNumbers.{kept_account, kept_sent}
use Rattle.list_messages.proofs.messages.ListMessages.send.Goals as goal

pub draw-requires : goal.draw-requires
draw-requires c =
    let m = c.self.inside in
    let holds = subst (λ (t : Named). IsKept t) (sym c.self.view_is) c.requires.kept in
    ap (λ (a : Account). has_room a c.args.size) (kept_account m.sends.uses m.given m.pipes.items m.unsent.items m.created holds m.sends (named_in m).part refl refl)
    ∙ (ap (λ (t : Named). has_room (account_in t.part) c.args.size) c.self.view_is ∙ c.requires.room)

pub returns-clause-after : goal.returns-clause-after
returns-clause-after c =
    let m = c.self.inside in
    let part = (named_in m).part in
    let holds = subst (λ (t : Named). IsKept t) (sym c.self.view_is) c.requires.kept in
    let next : c.in_ok-number.number ≡ m.given + 1 = c.in_ok-number.ensures.number ∙ holds.given_all in
    let sent = λ (t : Messages). with_sent t (sending_of t c.args.sender c.args.size c.args.message.items) c.args.subs.now in
    let drawn = λ (a : Account). let x : Messages = record (sent part) { made = (after_request a c.args.size).made; drawn = (after_request a c.args.size).requests } in x in
    rw (c.drop_name.ensures, c.in_ok-settle.ensures, c.in_ok-draw.ensures, c.in_ok-done.ensures.pipes, c.in_ok-sending.ensures, next)
    (ap drawn (kept_account m.sends.uses m.given m.pipes.items m.unsent.items m.created holds m.sends part refl refl)
    ∙ ap (λ (t : Named). sent t.part) c.self.view_is)

pub returns-clause-misses : goal.returns-clause-misses
returns-clause-misses c =
    let m = c.self.inside in
    let sending : Sending = record { sender = c.args.sender; number = c.in_ok-number.number; asked = c.args.size; message = c.args.message.items } in
    rw (c.in_ok-done.ensures.misses, c.in_ok-sending.ensures)
    (missed-any sending c.args.subs.now m.pipes.items ∙ ap (λ (t : Named). missed (any_send c.args.sender) c.args.subs.now t.part.pipes) c.self.view_is)

pub returns-clause-kept : goal.returns-clause-kept
returns-clause-kept c =
    let m = c.self.inside in
    let holds = subst (λ (t : Named). IsKept t) (sym c.self.view_is) c.requires.kept in
    let next : c.in_ok-number.number ≡ m.given + 1 = c.in_ok-number.ensures.number ∙ holds.given_all in
    rw (c.drop_name.ensures, c.in_ok-settle.ensures, c.in_ok-draw.ensures, c.in_ok-done.ensures.pipes, c.in_ok-done.ensures.gone, c.in_ok-done.ensures.joined, c.in_ok-sending.ensures, next)
    (kept_sent m.sends.uses m.given m.pipes.items m.unsent.items m.created holds _ c.args.subs.now refl)
