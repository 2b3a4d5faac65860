use Rattle.std.proofs.Common.{◌≡◌, ◌+◌, refl, sym, subst, ap, ◌∙◌}
use Rattle.fsw_base.specs.PoolAccounts.{Account, has_room, after_request}
use Rattle.list_messages.specs.Messages.{Messages, Named, IsKept, account_in, with_buffer}
use Rattle.list_messages.specs.Inside.{named_in}
use Rattle.list_messages.proofs.NamedNumbers.{kept_account, kept_placed}
use Rattle.list_messages.proofs.messages.ListMessages.allocate.Goals as goal

pub draw-requires : goal.draw-requires
draw-requires c =
    let m = c.self.inside in
    let holds = subst (λ (t : Named). IsKept t) (sym c.self.view_is) c.requires.kept in
    ap (λ (a : Account). has_room a c.args.size) (kept_account m.sends.uses m.given m.pipes.items m.unsent.items m.created holds m.sends (named_in m).part refl refl)
    ∙ (ap (λ (t : Named). has_room (account_in t.part) c.args.size) c.self.view_is ∙ c.requires.room)

pub returns-clause-after : goal.returns-clause-after
returns-clause-after c =
    let m = c.self.inside in
    let part = (named_in m).part in
    let holds = subst (λ (t : Named). IsKept t) (sym c.self.view_is) c.requires.kept in
    let next : c.in_ok-number.number ≡ m.given + 1 = c.in_ok-number.ensures.number ∙ holds.given_all in
    let drawn = λ (a : Account). let x : Messages = record (with_buffer part c.args.app c.args.size) { made = (after_request a c.args.size).made; drawn = (after_request a c.args.size).requests } in x in
    rw (c.in_ok-place.ensures.sends, c.in_ok-place.ensures.unsent, c.in_ok-draw.ensures, next)
    (ap drawn (kept_account m.sends.uses m.given m.pipes.items m.unsent.items m.created holds m.sends part refl refl)
    ∙ ap (λ (t : Named). with_buffer t.part c.args.app c.args.size) c.self.view_is)

pub returns-clause-kept : goal.returns-clause-kept
returns-clause-kept c =
    let m = c.self.inside in
    let holds = subst (λ (t : Named). IsKept t) (sym c.self.view_is) c.requires.kept in
    let next : c.in_ok-number.number ≡ m.given + 1 = c.in_ok-number.ensures.number ∙ holds.given_all in
    rw (c.in_ok-place.ensures.sends, c.in_ok-place.ensures.unsent, c.in_ok-draw.ensures, next)
    (kept_placed m.sends.uses m.given m.pipes.items m.unsent.items m.created holds c.args.app c.args.size)
