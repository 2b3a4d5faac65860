use Rattle.std.proofs.Common.{◌≡◌, ◌<◌, ◌^◌, true, length, ap, ◌∙◌, arith}
use Rattle.fsw_base.specs.PoolAccounts.{Account, has_room, after_request}
use Rattle.list_messages.specs.Sends.{Sends, account_by, with_send}
use Rattle.list_messages.specs.Inside.{sends_in}
use Rattle.list_messages.proofs.Account.{account_is, drawn_any, sent_is}
use Rattle.list_messages.proofs.sends.ListSends.draw.Goals as goal

pub draw_block-requires : goal.draw_block-requires
draw_block-requires c =
    let s = c.self.inside in
    ap (λ (a : Account). has_room a c.args.size) (account_is s.uses.items s.used s.account c.self.invariant)
    ∙ (ap (λ (t : Sends). has_room (account_by t) c.args.size) c.self.view_is ∙ c.requires)

pub invariant_of-self-2 : goal.invariant_of-self-2
invariant_of-self-2 c =
    let s = c.self.inside in
    let room : has_room s.account c.args.size ≡ true =
    ap (λ (a : Account). has_room a c.args.size) (account_is s.uses.items s.used s.account c.self.invariant)
    ∙ (ap (λ (t : Sends). has_room (account_by t) c.args.size) c.self.view_is ∙ c.requires) in
    let few : length s.uses.items < 2 ^ 32 = omega (arith, c.in_ok-next.ensures.few, ap (λ (t : Sends). length t.uses) c.self.view_is) in
    rw (c.in_ok-push.ensures.items, c.draw_block.ensures, c.in_ok-used.ensures)
    (drawn_any s.uses.items s.used s.account c.args.size c.self.invariant few room)

pub returns : goal.returns
returns c =
    let s = c.self.inside in
    sent_is (sends_in s) _ c.args.size _
    (c.draw_block.ensures ∙ ap (λ (a : Account). after_request a c.args.size) (account_is s.uses.items s.used s.account c.self.invariant))
    c.in_ok-push.ensures.items
    ∙ ap (λ (t : Sends). with_send t c.args.size) c.self.view_is
