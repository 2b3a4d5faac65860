use Rattle.std.proofs.Common.{eqb, eq-eqb, eqb-true, true≢false, ap, sym, ◌∙◌, arith}
use Rattle.list_messages.specs.Sends.{Use, use_at}
use Rattle.list_messages.proofs.Account.{dropped_kept, dropped_last, used_some}
use Rattle.list_messages.proofs.sends.ListSends.drop_name.Goals as goal

-- its last name went, so some number was named
pub overflow_sub-self : goal.overflow_sub-self
overflow_sub-self c =
    let s = c.self.inside in
    let before = c.use_at-before.ensures ∙ ap (λ us. use_at us c.args.number) c.deref.ensures.value in
    let last = eqb-true (use_at s.uses.items c.args.number).named 1 (ap (λ (u : Use). eqb u.named 1) (sym before) ∙ sym c.has_one_name.ensures ∙ c.if-not-has_one_name.false) in
    omega (arith, used_some s.uses.items s.used s.account c.args.number c.self.invariant last)

-- it has other names, or had none
pub invariant_of-self : goal.invariant_of-self
invariant_of-self c =
    let s = c.self.inside in
    let before = c.use_at-before.ensures ∙ ap (λ us. use_at us c.args.number) c.deref.ensures.value in
    let other = ap (λ (u : Use). eqb u.named 1) (sym before) ∙ sym c.has_one_name.ensures ∙ c.if-not-has_one_name.true in
    rw c.drop_name.ensures
    (dropped_kept s.uses.items s.used s.account c.args.number c.self.invariant (λ last. true≢false (sym (eq-eqb (use_at s.uses.items c.args.number).named 1 last) ∙ other)))

-- it had this one
pub invariant_of-self-2 : goal.invariant_of-self-2
invariant_of-self-2 c =
    let s = c.self.inside in
    let before = c.use_at-before.ensures ∙ ap (λ us. use_at us c.args.number) c.deref.ensures.value in
    let last = eqb-true (use_at s.uses.items c.args.number).named 1 (ap (λ (u : Use). eqb u.named 1) (sym before) ∙ sym c.has_one_name.ensures ∙ c.if-not-has_one_name.false) in
    rw (c.drop_name.ensures, c.give_back.ensures, c.asked_size.ensures, before)
    (dropped_last s.uses.items s.used s.account c.args.number c.self.invariant last)
