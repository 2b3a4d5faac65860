use Rattle.std.proofs.Common.{◌≡◌, ◌≤◌, ℕ, Option, Some, cond, eqb, refl, ap, sym, ◌∙◌, subst, arith}
use Rattle.std.specs.Option.{IsSome, option_map_or}
use Rattle.lend_block.specs.Loan.{LentBytes}
use Rattle.buf_desc.specs.Desk.{Buffers}
use Rattle.buf_desc.specs.Held.{view_at}
use Rattle.buf_desc.specs.Slots.{slot_at, sealed_at, is_sealed}
use Rattle.bus_messages.specs.Inside.{let_go}
use Rattle.bus_messages.proofs.ViewExchanges.{next_sealed, given_sealed, given_loan, given_uses, given_viewed, view_still, exchanged}
use Rattle.bus_messages.proofs.blocks.exchange.Goals as goal

pub view-view-requires-clause-sealed : goal.view-view-requires-clause-sealed
view-view-requires-clause-sealed g c = next_sealed c.args.desk.now c.args.last c.args.next c.requires.sealed c.requires.lent c.requires.next_sealed

pub exchange_view-old-requires : goal.exchange_view-old-requires
exchange_view-old-requires g c = record { here = subst IsSome (sym c.requires.seen) refl }

pub hand_back-requires-clause-sealed : goal.hand_back-requires-clause-sealed
hand_back-requires-clause-sealed g c =
    ap (λ (x : Buffers). is_sealed (slot_at x.slots c.args.last.desc)) c.view-view.ensures.after
    ∙ given_sealed c.args.desk.now c.args.last c.args.next c.requires.sealed c.requires.lent c.requires.next_sealed

pub hand_back-requires-clause-of_this_loan : goal.hand_back-requires-clause-of_this_loan
hand_back-requires-clause-of_this_loan g c =
    ap (λ (o : Option LentBytes). option_map_or {U = ℕ} (λ (v : LentBytes). v.loan) o 0) (c.exchange_view-old.ensures.found ∙ c.requires.seen)
    ∙ sym
    (ap (λ (x : Buffers). (sealed_at x.slots c.args.last.desc).loan) c.view-view.ensures.after
    ∙ given_loan c.args.desk.now c.args.last c.args.next c.requires.sealed c.requires.lent c.requires.next_sealed)

pub hand_back-requires-clause-used : goal.hand_back-requires-clause-used
hand_back-requires-clause-used g c =
    omega (arith, ap (λ (x : Buffers). (sealed_at x.slots c.args.last.desc).uses) c.view-view.ensures.after, given_uses c.args.desk.now c.args.last c.args.next c.requires.sealed c.requires.lent c.requires.next_sealed, c.requires.used)

pub hand_back-requires-clause-viewed : goal.hand_back-requires-clause-viewed
hand_back-requires-clause-viewed g c =
    subst (λ (x : Buffers). (sealed_at x.slots c.args.last.desc).uses ≡ 1 → (sealed_at x.slots c.args.last.desc).views ≤ 1) (sym c.view-view.ensures.after)
    (given_viewed c.args.desk.now c.args.last c.args.next c.requires.sealed c.requires.lent c.requires.next_sealed c.requires.viewed)

pub returns-clause-desk : goal.returns-clause-desk
returns-clause-desk g c =
    c.hand_back.ensures.desk
    ∙ ap (λ (x : Buffers). let_go x (Some c.args.last)) c.view-view.ensures.after
    ∙ exchanged c.args.desk.now c.args.last c.args.next c.requires.sealed c.requires.lent c.requires.next_sealed

pub returns-clause-seen : goal.returns-clause-seen
returns-clause-seen g c = λ other.
    c.exchange_view-old.ensures.seen other
    ∙ ap (λ (v : LentBytes). cond {A = Option LentBytes} (eqb c.args.pipe other) (Some v) (view_at c.args.held.now other))
    (c.view-view.ensures.view ∙ view_still c.args.desk.now c.args.last c.args.next c.requires.sealed c.requires.lent c.requires.next_sealed)
