use Rattle.std.proofs.Common.{ℕ, [], refl, ap, ap₂, sym, ◌∙◌, subst, arith}
use Rattle.atomic_table.specs.Seated.{TableId}
use Rattle.fsw_base.specs.declared.config.Budget.{Budget}
use Rattle.journal_store.specs.declared.allowance.Allowance.{Allowance}
use Rattle.lend_block.specs.Loan.{LentBytes}
use Rattle.buf_desc.specs.Held.{Holding}
use Rattle.sb_calls.specs.Bags.{HasBag}
use Rattle.sb_calls.specs.Core.{Core}
use Rattle.bus_service.specs.Inside.{with_bag}
use Rattle.bus_service.specs.Ports.{PortView, DoneView}
use Rattle.bus_service.proofs.Openings.{fresh_permits}
use Rattle.bus_service.proofs.EmptyBags.{empty_bag}
use Rattle.bus_service.proofs.bus.Bus.port.Goals as goal

-- a bag with nothing in it, and a port of an application that made no call, with this bag
abbrev empty_holding : ℕ → ℕ → Holding LentBytes
empty_holding views blocks = record { views = []; buffers = []; view_room = views; buffer_room = blocks }

abbrev fresh_port : ℕ → Core → TableId → Holding LentBytes → PortView
fresh_port app seen lock bag = record { lock = lock; app = app; seen = seen; mine = []; bag = bag }

pub port-port-requires-clause-main : goal.port-port-requires-clause-main
port-port-requires-clause-main c = c.requires.main ∙ sym c.self.view_is

pub port-port-requires-clause-tells : goal.port-port-requires-clause-tells
port-port-requires-clause-tells c =
    let allowance : Budget → Allowance = λ b. record { entries = b.entries; bytes = b.bytes } in
    fresh_permits c.args.main.now.seen c.args.app _ c.budget-budget.ensures.first c.requires.known c.recall.ensures (c.recall_apps.ensures c.args.app c.requires.new) (ap allowance c.budget-budget.ensures.budget) refl refl

pub invariant_of-result : goal.invariant_of-result
invariant_of-result c =
    let bag = c.in_ok-bag.bag in
    subst (λ (p : DoneView). HasBag p.seen p.app bag) (sym c.port-port.ensures.port)
    (empty_bag c.args.main.now.seen c.args.app bag c.budget-budget.ensures.first c.recall.ensures (c.recall_apps.ensures c.args.app c.requires.new)
    (ap (λ (b : Holding LentBytes). b.views) c.in_ok-bag.ensures) (ap (λ (b : Holding LentBytes). b.buffers) c.in_ok-bag.ensures)
    (omega (arith, c.view_room.ensures, ap (λ (b : Holding LentBytes). b.view_room) c.in_ok-bag.ensures)))

pub returns-clause-port : goal.returns-clause-port
returns-clause-port c =
    ap₂ (λ (p : DoneView) (h : Holding LentBytes). with_bag p h) c.port-port.ensures.port c.in_ok-bag.ensures
    ∙ ap₂ (fresh_port c.args.app c.args.main.now.seen) c.self.view_is (ap₂ empty_holding c.view_room.ensures (ap (λ (b : Budget). b.buffers) c.budget-budget.ensures.budget))
