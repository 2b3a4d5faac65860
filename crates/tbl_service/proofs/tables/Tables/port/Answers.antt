use Rattle.std.proofs.Common.{ℕ, [], refl, ap, ap₂, sym, ◌∙◌, subst, arith}
use Rattle.atomic_table.specs.Seated.{TableId}
use Rattle.fsw_base.specs.declared.config.Budget.{Budget}
use Rattle.journal_store.specs.declared.allowance.Allowance.{Allowance}
use Rattle.table_blocks.specs.Held.{HeldViews}
use Rattle.tbl_load.specs.Bags.{HasBag}
use Rattle.tbl_load.specs.Core.{Core}
use Rattle.tbl_service.specs.Inside.{with_bag}
use Rattle.tbl_service.specs.Ports.{PortView, DoneView}
use Rattle.tbl_service.proofs.Openings.{fresh_permits}
use Rattle.tbl_service.proofs.EmptyBags.{empty_bag}
use Rattle.tbl_service.proofs.tables.Tables.port.Goals as goal

-- a port of an application that made no call, with nothing in its bag
abbrev fresh_port : ℕ → Core → ℕ → TableId → PortView
fresh_port app seen room lock = record { lock = lock; app = app; seen = seen; mine = []; bag = record { views = []; room = room } }

pub port-port-requires-clause-main : goal.port-port-requires-clause-main
port-port-requires-clause-main c = c.requires.main ∙ sym c.self.view_is

pub port-port-requires-clause-tells : goal.port-port-requires-clause-tells
port-port-requires-clause-tells c =
    let allowance : Budget → Allowance = λ b. record { entries = b.entries; bytes = b.bytes } in
    fresh_permits c.args.main.now.seen c.args.app _ c.budget-budget.ensures.first c.requires.known c.recall.ensures (c.recall_apps.ensures c.args.app c.requires.new) (ap allowance c.budget-budget.ensures.budget) refl

pub invariant_of-result : goal.invariant_of-result
invariant_of-result c =
    let bag = c.in_ok-bag.bag in
    subst (λ (p : DoneView). HasBag p.seen p.app bag) (sym c.port-port.ensures.port)
    (empty_bag c.args.main.now.seen c.args.app bag (c.recall_apps.ensures c.args.app c.requires.new) (ap (λ (b : HeldViews). b.views) c.in_ok-bag.ensures)
    (omega (arith, c.view_room.ensures, ap (λ (b : HeldViews). b.room) c.in_ok-bag.ensures)))

pub returns-clause-port : goal.returns-clause-port
returns-clause-port c =
    ap₂ (λ (p : DoneView) (h : HeldViews). with_bag p h) c.port-port.ensures.port c.in_ok-bag.ensures
    ∙ ap₂ (λ (n : TableId) (room : ℕ). fresh_port c.args.app c.args.main.now.seen room n) c.self.view_is c.view_room.ensures
