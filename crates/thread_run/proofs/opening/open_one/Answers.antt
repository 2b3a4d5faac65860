use Rattle.std.proofs.Common.{◌≡◌, ◌∙◌, ◌+◌, ◌-◌, ◌≤◌, ℕ, suc, sym, subst, arith}
use Rattle.fsw_base.specs.Limits.{Limits}
use Rattle.thread_run.specs.Whole.{whole}
use Rattle.thread_run.proofs.Wholes.{limits-whole, apps-within, beginning-whole}
use Rattle.thread_run.proofs.Numbers.{not-yet}
use Rattle.thread_run.proofs.FirstTurns.{next-open, next-open_at_tables, work-opened}
use Rattle.thread_run.proofs.opening.open_one.Goals as goal

again : (app : ℕ) → 1 ≤ app → app ≡ app - 1 + 1
again app some = omega (arith, some)

next : (app : ℕ) → 1 ≤ app → app ≡ suc (app - 1)
next app some = omega (arith, some)

pub port-requires-clause-new : goal.port-requires-clause-new
port-requires-clause-new c = λ there. not-yet (c.args.app - 1) c.args.app c.args.bus_main.now.apps c.requires.bus.made (again c.args.app c.requires.some) there

pub port-requires-2-clause-new : goal.port-requires-2-clause-new
port-requires-2-clause-new c = λ there. not-yet (c.args.app - 1) c.args.app c.args.tables_main.now.apps c.requires.tables.made (again c.args.app c.requires.some) there

pub returns-clause-bus : goal.returns-clause-bus
returns-clause-bus c =
    next-open (whole c.args.shared) c.args.shared.bus.now (c.args.app - 1) c.args.app c.args.bus_main.now c.port.new.main c.requires.bus
    (next c.args.app c.requires.some) c.in_ok-port.ensures.apps

pub returns-clause-tables : goal.returns-clause-tables
returns-clause-tables c =
    next-open_at_tables (whole c.args.shared) c.args.shared.tables.now (c.args.app - 1) c.args.app c.args.tables_main.now c.port-2.new.main c.requires.tables
    (next c.args.app c.requires.some) c.in_ok-tables_port.ensures.apps

pub returns-clause-work : goal.returns-clause-work
returns-clause-work c =
    let script = c.args.shared.script.now in
    let beside = c.args.shared.beside in
    let limits = limits-whole script beside in
    work-opened (whole c.args.shared) c.args.shared.bus.now c.args.shared.tables.now c.args.app (c.args.app - 1) c.args.bus_main.now c.args.tables_main.now
    (record { runner = c.in_ok-runner.runner; port = c.in_ok-port.port; tables_port = c.in_ok-tables_port.tables_port })
    (subst (λ (l : Limits). l.msgmax ≤ 65542) (sym limits) c.recall_limits.ensures.small) (subst (λ (l : Limits). l.tablemax ≤ 65536) (sym limits) c.recall_limits.ensures.small_tables)
    c.requires.some (apps-within script beside c.args.app c.requires.known) c.requires.bus c.requires.tables
    (c.in_ok-runner.ensures.beginning ∙ beginning-whole script beside c.args.app c.requires.some c.requires.known)
    c.in_ok-port.ensures.port c.in_ok-tables_port.ensures.port c.recall.ensures.bag c.recall-2.ensures.bag
