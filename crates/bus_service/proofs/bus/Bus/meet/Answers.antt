use Rattle.std.proofs.Common.{◌∙◌, List, ap, ap₂, sym, subst}
use mathlib.Core.List.{IsPrefix}
use Rattle.fsw_base.specs.Limits.{Limits}
use Rattle.fsw_base.specs.declared.config.Budget.{Budget}
use Rattle.bus_words.specs.Runs.{own_entries}
use Rattle.sb_calls.specs.Bags.{HasBag}
use Rattle.core_port.specs.Words.{Fixed}
use Rattle.bus_service.specs.Inside.{with_bag}
use Rattle.bus_service.specs.Ports.{DoneView, PortView, KeepsLongerOf}
use Rattle.bus_service.proofs.bus.Bus.meet.Goals as goal

abbrev fixed_with : Limits → List Budget → Fixed
fixed_with limits budgets = record { limits = limits; budgets = budgets }

pub meet-requires-clause-main : goal.meet-requires-clause-main
meet-requires-clause-main g c = c.requires.main ∙ sym c.self.view_is

pub meet-requires-clause-port : goal.meet-requires-clause-port
meet-requires-clause-port g c = ap (λ (p : PortView). p.lock) c.port.view_is ∙ c.requires.port ∙ sym c.self.view_is

pub meet-requires-clause-opening : goal.meet-requires-clause-opening
meet-requires-clause-opening g c =
    ap₂ fixed_with
    (ap (λ (p : PortView). p.seen.limits) c.port.view_is ∙ c.requires.limits)
    (ap (λ (p : PortView). p.seen.log.budgets) c.port.view_is ∙ c.requires.budgets)

pub invariant_of-port : goal.invariant_of-port
invariant_of-port g c = subst (λ (p : DoneView). HasBag p.seen p.app c.port.inside.bag) (sym c.meet.ensures.port) c.port.invariant

pub returns-clause-seen : goal.returns-clause-seen
returns-clause-seen g c = subst (λ (p : PortView). KeepsLongerOf c.args.main.now.seen p.seen c.meet.new.main.seen) c.port.view_is c.meet.ensures.seen

pub returns-clause-own : goal.returns-clause-own
returns-clause-own g c = subst (λ (p : PortView). IsPrefix (own_entries p.app c.meet.new.main.seen.log.entries) p.mine) c.port.view_is c.meet.ensures.own

pub returns-clause-port : goal.returns-clause-port
returns-clause-port g c = ap (λ (p : DoneView). with_bag p c.port.inside.bag) c.meet.ensures.port ∙ c.port.view_is
