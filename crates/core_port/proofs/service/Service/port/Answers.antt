use Rattle.std.proofs.Common.{ℕ, ◌<◌, ◌≤◌, ◌++◌, ◌∷◌, [], length, Contains, ap, ap₂, sym, ◌∙◌, subst}
use Rattle.atomic_table.specs.Seated.{TableId}
use Rattle.turn_lock.specs.Seats.{view_of}
use Rattle.turn_lock.proofs.Callers.{ready_in}
use Rattle.core_port.specs.Ports.{PortView, MainView}
use Rattle.core_port.proofs.Mains.{room_left, one_app_more, stays_main, new_port, is_port, fixed_is}
use Rattle.core_port.proofs.service.Service.port.Goals as goal

pub split-seat-requires-clause-room : goal.split-seat-requires-clause-room
split-seat-requires-clause-room g c =
    let s = c.main.inside.seat in
    let first = subst (λ (n : ℕ). 1 ≤ n) c.get.ensures.value c.get.ensures.first in
    let last = subst (λ (n : ℕ). n ≤ 16) c.get.ensures.value c.get.ensures.last in
    let out = λ (there : Contains (view_of s).apps c.args.app). c.requires.new (subst (λ (m : MainView _ _). Contains m.apps c.args.app) c.main.view_is there) in
    subst (λ (n : ℕ). length (view_of s).apps < n) (sym c.self.invariant)
    (room_left g.K.Kind.words c.laws.ensures s c.main.inside.budgets.items c.main.inside.view_room c.main.invariant c.args.app first last out)

pub invariant_of-result : goal.invariant_of-result
invariant_of-result g c =
    let w = g.K.Kind.words in
    let s = c.main.inside.seat in
    let first = subst (λ (n : ℕ). 1 ≤ n) c.get.ensures.value c.get.ensures.first in
    let last = subst (λ (n : ℕ). n ≤ 16) c.get.ensures.value c.get.ensures.last in
    let out = λ (there : Contains (view_of s).apps c.args.app). c.requires.new (subst (λ (m : MainView _ _). Contains m.apps c.args.app) c.main.view_is there) in
    is_port w c.laws.ensures s c.main.inside.budgets.items c.main.inside.view_room c.main.invariant c.args.app first last out
    c.split-seat.result c.self.inside.lock.name (ready_in c.split-seat.result c.self.inside.lock.name c.split-seat.ensures.seat) c.split-seat.ensures.view
    c.args.permits
    (subst (λ f. c.args.app ≤ length f.budgets) (fixed_is w c.laws.ensures s) (subst (λ (m : MainView _ _). c.args.app ≤ length (w.fixed m.seen).budgets) (sym c.main.view_is) c.requires.known))
    (subst (λ (m : MainView _ _). w.tells m.seen c.args.app c.args.permits) (sym c.main.view_is) c.requires.tells)

pub invariant_of-main : goal.invariant_of-main
invariant_of-main g c =
    let s = c.main.inside.seat in
    let first = subst (λ (n : ℕ). 1 ≤ n) c.get.ensures.value c.get.ensures.first in
    let last = subst (λ (n : ℕ). n ≤ 16) c.get.ensures.value c.get.ensures.last in
    let out = λ (there : Contains (view_of s).apps c.args.app). c.requires.new (subst (λ (m : MainView _ _). Contains m.apps c.args.app) c.main.view_is there) in
    stays_main g.K.Kind.words c.laws.ensures s c.main.inside.budgets.items c.main.inside.view_room c.main.invariant c.args.app first last out
    c.split-seat.new.main c.self.inside.lock.name c.split-seat.ensures.main c.split-seat.ensures.apps

abbrev fresh : {S N : Type 0} → ℕ → TableId → MainView S N → PortView S N
fresh app lock main = record { lock = lock; app = app; seen = main.seen; mine = [] }

pub returns-clause-port : goal.returns-clause-port
returns-clause-port g c =
    let s = c.main.inside.seat in
    let first = subst (λ (n : ℕ). 1 ≤ n) c.get.ensures.value c.get.ensures.first in
    let last = subst (λ (n : ℕ). n ≤ 16) c.get.ensures.value c.get.ensures.last in
    let out = λ (there : Contains (view_of s).apps c.args.app). c.requires.new (subst (λ (m : MainView _ _). Contains m.apps c.args.app) c.main.view_is there) in
    new_port g.K.Kind.words c.laws.ensures s c.main.inside.budgets.items c.main.inside.view_room c.main.invariant c.args.app first last out
    c.split-seat.result c.self.inside.lock.name (ready_in c.split-seat.result c.self.inside.lock.name c.split-seat.ensures.seat) c.split-seat.ensures.view
    ∙ ap₂ (fresh c.args.app) c.self.view_is c.main.view_is

abbrev with_one_more : {S N : Type 0} → ℕ → MainView S N → MainView S N
with_one_more app main = record main { apps = main.apps ++ app ∷ [] }

pub returns-clause-apps : goal.returns-clause-apps
returns-clause-apps g c =
    let s = c.main.inside.seat in
    let first = subst (λ (n : ℕ). 1 ≤ n) c.get.ensures.value c.get.ensures.first in
    let last = subst (λ (n : ℕ). n ≤ 16) c.get.ensures.value c.get.ensures.last in
    let out = λ (there : Contains (view_of s).apps c.args.app). c.requires.new (subst (λ (m : MainView _ _). Contains m.apps c.args.app) c.main.view_is there) in
    one_app_more g.K.Kind.words c.laws.ensures s c.main.inside.budgets.items c.main.inside.view_room c.main.invariant c.args.app first last out
    c.split-seat.new.main c.self.inside.lock.name c.split-seat.ensures.main c.split-seat.ensures.apps
    (ap (λ (m : MainView _ _). m.lock) c.main.view_is ∙ c.requires.main ∙ sym c.self.view_is)
    ∙ ap (with_one_more c.args.app) c.main.view_is
