-- What a port finds at its turn: others called meanwhile, and what its own entries tell is so at the core.
use Rattle.std.proofs.Common.{◌≡◌, ℕ, ◌≤◌, List, [], ◌++◌, length, Some, ap, ap₂, sym, ◌∙◌, subst}
use Rattle.lend_block.specs.declared.note.Note.{Note}
use Rattle.turn_lock.specs.Views.{entries_of}
use Rattle.turn_lock.specs.Seats.{Known, SeatView, view_of}
use Rattle.core_port.specs.Words.{Fixed, Words, Laws}
use Rattle.core_port.specs.Histories.{the_fixed, entries_in, notes_in, core_with}
use Rattle.core_port.specs.Inside.{IsPort, seen_in}
use Rattle.core_port.specs.Turns.{Entered}
use Rattle.core_port.specs.declared.history.NotedCall.{NotedCall}
use Rattle.core_port.proofs.Histories.{pairs-append, nothing_more, entries_in-append, notes_in-append, even_in, by_others, core_again}

module _ {S N C A L : Type 0} (w : Words S N C A L) (l : Laws w) where
  module _ (v : Known Fixed (NotedCall C A)) (core : S) (e : Entered w v core) where
    pub fixed_found : the_fixed v.fixed ≡ w.fixed core
    fixed_found = ap the_fixed (sym e.opening)

    -- the core is the one seen, and what came since
    core_found : core ≡ w.core (the_fixed v.fixed) (entries_in w v.seen ++ entries_in w e.extends.0) (notes_in w v.seen ++ notes_in w e.extends.0)
    core_found =
        sym (core_again w l core e.sound)
        ∙ ap₂ (λ (f : Fixed) (pairs : List (ℕ × NotedCall C A)). core_with w (Some f) pairs) (sym fixed_found) (sym e.extends.1)
        ∙ ap₂ (λ (es : List N) (ns : List Note). w.core (the_fixed v.fixed) es ns) (entries_in-append w l v.seen e.extends.0) (notes_in-append w l v.seen e.extends.0)

    -- others alone called since
    pub others_since : (app : ℕ) → v.app ≡ app → entries_of app v.seen ≡ v.mine → w.others (core_with w v.fixed v.seen) core app
    others_since app own mine =
        let more = e.extends.0 in
        let found : entries_of app (v.seen ++ more) ≡ v.mine = ap₂ (λ (n : ℕ) (pairs : List (ℕ × NotedCall C A)). entries_of n pairs) (sym own) e.extends.1 ∙ e.mine in
        let none : entries_of app more ≡ [] = nothing_more (entries_of app v.seen) (entries_of app more) (sym (pairs-append app v.seen more) ∙ found ∙ sym mine) in
        subst (λ (c : S). w.others (core_with w v.fixed v.seen) c app) (sym core_found)
        (l.grown (the_fixed v.fixed) (entries_in w v.seen) (entries_in w more) (notes_in w v.seen) (notes_in w more) app
        (even_in w l v.seen) (subst (λ (c : S). w.sound c) core_found e.sound) (by_others w l app more none))

  module _ (s : SeatView Fixed (NotedCall C A)) (app : ℕ) (told : L) (port : IsPort w s app told) (core : S) (e : Entered w (view_of s) core) where
    pub others_called : w.others (seen_in w s) core app
    others_called = others_since (view_of s) core e app port.own port.mine

    pub known_found : app ≤ length (w.fixed core).budgets
    known_found = subst (λ (f : Fixed). app ≤ length f.budgets) (fixed_found (view_of s) core e) port.known

    -- and what the port might call, it may call there
    pub may_found : (call : C) → w.may (seen_in w s) app call → w.may core app call
    may_found call may = l.still_may (seen_in w s) core app call port.first others_called may
