-- A turn that begins after the seat slept or stayed awake, which left what it knows: it is found as from the seat before that.
use Rattle.std.proofs.Common.{◌≡◌, ap₂, sym, ◌∙◌, subst}
use Rattle.turn_lock.specs.Seats.{Known, entered_view}
use Rattle.core_port.specs.Words.{Fixed, Words}
use Rattle.core_port.specs.Histories.{history_of}
use Rattle.core_port.specs.Inside.{BoxedView}
use Rattle.core_port.specs.Turns.{Entered}
use Rattle.core_port.specs.declared.history.NotedCall.{NotedCall}

module _ {S N C A L : Type 0} (w : Words S N C A L) (before after : Known Fixed (NotedCall C A)) (value found : BoxedView S) (same : after ≡ before) (is : found ≡ value) where
  pub entered_from : Entered w after value.core → Entered w before found.core
  entered_from entered = subst (λ (g : BoxedView S). Entered w before g.core) (sym is) (subst (λ (v : Known Fixed (NotedCall C A)). Entered w v value.core) same entered)

  pub view_from : (view : Known Fixed (NotedCall C A)) → view ≡ entered_view after (history_of w value.core) → view ≡ entered_view before (history_of w found.core)
  view_from view seen = seen ∙ ap₂ (λ (v : Known Fixed (NotedCall C A)) (g : BoxedView S). entered_view v (history_of w g.core)) same (sym is)
