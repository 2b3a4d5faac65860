-- The main part and a port once the main part has seen what the port had seen.
use Rattle.std.proofs.Common.{◌≡◌, ℕ, ◌≤◌, List, [], ◌∷◌, length, map, refl, ap, ap₂, sym, ◌∙◌, subst}
use Rattle.atomic_table.specs.Seated.{TableId}
use Rattle.turn_lock.specs.Views.{entries_of}
use Rattle.turn_lock.specs.Seats.{Known, SeatView, IsIn, view_of, again_view}
use Rattle.core_port.specs.Words.{Fixed, Words, Laws}
use Rattle.core_port.specs.Histories.{the_fixed, entries_in, notes_in, core_with, own_entries}
use Rattle.core_port.specs.Inside.{AreCalled, IsPort, seen_in, mine_in, port_in, ended_in}
use Rattle.core_port.specs.Ports.{PortView}
use Rattle.core_port.specs.declared.history.NotedCall.{NotedCall}
use Rattle.core_port.proofs.Histories.{own-entries_in, entries_in-append}
use Rattle.core_port.proofs.Mains.{fixed_is}
use mathlib.Core.List.{IsPrefix}

module _ {S N C A L : Type 0} (w : Words S N C A L) (l : Laws w) where
  -- of an application it has seen a beginning of these entries
  pub own_begins : (app : ℕ) (seen mine : List (ℕ × NotedCall C A)) → IsPrefix (entries_of app seen) mine → IsPrefix (own_entries w app (entries_in w seen)) (entries_in w mine)
  own_begins app seen mine is =
      subst (λ (es : List N). IsPrefix es (entries_in w mine)) (sym (own-entries_in w l app seen))
      (entries_in w is.0, sym (entries_in-append w l (entries_of app seen) is.0) ∙ ap (entries_in w) is.1)

  -- no port was joined
  pub none_ended : (ended : List (ℕ × List (ℕ × NotedCall C A))) → map (ended_in w) ended ≡ [] → ended ≡ []
  none_ended [] none = refl
  none_ended (e ∷ ended) none = absurd (cc none)

  -- the main part and the port have one opening
  pub one_opening : (m s : SeatView Fixed (NotedCall C A)) → w.fixed (seen_in w s) ≡ w.fixed (seen_in w m) → the_fixed (view_of m).fixed ≡ the_fixed (view_of s).fixed
  one_opening m s same = sym (fixed_is w l m) ∙ sym same ∙ fixed_is w l s

  module _ (m s t : SeatView Fixed (NotedCall C A)) (same : the_fixed (view_of m).fixed ≡ the_fixed (view_of s).fixed) (is : view_of t ≡ again_view (view_of m) (view_of s)) where
    -- the port has seen what it had
    seen_again : seen_in w t ≡ seen_in w s
    seen_again =
        ap (λ (x : Known Fixed (NotedCall C A)). core_with w x.fixed x.seen) is
        ∙ ap (λ (f : Fixed). w.core f (entries_in w (view_of s).seen) (notes_in w (view_of s).seen)) same

    pub same_port : (app : ℕ) → t.lock ≡ s.lock → port_in w t app ≡ port_in w s app
    same_port app lock =
        ap₂ (λ (n : TableId) (c : S). port_of n c (mine_in w t)) lock seen_again
        ∙ ap (port_of s.lock (seen_in w s)) (ap (λ (x : Known Fixed (NotedCall C A)). entries_in w x.mine) is)
      where
        port_of : TableId → S → List N → PortView S N
        port_of n c mine = record { lock = n; app = app; seen = c; mine = mine }

    pub port_again : (app : ℕ) (told : L) → IsPort w s app told → (name : TableId) → IsIn t name → IsPort w t app told
    port_again app told port name in_it = record {
      seat = subst (λ (n : TableId). IsIn t n) (sym in_it.lock) in_it;
      own = ap (λ (x : Known Fixed (NotedCall C A)). x.app) is ∙ port.own;
      first = port.first;
      known = subst (λ (f : Fixed). app ≤ length f.budgets) (sym (ap (λ (x : Known Fixed (NotedCall C A)). the_fixed x.fixed) is ∙ same)) port.known;
      called = subst (λ (x : Known Fixed (NotedCall C A)). AreCalled x.seen) (sym is) port.called;
      mine = subst (λ (x : Known Fixed (NotedCall C A)). entries_of app x.seen ≡ x.mine) (sym is) port.mine;
      tells = subst (λ (c : S). w.tells c app told) (sym seen_again) port.tells;
    }
