-- A handle and the parts of a box own what the box at the same types owns.
use Rattle.std.proofs.Common.{◌≡◌, true, true≢false, List, [], ◌∷◌, refl, sym}
use Rattle.std.specs.Prelude.{Option, Some, None, is_some}
use seplogic.Ra.Ura.{Ura}
use mir.Syntax.{impl, tnil, dnil}
use mir.Val.{Val}
use base.Logic.{id⊢}
use types.Logic.{Logic}
use types.Kit.{Item, Goal, Seq, ‵, ◌$◌, use1}
use denote.RawPtr.{Ptr}
use Rattle.std.specs.Global.{Global}
use denote.Signature.{Slot, plain}
use Rattle.std_alloc.proofs.BoxSteps.Form.{Bx, B, X}
use Rattle.std_heap.specs.contracts.Global as Heap
use Rattle.std_heap.specs.contracts.GlobalAllocator.TheImpl.{ghosts, dict}
use Rattle.std_heap.proofs.Global.TheLaws as heap
use Rattle.fsw_core.specs.contracts.Core as Core
use Rattle.fsw_core.proofs.Core.TheLaws as core
use Rattle.fsw_c.specs.contracts.parts.Parts as Parts
use Rattle.fsw_c.specs.contracts.held.HeldCore as HeldCore

abbrev pub E : Bx
E = record { row = Core.the_row; laws = core.the_row_laws; al = record { row = Heap.the_row; laws = heap.the_row_laws; g = ghosts; d = dict; drops = impl [] tnil dnil } }

abbrev pub FromParts : Slot 0
FromParts = plain (λ _. Parts.the_row Core.the_row Heap.the_row ghosts)

abbrev pub FromHeld : Slot 0
FromHeld = plain (λ _. HeldCore.the_row)

module _ {M : Type 1} {𝓤 : Ura M} {𝓛 : Logic 𝓤} {K : Type 0} {Γ : List (Item 𝓤)} {G : Goal 𝓤 𝓛.H} where
  -- an open handle owns what a box does
  pub held_out : K → (p : Ptr) (a : Global) (o : Option (X E)) (vs : List Val) → is_some o ≡ true
      → ((x : X E) → o ≡ Some x → Seq K 𝓛 (‵ ((B E).own_val (record { ptr = p; alloc = a; value = x }) vs) ∷ Γ) G)
      → Seq K 𝓛 (‵ (HeldCore.the_row.own_val (record { at = p; alloc = a; value = o }) vs) ∷ Γ) G
  held_out t p a None vs is k = absurd (true≢false (sym is))
  held_out t p a (Some x) vs is k = use1 𝓛 (‵ ((B E).own_val (record { ptr = p; alloc = a; value = x }) vs)) (id⊢ 𝓤 _) $ k x refl
