-- An application of which a history has no entry has no handle, so that an empty bag is its bag.
use Rattle.std.proofs.Common.{◌≡◌, ℕ, ◌+◌, ◌≤◌, ◌&&◌, Bool, true, false, cond, eqb, List, [], ◌∷◌, ◌++◌, length, count_by, append-nil, append_assoc, Option, Some, None, is_some, refl, ap, ap₂, sym, ◌∙◌, subst}
use Rattle.std.specs.Option.{option_and_then}
use Rattle.std.proofs.lemmas.List.Sums.{sum_by-cons}
use Rattle.fsw_base.specs.Limits.{Limits}
use Rattle.lend_block.specs.Loan.{LentBytes}
use Rattle.tbl_words.specs.declared.history.Entry.{Entry}
use Rattle.tbl_words.specs.Tables.{Handle, Hold, State, opening, handle_at}
use Rattle.tbl_words.specs.Machine.{state_after}
use Rattle.tbl_words.proofs.Orders.{handles_rise}
use Rattle.tbl_words.proofs.Replay.{state_from-push}
use Rattle.table_blocks.specs.Held.{HeldViews, held_at}
use Rattle.table_core.specs.Core.{Lent, view_of}
use Rattle.tbl_load.specs.Bags.{HasBag, loans_of}
use Rattle.tbl_load.specs.Core.{Core, state_of, apps_of}
use Rattle.tbl_load.proofs.OwnHandles.{owned, step_alone}
use Rattle.tbl_service.specs.Ports.{own_entries}

-- No handle. --

unowned : (limits : Limits) (apps app : ℕ) (before rest : List Entry) → owned app (state_after limits apps before).handles ≡ [] → own_entries app rest ≡ [] → owned app (state_after limits apps (before ++ rest)).handles ≡ []
unowned limits apps app before [] none own = subst (λ es. owned app (state_after limits apps es).handles ≡ []) (sym (append-nil before)) none
unowned limits apps app before (e ∷ es) none own =
    let parts = apart (eqb e.app app) refl own in
    subst (λ l. owned app (state_after limits apps l).handles ≡ []) (append_assoc before (e ∷ []) es)
    (unowned limits apps app (before ++ e ∷ []) es
    (ap (λ (s : State). owned app s.handles) (state_from-push limits (opening limits apps) before e)
    ∙ step_alone limits (state_after limits apps before) e.app app (handles_rise limits apps before) parts.0 e.call
    ∙ none)
    parts.1)
  where
    apart : (b : Bool) → eqb e.app app ≡ b → cond {A = List Entry} b (e ∷ own_entries app es) (own_entries app es) ≡ [] → (eqb e.app app ≡ false) × (own_entries app es ≡ [])
    apart true is never = absurd (cc (never))
    apart false is none = (is, none)

pub no_handle : (core : Core) (app : ℕ) → own_entries app core.log.entries ≡ [] → owned app (state_of core).handles ≡ []
no_handle core app own = unowned core.limits (apps_of core) app [] core.log.entries refl own

-- Nothing due. --

-- the first handle isn't the application's, and neither are the others
not_first : (app : ℕ) (h : Handle) (handles : List Handle) → owned app (h ∷ handles) ≡ [] → (eqb h.app app ≡ false) × (owned app handles ≡ [])
not_first app h handles none = by (eqb h.app app) refl none
  where
    by : (b : Bool) → eqb h.app app ≡ b → cond {A = List (ℕ × Option Hold)} b ((h.number, h.hold) ∷ owned app handles) (owned app handles) ≡ [] → (eqb h.app app ≡ false) × (owned app handles ≡ [])
    by true is never = absurd (cc (never))
    by false is none = (is, none)

none_due : (lent : List Lent) (app n : ℕ) (handles : List Handle) → owned app handles ≡ [] →
    option_and_then (λ (h : Handle). cond {A = Option LentBytes} (eqb h.app app) (view_of lent h) None) (handle_at handles n) ≡ None
none_due lent app n [] none = refl
none_due lent app n (h ∷ handles) none = by (eqb h.number n) (none_due lent app n handles (not_first app h handles none).1)
  where
    due : Option Handle → Option LentBytes
    due o = option_and_then (λ (k : Handle). cond {A = Option LentBytes} (eqb k.app app) (view_of lent k) None) o

    by : (b : Bool) → due (handle_at handles n) ≡ None → due (cond {A = Option Handle} b (Some h) (handle_at handles n)) ≡ None
    by true ih = ap (λ c. cond {A = Option LentBytes} c (view_of lent h) None) (not_first app h handles none).0
    by false ih = ih

none_counted : (app : ℕ) (handles : List Handle) → owned app handles ≡ [] → count_by (λ (h : Handle). eqb h.app app && is_some h.hold) handles ≡ 0
none_counted app [] none = refl
none_counted app (h ∷ handles) none =
    sum_by-cons (λ (k : Handle). cond {A = ℕ} (eqb k.app app && is_some k.hold) 1 0) h handles
    ∙ ap₂ (λ (m n : ℕ). m + n) (ap (λ b. cond {A = ℕ} (b && is_some h.hold) 1 0) (not_first app h handles none).0) (none_counted app handles (not_first app h handles none).1)

pub empty_bag : (core : Core) (app : ℕ) (bag : HeldViews) → own_entries app core.log.entries ≡ [] → bag.views ≡ [] → core.limits.handles ≤ bag.room → HasBag core app bag
empty_bag core app bag own empty room =
    let none = no_handle core app own in
    record {
      seen = λ n.
          ap (λ (views : List (ℕ × LentBytes)). held_at (record bag { views = views }) n) empty
          ∙ sym (none_due (loans_of core) app n (state_of core).handles none);
      counted = ap (λ (views : List (ℕ × LentBytes)). length views) empty ∙ sym (none_counted app (state_of core).handles none);
      room = room;
    }
