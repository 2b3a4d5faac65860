-- A call by a handle of the caller's whose table is registered.
use Rattle.std.proofs.Common.{◌≡◌, ℕ, not, Bool, true, false, cond, eqb, Option, Some, None, Result, Ok, Err, is_some, refl, ap, sym, ◌∙◌}
use Rattle.std.specs.Option.{option_map_or}
use Rattle.tbl_words.specs.declared.statuses.TblStatus.{TblStatus}
use Rattle.tbl_words.specs.declared.statuses.TblStatus.TheVariants.{ErrUnregistered}
use Rattle.tbl_words.specs.Tables as state
use Rattle.tbl_words.specs.Machine.{table_cause, refused_if}
use Rattle.tbl_registry.specs.declared.rows.Handle.{Handle}
use Rattle.tbl_registry.specs.Listing.{Table, IsTied, handle_at, is_live, table_at}
use Rattle.table_core.specs.declared.plain.PlainTables.TheInside.{Inside}
use Rattle.table_core.specs.Inside.{means, table_in}
use Rattle.table_core.specs.Refusals.{unless, own_handle, registered_one, own_table}
use Rattle.table_core.proofs.Access.{IsOwned, any_found, access_by, err_of, ok_of, app_of, refused_here, owned_here}
use Rattle.table_core.proofs.TableContents.{table_cause_by}
use Rattle.table_core.proofs.Fields.{its_table}

pub record Reaches (a : Inside) (app n : ℕ) (h : Handle) : Type 0 where
  pub own : IsOwned (handle_at a.registry.handles n) app h
  pub live : is_live a.registry.handles h.table ≡ true

module _ (a : Inside) (tied : IsTied a.registry) (app n : ℕ) where
  live_by : (h : Handle) (b : Bool) → is_some (handle_at a.registry.handles h.table) ≡ b → is_live a.registry.handles h.table ≡ b
  live_by h b is = any_found (λ (k : Handle). eqb k.number h.table) a.registry.handles ∙ is

  abbrev or_unregistered : Handle → Bool → Result Handle TblStatus
  or_unregistered h b = unless (refused_if (not b) ErrUnregistered None) (Some h)

  pub reaches : (h : Handle) → own_table app n a.registry.handles ≡ Ok h → Reaches a app n h
  reaches h is = by_own (own_handle app (handle_at a.registry.handles n)) refl is
    where
      by_live : (k : Handle) → own_handle app (handle_at a.registry.handles n) ≡ Ok k → (b : Bool) → is_some (handle_at a.registry.handles k.table) ≡ b → or_unregistered k b ≡ Ok h → Reaches a app n h
      by_live k at true found same =
          let here : k ≡ h = ap (ok_of k) same in
          record {
            own = owned_here (handle_at a.registry.handles n) app h (at ∙ ap (λ (x : Handle). Ok x) here);
            live = ap (λ (x : Handle). is_live a.registry.handles x.table) (sym here) ∙ live_by k true found;
          }
      by_live k at false found never = absurd (cc (never))

      by_own : (r : Result Handle TblStatus) → own_handle app (handle_at a.registry.handles n) ≡ r → registered_one a.registry.handles r ≡ Ok h → Reaches a app n h
      by_own (Err other) at never = absurd (cc (never))
      by_own (Ok k) at same = by_live k at (is_some (handle_at a.registry.handles k.table)) refl same

  abbrev asking : (state.Table → Option TblStatus) → Option TblStatus
  asking others = option_map_or (λ (u : state.Table). refused_if (not u.registered) ErrUnregistered (others u)) (state.table_of (means a) n) None

  -- the handle isn't the caller's, or its table is unregistered
  pub table_refused : (status : TblStatus) (others : state.Table → Option TblStatus) → own_table app n a.registry.handles ≡ Err status → table_cause (means a) app n others ≡ Some status
  table_refused status others is = by_own (own_handle app (handle_at a.registry.handles n)) refl is
    where
      by_live : (h : Handle) → own_handle app (handle_at a.registry.handles n) ≡ Ok h → (b : Bool) → is_some (handle_at a.registry.handles h.table) ≡ b → or_unregistered h b ≡ Err status → table_cause (means a) app n others ≡ Some status
      by_live h at true found never = absurd (cc (never))
      by_live h at false found same =
          let own = owned_here (handle_at a.registry.handles n) app h at in
          let of = its_table a tied n h own.found in
          table_cause_by a tied app n h of.t others own of.there
          ∙ ap (λ b. refused_if (not b) ErrUnregistered (others (table_in a.registry.handles a.blocks.tables of.t))) (ap (is_live a.registry.handles) of.number ∙ live_by h false found)
          ∙ ap (λ r. Some (err_of r)) same

      by_own : (r : Result Handle TblStatus) → own_handle app (handle_at a.registry.handles n) ≡ r → registered_one a.registry.handles r ≡ Err status → table_cause (means a) app n others ≡ Some status
      by_own (Err other) at same = access_by a tied app n (asking others) ∙ refused_here (handle_at a.registry.handles n) app status (asking others) (at ∙ same)
      by_own (Ok h) at same = by_live h at (is_some (handle_at a.registry.handles h.table)) refl same

  -- else the call is refused as its table says
  pub table_asked : (h : Handle) → Reaches a app n h → (t : Table) → table_at a.registry.tables h.key ≡ Some t → t.number ≡ h.table → (others : state.Table → Option TblStatus) →
      table_cause (means a) app n others ≡ others (table_in a.registry.handles a.blocks.tables t)
  table_asked h reach t there number others =
      table_cause_by a tied app n h t others reach.own there
      ∙ ap (λ b. refused_if (not b) ErrUnregistered (others (table_in a.registry.handles a.blocks.tables t))) (ap (is_live a.registry.handles) number ∙ reach.live)

  -- the handle is the caller's
  pub app_reached : (h : Handle) → own_table app n a.registry.handles ≡ Ok h → h.app ≡ app
  app_reached h is = by_own (own_handle app (handle_at a.registry.handles n)) refl is
    where
      by_live : (k : Handle) → own_handle app (handle_at a.registry.handles n) ≡ Ok k → (b : Bool) → or_unregistered k b ≡ Ok h → h.app ≡ app
      by_live k at true same = sym (ap (λ r. (ok_of k r).app) same) ∙ app_of (handle_at a.registry.handles n) app k at
      by_live k at false never = absurd (cc (never))

      by_own : (r : Result Handle TblStatus) → own_handle app (handle_at a.registry.handles n) ≡ r → registered_one a.registry.handles r ≡ Ok h → h.app ≡ app
      by_own (Err other) at never = absurd (cc (never))
      by_own (Ok k) at same = by_live k at (is_some (handle_at a.registry.handles k.table)) same
