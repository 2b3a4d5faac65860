-- Refusals by what the registry finds.
use Rattle.std.proofs.Common.{◌≡◌, ℕ, ◌||◌, Bool, true, false, not, leb, cond, eqb, Option, Some, None, Result, Ok, Err, is_some, List, [], ◌∷◌, length, find, refl, ap, sym, ◌∙◌, arith}
use Rattle.std.specs.List.{list_any}
use Rattle.std.specs.Option.{option_map, option_map_or}
use Rattle.std.proofs.lemmas.Bool.Decides.{nat_tests}
use Rattle.fsw_base.specs.Limits.{Limits}
use Rattle.tbl_words.specs.declared.statuses.TblStatus.{TblStatus}
use Rattle.tbl_words.specs.declared.statuses.TblStatus.TheVariants.{ErrInvalidHandle, ErrInvalidName, ErrHandlesFull, ErrNoAccess}
use Rattle.tbl_words.specs.Tables.{owns}
use Rattle.tbl_words.specs.Machine.{access_cause, share_cause, refused_if}
use Rattle.tbl_registry.specs.declared.rows.Handle.{Handle}
use Rattle.tbl_registry.specs.Listing.{Table, IsTied, handle_at, table_named}
use Rattle.table_core.specs.declared.plain.PlainTables.TheInside.{Inside}
use Rattle.table_core.specs.Inside.{means, table_in}
use Rattle.table_core.specs.Refusals.{unless, own_handle}
use Rattle.table_core.proofs.Fields.{alike, named_here}

pub any_found : {X : Type 0} (p : X → Bool) (xs : List X) → list_any p xs ≡ is_some (find p xs)
any_found p [] = refl
any_found {X} p (x ∷ xs) = by_test (p x) (any_found p xs)
  where
    by_test : (b : Bool) → list_any p xs ≡ is_some (find p xs) → (b || list_any p xs) ≡ is_some (cond {A = Option X} b (Some x) (find p xs))
    by_test true ih = refl
    by_test false ih = ih

-- what a handle's number tells: none is live, it is another application's, or the others
abbrev pub asked : ℕ → Option TblStatus → Option Handle → Option TblStatus
asked app others None = Some ErrInvalidHandle
asked app others (Some h) = refused_if (not (eqb h.app app)) ErrNoAccess others

pub access_by : (a : Inside) → IsTied a.registry → (app handle : ℕ) (others : Option TblStatus) → access_cause (means a) app handle others ≡ asked app others (handle_at a.registry.handles handle)
access_by a tied app handle others =
    let finds = alike a tied in
    ap (λ b. refused_if (not b) ErrInvalidHandle (refused_if (not (owns (means a).handles app handle)) ErrNoAccess others)) (finds.live handle ∙ any_found (λ (h : Handle). eqb h.number handle) a.registry.handles)
    ∙ ap (λ b. refused_if (not (is_some (handle_at a.registry.handles handle))) ErrInvalidHandle (refused_if (not b) ErrNoAccess others)) (finds.owned app handle)
    ∙ by_found (handle_at a.registry.handles handle)
  where
    by_found : (o : Option Handle) → refused_if (not (is_some o)) ErrInvalidHandle (refused_if (not (option_map_or (λ (h : Handle). eqb h.app app) o false)) ErrNoAccess others) ≡ asked app others o
    by_found None = refl
    by_found (Some h) = refl

-- a handle that the application doesn't own
abbrev pub err_of : Result Handle TblStatus → TblStatus
err_of (Ok h) = ErrNoAccess
err_of (Err status) = status

pub refused_here : (o : Option Handle) (app : ℕ) (status : TblStatus) (others : Option TblStatus) → own_handle app o ≡ Err status → asked app others o ≡ Some status
refused_here None app status others is = ap (λ r. Some (err_of r)) is
refused_here (Some h) app status others is = by_test (eqb h.app app) is
  where
    by_test : (b : Bool) → unless (refused_if (not b) ErrNoAccess None) (Some h) ≡ Err status → refused_if (not b) ErrNoAccess others ≡ Some status
    by_test true never = absurd (cc (never))
    by_test false same = ap (λ r. Some (err_of r)) same

-- and one that it owns
pub record IsOwned (o : Option Handle) (app : ℕ) (h : Handle) : Type 0 where
  pub found : o ≡ Some h
  pub own : (others : Option TblStatus) → asked app others o ≡ others

abbrev pub ok_of : Handle → Result Handle TblStatus → Handle
ok_of h (Ok k) = k
ok_of h (Err status) = h

pub owned_here : (o : Option Handle) (app : ℕ) (h : Handle) → own_handle app o ≡ Ok h → IsOwned o app h
owned_here None app h is = absurd (cc (is))
owned_here (Some k) app h is = by_test (eqb k.app app) refl is
  where
    by_test : (b : Bool) → eqb k.app app ≡ b → unless (refused_if (not b) ErrNoAccess None) (Some k) ≡ Ok h → IsOwned (Some k) app h
    by_test true same here = record {
      found = ap (λ r. Some (ok_of k r)) here;
      own = λ others. ap (λ b. refused_if (not b) ErrNoAccess others) same;
    }
    by_test false other never = absurd (cc (never))

-- whose handle it is
pub app_of : (o : Option Handle) (app : ℕ) (h : Handle) → own_handle app o ≡ Ok h → h.app ≡ app
app_of None app h never = absurd (cc (never))
app_of (Some k) app h is = by_test (eqb k.app app) refl is
  where
    is_same : eqb k.app app ≡ true → k.app ≡ app
    is_same same = grind (arith, nat_tests)

    by_test : (b : Bool) → eqb k.app app ≡ b → unless (refused_if (not b) ErrNoAccess None) (Some k) ≡ Ok h → h.app ≡ app
    by_test true same here = sym (ap (λ r. (ok_of k r).app) here) ∙ is_same same
    by_test false other never = absurd (cc (never))

-- A share. --

pub share_checked : (a : Inside) → IsTied a.registry → (limits : Limits) (name : List ℕ) (there full : Bool) →
    is_some (table_named a.registry name) ≡ there → leb limits.handles (length a.registry.handles) ≡ full →
    share_cause limits (means a) name ≡ refused_if (not there) ErrInvalidName (refused_if full ErrHandlesFull None)
share_checked a tied limits name there full is_there is_full =
    ap (λ o. refused_if (not (is_some o)) ErrInvalidName (refused_if (leb limits.handles (length (means a).handles)) ErrHandlesFull None)) (named_here a name)
    ∙ ap (λ b. refused_if (not b) ErrInvalidName (refused_if (leb limits.handles (length (means a).handles)) ErrHandlesFull None)) (mapped (table_named a.registry name) ∙ is_there)
    ∙ ap (λ n. refused_if (not there) ErrInvalidName (refused_if (leb limits.handles n) ErrHandlesFull None)) ((alike a tied).handles_many)
    ∙ ap (λ b. refused_if (not there) ErrInvalidName (refused_if b ErrHandlesFull None)) is_full
  where
    mapped : (o : Option Table) → is_some (option_map (table_in a.registry.handles a.blocks.tables) o) ≡ is_some o
    mapped None = refl
    mapped (Some t) = refl
