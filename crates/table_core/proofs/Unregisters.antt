-- A handle that is given back: what it holds goes first.
use Rattle.std.proofs.Common.{◌≡◌, ℕ, ◌||◌, not, Bool, true, false, cond, eqb, Option, Some, None, List, [], ◌∷◌, map, filter, refl, ap, sym, ◌∙◌, subst}
use Rattle.std.specs.Option.{IsSomeAnd, option_map}
use Rattle.fsw_base.specs.Limits.{Limits}
use Rattle.tbl_words.specs.declared.statuses.TblStatus.{TblStatus}
use Rattle.tbl_words.specs.declared.statuses.TblStatus.TheVariants.{ErrInvalidHandle, ErrNoAccess}
use Rattle.tbl_words.specs.declared.calls.TblAnswer.{TblAnswer}
use Rattle.tbl_words.specs.declared.calls.TblAnswer.TheVariants.{Done}
use Rattle.tbl_words.specs.declared.history.Call.TheVariants.{Unregister, ReleaseAddress}
use Rattle.tbl_words.specs.Tables.{Table, Handle, State, handle_at, is_live, owns, with_handle}
use Rattle.tbl_words.specs.Machine.{refused_if, access_cause, without_hold, without_handles, after_leave, outcome, step}
use Rattle.tbl_words.specs.Tables as state
use Rattle.tbl_registry.specs.declared.rows.Handle as registry
use Rattle.tbl_registry.specs.Listing as listing
use Rattle.table_blocks.specs.Contents.{content_at}
use Rattle.table_core.specs.declared.plain.PlainTables.TheInside.{Inside}
use Rattle.table_core.specs.Core.{Plain}
use Rattle.table_core.specs.Inside.{plain_of, handle_in, hold_of}
use Rattle.table_core.proofs.Fields.{handle_here}

-- What a release says of the state. --

pub record IsReleased (s left : State) (app n : ℕ) : Type 0 where
  pub free : access_cause s app n None ≡ None
  pub is : left ≡ record s { handles = with_handle without_hold n s.handles }

pub released : (limits : Limits) (s left : State) (app n : ℕ) → step limits s app (ReleaseAddress n) ≡ (Done, left) → IsReleased s left app n
released limits s left app n made = by_cause (access_cause s app n None) refl made
  where
    by_cause : (o : Option TblStatus) → access_cause s app n None ≡ o → outcome limits s app (ReleaseAddress n) o ≡ (Done, left) → IsReleased s left app n
    by_cause (Some status) is never = absurd (cc (ap (λ (x : TblAnswer × State). x.0) never))
    by_cause None is here = record { free = is; is = sym (ap (λ (x : TblAnswer × State). x.1) here) }

live_by : (s : State) (app n : ℕ) → access_cause s app n None ≡ None → is_live s.handles n ≡ true
live_by s app n free = by_live (is_live s.handles n) free
  where
    by_live : (b : Bool) → refused_if (not b) ErrInvalidHandle (refused_if (not (owns s.handles app n)) ErrNoAccess None) ≡ None → b ≡ true
    by_live true is = refl
    by_live false never = absurd (cc (never))

idle_there : (n : ℕ) (handles : List Handle) → is_live handles n ≡ true → IsSomeAnd (handle_at (with_handle without_hold n handles) n) (λ h. h.hold ≡ None)
idle_there n [] never = absurd (cc (never))
idle_there n (k ∷ handles) live = by_number (eqb k.number n) refl (λ rest. idle_there n handles rest) live
  where
    by_number : (b : Bool) → eqb k.number n ≡ b → (is_live handles n ≡ true → IsSomeAnd (handle_at (with_handle without_hold n handles) n) (λ h. h.hold ≡ None)) → (b || is_live handles n) ≡ true →
        IsSomeAnd (handle_at (cond {A = Handle} b (without_hold k) k ∷ with_handle without_hold n handles) n) (λ h. h.hold ≡ None)
    by_number true same ih is = subst (λ x. IsSomeAnd (cond {A = Option Handle} x (Some (without_hold k)) (handle_at (with_handle without_hold n handles) n)) (λ h. h.hold ≡ None)) (sym same) refl
    by_number false other ih is = subst (λ x. IsSomeAnd (cond {A = Option Handle} x (Some k) (handle_at (with_handle without_hold n handles) n)) (λ h. h.hold ≡ None)) (sym other) (ih is)

-- the handle holds nothing
pub idle_now : (limits : Limits) (s left : State) (app n : ℕ) → step limits s app (ReleaseAddress n) ≡ (Done, left) → IsSomeAnd (handle_at left.handles n) (λ h. h.hold ≡ None)
idle_now limits s left app n made =
    let so = released limits s left app n made in
    subst (λ (x : State). IsSomeAnd (handle_at x.handles n) (λ h. h.hold ≡ None)) (sym so.is) (idle_there n s.handles (live_by s app n so.free))

-- without it all is as it was
left_alike : (n : ℕ) (handles : List Handle) → filter (λ h. not (eqb h.number n)) (with_handle without_hold n handles) ≡ filter (λ h. not (eqb h.number n)) handles
left_alike n [] = refl
left_alike n (k ∷ handles) = by_number (eqb k.number n) refl (left_alike n handles)
  where
    by_number : (b : Bool) → eqb k.number n ≡ b → filter (λ (h : Handle). not (eqb h.number n)) (with_handle without_hold n handles) ≡ filter (λ (h : Handle). not (eqb h.number n)) handles →
        filter (λ (h : Handle). not (eqb h.number n)) (cond {A = Handle} b (without_hold k) k ∷ with_handle without_hold n handles) ≡ filter (λ (h : Handle). not (eqb h.number n)) (k ∷ handles)
    by_number true same ih = ap (λ l. cond {A = List Handle} (not (eqb k.number n)) (without_hold k ∷ l) l) ih ∙ both (eqb k.number n) same
      where
        both : (x : Bool) → x ≡ true → cond {A = List Handle} (not x) (without_hold k ∷ filter (λ (h : Handle). not (eqb h.number n)) handles) (filter (λ (h : Handle). not (eqb h.number n)) handles) ≡ cond {A = List Handle} (not x) (k ∷ filter (λ (h : Handle). not (eqb h.number n)) handles) (filter (λ (h : Handle). not (eqb h.number n)) handles)
        both true is = refl
        both false never = absurd (cc (never))
    by_number false other ih = ap (λ l. cond {A = List Handle} (not (eqb k.number n)) (k ∷ l) l) ih

leaves_alike : (s : State) (n : ℕ) → without_handles (λ h. eqb h.number n) (record s { handles = with_handle without_hold n s.handles }) ≡ without_handles (λ h. eqb h.number n) s
leaves_alike s n = ap (λ (left : List Handle). let x : State = record s { handles = left; tables = filter (λ (t : Table). state.has_handle left t.number) (state_map left) } in x) (left_alike n s.handles)
  where
    state_map : List Handle → List Table
    state_map left = map (after_leave left) s.tables

-- the call is the release, and the handle's leaving
pub unregistered : (limits : Limits) (s left after : State) (app n : ℕ) → step limits s app (ReleaseAddress n) ≡ (Done, left) → after ≡ without_handles (λ h. eqb h.number n) left → step limits s app (Unregister n) ≡ (Done, after)
unregistered limits s left after app n made is =
    let so = released limits s left app n made in
    ap (outcome limits s app (Unregister n)) so.free
    ∙ ap (λ (x : State). (Done, x)) (sym (is ∙ ap (without_handles (λ h. eqb h.number n)) so.is ∙ leaves_alike s n))

-- A handle that holds nothing, in the registry. --

pub record IsIdle (a : Inside) (n : ℕ) : Type 0 where
  pub h : registry.Handle
  pub found : listing.handle_at a.registry.handles n ≡ Some h
  pub idle : h.held ≡ None

pub idle_found : (a : Inside) (core : Plain) → plain_of a ≡ core → (n : ℕ) → IsSomeAnd (handle_at core.state.handles n) (λ h. h.hold ≡ None) → IsIdle a n
idle_found a core viewed n idle =
    by_found (listing.handle_at a.registry.handles n) refl
    (subst (λ o. IsSomeAnd o (λ h. h.hold ≡ None)) (ap (λ (p : Plain). handle_at p.state.handles n) (sym viewed) ∙ handle_here a n) idle)
  where
    by_held : (o : Option ℕ) (hold : ℕ → state.Hold) → option_map hold o ≡ None → o ≡ None
    by_held None hold is = refl
    by_held (Some v) hold never = absurd (cc (never))

    by_found : (o : Option registry.Handle) → listing.handle_at a.registry.handles n ≡ o → IsSomeAnd (option_map (handle_in a.blocks.tables) o) (λ h. h.hold ≡ None) → IsIdle a n
    by_found None at never = absurd never
    by_found (Some h) at is = record { h = h; found = at; idle = by_held h.held (hold_of (content_at a.blocks.tables h.key)) is }
