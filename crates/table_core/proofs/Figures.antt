-- The figures of a table.
use Rattle.std.proofs.Common.{◌≡◌, ℕ, ◌+◌, ◌<◌, ◌^◌, ◌&&◌, not, Bool, true, false, cond, eqb, Option, Some, None, is_some, List, [], ◌∷◌, count_by, refl, ap, sym, ◌∙◌, subst, arith}
use Rattle.std.specs.Option.{option_map, option_map_or}
use Rattle.std.proofs.lemmas.List.Sums.{sum_by-cons, count_by-le-length}
use Rattle.fsw_base.proofs.Lists.{count_by-map}
use Rattle.fsw_base.specs.Limits.{limits_of}
use Rattle.tbl_words.specs.declared.statuses.TblStatus.TheVariants.{ErrInvalidHandle}
use Rattle.tbl_words.specs.declared.calls.TblAnswer.TheVariants as answers
use Rattle.tbl_words.specs.declared.history.Call.TheVariants.{Status}
use Rattle.tbl_words.specs.Tables as state
use Rattle.tbl_words.specs.Machine.{figures_of}
use Rattle.tbl_registry.specs.declared.rows.Handle.{Handle}
use Rattle.tbl_registry.specs.Listing.{Table, IsTied, handle_at, table_at}
use Rattle.table_blocks.specs.Contents.{Content, older_in, content_at, is_open}
use Rattle.table_core.specs.declared.plain.PlainTables.TheInside.{Inside}
use Rattle.table_core.specs.Core.{Plain, Acts}
use Rattle.table_core.specs.Inside.{plain_of, means, handle_in, hold_of, figures_in, is_this, is_other, IsFilled, Keeps}
use Rattle.table_core.proofs.CallLaws.{step_by, acts_still}
use Rattle.table_core.proofs.Access.{IsOwned, access_by}
use Rattle.table_core.proofs.Fields.{IsOf, its_table, known_by, table_here, found_all}

-- Holds. --

count-cons : {X : Type 0} (p : X → Bool) (x : X) (xs : List X) → count_by p (x ∷ xs) ≡ cond {A = ℕ} (p x) 1 0 + count_by p xs
count-cons p x xs = sum_by-cons (λ y. cond {A = ℕ} (p y) 1 0) x xs

abbrev holds_any : List (Option Content) → ℕ → Handle → Bool
holds_any contents table h = eqb h.table table && is_some (option_map (hold_of (content_at contents h.key)) h.held)

abbrev holds_this : ℕ → ℕ → Handle → Bool
holds_this version table h = eqb h.table table && is_this version h.held

abbrev holds_other : ℕ → ℕ → Handle → Bool
holds_other version table h = eqb h.table table && is_other version h.held

-- who holds a version holds this one or another one
either : (contents : List (Option Content)) (version table : ℕ) (h : Handle) →
    cond {A = ℕ} (holds_any contents table h) 1 0 ≡ cond {A = ℕ} (holds_this version table h) 1 0 + cond {A = ℕ} (holds_other version table h) 1 0
either contents version table h = by_table (eqb h.table table)
  where
    by_version : (b : Bool) → 1 ≡ cond {A = ℕ} b 1 0 + cond {A = ℕ} (not b) 1 0
    by_version true = refl
    by_version false = refl

    by_held : (o : Option ℕ) → cond {A = ℕ} (is_some (option_map (hold_of (content_at contents h.key)) o)) 1 0 ≡ cond {A = ℕ} (is_this version o) 1 0 + cond {A = ℕ} (is_other version o) 1 0
    by_held None = refl
    by_held (Some held) = by_version (eqb held version)

    by_table : (b : Bool) →
        cond {A = ℕ} (b && is_some (option_map (hold_of (content_at contents h.key)) h.held)) 1 0
        ≡ cond {A = ℕ} (b && is_this version h.held) 1 0 + cond {A = ℕ} (b && is_other version h.held) 1 0
    by_table true = by_held h.held
    by_table false = refl

counted_apart : (contents : List (Option Content)) (version table : ℕ) (handles : List Handle) →
    count_by (holds_any contents table) handles ≡ count_by (holds_this version table) handles + count_by (holds_other version table) handles
counted_apart contents version table [] = refl
counted_apart contents version table (h ∷ handles) =
    omega (
      arith,
      count-cons (holds_any contents table) h handles,
      count-cons (holds_this version table) h handles,
      count-cons (holds_other version table) h handles,
      either contents version table h,
      counted_apart contents version table handles,
    )

-- as many views are out as the state has holds
pub holds_here : (a : Inside) (t : Table) → IsFilled a.registry.handles a.blocks.tables t →
    state.holds_of (means a).handles t.number ≡ (content_at a.blocks.tables t.key).present.views + (older_in (content_at a.blocks.tables t.key).next).views
holds_here a t filled =
    count_by-map (λ (h : state.Handle). eqb h.table t.number && is_some h.hold) (handle_in a.blocks.tables) a.registry.handles
    ∙ counted_apart a.blocks.tables (content_at a.blocks.tables t.key).version t.number a.registry.handles
    ∙ ap (λ n. n + count_by (holds_other (content_at a.blocks.tables t.key).version t.number) a.registry.handles) (sym filled.views)
    ∙ ap (λ n. (content_at a.blocks.tables t.key).present.views + n) (sym filled.older_views)

-- A live handle's table. --

pub record HasContent (a : Inside) (h : Handle) : Type 0 where
  pub t : Table
  pub there : table_at a.registry.tables h.key ≡ Some t
  pub number : t.number ≡ h.table
  pub known : t.key ≡ h.key
  pub filled : IsFilled a.registry.handles a.blocks.tables t
  pub small : h.key < 2 ^ 32
  pub few : (content_at a.blocks.tables h.key).present.views + (older_in (content_at a.blocks.tables h.key).next).views < 2 ^ 32
  pub present : is_open a.blocks.tables h.key ≡ true

pub has_content : (a : Inside) → Keeps a → IsTied a.registry → (n : ℕ) (h : Handle) → handle_at a.registry.handles n ≡ Some h → HasContent a h
has_content a keeps tied n h is = record {
  t = of.t;
  there = of.there;
  number = of.number;
  known = known;
  filled = filled;
  small = omega (arith, found_all (λ (t : Table). t.key < a.registry.table_room) (λ t. eqb t.key h.key) a.registry.tables of.t tied.keys of.there, known, keeps.table_room, a.config.tables_in_range.1);
  few = subst (λ key. (content_at a.blocks.tables key).present.views + (older_in (content_at a.blocks.tables key).next).views < 2 ^ 32) known
      (omega (arith, sym (holds_here a of.t filled), count_by-map (λ (k : state.Handle). eqb k.table of.t.number && is_some k.hold) (handle_in a.blocks.tables) a.registry.handles, count_by-le-length (holds_any a.blocks.tables of.t.number) a.registry.handles, tied.handles_few, keeps.handle_room, a.config.handles_in_range.1));
  present = subst (λ key. is_open a.blocks.tables key ≡ true) known filled.there;
}
  where
    of : IsOf a h
    of = its_table a tied n h is

    filled : IsFilled a.registry.handles a.blocks.tables of.t
    filled = found_all (IsFilled a.registry.handles a.blocks.tables) (λ t. eqb t.key h.key) a.registry.tables of.t keeps.filled of.there

    known : of.t.key ≡ h.key
    known = known_by a.registry.tables h.key of.t of.there

-- The call. --

pub status_acts : (a : Inside) (now : Plain) → plain_of a ≡ now → Keeps a → IsTied a.registry → (app n : ℕ) (h : Handle) → IsOwned (handle_at a.registry.handles n) app h →
    Acts now now app (Status n) (answers.State (figures_in (content_at a.blocks.tables h.key)))
status_acts a now is keeps tied app n h own =
    let has = has_content a keeps tied n h own.found in
    acts_still a now app (Status n) (answers.State (figures_in (content_at a.blocks.tables h.key))) is
    (step_by (limits_of a.config) (means a) app (Status n) None (access_by a tied app n None ∙ own.own None)
    ∙ ap (λ o. (option_map_or (λ t. answers.State (figures_of (means a) t)) o (answers.Refused ErrInvalidHandle), means a)) (table_here a tied n h own.found has.t has.there)
    ∙ ap (λ m. (answers.State (record (figures_in (content_at a.blocks.tables has.t.key)) { holds = m }), means a)) (holds_here a has.t has.filled)
    ∙ ap (λ key. (answers.State (figures_in (content_at a.blocks.tables key)), means a)) has.known)
