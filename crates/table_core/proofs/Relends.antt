-- Views that go out and come back leave the versions of a table as they were.
use Rattle.std.proofs.Common.{◌≡◌, ℕ, ◌+◌, ◌-◌, ◌≤◌, not, Bool, true, false, cond, eqb, Option, Some, None, List, refl, ap, ◌∙◌, arith}
use Rattle.std.specs.Option.{option_map}
use Rattle.lend_block.specs.Loan.{LentBytes}
use Rattle.tbl_words.specs.Tables as state
use Rattle.tbl_registry.specs.declared.rows.Handle.{Handle}
use Rattle.tbl_registry.specs.Listing.{Table}
use Rattle.tbl_registry.proofs.HandleNumbers.{same_number}
use Rattle.table_blocks.specs.declared.next.Next.{Next}
use Rattle.table_blocks.specs.declared.next.Next.TheVariants.{Nothing, Inactive, Staged}
use Rattle.table_blocks.specs.Versions.{LentVersion}
use Rattle.table_blocks.specs.Contents.{Content, is_staged, older_in, with_views, version_at, view_given}
use Rattle.table_core.specs.Inside.{staged_of, table_with, handle_with, hold_of, is_this, is_other}
use Rattle.table_core.specs.Views.{held_by, with_back}

-- one if it is so
abbrev pub one_if : Bool → ℕ
one_if b = cond {A = ℕ} b 1 0

-- The contents of a table, once a handle that had the view of one version, or none, has that of another, or none: nothing changes but
-- how many views are out.
pub record Relends (old new : Content) (before after : Option ℕ) : Type 0 where
  pub size : new.size ≡ old.size
  pub option : new.option ≡ old.option
  pub version : new.version ≡ old.version
  pub bytes : new.present.bytes ≡ old.present.bytes
  pub loan : new.present.loan ≡ old.present.loan
  pub older_bytes : (older_in new.next).bytes ≡ (older_in old.next).bytes
  pub older_loan : (older_in new.next).loan ≡ (older_in old.next).loan
  pub staged : staged_of new.next ≡ staged_of old.next
  pub is_staged : is_staged new.next ≡ is_staged old.next
  pub views : new.present.views + one_if (is_this old.version before) ≡ old.present.views + one_if (is_this old.version after)
  pub older_views : (older_in new.next).views + one_if (is_other old.version before) ≡ (older_in old.next).views + one_if (is_other old.version after)

-- a view goes back
pub back_relends : (c : Content) (held : Option ℕ) → ((v : ℕ) → held ≡ Some v → 1 ≤ (version_at c v).views) → Relends c (with_back c held) held None
back_relends c None some = record {
  size = refl;
  option = refl;
  version = refl;
  bytes = refl;
  loan = refl;
  older_bytes = refl;
  older_loan = refl;
  staged = refl;
  is_staged = refl;
  views = refl;
  older_views = refl;
}
back_relends c (Some v) some = by_version (eqb v c.version) refl (some v refl)
  where
    less : (n : ℕ) → 1 ≤ n → n - 1 + 1 ≡ n + 0
    less n some = omega (arith, some)

    off : (x : Bool) → x ≡ true → one_if (not x) ≡ 0
    off true is = refl
    off false never = absurd (cc (never))

    backs : Bool → Content
    backs b = cond {A = Content} b (record c { present = with_views c.present (c.present.views - 1) }) (record c { next = Inactive (with_views (older_in c.next) ((older_in c.next).views - 1)) })

    by_next : (next : Next) → 1 ≤ (older_in next).views → eqb v c.version ≡ false → Relends (record c { next = next }) (record c { next = Inactive (with_views (older_in next) ((older_in next).views - 1)) }) (Some v) None
    by_next Nothing never other = absurd (omega (arith, never))
    by_next (Staged staged) never other = absurd (omega (arith, never))
    by_next (Inactive version) there other = record {
      size = refl;
      option = refl;
      version = refl;
      bytes = refl;
      loan = refl;
      older_bytes = refl;
      older_loan = refl;
      staged = refl;
      is_staged = refl;
      views = ap (λ b. c.present.views + one_if b) other;
      older_views = ap (λ b. version.views - 1 + one_if (not b)) other ∙ less version.views there;
    }

    by_version : (b : Bool) → eqb v c.version ≡ b → 1 ≤ (cond {A = LentVersion} b c.present (older_in c.next)).views → Relends c (backs b) (Some v) None
    by_version true same there = record {
      size = refl;
      option = refl;
      version = refl;
      bytes = refl;
      loan = refl;
      older_bytes = refl;
      older_loan = refl;
      staged = refl;
      is_staged = refl;
      views = ap (λ b. c.present.views - 1 + one_if b) same ∙ less c.present.views there;
      older_views = ap (λ b. (older_in c.next).views + one_if (not b)) same;
    }
    by_version false other there = by_next c.next there other

-- and one of the present version goes out
pub given_relends : (old c : Content) (held : Option ℕ) → Relends old c held None → Relends old (view_given c) held (Some c.version)
given_relends old c held back = record {
  size = back.size;
  option = back.option;
  version = back.version;
  bytes = back.bytes;
  loan = back.loan;
  older_bytes = back.older_bytes;
  older_loan = back.older_loan;
  staged = back.staged;
  is_staged = back.is_staged;
  views = omega (arith, back.views, ap one_if present);
  older_views = omega (arith, back.older_views, ap (λ b. one_if (not b)) present);
}
  where
    present : eqb c.version old.version ≡ true
    present = same_number c.version old.version back.version

-- What stays. --

module _ (old new : Content) (before after : Option ℕ) (so : Relends old new before after) where
  abbrev table_as : Bool → Table → ℕ → List ℕ → Option state.Staged → state.Table
  table_as registered t version value staged = record (table_with registered t old) { version = version; value = value; loaded = not (eqb version 0); staged = staged }

  -- the table
  pub relent_table : (registered : Bool) (t : Table) → table_with registered t new ≡ table_with registered t old
  relent_table registered t =
      ap (λ v. table_as registered t v new.present.bytes (staged_of new.next)) so.version
      ∙ ap (λ bytes. table_as registered t old.version bytes (staged_of new.next)) so.bytes
      ∙ ap (table_as registered t old.version old.present.bytes) so.staged

  bytes_at : (v : ℕ) → (version_at new v).bytes ≡ (version_at old v).bytes
  bytes_at v = ap (λ n. (cond {A = LentVersion} (eqb v n) new.present (older_in new.next)).bytes) so.version ∙ by_test (eqb v old.version)
    where
      by_test : (b : Bool) → (cond {A = LentVersion} b new.present (older_in new.next)).bytes ≡ (cond {A = LentVersion} b old.present (older_in old.next)).bytes
      by_test true = so.bytes
      by_test false = so.older_bytes

  loan_at : (v : ℕ) → (version_at new v).loan ≡ (version_at old v).loan
  loan_at v = ap (λ n. (cond {A = LentVersion} (eqb v n) new.present (older_in new.next)).loan) so.version ∙ by_test (eqb v old.version)
    where
      by_test : (b : Bool) → (cond {A = LentVersion} b new.present (older_in new.next)).loan ≡ (cond {A = LentVersion} b old.present (older_in old.next)).loan
      by_test true = so.loan
      by_test false = so.older_loan

  -- the handles
  pub relent_handle : (h : Handle) → handle_with h new ≡ handle_with h old
  relent_handle h = ap (λ v. told_as v (option_map (hold_of new) h.held)) so.version ∙ ap (told_as old.version) (by_held h.held)
    where
      told_as : ℕ → Option state.Hold → state.Handle
      told_as version hold = record { number = h.number; app = h.app; table = h.table; marked = not (eqb version h.told); hold = hold }

      by_held : (o : Option ℕ) → option_map (hold_of new) o ≡ option_map (hold_of old) o
      by_held None = refl
      by_held (Some v) = ap (λ bytes. let hold : state.Hold = record { version = v; value = bytes } in Some hold) (bytes_at v)

  -- and what each was lent
  pub relent_view : (h : Handle) → held_by new h ≡ held_by old h
  relent_view h = by_held h.held
    where
      by_held : (o : Option ℕ) →
          option_map (λ v. let view : LentBytes = record { loan = (version_at new v).loan; bytes = (version_at new v).bytes } in view) o
          ≡ option_map (λ v. let view : LentBytes = record { loan = (version_at old v).loan; bytes = (version_at old v).bytes } in view) o
      by_held None = refl
      by_held (Some v) =
          ap (λ loan. let view : LentBytes = record { loan = loan; bytes = (version_at new v).bytes } in Some view) (loan_at v)
          ∙ ap (λ bytes. let view : LentBytes = record { loan = (version_at old v).loan; bytes = bytes } in Some view) (bytes_at v)
