-- What two handles hold of two tables, or of two versions of one, is lent by two loans.
use Rattle.std.proofs.Common.{◌≡◌, ◌≢◌, ℕ, ◌+◌, ◌≤◌, Bool, true, false, eqb, cond, Option, Some, None, refl, ap, sym, ◌∙◌, subst, arith}
use Rattle.std.specs.Option.{option_map_or}
use Rattle.std.proofs.lemmas.Bool.Decides.{nat_tests}
use Rattle.tbl_registry.specs.declared.rows.Handle.{Handle}
use Rattle.tbl_registry.specs.Listing.{Table, IsTied, handle_at, table_at}
use Rattle.table_blocks.specs.declared.next.Next.{Next}
use Rattle.table_blocks.specs.declared.next.Next.TheVariants.{Nothing, Inactive, Staged}
use Rattle.table_blocks.specs.Versions.{LentVersion}
use Rattle.table_blocks.specs.Contents.{Content, is_inactive, older_in, version_at, content_at, HasTwoLoans, ShareNoLoan}
use Rattle.table_core.specs.declared.plain.PlainTables.TheInside.{Inside}
use Rattle.table_core.specs.Core.{AreTwoLoans, HoldsVersion, loan_of}
use Rattle.table_core.specs.Inside.{plain_of, means, IsRecent, Keeps}
use Rattle.table_core.proofs.Figures.{HasContent, has_content}
use Rattle.table_core.proofs.OneLoan.{Lends, lends}
use Rattle.table_core.proofs.Returns.{view_out, recent_here}

-- Contents. --

-- a view is out of a version in the inactive block
lies_inactive : (next : Next) → 1 ≤ (older_in next).views → is_inactive next ≡ true
lies_inactive Nothing never = let no : 1 ≤ 0 = never in absurd (omega (arith, no))
lies_inactive (Inactive version) some = refl
lies_inactive (Staged value) never = let no : 1 ≤ 0 = never in absurd (omega (arith, no))

tables_apart : (c d : Content) → ShareNoLoan c d → (v w : ℕ) → 1 ≤ (version_at c v).views → 1 ≤ (version_at d w).views → (version_at c v).loan ≢ (version_at d w).loan
tables_apart c d none v w out too = by_both (eqb v c.version) (eqb w d.version) out too
  where
    by_both : (x y : Bool) → 1 ≤ (cond {A = LentVersion} x c.present (older_in c.next)).views → 1 ≤ (cond {A = LentVersion} y d.present (older_in d.next)).views →
        (cond {A = LentVersion} x c.present (older_in c.next)).loan ≢ (cond {A = LentVersion} y d.present (older_in d.next)).loan
    by_both true true out too = none.present
    by_both true false out too = none.other_older (lies_inactive d.next too)
    by_both false true out too = none.older (lies_inactive c.next out)
    by_both false false out too = none.both_older (lies_inactive c.next out) (lies_inactive d.next too)

versions_apart : (c : Content) → HasTwoLoans c → (v w : ℕ) → v ≢ w → IsRecent c.version (Some v) → IsRecent c.version (Some w) → 1 ≤ (version_at c v).views → 1 ≤ (version_at c w).views → (version_at c v).loan ≢ (version_at c w).loan
versions_apart c two v w differ recent recent_too out too = by_both (eqb v c.version) refl (eqb w c.version) refl out too
  where
    is_same : (i j : ℕ) → eqb i j ≡ true → i ≡ j
    is_same i j is = grind (arith, nat_tests)

    is_apart : (i j : ℕ) → eqb i j ≡ false → i ≢ j
    is_apart i j other is = grind (arith, nat_tests)

    both_before : v + 1 ≡ c.version → w + 1 ≡ c.version → v ≡ w
    both_before one other = omega (arith, one, other)

    by_both : (x : Bool) → eqb v c.version ≡ x → (y : Bool) → eqb w c.version ≡ y → 1 ≤ (cond {A = LentVersion} x c.present (older_in c.next)).views → 1 ≤ (cond {A = LentVersion} y c.present (older_in c.next)).views →
        (cond {A = LentVersion} x c.present (older_in c.next)).loan ≢ (cond {A = LentVersion} y c.present (older_in c.next)).loan
    by_both true is true also out too = absurd (differ (is_same v c.version is ∙ sym (is_same w c.version also)))
    by_both true is false also out too = λ same. two (lies_inactive c.next too) (sym same)
    by_both false is true also out too = two (lies_inactive c.next out)
    by_both false is false also out too = absurd (differ (both_before (recent (is_apart v c.version is)) (recent_too (is_apart w c.version also))))

-- The core. --

-- a handle that isn't live holds nothing
pub none_held : (a : Inside) (n m : ℕ) → handle_at a.registry.handles n ≡ None → AreTwoLoans (plain_of a) n m
none_held a n m none = λ table its version second holds too differ same. absurd (cc (sym (lends a n table version holds).here ∙ none))

pub none_held_too : (a : Inside) (n m : ℕ) → handle_at a.registry.handles m ≡ None → AreTwoLoans (plain_of a) n m
none_held_too a n m none = λ table its version second holds too differ same. absurd (cc (sym (lends a m its second too).here ∙ none))

-- what is so of a live handle that holds a version
record IsLent (a : Inside) (n table version : ℕ) (h : Handle) : Type 0 where
  of_table : h.table ≡ table
  out : 1 ≤ (version_at (content_at a.blocks.tables h.key) version).views
  recent : IsRecent (content_at a.blocks.tables h.key).version (Some version)
  loan : loan_of (plain_of a).lent n ≡ (version_at (content_at a.blocks.tables h.key) version).loan

is_lent : (a : Inside) → Keeps a → IsTied a.registry → (n : ℕ) (h : Handle) → handle_at a.registry.handles n ≡ Some h → (table version : ℕ) → HoldsVersion (means a).handles n table version → IsLent a n table version h
is_lent a keeps tied n h found table version holds = record {
  of_table = ap (λ (x : Handle). x.table) same ∙ its.of_table;
  out = view_out a keeps tied n h found has version held;
  recent = subst (IsRecent (content_at a.blocks.tables h.key).version) held (recent_here a keeps tied n h found has);
  loan = its.loan ∙ ap (λ (x : Handle). (version_at (content_at a.blocks.tables x.key) version).loan) (sym same);
}
  where
    its : Lends a n table version
    its = lends a n table version holds

    has : HasContent a h
    has = has_content a keeps tied n h found

    same : h ≡ its.h
    same = ap (λ (o : Option Handle). option_map_or (λ x. x) o h) (sym found ∙ its.here)

    held : h.held ≡ Some version
    held = ap (λ (x : Handle). x.held) same ∙ its.held

module _ (a : Inside) (keeps : Keeps a) (tied : IsTied a.registry) (n m : ℕ) (h k : Handle) (found : handle_at a.registry.handles n ≡ Some h) (found_too : handle_at a.registry.handles m ≡ Some k) where
  -- of one table
  pub two_versions : h.key ≡ k.key → HasTwoLoans (content_at a.blocks.tables h.key) → AreTwoLoans (plain_of a) n m
  two_versions key two = λ table its version second holds too differ same.
      let one = is_lent a keeps tied n h found table version holds in
      let other = is_lent a keeps tied m k found_too its second too in
      let at_key : ℕ → Content = content_at a.blocks.tables in
      versions_apart (at_key h.key) two version second (differ (sym one.of_table ∙ one_table ∙ other.of_table)) one.recent
      (subst (λ (c : Content). IsRecent c.version (Some second)) (ap at_key (sym key)) other.recent) one.out
      (subst (λ (c : Content). 1 ≤ (version_at c second).views) (ap at_key (sym key)) other.out)
      (sym one.loan ∙ same ∙ other.loan ∙ ap (λ (c : Content). (version_at c second).loan) (ap at_key (sym key)))
    where
      has : HasContent a h
      has = has_content a keeps tied n h found

      has_too : HasContent a k
      has_too = has_content a keeps tied m k found_too

      one_table : h.table ≡ k.table
      one_table =
          sym has.number
          ∙ ap (λ (o : Option Table). option_map_or (λ (t : Table). t.number) o 0) (sym has.there ∙ ap (table_at a.registry.tables) key ∙ has_too.there)
          ∙ has_too.number

  -- of two
  pub two_tables : ShareNoLoan (content_at a.blocks.tables h.key) (content_at a.blocks.tables k.key) → AreTwoLoans (plain_of a) n m
  two_tables none = λ table its version second holds too differ same.
      let one = is_lent a keeps tied n h found table version holds in
      let other = is_lent a keeps tied m k found_too its second too in
      tables_apart (content_at a.blocks.tables h.key) (content_at a.blocks.tables k.key) none version second one.out other.out (sym one.loan ∙ same ∙ other.loan)
