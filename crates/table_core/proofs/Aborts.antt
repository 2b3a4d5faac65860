-- An abort.
use Rattle.std.proofs.Common.{◌≡◌, ℕ, List, Bool, true, false, cond, Some, None, refl, ap}
use Rattle.tbl_words.specs.declared.statuses.TblStatus.TheVariants.{NoLoad}
use Rattle.tbl_words.specs.Machine.{abort_cause}
use Rattle.tbl_registry.specs.Listing.{Table}
use Rattle.table_blocks.specs.declared.next.Next.{Next}
use Rattle.table_blocks.specs.declared.next.Next.TheVariants.{Nothing, Inactive}
use Rattle.table_blocks.specs.Versions.{LentVersion}
use Rattle.table_blocks.specs.Contents.{Content, is_double, is_staged, staged_in, older_in, beside, lent, without_staged}
use Rattle.table_core.specs.Inside.{staged_of, table_with}
use Rattle.table_core.proofs.OtherVersions.{KeepsPresent}
use Rattle.table_core.proofs.Validations.{with_staging, staged_there, none_older}

-- what a table has beside its version if nothing is staged
pub nothing_beside : (c : Content) (version : LentVersion) → staged_of (beside c version) ≡ None
nothing_beside c version = by_test (is_double c)
  where
    by_test : (b : Bool) → staged_of (cond {A = Next} b (Inactive version) Nothing) ≡ None
    by_test true = refl
    by_test false = refl

unlent_beside : (c : Content) (loan whole : ℕ) (bytes : List ℕ) → (older_in (beside c (lent loan bytes whole))).views ≡ 0
unlent_beside c loan whole bytes = by_test (is_double c)
  where
    by_test : (b : Bool) → (older_in (cond {A = Next} b (Inactive (lent loan bytes whole)) Nothing)).views ≡ 0
    by_test true = refl
    by_test false = refl

pub unstaged_abort : (registered : Bool) (t : Table) (c : Content) → staged_of c.next ≡ None → abort_cause (table_with registered t c) ≡ Some NoLoad
unstaged_abort registered t c none = ap (λ o. abort_cause (with_staging registered t c o)) none

pub staged_abort : (registered : Bool) (t : Table) (c : Content) → is_staged c.next ≡ true → abort_cause (table_with registered t c) ≡ None
staged_abort registered t c there = ap (λ o. abort_cause (with_staging registered t c o)) (staged_there c.next there)

pub aborted_here : (registered : Bool) (t : Table) (c : Content) (loan : ℕ) → table_with registered t (without_staged c loan) ≡ with_staging registered t c None
aborted_here registered t c loan = ap (with_staging registered t c) (nothing_beside c (lent loan (staged_in c.next).bytes (staged_in c.next).whole))

pub aborted_keeps : (c : Content) (loan : ℕ) → is_staged c.next ≡ true → KeepsPresent c (without_staged c loan)
aborted_keeps c loan there = record {
  size = refl;
  option = refl;
  version = refl;
  present = refl;
  none_before = none_older c.next there;
  none_after = unlent_beside c loan (staged_in c.next).whole (staged_in c.next).bytes;
}
