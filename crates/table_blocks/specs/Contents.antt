-- What is kept for one table: its blocks, the present version, and beside it the version before or
-- a staged value.
use Rattle.std.specs.Prelude.{◌≡◌, ◌≢◌, ℕ, ◌+◌, ◌-◌, ◌==◌, Bool, true, false, List, [], ◌∷◌, if◌then◌else◌, Option, None, is_some, slice_index_or}
use Rattle.std.specs.Option.{option_map_or}
use Rattle.tbl_words.specs.Machine.{with_range}
use Rattle.table_blocks.specs.Versions.{LentVersion, StagedValue}
use Rattle.table_blocks.specs.declared.next.Next.{Next}
use Rattle.table_blocks.specs.declared.next.Next.TheVariants.{Nothing, Inactive, Staged}

-- A table's size and option, how often it was updated, the numbers of its blocks in the pool (a
-- single-buffered table has one, and its number stands twice), the present version, and what lies
-- beside it: nothing; the inactive block with the version before, or with bytes that nobody holds;
-- or a staged value, in the inactive block of a double-buffered table, else in a working buffer.
pub record Content : Type 0 where
  pub size : ℕ
  pub option : ℕ
  pub version : ℕ
  pub first : ℕ
  pub second : ℕ
  pub present : LentVersion
  pub next : Next

-- What lies beside the present version. --

-- a version without a block, of which no view is out
abbrev pub no_version : LentVersion
no_version = record { loan = 0; bytes = []; views = 0; whole = 0 }

abbrev pub no_value : StagedValue
no_value = record { bytes = []; validated = false; whole = 0 }

-- the version in the inactive block
abbrev pub older_in : Next → LentVersion
older_in Nothing = no_version
older_in (Inactive version) = version
older_in (Staged value) = no_version

-- the staged value
abbrev pub staged_in : Next → StagedValue
staged_in Nothing = no_value
staged_in (Inactive version) = no_value
staged_in (Staged value) = value

-- whether the inactive block is there, with nothing staged in it
abbrev pub is_inactive : Next → Bool
is_inactive Nothing = false
is_inactive (Inactive version) = true
is_inactive (Staged value) = false

-- whether a value is staged
abbrev pub is_staged : Next → Bool
is_staged Nothing = false
is_staged (Inactive version) = false
is_staged (Staged value) = true

-- One table. --

-- whether it is double buffered
abbrev pub is_double : Content → Bool
is_double c = c.option == 1

-- the blocks of the pool that it has
abbrev pub blocks_of : Content → List ℕ
blocks_of c = if is_double c then c.first ∷ c.second ∷ [] else c.first ∷ []

-- the version of this number: the present one, or else the one before
abbrev pub version_at : Content → ℕ → LentVersion
version_at c version = if version == c.version then c.present else older_in c.next

-- a version of which no view is out yet
abbrev pub lent : ℕ → List ℕ → ℕ → LentVersion
lent loan bytes whole = record { loan = loan; bytes = bytes; views = 0; whole = whole }

-- the version with so many views out
abbrev pub with_views : LentVersion → ℕ → LentVersion
with_views version views = record version { views = views }

-- the table with one view more of its present version out
abbrev pub view_given : Content → Content
view_given c = record c { present = with_views c.present (c.present.views + 1) }

-- the table with one view fewer out of the version of this number: of the present one, or else of
-- the one before
abbrev pub view_back : Content → ℕ → Content
view_back c version =
    if version == c.version
    then record c { present = with_views c.present (c.present.views - 1) }
    else record c { next = Inactive (with_views (older_in c.next) ((older_in c.next).views - 1)) }

-- the present value with a range replaced, staged in so many bytes of memory, not validated
abbrev pub staged_by : Content → ℕ → List ℕ → ℕ → Content
staged_by c offset bytes whole =
    record c {
      next = Staged
          (record {
            bytes = with_range c.present.bytes offset bytes;
            validated = false;
            whole = whole;
          });
    }

-- a staged value that was validated
abbrev pub validated : Content → Content
validated c = record c { next = Staged (record (staged_in c.next) { validated = true }) }

-- what lies beside the present version if the one before had this: a double-buffered table has
-- it in the inactive block
abbrev pub beside : Content → LentVersion → Next
beside c version = if is_double c then Inactive version else Nothing

-- nothing staged: the inactive block is sealed as it was left
abbrev pub without_staged : Content → ℕ → Content
without_staged c loan =
    record c { next = beside c (lent loan (staged_in c.next).bytes (staged_in c.next).whole) }

-- an update to this value: it is the present version, one later, in a block sealed anew; a
-- double-buffered table has the version before beside it, as it was
abbrev pub with_value : Content → ℕ → List ℕ → Content
with_value c loan value =
    record c {
      version = c.version + 1;
      present = lent loan value c.present.whole;
      next = beside c c.present;
    }

-- Loans. --

-- the two versions of a table, if it has two, are of two loans
abbrev pub HasTwoLoans : Content → Type 0
HasTwoLoans c = is_inactive c.next ≡ true → (older_in c.next).loan ≢ c.present.loan

-- No loan is of a version of the one table and of a version of the other.
pub record ShareNoLoan (c other : Content) : Type 0 where
  pub present : c.present.loan ≢ other.present.loan
  pub older : is_inactive c.next ≡ true → (older_in c.next).loan ≢ other.present.loan
  pub other_older : is_inactive other.next ≡ true →
      c.present.loan ≢ (older_in other.next).loan
  pub both_older : is_inactive c.next ≡ true → is_inactive other.next ≡ true →
      (older_in c.next).loan ≢ (older_in other.next).loan

-- All tables, by key. --

-- what is kept under a key if no table is
abbrev pub no_content : Content
no_content =
    record {
      size = 0;
      option = 0;
      version = 0;
      first = 0;
      second = 0;
      present = no_version;
      next = Nothing;
    }

-- what is kept under a key
abbrev pub kept_at : List (Option Content) → ℕ → Option Content
kept_at tables key = slice_index_or tables key None

-- whether a table is there
abbrev pub is_open : List (Option Content) → ℕ → Bool
is_open tables key = is_some (kept_at tables key)

-- the table of a key
abbrev pub content_at : List (Option Content) → ℕ → Content
content_at tables key = option_map_or (λ c. c) (kept_at tables key) no_content
