-- A memory pool's account, by block size: blocks have no numbers here, and no list of free ones is
-- kept. What was made of a size is the greatest number of blocks of it that were ever out at once
-- (cFE Executive Services, memory pools).
use Rattle.std.specs.Prelude.{◌≡◌, ℕ, ◌+◌, ◌-◌, ◌*◌, ◌^◌, ◌<◌, ◌≤◌, min, max, nat_le, Bool, false, if◌then◌else◌, List, [], ◌∷◌, length, slice_index, slice_set, Option, Some, None, IsTrue}
use Rattle.fsw_base.specs.Blocks.{are_block_sizes, class_of}

-- what cutting a block costs beyond its size, in bytes
abbrev pub overhead : ℕ
overhead = 16

-- a count goes up by so many, and stops at the largest number of 32 bits
abbrev pub counted_by : ℕ → ℕ → ℕ
counted_by n more = min (n + more) (2 ^ 32 - 1)

-- a count goes up by one, and stops at the largest number of 32 bits
abbrev pub counted : ℕ → ℕ
counted n = min (n + 1) (2 ^ 32 - 1)

-- the pool's bytes, its block sizes, how many blocks of each size were made and how many are out,
-- how many blocks were drawn, and how many puts were refused
pub record Account : Type 0 where
  pub bytes : ℕ
  pub sizes : List ℕ
  pub made : List ℕ
  pub out : List ℕ
  pub requests : ℕ
  pub errors : ℕ

-- what the blocks made took: for each of them its size and the overhead
abbrev pub cost_of : List ℕ → List ℕ → ℕ
cost_of [] sizes = 0
cost_of (count ∷ made) [] = 0
cost_of (count ∷ made) (size ∷ sizes) = count * (size + overhead) + cost_of made sizes

-- so many more blocks of a class fit: those past the greatest number that were ever out have to be
-- made
abbrev pub has_room_for : Account → ℕ → ℕ → Bool
has_room_for account class count =
    nat_le
    (cost_of account.made account.sizes
    + (slice_index account.sizes class + overhead) *
    (slice_index account.out class + count - slice_index account.made class))
    account.bytes

-- a block for a size fits: some block size is large enough, and one more of the smallest such size
-- fits
abbrev pub has_room_if : Account → Option ℕ → Bool
has_room_if account None = false
has_room_if account (Some class) = has_room_for account class 1

abbrev pub has_room : Account → ℕ → Bool
has_room account size = has_room_if account (class_of size account.sizes)

-- one more block of a class is out; the greatest number that ever were is kept
abbrev pub after_draw : Account → ℕ → Account
after_draw account class = record account {
  made = slice_set account.made class
      (max (slice_index account.made class) (slice_index account.out class + 1));
  out = slice_set account.out class (slice_index account.out class + 1);
  requests = counted account.requests;
}

-- so many more blocks of a class are out
abbrev pub after_draws : Account → ℕ → ℕ → Account
after_draws account class count = record account {
  made = slice_set account.made class
      (max (slice_index account.made class) (slice_index account.out class + count));
  out = slice_set account.out class (slice_index account.out class + count);
  requests = counted_by account.requests count;
}

-- a request for a class: one more block of it is out if there is room for it, else nothing
-- changes
abbrev pub after_request_if : Account → Option ℕ → Account
after_request_if account None = account
after_request_if account (Some class) =
    if has_room_for account class 1 then after_draw account class else account

-- a request for a size is one for the smallest class that is large enough
abbrev pub after_request : Account → ℕ → Account
after_request account size = after_request_if account (class_of size account.sizes)

-- one block of a class fewer is out
abbrev pub after_return : Account → ℕ → Account
after_return account class =
    record account { out = slice_set account.out class (slice_index account.out class - 1) }

-- one return more was refused
abbrev pub after_refusal : Account → Account
after_refusal account = record account { errors = counted account.errors }

-- each size has its two numbers, no more blocks are out than were made, and what was made is paid
-- for by the pool's bytes
pub record IsBalanced (account : Account) : Type 0 where
  pub sizes_fit : IsTrue (are_block_sizes account.sizes)
  pub made_all : length account.made ≡ length account.sizes
  pub out_all : length account.out ≡ length account.sizes
  pub most : (class : ℕ) → class < length account.sizes →
      slice_index account.out class ≤ slice_index account.made class
  pub paid : cost_of account.made account.sizes ≤ account.bytes
