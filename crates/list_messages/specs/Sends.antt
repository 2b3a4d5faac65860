-- Send numbers by themselves: how often each is named, and the account of the pool that blocks for
-- them are drawn from.
use Rattle.std.specs.Prelude.{ℕ, ◌+◌, ◌-◌, ◌&&◌, ◌==◌, nat_le, Bool, false, List, [], ◌∷◌, ◌++◌, length, count_by, fold, replicate, slice_set, slice_index_or, Option, None, Some}
use Rattle.std.specs.Option.{option_map_or}
use Rattle.fsw_base.specs.Blocks.{class_of}
use Rattle.fsw_base.specs.PoolAccounts.{Account, after_request, after_return}
use Rattle.bus_words.specs.Held.{each_below}

-- A send number: the size first asked for under it, and how often pipes and unsent buffers name it.
pub record Use : Type 0 where
  pub asked : ℕ
  pub named : ℕ

-- no send number
abbrev pub no_use : Use
no_use = record { asked = 0; named = 0 }

-- Send numbers from 0 on, of which 0 is no send's; the bytes and block sizes of the pool, how many
-- blocks of each size were made, and how many were drawn.
pub record Sends : Type 0 where
  pub uses : List Use
  pub bytes : ℕ
  pub sizes : List ℕ
  pub made : List ℕ
  pub requests : ℕ

-- no number was given
abbrev pub no_sends : ℕ → List ℕ → Sends
no_sends bytes sizes =
    record {
      uses = no_use ∷ [];
      bytes = bytes;
      sizes = sizes;
      made = replicate (length sizes) 0;
      requests = 0;
    }

-- the use of a number
abbrev pub use_at : List Use → ℕ → Use
use_at uses number = slice_index_or uses number no_use

-- how often a number is named
abbrev pub names_of : List Use → ℕ → ℕ
names_of uses number = (use_at uses number).named

-- whether a number is named
abbrev pub is_used : Use → Bool
is_used use_ = nat_le 1 use_.named

-- whether a block for so many bytes is of this class of the sizes
abbrev pub is_class : List ℕ → ℕ → ℕ → Bool
is_class sizes class size = option_map_or (λ other. other == class) (class_of size sizes) false

-- whether a number is named, and its block is of this class
abbrev pub takes : List ℕ → ℕ → Use → Bool
takes sizes class use_ = is_used use_ && is_class sizes class use_.asked

-- for each of these sizes, how many of the numbers that are named have a block of it
abbrev pub blocks_out : List ℕ → List Use → List ℕ
blocks_out sizes uses = each_below (λ class. count_by (takes sizes class) uses) (length sizes)

-- the account of the pool: a number that is named has one block
abbrev pub account_by : Sends → Account
account_by s =
    record {
      bytes = s.bytes;
      sizes = s.sizes;
      made = s.made;
      out = blocks_out s.sizes s.uses;
      requests = s.requests;
      errors = 0;
    }

-- the account once a block of a class came back, if it was of one
abbrev pub returned_if : Account → Option ℕ → Account
returned_if account None = account
returned_if account (Some class) = after_return account class

-- one number more, named once, with a block for so many bytes
abbrev pub with_send : Sends → ℕ → Sends
with_send s size = record s {
  uses = s.uses ++ record { asked = size; named = 1 } ∷ [];
  made = (after_request (account_by s) size).made;
  requests = (after_request (account_by s) size).requests;
}

-- a number is named so many times more
abbrev pub with_names : List Use → ℕ → ℕ → List Use
with_names uses number count =
    slice_set uses number
    (record (use_at uses number) { named = (use_at uses number).named + count })

-- a number is named once less
abbrev pub without_name : List Use → ℕ → List Use
without_name uses number =
    slice_set uses number
    (record (use_at uses number) { named = (use_at uses number).named - 1 })

-- each of these numbers is named once less
abbrev pub without_names : List Use → List ℕ → List Use
without_names uses numbers = fold without_name uses numbers
