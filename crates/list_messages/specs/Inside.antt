-- What the fields stand for, and what is always true of the send numbers.
use Rattle.std.specs.Prelude.{◌≡◌, ℕ, ◌^◌, ◌<◌, ◌≤◌, List, length, count_by, slice_index}
use Rattle.fsw_base.specs.PoolAccounts.{Account, cost_of}
use Rattle.list_messages.specs.Sends.{Use, Sends, is_used, blocks_out}
use Rattle.list_messages.specs.Messages.{Named}
use Rattle.list_messages.specs.declared.sends.ListSends.TheInside as sends
use Rattle.list_messages.specs.declared.messages.ListMessages.TheInside as messages

-- what the send numbers are
abbrev pub sends_in : sends.Inside → Sends
sends_in s = record {
  uses = s.uses.items;
  bytes = s.account.bytes;
  sizes = s.account.sizes;
  made = s.account.made;
  requests = s.account.requests;
}

-- the account has a block for each number that is named, and what was made is paid for
pub record IsCounted (uses : List Use) (used : ℕ) (account : Account) : Type 0 where
  pub some : 1 ≤ length uses
  pub few : length uses ≤ 2 ^ 32
  pub used_is : used ≡ count_by is_used uses
  pub out : account.out ≡ blocks_out account.sizes uses
  pub errors : account.errors ≡ 0
  pub made_all : length account.made ≡ length account.sizes
  pub most : (class : ℕ) → class < length account.sizes →
      slice_index account.out class ≤ slice_index account.made class
  pub paid : cost_of account.made account.sizes ≤ account.bytes

-- so it is of the fields
abbrev pub AreCounted : sends.Inside → Type 0
AreCounted s = IsCounted s.uses.items s.used s.account

-- what the messages are
abbrev pub named_in : messages.Inside → Named
named_in m = record {
  part = record {
    pool = m.sends.bytes;
    sizes = m.sends.sizes;
    pipes = m.pipes.items;
    pipes_created = m.created;
    unsent = m.unsent.items;
    numbers_given = m.given;
    made = m.sends.made;
    drawn = m.sends.requests;
  };
  uses = m.sends.uses;
}
