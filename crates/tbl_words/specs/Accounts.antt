-- What tables that come and leave do to the account of their pool.
use Rattle.std.specs.Prelude.{◌≡◌, ℕ, zero, suc, List, ◌∷◌, ◌++◌, Some, IsTrue}
use Rattle.fsw_base.specs.Blocks.{are_block_sizes, class_of}
use Rattle.fsw_base.specs.Limits.{Limits}
use Rattle.fsw_base.specs.PoolAccounts.{Account, after_draws, after_return}
use Rattle.tbl_rules.specs.declared.rules.Rule.{Rule}
use Rattle.tbl_words.specs.Tables.{Table, State, blocks_for, account_of}
use Rattle.tbl_words.specs.Machine.{with_new_table}

-- the account once so many blocks of a class came back, one after another
abbrev pub after_returns : Account → ℕ → ℕ → Account
after_returns account class zero = account
after_returns account class (suc count) = after_returns (after_return account class) class count

-- a new table draws its blocks, of the smallest class that is large enough
abbrev pub RegistrationsDraw : Type 0
RegistrationsDraw =
    (limits : Limits) (s : State) (app : ℕ) (name : List ℕ) (size option : ℕ) (rules : List Rule)
    (class : ℕ) →
    IsTrue (are_block_sizes limits.sizes) →
    class_of size limits.sizes ≡ Some class →
    account_of limits (with_new_table limits s app name size option rules) ≡
    after_draws (account_of limits s) class (blocks_for option)

-- a table that leaves gives its blocks back
abbrev pub LeavingReturns : Type 0
LeavingReturns =
    (limits : Limits) (s : State) (before : List Table) (t : Table) (behind : List Table)
    (class : ℕ) →
    IsTrue (are_block_sizes limits.sizes) →
    class_of t.size limits.sizes ≡ Some class →
    account_of limits (record s { tables = before ++ behind })
    ≡ after_returns (account_of limits (record s { tables = before ++ t ∷ behind })) class
    (blocks_for t.option)
