-- What calls leave of a pool and of its account, one after another.
use Rattle.std.specs.Prelude.{◌≡◌, ℕ, MatchBool, if◌then◌else◌, List, [], ◌∷◌}
use Rattle.fsw_base.specs.PoolAccounts.{Account, counted, after_request, after_return, after_refusal}
use Rattle.es_pool.specs.Pool.{PoolState, fits, DrawsFor, is_out, class_at, given_back}
use Rattle.es_pool.specs.declared.calls.PoolCall.{PoolCall}
use Rattle.es_pool.specs.declared.calls.PoolCall.TheVariants.{Get, Put}

-- a request that fits draws a block, and one that doesn't changes nothing; a block that is out
-- comes back, and the return of any other is counted
abbrev pub Leaves : PoolState → PoolCall → PoolState → Type 0
Leaves old (Get size) new =
    MatchBool (fits old size 1) ((block : ℕ) × DrawsFor old new size block) (new ≡ old)
Leaves old (Put block) new =
    MatchBool (is_out old block) (new ≡ given_back old block)
    (new ≡ record old { errors = counted old.errors })

-- what the account does at a call of the pool: a request is one by its size, and a block that is
-- out comes back with the class that it has in the pool; the return of any other is counted
abbrev pub after_call : PoolState → Account → PoolCall → Account
after_call pool account (Get size) = after_request account size
after_call pool account (Put block) =
    if is_out pool block then after_return account (class_at pool block) else after_refusal account

-- the calls in order lead a pool and its account from one state to the other
abbrev pub LeadTo : PoolState → Account → List PoolCall → PoolState → Account → Type 0
LeadTo old account [] new after = (new ≡ old) × (after ≡ account)
LeadTo old account (call ∷ calls) new after =
    (next : PoolState) ×
    ((between : Account) ×
    (Leaves old call next ×
    ((between ≡ after_call old account call) × LeadTo next between calls new after)))
