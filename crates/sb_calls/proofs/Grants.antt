-- Fewer grants were given than entries were made.
use Rattle.std.proofs.Common.{ℕ, zero, suc, ◌+◌, ◌-◌, ◌^◌, ◌<◌, ◌≤◌, List, [], ◌∷◌, get_or, All, arith}
use Rattle.std.proofs.lemmas.List.Elements.{All-head, All-tail}
use Rattle.fsw_base.specs.Limits.{Limits}
use Rattle.fsw_base.specs.Grants.{PoolGrants, Pools, new_pool, pool_in}
use Rattle.bus_words.specs.Bus.{ArePools}

-- at a place behind the last pool is one that gave none
given_at : (entries : ℕ) (pools : List PoolGrants) (place : ℕ) → All (λ (p : PoolGrants). p.given ≤ entries) pools → (get_or pools place (new_pool [] 0)).given ≤ entries
given_at entries [] place all = omega arith
given_at entries (pool ∷ pools) zero all = All-head (λ (p : PoolGrants). p.given ≤ entries) pool pools all
given_at entries (pool ∷ pools) (suc place) all = given_at entries pools place (All-tail (λ (p : PoolGrants). p.given ≤ entries) pool pools all)

pub few_given : (limits : Limits) (entries : ℕ) (s : Pools) (pool : ℕ) → ArePools limits entries s → entries + 1 < 2 ^ 32 → (pool_in s pool).given + 1 < 2 ^ 32
few_given limits entries s pool are few =
    let given : (pool_in s pool).given ≤ entries = given_at entries s.pools (pool - 1) are.given in
    omega (arith, given, few)
