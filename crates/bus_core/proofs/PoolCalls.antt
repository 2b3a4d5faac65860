-- What a request for a grant answers and leaves.
use Rattle.std.proofs.Common.{◌≡◌, ℕ, ◌+◌, ◌-◌, Bool, true, false, not, cond, [], set, get_or, Option, Some, None, Result, Ok, Err, IfOk, refl, ap, sym, ◌∙◌, subst}
use Rattle.std.proofs.lemmas.List.{set-get_or}
use Rattle.fsw_base.specs.Blocks.{class_of}
use Rattle.fsw_base.specs.Limits.{limits_of}
use Rattle.fsw_base.specs.PoolAccounts.{has_room, has_room_if, has_room_for}
use Rattle.fsw_base.specs.declared.statuses.EsStatus.{EsStatus}
use Rattle.fsw_base.specs.declared.statuses.EsStatus.TheVariants.{ErrMemBlockSize, NoPool}
use Rattle.fsw_base.specs.Grants.{PoolGrants, Pools, new_pool, is_pool, pool_in, with_pool, with_grant, pool_account, after_get, after_get_if, get_answer, answer_in}
use Rattle.bus_words.specs.declared.calls.BusAnswer.{BusAnswer}
use Rattle.bus_words.specs.declared.history.Call.TheVariants.{PoolGet}
use Rattle.bus_words.specs.Refusals.{Refusal, OfPools}
use Rattle.bus_words.specs.Machine.{by_pools, refused_if, cause}
use Rattle.bus_words.specs.Acts.{Whole, reads_in}
use Rattle.bus_core.specs.declared.plain.PlainBus.TheInside.{Inside}
use Rattle.bus_core.specs.Answers.{pool_told}
use Rattle.bus_core.specs.Inside.{means}
use Rattle.bus_core.proofs.CallLaws.{bare, bare_by}

module _ (a : Inside) (app pool size : ℕ) where
  -- the pool of this number
  abbrev it : PoolGrants
  it = pool_in a.pools pool

  -- a request that isn't granted leaves the pool
  still : has_room (pool_account it) size ≡ false → after_get it app size ≡ it
  still none = at (class_of size it.sizes) none
    where
      by_room : (class : ℕ) (b : Bool) → b ≡ false → cond {A = PoolGrants} b (with_grant it app class) it ≡ it
      by_room class true e = absurd (cc (e))
      by_room class false e = refl

      at : (o : Option ℕ) → has_room_if (pool_account it) o ≡ false → after_get_if it app o ≡ it
      at None e = refl
      at (Some class) e = by_room class (has_room_for (pool_account it) class 1) e

  -- and so all pools
  same : with_pool a.pools pool it ≡ a.pools
  same = by_pool (is_pool a.pools pool)
    where
      by_pool : (b : Bool) → cond {A = Pools} b (record a.pools { pools = set a.pools.pools (pool - 1) (get_or a.pools.pools (pool - 1) (new_pool [] 0)) }) a.pools ≡ a.pools
      by_pool true = ap (λ l. let v : Pools = record a.pools { pools = l } in v) (set-get_or a.pools.pools (pool - 1) (new_pool [] 0))
      by_pool false = refl

  -- this answer, and these pools
  abbrev with_answer : Result ℕ EsStatus → Pools → BusAnswer × Whole
  with_answer answer pools = (pool_told answer, means (record a { pools = pools }))

  abbrev after : Pools
  after = with_pool a.pools pool (after_get it app size)

  made : bare (limits_of a.config) (means a) app (PoolGet pool size) ≡ with_answer (answer_in a.pools pool (get_answer it size)) after
  made = by_tests (is_pool a.pools pool) (has_room (pool_account it) size) refl refl
    where
      why : (there room : Bool) → is_pool a.pools pool ≡ there → has_room (pool_account it) size ≡ room →
          cause (limits_of a.config) (means a).bus app (PoolGet pool size) ≡ by_pools (refused_if (not there) NoPool (refused_if (not room) ErrMemBlockSize None))
      why there room is fits =
          ap (λ b. by_pools (refused_if (not b) NoPool (refused_if (not (has_room (pool_account it) size)) ErrMemBlockSize None))) is
          ∙ ap (λ b. by_pools (refused_if (not there) NoPool (refused_if (not b) ErrMemBlockSize None))) fits

      by : (there room : Bool) (o : Option Refusal) → by_pools (refused_if (not there) NoPool (refused_if (not room) ErrMemBlockSize None)) ≡ o →
          is_pool a.pools pool ≡ there → has_room (pool_account it) size ≡ room → cause (limits_of a.config) (means a).bus app (PoolGet pool size) ≡ o
      by there room o none is fits = why there room is fits ∙ none

      told : (there room : Bool) → is_pool a.pools pool ≡ there → has_room (pool_account it) size ≡ room →
          with_answer (answer_in a.pools pool (get_answer it size)) after
          ≡ with_answer (cond there (cond room (Ok (it.given + 1)) (Err ErrMemBlockSize)) (Err NoPool)) after
      told there room is fits =
          ap (λ b. with_answer (cond b (get_answer it size) (Err NoPool)) after) is
          ∙ ap (λ b. with_answer (cond there (cond b (Ok (it.given + 1)) (Err ErrMemBlockSize)) (Err NoPool)) after) fits

      by_tests : (there room : Bool) → is_pool a.pools pool ≡ there → has_room (pool_account it) size ≡ room →
          bare (limits_of a.config) (means a) app (PoolGet pool size) ≡ with_answer (answer_in a.pools pool (get_answer it size)) after
      by_tests false room is fits =
          bare_by (limits_of a.config) (means a) app (PoolGet pool size) (Some (OfPools NoPool)) (by false room (Some (OfPools NoPool)) refl is fits)
          ∙ sym
          (told false room is fits
          ∙ ap (λ b. with_answer (Err NoPool) (cond b (let v : Pools = record a.pools { pools = set a.pools.pools (pool - 1) (after_get it app size) } in v) a.pools)) is)
      by_tests true false is fits =
          bare_by (limits_of a.config) (means a) app (PoolGet pool size) (Some (OfPools ErrMemBlockSize)) (by true false (Some (OfPools ErrMemBlockSize)) refl is fits)
          ∙ sym
          (told true false is fits
          ∙ ap (λ p. with_answer (Err ErrMemBlockSize) (with_pool a.pools pool p)) (still fits)
          ∙ ap (with_answer (Err ErrMemBlockSize)) same)
      by_tests true true is fits =
          bare_by (limits_of a.config) (means a) app (PoolGet pool size) None (by true true None refl is fits)
          ∙ sym (told true true is fits)

  pub get_made : (result : Result ℕ EsStatus) (next : Pools) → result ≡ answer_in a.pools pool (get_answer it size) → next ≡ after →
      bare (limits_of a.config) (means a) app (PoolGet pool size) ≡ (pool_told result, means (record a { pools = next }))
  get_made result next answers is =
      made ∙ sym (ap (λ r. with_answer r next) answers ∙ ap (with_answer (answer_in a.pools pool (get_answer it size))) is)

-- a grant's number is the next one
pub get_numbered : (s : Pools) (pool size : ℕ) (told : Result ℕ EsStatus) → told ≡ answer_in s pool (get_answer (pool_in s pool) size) → IfOk told (λ n. n ≡ (pool_in s pool).given + 1)
get_numbered s pool size told is = subst (λ (r : Result ℕ EsStatus). IfOk r (λ n. n ≡ (pool_in s pool).given + 1)) (sym is) (by_pool (is_pool s pool))
  where
    by_room : (b : Bool) → IfOk (cond {A = Result ℕ EsStatus} b (Ok ((pool_in s pool).given + 1)) (Err ErrMemBlockSize)) (λ n. n ≡ (pool_in s pool).given + 1)
    by_room true = refl
    by_room false = tt

    by_pool : (b : Bool) → IfOk (cond {A = Result ℕ EsStatus} b (get_answer (pool_in s pool) size) (Err NoPool)) (λ n. n ≡ (pool_in s pool).given + 1)
    by_pool true = by_room (has_room (pool_account (pool_in s pool)) size)
    by_pool false = tt
