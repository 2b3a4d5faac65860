-- What the calls of the memory pools answer and leave.
use Rattle.std.proofs.Common.{◌≡◌, ℕ, ◌+◌, ◌-◌, Bool, true, false, not, cond, [], ◌∷◌, ◌++◌, length, set, get_or, Option, Some, None, Result, Ok, Err, refl, ap, sym, ◌∙◌}
use Rattle.std.proofs.lemmas.List.{set-get_or}
use Rattle.fsw_base.specs.Blocks.{class_of}
use Rattle.fsw_base.specs.PoolAccounts.{has_room, has_room_if, has_room_for}
use Rattle.fsw_base.specs.declared.config.PoolStats.{PoolStats}
use Rattle.fsw_base.specs.declared.statuses.EsStatus.{EsStatus}
use Rattle.fsw_base.specs.declared.statuses.EsStatus.TheVariants.{ErrMemBlockSize, NoPool, BufferNotInPool, PoolBlockInvalid}
use Rattle.fsw_base.specs.Grants.{PoolGrants, Pools, new_pool, is_pool, pool_in, with_pool, with_grant, pool_account, refuses_pool, create_answer, after_create, after_get, after_get_if, get_answer, after_put, put_answer, answer_in, was_given, is_among, figures_of}
use Rattle.bus_words.specs.declared.calls.BusAnswer.{BusAnswer}
use Rattle.bus_words.specs.declared.history.Call.TheVariants.{PoolCreate, PoolGet, PoolPut, PoolFigures}
use Rattle.bus_words.specs.Refusals.{Refusal, OfPools}
use Rattle.bus_words.specs.Machine.{by_pools, refused_if}
use Rattle.bus_words.specs.Acts.{Whole}
use Rattle.list_bus.specs.Played.{Played}
use Rattle.list_bus.specs.Decided.{decided, numbered, returned, figured}
use Rattle.list_bus.proofs.DecidedCalls.{decided_by}

-- the state with these pools
abbrev pub with_pools : Whole → Pools → Whole
with_pools w pools = record w { bus = record w.bus { pools = pools } }

module _ (p : Played) (app : ℕ) where
  abbrev s : Pools
  s = p.whole.bus.pools

  -- a pool more, or a refusal
  pub create_made : (bytes : ℕ) → decided p app (PoolCreate bytes) ≡ (numbered (create_answer s bytes), with_pools p.whole (after_create s bytes))
  create_made bytes = by_test (refuses_pool s bytes) refl
    where
      answer : Bool → BusAnswer
      answer b = numbered (cond {A = Result ℕ EsStatus} b (Err ErrMemBlockSize) (Ok (length s.pools + 1)))

      -- the answer by this test, and the pools
      answered : Bool → BusAnswer × Whole
      answered b = (answer b, with_pools p.whole (after_create s bytes))

      -- both by this test
      left : Bool → BusAnswer × Whole
      left b = (answer b, with_pools p.whole (cond {A = Pools} b s (record s { pools = s.pools ++ new_pool s.sizes bytes ∷ [] })))

      by_test : (b : Bool) → refuses_pool s bytes ≡ b → decided p app (PoolCreate bytes) ≡ (numbered (create_answer s bytes), with_pools p.whole (after_create s bytes))
      by_test true is =
          decided_by p app (PoolCreate bytes) (Some (OfPools ErrMemBlockSize)) (ap (λ b. by_pools (refused_if b ErrMemBlockSize None)) is) ∙ sym (ap left is)
      by_test false is =
          decided_by p app (PoolCreate bytes) None (ap (λ b. by_pools (refused_if b ErrMemBlockSize None)) is) ∙ sym (ap answered is)

  -- the pool of this number
  abbrev it : ℕ → PoolGrants
  it pool = pool_in s pool

  -- the pools stay if the pool does
  same : (pool : ℕ) → with_pool s pool (it pool) ≡ s
  same pool = by_pool (is_pool s pool)
    where
      by_pool : (b : Bool) → cond {A = Pools} b (record s { pools = set s.pools (pool - 1) (get_or s.pools (pool - 1) (new_pool [] 0)) }) s ≡ s
      by_pool true = ap (λ l. let v : Pools = record s { pools = l } in v) (set-get_or s.pools (pool - 1) (new_pool [] 0))
      by_pool false = refl

  -- a request that isn't granted leaves the pool
  still : (pool size : ℕ) → has_room (pool_account (it pool)) size ≡ false → after_get (it pool) app size ≡ it pool
  still pool size none = at (class_of size (it pool).sizes) none
    where
      by_room : (class : ℕ) (b : Bool) → b ≡ false → cond {A = PoolGrants} b (with_grant (it pool) app class) (it pool) ≡ it pool
      by_room class true e = absurd (cc (e))
      by_room class false e = refl

      at : (o : Option ℕ) → has_room_if (pool_account (it pool)) o ≡ false → after_get_if (it pool) app o ≡ it pool
      at None e = refl
      at (Some class) e = by_room class (has_room_for (pool_account (it pool)) class 1) e

  -- a grant, or a refusal
  pub get_made : (pool size : ℕ) →
      decided p app (PoolGet pool size) ≡ (numbered (answer_in s pool (get_answer (it pool) size)), with_pools p.whole (with_pool s pool (after_get (it pool) app size)))
  get_made pool size = by_tests (is_pool s pool) (has_room (pool_account (it pool)) size) refl refl
    where
      why : Bool → Bool → Option Refusal
      why there room = by_pools (refused_if (not there) NoPool (refused_if (not room) ErrMemBlockSize None))

      after : PoolGrants
      after = after_get (it pool) app size

      left : Bool → Bool → Pools → BusAnswer × Whole
      left there room pools = (numbered (cond {A = Result ℕ EsStatus} there (cond {A = Result ℕ EsStatus} room (Ok ((it pool).given + 1)) (Err ErrMemBlockSize)) (Err NoPool)), with_pools p.whole pools)

      placed : Bool → Pools
      placed there = cond {A = Pools} there (record s { pools = set s.pools (pool - 1) after }) s

      by_tests : (there room : Bool) → is_pool s pool ≡ there → has_room (pool_account (it pool)) size ≡ room →
          decided p app (PoolGet pool size) ≡ left (is_pool s pool) (has_room (pool_account (it pool)) size) (with_pool s pool after)
      by_tests false room is fits =
          decided_by p app (PoolGet pool size) (Some (OfPools NoPool)) (ap (λ b. why b (has_room (pool_account (it pool)) size)) is)
          ∙ sym (ap (λ b. left b (has_room (pool_account (it pool)) size) (placed b)) is)
      by_tests true false is fits =
          decided_by p app (PoolGet pool size) (Some (OfPools ErrMemBlockSize)) (ap (λ b. why b (has_room (pool_account (it pool)) size)) is ∙ ap (why true) fits)
          ∙ sym
          (ap (λ b. left b (has_room (pool_account (it pool)) size) (with_pool s pool after)) is
          ∙ ap (λ b. left true b (with_pool s pool after)) fits
          ∙ ap (λ g. left true false (with_pool s pool g)) (still pool size fits)
          ∙ ap (left true false) (same pool))
      by_tests true true is fits =
          decided_by p app (PoolGet pool size) None (ap (λ b. why b (has_room (pool_account (it pool)) size)) is ∙ ap (why true) fits)
          ∙ sym
          (ap (λ b. left b (has_room (pool_account (it pool)) size) (with_pool s pool after)) is
          ∙ ap (λ b. left true b (with_pool s pool after)) fits)

  -- a return, or a refusal that is counted
  pub put_made : (pool grant : ℕ) →
      decided p app (PoolPut pool grant) ≡ (returned (answer_in s pool (put_answer (it pool) grant)), with_pools p.whole (with_pool s pool (after_put (it pool) grant)))
  put_made pool grant = by_tests (is_pool s pool) (was_given (it pool) grant) (is_among (it pool).out grant) refl refl refl
    where
      why : Bool → Bool → Bool → Option Refusal
      why there given out = by_pools (refused_if (not there) NoPool (refused_if (not given) BufferNotInPool (refused_if (not out) PoolBlockInvalid None)))

      left : Bool → Bool → Bool → BusAnswer × Whole
      left there given out = (
        returned (cond {A = Result (Unit {0}) EsStatus} there (cond {A = Result (Unit {0}) EsStatus} (not given) (Err BufferNotInPool) (cond {A = Result (Unit {0}) EsStatus} (not out) (Err PoolBlockInvalid) (Ok tt))) (Err NoPool)),
        with_pools p.whole (with_pool s pool (after_put (it pool) grant)),
      )

      by_tests : (there given out : Bool) → is_pool s pool ≡ there → was_given (it pool) grant ≡ given → is_among (it pool).out grant ≡ out →
          decided p app (PoolPut pool grant) ≡ left (is_pool s pool) (was_given (it pool) grant) (is_among (it pool).out grant)
      by_tests false given out is known there =
          decided_by p app (PoolPut pool grant) (Some (OfPools NoPool)) (ap (λ b. why b (was_given (it pool) grant) (is_among (it pool).out grant)) is)
          ∙ sym (ap (λ b. left b (was_given (it pool) grant) (is_among (it pool).out grant)) is)
      by_tests true false out is known there =
          decided_by p app (PoolPut pool grant) (Some (OfPools BufferNotInPool)) (ap (λ b. why b (was_given (it pool) grant) (is_among (it pool).out grant)) is ∙ ap (λ b. why true b (is_among (it pool).out grant)) known)
          ∙ sym (ap (λ b. left b (was_given (it pool) grant) (is_among (it pool).out grant)) is ∙ ap (λ b. left true b (is_among (it pool).out grant)) known)
      by_tests true true false is known there =
          decided_by p app (PoolPut pool grant) (Some (OfPools PoolBlockInvalid))
          (ap (λ b. why b (was_given (it pool) grant) (is_among (it pool).out grant)) is ∙ ap (λ b. why true b (is_among (it pool).out grant)) known ∙ ap (why true true) there)
          ∙ sym (ap (λ b. left b (was_given (it pool) grant) (is_among (it pool).out grant)) is ∙ ap (λ b. left true b (is_among (it pool).out grant)) known ∙ ap (left true true) there)
      by_tests true true true is known there =
          decided_by p app (PoolPut pool grant) None
          (ap (λ b. why b (was_given (it pool) grant) (is_among (it pool).out grant)) is ∙ ap (λ b. why true b (is_among (it pool).out grant)) known ∙ ap (why true true) there)
          ∙ sym (ap (λ b. left b (was_given (it pool) grant) (is_among (it pool).out grant)) is ∙ ap (λ b. left true b (is_among (it pool).out grant)) known ∙ ap (left true true) there)

  -- figures, or a refusal
  pub figures_made : (pool : ℕ) → decided p app (PoolFigures pool) ≡ (figured (answer_in s pool (Ok (figures_of (it pool)))), p.whole)
  figures_made pool = by_test (is_pool s pool) refl
    where
      left : Bool → BusAnswer × Whole
      left there = (figured (cond {A = Result PoolStats EsStatus} there (Ok (figures_of (it pool))) (Err NoPool)), p.whole)

      by_test : (there : Bool) → is_pool s pool ≡ there → decided p app (PoolFigures pool) ≡ left (is_pool s pool)
      by_test true is = decided_by p app (PoolFigures pool) None (ap (λ b. by_pools (refused_if (not b) NoPool None)) is) ∙ sym (ap left is)
      by_test false is =
          decided_by p app (PoolFigures pool) (Some (OfPools NoPool)) (ap (λ b. by_pools (refused_if (not b) NoPool None)) is) ∙ sym (ap left is)
