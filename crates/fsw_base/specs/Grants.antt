-- Memory pools of applications (cFE Executive Services, memory pools). A pool hands out grants,
-- numbered from 1, and keeps of each one that is out what its return needs. Nothing is kept of a
-- grant that came back.
use Rattle.std.specs.Prelude.{◌==◌, ◌&&◌, ◌||◌, ℕ, ◌+◌, ◌-◌, ◌^◌, ◌<◌, ◌≤◌, nat_le, nat_lt, All, Bool, true, not, if◌then◌else◌, List, [], ◌∷◌, ◌++◌, length, replicate, map, filter, find, count_by, sum_by, slice_index, slice_index_or, slice_set, Option, Some, None, Result, Ok, Err}
use Rattle.std.specs.List.{list_any, range_with_len, AllPairs}
use Rattle.std.specs.Option.{option_map_or}
use Rattle.fsw_base.specs.Blocks.{class_of}
use Rattle.fsw_base.specs.PoolAccounts.{Account, overhead, counted, cost_of, has_room, has_room_for, after_draw}
use Rattle.fsw_base.specs.declared.config.PoolStats.{PoolStats}
use Rattle.fsw_base.specs.declared.statuses.EsStatus.{EsStatus}
use Rattle.fsw_base.specs.declared.statuses.EsStatus.TheVariants.{ErrMemBlockSize, BufferNotInPool, PoolBlockInvalid, NoPool}

-- a grant that is out: its number in its pool, the application that it was given to, and its block
-- size, by the place of this size among the pool's sizes
pub record Grant : Type 0 where
  pub number : ℕ
  pub app : ℕ
  pub class : ℕ

-- A pool: its bytes and block sizes; how many blocks of each size were made, which is the greatest
-- number that were ever out at once; how many blocks were drawn, and how many returns were refused;
-- how many grants it gave, and those that are out, in order of number.
pub record PoolGrants : Type 0 where
  pub bytes : ℕ
  pub sizes : List ℕ
  pub made : List ℕ
  pub requests : ℕ
  pub errors : ℕ
  pub given : ℕ
  pub out : List Grant

-- a pool of so many bytes that gave no grant
abbrev pub new_pool : List ℕ → ℕ → PoolGrants
new_pool sizes bytes =
    record {
      bytes = bytes;
      sizes = sizes;
      made = replicate (length sizes) 0;
      requests = 0;
      errors = 0;
      given = 0;
      out = [];
    }

-- how many of these grants are of a class
abbrev pub out_of : ℕ → List Grant → ℕ
out_of class out = count_by (λ grant. grant.class == class) out

-- for each of these sizes, how many of these grants have a block of it
abbrev pub blocks_out : List ℕ → List Grant → List ℕ
blocks_out sizes out = map (λ class. out_of class out) (range_with_len 0 (length sizes))

-- the account of a pool: as many blocks of each size are out as grants that are out have one
abbrev pub pool_account : PoolGrants → Account
pool_account pool = record {
  bytes = pool.bytes;
  sizes = pool.sizes;
  made = pool.made;
  out = blocks_out pool.sizes pool.out;
  requests = pool.requests;
  errors = pool.errors;
}

-- whether a pool ever gave a grant of this number
abbrev pub was_given : PoolGrants → ℕ → Bool
was_given pool number = nat_le 1 number && nat_le number pool.given

-- whether one of these grants has this number
abbrev pub is_among : List Grant → ℕ → Bool
is_among out number = list_any (λ grant. grant.number == number) out

-- the block size of the grant of this number, by place
abbrev pub class_under : List Grant → ℕ → ℕ
class_under out number =
    option_map_or (λ grant. grant.class) (find (λ grant. grant.number == number) out) 0

-- the grants but that of this number
abbrev pub without : ℕ → List Grant → List Grant
without number out = filter (λ grant. not (grant.number == number)) out

-- the grants of the other applications
abbrev pub of_others : ℕ → List Grant → List Grant
of_others app out = filter (λ grant. not (grant.app == app)) out

-- how many grants an application has out
abbrev pub held_by : ℕ → List Grant → ℕ
held_by app out = count_by (λ grant. grant.app == app) out

-- one grant more: a block of this class is drawn
abbrev pub with_grant : PoolGrants → ℕ → ℕ → PoolGrants
with_grant pool app class = record pool {
  made = (after_draw (pool_account pool) class).made;
  requests = (after_draw (pool_account pool) class).requests;
  given = pool.given + 1;
  out = pool.out ++ record { number = pool.given + 1; app = app; class = class } ∷ [];
}

-- a request for a class: a grant if there is room for one more block of it, else nothing changes
abbrev pub after_get_if : PoolGrants → ℕ → Option ℕ → PoolGrants
after_get_if pool app None = pool
after_get_if pool app (Some class) =
    if has_room_for (pool_account pool) class 1 then with_grant pool app class else pool

-- a request for a size is one for the smallest class that is large enough
abbrev pub after_get : PoolGrants → ℕ → ℕ → PoolGrants
after_get pool app size = after_get_if pool app (class_of size pool.sizes)

-- it answers the grant's number, one more than were given
abbrev pub get_answer : PoolGrants → ℕ → Result ℕ EsStatus
get_answer pool size =
    if has_room (pool_account pool) size then Ok (pool.given + 1) else Err ErrMemBlockSize

-- a return: the grant isn't out any more; any other return is counted
abbrev pub after_put : PoolGrants → ℕ → PoolGrants
after_put pool number =
    if is_among pool.out number then record pool { out = without number pool.out }
    else record pool { errors = counted pool.errors }

-- a return is refused if the grant was never given, or isn't out any more
abbrev pub put_answer : PoolGrants → ℕ → Result Unit EsStatus
put_answer pool number =
    if not (was_given pool number) then Err BufferNotInPool
    else (if not (is_among pool.out number) then Err PoolBlockInvalid else Ok tt)

-- an application's end: all its grants come back
abbrev pub after_end : ℕ → PoolGrants → PoolGrants
after_end app pool = record pool { out = of_others app pool.out }

-- the figures of a pool: its bytes, the blocks drawn, the returns refused and the bytes never cut
abbrev pub figures_of : PoolGrants → PoolStats
figures_of pool = record {
  size = pool.bytes;
  requests = pool.requests;
  errors = pool.errors;
  free = pool.bytes - cost_of pool.made pool.sizes;
}

-- the grants that are out stand in order of number, and each was given and is of a class that there
-- is
pub record IsNumbered (pool : PoolGrants) : Type 0 where
  pub rising : AllPairs (λ earlier later. earlier.number < later.number) pool.out
  pub given_all : All (λ grant. (1 ≤ grant.number) × (grant.number ≤ pool.given)) pool.out
  pub classes : All (λ grant. grant.class < length pool.sizes) pool.out

-- the most bytes that a pool may have, the block sizes of every pool, and the pools, numbered from
-- 1 in order of creation
pub record Pools : Type 0 where
  pub most : ℕ
  pub sizes : List ℕ
  pub pools : List PoolGrants

-- whether a pool of this number was created
abbrev pub is_pool : Pools → ℕ → Bool
is_pool s pool = nat_le 1 pool && nat_le pool (length s.pools)

-- the pool of this number
abbrev pub pool_in : Pools → ℕ → PoolGrants
pool_in s pool = slice_index_or s.pools (pool - 1) (new_pool [] 0)

-- whether the pool of this number, if there is one, has a number left for a further grant
abbrev pub has_numbers : Pools → ℕ → Bool
has_numbers s pool = if is_pool s pool then nat_lt (pool_in s pool).given (2 ^ 64 - 1) else true

-- with the pool of this number changed; nothing changes if there is none
abbrev pub with_pool : Pools → ℕ → PoolGrants → Pools
with_pool s pool after =
    if is_pool s pool then record s { pools = slice_set s.pools (pool - 1) after } else s

-- why a creation is refused: eight pools exist, or it asks for more bytes than a pool may have, or
-- for too few for a block
abbrev pub refuses_pool : Pools → ℕ → Bool
refuses_pool s bytes =
    nat_le 8 (length s.pools) || not (nat_le bytes s.most) ||
    not (nat_le (slice_index s.sizes 0 + overhead) bytes)

-- a creation answers the pool's number, one more than there are
abbrev pub create_answer : Pools → ℕ → Result ℕ EsStatus
create_answer s bytes =
    if refuses_pool s bytes then Err ErrMemBlockSize else Ok (length s.pools + 1)

abbrev pub after_create : Pools → ℕ → Pools
after_create s bytes =
    if refuses_pool s bytes then s
    else (record s { pools = s.pools ++ new_pool s.sizes bytes ∷ [] })

-- an answer of a pool's, if there is a pool of this number
abbrev pub answer_in : {A : Type 0} → Pools → ℕ → Result A EsStatus → Result A EsStatus
answer_in s pool answer = if is_pool s pool then answer else Err NoPool

-- the pools once an application ended
abbrev pub all_after_end : ℕ → Pools → Pools
all_after_end app s = record s { pools = map (after_end app) s.pools }

-- how many grants of all pools an application has out
abbrev pub held_in : Pools → ℕ → ℕ
held_in s app = sum_by (λ pool. held_by app pool.out) s.pools
