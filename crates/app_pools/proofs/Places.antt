-- The places of the pools: those that were created stand first, and the grants of all of them are numbered.
use Rattle.std.proofs.Common.{◌≡◌, ℕ, ◌+◌, ◌-◌, ◌*◌, ◌^◌, ◌<◌, ◌≤◌, ltb, ◌||◌, zero, suc, Bool, true, false, not, leb, cond, List, [], ◌∷◌, ◌++◌, length, get_or, set, take, drop, map, replicate, sum_by, Option, Some, Result, Ok, Err, refl, ap, sym, subst, ◌∙◌, arith}
use Rattle.std.proofs.lemmas.Bool.{false≢true, leb-false, leb-true, not-false}
use Rattle.std.specs.Result.{result_err}
use Rattle.std.proofs.lemmas.Bool.Decides.{nat_tests}
use Rattle.fsw_base.specs.PoolAccounts.{overhead}
use Rattle.std.proofs.lemmas.List.{length-replicate, get_or-replicate, length-set, length-take-le, length-map, length-drop, length-append, get_or-set_other, get_or-take, get_or-drop, get_or-append_right, take_more_set, take_at, get_or_default}
use Rattle.std.proofs.lemmas.List.Elements.{All-replicate, All-get_or, All-set, All-append, All-map, All-weaker, All-take, All-drop}
use Rattle.std.proofs.lemmas.List.Sums.{sum_by_more}
use Rattle.fsw_base.specs.declared.statuses.EsStatus.{EsStatus}
use Rattle.fsw_base.specs.declared.statuses.EsStatus.TheVariants.{ErrMemBlockSize, NoPool}
use Rattle.fsw_base.specs.Grants.{PoolGrants, Pools, new_pool, is_pool, pool_in, has_numbers, with_pool, refuses_pool, create_answer, after_create, answer_in, after_get, after_put, after_end, held_by, all_after_end, IsNumbered}
use Rattle.app_pools.specs.Inside.{pools_in, AreOpened, IsPlace}
use Rattle.fsw_base.proofs.GrantNumbers.{numbered_new, numbered_get, numbered_put, numbered_end}

-- at opening
pub opened_new : (most : ℕ) (sizes : List ℕ) (places : List PoolGrants) → places ≡ replicate 8 (new_pool sizes most) → AreOpened most sizes 0 places
opened_new most sizes places is = subst (AreOpened most sizes 0) (sym is) (record {
  eight = length-replicate 8 (new_pool sizes most);
  within = omega arith;
  unused = λ i above below. get_or-replicate 8 i (new_pool sizes most) (new_pool [] 0) below;
  numbered = All-replicate IsNumbered 8 (new_pool sizes most) (numbered_new sizes most);
})

-- the first elements, with one of them changed
pub take_set : {X : Type 0} (n i : ℕ) (xs : List X) (x : X) → i < n → take n (set xs i x) ≡ set (take n xs) i x
take_set zero i xs x h = absurd (omega (arith, h))
take_set (suc n) zero [] x h = refl
take_set (suc n) zero (y ∷ ys) x h = refl
take_set (suc n) (suc i) [] x h = refl
take_set (suc n) (suc i) (y ∷ ys) x h = ap (λ l. y ∷ l) (take_set n i ys x (omega (arith, h)))

-- a creation that isn't refused finds room for one more pool, and asks for no more than a pool may have
first_two : (a b c : Bool) → (a || b || c) ≡ false → (a ≡ false) × (b ≡ false)
first_two true b c e = absurd (false≢true (sym e))
first_two false true c e = absurd (false≢true (sym e))
first_two false false c e = (refl, refl)

few_pools : (s : Pools) (bytes : ℕ) → refuses_pool s bytes ≡ false → length s.pools < 8
few_pools s bytes e = leb-false 8 (length s.pools) (first_two (leb 8 (length s.pools)) (not (leb bytes s.most)) (not (leb (get_or s.sizes 0 0 + overhead) bytes)) e).0

bytes_within : (s : Pools) (bytes : ℕ) → refuses_pool s bytes ≡ false → bytes ≤ s.most
bytes_within s bytes e = leb-true bytes s.most (not-false (leb bytes s.most) (first_two (leb 8 (length s.pools)) (not (leb bytes s.most)) (not (leb (get_or s.sizes 0 0 + overhead) bytes)) e).1)

module _ (most made : ℕ) (sizes : List ℕ) (places : List PoolGrants) (o : AreOpened most sizes made places) where
  pub many : length (take made places) ≡ made
  many = length-take-le made places (omega (arith, o.within, o.eight))

  -- the pool at a place
  module _ (s : Pools) (e : pools_in most sizes made places ≡ s) (pool place : ℕ) (is : IsPlace s pool place) where
    pub before_made : place < made
    before_made = omega (arith, is.within, ap (λ (p : Pools). length p.pools) e, many)

    pub inside : place < length places
    inside = omega (arith, before_made, o.within, o.eight)

    pub reads : (d : PoolGrants) → get_or places place d ≡ pool_in s pool
    reads d =
        get_or_default places place d (new_pool [] 0) inside
        ∙ (sym (get_or-take made places place (new_pool [] 0) before_made) ∙ (ap (λ (p : Pools). get_or p.pools place (new_pool [] 0)) e ∙ ap (λ i. get_or s.pools i (new_pool [] 0)) is.before))

    pub changes : (x : PoolGrants) → pools_in most sizes made (set places place x) ≡ with_pool s pool x
    changes x =
        ap (λ l. let p : Pools = record { most = most; sizes = sizes; pools = l } in p) (take_set made place places x before_made)
        ∙ (ap (λ (p : Pools). record p { pools = set p.pools place x }) e
        ∙ (ap (λ i. record s { pools = set s.pools i x }) is.before ∙ sym (ap (λ b. cond b (record s { pools = set s.pools (pool - 1) x }) s) is.there)))

    numbered_there : IsNumbered (pool_in s pool)
    numbered_there = subst IsNumbered (reads (new_pool [] 0)) (All-get_or IsNumbered places place (new_pool [] 0) inside o.numbered)

    opened_set : (x : PoolGrants) → IsNumbered x → AreOpened most sizes made (set places place x)
    opened_set x numbered = record {
      eight = length-set places place x ∙ o.eight;
      within = o.within;
      unused = λ i above below. get_or-set_other places place i x (new_pool [] 0) (λ same. omega (arith, same, above, before_made)) ∙ o.unused i above below;
      numbered = All-set IsNumbered places place x numbered o.numbered;
    }

    pub opened_get : (x : PoolGrants) (app size : ℕ) → x ≡ after_get (pool_in s pool) app size → AreOpened most sizes made (set places place x)
    opened_get x app size after = opened_set x (subst IsNumbered (sym after) (numbered_get (pool_in s pool) app size numbered_there))

    pub opened_put : (x : PoolGrants) (number : ℕ) → x ≡ after_put (pool_in s pool) number → AreOpened most sizes made (set places place x)
    opened_put x number after = opened_set x (subst IsNumbered (sym after) (numbered_put (pool_in s pool) number numbered_there))

  -- one more is created
  module _ (s : Pools) (e : pools_in most sizes made places ≡ s) (bytes : ℕ) (allowed : refuses_pool s bytes ≡ false) where
    pub few : made < 8
    few = omega (arith, few_pools s bytes allowed, many, ap (λ (p : Pools). length p.pools) e)

    pub open_place : made < length places
    open_place = omega (arith, few, o.eight)

    pub within_most : bytes ≤ most
    within_most = omega (arith, bytes_within s bytes allowed, ap (λ (p : Pools). p.most) e)

    pub fresh : (d : PoolGrants) → get_or places made d ≡ new_pool sizes most
    fresh d = get_or_default places made d (new_pool [] 0) (omega (arith, few, o.eight)) ∙ o.unused made (omega arith) few

    pub created : (x : PoolGrants) → x ≡ new_pool sizes bytes → pools_in most sizes (made + 1) (set places made x) ≡ after_create s bytes
    created x is =
        ap (λ l. let p : Pools = record { most = most; sizes = sizes; pools = l } in p) (take_more_set places made x (omega (arith, few, o.eight)))
        ∙ (ap (λ y. let p : Pools = record { most = most; sizes = sizes; pools = take made places ++ y ∷ [] } in p) is
        ∙ (ap (λ (p : Pools). record p { pools = p.pools ++ new_pool p.sizes bytes ∷ [] }) e
        ∙ sym (ap (λ b. cond b s (record s { pools = s.pools ++ new_pool s.sizes bytes ∷ [] })) allowed)))

    pub opened_more : (x : PoolGrants) → x ≡ new_pool sizes bytes → AreOpened most sizes (made + 1) (set places made x)
    opened_more x is = record {
      eight = length-set places made x ∙ o.eight;
      within = omega (arith, few);
      unused = λ i above below. get_or-set_other places made i x (new_pool [] 0) (λ same. omega (arith, same, above)) ∙ o.unused i (omega (arith, above)) below;
      numbered = All-set IsNumbered places made x (subst IsNumbered (sym is) (numbered_new sizes bytes)) o.numbered;
    }

    pub created_number : Ok (made + 1) ≡ create_answer s bytes
    created_number =
        ap (λ n. Ok (n + 1)) (sym many ∙ ap (λ (p : Pools). length p.pools) e) ∙ sym (ap (λ b. cond b (Err ErrMemBlockSize) (Ok (length s.pools + 1))) allowed)

  -- an application ends
  module _ (app : ℕ) (after : List PoolGrants) (e : after ≡ map (after_end app) (take made places) ++ drop made places) where
    ended_many : length (map (after_end app) (take made places)) ≡ made
    ended_many = length-map (take made places) (after_end app) ∙ many

    pub ended_is : (s : Pools) → pools_in most sizes made places ≡ s → pools_in most sizes made after ≡ all_after_end app s
    ended_is s is =
        ap (pools_in most sizes made) e
        ∙ (ap (λ l. let p : Pools = record { most = most; sizes = sizes; pools = l } in p) (take_at (map (after_end app) (take made places)) (drop made places) made ended_many) ∙ ap (all_after_end app) is)

    pub opened_ended : AreOpened most sizes made after
    opened_ended = subst (λ l. AreOpened most sizes made l) (sym e) (record {
      eight = omega (arith, length-append (map (after_end app) (take made places)) (drop made places), ended_many, length-drop made places, o.eight, o.within);
      within = o.within;
      unused = λ i above below.
          get_or-append_right (map (after_end app) (take made places)) (drop made places) made i (new_pool [] 0) ended_many above
          ∙ (get_or-drop made places (i - made) (new_pool [] 0) ∙ (ap (λ n. get_or places n (new_pool [] 0)) (there i above) ∙ o.unused i above below));
      numbered = All-append IsNumbered (map (after_end app) (take made places)) (drop made places)
          (All-map IsNumbered (after_end app) (take made places)
          (All-weaker IsNumbered (λ p. IsNumbered (after_end app p)) (numbered_end app) (take made places) (All-take IsNumbered made places o.numbered)))
          (All-drop IsNumbered made places o.numbered);
    })
      where
        there : (i : ℕ) → made ≤ i → made + (i - made) ≡ i
        there i above = omega (arith, above)

-- an answer if there is a pool, and if there is none
pub answer_there : {A : Type 0} (s : Pools) (pool : ℕ) (r a : Result A EsStatus) → is_pool s pool ≡ true → r ≡ a → r ≡ answer_in s pool a
answer_there s pool r a is e = e ∙ sym (ap (λ b. cond b a (Err NoPool)) is)

pub answer_nowhere : {A : Type 0} (s : Pools) (pool : ℕ) (a : Result A EsStatus) → is_pool s pool ≡ false → Err NoPool ≡ answer_in s pool a
answer_nowhere s pool a is = sym (ap (λ b. cond b a (Err NoPool)) is)

-- and its refusal
pub refusal_there : {A B : Type 0} (s : Pools) (pool : ℕ) (r : Result A EsStatus) (a : Result B EsStatus) → is_pool s pool ≡ true → result_err r ≡ result_err a → result_err r ≡ result_err (answer_in s pool a)
refusal_there {A} {B} s pool r a is e = let told : Bool → Option EsStatus = λ b. result_err (cond {A = Result B EsStatus} b a (Err NoPool)) in e ∙ sym (ap told is)

pub refusal_nowhere : {B : Type 0} (s : Pools) (pool : ℕ) (a : Result B EsStatus) → is_pool s pool ≡ false → Some NoPool ≡ result_err (answer_in s pool a)
refusal_nowhere {B} s pool a is = let told : Bool → Option EsStatus = λ b. result_err (cond {A = Result B EsStatus} b a (Err NoPool)) in sym (ap told is)

pub unchanged_nowhere : (s : Pools) (pool : ℕ) (x : PoolGrants) → is_pool s pool ≡ false → s ≡ with_pool s pool x
unchanged_nowhere s pool x is = sym (ap (λ b. cond b (record s { pools = set s.pools (pool - 1) x }) s) is)

-- a pool that is there has a number left
pub numbers_there : (s : Pools) (pool : ℕ) → is_pool s pool ≡ true → has_numbers s pool ≡ true → (pool_in s pool).given < 2 ^ 64 - 1
numbers_there s pool is left = grind (arith, nat_tests, sym (ap (λ b. cond b (ltb (pool_in s pool).given (2 ^ 64 - 1)) true) is) ∙ left)

-- while the pools are gone through, the next one is as it was
pub still_there : (f : PoolGrants → PoolGrants) (xs ys : List PoolGrants) (i : ℕ) (d : PoolGrants) → i < length xs → ys ≡ map f (take i xs) ++ drop i xs → get_or ys i d ≡ get_or xs i d
still_there f xs ys i d h e =
    ap (λ l. get_or l i d) e
    ∙ (get_or-append_right (map f (take i xs)) (drop i xs) i i d (length-map (take i xs) f ∙ length-take-le i xs (omega (arith, h))) (omega arith) ∙ (get_or-drop i xs (i - i) d ∙ ap (λ n. get_or xs n d) same))
  where
    same : i + (i - i) ≡ i
    same = omega arith

pub cost_more : (app : ℕ) (xs ys : List PoolGrants) (i before now now' : ℕ) (x : PoolGrants) → i < length xs → ys ≡ map (after_end app) (take i xs) ++ drop i xs → x ≡ get_or ys i x → now ≤ before + 8 * sum_by (λ pool. held_by app pool.out) (take i xs) → now' ≤ now + 8 * held_by app x.out → now' ≤ before + 8 * sum_by (λ pool. held_by app pool.out) (take (i + 1) xs)
cost_more app xs ys i before now now' x h e read far more =
    let here : held_by app x.out ≡ held_by app (get_or xs i x).out = ap (λ (p : PoolGrants). held_by app p.out) (read ∙ still_there (after_end app) xs ys i x h e) in
    omega (arith, far, more, here, sum_by_more (λ pool. held_by app pool.out) xs i x h)
