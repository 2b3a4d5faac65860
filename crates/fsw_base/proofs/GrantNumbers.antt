-- The grants that are out stand in order of number, whatever the calls.
use Rattle.std.proofs.Common.{◌≡◌, ℕ, ◌+◌, ◌<◌, ◌≤◌, Bool, List, true, false, not, cond, eqb, leb, Option, Some, None, length, refl, arith}
use Rattle.std.specs.List.{filter}
use Rattle.std.proofs.lemmas.List.Elements.{All-push, All-filter}
use Rattle.std.proofs.lemmas.List.Kept.{AllPairs-filter}
use Rattle.std.proofs.lemmas.List.Quantifiers.{all_pairs_push, position-Some}
use Rattle.fsw_base.specs.Blocks.{class_of}
use Rattle.fsw_base.specs.PoolAccounts.{counted, has_room_for}
use Rattle.fsw_base.specs.Grants.{Grant, PoolGrants, new_pool, is_among, without, with_grant, after_get_if, after_get, after_put, pool_account, after_end, IsNumbered}

-- a pool that gave no grant
pub numbered_new : (sizes : List ℕ) (bytes : ℕ) → IsNumbered (new_pool sizes bytes)
numbered_new sizes bytes = record {
  rising = λ i j d lt h. absurd (omega (arith, h));
  given_all = λ k d h. absurd (omega (arith, h));
  classes = λ k d h. absurd (omega (arith, h));
}

-- a request
numbered_grant : (p : PoolGrants) (app class : ℕ) → class < length p.sizes → IsNumbered p → IsNumbered (with_grant p app class)
numbered_grant p app class there k =
    let grant : Grant = record { number = p.given + 1; app = app; class = class } in
    record {
      rising = all_pairs_push (λ earlier later. earlier.number < later.number) p.out grant k.rising (λ i d h. omega (arith, (k.given_all i d h).1));
      given_all = All-push (λ (g : Grant). (1 ≤ g.number) × (g.number ≤ p.given + 1)) p.out grant (λ i d h. ((k.given_all i d h).0, omega (arith, (k.given_all i d h).1))) (omega arith, omega arith);
      classes = All-push (λ (g : Grant). g.class < length p.sizes) p.out grant k.classes there;
    }

pub numbered_get : (p : PoolGrants) (app size : ℕ) → IsNumbered p → IsNumbered (after_get p app size)
numbered_get p app size k = by_class (class_of size p.sizes) refl
  where
    by_room : (class : ℕ) (b : Bool) → class < length p.sizes → IsNumbered (cond b (with_grant p app class) p)
    by_room class true there = numbered_grant p app class there k
    by_room class false there = k

    by_class : (o : Option ℕ) → class_of size p.sizes ≡ o → IsNumbered (after_get_if p app o)
    by_class None is = k
    by_class (Some class) is = by_room class (has_room_for (pool_account p) class 1) (position-Some (leb size) p.sizes class 0 is).0

-- some of the grants
numbered_left : (p : PoolGrants) (stays : Grant → Bool) → IsNumbered p → IsNumbered (record p { out = filter stays p.out })
numbered_left p stays k = record {
  rising = AllPairs-filter (λ earlier later. earlier.number < later.number) stays p.out k.rising;
  given_all = All-filter stays (λ grant. (1 ≤ grant.number) × (grant.number ≤ p.given)) p.out k.given_all;
  classes = All-filter stays (λ grant. grant.class < length p.sizes) p.out k.classes;
}

-- a return
pub numbered_put : (p : PoolGrants) (n : ℕ) → IsNumbered p → IsNumbered (after_put p n)
numbered_put p n k = by_out (is_among p.out n)
  where
    by_out : (b : Bool) → IsNumbered (cond b (record p { out = without n p.out }) (record p { errors = counted p.errors }))
    by_out true = numbered_left p (λ grant. not (eqb grant.number n)) k
    by_out false = record { rising = k.rising; given_all = k.given_all; classes = k.classes }

-- an end
pub numbered_end : (app : ℕ) (p : PoolGrants) → IsNumbered p → IsNumbered (after_end app p)
numbered_end app p k = numbered_left p (λ grant. not (eqb grant.app app)) k
