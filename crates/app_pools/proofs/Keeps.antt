-- The grants and the blocks of a pool stay tied if a grant is given and if one comes back.
use Rattle.std.proofs.Common.{◌≡◌, ◌≢◌, ℕ, ◌+◌, ◌/◌, ◌<◌, ◌≤◌, ◌&&◌, ◌⊎◌, inl, inr, Bool, true, false, not, cond, leb, Option, Some, None, Ok, Err, List, [], ◌∷◌, ◌++◌, length, get_or, map, refl, ap, sym, subst, ◌∙◌, arith}
use Rattle.std.specs.List.{remove}
use Rattle.std.proofs.lemmas.Bool.{false≢true, cases_lt}
use Rattle.std.proofs.lemmas.Bool.Decides.{nat_tests}
use Rattle.std.proofs.lemmas.List.{length_push, map_push, get_or_default, length-set}
use Rattle.es_pool.proofs.Totals.{block}
use Rattle.std.proofs.lemmas.List.Edits.{length-remove}
use Rattle.std.proofs.lemmas.List.Elements.{All-push}
use Rattle.std.proofs.lemmas.List.Quantifiers.{all_pairs_push, all_pairs_remove}
use Rattle.fsw_base.specs.Blocks.{class_of}
use Rattle.fsw_base.specs.PoolAccounts.{overhead, counted, has_room_if, has_room_for}
use Rattle.fsw_base.specs.declared.statuses.EsStatus.TheVariants.{ErrMemBlockSize, BufferNotInPool, PoolBlockInvalid}
use Rattle.es_pool.specs.Pool.{PoolState, DrawsFor, IsWhole, fits, out_among, is_out, class_at, given_back, most_cut}
use Rattle.es_pool.specs.Account.{IsAccountOf}
use Rattle.es_pool.proofs.Law.{room_alike, account_new}
use Rattle.es_pool.proofs.Keeps.{out_few}
use Rattle.fsw_base.specs.Grants.{Grant, PoolGrants, new_pool, was_given, is_among, get_answer, after_get, after_get_if, with_grant, pool_account, put_answer, after_put, without}
use Rattle.fsw_base.proofs.GrantAccounts.{none_out}
use Rattle.app_pools.specs.Inside.{account_in, grant_of, grants_of, IsLent, HasNumber, AreKept}
use Rattle.app_pools.specs.declared.pool.Lent.{Lent}
use Rattle.app_pools.proofs.Accounts.{pool_is, account_is, moved_drawn, moved_back, moved_refused, Drawn, drawn, out_other, class_other, one_fewer}
use Rattle.app_pools.proofs.Rows.{without_one, without_is, among_here, among_none, one_class_fewer}

-- a pool of which nothing was cut
abbrev uncut : ℕ → ℕ → List ℕ → PoolState
uncut bytes most sizes = record { bytes = bytes; most = most; sizes = sizes; blocks = []; requests = 0; errors = 0 }

new_account : (bytes : ℕ) (sizes : List ℕ) → IsAccountOf (uncut bytes bytes sizes) (pool_account (new_pool sizes bytes))
new_account bytes sizes =
    subst (λ out. IsAccountOf (uncut bytes bytes sizes) (record (pool_account (new_pool sizes bytes)) { out = out })) (none_out sizes) (account_new bytes sizes)

pub kept_new : (pool : PoolState) (bytes room : ℕ) (sizes : List ℕ) → pool ≡ uncut bytes bytes sizes → most_cut pool ≤ room → AreKept pool 0 [] room
kept_new pool bytes room sizes e enough = record {
  account = subst (λ p. IsAccountOf p (account_in p [])) (sym e) (account_is (uncut bytes bytes sizes) (new_pool sizes bytes) [] (new_account bytes sizes) refl);
  blocks = record { each = λ k d h. absurd (omega (arith, h)); apart = λ i j d lt h. absurd (omega (arith, h)) };
  numbered = record { rising = λ i j d lt h. absurd (omega (arith, h)); given_all = λ k d h. absurd (omega (arith, h)) };
  all = sym (ap (λ (p : PoolState). out_among p.blocks) e);
  cut = omega (arith, ap (λ (p : PoolState). length p.blocks) e);
  enough = enough;
}

pub new_is : (pool : PoolState) (bytes : ℕ) (sizes : List ℕ) → pool ≡ uncut bytes bytes sizes → grants_of pool 0 [] ≡ new_pool sizes bytes
new_is pool bytes sizes e = ap (λ p. grants_of p 0 []) e ∙ sym (pool_is (uncut bytes bytes sizes) (new_pool sizes bytes) [] (new_account bytes sizes) refl)

-- most blocks that can be cut
pub same_most : (old new : PoolState) → new.sizes ≡ old.sizes → new.most ≡ old.most → most_cut new ≡ most_cut old
same_most old new sizes most = ap (λ s. new.most / (get_or s 0 0 + overhead)) sizes ∙ ap (λ m. m / (get_or old.sizes 0 0 + overhead)) most

-- there is room for them still
pub most_le : (most most' room room' : ℕ) → most ≤ room → most' ≡ most → room' ≡ room → most' ≤ room'
most_le most most' room room' enough e e_room = omega (arith, enough, e, e_room)

one_left : (count out out' blocks most most' room : ℕ) → count ≡ out → out' ≡ out + 1 → out' ≤ blocks → blocks ≤ most' → most' ≡ most → most ≤ room → count < room
one_left count out out' blocks most most' room a b c d e f = omega (arith, a, b, c, d, e, f)

-- a grant is given
module _ (old new : PoolState) (given room size : ℕ) (lent : List Lent) (k : AreKept old given lent room) (row : Lent) (draws : DrawsFor old new size row.block) (free : is_out old row.block ≡ false) where
  draw : Drawn old new size row.block
  draw = drawn old new size row.block draws free

  pub room_left : IsWhole new → length lent < room
  room_left whole = one_left (length lent) (out_among old.blocks) (out_among new.blocks) (length new.blocks) (most_cut old) (most_cut new) room k.all draw.one_more (out_few new.blocks) whole.few (same_most old new draw.sizes draw.most) k.enough

  abbrev granted : PoolGrants
  granted = with_grant (grants_of old given lent) row.app (class_at new row.block)

  granted_out : row.class ≡ class_at new row.block → row.number ≡ given + 1 → granted.out ≡ map grant_of (lent ++ row ∷ [])
  granted_out e_class e_number =
      let grant : Grant = record { number = given + 1; app = row.app; class = class_at new row.block } in
      let same_grant : grant_of row ≡ grant = ap (λ n. let h : Grant = record { number = n; app = row.app; class = row.class } in h) e_number ∙ ap (λ c. let h : Grant = record { number = given + 1; app = row.app; class = c } in h) e_class in
      sym (map_push grant_of lent row ∙ ap (λ g. map grant_of lent ++ g ∷ []) same_grant)

  moved : IsAccountOf new (pool_account granted)
  moved = moved_drawn old new given row.app size row.block (class_at new row.block) lent k.account draws draw.class

  pub kept_push : (room' : ℕ) → room' ≡ room → is_out new row.block ≡ true → row.class ≡ class_at new row.block → row.number ≡ given + 1 → AreKept new (given + 1) (lent ++ row ∷ []) room'
  kept_push room' e_room now_out e_class e_number = record {
    account = account_is new granted (lent ++ row ∷ []) moved (granted_out e_class e_number);
    blocks = record {
      each = All-push (IsLent new) lent row (λ i d h. let was = k.blocks.each i d h in (draw.out (get_or lent i d).block was.0, draw.classes (get_or lent i d).block was.0 ∙ was.1)) (now_out, sym e_class);
      apart = all_pairs_push (λ earlier later. earlier.block ≢ later.block) lent row k.blocks.apart (λ i d h same. false≢true (sym free ∙ (ap (is_out old) (sym same) ∙ (k.blocks.each i d h).0)));
    };
    numbered = record {
      rising = all_pairs_push (λ earlier later. earlier.number < later.number) lent row k.numbered.rising (λ i d h. omega (arith, (k.numbered.given_all i d h).1, e_number));
      given_all = All-push (λ grant. (1 ≤ grant.number) × (grant.number ≤ given + 1)) lent row (λ i d h. let was = k.numbered.given_all i d h in (was.0, omega (arith, was.1))) (omega (arith, e_number), omega (arith, e_number));
    };
    all = omega (arith, k.all, draw.one_more, length_push lent row);
    cut = omega (arith, k.cut, draw.cut);
    enough = most_le (most_cut old) (most_cut new) room room' k.enough (same_most old new draw.sizes draw.most) e_room;
  }

  pub given_is : fits old size 1 ≡ true → row.class ≡ class_at new row.block → row.number ≡ given + 1 → after_get (grants_of old given lent) row.app size ≡ grants_of new (given + 1) (lent ++ row ∷ [])
  given_is room_there e_class e_number =
      let pool = grants_of old given lent in
      let class = class_at new row.block in
      let there : has_room_for (pool_account pool) class 1 ≡ true = sym (ap (has_room_if (pool_account pool)) draw.class) ∙ (sym (room_alike old (account_in old lent) size k.account) ∙ room_there) in
      ap (after_get_if pool row.app) draw.class
      ∙ (ap (λ b. cond b (with_grant pool row.app class) pool) there ∙ pool_is new granted (lent ++ row ∷ []) moved (granted_out e_class e_number))

pub false_unless : (b : Bool) → (b ≡ true → false ≡ true) → b ≡ false
false_unless true never = sym (never refl)
false_unless false never = refl

-- what the answer is, from what the pool tells
pub answer_given : (pool : PoolState) (given room size : ℕ) (lent : List Lent) → AreKept pool given lent room → fits pool size 1 ≡ true → Ok (given + 1) ≡ get_answer (grants_of pool given lent) size
answer_given pool given room size lent k there = sym (ap (λ b. cond b (Ok (given + 1)) (Err ErrMemBlockSize)) (sym (room_alike pool (account_in pool lent) size k.account) ∙ there))

pub answer_refused : (pool : PoolState) (given room size : ℕ) (lent : List Lent) → AreKept pool given lent room → fits pool size 1 ≡ false → Err ErrMemBlockSize ≡ get_answer (grants_of pool given lent) size
answer_refused pool given room size lent k full = sym (ap (λ b. cond b (Ok (given + 1)) (Err ErrMemBlockSize)) (sym (room_alike pool (account_in pool lent) size k.account) ∙ full))

-- a refused request changes nothing
pub refused_is : (pool : PoolState) (given room app size : ℕ) (lent : List Lent) → AreKept pool given lent room → fits pool size 1 ≡ false → after_get (grants_of pool given lent) app size ≡ grants_of pool given lent
refused_is pool given room app size lent k full = by_class (class_of size pool.sizes) (sym (room_alike pool (account_in pool lent) size k.account) ∙ full)
  where
    by_class : (o : Option ℕ) → has_room_if (account_in pool lent) o ≡ false → after_get_if (grants_of pool given lent) app o ≡ grants_of pool given lent
    by_class None e = refl
    by_class (Some class) e = ap (λ b. cond b (with_grant (grants_of pool given lent) app class) (grants_of pool given lent)) e

-- the grant at a place comes back
module _ (old new : PoolState) (given room : ℕ) (lent : List Lent) (k : AreKept old given lent room) (n i : ℕ) (here : HasNumber lent n i) (d : Lent) (back : new ≡ given_back old (get_or lent i d).block) where
  abbrev b : ℕ
  b = (get_or lent i d).block

  was : IsLent old (get_or lent i d)
  was = k.blocks.each i d here.0

  -- the grants but this one
  abbrev others : PoolGrants
  others = record (grants_of old given lent) { out = map grant_of (remove lent i) }

  moved_left : IsAccountOf new (pool_account others)
  moved_left = moved_back old new (grants_of old given lent) (map grant_of (remove lent i)) b (get_or lent i d).class k.account was.0 (sym was.1) back (one_class_fewer lent i d here.0)

  not_it : (j : ℕ) (e : Lent) → j < length lent → (j ≡ i → ⊥) → (get_or lent j e).block ≡ b → ⊥
  not_it j e h ne same = by_order (cases_lt j i)
    where
      at_j : (get_or lent j d).block ≡ b
      at_j = ap (λ (l : Lent). l.block) (get_or_default lent j d e h) ∙ same

      by_order : (j < i) ⊎ (i ≤ j) → ⊥
      by_order (inl below) = k.blocks.apart j i d below here.0 at_j
      by_order (inr above) = k.blocks.apart i j d (omega (arith, above, ne)) h (sym at_j)

  pub kept_removed : (room' : ℕ) → room' ≡ room → AreKept new given (remove lent i) room'
  kept_removed room' e_room = record {
    account = account_is new others (remove lent i) moved_left refl;
    blocks = record {
      each = without_one (IsLent new) lent i here.0 (λ j e h ne. let other = not_it j e h ne in let is = k.blocks.each j e h in
          subst (λ p. IsLent p (get_or lent j e)) (sym back) (out_other old b (get_or lent j e).block other ∙ is.0, class_other old b (get_or lent j e).block other ∙ is.1));
      apart = all_pairs_remove (λ earlier later. earlier.block ≢ later.block) lent i here.0 k.blocks.apart;
    };
    numbered = record {
      rising = all_pairs_remove (λ earlier later. earlier.number < later.number) lent i here.0 k.numbered.rising;
      given_all = without_one (λ grant. (1 ≤ grant.number) × (grant.number ≤ given)) lent i here.0 (λ j e h ne. k.numbered.given_all j e h);
    };
    all = omega (arith, k.all, length-remove lent i here.0, one_fewer old b was.0, ap (λ (p : PoolState). out_among p.blocks) back);
    cut = omega (arith, k.cut, ap (λ (p : PoolState). length p.blocks) back, length-set old.blocks b (block (class_at old b) false));
    enough = most_le (most_cut old) (most_cut new) room room' k.enough (ap most_cut back) e_room;
  }

  pub removed_is : after_put (grants_of old given lent) n ≡ grants_of new given (remove lent i)
  removed_is =
      let pool = grants_of old given lent in
      ap (λ t. cond t (record pool { out = without n pool.out }) (record pool { errors = counted pool.errors })) (among_here lent n i here)
      ∙ (ap (λ out. let p : PoolGrants = record pool { out = out } in p) (sym (without_is lent n i k.numbered.rising here)) ∙ pool_is new others (remove lent i) moved_left refl)

  pub removed_answer : put_answer (grants_of old given lent) n ≡ Ok tt
  removed_answer =
      let given_there = k.numbered.given_all i d here.0 in
      let first : leb 1 n ≡ true = grind (arith, nat_tests, given_there.0, here.1 d) in
      let last : leb n given ≡ true = grind (arith, nat_tests, given_there.1, here.1 d) in
      ap (λ t. cond (not (t && leb n given)) (Err BufferNotInPool) (cond (not (is_among (map grant_of lent) n)) (Err PoolBlockInvalid) (Ok tt))) first
      ∙ (ap (λ t. cond (not t) (Err BufferNotInPool) (cond (not (is_among (map grant_of lent) n)) (Err PoolBlockInvalid) (Ok tt))) last
      ∙ ap (λ t. cond (not t) (Err PoolBlockInvalid) (Ok tt)) (among_here lent n i here))

-- a refused return is counted
pub refusal_is : (old new : PoolState) (given room n : ℕ) (lent : List Lent) → AreKept old given lent room → new ≡ record old { errors = counted old.errors } → is_among (map grant_of lent) n ≡ false → after_put (grants_of old given lent) n ≡ grants_of new given lent
refusal_is old new given room n lent k e none =
    let pool = grants_of old given lent in
    let counted_one : PoolGrants = record pool { errors = counted pool.errors } in
    ap (λ t. cond t (record pool { out = without n pool.out }) counted_one) none ∙ pool_is new counted_one lent (moved_refused old new lent k.account e) refl

-- none that was never given is out
pub never_out : (pool : PoolState) (given room n : ℕ) (lent : List Lent) → AreKept pool given lent room → (leb 1 n && leb n given) ≡ false → is_among (map grant_of lent) n ≡ false
never_out pool given room n lent k never = among_none lent n (λ i d h same. false≢true (sym never ∙ inside (k.numbered.given_all i d h) same))
  where
    inside : {m : ℕ} → (1 ≤ m) × (m ≤ given) → m ≡ n → (leb 1 n && leb n given) ≡ true
    inside within same =
        let first : leb 1 n ≡ true = grind (arith, nat_tests, within.0, same) in
        let last : leb n given ≡ true = grind (arith, nat_tests, within.1, same) in
        ap (λ t. t && leb n given) first ∙ last

pub answer_back : (pool : PoolGrants) (n : ℕ) → was_given pool n ≡ true → is_among pool.out n ≡ false → put_answer pool n ≡ Err PoolBlockInvalid
answer_back pool n given none =
    ap (λ t. cond (not t) (Err BufferNotInPool) (cond (not (is_among pool.out n)) (Err PoolBlockInvalid) (Ok tt))) given
    ∙ ap (λ t. cond (not t) (Err PoolBlockInvalid) (Ok tt)) none
