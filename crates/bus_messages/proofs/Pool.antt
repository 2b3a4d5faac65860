-- The account of a pool, counted anew, after a draw and after a return.
use Rattle.std.proofs.Common.{◌≡◌, ℕ, zero, suc, ◌<◌, ◌≤◌, ◌⊎◌, inl, inr, Bool, true, false, List, [], ◌∷◌, length, get_or, set, Option, Some, None, refl, ap, sym, ◌∙◌, arith}
use Rattle.std.specs.Option.{option_map_or}
use Rattle.std.proofs.lemmas.Bool.{cases_eq, cases_lt}
use Rattle.std.proofs.lemmas.Grind.{get_or-set_at}
use Rattle.std.proofs.lemmas.List.{get_or_push, get_or_past, get_or-set_other, get_or_append_left, get_or_default, set_past}
use Rattle.fsw_base.specs.Blocks.{class_of}
use Rattle.fsw_base.specs.PoolAccounts.{Account, has_room, after_draw, after_request, after_return}
use Rattle.es_pool.specs.Pool.{PoolState, Draws, Reuses, Cuts, DrawsFor, DrawsIf, is_out, class_at, given_back, made_in, out_in, most_cut, fits}
use Rattle.es_pool.specs.Account.{IsAccountOf}
use Rattle.es_pool.specs.declared.blocks.CutBlock.{CutBlock}
use Rattle.es_pool.proofs.Law.{room_alike, draws_alike, returns_alike, account_new, moved_drawn}
use Rattle.bus_messages.specs.Inside.{account_in, returned}
use Rattle.bus_words.specs.Held.{each_below}
use Rattle.bus_messages.specs.Store.{unused}

-- Lists told place by place. --

each-length : (f : ℕ → ℕ) (n : ℕ) → length (each_below f n) ≡ n
each-length f zero = refl
each-length f (suc n) = ap suc (each-length (λ i. f (suc i)) n)

each-at : (f : ℕ → ℕ) (n i : ℕ) → i < n → get_or (each_below f n) i 0 ≡ f i
each-at f zero i h = absurd (omega (arith, h))
each-at f (suc n) zero h = refl
each-at f (suc n) (suc i) h = each-at (λ j. f (suc j)) n i (omega (arith, h))

same_places : (xs ys : List ℕ) → length xs ≡ length ys → ((i : ℕ) → i < length xs → get_or xs i 0 ≡ get_or ys i 0) → xs ≡ ys
same_places [] [] e at = refl
same_places [] (y ∷ ys) e at = absurd (omega (arith, e))
same_places (x ∷ xs) [] e at = absurd (omega (arith, e))
same_places (x ∷ xs) (y ∷ ys) e at =
    let first : x ≡ y = at 0 (omega arith) in
    ap (λ z. z ∷ xs) first ∙ ap (λ l. y ∷ l) (same_places xs ys (omega (arith, e)) (λ i h. at (suc i) (omega (arith, h))))

-- The account. --

-- a pool has one account
one_account : (pool : PoolState) (a b : Account) → IsAccountOf pool a → IsAccountOf pool b → a ≡ b
one_account pool a b is also =
    ap (λ n. record a { bytes = n }) (is.bytes ∙ sym also.bytes)
    ∙ ap (λ l. record a { bytes = b.bytes; sizes = l }) (is.sizes ∙ sym also.sizes)
    ∙ ap (λ l. record a { bytes = b.bytes; sizes = b.sizes; made = l }) (same_places a.made b.made (is.made_all ∙ sym also.made_all) (λ i h. is.made i (omega (arith, h, is.made_all)) ∙ sym (also.made i (omega (arith, h, is.made_all)))))
    ∙ ap (λ l. record a { bytes = b.bytes; sizes = b.sizes; made = b.made; out = l }) (same_places a.out b.out (is.out_all ∙ sym also.out_all) (λ i h. is.out i (omega (arith, h, is.out_all)) ∙ sym (also.out i (omega (arith, h, is.out_all)))))
    ∙ ap (λ n. record a { bytes = b.bytes; sizes = b.sizes; made = b.made; out = b.out; requests = n }) (is.requests ∙ sym also.requests)
    ∙ ap (λ n. record b { errors = n }) (is.errors ∙ sym also.errors)

-- and it is the one that is counted anew
is_counted : (pool : PoolState) (a : Account) → IsAccountOf pool a → IsAccountOf pool (account_in pool)
is_counted pool a is = record {
  bytes = refl;
  sizes = refl;
  made_all = each-length (made_in pool.blocks) (length pool.sizes);
  out_all = each-length (out_in pool.blocks) (length pool.sizes);
  made = λ class h. each-at (made_in pool.blocks) (length pool.sizes) class h;
  out = λ class h. each-at (out_in pool.blocks) (length pool.sizes) class h;
  classes = is.classes;
  requests = refl;
  errors = refl;
}

pub counted_new : (bytes : ℕ) (sizes : List ℕ) → IsAccountOf (record { bytes = bytes; most = bytes; sizes = sizes; blocks = []; requests = 0; errors = 0 }) (account_in (record { bytes = bytes; most = bytes; sizes = sizes; blocks = []; requests = 0; errors = 0 }))
counted_new bytes sizes = is_counted _ (unused bytes sizes) (account_new bytes sizes)

pub account_unused : (bytes : ℕ) (sizes : List ℕ) → account_in (record { bytes = bytes; most = bytes; sizes = sizes; blocks = []; requests = 0; errors = 0 }) ≡ unused bytes sizes
account_unused bytes sizes = one_account _ _ (unused bytes sizes) (counted_new bytes sizes) (account_new bytes sizes)

pub room_counted : (pool : PoolState) (size : ℕ) → IsAccountOf pool (account_in pool) → fits pool size 1 ≡ has_room (account_in pool) size
room_counted pool size is = room_alike pool (account_in pool) size is

-- Classes. --

abbrev block : ℕ → Bool → CutBlock
block class out = record { class = class; out = out }

-- a block set to one of the same class keeps the classes
class_set : (blocks : List CutBlock) (n other : ℕ) (b : CutBlock) → b.class ≡ (get_or blocks n (block 0 true)).class → (get_or (set blocks n b) other (block 0 true)).class ≡ (get_or blocks other (block 0 true)).class
class_set blocks n other b e = at (cases_eq n other) (cases_lt n (length blocks))
  where
    at : (n ≡ other) ⊎ (n ≡ other → ⊥) → (n < length blocks) ⊎ (length blocks ≤ n) → (get_or (set blocks n b) other (block 0 true)).class ≡ (get_or blocks other (block 0 true)).class
    at (inr apart) _ = ap (λ (x : CutBlock). x.class) (get_or-set_other blocks n other b (block 0 true) (λ x. apart (sym x)))
    at (inl same) (inl h) = ap (λ (x : CutBlock). x.class) (get_or-set_at blocks n other b (block 0 true) (sym same) h) ∙ (e ∙ ap (λ i. (get_or blocks i (block 0 true)).class) same)
    at (inl same) (inr h) = ap (λ l. (get_or l other (block 0 true)).class) (set_past blocks n b h)

pub class_given_back : (pool : PoolState) (d other : ℕ) → class_at (given_back pool d) other ≡ class_at pool other
class_given_back pool d other = class_set pool.blocks d other (block (class_at pool d) false) refl

-- another block stays out
pub out_given_back : (pool : PoolState) (d other : ℕ) → (d ≡ other → ⊥) → is_out (given_back pool d) other ≡ is_out pool other
out_given_back pool d other apart =
    ap (λ (x : CutBlock). x.out) (get_or-set_other pool.blocks d other (block (class_at pool d) false) (block 0 false) (λ e. apart (sym e)))

out_within : (pool : PoolState) (d : ℕ) → is_out pool d ≡ true → d < length pool.blocks
out_within pool d e = at (cases_lt d (length pool.blocks))
  where
    off : (b : Bool) → b ≡ false → b ≡ true → ⊥
    off b x y = cc

    at : (d < length pool.blocks) ⊎ (length pool.blocks ≤ d) → d < length pool.blocks
    at (inl h) = h
    at (inr h) = absurd (off (is_out pool d) (ap (λ (x : CutBlock). x.out) (get_or_past pool.blocks d (block 0 false) h)) e)

class_draw : (old new : PoolState) (class n other : ℕ) → Draws old new class n → is_out old other ≡ true → class_at new other ≡ class_at old other
class_draw old new class n other (Reuses within found e) out =
    ap (λ (p : PoolState). class_at p other) e
    ∙ class_set old.blocks n other (block class true) (sym (ap (λ (x : CutBlock). x.class) (get_or_default old.blocks n (block 0 true) (block class true) within ∙ found)))
class_draw old new class n other (Cuts none next e) out =
    ap (λ (p : PoolState). class_at p other) e
    ∙ ap (λ (x : CutBlock). x.class) (get_or_append_left old.blocks (block class true ∷ []) (block 0 true) other (out_within old other out))

class_here : (old new : PoolState) (class n : ℕ) → Draws old new class n → class_at new n ≡ class
class_here old new class n (Reuses within found e) =
    ap (λ (p : PoolState). class_at p n) e ∙ ap (λ (x : CutBlock). x.class) (get_or-set_at old.blocks n n (block class true) (block 0 true) refl within)
class_here old new class n (Cuts none next e) =
    ap (λ (p : PoolState). class_at p n) e ∙ ap (λ (x : CutBlock). x.class) (get_or_push old.blocks (block class true) (block 0 true) n (sym next))

sizes_stay : (old new : PoolState) (class number : ℕ) → Draws old new class number → new.sizes ≡ old.sizes
sizes_stay old new class number (Reuses within was e) = ap (λ (p : PoolState). p.sizes) e
sizes_stay old new class number (Cuts none next e) = ap (λ (p : PoolState). p.sizes) e

-- the pool keeps the most that can be cut
pub most_drawn : (old new : PoolState) (size number : ℕ) → DrawsFor old new size number → most_cut new ≡ most_cut old
most_drawn old new size number draws = at (class_of size old.sizes) draws
  where
    by_draw : (class : ℕ) → Draws old new class number → most_cut new ≡ most_cut old
    by_draw class (Reuses within was e) = ap most_cut e
    by_draw class (Cuts none next e) = ap most_cut e

    at : (o : Option ℕ) → DrawsIf old new number o → most_cut new ≡ most_cut old
    at None d = absurd d
    at (Some class) d = by_draw class d

-- A draw and a return. --

-- what a draw for a size leaves
pub record IsDrawn (old new : PoolState) (size number : ℕ) : Type 0 where
  pub is : IsAccountOf new (account_in new)
  pub account : account_in new ≡ after_request (account_in old) size
  pub here : class_of size new.sizes ≡ Some (class_at new number)
  pub sizes : new.sizes ≡ old.sizes
  pub others : (other : ℕ) → is_out old other ≡ true → class_at new other ≡ class_at old other

pub drawn_for : (old new : PoolState) (size number : ℕ) → IsAccountOf old (account_in old) → has_room (account_in old) size ≡ true → DrawsFor old new size number → IsDrawn old new size number
drawn_for old new size number is room draws = at (class_of size old.sizes) refl draws
  where
    at : (o : Option ℕ) → class_of size old.sizes ≡ o → DrawsIf old new number o → IsDrawn old new size number
    at None e d = absurd d
    at (Some class) e d =
        let after = draws_alike old new (account_in old) (after_draw (account_in old) class) size number class is draws e refl in
        record {
          is = is_counted new (after_draw (account_in old) class) after;
          account =
              one_account new (account_in new) (after_draw (account_in old) class) (is_counted new (after_draw (account_in old) class) after) after
              ∙ moved_drawn (account_in old) (after_draw (account_in old) class) size class e room refl;
          here = ap (class_of size) (sizes_stay old new class number d) ∙ e ∙ ap Some (sym (class_here old new class number d));
          sizes = sizes_stay old new class number d;
          others = λ other out. class_draw old new class number other d out;
        }

-- what a return of a block for a size leaves
pub record IsReturned (pool : PoolState) (size number : ℕ) : Type 0 where
  pub is : IsAccountOf (given_back pool number) (account_in (given_back pool number))
  pub account : account_in (given_back pool number) ≡ returned (account_in pool) size

pub returned_for : (pool : PoolState) (size number : ℕ) → IsAccountOf pool (account_in pool) → is_out pool number ≡ true → class_of size pool.sizes ≡ Some (class_at pool number) → IsReturned pool size number
returned_for pool size number is out class =
    let next = after_return (account_in pool) (class_at pool number) in
    let after = returns_alike pool (given_back pool number) (account_in pool) next number (class_at pool number) is out refl refl refl in
    let now = is_counted (given_back pool number) next after in
    record {
      is = now;
      account =
          one_account (given_back pool number) (account_in (given_back pool number)) next now after
          ∙ sym (ap (λ (o : Option ℕ). option_map_or (after_return (account_in pool)) o (account_in pool)) class);
    }
