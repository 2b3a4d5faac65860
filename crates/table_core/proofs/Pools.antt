-- The pool and its account: what fits, and what drawing the blocks of a table does.
use Rattle.std.proofs.Common.{◌≡◌, ℕ, zero, suc, ◌+◌, ◌-◌, ◌*◌, ◌<◌, Bool, true, false, cond, eqb, leb, Option, Some, None, List, [], ◌∷◌, length, get_or, refl, ap, sym, ◌∙◌, subst, arith}
use Rattle.std.specs.Option.{option_map_or}
use Rattle.std.proofs.lemmas.List.Quantifiers.{position-Some}
use Rattle.fsw_base.specs.Blocks.{class_of}
use Rattle.fsw_base.specs.PoolAccounts.{Account, overhead, cost_of, has_room_for, after_draw, after_draws}
use Rattle.es_pool.specs.Pool.{PoolState, DrawsFor, made_in, out_in, used_by, fits_if, fits_class}
use Rattle.es_pool.specs.Pool as pool
use Rattle.es_pool.specs.Account.{IsAccountOf}
use Rattle.es_pool.proofs.Law.{rest_alike, draws_alike}
use Rattle.es_pool.proofs.Rooms.{draws_together}
use Rattle.tbl_words.specs.Tables.{blocks_for}
use Rattle.tbl_words.specs.Tables as state
use Rattle.table_blocks.specs.Memory.{DrawsEach}
use Rattle.table_blocks.specs.Contents.{Content, blocks_of}
use Rattle.table_core.specs.Inside.{each_below}

abbrev room_by : ℕ → ℕ → ℕ → List ℕ → ℕ → ℕ → ℕ → Bool
room_by class count used sizes out made bytes = leb (used + (get_or sizes class 0 + overhead) * (out + count - made)) bytes

class_room : (p : PoolState) (account : Account) (class count : ℕ) → IsAccountOf p account → class < length p.sizes → fits_class p class count ≡ has_room_for account class count
class_room p account class count is within =
    ap (λ used. room_by class count used p.sizes (out_in p.blocks class) (made_in p.blocks class) p.bytes) (sym (rest_alike p account is))
    ∙ ap (λ sizes. room_by class count (cost_of account.made account.sizes) sizes (out_in p.blocks class) (made_in p.blocks class) p.bytes) (sym is.sizes)
    ∙ ap (λ out. room_by class count (cost_of account.made account.sizes) account.sizes out (made_in p.blocks class) p.bytes) (sym (is.out class within))
    ∙ ap (λ made. room_by class count (cost_of account.made account.sizes) account.sizes (get_or account.out class 0) made p.bytes) (sym (is.made class within))
    ∙ ap (λ bytes. room_by class count (cost_of account.made account.sizes) account.sizes (get_or account.out class 0) (get_or account.made class 0) bytes) (sym is.bytes)

-- what fits in the pool fits by its account
pub fits_alike : (p : PoolState) (account : Account) (size count : ℕ) → IsAccountOf p account → pool.fits p size count ≡ state.fits account size count
fits_alike p account size count is =
    at (class_of size p.sizes) refl
    ∙ ap (λ xs. option_map_or (λ class. has_room_for account class count) (class_of size xs) false) (sym is.sizes)
  where
    at : (o : Option ℕ) → class_of size p.sizes ≡ o → fits_if p count o ≡ option_map_or (λ class. has_room_for account class count) o false
    at None e = refl
    at (Some class) e = class_room p account class count is ((position-Some (λ b. leb size b) p.sizes class 0 e).0)

-- and if it fits there is a block size for it
pub record HasClass (sizes : List ℕ) (size : ℕ) : Type 0 where
  pub class : ℕ
  pub is : class_of size sizes ≡ Some class
  pub within : class < length sizes

pub has_class : (account : Account) (size count : ℕ) → state.fits account size count ≡ true → HasClass account.sizes size
has_class account size count fits = at (class_of size account.sizes) refl fits
  where
    at : (o : Option ℕ) → class_of size account.sizes ≡ o → option_map_or (λ class. has_room_for account class count) o false ≡ true → HasClass account.sizes size
    at None e never = absurd (cc (never))
    at (Some class) e here = record { class = class; is = e; within = (position-Some (λ b. leb size b) account.sizes class 0 e).0 }

-- the blocks of a table are drawn
pub draws_all : (old new : PoolState) (account : Account) (size option : ℕ) (c : Content) (class : ℕ) → IsAccountOf old account → class_of size account.sizes ≡ Some class → class < length account.sizes →
    c.option ≡ option → DrawsEach old new size (blocks_of c) → IsAccountOf new (after_draws account class (blocks_for option))
draws_all old new account size option c class is here within same draws =
    subst (λ n. IsAccountOf new (after_draws account class (blocks_for n))) same (by_option (eqb c.option 1) draws)
  where
    by_option : (b : Bool) → DrawsEach old new size (cond {A = List ℕ} b (c.first ∷ c.second ∷ []) (c.first ∷ [])) → IsAccountOf new (after_draws account class (cond {A = ℕ} b 2 1))
    by_option false d =
        subst (λ p. IsAccountOf p (after_draws account class 1)) (sym d.1.1) (draws_alike old d.0 account (after_draw account class) size c.first class is d.1.0 here refl)
    by_option true d =
        subst (λ p. IsAccountOf p (after_draws account class 2)) (sym d.1.1.1.1)
        (draws_alike d.0 d.1.1.0 (after_draw account class) (after_draws account class 2) size c.second class
        (draws_alike old d.0 account (after_draw account class) size c.first class is d.1.0 here refl) d.1.1.1.0 here
        (draws_together account class 1 (omega (arith, within, is.made_all, ap length is.sizes)) (omega (arith, within, is.out_all, ap length is.sizes))))

-- Counted anew. --

each-length : (f : ℕ → ℕ) (n : ℕ) → length (each_below f n) ≡ n
each-length f zero = refl
each-length f (suc n) = ap suc (each-length (λ i. f (suc i)) n)

each-is : (f : ℕ → ℕ) (n : ℕ) (xs : List ℕ) → length xs ≡ n → ((i : ℕ) → i < n → get_or xs i 0 ≡ f i) → each_below f n ≡ xs
each-is f zero [] long at = refl
each-is f zero (x ∷ xs) long at = absurd (omega (arith, long))
each-is f (suc n) [] long at = absurd (omega (arith, long))
each-is f (suc n) (x ∷ xs) long at =
    let first : x ≡ f 0 = at 0 (omega arith) in
    ap (λ y. y ∷ each_below (λ i. f (suc i)) n) (sym first) ∙ ap (λ l. x ∷ l) (each-is (λ i. f (suc i)) n xs (omega (arith, long)) (λ i h. at (suc i) (omega (arith, h))))

pub made_counted : (p : PoolState) (account : Account) → IsAccountOf p account → each_below (made_in p.blocks) (length p.sizes) ≡ account.made
made_counted p account is = each-is (made_in p.blocks) (length p.sizes) account.made is.made_all is.made
