-- The account of a pool is that of its grants, and moves as the pool's calls do.
use Rattle.std.proofs.Common.{◌≡◌, ℕ, ◌+◌, ◌<◌, ◌≤◌, true, false, cond, eqb, map, Option, Some, None, List, [], ◌∷◌, ◌++◌, length, get_or, set, refl, ap, sym, subst, ◌∙◌, arith}
use Rattle.std.proofs.lemmas.Bool.{false≢true}
use Rattle.std.proofs.lemmas.List.{get_or-set_same, get_or-set_other, get_or_append_left, get_or_push, length-set, length_push}
use Rattle.std.proofs.lemmas.List.Sums.{sum_by_push}
use Rattle.std.proofs.lemmas.List.FromFn.{fill_by_all}
use Rattle.fsw_base.specs.Blocks.{class_of}
use Rattle.fsw_base.specs.PoolAccounts.{Account, counted, after_draw, after_return, after_refusal}
use Rattle.es_pool.specs.Pool.{PoolState, DrawsFor, DrawsIf, Reuses, Cuts, made_in, out_among, is_out, class_at, given_back}
use Rattle.es_pool.specs.Account.{IsAccountOf}
use Rattle.es_pool.specs.declared.blocks.CutBlock.{CutBlock}
use Rattle.es_pool.proofs.Law.{draws_alike, returns_alike}
use Rattle.es_pool.proofs.Totals.{block, sum-change}
use Rattle.es_pool.proofs.Keeps.{inside_from_out}
use Rattle.fsw_base.specs.Grants.{Grant, PoolGrants, with_grant, out_of, pool_account}
use Rattle.fsw_base.proofs.GrantAccounts as words
use Rattle.app_pools.specs.Inside.{grant_of, grants_of, account_in}
use Rattle.app_pools.specs.declared.pool.Lent.{Lent}

-- seven figures make a pool
abbrev grants : ℕ → List ℕ → List ℕ → ℕ → ℕ → ℕ → List Grant → PoolGrants
grants bytes sizes made requests errors given out = record { bytes = bytes; sizes = sizes; made = made; requests = requests; errors = errors; given = given; out = out }

-- a pool is the only one of its account and its grants
pub pool_is : (pool : PoolState) (p : PoolGrants) (lent : List Lent) → IsAccountOf pool (pool_account p) → p.out ≡ map grant_of lent → p ≡ grants_of pool p.given lent
pool_is pool p lent h e =
    let made = fill_by_all (made_in pool.blocks) p.made (length pool.sizes) 0 h.made_all h.made in
    let now = grants_of pool p.given lent in
    ap (λ x. grants x p.sizes p.made p.requests p.errors p.given p.out) h.bytes
    ∙ (ap (λ x. grants now.bytes x p.made p.requests p.errors p.given p.out) h.sizes
    ∙ (ap (λ x. grants now.bytes now.sizes x p.requests p.errors p.given p.out) made
    ∙ (ap (λ x. grants now.bytes now.sizes now.made x p.errors p.given p.out) h.requests
    ∙ (ap (λ x. grants now.bytes now.sizes now.made now.requests x p.given p.out) h.errors ∙ ap (λ x. grants now.bytes now.sizes now.made now.requests now.errors p.given x) e))))

-- and so its account is that of its grants
pub account_is : (pool : PoolState) (p : PoolGrants) (lent : List Lent) → IsAccountOf pool (pool_account p) → p.out ≡ map grant_of lent → IsAccountOf pool (account_in pool lent)
account_is pool p lent h e = subst (λ (q : PoolGrants). IsAccountOf pool (pool_account q)) (pool_is pool p lent h e) h

-- a grant is given
pub moved_drawn : (old new : PoolState) (given app size number class : ℕ) (lent : List Lent) → IsAccountOf old (account_in old lent) → DrawsFor old new size number → class_of size old.sizes ≡ Some class →
    IsAccountOf new (pool_account (with_grant (grants_of old given lent) app class))
moved_drawn old new given app size number class lent a draws e =
    let p = grants_of old given lent in
    subst (IsAccountOf new) (sym (words.drawn p app class)) (draws_alike old new (pool_account p) (after_draw (pool_account p) class) size number class a draws e refl)

-- a grant comes back: those that are left have one fewer of its class
pub moved_back : (pool new : PoolState) (p : PoolGrants) (left : List Grant) (number class : ℕ) → IsAccountOf pool (pool_account p) → is_out pool number ≡ true → class ≡ class_at pool number → new ≡ given_back pool number →
    ((c : ℕ) → out_of c p.out ≡ cond (eqb class c) 1 0 + out_of c left) → IsAccountOf new (pool_account (record p { out = left }))
moved_back pool new p left number class a out e e_new fewer =
    subst (IsAccountOf new) (sym (ap (λ l. let x : Account = record (pool_account p) { out = l } in x) (words.one_fewer p.sizes p.out left class fewer)))
    (returns_alike pool new (pool_account p) (after_return (pool_account p) class) number class a out e e_new refl)

pub moved_refused : (pool new : PoolState) (lent : List Lent) → IsAccountOf pool (account_in pool lent) → new ≡ record pool { errors = counted pool.errors } → IsAccountOf new (after_refusal (account_in pool lent))
moved_refused pool new lent a e = subst (λ p. IsAccountOf p (after_refusal (account_in pool lent))) (sym e) (record {
  bytes = a.bytes;
  sizes = a.sizes;
  made_all = a.made_all;
  out_all = a.out_all;
  made = a.made;
  out = a.out;
  classes = a.classes;
  requests = a.requests;
  errors = refl;
})

-- what a draw does to the blocks: one more is out, of the class that the size asks for, and those that were out stay as they
-- were
pub record Drawn (old new : PoolState) (size number : ℕ) : Type 0 where
  pub class : class_of size old.sizes ≡ Some (class_at new number)
  pub one_more : out_among new.blocks ≡ out_among old.blocks + 1
  pub cut : length new.blocks ≤ length old.blocks + 1
  pub sizes : new.sizes ≡ old.sizes
  pub most : new.most ≡ old.most
  pub out : (other : ℕ) → is_out old other ≡ true → is_out new other ≡ true
  pub classes : (other : ℕ) → is_out old other ≡ true → class_at new other ≡ class_at old other

pub drawn : (old new : PoolState) (size number : ℕ) → DrawsFor old new size number → is_out old number ≡ false → Drawn old new size number
drawn old new size number draws free = by_class (class_of size old.sizes) refl draws
  where
    other_than : (other : ℕ) → is_out old other ≡ true → other ≡ number → ⊥
    other_than other out same = false≢true (sym free ∙ (ap (is_out old) (sym same) ∙ out))

    reused : (class : ℕ) → class_of size old.sizes ≡ Some class → number < length old.blocks → get_or old.blocks number (block class true) ≡ block class false → Drawn old (record old { blocks = set old.blocks number (block class true); requests = counted old.requests }) size number
    reused class e within was = record {
      class = e ∙ ap Some (sym (ap (λ (b : CutBlock). b.class) (get_or-set_same old.blocks number (block class true) (block 0 true) within)));
      one_more = omega (arith, sum-change (λ b. cond b.out 1 0) old.blocks number (block class false) (block class true) (block class true) within was);
      cut = omega (arith, length-set old.blocks number (block class true));
      sizes = refl;
      most = refl;
      out = λ other out. ap (λ (b : CutBlock). b.out) (get_or-set_other old.blocks number other (block class true) (block 0 false) (other_than other out)) ∙ out;
      classes = λ other out. ap (λ (b : CutBlock). b.class) (get_or-set_other old.blocks number other (block class true) (block 0 true) (other_than other out));
    }

    cut_anew : (class : ℕ) → class_of size old.sizes ≡ Some class → number ≡ length old.blocks → Drawn old (record old { blocks = old.blocks ++ block class true ∷ []; requests = counted old.requests }) size number
    cut_anew class e next = record {
      class = e ∙ ap Some (sym (ap (λ (b : CutBlock). b.class) (get_or_push old.blocks (block class true) (block 0 true) number (sym next))));
      one_more = sum_by_push (λ b. cond b.out 1 0) old.blocks (block class true);
      cut = omega (arith, length_push old.blocks (block class true));
      sizes = refl;
      most = refl;
      out = λ other out. ap (λ (b : CutBlock). b.out) (get_or_append_left old.blocks (block class true ∷ []) (block 0 false) other (inside_from_out old.blocks other out)) ∙ out;
      classes = λ other out. ap (λ (b : CutBlock). b.class) (get_or_append_left old.blocks (block class true ∷ []) (block 0 true) other (inside_from_out old.blocks other out));
    }

    by_class : (o : Option ℕ) → class_of size old.sizes ≡ o → DrawsIf old new number o → Drawn old new size number
    by_class None e d = absurd d
    by_class (Some class) e (Reuses within was same) = subst (λ p. Drawn old p size number) (sym same) (reused class e within was)
    by_class (Some class) e (Cuts none next same) = subst (λ p. Drawn old p size number) (sym same) (cut_anew class e next)

-- what a return does to the blocks: those of other numbers stay as they were, and one fewer is out
pub out_other : (pool : PoolState) (number other : ℕ) → (other ≡ number → ⊥) → is_out (given_back pool number) other ≡ is_out pool other
out_other pool number other ne = ap (λ (b : CutBlock). b.out) (get_or-set_other pool.blocks number other (block (class_at pool number) false) (block 0 false) ne)

pub class_other : (pool : PoolState) (number other : ℕ) → (other ≡ number → ⊥) → class_at (given_back pool number) other ≡ class_at pool other
class_other pool number other ne = ap (λ (b : CutBlock). b.class) (get_or-set_other pool.blocks number other (block (class_at pool number) false) (block 0 true) ne)

pub one_fewer : (pool : PoolState) (number : ℕ) → is_out pool number ≡ true → out_among (given_back pool number).blocks + 1 ≡ out_among pool.blocks
one_fewer pool number out =
    let was = get_or pool.blocks number (block 0 false) in
    let one : cond {A = ℕ} was.out 1 0 ≡ 1 = ap (λ b. cond {A = ℕ} b 1 0) out in
    omega (arith, one, sum-change (λ b. cond b.out 1 0) pool.blocks number was (block (class_at pool number) false) (block 0 false) (inside_from_out pool.blocks number out) refl)
