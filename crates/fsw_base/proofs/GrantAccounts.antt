-- The account of a pool moves as its grants do: one that is given draws a block of its class, one that comes back frees it.
use Rattle.std.proofs.Common.{◌≡◌, ℕ, ◌+◌, ◌-◌, ◌<◌, ◌||◌, ◌⊎◌, inl, inr, suc, true, false, not, cond, eqb, Some, List, [], ◌∷◌, ◌++◌, length, get_or, set, replicate, ap, sym, subst, ◌∙◌, arith}
use Rattle.std.specs.List.{find, All, AllPairs}
use Rattle.std.specs.Option.{option_map_or}
use Rattle.std.proofs.lemmas.Bool.{false≢true, cases_eq}
use Rattle.std.proofs.lemmas.List.{length-set, length-replicate, get_or-replicate, get_or-set_same, get_or-set_other}
use Rattle.std.proofs.lemmas.List.FromFn.{length-map-range_with_len, get_or-map-range_with_len, fill_by_all}
use Rattle.std.proofs.lemmas.List.Sums.{sum_by-cons, sum_by_push}
use Rattle.fsw_base.specs.PoolAccounts.{Account, after_draw, after_return, after_refusal}
use Rattle.fsw_base.specs.Grants.{Grant, PoolGrants, is_among, class_under, without, with_grant, after_put, out_of, blocks_out, pool_account, IsNumbered}
use Rattle.fsw_base.proofs.GrantTests.{true_from_same, false_from_other, filter_all}

-- a number at a class, once the one at another class was set
set_apart : (out : List ℕ) (class c n : ℕ) → c < length out → get_or (set out class n) c 0 ≡ cond (eqb class c) n (get_or out c 0)
set_apart out class c n h = by_class (cases_eq c class)
  where
    by_class : (c ≡ class) ⊎ (c ≡ class → ⊥) → get_or (set out class n) c 0 ≡ cond (eqb class c) n (get_or out c 0)
    by_class (inl same) =
        ap (λ i. get_or (set out class n) i 0) same
        ∙ (get_or-set_same out class n 0 (subst (λ i. i < length out) same h) ∙ sym (ap (λ b. cond b n (get_or out c 0)) (true_from_same class c (sym same))))
    by_class (inr other) = get_or-set_other out class c n 0 other ∙ sym (ap (λ b. cond b n (get_or out c 0)) (false_from_other class c (λ e. other (sym e))))

-- one more, and one fewer
more_at : (out : List ℕ) (class c : ℕ) → c < length out → get_or (set out class (get_or out class 0 + 1)) c 0 ≡ get_or out c 0 + cond (eqb class c) 1 0
more_at out class c h = by_class (cases_eq class c)
  where
    by_class : (class ≡ c) ⊎ (class ≡ c → ⊥) → get_or (set out class (get_or out class 0 + 1)) c 0 ≡ get_or out c 0 + cond (eqb class c) 1 0
    by_class (inl same) =
        let here' = true_from_same class c same in
        let one : cond {A = ℕ} (eqb class c) 1 0 ≡ 1 = ap (λ b. cond {A = ℕ} b 1 0) here' in
        let now = set_apart out class c (get_or out class 0 + 1) h ∙ ap (λ b. cond b (get_or out class 0 + 1) (get_or out c 0)) here' in
        let here : get_or out class 0 ≡ get_or out c 0 = ap (λ i. get_or out i 0) same in
        omega (arith, one, now, here)
    by_class (inr other) =
        let apart' = false_from_other class c other in
        let none : cond {A = ℕ} (eqb class c) 1 0 ≡ 0 = ap (λ b. cond {A = ℕ} b 1 0) apart' in
        let now = set_apart out class c (get_or out class 0 + 1) h ∙ ap (λ b. cond b (get_or out class 0 + 1) (get_or out c 0)) apart' in
        omega (arith, none, now)

fewer_at : (out : List ℕ) (class c n : ℕ) → c < length out → get_or out c 0 ≡ cond (eqb class c) 1 0 + n → get_or (set out class (get_or out class 0 - 1)) c 0 ≡ n
fewer_at out class c n h e = by_class (cases_eq class c)
  where
    by_class : (class ≡ c) ⊎ (class ≡ c → ⊥) → get_or (set out class (get_or out class 0 - 1)) c 0 ≡ n
    by_class (inl same) =
        let here' = true_from_same class c same in
        let one : cond {A = ℕ} (eqb class c) 1 0 ≡ 1 = ap (λ b. cond {A = ℕ} b 1 0) here' in
        let now = set_apart out class c (get_or out class 0 - 1) h ∙ ap (λ b. cond b (get_or out class 0 - 1) (get_or out c 0)) here' in
        let here : get_or out class 0 ≡ get_or out c 0 = ap (λ i. get_or out i 0) same in
        omega (arith, one, now, here, e)
    by_class (inr other) =
        let apart' = false_from_other class c other in
        let none : cond {A = ℕ} (eqb class c) 1 0 ≡ 0 = ap (λ b. cond {A = ℕ} b 1 0) apart' in
        let now = set_apart out class c (get_or out class 0 - 1) h ∙ ap (λ b. cond b (get_or out class 0 - 1) (get_or out c 0)) apart' in
        omega (arith, none, now, e)

out_first : (x : Grant) (out : List Grant) (c : ℕ) → out_of c (x ∷ out) ≡ cond (eqb x.class c) 1 0 + out_of c out
out_first x out c = sum_by-cons (λ grant. cond (eqb grant.class c) 1 0) x out

-- as many blocks of a class are out as grants of it
counts_long : (sizes : List ℕ) (out : List Grant) → length (blocks_out sizes out) ≡ length sizes
counts_long sizes out = length-map-range_with_len (λ class. out_of class out) 0 (length sizes)

pub counts_at : (sizes : List ℕ) (out : List Grant) (c : ℕ) → c < length sizes → get_or (blocks_out sizes out) c 0 ≡ out_of c out
counts_at sizes out c h = get_or-map-range_with_len (λ class. out_of class out) 0 (length sizes) c c 0 h (omega arith)

-- without grants none is out
pub none_out : (sizes : List ℕ) → replicate (length sizes) 0 ≡ blocks_out sizes []
none_out sizes = fill_by_all (λ c. out_of c []) (replicate (length sizes) 0) (length sizes) 0 (length-replicate (length sizes) 0) (λ c h. get_or-replicate (length sizes) c 0 0 h)

-- one grant more is one block more
pub one_more : (sizes : List ℕ) (before after : List Grant) (class : ℕ) → ((c : ℕ) → out_of c after ≡ out_of c before + cond (eqb class c) 1 0) →
    blocks_out sizes after ≡ set (blocks_out sizes before) class (get_or (blocks_out sizes before) class 0 + 1)
one_more sizes before after class more =
    let out = blocks_out sizes before in
    sym (fill_by_all (λ c. out_of c after) (set out class (get_or out class 0 + 1)) (length sizes) 0
    (length-set out class (get_or out class 0 + 1) ∙ counts_long sizes before)
    (λ c h. omega (arith, more_at out class c (omega (arith, h, counts_long sizes before)), counts_at sizes before c h, more c)))

-- one grant fewer is one block fewer
pub one_fewer : (sizes : List ℕ) (before after : List Grant) (class : ℕ) → ((c : ℕ) → out_of c before ≡ cond (eqb class c) 1 0 + out_of c after) →
    blocks_out sizes after ≡ set (blocks_out sizes before) class (get_or (blocks_out sizes before) class 0 - 1)
one_fewer sizes before after class fewer =
    let out = blocks_out sizes before in
    sym (fill_by_all (λ c. out_of c after) (set out class (get_or out class 0 - 1)) (length sizes) 0
    (length-set out class (get_or out class 0 - 1) ∙ counts_long sizes before)
    (λ c h. fewer_at out class c (out_of c after) (omega (arith, h, counts_long sizes before)) (counts_at sizes before c h ∙ fewer c)))

-- a grant that is given
pub drawn : (p : PoolGrants) (app class : ℕ) → pool_account (with_grant p app class) ≡ after_draw (pool_account p) class
drawn p app class =
    let grant : Grant = record { number = p.given + 1; app = app; class = class } in
    ap (λ out. let a : Account = record (after_draw (pool_account p) class) { out = out } in a)
    (one_more p.sizes p.out (p.out ++ grant ∷ []) class (λ c. sum_by_push (λ (g : Grant). cond (eqb g.class c) 1 0) p.out grant))

-- a return
rises_tail : (x : Grant) (out : List Grant) → AllPairs (λ (earlier later : Grant). earlier.number < later.number) (x ∷ out) → AllPairs (λ (earlier later : Grant). earlier.number < later.number) out
rises_tail x out rising i j d lt h = rising (suc i) (suc j) d (omega (arith, lt)) (omega (arith, h))

others_later : (x : Grant) (out : List Grant) (n : ℕ) → AllPairs (λ (earlier later : Grant). earlier.number < later.number) (x ∷ out) → x.number ≡ n → All (λ grant. not (eqb grant.number n) ≡ true) out
others_later x out n rising e k d h = ap not (false_from_other (get_or out k d).number n (λ same. omega (arith, same, e, rising 0 (suc k) d (omega arith) (omega (arith, h)))))

left_of : (out : List Grant) (n c : ℕ) → AllPairs (λ (earlier later : Grant). earlier.number < later.number) out → is_among out n ≡ true → out_of c out ≡ cond (eqb (class_under out n) c) 1 0 + out_of c (without n out)
left_of [] n c rising there = absurd (false≢true there)
left_of (x ∷ out) n c rising there = by_number (left_of out n c (rises_tail x out rising)) (cases_eq x.number n)
  where
    by_number : (is_among out n ≡ true → out_of c out ≡ cond (eqb (class_under out n) c) 1 0 + out_of c (without n out)) → (x.number ≡ n) ⊎ (x.number ≡ n → ⊥) → out_of c (x ∷ out) ≡ cond (eqb (class_under (x ∷ out) n) c) 1 0 + out_of c (without n (x ∷ out))
    by_number ih (inl same) =
        let here' = true_from_same x.number n same in
        let class : class_under (x ∷ out) n ≡ x.class = ap (λ b. option_map_or (λ (grant : Grant). grant.class) (cond b (Some x) (find (λ grant. eqb grant.number n) out)) 0) here' in
        let gone : without n (x ∷ out) ≡ without n out = ap (λ b. cond (not b) (x ∷ without n out) (without n out)) here' in
        out_first x out c
        ∙ sym (ap (λ k. cond (eqb k c) 1 0 + out_of c (without n (x ∷ out))) class ∙ ap (λ l. cond (eqb x.class c) 1 0 + out_of c l) (gone ∙ filter_all (λ grant. not (eqb grant.number n)) out (others_later x out n rising same)))
    by_number ih (inr other) =
        let apart' = false_from_other x.number n other in
        let class : class_under (x ∷ out) n ≡ class_under out n = ap (λ b. option_map_or (λ (grant : Grant). grant.class) (cond b (Some x) (find (λ grant. eqb grant.number n) out)) 0) apart' in
        let stays : without n (x ∷ out) ≡ x ∷ without n out = ap (λ b. cond (not b) (x ∷ without n out) (without n out)) apart' in
        let later : is_among out n ≡ true = sym (ap (λ b. b || is_among out n) apart') ∙ there in
        let now : out_of c (without n (x ∷ out)) ≡ cond (eqb x.class c) 1 0 + out_of c (without n out) = ap (out_of c) stays ∙ out_first x (without n out) c in
        let same_class : cond {A = ℕ} (eqb (class_under (x ∷ out) n) c) 1 0 ≡ cond (eqb (class_under out n) c) 1 0 = ap (λ k. cond {A = ℕ} (eqb k c) 1 0) class in
        omega (arith, out_first x out c, ih later, now, same_class)

-- a grant that comes back
pub returned : (p : PoolGrants) (n : ℕ) → IsNumbered p → is_among p.out n ≡ true → pool_account (after_put p n) ≡ after_return (pool_account p) (class_under p.out n)
returned p n k there =
    ap (λ b. pool_account (cond b (record p { out = without n p.out }) (record p { errors = (after_refusal (pool_account p)).errors }))) there
    ∙ ap (λ out. let a : Account = record (pool_account p) { out = out } in a)
    (one_fewer p.sizes p.out (without n p.out) (class_under p.out n) (λ c. left_of p.out n c k.rising there))

-- a return that is refused
pub refused : (p : PoolGrants) (n : ℕ) → is_among p.out n ≡ false → pool_account (after_put p n) ≡ after_refusal (pool_account p)
refused p n none = ap (λ b. pool_account (cond b (record p { out = without n p.out }) (record p { errors = (after_refusal (pool_account p)).errors }))) none
