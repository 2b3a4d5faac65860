-- All grants of an application come back, one after another.
use Rattle.std.proofs.Common.{◌≡◌, ◌≢◌, ℕ, ◌+◌, ◌*◌, ◌<◌, ◌≤◌, ◌⊎◌, inl, inr, Bool, true, false, not, cond, eqb, List, [], ◌∷◌, ◌++◌, length, get_or, take, drop, map, sum_by, refl, ap, sym, subst, ◌∙◌, arith}
use Rattle.std.specs.List.{filter}
use Rattle.std.proofs.lemmas.Bool.{false≢true, cases_lt}
use Rattle.std.proofs.lemmas.Bool.Decides.{nat_tests}
use Rattle.std.proofs.lemmas.List.{append-nil, append_assoc, drop_more, drop_all, take_more, take_all, get_or_default, length-set}
use Rattle.std.proofs.lemmas.List.Elements.{All-filter, filter_passes, filter-append}
use Rattle.std.proofs.lemmas.List.Sums.{sum_by-append, sum_by-cons}
use Rattle.std.proofs.lemmas.List.Kept.{AllPairs-filter}
use Rattle.fsw_base.proofs.Lists.{count_by-map}
use Rattle.es_pool.specs.Account.{IsAccountOf}
use Rattle.es_pool.specs.Pool.{PoolState, out_among, is_out, class_at, given_back, most_cut}
use Rattle.es_pool.proofs.Totals.{block}
use Rattle.es_pool.proofs.Keeps.{true_from_same}
use Rattle.fsw_base.specs.Grants.{Grant, PoolGrants, after_end, held_by, out_of, blocks_out, pool_account}
use Rattle.app_pools.specs.Inside.{account_in, grant_of, grants_of, left_after, IsLent, AreLent, AreGivenBack, AreKept}
use Rattle.app_pools.specs.declared.pool.Lent.{Lent}
use Rattle.app_pools.proofs.Accounts.{pool_is, account_is, moved_back, out_other, class_other, one_fewer}
use Rattle.app_pools.proofs.Keeps.{most_le, same_most}
use Rattle.app_pools.proofs.Rows.{others_are, held_first, others_and_own}

-- one further
module _ (old mid new : PoolState) (lent : List Lent) (app i : ℕ) (x : Lent) (k : AreLent old lent) (g : AreGivenBack old mid lent app i) (h : i < length lent) (here : get_or lent i x ≡ x) where
  left : drop i lent ≡ x ∷ drop (i + 1) lent
  left = drop_more lent i x h ∙ ap (λ y. y ∷ drop (i + 1) lent) here

  held_left : held_by app (map grant_of (drop i lent)) ≡ cond (eqb x.app app) 1 0 + held_by app (map grant_of (drop (i + 1) lent))
  held_left = ap (λ l. held_by app (map grant_of l)) left ∙ held_first x (drop (i + 1) lent) app

  pub still_out : is_out mid x.block ≡ true
  still_out = subst (λ (l : Lent). is_out mid l.block ≡ true) here (g.held i x h (inl (omega arith))).0

  abbrev passes : Lent → Bool
  passes grant = not (eqb grant.app app)

  -- what is left of the first, and what stands behind this one
  abbrev first : List Lent
  first = filter passes (take i lent)

  abbrev behind : List Lent
  behind = drop (i + 1) lent

  left_here : left_after app i lent ≡ first ++ x ∷ behind
  left_here = ap (λ l. first ++ l) left

  left_next : left_after app (i + 1) lent ≡ (first ++ cond (passes x) (x ∷ []) []) ++ behind
  left_next = ap (λ l. filter passes l ++ behind) (take_more lent i x h ∙ ap (λ y. take i lent ++ y ∷ []) here) ∙ ap (λ l. l ++ behind) (filter-append passes (take i lent) (x ∷ []))

  -- the pool once so many were gone through
  abbrev through : ℕ → PoolGrants
  through n = record (grants_of old 0 lent) { out = map grant_of (left_after app n lent) }

  out_left : eqb x.app app ≡ true → (c : ℕ) → out_of c (through i).out ≡ cond (eqb x.class c) 1 0 + out_of c (through (i + 1)).out
  out_left own c =
      let f : Lent → ℕ = λ (l : Lent). cond {A = ℕ} (eqb l.class c) 1 0 in
      let next : left_after app (i + 1) lent ≡ first ++ behind = left_next ∙ ap (λ b. (first ++ cond (not b) (x ∷ []) []) ++ behind) own ∙ ap (λ l. l ++ behind) (append-nil first) in
      let now : out_of c (through i).out ≡ sum_by f (first ++ x ∷ behind) = ap (λ l. out_of c (map grant_of l)) left_here ∙ count_by-map (λ (grant : Grant). eqb grant.class c) grant_of (first ++ x ∷ behind) in
      let later : out_of c (through (i + 1)).out ≡ sum_by f (first ++ behind) = ap (λ l. out_of c (map grant_of l)) next ∙ count_by-map (λ (grant : Grant). eqb grant.class c) grant_of (first ++ behind) in
      omega (arith, now, later, sum_by-append f first (x ∷ behind), sum_by-append f first behind, sum_by-cons f x behind)

  stays_left : eqb x.app app ≡ false → left_after app (i + 1) lent ≡ left_after app i lent
  stays_left other = left_next ∙ ap (λ b. (first ++ cond (not b) (x ∷ []) []) ++ behind) other ∙ append_assoc first (x ∷ []) behind ∙ sym left_here

  pub cost_left : (before now now' : ℕ) → now + 8 * held_by app (map grant_of (drop i lent)) ≤ before + 8 * held_by app (map grant_of lent) → now' ≤ now + cond (eqb x.app app) 8 0 → now' + 8 * held_by app (map grant_of (drop (i + 1) lent)) ≤ before + 8 * held_by app (map grant_of lent)
  cost_left before now now' far more = by_app (eqb x.app app) refl
    where
      by_app : (b : Bool) → eqb x.app app ≡ b → now' + 8 * held_by app (map grant_of (drop (i + 1) lent)) ≤ before + 8 * held_by app (map grant_of lent)
      by_app true e =
          let one : cond {A = ℕ} (eqb x.app app) 1 0 ≡ 1 = ap (λ b. cond {A = ℕ} b 1 0) e in
          let eight : cond {A = ℕ} (eqb x.app app) 8 0 ≡ 8 = ap (λ b. cond {A = ℕ} b 8 0) e in
          omega (arith, far, more, one, eight, held_left)
      by_app false e =
          let one : cond {A = ℕ} (eqb x.app app) 1 0 ≡ 0 = ap (λ b. cond {A = ℕ} b 1 0) e in
          let eight : cond {A = ℕ} (eqb x.app app) 8 0 ≡ 0 = ap (λ b. cond {A = ℕ} b 8 0) e in
          omega (arith, far, more, one, eight, held_left)

  own_back : eqb x.app app ≡ true → new ≡ given_back mid x.block → AreGivenBack old new lent app (i + 1)
  own_back own back = record {
    account = moved_back mid new (through i) (through (i + 1)).out x.block x.class g.account still_out same_class back (out_left own);
    held = others;
    cut = ap (λ (p : PoolState). length p.blocks) back ∙ (length-set mid.blocks x.block (block (class_at mid x.block) false) ∙ g.cut);
    sizes = ap (λ (p : PoolState). p.sizes) back ∙ g.sizes;
    most = ap (λ (p : PoolState). p.most) back ∙ g.most;
    fewer = let one : cond {A = ℕ} (eqb x.app app) 1 0 ≡ 1 = ap (λ b. cond {A = ℕ} b 1 0) own in
        omega (arith, one, held_left, g.fewer, one_fewer mid x.block still_out, ap (λ (p : PoolState). out_among p.blocks) back);
  }
    where
      same_class : x.class ≡ class_at mid x.block
      same_class = sym (subst (λ (l : Lent). class_at mid l.block ≡ l.class) here (g.held i x h (inl (omega arith))).1)

      not_here : (j : ℕ) (d : Lent) → (i + 1 ≤ j) ⊎ ((get_or lent j d).app ≢ app) → j ≡ i → ⊥
      not_here j d (inl later) same = omega (arith, later, same)
      not_here j d (inr other) same = other (ap (λ n. (get_or lent n d).app) same ∙ (ap (λ (l : Lent). l.app) (get_or_default lent i d x h ∙ here) ∙ same_app))
        where
          same_app : x.app ≡ app
          same_app = grind (arith, nat_tests, own)

      apart : (j : ℕ) (d : Lent) → j < length lent → (j ≡ i → ⊥) → (get_or lent j d).block ≡ x.block → ⊥
      apart j d hj ne same = by_order (cases_lt j i)
        where
          at_x : (get_or lent i d).block ≡ x.block
          at_x = ap (λ (l : Lent). l.block) (get_or_default lent i d x h ∙ here)

          by_order : (j < i) ⊎ (i ≤ j) → ⊥
          by_order (inl below) = k.apart j i d below h (same ∙ sym at_x)
          by_order (inr above) = k.apart i j d (omega (arith, above, ne)) hj (at_x ∙ sym same)

      earlier : (j : ℕ) (d : Lent) → (i + 1 ≤ j) ⊎ ((get_or lent j d).app ≢ app) → (i ≤ j) ⊎ ((get_or lent j d).app ≢ app)
      earlier j d (inl later) = inl (omega (arith, later))
      earlier j d (inr other) = inr other

      others : (j : ℕ) (d : Lent) → j < length lent → (i + 1 ≤ j) ⊎ ((get_or lent j d).app ≢ app) → IsLent new (get_or lent j d)
      others j d hj one =
          let was = g.held j d hj (earlier j d one) in
          let other = apart j d hj (not_here j d one) in
          subst (λ p. IsLent p (get_or lent j d)) (sym back) (out_other mid x.block (get_or lent j d).block other ∙ was.0, class_other mid x.block (get_or lent j d).block other ∙ was.1)

  other_stays : eqb x.app app ≡ false → new ≡ mid → AreGivenBack old new lent app (i + 1)
  other_stays other same = subst (λ p. AreGivenBack old p lent app (i + 1)) (sym same) (record {
    account = subst (λ l. IsAccountOf mid (record (account_in old lent) { out = blocks_out old.sizes (map grant_of l) })) (sym (stays_left other)) g.account;
    held = λ j d hj one. g.held j d hj (earlier j d one);
    cut = g.cut;
    sizes = g.sizes;
    most = g.most;
    fewer = let none : cond {A = ℕ} (eqb x.app app) 1 0 ≡ 0 = ap (λ b. cond {A = ℕ} b 1 0) other in omega (arith, none, held_left, g.fewer);
  })
    where
      earlier : (j : ℕ) (d : Lent) → (i + 1 ≤ j) ⊎ ((get_or lent j d).app ≢ app) → (i ≤ j) ⊎ ((get_or lent j d).app ≢ app)
      earlier j d (inl later) = inl (omega (arith, later))
      earlier j d (inr others) = inr others

  pub one_back : new ≡ cond (eqb x.app app) (given_back mid x.block) mid → AreGivenBack old new lent app (i + 1)
  one_back e = by_app (eqb x.app app) refl
    where
      by_app : (b : Bool) → eqb x.app app ≡ b → AreGivenBack old new lent app (i + 1)
      by_app true own = own_back own (e ∙ ap (λ b. cond b (given_back mid x.block) mid) own)
      by_app false other = other_stays other (e ∙ ap (λ b. cond b (given_back mid x.block) mid) other)

-- once all came back
module _ (old new : PoolState) (given room app : ℕ) (lent rest : List Lent) (k : AreKept old given lent room) (g : AreGivenBack old new lent app (length lent)) (retained : rest ≡ filter (λ grant. not (eqb grant.app app)) lent) where
  all_gone : drop (length lent) lent ≡ []
  all_gone = drop_all (length lent) lent (omega arith)

  abbrev stays : Lent → Bool
  stays grant = not (eqb grant.app app)

  all_left : left_after app (length lent) lent ≡ filter stays lent
  all_left = ap (λ l. filter stays (take (length lent) lent) ++ l) all_gone ∙ append-nil (filter stays (take (length lent) lent)) ∙ ap (filter stays) (take_all (length lent) lent (omega arith))

  ended : IsAccountOf new (pool_account (after_end app (grants_of old given lent)))
  ended = subst (λ out. IsAccountOf new (record (account_in old lent) { out = blocks_out old.sizes out })) (ap (map grant_of) all_left ∙ sym (others_are lent app)) g.account

  pub end_is : after_end app (grants_of old given lent) ≡ grants_of new given rest
  end_is = pool_is new (after_end app (grants_of old given lent)) rest ended (others_are lent app ∙ ap (map grant_of) (sym retained))

  pub kept_ended : (room' : ℕ) → room' ≡ room → AreKept new given rest room'
  kept_ended room' e_room = subst (λ l. AreKept new given l room') (sym retained) (record {
    account = account_is new (after_end app (grants_of old given lent)) (filter stays lent) ended (others_are lent app);
    blocks = record {
      each = λ i d h. All-filter stays (λ grant. stays grant ≡ true → IsLent new grant) lent (λ j e hj pass. g.held j e hj (inr (other (get_or lent j e) pass))) i d h (filter_passes stays lent i d h);
      apart = AllPairs-filter (λ earlier later. earlier.block ≢ later.block) stays lent k.blocks.apart;
    };
    numbered = record {
      rising = AllPairs-filter (λ earlier later. earlier.number < later.number) stays lent k.numbered.rising;
      given_all = All-filter stays (λ grant. (1 ≤ grant.number) × (grant.number ≤ given)) lent k.numbered.given_all;
    };
    all = omega (arith, k.all, g.fewer, others_and_own lent app, ap (λ l. held_by app (map grant_of l)) all_gone);
    cut = omega (arith, k.cut, g.cut);
    enough = most_le (most_cut old) (most_cut new) room room' k.enough (same_most old new g.sizes g.most) e_room;
  })
    where
      other : (grant : Lent) → stays grant ≡ true → grant.app ≢ app
      other grant pass same = false≢true (ap not (sym (true_from_same grant.app app same)) ∙ pass)
