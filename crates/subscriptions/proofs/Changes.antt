-- What a change of one slot makes of the live subscriptions.
use Rattle.std.proofs.Common.{◌≡◌, ◌≢◌, ℕ, zero, suc, ◌+◌, ◌<◌, ◌≤◌, ◌⊎◌, eqb, cond, true, not, List, [], ◌∷◌, ◌++◌, length, get_or, set, map, filter, Option, Some, None, refl, sym, ap, subst, ◌∙◌, inl, inr, arith, eq-eqb, length-append, get_or-set_same, get_or-set_other}
use Rattle.std.proofs.lemmas.Bool.{cases_eq}
use Rattle.std.proofs.lemmas.List.{map-append}
use Rattle.std.proofs.lemmas.List.Elements.{All-weaker, filter-append}
use Rattle.std.proofs.lemmas.List.Folds.{map_fixed}
use Rattle.subscriptions.specs.declared.place.Place.{Place}
use Rattle.subscriptions.specs.declared.words.SubNo.{SubNo}
use Rattle.subscriptions.specs.Subs.{LiveSubscription, goes_by}
use Rattle.subscriptions.specs.Inside.{held_in, numbered, live_upto, number_in, number_at}
use Rattle.subscriptions.proofs.Lists.{filter_same}
use Rattle.subscriptions.proofs.LiveSubscriptions.{in_range, numbered_none, numbered_one, numbered_beside, live_beside}
use Rattle.subscriptions.proofs.Finds.{Stands, numbered_stand}
use Rattle.subscriptions.proofs.Numbers.{zero_more, differ, both_equal, one_differs}

-- the number of a slot that holds something
number_is : (slots : List (Option Place)) (slot number : ℕ) (p : Place) → get_or slots slot None ≡ Some p → p.number ≡ number → number_at slots slot ≡ number
number_is slots slot number p here its = ap number_in here ∙ its

-- a free slot that comes into use with the next number adds its subscription last
pub live_added : (slots : List (Option Place)) (slot : ℕ) (p : Place) (made : ℕ) → slot < length slots → get_or slots slot None ≡ None → p.number ≡ suc made → ((k : ℕ) → number_at slots k ≤ made) → live_upto (set slots slot (Some p)) (suc made) ≡ live_upto slots made ++ held_in slot p ∷ []
live_added slots slot p made inside free its most =
    ap (λ xs. xs ++ numbered (suc made) 0 (set slots slot (Some p))) (live_beside slots slot (Some p) made apart)
    ∙ ap (λ xs. live_upto slots made ++ xs) (one ∙ ap (λ n. held_in n p ∷ []) (zero_more slot))
  where
    apart : (n : ℕ) → 0 < n → n ≤ made → (number_at slots slot ≢ n) × (p.number ≢ n)
    apart n some within =
        let was : number_at slots slot ≡ 0 = ap number_in free in
        ((λ e. omega (arith, was, e)), (λ e. omega (arith, e, its)))

    others : (k : ℕ) → k ≢ slot → number_at (set slots slot (Some p)) k ≢ suc made
    others k ne e =
        let same : number_at (set slots slot (Some p)) k ≡ number_at slots k = ap number_in (get_or-set_other slots slot k (Some p) None ne) in
        omega (arith, same, e, most k)

    one : numbered (suc made) 0 (set slots slot (Some p)) ≡ held_in (0 + slot) p ∷ []
    one = numbered_one (suc made) 0 slot (set slots slot (Some p)) p (omega arith) (get_or-set_same slots slot (Some p) None inside) its others

-- what a freed slot leaves of one number
numbered_removed : (slots : List (Option Place)) (slot number : ℕ) (p : Place) (other : ℕ) → 0 < other → get_or slots slot None ≡ Some p → p.number ≡ number → ((k : ℕ) → k ≢ slot → number_at slots k ≢ number) → (number ≡ other) ⊎ (number ≡ other → ⊥)
    → numbered other 0 (set slots slot None) ≡ filter (λ s. not (eqb s.number number)) (numbered other 0 slots)
numbered_removed slots slot number p other some here its others (inl e) =
    numbered_none other 0 (set slots slot None) some (λ k. gone k (cases_eq k slot))
    ∙ sym (ap (filter (λ s. not (eqb s.number number))) (numbered_one other 0 slot slots p some here (its ∙ e) (λ k ne same. others k ne (same ∙ sym e)))
    ∙ ap (λ b. cond (not b) (held_in (0 + slot) p ∷ []) []) (eq-eqb p.number number its))
  where
    gone : (k : ℕ) → (k ≡ slot) ⊎ (k ≡ slot → ⊥) → number_at (set slots slot None) k ≢ other
    gone k (inl same) is =
        let here' : get_or (set slots slot None) slot None ≡ None = get_or-set_same slots slot None None (in_range slots slot p here) in
        let now : number_at (set slots slot None) slot ≡ 0 = ap number_in here' in
        omega (arith, some, now, subst (λ x. number_at (set slots slot None) x ≡ other) same is)
    gone k (inr ne) is = others k ne (sym (ap number_in (get_or-set_other slots slot k None None ne)) ∙ (is ∙ sym e))
numbered_removed slots slot number p other some here its others (inr ne) =
    let n = number_is slots slot number p here its in
    numbered_beside other 0 slot slots None (λ e. ne (sym n ∙ e)) (λ e. omega (arith, some, e))
    ∙ sym (filter_same (λ s. not (eqb s.number number)) (numbered other 0 slots) (All-weaker (Stands slots 0 other) (λ s. not (eqb s.number number) ≡ true) passes (numbered other 0 slots) (numbered_stand other 0 slots)))
  where
    passes : (s : LiveSubscription) → Stands slots 0 other s → not (eqb s.number number) ≡ true
    passes s st = ap not (differ s.number number (λ e. ne (sym e ∙ (ap (λ x. x.number) st.is ∙ st.its))))

-- a slot that is freed takes out the subscription of its number
pub live_removed : (slots : List (Option Place)) (slot number : ℕ) (p : Place) (upto : ℕ) → get_or slots slot None ≡ Some p → p.number ≡ number → ((k : ℕ) → k ≢ slot → number_at slots k ≢ number) → live_upto (set slots slot None) upto ≡ filter (λ s. not (eqb s.number number)) (live_upto slots upto)
live_removed slots slot number p zero here its others = refl
live_removed slots slot number p (suc upto) here its others =
    let ih = live_removed slots slot number p upto here its others in
    ap (λ xs. xs ++ numbered (suc upto) 0 (set slots slot None)) ih
    ∙ (ap (λ xs. filter (λ s. not (eqb s.number number)) (live_upto slots upto) ++ xs) (numbered_removed slots slot number p (suc upto) (omega arith) here its others (cases_eq number (suc upto)))
    ∙ sym (filter-append (λ s. not (eqb s.number number)) (live_upto slots upto) (numbered (suc upto) 0 slots)))

-- and leaves one less
pub live_shorter : (slots : List (Option Place)) (slot number : ℕ) (p : Place) (upto : ℕ) → 0 < number → number ≤ upto → get_or slots slot None ≡ Some p → p.number ≡ number → ((k : ℕ) → k ≢ slot → number_at slots k ≢ number)
    → length (live_upto (set slots slot None) upto) + 1 ≡ length (live_upto slots upto)
live_shorter slots slot number p zero some within here its others = absurd (omega (arith, some, within))
live_shorter slots slot number p (suc upto) some within here its others = settled (λ below. live_shorter slots slot number p upto some below here its others) (cases_eq number (suc upto))
  where
    settled : (number ≤ upto → length (live_upto (set slots slot None) upto) + 1 ≡ length (live_upto slots upto)) → (number ≡ suc upto) ⊎ (number ≡ suc upto → ⊥) → length (live_upto (set slots slot None) (suc upto)) + 1 ≡ length (live_upto slots (suc upto))
    settled earlier (inl e) =
        let front : live_upto (set slots slot None) upto ≡ live_upto slots upto = live_beside slots slot None upto (λ n pos le. ((λ at. omega (arith, e, le, at, number_is slots slot number p here its)), (λ at. omega (arith, pos, at)))) in
        let one : numbered (suc upto) 0 slots ≡ held_in (0 + slot) p ∷ [] = numbered_one (suc upto) 0 slot slots p (omega arith) here (its ∙ e) (λ k ne same. others k ne (same ∙ sym e)) in
        let none : numbered (suc upto) 0 (set slots slot None) ≡ [] = numbered_removed slots slot number p (suc upto) (omega arith) here its others (inl e) ∙ (ap (filter (λ s. not (eqb s.number number))) one ∙ ap (λ b. cond (not b) (held_in (0 + slot) p ∷ []) []) (eq-eqb p.number number its)) in
        omega (arith, length-append (live_upto (set slots slot None) upto) (numbered (suc upto) 0 (set slots slot None)), length-append (live_upto slots upto) (numbered (suc upto) 0 slots), ap length front, ap length one, ap length none)
    settled earlier (inr ne) =
        let ih = earlier (omega (arith, within, ne)) in
        let n = number_is slots slot number p here its in
        let same : numbered (suc upto) 0 (set slots slot None) ≡ numbered (suc upto) 0 slots = numbered_beside (suc upto) 0 slot slots None (λ e. ne (sym n ∙ e)) (λ e. omega (arith, e)) in
        omega (arith, ih, length-append (live_upto (set slots slot None) upto) (numbered (suc upto) 0 (set slots slot None)), length-append (live_upto slots upto) (numbered (suc upto) 0 slots), ap length same)

-- a slot whose subscription changes and keeps its number changes that one alone
pub live_changed : (slots : List (Option Place)) (sub : SubNo) (p q : Place) (change : LiveSubscription → LiveSubscription) (upto : ℕ) → get_or slots sub.slot None ≡ Some p → p.number ≡ sub.number → q.number ≡ sub.number → ((k : ℕ) → k ≢ sub.slot → number_at slots k ≢ sub.number) → held_in sub.slot q ≡ change (held_in sub.slot p)
    → live_upto (set slots sub.slot (Some q)) upto ≡ map (λ s. cond (goes_by sub s) (change s) s) (live_upto slots upto)
live_changed slots sub p q change zero here its stays others makes = refl
live_changed slots sub p q change (suc upto) here its stays others makes =
    let ih = live_changed slots sub p q change upto here its stays others makes in
    ap (λ xs. xs ++ numbered (suc upto) 0 (set slots sub.slot (Some q))) ih
    ∙ (ap (λ xs. map (λ s. cond (goes_by sub s) (change s) s) (live_upto slots upto) ++ xs) (settled (cases_eq sub.number (suc upto)))
    ∙ sym (map-append (λ s. cond (goes_by sub s) (change s) s) (live_upto slots upto) (numbered (suc upto) 0 slots)))
  where
    settled : (sub.number ≡ suc upto) ⊎ (sub.number ≡ suc upto → ⊥) → numbered (suc upto) 0 (set slots sub.slot (Some q)) ≡ map (λ s. cond (goes_by sub s) (change s) s) (numbered (suc upto) 0 slots)
    settled (inl e) =
        let at : get_or (set slots sub.slot (Some q)) sub.slot None ≡ Some q = get_or-set_same slots sub.slot (Some q) None (in_range slots sub.slot p here) in
        let after : numbered (suc upto) 0 (set slots sub.slot (Some q)) ≡ held_in (0 + sub.slot) q ∷ [] =
        numbered_one (suc upto) 0 sub.slot (set slots sub.slot (Some q)) q (omega arith) at (stays ∙ e)
        (λ k ne same. others k ne (sym (ap number_in (get_or-set_other slots sub.slot k (Some q) None ne)) ∙ (same ∙ sym e))) in
        let before : numbered (suc upto) 0 slots ≡ held_in (0 + sub.slot) p ∷ [] = numbered_one (suc upto) 0 sub.slot slots p (omega arith) here (its ∙ e) (λ k ne same. others k ne (same ∙ sym e)) in
        after
        ∙ (ap (λ n. held_in n q ∷ []) (zero_more sub.slot)
        ∙ (ap (λ s. s ∷ []) makes
        ∙ sym (ap (map (λ s. cond (goes_by sub s) (change s) s)) (before ∙ ap (λ n. held_in n p ∷ []) (zero_more sub.slot))
        ∙ ap (λ b. cond b (change (held_in sub.slot p)) (held_in sub.slot p) ∷ []) (both_equal sub.slot sub.slot p.number sub.number refl its))))
    settled (inr ne) =
        let n = number_is slots sub.slot sub.number p here its in
        numbered_beside (suc upto) 0 sub.slot slots (Some q) (λ e. ne (sym n ∙ e)) (λ e. ne (sym stays ∙ e))
        ∙ sym (map_fixed (λ s. cond (goes_by sub s) (change s) s) (numbered (suc upto) 0 slots) (All-weaker (Stands slots 0 (suc upto)) (λ s. cond (goes_by sub s) (change s) s ≡ s) stay (numbered (suc upto) 0 slots) (numbered_stand (suc upto) 0 slots)))
      where
        stay : (s : LiveSubscription) → Stands slots 0 (suc upto) s → cond (goes_by sub s) (change s) s ≡ s
        stay s st =
            ap (λ b. cond b (change s) s) (one_differs s.slot sub.slot s.number sub.number (λ e. ne (sym e ∙ (ap (λ x. x.number) st.is ∙ st.its))))
