-- What a bag has for other handles, and for the one that a view was put in for or taken out of.
use Rattle.std.proofs.Common.{◌≡◌, ℕ, ◌&&◌, not, Bool, true, false, cond, eqb, Option, Some, None, is_some, List, [], ◌∷◌, length, filter, count_by, refl, ap, sym, ◌∙◌, subst, arith}
use Rattle.std.specs.Option.{IsSome}
use Rattle.std.proofs.lemmas.Bool.Decides.{nat_tests}
use Rattle.std.proofs.lemmas.List.Sums.{sum_by-cons}
use Rattle.lend_block.specs.Loan.{LentBytes}
use Rattle.tbl_words.specs.Tables.{Handle, State}
use Rattle.tbl_words.specs.Machine.{without_handles}
use Rattle.table_blocks.specs.Held.{HeldViews, held_at}
use Rattle.table_core.specs.Core.{Plain, Holds}

same_number : (n : ℕ) → eqb n n ≡ true
same_number n = grind (arith, nat_tests)

module _ (bag out : HeldViews) (n number : ℕ) (here : number ≡ n) (gone : (m : ℕ) → held_at out m ≡ cond {A = Option LentBytes} (eqb number m) None (held_at bag m)) where
  -- the view of a handle was taken out
  pub taken_others : (m : ℕ) → eqb n m ≡ false → held_at out m ≡ held_at bag m
  taken_others m apart =
      gone m
      ∙ ap (λ k. cond {A = Option LentBytes} (eqb k m) None (held_at bag m)) here
      ∙ ap (λ b. cond {A = Option LentBytes} b None (held_at bag m)) apart

  pub taken_itself : held_at out n ≡ None
  taken_itself =
      gone n
      ∙ ap (λ k. cond {A = Option LentBytes} (eqb k n) None (held_at bag n)) here
      ∙ ap (λ b. cond {A = Option LentBytes} b None (held_at bag n)) (same_number n)

  -- and one was put in for it
  pub given_others : (new : HeldViews) (view : LentBytes) → ((m : ℕ) → held_at new m ≡ cond {A = Option LentBytes} (eqb n m) (Some view) (held_at out m)) → (m : ℕ) → eqb n m ≡ false → held_at new m ≡ held_at bag m
  given_others new view seen m apart = seen m ∙ ap (λ b. cond {A = Option LentBytes} b (Some view) (held_at out m)) apart ∙ taken_others m apart

  pub given_itself : (new : HeldViews) (view : LentBytes) → ((m : ℕ) → held_at new m ≡ cond {A = Option LentBytes} (eqb n m) (Some view) (held_at out m)) → IsSome (held_at new n)
  given_itself new view seen =
      subst (λ (o : Option LentBytes). IsSome o) (sym (seen n ∙ ap (λ b. cond {A = Option LentBytes} b (Some view) (held_at out n)) (same_number n))) refl

-- An end. --

none_due : (app : ℕ) (handles : List Handle) → count_by (λ h. eqb h.app app && is_some h.hold) (filter (λ h. not (eqb h.app app)) handles) ≡ 0
none_due app [] = refl
none_due app (h ∷ handles) = by_app (eqb h.app app) refl (none_due app handles)
  where
    left : List Handle
    left = filter (λ (k : Handle). not (eqb k.app app)) handles

    by_app : (b : Bool) → eqb h.app app ≡ b → count_by (λ (k : Handle). eqb k.app app && is_some k.hold) left ≡ 0 →
        count_by (λ (k : Handle). eqb k.app app && is_some k.hold) (cond {A = List Handle} (not b) (h ∷ left) left) ≡ 0
    by_app true is ih = ih
    by_app false is ih =
        omega (
          arith,
          sum_by-cons (λ (k : Handle). cond {A = ℕ} (eqb k.app app && is_some k.hold) 1 0) h left,
          ap (λ b. cond {A = ℕ} (b && is_some h.hold) 1 0) is,
          ih,
        )

none_left : {X : Type 0} (xs : List X) → length xs ≡ 0 → xs ≡ []
none_left [] is = refl
none_left (x ∷ xs) is = absurd (omega (arith, is))

-- whose handles left has nothing in the bag
pub ended_views : (core : Plain) (s : State) (app : ℕ) (bag : HeldViews) → core.state ≡ without_handles (λ h. eqb h.app app) s → Holds core app bag → bag.views ≡ []
ended_views core s app bag left holds =
    none_left bag.views (holds.counted ∙ ap (λ (t : State). count_by (λ (h : Handle). eqb h.app app && is_some h.hold) t.handles) left ∙ none_due app s.handles)

-- and is as it was but for that, if its room stays
pub ended_bag : (core : Plain) (s : State) (app : ℕ) (bag new : HeldViews) → core.state ≡ without_handles (λ h. eqb h.app app) s → Holds core app new → new.room ≡ bag.room → new ≡ (record bag { views = [] })
ended_bag core s app bag new left holds room =
    ap (λ views. let b : HeldViews = record { views = views; room = new.room } in b) (ended_views core s app new left holds)
    ∙ ap (λ room. let b : HeldViews = record { views = []; room = room } in b) room
