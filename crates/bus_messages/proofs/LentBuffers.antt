-- A bag, and the same with the blocks put back that are lent out of it.
use Rattle.std.proofs.Common.{◌≡◌, ℕ, ◌∷◌, [], ◌⊎◌, inl, inr, Bool, true, false, cond, eqb, List, ◌++◌, find, Option, Some, None, refl, ap, sym, ◌∙◌, arith}
use Rattle.std.specs.Option.{option_or, option_map}
use Rattle.std.proofs.lemmas.Bool.{cases_eq, eqb-true}
use Rattle.std.proofs.lemmas.Bool.Decides.{nat_tests}
use Rattle.std.proofs.lemmas.List.Folds.{find-append}
use Rattle.lend_block.specs.Loan.{LentBytes}
use Rattle.buf_desc.specs.Block.{Unsent as UnsentBlock}
use Rattle.buf_desc.specs.Held.{Holding, buffer_at}
use Rattle.bus_words.specs.Bus.{Buffer}
use Rattle.bus_messages.specs.Bag.{shape_of, HoldsBuffers, with_lent}
use Rattle.bus_messages.specs.Store.{BufferDesc}
use Rattle.bus_messages.proofs.BufferLists.{eqb_off}

eqb_same : (n : ℕ) → eqb n n ≡ true
eqb_same n = grind (arith, nat_tests)

-- the lent block of a number
abbrev pub lent_at : List UnsentBlock → ℕ → Option UnsentBlock
lent_at lent number = find (λ (b : UnsentBlock). eqb b.number number) lent

-- a lent block is found first
split : (bag : Holding LentBytes) (lent : List UnsentBlock) (number : ℕ) → buffer_at (with_lent bag lent) number ≡ option_or (lent_at lent number) (buffer_at bag number)
split bag lent number = find-append (λ (b : UnsentBlock). eqb b.number number) lent bag.buffers

neither : (one other : Option UnsentBlock) → option_or one other ≡ None → (one ≡ None) × (other ≡ None)
neither None None e = (refl, refl)
neither None (Some b) e = absurd (cc (e))
neither (Some b) other e = absurd (cc (e))

-- if the whole has none of a number, neither the lent ones nor the bag have one
pub none_lent : (bag : Holding LentBytes) (lent : List UnsentBlock) (number : ℕ) → buffer_at (with_lent bag lent) number ≡ None → lent_at lent number ≡ None
none_lent bag lent number none = (neither (lent_at lent number) (buffer_at bag number) (sym (split bag lent number) ∙ none)).0

pub none_held : (bag : Holding LentBytes) (lent : List UnsentBlock) (number : ℕ) → buffer_at (with_lent bag lent) number ≡ None → buffer_at bag number ≡ None
none_held bag lent number none = (neither (lent_at lent number) (buffer_at bag number) (sym (split bag lent number) ∙ none)).1

-- the bag changed at a number of which nothing is lent, and so did the whole
pub seen_whole : (bag now : Holding LentBytes) (lent : List UnsentBlock) (number : ℕ) (o : Option UnsentBlock) → lent_at lent number ≡ None →
    ((n : ℕ) → buffer_at now n ≡ cond {A = Option UnsentBlock} (eqb number n) o (buffer_at bag n)) →
    (n : ℕ) → buffer_at (with_lent now lent) n ≡ cond {A = Option UnsentBlock} (eqb number n) o (buffer_at (with_lent bag lent) n)
seen_whole bag now lent number o none seen n =
    split now lent n
    ∙ ap (option_or (lent_at lent n)) (seen n)
    ∙ at (eqb number n) refl (lent_at lent n) refl
    ∙ ap (cond {A = Option UnsentBlock} (eqb number n) o) (sym (split bag lent n))
  where
    at : (b : Bool) → eqb number n ≡ b → (f : Option UnsentBlock) → lent_at lent n ≡ f →
        option_or f (cond {A = Option UnsentBlock} b o (buffer_at bag n)) ≡ cond {A = Option UnsentBlock} b o (option_or f (buffer_at bag n))
    at false e f is = refl
    at true e None is = refl
    at true e (Some x) is = let gone = sym is ∙ ap (lent_at lent) (sym (eqb-true number n e)) ∙ none in absurd (cc (gone))

-- What is lent and comes back. --

-- blocks of the same shapes are the application's too
pub held_alike : (unsent : List (List Buffer)) (descs : List BufferDesc) (sizes : List ℕ) (app : ℕ) (bag now : Holding LentBytes) →
    ((n : ℕ) → option_map shape_of (buffer_at now n) ≡ option_map shape_of (buffer_at bag n)) → HoldsBuffers unsent descs sizes app bag → HoldsBuffers unsent descs sizes app now
held_alike unsent descs sizes app bag now same holds = record { known = holds.known; due = λ n. same n ∙ holds.due n }

-- a block leaves the bag and is lent
pub lent_alike : (bag now : Holding LentBytes) (lent : List UnsentBlock) (block seat : UnsentBlock) → buffer_at bag seat.number ≡ Some block → shape_of seat ≡ shape_of block →
    ((n : ℕ) → buffer_at now n ≡ cond {A = Option UnsentBlock} (eqb seat.number n) None (buffer_at bag n)) →
    (n : ℕ) → option_map shape_of (buffer_at (with_lent now (lent ++ seat ∷ [])) n) ≡ option_map shape_of (buffer_at (with_lent bag lent) n)
lent_alike bag now lent block seat there shaped seen n =
    ap (option_map shape_of)
    (split now (lent ++ seat ∷ []) n
    ∙ ap (λ o. option_or o (buffer_at now n)) (find-append (λ (b : UnsentBlock). eqb b.number n) lent (seat ∷ []))
    ∙ ap (option_or (option_or (lent_at lent n) (lent_at (seat ∷ []) n))) (seen n))
    ∙ at (eqb seat.number n) refl (lent_at lent n)
    ∙ ap (option_map shape_of) (sym (split bag lent n))
  where
    at : (b : Bool) → eqb seat.number n ≡ b → (f : Option UnsentBlock) →
        option_map shape_of (option_or (option_or f (cond {A = Option UnsentBlock} b (Some seat) None)) (cond {A = Option UnsentBlock} b None (buffer_at bag n)))
        ≡ option_map shape_of (option_or f (buffer_at bag n))
    at b e (Some x) = refl
    at false e None = refl
    at true e None = ap Some shaped ∙ ap (option_map shape_of) (sym there ∙ ap (buffer_at bag) (eqb-true seat.number n e))

-- the block of a number comes back into the bag, and is lent no more
pub back_alike : (bag now : Holding LentBytes) (lent left : List UnsentBlock) (block seat : UnsentBlock) → lent_at lent block.number ≡ Some seat → shape_of seat ≡ shape_of block →
    lent_at left block.number ≡ None → ((n : ℕ) → (block.number ≡ n → ⊥) → lent_at left n ≡ lent_at lent n) →
    ((n : ℕ) → buffer_at now n ≡ cond {A = Option UnsentBlock} (eqb block.number n) (Some block) (buffer_at bag n)) →
    (n : ℕ) → option_map shape_of (buffer_at (with_lent now left) n) ≡ option_map shape_of (buffer_at (with_lent bag lent) n)
back_alike bag now lent left block seat there shaped gone others seen n =
    ap (option_map shape_of) (split now left n ∙ ap (option_or (lent_at left n)) (seen n))
    ∙ at (cases_eq block.number n)
    ∙ ap (option_map shape_of) (sym (split bag lent n))
  where
    same : (m : ℕ) → block.number ≡ m → eqb block.number m ≡ true
    same m e = ap (eqb block.number) (sym e) ∙ eqb_same block.number

    at : (block.number ≡ n) ⊎ (block.number ≡ n → ⊥) →
        option_map shape_of (option_or (lent_at left n) (cond {A = Option UnsentBlock} (eqb block.number n) (Some block) (buffer_at bag n))) ≡ option_map shape_of (option_or (lent_at lent n) (buffer_at bag n))
    at (inl e) =
        ap (λ b. option_map shape_of (option_or (lent_at left n) (cond {A = Option UnsentBlock} b (Some block) (buffer_at bag n)))) (same n e)
        ∙ ap (λ o. option_map shape_of (option_or o (Some block))) (ap (lent_at left) (sym e) ∙ gone)
        ∙ ap Some (sym shaped)
        ∙ ap (λ o. option_map shape_of (option_or o (buffer_at bag n))) (sym there ∙ ap (lent_at lent) e)
    at (inr apart) =
        ap (λ b. option_map shape_of (option_or (lent_at left n) (cond {A = Option UnsentBlock} b (Some block) (buffer_at bag n)))) (eqb_off block.number n apart)
        ∙ ap (λ o. option_map shape_of (option_or o (buffer_at bag n))) (others n apart)
