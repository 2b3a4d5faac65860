-- A view of the next message that is given before that of the last one comes back leaves the desk as if it were given afterwards.
use Rattle.std.proofs.Common.{◌≡◌, ℕ, ◌+◌, ◌-◌, ◌≤◌, ◌⊎◌, inl, inr, zero, suc, Bool, true, false, cond, leb, List, [], ◌∷◌, set, Some, refl, ap, sym, ◌∙◌, subst, arith}
use Rattle.std.proofs.lemmas.Bool.{cases_eq}
use Rattle.std.proofs.lemmas.Bool.Decides.{nat_tests}
use Rattle.std.proofs.lemmas.List.{set-set}
use Rattle.es_pool.specs.Pool.{size_at, given_back}
use Rattle.lend_block.specs.Loan.{LentBytes}
use Rattle.buf_desc.specs.Block.{Sealed as SealedBlock}
use Rattle.buf_desc.specs.Desk.{Buffers, resealed, freed, after_drop}
use Rattle.buf_desc.specs.Slots.{slot_at, sealed_at, sealed_in, is_sealed}
use Rattle.buf_desc.specs.declared.slot.Slot.{Slot}
use Rattle.buf_desc.specs.declared.slot.Slot.TheVariants.{Free, Sealed}
use Rattle.bus_routes.specs.declared.tables.ItemRow.{ItemRow}
use Rattle.bus_messages.specs.Inside.{let_go, shown, view_in}
use Rattle.bus_messages.proofs.Ties.{sealed_live, here_set, others_set}

-- two places of a list are set in either order
set_swap : {X : Type 0} (xs : List X) (i j : ℕ) (x y : X) → (i ≡ j → ⊥) → set (set xs i x) j y ≡ set (set xs j y) i x
set_swap [] i j x y apart = refl
set_swap (z ∷ xs) zero zero x y apart = absurd (apart refl)
set_swap (z ∷ xs) zero (suc j) x y apart = refl
set_swap (z ∷ xs) (suc i) zero x y apart = refl
set_swap (z ∷ xs) (suc i) (suc j) x y apart = ap (λ l. z ∷ l) (set_swap xs i j x y (λ e. apart (ap suc e)))

-- a sealed block after one use of what it is said to be was dropped
abbrev dropped : Buffers → ℕ → SealedBlock → Buffers
dropped b d s = cond (leb 2 s.uses) (resealed b d (record s { uses = s.uses - 1 })) (freed b d)

drop_is : (b : Buffers) (d : ℕ) (s : SealedBlock) → is_sealed (slot_at b.slots d) ≡ true → after_drop (resealed b d s) d ≡ dropped b d s
drop_is b d s is =
    let put : List Slot → Buffers = λ l. record b { slots = l } in
    ap (λ (x : SealedBlock). cond (leb 2 x.uses) (put (set (set b.slots d (Sealed s)) d (Sealed (record x { uses = x.uses - 1 })))) (freed (resealed b d s) d))
    (ap sealed_in (here_set b.slots d (Sealed s) (sealed_live (slot_at b.slots d) is)))
    ∙ ap (λ l. cond (leb 2 s.uses) (put l) (freed (resealed b d s) d)) (set-set b.slots d (Sealed s) (Sealed (record s { uses = s.uses - 1 })))
    ∙ ap (λ l. let v : Buffers = record { pool = given_back b.pool d; slots = l } in cond (leb 2 s.uses) (resealed b d (record s { uses = s.uses - 1 })) v) (set-set b.slots d (Sealed s) (Free (size_at b.pool d)))

-- the last item's block is sealed, of some use and with its view out; the next one's is sealed still once the last one was let go
module _ (b : Buffers) (last next : ItemRow) (is : is_sealed (slot_at b.slots last.desc) ≡ true) (lent : 1 ≤ (sealed_at b.slots last.desc).views)
    (still : is_sealed (slot_at (let_go b (Some last)).slots next.desc) ≡ true) where
  abbrev d : ℕ
  d = last.desc

  abbrev e : ℕ
  e = next.desc

  abbrev old : SealedBlock
  old = sealed_at b.slots d

  abbrev back : SealedBlock
  back = record old { views = old.views - 1 }

  -- the next one has a view more
  abbrev more : SealedBlock
  more = record (sealed_at b.slots e) { views = (sealed_at b.slots e).views + 1 }

  abbrev given : Buffers
  given = shown b (Some next)

  gone : let_go b (Some last) ≡ dropped b d back
  gone = drop_is b d back is

  off : true ≡ false → ⊥
  off x = cc

  -- if both are one block, it has another use
  used_twice : d ≡ e → leb 2 old.uses ≡ true
  used_twice same = at (leb 2 old.uses) refl
    where
      at : (c : Bool) → leb 2 old.uses ≡ c → leb 2 old.uses ≡ true
      at true t = t
      at false t =
          let freed_is : let_go b (Some last) ≡ freed b d = gone ∙ ap (λ c. cond {A = Buffers} c (resealed b d (record back { uses = back.uses - 1 })) (freed b d)) t in
          let free : slot_at (freed b d).slots d ≡ Free (size_at b.pool d) = here_set b.slots d (Free (size_at b.pool d)) (sealed_live (slot_at b.slots d) is) in
          absurd (off (sym still ∙ ap (λ x. is_sealed (slot_at (let_go b (Some last)).slots x)) (sym same) ∙ ap (λ (x : Buffers). is_sealed (slot_at x.slots d)) freed_is ∙ ap is_sealed free))

  -- another block is as it was
  left : (d ≡ e → ⊥) → slot_at (let_go b (Some last)).slots e ≡ slot_at b.slots e
  left apart = ap (λ (x : Buffers). slot_at x.slots e) gone ∙ at (leb 2 old.uses)
    where
      at : (c : Bool) → slot_at (cond {A = Buffers} c (resealed b d (record back { uses = back.uses - 1 })) (freed b d)).slots e ≡ slot_at b.slots e
      at true = others_set b.slots d (Sealed (record back { uses = back.uses - 1 })) (sealed_live (slot_at b.slots d) is) e apart
      at false = others_set b.slots d (Free (size_at b.pool d)) (sealed_live (slot_at b.slots d) is) e apart

  pub next_sealed : is_sealed (slot_at b.slots e) ≡ true
  next_sealed = at (cases_eq d e)
    where
      at : (d ≡ e) ⊎ (d ≡ e → ⊥) → is_sealed (slot_at b.slots e) ≡ true
      at (inl same) = subst (λ x. is_sealed (slot_at b.slots x) ≡ true) same is
      at (inr apart) = sym (ap is_sealed (left apart)) ∙ still

  -- What is seen on the way. --

  -- the last one's block, once the next one has its view: it is the same, but for a view if both are one block
  given_slot : (P : Slot → Type 0) → P (slot_at b.slots d) → (d ≡ e → P (Sealed (record old { views = old.views + 1 }))) → P (slot_at given.slots d)
  given_slot P was one = at (cases_eq d e)
    where
      at : (d ≡ e) ⊎ (d ≡ e → ⊥) → P (slot_at given.slots d)
      at (inl same) =
          subst (λ x. P (slot_at (set b.slots x (Sealed (record (sealed_at b.slots x) { views = (sealed_at b.slots x).views + 1 }))) d)) same
          (subst P (sym (here_set b.slots d (Sealed (record old { views = old.views + 1 })) (sealed_live (slot_at b.slots d) is))) (one same))
      at (inr apart) = subst P (sym (others_set b.slots e (Sealed more) (sealed_live (slot_at b.slots e) next_sealed) d (λ h. apart (sym h)))) was

  pub given_sealed : is_sealed (slot_at given.slots d) ≡ true
  given_sealed = given_slot (λ s. is_sealed s ≡ true) is (λ same. refl)

  pub given_loan : (sealed_at given.slots d).loan ≡ old.loan
  given_loan = given_slot (λ s. (sealed_in s).loan ≡ old.loan) refl (λ same. refl)

  pub given_uses : (sealed_at given.slots d).uses ≡ old.uses
  given_uses = given_slot (λ s. (sealed_in s).uses ≡ old.uses) refl (λ same. refl)

  two : (n : ℕ) → leb 2 n ≡ true → 2 ≤ n
  two n t = grind (arith, nat_tests)

  pub given_viewed : old.views ≤ old.uses → (sealed_at given.slots d).uses ≡ 1 → (sealed_at given.slots d).views ≤ 1
  given_viewed few one =
      given_slot (λ s. (sealed_in s).views ≤ 1) (omega (arith, few, one, given_uses)) (λ same. absurd (omega (arith, two old.uses (used_twice same), one, given_uses)))

  -- the next one's view is the same afterwards
  pub view_still : view_in b.slots next ≡ view_in (let_go b (Some last)).slots next
  view_still = at (cases_eq d e)
    where
      to : SealedBlock → LentBytes
      to s = record { loan = s.loan; bytes = s.bytes }

      at : (d ≡ e) ⊎ (d ≡ e → ⊥) → view_in b.slots next ≡ view_in (let_go b (Some last)).slots next
      at (inl same) =
          let is_left : let_go b (Some last) ≡ resealed b d (record back { uses = back.uses - 1 }) = gone ∙ ap (λ c. cond {A = Buffers} c (resealed b d (record back { uses = back.uses - 1 })) (freed b d)) (used_twice same) in
          subst (λ x. to (sealed_at b.slots x) ≡ to (sealed_at (let_go b (Some last)).slots x)) same
          (sym (ap (λ (x : Buffers). to (sealed_at x.slots d)) is_left ∙ ap (λ s. to (sealed_in s)) (here_set b.slots d (Sealed (record back { uses = back.uses - 1 })) (sealed_live (slot_at b.slots d) is))))
      at (inr apart) = sym (ap (λ s. to (sealed_in s)) (left apart))

  -- The end. --

  one_block : d ≡ e → let_go given (Some last) ≡ shown (let_go b (Some last)) (Some next)
  one_block same =
      let live = sealed_live (slot_at b.slots d) is in
      let up : SealedBlock = record old { views = old.views + 1 } in
      let then : SealedBlock = record old { views = old.views + 1 - 1; uses = old.uses - 1 } in
      let less : SealedBlock = record back { uses = back.uses - 1 } in
      let twice = used_twice same in
      let went : let_go b (Some last) ≡ resealed b d less = gone ∙ ap (λ c. cond {A = Buffers} c (resealed b d less) (freed b d)) twice in
      let ends : let_go (resealed b d up) (Some last) ≡ resealed b d then =
      drop_is (resealed b d up) d (record (sealed_at (resealed b d up).slots d) { views = (sealed_at (resealed b d up).slots d).views - 1 }) (ap is_sealed (here_set b.slots d (Sealed up) live))
      ∙ ap (λ s. dropped (resealed b d up) d (record (sealed_in s) { views = (sealed_in s).views - 1 })) (here_set b.slots d (Sealed up) live)
      ∙ ap (λ c. cond {A = Buffers} c (resealed (resealed b d up) d then) (freed (resealed b d up) d)) twice
      ∙ ap (λ l. record b { slots = l }) (set-set b.slots d (Sealed up) (Sealed then)) in
      let as_many : old.views - 1 + 1 ≡ old.views + 1 - 1 = omega (arith, lent) in
      let shows : shown (resealed b d less) (Some last) ≡ resealed b d then =
      ap (λ l. record b { slots = l })
      (ap (λ s. set (set b.slots d (Sealed less)) d (Sealed (record (sealed_in s) { views = (sealed_in s).views + 1 }))) (here_set b.slots d (Sealed less) live)
      ∙ set-set b.slots d (Sealed less) (Sealed (record less { views = less.views + 1 }))
      ∙ ap (λ n. set b.slots d (Sealed (record less { views = n }))) as_many) in
      let view : Buffers → ℕ → Buffers = λ x n. resealed x n (record (sealed_at x.slots n) { views = (sealed_at x.slots n).views + 1 }) in
      subst (λ n. let_go (view b n) (Some last) ≡ view (let_go b (Some last)) n) same (ends ∙ sym (ap (λ x. view x d) went ∙ shows))

  two_blocks : (d ≡ e → ⊥) → let_go given (Some last) ≡ shown (let_go b (Some last)) (Some next)
  two_blocks apart =
      let there = others_set b.slots e (Sealed more) (sealed_live (slot_at b.slots e) next_sealed) d (λ h. apart (sym h)) in
      drop_is given d (record (sealed_at given.slots d) { views = (sealed_at given.slots d).views - 1 }) given_sealed
      ∙ ap (λ s. dropped given d (record (sealed_in s) { views = (sealed_in s).views - 1 })) there
      ∙ swapped (leb 2 old.uses)
      ∙ sym
      (ap (λ s. resealed (let_go b (Some last)) e (record (sealed_in s) { views = (sealed_in s).views + 1 })) (left apart)
      ∙ ap (λ x. resealed x e more) gone)
    where
      less : SealedBlock
      less = record back { uses = back.uses - 1 }

      swapped : (c : Bool) → cond {A = Buffers} c (resealed given d less) (freed given d) ≡ resealed (cond {A = Buffers} c (resealed b d less) (freed b d)) e more
      swapped true = ap (λ l. record b { slots = l }) (set_swap b.slots e d (Sealed more) (Sealed less) (λ h. apart (sym h)))
      swapped false = ap (λ l. let v : Buffers = record { pool = given_back b.pool d; slots = l } in v) (set_swap b.slots e d (Sealed more) (Free (size_at b.pool d)) (λ h. apart (sym h)))

  pub exchanged : let_go given (Some last) ≡ shown (let_go b (Some last)) (Some next)
  exchanged = at (cases_eq d e)
    where
      at : (d ≡ e) ⊎ (d ≡ e → ⊥) → let_go given (Some last) ≡ shown (let_go b (Some last)) (Some next)
      at (inl same) = one_block same
      at (inr apart) = two_blocks apart
