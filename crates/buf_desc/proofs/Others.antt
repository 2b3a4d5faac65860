-- What a change of one block leaves: the other blocks as they were.
use Rattle.std.proofs.Common.{◌≡◌, ◌≢◌, ℕ, ◌+◌, ◌<◌, ◌≤◌, ◌⊎◌, inl, inr, Bool, true, false, cond, eqb, nat_lt, List, [], ◌∷◌, ◌++◌, length, get_or, set, refl, ap, sym, subst, ◌∙◌, arith, Option, Some, None}
use Rattle.std.proofs.lemmas.Bool.{cases_eq, cases_lt}
use Rattle.std.proofs.lemmas.Bool.Decides.{nat_tests}
use Rattle.std.proofs.lemmas.Grind.{get_or-set_at}
use Rattle.std.proofs.lemmas.List.{get_or_push, get_or_past, get_or-set_other, get_or_append_left, get_or_default, length_push, set_past}
use Rattle.fsw_base.specs.Blocks.{class_of}
use Rattle.es_pool.specs.Pool.{PoolState, DrawsIf, Draws, Reuses, Cuts, is_out, class_at, size_at, given_back}
use Rattle.es_pool.specs.declared.blocks.CutBlock.{CutBlock}
use Rattle.buf_desc.specs.Block.{Unsent as UnsentBlock}
use Rattle.buf_desc.specs.Slots.{slot_at, is_live, number_in, HaveOwnNumbers}
use Rattle.buf_desc.specs.Desk.{Buffers, Takes, IsOf, placed}
use Rattle.buf_desc.specs.declared.slot.Slot.{Slot}
use Rattle.buf_desc.specs.declared.slot.Slot.TheVariants.{Free, Unsent}

is_same : (a b : ℕ) → a ≡ b → eqb a b ≡ true
is_same a b e = grind (arith, nat_tests)

is_other : (a b : ℕ) → (a ≡ b → ⊥) → eqb a b ≡ false
is_other a b apart = at (eqb a b) refl
  where
    at : (t : Bool) → eqb a b ≡ t → t ≡ false
    at false e = refl
    at true e = absurd (apart (grind (arith, nat_tests)))

-- a slot that is live is there
live_within : (slots : List Slot) (d : ℕ) → is_live (slot_at slots d) ≡ true → d < length slots
live_within slots d e = at (cases_lt d (length slots))
  where
    off : (b : Bool) → b ≡ false → b ≡ true → ⊥
    off b x y = cc

    at : (d < length slots) ⊎ (length slots ≤ d) → d < length slots
    at (inl h) = h
    at (inr h) = absurd (off (is_live (slot_at slots d)) (ap is_live (get_or_past slots d (Free 0) h)) e)

-- Slots. --

slot_set : (slots : List Slot) (d : ℕ) (s : Slot) → d < length slots → (other : ℕ) → slot_at (set slots d s) other ≡ cond (eqb d other) s (slot_at slots other)
slot_set slots d s h other = at (cases_eq d other)
  where
    at : (d ≡ other) ⊎ (d ≡ other → ⊥) → slot_at (set slots d s) other ≡ cond (eqb d other) s (slot_at slots other)
    at (inl same) = get_or-set_at slots d other s (Free 0) (sym same) h ∙ sym (ap (λ b. cond b s (slot_at slots other)) (is_same d other same))
    at (inr apart) = get_or-set_other slots d other s (Free 0) (λ e. apart (sym e)) ∙ sym (ap (λ b. cond b s (slot_at slots other)) (is_other d other apart))

-- the slot of a live block is set
pub slot_changed : (slots : List Slot) (d : ℕ) (s : Slot) → is_live (slot_at slots d) ≡ true → (other : ℕ) → slot_at (set slots d s) other ≡ cond (eqb d other) s (slot_at slots other)
slot_changed slots d s live = slot_set slots d s (live_within slots d live)

slot_pushed : (slots : List Slot) (d : ℕ) (s : Slot) → d ≡ length slots → (other : ℕ) → slot_at (slots ++ s ∷ []) other ≡ cond (eqb d other) s (slot_at slots other)
slot_pushed slots d s next other = at (cases_eq d other)
  where
    past : (length slots ≤ other) → (d ≡ other → ⊥) → slot_at (slots ++ s ∷ []) other ≡ slot_at slots other
    past h apart =
        let beyond : length slots + 1 ≤ other = grind (arith, h, next, apart) in
        get_or_past (slots ++ s ∷ []) other (Free 0) (omega (arith, beyond, length_push slots s)) ∙ sym (get_or_past slots other (Free 0) h)

    by_place : (other < length slots) ⊎ (length slots ≤ other) → (d ≡ other → ⊥) → slot_at (slots ++ s ∷ []) other ≡ slot_at slots other
    by_place (inl h) apart = get_or_append_left slots (s ∷ []) (Free 0) other h
    by_place (inr h) apart = past h apart

    at : (d ≡ other) ⊎ (d ≡ other → ⊥) → slot_at (slots ++ s ∷ []) other ≡ cond (eqb d other) s (slot_at slots other)
    at (inl same) = get_or_push slots s (Free 0) other (sym next ∙ same) ∙ sym (ap (λ b. cond b s (slot_at slots other)) (is_same d other same))
    at (inr apart) = by_place (cases_lt other (length slots)) apart ∙ sym (ap (λ b. cond b s (slot_at slots other)) (is_other d other apart))

-- a slot is set for a block that is there, or for the next
slot_placed : (slots : List Slot) (d : ℕ) (s : Slot) → is_live (slot_at (placed slots d s) d) ≡ true → (other : ℕ) → slot_at (placed slots d s) other ≡ cond (eqb d other) s (slot_at slots other)
slot_placed slots d s live other = at (cases_lt d (length slots))
  where
    inside : (x y : ℕ) → x < y → nat_lt x y ≡ true
    inside x y l = grind (arith, nat_tests)

    outside : (x y : ℕ) → y ≤ x → nat_lt x y ≡ false
    outside x y l = grind (arith, nat_tests)

    at : (d < length slots) ⊎ (length slots ≤ d) → slot_at (placed slots d s) other ≡ cond (eqb d other) s (slot_at slots other)
    at (inl h) = ap (λ b. slot_at (cond b (set slots d s) (slots ++ s ∷ [])) other) (inside d (length slots) h) ∙ slot_set slots d s h other
    at (inr h) =
        let e : placed slots d s ≡ slots ++ s ∷ [] = ap (λ b. cond b (set slots d s) (slots ++ s ∷ [])) (outside d (length slots) h) in
        let there : d < length (slots ++ s ∷ []) = live_within (slots ++ s ∷ []) d (subst (λ l. is_live (slot_at l d) ≡ true) e live) in
        ap (λ l. slot_at l other) e ∙ slot_pushed slots d s (omega (arith, h, there, length_push slots s)) other

-- a draw changes the slot of the block drawn
pub slot_drawn : (old new : Buffers) (size number : ℕ) (block : UnsentBlock) → Takes old new size number block → IsOf new block → (other : ℕ) → slot_at new.slots other ≡ cond (eqb block.desc other) (Unsent number size) (slot_at old.slots other)
slot_drawn old new size number block taken own other =
    ap (λ l. slot_at l other) taken.slots
    ∙ slot_placed old.slots block.desc (Unsent number size) (ap is_live (sym (ap (λ l. slot_at l block.desc) taken.slots) ∙ own.0)) other

-- Numbers of sends. --

pub numbers_kept : (slots after : List Slot) (d : ℕ) (s : Slot) → ((other : ℕ) → slot_at after other ≡ cond (eqb d other) s (slot_at slots other)) → (is_live s ≡ true → (other : ℕ) → (d ≡ other → ⊥) → is_live (slot_at slots other) ≡ true → number_in (slot_at slots other) ≢ number_in s) → HaveOwnNumbers slots → HaveOwnNumbers after
numbers_kept slots after d s seen new own a b la lb same = at (cases_eq d a) (cases_eq d b)
  where
    here : (x : ℕ) → d ≡ x → slot_at after x ≡ s
    here x e = seen x ∙ ap (λ t. cond t s (slot_at slots x)) (is_same d x e)

    there : (x : ℕ) → (d ≡ x → ⊥) → slot_at after x ≡ slot_at slots x
    there x apart = seen x ∙ ap (λ t. cond t s (slot_at slots x)) (is_other d x apart)

    at : (d ≡ a) ⊎ (d ≡ a → ⊥) → (d ≡ b) ⊎ (d ≡ b → ⊥) → a ≡ b
    at (inl e) (inl f) = sym e ∙ f
    at (inl e) (inr f) = absurd (new (sym (ap is_live (here a e)) ∙ la) b f (sym (ap is_live (there b f)) ∙ lb) (sym (ap number_in (there b f)) ∙ (sym same ∙ ap number_in (here a e))))
    at (inr e) (inl f) = absurd (new (sym (ap is_live (here b f)) ∙ lb) a e (sym (ap is_live (there a e)) ∙ la) (sym (ap number_in (there a e)) ∙ (same ∙ ap number_in (here b f))))
    at (inr e) (inr f) = own a b (sym (ap is_live (there a e)) ∙ la) (sym (ap is_live (there b f)) ∙ lb) (sym (ap number_in (there a e)) ∙ (same ∙ ap number_in (there b f)))

pub numbers_drawn : (old new : Buffers) (size number : ℕ) (block : UnsentBlock) → Takes old new size number block → IsOf new block → HaveOwnNumbers old.slots → ((other : ℕ) → is_live (slot_at old.slots other) ≡ true → number_in (slot_at old.slots other) ≢ number) → HaveOwnNumbers new.slots
numbers_drawn old new size number block taken own kept new_there =
    numbers_kept old.slots new.slots block.desc (Unsent number size) (slot_drawn old new size number block taken own) (λ _ other _ live. new_there other live) kept

pub numbers_changed : (slots : List Slot) (d : ℕ) (s : Slot) → is_live (slot_at slots d) ≡ true → (is_live s ≡ true → number_in s ≡ number_in (slot_at slots d)) → HaveOwnNumbers slots → HaveOwnNumbers (set slots d s)
numbers_changed slots d s live same own =
    numbers_kept slots (set slots d s) d s (slot_changed slots d s live) (λ now other apart there e. apart (own d other live there (sym (e ∙ same now)))) own

-- Sizes. --

abbrev block : ℕ → Bool → CutBlock
block class out = record { class = class; out = out }

out_within : (pool : PoolState) (d : ℕ) → is_out pool d ≡ true → d < length pool.blocks
out_within pool d e = at (cases_lt d (length pool.blocks))
  where
    off : (b : Bool) → b ≡ false → b ≡ true → ⊥
    off b x y = cc

    at : (d < length pool.blocks) ⊎ (length pool.blocks ≤ d) → d < length pool.blocks
    at (inl h) = h
    at (inr h) = absurd (off (is_out pool d) (ap (λ (x : CutBlock). x.out) (get_or_past pool.blocks d (block 0 false) h)) e)

-- a block set to one of the same class keeps the sizes
class_set : (blocks : List CutBlock) (n other : ℕ) (b : CutBlock) → b.class ≡ (get_or blocks n (block 0 true)).class → (get_or (set blocks n b) other (block 0 true)).class ≡ (get_or blocks other (block 0 true)).class
class_set blocks n other b e = at (cases_eq n other) (cases_lt n (length blocks))
  where
    at : (n ≡ other) ⊎ (n ≡ other → ⊥) → (n < length blocks) ⊎ (length blocks ≤ n) → (get_or (set blocks n b) other (block 0 true)).class ≡ (get_or blocks other (block 0 true)).class
    at (inr apart) _ = ap (λ (x : CutBlock). x.class) (get_or-set_other blocks n other b (block 0 true) (λ x. apart (sym x)))
    at (inl same) (inl h) = ap (λ (x : CutBlock). x.class) (get_or-set_at blocks n other b (block 0 true) (sym same) h) ∙ (e ∙ ap (λ i. (get_or blocks i (block 0 true)).class) same)
    at (inl same) (inr h) = ap (λ l. (get_or l other (block 0 true)).class) (set_past blocks n b h)

pub sizes_given_back : (pool : PoolState) (d other : ℕ) → size_at (given_back pool d) other ≡ size_at pool other
sizes_given_back pool d other = ap (λ k. get_or pool.sizes k 0) (class_set pool.blocks d other (block (class_at pool d) false) refl)

sizes_draw : (old new : PoolState) (class n other : ℕ) → Draws old new class n → is_out old other ≡ true → size_at new other ≡ size_at old other
sizes_draw old new class n other (Reuses within found e) out =
    ap (λ (p : PoolState). size_at p other) e
    ∙ ap (λ k. get_or old.sizes k 0) (class_set old.blocks n other (block class true) (sym (ap (λ (x : CutBlock). x.class) (get_or_default old.blocks n (block 0 true) (block class true) within ∙ found))))
sizes_draw old new class n other (Cuts none next e) out =
    ap (λ (p : PoolState). size_at p other) e
    ∙ ap (λ (x : CutBlock). get_or old.sizes x.class 0) (get_or_append_left old.blocks (block class true ∷ []) (block 0 true) other (out_within old other out))

pub sizes_drawn : (old new : Buffers) (size number : ℕ) (block : UnsentBlock) → Takes old new size number block → (other : ℕ) → is_out old.pool other ≡ true → size_at new.pool other ≡ size_at old.pool other
sizes_drawn old new size number block taken other out = at (class_of size old.pool.sizes) taken.drawn
  where
    at : (o : Option ℕ) → DrawsIf old.pool new.pool block.desc o → size_at new.pool other ≡ size_at old.pool other
    at None d = absurd d
    at (Some class) d = sizes_draw old.pool new.pool class block.desc other d out
