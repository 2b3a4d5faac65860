-- What a desk keeps stays true if a block is drawn or comes back.
use Rattle.std.proofs.Common.{◌≡◌, ◌≢◌, ℕ, ◌+◌, ◌-◌, ◌<◌, ◌≤◌, ◌⊎◌, inl, inr, Bool, true, false, cond, leb, nat_lt, List, [], ◌∷◌, ◌++◌, length, get_or, set, refl, ap, sym, subst, ◌∙◌, arith, Option, Some, None, Result, Ok, Err, IsOk, OnOk}
use Rattle.std.proofs.lemmas.Bool.{cases_eq, cases_lt}
use Rattle.std.proofs.lemmas.Bool.Decides.{nat_tests}
use Rattle.std.proofs.lemmas.List.{get_or_push, get_or_past, get_or-set_same, get_or-set_other, get_or_append_left, get_or_default, length-set, length_push}
use Rattle.std.proofs.lemmas.List.Quantifiers.{position-Some}
use Rattle.std.proofs.lemmas.List.Sums.{sum_by-set, sum_by_push}
use Rattle.fsw_base.specs.Blocks.{class_of}
use Rattle.fsw_base.specs.PoolAccounts.{overhead, counted}
use Rattle.es_pool.specs.Pool.{PoolState, DrawsFor, DrawsIf, Draws, Reuses, Cuts, is_out, class_at, size_at, given_back, used_by, IsWhole}
use Rattle.es_pool.specs.declared.blocks.CutBlock.{CutBlock}
use Rattle.buf_desc.specs.Slots.{slot_at, sealed_at, is_free, is_sealed, is_live, free_size, sealed_in}
use Rattle.buf_desc.specs.Block.{Unsent as UnsentBlock}
use Rattle.buf_desc.specs.Desk.{Buffers, Takes, placed}
use Rattle.buf_desc.specs.Inside.{Fits, IsKept}
use Rattle.buf_desc.specs.declared.slot.Slot.{Slot}
use Rattle.buf_desc.specs.declared.slot.Slot.TheVariants.{Free, Unsent, Sealed}

-- One slot. --

abbrev block : ℕ → Bool → CutBlock
block class out = record { class = class; out = out }

-- a slot fits another pool in which its block is the same
fits_same : (a b : PoolState) (d : ℕ) (s : Slot) → is_out b d ≡ is_out a d → size_at b d ≡ size_at a d → Fits a d s → Fits b d s
fits_same a b d (Free size) out whole f = (out ∙ f.0, f.1 ∙ sym whole)
fits_same a b d (Unsent number asked) out whole f = out ∙ f
fits_same a b d (Sealed sent) out whole f = (out ∙ f.0, f.1 ∙ sym whole)

-- what isn't out is free, with the block's size
pub free_there : (pool : PoolState) (d : ℕ) (s : Slot) → Fits pool d s → is_out pool d ≡ false → (is_free s ≡ true) × (free_size s ≡ size_at pool d)
free_there pool d (Free size) f out = (refl, f.1)
free_there pool d (Unsent number asked) f out = absurd (no (is_out pool d) f out)
  where
    no : (b : Bool) → b ≡ true → b ≡ false → ⊥
    no b e h = cc
free_there pool d (Sealed sent) f out = absurd (no (is_out pool d) f.0 out)
  where
    no : (b : Bool) → b ≡ true → b ≡ false → ⊥
    no b e h = cc

-- what is live is out
pub live_out : (pool : PoolState) (d : ℕ) (s : Slot) → Fits pool d s → is_live s ≡ is_out pool d
live_out pool d (Free size) f = sym f.0
live_out pool d (Unsent number asked) f = sym f
live_out pool d (Sealed sent) f = sym f.0

-- a sealed block has the pool's size for it
pub sealed_there : (pool : PoolState) (d : ℕ) (s : Slot) → Fits pool d s → is_sealed s ≡ true → (is_out pool d ≡ true) × ((sealed_in s).size ≡ size_at pool d)
sealed_there pool d (Free size) f e = absurd cc
sealed_there pool d (Unsent number asked) f e = absurd cc
sealed_there pool d (Sealed sent) f e = f

-- The pool with a block set. --

abbrev with_blocks : PoolState → List CutBlock → ℕ → PoolState
with_blocks pool blocks requests = record pool { blocks = blocks; requests = requests }

-- the other blocks are as they were
other_out : (pool : PoolState) (n d : ℕ) (b : CutBlock) (r : ℕ) → d ≢ n → is_out (with_blocks pool (set pool.blocks n b) r) d ≡ is_out pool d
other_out pool n d b r ne = ap (λ (x : CutBlock). x.out) (get_or-set_other pool.blocks n d b (block 0 false) ne)

other_size : (pool : PoolState) (n d : ℕ) (b : CutBlock) (r : ℕ) → d ≢ n → size_at (with_blocks pool (set pool.blocks n b) r) d ≡ size_at pool d
other_size pool n d b r ne = ap (λ (x : CutBlock). get_or pool.sizes x.class 0) (get_or-set_other pool.blocks n d b (block 0 true) ne)

-- what was cut took as much, if a block keeps its class
same_used : (pool : PoolState) (n : ℕ) (b : CutBlock) → n < length pool.blocks → b.class ≡ class_at pool n → used_by pool.sizes (set pool.blocks n b) ≡ used_by pool.sizes pool.blocks
same_used pool n b h e =
    let one : get_or pool.sizes b.class 0 ≡ get_or pool.sizes (class_at pool n) 0 = ap (λ k. get_or pool.sizes k 0) e in
    omega (arith, one, sum_by-set (λ (x : CutBlock). get_or pool.sizes x.class 0 + overhead) pool.blocks n b (block 0 true) h)

-- a block is set, and its slot too
kept_set : (pool : PoolState) (slots : List Slot) (rest capacity n r : ℕ) (b : CutBlock) (s : Slot) → IsKept pool slots rest capacity → n < length slots → b.class ≡ class_at pool n → Fits (with_blocks pool (set pool.blocks n b) r) n s → IsKept (with_blocks pool (set pool.blocks n b) r) (set slots n s) rest capacity
kept_set pool slots rest capacity n r b s k h e f =
    let cut : n < length pool.blocks = omega (arith, h, k.all) in
    record {
      all = length-set slots n s ∙ (k.all ∙ sym (length-set pool.blocks n b));
      room = k.room;
      region = omega (arith, k.region, same_used pool n b cut e);
      fits = λ d within. at d (omega (arith, within, length-set slots n s)) (cases_eq d n);
    }
  where
    after : PoolState
    after = with_blocks pool (set pool.blocks n b) r

    at : (d : ℕ) → d < length slots → (d ≡ n) ⊎ (d ≡ n → ⊥) → Fits after d (slot_at (set slots n s) d)
    at d within (inl same) =
        subst (λ i. Fits after i (slot_at (set slots n s) i)) (sym same)
        (subst (Fits after n) (sym (get_or-set_same slots n s (Free 0) h)) f)
    at d within (inr other) =
        subst (Fits after d) (sym (get_or-set_other slots n d s (Free 0) other))
        (fits_same pool after d (slot_at slots d) (other_out pool n d b r other) (other_size pool n d b r other) (k.fits d within))

set_out : (pool : PoolState) (n r : ℕ) (b : CutBlock) → n < length pool.blocks → is_out (with_blocks pool (set pool.blocks n b) r) n ≡ b.out
set_out pool n r b h = ap (λ (x : CutBlock). x.out) (get_or-set_same pool.blocks n b (block 0 false) h)

set_size : (pool : PoolState) (n r : ℕ) (b : CutBlock) → n < length pool.blocks → size_at (with_blocks pool (set pool.blocks n b) r) n ≡ get_or pool.sizes b.class 0
set_size pool n r b h = ap (λ (x : CutBlock). get_or pool.sizes x.class 0) (get_or-set_same pool.blocks n b (block 0 true) h)

-- A block comes back. --

pub kept_freed : (pool : PoolState) (slots : List Slot) (rest capacity n whole : ℕ) → IsKept pool slots rest capacity → n < length slots → whole ≡ size_at pool n → IsKept (given_back pool n) (set slots n (Free whole)) rest capacity
kept_freed pool slots rest capacity n whole k h e =
    let cut : n < length pool.blocks = omega (arith, h, k.all) in
    let b : CutBlock = block (class_at pool n) false in
    kept_set pool slots rest capacity n pool.requests b (Free whole) k h refl (set_out pool n pool.requests b cut, e ∙ sym (set_size pool n pool.requests b cut))

-- A block is drawn. --

-- a block of a class for a size is large enough
large : (size class : ℕ) (sizes : List ℕ) → class_of size sizes ≡ Some class → size ≤ get_or sizes class 0
large size class sizes e = at (get_or sizes class 0) (position-Some (λ b. leb size b) sizes class 0 e).1
  where
    at : (whole : ℕ) → leb size whole ≡ true → size ≤ whole
    at whole t = grind (arith, nat_tests)

-- what is known if a free block is drawn again
pub record Reused (old new : PoolState) (slots : List Slot) (rest capacity size desc number : ℕ) : Type 0 where
  pub free : is_free (slot_at slots desc) ≡ true
  pub enough : size ≤ free_size (slot_at slots desc)
  pub whole : free_size (slot_at slots desc) ≡ size_at new desc
  pub kept : IsKept new (set slots desc (Unsent number size)) rest capacity

reused_class : (old new : PoolState) (slots : List Slot) (rest capacity size class desc number : ℕ) → IsKept old slots rest capacity → class_of size old.sizes ≡ Some class → Draws old new class desc → is_out old desc ≡ false → desc < length slots → Reused old new slots rest capacity size desc number
reused_class old new slots rest capacity size class desc number k fit (Cuts none next e) was h = absurd (omega (arith, h, next, k.all))
reused_class old new slots rest capacity size class desc number k fit (Reuses within found e) was h =
    let b : CutBlock = block class true in
    let there = free_there old desc (slot_at slots desc) (k.fits desc h) was in
    let same : class ≡ class_at old desc = sym (ap (λ (x : CutBlock). x.class) (get_or_default old.blocks desc (block 0 true) b within ∙ found)) in
    let whole : size_at old desc ≡ get_or old.sizes class 0 = ap (λ i. get_or old.sizes i 0) (sym same) in
    let now_whole : size_at new desc ≡ get_or old.sizes class 0 = ap (λ (p : PoolState). size_at p desc) e ∙ set_size old desc (counted old.requests) b within in
    record {
      free = there.0;
      enough = omega (arith, large size class old.sizes fit, there.1, whole);
      whole = there.1 ∙ (whole ∙ sym now_whole);
      kept = subst (λ (p : PoolState). IsKept p (set slots desc (Unsent number size)) rest capacity) (sym e)
          (kept_set old slots rest capacity desc (counted old.requests) b (Unsent number size) k h same (set_out old desc (counted old.requests) b within));
    }

pub reused : (old new : PoolState) (slots : List Slot) (rest capacity size desc number : ℕ) → IsKept old slots rest capacity → DrawsFor old new size desc → is_out old desc ≡ false → desc < length slots → Reused old new slots rest capacity size desc number
reused old new slots rest capacity size desc number k drawn was h = at (class_of size old.sizes) refl drawn
  where
    at : (o : Option ℕ) → class_of size old.sizes ≡ o → DrawsIf old new desc o → Reused old new slots rest capacity size desc number
    at None e d = absurd d
    at (Some class) e d = reused_class old new slots rest capacity size class desc number k e d was h

-- what is known if a block is cut
pub record CutOff (old new : PoolState) (slots : List Slot) (rest capacity size desc number : ℕ) : Type 0 where
  pub next : desc ≡ length slots
  pub there : desc < length new.blocks
  pub space : length slots < capacity
  pub enough : size ≤ size_at new desc
  pub within : size_at new desc ≤ rest
  pub kept : IsKept new (slots ++ Unsent number size ∷ []) (rest - size_at new desc) capacity

cut_class : (old new : PoolState) (slots : List Slot) (rest capacity size class desc number : ℕ) → IsKept old slots rest capacity → IsWhole new → class_of size old.sizes ≡ Some class → Draws old new class desc → length slots ≤ desc → CutOff old new slots rest capacity size desc number
cut_class old new slots rest capacity size class desc number k w fit (Reuses within found e) h = absurd (omega (arith, h, within, k.all))
cut_class old new slots rest capacity size class desc number k w fit (Cuts none next e) h =
    let b : CutBlock = block class true in
    let r : ℕ = counted old.requests in
    let after : PoolState = with_blocks old (old.blocks ++ b ∷ []) r in
    let longer : length (old.blocks ++ b ∷ []) ≡ length old.blocks + 1 = length_push old.blocks b in
    let more : used_by old.sizes (old.blocks ++ b ∷ []) ≡ used_by old.sizes old.blocks + (get_or old.sizes class 0 + overhead) = sum_by_push (λ (x : CutBlock). get_or old.sizes x.class 0 + overhead) old.blocks b in
    let here : (d : CutBlock) → get_or (old.blocks ++ b ∷ []) desc d ≡ b = λ d. ap (λ i. get_or (old.blocks ++ b ∷ []) i d) next ∙ get_or_push old.blocks b d (length old.blocks) refl in
    let whole : size_at after desc ≡ get_or old.sizes class 0 = ap (λ (x : CutBlock). get_or old.sizes x.class 0) (here (block 0 true)) in
    let wa : IsWhole after = subst IsWhole e w in
    let place : desc ≡ length slots = omega (arith, next, k.all) in
    subst (λ (p : PoolState). CutOff old p slots rest capacity size desc number) (sym e)
    (record {
      next = place;
      there = omega (arith, next, longer);
      space = omega (arith, wa.few, k.room, longer, k.all);
      enough = omega (arith, whole, large size class old.sizes fit);
      within = omega (arith, whole, wa.paid, more, k.region);
      kept = record {
        all = omega (arith, length_push slots (Unsent number size), longer, k.all);
        room = k.room;
        region = omega (arith, whole, wa.paid, more, k.region);
        fits = λ d inside. at d (omega (arith, inside, length_push slots (Unsent number size))) (cases_lt d (length slots));
      };
    })
  where
    b' : CutBlock
    b' = block class true

    after' : PoolState
    after' = with_blocks old (old.blocks ++ b' ∷ []) (counted old.requests)

    at : (d : ℕ) → d < length slots + 1 → (d < length slots) ⊎ (length slots ≤ d) → Fits after' d (slot_at (slots ++ Unsent number size ∷ []) d)
    at d inside (inl front) =
        let old_place : d < length old.blocks = omega (arith, front, k.all) in
        subst (Fits after' d) (sym (get_or_append_left slots (Unsent number size ∷ []) (Free 0) d front))
        (fits_same old after' d (slot_at slots d) (ap (λ (x : CutBlock). x.out) (get_or_append_left old.blocks (b' ∷ []) (block 0 false) d old_place)) (ap (λ (x : CutBlock). get_or old.sizes x.class 0) (get_or_append_left old.blocks (b' ∷ []) (block 0 true) d old_place)) (k.fits d front))
    at d inside (inr back) =
        let e' : d ≡ length slots = omega (arith, inside, back) in
        let e'' : d ≡ length old.blocks = omega (arith, e', k.all) in
        subst (Fits after' d) (sym (ap (λ i. slot_at (slots ++ Unsent number size ∷ []) i) e' ∙ get_or_push slots (Unsent number size) (Free 0) (length slots) refl))
        (ap (λ (x : CutBlock). x.out) (ap (λ i. get_or (old.blocks ++ b' ∷ []) i (block 0 false)) e'' ∙ get_or_push old.blocks b' (block 0 false) (length old.blocks) refl))

pub cut_off : (old new : PoolState) (slots : List Slot) (rest capacity size desc number : ℕ) → IsKept old slots rest capacity → IsWhole new → DrawsFor old new size desc → length slots ≤ desc → CutOff old new slots rest capacity size desc number
cut_off old new slots rest capacity size desc number k w drawn h = at (class_of size old.sizes) refl drawn
  where
    at : (o : Option ℕ) → class_of size old.sizes ≡ o → DrawsIf old new desc o → CutOff old new slots rest capacity size desc number
    at None e d = absurd d
    at (Some class) e d = cut_class old new slots rest capacity size class desc number k w e d h

-- what is kept of fields that are equal
pub kept_at : (pool : PoolState) (slots slots' : List Slot) (rest rest' capacity capacity' : ℕ) → slots' ≡ slots → rest' ≡ rest → capacity' ≡ capacity → IsKept pool slots rest capacity → IsKept pool slots' rest' capacity'
kept_at pool slots slots' rest rest' capacity capacity' es er ec k =
    subst (λ (s : List Slot). IsKept pool s rest' capacity') (sym es) (subst (λ (r : ℕ). IsKept pool slots r capacity') (sym er) (subst (λ (n : ℕ). IsKept pool slots rest n) (sym ec) k))

-- what a draw is, as the desk's user sees it
pub taken_again : (old : Buffers) (pool new : PoolState) (slots slots' : List Slot) (rest capacity size desc number : ℕ) (b : UnsentBlock) → record { pool = pool; slots = slots } ≡ old → IsKept pool slots rest capacity → DrawsFor pool new size desc → is_out pool desc ≡ false → desc < length slots → slots' ≡ set slots desc (Unsent number size) → b.desc ≡ desc → b.number ≡ number → b.size ≡ size_at new desc → length b.bytes ≡ size → Takes old (record { pool = new; slots = slots' }) size number b
taken_again old pool new slots slots' rest capacity size desc number b seen k drawn was h e ed en ew el =
    subst (λ (o : Buffers). Takes o (record { pool = new; slots = slots' }) size number b) seen
    (record {
      drawn = subst (λ d. DrawsFor pool new size d) (sym ed) drawn;
      was_not_live = ap (λ d. is_live (slot_at slots d)) ed ∙ (live_out pool desc (slot_at slots desc) (k.fits desc h) ∙ was);
      slots = e ∙ (sym (placed_inside slots desc (Unsent number size) h) ∙ sym (ap (λ d. placed slots d (Unsent number size)) ed));
      sent_as = en;
      whole = ew ∙ sym (ap (size_at new) ed);
      long = el;
    })
  where
    placed_inside : (xs : List Slot) (d : ℕ) (s : Slot) → d < length xs → placed xs d s ≡ set xs d s
    placed_inside xs d s within = ap (λ b'. cond b' (set xs d s) (xs ++ s ∷ [])) (yes d (length xs) within)
      where
        yes : (x y : ℕ) → x < y → nat_lt x y ≡ true
        yes x y l = grind (arith, nat_tests)

pub taken_new : (old : Buffers) (pool new : PoolState) (slots slots' : List Slot) (size desc number : ℕ) (b : UnsentBlock) → record { pool = pool; slots = slots } ≡ old → DrawsFor pool new size desc → desc ≡ length slots → slots' ≡ slots ++ Unsent number size ∷ [] → b.desc ≡ desc → b.number ≡ number → b.size ≡ size_at new desc → length b.bytes ≡ size → Takes old (record { pool = new; slots = slots' }) size number b
taken_new old pool new slots slots' size desc number b seen drawn next e ed en ew el =
    subst (λ (o : Buffers). Takes o (record { pool = new; slots = slots' }) size number b) seen
    (record {
      drawn = subst (λ d. DrawsFor pool new size d) (sym ed) drawn;
      was_not_live = ap is_live (get_or_past slots b.desc (Free 0) (omega (arith, ed, next)));
      slots = e ∙ (sym (placed_after slots desc (Unsent number size) next) ∙ sym (ap (λ d. placed slots d (Unsent number size)) ed));
      sent_as = en;
      whole = ew ∙ sym (ap (size_at new) ed);
      long = el;
    })
  where
    placed_after : (xs : List Slot) (d : ℕ) (s : Slot) → d ≡ length xs → placed xs d s ≡ xs ++ s ∷ []
    placed_after xs d s same = ap (λ b'. cond b' (set xs d s) (xs ++ s ∷ [])) (past d (length xs) same)
      where
        past : (x y : ℕ) → x ≡ y → nat_lt x y ≡ false
        past x y l = grind (arith, nat_tests)

-- a slot that is not free is there
pub sealed_within : (slots : List Slot) (d : ℕ) → is_sealed (slot_at slots d) ≡ true → d < length slots
sealed_within slots d e = at (cases_lt d (length slots))
  where
    at : (d < length slots) ⊎ (length slots ≤ d) → d < length slots
    at (inl h) = h
    at (inr h) = absurd (no (slot_at slots d) (get_or_past slots d (Free 0) h) e)
      where
        no : (s : Slot) → s ≡ Free 0 → is_sealed s ≡ true → ⊥
        no s free sealed = absurd (off (is_sealed s) (ap is_sealed free) sealed)
          where
            off : (b : Bool) → b ≡ false → b ≡ true → ⊥
            off b x y = cc

-- a sealed block was opened and given back
pub kept_reopened : (pool new : PoolState) (slots slots' : List Slot) (rest capacity capacity' d : ℕ) → IsKept pool slots rest capacity → is_sealed (slot_at slots d) ≡ true → slots' ≡ set slots d (Free (sealed_at slots d).size) → capacity' ≡ capacity → new ≡ given_back pool d → IsKept new slots' rest capacity'
kept_reopened pool new slots slots' rest capacity capacity' d k e es ec en =
    let h = sealed_within slots d e in
    let there = sealed_there pool d (slot_at slots d) (k.fits d h) e in
    subst (λ (p : PoolState). IsKept p slots' rest capacity') (sym en)
    (kept_at (given_back pool d) _ slots' rest rest capacity capacity' es refl ec (kept_freed pool slots rest capacity d (sealed_at slots d).size k h there.1))

pub reopened_out : (pool : PoolState) (slots : List Slot) (rest capacity d : ℕ) → IsKept pool slots rest capacity → is_sealed (slot_at slots d) ≡ true → is_out pool d ≡ true
reopened_out pool slots rest capacity d k e = (sealed_there pool d (slot_at slots d) (k.fits d (sealed_within slots d e)) e).0

-- what an Ok tells
pub on_ok : {A E : Type 0} {P : Type 0} (r : Result A E) → IsOk r → OnOk r P → P
on_ok (Ok x) ok p = p
on_ok (Err e) ok p = absurd (off ok)
  where
    off : false ≡ true → ⊥
    off x = cc

unsent_within : (slots : List Slot) (d number asked : ℕ) → slot_at slots d ≡ Unsent number asked → d < length slots
unsent_within slots d number asked e = at (cases_lt d (length slots))
  where
    at : (d < length slots) ⊎ (length slots ≤ d) → d < length slots
    at (inl h) = h
    at (inr h) = absurd (off (ap is_live (sym (get_or_past slots d (Free 0) h) ∙ e)))
      where
        off : false ≡ true → ⊥
        off x = cc

pub unsent_out : (pool : PoolState) (slots : List Slot) (rest capacity d number asked : ℕ) → IsKept pool slots rest capacity → slot_at slots d ≡ Unsent number asked → is_out pool d ≡ true
unsent_out pool slots rest capacity d number asked k e = subst (Fits pool d) e (k.fits d (unsent_within slots d number asked e))

-- a block of an application was given back
pub kept_given : (pool new : PoolState) (slots slots' : List Slot) (rest capacity capacity' d number asked whole : ℕ) → IsKept pool slots rest capacity → slot_at slots d ≡ Unsent number asked → whole ≡ size_at pool d → slots' ≡ set slots d (Free whole) → capacity' ≡ capacity → new ≡ given_back pool d → IsKept new slots' rest capacity'
kept_given pool new slots slots' rest capacity capacity' d number asked whole k e ew es ec en =
    let h = unsent_within slots d number asked e in
    subst (λ (p : PoolState). IsKept p slots' rest capacity') (sym en)
    (kept_at (given_back pool d) _ slots' rest rest capacity capacity' es refl ec (kept_freed pool slots rest capacity d whole k h ew))

-- the block drawn is of the desk
pub own_again : (new : PoolState) (slots slots' : List Slot) (desc number size : ℕ) (b : UnsentBlock) → desc < length slots → slots' ≡ set slots desc (Unsent number size) → b.desc ≡ desc → b.number ≡ number → b.size ≡ size_at new desc → length b.bytes ≡ size → (slot_at slots' b.desc ≡ Unsent b.number (length b.bytes)) × (b.size ≡ size_at new b.desc)
own_again new slots slots' desc number size b h e ed en ew el =
    (ap (λ d. slot_at slots' d) ed ∙ (ap (λ l. slot_at l desc) e ∙ (get_or-set_same slots desc (Unsent number size) (Free 0) h ∙ (ap (λ n. Unsent n size) (sym en) ∙ ap (Unsent b.number) (sym el)))), ew ∙ sym (ap (size_at new) ed))

pub own_new : (new : PoolState) (slots slots' : List Slot) (desc number size : ℕ) (b : UnsentBlock) → desc ≡ length slots → slots' ≡ slots ++ Unsent number size ∷ [] → b.desc ≡ desc → b.number ≡ number → b.size ≡ size_at new desc → length b.bytes ≡ size → (slot_at slots' b.desc ≡ Unsent b.number (length b.bytes)) × (b.size ≡ size_at new b.desc)
own_new new slots slots' desc number size b h e ed en ew el =
    (ap (λ d. slot_at slots' d) (ed ∙ h) ∙ (ap (λ l. slot_at l (length slots)) e ∙ (get_or_push slots (Unsent number size) (Free 0) (length slots) refl ∙ (ap (λ n. Unsent n size) (sym en) ∙ ap (Unsent b.number) (sym el)))), ew ∙ sym (ap (size_at new) ed))

-- the live blocks are those that are out
pub all_live : (pool : PoolState) (slots : List Slot) (rest capacity : ℕ) → IsKept pool slots rest capacity → (d : ℕ) → is_live (slot_at slots d) ≡ is_out pool d
all_live pool slots rest capacity k d = by_case (cases_lt d (length slots))
  where
    by_case : (d < length slots) ⊎ (length slots ≤ d) → is_live (slot_at slots d) ≡ is_out pool d
    by_case (inl h) = live_out pool d (slot_at slots d) (k.fits d h)
    by_case (inr h) =
        ap is_live (get_or_past slots d (Free 0) h)
        ∙ sym (ap (λ (b : CutBlock). b.out) (get_or_past pool.blocks d (block 0 false) (omega (arith, h, k.all))))

pub all_whole : (pool : PoolState) (slots : List Slot) (rest capacity : ℕ) → IsKept pool slots rest capacity → (d : ℕ) → is_sealed (slot_at slots d) ≡ true → (sealed_at slots d).size ≡ size_at pool d
all_whole pool slots rest capacity k d e = (sealed_there pool d (slot_at slots d) (k.fits d (sealed_within slots d e)) e).1
