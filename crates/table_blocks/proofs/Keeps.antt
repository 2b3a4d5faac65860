-- What the memory of a pool keeps stays true if a block is drawn or comes back.
use Rattle.std.proofs.Common.{◌≡◌, ◌≢◌, ℕ, ◌+◌, ◌-◌, ◌<◌, ◌≤◌, ◌⊎◌, inl, inr, Bool, true, false, leb, List, [], ◌∷◌, ◌++◌, length, get_or, set, refl, ap, sym, subst, ◌∙◌, arith, Option, Some, None, Result, Ok, Err, IsOk, OnOk}
use Rattle.std.proofs.lemmas.Bool.{cases_eq, cases_lt}
use Rattle.std.proofs.lemmas.Bool.Decides.{nat_tests}
use Rattle.std.proofs.lemmas.List.{get_or_push, get_or_past, get_or-set_same, get_or-set_other, get_or_append_left, get_or_default, length-set, length_push}
use Rattle.std.proofs.lemmas.List.Quantifiers.{position-Some}
use Rattle.std.proofs.lemmas.List.Sums.{sum_by-set, sum_by_push}
use Rattle.fsw_base.specs.Blocks.{class_of}
use Rattle.fsw_base.specs.PoolAccounts.{overhead, counted}
use Rattle.es_pool.specs.Pool.{PoolState, DrawsFor, DrawsIf, Draws, Reuses, Cuts, is_out, class_at, size_at, given_back, used_by, IsWhole}
use Rattle.es_pool.specs.declared.blocks.CutBlock.{CutBlock}
use Rattle.table_blocks.specs.Memory.{Memory, Takes, GoesBack, slot_at, is_free, free_bytes}
use Rattle.table_blocks.specs.Inside.{Fits, IsKept}
use Rattle.table_blocks.specs.declared.slot.Slot.{Slot}
use Rattle.table_blocks.specs.declared.slot.Slot.TheVariants.{Free, Taken}

-- One slot. --

abbrev block : ℕ → Bool → CutBlock
block class out = record { class = class; out = out }

-- a slot fits another pool in which its block is the same
fits_same : (a b : PoolState) (d : ℕ) (s : Slot) → is_out b d ≡ is_out a d → size_at b d ≡ size_at a d → Fits a d s → Fits b d s
fits_same a b d (Free bytes) out whole f = (out ∙ f.0, f.1 ∙ sym whole)
fits_same a b d (Taken key) out whole f = out ∙ f

-- what isn't out is free, with the block's size
free_there : (pool : PoolState) (d : ℕ) (s : Slot) → Fits pool d s → is_out pool d ≡ false → (is_free s ≡ true) × (length (free_bytes s) ≡ size_at pool d)
free_there pool d (Free bytes) f out = (refl, f.1)
free_there pool d (Taken key) f out = absurd (no (is_out pool d) f out)
  where
    no : (b : Bool) → b ≡ true → b ≡ false → ⊥
    no b e h = cc

-- The pool with a block set. --

abbrev with_blocks : PoolState → List CutBlock → ℕ → PoolState
with_blocks pool blocks requests = record pool { blocks = blocks; requests = requests }

-- the other blocks are as they were
other_out : (pool : PoolState) (n d : ℕ) (b : CutBlock) (r : ℕ) → d ≢ n → is_out (with_blocks pool (set pool.blocks n b) r) d ≡ is_out pool d
other_out pool n d b r ne = ap (λ (x : CutBlock). x.out) (get_or-set_other pool.blocks n d b (block 0 false) ne)

other_size : (pool : PoolState) (n d : ℕ) (b : CutBlock) (r : ℕ) → d ≢ n → size_at (with_blocks pool (set pool.blocks n b) r) d ≡ size_at pool d
other_size pool n d b r ne = ap (λ (x : CutBlock). get_or pool.sizes x.class 0) (get_or-set_other pool.blocks n d b (block 0 true) ne)

-- what was cut took as much, if a block keeps its class
same_used : (pool : PoolState) (n : ℕ) (b : CutBlock) → n < length pool.blocks → b.class ≡ class_at pool n → used_by pool.sizes (set pool.blocks n b) ≡ used_by pool.sizes pool.blocks
same_used pool n b h e =
    let one : get_or pool.sizes b.class 0 ≡ get_or pool.sizes (class_at pool n) 0 = ap (λ k. get_or pool.sizes k 0) e in
    omega (arith, one, sum_by-set (λ (x : CutBlock). get_or pool.sizes x.class 0 + overhead) pool.blocks n b (block 0 true) h)

-- a block is set, and its slot too
kept_set : (pool : PoolState) (slots : List Slot) (rest capacity n r : ℕ) (b : CutBlock) (s : Slot) → IsKept pool slots rest capacity → n < length slots → b.class ≡ class_at pool n → Fits (with_blocks pool (set pool.blocks n b) r) n s → IsKept (with_blocks pool (set pool.blocks n b) r) (set slots n s) rest capacity
kept_set pool slots rest capacity n r b s k h e f =
    let cut : n < length pool.blocks = omega (arith, h, k.all) in
    record {
      all = length-set slots n s ∙ (k.all ∙ sym (length-set pool.blocks n b));
      room = k.room;
      region = omega (arith, k.region, same_used pool n b cut e);
      fits = λ d within. at d (omega (arith, within, length-set slots n s)) (cases_eq d n);
    }
  where
    after : PoolState
    after = with_blocks pool (set pool.blocks n b) r

    at : (d : ℕ) → d < length slots → (d ≡ n) ⊎ (d ≡ n → ⊥) → Fits after d (slot_at (set slots n s) d)
    at d within (inl same) =
        subst (λ i. Fits after i (slot_at (set slots n s) i)) (sym same)
        (subst (Fits after n) (sym (get_or-set_same slots n s (Free []) h)) f)
    at d within (inr other) =
        subst (Fits after d) (sym (get_or-set_other slots n d s (Free []) other))
        (fits_same pool after d (slot_at slots d) (other_out pool n d b r other) (other_size pool n d b r other) (k.fits d within))

set_out : (pool : PoolState) (n r : ℕ) (b : CutBlock) → n < length pool.blocks → is_out (with_blocks pool (set pool.blocks n b) r) n ≡ b.out
set_out pool n r b h = ap (λ (x : CutBlock). x.out) (get_or-set_same pool.blocks n b (block 0 false) h)

set_size : (pool : PoolState) (n r : ℕ) (b : CutBlock) → n < length pool.blocks → size_at (with_blocks pool (set pool.blocks n b) r) n ≡ get_or pool.sizes b.class 0
set_size pool n r b h = ap (λ (x : CutBlock). get_or pool.sizes x.class 0) (get_or-set_same pool.blocks n b (block 0 true) h)

-- A block comes back. --

pub kept_freed : (pool : PoolState) (slots : List Slot) (rest capacity n : ℕ) (bytes : List ℕ) → IsKept pool slots rest capacity → n < length slots → length bytes ≡ size_at pool n → IsKept (given_back pool n) (set slots n (Free bytes)) rest capacity
kept_freed pool slots rest capacity n bytes k h e =
    let cut : n < length pool.blocks = omega (arith, h, k.all) in
    let b : CutBlock = block (class_at pool n) false in
    kept_set pool slots rest capacity n pool.requests b (Free bytes) k h refl (set_out pool n pool.requests b cut, e ∙ sym (set_size pool n pool.requests b cut))

-- A block is drawn. --

-- a block of a class for a size is large enough
large : (size class : ℕ) (sizes : List ℕ) → class_of size sizes ≡ Some class → size ≤ get_or sizes class 0
large size class sizes e = at (get_or sizes class 0) (position-Some (λ b. leb size b) sizes class 0 e).1
  where
    at : (whole : ℕ) → leb size whole ≡ true → size ≤ whole
    at whole t = grind (arith, nat_tests)

-- what is known if a free block is drawn again
pub record Reused (old new : PoolState) (slots : List Slot) (rest capacity size desc key : ℕ) : Type 0 where
  pub free : is_free (slot_at slots desc) ≡ true
  pub enough : size ≤ length (free_bytes (slot_at slots desc))
  pub whole : length (free_bytes (slot_at slots desc)) ≡ size_at new desc
  pub kept : IsKept new (set slots desc (Taken key)) rest capacity

reused_class : (old new : PoolState) (slots : List Slot) (rest capacity size class desc key : ℕ) → IsKept old slots rest capacity → class_of size old.sizes ≡ Some class → Draws old new class desc → is_out old desc ≡ false → desc < length slots → Reused old new slots rest capacity size desc key
reused_class old new slots rest capacity size class desc key k fit (Cuts none next e) was h = absurd (omega (arith, h, next, k.all))
reused_class old new slots rest capacity size class desc key k fit (Reuses within found e) was h =
    let b : CutBlock = block class true in
    let there = free_there old desc (slot_at slots desc) (k.fits desc h) was in
    let same : class ≡ class_at old desc = sym (ap (λ (x : CutBlock). x.class) (get_or_default old.blocks desc (block 0 true) b within ∙ found)) in
    let whole : size_at old desc ≡ get_or old.sizes class 0 = ap (λ i. get_or old.sizes i 0) (sym same) in
    let now_whole : size_at new desc ≡ get_or old.sizes class 0 = ap (λ (p : PoolState). size_at p desc) e ∙ set_size old desc (counted old.requests) b within in
    record {
      free = there.0;
      enough = omega (arith, large size class old.sizes fit, there.1, whole);
      whole = there.1 ∙ (whole ∙ sym now_whole);
      kept = subst (λ (p : PoolState). IsKept p (set slots desc (Taken key)) rest capacity) (sym e)
          (kept_set old slots rest capacity desc (counted old.requests) b (Taken key) k h same (set_out old desc (counted old.requests) b within));
    }

pub reused : (old new : PoolState) (slots : List Slot) (rest capacity size desc key : ℕ) → IsKept old slots rest capacity → DrawsFor old new size desc → is_out old desc ≡ false → desc < length slots → Reused old new slots rest capacity size desc key
reused old new slots rest capacity size desc key k drawn was h = at (class_of size old.sizes) refl drawn
  where
    at : (o : Option ℕ) → class_of size old.sizes ≡ o → DrawsIf old new desc o → Reused old new slots rest capacity size desc key
    at None e d = absurd d
    at (Some class) e d = reused_class old new slots rest capacity size class desc key k e d was h

-- what is known if a block is cut
pub record CutOff (old new : PoolState) (slots : List Slot) (rest capacity size desc key : ℕ) : Type 0 where
  pub next : desc ≡ length slots
  pub there : desc < length new.blocks
  pub space : length slots < capacity
  pub enough : size ≤ size_at new desc
  pub within : size_at new desc ≤ rest
  pub kept : IsKept new (slots ++ Taken key ∷ []) (rest - size_at new desc) capacity

cut_class : (old new : PoolState) (slots : List Slot) (rest capacity size class desc key : ℕ) → IsKept old slots rest capacity → IsWhole new → class_of size old.sizes ≡ Some class → Draws old new class desc → length slots ≤ desc → CutOff old new slots rest capacity size desc key
cut_class old new slots rest capacity size class desc key k w fit (Reuses within found e) h = absurd (omega (arith, h, within, k.all))
cut_class old new slots rest capacity size class desc key k w fit (Cuts none next e) h =
    let b : CutBlock = block class true in
    let r : ℕ = counted old.requests in
    let after : PoolState = with_blocks old (old.blocks ++ b ∷ []) r in
    let longer : length (old.blocks ++ b ∷ []) ≡ length old.blocks + 1 = length_push old.blocks b in
    let more : used_by old.sizes (old.blocks ++ b ∷ []) ≡ used_by old.sizes old.blocks + (get_or old.sizes class 0 + overhead) = sum_by_push (λ (x : CutBlock). get_or old.sizes x.class 0 + overhead) old.blocks b in
    let here : (d : CutBlock) → get_or (old.blocks ++ b ∷ []) desc d ≡ b = λ d. ap (λ i. get_or (old.blocks ++ b ∷ []) i d) next ∙ get_or_push old.blocks b d (length old.blocks) refl in
    let whole : size_at after desc ≡ get_or old.sizes class 0 = ap (λ (x : CutBlock). get_or old.sizes x.class 0) (here (block 0 true)) in
    let wa : IsWhole after = subst IsWhole e w in
    let place : desc ≡ length slots = omega (arith, next, k.all) in
    subst (λ (p : PoolState). CutOff old p slots rest capacity size desc key) (sym e)
    (record {
      next = place;
      there = omega (arith, next, longer);
      space = omega (arith, wa.few, k.room, longer, k.all);
      enough = omega (arith, whole, large size class old.sizes fit);
      within = omega (arith, whole, wa.paid, more, k.region);
      kept = record {
        all = omega (arith, length_push slots (Taken key), longer, k.all);
        room = k.room;
        region = omega (arith, whole, wa.paid, more, k.region);
        fits = λ d inside. at d (omega (arith, inside, length_push slots (Taken key))) (cases_lt d (length slots));
      };
    })
  where
    b' : CutBlock
    b' = block class true

    after' : PoolState
    after' = with_blocks old (old.blocks ++ b' ∷ []) (counted old.requests)

    at : (d : ℕ) → d < length slots + 1 → (d < length slots) ⊎ (length slots ≤ d) → Fits after' d (slot_at (slots ++ Taken key ∷ []) d)
    at d inside (inl front) =
        let old_place : d < length old.blocks = omega (arith, front, k.all) in
        subst (Fits after' d) (sym (get_or_append_left slots (Taken key ∷ []) (Free []) d front))
        (fits_same old after' d (slot_at slots d) (ap (λ (x : CutBlock). x.out) (get_or_append_left old.blocks (b' ∷ []) (block 0 false) d old_place)) (ap (λ (x : CutBlock). get_or old.sizes x.class 0) (get_or_append_left old.blocks (b' ∷ []) (block 0 true) d old_place)) (k.fits d front))
    at d inside (inr back) =
        let e' : d ≡ length slots = omega (arith, inside, back) in
        let e'' : d ≡ length old.blocks = omega (arith, e', k.all) in
        subst (Fits after' d) (sym (ap (λ i. slot_at (slots ++ Taken key ∷ []) i) e' ∙ get_or_push slots (Taken key) (Free []) (length slots) refl))
        (ap (λ (x : CutBlock). x.out) (ap (λ i. get_or (old.blocks ++ b' ∷ []) i (block 0 false)) e'' ∙ get_or_push old.blocks b' (block 0 false) (length old.blocks) refl))

pub cut_off : (old new : PoolState) (slots : List Slot) (rest capacity size desc key : ℕ) → IsKept old slots rest capacity → IsWhole new → DrawsFor old new size desc → length slots ≤ desc → CutOff old new slots rest capacity size desc key
cut_off old new slots rest capacity size desc key k w drawn h = at (class_of size old.sizes) refl drawn
  where
    at : (o : Option ℕ) → class_of size old.sizes ≡ o → DrawsIf old new desc o → CutOff old new slots rest capacity size desc key
    at None e d = absurd d
    at (Some class) e d = cut_class old new slots rest capacity size class desc key k w e d h

-- what is kept of fields that are equal
pub kept_at : (pool : PoolState) (slots slots' : List Slot) (rest rest' capacity capacity' : ℕ) → slots' ≡ slots → rest' ≡ rest → capacity' ≡ capacity → IsKept pool slots rest capacity → IsKept pool slots' rest' capacity'
kept_at pool slots slots' rest rest' capacity capacity' es er ec k =
    subst (λ (s : List Slot). IsKept pool s rest' capacity') (sym es) (subst (λ (r : ℕ). IsKept pool slots r capacity') (sym er) (subst (λ (n : ℕ). IsKept pool slots rest n) (sym ec) k))

-- What became of the blocks that tables have. --

off : false ≡ true → ⊥
off e = cc

-- what an Ok tells
pub on_ok : {A E : Type 0} {P : Type 0} (r : Result A E) → IsOk r → OnOk r P → P
on_ok (Ok x) ok p = p
on_ok (Err e) ok p = absurd (off ok)

taken_within : (slots : List Slot) (d key : ℕ) → slot_at slots d ≡ Taken key → d < length slots
taken_within slots d key e = at (cases_lt d (length slots))
  where
    at : (d < length slots) ⊎ (length slots ≤ d) → d < length slots
    at (inl h) = h
    at (inr h) = absurd (off (sym (ap is_free (sym (get_or_past slots d (Free []) h) ∙ e))))

pub taken_other : (slots : List Slot) (d n key : ℕ) → slot_at slots d ≡ Taken key → is_free (slot_at slots n) ≡ true → d ≢ n
taken_other slots d n key e free same = off (sym (ap is_free e) ∙ (ap (λ i. is_free (slot_at slots i)) same ∙ free))

pub taken_out : (pool : PoolState) (slots : List Slot) (rest capacity d key : ℕ) → IsKept pool slots rest capacity → slot_at slots d ≡ Taken key → is_out pool d ≡ true
taken_out pool slots rest capacity d key k e = subst (Fits pool d) e (k.fits d (taken_within slots d key e))

class_drawn : (old new : PoolState) (class n other : ℕ) → Draws old new class n → other ≢ n → other < length old.blocks → class_at new other ≡ class_at old other
class_drawn old new class n other (Reuses within found e) apart h =
    ap (λ (p : PoolState). class_at p other) e ∙ ap (λ (x : CutBlock). x.class) (get_or-set_other old.blocks n other (block class true) (block 0 true) apart)
class_drawn old new class n other (Cuts none next e) apart h =
    ap (λ (p : PoolState). class_at p other) e ∙ ap (λ (x : CutBlock). x.class) (get_or_append_left old.blocks (block class true ∷ []) (block 0 true) other h)

class_here : (old new : PoolState) (class n : ℕ) → Draws old new class n → (new.sizes ≡ old.sizes) × (class_at new n ≡ class)
class_here old new class n (Reuses within found e) =
    (ap (λ (p : PoolState). p.sizes) e, ap (λ (p : PoolState). class_at p n) e ∙ ap (λ (x : CutBlock). x.class) (get_or-set_same old.blocks n (block class true) (block 0 true) within))
class_here old new class n (Cuts none next e) =
    (ap (λ (p : PoolState). p.sizes) e, ap (λ (p : PoolState). class_at p n) e ∙ ap (λ (x : CutBlock). x.class) (ap (λ i. get_or (old.blocks ++ block class true ∷ []) i (block 0 true)) next ∙ get_or_push old.blocks (block class true) (block 0 true) (length old.blocks) refl))

-- a draw in the words of the pool alone
pub record DrawnFacts (old new : PoolState) (size n : ℕ) : Type 0 where
  pub sizes : new.sizes ≡ old.sizes
  pub class : class_of size new.sizes ≡ Some (class_at new n)
  pub others : (other : ℕ) → other ≢ n → other < length old.blocks → class_at new other ≡ class_at old other

pub drawn_facts : (old new : PoolState) (size n : ℕ) → DrawsFor old new size n → DrawnFacts old new size n
drawn_facts old new size n drawn = at (class_of size old.sizes) refl drawn
  where
    at : (o : Option ℕ) → class_of size old.sizes ≡ o → DrawsIf old new n o → DrawnFacts old new size n
    at None e d = absurd d
    at (Some class) e d =
        let here = class_here old new class n d in
        record {
          sizes = here.0;
          class = ap (class_of size) here.0 ∙ (e ∙ ap Some (sym here.1));
          others = λ other apart h. class_drawn old new class n other d apart h;
        }

-- a block is drawn again
pub takes_again : (seen : Memory) (old new : PoolState) (slots slots' : List Slot) (rest capacity key size n whole : ℕ) → record { pool = old; slots = slots } ≡ seen → IsKept old slots rest capacity → DrawsFor old new size n → n < length slots → is_free (slot_at slots n) ≡ true → slots' ≡ set slots n (Taken key) → whole ≡ size_at new n → size ≤ whole → Takes seen (record { pool = new; slots = slots' }) key size n whole
takes_again seen old new slots slots' rest capacity key size n whole view k drawn h free e w enough =
    let facts = drawn_facts old new size n drawn in
    subst (λ (m : Memory). Takes m (record { pool = new; slots = slots' }) key size n whole) view
    (record {
      drawn = drawn;
      was_free = free;
      taken = ap (λ l. slot_at l n) e ∙ get_or-set_same slots n (Taken key) (Free []) h;
      as_large = w;
      enough = enough;
      sizes = facts.sizes;
      class = facts.class;
      others = λ other owner there.
          let apart = taken_other slots other n owner there free in (
            ap (λ l. slot_at l other) e ∙ (get_or-set_other slots n other (Taken key) (Free []) apart ∙ there),
            facts.others other apart (omega (arith, taken_within slots other owner there, k.all)),
          );
    })

-- a block is cut
pub takes_new : (seen : Memory) (old new : PoolState) (slots slots' : List Slot) (rest capacity key size n whole : ℕ) → record { pool = old; slots = slots } ≡ seen → IsKept old slots rest capacity → DrawsFor old new size n → n ≡ length slots → slots' ≡ slots ++ Taken key ∷ [] → whole ≡ size_at new n → size ≤ whole → Takes seen (record { pool = new; slots = slots' }) key size n whole
takes_new seen old new slots slots' rest capacity key size n whole view k drawn next e w enough =
    let facts = drawn_facts old new size n drawn in
    let free : is_free (slot_at slots n) ≡ true = ap is_free (get_or_past slots n (Free []) (omega (arith, next))) in
    subst (λ (m : Memory). Takes m (record { pool = new; slots = slots' }) key size n whole) view
    (record {
      drawn = drawn;
      was_free = free;
      taken = ap (λ l. slot_at l n) e ∙ (ap (λ i. slot_at (slots ++ Taken key ∷ []) i) next ∙ get_or_push slots (Taken key) (Free []) (length slots) refl);
      as_large = w;
      enough = enough;
      sizes = facts.sizes;
      class = facts.class;
      others = λ other owner there.
          let apart = taken_other slots other n owner there free in
          let within = taken_within slots other owner there in (
            ap (λ l. slot_at l other) e ∙ (get_or_append_left slots (Taken key ∷ []) (Free []) other within ∙ there),
            facts.others other apart (omega (arith, within, k.all)),
          );
    })

-- a table's block goes back
pub kept_back : (pool new : PoolState) (slots slots' : List Slot) (rest capacity capacity' n key : ℕ) (bytes : List ℕ) → IsKept pool slots rest capacity → slot_at slots n ≡ Taken key → length bytes ≡ size_at pool n → slots' ≡ set slots n (Free bytes) → capacity' ≡ capacity → new ≡ given_back pool n → IsKept new slots' rest capacity'
kept_back pool new slots slots' rest capacity capacity' n key bytes k e w es ec en =
    subst (λ (p : PoolState). IsKept p slots' rest capacity') (sym en)
    (kept_at (given_back pool n) _ slots' rest rest capacity capacity' es refl ec (kept_freed pool slots rest capacity n bytes k (taken_within slots n key e) w))

pub goes_back : (seen : Memory) (pool new : PoolState) (slots slots' : List Slot) (n : ℕ) (bytes : List ℕ) → record { pool = pool; slots = slots } ≡ seen → slots' ≡ set slots n (Free bytes) → new ≡ given_back pool n → GoesBack seen (record { pool = new; slots = slots' }) n
goes_back seen pool new slots slots' n bytes view es en =
    subst (λ (m : Memory). GoesBack m (record { pool = new; slots = slots' }) n) view
    (record {
      pool = en;
      others = λ other owner there apart. (
        ap (λ l. slot_at l other) es ∙ (get_or-set_other slots n other (Free bytes) (Free []) apart ∙ there),
        ap (λ (p : PoolState). class_at p other) en ∙ ap (λ (x : CutBlock). x.class) (get_or-set_other pool.blocks n other (block (class_at pool n) false) (block 0 true) apart),
      );
    })
