-- Where the blocks of a pool lie.
use Rattle.std.proofs.Common.{◌≡◌, ◌≢◌, ℕ, zero, suc, ◌+◌, ◌-◌, ◌%◌, ◌<◌, ◌≤◌, ◌&&◌, ◌⊎◌, inl, inr, Bool, true, false, leb, ltb, eqb, Option, Some, None, List, [], ◌∷◌, ◌++◌, length, get_or, set, take, refl, ap, sym, subst, ◌∙◌, arith}
use Rattle.std.proofs.lemmas.Bool.{cases_eq, cases_lt}
use Rattle.std.proofs.lemmas.Bool.Decides.{nat_tests}
use Rattle.std.proofs.lemmas.List.{get_or_append_left, get_or_default, get_or_push, length-set, length_push, take-append-le, take_all}
use Rattle.std.proofs.lemmas.List.Sums.{sum_by-cons}
use Rattle.fsw_base.specs.Blocks.{are_rising_from, are_block_sizes, class_of}
use Rattle.fsw_base.specs.PoolAccounts.{overhead}
use Rattle.es_pool.specs.Places.{offset_at, has_byte, AreOffsetsOf}
use Rattle.es_pool.specs.Pool.{PoolState, IsWhole, Draws, Reuses, Cuts, DrawsFor, DrawsIf, used_by, class_at, size_at, given_back}
use Rattle.es_pool.specs.declared.blocks.CutBlock.{CutBlock}
use Rattle.es_pool.proofs.Totals.{block}

-- What the first blocks took. --

-- what cutting a block took
abbrev cost_at : List ℕ → CutBlock → ℕ
cost_at sizes b = get_or sizes b.class 0 + overhead

used-cons : (sizes : List ℕ) (b : CutBlock) (blocks : List CutBlock) → used_by sizes (b ∷ blocks) ≡ cost_at sizes b + used_by sizes blocks
used-cons sizes b blocks = sum_by-cons (cost_at sizes) b blocks

-- a block that is set in its own class takes what it took
used_before-set : (sizes : List ℕ) (blocks : List CutBlock) (i n class : ℕ) (out : Bool) → (get_or blocks i (block 0 true)).class ≡ class →
    used_by sizes (take n (set blocks i (block class out))) ≡ used_by sizes (take n blocks)
used_before-set sizes [] i n class out is = refl
used_before-set sizes (b ∷ blocks) i zero class out is = by_place i
  where
    by_place : (i : ℕ) → used_by sizes (take 0 (set (b ∷ blocks) i (block class out))) ≡ used_by sizes (take 0 (b ∷ blocks))
    by_place zero = refl
    by_place (suc i) = refl
used_before-set sizes (b ∷ blocks) zero (suc n) class out is =
    used-cons sizes (block class out) (take n blocks)
    ∙ ap (λ c. get_or sizes c 0 + overhead + used_by sizes (take n blocks)) (sym is)
    ∙ sym (used-cons sizes b (take n blocks))
used_before-set sizes (b ∷ blocks) (suc i) (suc n) class out is =
    used-cons sizes b (take n (set blocks i (block class out)))
    ∙ ap (λ m. cost_at sizes b + m) (used_before-set sizes blocks i n class out is)
    ∙ sym (used-cons sizes b (take n blocks))

-- a block and all before it took no more than those before a later one
used_up_to : (sizes : List ℕ) (blocks : List CutBlock) (n later : ℕ) → n < later → later ≤ length blocks →
    used_by sizes (take n blocks) + cost_at sizes (get_or blocks n (block 0 true)) ≤ used_by sizes (take later blocks)
used_up_to sizes [] n later before within = absurd (omega (arith, before, within))
used_up_to sizes (b ∷ blocks) n zero before within = absurd (omega (arith, before))
used_up_to sizes (b ∷ blocks) zero (suc later) before within = omega (arith, used-cons sizes b (take later blocks))
used_up_to sizes (b ∷ blocks) (suc n) (suc later) before within =
    omega (
      arith,
      used-cons sizes b (take n blocks),
      used-cons sizes b (take later blocks),
      used_up_to sizes blocks n later (omega (arith, before)) (omega (arith, within)),
    )

-- Places. --

pub places_apart : (pool : PoolState) (number later : ℕ) → number < later → later < length pool.blocks →
    offset_at pool number + size_at pool number + overhead ≤ offset_at pool later
places_apart pool number later before within =
    let up = used_up_to pool.sizes pool.blocks number later before (omega (arith, within)) in
    omega (arith, up)

-- the bytes never cut lie behind each block
pub place_within : (pool : PoolState) (number rest : ℕ) → used_by pool.sizes pool.blocks + rest ≡ pool.bytes → number < length pool.blocks →
    offset_at pool number + size_at pool number ≤ pool.bytes
place_within pool number rest adds_up within =
    let up = used_up_to pool.sizes pool.blocks number (length pool.blocks) within (omega arith) in
    omega (arith, up, ap (used_by pool.sizes) (take_all (length pool.blocks) pool.blocks (omega arith)), adds_up)

pub places_within : (pool : PoolState) (number : ℕ) → IsWhole pool → number < length pool.blocks → offset_at pool number + size_at pool number ≤ pool.bytes
places_within pool number whole within =
    let up = used_up_to pool.sizes pool.blocks number (length pool.blocks) within (omega arith) in
    omega (arith, up, ap (used_by pool.sizes) (take_all (length pool.blocks) pool.blocks (omega arith)), whole.paid)

has_one : (a b : Bool) → (a && b) ≡ true → (a ≡ true) × (b ≡ true)
has_one true true is = (refl, refl)
has_one true false never = absurd (cc (never))
has_one false b never = absurd (cc (never))

byte_behind : (offset size place : ℕ) → (leb offset place && ltb place (offset + size)) ≡ true → (offset ≤ place) × (place < offset + size)
byte_behind offset size place is = (from (has_one (leb offset place) (ltb place (offset + size)) is).0, below (has_one (leb offset place) (ltb place (offset + size)) is).1)
  where
    from : leb offset place ≡ true → offset ≤ place
    from test = grind (arith, nat_tests)

    below : ltb place (offset + size) ≡ true → place < offset + size
    below test = grind (arith, nat_tests)

no_byte_before : (offset size place : ℕ) → place < offset → (leb offset place && ltb place (offset + size)) ≡ false
no_byte_before offset size place before = ap (λ b. b && ltb place (offset + size)) none
  where
    none : leb offset place ≡ false
    none = grind (arith, nat_tests)

no_byte_behind : (offset size place : ℕ) → offset + size ≤ place → (leb offset place && ltb place (offset + size)) ≡ false
no_byte_behind offset size place behind = by_first (leb offset place) ∙ none
  where
    none : ltb place (offset + size) ≡ false
    none = grind (arith, nat_tests)

    by_first : (b : Bool) → (b && ltb place (offset + size)) ≡ ltb place (offset + size)
    by_first true = refl
    by_first false = sym none

pub no_common_byte : (pool : PoolState) (number other place : ℕ) → number ≢ other → number < length pool.blocks → other < length pool.blocks →
    has_byte pool number place ≡ true → has_byte pool other place ≡ false
no_common_byte pool number other place differ one two here = by_order (cases_lt number other)
  where
    there : (offset_at pool number ≤ place) × (place < offset_at pool number + size_at pool number)
    there = byte_behind (offset_at pool number) (size_at pool number) place here

    first : number < other → has_byte pool other place ≡ false
    first before = no_byte_before (offset_at pool other) (size_at pool other) place (omega (arith, there.1, places_apart pool number other before two))

    second : other < number → has_byte pool other place ≡ false
    second before = no_byte_behind (offset_at pool other) (size_at pool other) place (omega (arith, there.0, places_apart pool other number before one))

    by_order : (number < other) ⊎ (other ≤ number) → has_byte pool other place ≡ false
    by_order (inl before) = first before
    by_order (inr behind) = by_same (cases_eq number other)
      where
        by_same : (number ≡ other) ⊎ (number ≡ other → ⊥) → has_byte pool other place ≡ false
        by_same (inl same) = absurd (differ same)
        by_same (inr apart) = second (omega (arith, behind, apart))

-- Multiples of 8. --

size_part : (least size : ℕ) (multiple later : Bool) → (leb least size && multiple && leb size 80000 && later) ≡ true → (multiple ≡ true) × (later ≡ true)
size_part least size multiple later is = by_first (leb least size) is
  where
    by_last : (small : Bool) → (small && later) ≡ true → later ≡ true
    by_last true rest = rest
    by_last false never = absurd (cc (never))

    by_next : (m : Bool) → (m && leb size 80000 && later) ≡ true → (m ≡ true) × (later ≡ true)
    by_next true rest = (refl, by_last (leb size 80000) rest)
    by_next false never = absurd (cc (never))

    by_first : (b : Bool) → (b && multiple && leb size 80000 && later) ≡ true → (multiple ≡ true) × (later ≡ true)
    by_first true rest = by_next multiple rest
    by_first false never = absurd (cc (never))

rising_by_8 : (sizes : List ℕ) (least class : ℕ) → are_rising_from least sizes ≡ true → class < length sizes → get_or sizes class 0 % 8 ≡ 0
rising_by_8 [] least class is within = absurd (omega (arith, within))
rising_by_8 (size ∷ sizes) least zero is within = of_test (size_part least size (eqb (size % 8) 0) (are_rising_from (size + 1) sizes) is).0
  where
    of_test : eqb (size % 8) 0 ≡ true → size % 8 ≡ 0
    of_test test = grind (arith, nat_tests)
rising_by_8 (size ∷ sizes) least (suc class) is within =
    rising_by_8 sizes (size + 1) class (size_part least size (eqb (size % 8) 0) (are_rising_from (size + 1) sizes) is).1 (omega (arith, within))

size_by_8 : (sizes : List ℕ) (class : ℕ) → are_block_sizes sizes ≡ true → class < length sizes → get_or sizes class 0 % 8 ≡ 0
size_by_8 sizes class is within = rising_by_8 sizes 0 class (last (leb 1 (length sizes)) (leb (length sizes) 17) is) within
  where
    last : (some few : Bool) → (some && few && are_rising_from 0 sizes) ≡ true → are_rising_from 0 sizes ≡ true
    last true true rest = rest
    last true false never = absurd (cc (never))
    last false few never = absurd (cc (never))

both_by_8 : (one other : ℕ) → one % 8 ≡ 0 → other % 8 ≡ 0 → (one + 16 + other) % 8 ≡ 0
both_by_8 one other first second = omega (arith, first, second)

used_by_8 : (sizes : List ℕ) (blocks : List CutBlock) (n : ℕ) → are_block_sizes sizes ≡ true →
    ((number : ℕ) → number < length blocks → (get_or blocks number (block 0 true)).class < length sizes) → used_by sizes (take n blocks) % 8 ≡ 0
used_by_8 sizes blocks zero fit inside = refl
used_by_8 sizes [] (suc n) fit inside = refl
used_by_8 sizes (b ∷ blocks) (suc n) fit inside =
    ap (λ m. m % 8) (used-cons sizes b (take n blocks))
    ∙ both_by_8 (get_or sizes b.class 0) (used_by sizes (take n blocks)) (size_by_8 sizes b.class fit (inside 0 (omega arith)))
    (used_by_8 sizes blocks n fit (λ number within. inside (suc number) (omega (arith, within))))

pub places_by_8 : (pool : PoolState) (number : ℕ) → IsWhole pool → offset_at pool number % 8 ≡ 0
places_by_8 pool number whole = with_overhead (used_by pool.sizes (take number pool.blocks)) (used_by_8 pool.sizes pool.blocks number whole.sizes_fit whole.classes)
  where
    with_overhead : (used : ℕ) → used % 8 ≡ 0 → (used + 16) % 8 ≡ 0
    with_overhead used is = omega (arith, is)

-- Places that stay. --

-- blocks behind others leave them if they are
before_push : (sizes : List ℕ) (blocks : List CutBlock) (b : CutBlock) (n : ℕ) → n ≤ length blocks → used_by sizes (take n (blocks ++ b ∷ [])) ≡ used_by sizes (take n blocks)
before_push sizes blocks b n within = ap (used_by sizes) (take-append-le n blocks (b ∷ []) within)

place_stays : (old new : PoolState) (class number at : ℕ) → Draws old new class number → at < length old.blocks → offset_at new at ≡ offset_at old at
place_stays old new class number at (Reuses within was_free is) there =
    ap (λ (p : PoolState). offset_at p at) is
    ∙ ap (λ n. n + overhead) (used_before-set old.sizes old.blocks number at class true (class_of_it within was_free))
  where
    class_of_it : number < length old.blocks → get_or old.blocks number (block class true) ≡ block class false → (get_or old.blocks number (block 0 true)).class ≡ class
    class_of_it inside was = ap (λ (b : CutBlock). b.class) (get_or_default old.blocks number (block 0 true) (block class true) inside ∙ was)
place_stays old new class number at (Cuts none is_last is) there =
    ap (λ (p : PoolState). offset_at p at) is
    ∙ ap (λ n. n + overhead) (before_push old.sizes old.blocks (block class true) at (omega (arith, there)))

pub places_stay_drawn : (old new : PoolState) (size number at : ℕ) → DrawsFor old new size number → at < length old.blocks → offset_at new at ≡ offset_at old at
places_stay_drawn old new size number at draws there = by_class (class_of size old.sizes) draws
  where
    by_class : (class : Option ℕ) → DrawsIf old new number class → offset_at new at ≡ offset_at old at
    by_class None never = absurd never
    by_class (Some class) drawn = place_stays old new class number at drawn there

pub places_stay_back : (pool : PoolState) (number at : ℕ) → offset_at (given_back pool number) at ≡ offset_at pool at
places_stay_back pool number at = ap (λ n. n + overhead) (used_before-set pool.sizes pool.blocks number at (class_at pool number) false refl)

-- The list of places. --

-- it stays if a block is set in its own class
pub offsets_set : (pool : PoolState) (offsets : List ℕ) (number class requests : ℕ) (out : Bool) → (get_or pool.blocks number (block 0 true)).class ≡ class → AreOffsetsOf pool offsets →
    AreOffsetsOf (record pool { blocks = set pool.blocks number (block class out); requests = requests }) offsets
offsets_set pool offsets number class requests out is are = record {
  many = are.many ∙ sym (length-set pool.blocks number (block class out));
  each = λ at within.
      are.each at (omega (arith, within, length-set pool.blocks number (block class out)))
      ∙ ap (λ n. n + overhead) (sym (used_before-set pool.sizes pool.blocks number at class out is));
}

-- it gets the place behind all blocks if one is cut
pub offsets_push : (pool : PoolState) (offsets after : List ℕ) (blocks : List CutBlock) (class rest requests place : ℕ) → used_by pool.sizes pool.blocks + rest ≡ pool.bytes → AreOffsetsOf pool offsets →
    blocks ≡ pool.blocks ++ block class true ∷ [] → after ≡ offsets ++ place ∷ [] → place ≡ pool.bytes - rest + overhead →
    AreOffsetsOf (record pool { blocks = blocks; requests = requests }) after
offsets_push pool offsets after blocks class rest requests place adds_up are is_blocks is_after is_place =
    let Of : List CutBlock → Type 0 = λ bs. AreOffsetsOf (record pool { blocks = bs; requests = requests }) after in
    let With : List ℕ → Type 0 = λ places. AreOffsetsOf (record pool { blocks = longer; requests = requests }) places in
    subst Of (sym is_blocks) (subst With (sym is_after) pushed)
  where
    longer : List CutBlock
    longer = pool.blocks ++ block class true ∷ []

    here : (at : ℕ) → at ≡ length pool.blocks → get_or (offsets ++ place ∷ []) at 0 ≡ used_by pool.sizes (take at longer) + overhead
    here at same =
        let all : used_by pool.sizes (take at longer) ≡ used_by pool.sizes pool.blocks =
        before_push pool.sizes pool.blocks (block class true) at (omega (arith, same)) ∙ ap (used_by pool.sizes) (take_all at pool.blocks (omega (arith, same))) in
        get_or_push offsets place 0 at (are.many ∙ sym same) ∙ omega (arith, is_place, all, adds_up)

    there : (at : ℕ) → at < length pool.blocks → get_or (offsets ++ place ∷ []) at 0 ≡ used_by pool.sizes (take at longer) + overhead
    there at within =
        get_or_append_left offsets (place ∷ []) 0 at (omega (arith, within, are.many))
        ∙ are.each at within
        ∙ ap (λ n. n + overhead) (sym (before_push pool.sizes pool.blocks (block class true) at (omega (arith, within))))

    by_place : (at : ℕ) → at < length longer → (at < length pool.blocks) ⊎ (length pool.blocks ≤ at) → get_or (offsets ++ place ∷ []) at 0 ≡ used_by pool.sizes (take at longer) + overhead
    by_place at within (inl before) = there at before
    by_place at within (inr behind) = here at (omega (arith, within, behind, length_push pool.blocks (block class true)))

    pushed : AreOffsetsOf (record pool { blocks = longer; requests = requests }) (offsets ++ place ∷ [])
    pushed = record {
      many = length_push offsets place ∙ ap (λ n. n + 1) are.many ∙ sym (length_push pool.blocks (block class true));
      each = λ at within. by_place at within (cases_lt at (length pool.blocks));
    }
