-- Blocks that are out, once a number is named or not any more.
use Rattle.std.proofs.Common.{◌≡◌, ℕ, zero, suc, ◌+◌, ◌-◌, ◌<◌, ◌&&◌, Bool, false, cond, eqb, leb, eq-eqb, ne_eqb, List, [], ◌∷◌, ◌++◌, length, get_or, set, replicate, Option, Some, None, refl, ap, sym, ◌∙◌, arith}
use Rattle.std.specs.List.{count_by}
use Rattle.std.specs.Option.{option_map_or}
use Rattle.std.proofs.lemmas.List.Sums.{sum_by-set, sum_by_push}
use Rattle.fsw_base.specs.Blocks.{class_of}
use Rattle.bus_words.specs.Held.{each_below}
use Rattle.list_messages.specs.Sends.{Use, no_use, is_used, is_class, takes, blocks_out}

-- Lists of numbers by place. --

pub each-at : (f : ℕ → ℕ) (n i : ℕ) → i < n → get_or (each_below f n) i 0 ≡ f i
each-at f zero i h = absurd (omega (arith, h))
each-at f (suc n) zero h = refl
each-at f (suc n) (suc i) h = each-at (λ j. f (suc j)) n i (omega (arith, h))

pub each-same : (f g : ℕ → ℕ) (n : ℕ) → ((i : ℕ) → f i ≡ g i) → each_below f n ≡ each_below g n
each-same f g zero same = refl
each-same f g (suc n) same =
    ap (λ k. k ∷ each_below (λ i. f (suc i)) n) (same 0) ∙ ap (λ ks. g 0 ∷ ks) (each-same (λ i. f (suc i)) (λ i. g (suc i)) n (λ i. same (suc i)))

pub length-each : (f : ℕ → ℕ) (n : ℕ) → length (each_below f n) ≡ n
length-each f zero = refl
length-each f (suc n) = omega (arith, length-each (λ i. f (suc i)) n)

pub each-none : (n : ℕ) → each_below (λ i. 0) n ≡ replicate n 0
each-none zero = refl
each-none (suc n) = ap (λ ks. 0 ∷ ks) (each-none n)

-- one place is another
pub each-set : (f g : ℕ → ℕ) (n k : ℕ) → ((i : ℕ) → (i ≡ k → ⊥) → f i ≡ g i) → set (each_below f n) k (g k) ≡ each_below g n
each-set f g zero k others = refl
each-set f g (suc n) zero others = ap (λ ks. g 0 ∷ ks) (each-same (λ i. f (suc i)) (λ i. g (suc i)) n (λ i. others (suc i) (λ is. omega (arith, is))))
each-set f g (suc n) (suc k) others =
    ap (λ x. x ∷ set (each_below (λ i. f (suc i)) n) k (g (suc k))) (others 0 (λ is. omega (arith, is)))
    ∙ ap (λ ks. g 0 ∷ ks) (each-set (λ i. f (suc i)) (λ i. g (suc i)) n k (λ i apart. others (suc i) (λ is. apart (omega (arith, is)))))

-- Classes. --

abbrev one : Bool → ℕ
one b = cond {A = ℕ} b 1 0

class_is : (sizes : List ℕ) (class k size : ℕ) → class_of size sizes ≡ Some k → is_class sizes class size ≡ eqb k class
class_is sizes class k size is = ap (λ (o : Option ℕ). option_map_or (λ other. eqb other class) o false) is

no_class : (sizes : List ℕ) (class size : ℕ) → class_of size sizes ≡ None → is_class sizes class size ≡ false
no_class sizes class size is = ap (λ (o : Option ℕ). option_map_or (λ other. eqb other class) o false) is

-- One number more, that is named. --

counts-push : (sizes : List ℕ) (class : ℕ) (uses : List Use) (size : ℕ) →
    count_by (takes sizes class) (uses ++ record { asked = size; named = 1 } ∷ []) ≡ count_by (takes sizes class) uses + one (is_class sizes class size)
counts-push sizes class uses size = sum_by_push (λ (u : Use). one (takes sizes class u)) uses (record { asked = size; named = 1 })

-- with a block
pub out-push : (sizes : List ℕ) (uses : List Use) (size k : ℕ) → class_of size sizes ≡ Some k → k < length sizes →
    set (blocks_out sizes uses) k (get_or (blocks_out sizes uses) k 0 + 1) ≡ blocks_out sizes (uses ++ record { asked = size; named = 1 } ∷ [])
out-push sizes uses size k is within =
    let f : ℕ → ℕ = λ class. count_by (takes sizes class) uses in
    let g : ℕ → ℕ = λ class. count_by (takes sizes class) (uses ++ record { asked = size; named = 1 } ∷ []) in
    let here : get_or (blocks_out sizes uses) k 0 + 1 ≡ g k =
    omega (arith, each-at f (length sizes) k within, counts-push sizes k uses size, ap one (class_is sizes k k size is), ap one (eq-eqb k k refl)) in
    ap (set (blocks_out sizes uses) k) here
    ∙ each-set f g (length sizes) k
    (λ i apart. omega (arith, counts-push sizes i uses size, ap one (class_is sizes i k size is), ap one (ne_eqb k i (λ same. apart (sym same)))))

-- and without one
pub out-push_none : (sizes : List ℕ) (uses : List Use) (size : ℕ) → class_of size sizes ≡ None →
    blocks_out sizes uses ≡ blocks_out sizes (uses ++ record { asked = size; named = 1 } ∷ [])
out-push_none sizes uses size is =
    each-same (λ class. count_by (takes sizes class) uses) (λ class. count_by (takes sizes class) (uses ++ record { asked = size; named = 1 } ∷ [])) (length sizes)
    (λ i. omega (arith, counts-push sizes i uses size, ap one (no_class sizes i size is)))

-- One number's use is another. --

counts-set : (sizes : List ℕ) (class : ℕ) (uses : List Use) (m : ℕ) (u : Use) → m < length uses →
    count_by (takes sizes class) (set uses m u) + one (takes sizes class (get_or uses m no_use)) ≡ count_by (takes sizes class) uses + one (takes sizes class u)
counts-set sizes class uses m u within = sum_by-set (λ (x : Use). one (takes sizes class x)) uses m u no_use within

-- named as before, or not: no block comes or goes
pub out-same : (sizes : List ℕ) (uses : List Use) (m : ℕ) (u : Use) → m < length uses → u.asked ≡ (get_or uses m no_use).asked →
    is_used u ≡ is_used (get_or uses m no_use) → blocks_out sizes uses ≡ blocks_out sizes (set uses m u)
out-same sizes uses m u within asked used =
    each-same (λ class. count_by (takes sizes class) uses) (λ class. count_by (takes sizes class) (set uses m u)) (length sizes)
    (λ i. omega (
      arith,
      counts-set sizes i uses m u within,
      ap (λ b. one (b && is_class sizes i u.asked)) used,
      ap (λ size. one (is_used (get_or uses m no_use) && is_class sizes i size)) asked,
    ))

-- the last name goes, and the block with it
pub out-last : (sizes : List ℕ) (uses : List Use) (m k : ℕ) (u : Use) → m < length uses → u.named ≡ 0 → (get_or uses m no_use).named ≡ 1 →
    class_of (get_or uses m no_use).asked sizes ≡ Some k → k < length sizes →
    set (blocks_out sizes uses) k (get_or (blocks_out sizes uses) k 0 - 1) ≡ blocks_out sizes (set uses m u)
out-last sizes uses m k u within none last is room =
    let before : Use = get_or uses m no_use in
    let f : ℕ → ℕ = λ class. count_by (takes sizes class) uses in
    let g : ℕ → ℕ = λ class. count_by (takes sizes class) (set uses m u) in
    let gone : (class : ℕ) → one (takes sizes class u) ≡ 0 = λ class. ap (λ n. one (leb 1 n && is_class sizes class u.asked)) none in
    let was : (class : ℕ) → one (takes sizes class before) ≡ one (eqb k class) =
    λ class. ap (λ n. one (leb 1 n && is_class sizes class before.asked)) last ∙ ap one (class_is sizes class k before.asked is) in
    let here : get_or (blocks_out sizes uses) k 0 - 1 ≡ g k =
    omega (arith, each-at f (length sizes) k room, counts-set sizes k uses m u within, gone k, was k, ap one (eq-eqb k k refl)) in
    ap (set (blocks_out sizes uses) k) here
    ∙ each-set f g (length sizes) k
    (λ i apart. omega (arith, counts-set sizes i uses m u within, gone i, was i, ap one (ne_eqb k i (λ same. apart (sym same)))))

-- the last name goes of a number without a block
pub out-last_none : (sizes : List ℕ) (uses : List Use) (m : ℕ) (u : Use) → m < length uses → u.named ≡ 0 → (get_or uses m no_use).named ≡ 1 →
    class_of (get_or uses m no_use).asked sizes ≡ None → blocks_out sizes uses ≡ blocks_out sizes (set uses m u)
out-last_none sizes uses m u within none last is =
    let before : Use = get_or uses m no_use in
    each-same (λ class. count_by (takes sizes class) uses) (λ class. count_by (takes sizes class) (set uses m u)) (length sizes)
    (λ i. omega (
      arith,
      counts-set sizes i uses m u within,
      ap (λ n. one (leb 1 n && is_class sizes i u.asked)) none,
      ap (λ n. one (leb 1 n && is_class sizes i before.asked)) last,
      ap one (no_class sizes i before.asked is),
    ))

-- How many numbers are named. --

pub used-push : (uses : List Use) (size : ℕ) → count_by is_used (uses ++ record { asked = size; named = 1 } ∷ []) ≡ count_by is_used uses + 1
used-push uses size = sum_by_push (λ (u : Use). one (is_used u)) uses (record { asked = size; named = 1 })

pub used-set : (uses : List Use) (m : ℕ) (u : Use) → m < length uses →
    count_by is_used (set uses m u) + one (is_used (get_or uses m no_use)) ≡ count_by is_used uses + one (is_used u)
used-set uses m u within = sum_by-set (λ (x : Use). one (is_used x)) uses m u no_use within
