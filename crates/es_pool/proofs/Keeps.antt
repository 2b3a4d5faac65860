-- What a pool keeps beside its blocks stays true if a block is drawn, cut or given back.
use Rattle.std.proofs.Common.{◌≡◌, ℕ, ◌+◌, ◌-◌, ◌*◌, ◌<◌, ◌≤◌, ◌&&◌, ◌⊎◌, inl, inr, zero, suc, Bool, true, false, not, cond, eqb, leb, List, [], ◌∷◌, ◌++◌, length, get_or, set, drop, sum_by, refl, ap, sym, subst, ◌∙◌, arith}
use Rattle.std.proofs.lemmas.Bool.{cases_eq, cases_lt}
use Rattle.std.proofs.lemmas.Bool.Decides.{nat_tests}
use Rattle.std.proofs.lemmas.List.{get_or_default, get_or_past, get_or_push, get_or-set_same, get_or-set_other, get_or_append_left, length-set, length_push}
use Rattle.std.proofs.lemmas.List.Sums.{sum_by_push, count_by-le-length}
use Rattle.bucket_list.specs.Lists.{Listed, listed_at, times_in, times}
use Rattle.bucket_list.proofs.Counts.{times_in-cons, loose_from_each}
use Rattle.fsw_base.specs.PoolAccounts.{overhead}
use Rattle.es_pool.specs.Pool.{PoolState, made_in, out_in, free_in, used_by, in_use_by, out_among, fits_class}
use Rattle.es_pool.specs.Kept.{IsKept, free_mark}
use Rattle.es_pool.specs.declared.blocks.CutBlock.{CutBlock}
use Rattle.es_pool.proofs.Totals.{block, made-split, sum-change, in_use-le-used, made_few, used-ge}
use Rattle.es_pool.proofs.Marks.{free_from_mark, mark_out, mark_free, mark-set_other, mark-push}
use Rattle.es_pool.proofs.Sizes.{room_left, size_least}

-- the classes of the blocks stay in range if one is set
pub classes-set : (blocks : List CutBlock) (number class sizes : ℕ) (out : Bool) → class < sizes → ((n : ℕ) → n < length blocks → (get_or blocks n (block 0 true)).class < sizes) → (n : ℕ) → n < length (set blocks number (block class out)) → (get_or (set blocks number (block class out)) n (block 0 true)).class < sizes
classes-set blocks number class sizes out within all n h = by_cases (cases_eq n number)
  where
    inside : n < length blocks
    inside = omega (arith, h, length-set blocks number (block class out))

    by_cases : (n ≡ number) ⊎ (n ≡ number → ⊥) → (get_or (set blocks number (block class out)) n (block 0 true)).class < sizes
    by_cases (inl e) =
        subst (λ (b : CutBlock). b.class < sizes) (sym (ap (λ i. get_or (set blocks number (block class out)) i (block 0 true)) e ∙ get_or-set_same blocks number (block class out) (block 0 true) (omega (arith, e, inside)))) within
    by_cases (inr ne) =
        subst (λ (b : CutBlock). b.class < sizes) (sym (get_or-set_other blocks number n (block class out) (block 0 true) ne)) (all n inside)

-- the list at a class after a list was set
listed-set : (free : Listed) (class k : ℕ) (nodes : List ℕ) → class < length free.lists → get_or (set free.lists class nodes) k [] ≡ cond (eqb k class) nodes (listed_at free k)
listed-set free class k nodes within = by_cases (cases_eq k class)
  where
    at_class : (b : Bool) → b ≡ true → nodes ≡ cond b nodes (listed_at free k)
    at_class true e = refl
    at_class false e = absurd cc

    at_other : (b : Bool) → b ≡ false → listed_at free k ≡ cond b nodes (listed_at free k)
    at_other false e = refl
    at_other true e = absurd cc

    by_cases : (k ≡ class) ⊎ (k ≡ class → ⊥) → get_or (set free.lists class nodes) k [] ≡ cond (eqb k class) nodes (listed_at free k)
    by_cases (inl e) =
        let same : eqb k class ≡ true = grind (arith, nat_tests) in
        ap (λ i. get_or (set free.lists class nodes) i []) e ∙ (get_or-set_same free.lists class nodes [] within ∙ at_class (eqb k class) same)
    by_cases (inr ne) =
        let other : eqb k class ≡ false = grind (arith, nat_tests) in
        get_or-set_other free.lists class k nodes [] ne ∙ at_other (eqb k class) other

pub true_from_same : (a b : ℕ) → a ≡ b → eqb a b ≡ true
true_from_same a b e = grind (arith, nat_tests)

pub false_from_other : (a b : ℕ) → (a ≡ b → ⊥) → eqb a b ≡ false
false_from_other a b ne = grind (arith, nat_tests)

-- one at a block in its own class, else nothing
abbrev one_at : ℕ → ℕ → ℕ → ℕ → ℕ
one_at class number k n = cond (eqb k class && eqb number n) 1 0

one_at_here : (class number k : ℕ) → one_at class number k number ≡ cond (eqb k class) 1 0
one_at_here class number k = subst (λ b. cond {A = ℕ} (eqb k class && b) 1 0 ≡ cond (eqb k class) 1 0) (sym (true_from_same number number refl)) (and_true (eqb k class))
  where
    and_true : (t : Bool) → cond {A = ℕ} (t && true) 1 0 ≡ cond t 1 0
    and_true true = refl
    and_true false = refl

one_at_else : (class number k n : ℕ) → (n ≡ number → ⊥) → one_at class number k n ≡ 0
one_at_else class number k n ne = subst (λ b. cond {A = ℕ} (eqb k class && b) 1 0 ≡ 0) (sym (false_from_other number n (λ e. ne (sym e)))) (and_false (eqb k class))
  where
    and_false : (t : Bool) → cond {A = ℕ} (t && false) 1 0 ≡ 0
    and_false true = refl
    and_false false = refl

turned : (a b : ℕ) → cond {A = ℕ} (eqb a b) 1 0 ≡ cond (eqb b a) 1 0
turned a b = grind (arith, nat_tests)

-- how often a node stands in the lists, with one fewer in one list
times_popped : (free : Listed) (class number k n : ℕ) (rest : List ℕ) → listed_at free class ≡ number ∷ rest → times_in (cond (eqb k class) rest (listed_at free k)) n + one_at class number k n ≡ times_in (listed_at free k) n
times_popped free class number k n rest e = by_cases (cases_eq k class)
  where
    by_cases : (k ≡ class) ⊎ (k ≡ class → ⊥) → times_in (cond (eqb k class) rest (listed_at free k)) n + one_at class number k n ≡ times_in (listed_at free k) n
    by_cases (inl same) =
        let here : times_in (listed_at free k) n ≡ cond (eqb number n) 1 0 + times_in rest n = ap (λ i. times_in (listed_at free i) n) same ∙ (ap (λ ns. times_in ns n) e ∙ times_in-cons number rest n) in
        subst (λ b. times_in (cond b rest (listed_at free k)) n + cond (b && eqb number n) 1 0 ≡ times_in (listed_at free k) n) (sym (true_from_same k class same)) (omega (arith, here))
    by_cases (inr other) =
        subst (λ b. times_in (cond b rest (listed_at free k)) n + cond (b && eqb number n) 1 0 ≡ times_in (listed_at free k) n) (sym (false_from_other k class other)) (omega arith)

-- the same with one more
times_pushed : (free : Listed) (class number k n : ℕ) → times_in (cond (eqb k class) (number ∷ listed_at free class) (listed_at free k)) n ≡ times_in (listed_at free k) n + one_at class number k n
times_pushed free class number k n = by_cases (cases_eq k class)
  where
    by_cases : (k ≡ class) ⊎ (k ≡ class → ⊥) → times_in (cond (eqb k class) (number ∷ listed_at free class) (listed_at free k)) n ≡ times_in (listed_at free k) n + one_at class number k n
    by_cases (inl same) =
        let here : times_in (number ∷ listed_at free class) n ≡ cond (eqb number n) 1 0 + times_in (listed_at free k) n = times_in-cons number (listed_at free class) n ∙ ap (λ i. cond (eqb number n) 1 0 + times_in (listed_at free i) n) (sym same) in
        subst (λ b. times_in (cond b (number ∷ listed_at free class) (listed_at free k)) n ≡ times_in (listed_at free k) n + cond (b && eqb number n) 1 0) (sym (true_from_same k class same)) (omega (arith, here))
    by_cases (inr other) =
        subst (λ b. times_in (cond b (number ∷ listed_at free class) (listed_at free k)) n ≡ times_in (listed_at free k) n + cond (b && eqb number n) 1 0) (sym (false_from_other k class other)) (omega arith)

-- the marks where a free block goes out, and if one comes back
marks_out : (blocks : List CutBlock) (class number k n : ℕ) → number < length blocks → get_or blocks number (block 0 true) ≡ block class false → free_mark (set blocks number (block class true)) k n + one_at class number k n ≡ free_mark blocks k n
marks_out blocks class number k n h e = by_cases (cases_eq n number)
  where
    after : List CutBlock
    after = set blocks number (block class true)

    at_number : free_mark (set blocks number (block class true)) k number + one_at class number k number ≡ free_mark blocks k number
    at_number =
        omega (arith, mark_out (set blocks number (block class true)) k number (ap (λ b. b.out) (get_or-set_same blocks number (block class true) (block 0 true) h)), one_at_here class number k, mark_free blocks k class number e, turned class k)

    by_cases : (n ≡ number) ⊎ (n ≡ number → ⊥) → free_mark (set blocks number (block class true)) k n + one_at class number k n ≡ free_mark blocks k n
    by_cases (inl same) = subst (λ i. free_mark (set blocks number (block class true)) k i + one_at class number k i ≡ free_mark blocks k i) (sym same) at_number
    by_cases (inr other) = omega (arith, mark-set_other blocks k n number (block class true) other, one_at_else class number k n other)

marks_back : (blocks : List CutBlock) (class number k n : ℕ) → number < length blocks → (get_or blocks number (block 0 true)).out ≡ true → free_mark (set blocks number (block class false)) k n ≡ free_mark blocks k n + one_at class number k n
marks_back blocks class number k n h e = by_cases (cases_eq n number)
  where
    at_number : free_mark (set blocks number (block class false)) k number ≡ free_mark blocks k number + one_at class number k number
    at_number =
        omega (arith, mark_free (set blocks number (block class false)) k class number (get_or-set_same blocks number (block class false) (block 0 true) h), one_at_here class number k, mark_out blocks k number e, turned class k)

    by_cases : (n ≡ number) ⊎ (n ≡ number → ⊥) → free_mark (set blocks number (block class false)) k n ≡ free_mark blocks k n + one_at class number k n
    by_cases (inl same) = subst (λ i. free_mark (set blocks number (block class false)) k i ≡ free_mark blocks k i + one_at class number k i) (sym same) at_number
    by_cases (inr other) = omega (arith, mark-set_other blocks k n number (block class false) other, one_at_else class number k n other)

-- the length of the list at a class, with one fewer and with one more
length_popped : (free : Listed) (class number k : ℕ) (rest : List ℕ) → listed_at free class ≡ number ∷ rest → length (cond (eqb k class) rest (listed_at free k)) + cond (eqb class k) 1 0 ≡ length (listed_at free k)
length_popped free class number k rest e = by_cases (cases_eq k class)
  where
    by_cases : (k ≡ class) ⊎ (k ≡ class → ⊥) → length (cond (eqb k class) rest (listed_at free k)) + cond (eqb class k) 1 0 ≡ length (listed_at free k)
    by_cases (inl same) =
        let here : length (listed_at free k) ≡ suc (length rest) = ap (λ i. length (listed_at free i)) same ∙ ap length e in
        subst (λ b. length (cond b rest (listed_at free k)) + cond (eqb class k) 1 0 ≡ length (listed_at free k)) (sym (true_from_same k class same))
        (subst (λ b. length rest + cond b 1 0 ≡ length (listed_at free k)) (sym (true_from_same class k (sym same))) (omega (arith, here)))
    by_cases (inr other) =
        subst (λ b. length (cond b rest (listed_at free k)) + cond (eqb class k) 1 0 ≡ length (listed_at free k)) (sym (false_from_other k class other))
        (subst (λ b. length (listed_at free k) + cond b 1 0 ≡ length (listed_at free k)) (sym (false_from_other class k (λ e. other (sym e)))) (omega arith))

length_pushed : (free : Listed) (class number k : ℕ) → length (cond (eqb k class) (number ∷ listed_at free class) (listed_at free k)) ≡ length (listed_at free k) + cond (eqb class k) 1 0
length_pushed free class number k = by_cases (cases_eq k class)
  where
    by_cases : (k ≡ class) ⊎ (k ≡ class → ⊥) → length (cond (eqb k class) (number ∷ listed_at free class) (listed_at free k)) ≡ length (listed_at free k) + cond (eqb class k) 1 0
    by_cases (inl same) =
        let here : length (listed_at free class) ≡ length (listed_at free k) = ap (λ i. length (listed_at free i)) (sym same) in
        subst (λ b. length (cond b (number ∷ listed_at free class) (listed_at free k)) ≡ length (listed_at free k) + cond (eqb class k) 1 0) (sym (true_from_same k class same))
        (subst (λ b. suc (length (listed_at free class)) ≡ length (listed_at free k) + cond b 1 0) (sym (true_from_same class k (sym same))) (omega (arith, here)))
    by_cases (inr other) =
        subst (λ b. length (cond b (number ∷ listed_at free class) (listed_at free k)) ≡ length (listed_at free k) + cond (eqb class k) 1 0) (sym (false_from_other k class other))
        (subst (λ b. length (listed_at free k) ≡ length (listed_at free k) + cond b 1 0) (sym (false_from_other class k (λ e. other (sym e)))) (omega arith))

and_yes : (t : Bool) → cond {A = ℕ} (t && true) 1 0 ≡ cond t 1 0
and_yes true = refl
and_yes false = refl

and_no : (t : Bool) → cond {A = ℕ} (t && false) 1 0 ≡ 0
and_no true = refl
and_no false = refl

-- no more blocks are out than were cut, and no more were cut than there are bytes
pub out_few : (blocks : List CutBlock) → out_among blocks ≤ length blocks
out_few blocks = count_by-le-length (λ b. b.out) blocks

blocks_few : (pool : PoolState) (rest in_use : ℕ) (made : List ℕ) (free : Listed) (capacity : ℕ) → IsKept pool rest in_use made free capacity → length pool.blocks ≤ pool.most
blocks_few pool rest in_use made free capacity k =
    few (length pool.blocks) (get_or pool.sizes 0 0) (used_by pool.sizes pool.blocks) (used-ge pool.sizes pool.blocks k.sizes_fit k.classes) (omega (arith, k.adds_up, k.within))
  where
    few : (n least used : ℕ) → n * (least + overhead) ≤ used → used ≤ pool.most → n ≤ pool.most
    few n least used fill within =
        let some : n * (least + overhead) ≡ n * least + n * overhead = omega arith in
        omega (arith, some, fill, within)

-- a draw of a free block
pub record Reused (pool : PoolState) (rest in_use : ℕ) (made : List ℕ) (free : Listed) (capacity class number size requests : ℕ) : Type 0 where
  pub kept : IsKept (record pool { blocks = set pool.blocks number (block class true); requests = requests }) rest (in_use + size) made free capacity
  pub within : number < length pool.blocks
  pub was_free : get_or pool.blocks number (block class true) ≡ block class false
  pub fits : in_use + size ≤ pool.bytes
  pub out : out_among (set pool.blocks number (block class true)) ≡ out_among pool.blocks + 1
  pub out_fits : out_among pool.blocks + 1 ≤ pool.most

reused : (pool : PoolState) (rest in_use : ℕ) (made : List ℕ) (free : Listed) (capacity class number requests : ℕ) (tail : List ℕ)
    → IsKept pool rest in_use made free capacity → class < length pool.sizes → listed_at free class ≡ number ∷ tail
    → Reused pool rest in_use made (record free { lists = set free.lists class tail }) capacity class number (get_or pool.sizes class 0) requests
reused pool rest in_use made free capacity class number requests tail k h e =
    let blocks = pool.blocks in
    let sizes = pool.sizes in
    let size = get_or sizes class 0 in
    let one : times_in (listed_at free class) number ≡ cond (eqb number number) 1 0 + times_in tail number = ap (λ ns. times_in ns number) e ∙ times_in-cons number tail number in
    let here : eqb number number ≡ true = true_from_same number number refl in
    let marked : 0 < free_mark blocks class number = omega (arith, k.listed class number h, one, ap (λ b. cond {A = ℕ} b 1 0) here) in
    let was = free_from_mark blocks class number marked in
    let was_here : get_or blocks number (block 0 true) ≡ block class false = get_or_default blocks number (block 0 true) (block class true) was.0 ∙ was.1 in
    let after = set blocks number (block class true) in
    let change : (f : CutBlock → ℕ) → sum_by f after + f (block class false) ≡ sum_by f blocks + f (block class true) = λ f. sum-change f blocks number (block class false) (block class true) (block 0 true) was.0 was_here in
    let used : used_by sizes after ≡ used_by sizes blocks = omega (arith, change (λ b. get_or sizes b.class 0 + overhead)) in
    let in_use' : in_use_by sizes after ≡ in_use_by sizes blocks + size = omega (arith, change (λ b. cond b.out (get_or sizes b.class 0) 0)) in
    let made' : (i : ℕ) → made_in after i ≡ made_in blocks i = λ i. omega (arith, change (λ b. cond (eqb b.class i) 1 0)) in
    let free' : (i : ℕ) → free_in after i + cond (eqb class i) 1 0 ≡ free_in blocks i = λ i. omega (arith, change (λ b. cond (eqb b.class i && not b.out) 1 0), and_yes (eqb class i), and_no (eqb class i)) in
    let out' : out_among after ≡ out_among blocks + 1 = omega (arith, change (λ b. cond b.out 1 0)) in
    let lists : class < length free.lists = omega (arith, h, k.lists_all) in
    let long : length after ≡ length blocks = length-set blocks number (block class true) in
    record {
      kept = record {
        sizes_fit = k.sizes_fit;
        within = k.within;
        adds_up = omega (arith, used, k.adds_up);
        in_use_is = omega (arith, in_use', k.in_use_is);
        made_all = k.made_all;
        made_is = λ i hi. k.made_is i hi ∙ sym (made' i);
        lists_all = length-set free.lists class tail ∙ k.lists_all;
        listed = λ i n hi. omega (arith, ap (λ ns. times_in ns n) (listed-set free class i tail lists), times_popped free class number i n tail e, k.listed i n hi, marks_out blocks class number i n was.0 was_here);
        counted = λ i hi. omega (arith, ap length (listed-set free class i tail lists), length_popped free class number i tail e, k.counted i hi, free' i);
        nodes_all = k.nodes_all ∙ sym long;
        classes = classes-set blocks number class (length sizes) true h k.classes;
        room = k.room;
        enough = k.enough;
      };
      within = was.0;
      was_free = was.1;
      fits = omega (arith, k.in_use_is, in_use', in_use-le-used sizes after, used, k.adds_up);
      out = out';
      out_fits = omega (arith, out', out_few after, long, blocks_few pool rest in_use made free capacity k);
    }

-- the same at what the code read
pub reused_read : (pool : PoolState) (rest in_use : ℕ) (made : List ℕ) (free free' : Listed) (capacity class number size requests : ℕ)
    → IsKept pool rest in_use made free capacity → class < length pool.sizes → listed_at free class ≡ number ∷ listed_at free' class
    → free' ≡ record free { lists = set free.lists class (drop 1 (listed_at free class)) } → size ≡ get_or pool.sizes class 0
    → Reused pool rest in_use made free' capacity class number size requests
reused_read pool rest in_use made free free' capacity class number size requests k h e after e_size =
    let tail : drop 1 (listed_at free class) ≡ listed_at free' class = ap (drop 1) e in
    let base = reused pool rest in_use made free capacity class number requests (drop 1 (listed_at free class)) k h (e ∙ ap (λ ns. number ∷ ns) (sym tail)) in
    subst (λ z. Reused pool rest in_use made free' capacity class number z requests) (sym e_size)
    (subst (λ f. Reused pool rest in_use made f capacity class number (get_or pool.sizes class 0) requests) (sym after) base)

-- a cut of a further block
pub record Cut (pool : PoolState) (rest in_use : ℕ) (made : List ℕ) (free : Listed) (capacity class count size requests : ℕ) : Type 0 where
  pub kept : IsKept (record pool { blocks = pool.blocks ++ block class true ∷ []; requests = requests }) (rest - (size + overhead)) (in_use + size) (set made class (count + 1)) (record free { nodes = free.nodes + 1 }) capacity
  pub node : free.nodes < free.room
  pub space : length pool.blocks < capacity
  pub enough : size + overhead ≤ rest
  pub in_use_fits : in_use + size ≤ pool.bytes
  pub made_fits : count + 1 ≤ pool.most
  pub out : out_among (pool.blocks ++ block class true ∷ []) ≡ out_among pool.blocks + 1
  pub out_fits : out_among pool.blocks + 1 ≤ pool.most

made-cut : (made : List ℕ) (blocks : List CutBlock) (class i : ℕ) → class < length made → get_or made i 0 ≡ made_in blocks i → get_or (set made class (made_in blocks class + 1)) i 0 ≡ made_in (blocks ++ block class true ∷ []) i
made-cut made blocks class i h e = by_cases (cases_eq i class)
  where
    add_none : (n : ℕ) → n + 0 ≡ n
    add_none n = omega arith

    more : made_in (blocks ++ block class true ∷ []) i ≡ made_in blocks i + cond (eqb class i) 1 0
    more = sum_by_push (λ b. cond (eqb b.class i) 1 0) blocks (block class true)

    by_cases : (i ≡ class) ⊎ (i ≡ class → ⊥) → get_or (set made class (made_in blocks class + 1)) i 0 ≡ made_in (blocks ++ block class true ∷ []) i
    by_cases (inl same) =
        ap (λ j. get_or (set made class (made_in blocks class + 1)) j 0) same
        ∙ (get_or-set_same made class (made_in blocks class + 1) 0 h
        ∙ (ap (λ j. made_in blocks j + 1) (sym same)
        ∙ sym (more ∙ ap (λ b. made_in blocks i + cond b 1 0) (true_from_same class i (sym same)))))
    by_cases (inr other) =
        get_or-set_other made class i (made_in blocks class + 1) 0 other
        ∙ (e ∙ sym (more ∙ (ap (λ b. made_in blocks i + cond b 1 0) (false_from_other class i (λ s. other (sym s))) ∙ add_none (made_in blocks i))))

pub classes-push : (blocks : List CutBlock) (class sizes : ℕ) → class < sizes → ((n : ℕ) → n < length blocks → (get_or blocks n (block 0 true)).class < sizes) → (n : ℕ) → n < length (blocks ++ block class true ∷ []) → (get_or (blocks ++ block class true ∷ []) n (block 0 true)).class < sizes
classes-push blocks class sizes within all n h = by_cases (cases_lt n (length blocks))
  where
    by_cases : (n < length blocks) ⊎ (length blocks ≤ n) → (get_or (blocks ++ block class true ∷ []) n (block 0 true)).class < sizes
    by_cases (inl inside) = subst (λ (b : CutBlock). b.class < sizes) (sym (get_or_append_left blocks (block class true ∷ []) (block 0 true) n inside)) (all n inside)
    by_cases (inr past) = subst (λ (b : CutBlock). b.class < sizes) (sym (get_or_push blocks (block class true) (block 0 true) n (omega (arith, past, h, length_push blocks (block class true))))) within

one_cost : (used cost out made bytes : ℕ) → made ≡ out → leb (used + cost * (out + 1 - made)) bytes ≡ true → used + cost ≤ bytes
one_cost used cost out made bytes e fits = plain (cost * (out + 1 - made)) (ap (λ n. cost * n) same ∙ times_one cost) fits
  where
    same : out + 1 - made ≡ suc zero
    same = omega (arith, e)

    times_one : (n : ℕ) → n * suc zero ≡ n
    times_one n = omega arith

    plain : (x : ℕ) → x ≡ cost → leb (used + x) bytes ≡ true → used + cost ≤ bytes
    plain x ex le = grind (arith, nat_tests)

pub cut : (pool : PoolState) (rest in_use : ℕ) (made : List ℕ) (free : Listed) (capacity class count size requests : ℕ)
    → IsKept pool rest in_use made free capacity → class < length pool.sizes → free_in pool.blocks class ≡ 0 → fits_class pool class 1 ≡ true
    → size ≡ get_or pool.sizes class 0 → count ≡ get_or made class 0
    → Cut pool rest in_use made free capacity class count size requests
cut pool rest in_use made free capacity class count size requests k h none fits e_size e_count =
    let blocks = pool.blocks in
    let sizes = pool.sizes in
    let after = blocks ++ block class true ∷ [] in
    let push : (f : CutBlock → ℕ) → sum_by f after ≡ sum_by f blocks + f (block class true) = λ f. sum_by_push f blocks (block class true) in
    let used : used_by sizes after ≡ used_by sizes blocks + (get_or sizes class 0 + overhead) = push (λ b. get_or sizes b.class 0 + overhead) in
    let in_use' : in_use_by sizes after ≡ in_use_by sizes blocks + get_or sizes class 0 = push (λ b. cond b.out (get_or sizes b.class 0) 0) in
    let free' : (i : ℕ) → free_in after i ≡ free_in blocks i = λ i. omega (arith, push (λ b. cond (eqb b.class i && not b.out) 1 0), and_no (eqb class i)) in
    let all_out : made_in blocks class ≡ out_in blocks class = omega (arith, made-split blocks class, none) in
    let within : used_by sizes blocks + (get_or sizes class 0 + overhead) ≤ pool.bytes = one_cost (used_by sizes blocks) (get_or sizes class 0 + overhead) (out_in blocks class) (made_in blocks class) pool.bytes all_out fits in
    let fill = used-ge sizes blocks k.sizes_fit k.classes in
    let space : length blocks < capacity = room_left (length blocks) capacity (get_or sizes 0 0 + overhead) (used_by sizes blocks) (get_or sizes class 0 + overhead) pool.most fill (omega (arith, size_least sizes class k.sizes_fit h)) (omega (arith, within, k.within)) k.enough in
    let count_is : count ≡ made_in blocks class = e_count ∙ k.made_is class h in
    let long : length after ≡ length blocks + 1 = length_push blocks (block class true) in
    record {
      kept = record {
        sizes_fit = k.sizes_fit;
        within = k.within;
        adds_up = omega (arith, used, k.adds_up, e_size, within);
        in_use_is = omega (arith, in_use', k.in_use_is, e_size);
        made_all = length-set made class (count + 1) ∙ k.made_all;
        made_is = λ i hi. ap (λ n. get_or (set made class (n + 1)) i 0) count_is ∙ made-cut made blocks class i (omega (arith, h, k.made_all)) (k.made_is i hi);
        lists_all = k.lists_all;
        listed = λ i n hi. k.listed i n hi ∙ sym (mark-push blocks i n class);
        counted = λ i hi. k.counted i hi ∙ sym (free' i);
        nodes_all = omega (arith, k.nodes_all, long);
        classes = classes-push blocks class (length sizes) h k.classes;
        room = k.room;
        enough = k.enough;
      };
      node = omega (arith, k.nodes_all, k.room, space);
      space = space;
      enough = omega (arith, within, k.adds_up, e_size);
      in_use_fits = omega (arith, k.in_use_is, in_use', in_use-le-used sizes after, used, within, e_size);
      made_fits = few (length blocks) (get_or sizes 0 0) (used_by sizes blocks) count fill (omega (arith, count_is, made_few blocks class)) (omega (arith, within, k.within));
      out = push (λ b. cond b.out 1 0);
      out_fits = few (length blocks) (get_or sizes 0 0) (used_by sizes blocks) (out_among blocks) fill (out_few blocks) (omega (arith, within, k.within));
    }
  where
    few : (n least used some : ℕ) → n * (least + overhead) ≤ used → some ≤ n → used + overhead ≤ pool.most → some + 1 ≤ pool.most
    few n least used some fill le within =
        let spread : n * (least + overhead) ≡ n * least + n * overhead = omega arith in
        omega (arith, spread, fill, le, within)

-- the rest sufficed for the block that was cut
pub cut_sufficed : (old : PoolState) (blocks : List CutBlock) (class number size rest : ℕ) → blocks ≡ old.blocks ++ block class true ∷ [] → number ≡ length old.blocks
    → used_by old.sizes old.blocks + rest ≡ old.bytes → size ≡ get_or old.sizes class 0 → size + overhead ≤ rest
    → get_or old.sizes (get_or blocks number (block 0 true)).class 0 + overhead ≤ old.bytes - used_by old.sizes old.blocks
cut_sufficed old blocks class number size rest e e_number adds_up e_size enough =
    let last : get_or blocks number (block 0 true) ≡ block class true = ap (λ bs. get_or bs number (block 0 true)) e ∙ get_or_push old.blocks (block class true) (block 0 true) number (sym e_number) in
    omega (arith, ap (λ (b : CutBlock). get_or old.sizes b.class 0) last, adds_up, e_size, enough)

-- a block that comes back
pub record Back (pool : PoolState) (rest in_use : ℕ) (made : List ℕ) (free : Listed) (capacity class number size : ℕ) : Type 0 where
  pub kept : IsKept (record pool { blocks = set pool.blocks number (block class false) }) rest (in_use - size) made (record free { lists = set free.lists class (number ∷ listed_at free class) }) capacity
  pub loose : times free.lists number ≡ 0
  pub exists : number < free.nodes
  pub within : number < length pool.blocks
  pub in_sizes : class < length pool.sizes
  pub enough : size ≤ in_use
  pub class_is : (get_or pool.blocks number (block 0 true)).class ≡ class
  pub out : out_among (set pool.blocks number (block class false)) + 1 ≡ out_among pool.blocks

pub inside_from_out : (blocks : List CutBlock) (number : ℕ) → (get_or blocks number (block 0 false)).out ≡ true → number < length blocks
inside_from_out blocks number e = by_cases (cases_lt number (length blocks))
  where
    by_cases : (number < length blocks) ⊎ (length blocks ≤ number) → number < length blocks
    by_cases (inl h) = h
    by_cases (inr past) =
        let f : (get_or blocks number (block 0 false)).out ≡ false = ap (λ b. b.out) (get_or_past blocks number (block 0 false) past) in
        absurd cc

pub back : (pool : PoolState) (rest in_use : ℕ) (made : List ℕ) (free : Listed) (capacity class number size : ℕ)
    → IsKept pool rest in_use made free capacity → (get_or pool.blocks number (block 0 false)).out ≡ true
    → class ≡ (get_or pool.blocks number (block 0 true)).class → size ≡ get_or pool.sizes class 0
    → Back pool rest in_use made free capacity class number size
back pool rest in_use made free capacity class number size k out e_class e_size =
    let blocks = pool.blocks in
    let sizes = pool.sizes in
    let within = inside_from_out blocks number out in
    let was_out : (get_or blocks number (block 0 true)).out ≡ true = ap (λ b. b.out) (get_or_default blocks number (block 0 true) (block 0 false) within) ∙ out in
    let was : get_or blocks number (block 0 true) ≡ block class true = ap (λ c. block c (get_or blocks number (block 0 true)).out) (sym e_class) ∙ ap (λ o. block class o) was_out in
    let h : class < length sizes = omega (arith, e_class, k.classes number within) in
    let after = set blocks number (block class false) in
    let change : (f : CutBlock → ℕ) → sum_by f after + f (block class true) ≡ sum_by f blocks + f (block class false) = λ f. sum-change f blocks number (block class true) (block class false) (block 0 true) within was in
    let used : used_by sizes after ≡ used_by sizes blocks = omega (arith, change (λ b. get_or sizes b.class 0 + overhead)) in
    let in_use' : in_use_by sizes after + get_or sizes class 0 ≡ in_use_by sizes blocks = omega (arith, change (λ b. cond b.out (get_or sizes b.class 0) 0)) in
    let made' : (i : ℕ) → made_in after i ≡ made_in blocks i = λ i. omega (arith, change (λ b. cond (eqb b.class i) 1 0)) in
    let free' : (i : ℕ) → free_in after i ≡ free_in blocks i + cond (eqb class i) 1 0 = λ i. omega (arith, change (λ b. cond (eqb b.class i && not b.out) 1 0), and_yes (eqb class i), and_no (eqb class i)) in
    let lists : class < length free.lists = omega (arith, h, k.lists_all) in
    let long : length after ≡ length blocks = length-set blocks number (block class false) in
    let nodes = number ∷ listed_at free class in
    record {
      kept = record {
        sizes_fit = k.sizes_fit;
        within = k.within;
        adds_up = omega (arith, used, k.adds_up);
        in_use_is = omega (arith, in_use', k.in_use_is, e_size);
        made_all = k.made_all;
        made_is = λ i hi. k.made_is i hi ∙ sym (made' i);
        lists_all = length-set free.lists class nodes ∙ k.lists_all;
        listed = λ i n hi. omega (arith, ap (λ ns. times_in ns n) (listed-set free class i nodes lists), times_pushed free class number i n, k.listed i n hi, marks_back blocks class number i n within was_out);
        counted = λ i hi. omega (arith, ap length (listed-set free class i nodes lists), length_pushed free class number i, k.counted i hi, free' i);
        nodes_all = k.nodes_all ∙ sym long;
        classes = classes-set blocks number class (length sizes) false h k.classes;
        room = k.room;
        enough = k.enough;
      };
      loose = loose_from_each free.lists number (λ i hi. k.listed i number (omega (arith, hi, k.lists_all)) ∙ mark_out blocks i number was_out);
      exists = omega (arith, within, k.nodes_all);
      within = within;
      in_sizes = h;
      enough = omega (arith, k.in_use_is, in_use', e_size);
      class_is = sym e_class;
      out = omega (arith, change (λ b. cond b.out 1 0));
    }

-- the same facts of a pool, of lists and of room that are equal
pub kept_at : (pool pool' : PoolState) (rest in_use : ℕ) (made : List ℕ) (free free' : Listed) (capacity capacity' : ℕ) → pool' ≡ pool → free' ≡ free → capacity' ≡ capacity → IsKept pool rest in_use made free capacity → IsKept pool' rest in_use made free' capacity'
kept_at pool pool' rest in_use made free free' capacity capacity' e_pool e_free e_capacity k =
    subst (λ p. IsKept p rest in_use made free' capacity') (sym e_pool)
    (subst (λ f. IsKept pool rest in_use made f capacity') (sym e_free)
    (subst (λ n. IsKept pool rest in_use made free n) (sym e_capacity) k))
