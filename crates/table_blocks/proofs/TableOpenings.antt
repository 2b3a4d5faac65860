-- What all tables keep stays true if a table is opened or closed.
use Rattle.std.proofs.Common.{◌≡◌, ◌≢◌, ℕ, ◌+◌, ◌-◌, ◌*◌, ◌<◌, ◌≤◌, true, false, cond, eqb, leb, List, [], ◌∷◌, length, set, get_or, replicate, refl, ap, sym, subst, ◌∙◌, arith, Option, Some, None}
use Rattle.std.proofs.Math.Nat.{mul-le-mul_left}
use Rattle.std.proofs.lemmas.Bool.Decides.{nat_tests}
use Rattle.std.specs.Option.{option_map_or, is_some}
use Rattle.fsw_base.specs.Blocks.{class_of}
use Rattle.fsw_base.specs.PoolAccounts.{overhead}
use Rattle.es_pool.specs.Pool.{PoolState, DrawsFor, fits, fits_if, out_in, made_in, used_by, is_out, class_at, size_at, given_back}
use Rattle.es_pool.proofs.Rooms.{fits_after}
use Rattle.table_blocks.specs.Versions.{LentVersion}
use Rattle.table_blocks.specs.Contents.{Content, is_double, is_staged, is_inactive, staged_in, older_in, kept_at, is_open, content_at, blocks_of, lent, no_content}
use Rattle.table_blocks.specs.Memory.{Memory, Takes, GoesBack, DrawsEach, all_given_back, slot_at}
use Rattle.table_blocks.specs.Blocks.{Stored, Opens, IsWhole, closed}
use Rattle.table_blocks.specs.Inside.{IsHeld, IsStore}
use Rattle.table_blocks.specs.declared.next.Next.TheVariants.{Nothing, Inactive}
use Rattle.table_blocks.specs.declared.slot.Slot.TheVariants.{Taken}
use Rattle.table_blocks.proofs.Keeps.{taken_other}
use Rattle.table_blocks.proofs.Sets.{open_within, content_set}
use Rattle.table_blocks.proofs.Store.{mark, mark_idle, mark_kept, store_set}

off : false ≡ true → ⊥
off e = cc

-- A table is opened. --

abbrev pub single_of : ℕ → ℕ → ℕ → ℕ → ℕ → Content
single_of size option block loan whole =
    record { size = size; option = option; version = 0; first = block; second = block; present = lent loan (replicate size 0) whole; next = Nothing }

abbrev pub double_of : ℕ → ℕ → ℕ → ℕ → ℕ → LentVersion → Content
double_of size first second loan whole older =
    record { size = size; option = 1; version = 0; first = first; second = second; present = lent loan (replicate size 0) whole; next = Inactive older }

pub held_single : (old new : Memory) (most key size option block whole loan : ℕ) → Takes old new key size block whole → size ≤ most → eqb option 1 ≡ false → IsHeld new most key (single_of size option block loan whole)
held_single old new most key size option block whole loan t small single = record {
  small = small;
  first = t.taken;
  second = t.taken;
  first_class = t.class;
  second_class = t.class;
  whole = t.as_large;
  apart = λ d. absurd (off (sym single ∙ d));
  working = λ _ s. absurd (off s);
}

some_at : (a b : ℕ) → Some a ≡ Some b → a ≡ b
some_at a b e = ap (λ o. option_map_or (λ x. x) o 0) e

-- the second block is as large as the first
pub alike : (old between new : Memory) (key size first second one other : ℕ) → Takes old between key size first one → Takes between new key size second other → other ≡ one
alike old between new key size first second one other t u =
    let class : class_at new.pool second ≡ class_at between.pool first = some_at (class_at new.pool second) (class_at between.pool first) (sym u.class ∙ (ap (class_of size) u.sizes ∙ t.class)) in
    u.as_large ∙ ((λ i. get_or (u.sizes i) (class i) 0) ∙ sym t.as_large)

pub held_double : (old between new : Memory) (most key size first second one other loan : ℕ) (older : LentVersion) → Takes old between key size first one → Takes between new key size second other → size ≤ most → IsHeld new most key (double_of size first second loan one older)
held_double old between new most key size first second one other loan older t u small =
    let there = u.others first key t.taken in
    record {
      small = small;
      first = there.0;
      second = u.taken;
      first_class = ap (class_of size) u.sizes ∙ (t.class ∙ ap Some (sym there.1));
      second_class = u.class;
      whole = t.as_large ∙ sym (λ i. get_or (u.sizes i) (there.1 i) 0);
      apart = λ _. taken_other between.slots first second key t.taken u.was_free;
      working = λ d _. absurd (off (sym d));
    }

mark_closed : (tables : List (Option Content)) (key : ℕ) → is_open tables key ≡ false → mark (kept_at tables key) ≡ 0
mark_closed tables key e = at (kept_at tables key) e
  where
    at : (o : Option Content) → is_some o ≡ false → mark o ≡ 0
    at None e = refl
    at (Some c) e = absurd (off (sym e))

-- a new table under a key, in blocks that were drawn for it
pub store_opened : (old new : Memory) (most key : ℕ) (tables : List (Option Content)) (work : List (List ℕ)) (capacity : ℕ) (c : Content) → IsStore old most tables work capacity → key < length tables → is_open tables key ≡ false → is_staged c.next ≡ false → ((i : ℕ) (d : Content) → IsHeld old most i d → IsHeld new most i d) → IsHeld new most key c → IsStore new most (set tables key (Some c)) work capacity
store_opened old new most key tables work capacity c k h none idle others held =
    store_set old new most key tables work work capacity capacity (Some c) k h (λ i d _ e. others i d (k.held i d e))
    (λ d e. subst (IsHeld new most key) (ap (λ o. option_map_or (λ x. x) o no_content) e) held)
    (omega (arith, mark_closed tables key none, mark_idle c idle)) k.whole refl

pub opens : (seen : Stored) (pool pool' : PoolState) (most key size option free : ℕ) (tables tables' : List (Option Content)) (c : Content) → record { pool = pool; most = most; tables = tables; free = free } ≡ seen → key < length tables → tables' ≡ set tables key (Some c) → DrawsEach pool pool' size (blocks_of c) → c.size ≡ size → c.option ≡ option → c.version ≡ 0 → c.present.bytes ≡ replicate size 0 → c.present.views ≡ 0 → (older_in c.next).views ≡ 0 → is_staged c.next ≡ false → Opens seen (record { pool = pool'; most = most; tables = tables'; free = free }) key size option (content_at tables' key)
opens seen pool pool' most key size option free tables tables' c view h e drawn es eo ev eb en el st =
    let after : Stored = record { pool = pool'; most = most; tables = tables'; free = free } in
    let found : content_at tables' key ≡ c = ap (λ l. content_at l key) e ∙ content_set tables key c h in
    subst (λ (s : Stored). Opens s after key size option (content_at tables' key)) view
    (subst (λ x. Opens (record { pool = pool; most = most; tables = tables; free = free }) after key size option x) (sym found)
    (record {
      kept = ap (λ l. record { pool = pool'; most = most; tables = l; free = free }) e;
      drawn = drawn;
      same_size = es;
      same_option = eo;
      version = ev;
      zeros = eb;
      no_view = en;
      no_older_view = el;
      not_staged = st;
    }))

pub draws_single : (old new : PoolState) (size option block loan whole : ℕ) → eqb option 1 ≡ false → DrawsFor old new size block → DrawsEach old new size (blocks_of (single_of size option block loan whole))
draws_single old new size option block loan whole single drawn =
    subst (λ b. DrawsEach old new size (cond b (block ∷ block ∷ []) (block ∷ []))) (sym single) (new, (drawn, refl))

-- if two blocks fit, one does
pub fits_one : (pool : PoolState) (size : ℕ) → fits pool size 2 ≡ true → fits pool size 1 ≡ true
fits_one pool size = at (class_of size pool.sizes)
  where
    less : (a b most : ℕ) → a ≤ b → leb b most ≡ true → leb a most ≡ true
    less a b most h e = grind (arith, nat_tests)

    at : (o : Option ℕ) → fits_if pool 2 o ≡ true → fits_if pool 1 o ≡ true
    at None e = e
    at (Some class) e =
        let cost = get_or pool.sizes class 0 + overhead in
        let out = out_in pool.blocks class in
        let made = made_in pool.blocks class in
        let fewer : out + 1 - made ≤ out + 2 - made = omega arith in
        less (used_by pool.sizes pool.blocks + cost * (out + 1 - made)) (used_by pool.sizes pool.blocks + cost * (out + 2 - made)) pool.bytes
        (omega (arith, mul-le-mul_left cost fewer)) e

-- and once one of them was drawn the other fits
pub fits_other : (old new : Memory) (key size block whole : ℕ) → Takes old new key size block whole → fits old.pool size 2 ≡ true → fits new.pool size 1 ≡ true
fits_other old new key size block whole t e = fits_after old.pool new.pool size block 1 t.drawn ∙ e

-- A table is closed. --

pub store_closed : (old new : Memory) (most key : ℕ) (tables : List (Option Content)) (work : List (List ℕ)) (capacity : ℕ) → IsStore old most tables work capacity → is_open tables key ≡ true → is_staged (content_at tables key).next ≡ false → ((i : ℕ) (d : Content) → i ≢ key → IsHeld old most i d → IsHeld new most i d) → IsStore new most (set tables key None) work capacity
store_closed old new most key tables work capacity k there idle others =
    store_set old new most key tables work work capacity capacity None k (open_within tables key there) (λ i d apart e. others i d apart (k.held i d e))
    (λ d e. absurd (off (ap (λ o. option_map_or (λ _. true) o false) e)))
    (omega (arith, mark_kept tables key there, mark_idle (content_at tables key) idle)) k.whole refl

-- the other block of a table is still its own once the first went back, and has the size that it had
pub record OtherStays (memory between : Memory) (key : ℕ) (c : Content) : Type 0 where
  pub own : slot_at between.slots c.second ≡ Taken key
  pub whole : c.present.whole ≡ size_at between.pool c.second

pub other_stays : (memory between : Memory) (most key : ℕ) (c : Content) → IsHeld memory most key c → is_double c ≡ true → GoesBack memory between c.first → OtherStays memory between key c
other_stays memory between most key c k d g =
    let there = g.others c.second key k.second (λ e. k.apart d (sym e)) in
    let class : class_at memory.pool c.second ≡ class_at memory.pool c.first = some_at (class_at memory.pool c.second) (class_at memory.pool c.first) (sym k.second_class ∙ k.first_class) in
    let sizes : between.pool.sizes ≡ memory.pool.sizes = ap (λ (p : PoolState). p.sizes) g.pool in
    record {
      own = there.0;
      whole = k.whole ∙ (ap (λ n. get_or memory.pool.sizes n 0) (sym class) ∙ sym (λ i. get_or (sizes i) (there.1 i) 0));
    }

pub closes_double : (seen : Stored) (pool between new : PoolState) (most key free : ℕ) (tables tables' : List (Option Content)) → record { pool = pool; most = most; tables = tables; free = free } ≡ seen → is_double (content_at tables key) ≡ true → tables' ≡ set tables key None → between ≡ given_back pool (content_at tables key).first → new ≡ given_back between (content_at tables key).second → record { pool = new; most = most; tables = tables'; free = free } ≡ closed seen key
closes_double seen pool between new most key free tables tables' view d e one other =
    let c = content_at tables key in
    (λ i. record { pool = (other ∙ ap (λ p. given_back p c.second) one) i; most = most; tables = e i; free = free })
    ∙ (ap (λ b. record { pool = all_given_back pool (cond b (c.first ∷ c.second ∷ []) (c.first ∷ [])); most = most; tables = set tables key None; free = free }) (sym d)
    ∙ ap (λ s. closed s key) view)

pub closes_single : (seen : Stored) (pool new : PoolState) (most key free : ℕ) (tables tables' : List (Option Content)) → record { pool = pool; most = most; tables = tables; free = free } ≡ seen → is_double (content_at tables key) ≡ false → tables' ≡ set tables key None → new ≡ given_back pool (content_at tables key).first → record { pool = new; most = most; tables = tables'; free = free } ≡ closed seen key
closes_single seen pool new most key free tables tables' view d e one =
    let c = content_at tables key in
    (λ i. record { pool = one i; most = most; tables = e i; free = free })
    ∙ (ap (λ b. record { pool = all_given_back pool (cond b (c.first ∷ c.second ∷ []) (c.first ∷ [])); most = most; tables = set tables key None; free = free }) (sym d)
    ∙ ap (λ s. closed s key) view)

-- What is always true. --

pub whole_here : (memory : Memory) (most key : ℕ) (c t : Content) → t ≡ c → IsHeld memory most key c → ((block owner : ℕ) → slot_at memory.slots block ≡ Taken owner → is_out memory.pool block ≡ true) → length t.present.bytes ≡ t.size → (is_staged t.next ≡ true → length (staged_in t.next).bytes ≡ t.size) → (is_staged t.next ≡ false → is_inactive t.next ≡ is_double t) → IsWhole memory.pool most c
whole_here memory most key c t e k out present staged inactive = record {
  small = k.small;
  present = subst (λ x. length x.present.bytes ≡ x.size) e present;
  staged = subst (λ x. is_staged x.next ≡ true → length (staged_in x.next).bytes ≡ x.size) e staged;
  inactive = subst (λ x. is_staged x.next ≡ false → is_inactive x.next ≡ is_double x) e inactive;
  first_out = out c.first key k.first;
  second_out = out c.second key k.second;
  first_class = k.first_class;
  second_class = k.second_class;
  apart = k.apart;
}
