-- What all tables keep stays true if one of them is changed, comes or leaves.
use Rattle.std.proofs.Common.{◌≡◌, ◌≢◌, ℕ, ◌+◌, ◌-◌, ◌<◌, ◌≤◌, ◌⊎◌, inl, inr, Bool, true, false, not, ◌&&◌, cond, eqb, List, [], ◌∷◌, ◌++◌, length, set, get_or, refl, ap, sym, subst, ◌∙◌, arith, Option, Some, None, All}
use Rattle.std.specs.Option.{option_map_or}
use Rattle.std.proofs.lemmas.Bool.{cases_eq}
use Rattle.std.proofs.lemmas.List.{get_or-set_same, get_or-set_other, length_push}
use Rattle.std.proofs.lemmas.List.Sums.{sum_by-set}
use Rattle.std.proofs.lemmas.List.Elements.{All-pop, All-push}
use Rattle.table_blocks.proofs.Sets.{open_within, kept_content}
use Rattle.fsw_base.specs.Blocks.{class_of}
use Rattle.es_pool.specs.Pool.{PoolState, class_at, size_at}
use Rattle.table_blocks.specs.Contents.{Content, is_double, is_staged, staged_in, older_in, beside, version_at, view_back, with_views, kept_at, is_open, content_at, no_content}
use Rattle.table_blocks.specs.Memory.{Memory, Takes, GoesBack, slot_at}
use Rattle.table_blocks.specs.Blocks.{has_buffer}
use Rattle.table_blocks.specs.Inside.{IsHeld, IsStore}
use Rattle.table_blocks.specs.declared.next.Next.{Next}
use Rattle.table_blocks.specs.declared.next.Next.TheVariants.{Nothing, Inactive, Staged}
use Rattle.table_blocks.specs.Versions.{LentVersion}
use Rattle.table_blocks.specs.declared.slot.Slot.{Slot}
use Rattle.table_blocks.specs.declared.slot.Slot.TheVariants.{Free, Taken}

-- 1 for a table that has a working buffer
abbrev pub mark : Option Content → ℕ
mark o = cond {A = ℕ} (has_buffer o) 1 0

-- one table is held as before if its blocks and its size stay
pub held_as : (memory : Memory) (most key : ℕ) (c c' : Content) → IsHeld memory most key c → c'.size ≡ c.size → c'.option ≡ c.option → c'.first ≡ c.first → c'.second ≡ c.second → c'.present.whole ≡ c.present.whole → (is_double c ≡ false → is_staged c'.next ≡ true → (staged_in c'.next).whole ≡ most) → IsHeld memory most key c'
held_as memory most key c c' k es eo ef en ew working = record {
  small = subst (λ n. n ≤ most) (sym es) k.small;
  first = ap (slot_at memory.slots) ef ∙ k.first;
  second = ap (slot_at memory.slots) en ∙ k.second;
  first_class = ap (λ n. class_of n memory.pool.sizes) es ∙ (k.first_class ∙ ap (λ n. Some (class_at memory.pool n)) (sym ef));
  second_class = ap (λ n. class_of n memory.pool.sizes) es ∙ (k.second_class ∙ ap (λ n. Some (class_at memory.pool n)) (sym en));
  whole = ew ∙ (k.whole ∙ ap (size_at memory.pool) (sym ef));
  apart = λ d e. k.apart (ap (λ n. eqb n 1) (sym eo) ∙ d) (sym ef ∙ (e ∙ en));
  working = λ d s. working (ap (λ n. eqb n 1) (sym eo) ∙ d) s;
}

-- each table is held if one is changed that is
pub held_set : (memory : Memory) (most key : ℕ) (tables : List (Option Content)) (o : Option Content) → key < length tables → ((k : ℕ) (c : Content) → k ≢ key → kept_at tables k ≡ Some c → IsHeld memory most k c) → ((c : Content) → o ≡ Some c → IsHeld memory most key c) → (k : ℕ) (c : Content) → kept_at (set tables key o) k ≡ Some c → IsHeld memory most k c
held_set memory most key tables o h others here k c e = at (cases_eq k key)
  where
    at : (k ≡ key) ⊎ (k ≢ key) → IsHeld memory most k c
    at (inl same) = subst (λ i. IsHeld memory most i c) (sym same) (here c (sym (get_or-set_same tables key o None h) ∙ (ap (kept_at (set tables key o)) (sym same) ∙ e)))
    at (inr apart) = others k c apart (sym (get_or-set_other tables key k o None apart) ∙ e)

-- all is kept if one table and the working buffers are changed
pub store_set : (memory memory' : Memory) (most key : ℕ) (tables : List (Option Content)) (work work' : List (List ℕ)) (capacity capacity' : ℕ) (o : Option Content) → IsStore memory most tables work capacity → key < length tables → ((k : ℕ) (c : Content) → k ≢ key → kept_at tables k ≡ Some c → IsHeld memory' most k c) → ((c : Content) → o ≡ Some c → IsHeld memory' most key c) → length work' + mark o ≡ length work + mark (kept_at tables key) → All (λ bytes. length bytes ≡ most) work' → capacity' ≡ capacity → IsStore memory' most (set tables key o) work' capacity'
store_set memory memory' most key tables work work' capacity capacity' o k h others here count all same = record {
  held = held_set memory' most key tables o h others here;
  buffers = omega (arith, k.buffers, count, sum_by-set mark tables key o None h);
  room = omega (arith, k.room, same);
  whole = all;
}

some_is : (c d : Content) → Some c ≡ Some d → c ≡ d
some_is c d e = ap (λ o. option_map_or (λ x. x) o no_content) e

-- the same if the memory stays
pub store_changed : (memory : Memory) (most key : ℕ) (tables : List (Option Content)) (work work' : List (List ℕ)) (capacity capacity' : ℕ) (c' : Content) → IsStore memory most tables work capacity → key < length tables → IsHeld memory most key c' → length work' + mark (Some c') ≡ length work + mark (kept_at tables key) → All (λ bytes. length bytes ≡ most) work' → capacity' ≡ capacity → IsStore memory most (set tables key (Some c')) work' capacity'
store_changed memory most key tables work work' capacity capacity' c' k h held count all same =
    store_set memory memory most key tables work work' capacity capacity' (Some c') k h (λ i c _ e. k.held i c e) (λ c e. subst (IsHeld memory most key) (some_is c' c e) held) count all same

-- a table that is held stays so if a block is drawn
pub held_taken : (old new : Memory) (most key other size block whole : ℕ) (c : Content) → Takes old new other size block whole → IsHeld old most key c → IsHeld new most key c
held_taken old new most key other size block whole c t k =
    let first = t.others c.first key k.first in
    let second = t.others c.second key k.second in
    record {
      small = k.small;
      first = first.0;
      second = second.0;
      first_class = ap (class_of c.size) t.sizes ∙ (k.first_class ∙ ap Some (sym first.1));
      second_class = ap (class_of c.size) t.sizes ∙ (k.second_class ∙ ap Some (sym second.1));
      whole = k.whole ∙ sym (λ i. get_or (t.sizes i) (first.1 i) 0);
      apart = k.apart;
      working = k.working;
    }

-- and if another table's block goes back
pub held_back : (old new : Memory) (most key other block : ℕ) (c : Content) → GoesBack old new block → slot_at old.slots block ≡ Taken other → key ≢ other → IsHeld old most key c → IsHeld new most key c
held_back old new most key other block c g own apart k =
    let first = g.others c.first key k.first (not_here c.first k.first) in
    let second = g.others c.second key k.second (not_here c.second k.second) in
    let sizes : new.pool.sizes ≡ old.pool.sizes = ap (λ (p : PoolState). p.sizes) g.pool in
    record {
      small = k.small;
      first = first.0;
      second = second.0;
      first_class = ap (class_of c.size) sizes ∙ (k.first_class ∙ ap Some (sym first.1));
      second_class = ap (class_of c.size) sizes ∙ (k.second_class ∙ ap Some (sym second.1));
      whole = k.whole ∙ sym (λ i. get_or (sizes i) (first.1 i) 0);
      apart = k.apart;
      working = k.working;
    }
  where
    owner : Slot → ℕ
    owner (Free bytes) = 0
    owner (Taken k) = k

    not_here : (n : ℕ) → slot_at old.slots n ≡ Taken key → n ≢ block
    not_here n e same = apart (ap owner (sym e ∙ (ap (slot_at old.slots) same ∙ own)))

-- One table is changed. --

off : false ≡ true → ⊥
off e = cc

-- its size, its option and its blocks stay
pub record IsSameTable (c c' : Content) : Type 0 where
  pub size : c'.size ≡ c.size
  pub option : c'.option ≡ c.option
  pub first : c'.first ≡ c.first
  pub second : c'.second ≡ c.second
  pub whole : c'.present.whole ≡ c.present.whole

pub mark_double : (c : Content) → is_double c ≡ true → mark (Some c) ≡ 0
mark_double c d = ap (λ b. cond {A = ℕ} (not b && is_staged c.next) 1 0) d

mark_single : (c : Content) → is_double c ≡ false → mark (Some c) ≡ cond {A = ℕ} (is_staged c.next) 1 0
mark_single c d = ap (λ b. cond {A = ℕ} (not b && is_staged c.next) 1 0) d

pub mark_idle : (c : Content) → is_staged c.next ≡ false → mark (Some c) ≡ 0
mark_idle c s = at (is_double c) (is_staged c.next) s
  where
    at : (d b : Bool) → b ≡ false → cond {A = ℕ} (not d && b) 1 0 ≡ 0
    at true b e = refl
    at false true e = absurd (off (sym e))
    at false false e = refl

pub mark_kept : (tables : List (Option Content)) (key : ℕ) → is_open tables key ≡ true → mark (kept_at tables key) ≡ mark (Some (content_at tables key))
mark_kept tables key there = ap mark (kept_content tables key there)

double_same : (c c' : Content) → IsSameTable c c' → is_double c' ≡ is_double c
double_same c c' same = ap (λ n. eqb n 1) same.option

-- nothing is staged if views of a version before are out
older_idle : (n : Next) → 1 ≤ (older_in n).views → is_staged n ≡ false
older_idle Nothing h = refl
older_idle (Inactive version) h = refl
older_idle (Staged value) h = absurd (omega (arith, h))

-- nor is it in what lies beside the present version if the one before had this
pub beside_idle : (c : Content) (version : LentVersion) → is_staged (beside c version) ≡ false
beside_idle c version = at (is_double c)
  where
    at : (b : Bool) → is_staged (cond b (Inactive version) Nothing) ≡ false
    at true = refl
    at false = refl

module _ (memory : Memory) (most key : ℕ) (tables : List (Option Content)) (work : List (List ℕ)) (capacity : ℕ) (k : IsStore memory most tables work capacity) (there : is_open tables key ≡ true) where
  abbrev here : Content
  here = content_at tables key

  pub held_here : IsHeld memory most key here
  held_here = k.held key here (kept_content tables key there)

  -- a double-buffered table
  pub store_double : (c' : Content) → is_double here ≡ true → IsSameTable here c' → IsStore memory most (set tables key (Some c')) work capacity
  store_double c' d same =
      store_changed memory most key tables work work capacity capacity c' k (open_within tables key there)
      (held_as memory most key here c' held_here same.size same.option same.first same.second same.whole (λ x _. absurd (off (sym x ∙ d))))
      (omega (arith, mark_kept tables key there, mark_double here d, mark_double c' (double_same here c' same ∙ d))) k.whole refl

  -- a table whose staged value stays in its memory
  pub store_quiet : (c' : Content) → IsSameTable here c' → is_staged c'.next ≡ is_staged here.next → (staged_in c'.next).whole ≡ (staged_in here.next).whole → IsStore memory most (set tables key (Some c')) work capacity
  store_quiet c' same st wh =
      store_changed memory most key tables work work capacity capacity c' k (open_within tables key there)
      (held_as memory most key here c' held_here same.size same.option same.first same.second same.whole (λ d s. wh ∙ held_here.working d (sym st ∙ s)))
      (ap (λ n. length work + n) (sym (mark_kept tables key there ∙ (λ i. cond {A = ℕ} (not (sym (double_same here c' same) i) && sym st i) 1 0)))) k.whole refl

  -- a single-buffered table takes a working buffer
  pub store_taken : (c' : Content) (work' : List (List ℕ)) (buffer : List ℕ) (capacity' : ℕ) → is_double here ≡ false → is_staged here.next ≡ false → IsSameTable here c' → is_staged c'.next ≡ true → (staged_in c'.next).whole ≡ length buffer → work ≡ work' ++ buffer ∷ [] → capacity' ≡ capacity → IsStore memory most (set tables key (Some c')) work' capacity'
  store_taken c' work' buffer capacity' d idle same st wh popped cap =
      let parts = All-pop (λ bytes. length bytes ≡ most) work work' (Some buffer) popped k.whole in
      store_changed memory most key tables work work' capacity capacity' c' k (open_within tables key there)
      (held_as memory most key here c' held_here same.size same.option same.first same.second same.whole (λ _ _. wh ∙ parts.1))
      (omega (arith, ap length popped, length_push work' buffer, mark_kept tables key there, mark_idle here idle, mark_single c' (double_same here c' same ∙ d) ∙ ap (λ b. cond {A = ℕ} b 1 0) st)) parts.0 cap

  -- and a working buffer is free again
  pub store_freed : (c' : Content) (work' : List (List ℕ)) (buffer : List ℕ) (capacity' : ℕ) → is_double here ≡ false → is_staged here.next ≡ true → IsSameTable here c' → is_staged c'.next ≡ false → length buffer ≡ (staged_in here.next).whole → work' ≡ work ++ buffer ∷ [] → capacity' ≡ capacity → IsStore memory most (set tables key (Some c')) work' capacity'
  store_freed c' work' buffer capacity' d st same idle wh pushed cap =
      store_changed memory most key tables work work' capacity capacity' c' k (open_within tables key there)
      (held_as memory most key here c' held_here same.size same.option same.first same.second same.whole (λ _ s. absurd (off (sym idle ∙ s))))
      (omega (arith, ap length pushed, length_push work buffer, mark_kept tables key there, mark_idle c' idle, mark_single here d ∙ ap (λ b. cond {A = ℕ} b 1 0) st))
      (subst (λ l. All (λ bytes. length bytes ≡ most) l) (sym pushed) (All-push (λ bytes. length bytes ≡ most) work buffer k.whole (wh ∙ held_here.working d st))) cap

  -- for which there is room
  pub room_for_buffer : is_double here ≡ false → is_staged here.next ≡ true → length work < capacity
  room_for_buffer d st =
      omega (arith, k.buffers, k.room, sum_by-set mark tables key None None (open_within tables key there), mark_kept tables key there, mark_single here d ∙ ap (λ b. cond {A = ℕ} b 1 0) st)

  -- nothing was staged, and nothing is
  pub store_idle : (c' : Content) → IsSameTable here c' → is_staged here.next ≡ false → is_staged c'.next ≡ false → IsStore memory most (set tables key (Some c')) work capacity
  store_idle c' same was idle =
      store_changed memory most key tables work work capacity capacity c' k (open_within tables key there)
      (held_as memory most key here c' held_here same.size same.option same.first same.second same.whole (λ _ s. absurd (off (sym idle ∙ s))))
      (omega (arith, mark_kept tables key there, mark_idle here was, mark_idle c' idle)) k.whole refl

  -- a view came back
  pub store_back : (version : ℕ) → 1 ≤ (version_at here version).views → IsStore memory most (set tables key (Some (view_back here version))) work capacity
  store_back version = at (eqb version here.version)
    where
      same_present : (v : LentVersion) → v.whole ≡ here.present.whole → IsSameTable here (record here { present = v })
      same_present v e = record { size = refl; option = refl; first = refl; second = refl; whole = e }

      same_next : (n : Next) → IsSameTable here (record here { next = n })
      same_next n = record { size = refl; option = refl; first = refl; second = refl; whole = refl }

      at : (b : Bool) → 1 ≤ (cond b here.present (older_in here.next)).views → IsStore memory most (set tables key (Some (cond b (record here { present = with_views here.present (here.present.views - 1) }) (record here { next = Inactive (with_views (older_in here.next) ((older_in here.next).views - 1)) })))) work capacity
      at true some = store_quiet (record here { present = with_views here.present (here.present.views - 1) }) (same_present (with_views here.present (here.present.views - 1)) refl) refl refl
      at false some = store_idle (record here { next = Inactive (with_views (older_in here.next) ((older_in here.next).views - 1)) }) (same_next (Inactive (with_views (older_in here.next) ((older_in here.next).views - 1)))) (older_idle here.next some) refl
