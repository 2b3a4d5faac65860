-- Staging: what the contents and the working buffers say is what the state says.
use Rattle.std.proofs.Common.{◌≡◌, ℕ, ◌+◌, ◌-◌, ◌≤◌, ◌&&◌, ◌||◌, not, Bool, true, false, cond, eqb, leb, ltb, Option, Some, None, is_some, List, [], ◌∷◌, length, get_or, set, count_by, refl, ap, sym, ◌∙◌, arith}
use Rattle.std.specs.List.{list_any}
use Rattle.std.specs.Option.{option_map}
use Rattle.std.proofs.lemmas.Bool.Decides.{nat_tests}
use Rattle.std.proofs.lemmas.List.Sums.{sum_by-cons}
use Rattle.fsw_base.proofs.Lists.{count_by-map}
use Rattle.tbl_words.specs.declared.statuses.TblStatus.{TblStatus}
use Rattle.tbl_words.specs.Tables as state
use Rattle.tbl_words.specs.Machine.{Bars, barred_cause, stage_cause, is_locked}
use Rattle.tbl_registry.specs.declared.rows.Handle.{Handle}
use Rattle.tbl_registry.specs.Listing.{IsTied}
use Rattle.table_blocks.specs.declared.next.Next.{Next}
use Rattle.table_blocks.specs.declared.next.Next.TheVariants.{Nothing, Inactive, Staged}
use Rattle.table_blocks.specs.Blocks.{Stored, with_content, buffers_taken, after_stage}
use Rattle.table_blocks.specs.Contents.{Content, content_at, is_double, is_staged, is_inactive, older_in, staged_by}
use Rattle.table_core.specs.declared.plain.PlainTables.TheInside.{Inside}
use Rattle.table_core.specs.Inside.{means, handle_in, hold_of, staged_of, is_other, Keeps}
use Rattle.table_core.specs.Refusals.{is_partial, is_lent_apart, is_lent, lacks_buffer, bars_in}
use Rattle.table_core.proofs.OtherVersions.{KeepsPresent}
use Rattle.table_core.proofs.Buffers.{staged_alike, taken_alike, all_taken}
use Rattle.table_core.proofs.TableQuestions.{table_by}
use Rattle.table_core.proofs.Figures.{HasContent, holds_here}
use Rattle.table_core.proofs.Fields.{count_alike}

-- What bars a load, in order. --

abbrev six : Bool → Bool → Bool → Bool → Bool → Bool → Bars
six u v w x y z = record { dump_only = u; past_end = v; partial = w; in_progress = x; held_apart = y; no_buffer = z }

abbrev pub by_six : ℕ → ℕ → Bool → Bool → Bool → Bool → ℕ → List ℕ → Option TblStatus → Option TblStatus
by_six option size unloaded staged apart full offset bytes others =
    barred_cause
    (six (eqb option 2) (ltb size (offset + length bytes)) (unloaded && not (eqb offset 0 && eqb (length bytes) size)) staged (eqb option 1 && apart) (not (eqb option 1) && full)) others

first_of_six : (u v w x y z : Bool) (status : TblStatus) (others : Option TblStatus) → barred_cause (six u v w x y z) None ≡ Some status → barred_cause (six u v w x y z) others ≡ Some status
first_of_six true v w x y z status others is = is
first_of_six false true w x y z status others is = is
first_of_six false false true x y z status others is = is
first_of_six false false false true y z status others is = is
first_of_six false false false false true z status others is = is
first_of_six false false false false false true status others is = is
first_of_six false false false false false false status others never = absurd (cc (never))

-- a load that nothing bars
pub record AreNone (bars : Bars) : Type 0 where
  pub large : bars.past_end ≡ false
  pub staged : bars.in_progress ≡ false
  pub apart : bars.held_apart ≡ false
  pub full : bars.no_buffer ≡ false
  pub passed : (others : Option TblStatus) → barred_cause bars others ≡ others

none_of_six : (u v w x y z : Bool) → barred_cause (six u v w x y z) None ≡ None → AreNone (six u v w x y z)
none_of_six true v w x y z never = absurd (cc (never))
none_of_six false true w x y z never = absurd (cc (never))
none_of_six false false true x y z never = absurd (cc (never))
none_of_six false false false true y z never = absurd (cc (never))
none_of_six false false false false true z never = absurd (cc (never))
none_of_six false false false false false true never = absurd (cc (never))
none_of_six false false false false false false is = record { large = refl; staged = refl; apart = refl; full = refl; passed = λ others. refl }

pub staging_refused : (free : ℕ) (c : Content) (offset : ℕ) (bytes : List ℕ) (status : TblStatus) (others : Option TblStatus) → barred_cause (bars_in free c offset bytes) None ≡ Some status → barred_cause (bars_in free c offset bytes) others ≡ Some status
staging_refused free c offset bytes status others is =
    first_of_six (eqb c.option 2) (ltb c.size (offset + length bytes)) (is_partial c offset bytes) (is_staged c.next) (is_lent_apart c) (lacks_buffer free c) status others is

pub can_stage : (free : ℕ) (c : Content) (offset : ℕ) (bytes : List ℕ) → barred_cause (bars_in free c offset bytes) None ≡ None → AreNone (bars_in free c offset bytes)
can_stage free c offset bytes is =
    none_of_six (eqb c.option 2) (ltb c.size (offset + length bytes)) (is_partial c offset bytes) (is_staged c.next) (is_lent_apart c) (lacks_buffer free c) is

-- What it leaves room for. --

pub range_fits : (size end : ℕ) → ltb size end ≡ false → end ≤ size
range_fits size end is = grind (arith, nat_tests)

none_lent : (n : ℕ) → ltb 0 n ≡ false → n ≡ 0
none_lent n is = grind (arith, nat_tests)

some_free : (n : ℕ) → eqb n 0 ≡ false → 1 ≤ n
some_free n is = grind (arith, nat_tests)

-- beside a single-buffered table's version no other one lies
pub single_older : (c : Content) → (is_staged c.next ≡ false → is_inactive c.next ≡ is_double c) → is_double c ≡ false → (older_in c.next).views ≡ 0
single_older c inactive single = by_next c.next (λ none. inactive none ∙ single)
  where
    by_next : (next : Next) → (is_staged next ≡ false → is_inactive next ≡ false) → (older_in next).views ≡ 0
    by_next Nothing is = refl
    by_next (Inactive version) never = absurd (cc (never refl))
    by_next (Staged staged) is = refl

pub none_apart : (c : Content) → (is_staged c.next ≡ false → is_inactive c.next ≡ is_double c) → is_lent_apart c ≡ false → (older_in c.next).views ≡ 0
none_apart c inactive is = by_test (is_double c) refl is
  where
    by_test : (b : Bool) → is_double c ≡ b → (b && ltb 0 (older_in c.next).views) ≡ false → (older_in c.next).views ≡ 0
    by_test true double none = none_lent (older_in c.next).views none
    by_test false single none = single_older c inactive single

pub buffer_left : (free : ℕ) (c : Content) → lacks_buffer free c ≡ false → is_double c ≡ false → 1 ≤ free
buffer_left free c is single = by_test (is_double c) single is
  where
    by_test : (b : Bool) → b ≡ false → (not b && eqb free 0) ≡ false → 1 ≤ free
    by_test true never none = absurd (cc (never))
    by_test false one none = some_free free none

pub unlent : (c : Content) → is_lent c ≡ false → is_double c ≡ false → c.present.views ≡ 0
unlent c is single = by_test (is_double c) single is
  where
    by_test : (b : Bool) → b ≡ false → (not b && ltb 0 c.present.views) ≡ false → c.present.views ≡ 0
    by_test true never none = absurd (cc (never))
    by_test false one none = none_lent c.present.views none

-- The same of the state. --

-- what is counted is there
any_counted : {X : Type 0} (p : X → Bool) (xs : List X) → list_any p xs ≡ ltb 0 (count_by p xs)
any_counted p [] = refl
any_counted {X} p (x ∷ xs) = by_test (p x) (any_counted p xs) ∙ ap (ltb 0) (sym (sum_by-cons (λ y. cond {A = ℕ} (p y) 1 0) x xs))
  where
    more : (n : ℕ) → true ≡ ltb 0 (1 + n)
    more n = grind (arith, nat_tests)

    none : (n : ℕ) → n ≡ 0 + n
    none n = omega arith

    by_test : (b : Bool) → list_any p xs ≡ ltb 0 (count_by p xs) → (b || list_any p xs) ≡ ltb 0 (cond {A = ℕ} b 1 0 + count_by p xs)
    by_test true ih = more (count_by p xs)
    by_test false ih = ih ∙ ap (ltb 0) (none (count_by p xs))

module _ (a : Inside) (h : Handle) (has : HasContent a h) where
  abbrev c : Content
  c = content_at a.blocks.tables h.key

  abbrev old : Content
  old = content_at a.blocks.tables has.t.key

  same_content : old ≡ c
  same_content = ap (content_at a.blocks.tables) has.known

  held_alike : state.is_held (means a).handles has.t.number ≡ ltb 0 (c.present.views + (older_in c.next).views)
  held_alike =
      any_counted (λ (k : state.Handle). eqb k.table has.t.number && is_some k.hold) (means a).handles
      ∙ ap (ltb 0) (holds_here a has.t has.filled)
      ∙ ap (λ (x : Content). ltb 0 (x.present.views + (older_in x.next).views)) same_content

  other_alike : (k : Content) (version : ℕ) (o : Option ℕ) → state.is_other version (option_map (hold_of k) o) ≡ is_other version o
  other_alike k version None = refl
  other_alike k version (Some v) = refl

  apart_alike : state.is_held_apart (means a).handles has.t.number c.version ≡ ltb 0 (older_in c.next).views
  apart_alike =
      ap (λ (x : Content). state.is_held_apart (means a).handles has.t.number x.version) (sym same_content)
      ∙ any_counted (λ (k : state.Handle). eqb k.table has.t.number && state.is_other old.version k.hold) (means a).handles
      ∙ ap (ltb 0)
      (count_by-map (λ (k : state.Handle). eqb k.table has.t.number && state.is_other old.version k.hold) (handle_in a.blocks.tables) a.registry.handles
      ∙ count_alike (λ (k : Handle). eqb k.table has.t.number && state.is_other old.version (handle_in a.blocks.tables k).hold) (λ (k : Handle). eqb k.table has.t.number && is_other old.version k.held) a.registry.handles
      (λ i d within. let k = get_or a.registry.handles i d in ap (λ b. eqb k.table has.t.number && b) (other_alike (content_at a.blocks.tables k.key) old.version k.held))
      ∙ sym has.filled.older_views)
      ∙ ap (λ (x : Content). ltb 0 (older_in x.next).views) same_content

  size_alike : c.size ≡ has.t.size
  size_alike = ap (λ (x : Content). x.size) (sym same_content) ∙ has.filled.size

  option_alike : c.option ≡ has.t.option
  option_alike = ap (λ (x : Content). x.option) (sym same_content) ∙ has.filled.option

  twice : (b : Bool) → not (not b) ≡ b
  twice true = refl
  twice false = refl

  pub stage_alike : Keeps a → IsTied a.registry → a.blocks.free + buffers_taken a.blocks.tables ≡ 4 → (offset : ℕ) (bytes : List ℕ) (others : Option TblStatus) →
      stage_cause (means a) offset bytes others (table_by a h has.t) ≡ barred_cause (bars_in a.blocks.free c offset bytes) others
  stage_alike keeps tied four offset bytes others =
      ap (λ o. by_six o has.t.size (not (not (eqb c.version 0))) (is_some (staged_of c.next)) (state.is_held_apart (means a).handles has.t.number c.version) (leb 4 (state.buffers_taken (means a).tables)) offset bytes others) (sym option_alike)
      ∙ ap (λ n. by_six c.option n (not (not (eqb c.version 0))) (is_some (staged_of c.next)) (state.is_held_apart (means a).handles has.t.number c.version) (leb 4 (state.buffers_taken (means a).tables)) offset bytes others) (sym size_alike)
      ∙ ap (λ b. by_six c.option c.size b (is_some (staged_of c.next)) (state.is_held_apart (means a).handles has.t.number c.version) (leb 4 (state.buffers_taken (means a).tables)) offset bytes others) (twice (eqb c.version 0))
      ∙ ap (λ b. by_six c.option c.size (eqb c.version 0) b (state.is_held_apart (means a).handles has.t.number c.version) (leb 4 (state.buffers_taken (means a).tables)) offset bytes others) (staged_alike c.next)
      ∙ ap (λ b. by_six c.option c.size (eqb c.version 0) (is_staged c.next) b (leb 4 (state.buffers_taken (means a).tables)) offset bytes others) apart_alike
      ∙ ap (λ b. by_six c.option c.size (eqb c.version 0) (is_staged c.next) (ltb 0 (older_in c.next).views) b offset bytes others)
      (ap (leb 4) (taken_alike a keeps tied) ∙ all_taken a.blocks.free (buffers_taken a.blocks.tables) four)

  pub locked_alike : (is_staged c.next ≡ false → is_inactive c.next ≡ is_double c) → is_locked (means a) (table_by a h has.t) ≡ is_lent c
  locked_alike inactive =
      ap (λ o. not (eqb o 1) && state.is_held (means a).handles has.t.number) (sym option_alike)
      ∙ ap (λ b. not (is_double c) && b) held_alike
      ∙ by_test (is_double c) refl
    where
      by_test : (b : Bool) → is_double c ≡ b → (not b && ltb 0 (c.present.views + (older_in c.next).views)) ≡ (not b && ltb 0 c.present.views)
      by_test true double = refl
      by_test false single = ap (ltb 0) (omega (arith, single_older c inactive single))

-- What is staged. --

pub staged_keeps : (c : Content) (offset whole : ℕ) (bytes : List ℕ) → (older_in c.next).views ≡ 0 → KeepsPresent c (staged_by c offset bytes whole)
staged_keeps c offset whole bytes none = record { size = refl; option = refl; version = refl; present = refl; none_before = none; none_after = refl }

-- the bytes of the memory that it lies in
abbrev pub whole_for : Stored → ℕ → ℕ
whole_for s key = cond {A = ℕ} (is_double (content_at s.tables key)) (content_at s.tables key).present.whole s.most

pub record IsStaged (s new : Stored) (key offset : ℕ) (bytes : List ℕ) : Type 0 where
  pub tables : new.tables ≡ set s.tables key (Some (staged_by (content_at s.tables key) offset bytes (whole_for s key)))
  pub pool : new.pool ≡ s.pool
  pub most : new.most ≡ s.most

pub staged_so : (s new : Stored) (key offset : ℕ) (bytes : List ℕ) → new ≡ after_stage s key offset bytes → IsStaged s new key offset bytes
staged_so s new key offset bytes is = record {
  tables = ap (λ (x : Stored). x.tables) is ∙ tables_by (is_double (content_at s.tables key));
  pool = ap (λ (x : Stored). x.pool) is ∙ pool_by (is_double (content_at s.tables key));
  most = ap (λ (x : Stored). x.most) is ∙ most_by (is_double (content_at s.tables key));
}
  where
    tables_by : (b : Bool) →
        (cond {A = Stored} b (with_content s key (staged_by (content_at s.tables key) offset bytes (content_at s.tables key).present.whole)) (record (with_content s key (staged_by (content_at s.tables key) offset bytes s.most)) { free = s.free - 1 })).tables
        ≡ set s.tables key (Some (staged_by (content_at s.tables key) offset bytes (cond {A = ℕ} b (content_at s.tables key).present.whole s.most)))
    tables_by true = refl
    tables_by false = refl

    pool_by : (b : Bool) →
        (cond {A = Stored} b (with_content s key (staged_by (content_at s.tables key) offset bytes (content_at s.tables key).present.whole)) (record (with_content s key (staged_by (content_at s.tables key) offset bytes s.most)) { free = s.free - 1 })).pool ≡ s.pool
    pool_by true = refl
    pool_by false = refl

    most_by : (b : Bool) →
        (cond {A = Stored} b (with_content s key (staged_by (content_at s.tables key) offset bytes (content_at s.tables key).present.whole)) (record (with_content s key (staged_by (content_at s.tables key) offset bytes s.most)) { free = s.free - 1 })).most ≡ s.most
    most_by true = refl
    most_by false = refl
