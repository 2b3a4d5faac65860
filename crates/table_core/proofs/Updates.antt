-- An update: the value is a version later, and nobody holds it yet.
use Rattle.std.proofs.Common.{◌≡◌, ℕ, ◌+◌, ◌≤◌, ◌&&◌, not, Bool, true, false, cond, eqb, Option, Some, None, is_some, List, get_or, set, count_by, All, refl, ap, sym, ◌∙◌, subst, arith}
use Rattle.std.specs.Option.{option_map}
use Rattle.std.proofs.lemmas.Bool.Decides.{nat_tests}
use Rattle.fsw_base.specs.Limits.{limits_of}
use Rattle.lend_block.specs.Loan.{LentBytes}
use Rattle.tbl_words.specs.declared.calls.TblAnswer.{TblAnswer}
use Rattle.tbl_words.specs.declared.history.Call.{Call}
use Rattle.tbl_words.specs.Tables as state
use Rattle.tbl_words.specs.Machine as machine
use Rattle.tbl_registry.specs.declared.rows.Handle.{Handle}
use Rattle.tbl_registry.specs.Listing.{Table, IsTied, is_live, is_registered}
use Rattle.tbl_registry.proofs.HandleNumbers.{same_number}
use Rattle.table_blocks.specs.declared.next.Next.{Next}
use Rattle.table_blocks.specs.declared.next.Next.TheVariants.{Nothing, Inactive}
use Rattle.table_blocks.specs.Blocks.{Stored}
use Rattle.table_blocks.specs.Versions.{LentVersion}
use Rattle.table_blocks.specs.Contents.{Content, is_double, older_in, beside, lent, version_at, content_at, with_value}
use Rattle.table_core.specs.declared.plain.PlainTables.TheInside.{Inside}
use Rattle.table_core.specs.Core.{Plain, Acts}
use Rattle.table_core.specs.Inside.{plain_of, means, table_in, table_with, handle_with, hold_of, staged_of, is_this, is_other, IsRecent, IsFilled, Keeps}
use Rattle.table_core.proofs.Aborts.{nothing_beside}
use Rattle.table_core.proofs.CallLaws.{step_by, acts_from}
use Rattle.table_core.proofs.OtherVersions.{itself, key_room, of_table, of_others, holds_present, tables_now, kept_now, now, means_by, none_counted}
use Rattle.table_core.specs.Views.{held_by}
use Rattle.table_core.proofs.Bags.{held_view, bags_still}
use Rattle.table_core.proofs.Changes.{handles_changed, views_still}
use Rattle.table_core.proofs.Figures.{HasContent}
use Rattle.table_core.proofs.TableContents.{changed_keeps}
use Rattle.table_core.proofs.Registers.{count_none}
use Rattle.table_core.proofs.Fields.{count_alike}

-- no version is the one after it
later : (n : ℕ) → eqb n (n + 1) ≡ false
later n = grind (arith, nat_tests)

not_first : (n : ℕ) → eqb (n + 1) 0 ≡ false
not_first n = grind (arith, nat_tests)

untold : (version told : ℕ) → told ≤ version → eqb (version + 1) told ≡ false
untold version told le = grind (arith, nat_tests)

-- Handles that hold no version but the present one. --

is_so : (b : Bool) → not b ≡ false → b ≡ true
is_so true is = refl
is_so false never = absurd (cc (never))

-- they don't hold the next one
none_next : (version : ℕ) (o : Option ℕ) → is_other version o ≡ false → is_this (version + 1) o ≡ false
none_next version None is = refl
none_next version (Some held) is = next (same (is_so (eqb held version) is))
  where
    same : eqb held version ≡ true → held ≡ version
    same is = grind (arith, nat_tests)

    next : held ≡ version → eqb held (version + 1) ≡ false
    next is = ap (λ v. eqb v (version + 1)) is ∙ later version

-- and by then they hold another one if they held this
then_other : (version : ℕ) (o : Option ℕ) → is_other version o ≡ false → is_other (version + 1) o ≡ is_this version o
then_other version None is = refl
then_other version (Some held) is = ap not (none_next version (Some held) is) ∙ sym (is_so (eqb held version) is)

-- What lies beside the new version. --

older_views : (c : Content) → (is_double c ≡ false → c.present.views ≡ 0) → (older_in (beside c c.present)).views ≡ c.present.views
older_views c none = by_test (is_double c) none
  where
    by_test : (b : Bool) → (b ≡ false → c.present.views ≡ 0) → (older_in (cond {A = Next} b (Inactive c.present) Nothing)).views ≡ c.present.views
    by_test true off = refl
    by_test false off = sym (off refl)

-- a held version stays under its number, as it was
held_still : {X : Type 0} (g : ℕ → LentVersion → X) (c : Content) (loan : ℕ) (value : List ℕ) (o : Option ℕ) → is_other c.version o ≡ false → (is_double c ≡ false → is_this c.version o ≡ false) →
    option_map (λ v. g v (version_at (with_value c loan value) v)) o ≡ option_map (λ v. g v (version_at c v)) o
held_still g c loan value None is none = refl
held_still g c loan value (Some v) is none =
    ap (λ (x : LentVersion). Some (g v x))
    (ap (λ b. cond {A = LentVersion} b (lent loan value c.present.whole) (older_in (beside c c.present))) (none_next c.version (Some v) is)
    ∙ by_double (is_double c) none
    ∙ sym (ap (λ b. cond {A = LentVersion} b c.present (older_in c.next)) (is_so (eqb v c.version) is)))
  where
    by_double : (b : Bool) → (b ≡ false → eqb v c.version ≡ false) → older_in (cond {A = Next} b (Inactive c.present) Nothing) ≡ c.present
    by_double true off = refl
    by_double false off = absurd (cc (sym (off refl) ∙ is_so (eqb v c.version) is))

-- what is held of no other version is held of the one before once there is one more
was_present : (version : ℕ) (held : Option ℕ) → is_other version held ≡ false → IsRecent (version + 1) held
was_present version None none = tt
was_present version (Some v) none = λ apart. by_test (eqb v version) refl none
  where
    is_same : eqb v version ≡ true → v ≡ version
    is_same same = grind (arith, nat_tests)

    by_test : (b : Bool) → eqb v version ≡ b → not b ≡ false → v + 1 ≡ version + 1
    by_test true same off = ap (λ n. n + 1) (is_same same)
    by_test false other never = absurd (cc (never))

module _ (a : Inside) (keeps : Keeps a) (tied : IsTied a.registry) (h : Handle) (has : HasContent a h) (live : is_live a.registry.handles h.table ≡ true) (b : Stored) (loan : ℕ) (value : List ℕ)
    (changed : b.tables ≡ set a.blocks.tables h.key (Some (with_value (content_at a.blocks.tables h.key) loan value))) (pool : b.pool ≡ a.blocks.pool) (most : b.most ≡ a.blocks.most)
    (none_older : (older_in (content_at a.blocks.tables h.key).next).views ≡ 0) (none_held : is_double (content_at a.blocks.tables h.key) ≡ false → (content_at a.blocks.tables h.key).present.views ≡ 0) where
  abbrev t : Table
  t = has.t

  abbrev after : Inside
  after = record a { blocks = b }

  abbrev old : Content
  old = content_at a.blocks.tables t.key

  abbrev new : Content
  new = with_value (content_at a.blocks.tables h.key) loan value

  same_content : old ≡ content_at a.blocks.tables h.key
  same_content = ap (content_at a.blocks.tables) has.known

  now_c : content_at b.tables t.key ≡ with_value old loan value
  now_c = now a keeps tied h has b new changed ∙ ap (λ (c : Content). with_value c loan value) (sym same_content)

  no_older : (older_in old.next).views ≡ 0
  no_older = ap (λ (c : Content). (older_in c.next).views) same_content ∙ none_older

  no_view : is_double old ≡ false → old.present.views ≡ 0
  no_view = subst (λ (c : Content). is_double c ≡ false → c.present.views ≡ 0) (sym same_content) none_held

  -- what the table's handles hold
  none_others : All (λ (k : Handle). (eqb k.table t.number && is_other old.version k.held) ≡ false) a.registry.handles
  none_others = none_counted (λ (k : Handle). eqb k.table t.number && is_other old.version k.held) a.registry.handles (sym has.filled.older_views ∙ no_older)

  pub present_only : All (λ (k : Handle). k.key ≡ t.key → is_other old.version k.held ≡ false) a.registry.handles
  present_only = holds_present a keeps tied h has no_older

  pub single_unheld : is_double old ≡ false → All (λ (k : Handle). k.key ≡ t.key → is_this old.version k.held ≡ false) a.registry.handles
  single_unheld single k d within same =
      and_so (eqb (get_or a.registry.handles k d).table t.number) (is_this old.version (get_or a.registry.handles k d).held)
      (same_number (get_or a.registry.handles k d).table t.number (of_table a keeps tied h has k d within same))
      (none_counted (λ (x : Handle). eqb x.table t.number && is_this old.version x.held) a.registry.handles (sym has.filled.views ∙ no_view single) k d within)
    where
      and_so : (x y : Bool) → x ≡ true → (x && y) ≡ false → y ≡ false
      and_so true y is off = off
      and_so false y never off = absurd (cc (never))

  and_next : (x y z : Bool) → (y ≡ false → z ≡ false) → (x && y) ≡ false → (x && z) ≡ false
  and_next true y z so off = so off
  and_next false y z so off = refl

  and_then : (x y z w : Bool) → (y ≡ false → z ≡ w) → (x && y) ≡ false → (x && z) ≡ (x && w)
  and_then true y z w so off = so off
  and_then false y z w so off = refl

  and_first : (x y : Bool) → x ≡ true → (x && y) ≡ false → y ≡ false
  and_first true y is off = off
  and_first false y never off = absurd (cc (never))

  version_now : (content_at b.tables t.key).version ≡ old.version + 1
  version_now = ap (λ (c : Content). c.version) now_c

  filled_now : IsFilled a.registry.handles b.tables t
  filled_now = record {
    there = ap is_some (kept_now a keeps tied h has b new changed);
    size = ap (λ (c : Content). c.size) now_c ∙ has.filled.size;
    option = ap (λ (c : Content). c.option) now_c ∙ has.filled.option;
    views =
        ap (λ (c : Content). c.present.views) now_c
        ∙ sym (count_none (λ (k : Handle). eqb k.table t.number && is_this (old.version + 1) k.held) a.registry.handles
        (λ k d within.
        let x = get_or a.registry.handles k d in
        and_next (eqb x.table t.number) (is_other old.version x.held) (is_this (old.version + 1) x.held) (none_next old.version x.held) (none_others k d within)))
        ∙ ap (λ v. count_by (λ (k : Handle). eqb k.table t.number && is_this v k.held) a.registry.handles) (sym version_now);
    older_views =
        ap (λ (c : Content). (older_in c.next).views) now_c
        ∙ older_views old no_view
        ∙ has.filled.views
        ∙ sym (count_alike (λ (k : Handle). eqb k.table t.number && is_other (old.version + 1) k.held) (λ (k : Handle). eqb k.table t.number && is_this old.version k.held) a.registry.handles
        (λ k d within.
        let x = get_or a.registry.handles k d in
        and_then (eqb x.table t.number) (is_other old.version x.held) (is_other (old.version + 1) x.held) (is_this old.version x.held) (then_other old.version x.held) (none_others k d within)))
        ∙ ap (λ v. count_by (λ (k : Handle). eqb k.table t.number && is_other v k.held) a.registry.handles) (sym version_now);
    told = λ k d within same. omega (arith, version_now, has.filled.told k d within same);
    recent = λ k d within same.
        let x = get_or a.registry.handles k d in
        subst (λ v. IsRecent v x.held) (sym version_now)
        (was_present old.version x.held (and_first (eqb x.table t.number) (is_other old.version x.held) (same_number x.table t.number same) (none_others k d within)));
    unstaged = λ gone. absurd (cc (sym live ∙ ap (is_live a.registry.handles) (sym has.number) ∙ gone));
  }

  pub update_keeps : Keeps after
  update_keeps = changed_keeps a keeps tied t (itself a keeps tied h has) b new (tables_now a keeps tied h has b new changed) pool most has.filled.there filled_now

  -- The state. --

  abbrev loaded_as : Bool → Option state.Staged → state.Table
  loaded_as loaded staged = record (table_with (is_registered a.registry.handles t) t (content_at a.blocks.tables h.key)) { version = (content_at a.blocks.tables h.key).version + 1; value = value; loaded = loaded; staged = staged }

  table_now : table_with (is_registered a.registry.handles t) t new ≡ machine.with_value value (table_with (is_registered a.registry.handles t) t (content_at a.blocks.tables h.key))
  table_now =
      ap (λ b. loaded_as (not b) (staged_of (beside (content_at a.blocks.tables h.key) (content_at a.blocks.tables h.key).present))) (not_first (content_at a.blocks.tables h.key).version)
      ∙ ap (loaded_as true) (nothing_beside (content_at a.blocks.tables h.key) (content_at a.blocks.tables h.key).present)

  abbrev held_as : Handle → Bool → Option state.Hold → state.Handle
  held_as k marked hold = record { number = k.number; app = k.app; table = k.table; marked = marked; hold = hold }

  handle_now : All (λ (k : Handle). k.key ≡ t.key → handle_with k new ≡ state.with_mark (handle_with k old)) a.registry.handles
  handle_now k d within same =
      let x = get_or a.registry.handles k d in
      ap (λ (c : Content). handle_with x (with_value c loan value)) (sym same_content)
      ∙ ap (λ b. held_as x (not b) (option_map (hold_of (with_value old loan value)) x.held)) (untold old.version x.told (has.filled.told k d within (of_table a keeps tied h has k d within same)))
      ∙ ap (held_as x true) (held_still (λ v y. let hold : state.Hold = record { version = v; value = y.bytes } in hold) old loan value x.held (present_only k d within same) (λ single. single_unheld single k d within same))

  pub update_means : means after ≡ machine.with_update (means a) value (table_in a.registry.handles a.blocks.tables t)
  update_means =
      means_by a keeps tied h has b new changed pool (machine.with_value value) (state.all_marked t.number (means a).handles) table_now
      (handles_changed a.registry.handles a.blocks.tables a.registry.tables t new tied.tables_rise tied.keys_apart (itself a keeps tied h has) (key_room a keeps tied h has) state.with_mark a.registry.handles
      (of_table a keeps tied h has) (of_others a keeps tied h has) handle_now)

  update_views : All (λ (k : Handle). held_view b.tables k ≡ held_view a.blocks.tables k) a.registry.handles
  update_views =
      subst (λ l. All (λ (k : Handle). held_view l k ≡ held_view a.blocks.tables k) a.registry.handles) (sym (tables_now a keeps tied h has b new changed))
      (views_still a.registry.handles a.blocks.tables a.registry.tables t new tied.tables_rise tied.keys_apart (itself a keeps tied h has) (key_room a keeps tied h has) a.registry.handles
      (λ k d within is.
      let x = get_or a.registry.handles k d in
      ap (λ (c : Content). held_by (with_value c loan value) x) (sym same_content)
      ∙ held_still (λ v y. let view : LentBytes = record { loan = y.loan; bytes = y.bytes } in view) old loan value x.held (present_only k d within is) (λ single. single_unheld single k d within is)))

  pub update_acts : (old_core : Plain) → plain_of a ≡ old_core → (app : ℕ) (call : Call) (answer : TblAnswer) → machine.cause (limits_of a.config) (means a) app call ≡ None →
      machine.accept (limits_of a.config) (means a) app call ≡ (answer, machine.with_update (means a) value (table_in a.registry.handles a.blocks.tables t)) → Acts old_core (plain_of after) app call answer
  update_acts old_core viewed app call answer free accepted =
      acts_from a after old_core app call answer viewed refl
      (step_by (limits_of a.config) (means a) app call None free ∙ accepted ∙ ap (λ s. (answer, s)) (sym update_means))
      (λ other bag apart. bags_still a b update_views other bag)
