-- What lies beside the present version of one table changed, and no handle holds what lay there.
use Rattle.std.proofs.Common.{◌≡◌, ◌≢◌, ℕ, suc, ◌<◌, ◌≤◌, ◌&&◌, not, Bool, true, false, cond, eqb, Option, Some, None, is_some, List, [], ◌∷◌, map, length, get_or, set, count_by, All, refl, ap, sym, ◌∙◌, subst, arith}
use Rattle.std.specs.List.{AllPairs}
use Rattle.std.specs.Option.{option_map, option_map_or}
use Rattle.std.proofs.lemmas.Bool.Decides.{nat_tests}
use Rattle.std.proofs.lemmas.List.{get_or-set_same}
use Rattle.std.proofs.lemmas.List.Elements.{All-nil, All-cons}
use Rattle.std.proofs.lemmas.List.Sums.{sum_by-cons}
use Rattle.es_pool.specs.Pool.{PoolState, made_in}
use Rattle.fsw_base.specs.Limits.{limits_of}
use Rattle.lend_block.specs.Loan.{LentBytes}
use Rattle.tbl_words.specs.declared.calls.TblAnswer.{TblAnswer}
use Rattle.tbl_words.specs.declared.history.Call.{Call}
use Rattle.tbl_words.specs.Tables as state
use Rattle.tbl_words.specs.Machine.{cause, accept, with_table_of}
use Rattle.tbl_registry.specs.declared.rows.Handle.{Handle}
use Rattle.tbl_registry.specs.Listing.{Table, IsTied, handle_at, is_live, is_registered, table_at, number_at}
use Rattle.tbl_registry.proofs.HandleNumbers.{same_number}
use Rattle.table_blocks.specs.Blocks.{Stored}
use Rattle.table_blocks.specs.Versions.{LentVersion}
use Rattle.table_blocks.specs.Held.{HeldViews}
use Rattle.table_blocks.specs.Contents.{Content, no_content, version_at, kept_at, content_at, older_in}
use Rattle.table_core.specs.declared.plain.PlainTables.TheInside.{Inside}
use Rattle.table_core.specs.Core.{Plain, Holds, Acts}
use Rattle.table_core.specs.Inside.{plain_of, means, table_in, table_with, handle_in, handle_with, hold_of, each_below, is_this, is_other, IsRecent, IsFilled, Keeps}
use Rattle.table_core.proofs.CallLaws.{step_by, acts_from}
use Rattle.table_core.proofs.Bags.{held_view, bags_still}
use Rattle.table_core.proofs.Changes.{tables_changed, handles_still, views_still}
use Rattle.table_core.proofs.Figures.{HasContent}
use Rattle.table_core.proofs.TableContents.{changed_keeps}
use Rattle.table_core.proofs.Fields.{found_all, table_here}

-- Handles that hold no version but the present one. --

-- none of these is counted
pub none_counted : {X : Type 0} (p : X → Bool) (xs : List X) → count_by p xs ≡ 0 → All (λ x. p x ≡ false) xs
none_counted {X} p [] none = All-nil (λ (y : X). p y ≡ false)
none_counted {X} p (x ∷ xs) none =
    All-cons (λ (y : X). p y ≡ false) x xs (by_test (p x) (omega (arith, none, sum_by-cons (λ y. cond {A = ℕ} (p y) 1 0) x xs)))
    (none_counted p xs (omega (arith, none, sum_by-cons (λ y. cond {A = ℕ} (p y) 1 0) x xs)))
  where
    by_test : (b : Bool) → cond {A = ℕ} b 1 0 ≡ 0 → b ≡ false
    by_test true never = absurd (omega (arith, never))
    by_test false is = refl

abbrev told_with : Handle → ℕ → Option state.Hold → state.Handle
told_with h version hold = record { number = h.number; app = h.app; table = h.table; marked = not (eqb version h.told); hold = hold }

-- if the present version stays, so does what is held of it
pub held_alike : {X : Type 0} (g : ℕ → LentVersion → X) (old new : Content) → new.version ≡ old.version → new.present ≡ old.present → (o : Option ℕ) → is_other old.version o ≡ false →
    option_map (λ v. g v (version_at new v)) o ≡ option_map (λ v. g v (version_at old v)) o
held_alike g old new version present None is = refl
held_alike g old new version present (Some v) is = ap (λ (x : LentVersion). Some (g v x)) (at (is_so (eqb v old.version) is))
  where
    is_so : (b : Bool) → not b ≡ false → b ≡ true
    is_so true is = refl
    is_so false never = absurd (cc (never))

    at : eqb v old.version ≡ true → version_at new v ≡ version_at old v
    at here =
        ap (λ b. cond b new.present (older_in new.next)) (ap (eqb v) version ∙ here)
        ∙ present
        ∙ ap (λ b. cond b old.present (older_in old.next)) (sym here)

-- and so does the handle
pub held_here : (old new : Content) → new.version ≡ old.version → new.present ≡ old.present → (h : Handle) → is_other old.version h.held ≡ false → handle_with h new ≡ handle_with h old
held_here old new version present h none =
    ap (λ v. told_with h v (option_map (hold_of new) h.held)) version
    ∙ ap (told_with h old.version) (held_alike (λ v x. let hold : state.Hold = record { version = v; value = x.bytes } in hold) old new version present h.held none)

-- the table is what it was but for what lies beside its present version, if no view was out and none is
pub record KeepsPresent (old new : Content) : Type 0 where
  pub size : new.size ≡ old.size
  pub option : new.option ≡ old.option
  pub version : new.version ≡ old.version
  pub present : new.present ≡ old.present
  pub none_before : (older_in old.next).views ≡ 0
  pub none_after : (older_in new.next).views ≡ 0

-- A number is of one table. --

numbered : (tables : List Table) (key number : ℕ) → number_at tables key ≡ Some number → (least : ℕ) → All (λ (u : Table). least < u.number) tables → least < number
numbered tables key number is least all = by_found (table_at tables key) refl is
  where
    some_is : (x y : ℕ) → Some x ≡ Some y → x ≡ y
    some_is x y same = ap (λ o. option_map_or (λ w. w) o x) same

    by_found : (o : Option Table) → table_at tables key ≡ o → option_map (λ (u : Table). u.number) o ≡ Some number → least < number
    by_found None at never = absurd (cc (never))
    by_found (Some u) at same = omega (arith, some_is u.number number same, found_all (λ (v : Table). least < v.number) (λ v. eqb v.key key) tables u all at)

abbrev number_in : List Table → Table → Bool → ℕ → Option ℕ
number_in tables u b k = option_map (λ (v : Table). v.number) (cond {A = Option Table} b (Some u) (table_at tables k))

only_key : (tables : List Table) (i j number : ℕ) → AllPairs (λ earlier later. earlier.number < later.number) tables → number_at tables i ≡ Some number → number_at tables j ≡ Some number → i ≡ j
only_key [] i j number rise at never = absurd (cc (at))
only_key (u ∷ tables) i j number rise at there =
    by_keys (λ rest other. only_key tables i j number (λ x y d lt inside. rise (suc x) (suc y) d (omega (arith, lt)) (omega (arith, inside))) rest other)
    (eqb u.key i) refl (eqb u.key j) refl at there
  where
    some_is : (x y : ℕ) → Some x ≡ Some y → x ≡ y
    some_is x y same = ap (λ o. option_map_or (λ w. w) o x) same

    is_same : (k : ℕ) → eqb u.key k ≡ true → u.key ≡ k
    is_same k same = grind (arith, nat_tests)

    later : All (λ (v : Table). u.number < v.number) tables
    later k d inside = rise 0 (suc k) d (omega arith) (omega (arith, inside))

    above : (k : ℕ) → number_at tables k ≡ Some number → u.number < number
    above k is = numbered tables k number is u.number later

    by_keys : (number_at tables i ≡ Some number → number_at tables j ≡ Some number → i ≡ j) → (x : Bool) → eqb u.key i ≡ x → (y : Bool) → eqb u.key j ≡ y → number_in tables u x i ≡ Some number → number_in tables u y j ≡ Some number → i ≡ j
    by_keys ih true same true again is it = sym (is_same i same) ∙ is_same j again
    by_keys ih true same false other is it = absurd (omega (arith, some_is u.number number is, above j it))
    by_keys ih false other true same is it = absurd (omega (arith, some_is u.number number it, above i is))
    by_keys ih false other false apart is it = ih is it

module _ (a : Inside) (keeps : Keeps a) (tied : IsTied a.registry) (h : Handle) (has : HasContent a h) where
  abbrev t : Table
  t = has.t

  pub itself : table_at a.registry.tables t.key ≡ Some t
  itself = ap (table_at a.registry.tables) has.known ∙ has.there

  pub key_room : t.key < length a.blocks.tables
  key_room = omega (arith, found_all (λ (u : Table). u.key < a.registry.table_room) (λ u. eqb u.key h.key) a.registry.tables t tied.keys has.there, keeps.table_room, keeps.content_room)

  -- a handle with the table's key is the table's
  pub of_table : All (λ (k : Handle). k.key ≡ t.key → k.table ≡ t.number) a.registry.handles
  of_table k d within same =
      some_is (get_or a.registry.handles k d).table t.number
      (sym (tied.tables_there k d within) ∙ ap (number_at a.registry.tables) same ∙ ap (option_map (λ (u : Table). u.number)) itself)
    where
      some_is : (x y : ℕ) → Some x ≡ Some y → x ≡ y
      some_is x y is = ap (λ o. option_map_or (λ w. w) o x) is

  -- and one with another key is another table's
  pub of_others : All (λ (k : Handle). k.key ≢ t.key → k.table ≢ t.number) a.registry.handles
  of_others k d within other same =
      other
      (only_key a.registry.tables (get_or a.registry.handles k d).key t.key t.number tied.tables_rise (tied.tables_there k d within ∙ ap (λ n. Some n) same) (ap (option_map (λ (u : Table). u.number)) itself))

  -- if no view of the version before is out, each handle of the table holds the present one or none
  pub holds_present : (older_in (content_at a.blocks.tables t.key).next).views ≡ 0 → All (λ (k : Handle). k.key ≡ t.key → is_other (content_at a.blocks.tables t.key).version k.held ≡ false) a.registry.handles
  holds_present none k d within same =
      and_so (eqb (get_or a.registry.handles k d).table t.number) (is_other (content_at a.blocks.tables t.key).version (get_or a.registry.handles k d).held)
      (same_number (get_or a.registry.handles k d).table t.number (of_table k d within same))
      (none_counted (λ (x : Handle). eqb x.table t.number && is_other (content_at a.blocks.tables t.key).version x.held) a.registry.handles (sym has.filled.older_views ∙ none) k d within)
    where
      and_so : (x y : Bool) → x ≡ true → (x && y) ≡ false → y ≡ false
      and_so true y is off = off
      and_so false y never off = absurd (cc (never))

  -- The contents of the table changed. --

  module _ (b : Stored) (c : Content) (changed : b.tables ≡ set a.blocks.tables h.key (Some c)) where
    pub tables_now : b.tables ≡ set a.blocks.tables t.key (Some c)
    tables_now = changed ∙ ap (λ key. set a.blocks.tables key (Some c)) (sym has.known)

    pub kept_now : kept_at b.tables t.key ≡ Some c
    kept_now = ap (λ l. kept_at l t.key) tables_now ∙ get_or-set_same a.blocks.tables t.key (Some c) None key_room

    pub now : content_at b.tables t.key ≡ c
    now = ap (λ o. option_map_or (λ (x : Content). x) o no_content) kept_now

  -- the state, by what the changed tables and handles are in it
  module _ (b : Stored) (c : Content) (changed : b.tables ≡ set a.blocks.tables h.key (Some c)) (pool : b.pool ≡ a.blocks.pool) where
    abbrev state_with : List state.Table → List state.Handle → PoolState → state.State
    state_with tables handles p = record { tables = tables; handles = handles; handles_made = a.registry.made; ended = a.ended.items; made = each_below (made_in p.blocks) (length p.sizes); drawn = p.requests }

    pub means_by : (change : state.Table → state.Table) (handles : List state.Handle) →
        table_with (is_registered a.registry.handles t) t c ≡ change (table_with (is_registered a.registry.handles t) t (content_at a.blocks.tables h.key)) →
        map (handle_in (set a.blocks.tables t.key (Some c))) a.registry.handles ≡ handles →
        means (record a { blocks = b }) ≡ record (means a) { tables = state.with_table change t.number (means a).tables; handles = handles }
    means_by change handles does are =
        ap (λ l. state_with (map (table_in a.registry.handles l) a.registry.tables) (map (handle_in l) a.registry.handles) b.pool) (tables_now b c changed)
        ∙ ap (state_with (map (table_in a.registry.handles (set a.blocks.tables t.key (Some c))) a.registry.tables) (map (handle_in (set a.blocks.tables t.key (Some c))) a.registry.handles)) pool
        ∙ ap (λ ts. state_with ts (map (handle_in (set a.blocks.tables t.key (Some c))) a.registry.handles) a.blocks.pool)
        (tables_changed a.registry.handles a.blocks.tables a.registry.tables t c tied.tables_rise tied.keys_apart itself key_room change
        (does ∙ ap (λ key. change (table_with (is_registered a.registry.handles t) t (content_at a.blocks.tables key))) (sym has.known)))
        ∙ ap (λ hs. state_with (state.with_table change t.number (means a).tables) hs a.blocks.pool) are

  -- But for what lies beside the present version it is what it was. --

  module _ (b : Stored) (c : Content) (changed : b.tables ≡ set a.blocks.tables h.key (Some c)) (pool : b.pool ≡ a.blocks.pool) (most : b.most ≡ a.blocks.most)
      (same : KeepsPresent (content_at a.blocks.tables h.key) c) (live : is_live a.registry.handles h.table ≡ true) where
    abbrev after : Inside
    after = record a { blocks = b }

    abbrev old : Content
    old = content_at a.blocks.tables t.key

    stays : KeepsPresent old c
    stays = subst (λ key. KeepsPresent (content_at a.blocks.tables key) c) (sym has.known) same

    now_c : content_at b.tables t.key ≡ c
    now_c = now b c changed

    version_now : (content_at b.tables t.key).version ≡ old.version
    version_now = ap (λ (x : Content). x.version) now_c ∙ stays.version

    filled_now : IsFilled a.registry.handles b.tables t
    filled_now = record {
      there = ap is_some (kept_now b c changed);
      size = ap (λ (x : Content). x.size) now_c ∙ stays.size ∙ has.filled.size;
      option = ap (λ (x : Content). x.option) now_c ∙ stays.option ∙ has.filled.option;
      views =
          ap (λ (x : Content). x.present.views) now_c ∙ ap (λ (x : LentVersion). x.views) stays.present ∙ has.filled.views
          ∙ ap (λ v. count_by (λ (k : Handle). eqb k.table t.number && is_this v k.held) a.registry.handles) (sym version_now);
      older_views =
          ap (λ (x : Content). (older_in x.next).views) now_c ∙ stays.none_after ∙ sym stays.none_before ∙ has.filled.older_views
          ∙ ap (λ v. count_by (λ (k : Handle). eqb k.table t.number && is_other v k.held) a.registry.handles) (sym version_now);
      told = subst (λ v. All (λ (k : Handle). k.table ≡ t.number → k.told ≤ v) a.registry.handles) (sym version_now) has.filled.told;
      recent = subst (λ v. All (λ (k : Handle). k.table ≡ t.number → IsRecent v k.held) a.registry.handles) (sym version_now) has.filled.recent;
      unstaged = λ gone. absurd (cc (sym live ∙ ap (is_live a.registry.handles) (sym has.number) ∙ gone));
    }

    pub beside_keeps : Keeps after
    beside_keeps = changed_keeps a keeps tied t itself b c (tables_now b c changed) pool most has.filled.there filled_now

    beside_views : All (λ (k : Handle). held_view b.tables k ≡ held_view a.blocks.tables k) a.registry.handles
    beside_views =
        subst (λ l. All (λ (k : Handle). held_view l k ≡ held_view a.blocks.tables k) a.registry.handles) (sym (tables_now b c changed))
        (views_still a.registry.handles a.blocks.tables a.registry.tables t c tied.tables_rise tied.keys_apart itself key_room a.registry.handles
        (λ k d within is. held_alike (λ v x. let view : LentBytes = record { loan = x.loan; bytes = x.bytes } in view) old c stays.version stays.present (get_or a.registry.handles k d).held (holds_present stays.none_before k d within is)))

    pub beside_bags : (other : ℕ) (bag : HeldViews) → Holds (plain_of a) other bag → Holds (plain_of after) other bag
    beside_bags = bags_still a b beside_views

    module _ (n : ℕ) (found : handle_at a.registry.handles n ≡ Some h) (change : state.Table → state.Table)
        (does : table_with (is_registered a.registry.handles t) t c ≡ change (table_with (is_registered a.registry.handles t) t (content_at a.blocks.tables h.key))) where
      pub beside_means : means after ≡ with_table_of (means a) n change
      beside_means =
          means_by b c changed pool change (means a).handles does
          (handles_still a.registry.handles a.blocks.tables a.registry.tables t c tied.tables_rise tied.keys_apart itself key_room a.registry.handles
          (λ k d within is. held_here old c stays.version stays.present (get_or a.registry.handles k d) (holds_present stays.none_before k d within is)))
          ∙ sym (ap (λ o. option_map_or (λ (u : state.Table). let s : state.State = record (means a) { tables = state.with_table change u.number (means a).tables } in s) o (means a)) (table_here a tied n h found t has.there))

      pub beside_acts : (old_core : Plain) → plain_of a ≡ old_core → (app : ℕ) (call : Call) (answer : TblAnswer) → cause (limits_of a.config) (means a) app call ≡ None →
          accept (limits_of a.config) (means a) app call ≡ (answer, with_table_of (means a) n change) → Acts old_core (plain_of after) app call answer
      beside_acts old_core viewed app call answer free accepted =
          acts_from a after old_core app call answer viewed refl
          (step_by (limits_of a.config) (means a) app call None free ∙ accepted ∙ ap (λ s. (answer, s)) (sym beside_means))
          (λ other bag apart. beside_bags other bag)
