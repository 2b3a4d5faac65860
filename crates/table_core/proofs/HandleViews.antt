-- One handle has another view, or none, and its application is told of another version, or not.
use Rattle.std.proofs.Common.{◌≡◌, ◌≢◌, ℕ, suc, ◌+◌, ◌<◌, ◌≤◌, ◌&&◌, ◌||◌, Bool, true, false, cond, eqb, Option, Some, None, is_some, List, [], ◌∷◌, length, get_or, set, find, count_by, All, refl, ap, sym, ◌∙◌, subst, arith}
use Rattle.std.specs.List.{list_any, AllPairs}
use Rattle.std.specs.Option.{IsSome, option_map, option_map_or}
use Rattle.std.proofs.lemmas.Bool.Decides.{nat_tests}
use Rattle.std.proofs.lemmas.List.{length-set, get_or-set_other}
use Rattle.std.proofs.lemmas.List.Elements.{All-head, All-tail, All-map}
use Rattle.std.proofs.lemmas.List.Sums.{sum_by-cons}
use Rattle.fsw_base.proofs.Lists.{list_any-map, find-map}
use Rattle.fsw_base.specs.Limits.{limits_of}
use Rattle.es_pool.specs.Account.{IsAccountOf}
use Rattle.es_pool.specs.Pool.{PoolState, made_in}
use Rattle.lend_block.specs.Loan.{LentBytes}
use Rattle.tbl_words.specs.declared.calls.TblAnswer.{TblAnswer}
use Rattle.tbl_words.specs.declared.history.Call.{Call}
use Rattle.tbl_words.specs.Tables as state
use Rattle.tbl_words.specs.Machine as machine
use Rattle.tbl_registry.specs.declared.rows.Handle.{Handle}
use Rattle.tbl_registry.specs.Listing.{Table, IsTied, handle_at, is_live, has_handle, table_at, with_handle}
use Rattle.tbl_registry.proofs.HandleNumbers.{same_number, other_number}
use Rattle.table_blocks.specs.Blocks.{Stored}
use Rattle.table_blocks.specs.Held.{HeldViews, held_at}
use Rattle.table_blocks.specs.Contents.{Content, no_content, kept_at, content_at, is_open, is_staged, older_in}
use Rattle.table_core.specs.declared.plain.PlainTables.TheInside.{Inside}
use Rattle.table_core.specs.Core.{Plain, Holds, Acts, changes_bag}
use Rattle.table_core.specs.Inside.{plain_of, means, table_in, table_with, handle_in, handle_with, each_below, is_this, is_other, IsRecent, IsFilled, Keeps}
use Rattle.table_core.specs.Views.{held_by, views_of}
use Rattle.table_core.proofs.CallLaws.{step_by, acts_from}
use Rattle.table_core.proofs.Bags.{held_view, due_by, is_due, known_handle, bags_go_on, due_here, dues_here}
use Rattle.table_core.proofs.OtherVersions.{itself, tables_now, kept_now, now}
use Rattle.table_core.proofs.Changes.{map-map}
use Rattle.table_core.proofs.Figures.{HasContent}
use Rattle.table_core.proofs.Fields.{found_all}
use Rattle.table_core.proofs.UniqueNumbers.{only_handle, only_table}
use Rattle.table_core.proofs.Registers.{map_all}
use Rattle.table_core.proofs.Relends.{one_if, Relends, relent_table, relent_handle, relent_view}

any_alike : {X : Type 0} (p q : X → Bool) → ((x : X) → p x ≡ q x) → (xs : List X) → list_any p xs ≡ list_any q xs
any_alike p q same [] = refl
any_alike p q same (x ∷ xs) = ap (λ b. b || list_any p xs) (same x) ∙ ap (λ b. q x || b) (any_alike p q same xs)

-- One handle of those whose numbers rise. --

module _ (f : Handle → Handle) (n : ℕ) (keeps_number : (k : Handle) → (f k).number ≡ k.number) where
  abbrev one_changed : Handle → Handle
  one_changed k = cond {A = Handle} (eqb k.number n) (f k) k

  number_kept : (k : Handle) → (one_changed k).number ≡ k.number
  number_kept k = by_test (eqb k.number n)
    where
      by_test : (b : Bool) → (cond {A = Handle} b (f k) k).number ≡ k.number
      by_test true = keeps_number k
      by_test false = refl

  -- what is found afterwards
  pub found_changed : (handles : List Handle) (m : ℕ) → handle_at (with_handle f n handles) m ≡ option_map one_changed (handle_at handles m)
  found_changed handles m =
      find-map (λ (k : Handle). eqb k.number m) one_changed handles
      ∙ ap (option_map one_changed) (find_alike handles)
    where
      by_head : (k : Handle) (rest other : Option Handle) → rest ≡ other → cond {A = Option Handle} (eqb (one_changed k).number m) (Some k) rest ≡ cond {A = Option Handle} (eqb k.number m) (Some k) other
      by_head k rest other same =
          ap (λ x. cond {A = Option Handle} (eqb x m) (Some k) rest) (number_kept k) ∙ ap (λ o. cond {A = Option Handle} (eqb k.number m) (Some k) o) same

      find_alike : (hs : List Handle) → find (λ (k : Handle). eqb (one_changed k).number m) hs ≡ handle_at hs m
      find_alike [] = refl
      find_alike (k ∷ hs) = by_head k (find (λ (x : Handle). eqb (one_changed x).number m) hs) (handle_at hs m) (find_alike hs)

  -- a count changes by the one
  pub count_changed : (p : Handle → Bool) (handles : List Handle) (h : Handle) → AllPairs (λ earlier later. earlier.number < later.number) handles → handle_at handles n ≡ Some h →
      count_by p (with_handle f n handles) + one_if (p h) ≡ count_by p handles + one_if (p (f h))
  count_changed p [] h rise never = absurd (cc (never))
  count_changed p (k ∷ handles) h rise here =
      by_test (eqb k.number n) refl (λ rest. count_changed p handles h (λ i j d lt inside. rise (suc i) (suc j) d (omega (arith, lt)) (omega (arith, inside))) rest) here
    where
      some_is : Some k ≡ Some h → k ≡ h
      some_is same = ap (λ o. option_map_or (λ w. w) o k) same

      is_same : eqb k.number n ≡ true → k.number ≡ n
      is_same same = grind (arith, nat_tests)

      none_later : k.number ≡ n → with_handle f n handles ≡ handles
      none_later same = others (λ i d inside. other_number (get_or handles i d).number n (λ is. omega (arith, same, is, rise 0 (suc i) d (omega arith) (omega (arith, inside)))))
        where
          others : All (λ (x : Handle). eqb x.number n ≡ false) handles → with_handle f n handles ≡ handles
          others all = unchanged_all handles all
            where
              unchanged_all : (hs : List Handle) → All (λ (x : Handle). eqb x.number n ≡ false) hs → with_handle f n hs ≡ hs
              unchanged_all [] none = refl
              unchanged_all (x ∷ hs) none =
                  ap (λ b. cond {A = Handle} b (f x) x ∷ with_handle f n hs) (All-head (λ (y : Handle). eqb y.number n ≡ false) x hs none)
                  ∙ ap (λ l. x ∷ l) (unchanged_all hs (All-tail (λ (y : Handle). eqb y.number n ≡ false) x hs none))

      by_test : (b : Bool) → eqb k.number n ≡ b → (handle_at handles n ≡ Some h → count_by p (with_handle f n handles) + one_if (p h) ≡ count_by p handles + one_if (p (f h))) →
          cond {A = Option Handle} b (Some k) (handle_at handles n) ≡ Some h → count_by p (cond {A = Handle} b (f k) k ∷ with_handle f n handles) + one_if (p h) ≡ count_by p (k ∷ handles) + one_if (p (f h))
      by_test true same ih it =
          omega (
            arith,
            sum_by-cons (λ x. one_if (p x)) (f k) (with_handle f n handles),
            sum_by-cons (λ x. one_if (p x)) k handles,
            ap (count_by p) (none_later (is_same same)),
            ap (λ x. one_if (p x)) (some_is it),
            ap (λ x. one_if (p (f x))) (some_is it),
          )
      by_test false other ih rest = omega (arith, sum_by-cons (λ x. one_if (p x)) k (with_handle f n handles), sum_by-cons (λ x. one_if (p x)) k handles, ih rest)

  -- and not at all if the one is not counted
  pub count_unchanged : (p : Handle → Bool) (handles : List Handle) (h : Handle) → AllPairs (λ earlier later. earlier.number < later.number) handles → handle_at handles n ≡ Some h → p (f h) ≡ p h →
      count_by p (with_handle f n handles) ≡ count_by p handles
  count_unchanged p handles h rise found same = omega (arith, count_changed p handles h rise found, ap one_if same)

-- The fields afterwards. --

module _ (a : Inside) (keeps : Keeps a) (tied : IsTied a.registry) (n : ℕ) (h : Handle) (found : handle_at a.registry.handles n ≡ Some h) (has : HasContent a h)
    (f : Handle → Handle) (same : (k : Handle) → ((f k).number ≡ k.number) × ((f k).app ≡ k.app) × ((f k).table ≡ k.table) × ((f k).key ≡ k.key))
    (b : Stored) (c : Content) (changed : b.tables ≡ set a.blocks.tables h.key (Some c)) (pool : b.pool ≡ a.blocks.pool) (most : b.most ≡ a.blocks.most)
    (so : Relends (content_at a.blocks.tables h.key) c h.held (f h).held) (told : (f h).told ≤ (content_at a.blocks.tables h.key).version) (recent : IsRecent (content_at a.blocks.tables h.key).version (f h).held) where
  abbrev t : Table
  t = has.t

  abbrev handles : List Handle
  handles = with_handle f n a.registry.handles

  abbrev pub after : Inside
  after = record a { registry = record a.registry { handles = handles }; blocks = b }

  abbrev old : Content
  old = content_at a.blocks.tables t.key

  abbrev one : Handle → Handle
  one = one_changed f n (λ k. (same k).0)

  so_old : Relends old c h.held (f h).held
  so_old = subst (λ key. Relends (content_at a.blocks.tables key) c h.held (f h).held) (sym has.known) so

  now_c : content_at b.tables t.key ≡ c
  now_c = now a keeps tied h has b c changed

  other_c : (key : ℕ) → key ≢ t.key → kept_at b.tables key ≡ kept_at a.blocks.tables key
  other_c key other = ap (λ l. kept_at l key) (tables_now a keeps tied h has b c changed) ∙ get_or-set_other a.blocks.tables t.key key (Some c) None other

  other_content : (key : ℕ) → key ≢ t.key → content_at b.tables key ≡ content_at a.blocks.tables key
  other_content key other = ap (λ o. option_map_or (λ (x : Content). x) o no_content) (other_c key other)

  is_same : (i j : ℕ) → eqb i j ≡ true → i ≡ j
  is_same i j is = grind (arith, nat_tests)

  is_apart : (i j : ℕ) → eqb i j ≡ false → i ≢ j
  is_apart i j other is = grind (arith, nat_tests)

  -- what is so of a key's contents before and now, by whether it is the table's
  by_key : (P : Content → Content → Type 0) → P c old → ((x : Content) → P x x) → (key : ℕ) → P (content_at b.tables key) (content_at a.blocks.tables key)
  by_key P here others key = at (eqb key t.key) refl
    where
      at : (x : Bool) → eqb key t.key ≡ x → P (content_at b.tables key) (content_at a.blocks.tables key)
      at true is =
          let key_is = is_same key t.key is in
          subst (λ k. P (content_at b.tables k) (content_at a.blocks.tables k)) (sym key_is) (subst (λ (x : Content). P x old) (sym now_c) here)
      at false is = subst (λ (x : Content). P x (content_at a.blocks.tables key)) (sym (other_content key (is_apart key t.key is))) (others (content_at a.blocks.tables key))

  -- Handles. --

  handle_still : (k : Handle) → handle_with k (content_at b.tables k.key) ≡ handle_with k (content_at a.blocks.tables k.key)
  handle_still k = by_key (λ x y. handle_with k x ≡ handle_with k y) (relent_handle old c h.held (f h).held so_old k) (λ x. refl) k.key

  view_still : (k : Handle) → held_by (content_at b.tables k.key) k ≡ held_by (content_at a.blocks.tables k.key) k
  view_still k = by_key (λ x y. held_by x k ≡ held_by y k) (relent_view old c h.held (f h).held so_old k) (λ x. refl) k.key

  -- a handle of the number is the one
  the_one : All (λ (k : Handle). k.number ≡ n → k ≡ h) a.registry.handles
  the_one = only_handle a.registry.handles n h tied.handles_rise found

  pub reheld_handles : (F : state.Handle → state.Handle) → handle_with (f h) (content_at b.tables (f h).key) ≡ F (handle_in a.blocks.tables h) → (means after).handles ≡ state.with_handle F n (means a).handles
  reheld_handles F does =
      map-map (handle_in b.tables) one a.registry.handles
      ∙ map_all (λ k. handle_in b.tables (one k)) (λ k. cond {A = state.Handle} (eqb k.number n) (F (handle_in a.blocks.tables k)) (handle_in a.blocks.tables k)) a.registry.handles
      (λ i d within. by_number (get_or a.registry.handles i d) (eqb (get_or a.registry.handles i d).number n) refl (the_one i d within))
      ∙ sym (map-map (λ (k : state.Handle). cond {A = state.Handle} (eqb k.number n) (F k) k) (handle_in a.blocks.tables) a.registry.handles)
    where
      by_number : (k : Handle) (x : Bool) → eqb k.number n ≡ x → (k.number ≡ n → k ≡ h) →
          handle_in b.tables (cond {A = Handle} x (f k) k) ≡ cond {A = state.Handle} x (F (handle_in a.blocks.tables k)) (handle_in a.blocks.tables k)
      by_number k true is the = subst (λ (y : Handle). handle_in b.tables (f y) ≡ F (handle_in a.blocks.tables y)) (sym (the (is_same k.number n is))) does
      by_number k false is the = handle_still k

  -- Tables. --

  live_still : (number : ℕ) → is_live handles number ≡ is_live a.registry.handles number
  live_still number =
      list_any-map (λ (k : Handle). eqb k.number number) one a.registry.handles
      ∙ any_alike (λ (k : Handle). eqb (one k).number number) (λ (k : Handle). eqb k.number number) (λ k. ap (λ m. eqb m number) (number_kept f n (λ y. (same y).0) k)) a.registry.handles

  pub reheld_tables : (means after).tables ≡ (means a).tables
  reheld_tables =
      map_all (table_in handles b.tables) (table_in a.registry.handles a.blocks.tables) a.registry.tables
      (λ k d within.
      let u = get_or a.registry.tables k d in
      ap (λ live. table_with live u (content_at b.tables u.key)) (live_still u.number)
      ∙ by_key (λ x y. table_with (is_live a.registry.handles u.number) u x ≡ table_with (is_live a.registry.handles u.number) u y) (relent_table old c h.held (f h).held so_old (is_live a.registry.handles u.number) u) (λ x. refl) u.key)

  pub reheld_means : (F : state.Handle → state.Handle) → handle_with (f h) (content_at b.tables (f h).key) ≡ F (handle_in a.blocks.tables h) → means after ≡ record (means a) { handles = state.with_handle F n (means a).handles }
  reheld_means F does =
      ap (λ (p : PoolState). let s : state.State = record (means after) { made = each_below (made_in p.blocks) (length p.sizes); drawn = p.requests } in s) pool
      ∙ ap (λ (ts : List state.Table). let s : state.State = record (means a) { tables = ts; handles = (means after).handles } in s) reheld_tables
      ∙ ap (λ (hs : List state.Handle). let s : state.State = record (means a) { handles = hs } in s) (reheld_handles F does)

  -- What is kept. --

  one_app : (k : Handle) → (one k).app ≡ k.app
  one_app k = by_test (eqb k.number n)
    where
      by_test : (x : Bool) → (cond {A = Handle} x (f k) k).app ≡ k.app
      by_test true = (same k).1
      by_test false = refl

  one_table : (k : Handle) → (one k).table ≡ k.table
  one_table k = by_test (eqb k.number n)
    where
      by_test : (x : Bool) → (cond {A = Handle} x (f k) k).table ≡ k.table
      by_test true = (same k).2
      by_test false = refl

  version_now : (content_at b.tables t.key).version ≡ old.version
  version_now = ap (λ (x : Content). x.version) now_c ∙ so_old.version

  counted_here : (p : Option ℕ → Bool) →
      count_by (λ (k : Handle). eqb k.table t.number && p k.held) handles + one_if (p h.held) ≡ count_by (λ (k : Handle). eqb k.table t.number && p k.held) a.registry.handles + one_if (p (f h).held)
  counted_here p =
      omega (
        arith,
        count_changed f n (λ k. (same k).0) (λ (k : Handle). eqb k.table t.number && p k.held) a.registry.handles h tied.handles_rise found,
        ap (λ x. one_if (x && p h.held)) (same_number h.table t.number (sym has.number)),
        ap (λ x. one_if (x && p (f h).held)) (same_number (f h).table t.number ((same h).2 ∙ sym has.number)),
      )

  -- what is so of a table's handles
  still_so : (P : Handle → Type 0) (number : ℕ) → All (λ (k : Handle). k.table ≡ number → P k) a.registry.handles → (h.table ≡ number → P (f h)) → All (λ (k : Handle). k.table ≡ number → P k) handles
  still_so P number all here =
      All-map (λ (k : Handle). k.table ≡ number → P k) one a.registry.handles
      (λ i d within. by_number (get_or a.registry.handles i d) (eqb (get_or a.registry.handles i d).number n) refl (the_one i d within) (all i d within))
    where
      by_number : (k : Handle) (x : Bool) → eqb k.number n ≡ x → (k.number ≡ n → k ≡ h) → (k.table ≡ number → P k) → (cond {A = Handle} x (f k) k).table ≡ number → P (cond {A = Handle} x (f k) k)
      by_number k true at the so of =
          let k_is = the (is_same k.number n at) in
          subst (λ (y : Handle). P (f y)) (sym k_is) (here (sym (ap (λ (y : Handle). y.table) k_is) ∙ sym (same k).2 ∙ of))
      by_number k false at the so of = so of

  filled_here : IsFilled handles b.tables t
  filled_here = record {
    there = ap is_some (kept_now a keeps tied h has b c changed);
    size = ap (λ (x : Content). x.size) now_c ∙ so_old.size ∙ has.filled.size;
    option = ap (λ (x : Content). x.option) now_c ∙ so_old.option ∙ has.filled.option;
    views =
        ap (λ (x : Content). x.present.views) now_c
        ∙ omega (arith, so_old.views, has.filled.views, counted_here (is_this old.version))
        ∙ ap (λ v. count_by (λ (k : Handle). eqb k.table t.number && is_this v k.held) handles) (sym version_now);
    older_views =
        ap (λ (x : Content). (older_in x.next).views) now_c
        ∙ omega (arith, so_old.older_views, has.filled.older_views, counted_here (is_other old.version))
        ∙ ap (λ v. count_by (λ (k : Handle). eqb k.table t.number && is_other v k.held) handles) (sym version_now);
    told =
        subst (λ v. All (λ (k : Handle). k.table ≡ t.number → k.told ≤ v) handles) (sym version_now)
        (still_so (λ (k : Handle). k.told ≤ old.version) t.number has.filled.told (λ is. subst (λ key. (f h).told ≤ (content_at a.blocks.tables key).version) (sym has.known) told));
    recent =
        subst (λ v. All (λ (k : Handle). k.table ≡ t.number → IsRecent v k.held) handles) (sym version_now)
        (still_so (λ (k : Handle). IsRecent old.version k.held) t.number has.filled.recent (λ is. subst (λ key. IsRecent (content_at a.blocks.tables key).version (f h).held) (sym has.known) recent));
    unstaged = λ gone. ap (λ (x : Content). is_staged x.next) now_c ∙ so_old.is_staged ∙ has.filled.unstaged (sym (live_still t.number) ∙ gone);
  }

  filled_there : (u : Table) → u.key ≢ t.key → u.number ≢ t.number → IsFilled a.registry.handles a.blocks.tables u → IsFilled handles b.tables u
  filled_there u key number filled =
      let is = other_content u.key key in
      record {
        there = ap is_some (other_c u.key key) ∙ filled.there;
        size = ap (λ (x : Content). x.size) is ∙ filled.size;
        option = ap (λ (x : Content). x.option) is ∙ filled.option;
        views = ap (λ (x : Content). x.present.views) is ∙ filled.views ∙ sym (uncounted (is_this (content_at b.tables u.key).version) ∙ ap (λ (x : Content). count_by (λ (k : Handle). eqb k.table u.number && is_this x.version k.held) a.registry.handles) is);
        older_views = ap (λ (x : Content). (older_in x.next).views) is ∙ filled.older_views ∙ sym (uncounted (is_other (content_at b.tables u.key).version) ∙ ap (λ (x : Content). count_by (λ (k : Handle). eqb k.table u.number && is_other x.version k.held) a.registry.handles) is);
        told =
            subst (λ (x : Content). All (λ (k : Handle). k.table ≡ u.number → k.told ≤ x.version) handles) (sym is)
            (still_so (λ (k : Handle). k.told ≤ (content_at a.blocks.tables u.key).version) u.number filled.told (λ of. absurd (number (sym of ∙ sym has.number))));
        recent =
            subst (λ (x : Content). All (λ (k : Handle). k.table ≡ u.number → IsRecent x.version k.held) handles) (sym is)
            (still_so (λ (k : Handle). IsRecent (content_at a.blocks.tables u.key).version k.held) u.number filled.recent (λ of. absurd (number (sym of ∙ sym has.number))));
        unstaged = λ gone. ap (λ (x : Content). is_staged x.next) is ∙ filled.unstaged (sym (live_still u.number) ∙ gone);
      }
    where
      apart : (k : Handle) → k.table ≡ h.table → eqb k.table u.number ≡ false
      apart k of = other_number k.table u.number (λ is. number (sym is ∙ of ∙ sym has.number))

      uncounted : (p : Option ℕ → Bool) → count_by (λ (k : Handle). eqb k.table u.number && p k.held) handles ≡ count_by (λ (k : Handle). eqb k.table u.number && p k.held) a.registry.handles
      uncounted p =
          count_unchanged f n (λ k. (same k).0) (λ (k : Handle). eqb k.table u.number && p k.held) a.registry.handles h tied.handles_rise found
          (ap (λ x. x && p (f h).held) (apart (f h) (same h).2) ∙ sym (ap (λ x. x && p h.held) (apart h refl)))

  filled_all : All (IsFilled handles b.tables) a.registry.tables
  filled_all k d within =
      let u = get_or a.registry.tables k d in
      by_test u (only_table a.registry.tables t tied.tables_rise tied.keys_apart (itself a keeps tied h has) k d within) (keeps.filled k d within) (eqb u.key t.key) refl (eqb u.number t.number) refl
    where
      by_test : (u : Table) → (u.key ≡ t.key → u ≡ t) × (u.number ≡ t.number → u ≡ t) → IsFilled a.registry.handles a.blocks.tables u → (x : Bool) → eqb u.key t.key ≡ x → (y : Bool) → eqb u.number t.number ≡ y → IsFilled handles b.tables u
      by_test u the filled true key y number = subst (λ (v : Table). IsFilled handles b.tables v) (sym (the.0 (is_same u.key t.key key))) filled_here
      by_test u the filled false key true number = subst (λ (v : Table). IsFilled handles b.tables v) (sym (the.1 (is_same u.number t.number number))) filled_here
      by_test u the filled false key false number = filled_there u (is_apart u.key t.key key) (is_apart u.number t.number number) filled

  has_still : (number : ℕ) → has_handle handles number ≡ has_handle a.registry.handles number
  has_still number =
      list_any-map (λ (k : Handle). eqb k.table number) one a.registry.handles
      ∙ any_alike (λ (k : Handle). eqb (one k).table number) (λ (k : Handle). eqb k.table number) (λ k. ap (λ m. eqb m number) (one_table k)) a.registry.handles

  account_still : IsAccountOf b.pool (state.account_of (limits_of a.config) (means after))
  account_still =
      subst (λ (p : PoolState). IsAccountOf p (state.account_of (limits_of a.config) (record (means after) { made = each_below (made_in p.blocks) (length p.sizes); drawn = p.requests }))) (sym pool)
      (subst (λ (ts : List state.Table). IsAccountOf a.blocks.pool (state.account_of (limits_of a.config) (record (means a) { tables = ts }))) (sym reheld_tables) keeps.account)

  known_still : (key : ℕ) → is_open b.tables key ≡ true → IsSome (table_at a.registry.tables key)
  known_still key now_open = at (eqb key t.key) refl
    where
      at : (x : Bool) → eqb key t.key ≡ x → IsSome (table_at a.registry.tables key)
      at true is = subst (λ k. IsSome (table_at a.registry.tables k)) (sym (is_same key t.key is)) (subst (λ o. IsSome o) (sym (itself a keeps tied h has)) refl)
      at false is = keeps.known key (ap is_some (sym (other_c key (is_apart key t.key is))) ∙ now_open)

  pub reheld_keeps : Keeps after
  reheld_keeps = record {
    table_room = keeps.table_room;
    handle_room = keeps.handle_room;
    content_room = ap length changed ∙ length-set a.blocks.tables h.key (Some c) ∙ keeps.content_room;
    most = most ∙ keeps.most;
    pool_bytes = ap (λ (p : PoolState). p.bytes) pool ∙ keeps.pool_bytes;
    pool_sizes = ap (λ (p : PoolState). p.sizes) pool ∙ keeps.pool_sizes;
    account = account_still;
    fit = keeps.fit;
    had = λ k d within. has_still (get_or a.registry.tables k d).number ∙ keeps.had k d within;
    owners =
        All-map (λ (k : Handle). All (λ (u : Table). k.number ≡ u.number → k.table ≡ u.number) a.registry.tables) one a.registry.handles
        (λ k d within i e inside is.
        let x = get_or a.registry.handles k d in
        one_table x ∙ keeps.owners k d within i e inside (sym (number_kept f n (λ y. (same y).0) x) ∙ is));
    filled = filled_all;
    known = known_still;
  }

  -- Bags. --

  due_still : (other : ℕ) → h.app ≢ other → (m : ℕ) → due_by b.tables other (handle_at handles m) ≡ due_by a.blocks.tables other (handle_at a.registry.handles m)
  due_still other apart m = ap (due_by b.tables other) (found_changed f n (λ k. (same k).0) a.registry.handles m) ∙ by_found (handle_at a.registry.handles m) refl
    where
      not_due : (contents : List (Option Content)) (k : Handle) → k.app ≡ h.app → due_by contents other (Some k) ≡ None
      not_due contents k is = ap (λ x. cond {A = Option LentBytes} x (held_view contents k) None) (other_number k.app other (λ here. apart (sym is ∙ here)))

      by_number : (k : Handle) (x : Bool) → eqb k.number n ≡ x → (k.number ≡ n → k ≡ h) → due_by b.tables other (Some (cond {A = Handle} x (f k) k)) ≡ due_by a.blocks.tables other (Some k)
      by_number k true is the =
          let k_is = ap (λ (y : Handle). y.app) (the (is_same k.number n is)) in
          not_due b.tables (f k) ((same k).1 ∙ k_is) ∙ sym (not_due a.blocks.tables k k_is)
      by_number k false is the = ap (λ v. cond {A = Option LentBytes} (eqb k.app other) v None) (view_still k)

      by_found : (o : Option Handle) → handle_at a.registry.handles m ≡ o → due_by b.tables other (option_map one o) ≡ due_by a.blocks.tables other o
      by_found None at = refl
      by_found (Some k) at = by_number k (eqb k.number n) refl (found_all (λ (y : Handle). y.number ≡ n → y ≡ h) (λ y. eqb y.number m) a.registry.handles k the_one at)

  others_keep : (other : ℕ) (bag : HeldViews) → h.app ≢ other → Holds (plain_of a) other bag → Holds (plain_of after) other bag
  others_keep other bag apart =
      bags_go_on a after other bag refl (due_still other apart)
      (count_unchanged f n (λ k. (same k).0) (is_due other) a.registry.handles h tied.handles_rise found
      (ap (λ x. x && is_some (f h).held) (other_number (f h).app other (λ is. apart (sym (same h).1 ∙ is))) ∙ sym (ap (λ x. x && is_some h.held) (other_number h.app other apart))))

  -- the call does what the machine does
  pub reheld_acts : (F : state.Handle → state.Handle) → handle_with (f h) (content_at b.tables (f h).key) ≡ F (handle_in a.blocks.tables h) → (old_core : Plain) → plain_of a ≡ old_core → (app : ℕ) → h.app ≡ app → (call : Call) (answer : TblAnswer) →
      changes_bag call ≡ true → machine.cause (limits_of a.config) (means a) app call ≡ None → machine.accept (limits_of a.config) (means a) app call ≡ (answer, record (means a) { handles = state.with_handle F n (means a).handles }) →
      Acts old_core (plain_of after) app call answer
  reheld_acts F does old_core viewed app own call answer changes free accepted =
      acts_from a after old_core app call answer viewed refl
      (step_by (limits_of a.config) (means a) app call None free ∙ accepted ∙ ap (λ s. (answer, s)) (sym (reheld_means F does)))
      (λ other bag apart. others_keep other bag (λ is. apart changes (sym is ∙ own)))

  -- and its caller's bag has what is due
  pub reheld_bag : (app : ℕ) → h.app ≡ app → (bag new : HeldViews) → ((m : ℕ) → held_at new m ≡ cond {A = Option LentBytes} (eqb n m) (held_by c (f h)) (held_at bag m)) → length new.views + views_of h ≡ length bag.views + views_of (f h) → new.room ≡ bag.room →
      Holds (plain_of a) app bag → Holds (plain_of after) app new
  reheld_bag app own bag new seen many room holds = record {
    seen = λ m. seen m ∙ sees m ∙ sym (due_here after app m);
    counted =
        omega (
          arith,
          many,
          holds.counted,
          dues_here a app,
          dues_here after app,
          count_changed f n (λ k. (same k).0) (is_due app) a.registry.handles h tied.handles_rise found,
          ap (λ x. one_if (x && is_some h.held)) (same_number h.app app own),
          ap (λ x. one_if (x && is_some (f h).held)) (same_number (f h).app app ((same h).1 ∙ own)),
        );
    room = omega (arith, room, holds.room);
  }
    where
      view_here : due_by b.tables app (Some (f h)) ≡ held_by c (f h)
      view_here =
          ap (λ x. cond {A = Option LentBytes} x (held_view b.tables (f h)) None) (same_number (f h).app app ((same h).1 ∙ own))
          ∙ ap (λ key. held_by (content_at b.tables key) (f h)) ((same h).3 ∙ sym has.known)
          ∙ ap (λ (x : Content). held_by x (f h)) now_c

      by_number : (m : ℕ) (k : Handle) (x : Bool) → eqb k.number n ≡ x → (k.number ≡ n → k ≡ h) → k.number ≡ m → handle_at a.registry.handles m ≡ Some k →
          cond {A = Option LentBytes} (eqb n m) (held_by c (f h)) (held_at bag m) ≡ due_by b.tables app (Some (cond {A = Handle} x (f k) k))
      by_number m k true is the known at =
          ap (λ y. cond {A = Option LentBytes} y (held_by c (f h)) (held_at bag m)) (same_number n m (sym (is_same k.number n is) ∙ known))
          ∙ sym (ap (λ (y : Handle). due_by b.tables app (Some (f y))) (the (is_same k.number n is)) ∙ view_here)
      by_number m k false is the known at =
          ap (λ y. cond {A = Option LentBytes} y (held_by c (f h)) (held_at bag m)) (other_number n m (λ here. is_apart k.number n is (known ∙ sym here)))
          ∙ holds.seen m ∙ due_here a app m ∙ ap (due_by a.blocks.tables app) at
          ∙ sym (ap (λ v. cond {A = Option LentBytes} (eqb k.app app) v None) (view_still k))

      sees : (m : ℕ) → cond {A = Option LentBytes} (eqb n m) (held_by c (f h)) (held_at bag m) ≡ due_by b.tables app (handle_at handles m)
      sees m = by_found (handle_at a.registry.handles m) refl ∙ sym (ap (due_by b.tables app) (found_changed f n (λ k. (same k).0) a.registry.handles m))
        where
          by_found : (o : Option Handle) → handle_at a.registry.handles m ≡ o → cond {A = Option LentBytes} (eqb n m) (held_by c (f h)) (held_at bag m) ≡ due_by b.tables app (option_map one o)
          by_found None at =
              ap (λ y. cond {A = Option LentBytes} y (held_by c (f h)) (held_at bag m)) (other_number n m (λ is. absurd (cc (sym found ∙ ap (handle_at a.registry.handles) is ∙ at))))
              ∙ holds.seen m ∙ due_here a app m ∙ ap (due_by a.blocks.tables app) at
          by_found (Some k) at =
              by_number m k (eqb k.number n) refl (found_all (λ (y : Handle). y.number ≡ n → y ≡ h) (λ y. eqb y.number m) a.registry.handles k the_one at) (known_handle a.registry.handles m k at) at
