-- A handle that holds nothing leaves, and with a table's last one the table.
use Rattle.std.proofs.Common.{◌≡◌, ◌≢◌, ℕ, ◌≤◌, ◌&&◌, ◌||◌, not, Bool, true, false, cond, eqb, Option, Some, None, is_some, List, [], ◌∷◌, map, filter, length, get_or, count_by, All, refl, ap, sym, ◌∙◌, subst, arith}
use Rattle.std.specs.Option.{IsSome, option_map, option_map_or}
use Rattle.std.proofs.lemmas.Bool.Decides.{nat_tests}
use Rattle.std.proofs.lemmas.List.Elements.{All-head, All-tail, All-filter}
use Rattle.std.proofs.lemmas.List.Sums.{sum_by-cons}
use Rattle.fsw_base.proofs.Lists.{list_any-map, filter-map}
use Rattle.fsw_base.specs.Limits.{limits_of}
use Rattle.lend_block.specs.Loan.{LentBytes}
use Rattle.es_pool.specs.Account.{IsAccountOf}
use Rattle.es_pool.specs.Pool.{made_in}
use Rattle.tbl_rules.specs.Rules.{has_misfit}
use Rattle.tbl_words.specs.Tables as state
use Rattle.tbl_words.specs.Machine as machine
use Rattle.tbl_registry.specs.declared.rows.Handle.{Handle}
use Rattle.tbl_registry.specs.Listing.{Table, Listing, IsTied, handle_at, is_live, has_handle, table_at, without_handle}
use Rattle.tbl_registry.specs.Listed.{without_handle_of}
use Rattle.tbl_registry.proofs.HandleDrops.{handles_go_on}
use Rattle.tbl_registry.proofs.HandleNumbers.{same_number, other_number}
use Rattle.table_blocks.specs.Blocks.{Stored}
use Rattle.table_blocks.specs.Held.{HeldViews}
use Rattle.table_blocks.specs.Contents.{Content, no_content, version_at, kept_at, content_at, is_open, is_staged, older_in}
use Rattle.table_core.specs.declared.plain.PlainTables.TheInside.{Inside}
use Rattle.table_core.specs.Core.{Holds}
use Rattle.table_core.specs.Inside.{plain_of, means, table_in, table_with, handle_in, handle_with, each_below, is_this, is_other, IsRecent, IsFilled, Keeps}
use Rattle.table_core.specs.Views.{held_by}
use Rattle.table_core.proofs.Bags.{due_by, is_due, known_handle, bags_go_on}
use Rattle.table_core.proofs.OtherVersions.{itself}
use Rattle.table_core.proofs.Changes.{map-map}
use Rattle.table_core.proofs.Figures.{HasContent}
use Rattle.table_core.proofs.Fields.{found_all}
use Rattle.table_core.proofs.UniqueNumbers.{only_handle, only_table}
use Rattle.table_core.proofs.Registers.{map_all, none_staged}

-- Lists with what has a number left out. --

is_same : (i j : ℕ) → eqb i j ≡ true → i ≡ j
is_same i j same = grind (arith, nat_tests)

is_apart : (i j : ℕ) → eqb i j ≡ false → i ≢ j
is_apart i j other same = grind (arith, nat_tests)

filter_alike : {X : Type 0} (p q : X → Bool) → ((x : X) → p x ≡ q x) → (xs : List X) → filter p xs ≡ filter q xs
filter_alike p q same [] = refl
filter_alike {X} p q same (x ∷ xs) =
    ap (λ b. cond {A = List X} b (x ∷ filter p xs) (filter p xs)) (same x) ∙ ap (λ l. cond {A = List X} (q x) (x ∷ l) l) (filter_alike p q same xs)

-- a count of what is left is the count, if none of those left out is counted
pub count_left : {X : Type 0} (p q : X → Bool) (xs : List X) → All (λ x. q x ≡ false → p x ≡ false) xs → count_by p (filter q xs) ≡ count_by p xs
count_left p q [] none = refl
count_left {X} p q (x ∷ xs) none =
    by_test (q x) refl (count_left p q xs (All-tail (λ y. q y ≡ false → p y ≡ false) x xs none)) (All-head (λ y. q y ≡ false → p y ≡ false) x xs none)
  where
    by_test : (b : Bool) → q x ≡ b → count_by p (filter q xs) ≡ count_by p xs → (q x ≡ false → p x ≡ false) → count_by p (cond {A = List X} b (x ∷ filter q xs) (filter q xs)) ≡ count_by p (x ∷ xs)
    by_test true is ih off = omega (arith, ih, sum_by-cons (λ y. cond {A = ℕ} (p y) 1 0) x (filter q xs), sum_by-cons (λ y. cond {A = ℕ} (p y) 1 0) x xs)
    by_test false is ih off = omega (arith, ih, sum_by-cons (λ y. cond {A = ℕ} (p y) 1 0) x xs, ap (λ b. cond {A = ℕ} b 1 0) (off is))

-- another number is as live as it was
pub live_other : (n m : ℕ) → m ≢ n → (handles : List Handle) → is_live (without_handle n handles) m ≡ is_live handles m
live_other n m apart [] = refl
live_other n m apart (k ∷ handles) = by_test (eqb k.number n) refl (live_other n m apart handles)
  where
    by_test : (b : Bool) → eqb k.number n ≡ b → is_live (without_handle n handles) m ≡ is_live handles m → is_live (cond {A = List Handle} (not b) (k ∷ without_handle n handles) (without_handle n handles)) m ≡ is_live (k ∷ handles) m
    by_test true same ih = ih ∙ sym (ap (λ x. x || is_live handles m) (other_number k.number m (λ is. apart (sym is ∙ is_same k.number n same))))
    by_test false other ih = ap (λ x. eqb k.number m || x) ih

-- and what is live among those left was live
pub live_more : (n m : ℕ) (handles : List Handle) → is_live (without_handle n handles) m ≡ true → is_live handles m ≡ true
live_more n m [] never = never
live_more n m (k ∷ handles) is = by_test (eqb k.number n) (λ rest. live_more n m handles rest) is
  where
    or_yes : (x y : Bool) → y ≡ true → (x || y) ≡ true
    or_yes true y it = refl
    or_yes false y it = it

    by_head : (x y z : Bool) → (y ≡ true → z ≡ true) → (x || y) ≡ true → (x || z) ≡ true
    by_head true y z ih it = refl
    by_head false y z ih it = ih it

    by_test : (b : Bool) → (is_live (without_handle n handles) m ≡ true → is_live handles m ≡ true) → is_live (cond {A = List Handle} (not b) (k ∷ without_handle n handles) (without_handle n handles)) m ≡ true → is_live (k ∷ handles) m ≡ true
    by_test true ih it = or_yes (eqb k.number m) (is_live handles m) (ih it)
    by_test false ih it = by_head (eqb k.number m) (is_live (without_handle n handles) m) (is_live handles m) ih it

-- what is found among those left
pub found_left : (n m : ℕ) (handles : List Handle) → handle_at (without_handle n handles) m ≡ cond {A = Option Handle} (eqb n m) None (handle_at handles m)
found_left n m [] = by_test (eqb n m)
  where
    by_test : (b : Bool) → None ≡ cond {A = Option Handle} b None None
    by_test true = refl
    by_test false = refl
found_left n m (k ∷ handles) = by_test (eqb k.number n) refl (eqb k.number m) refl (found_left n m handles)
  where
    skip : (x y : Bool) (o : Option Handle) → (y ≡ true → x ≡ true) → cond {A = Option Handle} x None o ≡ cond {A = Option Handle} x None (cond {A = Option Handle} y (Some k) o)
    skip true y o so = refl
    skip false true o so = absurd (cc (so refl))
    skip false false o so = refl

    by_test : (b : Bool) → eqb k.number n ≡ b → (y : Bool) → eqb k.number m ≡ y → handle_at (without_handle n handles) m ≡ cond {A = Option Handle} (eqb n m) None (handle_at handles m) →
        handle_at (cond {A = List Handle} (not b) (k ∷ without_handle n handles) (without_handle n handles)) m ≡ cond {A = Option Handle} (eqb n m) None (cond {A = Option Handle} y (Some k) (handle_at handles m))
    by_test true same y at ih = ih ∙ skip (eqb n m) y (handle_at handles m) (λ is. same_number n m (sym (is_same k.number n same) ∙ is_same k.number m (at ∙ is)))
    by_test false other true at ih =
        ap (λ x. cond {A = Option Handle} x (Some k) (handle_at (without_handle n handles) m)) at
        ∙ sym (ap (λ x. cond {A = Option Handle} x None (Some k)) (other_number n m (λ is. is_apart k.number n other (is_same k.number m at ∙ sym is))))
    by_test false other false at ih = ap (λ x. cond {A = Option Handle} x (Some k) (handle_at (without_handle n handles) m)) at ∙ ih

module _ (a : Inside) (keeps : Keeps a) (tied : IsTied a.registry) (n : ℕ) (h : Handle) (found : handle_at a.registry.handles n ≡ Some h) (has : HasContent a h)
    (idle : h.held ≡ None) (unstaged : n ≡ h.table → is_staged (content_at a.blocks.tables h.key).next ≡ false) where
  abbrev pub left : List Handle
  left = without_handle n a.registry.handles

  abbrev pub tables : List Table
  tables = filter (λ (u : Table). has_handle left u.number) a.registry.tables

  abbrev state_left : List state.Handle
  state_left = filter (λ (k : state.Handle). not (eqb k.number n)) (means a).handles

  the_one : All (λ (k : Handle). k.number ≡ n → k ≡ h) a.registry.handles
  the_one = only_handle a.registry.handles n h tied.handles_rise found

  pub counted : (p : Handle → Bool) → p h ≡ false → count_by p left ≡ count_by p a.registry.handles
  counted p none =
      count_left p (λ (k : Handle). not (eqb k.number n)) a.registry.handles
      (λ i d within is. let k = get_or a.registry.handles i d in ap p (the_one i d within (is_same k.number n (is_so (eqb k.number n) is))) ∙ none)
    where
      is_so : (b : Bool) → not b ≡ false → b ≡ true
      is_so true is = refl
      is_so false never = absurd (cc (never))

  -- nothing is staged for a table whose owner's handle isn't left
  pub unstaged_left : All (λ (u : Table). is_live left u.number ≡ false → is_staged (content_at a.blocks.tables u.key).next ≡ false) a.registry.tables
  unstaged_left k d within gone = by_number (eqb (get_or a.registry.tables k d).number n) refl
    where
      u : Table
      u = get_or a.registry.tables k d

      by_number : (b : Bool) → eqb (get_or a.registry.tables k d).number n ≡ b → is_staged (content_at a.blocks.tables (get_or a.registry.tables k d).key).next ≡ false
      by_number true same =
          let number = is_same (get_or a.registry.tables k d).number n same in
          let owner = found_all (λ (x : Handle). All (λ (v : Table). x.number ≡ v.number → x.table ≡ v.number) a.registry.tables) (λ x. eqb x.number n) a.registry.handles h keeps.owners found k d within (known_handle a.registry.handles n h found ∙ sym number) in
          let the = (only_table a.registry.tables has.t tied.tables_rise tied.keys_apart (itself a keeps tied h has) k d within).1 (sym owner ∙ sym has.number) in
          ap (λ (v : Table). is_staged (content_at a.blocks.tables v.key).next) the
          ∙ ap (λ key. is_staged (content_at a.blocks.tables key).next) has.known
          ∙ unstaged (sym number ∙ sym owner)
      by_number false other = (keeps.filled k d within).unstaged (sym (live_other n (get_or a.registry.tables k d).number (is_apart (get_or a.registry.tables k d).number n other) a.registry.handles) ∙ gone)

  -- The state. --

  handles_left : state_left ≡ map (handle_in a.blocks.tables) left
  handles_left = filter-map (λ (k : state.Handle). not (eqb k.number n)) (handle_in a.blocks.tables) a.registry.handles

  live_left : (number : ℕ) → state.is_live state_left number ≡ is_live left number
  live_left number = ap (λ hs. state.is_live hs number) handles_left ∙ list_any-map (λ (k : state.Handle). eqb k.number number) (handle_in a.blocks.tables) left

  has_left : (number : ℕ) → state.has_handle state_left number ≡ has_handle left number
  has_left number = ap (λ hs. state.has_handle hs number) handles_left ∙ list_any-map (λ (k : state.Handle). eqb k.table number) (handle_in a.blocks.tables) left

  abbrev abandoned : state.Table → state.Table
  abandoned t = record t { registered = false; staged = None }

  abbrev table_as : Table → Bool → Option state.Staged → state.Table
  table_as u registered staged = record (table_with registered u (content_at a.blocks.tables u.key)) { staged = staged }

  table_left : All (λ (u : Table). table_in left a.blocks.tables u ≡ machine.after_leave state_left (table_in a.registry.handles a.blocks.tables u)) a.registry.tables
  table_left k d within =
      by_live (get_or a.registry.tables k d) (is_live left (get_or a.registry.tables k d).number) refl (unstaged_left k d within)
      ∙ sym (ap (λ b. cond {A = state.Table} b (table_in a.registry.handles a.blocks.tables (get_or a.registry.tables k d)) (abandoned (table_in a.registry.handles a.blocks.tables (get_or a.registry.tables k d)))) (live_left (get_or a.registry.tables k d).number))
    where
      by_live : (u : Table) (b : Bool) → is_live left u.number ≡ b → (is_live left u.number ≡ false → is_staged (content_at a.blocks.tables u.key).next ≡ false) →
          table_in left a.blocks.tables u ≡ cond {A = state.Table} (is_live left u.number) (table_in a.registry.handles a.blocks.tables u) (abandoned (table_in a.registry.handles a.blocks.tables u))
      by_live u true is none =
          ap (λ b. table_with b u (content_at a.blocks.tables u.key)) (is ∙ sym (live_more n u.number a.registry.handles is))
          ∙ sym (ap (λ b. cond {A = state.Table} b (table_in a.registry.handles a.blocks.tables u) (abandoned (table_in a.registry.handles a.blocks.tables u))) is)
      by_live u false is none =
          ap (λ b. table_with b u (content_at a.blocks.tables u.key)) is
          ∙ ap (table_as u false) (none_staged (content_at a.blocks.tables u.key).next (none is))
          ∙ sym (ap (λ b. cond {A = state.Table} b (table_in a.registry.handles a.blocks.tables u) (abandoned (table_in a.registry.handles a.blocks.tables u))) is)

  tables_left : filter (λ (t : state.Table). state.has_handle state_left t.number) (map (machine.after_leave state_left) (means a).tables) ≡ map (table_in left a.blocks.tables) tables
  tables_left =
      ap (filter (λ (t : state.Table). state.has_handle state_left t.number))
      (map-map (machine.after_leave state_left) (table_in a.registry.handles a.blocks.tables) a.registry.tables
      ∙ sym (map_all (table_in left a.blocks.tables) (λ u. machine.after_leave state_left (table_in a.registry.handles a.blocks.tables u)) a.registry.tables table_left))
      ∙ filter-map (λ (t : state.Table). state.has_handle state_left t.number) (table_in left a.blocks.tables) a.registry.tables
      ∙ ap (map (table_in left a.blocks.tables)) (filter_alike (λ (u : Table). state.has_handle state_left u.number) (λ (u : Table). has_handle left u.number) (λ u. has_left u.number) a.registry.tables)

  -- What is kept, with other contents that are the same for the tables that stay. --

  module _ (r : Listing) (b : Stored) (is : r ≡ without_handle_of a.registry n)
      (kept : All (λ (u : Table). kept_at b.tables u.key ≡ kept_at a.blocks.tables u.key) tables) (held : All (λ (k : Handle). kept_at b.tables k.key ≡ kept_at a.blocks.tables k.key) left) where
    abbrev pub after : Inside
    after = record a { registry = r; blocks = b }

    abbrev between : Inside
    between = record a { registry = without_handle_of a.registry n; blocks = b }

    content_same : (key : ℕ) → kept_at b.tables key ≡ kept_at a.blocks.tables key → content_at b.tables key ≡ content_at a.blocks.tables key
    content_same key same = ap (λ o. option_map_or (λ (x : Content). x) o no_content) same

    abbrev state_with : List state.Table → List state.Handle → List ℕ → ℕ → state.State
    state_with ts hs made drawn = record { tables = ts; handles = hs; handles_made = a.registry.made; ended = a.ended.items; made = made; drawn = drawn }

    pub dropped_means : (each_below (made_in b.pool.blocks) (length b.pool.sizes) ≡ (means a).made) → b.pool.requests ≡ a.blocks.pool.requests → means after ≡ machine.without_handles (λ k. eqb k.number n) (means a)
    dropped_means made drawn =
        ap (λ (l : Listing). means (record a { registry = l; blocks = b })) is
        ∙ ap (λ ts. state_with ts (map (handle_in b.tables) left) (each_below (made_in b.pool.blocks) (length b.pool.sizes)) b.pool.requests)
        (map_all (table_in left b.tables) (table_in left a.blocks.tables) tables
        (λ k d within. let u = get_or tables k d in ap (table_with (is_live left u.number) u) (content_same u.key (kept k d within)))
        ∙ sym tables_left)
        ∙ ap (λ hs. state_with (machine.without_handles (λ k. eqb k.number n) (means a)).tables hs (each_below (made_in b.pool.blocks) (length b.pool.sizes)) b.pool.requests)
        (map_all (handle_in b.tables) (handle_in a.blocks.tables) left (λ k d within. let x = get_or left k d in ap (handle_with x) (content_same x.key (held k d within))) ∙ sym handles_left)
        ∙ ap (λ m. state_with (machine.without_handles (λ k. eqb k.number n) (means a)).tables state_left m b.pool.requests) made
        ∙ ap (state_with (machine.without_handles (λ k. eqb k.number n) (means a)).tables state_left (means a).made) drawn

    uncounted : (u : Table) (p : Option ℕ → Bool) → p None ≡ false → count_by (λ (k : Handle). eqb k.table u.number && p k.held) left ≡ count_by (λ (k : Handle). eqb k.table u.number && p k.held) a.registry.handles
    uncounted u p none = counted (λ (k : Handle). eqb k.table u.number && p k.held) (and_none (eqb h.table u.number) (p h.held) (ap p idle ∙ none))
      where
        and_none : (x y : Bool) → y ≡ false → (x && y) ≡ false
        and_none true y off = off
        and_none false y off = refl

    filled_left : (u : Table) → kept_at b.tables u.key ≡ kept_at a.blocks.tables u.key → (is_live left u.number ≡ false → is_staged (content_at a.blocks.tables u.key).next ≡ false) → IsFilled a.registry.handles a.blocks.tables u → IsFilled left b.tables u
    filled_left u same none filled =
        let content = content_same u.key same in
        record {
          there = ap is_some same ∙ filled.there;
          size = ap (λ (x : Content). x.size) content ∙ filled.size;
          option = ap (λ (x : Content). x.option) content ∙ filled.option;
          views =
              ap (λ (x : Content). x.present.views) content ∙ filled.views ∙ sym (uncounted u (is_this (content_at a.blocks.tables u.key).version) refl)
              ∙ ap (λ (x : Content). count_by (λ (k : Handle). eqb k.table u.number && is_this x.version k.held) left) (sym content);
          older_views =
              ap (λ (x : Content). (older_in x.next).views) content ∙ filled.older_views ∙ sym (uncounted u (is_other (content_at a.blocks.tables u.key).version) refl)
              ∙ ap (λ (x : Content). count_by (λ (k : Handle). eqb k.table u.number && is_other x.version k.held) left) (sym content);
          told =
              subst (λ (x : Content). All (λ (k : Handle). k.table ≡ u.number → k.told ≤ x.version) left) (sym content)
              (All-filter (λ (k : Handle). not (eqb k.number n)) (λ (k : Handle). k.table ≡ u.number → k.told ≤ (content_at a.blocks.tables u.key).version) a.registry.handles filled.told);
          recent =
              subst (λ (x : Content). All (λ (k : Handle). k.table ≡ u.number → IsRecent x.version k.held) left) (sym content)
              (All-filter (λ (k : Handle). not (eqb k.number n)) (λ (k : Handle). k.table ≡ u.number → IsRecent (content_at a.blocks.tables u.key).version k.held) a.registry.handles filled.recent);
          unstaged = λ gone. ap (λ (x : Content). is_staged x.next) content ∙ none gone;
        }

    pub dropped_keeps : length b.tables ≡ length a.blocks.tables → b.most ≡ a.blocks.most → b.pool.bytes ≡ a.blocks.pool.bytes → b.pool.sizes ≡ a.blocks.pool.sizes →
        IsAccountOf b.pool (state.account_of (limits_of a.config) (means after)) → ((key : ℕ) → is_open b.tables key ≡ true → IsSome (table_at tables key)) → Keeps after
    dropped_keeps long most bytes sizes account known =
        subst (λ (l : Listing). let x : Inside = record a { registry = l; blocks = b } in Keeps x) (sym is)
        (record {
          table_room = keeps.table_room;
          handle_room = keeps.handle_room;
          content_room = long ∙ keeps.content_room;
          most = most ∙ keeps.most;
          pool_bytes = bytes ∙ keeps.pool_bytes;
          pool_sizes = sizes ∙ keeps.pool_sizes;
          account = subst (λ (l : Listing). IsAccountOf b.pool (state.account_of (limits_of a.config) (means (record a { registry = l; blocks = b })))) is account;
          fit = All-filter (λ (u : Table). has_handle left u.number) (λ (u : Table). has_misfit u.size u.rules ≡ false) a.registry.tables keeps.fit;
          had = handles_go_on.left a.registry n;
          owners =
              All-filter (λ (k : Handle). not (eqb k.number n)) (λ (k : Handle). All (λ (u : Table). k.number ≡ u.number → k.table ≡ u.number) tables) a.registry.handles
              (λ i d within. let k = get_or a.registry.handles i d in All-filter (λ (u : Table). has_handle left u.number) (λ (u : Table). k.number ≡ u.number → k.table ≡ u.number) a.registry.tables (keeps.owners i d within));
          filled = λ k d within.
              let u = get_or tables k d in
              filled_left u (kept k d within)
              (All-filter (λ (v : Table). has_handle left v.number) (λ (v : Table). is_live left v.number ≡ false → is_staged (content_at a.blocks.tables v.key).next ≡ false) a.registry.tables unstaged_left k d within)
              (All-filter (λ (v : Table). has_handle left v.number) (IsFilled a.registry.handles a.blocks.tables) a.registry.tables keeps.filled k d within);
          known = known;
        })

    -- Bags. --

    due_left : (other m : ℕ) → due_by b.tables other (handle_at left m) ≡ due_by a.blocks.tables other (handle_at a.registry.handles m)
    due_left other m = ap (due_by b.tables other) (found_left n m a.registry.handles) ∙ by_number (eqb n m) refl
      where
        nothing : (x : Bool) (c : Content) (o : Option ℕ) → o ≡ None → None ≡ cond {A = Option LentBytes} x (option_map (λ v. let view : LentBytes = record { loan = (version_at c v).loan; bytes = (version_at c v).bytes } in view) o) None
        nothing true c None none = refl
        nothing false c None none = refl
        nothing x c (Some v) never = absurd (cc (never))

        by_found : (o : Option Handle) → handle_at a.registry.handles m ≡ o → (n ≢ m) → due_by b.tables other o ≡ due_by a.blocks.tables other o
        by_found None at apart = refl
        by_found (Some k) at apart =
            ap (λ v. cond {A = Option LentBytes} (eqb k.app other) v None)
            (ap (λ (x : Content). held_by x k)
            (content_same k.key
            (found_all (λ (x : Handle). kept_at b.tables x.key ≡ kept_at a.blocks.tables x.key) (λ x. eqb x.number m) left k held
            (found_left n m a.registry.handles ∙ ap (λ x. cond {A = Option Handle} x None (handle_at a.registry.handles m)) (other_number n m apart) ∙ at))))

        by_number : (x : Bool) → eqb n m ≡ x → due_by b.tables other (cond {A = Option Handle} x None (handle_at a.registry.handles m)) ≡ due_by a.blocks.tables other (handle_at a.registry.handles m)
        by_number true same =
            nothing (eqb h.app other) (content_at a.blocks.tables h.key) h.held idle
            ∙ ap (due_by a.blocks.tables other) (sym found ∙ ap (handle_at a.registry.handles) (is_same n m same))
        by_number false apart = by_found (handle_at a.registry.handles m) refl (is_apart n m apart)

    pub dropped_bags : (other : ℕ) (bag : HeldViews) → Holds (plain_of a) other bag → Holds (plain_of after) other bag
    dropped_bags other bag =
        bags_go_on a after other bag refl (λ m. ap (λ (l : Listing). due_by b.tables other (handle_at l.handles m)) is ∙ due_left other m)
        (ap (λ (l : Listing). count_by (is_due other) l.handles) is ∙ counted (is_due other) (not_due (eqb h.app other) h.held idle))
      where
        not_due : (x : Bool) (o : Option ℕ) → o ≡ None → (x && is_some o) ≡ false
        not_due true None none = refl
        not_due false None none = refl
        not_due x (Some v) never = absurd (cc (never))
