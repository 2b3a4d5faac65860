-- A table more, with its blocks and its owner's handle.
use Rattle.std.proofs.Common.{◌≡◌, ◌≢◌, ℕ, ◌+◌, ◌^◌, ◌<◌, ◌≤◌, ◌&&◌, ◌||◌, not, Bool, true, false, cond, eqb, Option, Some, None, is_some, List, [], ◌∷◌, ◌++◌, map, length, get_or, set, find, replicate, count_by, All, refl, ap, sym, ◌∙◌, subst, arith}
use Rattle.std.specs.Option.{IsSome, option_map, option_map_or, option_or}
use Rattle.std.proofs.lemmas.Bool.Decides.{nat_tests}
use Rattle.std.proofs.lemmas.List.{map-append, length-set, get_or-set_same, get_or-set_other}
use Rattle.std.proofs.lemmas.List.Elements.{All-head, All-tail, All-push}
use Rattle.std.proofs.lemmas.List.Folds.{list_any-append, find-append}
use Rattle.std.proofs.lemmas.List.Sums.{sum_by-cons}
use Rattle.fsw_base.specs.Blocks.{are_block_sizes, class_of}
use Rattle.fsw_base.specs.Limits.{limits_of}
use Rattle.fsw_base.specs.PoolAccounts.{Account, counted_by, after_draws}
use Rattle.es_pool.specs.Account.{IsAccountOf}
use Rattle.es_pool.specs.Pool.{made_in}
use Rattle.tbl_rules.specs.declared.rules.Rule.{Rule}
use Rattle.tbl_rules.specs.Rules.{has_misfit}
use Rattle.tbl_words.specs.Tables as state
use Rattle.tbl_words.specs.Machine as machine
use Rattle.tbl_words.proofs.Accounts.{registrations_draw}
use Rattle.tbl_registry.specs.declared.rows.Handle.{Handle}
use Rattle.tbl_registry.specs.Listing.{Table, Listing, IsTied, is_live, handle_at, table_at, number_at, with_new_handle, made_handle, AddsTable}
use Rattle.tbl_registry.specs.Listed.{AllHaveHandles}
use Rattle.tbl_registry.proofs.HandleDrops.{handles_go_on}
use Rattle.tbl_registry.proofs.HandleNumbers.{same_number, other_number}
use Rattle.tbl_registry.proofs.Ties.{none_has}
use Rattle.table_blocks.specs.declared.next.Next.{Next}
use Rattle.table_blocks.specs.declared.next.Next.TheVariants.{Nothing, Inactive, Staged}
use Rattle.table_blocks.specs.Blocks.{Stored, Opens}
use Rattle.table_blocks.specs.Contents.{Content, no_content, kept_at, content_at, is_open, is_staged, older_in}
use Rattle.table_core.specs.declared.plain.PlainTables.TheInside.{Inside}
use Rattle.table_core.specs.Inside.{means, table_in, table_with, handle_in, handle_with, staged_of, each_below, is_this, is_other, IsRecent, IsFilled, Keeps}
use Rattle.table_core.specs.Views.{held_by}
use Rattle.table_core.proofs.Bags.{held_view}
use Rattle.table_core.proofs.Fields.{found_all}
use Rattle.table_core.proofs.Pools.{draws_all, made_counted}
use Rattle.table_core.proofs.Shares.{live_still, grown}

-- Lists. --

pub map_all : {X Y : Type 0} (f g : X → Y) (xs : List X) → All (λ x. f x ≡ g x) xs → map f xs ≡ map g xs
map_all f g [] same = refl
map_all {X} f g (x ∷ xs) same =
    ap (λ y. y ∷ map f xs) (All-head (λ (z : X). f z ≡ g z) x xs same) ∙ ap (λ l. g x ∷ l) (map_all f g xs (All-tail (λ (z : X). f z ≡ g z) x xs same))

find_none : {X : Type 0} (p : X → Bool) (xs : List X) → All (λ x. p x ≡ false) xs → find p xs ≡ None
find_none p [] none = refl
find_none {X} p (x ∷ xs) none =
    ap (λ b. cond {A = Option X} b (Some x) (find p xs)) (All-head (λ (z : X). p z ≡ false) x xs none) ∙ find_none p xs (All-tail (λ (z : X). p z ≡ false) x xs none)

pub count_none : {X : Type 0} (p : X → Bool) (xs : List X) → All (λ x. p x ≡ false) xs → count_by p xs ≡ 0
count_none p [] none = refl
count_none {X} p (x ∷ xs) none =
    let first : cond {A = ℕ} (p x) 1 0 ≡ 0 = ap (λ b. cond {A = ℕ} b 1 0) (All-head (λ (z : X). p z ≡ false) x xs none) in
    omega (arith, sum_by-cons (λ y. cond {A = ℕ} (p y) 1 0) x xs, first, count_none p xs (All-tail (λ (z : X). p z ≡ false) x xs none))

pub none_staged : (next : Next) → is_staged next ≡ false → staged_of next ≡ None
none_staged Nothing is = refl
none_staged (Inactive version) is = refl
none_staged (Staged staged) never = absurd (cc (never))

module _ (a : Inside) (keeps : Keeps a) (tied : IsTied a.registry) (app : ℕ) (name : List ℕ) (size option : ℕ) (rules : List Rule)
    (r : Listing) (adds : AddsTable a.registry r app name size option rules) where
  abbrev pub one : Handle
  one = made_handle (a.registry.made + 1) app (a.registry.made + 1) adds.key

  abbrev pub row : Table
  row = record { number = a.registry.made + 1; key = adds.key; name = name; owner = app; size = size; option = option; rules = rules }

  abbrev pub listing : Listing
  listing = record (with_new_handle a.registry app (a.registry.made + 1) adds.key) { tables = a.registry.tables ++ row ∷ [] }

  pub added : r ≡ listing
  added =
      ap (λ (ts : List Table). let l : Listing = record r { tables = ts } in l) adds.tables
      ∙ ap (λ (l : Listing). let m : Listing = record l { tables = a.registry.tables ++ row ∷ [] } in m) adds.others

  -- no table had the key, and no handle
  other_keys : All (λ (t : Table). t.key ≢ adds.key) a.registry.tables
  other_keys = none_has a.registry.tables adds.key adds.free

  other_handles : All (λ (k : Handle). k.key ≢ adds.key) a.registry.handles
  other_handles k d within same =
      absurd (cc (sym (ap (option_map (λ (t : Table). t.number)) adds.free) ∙ sym (ap (number_at a.registry.tables) same) ∙ tied.tables_there k d within))

  -- and no handle was of its table
  handles_before : All (λ (k : Handle). k.table ≤ a.registry.made) a.registry.handles
  handles_before k d within = by_found (get_or a.registry.handles k d) (table_at a.registry.tables (get_or a.registry.handles k d).key) refl (tied.tables_there k d within)
    where
      some_is : (x y : ℕ) → Some x ≡ Some y → x ≡ y
      some_is x y same = ap (λ o. option_map_or (λ w. w) o x) same

      by_found : (h : Handle) (o : Option Table) → table_at a.registry.tables h.key ≡ o → option_map (λ (t : Table). t.number) o ≡ Some h.table → h.table ≤ a.registry.made
      by_found h None at never = absurd (cc (never))
      by_found h (Some t) at is =
          omega (arith, some_is t.number h.table is, found_all (λ (u : Table). u.number ≤ a.registry.made) (λ u. eqb u.key h.key) a.registry.tables t tied.tables_made at)

  -- the new handle is found
  pub found_new : handle_at r.handles (a.registry.made + 1) ≡ Some one
  found_new =
      ap (λ (l : Listing). handle_at l.handles (a.registry.made + 1)) added
      ∙ find-append (λ (k : Handle). eqb k.number (a.registry.made + 1)) a.registry.handles (one ∷ [])
      ∙ ap (λ o. option_or o (handle_at (one ∷ []) (a.registry.made + 1))) (find_none (λ (k : Handle). eqb k.number (a.registry.made + 1)) a.registry.handles (λ k d within. other_number (get_or a.registry.handles k d).number (a.registry.made + 1) (λ same. omega (arith, same, tied.handles_made k d within))))
      ∙ ap (λ b. cond {A = Option Handle} b (Some one) None) (same_number (a.registry.made + 1) (a.registry.made + 1) refl)

  pub owner_key : (o : Option Handle) (number : ℕ) (h : Handle) → o ≡ handle_at r.handles number → number ≡ a.registry.made + 1 → o ≡ Some h → h.key ≡ adds.key
  owner_key o number h is at some = ap (λ x. option_map_or (λ (k : Handle). k.key) x 0) (sym some ∙ is ∙ ap (handle_at r.handles) at ∙ found_new)

  pub key_within : adds.key < length a.blocks.tables
  key_within = omega (arith, adds.within, keeps.table_room, keeps.content_room)

  pub key_small : adds.key < 2 ^ 32
  key_small = omega (arith, adds.within, keeps.table_room, a.config.tables_in_range.1)

  pub key_closed : is_open a.blocks.tables adds.key ≡ false
  key_closed = by_test (is_open a.blocks.tables adds.key) refl
    where
      by_test : (b : Bool) → is_open a.blocks.tables adds.key ≡ b → b ≡ false
      by_test true is = absurd (cc (sym (ap is_some adds.free) ∙ keeps.known adds.key is))
      by_test false is = refl

  module _ (b : Stored) (c : Content) (opens : Opens a.blocks b adds.key size option c) where
    abbrev pub after : Inside
    after = record a { registry = listing; blocks = b }

    contents_now : b.tables ≡ set a.blocks.tables adds.key (Some c)
    contents_now = ap (λ (s : Stored). s.tables) opens.kept

    kept_new : kept_at b.tables adds.key ≡ Some c
    kept_new = ap (λ l. kept_at l adds.key) contents_now ∙ get_or-set_same a.blocks.tables adds.key (Some c) None key_within

    new_at : content_at b.tables adds.key ≡ c
    new_at = ap (λ o. option_map_or (λ (x : Content). x) o no_content) kept_new

    kept_old : (key : ℕ) → key ≢ adds.key → kept_at b.tables key ≡ kept_at a.blocks.tables key
    kept_old key other = ap (λ l. kept_at l key) contents_now ∙ get_or-set_other a.blocks.tables adds.key key (Some c) None other

    old_at : (key : ℕ) → key ≢ adds.key → content_at b.tables key ≡ content_at a.blocks.tables key
    old_at key other = ap (λ o. option_map_or (λ (x : Content). x) o no_content) (kept_old key other)

    -- what the other handles were lent
    pub registered_views : All (λ (k : Handle). held_view b.tables k ≡ held_view a.blocks.tables k) a.registry.handles
    registered_views k d within = let h = get_or a.registry.handles k d in ap (λ (x : Content). held_by x h) (old_at h.key (other_handles k d within))

    -- The state. --

    or_yes : (x y : Bool) → y ≡ true → (x || (y || false)) ≡ true
    or_yes true y is = refl
    or_yes false true is = refl
    or_yes false false is = is

    live_new : is_live (a.registry.handles ++ one ∷ []) (a.registry.made + 1) ≡ true
    live_new =
        list_any-append (λ k. eqb k.number (a.registry.made + 1)) a.registry.handles (one ∷ [])
        ∙ or_yes (is_live a.registry.handles (a.registry.made + 1)) (eqb (a.registry.made + 1) (a.registry.made + 1)) (same_number (a.registry.made + 1) (a.registry.made + 1) refl)

    abbrev fresh : ℕ → List ℕ → Option state.Staged → state.Table
    fresh version value staged = record (machine.new_table (a.registry.made + 1) app name size option rules) { version = version; value = value; loaded = not (eqb version 0); staged = staged }

    table_new : table_in (a.registry.handles ++ one ∷ []) b.tables row ≡ machine.new_table (a.registry.made + 1) app name size option rules
    table_new =
        ap (λ live. table_with live row (content_at b.tables adds.key)) live_new
        ∙ ap (table_with true row) new_at
        ∙ ap (λ version. fresh version c.present.bytes (staged_of c.next)) opens.version
        ∙ ap (λ value. fresh 0 value (staged_of c.next)) opens.zeros
        ∙ ap (fresh 0 (replicate size 0)) (none_staged c.next opens.not_staged)

    tables_now : map (table_in (a.registry.handles ++ one ∷ []) b.tables) (a.registry.tables ++ row ∷ []) ≡ (means a).tables ++ machine.new_table (a.registry.made + 1) app name size option rules ∷ []
    tables_now =
        map-append (table_in (a.registry.handles ++ one ∷ []) b.tables) a.registry.tables (row ∷ [])
        ∙ ap (λ l. l ++ table_in (a.registry.handles ++ one ∷ []) b.tables row ∷ [])
        (map_all (table_in (a.registry.handles ++ one ∷ []) b.tables) (table_in a.registry.handles a.blocks.tables) a.registry.tables
        (λ k d within.
        let t = get_or a.registry.tables k d in
        ap (λ live. table_with live t (content_at b.tables t.key)) (live_still a.registry.made a.registry.handles one refl t.number (tied.tables_made k d within))
        ∙ ap (table_with (is_live a.registry.handles t.number) t) (old_at t.key (other_keys k d within))))
        ∙ ap (λ t. (means a).tables ++ t ∷ []) table_new

    abbrev told_first : ℕ → state.Handle
    told_first version = record { number = a.registry.made + 1; app = app; table = a.registry.made + 1; marked = not (eqb version 0); hold = None }

    handles_now : map (handle_in b.tables) (a.registry.handles ++ one ∷ []) ≡ (means a).handles ++ told_first 0 ∷ []
    handles_now =
        map-append (handle_in b.tables) a.registry.handles (one ∷ [])
        ∙ ap (λ l. l ++ handle_in b.tables one ∷ [])
        (map_all (handle_in b.tables) (handle_in a.blocks.tables) a.registry.handles
        (λ k d within. ap (handle_with (get_or a.registry.handles k d)) (old_at (get_or a.registry.handles k d).key (other_handles k d within))))
        ∙ ap (λ h. (means a).handles ++ h ∷ []) (ap (handle_with one) new_at ∙ ap told_first opens.version)

    -- The pool. --

    module _ (class : ℕ) (here : class_of size a.config.sizes ≡ Some class) (within : class < length a.config.sizes) (fit : are_block_sizes a.config.sizes ≡ true) where
      abbrev account : Account
      account = after_draws (state.account_of (limits_of a.config) (means a)) class (state.blocks_for option)

      drawn_account : IsAccountOf b.pool account
      drawn_account = draws_all a.blocks.pool b.pool (state.account_of (limits_of a.config) (means a)) size option c class keeps.account here within opens.same_option opens.drawn

      requests_now : b.pool.requests ≡ counted_by a.blocks.pool.requests (state.blocks_for option)
      requests_now = sym drawn_account.requests

      made_now : each_below (made_in b.pool.blocks) (length b.pool.sizes) ≡ (machine.with_blocks (limits_of a.config) (means a) size (state.blocks_for option)).made
      made_now =
          made_counted b.pool account drawn_account
          ∙ sym (ap (λ o. option_map_or (λ k. (after_draws (state.account_of (limits_of a.config) (means a)) k (state.blocks_for option)).made) o (means a).made) here)

      abbrev state_with : List state.Table → List state.Handle → List ℕ → ℕ → state.State
      state_with tables handles made drawn = record { tables = tables; handles = handles; handles_made = a.registry.made + 1; ended = a.ended.items; made = made; drawn = drawn }

      pub registered_means : means after ≡ machine.with_new_table (limits_of a.config) (means a) app name size option rules
      registered_means =
          ap (λ tables. state_with tables (means after).handles (means after).made (means after).drawn) tables_now
          ∙ ap (λ handles. state_with ((means a).tables ++ machine.new_table (a.registry.made + 1) app name size option rules ∷ []) handles (means after).made (means after).drawn) handles_now
          ∙ ap (λ made. state_with ((means a).tables ++ machine.new_table (a.registry.made + 1) app name size option rules ∷ []) ((means a).handles ++ told_first 0 ∷ []) made (means after).drawn) made_now
          ∙ ap (state_with ((means a).tables ++ machine.new_table (a.registry.made + 1) app name size option rules ∷ []) ((means a).handles ++ told_first 0 ∷ []) (machine.with_blocks (limits_of a.config) (means a) size (state.blocks_for option)).made) requests_now

      -- What is kept. --

      moved : (t : Table) → t.key ≢ adds.key → IsFilled a.registry.handles a.blocks.tables t → IsFilled a.registry.handles b.tables t
      moved t other filled =
          let same = old_at t.key other in
          record {
            there = ap is_some (kept_old t.key other) ∙ filled.there;
            size = ap (λ (x : Content). x.size) same ∙ filled.size;
            option = ap (λ (x : Content). x.option) same ∙ filled.option;
            views = ap (λ (x : Content). x.present.views) same ∙ filled.views ∙ ap (λ (x : Content). count_by (λ (k : Handle). eqb k.table t.number && is_this x.version k.held) a.registry.handles) (sym same);
            older_views = ap (λ (x : Content). (older_in x.next).views) same ∙ filled.older_views ∙ ap (λ (x : Content). count_by (λ (k : Handle). eqb k.table t.number && is_other x.version k.held) a.registry.handles) (sym same);
            told = subst (λ (x : Content). All (λ (k : Handle). k.table ≡ t.number → k.told ≤ x.version) a.registry.handles) (sym same) filled.told;
            recent = subst (λ (x : Content). All (λ (k : Handle). k.table ≡ t.number → IsRecent x.version k.held) a.registry.handles) (sym same) filled.recent;
            unstaged = λ gone. ap (λ (x : Content). is_staged x.next) same ∙ filled.unstaged gone;
          }

      none_holds : (p : ℕ → Option ℕ → Bool) → ((v : ℕ) → p v None ≡ false) → (version : ℕ) → count_by (λ (k : Handle). eqb k.table (a.registry.made + 1) && p version k.held) (a.registry.handles ++ one ∷ []) ≡ 0
      none_holds p none version =
          count_none (λ (k : Handle). eqb k.table (a.registry.made + 1) && p version k.held) (a.registry.handles ++ one ∷ [])
          (All-push (λ (k : Handle). (eqb k.table (a.registry.made + 1) && p version k.held) ≡ false) a.registry.handles one
          (λ k d inside. ap (λ x. x && p version (get_or a.registry.handles k d).held) (other_number (get_or a.registry.handles k d).table (a.registry.made + 1) (λ same. omega (arith, same, handles_before k d inside))))
          (and_none (eqb (a.registry.made + 1) (a.registry.made + 1)) (p version None) (none version)))
        where
          and_none : (x y : Bool) → y ≡ false → (x && y) ≡ false
          and_none true y is = is
          and_none false y is = refl

      filled_new : IsFilled (a.registry.handles ++ one ∷ []) b.tables row
      filled_new = record {
        there = ap is_some kept_new;
        size = ap (λ (x : Content). x.size) new_at ∙ opens.same_size;
        option = ap (λ (x : Content). x.option) new_at ∙ opens.same_option;
        views = ap (λ (x : Content). x.present.views) new_at ∙ opens.no_view ∙ sym (none_holds is_this (λ v. refl) (content_at b.tables adds.key).version);
        older_views = ap (λ (x : Content). (older_in x.next).views) new_at ∙ opens.no_older_view ∙ sym (none_holds is_other (λ v. refl) (content_at b.tables adds.key).version);
        told = All-push (λ (k : Handle). k.table ≡ a.registry.made + 1 → k.told ≤ (content_at b.tables adds.key).version) a.registry.handles one
            (λ k d inside same. absurd (omega (arith, same, handles_before k d inside))) (λ same. omega arith);
        recent = All-push (λ (k : Handle). k.table ≡ a.registry.made + 1 → IsRecent (content_at b.tables adds.key).version k.held) a.registry.handles one
            (λ k d inside same. absurd (omega (arith, same, handles_before k d inside))) (λ same. tt);
        unstaged = λ gone. ap (λ (x : Content). is_staged x.next) new_at ∙ opens.not_staged;
      }

      known_now : (key : ℕ) → is_open b.tables key ≡ true → IsSome (table_at (a.registry.tables ++ row ∷ []) key)
      known_now key there =
          subst (λ o. IsSome o) (sym (find-append (λ (t : Table). eqb t.key key) a.registry.tables (row ∷ []))) (by_key (eqb adds.key key) refl (table_at a.registry.tables key) refl)
        where
          is_same : eqb adds.key key ≡ true → adds.key ≡ key
          is_same same = grind (arith, nat_tests)

          other : eqb adds.key key ≡ false → key ≢ adds.key
          other apart same = grind (arith, nat_tests)

          by_key : (x : Bool) → eqb adds.key key ≡ x → (o : Option Table) → table_at a.registry.tables key ≡ o → IsSome (option_or o (cond {A = Option Table} (eqb adds.key key) (Some row) None))
          by_key x same (Some t) at = refl
          by_key true same None at = ap (λ y. is_some (cond {A = Option Table} y (Some row) None)) same
          by_key false apart None at = absurd (cc (sym (ap is_some at) ∙ keeps.known key (ap is_some (sym (kept_old key (other apart))) ∙ there)))

      pub registered_keeps : has_misfit size rules ≡ false → Keeps after
      registered_keeps sound = record {
        table_room = keeps.table_room;
        handle_room = keeps.handle_room;
        content_room = ap length contents_now ∙ length-set a.blocks.tables adds.key (Some c) ∙ keeps.content_room;
        most = ap (λ (s : Stored). s.most) opens.kept ∙ keeps.most;
        pool_bytes = sym drawn_account.bytes;
        pool_sizes = sym drawn_account.sizes;
        account =
            subst (λ s. IsAccountOf b.pool (state.account_of (limits_of a.config) s)) (sym registered_means)
            (subst (λ x. IsAccountOf b.pool x) (sym (registrations_draw (limits_of a.config) (means a) app name size option rules class fit here)) drawn_account);
        fit = All-push (λ (t : Table). has_misfit t.size t.rules ≡ false) a.registry.tables row keeps.fit sound;
        had = subst (λ l. AllHaveHandles l) added (handles_go_on.opened a.registry r app name size option rules adds keeps.had);
        owners =
            All-push (λ (k : Handle). All (λ (t : Table). k.number ≡ t.number → k.table ≡ t.number) (a.registry.tables ++ row ∷ [])) a.registry.handles one
            (λ k d inside.
            let h = get_or a.registry.handles k d in
            All-push (λ (t : Table). h.number ≡ t.number → h.table ≡ t.number) a.registry.tables row (keeps.owners k d inside) (λ same. absurd (omega (arith, same, tied.handles_made k d inside))))
            (All-push (λ (t : Table). a.registry.made + 1 ≡ t.number → a.registry.made + 1 ≡ t.number) a.registry.tables row (λ k d inside same. same) (λ same. same));
        filled =
            All-push (IsFilled (a.registry.handles ++ one ∷ []) b.tables) a.registry.tables row
            (λ k d inside. grown b.tables a.registry.made a.registry.handles app (a.registry.made + 1) adds.key (get_or a.registry.tables k d) (tied.tables_made k d inside) (moved (get_or a.registry.tables k d) (other_keys k d inside) (keeps.filled k d inside)))
            filled_new;
        known = known_now;
      }
