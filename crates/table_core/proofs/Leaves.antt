-- A handle leaves: first what is staged for its table, if it is the owner's, and then the handle.
use Rattle.std.proofs.Common.{◌≡◌, ◌≢◌, ℕ, zero, suc, ◌<◌, ◌&&◌, ◌||◌, not, Bool, true, false, cond, eqb, Option, Some, None, is_some, List, [], ◌∷◌, ◌++◌, map, filter, length, get_or, set, count_by, All, refl, ap, sym, ◌∙◌, subst, arith}
use Rattle.std.specs.List.{list_any, AllPairs}
use Rattle.std.specs.Option.{IsSome, IsSomeAnd, option_map_or}
use Rattle.std.proofs.lemmas.Bool.Decides.{nat_tests}
use Rattle.std.proofs.lemmas.List.{length-set, map-append, get_or-set_same, get_or-set_other}
use Rattle.std.proofs.lemmas.List.Elements.{All-nil, All-cons, All-head, All-tail, All-filter}
use Rattle.fsw_base.specs.Blocks.{are_block_sizes, class_of}
use Rattle.fsw_base.specs.Limits.{limits_of}
use Rattle.fsw_base.specs.PoolAccounts.{Account, after_return}
use Rattle.fsw_base.proofs.Lists.{map_same}
use Rattle.es_pool.specs.Account.{IsAccountOf}
use Rattle.es_pool.specs.Pool.{PoolState, made_in, is_out, class_at, given_back}
use Rattle.es_pool.specs.declared.blocks.CutBlock.{CutBlock}
use Rattle.es_pool.proofs.Law.{returns_alike}
use Rattle.tbl_words.specs.Accounts.{after_returns}
use Rattle.tbl_words.specs.Tables as state
use Rattle.tbl_words.specs.Machine as machine
use Rattle.tbl_words.proofs.Accounts.{leaving_returns}
use Rattle.tbl_registry.specs.declared.rows.Handle.{Handle}
use Rattle.tbl_registry.specs.Listing.{Table, Listing, IsTied, handle_at, is_live, has_handle, table_at, number_at, table_under, without_handle, without_table}
use Rattle.tbl_registry.specs.Listed.{without_handle_of, key_under}
use Rattle.tbl_registry.proofs.HandleDrops.{drop_leaves}
use Rattle.tbl_registry.proofs.HandleNumbers.{same_number, other_number}
use Rattle.table_blocks.specs.Blocks.{Stored, IsWhole, closed, after_abort}
use Rattle.table_blocks.specs.Held.{HeldViews}
use Rattle.table_blocks.specs.Memory.{all_given_back}
use Rattle.table_blocks.specs.Contents.{Content, no_content, kept_at, content_at, is_open, is_double, is_staged, staged_in, older_in, blocks_of, without_staged, lent}
use Rattle.table_blocks.specs.Versions.{LentVersion}
use Rattle.table_blocks.specs.declared.next.Next.{Next}
use Rattle.table_blocks.specs.declared.next.Next.TheVariants.{Nothing, Inactive}
use Rattle.table_core.specs.declared.plain.PlainTables.TheInside.{Inside}
use Rattle.table_core.specs.Core.{Holds}
use Rattle.table_core.specs.Inside.{plain_of, means, table_in, each_below, is_this, is_other, Keeps}
use Rattle.table_core.specs.Views.{after_owner}
use Rattle.table_core.proofs.Aborts.{aborted_here, aborted_keeps}
use Rattle.table_core.proofs.Access.{any_found}
use Rattle.table_core.proofs.OtherVersions.{beside_keeps, beside_means, beside_bags, itself, key_room}
use Rattle.table_core.proofs.Changes.{map-map}
use Rattle.table_core.proofs.Drops.{counted, unstaged_left, dropped_means, dropped_keeps, dropped_bags}
use Rattle.table_core.proofs.Figures.{HasContent}
use Rattle.table_core.proofs.TableContents.{blocks_still}
use Rattle.table_core.proofs.Fields.{found_all, table_here}
use Rattle.table_core.proofs.Pools.{made_counted}
use Rattle.table_core.proofs.RegisterCalls.{not_so}
use Rattle.table_core.proofs.Registers.{count_none}

-- What the machine makes of a table whose owner's handle leaves doesn't depend on what was staged. --

leave_dropped : (left : List state.Handle) (m : ℕ) → state.is_live left m ≡ false → (tables : List state.Table) →
    map (machine.after_leave left) (state.with_table (λ (t : state.Table). let u : state.Table = record t { staged = None } in u) m tables) ≡ map (machine.after_leave left) tables
leave_dropped left m gone tables =
    map-map (machine.after_leave left) one tables ∙ map_same (λ t. machine.after_leave left (one t)) (machine.after_leave left) (λ t. by_number t (eqb t.number m) refl) tables
  where
    one : state.Table → state.Table
    one t = cond {A = state.Table} (eqb t.number m) (record t { staged = None }) t

    is_same : (t : state.Table) → eqb t.number m ≡ true → t.number ≡ m
    is_same t same = grind (arith, nat_tests)

    by_live : (t : state.Table) (b : Bool) → b ≡ false → cond {A = state.Table} b (record t { staged = None }) (record t { registered = false; staged = None }) ≡ cond {A = state.Table} b t (record t { registered = false; staged = None })
    by_live t true never = absurd (cc (never))
    by_live t false is = refl

    by_number : (t : state.Table) (b : Bool) → eqb t.number m ≡ b → machine.after_leave left (cond {A = state.Table} b (record t { staged = None }) t) ≡ machine.after_leave left t
    by_number t true same = by_live t (state.is_live left t.number) (ap (state.is_live left) (is_same t same) ∙ gone)
    by_number t false other = refl

none_live : (n : ℕ) (handles : List state.Handle) → state.is_live (filter (λ (k : state.Handle). not (eqb k.number n)) handles) n ≡ false
none_live n [] = refl
none_live n (k ∷ handles) = by_test (eqb k.number n) refl (none_live n handles)
  where
    by_test : (b : Bool) → eqb k.number n ≡ b → state.is_live (filter (λ (x : state.Handle). not (eqb x.number n)) handles) n ≡ false →
        state.is_live (cond {A = List state.Handle} (not b) (k ∷ filter (λ (x : state.Handle). not (eqb x.number n)) handles) (filter (λ (x : state.Handle). not (eqb x.number n)) handles)) n ≡ false
    by_test true same ih = ih
    by_test false other ih = ap (λ x. x || state.is_live (filter (λ (y : state.Handle). not (eqb y.number n)) handles) n) other ∙ ih

-- The owner's handle: what is staged is dropped. --

pub record IsUnstaged (a : Inside) (n : ℕ) (h : Handle) (b : Stored) : Type 0 where
  pub keeps : Keeps (record a { blocks = b })
  pub pool : b.pool ≡ a.blocks.pool
  pub unstaged : n ≡ h.table → is_staged (content_at b.tables h.key).next ≡ false
  pub leaves : machine.without_handles (λ k. eqb k.number n) (means (record a { blocks = b })) ≡ machine.without_handles (λ k. eqb k.number n) (means a)
  pub bags : (other : ℕ) (bag : HeldViews) → Holds (plain_of a) other bag → Holds (plain_of (record a { blocks = b })) other bag

pub owner_leaves : (a : Inside) → Keeps a → IsTied a.registry → (n : ℕ) (h : Handle) → handle_at a.registry.handles n ≡ Some h → (has : HasContent a h) (b : Stored) (loan : ℕ) → b ≡ after_owner (eqb n h.table) a.blocks h.key loan → IsUnstaged a n h b
owner_leaves a keeps tied n h found has b loan is = by_owner (eqb n h.table) refl (is_staged (content_at a.blocks.tables h.key).next) refl is
  where
    is_same : eqb n h.table ≡ true → n ≡ h.table
    is_same same = grind (arith, nat_tests)

    is_apart : eqb n h.table ≡ false → n ≢ h.table
    is_apart other same = grind (arith, nat_tests)

    still : b ≡ a.blocks → (n ≡ h.table → is_staged (content_at a.blocks.tables h.key).next ≡ false) → IsUnstaged a n h b
    still same none =
        subst (λ (s : Stored). IsUnstaged a n h s) (sym same)
        (record { keeps = keeps; pool = refl; unstaged = none; leaves = refl; bags = λ other bag holds. holds })

    unstaged_beside : (x : Bool) (version : LentVersion) → is_staged (cond {A = Next} x (Inactive version) Nothing) ≡ false
    unstaged_beside true version = refl
    unstaged_beside false version = refl

    dropped : n ≡ h.table → is_staged (content_at a.blocks.tables h.key).next ≡ true → b ≡ after_abort a.blocks h.key loan → IsUnstaged a n h b
    dropped owner staged now =
        let content = content_at a.blocks.tables h.key in
        let tables : b.tables ≡ set a.blocks.tables h.key (Some (without_staged content loan)) = ap (λ (s : Stored). s.tables) now in
        let pool : b.pool ≡ a.blocks.pool = ap (λ (s : Stored). s.pool) now in
        let most : b.most ≡ a.blocks.most = ap (λ (s : Stored). s.most) now in
        let live : is_live a.registry.handles h.table ≡ true = ap (is_live a.registry.handles) (sym owner) ∙ any_found (λ (k : Handle). eqb k.number n) a.registry.handles ∙ ap is_some found in
        let within : h.key < length a.blocks.tables = omega (arith, key_room a keeps tied h has, has.known) in
        record {
          keeps = beside_keeps a keeps tied h has b (without_staged content loan) tables pool most (aborted_keeps content loan staged) live;
          pool = pool;
          unstaged = λ own.
              ap (λ l. is_staged (content_at l h.key).next) tables
              ∙ ap (λ o. is_staged (option_map_or (λ (x : Content). x) o no_content).next) (get_or-set_same a.blocks.tables h.key (Some (without_staged content loan)) None within)
              ∙ unstaged_beside (is_double content) (lent loan (staged_in content.next).bytes (staged_in content.next).whole);
          leaves =
              ap (machine.without_handles (λ k. eqb k.number n))
              (beside_means a keeps tied h has b (without_staged content loan) tables pool most (aborted_keeps content loan staged) live n found (λ (t : state.Table). let u : state.Table = record t { staged = None } in u)
              (aborted_here (is_live a.registry.handles has.t.number) has.t content loan)
              ∙ ap (λ o. option_map_or (λ (t : state.Table). let s : state.State = record (means a) { tables = state.with_table (λ (v : state.Table). let u : state.Table = record v { staged = None } in u) t.number (means a).tables } in s) o (means a)) (table_here a tied n h found has.t has.there))
              ∙ ap (λ (ts : List state.Table). let s : state.State = record (means a) { handles = filter (λ (k : state.Handle). not (eqb k.number n)) (means a).handles; tables = filter (λ (t : state.Table). state.has_handle (filter (λ (k : state.Handle). not (eqb k.number n)) (means a).handles) t.number) ts } in s)
              (leave_dropped (filter (λ (k : state.Handle). not (eqb k.number n)) (means a).handles) has.t.number
              (ap (state.is_live (filter (λ (k : state.Handle). not (eqb k.number n)) (means a).handles)) (has.number ∙ sym owner) ∙ none_live n (means a).handles)
              (means a).tables);
          bags = beside_bags a keeps tied h has b (without_staged content loan) tables pool most (aborted_keeps content loan staged) live;
        }

    by_owner : (x : Bool) → eqb n h.table ≡ x → (y : Bool) → is_staged (content_at a.blocks.tables h.key).next ≡ y → b ≡ cond {A = Stored} (x && y) (after_abort a.blocks h.key loan) a.blocks → IsUnstaged a n h b
    by_owner true owner true staged now = dropped (is_same owner) staged now
    by_owner true owner false staged now = still now (λ own. staged)
    by_owner false owner y staged now = still now (λ own. absurd (is_apart owner own))

-- What is so of a table that leaves. --

all_pass : {X : Type 0} (p : X → Bool) (xs : List X) → All (λ x. p x ≡ true) (filter p xs)
all_pass p [] = All-nil (λ x. p x ≡ true)
all_pass {X} p (x ∷ xs) = by_test (p x) refl (all_pass p xs)
  where
    by_test : (b : Bool) → p x ≡ b → All (λ y. p y ≡ true) (filter p xs) → All (λ y. p y ≡ true) (cond {A = List X} b (x ∷ filter p xs) (filter p xs))
    by_test true is ih = All-cons (λ y. p y ≡ true) x (filter p xs) is ih
    by_test false is ih = ih

none_any : {X : Type 0} (p : X → Bool) (xs : List X) → list_any p xs ≡ false → All (λ x. p x ≡ false) xs
none_any {X} p [] none = All-nil (λ x. p x ≡ false)
none_any {X} p (x ∷ xs) none = All-cons (λ y. p y ≡ false) x xs (first (p x) none) (none_any p xs (rest (p x) none))
  where
    first : (b : Bool) → (b || list_any p xs) ≡ false → b ≡ false
    first true never = absurd (cc (never))
    first false is = refl

    rest : (b : Bool) → (b || list_any p xs) ≡ false → list_any p xs ≡ false
    rest true never = absurd (cc (never))
    rest false is = is

-- the tables that stay have other keys
left_apart : (key : ℕ) (tables : List Table) → All (λ (u : Table). u.key ≢ key) (without_table key tables)
left_apart key tables k d within same = by_test (eqb (get_or (without_table key tables) k d).key key) refl (all_pass (λ (u : Table). not (eqb u.key key)) tables k d within)
  where
    by_test : (b : Bool) → eqb (get_or (without_table key tables) k d).key key ≡ b → not b ≡ true → ⊥
    by_test true is never = cc (never)
    by_test false is off = cc (sym is ∙ same_number (get_or (without_table key tables) k d).key key same)

-- and are found as they were
found_without : (other key : ℕ) → key ≢ other → (tables : List Table) → table_at (without_table other tables) key ≡ table_at tables key
found_without other key apart [] = refl
found_without other key apart (u ∷ tables) = by_test (eqb u.key other) refl (found_without other key apart tables)
  where
    is_same : eqb u.key other ≡ true → u.key ≡ other
    is_same same = grind (arith, nat_tests)

    by_test : (b : Bool) → eqb u.key other ≡ b → table_at (without_table other tables) key ≡ table_at tables key → table_at (cond {A = List Table} (not b) (u ∷ without_table other tables) (without_table other tables)) key ≡ table_at (u ∷ tables) key
    by_test true same ih = ih ∙ sym (ap (λ x. cond {A = Option Table} x (Some u) (table_at tables key)) (other_number u.key key (λ is. apart (sym is ∙ is_same same))))
    by_test false off ih = ap (λ o. cond {A = Option Table} (eqb u.key key) (Some u) o) ih

record SplitAt (tables : List Table) (t : Table) : Type 0 where
  before : List Table
  behind : List Table
  is : tables ≡ before ++ t ∷ behind
  without : without_table t.key tables ≡ before ++ behind

none_out : (key : ℕ) (tables : List Table) → All (λ (u : Table). u.key ≢ key) tables → without_table key tables ≡ tables
none_out key [] none = refl
none_out key (u ∷ tables) none =
    ap (λ b. cond {A = List Table} (not b) (u ∷ without_table key tables) (without_table key tables)) (other_number u.key key (All-head (λ (v : Table). v.key ≢ key) u tables none))
    ∙ ap (λ l. u ∷ l) (none_out key tables (All-tail (λ (v : Table). v.key ≢ key) u tables none))

split_at : (tables : List Table) (t : Table) → AllPairs (λ earlier later. earlier.key ≡ later.key → ⊥) tables → table_at tables t.key ≡ Some t → SplitAt tables t
split_at [] t apart never = absurd (cc (never))
split_at (u ∷ tables) t apart here =
    by_test (eqb u.key t.key) refl (λ rest. split_at tables t (λ i j d lt inside. apart (suc i) (suc j) d (omega (arith, lt)) (omega (arith, inside))) rest) here
  where
    some_is : Some u ≡ Some t → u ≡ t
    some_is same = ap (λ o. option_map_or (λ w. w) o u) same

    others : u ≡ t → All (λ (v : Table). v.key ≢ t.key) tables
    others same k d inside is = apart 0 (suc k) d (omega arith) (omega (arith, inside)) (ap (λ (w : Table). w.key) same ∙ sym is)

    by_test : (b : Bool) → eqb u.key t.key ≡ b → (table_at tables t.key ≡ Some t → SplitAt tables t) → cond {A = Option Table} b (Some u) (table_at tables t.key) ≡ Some t → SplitAt (u ∷ tables) t
    by_test true same ih it = record {
      before = [];
      behind = tables;
      is = ap (λ v. v ∷ tables) (some_is it);
      without = ap (λ b. cond {A = List Table} (not b) (u ∷ without_table t.key tables) (without_table t.key tables)) same ∙ none_out t.key tables (others (some_is it));
    }
    by_test false other ih rest =
        let s = ih rest in
        record {
          before = u ∷ s.before;
          behind = s.behind;
          is = ap (λ l. u ∷ l) s.is;
          without = ap (λ b. cond {A = List Table} (not b) (u ∷ without_table t.key tables) (without_table t.key tables)) other ∙ ap (λ l. u ∷ l) s.without;
        }

-- Blocks that go back. --

back_requests : (pool : PoolState) (blocks : List ℕ) → (all_given_back pool blocks).requests ≡ pool.requests
back_requests pool [] = refl
back_requests pool (block ∷ blocks) = back_requests (given_back pool block) blocks

back_bytes : (pool : PoolState) (blocks : List ℕ) → (all_given_back pool blocks).bytes ≡ pool.bytes
back_bytes pool [] = refl
back_bytes pool (block ∷ blocks) = back_bytes (given_back pool block) blocks

back_sizes : (pool : PoolState) (blocks : List ℕ) → (all_given_back pool blocks).sizes ≡ pool.sizes
back_sizes pool [] = refl
back_sizes pool (block ∷ blocks) = back_sizes (given_back pool block) blocks

returns_made : (account : Account) (class count : ℕ) → (after_returns account class count).made ≡ account.made
returns_made account class zero = refl
returns_made account class (suc count) = returns_made (after_return account class) class count

-- the other blocks are what they were
out_still : (pool : PoolState) (block other : ℕ) → other ≢ block → is_out (given_back pool block) other ≡ is_out pool other
out_still pool block other apart = ap (λ (x : CutBlock). x.out) (get_or-set_other pool.blocks block other (record { class = class_at pool block; out = false }) (record { class = 0; out = false }) apart)

class_still : (pool : PoolState) (block other : ℕ) → other ≢ block → class_at (given_back pool block) other ≡ class_at pool other
class_still pool block other apart = ap (λ (x : CutBlock). x.class) (get_or-set_other pool.blocks block other (record { class = class_at pool block; out = false }) (record { class = 0; out = true }) apart)

blocks_return : (pool : PoolState) (account : Account) (most : ℕ) (c : Content) → IsAccountOf pool account → IsWhole pool most c → IsAccountOf (all_given_back pool (blocks_of c)) (after_returns account (class_at pool c.first) (state.blocks_for c.option))
blocks_return pool account most c is whole = by_double (eqb c.option 1) refl
  where
    one : IsAccountOf (given_back pool c.first) (after_return account (class_at pool c.first))
    one = returns_alike pool (given_back pool c.first) account (after_return account (class_at pool c.first)) c.first (class_at pool c.first) is whole.first_out refl refl refl

    some_is : (x y : ℕ) → Some x ≡ Some y → x ≡ y
    some_is x y same = ap (λ o. option_map_or (λ w. w) o x) same

    same_class : class_at pool c.first ≡ class_at pool c.second
    same_class = some_is (class_at pool c.first) (class_at pool c.second) (sym whole.first_class ∙ whole.second_class)

    by_double : (b : Bool) → eqb c.option 1 ≡ b → IsAccountOf (all_given_back pool (cond {A = List ℕ} b (c.first ∷ c.second ∷ []) (c.first ∷ []))) (after_returns account (class_at pool c.first) (cond {A = ℕ} b 2 1))
    by_double false single = one
    by_double true double =
        returns_alike (given_back pool c.first) (given_back (given_back pool c.first) c.second) (after_return account (class_at pool c.first)) (after_return (after_return account (class_at pool c.first)) (class_at pool c.first)) c.second (class_at pool c.first) one
        (out_still pool c.first c.second (λ same. whole.apart double (sym same)) ∙ whole.second_out)
        (same_class ∙ sym (class_still pool c.first c.second (λ same. whole.apart double (sym same)))) refl refl

-- Then the handle. --

module _ (a : Inside) (keeps : Keeps a) (tied : IsTied a.registry) (n : ℕ) (h : Handle) (found : handle_at a.registry.handles n ≡ Some h) (has : HasContent a h)
    (idle : h.held ≡ None) (unstaged : n ≡ h.table → is_staged (content_at a.blocks.tables h.key).next ≡ false) where
  live : is_live a.registry.handles n ≡ true
  live = any_found (λ (k : Handle). eqb k.number n) a.registry.handles ∙ ap is_some found

  abbrev left : List Handle
  left = without_handle n a.registry.handles

  pub table_is : table_under a.registry.handles n ≡ h.table
  table_is = ap (λ o. option_map_or (λ (k : Handle). k.table) o 0) found

  key_is : key_under a.registry.handles n ≡ h.key
  key_is = ap (λ o. option_map_or (λ (k : Handle). k.key) o 0) found

  drop_is : (b : Bool) → has_handle left h.table ≡ b → without_handle_of a.registry n ≡ record a.registry { handles = left; tables = cond {A = List Table} b a.registry.tables (without_table h.key a.registry.tables) }
  drop_is b is =
      drop_leaves a.registry n tied keeps.had live
      ∙ ap (λ m. let l : Listing = record a.registry { handles = left; tables = cond {A = List Table} (has_handle left m) a.registry.tables (without_table (key_under a.registry.handles n) a.registry.tables) } in l) table_is
      ∙ ap (λ k. let l : Listing = record a.registry { handles = left; tables = cond {A = List Table} (has_handle left h.table) a.registry.tables (without_table k a.registry.tables) } in l) key_is
      ∙ ap (λ x. let l : Listing = record a.registry { handles = left; tables = cond {A = List Table} x a.registry.tables (without_table h.key a.registry.tables) } in l) is

  -- whether others are left
  pub last_is : (new : Listing) (result b : Bool) → new ≡ record a.registry { handles = left } → result ≡ not (has_handle new.handles (table_under a.registry.handles n)) → result ≡ b → has_handle left h.table ≡ not b
  last_is new result b now is same =
      not_so (has_handle left h.table) b
      (sym (ap (λ (l : Listing). not (has_handle l.handles (table_under a.registry.handles n))) now ∙ ap (λ m. not (has_handle left m)) table_is) ∙ sym is ∙ same)

  -- If no handle of the table is left. --

  pub removed : (new : Listing) → new ≡ record a.registry { handles = left } → has_handle left h.table ≡ false → IsSomeAnd (number_at new.tables h.key) (λ number. has_handle new.handles number ≡ false)
  removed new now last =
      subst (λ (l : Listing). IsSomeAnd (number_at l.tables h.key) (λ number. has_handle l.handles number ≡ false)) (sym now)
      (subst (λ o. IsSomeAnd o (λ number. has_handle left number ≡ false)) (sym (found_all (λ (x : Handle). number_at a.registry.tables x.key ≡ Some x.table) (λ x. eqb x.number n) a.registry.handles h tied.tables_there found)) last)

  none_left : has_handle left h.table ≡ false → All (λ (k : Handle). eqb k.table h.table ≡ false) left
  none_left last = none_any (λ (k : Handle). eqb k.table h.table) left last

  others_apart : has_handle left h.table ≡ false → All (λ (k : Handle). k.key ≢ h.key) left
  others_apart last k d within same =
      absurd (cc (sym (same_number (get_or left k d).table h.table
      (some_is (get_or left k d).table h.table
      (sym (All-filter (λ (x : Handle). not (eqb x.number n)) (λ (x : Handle). number_at a.registry.tables x.key ≡ Some x.table) a.registry.handles tied.tables_there k d within)
      ∙ ap (number_at a.registry.tables) same
      ∙ found_all (λ (x : Handle). number_at a.registry.tables x.key ≡ Some x.table) (λ x. eqb x.number n) a.registry.handles h tied.tables_there found)))
      ∙ none_left last k d within))
    where
      some_is : (x y : ℕ) → Some x ≡ Some y → x ≡ y
      some_is x y is = ap (λ o. option_map_or (λ w. w) o x) is

  -- the owner's handle isn't left
  owner_gone : has_handle left h.table ≡ false → is_live left has.t.number ≡ false
  owner_gone last =
      no_owner left
      (λ k d within is.
      let x = get_or left k d in
      absurd (cc (sym (same_number x.table h.table (All-filter (λ (y : Handle). not (eqb y.number n)) (λ (y : Handle). y.number ≡ has.t.number → y.table ≡ has.t.number) a.registry.handles
      (λ i e inside. let y = get_or a.registry.handles i e in found_all (λ (u : Table). y.number ≡ u.number → y.table ≡ u.number) (λ u. eqb u.key h.key) a.registry.tables has.t (keeps.owners i e inside) has.there) k d within is ∙ has.number)) ∙ none_left last k d within)))
    where
      is_same : (m : ℕ) → eqb m has.t.number ≡ true → m ≡ has.t.number
      is_same m same = grind (arith, nat_tests)

      no_owner : (hs : List Handle) → All (λ (k : Handle). k.number ≡ has.t.number → ⊥) hs → is_live hs has.t.number ≡ false
      no_owner [] none = refl
      no_owner (k ∷ hs) none =
          ap (λ b. b || is_live hs has.t.number) (by_test (eqb k.number has.t.number) refl)
          ∙ no_owner hs (All-tail (λ (x : Handle). x.number ≡ has.t.number → ⊥) k hs none)
        where
          by_test : (b : Bool) → eqb k.number has.t.number ≡ b → b ≡ false
          by_test true same = absurd (All-head (λ (x : Handle). x.number ≡ has.t.number → ⊥) k hs none (is_same k.number same))
          by_test false other = refl

  pub gone_unstaged : has_handle left h.table ≡ false → is_staged (content_at a.blocks.tables h.key).next ≡ false
  gone_unstaged last =
      ap (λ key. is_staged (content_at a.blocks.tables key).next) (sym has.known)
      ∙ found_all (λ (u : Table). is_live left u.number ≡ false → is_staged (content_at a.blocks.tables u.key).next ≡ false) (λ u. eqb u.key h.key) a.registry.tables has.t (unstaged_left a keeps tied n h found has idle unstaged) has.there (owner_gone last)

  none_counted_left : has_handle left h.table ≡ false → (p : Option ℕ → Bool) → p None ≡ false → count_by (λ (k : Handle). eqb k.table has.t.number && p k.held) a.registry.handles ≡ 0
  none_counted_left last p none =
      sym (counted a keeps tied n h found has idle unstaged (λ (k : Handle). eqb k.table has.t.number && p k.held) (and_none (eqb h.table has.t.number) (p h.held) (ap p idle ∙ none)))
      ∙ count_none (λ (k : Handle). eqb k.table has.t.number && p k.held) left
      (λ k d within. let x = get_or left k d in ap (λ b. b && p x.held) (ap (eqb x.table) has.number ∙ none_left last k d within))
    where
      and_none : (x y : Bool) → y ≡ false → (x && y) ≡ false
      and_none true y off = off
      and_none false y off = refl

  pub gone_views : has_handle left h.table ≡ false → (content_at a.blocks.tables h.key).present.views ≡ 0
  gone_views last =
      ap (λ key. (content_at a.blocks.tables key).present.views) (sym has.known) ∙ has.filled.views
      ∙ none_counted_left last (is_this (content_at a.blocks.tables has.t.key).version) refl

  pub gone_older : has_handle left h.table ≡ false → (older_in (content_at a.blocks.tables h.key).next).views ≡ 0
  gone_older last =
      ap (λ key. (older_in (content_at a.blocks.tables key).next).views) (sym has.known) ∙ has.filled.older_views
      ∙ none_counted_left last (is_other (content_at a.blocks.tables has.t.key).version) refl

  -- Others are left: the table stays. --

  module _ (r : Listing) (is : r ≡ record a.registry { handles = left }) (some : has_handle left h.table ≡ true) where
    same_listing : r ≡ without_handle_of a.registry n
    same_listing = is ∙ sym (drop_is true some)

    tables_same : filter (λ (u : Table). has_handle left u.number) a.registry.tables ≡ a.registry.tables
    tables_same = ap (λ (l : Listing). l.tables) (drop_is true some)

    pub stays_means : means (record a { registry = r }) ≡ machine.without_handles (λ k. eqb k.number n) (means a)
    stays_means = dropped_means a keeps tied n h found has idle unstaged r a.blocks same_listing (λ k d within. refl) (λ k d within. refl) refl refl

    pub stays_keeps : Keeps (record a { registry = r })
    stays_keeps =
        dropped_keeps a keeps tied n h found has idle unstaged r a.blocks same_listing (λ k d within. refl) (λ k d within. refl) refl refl refl refl
        (subst (λ (l : Listing). IsAccountOf a.blocks.pool (state.account_of (limits_of a.config) (means (record a { registry = l })))) (sym is)
        (subst (λ (out : List ℕ). IsAccountOf a.blocks.pool (record (state.account_of (limits_of a.config) (means a)) { out = out }))
        (sym (map_same (state.blocks_out a.config.sizes (map (table_in left a.blocks.tables) a.registry.tables)) (state.blocks_out a.config.sizes (means a).tables) (λ block. blocks_still left a.registry.handles a.blocks.tables a.blocks.tables a.config.sizes block a.registry.tables) a.config.sizes))
        keeps.account))
        (λ key there. subst (λ ts. IsSome (table_at ts key)) (sym tables_same) (keeps.known key there))

    pub stays_bags : (other : ℕ) (bag : HeldViews) → Holds (plain_of a) other bag → Holds (plain_of (record a { registry = r })) other bag
    stays_bags = dropped_bags a keeps tied n h found has idle unstaged r a.blocks same_listing (λ k d within. refl) (λ k d within. refl)

  -- None is left: the table leaves too. --

  module _ (r : Listing) (b : Stored) (is : r ≡ record a.registry { handles = left; tables = without_table h.key a.registry.tables }) (last : has_handle left h.table ≡ false)
      (close : b ≡ closed a.blocks h.key) (whole : IsWhole a.blocks.pool a.blocks.most (content_at a.blocks.tables h.key)) (fit : are_block_sizes a.blocks.pool.sizes ≡ true) where
    abbrev content : Content
    content = content_at a.blocks.tables h.key

    gone_listing : r ≡ without_handle_of a.registry n
    gone_listing = is ∙ sym (drop_is false last)

    tables_gone : filter (λ (u : Table). has_handle left u.number) a.registry.tables ≡ without_table h.key a.registry.tables
    tables_gone = ap (λ (l : Listing). l.tables) (drop_is false last)

    contents_gone : b.tables ≡ set a.blocks.tables h.key None
    contents_gone = ap (λ (s : Stored). s.tables) close

    kept_else : (key : ℕ) → key ≢ h.key → kept_at b.tables key ≡ kept_at a.blocks.tables key
    kept_else key other = ap (λ l. kept_at l key) contents_gone ∙ get_or-set_other a.blocks.tables h.key key None None other

    kept_tables : All (λ (u : Table). kept_at b.tables u.key ≡ kept_at a.blocks.tables u.key) (filter (λ (u : Table). has_handle left u.number) a.registry.tables)
    kept_tables =
        subst (λ ts. All (λ (u : Table). kept_at b.tables u.key ≡ kept_at a.blocks.tables u.key) ts) (sym tables_gone)
        (λ k d within. kept_else (get_or (without_table h.key a.registry.tables) k d).key (left_apart h.key a.registry.tables k d within))

    kept_handles : All (λ (k : Handle). kept_at b.tables k.key ≡ kept_at a.blocks.tables k.key) left
    kept_handles k d within = kept_else (get_or left k d).key (others_apart last k d within)

    -- The pool's account. --

    abbrev account : Account
    account = state.account_of (limits_of a.config) (means a)

    abbrev class : ℕ
    class = class_at a.blocks.pool content.first

    option_is : has.t.option ≡ content.option
    option_is = sym has.filled.option ∙ ap (λ key. (content_at a.blocks.tables key).option) has.known

    size_is : has.t.size ≡ content.size
    size_is = sym has.filled.size ∙ ap (λ key. (content_at a.blocks.tables key).size) has.known

    pool_now : b.pool ≡ all_given_back a.blocks.pool (blocks_of content)
    pool_now = ap (λ (s : Stored). s.pool) close

    returned : IsAccountOf b.pool (after_returns account class (state.blocks_for has.t.option))
    returned =
        subst (λ (p : PoolState). IsAccountOf p (after_returns account class (state.blocks_for has.t.option))) (sym pool_now)
        (subst (λ o. IsAccountOf (all_given_back a.blocks.pool (blocks_of content)) (after_returns account class (state.blocks_for o))) (sym option_is)
        (blocks_return a.blocks.pool account a.blocks.most content keeps.account whole))

    made_same : each_below (made_in b.pool.blocks) (length b.pool.sizes) ≡ (means a).made
    made_same = made_counted b.pool (after_returns account class (state.blocks_for has.t.option)) returned ∙ returns_made account class (state.blocks_for has.t.option)

    requests_same : b.pool.requests ≡ a.blocks.pool.requests
    requests_same = ap (λ (p : PoolState). p.requests) pool_now ∙ back_requests a.blocks.pool (blocks_of content)

    split : SplitAt a.registry.tables has.t
    split = split_at a.registry.tables has.t tied.keys_apart (itself a keeps tied h has)

    abbrev f : Table → state.Table
    f = table_in a.registry.handles a.blocks.tables

    abbrev of_tables : List state.Table → Account
    of_tables ts = state.account_of (limits_of a.config) (record (means a) { tables = ts })

    mapped_out : map f (without_table h.key a.registry.tables) ≡ map f split.before ++ map f split.behind
    mapped_out = ap (λ key. map f (without_table key a.registry.tables)) (sym has.known) ∙ ap (map f) split.without ∙ map-append f split.before split.behind

    mapped_in : (means a).tables ≡ map f split.before ++ f has.t ∷ map f split.behind
    mapped_in = ap (map f) split.is ∙ map-append f split.before (has.t ∷ split.behind)

    account_returned : of_tables (map f (without_table h.key a.registry.tables)) ≡ after_returns account class (state.blocks_for has.t.option)
    account_returned =
        ap of_tables mapped_out
        ∙ leaving_returns (limits_of a.config) (means a) (map f split.before) (f has.t) (map f split.behind) class (ap are_block_sizes (sym keeps.pool_sizes) ∙ fit)
        (ap (λ size. class_of size a.config.sizes) size_is ∙ ap (class_of content.size) (sym keeps.pool_sizes) ∙ whole.first_class)
        ∙ ap (λ ts. after_returns (of_tables ts) class (state.blocks_for has.t.option)) (sym mapped_in)

    abbrev account_with : List ℕ → List ℕ → ℕ → Account
    account_with out made drawn = record account { out = out; made = made; requests = drawn }

    account_now : IsAccountOf b.pool (state.account_of (limits_of a.config) (means (record a { registry = r; blocks = b })))
    account_now =
        subst (λ (l : Listing). IsAccountOf b.pool (state.account_of (limits_of a.config) (means (record a { registry = l; blocks = b })))) (sym is)
        (subst (λ (x : Account). IsAccountOf b.pool x)
        (sym (ap (λ out. account_with out (each_below (made_in b.pool.blocks) (length b.pool.sizes)) b.pool.requests)
        (map_same (state.blocks_out a.config.sizes (map (table_in left b.tables) (without_table h.key a.registry.tables))) (state.blocks_out a.config.sizes (map f (without_table h.key a.registry.tables)))
        (λ block. blocks_still left a.registry.handles a.blocks.tables b.tables a.config.sizes block (without_table h.key a.registry.tables)) a.config.sizes)
        ∙ ap (λ made. account_with (of_tables (map f (without_table h.key a.registry.tables))).out made b.pool.requests) made_same
        ∙ ap (account_with (of_tables (map f (without_table h.key a.registry.tables))).out (means a).made) requests_same
        ∙ account_returned))
        returned)

    known_now : (key : ℕ) → is_open b.tables key ≡ true → IsSome (table_at (filter (λ (u : Table). has_handle left u.number) a.registry.tables) key)
    known_now key there = subst (λ ts. IsSome (table_at ts key)) (sym tables_gone) (by_key (eqb key h.key) refl)
      where
        is_same : eqb key h.key ≡ true → key ≡ h.key
        is_same same = grind (arith, nat_tests)

        is_apart : eqb key h.key ≡ false → key ≢ h.key
        is_apart other same = grind (arith, nat_tests)

        within : h.key < length a.blocks.tables
        within = omega (arith, key_room a keeps tied h has, has.known)

        by_key : (x : Bool) → eqb key h.key ≡ x → IsSome (table_at (without_table h.key a.registry.tables) key)
        by_key true same =
            absurd (cc (sym there ∙ ap (is_open b.tables) (is_same same) ∙ ap (λ l. is_open l h.key) contents_gone ∙ ap is_some (get_or-set_same a.blocks.tables h.key None None within)))
        by_key false other =
            subst (λ o. IsSome o) (sym (found_without h.key key (is_apart other) a.registry.tables)) (keeps.known key (ap is_some (sym (kept_else key (is_apart other))) ∙ there))

    pub gone_means : means (record a { registry = r; blocks = b }) ≡ machine.without_handles (λ k. eqb k.number n) (means a)
    gone_means = dropped_means a keeps tied n h found has idle unstaged r b gone_listing kept_tables kept_handles made_same requests_same

    pub gone_keeps : Keeps (record a { registry = r; blocks = b })
    gone_keeps =
        dropped_keeps a keeps tied n h found has idle unstaged r b gone_listing kept_tables kept_handles (ap length contents_gone ∙ length-set a.blocks.tables h.key None) (ap (λ (s : Stored). s.most) close)
        (ap (λ (p : PoolState). p.bytes) pool_now ∙ back_bytes a.blocks.pool (blocks_of content)) (ap (λ (p : PoolState). p.sizes) pool_now ∙ back_sizes a.blocks.pool (blocks_of content)) account_now known_now

    pub gone_bags : (other : ℕ) (bag : HeldViews) → Holds (plain_of a) other bag → Holds (plain_of (record a { registry = r; blocks = b })) other bag
    gone_bags = dropped_bags a keeps tied n h found has idle unstaged r b gone_listing kept_tables kept_handles
