-- A share.
use Rattle.std.proofs.Common.{◌≡◌, ℕ, suc, ◌+◌, ◌^◌, ◌<◌, ◌≤◌, ◌&&◌, ◌||◌, Bool, true, false, IsTrue, leb, ltb, cond, eqb, Option, Some, None, is_some, List, [], ◌∷◌, ◌++◌, map, length, get_or, find, count_by, All, refl, ap, sym, ◌∙◌, subst, arith}
use Rattle.std.specs.List.{AllPairs}
use Rattle.std.specs.Option.{IsSome, option_map, option_map_or}
use Rattle.std.specs.Str.{bytes_eq}
use Rattle.std.proofs.lemmas.Bool.Decides.{nat_tests}
use Rattle.std.proofs.lemmas.List.{map-append}
use Rattle.std.proofs.lemmas.List.Elements.{All-head, All-tail, All-push}
use Rattle.std.proofs.lemmas.List.Folds.{list_any-append}
use Rattle.std.proofs.lemmas.List.Sums.{sum_by_push}
use Rattle.fsw_base.specs.Limits.{limits_of}
use Rattle.es_pool.specs.Account.{IsAccountOf}
use Rattle.tbl_words.specs.declared.statuses.TblStatus.TheVariants.{ErrInvalidName, ErrHandlesFull}
use Rattle.tbl_words.specs.declared.calls.TblAnswer.TheVariants as answers
use Rattle.tbl_words.specs.declared.history.Call.TheVariants.{Share}
use Rattle.tbl_words.specs.Tables as state
use Rattle.tbl_words.specs.Machine as machine
use Rattle.tbl_registry.specs.declared.rows.Handle.{Handle}
use Rattle.tbl_registry.specs.Listing.{Table, Listing, IsTied, is_live, table_at, table_named, with_new_handle, made_handle, AddsHandle}
use Rattle.tbl_registry.proofs.HandleDrops.{handles_go_on}
use Rattle.tbl_registry.proofs.HandleNumbers.{same_number, other_number}
use Rattle.table_blocks.specs.Contents.{Content, content_at}
use Rattle.table_core.specs.declared.plain.PlainTables.TheInside.{Inside}
use Rattle.table_core.specs.Core.{Plain, Acts, has_handle_number}
use Rattle.table_core.specs.Inside.{plain_of, means, table_in, table_with, handle_in, is_this, is_other, IsRecent, IsFilled, Keeps}
use Rattle.table_core.proofs.CallLaws.{step_by, acts_from, acts_refused}
use Rattle.table_core.proofs.Access.{share_checked}
use Rattle.table_core.proofs.Bags.{bags_grown}
use Rattle.table_core.proofs.Fields.{named_here, found_all}

-- The table of a name, by its key. --

-- a table that is found in one way is the one with its key
pub found_by_key : (p : Table → Bool) (tables : List Table) (t : Table) → AllPairs (λ earlier later. earlier.key ≡ later.key → ⊥) tables → find p tables ≡ Some t → table_at tables t.key ≡ Some t
found_by_key p [] t apart is = absurd (cc (is))
found_by_key p (u ∷ tables) t apart is =
    by_test (λ rest. found_by_key p tables t (λ i j d lt within. apart (suc i) (suc j) d (omega (arith, lt)) (omega (arith, within))) rest) (p u) is
  where
    some_is : Some u ≡ Some t → u ≡ t
    some_is same = ap (λ o. option_map_or (λ w. w) o u) same

    others : All (λ (v : Table). u.key ≡ v.key → ⊥) tables
    others k d within = apart 0 (suc k) d (omega arith) (omega (arith, within))

    by_test : (find p tables ≡ Some t → table_at tables t.key ≡ Some t) → (b : Bool) → cond {A = Option Table} b (Some u) (find p tables) ≡ Some t → table_at (u ∷ tables) t.key ≡ Some t
    by_test ih true here =
        ap (λ b. cond {A = Option Table} b (Some u) (table_at tables t.key)) (same_number u.key t.key (ap (λ (w : Table). w.key) (some_is here))) ∙ here
    by_test ih false rest =
        ap (λ b. cond {A = Option Table} b (Some u) (table_at tables t.key)) (other_number u.key t.key (found_all (λ (v : Table). u.key ≡ v.key → ⊥) p tables t others rest))
        ∙ ih rest

-- the registered table of a name, which has a key
pub record IsNamed (a : Inside) (name : List ℕ) (key : ℕ) : Type 0 where
  pub t : Table
  pub found : table_named a.registry name ≡ Some t
  pub known : t.key ≡ key
  pub there : table_at a.registry.tables key ≡ Some t

pub is_named : (a : Inside) → IsTied a.registry → (name : List ℕ) (key : ℕ) → option_map (λ (t : Table). t.key) (table_named a.registry name) ≡ Some key → IsNamed a name key
is_named a tied name key is = by_found (table_named a.registry name) refl is
  where
    some_is : (x y : ℕ) → Some x ≡ Some y → x ≡ y
    some_is x y same = ap (λ o. option_map_or (λ w. w) o x) same

    by_found : (o : Option Table) → table_named a.registry name ≡ o → option_map (λ (t : Table). t.key) o ≡ Some key → IsNamed a name key
    by_found None at never = absurd (cc (never))
    by_found (Some t) at same =
        let known = some_is t.key key same in
        record {
          t = t;
          found = at;
          known = known;
          there = subst (λ k. table_at a.registry.tables k ≡ Some t) known (found_by_key (λ u. is_live a.registry.handles u.number && bytes_eq u.name name) a.registry.tables t tied.keys_apart at);
        }

-- so there is a table with the key
pub share_there : (a : Inside) → IsTied a.registry → (name : List ℕ) (key : ℕ) → option_map (λ (t : Table). t.key) (table_named a.registry name) ≡ Some key → IsSome (table_at a.registry.tables key)
share_there a tied name key is =
    let named = is_named a tied name key is in
    subst (λ o. IsSome o) (sym named.there) refl

-- One handle more. --

or_none : (b c : Bool) → c ≡ false → (b || (c || false)) ≡ b
or_none true c is = refl
or_none false true is = is
or_none false false is = refl

-- a number is left for one handle more
pub number_left : (a : Inside) (old : Plain) → plain_of a ≡ old → IsTrue (has_handle_number old.state) → a.registry.made + 1 < 2 ^ 32
number_left a old viewed left = small a.registry.made (subst (λ (p : Plain). IsTrue (has_handle_number p.state)) (sym viewed) left)
  where
    small : (n : ℕ) → ltb n 4294967295 ≡ true → n + 1 < 2 ^ 32
    small n is = grind (arith, nat_tests)

-- no table has a number past those that were made
pub live_still : (made : ℕ) (handles : List Handle) (h : Handle) → h.number ≡ made + 1 → (number : ℕ) → number ≤ made → is_live (handles ++ h ∷ []) number ≡ is_live handles number
live_still made handles h is number le =
    list_any-append (λ k. eqb k.number number) handles (h ∷ [])
    ∙ or_none (is_live handles number) (eqb h.number number) (other_number h.number number (λ same. omega (arith, same, is, le)))

tables_still : (contents : List (Option Content)) (made : ℕ) (handles : List Handle) (h : Handle) → h.number ≡ made + 1 → (tables : List Table) → All (λ t. t.number ≤ made) tables →
    map (table_in (handles ++ h ∷ []) contents) tables ≡ map (table_in handles contents) tables
tables_still contents made handles h is [] below = refl
tables_still contents made handles h is (t ∷ tables) below =
    ap (λ b. table_with b t (content_at contents t.key) ∷ map (table_in (handles ++ h ∷ []) contents) tables) (live_still made handles h is t.number (All-head (λ (u : Table). u.number ≤ made) t tables below))
    ∙ ap (λ l. table_in handles contents t ∷ l) (tables_still contents made handles h is tables (All-tail (λ (u : Table). u.number ≤ made) t tables below))

-- a handle more, which holds nothing
module _ (contents : List (Option Content)) (made : ℕ) (handles : List Handle) (app table key : ℕ) where
  abbrev one : Handle
  one = made_handle (made + 1) app table key

  none_more : (p : ℕ → Option ℕ → Bool) → ((v : ℕ) → p v None ≡ false) → (version number : ℕ) →
      count_by (λ (k : Handle). eqb k.table number && p version k.held) (handles ++ one ∷ []) ≡ count_by (λ (k : Handle). eqb k.table number && p version k.held) handles
  none_more p none version number =
      omega (arith, sum_by_push (λ (k : Handle). cond {A = ℕ} (eqb k.table number && p version k.held) 1 0) handles one, no_one (eqb table number) (p version None) (none version))
    where
      no_one : (b c : Bool) → c ≡ false → cond {A = ℕ} (b && c) 1 0 ≡ 0
      no_one true true never = absurd (cc (never))
      no_one true false is = refl
      no_one false c is = refl

  pub grown : (u : Table) → u.number ≤ made → IsFilled handles contents u → IsFilled (handles ++ one ∷ []) contents u
  grown u below filled = record {
    there = filled.there;
    size = filled.size;
    option = filled.option;
    views = filled.views ∙ sym (none_more is_this (λ v. refl) (content_at contents u.key).version u.number);
    older_views = filled.older_views ∙ sym (none_more is_other (λ v. refl) (content_at contents u.key).version u.number);
    told = All-push (λ (k : Handle). k.table ≡ u.number → k.told ≤ (content_at contents u.key).version) handles one filled.told (λ same. omega arith);
    recent = All-push (λ (k : Handle). k.table ≡ u.number → IsRecent (content_at contents u.key).version k.held) handles one filled.recent (λ same. tt);
    unstaged = λ gone. filled.unstaged (sym (live_still made handles one refl u.number below) ∙ gone);
  }

module _ (a : Inside) (keeps : Keeps a) (tied : IsTied a.registry) (app : ℕ) (t : Table) (there : table_at a.registry.tables t.key ≡ Some t) where
  abbrev h : Handle
  h = made_handle (a.registry.made + 1) app t.number t.key

  abbrev after : Inside
  after = record a { registry = with_new_handle a.registry app t.number t.key }

  -- the state has the handle too, to be told of the contents if the table was ever loaded
  pub new_handle_means : means after ≡ machine.with_new_handle (means a) app t.number (table_in a.registry.handles a.blocks.tables t).loaded
  new_handle_means =
      ap (λ (ts : List state.Table). let s : state.State = record (means after) { tables = ts } in s) (tables_still a.blocks.tables a.registry.made a.registry.handles h refl a.registry.tables tied.tables_made)
      ∙ ap (λ (hs : List state.Handle). let s : state.State = record (means a) { handles = hs; handles_made = a.registry.made + 1 } in s) (map-append (handle_in a.blocks.tables) a.registry.handles (h ∷ []))

  pub new_handle_keeps : Keeps after
  new_handle_keeps = record {
    table_room = keeps.table_room;
    handle_room = keeps.handle_room;
    content_room = keeps.content_room;
    most = keeps.most;
    pool_bytes = keeps.pool_bytes;
    pool_sizes = keeps.pool_sizes;
    account = subst (λ s. IsAccountOf a.blocks.pool (state.account_of (limits_of a.config) s)) (sym new_handle_means) keeps.account;
    fit = keeps.fit;
    had = handles_go_on.added a.registry app t.number t.key keeps.had;
    owners = All-push (λ (k : Handle). All (λ (u : Table). k.number ≡ u.number → k.table ≡ u.number) a.registry.tables) a.registry.handles h keeps.owners (λ k d within same. absurd (omega (arith, same, tied.tables_made k d within)));
    filled = λ k d within. grown a.blocks.tables a.registry.made a.registry.handles app t.number t.key (get_or a.registry.tables k d) (tied.tables_made k d within) (keeps.filled k d within);
    known = keeps.known;
  }

-- The call. --

module _ (a : Inside) (old : Plain) (viewed : plain_of a ≡ old) (tied : IsTied a.registry) (app : ℕ) (name : List ℕ) where
  -- no registered table has the name
  pub share_unnamed : option_map (λ (t : Table). t.key) (table_named a.registry name) ≡ None → Acts old old app (Share name) (answers.Refused ErrInvalidName)
  share_unnamed none =
      acts_refused a old app (Share name) ErrInvalidName viewed
      (share_checked a tied (limits_of a.config) name false (leb a.config.handles (length a.registry.handles)) (by_found (table_named a.registry name) none) refl)
    where
      by_found : (o : Option Table) → option_map (λ (t : Table). t.key) o ≡ None → is_some o ≡ false
      by_found None is = refl
      by_found (Some t) never = absurd (cc (never))

  named_so : (key : ℕ) → option_map (λ (t : Table). t.key) (table_named a.registry name) ≡ Some key → is_some (table_named a.registry name) ≡ true
  named_so key is = by_found (table_named a.registry name) is
    where
      by_found : (o : Option Table) → option_map (λ (t : Table). t.key) o ≡ Some key → is_some o ≡ true
      by_found None never = absurd (cc (never))
      by_found (Some t) here = refl

  -- as many handles are live as may be
  pub share_full : (key : ℕ) → option_map (λ (t : Table). t.key) (table_named a.registry name) ≡ Some key → a.config.handles ≤ length a.registry.handles →
      Acts old old app (Share name) (answers.Refused ErrHandlesFull)
  share_full key is full =
      acts_refused a old app (Share name) ErrHandlesFull viewed
      (share_checked a tied (limits_of a.config) name true true (named_so key is) at_least)
    where
      at_least : leb a.config.handles (length a.registry.handles) ≡ true
      at_least = grind (arith, nat_tests)

  -- a handle more
  module _ (key : ℕ) (is : option_map (λ (t : Table). t.key) (table_named a.registry name) ≡ Some key) (new : Listing) (adds : AddsHandle a.registry new app key) where
    named : IsNamed a name key
    named = is_named a tied name key is

    added : new ≡ with_new_handle a.registry app named.t.number named.t.key
    added =
        adds.is
        ∙ ap (λ n. with_new_handle a.registry app n key) (some_is adds.table named.t.number (sym adds.of ∙ ap (option_map (λ (t : Table). t.number)) named.there))
        ∙ ap (λ k. with_new_handle a.registry app named.t.number k) (sym named.known)
      where
        some_is : (x y : ℕ) → Some x ≡ Some y → x ≡ y
        some_is x y same = ap (λ o. option_map_or (λ w. w) o x) same

    itself : table_at a.registry.tables named.t.key ≡ Some named.t
    itself = ap (table_at a.registry.tables) named.known ∙ named.there

    pub share_keeps : Keeps a → Keeps (record a { registry = new })
    share_keeps keeps =
        subst (λ (l : Listing). let b : Inside = record a { registry = l } in Keeps b) (sym added) (new_handle_keeps a keeps tied app named.t itself)

    pub share_acts : Keeps a → length a.registry.handles < a.config.handles → Acts old (plain_of (record a { registry = new })) app (Share name) (answers.Number (a.registry.made + 1))
    share_acts keeps room =
        acts_from a (record a { registry = new }) old app (Share name) (answers.Number (a.registry.made + 1)) viewed refl
        (step_by (limits_of a.config) (means a) app (Share name) None (share_checked a tied (limits_of a.config) name true false (named_so key is) below)
        ∙ ap (λ s. (answers.Number (a.registry.made + 1), s))
        (ap (λ o. option_map_or (λ (t : state.Table). machine.with_new_handle (means a) app t.number t.loaded) o (means a)) (named_here a name ∙ ap (option_map (table_in a.registry.handles a.blocks.tables)) named.found)
        ∙ sym (new_handle_means a keeps tied app named.t itself)
        ∙ ap (λ (l : Listing). let b : Inside = record a { registry = l } in means b) (sym added)))
        (λ other bag apart.
        bags_grown a (record a { registry = new }) (made_handle (a.registry.made + 1) app named.t.number named.t.key) refl refl (ap (λ (l : Listing). l.handles) added) (λ k d within. refl) other bag)
      where
        below : leb a.config.handles (length a.registry.handles) ≡ false
        below = grind (arith, nat_tests)
