-- What a receive leaves of the blocks, the pipes and the account.
use Rattle.std.proofs.Common.{◌≡◌, ℕ, ◌+◌, ◌-◌, ◌≤◌, ◌⊎◌, inl, inr, Bool, true, false, cond, eqb, leb, List, set, Option, Some, None, refl, ap, sym, ◌∙◌, subst, arith}
use Rattle.std.specs.Option.{IfSome, option_map, option_map_or, option_and_then}
use Rattle.std.proofs.lemmas.Bool.{cases_eq, eqb-true}
use Rattle.std.proofs.lemmas.Bool.Decides.{nat_tests}
use Rattle.fsw_base.specs.Blocks.{class_of}
use Rattle.fsw_base.specs.PoolAccounts.{Account}
use Rattle.es_pool.specs.Pool.{is_out, size_at, most_cut}
use Rattle.buf_desc.specs.Block.{Sealed as SealedBlock}
use Rattle.buf_desc.specs.Slots.{slot_at, sealed_at, sealed_in, is_sealed, is_live}
use Rattle.buf_desc.specs.Desk.{Buffers, resealed, freed}
use Rattle.buf_desc.specs.declared.slot.Slot.{Slot}
use Rattle.buf_desc.specs.declared.slot.Slot.TheVariants.{Free, Sealed}
use Rattle.bus_routes.specs.declared.tables.ItemRow.{ItemRow}
use Rattle.bus_words.specs.Pipes.{pipe_at, with_pipe, after_receive, oldest_on, last_on, IsRising}
use Rattle.bus_routes.specs.Rows.{Row}
use Rattle.bus_routes.specs.Uses.{item_use, uses_of}
use Rattle.bus_routes.proofs.UseCounts.{taken_uses}
use Rattle.bus_messages.specs.Inside.{item_in, pipes_in, account_in, AllItems, IsNamed, lasts_of, AreTied, Backed, let_go, shown, returned, after_release}
use Rattle.bus_messages.proofs.Bags.{last_item-taken}
use Rattle.bus_messages.proofs.UseCounts.{is_on_pipes-rows}
use Rattle.bus_messages.proofs.Items.{items_weaker, items_both, items_taken, unused, lasts_taken, lasts_unlasted, last_found}
use Rattle.bus_messages.proofs.Pool.{returned_for}
use Rattle.bus_messages.proofs.Ties.{Stays, KeepsOpen, sealed_live, sealed_number, sealed_asked, open_still, open_then, open_resealed, open_freed, here_set, others_set, stays_resealed, stays_freed, named_stay, tied_resealed, tied_freed}

-- Ties. --

-- other counts that are the same, over other rows
pub retied : (b : Buffers) (rows rows' : List Row) (uses views uses' views' : ℕ → ℕ) (given : ℕ) → AreTied b rows uses views given →
    ((n : ℕ) → uses' n ≡ uses n) → ((n : ℕ) → views' n ≡ views n) → AllItems (IsNamed b.slots) rows' → AreTied b rows' uses' views' given
retied b rows rows' uses views uses' views' given tied same_uses same_views items = record {
  items = items;
  uses = λ d is. tied.uses d is ∙ sym (same_uses (sealed_at b.slots d).number);
  views = λ d is. tied.views d is ∙ sym (same_views (sealed_at b.slots d).number);
  numbers = tied.numbers;
  given = tied.given;
  sizes = tied.sizes;
  account = tied.account;
}

-- each sealed block has a use
abbrev pub AreUsed : Buffers → Type 0
AreUsed b = (d : ℕ) → is_sealed (slot_at b.slots d) ≡ true → 1 ≤ (sealed_at b.slots d).uses

pub used_resealed : (b : Buffers) (d : ℕ) (sent : SealedBlock) → is_sealed (slot_at b.slots d) ≡ true → 1 ≤ sent.uses → AreUsed b → AreUsed (resealed b d sent)
used_resealed b d sent is some used other sealed = at (cases_eq d other)
  where
    at : (d ≡ other) ⊎ (d ≡ other → ⊥) → 1 ≤ (sealed_at (set b.slots d (Sealed sent)) other).uses
    at (inl same) = subst (λ x. 1 ≤ (sealed_at (set b.slots d (Sealed sent)) x).uses) same (subst (λ s. 1 ≤ (sealed_in s).uses) (sym (here_set b.slots d (Sealed sent) (sealed_live (slot_at b.slots d) is))) some)
    at (inr apart) =
        let e = others_set b.slots d (Sealed sent) (sealed_live (slot_at b.slots d) is) other apart in
        subst (λ s. 1 ≤ (sealed_in s).uses) (sym e) (used other (sym (ap is_sealed e) ∙ sealed))

pub used_freed : (b : Buffers) (d : ℕ) → is_sealed (slot_at b.slots d) ≡ true → AreUsed b → AreUsed (freed b d)
used_freed b d is used other sealed = at (cases_eq d other)
  where
    gone : Slot
    gone = Free (size_at b.pool d)

    off : (c : Bool) → c ≡ false → c ≡ true → ⊥
    off c x y = cc

    at : (d ≡ other) ⊎ (d ≡ other → ⊥) → 1 ≤ (sealed_at (set b.slots d gone) other).uses
    at (inl same) = absurd (off (is_sealed (slot_at (set b.slots d gone) other)) (ap (λ x. is_sealed (slot_at (set b.slots d gone) x)) (sym same) ∙ ap is_sealed (here_set b.slots d gone (sealed_live (slot_at b.slots d) is))) sealed)
    at (inr apart) =
        let e = others_set b.slots d gone (sealed_live (slot_at b.slots d) is) other apart in
        subst (λ s. 1 ≤ (sealed_in s).uses) (sym e) (used other (sym (ap is_sealed e) ∙ sealed))

pub stays_then : (first next last : List Slot) (item : ItemRow) → Stays first next item → Stays next last item → Stays first last item
stays_then first next last item a b = record { named = b.named; read = b.read ∙ a.read; loan = b.loan ∙ a.loan }

pub stays_still : (slots : List Slot) (item : ItemRow) → IsNamed slots item → Stays slots slots item
stays_still slots item is = record { named = is; read = refl; loan = refl }

-- Counts of one item. --

eqb_same : (n : ℕ) → eqb n n ≡ true
eqb_same n = grind (arith, nat_tests)

pub item_use-here : (item : ItemRow) → item_use item.number (Some item) ≡ 1
item_use-here item = ap (λ c. cond {A = ℕ} c 1 0) (eqb_same item.number)

pub item_use-there : (item : ItemRow) (n : ℕ) → (item.number ≡ n → ⊥) → item_use n (Some item) ≡ 0
item_use-there item n apart = at (eqb item.number n) refl
  where
    at : (c : Bool) → eqb item.number n ≡ c → cond {A = ℕ} c 1 0 ≡ 0
    at false e = refl
    at true e = absurd (apart (eqb-true item.number n e))

-- Letting one use go. --

-- what is left once a use of an item's send was let go, with its view
pub record IsLetGo (b : Buffers) (item : ItemRow) (rows' : List Row) (uses' views' : ℕ → ℕ) (given : ℕ) (after : Buffers) : Type 0 where
  pub tied : AreTied after rows' uses' views' given
  pub used : AreUsed after
  pub stay : AllItems (Stays b.slots after.slots) rows'
  pub opened : KeepsOpen b.slots after.slots
  pub most : most_cut after.pool ≡ most_cut b.pool
  pub account : account_in after.pool ≡ cond {A = Account} (leb 1 (uses' item.number)) (account_in b.pool) (returned (account_in b.pool) (sealed_at b.slots item.desc).asked)

module _ (b : Buffers) (item : ItemRow) (rows rows' : List Row) (uses views uses' views' : ℕ → ℕ) (given : ℕ)
    (tied : AreTied b rows uses views given) (used : AreUsed b) (is : IsNamed b.slots item) (out : is_out b.pool item.desc ≡ true)
    (fewer_uses : (n : ℕ) → uses' n + item_use n (Some item) ≡ uses n) (fewer_views : (n : ℕ) → views' n + item_use n (Some item) ≡ views n)
    (items : AllItems (IsNamed b.slots) rows') (none_left : uses' item.number ≡ 0 → AllItems (λ i. i.number ≡ item.number → ⊥) rows') where
  abbrev d : ℕ
  d = item.desc

  abbrev old : SealedBlock
  old = sealed_at b.slots d

  abbrev back : SealedBlock
  back = record old { views = old.views - 1 }

  abbrev mid : Buffers
  mid = resealed b d back

  live : is_live (slot_at b.slots d) ≡ true
  live = sealed_live (slot_at b.slots d) is.sealed

  here : slot_at mid.slots d ≡ Sealed back
  here = here_set b.slots d (Sealed back) live

  sealed_mid : is_sealed (slot_at mid.slots d) ≡ true
  sealed_mid = ap is_sealed here

  views_now : back.views ≡ views' back.number
  views_now = let e = tied.views d is.sealed in let f = fewer_views item.number in let one = item_use-here item in omega (arith, e, f, one, ap views is.number, ap views' is.number)

  stay_mid : (i : ItemRow) → IsNamed b.slots i → Stays b.slots mid.slots i
  stay_mid i = stays_resealed b.slots d back is.sealed refl refl refl refl i

  open_mid : KeepsOpen b.slots mid.slots
  open_mid = open_resealed b.slots d back is.sealed

  items_mid : AllItems (IsNamed mid.slots) rows
  items_mid = items_weaker (IsNamed b.slots) (IsNamed mid.slots) (λ i n. (stay_mid i n).named) rows tied.items

  tied_mid : AreTied mid rows uses views' given
  tied_mid =
      tied_resealed b d back rows rows uses views uses views' given tied is.sealed refl refl (tied.uses d is.sealed) views_now
      (λ n apart. refl)
      (λ n apart. let f = fewer_views n in let none = item_use-there item n (λ e. apart (is.number ∙ e)) in omega (arith, f, none))
      items_mid

  used_mid : AreUsed mid
  used_mid = used_resealed b d back is.sealed (used d is.sealed) used

  number_mid : (sealed_at mid.slots d).number ≡ item.number
  number_mid = ap (λ s. (sealed_in s).number) here ∙ is.number

  uses_mid : (sealed_at mid.slots d).uses ≡ uses' item.number + 1
  uses_mid =
      let e = tied.uses d is.sealed in
      let f = fewer_uses item.number in
      let one = item_use-here item in
      let g : (sealed_at mid.slots d).uses ≡ old.uses = ap (λ s. (sealed_in s).uses) here in
      omega (arith, e, f, one, g, ap uses is.number)

  uses_other : (n : ℕ) → ((sealed_at mid.slots d).number ≡ n → ⊥) → uses' n ≡ uses n
  uses_other n apart = let f = fewer_uses n in let none = item_use-there item n (λ e. apart (number_mid ∙ e)) in omega (arith, f, none)

  some : (m n : ℕ) → leb m n ≡ true → m ≤ n
  some m n e = grind (arith, nat_tests)

  none : (n : ℕ) → leb 1 n ≡ false → n ≡ 0
  none n e = grind (arith, nat_tests)

  -- one of several uses
  abbrev fewer : SealedBlock
  fewer = record (sealed_at mid.slots d) { uses = (sealed_at mid.slots d).uses - 1 }

  let_go_some : leb 1 (uses' item.number) ≡ true → IsLetGo b item rows' uses' views' given (resealed mid d fewer)
  let_go_some is_some = record {
    tied =
        tied_resealed mid d fewer rows rows' uses views' uses' views' given tied_mid sealed_mid refl refl
        (omega (arith, uses_mid, ap uses' number_mid)) (tied_mid.views d sealed_mid) uses_other (λ n apart. refl)
        (items_weaker (IsNamed b.slots) (IsNamed (set mid.slots d (Sealed fewer))) (λ i n. (stay i n).named) rows' items);
    used = used_resealed mid d fewer sealed_mid (omega (arith, uses_mid, some 1 (uses' item.number) is_some)) used_mid;
    stay = items_weaker (IsNamed b.slots) (Stays b.slots (set mid.slots d (Sealed fewer))) stay rows' items;
    opened = open_then b.slots mid.slots (set mid.slots d (Sealed fewer)) open_mid (open_resealed mid.slots d fewer sealed_mid);
    most = refl;
    account = sym (ap (λ c. cond {A = Account} c (account_in b.pool) (returned (account_in b.pool) (sealed_at b.slots item.desc).asked)) is_some);
  }
    where
      stay : (i : ItemRow) → IsNamed b.slots i → Stays b.slots (set mid.slots d (Sealed fewer)) i
      stay i n = let first = stay_mid i n in stays_then b.slots mid.slots (set mid.slots d (Sealed fewer)) i first (stays_resealed mid.slots d fewer sealed_mid refl refl refl refl i first.named)

  -- the last one
  let_go_last : leb 1 (uses' item.number) ≡ false → IsLetGo b item rows' uses' views' given (freed mid d)
  let_go_last is_none = record {
    tied =
        tied_freed mid d rows rows' uses views' uses' views' given tied_mid (sealed_live (slot_at mid.slots d) sealed_mid) out
        (λ n apart. uses_other n (λ e. apart (sealed_number (slot_at mid.slots d) sealed_mid ∙ e))) (λ n apart. refl)
        (named_stay b.slots after rows' stay);
    used = used_freed mid d sealed_mid used_mid;
    stay = stay;
    opened = open_then b.slots mid.slots after open_mid (open_freed mid.slots d (size_at b.pool d) sealed_mid);
    most = refl;
    account =
        (returned_for b.pool (sealed_at b.slots item.desc).asked d tied.account out (ap (λ n. class_of n b.pool.sizes) (sym (sealed_asked (slot_at b.slots d) is.sealed)) ∙ tied.sizes d live)).account
        ∙ sym (ap (λ c. cond {A = Account} c (account_in b.pool) (returned (account_in b.pool) (sealed_at b.slots item.desc).asked)) is_none);
  }
    where
      after : List Slot
      after = set mid.slots d (Free (size_at b.pool d))

      stay : AllItems (Stays b.slots after) rows'
      stay =
          items_weaker (λ i. IsNamed b.slots i × (i.number ≡ item.number → ⊥)) (Stays b.slots after)
          (λ i both. let first = stay_mid i both.0 in stays_then b.slots mid.slots after i first (stays_freed mid.slots d (Free (size_at b.pool d)) sealed_mid i (λ e. both.1 (e ∙ number_mid)) first.named)) rows'
          (items_both (IsNamed b.slots) (λ i. i.number ≡ item.number → ⊥) rows' items (none_left (none (uses' item.number) is_none)))

  pub is_let_go : IsLetGo b item rows' uses' views' given (let_go b (Some item))
  is_let_go = at (leb 1 (uses' item.number)) refl
    where
      test : leb 2 (sealed_at mid.slots d).uses ≡ leb 1 (uses' item.number)
      test = ap (leb 2) uses_mid ∙ shifted (uses' item.number)
        where
          shifted : (n : ℕ) → leb 2 (n + 1) ≡ leb 1 n
          shifted n = grind (arith, nat_tests)

      at : (c : Bool) → leb 1 (uses' item.number) ≡ c → IsLetGo b item rows' uses' views' given (let_go b (Some item))
      at true e = subst (IsLetGo b item rows' uses' views' given) (sym (ap (λ c. cond {A = Buffers} c (resealed mid d fewer) (freed mid d)) (test ∙ e))) (let_go_some e)
      at false e = subst (IsLetGo b item rows' uses' views' given) (sym (ap (λ c. cond {A = Buffers} c (resealed mid d fewer) (freed mid d)) (test ∙ e))) (let_go_last e)

-- A receive. --

last_use : (n number : ℕ) (rows : List Row) → option_map_or {U = ℕ} (λ (row : Row). item_use n row.last) (pipe_at rows number) 0 ≡ item_use n (last_on rows number)
last_use n number rows = by_row (pipe_at rows number)
  where
    by_row : (o : Option Row) → option_map_or {U = ℕ} (λ (row : Row). item_use n row.last) o 0 ≡ item_use n (option_and_then (λ (row : Row). row.last) o)
    by_row None = refl
    by_row (Some row) = refl

module _ (b : Buffers) (rows : List Row) (given pipe : ℕ) (backed : Backed b rows given) (rises : IsRising 0 rows) (live_out : (d : ℕ) → is_live (slot_at b.slots d) ≡ is_out b.pool d) where
  abbrev rows' : List Row
  rows' = with_pipe after_receive pipe rows

  -- the views once the last one came back
  abbrev views_left : ℕ → ℕ
  views_left n = lasts_of n rows - item_use n (last_on rows pipe)

  fewer_uses : (n : ℕ) → uses_of n rows' + item_use n (last_on rows pipe) ≡ uses_of n rows
  fewer_uses n = omega (arith, taken_uses n pipe 0 rows rises, last_use n pipe rows)

  fewer_views : (n : ℕ) → views_left n + item_use n (last_on rows pipe) ≡ lasts_of n rows
  fewer_views n = omega (arith, lasts_unlasted n pipe rows rises)

  more_views : (n : ℕ) → lasts_of n rows' ≡ views_left n + item_use n (oldest_on rows pipe)
  more_views n = omega (arith, lasts_taken n pipe rows rises, fewer_views n)

  items' : AllItems (IsNamed b.slots) rows'
  items' = items_taken (IsNamed b.slots) pipe rows backed.tied.items

  -- the last message was let go
  pub record IsReleased (after : Buffers) : Type 0 where
    pub tied : AreTied after rows' (λ n. uses_of n rows') views_left given
    pub used : AreUsed after
    pub stay : AllItems (Stays b.slots after.slots) rows'
    pub opened : KeepsOpen b.slots after.slots
    pub most : most_cut after.pool ≡ most_cut b.pool
    pub account : (slots : List Slot) → account_in after.pool ≡ after_release (account_in b.pool) (option_map (item_in b.slots) (last_on rows pipe)) (pipes_in slots rows')

  released_none : last_on rows pipe ≡ None → IsReleased b
  released_none none =
      let no_use : (n : ℕ) → item_use n (last_on rows pipe) ≡ 0 = λ n. ap (item_use n) none in
      record {
        tied = retied b rows rows' (λ n. uses_of n rows) (λ n. lasts_of n rows) (λ n. uses_of n rows') views_left given backed.tied
            (λ n. omega (arith, fewer_uses n, no_use n)) (λ n. omega (arith, fewer_views n, no_use n)) items';
        used = backed.used;
        stay = items_weaker (IsNamed b.slots) (Stays b.slots b.slots) (stays_still b.slots) rows' items';
        opened = open_still b.slots;
        most = refl;
        account = λ slots. sym (ap (λ o. after_release (account_in b.pool) (option_map (item_in b.slots) o) (pipes_in slots rows')) none);
      }

  released_some : (item : ItemRow) → last_on rows pipe ≡ Some item → IsReleased (let_go b (Some item))
  released_some item is =
      let named : IsNamed b.slots item = subst (λ o. IfSome o (IsNamed b.slots)) is (last_found (IsNamed b.slots) rows pipe backed.tied.items) in
      let one : (n : ℕ) → item_use n (last_on rows pipe) ≡ item_use n (Some item) = λ n. ap (item_use n) is in
      let went =
      is_let_go b item rows rows' (λ n. uses_of n rows) (λ n. lasts_of n rows) (λ n. uses_of n rows') views_left given backed.tied backed.used named
      (sym (live_out item.desc) ∙ sealed_live (slot_at b.slots item.desc) named.sealed)
      (λ n. ap (λ k. uses_of n rows' + k) (sym (one n)) ∙ fewer_uses n) (λ n. ap (λ k. views_left n + k) (sym (one n)) ∙ fewer_views n)
      items' (λ none. unused item.number rows' none) in
      record {
        tied = went.tied;
        used = went.used;
        stay = went.stay;
        opened = went.opened;
        most = went.most;
        account = λ slots.
            went.account
            ∙ sym (ap (λ c. cond {A = Account} c (account_in b.pool) (returned (account_in b.pool) (sealed_at b.slots item.desc).asked)) (is_on_pipes-rows slots rows' item.number))
            ∙ sym (ap (λ o. after_release (account_in b.pool) (option_map (item_in b.slots) o) (pipes_in slots rows')) is);
      }

  pub released : (after : Buffers) → after ≡ let_go b (last_on rows pipe) → IsReleased after
  released after is = at (last_on rows pipe) refl
    where
      at : (o : Option ItemRow) → last_on rows pipe ≡ o → IsReleased after
      at None e = subst IsReleased (sym (is ∙ ap (let_go b) e)) (released_none e)
      at (Some item) e = subst IsReleased (sym (is ∙ ap (let_go b) e)) (released_some item e)

  -- the oldest message was viewed
  pub record IsReceived (mid after : Buffers) : Type 0 where
    pub kept : Backed after rows' given
    pub stay : AllItems (Stays b.slots after.slots) rows'
    pub since : AllItems (Stays mid.slots after.slots) rows'
    pub opened : KeepsOpen b.slots after.slots
    pub pool : after.pool ≡ mid.pool

  received_none : (mid : Buffers) → IsReleased mid → oldest_on rows pipe ≡ None → IsReceived mid mid
  received_none mid was none = record {
    kept = record {
      tied = retied mid rows' rows' (λ n. uses_of n rows') views_left (λ n. uses_of n rows') (λ n. lasts_of n rows') given was.tied (λ n. refl)
          (λ n. omega (arith, more_views n, ap (item_use n) none)) was.tied.items;
      used = was.used;
    };
    stay = was.stay;
    since = items_weaker (IsNamed mid.slots) (Stays mid.slots mid.slots) (stays_still mid.slots) rows' was.tied.items;
    opened = was.opened;
    pool = refl;
  }

  received_some : (mid : Buffers) → IsReleased mid → (item : ItemRow) → oldest_on rows pipe ≡ Some item → IsNamed mid.slots item → IsReceived mid (shown mid (Some item))
  received_some mid was item is named =
      let d = item.desc in
      let sent : SealedBlock = record (sealed_at mid.slots d) { views = (sealed_at mid.slots d).views + 1 } in
      let more : (n : ℕ) → lasts_of n rows' ≡ views_left n + item_use n (Some item) = λ n. more_views n ∙ ap (λ o. views_left n + item_use n o) is in
      let since : AllItems (Stays mid.slots (set mid.slots d (Sealed sent))) rows' =
      items_weaker (IsNamed mid.slots) (Stays mid.slots (set mid.slots d (Sealed sent))) (stays_resealed mid.slots d sent named.sealed refl refl refl refl) rows' was.tied.items in
      record {
        kept = record {
          tied = tied_resealed mid d sent rows' rows' (λ n. uses_of n rows') views_left (λ n. uses_of n rows') (λ n. lasts_of n rows') given was.tied named.sealed refl refl
              (was.tied.uses d named.sealed)
              (omega (arith, was.tied.views d named.sealed, more item.number, item_use-here item, ap views_left named.number, ap (λ n. lasts_of n rows') named.number))
              (λ n apart. refl)
              (λ n apart. omega (arith, more n, item_use-there item n (λ e. apart (named.number ∙ e))))
              (named_stay mid.slots (set mid.slots d (Sealed sent)) rows' since);
          used = used_resealed mid d sent named.sealed (was.used d named.sealed) was.used;
        };
        stay =
            items_weaker (λ i. Stays b.slots mid.slots i × Stays mid.slots (set mid.slots d (Sealed sent)) i) (Stays b.slots (set mid.slots d (Sealed sent)))
            (λ i both. stays_then b.slots mid.slots (set mid.slots d (Sealed sent)) i both.0 both.1) rows'
            (items_both (Stays b.slots mid.slots) (Stays mid.slots (set mid.slots d (Sealed sent))) rows' was.stay since);
        since = since;
        opened = open_then b.slots mid.slots (set mid.slots d (Sealed sent)) was.opened (open_resealed mid.slots d sent named.sealed);
        pool = refl;
      }

  -- the oldest item's block is there
  pub front_named : (P : ItemRow → Type 0) → AllItems P rows' → IfSome (oldest_on rows pipe) P
  front_named P all = subst (λ o. IfSome o P) (last_item-taken rows pipe) (last_found P rows' pipe all)

  pub received : (mid after : Buffers) → IsReleased mid → after ≡ shown mid (oldest_on rows pipe) → IsReceived mid after
  received mid after was is = at (oldest_on rows pipe) refl (front_named (IsNamed mid.slots) was.tied.items)
    where
      at : (o : Option ItemRow) → oldest_on rows pipe ≡ o → IfSome (oldest_on rows pipe) (IsNamed mid.slots) → IsReceived mid after
      at None e named = subst (IsReceived mid) (sym (is ∙ ap (shown mid) e)) (received_none mid was e)
      at (Some item) e named = subst (IsReceived mid) (sym (is ∙ ap (shown mid) e)) (received_some mid was item e (subst (λ o. IfSome o (IsNamed mid.slots)) e named))
