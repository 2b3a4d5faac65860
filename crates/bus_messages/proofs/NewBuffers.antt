-- A buffer that an application is given: what the store and the bags are then.
use Rattle.std.proofs.Common.{◌≡◌, ℕ, ◌+◌, ◌-◌, ◌<◌, ◌≤◌, Bool, true, false, cond, eqb, List, ◌∷◌, length, get_or, set, map, Option, Some, None, refl, ap, sym, ◌∙◌, subst, arith}
use Rattle.std.specs.Option.{option_map, option_map_or}
use Rattle.std.proofs.lemmas.Bool.{eqb-true}
use Rattle.std.proofs.lemmas.Bool.Decides.{nat_tests}
use Rattle.std.proofs.lemmas.List.{length-map}
use Rattle.fsw_base.specs.Blocks.{class_of}
use Rattle.fsw_base.specs.PoolAccounts.{Account, has_room, after_request}
use Rattle.lend_block.specs.Loan.{LentBytes}
use Rattle.bucket_list.specs.Lists.{times}
use Rattle.zero_copy.specs.Held.{HeldDescs, held_by}
use Rattle.es_pool.specs.Pool.{is_out, size_at, most_cut}
use Rattle.buf_desc.specs.Block.{Unsent as UnsentBlock}
use Rattle.buf_desc.specs.Desk.{Buffers, Takes, IsOf}
use Rattle.buf_desc.specs.Held.{Holding, buffer_at}
use Rattle.buf_desc.specs.Slots.{slot_at, is_sealed, is_open, is_live, number_in, asked_in}
use Rattle.buf_desc.specs.declared.slot.Slot.{Slot}
use Rattle.buf_desc.specs.declared.slot.Slot.TheVariants.{Unsent}
use Rattle.buf_desc.proofs.Others.{slot_drawn, numbers_drawn}
use Rattle.bus_words.specs.Bus.{Pipe, Buffer, with_unsent}
use Rattle.bus_routes.specs.Rows.{Row}
use Rattle.bus_routes.specs.Uses.{uses_of}
use Rattle.bus_messages.specs.declared.store.BusStore.TheInside.{Inside}
use Rattle.bus_messages.specs.Bag.{Shape, shape_of, buffer_due, HoldsBuffers}
use Rattle.bus_messages.specs.Blocks.{IsGiven}
use Rattle.bus_messages.specs.Store.{Store, LastLoan, BufferDesc}
use Rattle.bus_messages.specs.Words.{desc_of, size_for, with_held}
use Rattle.bus_messages.specs.Inside.{store_of, Keeps, Backed, loan_in, unsent_in, descs_in, account_in, AllItems, lasts_of}
use Rattle.bus_messages.proofs.Accounts.{held_law, held_now}
use Rattle.bus_messages.proofs.BufferReleases.{items_apart, used_apart}
use Rattle.bus_messages.proofs.BufferLists.{closed_none, mine_open}
use Rattle.bus_messages.proofs.Pool.{IsDrawn, drawn_for, most_drawn}
use Rattle.bus_messages.proofs.ListChanges.{listed_more, unsent_more, desc_more, others_more, bag_more, due_none}
use Rattle.bus_messages.proofs.Ties.{Stays, Moves, named_stay, pipes_stay, loans_stay, tied_moved, open_live, dead_closed, dead_unsealed}

module _ (a : Inside) (old : Store) (app size number : ℕ) (block : UnsentBlock) (mid : Buffers) (next : HeldDescs) (viewed : store_of a ≡ old) (keeps : Keeps a)
    (one : 1 ≤ app) (known : app ≤ length old.unsent) (room : has_room old.account size ≡ true) (numbered : number ≡ a.given + 1)
    (taken : Takes a.desk mid size number block) (own : IsOf mid block)
    (live_out : (e : ℕ) → is_live (slot_at a.desk.slots e) ≡ is_out a.desk.pool e) where
  abbrev slots : List Slot
  slots = a.desk.slots

  abbrev rows : List Row
  rows = a.tables.pipes

  abbrev d : ℕ
  d = block.desc

  eqb_same : (n : ℕ) → eqb n n ≡ true
  eqb_same n = grind (arith, nat_tests)

  eqb_off : (e : ℕ) → (d ≡ e → ⊥) → eqb d e ≡ false
  eqb_off e apart = at (eqb d e) refl
    where
      at : (b : Bool) → eqb d e ≡ b → b ≡ false
      at false f = refl
      at true f = absurd (apart (eqb-true d e f))

  off : (b : Bool) → b ≡ false → b ≡ true → ⊥
  off b x y = cc

  here : slot_at mid.slots d ≡ Unsent number size
  here = slot_drawn a.desk mid size number block taken own d ∙ ap (λ b. cond {A = Slot} b (Unsent number size) (slot_at slots d)) (eqb_same d)

  others : (e : ℕ) → (d ≡ e → ⊥) → slot_at mid.slots e ≡ slot_at slots e
  others e apart = slot_drawn a.desk mid size number block taken own e ∙ ap (λ b. cond {A = Slot} b (Unsent number size) (slot_at slots e)) (eqb_off e apart)

  drawn : IsDrawn a.desk.pool mid.pool size d
  drawn = drawn_for a.desk.pool mid.pool size d keeps.backed.tied.account (ap (λ (o : Store). has_room o.account size) viewed ∙ room) taken.drawn

  stay : AllItems (Stays slots mid.slots) rows
  stay = items_apart slots mid.slots rows d (dead_unsealed (slot_at slots d) taken.was_not_live) others keeps.backed.tied.items

  never : is_sealed (slot_at mid.slots d) ≡ true → ⊥
  never e = off (is_sealed (slot_at mid.slots d)) (ap is_sealed here) e

  moves : Moves a.desk mid d (λ n. uses_of n rows) (λ n. lasts_of n rows) (λ n. uses_of n rows) (λ n. lasts_of n rows) a.given number
  moves = record {
    others = others;
    uses_here = λ e. absurd (never e);
    views_here = λ e. absurd (never e);
    number = λ _. subst (IsGiven number) (sym (ap number_in here)) (record { first = omega (arith, numbered); last = omega arith });
    size = λ _. ap (λ s. class_of (asked_in s) mid.pool.sizes) here ∙ drawn.here;
    numbers = numbers_drawn a.desk mid size number block taken own keeps.backed.tied.numbers (λ other is same. absurd (omega (arith, (keeps.backed.tied.given other is).last, same, numbered)));
    uses_same = λ other apart is. refl;
    views_same = λ other apart is. refl;
    more = omega (arith, numbered);
    sizes_same = drawn.sizes;
    class_same = λ other apart is. drawn.others other (sym (live_out other) ∙ is);
    account = drawn.is;
  }

  backed : Backed mid rows number
  backed = record {
    tied = tied_moved a.desk mid d rows rows (λ n. uses_of n rows) (λ n. lasts_of n rows) (λ n. uses_of n rows) (λ n. lasts_of n rows) a.given number keeps.backed.tied moves (named_stay slots mid.slots rows stay);
    used = used_apart slots mid.slots d (ap is_sealed here) others keeps.backed.used;
  }

  fresh : is_open (slot_at slots d) ≡ false
  fresh = dead_closed (slot_at slots d) taken.was_not_live

  is_open_now : is_open (slot_at mid.slots d) ≡ true
  is_open_now = ap is_open here

  places : length a.lists.lists ≡ length old.unsent
  places = sym (length-map a.lists.lists (map (λ e. let v : Buffer = record { number = number_in (slot_at slots e); size = asked_in (slot_at slots e) } in v))) ∙ ap (λ (o : Store). length o.unsent) viewed

  place : app - 1 < length a.lists.lists
  place = omega (arith, one, known, places)

  -- the block is in no list yet, and has a place there
  pub is_loose : times a.lists.lists d ≡ 0
  is_loose = closed_none slots a.lists.lists keeps.listed d fresh

  pub app_inside : app ≤ length a.lists.lists
  app_inside = omega (arith, known, places)

  pub most_still : most_cut mid.pool ≡ a.lists.descs
  most_still = most_drawn a.desk.pool mid.pool size d taken.drawn ∙ keeps.places

  pub is_now_live : is_live (slot_at mid.slots d) ≡ true
  is_now_live = ap is_live here

  -- no buffer of the bag has the number
  pub none_there : (held : Holding LentBytes) → HoldsBuffers old.unsent old.descs old.account.sizes app held → block.number ≡ number → buffer_at held block.number ≡ None
  none_there held holds same =
      at (buffer_at held block.number)
      (ap (λ n. option_map shape_of (buffer_at held n)) same
      ∙ holds.due number
      ∙ ap (λ (o : Store). buffer_due o.unsent o.descs o.account.sizes app number) (sym viewed)
      ∙ due_none slots a.lists.lists keeps.listed keeps.backed.tied.numbers a.desk.pool.sizes app number
      (λ e h k.
      let live = open_live (slot_at slots e) (mine_open slots a.lists.lists keeps.listed keeps.backed.tied.numbers app e h) in
      absurd (omega (arith, (keeps.backed.tied.given e live).last, k, numbered))))
    where
      at : (o : Option UnsentBlock) → option_map shape_of o ≡ None → o ≡ None
      at None e = refl
      at (Some b) e = absurd (cc (e))

  module _ (hold : next ≡ record a.lists { lists = set a.lists.lists (app - 1) (d ∷ held_by a.lists app) }) where
    abbrev lists' : List (List ℕ)
    lists' = set a.lists.lists (app - 1) (d ∷ held_by a.lists app)

    abbrev after : Inside
    after = record a { desk = mid; lists = next; given = number }

    after_is : after ≡ record a { desk = mid; lists = record a.lists { lists = lists' }; given = number }
    after_is = ap (λ (l : HeldDescs). let v : Inside = record a { desk = mid; lists = l; given = number } in v) hold

    pub given_keeps : Keeps after
    given_keeps = subst Keeps (sym after_is) (record {
      backed = backed;
      listed = listed_more slots mid.slots a.lists.lists app d keeps.listed place fresh is_open_now others;
      places = most_still;
      misses = keeps.misses;
      pipes_live = keeps.pipes_live;
      pipes_few = keeps.pipes_few;
      subscriptions_live = keeps.subscriptions_live;
      subscriptions_made = keeps.subscriptions_made;
    })

    abbrev new : Store
    new = store_of after

    abbrev given_buffer : ℕ → Buffer
    given_buffer n = record { number = n; size = size }

    unsent_is : unsent_in mid.slots lists' ≡ with_unsent (unsent_in slots a.lists.lists) app (given_buffer number)
    unsent_is =
        unsent_more slots mid.slots a.lists.lists app d keeps.listed place fresh is_open_now others
        ∙ ap (λ s. with_unsent (unsent_in slots a.lists.lists) app (let v : Buffer = record { number = number_in s; size = asked_in s } in v)) here

    given_store : new ≡ record old {
      unsent = with_unsent old.unsent app (given_buffer (old.numbers_given + 1));
      numbers_given = old.numbers_given + 1;
      account = after_request old.account size;
      descs = new.descs;
    }
    given_store =
        let to : List Pipe → List LastLoan → List (List Buffer) → Account → ℕ → Store = λ pipes loans unsent account given. record (store_of a) { pipes = pipes; loans = loans; unsent = unsent; account = account; numbers_given = given; descs = new.descs } in
        ap store_of after_is
        ∙ ap (λ (l : List BufferDesc). let v : Store = record (store_of (record a { desk = mid; lists = record a.lists { lists = lists' }; given = number })) { descs = l } in v) (sym (ap (λ (x : Inside). (store_of x).descs) after_is))
        ∙ ap (λ l. to l (map (loan_in mid.slots) rows) (unsent_in mid.slots lists') (account_in mid.pool) number) (pipes_stay slots mid.slots rows stay)
        ∙ ap (λ l. to (store_of a).pipes l (unsent_in mid.slots lists') (account_in mid.pool) number) (loans_stay slots mid.slots rows stay)
        ∙ ap (λ l. to (store_of a).pipes (store_of a).loans l (account_in mid.pool) number) unsent_is
        ∙ ap (λ c. to (store_of a).pipes (store_of a).loans (with_unsent (store_of a).unsent app (given_buffer number)) c number) drawn.account
        ∙ ap (λ n. to (store_of a).pipes (store_of a).loans (with_unsent (store_of a).unsent app (given_buffer n)) (after_request (account_in a.desk.pool) size) n) numbered
        ∙ ap (λ (o : Store). let v : Store = record o {
          unsent = with_unsent o.unsent app (given_buffer (o.numbers_given + 1));
          numbers_given = o.numbers_given + 1;
          account = after_request o.account size;
          descs = new.descs;
        } in v) viewed

    pub given_held : ((e : ℕ) → is_live (slot_at mid.slots e) ≡ is_out mid.pool e) → new ≡ record old {
      unsent = with_unsent old.unsent app (given_buffer (old.numbers_given + 1));
      numbers_given = old.numbers_given + 1;
      account = with_held (after_request old.account size) old.pipes new.unsent number;
      descs = new.descs;
    }
    given_held still_out =
        let request : Account = after_request old.account size in
        let is = ap (λ (o : Store). o.account) given_store in
        let alone = is ∙ ap (λ (c : Account). let v : Account = record request { out = c.out } in v) (sym is) in
        let law = held_law after given_keeps still_out ∙ ap (λ l. with_held new.account l new.unsent number) (ap (λ (o : Store). o.pipes) given_store) in
        given_store
        ∙ ap (λ (c : Account). let v : Store = record old {
          unsent = with_unsent old.unsent app (given_buffer (old.numbers_given + 1));
          numbers_given = old.numbers_given + 1;
          account = c;
          descs = new.descs;
        } in v) (sym is ∙ held_now request new.account old.pipes new.unsent number alone law)

    sizes_same : new.account.sizes ≡ a.desk.pool.sizes
    sizes_same = ap (λ (x : Inside). (store_of x).account.sizes) after_is ∙ drawn.sizes

    pub given_descs : (other : ℕ) → (number ≡ other → ⊥) → desc_of new.descs other ≡ desc_of old.descs other
    given_descs other apart =
        ap (λ (x : Inside). desc_of (store_of x).descs other) after_is
        ∙ desc_more slots mid.slots a.lists.lists app d keeps.listed place fresh is_open_now others keeps.backed.tied.numbers backed.tied.numbers a.desk.pool.sizes one other (λ e. apart (sym (ap number_in here) ∙ e))
        ∙ ap (λ (o : Store). desc_of o.descs other) viewed

    was_held : (user : ℕ) (bag : Holding LentBytes) → HoldsBuffers old.unsent old.descs old.account.sizes user bag → HoldsBuffers (unsent_in slots a.lists.lists) (descs_in slots a.lists.lists) a.desk.pool.sizes user bag
    was_held user bag = subst (λ (o : Store). HoldsBuffers o.unsent o.descs o.account.sizes user bag) (sym viewed)

    now_held : (user : ℕ) (bag : Holding LentBytes) → HoldsBuffers (unsent_in mid.slots lists') (descs_in mid.slots lists') a.desk.pool.sizes user bag → HoldsBuffers new.unsent new.descs new.account.sizes user bag
    now_held user bag holds =
        subst (λ (l : List ℕ). HoldsBuffers new.unsent new.descs l user bag) (sym sizes_same)
        (subst (λ (x : Inside). HoldsBuffers (store_of x).unsent (store_of x).descs a.desk.pool.sizes user bag) (sym after_is) holds)

    pub given_others : (other : ℕ) (bag : Holding LentBytes) → (other ≡ app → ⊥) → HoldsBuffers old.unsent old.descs old.account.sizes other bag → HoldsBuffers new.unsent new.descs new.account.sizes other bag
    given_others other bag apart holds =
        now_held other bag
        (others_more slots mid.slots a.lists.lists app d keeps.listed place fresh is_open_now others keeps.backed.tied.numbers backed.tied.numbers a.desk.pool.sizes one other bag apart (was_held other bag holds))

    pub given_bag : (held bag : Holding LentBytes) → HoldsBuffers old.unsent old.descs old.account.sizes app held →
        ((n : ℕ) → buffer_at bag n ≡ cond {A = Option UnsentBlock} (eqb block.number n) (Some block) (buffer_at held n)) → HoldsBuffers new.unsent new.descs new.account.sizes app bag
    given_bag held bag holds put =
        now_held app bag
        (bag_more slots mid.slots a.lists.lists app d keeps.listed place fresh is_open_now others keeps.backed.tied.numbers backed.tied.numbers a.desk.pool.sizes one held bag block (was_held app held holds)
        (λ n. put n ∙ ap (λ k. cond {A = Option UnsentBlock} (eqb k n) (Some block) (buffer_at held n)) (taken.sent_as ∙ sym (ap number_in here)))
        (ap (λ n. let v : Shape = record { desc = d; size = n; asked = length block.bytes } in v) (taken.whole ∙ sym size_is)
        ∙ ap (λ n. let v : Shape = record { desc = d; size = size_for a.desk.pool.sizes (asked_in (slot_at mid.slots d)); asked = n } in v) (taken.long ∙ sym (ap asked_in here))))
      where
        size_is : size_for a.desk.pool.sizes (asked_in (slot_at mid.slots d)) ≡ size_at mid.pool d
        size_is =
            ap (λ l. size_for l (asked_in (slot_at mid.slots d))) (sym drawn.sizes)
            ∙ ap (size_for mid.pool.sizes) (ap asked_in here)
            ∙ ap (λ (o : Option ℕ). option_map_or {U = ℕ} (λ c. get_or mid.pool.sizes c 0) o 0) drawn.here
