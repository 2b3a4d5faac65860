-- What a receive leaves of the store and of the application's bag.
use Rattle.std.proofs.Common.{◌≡◌, ℕ, ◌+◌, ◌<◌, ◌≤◌, ◌⊎◌, inl, inr, Bool, true, false, cond, eqb, List, length, map, count_by, Option, Some, None, is_some, refl, ap, sym, ◌∙◌, subst, arith}
use Rattle.std.specs.Option.{IfSome, option_map, option_map_or}
use Rattle.std.proofs.lemmas.Bool.{cases_eq, eqb-true}
use Rattle.std.proofs.lemmas.Bool.Decides.{nat_tests}
use Rattle.fsw_base.specs.PoolAccounts.{Account}
use Rattle.es_pool.specs.Pool.{is_out, most_cut}
use Rattle.lend_block.specs.Loan.{LentBytes}
use Rattle.buf_desc.specs.Slots.{slot_at, sealed_at, is_sealed, is_live}
use Rattle.buf_desc.specs.Desk.{Buffers}
use Rattle.buf_desc.specs.Held.{Holding, view_at}
use Rattle.bus_words.specs.Bus.{Item, Pipe, Buffer, owns, with_pipe, after_receive}
use Rattle.bus_routes.specs.declared.tables.ItemRow.{ItemRow}
use Rattle.bus_words.specs.Pipes.{pipe_at, oldest_on, last_on, IsRising}
use Rattle.bus_routes.specs.Rows.{Row}
use Rattle.bus_routes.specs.Tables.{Tables}
use Rattle.bus_routes.specs.Uses.{item_use}
use Rattle.bus_messages.specs.declared.store.BusStore.TheInside.{Inside}
use Rattle.bus_messages.specs.Bag.{view_due, views_due}
use Rattle.bus_messages.specs.Store.{Store, LastLoan, BufferDesc}
use Rattle.bus_messages.specs.Words.{loan_of, with_held}
use Rattle.bus_messages.specs.Inside.{store_of, Keeps, account_in, item_in, pipes_in, descs_in, loan_in, loan_at, view_in, IsNamed, lasts_of, let_go, shown, after_release}
use Rattle.bus_messages.proofs.Bags.{due, due-rows, loan-rows, view_alike, last_item-taken, last_item-other, owns-changed, has_view, views-rows, views-taken, views-few, views-others, own_found}
use Rattle.bus_messages.proofs.Accounts.{held_law, held_now, alone_as, released_alone}
use Rattle.bus_messages.proofs.Items.{last_found, oldest_found, lasts_few, lasts_most, lasts_unlasted}
use Rattle.bus_messages.proofs.Lasts.{HasDue, holds_same}
use Rattle.bus_messages.proofs.BufferLists.{listed_kept, unsent_kept, descs_kept}
use Rattle.bus_words.proofs.PipeItems.{owns-map, oldest_on-map, last_on-map, with_pipe-map, after_receive-map}
use Rattle.bus_messages.proofs.Receives.{IsReleased, IsReceived, item_use-here, released, received, front_named}
use Rattle.bus_messages.proofs.Stores.{length-with_row}
use Rattle.bus_messages.proofs.Ties.{Stays, pipes_stay}

-- a pipe has one owner
one_owner : (o : Option Row) (row other : Row) → o ≡ Some row → o ≡ Some other → row.owner ≡ other.owner
one_owner None row other is also = absurd (cc (is))
one_owner (Some found) row other is also = sym (ap owner is) ∙ ap owner also
  where
    owner : Option Row → ℕ
    owner o = option_map_or {U = ℕ} (λ (r : Row). r.owner) o 0

module _ (a : Inside) (old : Store) (app pipe : ℕ) (before front : Option ItemRow) (next : Tables) (mid final : Buffers)
    (viewed : store_of a ≡ old) (keeps : Keeps a) (rises : IsRising 0 a.tables.pipes) (live_out : (d : ℕ) → is_live (slot_at a.desk.slots d) ≡ is_out a.desk.pool d)
    (before_is : before ≡ last_on a.tables.pipes pipe) (front_is : front ≡ oldest_on a.tables.pipes pipe)
    (taken : next ≡ record a.tables { pipes = with_pipe after_receive pipe a.tables.pipes }) where
  abbrev rows : List Row
  rows = a.tables.pipes

  abbrev rows' : List Row
  rows' = with_pipe after_receive pipe rows

  -- Before the view comes back. --

  named_last : IfSome before (IsNamed a.desk.slots)
  named_last = subst (λ o. IfSome o (IsNamed a.desk.slots)) (sym before_is) (last_found (IsNamed a.desk.slots) rows pipe keeps.backed.tied.items)

  for_last : (P : ItemRow → Type 0) → ((i : ItemRow) → IsNamed a.desk.slots i → P i) → IfSome before P
  for_last P f = at before named_last
    where
      at : (o : Option ItemRow) → IfSome o (IsNamed a.desk.slots) → IfSome o P
      at None is = tt
      at (Some i) is = f i is

  pub last_sealed : IfSome before (λ item. is_sealed (slot_at a.desk.slots item.desc) ≡ true)
  last_sealed = for_last (λ item. is_sealed (slot_at a.desk.slots item.desc) ≡ true) (λ i is. is.sealed)

  pub last_used : IfSome before (λ item. 1 ≤ (sealed_at a.desk.slots item.desc).uses)
  last_used = for_last (λ item. 1 ≤ (sealed_at a.desk.slots item.desc).uses) (λ i is. keeps.backed.used i.desc is.sealed)

  pub last_viewed : IfSome before (λ item. (sealed_at a.desk.slots item.desc).views ≤ (sealed_at a.desk.slots item.desc).uses)
  last_viewed = for_last (λ item. (sealed_at a.desk.slots item.desc).views ≤ (sealed_at a.desk.slots item.desc).uses)
      (λ i is. omega (arith, keeps.backed.tied.uses i.desc is.sealed, keeps.backed.tied.views i.desc is.sealed, lasts_few (sealed_at a.desk.slots i.desc).number rows))

  pub last_lent : IfSome before (λ item. 1 ≤ (sealed_at a.desk.slots item.desc).views)
  last_lent = at before named_last before_is
    where
      at : (o : Option ItemRow) → IfSome o (IsNamed a.desk.slots) → o ≡ last_on rows pipe → IfSome o (λ item. 1 ≤ (sealed_at a.desk.slots item.desc).views)
      at None is same = tt
      at (Some i) is same =
          omega (arith, keeps.backed.tied.views i.desc is.sealed, ap (λ n. lasts_of n rows) is.number, lasts_unlasted i.number pipe rows rises, ap (item_use i.number) same, item_use-here i)

  pub next_few : IfSome front (λ i. (sealed_at a.desk.slots i.desc).views < 4294967295)
  next_few = at front (subst (λ o. IfSome o (IsNamed a.desk.slots)) (sym front_is) (oldest_found (IsNamed a.desk.slots) rows pipe keeps.backed.tied.items))
    where
      at : (o : Option ItemRow) → IfSome o (IsNamed a.desk.slots) → IfSome o (λ i. (sealed_at a.desk.slots i.desc).views < 4294967295)
      at None is = tt
      at (Some i) is = omega (arith, keeps.backed.tied.views i.desc is.sealed, lasts_most (sealed_at a.desk.slots i.desc).number rows, keeps.pipes_live, keeps.pipes_few)

  -- what is due, before
  due_was : (number : ℕ) → view_due old.pipes old.loans app number ≡ due a.desk.slots rows app number
  due_was number = due-rows old a.desk.slots rows app number (ap (λ (o : Store). o.pipes) (sym viewed)) (ap (λ (o : Store). o.loans) (sym viewed))

  module _ (own : owns old.pipes app pipe ≡ true) where
    own_row : owns rows app pipe ≡ true
    own_row = sym (owns-map (item_in a.desk.slots) rows app pipe) ∙ ap (λ (o : Store). owns o.pipes app pipe) viewed ∙ own

    pub last_seen : (held : Holding LentBytes) → HasDue old app held → view_at held pipe ≡ option_map (view_in a.desk.slots) before
    last_seen held holds =
        holds.seen pipe ∙ due_was pipe
        ∙ ap (λ c. cond {A = Option LentBytes} c (option_map (view_in a.desk.slots) (last_on rows pipe)) None) own_row
        ∙ ap (option_map (view_in a.desk.slots)) (sym before_is)

    pub room_left : (held : Holding LentBytes) → HasDue old app held → length held.views < held.view_room + cond {A = ℕ} (is_some before) 1 0
    room_left held holds =
        let few = views-few rows app pipe rises own_row in
        let due = holds.counted ∙ ap (λ (o : Store). views_due o.pipes app) (sym viewed) ∙ views-rows a.desk.slots rows app in
        let room : a.tables.room.pipes ≤ held.view_room = subst (λ (o : Store). o.room.pipes ≤ held.view_room) (sym viewed) holds.room in
        let one = ap (λ o. cond {A = ℕ} (is_some o) 1 0) before_is in
        omega (arith, few, due, room, one, keeps.pipes_live)

  -- Between. --

  module _ (gone : mid ≡ let_go a.desk before) where
    was : IsReleased a.desk rows a.given pipe keeps.backed rises live_out mid
    was = released a.desk rows a.given pipe keeps.backed rises live_out mid (gone ∙ ap (let_go a.desk) before_is)

    for_front : (P : ItemRow → Type 0) → ((i : ItemRow) → IsNamed mid.slots i → P i) → IfSome front P
    for_front P f = at front (subst (λ o. IfSome o (IsNamed mid.slots)) (sym front_is) (front_named a.desk rows a.given pipe keeps.backed rises live_out (IsNamed mid.slots) was.tied.items))
      where
        at : (o : Option ItemRow) → IfSome o (IsNamed mid.slots) → IfSome o P
        at None is = tt
        at (Some i) is = f i is

    pub front_sealed : IfSome front (λ i. is_sealed (slot_at mid.slots i.desc) ≡ true)
    front_sealed = for_front (λ i. is_sealed (slot_at mid.slots i.desc) ≡ true) (λ i is. is.sealed)

    -- After it. --

    module _ (view : final ≡ shown mid front) where
      now : IsReceived a.desk rows a.given pipe keeps.backed rises live_out mid final
      now = received a.desk rows a.given pipe keeps.backed rises live_out mid final was (view ∙ ap (shown mid) front_is)

      pub received_keeps : Keeps (record a { tables = next; desk = final })
      received_keeps =
          subst (λ t. Keeps (record a { tables = t; desk = final })) (sym taken)
          (record {
            backed = now.kept;
            listed = listed_kept a.desk.slots a.lists.lists keeps.listed final.slots now.opened;
            places = ap most_cut now.pool ∙ was.most ∙ keeps.places;
            misses = keeps.misses;
            pipes_live = omega (arith, length-with_row after_receive pipe rows, keeps.pipes_live);
            pipes_few = keeps.pipes_few;
            subscriptions_live = keeps.subscriptions_live;
            subscriptions_made = keeps.subscriptions_made;
          })

      abbrev after : Store
      after = store_of (record a { tables = next; desk = final })

      after_is : after ≡ store_of (record a { tables = record a.tables { pipes = rows' }; desk = final })
      after_is = ap (λ t. store_of (record a { tables = t; desk = final })) taken

      pipes_are : pipes_in final.slots rows' ≡ with_pipe after_receive pipe (pipes_in a.desk.slots rows)
      pipes_are =
          pipes_stay a.desk.slots final.slots rows' now.stay
          ∙ with_pipe-map (item_in a.desk.slots) after_receive after_receive (after_receive-map (item_in a.desk.slots)) pipe rows

      account_is : account_in final.pool ≡ after_release (account_in a.desk.pool) (last_on (pipes_in a.desk.slots rows) pipe) (pipes_in final.slots rows')
      account_is =
          ap account_in now.pool ∙ was.account final.slots
          ∙ ap (λ o. after_release (account_in a.desk.pool) o (pipes_in final.slots rows')) (sym (last_on-map (item_in a.desk.slots) rows pipe))

      received_store : after ≡ record old {
        pipes = with_pipe after_receive pipe old.pipes;
        account = after_release old.account (last_on old.pipes pipe) after.pipes;
        loans = after.loans;
      }
      received_store =
          let to : List Pipe → Account → Store = λ ps c. record (store_of a) { pipes = ps; account = c; loans = after.loans } in
          after_is
          ∙ ap (λ (l : List (List Buffer)). let v : Store = record (store_of a) { pipes = pipes_in final.slots rows'; account = account_in final.pool; loans = map (loan_in final.slots) rows'; unsent = l; descs = descs_in final.slots a.lists.lists } in v)
          (unsent_kept a.desk.slots a.lists.lists keeps.listed final.slots now.opened)
          ∙ ap (λ (l : List BufferDesc). let v : Store = record (store_of a) { pipes = pipes_in final.slots rows'; account = account_in final.pool; loans = map (loan_in final.slots) rows'; descs = l } in v)
          (descs_kept a.desk.slots a.lists.lists keeps.listed final.slots now.opened)
          ∙ ap (λ (l : List LastLoan). let v : Store = record (store_of a) { pipes = pipes_in final.slots rows'; account = account_in final.pool; loans = l } in v) (sym (ap (λ (o : Store). o.loans) after_is))
          ∙ ap (λ c. to (pipes_in final.slots rows') c) (account_is ∙ ap (λ l. after_release (account_in a.desk.pool) (last_on (pipes_in a.desk.slots rows) pipe) l) (sym (ap (λ (o : Store). o.pipes) after_is)))
          ∙ ap (λ l. to l (after_release (account_in a.desk.pool) (last_on (pipes_in a.desk.slots rows) pipe) after.pipes)) pipes_are
          ∙ ap (λ (o : Store). let v : Store = record o {
            pipes = with_pipe after_receive pipe o.pipes;
            account = after_release o.account (last_on o.pipes pipe) after.pipes;
            loans = after.loans;
          } in v) viewed

      pub received_held : ((d : ℕ) → is_live (slot_at final.slots d) ≡ is_out final.pool d) → after ≡ record old {
        pipes = with_pipe after_receive pipe old.pipes;
        account = with_held old.account after.pipes old.unsent old.numbers_given;
        loans = after.loans;
      }
      received_held still_out =
          let is = ap (λ (o : Store). o.account) received_store in
          let alone = alone_as old.account (after_release old.account (last_on old.pipes pipe) after.pipes) after.account (released_alone old.account (last_on old.pipes pipe) after.pipes) is in
          let law =
          held_law (record a { tables = next; desk = final }) received_keeps still_out
          ∙ ap (λ l. with_held after.account after.pipes l a.given) (ap (λ (o : Store). o.unsent) received_store)
          ∙ ap (λ (o : Store). with_held after.account after.pipes old.unsent o.numbers_given) viewed in
          received_store
          ∙ ap (λ (c : Account). let v : Store = record old { pipes = with_pipe after_receive pipe old.pipes; account = c; loans = after.loans } in v)
          (sym is ∙ held_now old.account after.account after.pipes old.unsent old.numbers_given alone law)

      pub received_loans : (other : ℕ) → (pipe ≡ other → ⊥) → loan_of after.loans other ≡ loan_of old.loans other
      received_loans other apart =
          ap (λ (o : Store). loan_of o.loans other) after_is
          ∙ loan-rows final.slots rows' other
          ∙ same (last_on rows' other) (last_found (Stays a.desk.slots final.slots) rows' other now.stay)
          ∙ ap (loan_at a.desk.slots) (last_item-other after_receive (λ row. refl) rows pipe other apart)
          ∙ sym (loan-rows a.desk.slots rows other)
          ∙ ap (λ (o : Store). loan_of o.loans other) viewed
        where
          same : (o : Option ItemRow) → IfSome o (Stays a.desk.slots final.slots) → loan_at final.slots o ≡ loan_at a.desk.slots o
          same None s = refl
          same (Some i) s = s.loan

      -- what is due, afterwards
      due_now : (number : ℕ) → view_due after.pipes after.loans app number ≡ due final.slots rows' app number
      due_now number = due-rows after final.slots rows' app number (ap (λ (o : Store). o.pipes) after_is) (ap (λ (o : Store). o.loans) after_is)

      alike : (slots : _) (l : Option ItemRow) → IfSome l (Stays slots final.slots) → option_map (view_in final.slots) l ≡ option_map (view_in slots) l
      alike slots l stay = view_alike slots final.slots l (at l stay)
        where
          at : (o : Option ItemRow) → IfSome o (Stays slots final.slots) → IfSome o (λ i. (item_in final.slots i ≡ item_in slots i) × ((sealed_at final.slots i.desc).loan ≡ (sealed_at slots i.desc).loan))
          at None s = tt
          at (Some i) s = (s.read, s.loan)

      -- an application that doesn't own the pipe
      module _ (own : owns old.pipes app pipe ≡ true) (user : ℕ) (not_own : user ≡ app → ⊥) where
        not_owned : owns rows user pipe ≡ false
        not_owned = at (owns rows user pipe) refl
          where
            at : (c : Bool) → owns rows user pipe ≡ c → owns rows user pipe ≡ false
            at false e = e
            at true e =
                let mine = own_found 0 rows app pipe rises (own_row own) in
                let its = own_found 0 rows user pipe rises e in
                let same : its.row.owner ≡ mine.row.owner = one_owner (pipe_at rows pipe) its.row mine.row its.is mine.is in
                absurd (not_own (sym (eqb-true its.row.owner user its.own) ∙ same ∙ eqb-true mine.row.owner app mine.own))

        due_same : (number : ℕ) → (pipe ≡ number) ⊎ (pipe ≡ number → ⊥) → due final.slots rows' user number ≡ due a.desk.slots rows user number
        due_same number (inl here) =
            ap (λ c. cond {A = Option LentBytes} c (option_map (view_in final.slots) (last_on rows' number)) None) (owns-changed after_receive (λ row. refl) (λ row. refl) rows pipe user number ∙ none)
            ∙ sym (ap (λ c. cond {A = Option LentBytes} c (option_map (view_in a.desk.slots) (last_on rows number)) None) none)
          where
            none : owns rows user number ≡ false
            none = ap (owns rows user) (sym here) ∙ not_owned
        due_same number (inr apart) =
            ap (λ c. cond {A = Option LentBytes} c (option_map (view_in final.slots) (last_on rows' number)) None) (owns-changed after_receive (λ row. refl) (λ row. refl) rows pipe user number)
            ∙ ap (λ l. cond {A = Option LentBytes} (owns rows user number) l None)
            (alike a.desk.slots (last_on rows' number) (last_found (Stays a.desk.slots final.slots) rows' number now.stay)
            ∙ ap (option_map (view_in a.desk.slots)) (last_item-other after_receive (λ row. refl) rows pipe number apart))

        views_same : count_by (has_view user) rows' ≡ count_by (has_view user) rows
        views_same =
            let mine = own_found 0 rows app pipe rises (own_row own) in
            views-others rows user pipe rises mine.row mine.is (λ e. not_own (sym (eqb-true mine.row.owner user e) ∙ eqb-true mine.row.owner app mine.own))

        pub received_others : (bag : Holding LentBytes) → HasDue old user bag → HasDue after user bag
        received_others bag =
            holds_same old after user bag
            (λ number.
            due-rows after final.slots rows' user number (ap (λ (o : Store). o.pipes) after_is) (ap (λ (o : Store). o.loans) after_is)
            ∙ due_same number (cases_eq pipe number)
            ∙ sym (due-rows old a.desk.slots rows user number (ap (λ (o : Store). o.pipes) (sym viewed)) (ap (λ (o : Store). o.loans) (sym viewed))))
            (ap (λ (o : Store). views_due o.pipes user) after_is ∙ views-rows final.slots rows' user ∙ views_same ∙ sym (views-rows a.desk.slots rows user) ∙ ap (λ (o : Store). views_due o.pipes user) viewed)
            (ap (λ (o : Store). o.room) after_is ∙ ap (λ (o : Store). o.room) viewed)

      module _ (own : owns old.pipes app pipe ≡ true) (held bag : Holding LentBytes) (holds : HasDue old app held)
          (put : (other : ℕ) → view_at bag other ≡ cond {A = Option LentBytes} (eqb pipe other) (option_map (view_in mid.slots) front) (view_at held other))
          (changed : length bag.views + cond {A = ℕ} (is_some before) 1 0 ≡ length held.views + cond {A = ℕ} (is_some front) 1 0)
          (same : bag.view_room ≡ held.view_room) where
        seen : (number : ℕ) → (pipe ≡ number) ⊎ (pipe ≡ number → ⊥) → view_at bag number ≡ due final.slots rows' app number
        seen number (inl here) =
            subst (λ n. view_at bag n ≡ due final.slots rows' app n) here
            (put pipe
            ∙ ap (λ c. cond {A = Option LentBytes} c (option_map (view_in mid.slots) front) (view_at held pipe)) (eqb_same pipe)
            ∙ ap (option_map (view_in mid.slots)) (front_is ∙ sym (last_item-taken rows pipe))
            ∙ sym (alike mid.slots (last_on rows' pipe) (last_found (Stays mid.slots final.slots) rows' pipe now.since))
            ∙ sym (ap (λ c. cond {A = Option LentBytes} c (option_map (view_in final.slots) (last_on rows' pipe)) None) (owns-changed after_receive (λ row. refl) (λ row. refl) rows pipe app pipe ∙ own_row own)))
          where
            eqb_same : (n : ℕ) → eqb n n ≡ true
            eqb_same n = grind (arith, nat_tests)
        seen number (inr apart) =
            put number
            ∙ ap (λ c. cond {A = Option LentBytes} c (option_map (view_in mid.slots) front) (view_at held number)) (off (eqb pipe number) refl)
            ∙ holds.seen number ∙ due_was number
            ∙ sym
            (ap (λ c. cond {A = Option LentBytes} c (option_map (view_in final.slots) (last_on rows' number)) None) (owns-changed after_receive (λ row. refl) (λ row. refl) rows pipe app number)
            ∙ ap (λ l. cond {A = Option LentBytes} (owns rows app number) l None)
            (alike a.desk.slots (last_on rows' number) (last_found (Stays a.desk.slots final.slots) rows' number now.stay)
            ∙ ap (option_map (view_in a.desk.slots)) (last_item-other after_receive (λ row. refl) rows pipe number apart)))
          where
            off : (c : Bool) → eqb pipe number ≡ c → eqb pipe number ≡ false
            off false e = e
            off true e = absurd (apart (eqb-true pipe number e))

        pub received_bag : HasDue after app bag
        received_bag = record {
          seen = λ number. seen number (cases_eq pipe number) ∙ sym (due_now number);
          counted =
              let due = holds.counted ∙ ap (λ (o : Store). views_due o.pipes app) (sym viewed) ∙ views-rows a.desk.slots rows app in
              let then = ap (λ (o : Store). views_due o.pipes app) after_is ∙ views-rows final.slots rows' app in
              let moved = views-taken rows app pipe rises (own_row own) in
              let one = ap (λ o. cond {A = ℕ} (is_some o) 1 0) before_is in
              let other = ap (λ o. cond {A = ℕ} (is_some o) 1 0) front_is in
              omega (arith, due, then, moved, one, other, changed);
          room =
              let room : a.tables.room.pipes ≤ held.view_room = subst (λ (o : Store). o.room.pipes ≤ held.view_room) (sym viewed) holds.room in
              subst (λ (o : Store). o.room.pipes ≤ bag.view_room) (sym after_is) (omega (arith, room, same));
        }

  -- the number of what is received
  pub received_number : (result : Option ℕ) → result ≡ option_map (λ (i : ItemRow). i.number) front → result ≡ option_map (λ (i : Item). i.number) (oldest_on old.pipes pipe)
  received_number result is =
      is ∙ ap (option_map (λ (i : ItemRow). i.number)) front_is ∙ by_item (oldest_on rows pipe)
      ∙ ap (option_map (λ (i : Item). i.number)) (sym (oldest_on-map (item_in a.desk.slots) rows pipe) ∙ ap (λ (o : Store). oldest_on o.pipes pipe) viewed)
    where
      by_item : (o : Option ItemRow) → option_map (λ (i : ItemRow). i.number) o ≡ option_map (λ (i : Item). i.number) (option_map (item_in a.desk.slots) o)
      by_item None = refl
      by_item (Some i) = refl
