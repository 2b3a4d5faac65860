-- A buffer that is sent: what the store and the bags are then.
use Rattle.std.proofs.Common.{◌≡◌, ℕ, ◌-◌, ◌<◌, ◌≤◌, zero, suc, Bool, true, false, cond, eqb, leb, ltb, List, [], ◌∷◌, length, set, map, take, Option, Some, None, refl, ap, sym, ◌∙◌, subst, arith}
use Rattle.std.specs.Option.{option_map_or}
use Rattle.fsw_base.specs.Blocks.{class_of}
use Rattle.fsw_base.specs.PoolAccounts.{Account}
use Rattle.lend_block.specs.Loan.{LentBytes}
use Rattle.ccsds_msg.specs.Message.{message_id, message_size, with_count, front_fault, id_fault}
use Rattle.ccsds_msg.specs.declared.packet.MsgFault.{MsgFault}
use Rattle.ccsds_msg.specs.declared.packet.MsgFault.TheVariants.{Short, Length}
use Rattle.std.proofs.lemmas.Bool.Decides.{nat_tests}
use Rattle.bucket_list.specs.Lists.{times_in}
use Rattle.zero_copy.specs.Held.{HeldDescs, held_by, without}
use Rattle.es_pool.specs.Pool.{PoolState, is_out, class_at, most_cut}
use Rattle.es_pool.specs.Account.{IsAccountOf}
use Rattle.buf_desc.specs.Block.{Unsent as UnsentBlock}
use Rattle.buf_desc.specs.Desk.{Buffers, resealed, after_settle}
use Rattle.buf_desc.specs.Held.{Holding, buffer_at}
use Rattle.buf_desc.specs.Slots.{slot_at, sealed_at, is_sealed, is_open, is_live, number_in, asked_in, HaveOwnNumbers}
use Rattle.buf_desc.specs.declared.slot.Slot.{Slot}
use Rattle.bus_words.specs.Bus.{Pipe, Subscription, Buffer, Sending, route, deliver, reached, drops, unsent_size, without_unsent}
use Rattle.bus_words.specs.Machine.{stamped, front_of}
use Rattle.bus_words.specs.Acts.{next_in}
use Rattle.bus_words.specs.declared.miss.Miss.{Miss}
use Rattle.bus_routes.specs.Missed.{Missed}
use Rattle.bus_routes.specs.Rows.{Row, deliver_rows, reached_rows, missed_rows, dropped_rows}
use Rattle.bus_words.specs.Pipes.{IsRising}
use Rattle.bus_routes.specs.Tables.{Tables}
use Rattle.bus_routes.proofs.UseCounts.{dropped_few}
use Rattle.bus_messages.specs.declared.store.BusStore.TheInside.{Inside}
use Rattle.bus_messages.specs.Bag.{HoldsBuffers}
use Rattle.bus_messages.specs.Blocks.{IsGiven}
use Rattle.bus_messages.specs.Store.{Store, LastLoan, BufferDesc}
use Rattle.bus_messages.specs.Words.{desc_of, next_of, reads_of, passing_of, missed, counted_up, with_held}
use Rattle.bus_messages.specs.Inside.{AreLoose, all_dropped, store_of, Keeps, Seals, account_in, pipes_in, loan_in, unsent_in, descs_in, AreListed, after_send}
use Rattle.bus_messages.proofs.Accounts.{OutAlone, held_law, held_now, alone_as, alone_then, sent_alone}
use Rattle.bus_messages.proofs.Drops.{AreGone, are_loose, all_gone, gone_backed}
use Rattle.bus_messages.proofs.Lasts.{AreLike, HasDue, holds_like, like_delivered}
use Rattle.bus_messages.proofs.BufferLists.{mine_open, listed_kept, unsent_kept, descs_kept}
use Rattle.bus_messages.proofs.RowChanges.{message_of}
use Rattle.bus_messages.proofs.ListChanges.{list_of, listed_fewer, unsent_fewer, desc_fewer, others_fewer, bag_fewer}
use Rattle.bus_messages.proofs.Sends.{Begins, IsSent, is_sent}
use Rattle.bus_messages.proofs.Stores.{length-deliver}
use Rattle.bus_messages.proofs.OwnBuffers.{list_there}
use Rattle.bus_messages.proofs.Ties.{sealed_live, sealed_number, open_live, open_unsealed, pipes_stay, loans_stay}

-- the id stands in the first two bytes
pub id_front : (bytes : List ℕ) (n : ℕ) → 2 ≤ n → message_id (take n bytes) ≡ message_id bytes
id_front [] zero h = refl
id_front [] (suc n) h = refl
id_front (x ∷ bytes) zero h = absurd (omega (arith, h))
id_front (x ∷ bytes) (suc zero) h = absurd (omega (arith, h))
id_front (x ∷ []) (suc (suc n)) h = refl
id_front (x ∷ (y ∷ bytes)) (suc (suc n)) h = refl

pub front_id : (bytes : List ℕ) → message_id (front_of bytes) ≡ message_id bytes
front_id bytes = id_front bytes (message_size bytes) (omega arith)

-- bytes that begin with a message have its header, and all of it
pub front_long : (bytes : List ℕ) → front_fault bytes ≡ None → (7 ≤ length bytes) × (message_size bytes ≤ length bytes)
unfolding front_fault
front_long bytes none = at (ltb (length bytes) 7) refl (leb (message_size bytes) (length bytes)) refl none
  where
    long : (n : ℕ) → ltb n 7 ≡ false → 7 ≤ n
    long n e = grind (arith, nat_tests)

    within : (m n : ℕ) → leb m n ≡ true → m ≤ n
    within m n e = grind (arith, nat_tests)

    at : (short : Bool) → ltb (length bytes) 7 ≡ short → (whole : Bool) → leb (message_size bytes) (length bytes) ≡ whole →
        cond {A = Option MsgFault} (ltb (length bytes) 7) (Some Short) (cond (leb (message_size bytes) (length bytes)) (id_fault (message_id bytes)) (Some (Length (message_size bytes) (length bytes)))) ≡ None →
        (7 ≤ length bytes) × (message_size bytes ≤ length bytes)
    at true s whole w e = absurd (cc (sym (ap (λ b. cond {A = Option MsgFault} b (Some Short) (cond (leb (message_size bytes) (length bytes)) (id_fault (message_id bytes)) (Some (Length (message_size bytes) (length bytes))))) s) ∙ e))
    at false s true w e = (long (length bytes) s, within (message_size bytes) (length bytes) w)
    at false s false w e = absurd (cc (sym (ap (λ b. cond {A = Option MsgFault} b (Some Short) (cond (leb (message_size bytes) (length bytes)) (id_fault (message_id bytes)) (Some (Length (message_size bytes) (length bytes))))) s
        ∙ ap (λ b. cond {A = Option MsgFault} b (id_fault (message_id bytes)) (Some (Length (message_size bytes) (length bytes)))) w) ∙ e))

module _ (a : Inside) (old : Store) (app buf : ℕ) (bytes : List ℕ) (inc : Bool) (id desc arrived : ℕ) (count : Option ℕ)
    (mid final : Buffers) (counting next : Tables) (misses : Missed) (lists : HeldDescs)
    (viewed : store_of a ≡ old) (keeps : Keeps a) (rises : IsRising 0 a.tables.pipes) (one : 1 ≤ app)
    (mine : 0 < times_in (list_of a.lists.lists app) desc) (numbered : number_in (slot_at a.desk.slots desc) ≡ buf)
    (size : unsent_size old.unsent app buf ≡ asked_in (slot_at a.desk.slots desc))
    (went : lists ≡ record a.lists { lists = set a.lists.lists (app - 1) (without desc (held_by a.lists app)) })
    (same : id ≡ message_id bytes) (told : count ≡ cond {A = Option ℕ} inc (Some (next_in (map (next_of a.tables.room.starts) a.tables.routes) id)) None)
    (counts : counting ≡ record a.tables { routes = counted_up a.tables.routes id inc })
    (seals : Seals a.desk mid buf (asked_in (slot_at a.desk.slots desc)) (option_map_or (with_count (front_of bytes)) count (front_of bytes)) desc)
    (pool : mid.pool ≡ a.desk.pool) (numbers : HaveOwnNumbers a.desk.slots → HaveOwnNumbers mid.slots)
    (now_out : (d : ℕ) → is_live (slot_at mid.slots d) ≡ is_out mid.pool d)
    (delivered : next ≡ record counting { pipes = deliver_rows (record { sender = app; number = buf; desc = desc }) (route counting.subscriptions id) counting.pipes })
    (took : arrived ≡ reached_rows (record { sender = app; number = buf; desc = desc }) (route counting.subscriptions id) counting.pipes)
    (missing : misses ≡ record a.misses { items = missed_rows (record { sender = app; number = buf; desc = desc }) (route counting.subscriptions id) counting.pipes; dropped = dropped_rows (record { sender = app; number = buf; desc = desc }) (route counting.subscriptions id) counting.pipes })
    (settled : final ≡ after_settle (resealed mid desc (record (sealed_at mid.slots desc) { uses = arrived })) desc) where
  abbrev sending : Sending
  sending = passing_of (store_of a) app buf bytes inc

  abbrev subs : List Subscription
  subs = route a.tables.subscriptions (message_id bytes)

  abbrev slots : List Slot
  slots = a.desk.slots

  is_message : option_map_or (with_count (front_of bytes)) count (front_of bytes) ≡ sending.message
  is_message = ap (λ o. option_map_or (with_count (front_of bytes)) o (front_of bytes)) told ∙ by_test inc
    where
      by_test : (b : Bool) → option_map_or (with_count (front_of bytes)) (cond {A = Option ℕ} b (Some (next_in (map (next_of a.tables.room.starts) a.tables.routes) id)) None) (front_of bytes) ≡ stamped (reads_of (store_of a)) (front_of bytes) b
      by_test true = ap (λ i. with_count (front_of bytes) (next_in (map (next_of a.tables.room.starts) a.tables.routes) i)) (same ∙ sym (front_id bytes))
      by_test false = refl

  sized : sending.asked ≡ asked_in (slot_at slots desc)
  sized = ap (λ (o : Store). unsent_size o.unsent app buf) viewed ∙ size

  was_open : is_open (slot_at slots desc) ≡ true
  was_open = mine_open slots a.lists.lists keeps.listed keeps.backed.tied.numbers app desc mine

  live : is_live (slot_at slots desc) ≡ true
  live = open_live (slot_at slots desc) was_open

  begins : Begins a.desk mid sending desc a.given a.given
  begins = record {
    seals = subst (λ l. Seals a.desk mid buf sending.asked l desc) is_message
        (subst (λ n. Seals a.desk mid buf n (option_map_or (with_count (front_of bytes)) count (front_of bytes)) desc) (sym sized) seals);
    unsealed = open_unsealed (slot_at slots desc) was_open;
    number_new = λ d is e. off (is_sealed (slot_at slots desc)) (open_unsealed (slot_at slots desc) was_open)
        (ap (λ x. is_sealed (slot_at slots x)) (keeps.backed.tied.numbers desc d live (sealed_live (slot_at slots d) is) (numbered ∙ e ∙ sym (sealed_number (slot_at slots d) is))) ∙ is);
    numbers = numbers keeps.backed.tied.numbers;
    number_given = subst (IsGiven a.given) numbered (keeps.backed.tied.given desc live);
    more = omega arith;
    sizes = ap (λ (p : PoolState). p.sizes) pool;
    here = ap (λ n. class_of n mid.pool.sizes) sized ∙ subst (λ (p : PoolState). class_of (asked_in (slot_at slots desc)) p.sizes ≡ Some (class_at p desc)) (sym pool) (keeps.backed.tied.sizes desc live);
    others = λ other apart is. ap (λ (p : PoolState). class_at p other) pool;
    account = subst (λ (p : PoolState). IsAccountOf p (account_in p)) (sym pool) keeps.backed.tied.account;
  }
    where
      off : (b : Bool) → b ≡ false → b ≡ true → ⊥
      off b x y = cc

  abbrev rows_for : ℕ → Tables → List Row
  rows_for i t = deliver_rows (record { sender = app; number = buf; desc = desc }) (route t.subscriptions i) t.pipes

  sent : IsSent a.desk mid final a.tables.pipes subs sending a.given desc arrived
  sent =
      is_sent a.desk mid a.tables.pipes subs sending a.given a.given desc arrived keeps.backed begins rises
      (sym (now_out desc) ∙ sealed_live (slot_at mid.slots desc) seals.sealed)
      (took
      ∙ ap (λ (t : Tables). reached_rows (record { sender = app; number = buf; desc = desc }) (route t.subscriptions id) t.pipes) counts
      ∙ ap (λ i. reached_rows (record { sender = app; number = buf; desc = desc }) (route a.tables.subscriptions i) a.tables.pipes) same)
      final settled

  abbrev rows' : List Row
  rows' = deliver_rows (message_of sending desc) subs a.tables.pipes

  next_is : next ≡ record a.tables { routes = counted_up a.tables.routes (message_id bytes) inc; pipes = rows' }
  next_is =
      delivered
      ∙ ap (λ (t : Tables). let v : Tables = record t { pipes = rows_for id t } in v) counts
      ∙ ap (λ i. let v : Tables = record a.tables { routes = counted_up a.tables.routes i inc; pipes = rows_for i a.tables } in v) same

  misses_are : misses ≡ record a.misses { items = missed_rows (message_of sending desc) subs a.tables.pipes; dropped = dropped_rows (message_of sending desc) subs a.tables.pipes }
  misses_are =
      missing
      ∙ ap (λ (t : Tables). let v : Missed = record a.misses { items = missed_rows (record { sender = app; number = buf; desc = desc }) (route t.subscriptions id) t.pipes; dropped = dropped_rows (record { sender = app; number = buf; desc = desc }) (route t.subscriptions id) t.pipes } in v) counts
      ∙ ap (λ i. let v : Missed = record a.misses { items = missed_rows (record { sender = app; number = buf; desc = desc }) (route a.tables.subscriptions i) a.tables.pipes; dropped = dropped_rows (record { sender = app; number = buf; desc = desc }) (route a.tables.subscriptions i) a.tables.pipes } in v) same

  place : app - 1 < length a.lists.lists
  place = list_there a.lists.lists (app - 1) desc mine

  abbrev lists' : List (List ℕ)
  lists' = set a.lists.lists (app - 1) (without desc (held_by a.lists app))

  pub passed_reached : arrived ≡ reached (passing_of old app buf bytes inc) (route old.subscriptions (message_id bytes)) old.pipes
  passed_reached = sent.arrived ∙ ap (λ (o : Store). reached (passing_of o app buf bytes inc) (route o.subscriptions (message_id bytes)) o.pipes) viewed

  -- what pipes dropped has uses still
  pub passed_loose : AreLoose final misses.dropped
  passed_loose = subst (AreLoose final) (sym (ap (λ (m : Missed). m.dropped) misses_are)) (are_loose final rows' (dropped_rows (message_of sending desc) subs a.tables.pipes) a.given sent.have)

  -- and is no more than there are pipes that drop a message
  pub passed_drops : length misses.dropped ≤ drops (passing_of old app buf bytes inc) (route old.subscriptions (message_id bytes)) old.pipes
  passed_drops =
      omega (
        arith,
        ap (λ (m : Missed). length m.dropped) misses_are,
        dropped_few (message_of sending desc) subs a.tables.pipes,
        sent.dropped ∙ ap (λ (o : Store). drops (passing_of o app buf bytes inc) (route o.subscriptions (message_id bytes)) o.pipes) viewed,
      )

  -- the lists before they are let go
  listed_final : AreListed final.slots lists'
  listed_final = listed_fewer slots final.slots a.lists.lists app desc keeps.listed keeps.backed.tied.numbers sent.have.tied.numbers place mine sent.closed sent.others

  module _ (last : Buffers) (settled_out : (d : ℕ) → is_live (slot_at final.slots d) ≡ is_out final.pool d) (letting : last ≡ all_dropped final misses.dropped) where
    gone : AreGone final rows' [] a.given last
    gone =
        subst (AreGone final rows' [] a.given) (sym (letting ∙ ap (λ (m : Missed). all_dropped final m.dropped) misses_are))
        (all_gone final rows' (dropped_rows (message_of sending desc) subs a.tables.pipes) a.given sent.have (λ d is. sym (settled_out d) ∙ sealed_live (slot_at final.slots d) is))

    unsent_last : unsent_in last.slots lists' ≡ unsent_in final.slots lists'
    unsent_last = unsent_kept final.slots lists' listed_final last.slots gone.opened

    descs_last : descs_in last.slots lists' ≡ descs_in final.slots lists'
    descs_last = descs_kept final.slots lists' listed_final last.slots gone.opened

    abbrev after : Inside
    after = record a { tables = next; desk = last; misses = misses; lists = lists }

    abbrev told_after : Inside
    told_after = record a {
      tables = record a.tables { routes = counted_up a.tables.routes (message_id bytes) inc; pipes = rows' };
      desk = last;
      misses = record a.misses { items = missed_rows (message_of sending desc) subs a.tables.pipes; dropped = dropped_rows (message_of sending desc) subs a.tables.pipes };
      lists = record a.lists { lists = lists' };
    }

    after_is : after ≡ told_after
    after_is =
        ap (λ (t : Tables). let v : Inside = record a { tables = t; desk = last; misses = misses; lists = lists } in v) next_is
        ∙ ap (λ (m : Missed). let v : Inside = record told_after { misses = m; lists = lists } in v) misses_are
        ∙ ap (λ (l : HeldDescs). let v : Inside = record told_after { lists = l } in v) went

    pub passed_keeps : Keeps after
    passed_keeps = subst Keeps (sym after_is) (record {
      backed = gone_backed final last rows' a.given gone;
      listed = listed_kept final.slots lists' listed_final last.slots gone.opened;
      places = gone.most ∙ sent.most ∙ ap most_cut pool ∙ keeps.places;
      misses = keeps.misses;
      pipes_live = omega (arith, length-deliver (message_of sending desc) subs a.tables.pipes, keeps.pipes_live);
      pipes_few = keeps.pipes_few;
      subscriptions_live = keeps.subscriptions_live;
      subscriptions_made = keeps.subscriptions_made;
    })

    abbrev new : Store
    new = store_of after

    unsent_is : unsent_in last.slots lists' ≡ without_unsent (unsent_in slots a.lists.lists) app buf
    unsent_is =
        unsent_last
        ∙ unsent_fewer slots final.slots a.lists.lists app desc keeps.listed keeps.backed.tied.numbers sent.have.tied.numbers place mine sent.closed sent.others
        ∙ ap (without_unsent (unsent_in slots a.lists.lists) app) numbered

    -- what the fields stand for then
    abbrev to : List Pipe → List Miss → List (List Buffer) → Account → List LastLoan → Store
    to pipes items unsent account loans = record (store_of a) {
      pipes = pipes;
      routes = counted_up a.tables.routes (message_id bytes) inc;
      missed = items;
      unsent = unsent;
      account = account;
      loans = loans;
      descs = new.descs;
    }

    passed_store : new ≡ record old {
      pipes = deliver (passing_of old app buf bytes inc) (route old.subscriptions (message_id bytes)) old.pipes;
      routes = counted_up old.routes (message_id bytes) inc;
      missed = missed (passing_of old app buf bytes inc) (route old.subscriptions (message_id bytes)) old.pipes;
      unsent = without_unsent old.unsent app buf;
      account = account_in last.pool;
      descs = new.descs;
    }
    passed_store =
        ap store_of after_is
        ∙ ap (λ (l : List BufferDesc). let v : Store = record (store_of told_after) { descs = l } in v) (sym (ap (λ (x : Inside). (store_of x).descs) after_is))
        ∙ ap (λ l. to l (missed_rows (message_of sending desc) subs a.tables.pipes) (unsent_in last.slots lists') (account_in last.pool) (map (loan_in last.slots) rows')) (pipes_stay final.slots last.slots rows' gone.stay ∙ sent.pipes)
        ∙ ap (λ l. to (deliver sending subs (pipes_in slots a.tables.pipes)) l (unsent_in last.slots lists') (account_in last.pool) (map (loan_in last.slots) rows')) sent.misses
        ∙ ap (λ l. to (deliver sending subs (pipes_in slots a.tables.pipes)) (missed sending subs (pipes_in slots a.tables.pipes)) l (account_in last.pool) (map (loan_in last.slots) rows')) unsent_is
        ∙ ap (λ l. to (deliver sending subs (pipes_in slots a.tables.pipes)) (missed sending subs (pipes_in slots a.tables.pipes)) (without_unsent (store_of a).unsent app buf) (account_in last.pool) l) (loans_stay final.slots last.slots rows' gone.stay ∙ sent.loans)
        ∙ ap (λ (o : Store). let v : Store = record o {
          pipes = deliver (passing_of o app buf bytes inc) (route o.subscriptions (message_id bytes)) o.pipes;
          routes = counted_up o.routes (message_id bytes) inc;
          missed = missed (passing_of o app buf bytes inc) (route o.subscriptions (message_id bytes)) o.pipes;
          unsent = without_unsent o.unsent app buf;
          account = account_in last.pool;
          descs = new.descs;
        } in v) viewed

    pub passed_held : ((d : ℕ) → is_live (slot_at last.slots d) ≡ is_out last.pool d) → new ≡ record old {
      pipes = deliver (passing_of old app buf bytes inc) (route old.subscriptions (message_id bytes)) old.pipes;
      routes = counted_up old.routes (message_id bytes) inc;
      missed = missed (passing_of old app buf bytes inc) (route old.subscriptions (message_id bytes)) old.pipes;
      unsent = without_unsent old.unsent app buf;
      account = with_held old.account new.pipes new.unsent old.numbers_given;
      descs = new.descs;
    }
    passed_held still_out =
        let is = ap (λ (o : Store). o.account) passed_store in
        let asked = asked_in (slot_at slots desc) in
        let first : OutAlone old.account (account_in final.pool) =
        alone_as old.account (after_send old.account asked arrived) (account_in final.pool) (sent_alone old.account asked arrived)
        (sent.account
        ∙ ap (λ n. after_send (account_in mid.pool) n arrived) sized
        ∙ ap (λ (p : PoolState). after_send (account_in p) asked arrived) pool
        ∙ ap (λ (o : Store). after_send o.account asked arrived) viewed) in
        let alone = alone_as old.account (account_in last.pool) new.account (alone_then old.account (account_in final.pool) (account_in last.pool) first gone.account) is in
        let law = held_law after passed_keeps still_out ∙ ap (λ (o : Store). with_held new.account new.pipes new.unsent o.numbers_given) viewed in
        passed_store
        ∙ ap (λ (c : Account). let v : Store = record old {
          pipes = deliver (passing_of old app buf bytes inc) (route old.subscriptions (message_id bytes)) old.pipes;
          routes = counted_up old.routes (message_id bytes) inc;
          missed = missed (passing_of old app buf bytes inc) (route old.subscriptions (message_id bytes)) old.pipes;
          unsent = without_unsent old.unsent app buf;
          account = c;
          descs = new.descs;
        } in v) (sym is ∙ held_now old.account new.account new.pipes new.unsent old.numbers_given alone law)

    -- the same, of bytes that are told otherwise
    pub passed_at : (told_bytes : List ℕ) → told_bytes ≡ bytes → ((d : ℕ) → is_live (slot_at last.slots d) ≡ is_out last.pool d) → new ≡ record old {
      pipes = deliver (passing_of old app buf told_bytes inc) (route old.subscriptions (message_id told_bytes)) old.pipes;
      routes = counted_up old.routes (message_id told_bytes) inc;
      missed = missed (passing_of old app buf told_bytes inc) (route old.subscriptions (message_id told_bytes)) old.pipes;
      unsent = without_unsent old.unsent app buf;
      account = with_held old.account new.pipes new.unsent old.numbers_given;
      descs = new.descs;
    }
    passed_at told_bytes are still_out =
        subst (λ (l : List ℕ). new ≡ record old {
          pipes = deliver (passing_of old app buf l inc) (route old.subscriptions (message_id l)) old.pipes;
          routes = counted_up old.routes (message_id l) inc;
          missed = missed (passing_of old app buf l inc) (route old.subscriptions (message_id l)) old.pipes;
          unsent = without_unsent old.unsent app buf;
          account = with_held old.account new.pipes new.unsent old.numbers_given;
          descs = new.descs;
        }) (sym are) (passed_held still_out)

    pub passed_views : (user : ℕ) (bag : Holding LentBytes) → HasDue old user bag → HasDue new user bag
    passed_views user bag =
        let like = like_delivered (passing_of old app buf bytes inc) (route old.subscriptions (message_id bytes)) old.pipes in
        holds_like old new user bag
        (subst (AreLike old.pipes) (sym (ap (λ (o : Store). o.pipes) passed_store)) like) (ap (λ (o : Store). o.loans) passed_store) (ap (λ (o : Store). o.room) passed_store)

    pub passed_descs : (other : ℕ) → (buf ≡ other → ⊥) → desc_of new.descs other ≡ desc_of old.descs other
    passed_descs other apart =
        ap (λ (x : Inside). desc_of (store_of x).descs other) after_is
        ∙ ap (λ l. desc_of l other) descs_last
        ∙ desc_fewer slots final.slots a.lists.lists app desc keeps.listed keeps.backed.tied.numbers sent.have.tied.numbers place mine sent.closed sent.others other (λ e. apart (sym numbered ∙ e))
        ∙ ap (λ (o : Store). desc_of o.descs other) viewed

    was_held : (user : ℕ) (bag : Holding LentBytes) → HoldsBuffers old.unsent old.descs old.account.sizes user bag → HoldsBuffers (unsent_in slots a.lists.lists) (descs_in slots a.lists.lists) a.desk.pool.sizes user bag
    was_held user bag = subst (λ (o : Store). HoldsBuffers o.unsent o.descs o.account.sizes user bag) (sym viewed)

    sizes_same : new.account.sizes ≡ a.desk.pool.sizes
    sizes_same = ap (λ (x : Inside). (store_of x).account.sizes) after_is ∙ gone.sizes ∙ final_sizes ∙ ap (λ (p : PoolState). p.sizes) pool
      where
        final_sizes : final.pool.sizes ≡ mid.pool.sizes
        final_sizes = sent.sizes

    now_held : (user : ℕ) (bag : Holding LentBytes) → HoldsBuffers (unsent_in final.slots lists') (descs_in final.slots lists') a.desk.pool.sizes user bag → HoldsBuffers new.unsent new.descs new.account.sizes user bag
    now_held user bag holds =
        subst (λ (l : List ℕ). HoldsBuffers new.unsent new.descs l user bag) (sym sizes_same)
        (subst (λ (x : Inside). HoldsBuffers (store_of x).unsent (store_of x).descs a.desk.pool.sizes user bag) (sym after_is)
        (subst (λ l. HoldsBuffers l (descs_in last.slots lists') a.desk.pool.sizes user bag) (sym unsent_last)
        (subst (λ l. HoldsBuffers (unsent_in final.slots lists') l a.desk.pool.sizes user bag) (sym descs_last) holds)))

    pub passed_others : (other : ℕ) (bag : Holding LentBytes) → (other ≡ app → ⊥) → HoldsBuffers old.unsent old.descs old.account.sizes other bag → HoldsBuffers new.unsent new.descs new.account.sizes other bag
    passed_others other bag apart holds =
        now_held other bag
        (others_fewer slots final.slots a.lists.lists app desc keeps.listed keeps.backed.tied.numbers sent.have.tied.numbers place mine sent.closed sent.others a.desk.pool.sizes one other bag apart (was_held other bag holds))

    pub passed_bag : (held bag : Holding LentBytes) → HoldsBuffers old.unsent old.descs old.account.sizes app held →
        ((n : ℕ) → buffer_at bag n ≡ cond {A = Option UnsentBlock} (eqb buf n) None (buffer_at held n)) → HoldsBuffers new.unsent new.descs new.account.sizes app bag
    passed_bag held bag holds gone =
        now_held app bag
        (bag_fewer slots final.slots a.lists.lists app desc keeps.listed keeps.backed.tied.numbers sent.have.tied.numbers place mine sent.closed sent.others a.desk.pool.sizes one held bag (was_held app held holds)
        (λ n. gone n ∙ ap (λ k. cond {A = Option UnsentBlock} (eqb k n) None (buffer_at held n)) (sym numbered)))
