-- What calls leave of the store, and what keeps the next ones safe.
use Rattle.std.proofs.Common.{◌≡◌, ℕ, ◌+◌, ◌≤◌, Bool, true, false, cond, eqb, List, [], ◌∷◌, length, map, Option, Some, None, refl, ap, sym, ◌∙◌, subst, arith}
use Rattle.std.specs.Option.{option_map_or}
use Rattle.std.proofs.lemmas.List.{length-map}
use Rattle.fsw_base.specs.PoolAccounts.{Account, has_room, after_request}
use Rattle.ccsds_msg.specs.Message.{message_id, with_count}
use Rattle.es_pool.specs.Pool.{DrawsFor, is_out}
use Rattle.buf_desc.specs.Slots.{slot_at, sealed_at, is_sealed, is_live}
use Rattle.buf_desc.specs.Desk.{Buffers, resealed, after_settle}
use Rattle.bus_words.specs.Bus.{Pipe, Subscription, Buffer, Sending, route, deliver, reached, drops}
use Rattle.bus_words.specs.Machine.{stamped}
use Rattle.bus_words.specs.Acts.{next_in}
use Rattle.bus_routes.specs.declared.message.Message.{Message}
use Rattle.bus_words.specs.declared.miss.Miss.{Miss}
use Rattle.bus_routes.specs.Missed.{Missed}
use Rattle.bus_words.specs.Pipes.{with_pipe, IsRising}
use Rattle.bus_routes.specs.Rows.{Row, offered_row, deliver_rows, reached_rows, missed_rows, dropped_rows}
use Rattle.bus_routes.specs.Tables.{Tables}
use Rattle.bus_routes.proofs.UseCounts.{dropped_few}
use Rattle.bus_messages.specs.declared.store.BusStore.TheInside.{Inside}
use Rattle.bus_messages.specs.Store.{Store, LastLoan, BufferDesc}
use Rattle.bus_messages.specs.Words.{next_of, reads_of, sending_of, missed, counted_up, with_held}
use Rattle.bus_messages.specs.Inside.{AreLoose, all_dropped, store_of, Keeps, Backed, Seals, Adds, account_in, pipes_in, descs_in, loan_in, after_send}
use Rattle.buf_desc.proofs.Copies.{length-counted}
use Rattle.lend_block.specs.Loan.{LentBytes}
use Rattle.buf_desc.specs.Held.{Holding}
use Rattle.bus_messages.proofs.Accounts.{OutAlone, held_law, held_now, alone_as, alone_then, sent_alone}
use Rattle.bus_messages.proofs.Drops.{AreGone, are_loose, all_gone, gone_backed}
use Rattle.bus_messages.proofs.Lasts.{AreLike, HasDue, holds_like, like_delivered}
use Rattle.bus_messages.proofs.RowChanges.{message_of}
use Rattle.bus_messages.proofs.BufferLists.{listed_kept, unsent_kept, descs_kept}
use Rattle.bus_messages.proofs.Pool.{IsDrawn, drawn_for, most_drawn}
use Rattle.bus_messages.proofs.Sends.{Begins, IsSent, is_sent}
use Rattle.bus_messages.proofs.Ties.{KeepsOpen, sealed_live, sealed_number, dead_closed, dead_unsealed, open_apart, open_then, pipes_stay, loans_stay}

-- Lengths. --

pub length-with_row : (change : Row → Row) (number : ℕ) (rows : List Row) → length (with_pipe change number rows) ≡ length rows
length-with_row change number rows = length-map rows (λ row. cond {A = Row} (eqb row.number number) (change row) row)

pub length-deliver : (message : Message) (subs : List Subscription) (rows : List Row) → length (deliver_rows message subs rows) ≡ length rows
length-deliver message [] rows = refl
length-deliver message (sub ∷ subs) rows =
    length-deliver message subs (with_pipe (offered_row message sub) sub.pipe rows) ∙ length-with_row (offered_row message sub) sub.pipe rows

-- A send. --

-- the message as it is sent is the copy with the count that was told
as_sent : (a : Inside) (bytes : List ℕ) (inc : Bool) (id : ℕ) (count : Option ℕ) → id ≡ message_id bytes →
    count ≡ cond {A = Option ℕ} inc (Some (next_in (map (next_of a.tables.room.starts) a.tables.routes) id)) None →
    option_map_or (with_count bytes) count bytes ≡ stamped (reads_of (store_of a)) bytes inc
as_sent a bytes inc id count same told = ap (λ o. option_map_or (with_count bytes) o bytes) told ∙ by_test inc
  where
    by_test : (b : Bool) → option_map_or (with_count bytes) (cond {A = Option ℕ} b (Some (next_in (map (next_of a.tables.room.starts) a.tables.routes) id)) None) bytes ≡ stamped (reads_of (store_of a)) bytes b
    by_test true = ap (λ i. with_count bytes (next_in (map (next_of a.tables.room.starts) a.tables.routes) i)) same
    by_test false = refl

module _ (a : Inside) (old : Store) (sender : ℕ) (bytes : List ℕ) (inc : Bool) (id number desc arrived : ℕ) (count : Option ℕ)
    (mid final : Buffers) (counting next : Tables) (misses : Missed)
    (viewed : store_of a ≡ old) (keeps : Keeps a) (rises : IsRising 0 a.tables.pipes)
    (long : 7 ≤ length bytes) (room : has_room old.account (length bytes) ≡ true)
    (same : id ≡ message_id bytes) (told : count ≡ cond {A = Option ℕ} inc (Some (next_in (map (next_of a.tables.room.starts) a.tables.routes) id)) None)
    (counts : counting ≡ record a.tables { routes = counted_up a.tables.routes id inc })
    (numbered : number ≡ a.given + 1)
    (adds : Adds a.desk mid number (option_map_or (with_count bytes) count bytes) desc)
    (live_out : (d : ℕ) → is_live (slot_at a.desk.slots d) ≡ is_out a.desk.pool d)
    (now_out : (d : ℕ) → is_live (slot_at mid.slots d) ≡ is_out mid.pool d)
    (delivered : next ≡ record counting { pipes = deliver_rows (record { sender = sender; number = number; desc = desc }) (route counting.subscriptions id) counting.pipes })
    (took : arrived ≡ reached_rows (record { sender = sender; number = number; desc = desc }) (route counting.subscriptions id) counting.pipes)
    (missing : misses ≡ record a.misses { items = missed_rows (record { sender = sender; number = number; desc = desc }) (route counting.subscriptions id) counting.pipes; dropped = dropped_rows (record { sender = sender; number = number; desc = desc }) (route counting.subscriptions id) counting.pipes })
    (settled : final ≡ after_settle (resealed mid desc (record (sealed_at mid.slots desc) { uses = arrived })) desc)
    (live : is_live (slot_at mid.slots desc) ≡ true) where
  abbrev sending : Sending
  sending = sending_of (store_of a) sender bytes inc

  abbrev subs : List Subscription
  subs = route a.tables.subscriptions (message_id bytes)

  is_message : option_map_or (with_count bytes) count bytes ≡ sending.message
  is_message = as_sent a bytes inc id count same told

  -- the tables, once the id and the number are known
  abbrev rows_for : ℕ → ℕ → Tables → List Row
  rows_for n i t = deliver_rows (record { sender = sender; number = n; desc = desc }) (route t.subscriptions i) t.pipes

  drawn : IsDrawn a.desk.pool mid.pool (length bytes) desc
  drawn = drawn_for a.desk.pool mid.pool (length bytes) desc keeps.backed.tied.account (ap (λ (o : Store). has_room o.account (length bytes)) viewed ∙ room) (subst (λ n. DrawsFor a.desk.pool mid.pool n desc) (length-counted bytes count (omega (arith, long))) adds.drawn)

  begins : Begins a.desk mid sending desc a.given (a.given + 1)
  begins = record {
    seals = subst (λ n. Seals a.desk mid n (length bytes) sending.message desc) numbered
        (subst (λ l. Seals a.desk mid number (length bytes) l desc) is_message
        (subst (λ k. Seals a.desk mid number k (option_map_or (with_count bytes) count bytes) desc) (length-counted bytes count (omega (arith, long))) adds.seals));
    unsealed = dead_unsealed (slot_at a.desk.slots desc) adds.fresh;
    number_new = λ d is same. absurd (omega (arith, given_number d is, same));
    numbers = adds.numbers keeps.backed.tied.numbers (λ other is same. absurd (omega (arith, (keeps.backed.tied.given other is).last, same, numbered)));
    number_given = record { first = omega arith; last = omega arith };
    more = omega arith;
    sizes = drawn.sizes;
    here = drawn.here;
    others = λ other apart is. drawn.others other (sym (live_out other) ∙ is);
    account = drawn.is;
  }
    where
      given_number : (d : ℕ) → is_sealed (slot_at a.desk.slots d) ≡ true → (sealed_at a.desk.slots d).number ≤ a.given
      given_number d is = let one = keeps.backed.tied.given d (sealed_live (slot_at a.desk.slots d) is) in omega (arith, one.last, sealed_number (slot_at a.desk.slots d) is)

  sent : IsSent a.desk mid final a.tables.pipes subs sending (a.given + 1) desc arrived
  sent =
      is_sent a.desk mid a.tables.pipes subs sending a.given (a.given + 1) desc arrived keeps.backed begins rises
      (sym (now_out desc) ∙ live)
      (took
      ∙ ap (λ (t : Tables). reached_rows (record { sender = sender; number = number; desc = desc }) (route t.subscriptions id) t.pipes) counts
      ∙ ap (λ i. reached_rows (record { sender = sender; number = number; desc = desc }) (route a.tables.subscriptions i) a.tables.pipes) same
      ∙ ap (λ n. reached_rows (record { sender = sender; number = n; desc = desc }) subs a.tables.pipes) numbered)
      final settled

  abbrev after : List Row
  after = deliver_rows (message_of sending desc) subs a.tables.pipes

  next_is : next ≡ record a.tables { routes = counted_up a.tables.routes (message_id bytes) inc; pipes = after }
  next_is =
      delivered
      ∙ ap (λ (t : Tables). let v : Tables = record t { pipes = rows_for number id t } in v) counts
      ∙ ap (λ i. let v : Tables = record a.tables { routes = counted_up a.tables.routes i inc; pipes = rows_for number i a.tables } in v) same
      ∙ ap (λ n. let v : Tables = record a.tables { routes = counted_up a.tables.routes (message_id bytes) inc; pipes = rows_for n (message_id bytes) a.tables } in v) numbered

  misses_are : misses ≡ record a.misses { items = missed_rows (message_of sending desc) subs a.tables.pipes; dropped = dropped_rows (message_of sending desc) subs a.tables.pipes }
  misses_are =
      missing
      ∙ ap (λ (t : Tables). let v : Missed = record a.misses { items = missed_rows (record { sender = sender; number = number; desc = desc }) (route t.subscriptions id) t.pipes; dropped = dropped_rows (record { sender = sender; number = number; desc = desc }) (route t.subscriptions id) t.pipes } in v) counts
      ∙ ap (λ i. let v : Missed = record a.misses { items = missed_rows (record { sender = sender; number = number; desc = desc }) (route a.tables.subscriptions i) a.tables.pipes; dropped = dropped_rows (record { sender = sender; number = number; desc = desc }) (route a.tables.subscriptions i) a.tables.pipes } in v) same
      ∙ ap (λ n. let v : Missed = record a.misses { items = missed_rows (record { sender = sender; number = n; desc = desc }) subs a.tables.pipes; dropped = dropped_rows (record { sender = sender; number = n; desc = desc }) subs a.tables.pipes } in v) numbered

  reached_as : arrived ≡ reached sending subs (pipes_in a.desk.slots a.tables.pipes)
  reached_as = sent.arrived

  pub sent_reached : arrived ≡ reached (sending_of old sender bytes inc) (route old.subscriptions (message_id bytes)) old.pipes
  sent_reached = reached_as ∙ ap (λ (o : Store). reached (sending_of o sender bytes inc) (route o.subscriptions (message_id bytes)) o.pipes) viewed

  -- what pipes dropped has uses still
  pub sent_loose : AreLoose final misses.dropped
  sent_loose = subst (AreLoose final) (sym (ap (λ (m : Missed). m.dropped) misses_are)) (are_loose final after (dropped_rows (message_of sending desc) subs a.tables.pipes) (a.given + 1) sent.have)

  -- and is no more than there are pipes that drop a message
  pub sent_drops : length misses.dropped ≤ drops (sending_of old sender bytes inc) (route old.subscriptions (message_id bytes)) old.pipes
  sent_drops =
      omega (
        arith,
        ap (λ (m : Missed). length m.dropped) misses_are,
        dropped_few (message_of sending desc) subs a.tables.pipes,
        sent.dropped ∙ ap (λ (o : Store). drops (sending_of o sender bytes inc) (route o.subscriptions (message_id bytes)) o.pipes) viewed,
      )

  module _ (last : Buffers) (settled_out : (d : ℕ) → is_live (slot_at final.slots d) ≡ is_out final.pool d) (letting : last ≡ all_dropped final misses.dropped) where
    gone : AreGone final after [] (a.given + 1) last
    gone =
        subst (AreGone final after [] (a.given + 1)) (sym (letting ∙ ap (λ (m : Missed). all_dropped final m.dropped) misses_are))
        (all_gone final after (dropped_rows (message_of sending desc) subs a.tables.pipes) (a.given + 1) sent.have (λ d is. sym (settled_out d) ∙ sealed_live (slot_at final.slots d) is))

    opened : KeepsOpen a.desk.slots last.slots
    opened =
        open_then a.desk.slots final.slots last.slots
        (open_apart a.desk.slots final.slots desc sent.others (dead_closed (slot_at a.desk.slots desc) adds.fresh) sent.closed) gone.opened

    pub sent_keeps : Keeps (record a { tables = next; desk = last; misses = misses; given = number })
    sent_keeps =
        subst (λ t. Keeps (record a { tables = t; desk = last; misses = misses; given = number })) (sym next_is)
        (subst (λ m. Keeps (record a { tables = record a.tables { routes = counted_up a.tables.routes (message_id bytes) inc; pipes = after }; desk = last; misses = m; given = number })) (sym misses_are)
        (record {
          backed = subst (Backed last after) (sym numbered) (gone_backed final last after (a.given + 1) gone);
          listed = listed_kept a.desk.slots a.lists.lists keeps.listed last.slots opened;
          places = gone.most ∙ sent.most ∙ most_drawn a.desk.pool mid.pool (length bytes) desc (subst (λ n. DrawsFor a.desk.pool mid.pool n desc) (length-counted bytes count (omega (arith, long))) adds.drawn) ∙ keeps.places;
          misses = keeps.misses;
          pipes_live = omega (arith, length-deliver (message_of sending desc) subs a.tables.pipes, keeps.pipes_live);
          pipes_few = keeps.pipes_few;
          subscriptions_live = keeps.subscriptions_live;
          subscriptions_made = keeps.subscriptions_made;
        }))

    -- what the fields stand for then
    abbrev to : List (List Buffer) → List BufferDesc → List Pipe → List Miss → ℕ → Account → List LastLoan → Store
    to unsent descs pipes items given account loans = record (store_of a) {
      unsent = unsent;
      descs = descs;
      pipes = pipes;
      routes = counted_up a.tables.routes (message_id bytes) inc;
      missed = items;
      numbers_given = given;
      account = account;
      loans = loans;
    }

    sent_store : store_of (record a { tables = next; desk = last; misses = misses; given = number }) ≡ record old {
      pipes = deliver (sending_of old sender bytes inc) (route old.subscriptions (message_id bytes)) old.pipes;
      routes = counted_up old.routes (message_id bytes) inc;
      missed = missed (sending_of old sender bytes inc) (route old.subscriptions (message_id bytes)) old.pipes;
      numbers_given = old.numbers_given + 1;
      account = account_in last.pool;
    }
    sent_store =
        ap (λ t. store_of (record a { tables = t; desk = last; misses = misses; given = number })) next_is
        ∙ ap (λ m. store_of (record a { tables = record a.tables { routes = counted_up a.tables.routes (message_id bytes) inc; pipes = after }; desk = last; misses = m; given = number })) misses_are
        ∙ ap (λ l. to l (descs_in last.slots a.lists.lists) (pipes_in last.slots after) (missed_rows (message_of sending desc) subs a.tables.pipes) number (account_in last.pool) (map (loan_in last.slots) after))
        (unsent_kept a.desk.slots a.lists.lists keeps.listed last.slots opened)
        ∙ ap (λ l. to (store_of a).unsent l (pipes_in last.slots after) (missed_rows (message_of sending desc) subs a.tables.pipes) number (account_in last.pool) (map (loan_in last.slots) after))
        (descs_kept a.desk.slots a.lists.lists keeps.listed last.slots opened)
        ∙ ap (λ l. to (store_of a).unsent (store_of a).descs l (missed_rows (message_of sending desc) subs a.tables.pipes) number (account_in last.pool) (map (loan_in last.slots) after)) (pipes_stay final.slots last.slots after gone.stay ∙ sent.pipes)
        ∙ ap (λ l. to (store_of a).unsent (store_of a).descs (deliver sending subs (pipes_in a.desk.slots a.tables.pipes)) l number (account_in last.pool) (map (loan_in last.slots) after)) sent.misses
        ∙ ap (λ n. to (store_of a).unsent (store_of a).descs (deliver sending subs (pipes_in a.desk.slots a.tables.pipes)) (missed sending subs (pipes_in a.desk.slots a.tables.pipes)) n (account_in last.pool) (map (loan_in last.slots) after)) numbered
        ∙ ap (λ l. to (store_of a).unsent (store_of a).descs (deliver sending subs (pipes_in a.desk.slots a.tables.pipes)) (missed sending subs (pipes_in a.desk.slots a.tables.pipes)) (a.given + 1) (account_in last.pool) l) (loans_stay final.slots last.slots after gone.stay ∙ sent.loans)
        ∙ ap (λ (o : Store). let v : Store = record o {
          pipes = deliver (sending_of o sender bytes inc) (route o.subscriptions (message_id bytes)) o.pipes;
          routes = counted_up o.routes (message_id bytes) inc;
          missed = missed (sending_of o sender bytes inc) (route o.subscriptions (message_id bytes)) o.pipes;
          numbers_given = o.numbers_given + 1;
          account = account_in last.pool;
        } in v) viewed

    pub sent_held : ((d : ℕ) → is_live (slot_at last.slots d) ≡ is_out last.pool d) →
        store_of (record a { tables = next; desk = last; misses = misses; given = number }) ≡ record old {
          pipes = deliver (sending_of old sender bytes inc) (route old.subscriptions (message_id bytes)) old.pipes;
          routes = counted_up old.routes (message_id bytes) inc;
          missed = missed (sending_of old sender bytes inc) (route old.subscriptions (message_id bytes)) old.pipes;
          numbers_given = old.numbers_given + 1;
          account = with_held (after_request old.account (length bytes)) (pipes_in last.slots next.pipes) old.unsent number;
        }
    sent_held still_out =
        let new : Store = store_of (record a { tables = next; desk = last; misses = misses; given = number }) in
        let request : Account = after_request old.account (length bytes) in
        let is = ap (λ (o : Store). o.account) sent_store in
        let first : OutAlone request (account_in final.pool) =
        alone_as request (after_send request (length bytes) arrived) (account_in final.pool) (sent_alone request (length bytes) arrived)
        (sent.account
        ∙ ap (λ c. after_send c (length bytes) arrived) (drawn.account ∙ ap (λ (o : Store). after_request o.account (length bytes)) viewed)) in
        let alone = alone_as request (account_in last.pool) new.account (alone_then request (account_in final.pool) (account_in last.pool) first gone.account) is in
        let law =
        held_law (record a { tables = next; desk = last; misses = misses; given = number }) sent_keeps still_out
        ∙ ap (λ l. with_held new.account new.pipes l number) (ap (λ (o : Store). o.unsent) sent_store) in
        sent_store
        ∙ ap (λ (c : Account). let v : Store = record old {
          pipes = deliver (sending_of old sender bytes inc) (route old.subscriptions (message_id bytes)) old.pipes;
          routes = counted_up old.routes (message_id bytes) inc;
          missed = missed (sending_of old sender bytes inc) (route old.subscriptions (message_id bytes)) old.pipes;
          numbers_given = old.numbers_given + 1;
          account = c;
        } in v) (sym is ∙ held_now request new.account new.pipes old.unsent number alone law)

    pub sent_bags : (app : ℕ) (bag : Holding LentBytes) → HasDue old app bag → HasDue (store_of (record a { tables = next; desk = last; misses = misses; given = number })) app bag
    sent_bags app bag =
        let like = like_delivered (sending_of old sender bytes inc) (route old.subscriptions (message_id bytes)) old.pipes in
        holds_like old (store_of (record a { tables = next; desk = last; misses = misses; given = number })) app bag
        (subst (AreLike old.pipes) (sym (ap (λ (o : Store). o.pipes) sent_store)) like) (ap (λ (o : Store). o.loans) sent_store) (ap (λ (o : Store). o.room) sent_store)
