-- What the calls of buffers leave.
use Rattle.std.proofs.Common.{◌≡◌, ℕ, ◌+◌, ◌-◌, ◌≤◌, Bool, true, false, not, cond, eqb, leb, ltb, List, [], ◌∷◌, length, map, filter, Option, Some, None, is_some, refl, ap, sym, ◌∙◌, subst, arith}
use Rattle.std.specs.Option.{option_map}
use Rattle.std.proofs.lemmas.Bool.Decides.{nat_tests}
use Rattle.std.proofs.lemmas.List.{length-set}
use Rattle.std.proofs.lemmas.List.Elements.{All-weaker}
use Rattle.fsw_base.specs.Limits.{Limits, limits_of}
use Rattle.fsw_base.specs.PoolAccounts.{Account, has_room, after_request}
use Rattle.fsw_base.specs.declared.statuses.SbStatus.TheVariants.{BadArgument, MsgTooBig, BufAlocErr, BufferInvalid}
use Rattle.ccsds_msg.specs.Message.{message_id, front_fault}
use Rattle.ccsds_msg.specs.declared.packet.MsgFault.{MsgFault}
use Rattle.lend_block.specs.Loan.{LentBytes}
use Rattle.buf_desc.specs.Block.{Unsent as UnsentBlock}
use Rattle.buf_desc.specs.Held.{Holding, buffer_at, bytes_at}
use Rattle.bus_words.specs.declared.calls.BusAnswer.{BusAnswer}
use Rattle.bus_words.specs.declared.calls.BusAnswer.TheVariants.{Done, Number, Sent}
use Rattle.bus_words.specs.declared.history.Call.TheVariants.{Allocate, TransmitBuffer, Release}
use Rattle.bus_words.specs.Bus.{State, Buffer, Subscription, Sending, route, deliver, reached, has_unsent, unsent_at, unsent_of, with_unsent, without_unsent}
use Rattle.bus_words.specs.Events.{miss_events}
use Rattle.bus_words.specs.Held.{account_of}
use Rattle.bus_words.specs.Machine.{refused_if, allocate_cause, transmit_buffer_cause, release_cause, passed_along, buffer_gone}
use Rattle.bus_words.specs.Acts.{Whole, NextCount, nexts_after, moved_on, completed}
use Rattle.bus_words.specs.declared.miss.Miss.{Miss}
use Rattle.bus_routes.specs.Rows.{has_way}
use Rattle.bus_counts.specs.Records.{Recordings, told_all}
use Rattle.bus_messages.specs.Bag.{Shape, shape_of}
use Rattle.bus_words.proofs.Bounds.{length-deliver}
use Rattle.bus_messages.specs.Store.{Store}
use Rattle.bus_messages.specs.Words.{desc_of, size_for, next_of, nexts_in, passing_of, missed, counted_up, with_held}
use Rattle.bus_core.specs.declared.plain.PlainBus.TheInside.{Inside}
use Rattle.bus_core.specs.Bags.{HasBuffer}
use Rattle.bus_core.specs.Core.{Plain}
use Rattle.bus_core.specs.Inside.{means, AreInOrder}
use Rattle.bus_core.specs.Rows.{buffer_cause}
use Rattle.bus_core.proofs.Peaks.{AreAsMany, as_many_routes}
use Rattle.bus_core.proofs.Accounts.{IsHeld, account_is}
use Rattle.bus_core.proofs.CallLaws.{bare, accepted_by}
use Rattle.bus_core.proofs.WaitingApplications.{ready_all, ready_sent}
use Rattle.bus_core.proofs.Transmits.{request_stays, ids_of-counted_up, has_route-counted_up, once_by_ids, moved_counted}

-- What the bag tells of the application's buffers. --

has_alike : (core : Plain) (app buf : ℕ) (bag : Holding LentBytes) → HasBuffer core app bag buf → is_some (buffer_at bag buf) ≡ has_unsent core.whole.bus.unsent app buf
has_alike core app buf bag has = at (buffer_at bag buf) (unsent_at core.whole.bus.unsent app buf) has.due
  where
    shape : Buffer → Shape
    shape b = record { desc = desc_of core.descs buf; size = size_for core.limits.sizes b.size; asked = b.size }

    at : (o : Option UnsentBlock) (x : Option Buffer) → option_map shape_of o ≡ option_map shape x → is_some o ≡ is_some x
    at None None e = refl
    at None (Some b) e = absurd (cc (e))
    at (Some b) None e = absurd (cc (e))
    at (Some b) (Some x) e = refl

pub transmit_told : (core : Plain) (app buf : ℕ) (bag : Holding LentBytes) → HasBuffer core app bag buf → transmit_buffer_cause core.whole.bus app buf (bytes_at bag buf) ≡ buffer_cause bag buf
transmit_told core app buf bag has =
    ap (λ b. refused_if (not b) BufferInvalid (refused_if (is_some (front_fault (bytes_at bag buf))) BadArgument None)) (sym (has_alike core app buf bag has))

pub release_told : (core : Plain) (app buf : ℕ) (bag : Holding LentBytes) (there : Bool) → HasBuffer core app bag buf → is_some (buffer_at bag buf) ≡ there →
    release_cause core.whole.bus app buf ≡ refused_if (not there) BufferInvalid None
release_told core app buf bag there has is = ap (λ b. refused_if (not b) BufferInvalid None) (sym (has_alike core app buf bag has) ∙ is)

-- whether there is one, as it is looked at
pub looked_at : {X Y : Type 0} (look : X → Y) (found : Option X) → is_some (option_map look found) ≡ is_some found
looked_at look None = refl
looked_at look (Some x) = refl

-- what isn't refused is there, and begins with a message
pub buffer_there : (bag : Holding LentBytes) (buf : ℕ) → buffer_cause bag buf ≡ None → is_some (buffer_at bag buf) ≡ true
buffer_there bag buf none = at (is_some (buffer_at bag buf)) none
  where
    at : (b : Bool) → refused_if (not b) BufferInvalid (refused_if (is_some (front_fault (bytes_at bag buf))) BadArgument None) ≡ None → b ≡ true
    at true e = refl
    at false e = absurd (cc (e))

pub buffer_message : (bag : Holding LentBytes) (buf : ℕ) → buffer_cause bag buf ≡ None → front_fault (bytes_at bag buf) ≡ None
buffer_message bag buf none = at (is_some (buffer_at bag buf)) (front_fault (bytes_at bag buf)) none
  where
    at : (b : Bool) (o : Option MsgFault) → refused_if (not b) BufferInvalid (refused_if (is_some o) BadArgument None) ≡ None → o ≡ None
    at b None e = refl
    at true (Some why) e = absurd (cc (e))
    at false (Some why) e = absurd (cc (e))

-- Allocating. --

-- a size that isn't refused has a block
pub size_fits : (limits : Limits) (s : State) (size : ℕ) → allocate_cause limits s size ≡ None → has_room (account_of limits s) size ≡ true
size_fits limits s size none = at (ltb size 7) (ltb limits.msgmax size) (has_room (account_of limits s) size) none
  where
    at : (small big room : Bool) → refused_if small BadArgument (refused_if big MsgTooBig (refused_if (not room) BufAlocErr None)) ≡ None → room ≡ true
    at true big room e = absurd (cc (e))
    at false true room e = absurd (cc (e))
    at false false true e = refl
    at false false false e = absurd (cc (e))

-- and the store has it
pub room_here : (a : Inside) (size : ℕ) → AreInOrder a → IsHeld a.store → allocate_cause (limits_of a.config) (means a).bus size ≡ None →
    has_room a.store.account size ≡ true
room_here a size keeps held none = ap (λ c. has_room c size) (account_is a keeps.pool held) ∙ size_fits (limits_of a.config) (means a).bus size none

-- the store once a buffer was given
abbrev pub with_buffer : Store → Store → ℕ → ℕ → Store
with_buffer store next app size = record store {
  unsent = with_unsent store.unsent app (record { number = store.numbers_given + 1; size = size });
  numbers_given = store.numbers_given + 1;
  account = with_held (after_request store.account size) store.pipes next.unsent next.numbers_given;
  descs = next.descs;
}

module _ (a : Inside) (next : Store) (app size : ℕ) (is : next ≡ with_buffer a.store next app size) (keeps : AreInOrder a) where
  pub given_sizes : next.account.sizes ≡ a.store.account.sizes
  given_sizes = ap (λ (s : Store). s.account.sizes) is ∙ ap (λ (c : Account). c.sizes) (request_stays a.store.account size)

  -- as many pipes, ids and subscriptions are in use as before
  pub given_many : AreAsMany a.store next
  given_many = record {
    routes = ap (λ (o : Store). length o.routes) is;
    pipes = ap (λ (o : Store). length o.pipes) is;
    subs = ap (λ (o : Store). length o.subscriptions) is;
  }

  pub given_keeps : AreInOrder (record a { store = next })
  given_keeps =
      let stays = request_stays a.store.account size in
      subst (λ t. AreInOrder (record a { store = t })) (sym is)
      (record {
        room = keeps.room;
        pool = record {
          bytes = ap (λ (c : Account). c.bytes) stays ∙ keeps.pool.bytes;
          sizes = ap (λ (c : Account). c.sizes) stays ∙ keeps.pool.sizes;
          errors = ap (λ (c : Account). c.errors) stays ∙ keeps.pool.errors;
        };
        ways = keeps.ways;
        once = keeps.once;
        ready = keeps.ready;
        places = length-set a.store.unsent (app - 1) (record { number = a.store.numbers_given + 1; size = size } ∷ unsent_of a.store.unsent app) ∙ keeps.places;
      })

  pub given_made : (number : ℕ) → allocate_cause (limits_of a.config) (means a).bus size ≡ None → IsHeld a.store → number ≡ a.store.numbers_given + 1 →
      bare (limits_of a.config) (means a) app (Allocate size) ≡ (Number number, means (record a { store = next }))
  given_made number why held numbered =
      let limits = limits_of a.config in
      let w = means a in
      let s = w.bus in
      let given = a.store.numbers_given + 1 in
      let to : Account → Whole = λ account. record w {
        bus = record s { unsent = with_unsent s.unsent app (record { number = given; size = size }); numbers_given = given; made = account.made; drawn = account.requests };
      } in
      accepted_by limits w app (Allocate size) (allocate_cause limits s size) refl why
      ∙ ap (λ c. (Number given, to (after_request c size))) (sym (account_is a keeps.pool held))
      ∙ sym
      (ap (λ n. (Number n, means (record a { store = next }))) numbered
      ∙ ap (λ t. (Number given, means (record a { store = t }))) is)

-- Giving back. --

-- the store once a buffer left
abbrev pub without_buffer : Store → Store → ℕ → ℕ → Store
without_buffer store next app buf = record store {
  unsent = without_unsent store.unsent app buf;
  account = with_held store.account store.pipes next.unsent store.numbers_given;
  descs = next.descs;
}

module _ (a : Inside) (next : Store) (app buf : ℕ) (is : next ≡ without_buffer a.store next app buf) where
  pub gone_keeps : AreInOrder a → AreInOrder (record a { store = next })
  gone_keeps keeps =
      subst (λ t. AreInOrder (record a { store = t })) (sym is)
      (record {
        room = keeps.room;
        pool = record { bytes = keeps.pool.bytes; sizes = keeps.pool.sizes; errors = keeps.pool.errors };
        ways = keeps.ways;
        once = keeps.once;
        ready = keeps.ready;
        places = length-set a.store.unsent (app - 1) (filter (λ (b : Buffer). not (eqb b.number buf)) (unsent_of a.store.unsent app)) ∙ keeps.places;
      })

  gone_means : means (record a { store = next }) ≡ record (means a) { bus = buffer_gone (means a).bus app buf }
  gone_means = ap (λ t. means (record a { store = t })) is

  pub released_made : release_cause (means a).bus app buf ≡ None → bare (limits_of a.config) (means a) app (Release buf) ≡ (Done, means (record a { store = next }))
  released_made why =
      accepted_by (limits_of a.config) (means a) app (Release buf) (release_cause (means a).bus app buf) refl why
      ∙ ap (λ w. (Done, w)) (sym gone_means)

  -- a transmission that nobody subscribes to
  pub unheard_made : (bytes : List ℕ) (inc : Bool) → transmit_buffer_cause (means a).bus app buf bytes ≡ None → route a.store.subscriptions (message_id bytes) ≡ [] →
      bare (limits_of a.config) (means a) app (TransmitBuffer buf bytes inc) ≡ (Sent 0 0, means (record a { store = next }))
  unheard_made bytes inc why nobody =
      let limits = limits_of a.config in
      let w = means a in
      let gone = buffer_gone w.bus app buf in
      let sending = passing_of a.store app buf bytes inc in
      accepted_by limits w app (TransmitBuffer buf bytes inc) (transmit_buffer_cause w.bus app buf bytes) refl why
      ∙ ap (λ subs. completed limits w (TransmitBuffer buf bytes inc) (passed_along subs sending gone)) nobody
      ∙ ap (λ (ns : List NextCount). (Sent 0 0, record { bus = gone; nexts = ns })) (still inc)
      ∙ ap (λ w'. (Sent 0 0, w')) (sym gone_means)
    where
      still : (counts : Bool) → nexts_after (limits_of a.config) (nexts_in a.store) (TransmitBuffer buf bytes counts) (Sent 0 0) ≡ nexts_in a.store
      still true = refl
      still false = refl

-- Sending. --

-- the store once a buffer was sent
abbrev pub with_passing : Store → Store → ℕ → ℕ → List ℕ → Bool → Store
with_passing store next app buf bytes inc = record store {
  pipes = deliver (passing_of store app buf bytes inc) (route store.subscriptions (message_id bytes)) store.pipes;
  routes = counted_up store.routes (message_id bytes) inc;
  missed = missed (passing_of store app buf bytes inc) (route store.subscriptions (message_id bytes)) store.pipes;
  unsent = without_unsent store.unsent app buf;
  account = with_held store.account next.pipes next.unsent store.numbers_given;
  descs = next.descs;
}

-- a message that is passed along a subscription
passing : (subs : List Subscription) (first : Subscription) (more : List Subscription) (sending : Sending) (s : State) → subs ≡ first ∷ more →
    passed_along subs sending s ≡ (Sent sending.number (reached sending subs s.pipes), record s { pipes = deliver sending subs s.pipes })
passing [] first more sending s is = absurd (cc (is))
passing (sub ∷ subs) first more sending s is = refl

module _ (a : Inside) (next : Store) (app buf : ℕ) (bytes : List ℕ) (inc : Bool) (is : next ≡ with_passing a.store next app buf bytes inc) (keeps : AreInOrder a) where
  abbrev subs : List Subscription
  subs = route a.store.subscriptions (message_id bytes)

  abbrev sending : Sending
  sending = passing_of a.store app buf bytes inc

  pub passed_keeps : AreInOrder (record a { store = next })
  passed_keeps =
      let id = message_id bytes in
      subst (λ t. AreInOrder (record a { store = t })) (sym is)
      (record {
        room = keeps.room;
        pool = record { bytes = keeps.pool.bytes; sizes = keeps.pool.sizes; errors = keeps.pool.errors };
        ways =
            All-weaker (λ sub. has_way a.store.routes sub.id ≡ true) (λ sub. has_way (counted_up a.store.routes id inc) sub.id ≡ true)
            (λ sub one. has_route-counted_up a.store.routes id sub.id inc ∙ one) a.store.subscriptions keeps.ways;
        once = once_by_ids a.store.routes (counted_up a.store.routes id inc) (ids_of-counted_up a.store.routes id inc) keeps.once;
        ready = ready_all a.store.pipes (deliver sending subs a.store.pipes) a.activities.items keeps.ready (λ user pipe ready. ready_sent sending subs a.store.pipes user pipe ready);
        places = length-set a.store.unsent (app - 1) (filter (λ (b : Buffer). not (eqb b.number buf)) (unsent_of a.store.unsent app)) ∙ keeps.places;
      })

  pub passed_made : (first : Subscription) (more : List Subscription) (number arrived : ℕ) → subs ≡ first ∷ more → transmit_buffer_cause (means a).bus app buf bytes ≡ None →
      1 ≤ buf → number ≡ buf → arrived ≡ reached sending subs a.store.pipes →
      bare (limits_of a.config) (means a) app (TransmitBuffer buf bytes inc) ≡ (Sent number arrived, means (record a { store = next }))
  passed_made first more number arrived someone why least numbered arrives =
      let limits = limits_of a.config in
      let w = means a in
      let gone = buffer_gone w.bus app buf in
      let answer : BusAnswer = Sent buf (reached sending subs gone.pipes) in
      let to : List NextCount → Whole = λ nexts. record { bus = record gone { pipes = deliver sending subs gone.pipes }; nexts = nexts } in
      let counted = map (next_of a.store.room.starts) (counted_up a.store.routes (message_id bytes) inc) in
      accepted_by limits w app (TransmitBuffer buf bytes inc) (transmit_buffer_cause w.bus app buf bytes) refl why
      ∙ ap (completed limits w (TransmitBuffer buf bytes inc)) (passing subs first more sending gone someone)
      ∙ ap (λ (ns : List NextCount). (answer, to ns)) (moved inc)
      ∙ sym
      (ap (λ n. (Sent n arrived, means (record a { store = next }))) numbered
      ∙ ap (λ n. (Sent buf n, means (record a { store = next }))) arrives
      ∙ ap (λ t. (answer, means (record a { store = t }))) is
      ∙ ap (λ (l : List ℕ). (answer, record { bus = record (to counted).bus { routed = l }; nexts = counted })) (ids_of-counted_up a.store.routes (message_id bytes) inc))
    where
      some : leb 1 buf ≡ true
      some = grind (arith, nat_tests)

      moved : (counts : Bool) → nexts_after (limits_of a.config) (nexts_in a.store) (TransmitBuffer buf bytes counts) (Sent buf (reached sending subs a.store.pipes))
          ≡ map (next_of a.store.room.starts) (counted_up a.store.routes (message_id bytes) counts)
      moved false = refl
      moved true =
          ap (λ b. cond {A = List NextCount} b (map (moved_on (message_id bytes)) (nexts_in a.store)) (nexts_in a.store)) some
          ∙ moved_counted a.store.room.starts a.store.routes (message_id bytes) keeps.once

  -- what is told of the pipes that the store tells of
  pub passed_told : (told : Recordings) (id : ℕ) (misses : List Miss) → id ≡ message_id bytes → misses ≡ next.missed → told ≡ told_all a.records (miss_events id app misses) →
      told ≡ told_all a.records (miss_events (message_id bytes) app (missed sending subs a.store.pipes))
  passed_told told id misses same lists is_told =
      is_told
      ∙ ap (λ n. told_all a.records (miss_events n app misses)) same
      ∙ ap (λ l. told_all a.records (miss_events (message_id bytes) app l)) (lists ∙ ap (λ (t : Store). t.missed) is)

  -- as many pipes, ids and subscriptions are in use as before
  pub passed_many : AreAsMany a.store next
  passed_many = record {
    routes = ap (λ (o : Store). length o.routes) is ∙ as_many_routes a.store.routes (counted_up a.store.routes (message_id bytes) inc) (ids_of-counted_up a.store.routes (message_id bytes) inc);
    pipes = ap (λ (o : Store). length o.pipes) is ∙ length-deliver sending subs a.store.pipes;
    subs = ap (λ (o : Store). length o.subscriptions) is;
  }
