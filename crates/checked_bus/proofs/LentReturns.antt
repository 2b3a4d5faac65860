-- A buffer comes back into its application's bag, for a call that sends it or gives it back.
use Rattle.std.proofs.Common.{◌≡◌, ℕ, ◌<◌, ◌≤◌, Bool, true, false, not, cond, eqb, List, [], ◌∷◌, length, take, get_or, find, slice_get, Option, Some, None, is_some, Result, Ok, Err, OnErr, refl, ap, sym, ◌∙◌, subst, arith}
use Rattle.std.specs.Prelude.{IfOk}
use Rattle.std.specs.List.{All, insert, remove, position}
use Rattle.std.specs.Option.{option_map, option_map_or, unwrap_or}
use Rattle.std.proofs.lemmas.Bool.{eq-eqb, eqb-true}
use Rattle.std.proofs.lemmas.List.Elements.{All-filter, All-get_or}
use Rattle.std.proofs.lemmas.List.Filters.{length-filter_both}
use Rattle.housekeeping.specs.declared.names.CounterName.{CounterName}
use Rattle.lend_block.specs.Loan.{LentBytes}
use Rattle.buf_desc.specs.Block.{Unsent}
use Rattle.buf_desc.specs.Held.{Holding, buffer_at, bytes_at, without_first}
use Rattle.fsw_base.specs.declared.statuses.SbStatus.{SbStatus}
use Rattle.fsw_base.specs.declared.statuses.SbStatus.TheVariants.{BufferInvalid}
use Rattle.bus_words.specs.declared.calls.BusAnswer.{BusAnswer}
use Rattle.bus_words.specs.declared.calls.BusAnswer.TheVariants.{Sb}
use Rattle.bus_words.specs.declared.history.Call.TheVariants.{TransmitBuffer, Release}
use Rattle.bus_words.specs.Acts.{Whole}
use Rattle.bus_words.specs.Bus.{unsent_at, has_unsent}
use Rattle.bus_messages.specs.Bag.{shape_of}
use Rattle.bus_messages.proofs.LentBuffers.{lent_at}
use Rattle.bus_core.specs.Answers.{sent, done}
use Rattle.bus_core.specs.declared.sending.Sent.{Sent}
use Rattle.bus_core.specs.Core.{Plain, Acts, with_tick}
use Rattle.bus_core.specs.Bags.{HasBag, HasBuffer, KeepsBagBut, KeepsBuffers}
use Rattle.checked_bus.specs.Inside.{IsSeat, seat_of}
use Rattle.checked_bus.specs.Lent.{Lent, bytes_in, is_as_long, is_misfit, written, StaysOut}
use Rattle.checked_bus.proofs.Given.{sent_none, released_none, unsent_invalid, return_invalid}
use Rattle.checked_bus.proofs.SeatLists.{found_there, place_within, get_there, left_other, first_gone}
use Rattle.checked_bus.proofs.LentSeats.{seen, left, filled, found_number, KeptBag, has_one, has_left, has_after, has_ticked, seat_back, left_same, as_long}

no_seat : Unsent
no_seat = record { desc = 0; number = 0; size = 0; bytes = [] }

-- memory comes back that is the block of a seat
pub record Comes (core : Plain) (app : ℕ) (held : Holding LentBytes) (seats : List Unsent) (room : ℕ) (bag : Holding LentBytes) (buffer : Lent) (n place : ℕ) : Type 0 where
  pub view : seen held seats room ≡ bag
  pub is_number : n ≡ buffer.number
  pub seat : Unsent
  pub at : slice_get seats place ≡ Some seat
  pub same : seat.number ≡ n
  pub there : lent_at seats n ≡ Some seat
  pub is : IsSeat seat
  pub out : is_some buffer.bytes ≡ true
  pub size : length (bytes_in buffer) ≡ seat.size
  pub has : HasBag core app (seen held seats room)

fits_out : (bytes : Option (List ℕ)) (size : ℕ) → not (option_map_or (λ (it : List ℕ). eqb (length it) size) bytes false) ≡ false → (is_some bytes ≡ true) × (length (unwrap_or bytes []) ≡ size)
fits_out None size fits = absurd (cc (fits))
fits_out (Some it) size fits = (refl, by_test (eqb (length it) size) refl fits)
  where
    by_test : (b : Bool) → eqb (length it) size ≡ b → not b ≡ false → length it ≡ size
    by_test true e f = eqb-true (length it) size e
    by_test false e f = absurd (cc (f))

pub comes : (core : Plain) (app : ℕ) (held : Holding LentBytes) (seats : List Unsent) (room : ℕ) (bag : Holding LentBytes) (buffer : Lent) (n place : ℕ) → seen held seats room ≡ bag → n ≡ buffer.number →
    position (λ (b : Unsent). eqb b.number n) seats ≡ Some place → All IsSeat seats → is_misfit bag buffer ≡ false → HasBag core app bag → Comes core app held seats room bag buffer n place
comes core app held seats room bag buffer n place view is_number found each fits has =
    let within : place < length seats = place_within (λ (b : Unsent). eqb b.number n) seats place found in
    let at : slice_get seats place ≡ Some (get_or seats place no_seat) = get_there seats place no_seat within in
    let there : lent_at seats n ≡ Some (get_or seats place no_seat) = found_there (λ (b : Unsent). eqb b.number n) seats place found ∙ at in
    let in_bag : buffer_at bag buffer.number ≡ Some (get_or seats place no_seat) = ap (λ (b : Holding LentBytes). buffer_at b buffer.number) (sym view) ∙ ap (lent_at seats) (sym is_number) ∙ there in
    let fit = fits_out buffer.bytes ((get_or seats place no_seat).size) (sym (ap (λ o. option_map_or (λ (b : Unsent). not (is_as_long buffer b.size)) o false) in_bag) ∙ fits) in
    record {
      view = view;
      is_number = is_number;
      seat = get_or seats place no_seat;
      at = at;
      same = found_number n seats (get_or seats place no_seat) there;
      there = there;
      is = All-get_or IsSeat seats place no_seat within each;
      out = fit.0;
      size = fit.1;
      has = subst (HasBag core app) (sym view) has;
    }

module _ {core : Plain} {app : ℕ} {held : Holding LentBytes} {seats : List Unsent} {room : ℕ} {bag : Holding LentBytes} {buffer : Lent} {n place : ℕ} (come : Comes core app held seats room bag buffer n place) where
  pub size_there : Some (length (bytes_in buffer)) ≡ option_map (λ (seat : Unsent). seat.size) (slice_get seats place)
  size_there = ap Some come.size ∙ sym (ap (option_map (λ (seat : Unsent). seat.size)) come.at)

  in_bag : buffer_at bag buffer.number ≡ Some come.seat
  in_bag = ap (λ (b : Holding LentBytes). buffer_at b buffer.number) (sym come.view) ∙ ap (lent_at seats) (sym come.is_number) ∙ come.there

  bag_bytes : bytes_at bag buffer.number ≡ come.seat.bytes
  bag_bytes = ap (λ o. option_map_or (λ (b : Unsent). b.bytes) o []) in_bag

  module _ (empty : held.buffers ≡ []) (kept : Holding LentBytes) (is_kept : kept ≡ record held { buffers = filled come.seat (bytes_in buffer) ∷ [] }) where
    here : buffer_at kept n ≡ Some (filled come.seat (bytes_in buffer))
    here = ap (λ (b : Holding LentBytes). buffer_at b n) is_kept ∙ ap (λ t. cond {A = Option Unsent} t (Some (filled come.seat (bytes_in buffer))) None) (eq-eqb come.seat.number n come.same)

    pub kept_there : is_some (buffer_at kept n) ≡ true
    kept_there = ap (λ (o : Option Unsent). is_some o) here

    its : lent_at seats come.seat.number ≡ Some come.seat
    its = ap (lent_at seats) come.same ∙ come.there

    pub kept_one : HasBuffer core app kept n
    kept_one =
        subst (λ (b : Holding LentBytes). HasBuffer core app b n) (sym is_kept)
        (subst (HasBuffer core app (record held { buffers = filled come.seat (bytes_in buffer) ∷ [] })) come.same (has_one core app held seats room come.seat (bytes_in buffer) empty its come.is come.size come.has))

    pub kept_bytes : bytes_at kept n ≡ written bag buffer
    kept_bytes = ap (λ o. option_map_or (λ (b : Unsent). b.bytes) o []) here ∙ ap (λ (bs : List ℕ). take (length bs) (bytes_in buffer)) (sym bag_bytes)

    -- The call is accepted. --

    module _ (new : Plain) (now : Holding LentBytes) (rest : List Unsent) (keeps : KeepsBagBut core new app kept now n) (others : KeepsBuffers kept now n) (none : unsent_at new.whole.bus.unsent app n ≡ None)
        (stays : now ≡ record kept { buffers = now.buffers }) (forgot : rest ≡ left n (remove seats place)) where
      back : Holding LentBytes
      back = record held { buffers = filled come.seat (bytes_in buffer) ∷ [] }

      rest_is : rest ≡ left n seats
      rest_is = forgot ∙ left_same n seats place come.seat come.at come.same

      keeps_back : KeepsBagBut core new app (record held { buffers = filled come.seat (bytes_in buffer) ∷ [] }) now come.seat.number
      keeps_back =
          subst (KeepsBagBut core new app (record held { buffers = filled come.seat (bytes_in buffer) ∷ [] }) now) (sym come.same)
          (subst (λ (b : Holding LentBytes). KeepsBagBut core new app b now n) is_kept keeps)

      others_back : KeepsBuffers (record held { buffers = filled come.seat (bytes_in buffer) ∷ [] }) now come.seat.number
      others_back =
          subst (KeepsBuffers (record held { buffers = filled come.seat (bytes_in buffer) ∷ [] }) now) (sym come.same)
          (subst (λ (b : Holding LentBytes). KeepsBuffers b now n) is_kept others)

      pub ok_empty : now.buffers ≡ []
      ok_empty =
          has_left core app held seats room come.seat (bytes_in buffer) empty its come.is come.size come.has new now keeps_back others_back
          (subst (λ (m : ℕ). unsent_at new.whole.bus.unsent app m ≡ None) (sym come.same) none)

      pub ok_bag : HasBag new app (seen now rest room)
      ok_bag =
          subst (λ (bs : List Unsent). HasBag new app (seen now bs room)) (ap (λ (m : ℕ). left m seats) come.same ∙ sym rest_is)
          (has_after core app held seats room come.seat (bytes_in buffer) empty its come.is come.size come.has new now keeps_back ok_empty)

      pub ok_kept : (capacity more : ℕ) → KeptBag held seats room capacity → more ≡ capacity → KeptBag now rest room more
      ok_kept capacity more was same = (
        ok_empty,
        omega (arith, was.1, ap (λ (b : Holding LentBytes). b.buffer_room) stays, ap (λ (b : Holding LentBytes). b.buffer_room) is_kept),
        omega (arith, was.2, ap length rest_is, length-filter_both (λ (b : Unsent). not (eqb b.number n)) (λ (b : Unsent). not (not (eqb b.number n))) (λ b. refl) seats),
        omega (arith, was.3, same),
        subst (All IsSeat) (sym rest_is) (All-filter (λ (b : Unsent). not (eqb b.number n)) IsSeat seats was.4),
      )

      pub ok_buffers : KeepsBuffers bag (seen now rest room) buffer.number
      ok_buffers other apart =
          ap (λ bs. lent_at bs other) rest_is ∙ left_other (λ (b : Unsent). b.number) n other seats (λ same. apart (sym come.is_number ∙ same))
          ∙ ap (λ (b : Holding LentBytes). buffer_at b other) come.view

      pub ok_views : seen now rest room ≡ record bag { buffers = rest }
      ok_views =
          ap (λ (b : Holding LentBytes). seen b rest room) (stays ∙ ap (λ (b : Holding LentBytes). record b { buffers = now.buffers }) is_kept)
          ∙ ap (λ (b : Holding LentBytes). record b { buffers = rest }) come.view

    -- The call is refused. --

    module _ (now after : Holding LentBytes) (again : List Unsent) (lent : Lent) (same : now ≡ kept)
        (taken : after ≡ record now { buffers = without_first (λ (b : Unsent). eqb b.number n) now.buffers })
        (put : (block : Unsent) → buffer_at now n ≡ Some block → again ≡ insert (remove seats place) place (seat_of block)) where
      block : Unsent
      block = filled come.seat (bytes_in buffer)

      now_here : buffer_at now n ≡ Some (filled come.seat (bytes_in buffer))
      now_here = ap (λ (b : Holding LentBytes). buffer_at b n) same ∙ here

      again_is : again ≡ seats
      again_is = put (filled come.seat (bytes_in buffer)) now_here ∙ seat_back core app held seats room come.seat (bytes_in buffer) empty its come.is come.size come.has place come.at

      after_is : after ≡ record held { buffers = [] }
      after_is =
          taken ∙ ap (λ (b : Holding LentBytes). record b { buffers = without_first (λ (u : Unsent). eqb u.number n) b.buffers }) (same ∙ is_kept)
          ∙ ap (λ (bs : List Unsent). record held { buffers = bs }) (first_gone (λ (u : Unsent). eqb u.number n) (filled come.seat (bytes_in buffer)) (eq-eqb come.seat.number n come.same))

      pub err_bag : seen after again room ≡ bag
      err_bag = ap (λ (b : Holding LentBytes). seen b again room) after_is ∙ ap (λ (bs : List Unsent). seen held bs room) again_is ∙ come.view

      pub err_has : (new : Plain) (which : CounterName) → new ≡ with_tick core which → HasBag new app (seen after again room)
      err_has new which ticked =
          subst (HasBag new app) (come.view ∙ sym err_bag) (has_ticked core new app which (seen held seats room) ticked come.has)

      pub err_kept : (capacity more : ℕ) → KeptBag held seats room capacity → capacity ≤ more → KeptBag after again room more
      err_kept capacity more was above = (
        ap (λ (b : Holding LentBytes). b.buffers) after_is,
        omega (arith, was.1, ap (λ (b : Holding LentBytes). b.buffer_room) after_is),
        omega (arith, was.2, ap length again_is),
        omega (arith, was.3, above),
        subst (All IsSeat) (sym again_is) was.4,
      )

      pub err_stays : lent.number ≡ n → option_map (λ (bytes : List ℕ). length bytes) lent.bytes ≡ option_map (λ (b : Unsent). b.size) (buffer_at now n) →
          take (length (bytes_at now n)) (bytes_in lent) ≡ bytes_at now n → StaysOut bag buffer lent
      err_stays number whole bytes =
          let now_bytes : bytes_at now n ≡ take (length come.seat.bytes) (bytes_in buffer) = ap (λ o. option_map_or (λ (b : Unsent). b.bytes) o []) now_here in
          let long : length (take (length come.seat.bytes) (bytes_in buffer)) ≡ length come.seat.bytes = as_long core app held seats room come.seat (bytes_in buffer) empty its come.is come.size come.has in
          let wrote : take (length come.seat.bytes) (bytes_in lent) ≡ take (length come.seat.bytes) (bytes_in buffer) =
          ap (λ k. take k (bytes_in lent)) (sym (ap length now_bytes ∙ long)) ∙ bytes ∙ now_bytes in
          let its_number : lent.number ≡ buffer.number = number ∙ come.is_number in
          record {
            number = its_number;
            size = whole ∙ ap (option_map (λ (b : Unsent). b.size)) now_here ∙ ap Some (sym come.size) ∙ sym (out_size buffer.bytes come.out);
            bytes =
                ap (λ (m : ℕ). take (length (bytes_at bag m)) (bytes_in lent)) its_number ∙ ap (λ (bs : List ℕ). take (length bs) (bytes_in lent)) bag_bytes
                ∙ wrote ∙ sym (ap (λ (bs : List ℕ). take (length bs) (bytes_in buffer)) bag_bytes);
          }
        where
          out_size : (o : Option (List ℕ)) → is_some o ≡ true → option_map (λ (bytes : List ℕ). length bytes) o ≡ Some (length (unwrap_or o []))
          out_size None is = absurd (cc (is))
          out_size (Some xs) is = refl

-- No seat has the number. --

pub none_here : (held : Holding LentBytes) (seats : List Unsent) (room : ℕ) (bag : Holding LentBytes) (buffer : Lent) (n : ℕ) → seen held seats room ≡ bag → n ≡ buffer.number → find (λ (b : Unsent). eqb b.number n) seats ≡ None →
    buffer_at bag buffer.number ≡ None
none_here held seats room bag buffer n view is none =
    ap (λ (b : Holding LentBytes). buffer_at b buffer.number) (sym view) ∙ ap (lent_at seats) (sym is) ∙ none

pub none_written : (bag : Holding LentBytes) (buffer : Lent) → buffer_at bag buffer.number ≡ None → written bag buffer ≡ []
none_written bag buffer none = ap (λ o. take (length (option_map_or (λ (b : Unsent). b.bytes) o [])) (bytes_in buffer)) none

pub none_one : (core : Plain) (app : ℕ) (held : Holding LentBytes) (seats : List Unsent) (room n : ℕ) → held.buffers ≡ [] → find (λ (b : Unsent). eqb b.number n) seats ≡ None → HasBag core app (seen held seats room) →
    HasBuffer core app held n
none_one core app held seats room n empty none has = record {
  known = has.buffers.known;
  due = ap (option_map shape_of) (ap (λ bs. find (λ (b : Unsent). eqb b.number n) bs) empty ∙ sym none) ∙ has.buffers.due n;
}

pub none_bytes : (held : Holding LentBytes) (bag : Holding LentBytes) (buffer : Lent) (n : ℕ) → held.buffers ≡ [] → buffer_at bag buffer.number ≡ None → bytes_at held n ≡ written bag buffer
none_bytes held bag buffer n empty none =
    ap (λ bs. option_map_or (λ (b : Unsent). b.bytes) (find (λ (b : Unsent). eqb b.number n) bs) []) empty ∙ sym (none_written bag buffer none)

-- What the core answers. --

pub on_err : {T E P : Type 0} (r : Result T E) → P → OnErr r P
on_err (Ok x) p = tt
on_err (Err e) p = p

pub off_err : {T E P : Type 0} (r : Result T E) → IfOk r (λ (x : T). ⊥) → OnErr r P → P
off_err (Ok x) never p = absurd never
off_err (Err e) never p = p

pub no_ok : {T E : Type 0} (P : T → Type 0) (r : Result T E) → IfOk r (λ (x : T). ⊥) → IfOk r P
no_ok P (Ok x) never = absurd never
no_ok P (Err e) never = tt

pub views_same : (a b : Holding LentBytes) → a ≡ b → a ≡ record b { buffers = a.buffers }
views_same a b e = e ∙ ap (λ (bs : List Unsent). record b { buffers = bs }) (sym (ap (λ (h : Holding LentBytes). h.buffers) e))

module _ (old new : Plain) (app n : ℕ) where
  pub sent_gone : (bytes : List ℕ) (inc : Bool) (r : Result Sent SbStatus) (it : Sent) → r ≡ Ok it → Acts old new app (TransmitBuffer n bytes inc) (sent r) → unsent_at new.whole.bus.unsent app n ≡ None
  sent_gone bytes inc r it is acts =
      subst (λ (m : BusAnswer × Whole). unsent_at m.1.bus.unsent app n ≡ None) acts.made
      (sent_none old.limits old.whole app n bytes inc it.number it.reached (ap (λ (m : BusAnswer × Whole). m.0) acts.made ∙ ap sent is))

  pub released_gone : (r : Result (Unit {0}) SbStatus) (it : Unit {0}) → r ≡ Ok it → Acts old new app (Release n) (done r) → unsent_at new.whole.bus.unsent app n ≡ None
  released_gone r it is acts =
      subst (λ (m : BusAnswer × Whole). unsent_at m.1.bus.unsent app n ≡ None) acts.made
      (released_none old.limits old.whole app n (ap (λ (m : BusAnswer × Whole). m.0) acts.made ∙ ap done is))

  pub never_sent : (bytes : List ℕ) (inc : Bool) (r : Result Sent SbStatus) → has_unsent old.whole.bus.unsent app n ≡ false → Acts old new app (TransmitBuffer n bytes inc) (sent r) → IfOk r (λ (it : Sent). ⊥)
  never_sent bytes inc r none acts = by_answer r (sym (unsent_invalid old.limits old.whole app n bytes inc none) ∙ ap (λ (m : BusAnswer × Whole). m.0) acts.made)
    where
      by_answer : (r : Result Sent SbStatus) → Sb BufferInvalid ≡ sent r → IfOk r (λ (it : Sent). ⊥)
      by_answer (Ok it) is = absurd (cc (is))
      by_answer (Err e) is = tt

  pub never_released : (r : Result (Unit {0}) SbStatus) → has_unsent old.whole.bus.unsent app n ≡ false → Acts old new app (Release n) (done r) → IfOk r (λ (it : Unit {0}). ⊥)
  never_released r none acts = by_answer r (sym (return_invalid old.limits old.whole app n none) ∙ ap (λ (m : BusAnswer × Whole). m.0) acts.made)
    where
      by_answer : (r : Result (Unit {0}) SbStatus) → Sb BufferInvalid ≡ done r → IfOk r (λ (it : Unit {0}). ⊥)
      by_answer (Ok it) is = absurd (cc (is))
      by_answer (Err e) is = tt

  -- refused, for there is no such buffer
  pub none_has : {T : Type 0} (r : Result T SbStatus) (which : CounterName) (held now : Holding LentBytes) (seats : List Unsent) (room : ℕ) → IfOk r (λ (x : T). ⊥) → OnErr r (new ≡ with_tick old which) → OnErr r (now ≡ held) →
      HasBag old app (seen held seats room) → HasBag new app (seen now seats room)
  none_has r which held now seats room never ticked same has =
      subst (λ (b : Holding LentBytes). HasBag new app (seen b seats room)) (sym (off_err r never same)) (has_ticked old new app which (seen held seats room) (off_err r never ticked) has)
