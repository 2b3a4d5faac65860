-- A bag whose blocks are lent: the views and the seats, and what the bag is with the blocks put back.
use Rattle.std.proofs.Common.{◌≡◌, ℕ, zero, suc, ◌+◌, ◌<◌, ◌≤◌, ◌⊎◌, inl, inr, Bool, true, false, not, cond, eqb, List, [], ◌∷◌, ◌++◌, length, take, get_or, replicate, filter, find, slice_get, Option, Some, None, is_some, Result, Ok, Err, IsTrue, refl, ap, sym, ◌∙◌, subst, arith}
use Rattle.std.specs.List.{All, insert, remove, position}
use Rattle.std.specs.Option.{option_map, option_map_or, option_or, unwrap_or}
use Rattle.std.proofs.lemmas.Bool.{cases_eq, eq-eqb, eqb-true}
use Rattle.std.proofs.lemmas.List.{length-append, length-replicate, length-take}
use Rattle.std.proofs.lemmas.List.Elements.{All-push}
use Rattle.std.proofs.lemmas.List.Folds.{find-append}
use Rattle.fsw_base.specs.declared.statuses.SbStatus.{SbStatus}
use Rattle.fsw_base.specs.declared.statuses.SbStatus.TheVariants.{BadArgument, BufAlocErr}
use Rattle.housekeeping.specs.declared.names.CounterName.{CounterName}
use Rattle.lend_block.specs.Loan.{LentBytes}
use Rattle.buf_desc.specs.Block.{Unsent}
use Rattle.buf_desc.specs.Held.{Holding, buffer_at, bytes_at, without_first}
use Rattle.bus_words.specs.declared.calls.BusAnswer.{BusAnswer}
use Rattle.bus_words.specs.declared.calls.BusAnswer.TheVariants.{Number, Sb}
use Rattle.bus_words.specs.declared.history.Call.TheVariants.{Allocate}
use Rattle.bus_words.specs.Acts.{Whole, act}
use Rattle.bus_words.specs.Bus.{Buffer, unsent_at, has_unsent}
use Rattle.bus_messages.specs.Bag.{Shape, shape_of, buffer_due, with_lent}
use Rattle.bus_messages.specs.Words.{desc_of, size_for}
use Rattle.bus_messages.proofs.BufferLists.{eqb_off}
use Rattle.bus_messages.proofs.LentBuffers.{lent_at, lent_alike, back_alike}
use Rattle.bus_core.specs.Answers.{numbered}
use Rattle.bus_core.specs.Core.{Plain, Acts, with_tick, has_send_number}
use Rattle.bus_core.specs.Bags.{HasBag, HasOwnViews, HasBuffer, KeepsBag, KeepsBagBut, KeepsBuffers}
use Rattle.checked_bus.specs.Inside.{IsSeat, seat_of}
use Rattle.checked_bus.specs.Lent.{Lent, bytes_in, is_as_long, is_misfit, IsGivenOut}
use Rattle.checked_bus.proofs.Given.{no_empty}
use Rattle.checked_bus.proofs.SeatLists.{found_there, place_within, get_there, left_none, left_other, left_removed, alone, nothing_there, put_back, first_gone}

-- what the application has of it
abbrev pub seen : Holding LentBytes → List Unsent → ℕ → Holding LentBytes
seen held seats room = record { views = held.views; buffers = seats; view_room = held.view_room; buffer_room = room }

abbrev number_of : Unsent → ℕ
number_of block = block.number

-- the seats of other numbers
abbrev pub left : ℕ → List Unsent → List Unsent
left n seats = filter (λ (b : Unsent). not (eqb b.number n)) seats

split : (bag : Holding LentBytes) (lent : List Unsent) (n : ℕ) → buffer_at (with_lent bag lent) n ≡ option_or (lent_at lent n) (buffer_at bag n)
split bag lent n = find-append (λ (b : Unsent). eqb b.number n) lent bag.buffers

or_none : (o : Option Unsent) → option_or o None ≡ o
or_none None = refl
or_none (Some x) = refl

none_empty : (held : Holding LentBytes) (n : ℕ) → held.buffers ≡ [] → buffer_at held n ≡ None
none_empty held n empty = ap (λ bs. find (λ (b : Unsent). eqb b.number n) bs) empty

module _ (core : Plain) (app : ℕ) (held : Holding LentBytes) (seats : List Unsent) (room : ℕ) (empty : held.buffers ≡ []) where
  whole_same : (n : ℕ) → buffer_at (with_lent held seats) n ≡ buffer_at (seen held seats room) n
  whole_same n = split held seats n ∙ ap (option_or (lent_at seats n)) (none_empty held n empty) ∙ or_none (lent_at seats n)

  pub put_together : HasBag core app (seen held seats room) → HasBag core app (with_lent held seats)
  put_together has = record {
    views = record { seen = has.views.seen; counted = has.views.counted; room = has.views.room };
    buffers = record { known = has.buffers.known; due = λ n. ap (option_map shape_of) (whole_same n) ∙ has.buffers.due n };
  }

  pub taken_apart : HasBag core app (with_lent held seats) → HasBag core app (seen held seats room)
  taken_apart has = record {
    views = record { seen = has.views.seen; counted = has.views.counted; room = has.views.room };
    buffers = record { known = has.buffers.known; due = λ n. ap (option_map shape_of) (sym (whole_same n)) ∙ has.buffers.due n };
  }

  pub own_views : HasBag core app (seen held seats room) → HasOwnViews core app held
  own_views has = record { seen = has.views.seen; counted = has.views.counted; room = has.views.room }

-- with no block lent
pub none_lent : (core : Plain) (app : ℕ) (held : Holding LentBytes) (seats : List Unsent) (room : ℕ) → held.buffers ≡ [] → seats ≡ [] → HasBag core app (seen held seats room) → HasBag core app held
none_lent core app held seats room empty none has = record {
  views = record { seen = has.views.seen; counted = has.views.counted; room = has.views.room };
  buffers = record { known = has.buffers.known; due = λ n. ap (option_map shape_of) (none_empty held n empty ∙ sym (ap (λ bs. find (λ (b : Unsent). eqb b.number n) bs) none)) ∙ has.buffers.due n };
}

pub lent_none : (core : Plain) (app : ℕ) (held : Holding LentBytes) (seats : List Unsent) (room : ℕ) → held.buffers ≡ [] → seats ≡ [] → HasBag core app held → HasBag core app (seen held seats room)
lent_none core app held seats room empty none has = record {
  views = record { seen = has.views.seen; counted = has.views.counted; room = has.views.room };
  buffers = record { known = has.buffers.known; due = λ n. ap (option_map shape_of) (ap (λ bs. find (λ (b : Unsent). eqb b.number n) bs) none ∙ sym (none_empty held n empty)) ∙ has.buffers.due n };
}

-- A call that changes the views alone. --

pub after_views : (old new : Plain) (app : ℕ) (held now : Holding LentBytes) (seats : List Unsent) (room : ℕ) → held.buffers ≡ [] → now ≡ record held { views = now.views } →
    KeepsBag old new app held now → HasBag old app (seen held seats room) → HasBag new app (seen now seats room)
after_views old new app held now seats room empty stays keeps has =
    taken_apart new app now seats room (ap (λ (b : Holding LentBytes). b.buffers) stays ∙ empty) (keeps seats (put_together old app held seats room empty has))

-- Refusals. --

pub has_ticked : (old new : Plain) (app : ℕ) (which : CounterName) (bag : Holding LentBytes) → new ≡ with_tick old which → HasBag old app bag → HasBag new app bag
has_ticked old new app which bag is has =
    subst (λ (c : Plain). HasBag c app bag) (sym is) (record {
      views = record { seen = has.views.seen; counted = has.views.counted; room = has.views.room };
      buffers = record { known = has.buffers.known; due = has.buffers.due };
    })

-- A new block is lent. --

unshape : (o : Option Unsent) (x : Option Shape) → option_map shape_of o ≡ x → x ≡ None → o ≡ None
unshape None x is none = refl
unshape (Some b) x is none = let never = is ∙ none in absurd (cc (never))

-- without an unsent buffer of the number, nothing is due
pub none_due : (core : Plain) (app n : ℕ) → unsent_at core.whole.bus.unsent app n ≡ None → buffer_due core.whole.bus.unsent core.descs core.limits.sizes app n ≡ None
none_due core app n none =
    ap (option_map (λ (buffer : Buffer). record { desc = desc_of core.descs n; size = size_for core.limits.sizes buffer.size; asked = buffer.size })) none

pub none_there : (core : Plain) (app n : ℕ) (bag : Holding LentBytes) → unsent_at core.whole.bus.unsent app n ≡ None → HasBag core app bag → buffer_at bag n ≡ None
none_there core app n bag none has = unshape (buffer_at bag n) (buffer_due core.whole.bus.unsent core.descs core.limits.sizes app n) (has.buffers.due n) (none_due core app n none)

pub none_unsent : (core : Plain) (app n : ℕ) (bag : Holding LentBytes) → buffer_at bag n ≡ None → HasBag core app bag → has_unsent core.whole.bus.unsent app n ≡ false
none_unsent core app n bag none has = by_due (unsent_at core.whole.bus.unsent app n) refl (sym (has.buffers.due n) ∙ ap (option_map shape_of) none)
  where
    shape : Buffer → Shape
    shape buffer = record { desc = desc_of core.descs n; size = size_for core.limits.sizes buffer.size; asked = buffer.size }

    by_due : (o : Option Buffer) → unsent_at core.whole.bus.unsent app n ≡ o → option_map shape o ≡ None → is_some o ≡ false
    by_due None is due = refl
    by_due (Some b) is due = absurd (cc (due))

pub found_number : (n : ℕ) (bs : List Unsent) (block : Unsent) → find (λ (b : Unsent). eqb b.number n) bs ≡ Some block → block.number ≡ n
found_number n [] block is = absurd (cc (is))
found_number n (b ∷ bs) block is = by_test (found_number n bs block) (eqb b.number n) refl is
  where
    by_test : (find (λ (o : Unsent). eqb o.number n) bs ≡ Some block → block.number ≡ n) → (t : Bool) → eqb b.number n ≡ t → cond t (Some b) (find (λ (o : Unsent). eqb o.number n) bs) ≡ Some block → block.number ≡ n
    by_test rest true e here = let same : b ≡ block = cc (here) in ap number_of (sym same) ∙ eqb-true b.number n e
    by_test rest false e here = rest here

at_end : (n : ℕ) (seats : List Unsent) (seat : Unsent) → lent_at seats n ≡ None → seat.number ≡ n → lent_at (seats ++ seat ∷ []) n ≡ Some seat
at_end n seats seat none is =
    find-append (λ (b : Unsent). eqb b.number n) seats (seat ∷ [])
    ∙ ap (λ o. option_or o (lent_at (seat ∷ []) n)) none
    ∙ ap (λ t. cond {A = Option Unsent} t (Some seat) None) (eq-eqb seat.number n is)

-- one block alone
only : (held now : Holding LentBytes) (block : Unsent) (n : ℕ) → held.buffers ≡ [] → length now.buffers ≤ length held.buffers + 1 → buffer_at now n ≡ Some block → now.buffers ≡ block ∷ []
only held now block n empty few found = by_list now.buffers (subst (λ (bs : List Unsent). length now.buffers ≤ length bs + 1) empty few) found
  where
    by_list : (bs : List Unsent) → length bs ≤ 1 → find (λ (b : Unsent). eqb b.number n) bs ≡ Some block → bs ≡ block ∷ []
    by_list [] less is = absurd (cc (is))
    by_list (b ∷ []) less is = alone number_of n (b ∷ []) block refl is
    by_list (b ∷ (c ∷ bs)) less is = absurd (omega (arith, less))

module _ (old new : Plain) (app n size : ℕ) (held now after : Holding LentBytes) (seats : List Unsent) (room : ℕ) (block : Unsent) (empty : held.buffers ≡ []) (few : length now.buffers ≤ length held.buffers + 1)
    (found : buffer_at now n ≡ Some block) (taken : after ≡ record now { buffers = without_first (λ (b : Unsent). eqb b.number n) now.buffers }) where
  is_number : block.number ≡ n
  is_number = found_number n now.buffers block found

  one : now.buffers ≡ block ∷ []
  one = only held now block n empty few found

  pub emptied : after.buffers ≡ []
  emptied =
      ap (λ (b : Holding LentBytes). b.buffers) taken ∙ ap (without_first (λ (b : Unsent). eqb b.number n)) one
      ∙ first_gone (λ (b : Unsent). eqb b.number n) block (eq-eqb block.number n is_number)

  pub has_lent : KeepsBag old new app held now → HasBag old app (seen held seats room) → HasBag new app (seen after (seats ++ seat_of block ∷ []) room)
  has_lent keeps has =
      let whole = keeps seats (put_together old app held seats room empty has) in
      let seat : Unsent = seat_of block in
      let here : buffer_at now seat.number ≡ Some block = ap (buffer_at now) is_number ∙ found in
      let shaped : shape_of seat ≡ shape_of block = ap (λ asked. record { desc = block.desc; size = block.size; asked = asked }) (length-replicate (length block.bytes) 0) in
      let same = lent_alike now after seats block seat here shaped gone in
      taken_apart new app after (seats ++ seat ∷ []) room emptied (record {
        views = subst (λ (b : Holding LentBytes). HasOwnViews new app (with_lent b (seats ++ seat ∷ []))) (sym taken) (record { seen = whole.views.seen; counted = whole.views.counted; room = whole.views.room });
        buffers = record { known = whole.buffers.known; due = λ m. same m ∙ whole.buffers.due m };
      })
    where
      gone : (m : ℕ) → buffer_at after m ≡ cond {A = Option Unsent} (eqb block.number m) None (buffer_at now m)
      gone m = none_empty after m emptied ∙ sym (ap (λ bs. cond {A = Option Unsent} (eqb block.number m) None (find (λ (b : Unsent). eqb b.number m) bs)) one ∙ by_test (eqb block.number m))
        where
          by_test : (t : Bool) → cond {A = Option Unsent} t None (cond {A = Option Unsent} t (Some block) None) ≡ None
          by_test true = refl
          by_test false = refl

-- what a bag keeps of its fields
abbrev pub KeptBag : Holding LentBytes → List Unsent → ℕ → ℕ → Type 0
KeptBag held seats room capacity = (held.buffers ≡ []) × (1 ≤ held.buffer_room) × (length seats ≤ room) × (room ≤ capacity) × All IsSeat seats

pub some_block : (o : Option Unsent) → is_some o ≡ true → (b : Unsent) × (o ≡ Some b)
some_block (Some b) is = (b, refl)
some_block None is = absurd (cc (is))

pub is_seat_of : (block : Unsent) (o : Option (List ℕ)) → option_map (λ (bytes : List ℕ). length bytes) o ≡ Some block.size → take (length block.bytes) (unwrap_or o []) ≡ block.bytes → IsSeat (seat_of block)
is_seat_of block None size bytes = absurd (cc (size))
is_seat_of block (Some xs) size bytes =
    let long : length xs ≡ block.size = cc (size) in
    let same : length (replicate (length block.bytes) 0) ≡ length block.bytes = length-replicate (length block.bytes) 0 in
    record {
      zeros = ap (λ k. record block { bytes = replicate k 0 }) (sym same);
      within = omega (arith, same, long, ap length bytes, length-take (length block.bytes) xs);
    }

some_of : (o : Option (List ℕ)) (k : ℕ) → option_map (λ (bytes : List ℕ). length bytes) o ≡ Some k → is_some o ≡ true
some_of None k is = absurd (cc (is))
some_of (Some xs) k is = refl

module _ (held now after : Holding LentBytes) (seats more : List Unsent) (room size n : ℕ) (block : Unsent) (lent : Lent) (added : more ≡ seats ++ seat_of block ∷ []) (found : buffer_at now n ≡ Some block)
    (fresh : lent_at seats n ≡ None) (zeros : bytes_at now n ≡ replicate size 0) (whole : option_map (λ (bytes : List ℕ). length bytes) lent.bytes ≡ option_map (λ (b : Unsent). b.size) (buffer_at now n))
    (bytes : take (length (bytes_at now n)) (bytes_in lent) ≡ bytes_at now n) where
  the_number : block.number ≡ n
  the_number = found_number n now.buffers block found

  at_more : lent_at more n ≡ Some (seat_of block)
  at_more = ap (λ bs. lent_at bs n) added ∙ at_end n seats (seat_of block) fresh the_number

  block_bytes : bytes_at now n ≡ block.bytes
  block_bytes = ap (λ o. option_map_or (λ (b : Unsent). b.bytes) o []) found

  size_is : length block.bytes ≡ size
  size_is = ap length (sym block_bytes ∙ zeros) ∙ length-replicate size 0

  pub zeros_lent : bytes_at (seen after more room) n ≡ replicate size 0
  zeros_lent = ap (λ o. option_map_or (λ (b : Unsent). b.bytes) o []) at_more ∙ ap (λ k. replicate k 0) size_is

  pub seat_kept : IsSeat (seat_of block)
  seat_kept = is_seat_of block lent.bytes (whole ∙ ap (option_map (λ (b : Unsent). b.size)) found) (subst (λ (bs : List ℕ). take (length bs) (bytes_in lent) ≡ bs) block_bytes bytes)

  pub given_out : lent.number ≡ n → IsGivenOut (seen after more room) size n lent
  given_out is = record {
    number_is = is;
    out = some_of lent.bytes block.size (whole ∙ ap (option_map (λ (b : Unsent). b.size)) found);
    whole = whole ∙ ap (option_map (λ (b : Unsent). b.size)) found ∙ sym (ap (option_map (λ (b : Unsent). b.size)) at_more);
    zeros = ap (λ k. take k (bytes_in lent)) (sym (ap length zeros ∙ length-replicate size 0)) ∙ bytes ∙ zeros;
  }

  pub others_lent : (other : ℕ) → (n ≡ other → ⊥) → buffer_at (seen after more room) other ≡ lent_at seats other
  others_lent other apart =
      ap (λ bs. lent_at bs other) added ∙ find-append (λ (b : Unsent). eqb b.number other) seats (seat_of block ∷ [])
      ∙ ap (option_or (lent_at seats other)) (ap (λ t. cond {A = Option Unsent} t (Some (seat_of block)) None) (eqb_off block.number other (λ same. apart (sym the_number ∙ same))))
      ∙ or_none (lent_at seats other)

  pub lent_kept : (capacity more_capacity : ℕ) → KeptBag held seats room capacity → held.buffer_room ≡ after.buffer_room → after.buffers ≡ [] → length seats < room → capacity ≤ more_capacity →
      KeptBag after more room more_capacity
  lent_kept capacity more_capacity kept same emptied_now below above = (
    emptied_now,
    omega (arith, kept.1, same),
    omega (arith, ap length added, length-append seats (seat_of block ∷ []), below),
    omega (arith, kept.3, above),
    subst (All IsSeat) (sym added) (All-push IsSeat seats (seat_of block) kept.4 seat_kept),
  )

-- the block is there: none is given of no bytes
pub some_size : (old new : Plain) (app size n : ℕ) (r : Result ℕ SbStatus) → r ≡ Ok n → (IsTrue (has_send_number old.whole.bus) → Acts old new app (Allocate size) (numbered r)) →
    (has_send_number old.whole.bus ≡ false → r ≡ Err BufAlocErr) → size ≡ 0 → ⊥
some_size old new app size n r is does spent none = by_left (has_send_number old.whole.bus) refl
  where
    by_left : (left : Bool) → has_send_number old.whole.bus ≡ left → ⊥
    by_left true e =
        let made : (act old.limits old.whole app (Allocate size)).0 ≡ numbered r = ap (λ (m : BusAnswer × Whole). m.0) (does e).made in
        let never : Sb BadArgument ≡ Number n = sym (no_empty old.limits old.whole app) ∙ ap (λ k. (act old.limits old.whole app (Allocate k)).0) (sym none) ∙ made ∙ ap numbered is in
        absurd (cc (never))
    by_left false e = let never : Ok n ≡ Err BufAlocErr = sym is ∙ spent e in absurd (cc (never))

pub there_is : (now : Holding LentBytes) (n size : ℕ) → bytes_at now n ≡ replicate size 0 → (size ≡ 0 → ⊥) → is_some (buffer_at now n) ≡ true
there_is now n size zeros some = by_found (buffer_at now n) size zeros some
  where
    by_found : (o : Option Unsent) (k : ℕ) → option_map_or (λ (b : Unsent). b.bytes) o [] ≡ replicate k 0 → (k ≡ 0 → ⊥) → is_some o ≡ true
    by_found (Some b) k is at = refl
    by_found None zero is at = absurd (at refl)
    by_found None (suc k) is at = absurd (cc (is))

-- A block comes back. --

-- a seat, by its place
pub its_place : (seats : List Unsent) (n i : ℕ) (it : Unsent) → position (λ (b : Unsent). eqb b.number n) seats ≡ Some i → it ≡ get_or seats i it → lent_at seats n ≡ Some it
its_place seats n i it is read =
    found_there (λ (b : Unsent). eqb b.number n) seats i is ∙ get_there seats i it (place_within (λ (b : Unsent). eqb b.number n) seats i is) ∙ ap Some (sym read)

-- whether memory is no block for the seat
pub misfit_of : (bag : Holding LentBytes) (buffer : Lent) (block : Unsent) (r : Bool) → buffer_at bag buffer.number ≡ Some block → r ≡ not (is_as_long buffer block.size) → r ≡ is_misfit bag buffer
misfit_of bag buffer block r at is = is ∙ sym (ap (λ o. option_map_or (λ (b : Unsent). not (is_as_long buffer b.size)) o false) at)

pub no_misfit : (bag : Holding LentBytes) (buffer : Lent) → buffer_at bag buffer.number ≡ None → false ≡ is_misfit bag buffer
no_misfit bag buffer none = sym (ap (λ o. option_map_or (λ (b : Unsent). not (is_as_long buffer b.size)) o false) none)

pub seat_there : (seats : List Unsent) (i : ℕ) (seat it : Unsent) → slice_get seats i ≡ Some seat → it ≡ get_or seats i it → it ≡ seat
seat_there [] i seat it at is = absurd (cc (at))
seat_there (s ∷ seats) zero seat it at is = let same : s ≡ seat = cc (at) in is ∙ same
seat_there (s ∷ seats) (suc i) seat it at is = seat_there seats i seat it at is

pub back_alone : (held new : Holding LentBytes) (block other : Unsent) → held.buffers ≡ [] → new ≡ record held { buffers = new.buffers } → length new.buffers ≡ length held.buffers + 1 →
    buffer_at new block.number ≡ cond {A = Option Unsent} (eqb block.number block.number) (Some block) (buffer_at held block.number) → block ≡ other → new ≡ record held { buffers = other ∷ [] }
back_alone held new block other empty stays one_more found is =
    let one : length new.buffers ≡ 1 = one_more ∙ ap (λ (bs : List Unsent). length bs + 1) empty in
    let there = found ∙ ap (λ t. cond {A = Option Unsent} t (Some block) (buffer_at held block.number)) (eq-eqb block.number block.number refl) in
    stays ∙ ap (λ (bs : List Unsent). record held { buffers = bs }) (alone number_of block.number new.buffers block one there ∙ ap (λ (b : Unsent). b ∷ []) is)

-- the block of a seat, with these bytes in it
abbrev pub filled : Unsent → List ℕ → Unsent
filled seat bytes = record seat { bytes = take (length seat.bytes) bytes }

module _ (core : Plain) (app : ℕ) (held : Holding LentBytes) (seats : List Unsent) (room : ℕ) (seat : Unsent) (bytes : List ℕ) (empty : held.buffers ≡ [])
    (there : lent_at seats seat.number ≡ Some seat) (is_seat : IsSeat seat) (size : length bytes ≡ seat.size) (has : HasBag core app (seen held seats room)) where
  abbrev n : ℕ
  n = seat.number

  abbrev pub back : Holding LentBytes
  back = record held { buffers = filled seat bytes ∷ [] }

  pub as_long : length (take (length seat.bytes) bytes) ≡ length seat.bytes
  as_long = omega (arith, length-take (length seat.bytes) bytes, is_seat.within, size)

  others_left : (m : ℕ) → (n ≡ m → ⊥) → lent_at (left n seats) m ≡ lent_at seats m
  others_left m apart = left_other number_of n m seats apart

  pub has_back : HasBag core app (with_lent back (left n seats))
  has_back =
      let shaped : shape_of seat ≡ shape_of (filled seat bytes) = ap (λ asked. record { desc = seat.desc; size = seat.size; asked = asked }) (sym as_long) in
      let same = back_alike held back seats (left n seats) (filled seat bytes) seat there shaped (left_none number_of n seats) others_left comes in
      let whole = put_together core app held seats room empty has in
      record {
        views = record { seen = has.views.seen; counted = has.views.counted; room = has.views.room };
        buffers = record { known = has.buffers.known; due = λ m. same m ∙ whole.buffers.due m };
      }
    where
      comes : (m : ℕ) → buffer_at back m ≡ cond {A = Option Unsent} (eqb n m) (Some (filled seat bytes)) (buffer_at held m)
      comes m = sym (ap (cond {A = Option Unsent} (eqb n m) (Some (filled seat bytes))) (none_empty held m empty))

  pub has_one : HasBuffer core app back n
  has_one = record {
    known = has.buffers.known;
    due = ap (option_map shape_of) (sym (split back (left n seats) n ∙ ap (λ o. option_or o (buffer_at back n)) (left_none number_of n seats))) ∙ has_back.buffers.due n;
  }

  -- the buffer is sent or given back
  pub has_left : (new : Plain) (now : Holding LentBytes) → KeepsBagBut core new app back now n → KeepsBuffers back now n → unsent_at new.whole.bus.unsent app n ≡ None → now.buffers ≡ []
  has_left new now keeps others none = nothing_there number_of now.buffers each
    where
      whole : HasBag new app (with_lent now (left n seats))
      whole = keeps (left n seats) (left_none number_of n seats) has_back

      each : (m : ℕ) → buffer_at now m ≡ None
      each m = by_same (cases_eq n m)
        where
          by_same : (n ≡ m) ⊎ (n ≡ m → ⊥) → buffer_at now m ≡ None
          by_same (inl same) =
              let gone = none_there new app n (with_lent now (left n seats)) none whole in
              ap (buffer_at now) (sym same) ∙ sym (split now (left n seats) n ∙ ap (λ o. option_or o (buffer_at now n)) (left_none number_of n seats)) ∙ gone
          by_same (inr apart) = others m apart ∙ ap (λ t. cond {A = Option Unsent} t (Some (filled seat bytes)) None) (eqb_off n m apart)

  pub has_after : (new : Plain) (now : Holding LentBytes) → KeepsBagBut core new app back now n → now.buffers ≡ [] → HasBag new app (seen now (left n seats) room)
  has_after new now keeps emptied = taken_apart new app now (left n seats) room emptied (keeps (left n seats) (left_none number_of n seats) has_back)

  -- or it stays: the seat is put back at its place
  pub seat_back : (i : ℕ) → slice_get seats i ≡ Some seat → insert (remove seats i) i (seat_of (filled seat bytes)) ≡ seats
  seat_back i at = ap (insert (remove seats i) i) (ap (λ k. record seat { bytes = replicate k 0 }) as_long ∙ sym is_seat.zeros) ∙ put_back seats i seat at

-- the seats of other numbers are what they were
pub left_same : (n : ℕ) (seats : List Unsent) (i : ℕ) (seat : Unsent) → slice_get seats i ≡ Some seat → seat.number ≡ n → left n (remove seats i) ≡ left n seats
left_same n seats i seat at is = left_removed number_of n seats i seat at (eq-eqb seat.number n is)
