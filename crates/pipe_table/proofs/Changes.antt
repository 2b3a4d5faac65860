-- What is always true of the table stays so: when a pipe is changed, created or removed.
use Rattle.std.proofs.Common.{◌≡◌, ℕ, suc, zero, ◌+◌, ◌<◌, ◌≤◌, Bool, true, false, not, cond, eqb, List, [], ◌∷◌, ◌++◌, length, zip, filter, set, get_or, Option, Some, None, refl, ap, sym, ◌∙◌, subst, arith, append_assoc}
use Rattle.std.specs.List.{All, AllByRecursion, IsDistinct, remove}
use Rattle.std.specs.Option.{option_map, option_to_list}
use Rattle.std.proofs.lemmas.Bool.Decides.{nat_tests}
use Rattle.std.proofs.lemmas.List.{length-set, length_push}
use Rattle.std.proofs.lemmas.List.Edits.{length-remove}
use Rattle.std.proofs.lemmas.List.Elements.{All-set, All-weaker, All-nil, All-cons, All-head, All-tail}
use Rattle.pipe_queue.specs.declared.item.Item.{Item}
use Rattle.bus_words.specs.Pipes.{PipeOf, with_pipe, without_pipe, offered_over}
use Rattle.pipe_table.specs.Table.{without_place}
use Rattle.pipe_table.specs.Inside.{PlaceState, pipe_in, pipe_of, number_of, place_under, live_in, table_of, AreFiled, IsFree, AreKept}
use Rattle.pipe_table.proofs.NumberedPipes.{StandsAt, nowhere, is_same, pipe_here, ordered, under_index, stands_under, as_many, changed, filed_changed, live_apart, filed_apart, free_apart, removed, filed_removed, removed_apart, pipe_elsewhere, pipe_there, IsApart, pairs_push, pairs_without, pairs_removed}

-- If no pipe has the number. --

none_changed : (f : PipeOf Item → PipeOf Item) (n : ℕ) (pipes : List (PipeOf Item)) → filter (λ pipe. eqb pipe.number n) pipes ≡ [] → with_pipe f n pipes ≡ pipes
none_changed f n [] none = refl
none_changed f n (pipe ∷ pipes) none = at (eqb pipe.number n) none (λ rest. none_changed f n pipes rest)
  where
    at : (b : Bool) → cond {A = List (PipeOf Item)} b (pipe ∷ filter (λ r. eqb r.number n) pipes) (filter (λ r. eqb r.number n) pipes) ≡ [] →
        (filter (λ r. eqb r.number n) pipes ≡ [] → with_pipe f n pipes ≡ pipes) → cond {A = PipeOf Item} b (f pipe) pipe ∷ with_pipe f n pipes ≡ pipe ∷ pipes
    at true is ih = absurd (cc (is))
    at false is ih = ap (λ l. pipe ∷ l) (ih is)

none_removed : (n : ℕ) (pipes : List (PipeOf Item)) → filter (λ pipe. eqb pipe.number n) pipes ≡ [] → without_pipe n pipes ≡ pipes
none_removed n [] none = refl
none_removed n (pipe ∷ pipes) none = at (eqb pipe.number n) none (λ rest. none_removed n pipes rest)
  where
    at : (b : Bool) → cond {A = List (PipeOf Item)} b (pipe ∷ filter (λ r. eqb r.number n) pipes) (filter (λ r. eqb r.number n) pipes) ≡ [] →
        (filter (λ r. eqb r.number n) pipes ≡ [] → without_pipe n pipes ≡ pipes) → cond {A = List (PipeOf Item)} (not b) (pipe ∷ without_pipe n pipes) (without_pipe n pipes) ≡ pipe ∷ pipes
    at true is ih = absurd (cc (is))
    at false is ih = ap (λ l. pipe ∷ l) (ih is)

pub unchanged : (f : PipeOf Item → PipeOf Item) (depth : ℕ) (places : List PlaceState) (numbers at : List ℕ) (created number : ℕ) → AreFiled 0 places numbers at → place_under numbers at number ≡ None →
    table_of depth places numbers at created ≡ record (table_of depth places numbers at created) { live = with_pipe f number (live_in places at) }
unchanged f depth places numbers at created number filed none =
    ap (λ live. record (table_of depth places numbers at created) { live = live })
    (sym (none_changed f number (live_in places at) (pipe_here 0 places numbers at number filed ∙ ap (λ o. option_to_list (pipe_of places o)) none)))

pub unremoved : (depth : ℕ) (places : List PlaceState) (numbers at : List ℕ) (created number : ℕ) → AreFiled 0 places numbers at → place_under numbers at number ≡ None →
    table_of depth places numbers at created
    ≡ record (table_of depth places numbers at created) { live = without_pipe number (live_in places at); places = without_place number (zip numbers at) }
unremoved depth places numbers at created number filed none =
    ap (λ live. record (table_of depth places numbers at created) { live = live })
    (sym (none_removed number (live_in places at) (pipe_here 0 places numbers at number filed ∙ ap (λ o. option_to_list (pipe_of places o)) none)))
    ∙ ap (λ pairs. record (table_of depth places numbers at created) { live = without_pipe number (live_in places at); places = pairs }) (sym (pairs_without numbers at number none))

-- Changing one. --

-- a free place stays free if a place with a pipe changes
frees_stay : (places : List PlaceState) (frees : List ℕ) (p : ℕ) (pipe : PipeOf Item) (x : PlaceState) → pipe_in places p ≡ Some pipe → All (IsFree places) frees → All (IsFree (set places p x)) frees
frees_stay places frees p pipe x has all = All-weaker (IsFree places) (IsFree (set places p x)) stays frees all
  where
    stays : (q : ℕ) → IsFree places q → IsFree (set places p x) q
    stays q free = record {
      there = omega (arith, free.there, length-set places p x);
      empty = pipe_elsewhere places p q x other ∙ free.empty;
    }
      where
        other : q ≡ p → ⊥
        other same =
            let no : ◌≡◌ {A = Option (PipeOf Item)} None (Some pipe) = sym free.empty ∙ ap (pipe_in places) same ∙ has in
            absurd (cc (no))

-- each place has room for the greatest depth
pub room_at : (depth : ℕ) (places : List PlaceState) (i : ℕ) → i < length places → All (λ place. place.room ≡ depth) places → (get_or places i nowhere).room ≡ depth
room_at depth [] i within all = absurd (omega (arith, within))
room_at depth (place ∷ places) zero within all = All-head (λ (p : PlaceState). p.room ≡ depth) place places all
room_at depth (place ∷ places) (suc i) within all = room_at depth places i (omega (arith, within)) (All-tail (λ (p : PlaceState). p.room ≡ depth) place places all)

module _ (depth : ℕ) (places : List PlaceState) (numbers at frees : List ℕ) (created number p : ℕ) (was x : PlaceState) (f : PipeOf Item → PipeOf Item)
    (kept : AreKept depth places numbers at frees created) (under : place_under numbers at number ≡ Some p)
    (read : was ≡ get_or places p nowhere) (is : x ≡ record was { pipe = option_map f was.pipe }) (same : (pipe : PipeOf Item) → (f pipe).number ≡ pipe.number) where
  stands : StandsAt places p number
  stands = stands_under 0 places numbers at number p kept.filed under

  holds : x.pipe ≡ option_map f (pipe_in places p)
  holds = ap (λ (s : PlaceState). s.pipe) is ∙ ap (λ (s : PlaceState). option_map f s.pipe) read

  room : x.room ≡ depth
  room = ap (λ (s : PlaceState). s.room) is ∙ ap (λ (s : PlaceState). s.room) read ∙ room_at depth places p stands.there kept.rooms

  -- the table is the one with that pipe changed
  pub changed_table : table_of depth (set places p x) numbers at created ≡ record (table_of depth places numbers at created) { live = with_pipe f number (live_in places at) }
  changed_table =
      ap (λ live. record { live = live; places = zip numbers at; created = created; room = length (set places p x); depth = depth }) (changed f 0 places numbers at number p x kept.filed under holds)
      ∙ ap (λ n. record { live = with_pipe f number (live_in places at); places = zip numbers at; created = created; room = n; depth = depth }) (length-set places p x)

  known_stay : number_of x.pipe ≡ number_of (pipe_in places p)
  known_stay = ap number_of holds ∙ by_pipe (pipe_in places p)
    where
      by_pipe : (o : Option (PipeOf Item)) → number_of (option_map f o) ≡ number_of o
      by_pipe None = refl
      by_pipe (Some pipe) = ap (λ n. Some n) (same pipe)

  pub changed_kept : AreKept depth (set places p x) numbers at frees created
  changed_kept = record {
    filed = filed_changed 0 places numbers at p x stands.there kept.filed known_stay;
    given = kept.given;
    empty = frees_stay places frees p stands.pipe x stands.has kept.empty;
    once = kept.once;
    all = omega (arith, kept.all, length-set places p x);
    rooms = All-set (λ place. place.room ≡ depth) places p x room kept.rooms;
  }

-- an offer leaves the number
pub same-offered_over : (is_over : Bool) (sender : ℕ) (item : Item) (pipe : PipeOf Item) → (offered_over is_over sender item pipe).number ≡ pipe.number
same-offered_over is_over sender item pipe = refl

-- Creating one. --

live_append : (places : List PlaceState) (xs ys : List ℕ) → live_in places (xs ++ ys) ≡ live_in places xs ++ live_in places ys
live_append places [] ys = refl
live_append places (x ∷ xs) ys =
    ap (λ l. option_to_list (pipe_in places x) ++ l) (live_append places xs ys)
    ∙ sym (append_assoc (option_to_list (pipe_in places x)) (live_in places xs) (live_in places ys))

filed_append : (below : ℕ) (places : List PlaceState) (numbers at : List ℕ) (number p : ℕ) → AreFiled below places numbers at → below < number → All (λ n. n < number) numbers → p < length places → number_of (pipe_in places p) ≡ Some number →
    AreFiled below places (numbers ++ number ∷ []) (at ++ p ∷ [])
filed_append below places [] [] number p filed above most there known = (above, there, known, tt)
filed_append below places [] (q ∷ at) number p filed above most there known = absurd filed
filed_append below places (m ∷ numbers) [] number p filed above most there known = absurd filed
filed_append below places (m ∷ numbers) (q ∷ at) number p filed above most there known = (
  filed.0,
  filed.1,
  filed.2,
  filed_append m places numbers at number p filed.3 (All-head (λ n. n < number) m numbers most) (All-tail (λ n. n < number) m numbers most) there known,
)

each_apart : (xs : List ℕ) (p : ℕ) → IsDistinct eqb (xs ++ p ∷ []) → All (λ q. eqb q p ≡ false) xs
unfolding IsDistinct
each_apart [] p once = All-nil (λ q. eqb q p ≡ false)
each_apart (x ∷ xs) p once = All-cons (λ q. eqb q p ≡ false) x xs (last_apart xs once.0) (each_apart xs p once.1)
  where
    last_apart : (ys : List ℕ) → AllByRecursion (λ y. eqb x y ≡ false) (ys ++ p ∷ []) → eqb x p ≡ false
    last_apart [] all = all.0
    last_apart (y ∷ ys) all = last_apart ys all.1

distinct_front : (xs : List ℕ) (p : ℕ) → IsDistinct eqb (xs ++ p ∷ []) → IsDistinct eqb xs
unfolding IsDistinct
distinct_front [] p once = tt
distinct_front (x ∷ xs) p once = (fewer xs once.0, distinct_front xs p once.1)
  where
    fewer : (ys : List ℕ) → AllByRecursion (λ y. eqb x y ≡ false) (ys ++ p ∷ []) → AllByRecursion (λ y. eqb x y ≡ false) ys
    fewer [] all = tt
    fewer (y ∷ ys) all = (all.0, fewer ys all.1)

all_both : {X : Type 0} (P Q R : X → Type 0) → ((x : X) → P x → Q x → R x) → (xs : List X) → All P xs → All Q xs → All R xs
all_both P Q R both [] ps qs = All-nil R
all_both P Q R both (x ∷ xs) ps qs = All-cons R x xs (both x (All-head P x xs ps) (All-head Q x xs qs)) (all_both P Q R both xs (All-tail P x xs ps) (All-tail Q x xs qs))

all_front : {X : Type 0} (P : X → Type 0) (xs : List X) (x : X) → All P (xs ++ x ∷ []) → All P xs
all_front P [] x all = All-nil P
all_front P (y ∷ xs) x all = All-cons P y xs (All-head P y (xs ++ x ∷ []) all) (all_front P xs x (All-tail P y (xs ++ x ∷ []) all))

pub all_last : {X : Type 0} (P : X → Type 0) (xs : List X) (x : X) → All P (xs ++ x ∷ []) → P x
all_last P [] x all = All-head P x [] all
all_last P (y ∷ xs) x all = all_last P xs x (All-tail P y (xs ++ x ∷ []) all)

differ : (q p : ℕ) → eqb q p ≡ false → q ≡ p → ⊥
differ q p is same = grind (arith, nat_tests)

all_push : {X : Type 0} (P : X → Type 0) (xs : List X) (x : X) → All P xs → P x → All P (xs ++ x ∷ [])
all_push P [] x all one = All-cons P x [] one all
all_push P (y ∷ xs) x all one = All-cons P y (xs ++ x ∷ []) (All-head P y xs all) (all_push P xs x (All-tail P y xs all) one)

module _ (depth : ℕ) (places : List PlaceState) (numbers at frees rest : List ℕ) (created now p : ℕ) (x : PlaceState) (pipe : PipeOf Item)
    (kept : AreKept depth places numbers at frees created) (popped : frees ≡ rest ++ p ∷ [])
    (holds : x.pipe ≡ Some pipe) (room : x.room ≡ depth) (next : now ≡ created + 1) (number : pipe.number ≡ now) where
  empties : All (IsFree places) (rest ++ p ∷ [])
  empties = subst (λ l. All (IsFree places) l) popped kept.empty

  is_free : IsFree places p
  is_free = all_last (IsFree places) rest p empties

  apart : IsApart at p
  apart = free_apart 0 places numbers at p kept.filed is_free.empty

  created_live : live_in (set places p x) (at ++ p ∷ []) ≡ live_in places at ++ pipe ∷ []
  created_live =
      live_append (set places p x) at (p ∷ [])
      ∙ ap (λ l. l ++ live_in (set places p x) (p ∷ [])) (live_apart places at p x apart)
      ∙ ap (λ o. live_in places at ++ (option_to_list o ++ [])) (pipe_there places p x is_free.there ∙ holds)

  -- the table is the one with that pipe and its place
  pub created_table : table_of depth (set places p x) (numbers ++ now ∷ []) (at ++ p ∷ []) now
      ≡ record (table_of depth places numbers at created) { live = live_in places at ++ pipe ∷ []; places = zip numbers at ++ (now, p) ∷ []; created = now }
  created_table =
      ap (λ live. record { live = live; places = zip (numbers ++ now ∷ []) (at ++ p ∷ []); created = now; room = length (set places p x); depth = depth }) created_live
      ∙ ap (λ pairs. record { live = live_in places at ++ pipe ∷ []; places = pairs; created = now; room = length (set places p x); depth = depth })
      (pairs_push numbers at now p (as_many 0 places numbers at kept.filed))
      ∙ ap (λ n. record { live = live_in places at ++ pipe ∷ []; places = zip numbers at ++ (now, p) ∷ []; created = now; room = n; depth = depth }) (length-set places p x)

  pub created_kept : AreKept depth (set places p x) (numbers ++ now ∷ []) (at ++ p ∷ []) rest now
  created_kept = record {
    filed =
        filed_append 0 (set places p x) numbers at now p (filed_apart 0 places numbers at p x apart kept.filed) (omega (arith, next))
        (All-weaker (λ n. n ≤ created) (λ n. n < now) (λ n le. omega (arith, le, next)) numbers kept.given) (omega (arith, is_free.there, length-set places p x))
        (ap number_of (pipe_there places p x is_free.there ∙ holds) ∙ ap (λ n. Some n) number);
    given = all_push (λ n. n ≤ now) numbers now (All-weaker (λ n. n ≤ created) (λ n. n ≤ now) (λ n le. omega (arith, le, next)) numbers kept.given) (omega arith);
    empty =
        all_both (IsFree places) (λ q. eqb q p ≡ false) (IsFree (set places p x))
        (λ q free other. record { there = omega (arith, free.there, length-set places p x); empty = pipe_elsewhere places p q x (differ q p other) ∙ free.empty })
        rest (all_front (IsFree places) rest p empties) (each_apart rest p (subst (λ l. IsDistinct eqb l) popped kept.once));
    once = distinct_front rest p (subst (λ l. IsDistinct eqb l) popped kept.once);
    all = omega (arith, kept.all, length-set places p x, ap length popped, length_push rest p, length_push at p);
    rooms = All-set (λ place. place.room ≡ depth) places p x room kept.rooms;
  }

-- Removing one. --

distinct_push : (xs : List ℕ) (p : ℕ) → IsDistinct eqb xs → All (λ q. eqb q p ≡ false) xs → IsDistinct eqb (xs ++ p ∷ [])
unfolding IsDistinct
distinct_push [] p once away = (tt, tt)
distinct_push (x ∷ xs) p once away =
    (more xs once.0 (All-head (λ q. eqb q p ≡ false) x xs away), distinct_push xs p once.1 (All-tail (λ q. eqb q p ≡ false) x xs away))
  where
    more : (ys : List ℕ) → AllByRecursion (λ y. eqb x y ≡ false) ys → eqb x p ≡ false → AllByRecursion (λ y. eqb x y ≡ false) (ys ++ p ∷ [])
    more [] all one = (one, tt)
    more (y ∷ ys) all one = (all.0, more ys all.1 one)

all_remove : {X : Type 0} (P : X → Type 0) (xs : List X) (i : ℕ) → i < length xs → All P xs → All P (remove xs i)
all_remove P [] i within all = absurd (omega (arith, within))
all_remove P (x ∷ xs) zero within all = All-tail P x xs all
all_remove P (x ∷ xs) (suc i) within all = All-cons P x (remove xs i) (All-head P x xs all) (all_remove P xs i (omega (arith, within)) (All-tail P x xs all))

module _ (depth : ℕ) (places : List PlaceState) (numbers at frees : List ℕ) (created i p : ℕ) (x : PlaceState)
    (kept : AreKept depth places numbers at frees created) (within : i < length numbers) (place : p ≡ get_or at i 0) (holds : x.pipe ≡ None) (room : x.room ≡ depth) where
  pub stood : StandsAt places p (get_or numbers i 0)
  stood =
      stands_under 0 places numbers at (get_or numbers i 0) p kept.filed (under_index 0 numbers at i (get_or numbers i 0) (ordered places numbers at kept.filed).rising (ordered places numbers at kept.filed).all within refl ∙ ap Some (sym place))

  left : IsApart (remove at i) p
  left = subst (IsApart (remove at i)) (sym place) (removed_apart 0 places numbers at i within kept.filed)

  removed_live : live_in (set places p x) (remove at i) ≡ without_pipe (get_or numbers i 0) (live_in places at)
  removed_live = live_apart places (remove at i) p x left ∙ removed 0 places numbers at i within kept.filed

  -- the table is the one without that pipe and its place
  pub removed_table : table_of depth (set places p x) (remove numbers i) (remove at i) created
      ≡ record (table_of depth places numbers at created) { live = without_pipe (get_or numbers i 0) (live_in places at); places = without_place (get_or numbers i 0) (zip numbers at) }
  removed_table =
      let n = get_or numbers i 0 in
      ap (λ live. record { live = live; places = zip (remove numbers i) (remove at i); created = created; room = length (set places p x); depth = depth }) removed_live
      ∙ ap (λ pairs. record { live = without_pipe n (live_in places at); places = pairs; created = created; room = length (set places p x); depth = depth })
      (pairs_removed 0 numbers at i (ordered places numbers at kept.filed).rising (as_many 0 places numbers at kept.filed) within)
      ∙ ap (λ m. record { live = without_pipe n (live_in places at); places = without_place n (zip numbers at); created = created; room = m; depth = depth }) (length-set places p x)

  others_apart : All (λ q. eqb q p ≡ false) frees
  others_apart = All-weaker (IsFree places) (λ q. eqb q p ≡ false) (λ q free. by_test q free (eqb q p) refl) frees kept.empty
    where
      by_test : (q : ℕ) → IsFree places q → (b : Bool) → eqb q p ≡ b → b ≡ false
      by_test q free false eq = refl
      by_test q free true eq =
          let no : ◌≡◌ {A = Option (PipeOf Item)} None (Some stood.pipe) = sym free.empty ∙ ap (pipe_in places) (is_same q p eq) ∙ stood.has in
          absurd (cc (no))

  pub removed_kept : AreKept depth (set places p x) (remove numbers i) (remove at i) (frees ++ p ∷ []) created
  removed_kept = record {
    filed = filed_apart 0 places (remove numbers i) (remove at i) p x left (filed_removed 0 places numbers at i within kept.filed);
    given = all_remove (λ n. n ≤ created) numbers i within kept.given;
    empty =
        all_push (IsFree (set places p x)) frees p (frees_stay places frees p stood.pipe x stood.has kept.empty)
        (record { there = omega (arith, stood.there, length-set places p x); empty = pipe_there places p x stood.there ∙ holds });
    once = distinct_push frees p kept.once others_apart;
    all =
        let many = as_many 0 places numbers at kept.filed in
        omega (arith, kept.all, length-set places p x, length_push frees p, length-remove at i (omega (arith, within, many)));
    rooms = All-set (λ place. place.room ≡ depth) places p x room kept.rooms;
  }
