-- A block that is drawn, written and sealed.
use Rattle.std.proofs.Common.{◌≡◌, ℕ, ◌+◌, ◌≤◌, ◌%◌, ◌||◌, zero, suc, Bool, true, false, cond, eqb, List, [], ◌∷◌, length, map, set, take, find, Option, Some, None, refl, ap, sym, ◌∙◌, subst, arith}
use Rattle.std.specs.Option.{option_map_or}
use Rattle.std.proofs.lemmas.Bool.{eqb-true}
use Rattle.ccsds_msg.specs.Message.{with_count}
use Rattle.fsw_base.specs.Starts.{start_of}
use Rattle.es_pool.specs.Pool.{DrawsFor, size_at}
use Rattle.buf_desc.specs.Block.{Unsent as UnsentBlock, Sealed as SealedBlock}
use Rattle.buf_desc.specs.Slots.{slot_at, sealed_in, is_sealed, is_live, number_in, HaveOwnNumbers}
use Rattle.buf_desc.specs.Desk.{Buffers, Takes, IsOf, placed, sealed}
use Rattle.buf_desc.proofs.Copies.{placed_here, placed_again}
use Rattle.buf_desc.specs.declared.slot.Slot.TheVariants.{Unsent, Sealed}
use Rattle.buf_desc.proofs.Others.{slot_drawn, numbers_drawn, numbers_changed}
use Rattle.bus_words.specs.Acts.{NextCount, next_in}
use Rattle.bus_routes.specs.Rows.{RouteRow, has_way, counted_in}
use Rattle.bus_messages.specs.Words.{next_of}
use Rattle.bus_messages.specs.Inside.{Seals, Adds}
use Rattle.bus_messages.proofs.Ties.{here_set, others_set, eqb_other}

take_all : (xs : List ℕ) (n : ℕ) → n ≡ length xs → take n xs ≡ xs
take_all [] zero e = refl
take_all [] (suc n) e = refl
take_all (x ∷ xs) zero e = absurd (omega (arith, e))
take_all (x ∷ xs) (suc n) e = ap (λ l. x ∷ l) (take_all xs n (omega (arith, e)))

pub added : (old mid new : Buffers) (size number len loan : ℕ) (block sent : UnsentBlock) (message : List ℕ) →
    Takes old mid size number block → IsOf mid block → sent ≡ record block { bytes = message } → len ≡ length message → size ≡ length message →
    new ≡ sealed mid sent len loan → Adds old new number message sent.desc
added old mid new size number len loan block sent message taken own is long same after =
    let placed : new ≡ sealed mid (record block { bytes = message }) len loan = after ∙ ap (λ b. sealed mid b len loan) is in
    subst (λ d. Adds old new number message d) (sym (ap (λ (b : UnsentBlock). b.desc) is))
    (subst (λ b. Adds old b number message block.desc) (sym placed) there)
  where
    what : SealedBlock
    what = record { number = block.number; asked = length message; size = block.size; bytes = take len message; uses = 0; loan = loan; views = 0 }

    live : is_live (slot_at mid.slots block.desc) ≡ true
    live = ap is_live own.0

    here : slot_at (set mid.slots block.desc (Sealed what)) block.desc ≡ Sealed what
    here = here_set mid.slots block.desc (Sealed what) live

    there : Adds old (sealed mid (record block { bytes = message }) len loan) number message block.desc
    there = record {
      fresh = taken.was_not_live;
      drawn = subst (λ n. DrawsFor old.pool mid.pool n block.desc) same taken.drawn;
      seals = record {
        sealed = ap is_sealed here;
        sent = subst (λ s. sealed_in s ≡ record (sealed_in s) { number = number; asked = length message; bytes = message; uses = 0; views = 0 }) (sym here)
            (ap (λ n. record what { number = n }) taken.sent_as ∙ ap (λ l. record what { number = number; bytes = l }) (take_all message len long));
        others = λ other apart.
            others_set mid.slots block.desc (Sealed what) live other apart
            ∙ slot_drawn old mid size number block taken own other
            ∙ ap (λ c. cond c (Unsent number size) (slot_at old.slots other)) (eqb_other block.desc other apart);
      };
      numbers = λ kept new_there.
          numbers_changed mid.slots block.desc (Sealed what) live (λ _. sym (ap number_in own.0)) (numbers_drawn old mid size number block taken own kept new_there);
    }

-- the same if the block was drawn, written and sealed in one call
pub put_added : (old new : Buffers) (number loan desc : ℕ) (bytes message : List ℕ) →
    length message ≡ length bytes → desc ≤ length old.slots → is_live (slot_at old.slots desc) ≡ false → DrawsFor old.pool new.pool (length bytes) desc →
    new.slots ≡ placed old.slots desc (Sealed (record { number = number; asked = length bytes; size = size_at new.pool desc; bytes = message; uses = 0; loan = loan; views = 0 })) →
    Adds old new number message desc
put_added old new number loan desc bytes message long next fresh draws e =
    added old mid new (length bytes) number (length bytes) loan block (record block { bytes = message }) message taken own refl (sym long) (sym long) after
  where
    mid : Buffers
    mid = record { pool = new.pool; slots = placed old.slots desc (Unsent number (length bytes)) }

    block : UnsentBlock
    block = record { desc = desc; number = number; size = size_at new.pool desc; bytes = bytes }

    taken : Takes old mid (length bytes) number block
    taken = record { drawn = draws; was_not_live = fresh; slots = refl; sent_as = refl; whole = refl; long = refl }

    own : IsOf mid block
    own = (placed_here old.slots desc (Unsent number (length bytes)) next, refl)

    seal : ℕ → List ℕ → SealedBlock
    seal asked sent = record { number = number; asked = asked; size = size_at new.pool desc; bytes = sent; uses = 0; loan = loan; views = 0 }

    after : new ≡ sealed mid (record block { bytes = message }) (length bytes) loan
    after = ap (λ slots. record new { slots = slots })
        (e ∙ (ap (λ asked. placed old.slots desc (Sealed (seal asked message))) (sym long)
        ∙ (ap (λ sent. placed old.slots desc (Sealed (seal (length message) sent))) (sym (take_all message (length bytes) (sym long)))
        ∙ sym (placed_again old.slots desc (Unsent number (length bytes)) (Sealed (seal (length message) (take (length bytes) message))) next))))

-- the block is of the desk if other bytes are in it, as many as before
pub own_as : (b : Buffers) (block sent : UnsentBlock) (message : List ℕ) → sent ≡ record block { bytes = message } → length sent.bytes ≡ length block.bytes → IsOf b block → IsOf b sent
own_as b block sent message is long own = (
  ap (λ (x : UnsentBlock). slot_at b.slots x.desc) is ∙ own.0 ∙ ap (Unsent block.number) (sym long) ∙ ap (λ (x : UnsentBlock). Unsent x.number (length sent.bytes)) (sym is),
  ap (λ (x : UnsentBlock). x.size) is ∙ own.1 ∙ ap (λ (x : UnsentBlock). size_at b.pool x.desc) (sym is),
)

-- the front of a message with a count is the front with the count
pub count_front : (bytes : List ℕ) (count n : ℕ) → 4 ≤ n → 4 ≤ length bytes → take n (with_count bytes count) ≡ with_count (take n bytes) count
unfolding with_count
count_front [] count n h l = absurd (omega (arith, l))
count_front (a ∷ []) count n h l = absurd (omega (arith, l))
count_front (a ∷ (b ∷ [])) count n h l = absurd (omega (arith, l))
count_front (a ∷ (b ∷ (c ∷ []))) count n h l = absurd (omega (arith, l))
count_front (a ∷ (b ∷ (c ∷ (d ∷ bytes)))) count zero h l = absurd (omega (arith, h))
count_front (a ∷ (b ∷ (c ∷ (d ∷ bytes)))) count (suc zero) h l = absurd (omega (arith, h))
count_front (a ∷ (b ∷ (c ∷ (d ∷ bytes)))) count (suc (suc zero)) h l = absurd (omega (arith, h))
count_front (a ∷ (b ∷ (c ∷ (d ∷ bytes)))) count (suc (suc (suc zero))) h l = absurd (omega (arith, h))
count_front (a ∷ (b ∷ (c ∷ (d ∷ bytes)))) count (suc (suc (suc (suc n)))) h l = refl

pub counted_front : (bytes : List ℕ) (count : Option ℕ) (n : ℕ) → 4 ≤ n → 4 ≤ length bytes → take n (option_map_or (with_count bytes) count bytes) ≡ option_map_or (with_count (take n bytes)) count (take n bytes)
counted_front bytes None n h l = refl
counted_front bytes (Some count) n h l = count_front bytes count n h l

-- An unsent block that is sealed at a message that it begins with. --

pub fronted : (old new : Buffers) (block sent : UnsentBlock) (message written : List ℕ) (len loan : ℕ) → IsOf old block → sent ≡ record block { bytes = written } →
    length written ≡ length block.bytes → take len written ≡ message → new ≡ sealed old sent len loan → Seals old new block.number (length block.bytes) message block.desc
fronted old new block sent message written len loan own is long front after =
    subst (λ b. Seals old b block.number (length block.bytes) message block.desc) (sym (after ∙ ap (λ b. sealed old b len loan) is)) there
  where
    what : SealedBlock
    what = record { number = block.number; asked = length written; size = block.size; bytes = take len written; uses = 0; loan = loan; views = 0 }

    live : is_live (slot_at old.slots block.desc) ≡ true
    live = ap is_live own.0

    here : slot_at (set old.slots block.desc (Sealed what)) block.desc ≡ Sealed what
    here = here_set old.slots block.desc (Sealed what) live

    there : Seals old (sealed old (record block { bytes = written }) len loan) block.number (length block.bytes) message block.desc
    there = record {
      sealed = ap is_sealed here;
      sent = subst (λ s. sealed_in s ≡ record (sealed_in s) { number = block.number; asked = length block.bytes; bytes = message; uses = 0; views = 0 }) (sym here)
          (ap (λ n. record what { asked = n }) long ∙ ap (λ l. record what { asked = length block.bytes; bytes = l }) front);
      others = λ other apart. others_set old.slots block.desc (Sealed what) live other apart;
    }

pub fronted_numbers : (old new : Buffers) (block sent : UnsentBlock) (written : List ℕ) (len loan : ℕ) → IsOf old block → sent ≡ record block { bytes = written } →
    new ≡ sealed old sent len loan → HaveOwnNumbers old.slots → HaveOwnNumbers new.slots
fronted_numbers old new block sent written len loan own is after =
    subst (λ (b : Buffers). HaveOwnNumbers old.slots → HaveOwnNumbers b.slots) (sym (after ∙ ap (λ b. sealed old b len loan) is))
    (numbers_changed old.slots block.desc (Sealed (record { number = block.number; asked = length written; size = block.size; bytes = take len written; uses = 0; loan = loan; views = 0 }))
    (ap is_live own.0) (λ _. sym (ap number_in own.0)))

-- the next count that the routes tell
pub next_in-rows : (starts : List (ℕ × ℕ)) (routes : List RouteRow) (id : ℕ) → has_way routes id ≡ true →
    next_in (map (next_of starts) routes) id ≡ (start_of starts id + counted_in routes id + 1) % 16384
next_in-rows starts [] id there = absurd (cc (there))
next_in-rows starts (way ∷ routes) id there = by_test (eqb way.id id) refl there (next_in-rows starts routes id)
  where
    by_test : (b : Bool) → eqb way.id id ≡ b → (b || has_way routes id) ≡ true →
        (has_way routes id ≡ true → next_in (map (next_of starts) routes) id ≡ (start_of starts id + counted_in routes id + 1) % 16384) →
        option_map_or {U = ℕ} (λ (n : NextCount). n.next) (cond {A = Option NextCount} b (Some (next_of starts way)) (find (λ (n : NextCount). eqb n.id id) (map (next_of starts) routes))) 0
        ≡ (start_of starts id + option_map_or {U = ℕ} (λ (r : RouteRow). r.counted) (cond {A = Option RouteRow} b (Some way) (find (λ (r : RouteRow). eqb r.id id) routes)) 0 + 1) % 16384
    by_test true is some ih = ap (λ n. (start_of starts n + way.counted + 1) % 16384) (eqb-true way.id id is)
    by_test false is some ih = ih some
