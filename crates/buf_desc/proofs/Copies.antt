-- A block that is drawn, written and sealed in one call.
use Rattle.std.proofs.Common.{◌≡◌, ℕ, ◌-◌, ◌<◌, ◌≤◌, ◌⊎◌, inl, inr, Bool, true, false, cond, nat_lt, Option, Some, None, List, [], ◌∷◌, ◌++◌, length, set, refl, ap, sym, subst, ◌∙◌, arith}
use Rattle.std.specs.Option.{option_map_or}
use Rattle.std.proofs.lemmas.Bool.{cases_eq, cases_lt}
use Rattle.std.proofs.lemmas.Bool.Decides.{nat_tests}
use Rattle.std.proofs.lemmas.List.{get_or_push, get_or_past, get_or-set_same, get_or-set_other, length-set, length_push}
use Rattle.ccsds_msg.specs.Message.{with_count}
use Rattle.ccsds_msg.proofs.MessageLemmas.{length-with_count}
use Rattle.es_pool.specs.Pool.{PoolState, DrawsFor, is_out, size_at, IsWhole}
use Rattle.buf_desc.specs.Slots.{slot_at, is_free, is_live, free_size}
use Rattle.buf_desc.specs.Block.{Sealed as SealedBlock}
use Rattle.buf_desc.specs.Desk.{placed}
use Rattle.buf_desc.specs.Inside.{Fits, IsKept}
use Rattle.buf_desc.specs.declared.slot.Slot.{Slot}
use Rattle.buf_desc.specs.declared.slot.Slot.TheVariants.{Free, Unsent, Sealed}
use Rattle.buf_desc.proofs.Lists.{set_set}
use Rattle.buf_desc.proofs.Keeps.{reused, cut_off, kept_at, live_out}

is_less : (x y : ℕ) → x < y → nat_lt x y ≡ true
is_less x y l = grind (arith, nat_tests)

is_no_less : (x y : ℕ) → y ≤ x → nat_lt x y ≡ false
is_no_less x y l = grind (arith, nat_tests)

set_last : {X : Type 0} (xs : List X) (x y : X) → set (xs ++ x ∷ []) (length xs) y ≡ xs ++ y ∷ []
set_last [] x y = refl
set_last (z ∷ xs) x y = ap (λ l. z ∷ l) (set_last xs x y)

-- another slot for a block fits the pool as well
kept_slot : (pool : PoolState) (slots : List Slot) (rest capacity n : ℕ) (s : Slot) → IsKept pool slots rest capacity → n < length slots → Fits pool n s → IsKept pool (set slots n s) rest capacity
kept_slot pool slots rest capacity n s k h f =
    record {
      all = length-set slots n s ∙ k.all;
      room = k.room;
      region = k.region;
      fits = λ d within. at d (omega (arith, within, length-set slots n s)) (cases_eq d n);
    }
  where
    at : (d : ℕ) → d < length slots → (d ≡ n) ⊎ (d ≡ n → ⊥) → Fits pool d (slot_at (set slots n s) d)
    at d within (inl same) =
        subst (λ i. Fits pool i (slot_at (set slots n s) i)) (sym same)
        (subst (Fits pool n) (sym (get_or-set_same slots n s (Free 0) h)) f)
    at d within (inr other) = subst (Fits pool d) (sym (get_or-set_other slots n d s (Free 0) other)) (k.fits d within)

-- what is left of the region once a block was drawn
abbrev rest_after : List Slot → ℕ → ℕ → ℕ → ℕ
rest_after slots rest desc whole = cond (nat_lt desc (length slots)) rest (rest - whole)

-- what is known of a block that was drawn and isn't written yet
pub record Drawn (new : PoolState) (slots : List Slot) (rest capacity size desc : ℕ) : Type 0 where
  pub cut : desc < length new.blocks
  pub next : desc ≤ length slots
  pub free : desc < length slots → is_free (slot_at slots desc) ≡ true
  pub whole : desc < length slots → free_size (slot_at slots desc) ≡ size_at new desc
  pub enough : size ≤ size_at new desc
  pub left : desc ≡ length slots → size_at new desc ≤ rest
  pub space : desc ≡ length slots → length slots < capacity
  pub fresh : is_live (slot_at slots desc) ≡ false
  pub kept : (sent : SealedBlock) → sent.size ≡ size_at new desc → IsKept new (placed slots desc (Sealed sent)) (rest_after slots rest desc (size_at new desc)) capacity

pub drawn : (old new : PoolState) (slots : List Slot) (rest capacity size desc : ℕ) → IsKept old slots rest capacity → IsWhole new → DrawsFor old new size desc → is_out old desc ≡ false → is_out new desc ≡ true → Drawn new slots rest capacity size desc
drawn old new slots rest capacity size desc k w draws was out = by_case (cases_lt desc (length slots))
  where
    by_case : (desc < length slots) ⊎ (length slots ≤ desc) → Drawn new slots rest capacity size desc
    by_case (inl h) =
        let again = reused old new slots rest capacity size desc 0 k draws was h in
        let long = length-set slots desc (Unsent 0 size) in
        record {
          cut = omega (arith, h, long, again.kept.all);
          next = omega (arith, h);
          free = λ _. again.free;
          whole = λ _. again.whole;
          enough = omega (arith, again.enough, again.whole);
          left = λ e. absurd (omega (arith, h, e));
          space = λ e. absurd (omega (arith, h, e));
          fresh = live_out old desc (slot_at slots desc) (k.fits desc h) ∙ was;
          kept = λ sent same.
              subst (λ b. IsKept new (cond b (set slots desc (Sealed sent)) (slots ++ Sealed sent ∷ [])) (cond b rest (rest - size_at new desc)) capacity) (sym (is_less desc (length slots) h))
              (kept_at new _ (set slots desc (Sealed sent)) rest rest capacity capacity (sym (set_set slots desc (Unsent 0 size) (Sealed sent))) refl refl
              (kept_slot new (set slots desc (Unsent 0 size)) rest capacity desc (Sealed sent) again.kept (omega (arith, h, long)) (out, same)));
        }
    by_case (inr past) =
        let next = cut_off old new slots rest capacity size desc 0 k w draws past in
        record {
          cut = next.there;
          next = omega (arith, next.next);
          free = λ h. absurd (omega (arith, h, past));
          whole = λ h. absurd (omega (arith, h, past));
          enough = next.enough;
          left = λ _. next.within;
          space = λ _. next.space;
          fresh = ap is_live (get_or_past slots desc (Free 0) past);
          kept = λ sent same.
              subst (λ b. IsKept new (cond b (set slots desc (Sealed sent)) (slots ++ Sealed sent ∷ [])) (cond b rest (rest - size_at new desc)) capacity) (sym (is_no_less desc (length slots) past))
              (kept_at new _ (slots ++ Sealed sent ∷ []) (rest - size_at new desc) (rest - size_at new desc) capacity capacity
              (sym (ap (λ i. set (slots ++ Unsent 0 size ∷ []) i (Sealed sent)) next.next ∙ set_last slots (Unsent 0 size) (Sealed sent))) refl refl
              (kept_slot new (slots ++ Unsent 0 size ∷ []) (rest - size_at new desc) capacity desc (Sealed sent) next.kept (omega (arith, next.next, length_push slots (Unsent 0 size))) (out, same)));
        }

-- if the block's old slot was emptied first, it is placed all the same
pub placed_lifted : (slots lifted : List Slot) (desc : ℕ) (s : Slot) → lifted ≡ cond (nat_lt desc (length slots)) (set slots desc (Free 0)) slots → placed lifted desc s ≡ placed slots desc s
placed_lifted slots lifted desc s e = ap (λ l. placed l desc s) e ∙ by_case (cases_lt desc (length slots))
  where
    by_case : (desc < length slots) ⊎ (length slots ≤ desc) → placed (cond (nat_lt desc (length slots)) (set slots desc (Free 0)) slots) desc s ≡ placed slots desc s
    by_case (inl h) =
        let inside : nat_lt desc (length (set slots desc (Free 0))) ≡ true = is_less desc (length (set slots desc (Free 0))) (omega (arith, h, length-set slots desc (Free 0))) in
        ap (λ b. placed (cond b (set slots desc (Free 0)) slots) desc s) (is_less desc (length slots) h)
        ∙ (ap (λ b. cond b (set (set slots desc (Free 0)) desc s) (set slots desc (Free 0) ++ s ∷ [])) inside
        ∙ (set_set slots desc (Free 0) s ∙ sym (ap (λ b. cond b (set slots desc s) (slots ++ s ∷ [])) (is_less desc (length slots) h))))
    by_case (inr past) = ap (λ b. placed (cond b (set slots desc (Free 0)) slots) desc s) (is_no_less desc (length slots) past)

pub length_lifted : (slots lifted : List Slot) (desc : ℕ) → lifted ≡ cond (nat_lt desc (length slots)) (set slots desc (Free 0)) slots → length lifted ≡ length slots
length_lifted slots lifted desc e = ap length e ∙ at (nat_lt desc (length slots))
  where
    at : (b : Bool) → length (cond b (set slots desc (Free 0)) slots) ≡ length slots
    at true = length-set slots desc (Free 0)
    at false = refl

-- the block that was placed is there
pub placed_here : (slots : List Slot) (desc : ℕ) (s : Slot) → desc ≤ length slots → slot_at (placed slots desc s) desc ≡ s
placed_here slots desc s h = by_case (cases_lt desc (length slots))
  where
    by_case : (desc < length slots) ⊎ (length slots ≤ desc) → slot_at (placed slots desc s) desc ≡ s
    by_case (inl inside) =
        ap (λ b. slot_at (cond b (set slots desc s) (slots ++ s ∷ [])) desc) (is_less desc (length slots) inside)
        ∙ get_or-set_same slots desc s (Free 0) inside
    by_case (inr past) =
        ap (λ b. slot_at (cond b (set slots desc s) (slots ++ s ∷ [])) desc) (is_no_less desc (length slots) past)
        ∙ get_or_push slots s (Free 0) desc (omega (arith, h, past))

-- a block that is placed as unsent and then set is placed as that
pub placed_again : (slots : List Slot) (desc : ℕ) (unsent s : Slot) → desc ≤ length slots → set (placed slots desc unsent) desc s ≡ placed slots desc s
placed_again slots desc unsent s h = by_case (cases_lt desc (length slots))
  where
    by_case : (desc < length slots) ⊎ (length slots ≤ desc) → set (placed slots desc unsent) desc s ≡ placed slots desc s
    by_case (inl inside) =
        ap (λ b. set (cond b (set slots desc unsent) (slots ++ unsent ∷ [])) desc s) (is_less desc (length slots) inside)
        ∙ (set_set slots desc unsent s ∙ sym (ap (λ b. cond b (set slots desc s) (slots ++ s ∷ [])) (is_less desc (length slots) inside)))
    by_case (inr past) =
        let last : desc ≡ length slots = omega (arith, h, past) in
        ap (λ b. set (cond b (set slots desc unsent) (slots ++ unsent ∷ [])) desc s) (is_no_less desc (length slots) past)
        ∙ (ap (λ i. set (slots ++ unsent ∷ []) i s) last ∙ (set_last slots unsent s
        ∙ sym (ap (λ b. cond b (set slots desc s) (slots ++ s ∷ [])) (is_no_less desc (length slots) past))))

-- a message has as many bytes with its count
pub length-counted : (bytes : List ℕ) (count : Option ℕ) → 6 ≤ length bytes → length (option_map_or (with_count bytes) count bytes) ≡ length bytes
length-counted bytes None long = refl
length-counted bytes (Some count) long = length-with_count bytes count (omega (arith, long))
