-- What a change of one block leaves of the ties between items and blocks.
use Rattle.std.proofs.Common.{◌≡◌, ℕ, ◌≤◌, ◌⊎◌, inl, inr, Bool, true, false, cond, eqb, List, [], ◌∷◌, set, map, Option, Some, None, refl, ap, sym, ◌∙◌, subst, arith}
use Rattle.std.specs.Option.{IfSome}
use Rattle.std.proofs.lemmas.Bool.{cases_eq}
use Rattle.std.proofs.lemmas.Bool.Decides.{nat_tests}
use Rattle.std.proofs.lemmas.List.Elements.{All-head, All-tail}
use Rattle.fsw_base.specs.Blocks.{class_of}
use Rattle.es_pool.specs.Pool.{is_out, class_at, size_at}
use Rattle.es_pool.specs.Account.{IsAccountOf}
use Rattle.buf_desc.specs.Block.{Sealed as SealedBlock}
use Rattle.buf_desc.specs.Slots.{slot_at, sealed_at, sealed_in, is_sealed, is_open, is_live, number_in, asked_in, HaveOwnNumbers}
use Rattle.buf_desc.specs.Desk.{Buffers, resealed, freed}
use Rattle.buf_desc.specs.declared.slot.Slot.{Slot}
use Rattle.buf_desc.specs.declared.slot.Slot.TheVariants.{Free, Unsent, Sealed}
use Rattle.buf_desc.proofs.Others.{slot_changed, numbers_changed}
use Rattle.bus_routes.specs.declared.tables.ItemRow.{ItemRow}
use Rattle.bus_routes.specs.Rows.{Row}
use Rattle.bus_messages.specs.Blocks.{IsGiven}
use Rattle.bus_messages.specs.Inside.{item_in, pipes_in, loan_at, loan_in, account_in, OfItems, AllItems, IsNamed, AreTied}
use Rattle.bus_messages.proofs.Items.{items_weaker}
use Rattle.bus_messages.proofs.RowChanges.{pipes_alike}
use Rattle.bus_messages.proofs.Pool.{returned_for, class_given_back}

-- Slots. --

eqb_same : (d : ℕ) → eqb d d ≡ true
eqb_same d = grind (arith, nat_tests)

pub eqb_other : (d other : ℕ) → (d ≡ other → ⊥) → eqb d other ≡ false
eqb_other d other apart = at (eqb d other) refl
  where
    at : (b : Bool) → eqb d other ≡ b → b ≡ false
    at false e = refl
    at true e = absurd (apart (grind (arith, nat_tests)))

-- what is sealed is live, with its number
pub sealed_live : (s : Slot) → is_sealed s ≡ true → is_live s ≡ true
sealed_live (Free n) e = absurd (cc (e))
sealed_live (Unsent n k) e = refl
sealed_live (Sealed s) e = refl

pub sealed_number : (s : Slot) → is_sealed s ≡ true → number_in s ≡ (sealed_in s).number
sealed_number (Free n) e = absurd (cc (e))
sealed_number (Unsent n k) e = absurd (cc (e))
sealed_number (Sealed s) e = refl

pub sealed_asked : (s : Slot) → is_sealed s ≡ true → asked_in s ≡ (sealed_in s).asked
sealed_asked (Free n) e = absurd (cc (e))
sealed_asked (Unsent n k) e = absurd (cc (e))
sealed_asked (Sealed s) e = refl

-- what is live is sealed or unsent, and not both
pub live_cases : (s : Slot) → is_live s ≡ true → (is_sealed s ≡ true) ⊎ (is_open s ≡ true)
live_cases (Free n) e = absurd (cc (e))
live_cases (Unsent n k) e = inr refl
live_cases (Sealed s) e = inl refl

pub open_live : (s : Slot) → is_open s ≡ true → is_live s ≡ true
open_live (Free n) e = absurd (cc (e))
open_live (Unsent n k) e = refl
open_live (Sealed s) e = absurd (cc (e))

pub open_unsealed : (s : Slot) → is_open s ≡ true → is_sealed s ≡ false
open_unsealed (Free n) e = refl
open_unsealed (Unsent n k) e = refl
open_unsealed (Sealed s) e = absurd (cc (e))

pub sealed_closed : (s : Slot) → is_sealed s ≡ true → is_open s ≡ false
sealed_closed (Free n) e = refl
sealed_closed (Unsent n k) e = absurd (cc (e))
sealed_closed (Sealed s) e = refl

pub dead_closed : (s : Slot) → is_live s ≡ false → is_open s ≡ false
dead_closed (Free n) e = refl
dead_closed (Unsent n k) e = absurd (cc (e))
dead_closed (Sealed s) e = absurd (cc (e))

pub dead_unsealed : (s : Slot) → is_live s ≡ false → is_sealed s ≡ false
dead_unsealed (Free n) e = refl
dead_unsealed (Unsent n k) e = absurd (cc (e))
dead_unsealed (Sealed s) e = absurd (cc (e))

pub open_is : (s : Slot) → is_open s ≡ true → s ≡ Unsent (number_in s) (asked_in s)
open_is (Free n) e = absurd (cc (e))
open_is (Unsent n k) e = refl
open_is (Sealed s) e = absurd (cc (e))

pub here_set : (slots : List Slot) (d : ℕ) (s : Slot) → is_live (slot_at slots d) ≡ true → slot_at (set slots d s) d ≡ s
here_set slots d s live = slot_changed slots d s live d ∙ ap (λ b. cond b s (slot_at slots d)) (eqb_same d)

pub others_set : (slots : List Slot) (d : ℕ) (s : Slot) → is_live (slot_at slots d) ≡ true → (other : ℕ) → (d ≡ other → ⊥) → slot_at (set slots d s) other ≡ slot_at slots other
others_set slots d s live other apart = slot_changed slots d s live other ∙ ap (λ b. cond b s (slot_at slots other)) (eqb_other d other apart)

-- Items. --

-- the item is named and read, and lent, as before
pub record Stays (slots after : List Slot) (item : ItemRow) : Type 0 where
  pub named : IsNamed after item
  pub read : item_in after item ≡ item_in slots item
  pub loan : (sealed_at after item.desc).loan ≡ (sealed_at slots item.desc).loan

-- an item of another block
pub stays_apart : (slots after : List Slot) (d : ℕ) → ((other : ℕ) → (d ≡ other → ⊥) → slot_at after other ≡ slot_at slots other) →
    (item : ItemRow) → (d ≡ item.desc → ⊥) → IsNamed slots item → Stays slots after item
stays_apart slots after d others item apart is =
    let e = others item.desc apart in
    record {
      named = record { sealed = ap is_sealed e ∙ is.sealed; number = ap (λ s. (sealed_in s).number) e ∙ is.number };
      read = ap (λ s. record { number = item.number; asked = (sealed_in s).asked; subscription = item.subscription; message = (sealed_in s).bytes }) e;
      loan = ap (λ s. (sealed_in s).loan) e;
    }

-- a block that was sealed anew with other counts
pub stays_resealed : (slots : List Slot) (d : ℕ) (sent : SealedBlock) → is_sealed (slot_at slots d) ≡ true →
    sent.number ≡ (sealed_at slots d).number → sent.asked ≡ (sealed_at slots d).asked → sent.bytes ≡ (sealed_at slots d).bytes → sent.loan ≡ (sealed_at slots d).loan →
    (item : ItemRow) → IsNamed slots item → Stays slots (set slots d (Sealed sent)) item
stays_resealed slots d sent sealed number asked bytes loan item is = at (cases_eq d item.desc)
  where
    live : is_live (slot_at slots d) ≡ true
    live = sealed_live (slot_at slots d) sealed

    after : List Slot
    after = set slots d (Sealed sent)

    at : (d ≡ item.desc) ⊎ (d ≡ item.desc → ⊥) → Stays slots after item
    at (inr apart) = stays_apart slots after d (others_set slots d (Sealed sent) live) item apart is
    at (inl same) =
        let e : slot_at after item.desc ≡ Sealed sent = ap (slot_at after) (sym same) ∙ here_set slots d (Sealed sent) live in
        record {
          named = record {
            sealed = ap is_sealed e;
            number = ap (λ s. (sealed_in s).number) e ∙ number ∙ ap (λ i. (sealed_at slots i).number) same ∙ is.number;
          };
          read =
              ap (λ s. record { number = item.number; asked = (sealed_in s).asked; subscription = item.subscription; message = (sealed_in s).bytes }) e
              ∙ ap (λ (n : ℕ). record { number = item.number; asked = n; subscription = item.subscription; message = sent.bytes }) (asked ∙ ap (λ i. (sealed_at slots i).asked) same)
              ∙ ap (λ (l : List ℕ). record { number = item.number; asked = (sealed_at slots item.desc).asked; subscription = item.subscription; message = l }) (bytes ∙ ap (λ i. (sealed_at slots i).bytes) same);
          loan = ap (λ s. (sealed_in s).loan) e ∙ loan ∙ ap (λ i. (sealed_at slots i).loan) same;
        }

-- a block that is another send's
pub stays_freed : (slots : List Slot) (d : ℕ) (slot : Slot) → is_sealed (slot_at slots d) ≡ true →
    (item : ItemRow) → (item.number ≡ (sealed_at slots d).number → ⊥) → IsNamed slots item → Stays slots (set slots d slot) item
stays_freed slots d slot sealed item other is =
    stays_apart slots (set slots d slot) d (others_set slots d slot (sealed_live (slot_at slots d) sealed)) item
    (λ same. other (sym is.number ∙ ap (λ i. (sealed_at slots i).number) (sym same))) is

-- Rows. --

loans_alike : (slots after : List Slot) (rows : List Row) → AllItems (λ i. (sealed_at after i.desc).loan ≡ (sealed_at slots i.desc).loan) rows → map (loan_in after) rows ≡ map (loan_in slots) rows
loans_alike slots after [] same = refl
loans_alike slots after (row ∷ rows) same =
    ap (λ n. record { pipe = row.number; loan = n } ∷ map (loan_in after) rows) (by_last row.last (All-head (OfItems (λ i. (sealed_at after i.desc).loan ≡ (sealed_at slots i.desc).loan)) row rows same).last)
    ∙ ap (λ l. loan_in slots row ∷ l) (loans_alike slots after rows (All-tail (OfItems (λ i. (sealed_at after i.desc).loan ≡ (sealed_at slots i.desc).loan)) row rows same))
  where
    by_last : (o : Option ItemRow) → IfSome o (λ i. (sealed_at after i.desc).loan ≡ (sealed_at slots i.desc).loan) → loan_at after o ≡ loan_at slots o
    by_last None e = refl
    by_last (Some i) e = e

module _ (slots after : List Slot) (rows : List Row) (stay : AllItems (Stays slots after) rows) where
  pub named_stay : AllItems (IsNamed after) rows
  named_stay = items_weaker (Stays slots after) (IsNamed after) (λ i s. s.named) rows stay

  pub pipes_stay : pipes_in after rows ≡ pipes_in slots rows
  pipes_stay = pipes_alike (item_in after) (item_in slots) rows (items_weaker (Stays slots after) (λ i. item_in after i ≡ item_in slots i) (λ i s. s.read) rows stay)

  pub loans_stay : map (loan_in after) rows ≡ map (loan_in slots) rows
  loans_stay = loans_alike slots after rows (items_weaker (Stays slots after) (λ i. (sealed_at after i.desc).loan ≡ (sealed_at slots i.desc).loan) (λ i s. s.loan) rows stay)

-- Ties. --

-- what has to be known of a change of one block
pub record Moves (b after : Buffers) (d : ℕ) (uses views uses' views' : ℕ → ℕ) (given given' : ℕ) : Type 0 where
  pub others : (other : ℕ) → (d ≡ other → ⊥) → slot_at after.slots other ≡ slot_at b.slots other
  pub uses_here : is_sealed (slot_at after.slots d) ≡ true → (sealed_at after.slots d).uses ≡ uses' (sealed_at after.slots d).number
  pub views_here : is_sealed (slot_at after.slots d) ≡ true → (sealed_at after.slots d).views ≡ views' (sealed_at after.slots d).number
  pub number : is_live (slot_at after.slots d) ≡ true → IsGiven given' (number_in (slot_at after.slots d))
  pub size : is_live (slot_at after.slots d) ≡ true → class_of (asked_in (slot_at after.slots d)) after.pool.sizes ≡ Some (class_at after.pool d)
  pub numbers : HaveOwnNumbers after.slots
  pub uses_same : (other : ℕ) → (d ≡ other → ⊥) → is_sealed (slot_at b.slots other) ≡ true → uses' (sealed_at b.slots other).number ≡ uses (sealed_at b.slots other).number
  pub views_same : (other : ℕ) → (d ≡ other → ⊥) → is_sealed (slot_at b.slots other) ≡ true → views' (sealed_at b.slots other).number ≡ views (sealed_at b.slots other).number
  pub more : given ≤ given'
  pub sizes_same : after.pool.sizes ≡ b.pool.sizes
  pub class_same : (other : ℕ) → (d ≡ other → ⊥) → is_live (slot_at b.slots other) ≡ true → class_at after.pool other ≡ class_at b.pool other
  pub account : IsAccountOf after.pool (account_in after.pool)

pub tied_moved : (b after : Buffers) (d : ℕ) (rows rows' : List Row) (uses views uses' views' : ℕ → ℕ) (given given' : ℕ) →
    AreTied b rows uses views given → Moves b after d uses views uses' views' given given' → AllItems (IsNamed after.slots) rows' → AreTied after rows' uses' views' given'
tied_moved b after d rows rows' uses views uses' views' given given' tied moves items = record {
  items = items;
  uses = λ other is. used other is (cases_eq d other);
  views = λ other is. view other is (cases_eq d other);
  numbers = moves.numbers;
  given = λ other live. give other live (cases_eq d other);
  sizes = λ other live. size other live (cases_eq d other);
  account = moves.account;
}
  where
    Either : ℕ → Type 0
    Either other = (d ≡ other) ⊎ (d ≡ other → ⊥)

    used : (other : ℕ) → is_sealed (slot_at after.slots other) ≡ true → Either other → (sealed_at after.slots other).uses ≡ uses' (sealed_at after.slots other).number
    used other is (inl same) = subst (λ x. is_sealed (slot_at after.slots x) ≡ true → (sealed_at after.slots x).uses ≡ uses' (sealed_at after.slots x).number) same moves.uses_here is
    used other is (inr apart) =
        let e = moves.others other apart in
        let was = sym (ap is_sealed e) ∙ is in
        ap (λ s. (sealed_in s).uses) e ∙ tied.uses other was ∙ sym (moves.uses_same other apart was) ∙ sym (ap (λ s. uses' (sealed_in s).number) e)

    view : (other : ℕ) → is_sealed (slot_at after.slots other) ≡ true → Either other → (sealed_at after.slots other).views ≡ views' (sealed_at after.slots other).number
    view other is (inl same) = subst (λ x. is_sealed (slot_at after.slots x) ≡ true → (sealed_at after.slots x).views ≡ views' (sealed_at after.slots x).number) same moves.views_here is
    view other is (inr apart) =
        let e = moves.others other apart in
        let was = sym (ap is_sealed e) ∙ is in
        ap (λ s. (sealed_in s).views) e ∙ tied.views other was ∙ sym (moves.views_same other apart was) ∙ sym (ap (λ s. views' (sealed_in s).number) e)

    give : (other : ℕ) → is_live (slot_at after.slots other) ≡ true → Either other → IsGiven given' (number_in (slot_at after.slots other))
    give other live (inl same) = subst (λ x. is_live (slot_at after.slots x) ≡ true → IsGiven given' (number_in (slot_at after.slots x))) same moves.number live
    give other live (inr apart) =
        let e = moves.others other apart in
        let was = tied.given other (sym (ap is_live e) ∙ live) in
        subst (λ s. IsGiven given' (number_in s)) (sym e) (record { first = was.first; last = omega (arith, was.last, moves.more) })

    size : (other : ℕ) → is_live (slot_at after.slots other) ≡ true → Either other → class_of (asked_in (slot_at after.slots other)) after.pool.sizes ≡ Some (class_at after.pool other)
    size other live (inl same) = subst (λ x. is_live (slot_at after.slots x) ≡ true → class_of (asked_in (slot_at after.slots x)) after.pool.sizes ≡ Some (class_at after.pool x)) same moves.size live
    size other live (inr apart) =
        let e = moves.others other apart in
        let was = sym (ap is_live e) ∙ live in
        ap (λ s. class_of (asked_in s) after.pool.sizes) e
        ∙ ap (class_of (asked_in (slot_at b.slots other))) moves.sizes_same
        ∙ tied.sizes other was
        ∙ ap Some (sym (moves.class_same other apart was))

-- numbers differ if blocks do
pub other_number : (slots : List Slot) (d other : ℕ) → HaveOwnNumbers slots → is_sealed (slot_at slots d) ≡ true → is_sealed (slot_at slots other) ≡ true → (d ≡ other → ⊥) →
    (sealed_at slots d).number ≡ (sealed_at slots other).number → ⊥
other_number slots d other own is also apart same =
    apart (own d other (sealed_live (slot_at slots d) is) (sealed_live (slot_at slots other) also)
    (sealed_number (slot_at slots d) is ∙ same ∙ sym (sealed_number (slot_at slots other) also)))

-- a block is sealed anew, with other counts
pub tied_resealed : (b : Buffers) (d : ℕ) (sent : SealedBlock) (rows rows' : List Row) (uses views uses' views' : ℕ → ℕ) (given : ℕ) →
    AreTied b rows uses views given → is_sealed (slot_at b.slots d) ≡ true →
    sent.number ≡ (sealed_at b.slots d).number → sent.asked ≡ (sealed_at b.slots d).asked →
    sent.uses ≡ uses' sent.number → sent.views ≡ views' sent.number →
    ((n : ℕ) → (sent.number ≡ n → ⊥) → uses' n ≡ uses n) → ((n : ℕ) → (sent.number ≡ n → ⊥) → views' n ≡ views n) →
    AllItems (IsNamed (set b.slots d (Sealed sent))) rows' → AreTied (resealed b d sent) rows' uses' views' given
tied_resealed b d sent rows rows' uses views uses' views' given tied is number asked used viewed uses_same views_same items =
    tied_moved b (resealed b d sent) d rows rows' uses views uses' views' given given tied moves items
  where
    live : is_live (slot_at b.slots d) ≡ true
    live = sealed_live (slot_at b.slots d) is

    here : slot_at (set b.slots d (Sealed sent)) d ≡ Sealed sent
    here = here_set b.slots d (Sealed sent) live

    moves : Moves b (resealed b d sent) d uses views uses' views' given given
    moves = record {
      others = others_set b.slots d (Sealed sent) live;
      uses_here = λ _. ap (λ s. (sealed_in s).uses) here ∙ used ∙ sym (ap (λ s. uses' (sealed_in s).number) here);
      views_here = λ _. ap (λ s. (sealed_in s).views) here ∙ viewed ∙ sym (ap (λ s. views' (sealed_in s).number) here);
      number = λ _. subst (IsGiven given) (sealed_number (slot_at b.slots d) is ∙ sym number ∙ sym (ap number_in here)) (tied.given d live);
      size = λ _. ap (λ s. class_of (asked_in s) b.pool.sizes) here ∙ ap (λ n. class_of n b.pool.sizes) (asked ∙ sym (sealed_asked (slot_at b.slots d) is)) ∙ tied.sizes d live;
      numbers = numbers_changed b.slots d (Sealed sent) live (λ _. number ∙ sym (sealed_number (slot_at b.slots d) is)) tied.numbers;
      uses_same = λ other apart also. uses_same (sealed_at b.slots other).number (λ e. other_number b.slots d other tied.numbers is also apart (sym number ∙ e));
      views_same = λ other apart also. views_same (sealed_at b.slots other).number (λ e. other_number b.slots d other tied.numbers is also apart (sym number ∙ e));
      more = omega arith;
      sizes_same = refl;
      class_same = λ other apart also. refl;
      account = tied.account;
    }

-- a live block goes back
pub tied_freed : (b : Buffers) (d : ℕ) (rows rows' : List Row) (uses views uses' views' : ℕ → ℕ) (given : ℕ) →
    AreTied b rows uses views given → is_live (slot_at b.slots d) ≡ true → is_out b.pool d ≡ true →
    ((n : ℕ) → (number_in (slot_at b.slots d) ≡ n → ⊥) → uses' n ≡ uses n) → ((n : ℕ) → (number_in (slot_at b.slots d) ≡ n → ⊥) → views' n ≡ views n) →
    AllItems (IsNamed (set b.slots d (Free (size_at b.pool d)))) rows' → AreTied (freed b d) rows' uses' views' given
tied_freed b d rows rows' uses views uses' views' given tied live out uses_same views_same items =
    tied_moved b (freed b d) d rows rows' uses views uses' views' given given tied moves items
  where
    gone : Slot
    gone = Free (size_at b.pool d)

    here : slot_at (set b.slots d gone) d ≡ gone
    here = here_set b.slots d gone live

    off : (c : Bool) → c ≡ false → c ≡ true → ⊥
    off c x y = cc

    other_than : (other : ℕ) → (d ≡ other → ⊥) → is_sealed (slot_at b.slots other) ≡ true → number_in (slot_at b.slots d) ≡ (sealed_at b.slots other).number → ⊥
    other_than other apart also same =
        apart (tied.numbers d other live (sealed_live (slot_at b.slots other) also) (same ∙ sym (sealed_number (slot_at b.slots other) also)))

    never : is_sealed (slot_at (set b.slots d gone) d) ≡ true → ⊥
    never e = off (is_sealed (slot_at (set b.slots d gone) d)) (ap is_sealed here) e

    not_live : is_live (slot_at (set b.slots d gone) d) ≡ true → ⊥
    not_live e = off (is_live (slot_at (set b.slots d gone) d)) (ap is_live here) e

    moves : Moves b (freed b d) d uses views uses' views' given given
    moves = record {
      others = others_set b.slots d gone live;
      uses_here = λ e. absurd (never e);
      views_here = λ e. absurd (never e);
      number = λ e. absurd (not_live e);
      size = λ e. absurd (not_live e);
      numbers = numbers_changed b.slots d gone live (λ e. absurd (off false refl e)) tied.numbers;
      uses_same = λ other apart also. uses_same (sealed_at b.slots other).number (other_than other apart also);
      views_same = λ other apart also. views_same (sealed_at b.slots other).number (other_than other apart also);
      more = omega arith;
      sizes_same = refl;
      class_same = λ other apart also. class_given_back b.pool d other;
      account = (returned_for b.pool (asked_in (slot_at b.slots d)) d tied.account out (tied.sizes d live)).is;
    }

-- Unsent blocks. --

-- the unsent blocks stay as they are, and there are no more of them
pub record KeepsOpen (slots after : List Slot) : Type 0 where
  pub stays : (d : ℕ) → is_open (slot_at slots d) ≡ true → slot_at after d ≡ slot_at slots d
  pub none_new : (d : ℕ) → is_open (slot_at after d) ≡ true → is_open (slot_at slots d) ≡ true

pub open_still : (slots : List Slot) → KeepsOpen slots slots
open_still slots = record { stays = λ d e. refl; none_new = λ d e. e }

pub open_then : (first next last : List Slot) → KeepsOpen first next → KeepsOpen next last → KeepsOpen first last
open_then first next last a b = record {
  stays = λ d e. b.stays d (ap is_open (a.stays d e) ∙ e) ∙ a.stays d e;
  none_new = λ d e. a.none_new d (b.none_new d e);
}

-- so if one block changed that was not unsent and isn't
pub open_apart : (slots after : List Slot) (d : ℕ) → ((other : ℕ) → (d ≡ other → ⊥) → slot_at after other ≡ slot_at slots other) →
    is_open (slot_at slots d) ≡ false → is_open (slot_at after d) ≡ false → KeepsOpen slots after
open_apart slots after d others was is = record {
  stays = λ other e. others other (λ same. off (is_open (slot_at slots d)) was (ap (λ x. is_open (slot_at slots x)) same ∙ e));
  none_new = λ other e.
      let apart : d ≡ other → ⊥ = λ same. off (is_open (slot_at after d)) is (ap (λ x. is_open (slot_at after x)) same ∙ e) in
      sym (ap is_open (others other apart)) ∙ e;
}
  where
    off : (b : Bool) → b ≡ false → b ≡ true → ⊥
    off b x y = cc

pub open_resealed : (slots : List Slot) (d : ℕ) (sent : SealedBlock) → is_sealed (slot_at slots d) ≡ true → KeepsOpen slots (set slots d (Sealed sent))
open_resealed slots d sent is =
    open_apart slots (set slots d (Sealed sent)) d (others_set slots d (Sealed sent) (sealed_live (slot_at slots d) is)) (sealed_closed (slot_at slots d) is)
    (ap is_open (here_set slots d (Sealed sent) (sealed_live (slot_at slots d) is)))

pub open_freed : (slots : List Slot) (d n : ℕ) → is_sealed (slot_at slots d) ≡ true → KeepsOpen slots (set slots d (Free n))
open_freed slots d n is =
    open_apart slots (set slots d (Free n)) d (others_set slots d (Free n) (sealed_live (slot_at slots d) is)) (sealed_closed (slot_at slots d) is)
    (ap is_open (here_set slots d (Free n) (sealed_live (slot_at slots d) is)))
