-- What the slots stand for: the live subscriptions, in order of number.
use Rattle.std.specs.Prelude.{◌≡◌, ℕ, zero, suc, ◌+◌, ◌==◌, ◌<◌, ◌≤◌, List, [], ◌∷◌, ◌++◌, length, Option, Some, None, is_some, true, slice_index, slice_index_or, if◌then◌else◌}
use Rattle.subscriptions.specs.declared.place.Place.{Place}
use Rattle.subscriptions.specs.declared.words.SubRow.{SubRow}
use Rattle.subscriptions.specs.Subs.{LiveSubscription}

-- the subscription that a slot holds
abbrev pub held_in : ℕ → Place → LiveSubscription
held_in slot p =
    record {
      slot = slot;
      number = p.number;
      id = p.id;
      pipe = p.pipe;
      place = p.place;
      limit = p.limit;
      scope = p.scope;
      waiting = p.waiting;
    }

-- what others are told of it
abbrev pub row_in : Place → SubRow
row_in p =
    record {
      id = p.id;
      pipe = p.pipe;
      place = p.place;
      limit = p.limit;
      scope = p.scope;
      waiting = p.waiting;
    }

-- the subscription of this number, if one of these slots holds it; they are numbered on from the
-- first
abbrev pub numbered : ℕ → ℕ → List (Option Place) → List LiveSubscription
numbered number slot [] = []
numbered number slot (None ∷ slots) = numbered number (slot + 1) slots
numbered number slot (Some p ∷ slots) =
    if p.number == number then held_in slot p ∷ numbered number (slot + 1) slots
    else numbered number (slot + 1) slots

-- the live subscriptions with numbers up to this one, in order of number
abbrev pub live_upto : List (Option Place) → ℕ → List LiveSubscription
live_upto slots zero = []
live_upto slots (suc number) = live_upto slots number ++ numbered (suc number) 0 slots

-- the number of what a slot holds; 0 if it is free
abbrev pub number_in : Option Place → ℕ
number_in None = 0
number_in (Some p) = p.number

abbrev pub number_at : List (Option Place) → ℕ → ℕ
number_at slots slot = number_in (slice_index_or slots slot None)

-- what a slot holds if it has this number
abbrev pub held_at : List (Option Place) → ℕ → ℕ → Option Place
held_at slots slot number =
    if number_at slots slot == number then slice_index_or slots slot None else None

-- what a slot holds, with another count of messages that wait
abbrev pub with_waiting : ℕ → Option Place → Option Place
with_waiting waiting None = None
with_waiting waiting (Some p) = Some (record p { waiting = waiting })

-- what a slot holds, with the count of messages that wait changed if it has this number
abbrev pub recounted : ℕ → (ℕ → ℕ) → Option Place → Option Place
recounted number change None = None
recounted number change (Some p) =
    if p.number == number then with_waiting (change p.waiting) (Some p) else Some p

-- these slots are free, and each is named once
pub record AreFree (slots : List (Option Place)) (free : List ℕ) : Type 0 where
  pub empty : (i : ℕ) → i < length free → (slice_index free i < length slots) ×
      (slice_index_or slots (slice_index free i) None ≡ None)
  pub once : (i j : ℕ) → i < length free → j < length free →
      slice_index free i ≡ slice_index free j → i ≡ j

-- each subscription has a number of its own, none above those given, and each slot holds a live one
-- or is free
pub record AreKept (slots : List (Option Place)) (free : List ℕ) (made : ℕ) : Type 0 where
  pub positive : (slot : ℕ) → is_some (slice_index_or slots slot None) ≡ true →
      0 < number_at slots slot
  pub distinct : (j k : ℕ) → 0 < number_at slots j → number_at slots j ≡ number_at slots k → j ≡ k
  pub unused : AreFree slots free
  pub numbers : (slot : ℕ) → number_at slots slot ≤ made
  pub full : length free + length (live_upto slots made) ≡ length slots

-- the slots, with one more if none of them is free
abbrev pub with_slot : List (Option Place) → List ℕ → List (Option Place)
with_slot slots [] = slots ++ None ∷ []
with_slot slots (slot ∷ free) = slots

-- the free slots, with that one more
abbrev pub with_free : List (Option Place) → List ℕ → List ℕ
with_free slots [] = length slots ∷ []
with_free slots (slot ∷ free) = slot ∷ free
