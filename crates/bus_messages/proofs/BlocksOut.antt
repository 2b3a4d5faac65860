-- Each number that is held has one block that is out, and there are no others.
use Rattle.std.proofs.Common.{◌≡◌, ℕ, zero, suc, ◌+◌, ◌<◌, ◌≤◌, ◌⊎◌, inl, inr, Bool, true, false, ◌&&◌, ◌||◌, cond, eqb, leb, List, [], ◌∷◌, ◌++◌, length, get_or, map, filter, find, count_by, sum_by, Option, Some, None, refl, ap, sym, ◌∙◌, arith}
use Rattle.std.specs.List.{All}
use Rattle.std.specs.Option.{IfSome, option_map, option_map_or, option_to_list}
use Rattle.std.proofs.lemmas.Bool.{cases_lt, eqb-true}
use Rattle.std.proofs.lemmas.Bool.Decides.{nat_tests}
use Rattle.std.proofs.lemmas.List.{get_or_default, get_or_past}
use Rattle.std.proofs.lemmas.List.Elements.{All-head, All-tail}
use Rattle.std.proofs.lemmas.List.Sums.{sum_by-cons, sum_by_push}
use Rattle.fsw_base.specs.Blocks.{class_of}
use Rattle.es_pool.specs.Pool.{is_out, class_at, size_at, out_in, out_among, in_use_by}
use Rattle.es_pool.specs.declared.blocks.CutBlock.{CutBlock}
use Rattle.buf_desc.specs.Slots.{slot_at, sealed_at, is_sealed, is_open, is_live, number_in, asked_in}
use Rattle.buf_desc.specs.Desk.{Buffers}
use Rattle.buf_desc.specs.declared.slot.Slot.{Slot}
use Rattle.bus_words.specs.Bus.{Item, Pipe, Buffer}
use Rattle.bus_routes.specs.declared.tables.ItemRow.{ItemRow}
use Rattle.bus_routes.specs.Rows.{Row}
use Rattle.bus_routes.specs.Uses.{item_use, uses_in, uses_of}
use Rattle.bus_words.specs.Held.{is_on_pipes, is_unsent, is_held, numbers_to, held, items_of, size_in, asked_of, has_class, block_of}
use Rattle.bus_messages.specs.Inside.{item_in, pipes_in, unsent_in, OfItems, AllItems, IsNamed, Backed, AreListed}
use Rattle.bus_messages.proofs.UseCounts.{is_on_pipes-rows}
use Rattle.bus_messages.proofs.Items.{items_weaker, of_items}
use Rattle.bus_messages.proofs.BufferLists.{eqb_off, is_unsent_here, unsent_block, member_open, size_told}
use Rattle.bus_messages.proofs.Ties.{sealed_live, sealed_number, sealed_asked, live_cases, open_live, open_unsealed}

-- An item of a send that is used. --

abbrev of_number : ℕ → Item → Bool
of_number n item = eqb item.number n

pub record IsFound (slots : List Slot) (P : ItemRow → Type 0) (n : ℕ) (items : List Item) : Type 0 where
  pub item : ItemRow
  pub is : find (of_number n) items ≡ Some (item_in slots item)
  pub number : item.number ≡ n
  pub fact : P item

module _ (slots : List Slot) (P : ItemRow → Type 0) (n : ℕ) where
  here : (i : ItemRow) (rest : List Item) → eqb i.number n ≡ true → P i → IsFound slots P n (item_in slots i ∷ rest)
  here i rest e p = record { item = i; is = ap (λ c. cond {A = Option Item} c (Some (item_in slots i)) (find (of_number n) rest)) e; number = eqb-true i.number n e; fact = p }

  past : (i : ItemRow) (rest : List Item) → eqb i.number n ≡ false → IsFound slots P n rest → IsFound slots P n (item_in slots i ∷ rest)
  past i rest e later = record { item = later.item; is = ap (λ c. cond {A = Option Item} c (Some (item_in slots i)) (find (of_number n) rest)) e ∙ later.is; number = later.number; fact = later.fact }

  in_queue : (queue : List ItemRow) (rest : List Item) (k : ℕ) → All P queue → (1 ≤ k → IsFound slots P n rest) → 1 ≤ count_by (λ i. eqb i.number n) queue + k → IsFound slots P n (map (item_in slots) queue ++ rest)
  in_queue [] rest k all later some = later (omega (arith, some))
  in_queue (i ∷ queue) rest k all later some = at (eqb i.number n) refl (in_queue queue rest k (All-tail P i queue all) later)
    where
      split : count_by (λ (j : ItemRow). eqb j.number n) (i ∷ queue) ≡ cond {A = ℕ} (eqb i.number n) 1 0 + count_by (λ (j : ItemRow). eqb j.number n) queue
      split = sum_by-cons (λ (j : ItemRow). cond {A = ℕ} (eqb j.number n) 1 0) i queue

      at : (b : Bool) → eqb i.number n ≡ b → (1 ≤ count_by (λ j. eqb j.number n) queue + k → IsFound slots P n (map (item_in slots) queue ++ rest)) → IsFound slots P n (item_in slots i ∷ (map (item_in slots) queue ++ rest))
      at true e ih = here i (map (item_in slots) queue ++ rest) e (All-head P i queue all)
      at false e ih = past i (map (item_in slots) queue ++ rest) e (ih (let none = ap (λ b. cond {A = ℕ} b 1 0) e in omega (arith, some, split, none)))

  in_last : (o : Option ItemRow) (rest : List Item) (k : ℕ) → IfSome o P → (1 ≤ k → IsFound slots P n rest) → 1 ≤ item_use n o + k → IsFound slots P n (option_to_list (option_map (item_in slots) o) ++ rest)
  in_last None rest k p later some = later (omega (arith, some))
  in_last (Some i) rest k p later some = at (eqb i.number n) refl
    where
      at : (b : Bool) → eqb i.number n ≡ b → IsFound slots P n (item_in slots i ∷ rest)
      at true e = here i rest e p
      at false e = past i rest e (later (let none = ap (λ b. cond {A = ℕ} b 1 0) e in omega (arith, some, none)))

  pub found : (rows : List Row) → AllItems P rows → 1 ≤ uses_of n rows → IsFound slots P n (items_of (pipes_in slots rows))
  found [] all some = absurd (omega (arith, some))
  found (row ∷ rows) all some =
      let one = All-head (OfItems P) row rows all in
      let split = sum_by-cons (uses_in n) row rows in
      in_last row.last (map (item_in slots) row.queue ++ items_of (pipes_in slots rows)) (count_by (λ i. eqb i.number n) row.queue + uses_of n rows) one.last
      (in_queue row.queue (items_of (pipes_in slots rows)) (uses_of n rows) one.queue (found rows (All-tail (OfItems P) row rows all)))
      (omega (arith, some, split))

-- Sums over places. --

sum_below : ℕ → (ℕ → ℕ) → ℕ
sum_below zero f = 0
sum_below (suc n) f = f 0 + sum_below n (λ i. f (suc i))

below-list : (f : CutBlock → ℕ) (xs : List CutBlock) (d : CutBlock) → sum_by f xs ≡ sum_below (length xs) (λ i. f (get_or xs i d))
unfolding sum_below
below-list f [] d = refl
below-list f (x ∷ xs) d = sum_by-cons f x xs ∙ ap (λ n. f x + n) (below-list f xs d)

below-same : (n : ℕ) (f g : ℕ → ℕ) → ((i : ℕ) → i < n → f i ≡ g i) → sum_below n f ≡ sum_below n g
unfolding sum_below
below-same zero f g same = refl
below-same (suc n) f g same = ap (λ k. k + sum_below n (λ i. f (suc i))) (same 0 (omega arith)) ∙ ap (λ k. g 0 + k) (below-same n (λ i. f (suc i)) (λ i. g (suc i)) (λ i h. same (suc i) (omega (arith, h))))

below-sum : (n : ℕ) (f g : ℕ → ℕ) → sum_below n (λ i. f i + g i) ≡ sum_below n f + sum_below n g
unfolding sum_below
below-sum zero f g = refl
below-sum (suc n) f g = omega (arith, below-sum n (λ i. f (suc i)) (λ i. g (suc i)))

below-none : (n : ℕ) (f : ℕ → ℕ) → ((i : ℕ) → i < n → f i ≡ 0) → sum_below n f ≡ 0
unfolding sum_below
below-none zero f none = refl
below-none (suc n) f none = omega (arith, none 0 (omega arith), below-none n (λ i. f (suc i)) (λ i h. none (suc i) (omega (arith, h))))

below-one : (n d : ℕ) (f : ℕ → ℕ) → d < n → ((i : ℕ) → i < n → (d ≡ i → ⊥) → f i ≡ 0) → sum_below n f ≡ f d
unfolding sum_below
below-one zero d f h none = absurd (omega (arith, h))
below-one (suc n) zero f h none = let rest = below-none n (λ i. f (suc i)) (λ i l. none (suc i) (omega (arith, l)) (λ e. absurd (omega (arith, e)))) in omega (arith, rest)
below-one (suc n) (suc d) f h none =
    let first = none 0 (omega arith) (λ e. absurd (omega (arith, e))) in
    let rest = below-one n d (λ i. f (suc i)) (omega (arith, h)) (λ i l apart. none (suc i) (omega (arith, l)) (λ e. apart (omega (arith, e)))) in
    omega (arith, first, rest)

-- Blocks. --

-- if no row's item is of the number, none of the pipes' is
none_of : (slots : List Slot) (n : ℕ) (rows : List Row) → AllItems (λ i. i.number ≡ n → ⊥) rows → find (of_number n) (items_of (pipes_in slots rows)) ≡ None
none_of slots n rows none = find_none (items_of (pipes_in slots rows)) (of_items slots (λ (i : Item). i.number ≡ n → ⊥) rows none)
  where
    find_none : (items : List Item) → All (λ (i : Item). i.number ≡ n → ⊥) items → find (of_number n) items ≡ None
    find_none [] all = refl
    find_none (i ∷ items) all =
        ap (λ c. cond {A = Option Item} c (Some i) (find (of_number n) items)) (eqb_off i.number n (All-head (λ (x : Item). x.number ≡ n → ⊥) i items all))
        ∙ find_none items (All-tail (λ (x : Item). x.number ≡ n → ⊥) i items all)

-- a live block of a number
pub record HasLive (slots : List Slot) (n : ℕ) : Type 0 where
  pub desc : ℕ
  pub live : is_live (slot_at slots desc) ≡ true
  pub has_number : number_in (slot_at slots desc) ≡ n

module _ (b : Buffers) (rows : List Row) (lists : List (List ℕ)) (given : ℕ) (backed : Backed b rows given) (listed : AreListed b.slots lists) where
  abbrev pipes : List Pipe
  pipes = pipes_in b.slots rows

  abbrev unsent : List (List Buffer)
  unsent = unsent_in b.slots lists

  abbrev number : ℕ → ℕ
  number d = number_in (slot_at b.slots d)

  abbrev all : ℕ
  all = length b.pool.blocks

  -- an item of a block's send lies in this block
  pub lies : (d : ℕ) → is_sealed (slot_at b.slots d) ≡ true → (i : ItemRow) → IsNamed b.slots i → i.number ≡ (sealed_at b.slots d).number → i.desc ≡ d
  lies d sealed i named same =
      backed.tied.numbers i.desc d (sealed_live (slot_at b.slots i.desc) named.sealed) (sealed_live (slot_at b.slots d) sealed)
      (sealed_number (slot_at b.slots i.desc) named.sealed ∙ named.number ∙ same ∙ sym (sealed_number (slot_at b.slots d) sealed))

  some_use : (n : ℕ) → 1 ≤ n → leb 1 n ≡ true
  some_use n h = grind (arith, nat_tests)

  used : (n : ℕ) → leb 1 n ≡ true → 1 ≤ n
  used n h = grind (arith, nat_tests)

  -- a send that is named has an item, and so a block
  pub item_found : (n : ℕ) → is_on_pipes pipes n ≡ true → IsFound b.slots (IsNamed b.slots) n (items_of pipes)
  item_found n is = found b.slots (IsNamed b.slots) n rows backed.tied.items (used (uses_of n rows) (sym (is_on_pipes-rows b.slots rows n) ∙ is))

  -- the send of a sealed block is named
  pub block_named : (d : ℕ) → is_sealed (slot_at b.slots d) ≡ true → is_on_pipes pipes (sealed_at b.slots d).number ≡ true
  block_named d sealed =
      is_on_pipes-rows b.slots rows (sealed_at b.slots d).number
      ∙ some_use (uses_of (sealed_at b.slots d).number rows) (omega (arith, backed.used d sealed, backed.tied.uses d sealed))

  -- a number that is held has a block
  pub held_block : (n : ℕ) → is_held pipes unsent n ≡ true → HasLive b.slots n
  held_block n is = at (is_on_pipes pipes n) refl (is_unsent unsent n) refl
    where
      neither : (c e : Bool) → c ≡ false → e ≡ false → (c || e) ≡ true → ⊥
      neither c e x y z = cc

      at : (c : Bool) → is_on_pipes pipes n ≡ c → (e : Bool) → is_unsent unsent n ≡ e → HasLive b.slots n
      at true e _ _ =
          let it = item_found n e in
          record {
            desc = it.item.desc;
            live = sealed_live (slot_at b.slots it.item.desc) it.fact.sealed;
            has_number = sealed_number (slot_at b.slots it.item.desc) it.fact.sealed ∙ it.fact.number ∙ it.number;
          }
      at false e true f =
          let m = unsent_block b.slots lists listed backed.tied.numbers n f in
          record { desc = m.desc; live = open_live (slot_at b.slots m.desc) (member_open b.slots lists listed backed.tied.numbers n m); has_number = m.has_key }
      at false e false f = absurd (neither (is_on_pipes pipes n) (is_unsent unsent n) e f is)

  -- the number of a live block is held
  pub block_held : (d : ℕ) → is_live (slot_at b.slots d) ≡ true → is_held pipes unsent (number d) ≡ true
  block_held d live = at (live_cases (slot_at b.slots d) live)
    where
      either : (c e : Bool) → c ≡ true → (c || e) ≡ true
      either c e x = cc

      other : (c e : Bool) → e ≡ true → (c || e) ≡ true
      other true e x = refl
      other false e x = x

      at : (is_sealed (slot_at b.slots d) ≡ true) ⊎ (is_open (slot_at b.slots d) ≡ true) → is_held pipes unsent (number d) ≡ true
      at (inl sealed) =
          either (is_on_pipes pipes (number d)) (is_unsent unsent (number d)) (ap (is_on_pipes pipes) (sealed_number (slot_at b.slots d) sealed) ∙ block_named d sealed)
      at (inr is) = other (is_on_pipes pipes (number d)) (is_unsent unsent (number d)) (is_unsent_here b.slots lists listed backed.tied.numbers d is)

  -- no item has the number of an unsent block
  pub open_unnamed : (d : ℕ) → is_open (slot_at b.slots d) ≡ true → AllItems (λ i. i.number ≡ number d → ⊥) rows
  open_unnamed d is =
      items_weaker (IsNamed b.slots) (λ i. i.number ≡ number d → ⊥)
      (λ i named same.
      let e = backed.tied.numbers i.desc d (sealed_live (slot_at b.slots i.desc) named.sealed) (open_live (slot_at b.slots d) is) (sealed_number (slot_at b.slots i.desc) named.sealed ∙ named.number ∙ same) in
      wrong (is_sealed (slot_at b.slots d)) (open_unsealed (slot_at b.slots d) is) (ap (λ x. is_sealed (slot_at b.slots x)) (sym e) ∙ named.sealed))
      rows backed.tied.items
    where
      wrong : (c : Bool) → c ≡ false → c ≡ true → ⊥
      wrong c x y = cc

  -- what was asked for under the number of a live block is what the block was asked for
  pub block_asked : (d : ℕ) → is_live (slot_at b.slots d) ≡ true → asked_of pipes unsent (number d) ≡ asked_in (slot_at b.slots d)
  block_asked d live = at (live_cases (slot_at b.slots d) live)
    where
      at : (is_sealed (slot_at b.slots d) ≡ true) ⊎ (is_open (slot_at b.slots d) ≡ true) → asked_of pipes unsent (number d) ≡ asked_in (slot_at b.slots d)
      at (inl sealed) =
          let it = item_found (number d) (ap (is_on_pipes pipes) (sealed_number (slot_at b.slots d) sealed) ∙ block_named d sealed) in
          ap (λ o. option_map_or {U = ℕ} (λ (i : Item). i.asked) o (size_in unsent (number d))) it.is
          ∙ ap (λ e. (sealed_at b.slots e).asked) (lies d sealed it.item it.fact (it.number ∙ sealed_number (slot_at b.slots d) sealed))
          ∙ sym (sealed_asked (slot_at b.slots d) sealed)
      at (inr is) =
          ap (λ o. option_map_or {U = ℕ} (λ (i : Item). i.asked) o (size_in unsent (number d))) (none_of b.slots (number d) rows (open_unnamed d is))
          ∙ size_told b.slots lists listed backed.tied.numbers d is

  -- and its size has the block's class
  pub block_class : (d : ℕ) → is_live (slot_at b.slots d) ≡ true → class_of (asked_of pipes unsent (number d)) b.pool.sizes ≡ Some (class_at b.pool d)
  block_class d live = ap (λ n. class_of n b.pool.sizes) (block_asked d live) ∙ backed.tied.sizes d live

  -- If each block weighs as much as its number is worth, the blocks that are out weigh as much as the numbers that are held are worth.
  module _ (live_out : (d : ℕ) → is_live (slot_at b.slots d) ≡ is_out b.pool d) (weight worth : ℕ → ℕ) (fair : (d : ℕ) → is_live (slot_at b.slots d) ≡ true → weight d ≡ worth (number d)) where
    abbrev counted : ℕ → Bool → ℕ
    counted d x = cond {A = ℕ} (is_out b.pool d && x) (weight d) 0

    off : (c : Bool) → c ≡ false → c ≡ true → ⊥
    off c x y = cc

    -- the number of a block that is out is held
    held_out : (d : ℕ) → is_out b.pool d ≡ true → is_held pipes unsent (number d) ≡ true
    held_out d out = block_held d (live_out d ∙ out)

    at_zero : (d : ℕ) (x : Bool) → (is_out b.pool d ≡ true → x ≡ false) → counted d x ≡ 0
    at_zero d x never = by_test (is_out b.pool d) refl
      where
        by_test : (o : Bool) → is_out b.pool d ≡ o → cond {A = ℕ} (o && x) (weight d) 0 ≡ 0
        by_test false e = refl
        by_test true e = ap (λ c. cond {A = ℕ} c (weight d) 0) (never e)

    at_one : (d : ℕ) (x : Bool) → is_out b.pool d ≡ true → x ≡ true → counted d x ≡ weight d
    at_one d x out is = ap (λ c. cond {A = ℕ} c (weight d) 0) (both (is_out b.pool d) x out is)
      where
        both : (c e : Bool) → c ≡ true → e ≡ true → (c && e) ≡ true
        both c e f g = cc

    -- those of one number
    of_one : ℕ → ℕ
    of_one n = sum_below all (λ d. counted d (eqb (number d) n))

    eqb_same : (n : ℕ) → eqb n n ≡ true
    eqb_same n = grind (arith, nat_tests)

    out_within : (d : ℕ) → is_out b.pool d ≡ true → d < all
    out_within d e = at (cases_lt d all)
      where
        at : (d < all) ⊎ (all ≤ d) → d < all
        at (inl h) = h
        at (inr h) = absurd (off (is_out b.pool d) (ap (λ (x : CutBlock). x.out) (get_or_past b.pool.blocks d (record { class = 0; out = false }) h)) e)

    one_is : (n : ℕ) → of_one n ≡ cond {A = ℕ} (is_held pipes unsent n) (worth n) 0
    unfolding of_one
    one_is n = at (is_held pipes unsent n) refl
      where
        at : (c : Bool) → is_held pipes unsent n ≡ c → sum_below all (λ d. counted d (eqb (number d) n)) ≡ cond {A = ℕ} c (worth n) 0
        at false e = below-none all (λ d. counted d (eqb (number d) n)) (λ d h. at_zero d (eqb (number d) n) (λ out. not_it d out (eqb (number d) n) refl))
          where
            not_it : (d : ℕ) → is_out b.pool d ≡ true → (c : Bool) → eqb (number d) n ≡ c → eqb (number d) n ≡ false
            not_it d out false f = f
            not_it d out true f = absurd (off (is_held pipes unsent n) e (ap (is_held pipes unsent) (sym (eqb-true (number d) n f)) ∙ held_out d out))
        at true e =
            let it = held_block n e in
            let d = it.desc in
            let live = it.live in
            let out : is_out b.pool d ≡ true = sym (live_out d) ∙ live in
            let named : number d ≡ n = it.has_number in
            below-one all d (λ i. counted i (eqb (number i) n)) (out_within d out)
            (λ i h apart. at_zero i (eqb (number i) n) (λ o. not_it i o d apart live named (eqb (number i) n) refl))
            ∙ at_one d (eqb (number d) n) out (ap (λ k. eqb k n) named ∙ eqb_same n)
            ∙ fair d live
            ∙ ap worth named
          where
            not_it : (i : ℕ) → is_out b.pool i ≡ true → (d : ℕ) → (d ≡ i → ⊥) → is_live (slot_at b.slots d) ≡ true → number d ≡ n → (c : Bool) → eqb (number i) n ≡ c → eqb (number i) n ≡ false
            not_it i o d apart live named false f = f
            not_it i o d apart live named true f = absurd (apart (backed.tied.numbers d i live (live_out i ∙ o) (named ∙ sym (eqb-true (number i) n f))))

    -- those of numbers up to one
    up_to : ℕ → ℕ
    up_to m = sum_below all (λ d. counted d (leb (number d) m))

    up_is : (m : ℕ) → up_to m ≡ sum_by worth (held pipes unsent m)
    unfolding up_to of_one
    up_is zero = below-none all (λ d. counted d (leb (number d) 0)) (λ d h. at_zero d (leb (number d) 0) (λ out. above d out))
      where
        low : (n : ℕ) → 1 ≤ n → leb n 0 ≡ false
        low n h = grind (arith, nat_tests)

        above : (d : ℕ) → is_out b.pool d ≡ true → leb (number d) 0 ≡ false
        above d out = low (number d) ((backed.tied.given d (live_out d ∙ out)).first)
    up_is (suc m) =
        below-same all (λ d. counted d (leb (number d) (suc m))) (λ d. counted d (leb (number d) m) + counted d (eqb (number d) (suc m))) (λ d h. split (is_out b.pool d) (number d) (weight d))
        ∙ below-sum all (λ d. counted d (leb (number d) m)) (λ d. counted d (eqb (number d) (suc m)))
        ∙ ap (λ k. k + of_one (suc m)) (up_is m)
        ∙ ap (λ k. sum_by worth (held pipes unsent m) + k) (one_is (suc m))
        ∙ sym (pushed (numbers_to m))
      where
        split : (c : Bool) (n w : ℕ) → cond {A = ℕ} (c && leb n (suc m)) w 0 ≡ cond (c && leb n m) w 0 + cond (c && eqb n (suc m)) w 0
        split true n w = grind (arith, nat_tests)
        split false n w = refl

        pushed : (xs : List ℕ) → sum_by worth (filter (is_held pipes unsent) (xs ++ suc m ∷ [])) ≡ sum_by worth (filter (is_held pipes unsent) xs) + cond {A = ℕ} (is_held pipes unsent (suc m)) (worth (suc m)) 0
        pushed [] = by_test (is_held pipes unsent (suc m))
          where
            by_test : (t : Bool) → sum_by worth (cond {A = List ℕ} t (suc m ∷ []) []) ≡ 0 + cond {A = ℕ} t (worth (suc m)) 0
            by_test true = sum_by_push worth [] (suc m)
            by_test false = refl
        pushed (x ∷ xs) = by_test (is_held pipes unsent x) (pushed xs)
          where
            more : ℕ
            more = cond {A = ℕ} (is_held pipes unsent (suc m)) (worth (suc m)) 0

            by_test : (t : Bool) → sum_by worth (filter (is_held pipes unsent) (xs ++ suc m ∷ [])) ≡ sum_by worth (filter (is_held pipes unsent) xs) + more →
                sum_by worth (cond {A = List ℕ} t (x ∷ filter (is_held pipes unsent) (xs ++ suc m ∷ [])) (filter (is_held pipes unsent) (xs ++ suc m ∷ []))) ≡ sum_by worth (cond {A = List ℕ} t (x ∷ filter (is_held pipes unsent) xs) (filter (is_held pipes unsent) xs)) + more
            by_test false ih = ih
            by_test true ih =
                let one = sum_by-cons worth x (filter (is_held pipes unsent) (xs ++ suc m ∷ [])) in
                let other = sum_by-cons worth x (filter (is_held pipes unsent) xs) in
                omega (arith, one, other, ih)

    abbrev cut : ℕ → CutBlock
    cut d = get_or b.pool.blocks d (record { class = 0; out = true })

    -- all of them: f tells what a block weighs by what the pool keeps of it
    pub weighed : (f : CutBlock → ℕ) → ((x : CutBlock) → x.out ≡ false → f x ≡ 0) → ((d : ℕ) → f (record { class = class_at b.pool d; out = true }) ≡ weight d) →
        sum_by f b.pool.blocks ≡ sum_by worth (held pipes unsent given)
    unfolding up_to
    weighed f none some =
        below-list f b.pool.blocks (record { class = 0; out = true })
        ∙ below-same all (λ d. f (cut d)) (λ d. counted d (leb (number d) given)) (λ d h. by_out d (get_or_default b.pool.blocks d (record { class = 0; out = true }) (record { class = 0; out = false }) h) (is_out b.pool d) refl)
        ∙ up_is given
      where
        low : (m n : ℕ) → m ≤ n → leb m n ≡ true
        low m n h = grind (arith, nat_tests)

        by_out : (d : ℕ) → cut d ≡ get_or b.pool.blocks d (record { class = 0; out = false }) → (o : Bool) → is_out b.pool d ≡ o → f (cut d) ≡ counted d (leb (number d) given)
        by_out d same true e =
            let out : (cut d).out ≡ true = ap (λ (x : CutBlock). x.out) same ∙ e in
            ap (λ o. f (record { class = (cut d).class; out = o })) out
            ∙ some d
            ∙ sym (at_one d (leb (number d) given) e (low (number d) given ((backed.tied.given d (live_out d ∙ e)).last)))
        by_out d same false e =
            none (cut d) (ap (λ (x : CutBlock). x.out) same ∙ e)
            ∙ sym (at_zero d (leb (number d) given) (λ out. absurd (off (is_out b.pool d) e out)))

module _ (b : Buffers) (rows : List Row) (lists : List (List ℕ)) (given : ℕ) (backed : Backed b rows given) (listed : AreListed b.slots lists) (live_out : (d : ℕ) → is_live (slot_at b.slots d) ≡ is_out b.pool d) where
  -- as many blocks of a class are out as numbers of that class are held
  pub out_held : (class : ℕ) → out_in b.pool.blocks class ≡ count_by (has_class (pipes_in b.slots rows) (unsent_in b.slots lists) b.pool.sizes class) (held (pipes_in b.slots rows) (unsent_in b.slots lists) given)
  out_held class =
      weighed b rows lists given backed listed live_out
      (λ d. cond {A = ℕ} (eqb (class_at b.pool d) class) 1 0)
      (λ n. cond {A = ℕ} (has_class (pipes_in b.slots rows) (unsent_in b.slots lists) b.pool.sizes class n) 1 0)
      (λ d live. sym (ap (λ o. cond {A = ℕ} (option_map_or (λ other. eqb other class) o false) 1 0) (block_class b rows lists given backed listed d live)))
      (λ x. cond {A = ℕ} (eqb x.class class && x.out) 1 0) (λ x out. not_out (eqb x.class class) x.out out) (λ d. is_out_too (eqb (class_at b.pool d) class))
    where
      not_out : (c o : Bool) → o ≡ false → cond {A = ℕ} (c && o) 1 0 ≡ 0
      not_out true o e = ap (λ t. cond {A = ℕ} t 1 0) e
      not_out false o e = refl

      is_out_too : (c : Bool) → cond {A = ℕ} (c && true) 1 0 ≡ cond {A = ℕ} c 1 0
      is_out_too true = refl
      is_out_too false = refl

  -- and they have the bytes of the blocks for the numbers that are held
  pub in_use_held : in_use_by b.pool.sizes b.pool.blocks ≡ sum_by (block_of b.pool.sizes (pipes_in b.slots rows) (unsent_in b.slots lists)) (held (pipes_in b.slots rows) (unsent_in b.slots lists) given)
  in_use_held =
      weighed b rows lists given backed listed live_out (size_at b.pool) (block_of b.pool.sizes (pipes_in b.slots rows) (unsent_in b.slots lists))
      (λ d live. sym (ap (λ (o : Option ℕ). option_map_or {U = ℕ} (λ c. get_or b.pool.sizes c 0) o 0) (block_class b rows lists given backed listed d live)))
      (λ x. cond {A = ℕ} x.out (get_or b.pool.sizes x.class 0) 0) (λ x out. ap (λ t. cond {A = ℕ} t (get_or b.pool.sizes x.class 0) 0) out) (λ d. refl)

  -- as many blocks are out as numbers are held
  pub out_all : out_among b.pool.blocks ≡ length (held (pipes_in b.slots rows) (unsent_in b.slots lists) given)
  out_all =
      weighed b rows lists given backed listed live_out (λ d. 1) (λ n. 1) (λ d live. refl)
      (λ x. cond {A = ℕ} x.out 1 0) (λ x out. ap (λ t. cond {A = ℕ} t 1 0) out) (λ d. refl)
      ∙ ones (held (pipes_in b.slots rows) (unsent_in b.slots lists) given)
    where
      ones : (numbers : List ℕ) → sum_by (λ n. 1) numbers ≡ length numbers
      ones [] = refl
      ones (n ∷ numbers) = let one = sum_by-cons (λ (m : ℕ). 1) n numbers in omega (arith, one, ones numbers)
